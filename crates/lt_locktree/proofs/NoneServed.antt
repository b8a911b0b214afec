-- A free by which no row goes, as a function asks for it.
use Rattle.std.proofs.Common.{◌≡◌, ℕ, ◌+◌, ◌<◌, inl, false, List, [], sym, ap, ◌∙◌, subst, refl}
use Rattle.std.specs.Prelude.{pos}
use Rattle.lt_ranges.specs.Interval.{Interval, IsInterval}
use Rattle.lt_seq.specs.declared.event.Deed.TheVariants.{Free}
use Rattle.lt_rows.specs.declared.row_plan.RowPlan.{RowPlan}
use Rattle.lt_forest.specs.declared.part.PartRow.{PartRow}
use Rattle.lt_rows.specs.declared.pass.RowPass.{RowPass}
use Rattle.lt_rows.specs.Handles.{knows}
use Rattle.lt_rows.specs.Lawful.{IsCommit}
use Rattle.lt_tree.specs.Gathers.{IsLockedWith, IsClosed}
use Rattle.lt_locktree.specs.declared.asking.Asking.{Asking}
use Rattle.lt_locktree.specs.LawsOfFrees.{freed_rows}
use Rattle.lt_locktree.specs.Makes.{IsOf}
use Rattle.lt_locktree.proofs.FreedParts.{none_freed_commits}

pub none_served : (pass : RowPass) (k : RowPlan) (tree : ℕ) (asked : Interval) (here : ℕ) (rows : List PartRow) (hangs more : List ℕ)
    → IsLockedWith (knows pass) tree asked here rows hangs more → IsClosed asked rows hangs
    → (knows pass).plan ≡ k → tree < k.trees → (a : Asking) → IsOf pass tree asked a → IsInterval a.range
    → (knows pass).mark ≡ pass.number + 1 → freed_rows a.txn a.range rows ≡ []
    → IsCommit (knows pass).plan (knows pass) record { pass = a.pass; txn = a.txn; deed = Free a.tree a.range false 0 } [] (pos 0)
none_served pass k tree asked here rows hangs more l closed plan_is lt a of interval marked none =
    none_freed_commits (knows pass) tree asked here rows hangs more false record { pass = a.pass; txn = a.txn; deed = Free a.tree a.range false 0 } l closed
    (subst (λ (p : RowPlan). tree < p.trees) (sym plan_is) lt) (subst IsInterval of.2 interval) (inl refl)
    (subst (λ (i : Interval). freed_rows a.txn i rows ≡ []) of.2 none) (ap (λ (n : ℕ). n + 1) of.0 ∙ sym marked)
    (λ j. Free (of.1 j) (of.2 j) false 0)
