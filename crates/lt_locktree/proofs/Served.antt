-- The deeds that change nothing, as functions ask for them.
use Rattle.std.proofs.Common.{◌≡◌, ℕ, ◌+◌, ◌<◌, List, [], ◌∷◌, map, length, refl, sym, ap, ◌∙◌, subst, arith}
use Rattle.std.specs.Prelude.{pos}
use Rattle.lt_ranges.specs.Interval.{Interval, IsInterval}
use Rattle.lt_seq.specs.declared.event.Deed.TheVariants.{Ask, Who}
use Rattle.lt_seq.specs.declared.event.Reply.TheVariants.{HeldBy}
use Rattle.lt_rows.specs.declared.row_plan.RowPlan.{RowPlan}
use Rattle.lt_seq.specs.Pairs.{others}
use Rattle.lt_forest.specs.declared.part.PartRow.{PartRow}
use Rattle.lt_forest.specs.Parts.{row_pair}
use Rattle.lt_rows.specs.declared.pass.RowPass.{RowPass}
use Rattle.lt_rows.specs.Handles.{knows}
use Rattle.lt_rows.specs.Lawful.{IsCommit}
use Rattle.lt_tree.specs.Gathers.{IsLockedWith, IsClosed}
use Rattle.lt_locktree.specs.declared.asking.Asking.{Asking}
use Rattle.lt_locktree.specs.Makes.{IsOf}
use Rattle.lt_locktree.proofs.DeedLaws.{who_commits, held_ask_commits}

module _ (pass : RowPass) (k : RowPlan) (tree : ℕ) (asked : Interval) (here : ℕ) (rows : List PartRow) (hangs more : List ℕ)
    (l : IsLockedWith (knows pass) tree asked here rows hangs more) (closed : IsClosed asked rows hangs)
    (plan_is : (knows pass).plan ≡ k) (lt : tree < k.trees) (a : Asking) (of : IsOf pass tree asked a) (interval : IsInterval a.range)
    (marked : (knows pass).mark ≡ pass.number + 1) where
  lt_here : tree < (knows pass).plan.trees
  lt_here = subst (λ (p : RowPlan). tree < p.trees) (sym plan_is) lt

  mark_is : a.pass + 1 ≡ (knows pass).mark
  mark_is = ap (λ (n : ℕ). n + 1) of.0 ∙ sym marked

  asked_is : IsInterval asked
  asked_is = subst IsInterval of.2 interval

  pub who_served : (named : ℕ) (owners : List ℕ) → owners ≡ others named a.range (map row_pair rows)
      → IsCommit (knows pass).plan (knows pass) record { pass = a.pass; txn = a.txn; deed = Who a.tree a.range named owners } [] (pos 0)
  who_served named owners are =
      who_commits (knows pass) tree asked here rows hangs more record { pass = a.pass; txn = a.txn; deed = Who a.tree a.range named owners } named l
      closed lt_here asked_is mark_is
      (λ j. Who (of.1 j) (of.2 j) named ((are ∙ ap (λ (i : Interval). others named i (map row_pair rows)) of.2) j))

  pub held_served : (o : ℕ) (os owners : List ℕ) → owners ≡ others a.txn a.range (map row_pair rows) → owners ≡ o ∷ os
      → IsCommit (knows pass).plan (knows pass) record { pass = a.pass; txn = a.txn; deed = Ask a.tree a.range (HeldBy owners) } [] (pos 0)
  held_served o os owners are is =
      held_ask_commits (knows pass) tree asked here rows hangs more record { pass = a.pass; txn = a.txn; deed = Ask a.tree a.range (HeldBy owners) } o os l
      closed lt_here asked_is mark_is
      (sym (are ∙ ap (λ (i : Interval). others a.txn i (map row_pair rows)) of.2) ∙ is)
      (λ j. Ask (of.1 j) (of.2 j) (HeldBy (is j)))

  pub held_by_some : (owners : List ℕ) → owners ≡ others a.txn a.range (map row_pair rows) → 0 < length owners
      → IsCommit (knows pass).plan (knows pass) record { pass = a.pass; txn = a.txn; deed = Ask a.tree a.range (HeldBy owners) } [] (pos 0)
  held_by_some [] are some = absurd (omega (arith, some))
  held_by_some (o ∷ os) are some = held_served o os (o ∷ os) are refl
