-- A join by which no row goes: nothing changes.
use Rattle.std.proofs.Common.{◌≡◌, ℕ, suc, ◌+◌, ◌<◌, ◌≤◌, Bool, true, false, List, [], ◌∷◌, length, map, replicate, refl, sym, ap, ◌∙◌, subst, arith}
use Rattle.std.specs.Prelude.{pos, if◌then◌else◌}
use Rattle.std.proofs.lemmas.List.{length-map}
use Rattle.lt_ranges.specs.declared.key.Key.{Key}
use Rattle.lt_ranges.specs.Interval.{Interval, whole}
use Rattle.lt_seq.specs.declared.event.Pair.{Pair}
use Rattle.lt_seq.specs.declared.event.Deed.TheVariants.{Join}
use Rattle.lt_rows.specs.declared.row_plan.RowPlan.{RowPlan}
use Rattle.lt_seq.specs.Pairs.{are_joined, with_front, joined}
use Rattle.lt_forest.specs.declared.part.PartRow.{PartRow}
use Rattle.lt_forest.specs.Parts.{row_pair}
use Rattle.lt_forest.specs.Views.{no_pool}
use Rattle.lt_rows.specs.declared.pass.RowPass.{RowPass}
use Rattle.lt_rows.specs.declared.view.View.{View}
use Rattle.lt_rows.specs.Handles.{knows}
use Rattle.lt_rows.specs.Lawful.{IsCommit}
use Rattle.lt_tree.specs.Gathers.{Place, below_top, on_left, on_right, IsLockedWith, IsClosed}
use Rattle.lt_tree.proofs.ReleaseLaws.{anchor_top}
use Rattle.lt_locktree.specs.declared.asking.Asking.{Asking}
use Rattle.lt_locktree.specs.declared.rejoining.Rejoined.{Rejoined}
use Rattle.lt_locktree.specs.LawsOfJoins.{NoneJoinedCommits}
use Rattle.lt_locktree.specs.Makes.{IsOf}
use Rattle.lt_locktree.specs.Rejoined.{IsRejoined}
use Rattle.lt_locktree.specs.RelaidRows.{RowStays}
use Rattle.lt_locktree.proofs.GrantedRuns.{length-numbers}
use Rattle.lt_locktree.proofs.JoinedParts.{join_commits}

-- as many pairs as before are the same

front_short : (marks : List Key) (p : Pair) (qs : List Pair) → length (with_front marks p qs) ≤ suc (length qs)
front_short marks p [] = omega arith
front_short marks p (q ∷ qs) = by (are_joined marks p q)
  where
    by : (b : Bool) → length (if b then record { owner = p.owner; range = record { left = p.range.left; right = q.range.right } } ∷ qs else p ∷ q ∷ qs)
        ≤ suc (suc (length qs))
    by true = omega arith
    by false = omega arith

front_same : (marks : List Key) (p : Pair) (qs : List Pair)
    → length (with_front marks p qs) ≡ suc (length qs) → with_front marks p qs ≡ p ∷ qs
front_same marks p [] e = refl
front_same marks p (q ∷ qs) e = by (are_joined marks p q) e
  where
    by : (b : Bool)
        → length (if b then record { owner = p.owner; range = record { left = p.range.left; right = q.range.right } } ∷ qs else p ∷ q ∷ qs)
        ≡ suc (suc (length qs))
        → (if b then record { owner = p.owner; range = record { left = p.range.left; right = q.range.right } } ∷ qs else p ∷ q ∷ qs) ≡ p ∷ q ∷ qs
    by true e = absurd (omega (arith, e))
    by false e = refl

pub joined_short : (marks : List Key) (ps : List Pair) → length (joined marks ps) ≤ length ps
joined_short marks [] = omega arith
joined_short marks (p ∷ ps) = let f = front_short marks p (joined marks ps) in let s = joined_short marks ps in omega arith

joined_same : (marks : List Key) (ps : List Pair) → length (joined marks ps) ≡ length ps → joined marks ps ≡ ps
joined_same marks [] e = refl
joined_same marks (p ∷ ps) e =
    let f = front_short marks p (joined marks ps) in
    let s = joined_short marks ps in
    let long : length (joined marks ps) ≡ length ps = omega (arith, e) in
    front_same marks p (joined marks ps) (omega (arith, e)) ∙ ap (λ (qs : List Pair). p ∷ qs) (joined_same marks ps long)

-- where no row goes, there are as many
pub none_joined : (marks : List Key) (rows : List PartRow) (after : Rejoined) → IsRejoined marks rows after → length after.gone.items ≡ 0
    → joined marks (map row_pair rows) ≡ map row_pair rows
none_joined marks rows after is none =
    let all = is.parted.all in
    let gone = length-numbers after.gone.items in
    let kept : length (joined marks (map row_pair rows)) ≡ length after.rows.items =
    ap (λ (ps : List Pair). length ps) (sym is.pairs) ∙ length-map after.rows.items row_pair in
    let before : length (map row_pair rows) ≡ length rows = length-map rows row_pair in
    joined_same marks (map row_pair rows) (omega arith)

same_place : (v : View) (here : ℕ) (p : Place) → RowStays v [] here p
same_place v here below_top = tt
same_place v here on_left = (refl, refl)
same_place v here on_right = (refl, refl)

pub none_joined_commits : NoneJoinedCommits
none_joined_commits v tree here rows more e l closed lt at none pass is =
    join_commits v tree here rows rows more [] [] e (pos 0) l closed lt at (sym none)
    (record { new = l.sub; shows = l.shows; rows_are = l.rows_are; hangs_are = l.hangs_are; beside = same_place v here l.place })
    refl
    (record { each = λ q. omega arith; all = omega arith })
    (no_pool refl refl refl) (λ q z. refl) pass is refl

-- as a function asks for it
pub none_joined_served : (pass : RowPass) (k : RowPlan) (tree : ℕ) (asked : Interval) (here : ℕ) (rows : List PartRow) (hangs more : List ℕ)
    → IsLockedWith (knows pass) tree asked here rows hangs more → IsClosed asked rows hangs
    → (knows pass).plan ≡ k → tree < k.trees → (a : Asking) → IsOf pass tree asked a → (knows pass).mark ≡ pass.number + 1
    → here ≡ tree → asked ≡ whole → hangs ≡ replicate (length rows + 1) 0
    → joined (knows pass).plan.marks (map row_pair rows) ≡ map row_pair rows
    → IsCommit (knows pass).plan (knows pass)
    record { pass = a.pass; txn = a.txn; deed = Join a.tree (length rows) (length rows) } [] (pos 0)
none_joined_served pass k tree asked here rows hangs more l closed plan_is lt a of marked top all bare none =
    let zeros : List ℕ = replicate (length rows + 1) 0 in
    let lt_here : tree < (knows pass).plan.trees = subst (λ (p : RowPlan). tree < p.trees) (sym plan_is) lt in
    let l_here : IsLockedWith (knows pass) tree whole here rows zeros more =
    subst (λ (x : Interval × List ℕ). IsLockedWith (knows pass) tree x.0 here rows x.1 more) (λ j. (all j, bare j)) l in
    none_joined_commits (knows pass) tree here rows more record { pass = a.pass; txn = a.txn; deed = Join a.tree (length rows) (length rows) } l_here
    (subst (λ (x : Interval × List ℕ). IsClosed x.0 rows x.1) (λ j. (all j, bare j)) closed) lt_here
    (anchor_top (knows pass) tree whole here rows zeros l_here lt_here top).0
    none (ap (λ (n : ℕ). n + 1) of.0 ∙ sym marked) (ap (λ (n : ℕ). Join n (length rows) (length rows)) of.1)
