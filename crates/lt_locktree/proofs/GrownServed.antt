-- The ask of which one row grows, as a function asks for it.
use Rattle.std.proofs.Common.{◌≡◌, ℕ, zero, suc, ◌+◌, ◌-◌, ◌^◌, ◌<◌, ◌≤◌, true, List, [], ◌∷◌, ◌++◌, length, length-append, get_or, take, drop, refl, sym, ap, ◌∙◌, subst, arith, eq-eqb}
use Rattle.std.specs.Prelude.{pos, All, nat_eq, Option, Some, None}
use Rattle.std.proofs.lemmas.List.Elements.{All-from_get_or}
use Rattle.lt_ranges.specs.Interval.{Interval, IsInterval}
use Rattle.lt_seq.specs.declared.event.Deed.TheVariants.{Ask}
use Rattle.lt_seq.specs.declared.event.Reply.TheVariants.{Granted}
use Rattle.lt_rows.specs.declared.row_plan.RowPlan.{RowPlan}
use Rattle.lt_seq.specs.Pairs.{is_own}
use Rattle.lt_forest.specs.declared.part.PartRow.{PartRow}
use Rattle.lt_forest.specs.Counts.{one_if, times}
use Rattle.lt_forest.specs.Trees.{in_order}
use Rattle.lt_forest.specs.Cuts.{Cut, end, held, bare}
use Rattle.lt_forest.specs.Parts.{row_pair, numbers, hangs_of}
use Rattle.lt_forest.specs.Views.{IsIn}
use Rattle.lt_forest.proofs.SameRows.{times-++}
use Rattle.lt_rows.specs.declared.image.RowImage.{RowImage}
use Rattle.lt_rows.specs.declared.pass.RowPass.{RowPass}
use Rattle.lt_rows.specs.declared.view.Row.{Row}
use Rattle.lt_rows.specs.Handles.{knows}
use Rattle.lt_rows.specs.Lawful.{shown, IsCommit}
use Rattle.lt_rows.specs.Views.{has, AllHeld, planned_rows}
use Rattle.lt_rows.specs.Views.{rows_of as all_rows}
use Rattle.lt_rows.proofs.Planned.{held_row}
use Rattle.lt_rows.proofs.WoodCommits.{small_rows}
use Rattle.lt_tree.specs.Gathers.{Place, below_top, on_left, on_right, around, IsLockedWith, IsClosed}
use Rattle.lt_locktree.specs.declared.asking.Asking.{Asking}
use Rattle.lt_locktree.specs.LawsOfGrants.{StandsBetween, merged_row}
use Rattle.lt_locktree.specs.Makes.{IsOf}
use Rattle.lt_locktree.specs.PlannedParts.{IsAt, PlansRows, IsLoaded}
use Rattle.lt_locktree.proofs.HeldParts.{row_further}
use Rattle.lt_locktree.proofs.GrantedRuns.{numbers_are}
use Rattle.lt_locktree.proofs.LaidParts.{plan_times, seen_loaded}
use Rattle.lt_locktree.proofs.PlanLaws.{all_once, numbers_same, grown_plan_commits}

hangs_long : (cut : Cut) → length (hangs_of cut) ≡ length (in_order (bare cut)) + 1
hangs_long (end h) = refl
hangs_long (held a r b) =
    let x = hangs_long a in
    let y = hangs_long b in
    let s = length-append (hangs_of a) (hangs_of b) in
    let t = length-append (in_order (bare a)) (r ∷ in_order (bare b)) in
    omega arith

long_numbers : (rows : List PartRow) → length (numbers rows) ≡ length rows
long_numbers [] = refl
long_numbers (r ∷ rows) = ap suc (long_numbers rows)

pub is_there : (rows : List PartRow) (i : ℕ) (d : PartRow) → i < length rows → 0 < times (get_or rows i d).row (numbers rows)
is_there [] i d lt = absurd (omega (arith, lt))
is_there (r ∷ rows) zero d lt = let o : one_if (nat_eq r.row r.row) ≡ 1 = ap one_if (eq-eqb r.row r.row refl) in omega arith
is_there (r ∷ rows) (suc i) d lt = let h = is_there rows i d (omega (arith, lt)) in omega arith

pub all_held : (xs : List (Option Row)) (plan : List RowImage)
    → ((q : ℕ) → 0 < times q (planned_rows plan) → (row : Row) × (get_or xs q None ≡ Some row)) → AllHeld xs plan
all_held xs [] f = tt
all_held xs (p ∷ plan) f = (
  f p.row (let o : one_if (nat_eq p.row p.row) ≡ 1 = ap one_if (eq-eqb p.row p.row refl) in omega arith),
  all_held xs plan (λ q some. f q (omega arith)),
)

module _ (pass : RowPass) (k : RowPlan) (tree : ℕ) (asked : Interval) (here : ℕ) (rows : List PartRow) (hangs more : List ℕ)
    (l : IsLockedWith (knows pass) tree asked here rows hangs more) (closed : IsClosed asked rows hangs)
    (plan_is : (knows pass).plan ≡ k) (lt : tree < k.trees) where
  lt_here : tree < (knows pass).plan.trees
  lt_here = subst (λ (p : RowPlan). tree < p.trees) (sym plan_is) lt

  pub hangs_between : length hangs ≡ length rows + 1
  hangs_between =
      let a = hangs_long l.sub in
      let b = ap length (numbers_are (knows pass) tree asked here rows hangs more l closed lt_here) ∙ long_numbers rows in
      let d = ap length l.hangs_are in
      omega arith

  in_whole : (p : Place) (q : ℕ) → 0 < times q (in_order (bare l.sub)) → 0 < times q (in_order (bare (around p here (shown (knows pass) [] here) l.sub)))
  in_whole below_top q some = some
  in_whole on_left q some = let s = times-++ q (in_order (bare l.sub)) (here ∷ []) in omega arith
  in_whole on_right q some = omega arith

  pub row_small : (q : ℕ) → 0 < times q (numbers rows) → q < 2 ^ 32 - 1
  row_small q some =
      let f = row_further (knows pass) tree asked here rows hangs more l lt_here q
      (in_whole l.place q (subst (λ (ns : List ℕ). 0 < times q ns) (sym (numbers_are (knows pass) tree asked here rows hangs more l closed lt_here)) some)) in
      let p = l.teaches.2.shape.plan in
      let s = small_rows (knows pass).plan (all_rows (knows pass).plan) refl p.trees_most p.limit_most p.passes_most in
      omega arith

  pub rows_small : All (λ (r : PartRow). r.row < 2 ^ 32 - 1) rows
  rows_small =
      let d : PartRow = record { row = 0; owner = 0; range = asked } in
      All-from_get_or (λ (r : PartRow). r.row < 2 ^ 32 - 1) rows d (λ i less. row_small (get_or rows i d).row (is_there rows i d less))

  module _ (a : Asking) (of : IsOf pass tree asked a) (interval : IsInterval a.range) (marked : (knows pass).mark ≡ pass.number + 1)
      (stays : RowImage) (loaded : IsLoaded (knows pass) here stays) (at : ℕ) (r : PartRow) (is : IsAt rows at r)
      (own : is_own a.txn a.range (row_pair r) ≡ true) (between : StandsBetween a.range (take at rows) (drop (at + 1) rows))
      (plan : List RowImage)
      (plans : PlansRows a.tree a.range stays [] plan (take at rows ++ merged_row a.txn a.range r [] ∷ drop (at + 1) rows) hangs) where
    asked_is : IsInterval asked
    asked_is = subst IsInterval of.2 interval

    plans_here : PlansRows tree asked stays [] plan (take at rows ++ merged_row a.txn asked r [] ∷ drop (at + 1) rows) hangs
    plans_here =
        subst (λ (x : ℕ × Interval). PlansRows x.0 x.1 stays [] plan (take at rows ++ merged_row a.txn x.1 r [] ∷ drop (at + 1) rows) hangs)
        (λ j. (of.1 j, of.2 j)) plans

    pub grown_served : IsCommit (knows pass).plan (knows pass) record { pass = a.pass; txn = a.txn; deed = Ask a.tree a.range Granted } plan (pos 0)
    grown_served =
        grown_plan_commits (knows pass) tree asked here (take at rows) r (drop (at + 1) rows) hangs more stays plan
        record { pass = a.pass; txn = a.txn; deed = Ask a.tree a.range Granted }
        (subst (λ (rs : List PartRow). IsLockedWith (knows pass) tree asked here rs hangs more) is l)
        (subst (λ (rs : List PartRow). IsClosed asked rs hangs) is closed) lt_here asked_is
        (subst (λ (i : Interval). StandsBetween i (take at rows) (drop (at + 1) rows)) of.2 between)
        (subst (λ (i : Interval). is_own a.txn i (row_pair r) ≡ true) of.2 own) loaded plans_here
        (ap (λ (n : ℕ). n + 1) of.0 ∙ sym marked) (λ j. Ask (of.1 j) (of.2 j) Granted)

    pub grown_held : AllHeld (knows pass).held plan
    grown_held = all_held (knows pass).held plan (λ q some. held_row (knows pass) q (is_held q some))
      where
        same : numbers (take at rows ++ merged_row a.txn asked r [] ∷ drop (at + 1) rows) ≡ numbers rows
        same = numbers_same (take at rows) (merged_row a.txn asked r []) r (drop (at + 1) rows) refl ∙ ap numbers (sym is)

        once : (q : ℕ) → times q [] + times q (numbers (take at rows ++ merged_row a.txn asked r [] ∷ drop (at + 1) rows)) + times q (here ∷ []) ≤ 1
        once q = let x = all_once (knows pass) tree asked here rows hangs more l closed lt_here q in let s = ap (times q) same in omega arith

        is_held : (q : ℕ) → 0 < times q (planned_rows plan) → IsIn (has (knows pass)) q
        is_held q some =
            let t = plan_times (knows pass) tree asked here rows hangs more l lt_here asked_is stays
            (seen_loaded (knows pass) tree asked here rows hangs more l lt_here asked_is stays loaded) [] plan
            (take at rows ++ merged_row a.txn asked r [] ∷ drop (at + 1) rows) hangs plans_here once q in
            let s = ap (times q) same in
            let n = ap (times q) (numbers_are (knows pass) tree asked here rows hangs more l closed lt_here) in
            l.held_rows q (omega arith)

  -- both that a search's end asks of the plan
  pub grown_all : (a : Asking) → IsOf pass tree asked a → IsInterval a.range → (knows pass).mark ≡ pass.number + 1
      → (stays : RowImage) → IsLoaded (knows pass) here stays → (at : ℕ)
      → ((r : PartRow) → IsAt rows at r → is_own a.txn a.range (row_pair r) ≡ true)
      → StandsBetween a.range (take at rows) (drop (at + 1) rows) → (plan : List RowImage)
      → (r : PartRow) × IsAt rows at r
      × PlansRows a.tree a.range stays [] plan (take at rows ++ merged_row a.txn a.range r [] ∷ drop (at + 1) rows) hangs
      → AllHeld (knows pass).held plan
      × IsCommit (knows pass).plan (knows pass) record { pass = a.pass; txn = a.txn; deed = Ask a.tree a.range Granted } plan (pos 0)
  grown_all a of interval marked stays loaded at own between plan (r, is, plans) = (
    grown_held a of interval marked stays loaded at r is (own r is) between plan plans,
    grown_served a of interval marked stays loaded at r is (own r is) between plan plans,
  )
