-- The plan of a buffer's end lays its pairs out.
use Rattle.std.proofs.Common.{◌≡◌, ℕ, ◌<◌, ◌≤◌, List, [], ◌∷◌, ◌++◌, length, drop, sym, subst, arith}
use Rattle.std.specs.Prelude.{reverse}
use Rattle.std.proofs.lemmas.List.{drop_all}
use Rattle.lt_ranges.specs.Interval.{Interval}
use Rattle.lt_seq.specs.declared.event.Pair.{Pair}
use Rattle.lt_forest.specs.Parts.{numbers}
use Rattle.lt_rows.specs.declared.image.RowImage.{RowImage}
use Rattle.lt_rows.specs.declared.view.View.{View}
use Rattle.lt_rows.specs.Teaching.{Teaches}
use Rattle.lt_tree.specs.Puttings.{Keeps, Backs}
use Rattle.lt_chain.specs.Chains.{ShowsChain}
use Rattle.lt_locktree.specs.declared.buffer_rows.Spare.{Spare}
use Rattle.lt_locktree.specs.declared.buffer_rows.Spare.TheVariants.{Nothing, Anchor, First}
use Rattle.lt_locktree.specs.declared.buffer_rows.EndRows.{EndRows}
use Rattle.lt_locktree.specs.EndedBuffers.{spare_rows, HasRoom, IsSpare, HoldsEnds, PlansEnd, LaysPairs}
use Rattle.lt_locktree.specs.EndingRows.{stood_in}
use Rattle.lt_locktree.specs.PlannedParts.{IsLoaded}
use Rattle.lt_locktree.proofs.EndedPlans.{kept_plan_lays_out, given_plan_lays_out, taken_plan_lays_out}
use Rattle.lt_locktree.proofs.EndedRows.{all_pairs_stand, first_rows_take_over, vacant_row_takes_over}

module _ (v : View) (tree score : ℕ) (asked : Interval) (olds : List ℕ) (pairs : List Pair) (plan : List RowImage)
    (lt : tree < v.plan.trees) (shows : ShowsChain v tree olds) (teaches : Teaches v) (anchor : RowImage)
    (loaded : IsLoaded v tree anchor) where
  by_spare : (spare : Spare) → Backs v (spare_rows spare ++ tree ∷ olds) → HasRoom (length olds) (length pairs) spare → IsSpare v spare
      → PlansEnd tree asked score olds pairs anchor spare plan → LaysPairs v plan tree score olds pairs
  by_spare Nothing backs room is plans =
      let le : length pairs ≤ length olds = omega (arith, room) in
      let none : drop (length pairs) olds ≡ [] = drop_all (length pairs) olds (omega (arith, room)) in
      let over = first_rows_take_over olds pairs [] le (sym none) in
      record {
        rows = stood_in olds pairs;
        taken = [];
        given = [];
        pairs_are = all_pairs_stand olds pairs le;
        over = over;
        lays = kept_plan_lays_out v tree asked anchor score olds (stood_in olds pairs) plan
            (record { backs = backs; shows = shows }) teaches lt loaded over plans;
      }
  by_spare (Anchor pool) backs room is plans =
      let over = first_rows_take_over olds pairs plans.over room plans.over_are in
      record {
        rows = stood_in olds pairs;
        taken = [];
        given = numbers (reverse plans.over);
        pairs_are = all_pairs_stand olds pairs room;
        over = over;
        lays = given_plan_lays_out v tree asked anchor pool score olds (stood_in olds pairs) (reverse plans.over) plans.given plans.link
            plan
            (subst (λ (n : ℕ). Keeps v (n ∷ tree ∷ olds)) is.row backs.keeps) loaded is plans.chained over plans.plans;
      }
  by_spare (First pool row) backs room is plans =
      let le : length pairs ≤ length (row.row ∷ olds) = omega (arith, room) in
      let over = vacant_row_takes_over olds row.row pairs room in
      record {
        rows = stood_in (row.row ∷ olds) pairs;
        taken = row.row ∷ [];
        given = [];
        pairs_are = all_pairs_stand (row.row ∷ olds) pairs le;
        over = over;
        lays = taken_plan_lays_out v tree asked anchor pool row score olds (stood_in (row.row ∷ olds) pairs) plan
            (subst (λ (n : ℕ). Keeps v (row.row ∷ n ∷ tree ∷ olds)) is.0.row backs.keeps) is.2 loaded is.0 is.1 over plans;
      }

pub lays_pairs : (v : View) (tree score : ℕ) (asked : Interval) (olds : List ℕ) (pairs : List Pair) (plan : List RowImage) (i : EndRows)
    → tree < v.plan.trees → HoldsEnds v tree olds (length pairs) i → PlansEnd tree asked score olds pairs i.anchor i.spare plan
    → LaysPairs v plan tree score olds pairs
lays_pairs v tree score asked olds pairs plan i lt h plans =
    by_spare v tree score asked olds pairs plan lt h.shows h.teaches i.anchor h.anchor i.spare h.backs h.room h.spare plans
