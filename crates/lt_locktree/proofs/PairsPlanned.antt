-- The plan of a buffer's end, as it is made.
use Rattle.std.proofs.Common.{◌≡◌, ℕ, zero, suc, ◌-◌, ◌^◌, ◌<◌, List, [], ◌∷◌}
use Rattle.std.proofs.Common.{◌++◌, length, take, drop, length-drop, refl, sym, ap, ◌∙◌, subst, arith}
use Rattle.std.specs.Prelude.{All, reverse, slice_index}
use Rattle.std.proofs.lemmas.List.{take_all}
use Rattle.lt_ranges.specs.Interval.{Interval}
use Rattle.lt_seq.specs.declared.event.Pair.{Pair}
use Rattle.lt_forest.specs.declared.part.PartRow.{PartRow}
use Rattle.lt_forest.specs.Parts.{numbers}
use Rattle.lt_rows.specs.declared.image.RowImage.{RowImage}
use Rattle.lt_locktree.specs.declared.buffer_rows.Spare.{Spare}
use Rattle.lt_locktree.specs.declared.buffer_rows.Spare.TheVariants.{Anchor, First}
use Rattle.lt_locktree.specs.EndedBuffers.{spare_rows, rows_with, PlansGiven}
use Rattle.lt_locktree.specs.EndingPlans.{PlansTree}
use Rattle.lt_locktree.specs.EndingRows.{stood_in}
use Rattle.lt_locktree.specs.Given.{Chains, IsChained, given_to}

abbrev pub AllSmall : List ℕ → Type 0
AllSmall rows = All (λ r. r < 2 ^ 32 - 1) rows

pub small_rest : (r : ℕ) (rows : List ℕ) → AllSmall (r ∷ rows) → AllSmall rows
small_rest r rows all k d lt = all (suc k) d (omega arith)

pub stood_small : (rows : List ℕ) (pairs : List Pair) → AllSmall rows → All (λ (r : PartRow). r.row < 2 ^ 32 - 1) (stood_in rows pairs)
stood_small [] pairs all k d lt = absurd (omega (arith, lt))
stood_small (r ∷ rows) [] all k d lt = absurd (omega (arith, lt))
stood_small (r ∷ rows) (p ∷ pairs) all zero d lt = all zero 0 (omega arith)
stood_small (r ∷ rows) (p ∷ pairs) all (suc k) d lt = stood_small rows pairs (small_rest r rows all) k d (omega (arith, lt))

-- those of the chain, and with the pool's first row
pub small_chain : (rows : List ℕ) (pool : RowImage) (spare : Spare) → spare ≡ Anchor pool → AllSmall (spare_rows spare ++ rows)
    → AllSmall rows
small_chain rows pool spare is all = small_rest pool.row rows (subst (λ (s : Spare). AllSmall (spare_rows s ++ rows)) is all)

pub small_more : (rows : List ℕ) (pool first : RowImage) (spare : Spare) → spare ≡ First pool first → AllSmall (spare_rows spare ++ rows)
    → AllSmall (first.row ∷ rows)
small_more rows pool first spare is all = go (subst (λ (s : Spare). AllSmall (spare_rows s ++ rows)) is all)
  where
    go : AllSmall (first.row ∷ pool.row ∷ rows) → AllSmall (first.row ∷ rows)
    go all zero d lt = all zero d (omega arith)
    go all (suc k) d lt = all (suc (suc k)) d (omega (arith, lt))

numbers_with : (range : Interval) (rows : List ℕ) → numbers (rows_with range rows) ≡ rows
numbers_with range [] = refl
numbers_with range (r ∷ rows) = ap (λ (rs : List ℕ). r ∷ rs) (numbers_with range rows)

pub rest_is : (rows : List ℕ) (n : ℕ) → take (length rows - n) (drop n rows) ≡ drop n rows
rest_is rows n = take_all (length rows - n) (drop n rows) (let e = length-drop n rows in omega arith)

-- the rows that are over are chained behind the pool's anchor
pub plans_given : (tree : ℕ) (asked : Interval) (anchor pool : RowImage) (score : ℕ) (olds : List ℕ) (pairs : List Pair)
    (over : List PartRow) (given images plan : List RowImage) (link : ℕ)
    → over ≡ rows_with asked (drop (length pairs) olds) → Chains [] given link (reverse over) (slice_index pool.words 17)
    → images ≡ given_to pool link ∷ given → PlansTree tree asked anchor score images plan (stood_in olds pairs)
    → PlansGiven tree asked anchor pool score olds pairs plan
plans_given tree asked anchor pool score olds pairs over given images plan link over_is chains images_are plans = record {
  over = over;
  given = given;
  link = link;
  over_are = ap numbers over_is ∙ numbers_with asked (drop (length pairs) olds);
  chained = subst (λ (xs : List RowImage). IsChained xs link (reverse over) (slice_index pool.words 17)) (sym chains.images_are)
      chains.chained;
  plans = subst (λ (xs : List RowImage). PlansTree tree asked anchor score xs plan (stood_in olds pairs)) images_are plans;
}
