-- The transaction's rows from one place to another, of which one becomes.
use Rattle.std.proofs.Common.{◌≡◌, ℕ, suc, ◌+◌, ◌-◌, ◌^◌, ◌<◌, ◌≤◌, Bool, true, cond, inl, inr, List, [], ◌∷◌, ◌++◌, length, fold, map, get_or, take, drop, drop-cons, refl, sym, ap, ◌∙◌, subst, arith}
use Rattle.std.specs.Prelude.{All, reverse, slice_index}
use Rattle.std.specs.List.{AllWithin, filter}
use Rattle.std.proofs.lemmas.List.{take-append-drop, drop-drop, get_or-drop, get_or-take, length-drop, length-take-le, take_all}
use Rattle.std.proofs.lemmas.List.Elements.{All-append, All-take, All-drop, All-cons, All-head, All-tail}
use Rattle.lt_ranges.specs.Interval.{Interval, hull}
use Rattle.lt_seq.specs.declared.event.Pair.{Pair}
use Rattle.lt_seq.specs.Pairs.{is_own, span}
use Rattle.lt_forest.specs.declared.part.Part.{Part}
use Rattle.lt_forest.specs.declared.part.PartRow.{PartRow}
use Rattle.lt_rows.specs.declared.image.RowImage.{RowImage}
use Rattle.lt_forest.specs.Pairs.{Has}
use Rattle.lt_forest.specs.Parts.{row_pair}
use Rattle.lt_locktree.specs.declared.asking.Asking.{Asking}
use Rattle.lt_locktree.specs.LawsOfGrants.{merged_row}
use Rattle.lt_locktree.specs.Mergings.{run_of, IsRunAt, merged_rows, IsMerged, PlansMerged}
use Rattle.lt_locktree.specs.Given.{Chains, given_to}
use Rattle.lt_locktree.specs.PlannedParts.{PlansRows}
use Rattle.lt_locktree.proofs.RowsInPlace.{is_at}

-- the rows behind the one at the start, with those from the end on
run_tail : (rows : List PartRow) (start end : ℕ) → start < end → run_of rows start end ++ drop end rows ≡ drop (start + 1) rows
run_tail rows start end some =
    let n : ℕ = end - (start + 1) in
    let sum : start + 1 + n ≡ end = omega (arith, some) in
    ap (λ (l : List PartRow). run_of rows start end ++ l) (sym (drop-drop n (start + 1) rows ∙ ap (λ (m : ℕ). drop m rows) sum))
    ∙ take-append-drop n (drop (start + 1) rows)

pub run_at : (rows : List PartRow) (start end : ℕ) (r : PartRow) → start < end → end ≤ length rows → r ≡ get_or rows start r
    → IsRunAt rows start end r
run_at rows start end r some within is =
    is_at rows start r (omega (arith, some, within)) is
    ∙ sym (ap (λ (l : List PartRow). take start rows ++ r ∷ l) (run_tail rows start end some))

-- the rows from the start to the end are the first of them and the run
pub from_start : (rows : List PartRow) (start end : ℕ) (r : PartRow) → start < end → end ≤ length rows → r ≡ get_or rows start r
    → take (end - start) (drop start rows) ≡ r ∷ run_of rows start end
from_start rows start end r some within is =
    let one : suc start ≡ start + 1 = omega arith in
    let more : end - start ≡ suc (end - (start + 1)) = omega (arith, some) in
    let first : drop start rows ≡ r ∷ drop (start + 1) rows =
    drop-cons rows start r (omega (arith, some, within)) ∙ (λ j. sym is j ∷ drop (one j) rows) in
    (λ j. take (more j) (first j))

pub run_long : (rows : List PartRow) (start end : ℕ) → start < end → end ≤ length rows
    → length (run_of rows start end) ≡ end - (start + 1)
run_long rows start end some within =
    let long = length-drop (start + 1) rows in
    length-take-le (end - (start + 1)) (drop (start + 1) rows) (omega (arith, some, within, long))

-- what is behind the end, as a slice has it
pub behind_all : {A : Type 0} (xs : List A) (end : ℕ) → take (length xs - end) (drop end xs) ≡ drop end xs
behind_all xs end = take_all (length xs - end) (drop end xs) (let long = length-drop end xs in omega (arith, long))

module _ (txn : ℕ) (range : Interval) where
  pub all_own : (rows : List PartRow) (start end : ℕ) (r : PartRow) → start < end → end ≤ length rows → r ≡ get_or rows start r
      → AllWithin (λ r. is_own txn range (row_pair r) ≡ true) rows start end
      → All (λ (r : PartRow). is_own txn range (row_pair r) ≡ true) (r ∷ run_of rows start end)
  all_own rows start end r some within is own i d less =
      let long = run_long rows start end some within in
      let short : i < end - start = omega (arith, less, some, long) in
      subst (λ (x : PartRow). is_own txn range (row_pair x) ≡ true)
      (sym (get_or-take (end - start) (drop start rows) i d short ∙ get_or-drop start rows i d)
      ∙ ap (λ (l : List PartRow). get_or l i d) (from_start rows start end r some within is))
      (own (start + i) d (omega arith) (omega (arith, short)))

  pub has_own : (rs : List PartRow) → All (λ (r : PartRow). is_own txn range (row_pair r) ≡ true) rs
      → (p : Pair) → Has p (map row_pair rs) → is_own txn range p ≡ true
  has_own [] own p h = absurd h
  has_own (r ∷ rs) own p (inl e) = ap (is_own txn range) e ∙ own 0 r (omega arith)
  has_own (r ∷ rs) own p (inr h) = has_own rs (λ k d less. own (suc k) d (omega (arith, less))) p h

  spans : (i : Interval) (rs : List PartRow) → All (λ (r : PartRow). is_own txn range (row_pair r) ≡ true) rs
      → fold (λ (i : Interval) (r : PartRow). hull i r.range) i rs
      ≡ fold (λ (i : Interval) (p : Pair). hull i p.range) i (filter (is_own txn range) (map row_pair rs))
  spans i [] own = refl
  spans i (r ∷ rs) own =
      let others : List Pair = filter (is_own txn range) (map row_pair rs) in
      spans (hull i r.range) rs (λ k d less. own (suc k) d (omega (arith, less)))
      ∙ sym (ap (λ (b : Bool). fold (λ (i : Interval) (p : Pair). hull i p.range) i (cond b (row_pair r ∷ others) others)) (own 0 r (omega arith)))

  -- the least range that covers the range and those of own rows is their span
  pub span_of_own : (rs : List PartRow) → All (λ (r : PartRow). is_own txn range (row_pair r) ≡ true) rs
      → fold (λ (i : Interval) (r : PartRow). hull i r.range) range rs ≡ span txn range (map row_pair rs)
  span_of_own rs own = spans range rs own

middle_all : (P : PartRow → Type 0) (xs : List PartRow) (r : PartRow) (ys : List PartRow) → All P (xs ++ r ∷ ys) → P r
middle_all P [] r ys all = All-head P r ys all
middle_all P (x ∷ xs) r ys all = middle_all P xs r ys (All-tail P x (xs ++ r ∷ ys) all)

-- the numbers of the rows stay small
pub merged_small : (a : Asking) (rows : List PartRow) (start end : ℕ) (r : PartRow) → IsRunAt rows start end r
    → All (λ (x : PartRow). x.row < 2 ^ 32 - 1) rows → All (λ (x : PartRow). x.row < 2 ^ 32 - 1) (merged_rows a rows start end r)
merged_small a rows start end r is small =
    let one : PartRow = merged_row a.txn a.range r (run_of rows start end) in
    All-append (λ (x : PartRow). x.row < 2 ^ 32 - 1) (take start rows) (one ∷ drop end rows)
    (All-take (λ (x : PartRow). x.row < 2 ^ 32 - 1) start rows small)
    (All-cons (λ (x : PartRow). x.row < 2 ^ 32 - 1) one (drop end rows)
    (middle_all (λ (x : PartRow). x.row < 2 ^ 32 - 1) (take start rows) r (run_of rows start end ++ drop end rows)
    (subst (All (λ (x : PartRow). x.row < 2 ^ 32 - 1)) is small))
    (All-drop (λ (x : PartRow). x.row < 2 ^ 32 - 1) end rows small))

pub plans_merged : (a : Asking) (part new : Part) (start end : ℕ) (stays pool : RowImage) (images plan : List RowImage) (link : ℕ)
    → IsMerged a part start end new → Chains [] images link (reverse (run_of part.rows.items start end)) (slice_index pool.words 17)
    → PlansRows a.tree a.range stays (images ++ given_to pool link ∷ []) plan new.rows.items new.hangs.items
    → PlansMerged a stays pool part start end plan
plans_merged a part new start end stays pool images plan link merged chains plans =
    record {
      r = merged.0;
      run_at = merged.1;
      link = link;
      given = chains.added;
      chained = chains.chained;
      plans = subst (λ (x : List RowImage × (List PartRow × List ℕ)).
          PlansRows a.tree a.range stays (x.0 ++ given_to pool link ∷ []) plan x.1.0 x.1.1)
          (λ j. (chains.images_are j, (merged.2 j, merged.3 j))) plans;
    }

get_middle : (xs : List PartRow) (r : PartRow) (ys : List PartRow) → get_or (xs ++ r ∷ ys) (length xs) r ≡ r
get_middle [] r ys = refl
get_middle (x ∷ xs) r ys = get_middle xs r ys

-- the row that stands at a place is the one that is read there
pub read_at : (rows : List PartRow) (at : ℕ) (r : PartRow) (ys : List PartRow) → at ≤ length rows → rows ≡ take at rows ++ r ∷ ys
    → r ≡ get_or rows at r
read_at rows at r ys within is =
    let long : length (take at rows) ≡ at = length-take-le at rows within in
    sym (ap (λ (l : List PartRow). get_or l at r) is
    ∙ (ap (λ (n : ℕ). get_or (take at rows ++ r ∷ ys) n r) (sym long) ∙ get_middle (take at rows) r ys))

pub stands_at : (rows : List PartRow) (start end : ℕ) (r : PartRow) → start < end → end ≤ length rows → IsRunAt rows start end r
    → r ≡ get_or rows start r
stands_at rows start end r some within is =
    read_at rows start r (run_of rows start end ++ drop end rows) (omega (arith, some, within)) is
