-- The rows of a part that overlap a range stand side by side, as their pairs do.
use Rattle.std.proofs.Common.{if◌then◌else◌, ◌==◌, ◌&&◌, not, true≢false, ◌≡◌, ◌<◌, get_or, ℕ, zero, suc, ◌≤◌, Bool, true, false, List, [], ◌∷◌, map, length, take, drop, sym, ap, ◌∙◌, subst, arith}
use Rattle.std.specs.Prelude.{Some, None}
use Rattle.std.specs.List.{AllWithin, filter}
use Rattle.std.specs.List.Sorted.{IsPartitionedBy, IsPartitionPoint}
use Rattle.std.proofs.Math.ListN.{get_or-map}
use Rattle.std.proofs.lemmas.List.{length-map}
use Rattle.lt_ranges.specs.Key.{key_le}
use Rattle.lt_ranges.specs.Interval.{Interval, IsInterval, before, overlap}
use Rattle.lt_seq.specs.declared.event.Pair.{Pair}
use Rattle.lt_seq.specs.Pairs.{IsLawful, is_own, is_others, others}
use Rattle.lt_seq.specs.Window.{IsWindow}
use Rattle.lt_seq.proofs.SpanLaws.{none_left}
use Rattle.lt_seq.proofs.WindowLaws.{partitioned_before, partitioned_begins, window_found}
use Rattle.lt_forest.specs.declared.part.PartRow.{PartRow}
use Rattle.lt_forest.specs.Bounds.{Bound, IsAbove, IsBelow}
use Rattle.lt_forest.specs.Items.{first_end, last_end}
use Rattle.lt_forest.specs.Parts.{row_pair}
use Rattle.lt_locktree.specs.Splits.{IsSplit}

-- what holds of rows by their pairs
of_pairs : (p : Pair → Bool) (rows : List PartRow) → IsPartitionedBy p (map row_pair rows) → IsPartitionedBy (λ r. p (row_pair r)) rows
of_pairs p rows parted i j d le lt e =
    ap p (sym (get_or-map row_pair rows i d))
    ∙ parted i j (row_pair d) le (let n = length-map rows row_pair in omega arith) (ap p (get_or-map row_pair rows j d) ∙ e)

within_pairs : (P : Pair → Type 0) (rows : List PartRow) (low high : ℕ) → AllWithin (λ r. P (row_pair r)) rows low high
    → AllWithin P (map row_pair rows) low high
within_pairs P rows low high h k d from till =
    let r : PartRow = record { row = 0; owner = d.owner; range = d.range } in
    subst P (sym (get_or-map row_pair rows k r)) (h k r from till)

within_rows : (P : Pair → Type 0) (rows : List PartRow) (low high : ℕ) → AllWithin P (map row_pair rows) low high
    → AllWithin (λ r. P (row_pair r)) rows low high
within_rows P rows low high h k r from till = subst P (get_or-map row_pair rows k r) (h k (row_pair r) from till)

point_of_pairs : (p : Pair → Bool) (rows : List PartRow) (i : ℕ)
    → IsPartitionPoint (λ r. p (row_pair r) ≡ true) (λ r. p (row_pair r) ≡ false) rows i
    → IsPartitionPoint (λ q. p q ≡ true) (λ q. p q ≡ false) (map row_pair rows) i
point_of_pairs p rows i (low, high) = (
  within_pairs (λ q. p q ≡ true) rows 0 i low,
  subst (λ (n : ℕ). AllWithin (λ q. p q ≡ false) (map row_pair rows) i n) (sym (length-map rows row_pair))
      (within_pairs (λ q. p q ≡ false) rows i (length rows) high),
)

-- what the two searches ask of the rows
pub rows_before : (range : Interval) (rows : List PartRow) → IsLawful (map row_pair rows) → IsPartitionedBy (λ r. before r.range range) rows
rows_before range rows lawful = of_pairs (λ p. before p.range range) rows (partitioned_before range (map row_pair rows) lawful)

pub rows_begin : (range : Interval) (rows : List PartRow) → IsLawful (map row_pair rows)
    → IsPartitionedBy (λ r. key_le r.range.left range.right) rows
rows_begin range rows lawful = of_pairs (λ p. key_le p.range.left range.right) rows (partitioned_begins range (map row_pair rows) lawful)

-- the bounds of the others
last_above : (range : Interval) (rows : List PartRow) (start : ℕ) (x : Bound) → IsAbove x range.left
    → AllWithin (λ r. before r.range range ≡ true) rows 0 start → start ≤ length rows → IsAbove (last_end (take start rows) x) range.left
last_above range [] zero x above h le = above
last_above range [] (suc n) x above h le = above
last_above range (r ∷ rows) zero x above h le = above
last_above range (r ∷ rows) (suc n) x above h le =
    last_above range rows n (Some r.range.right) (h 0 r (omega arith) (omega arith))
    (λ k d from till. h (suc k) d (omega arith) (omega (arith, till)))
    (omega (arith, le))

first_below : (range : Interval) (rows : List PartRow) (end : ℕ)
    → AllWithin (λ r. before range r.range ≡ true) rows end (length rows) → IsBelow (first_end (drop end rows) None) range.right
first_below range [] zero h = tt
first_below range [] (suc n) h = tt
first_below range (r ∷ rows) zero h = h 0 r (omega arith) (omega arith)
first_below range (r ∷ rows) (suc n) h =
    first_below range rows n (λ k d from till. h (suc k) d (omega (arith, from)) (omega (arith, till)))

split_of_window : (range : Interval) (rows : List PartRow) (start end : ℕ) → IsWindow range (map row_pair rows) start end
    → IsSplit range rows start end
split_of_window range rows start end window =
    let n = length-map rows row_pair in
    let within : end ≤ length rows = let w = window.within in omega arith in
    record {
      ordered = window.ordered;
      within = within;
      between = (
        last_above range rows start None tt (within_rows (λ p. before p.range range ≡ true) rows 0 start window.front)
            (let o = window.ordered in omega arith),
        first_below range rows end
            (subst (λ (m : ℕ). AllWithin (λ r. before range r.range ≡ true) rows end m) n
            (within_rows (λ p. before range p.range ≡ true) rows end (length (map row_pair rows)) window.behind)),
      );
      met = within_rows (λ p. overlap p.range range ≡ true) rows start end window.inside;
    }

pub split_found : (range : Interval) (rows : List PartRow) (start end : ℕ) → IsInterval range → IsLawful (map row_pair rows)
    → start ≤ length rows → end ≤ length rows
    → IsPartitionPoint (λ r. before r.range range ≡ true) (λ r. before r.range range ≡ false) rows start
    → IsPartitionPoint (λ r. key_le r.range.left range.right ≡ true) (λ r. key_le r.range.left range.right ≡ false) rows end
    → IsSplit range rows start end
split_found range rows start end o lawful h k first second =
    let n = length-map rows row_pair in
    split_of_window range rows start end
    (window_found range (map row_pair rows) start end o lawful (omega arith) (omega arith)
    (point_of_pairs (λ p. before p.range range) rows start first)
    (point_of_pairs (λ p. key_le p.range.left range.right) rows end second))

-- Where no other's range overlaps, each that overlaps is the transaction's.
module _ (txn : ℕ) (range : Interval) where
  none_behind : (p : Pair) (ps : List Pair) → filter (is_others txn range) (p ∷ ps) ≡ [] → filter (is_others txn range) ps ≡ []
  none_behind p ps none = by (is_others txn range p) none
    where
      by : (b : Bool) → (if b then p ∷ filter (is_others txn range) ps else filter (is_others txn range) ps) ≡ []
          → filter (is_others txn range) ps ≡ []
      by true e = absurd (let n = ap length e in omega arith)
      by false e = e

  own_at : (ps : List Pair) (i : ℕ) (d : Pair) → filter (is_others txn range) ps ≡ [] → i < length ps
      → overlap (get_or ps i d).range range ≡ true → is_own txn range (get_or ps i d) ≡ true
  own_at [] i d none lt meets = absurd (omega (arith, lt))
  own_at (p ∷ ps) zero d none lt meets = by (p.owner == txn) (overlap p.range range) none meets
    where
      by : (b o : Bool) → (if not b && o then p ∷ filter (is_others txn range) ps else filter (is_others txn range) ps) ≡ []
          → o ≡ true → (b && o) ≡ true
      by true o e m = m
      by false true e m = absurd (let n = ap length e in omega arith)
      by false false e m = absurd (true≢false (sym m))
  own_at (p ∷ ps) (suc i) d none lt meets = own_at ps i d (none_behind p ps none) (omega (arith, lt)) meets

  pub split_owns : (rows : List PartRow) (start end : ℕ) → IsSplit range rows start end → others txn range (map row_pair rows) ≡ []
      → AllWithin (λ r. is_own txn range (row_pair r) ≡ true) rows start end
  split_owns rows start end split none k d from till =
      let n = length-map rows row_pair in
      subst (λ (p : Pair). is_own txn range p ≡ true) (get_or-map row_pair rows k d)
      (own_at (map row_pair rows) k (row_pair d)
      (none_left (filter (is_others txn range) (map row_pair rows)) none) (let w = split.within in omega arith)
      (subst (λ (p : Pair). overlap p.range range ≡ true) (sym (get_or-map row_pair rows k d)) (split.met k d from till)))
