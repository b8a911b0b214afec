-- The owners of a part's rows are those of their pairs.
use Rattle.std.proofs.Common.{◌≡◌, ◌==◌, ◌&&◌, not, ℕ, Bool, true, false, List, [], ◌∷◌, map, cond, refl, ap}
use Rattle.std.specs.List.{filter}
use Rattle.lt_ranges.specs.Interval.{Interval, overlap}
use Rattle.lt_seq.specs.declared.event.Pair.{Pair}
use Rattle.lt_seq.specs.Pairs.{is_others}
use Rattle.lt_forest.specs.declared.part.PartRow.{PartRow}
use Rattle.lt_forest.specs.Parts.{row_pair}

abbrev pub names_other : ℕ → Interval → PartRow → Bool
names_other txn range r = not (r.owner == txn) && overlap r.range range

pub owners_named : (txn : ℕ) (range : Interval) (rows : List PartRow)
    → map (λ r. r.owner) (filter (names_other txn range) rows) ≡ map (λ p. p.owner) (filter (is_others txn range) (map row_pair rows))
owners_named txn range [] = refl
owners_named txn range (r ∷ rows) = by (owners_named txn range rows) (names_other txn range r)
  where
    by : map (λ (r : PartRow). r.owner) (filter (names_other txn range) rows) ≡ map (λ (p : Pair). p.owner) (filter (is_others txn range) (map row_pair rows))
        → (b : Bool) → map (λ r. r.owner) (cond b (r ∷ filter (names_other txn range) rows) (filter (names_other txn range) rows))
        ≡ map (λ p. p.owner) (cond b (row_pair r ∷ filter (is_others txn range) (map row_pair rows)) (filter (is_others txn range) (map row_pair rows)))
    by e true = ap (λ (xs : List ℕ). r.owner ∷ xs) e
    by e false = e
