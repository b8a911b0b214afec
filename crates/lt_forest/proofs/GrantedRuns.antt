-- A run that is all that overlaps, and one transaction's, becomes what an ask of it grants.
use Rattle.std.proofs.Common.{◌≡◌, inl, inr, ℕ, List, [], ◌∷◌, ◌++◌, map, Bool, true, false, not, ◌&&◌, ◌==◌, if◌then◌else◌, refl, sym, ap, ◌∙◌, subst}
use Rattle.std.specs.Prelude.{None, Some}
use Rattle.std.specs.List.{filter}
use Rattle.lt_ranges.specs.declared.key.Key.{Key}
use Rattle.lt_ranges.specs.Key.{key_le}
use Rattle.lt_ranges.specs.Numbers.{ascending}
use Rattle.lt_ranges.specs.Interval.{Interval, IsInterval, before, overlap}
use Rattle.lt_seq.specs.declared.event.Pair.{Pair}
use Rattle.lt_seq.specs.Pairs.{IsLawful, is_own, is_others, others, span, granted}
use Rattle.lt_forest.specs.declared.part.PartRow.{PartRow}
use Rattle.lt_forest.specs.Bounds.{Bound, IsAbove, IsBelow}
use Rattle.lt_forest.specs.Pairs.{Has}
use Rattle.lt_forest.specs.Parts.{row_pair}
use Rattle.lt_forest.specs.Items.{first_end, last_end}
use Rattle.lt_forest.proofs.BoundLaws.{le_lt, lt_le}
use Rattle.lt_forest.proofs.PairLists.{map_app, lawful_left, lawful_right}
use Rattle.lt_forest.proofs.MiddleSteps.{middle_decides, granted-own}
use Rattle.lt_forest.proofs.MergedRuns.{first_least, last_greatest}

some_last : (rows : List PartRow) (r : PartRow) (x : Bound) → (k : Key) × (last_end (r ∷ rows) x ≡ Some k)
some_last [] r x = (r.range.right, refl)
some_last (q ∷ rows) r x = some_last rows q (Some r.range.right)

-- all rows that stand ahead end before the range, and all behind begin behind it
all_ahead : (rows : List PartRow) (range : Interval) → IsLawful (map row_pair rows) → IsAbove (last_end rows None) range.left
    → (p : Pair) → Has p (map row_pair rows) → before p.range range ≡ true
all_ahead [] range lawful above p h = absurd h
all_ahead (r ∷ rows) range lawful above p h =
    let k = some_last rows r None in
    let at : not (key_le range.left k.0) ≡ true = subst (λ (x : Bound). IsAbove x range.left) k.1 above in
    le_lt p.range.right k.0 range.left (last_greatest (r ∷ rows) None k.0 lawful k.1 p h) at

all_behind : (rows : List PartRow) (range : Interval) → IsLawful (map row_pair rows) → IsBelow (first_end rows None) range.right
    → (p : Pair) → Has p (map row_pair rows) → before range p.range ≡ true
all_behind [] range lawful below p h = absurd h
all_behind (r ∷ rows) range lawful below p h =
    lt_le range.right r.range.left p.range.left below (first_least r rows lawful p h)

none_other : (txn : ℕ) (range : Interval) (x : Pair) (rest : List Pair) → is_own txn range x ≡ true → rest ≡ []
    → (if is_others txn range x then x ∷ rest else rest) ≡ []
none_other txn range x rest own none = by (x.owner == txn) own
  where
    by : (b : Bool) → b && overlap x.range range ≡ true → (if not b && overlap x.range range then x ∷ rest else rest) ≡ []
    by true e = none
    by false e = absurd (cc)

no_others : (txn : ℕ) (range : Interval) (ys : List Pair) → ((p : Pair) → Has p ys → is_own txn range p ≡ true)
    → filter (is_others txn range) ys ≡ []
no_others txn range [] own = refl
no_others txn range (y ∷ ys) own =
    none_other txn range y (filter (is_others txn range) ys) (own y (inl refl)) (no_others txn range ys (λ p h. own p (inr h)))

pub merged_granted : (txn : ℕ) (range : Interval) (ahead run behind : List PartRow) (one : PartRow)
    → IsInterval range → IsLawful (map row_pair (ahead ++ (run ++ behind))) → IsAbove (last_end ahead None) range.left
    → IsBelow (first_end behind None) range.right → ((p : Pair) → Has p (map row_pair run) → is_own txn range p ≡ true)
    → one.owner ≡ txn → one.range ≡ span txn range (map row_pair run)
    → (others txn range (map row_pair (ahead ++ (run ++ behind))) ≡ [])
    × (granted txn range (map row_pair (ahead ++ (run ++ behind))) ≡ map row_pair (ahead ++ one ∷ behind))
merged_granted txn range ahead run behind one interval lawful above below own owner is =
    let three : map row_pair (ahead ++ (run ++ behind)) ≡ map row_pair ahead ++ (map row_pair run ++ map row_pair behind) =
    map_app row_pair ahead (run ++ behind) ∙ ap (λ (l : List Pair). map row_pair ahead ++ l) (map_app row_pair run behind) in
    let all : IsLawful (map row_pair ahead ++ (map row_pair run ++ map row_pair behind)) = subst IsLawful three lawful in
    let low = all_ahead ahead range (lawful_left (map row_pair ahead) (map row_pair run ++ map row_pair behind) all) above in
    let high = all_behind behind range
    (lawful_right (map row_pair run) (map row_pair behind) (lawful_right (map row_pair ahead) (map row_pair run ++ map row_pair behind) all)) below in
    let m = middle_decides txn range (map row_pair ahead) (map row_pair run) (map row_pair behind) all interval low high in
    let merged : record { owner = txn; range = span txn range (map row_pair run) } ≡ row_pair one =
    (λ j. record { owner = sym owner j; range = sym is j }) in (
      ap (others txn range) three
          ∙ (m.same_others ∙ ap (λ (l : List Pair). ascending (map (λ p. p.owner) l)) (no_others txn range (map row_pair run) own)),
      ap (granted txn range) three
          ∙ (m.new_granted
          ∙ (ap (λ (l : List Pair). map row_pair ahead ++ (l ++ map row_pair behind)) (granted-own txn range (map row_pair run) own)
          ∙ (ap (λ (p : Pair). map row_pair ahead ++ p ∷ map row_pair behind) merged
          ∙ sym (map_app row_pair ahead (one ∷ behind))))),
    )
