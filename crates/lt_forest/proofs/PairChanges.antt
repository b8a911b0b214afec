-- A grant, a free, a join and no change as local changes of a lawful list.
use Rattle.std.proofs.Common.{◌≡◌, inl, inr, ℕ, List, [], ◌∷◌, map, length, Bool, true, false, not, refl, sym, ap, subst, arith}
use Rattle.std.specs.List.{filter, fold}
use Rattle.lt_ranges.specs.declared.key.Key.{Key}
use Rattle.lt_ranges.specs.Interval.{Interval, IsInterval, overlap, hull}
use Rattle.lt_ranges.specs.Numbers.{ascending}
use Rattle.lt_seq.specs.declared.event.Pair.{Pair}
use Rattle.lt_seq.specs.Pairs.{IsLawful, is_own, is_others, others, freed, count_freed, span, granted, joined}
use Rattle.lt_seq.proofs.PairsLaws.{lawful-filter}
use Rattle.lt_seq.proofs.SpanLaws.{lawful-granted}
use Rattle.lt_seq.proofs.LawfulLaws.{lawful-joined}
use Rattle.lt_forest.specs.Bounds.{Bound, IsInside}
use Rattle.lt_forest.specs.Pairs.{Has}
use Rattle.lt_forest.proofs.Changes.{Change, IsLocal}
use Rattle.lt_forest.proofs.BoundLaws.{hull_inside}
use Rattle.lt_forest.proofs.PairLists.{has_filter, filter_has, has_with, with_has}

abbrev pub NoPair : Pair → Type 0
NoPair p = ⊥

abbrev pub drops_none : Pair → Bool
drops_none p = false

abbrev pub drops_all : Pair → Bool
drops_all p = true

-- the pair that a grant makes
abbrev pub merged : ℕ → Interval → List Pair → Pair
merged txn range pairs = record { owner = txn; range = span txn range pairs }

not_true : (b : Bool) → not b ≡ true → b ≡ false
not_true true h = cc
not_true false h = refl

true_not : (b : Bool) → b ≡ false → not b ≡ true
true_not true h = cc
true_not false h = refl

pub own_over : (txn : ℕ) (range : Interval) (p : Pair) → is_own txn range p ≡ true → overlap p.range range ≡ true
own_over txn range p e = grind arith

pub others_over : (txn : ℕ) (range : Interval) (p : Pair) → is_others txn range p ≡ true → overlap p.range range ≡ true
others_over txn range p e = grind arith

has_freed : (txn : ℕ) (range : Interval) (xs : List Pair) (p : Pair) → Has p (freed txn range xs)
    → Has p xs × (is_own txn range p ≡ false)
has_freed txn range xs p h =
    let r = has_filter (λ p. not (is_own txn range p)) p xs h in (r.0, not_true (is_own txn range p) r.1)

freed_has : (txn : ℕ) (range : Interval) (xs : List Pair) (p : Pair) → Has p xs × (is_own txn range p ≡ false)
    → Has p (freed txn range xs)
freed_has txn range xs p h = filter_has (λ p. not (is_own txn range p)) p xs (true_not (is_own txn range p) h.1) h.0

-- the changes

pub grant_change : (txn : ℕ) (range : Interval) (xs : List Pair) → IsInterval range → IsLawful xs → others txn range xs ≡ []
    → Change (λ p. p ≡ merged txn range xs) (is_own txn range) xs (granted txn range xs)
grant_change txn range xs o lawful none = record {
  lawful = lawful-granted txn range xs o lawful none;
  has = λ p h. elim (has_with p (merged txn range xs) (freed txn range xs) h) [
    | inl e ↦ inl e
    | inr k ↦ inr (has_freed txn range xs p k)
  ];
  gets = λ p h. with_has p (merged txn range xs) (freed txn range xs) (elim h [
    | inl e ↦ inl e
    | inr k ↦ inr (freed_has txn range xs p k)
  ]);
}

pub free_change : (txn : ℕ) (range : Interval) (xs : List Pair) → IsLawful xs
    → Change NoPair (is_own txn range) xs (freed txn range xs)
free_change txn range xs lawful = record {
  lawful = lawful-filter (λ p. not (is_own txn range p)) xs lawful;
  has = λ p h. inr (has_freed txn range xs p h);
  gets = λ p h. elim h [ inl k ↦ absurd k | inr k ↦ freed_has txn range xs p k ];
}

pub no_change : (xs : List Pair) → IsLawful xs → Change NoPair drops_none xs xs
no_change xs lawful = record {
  lawful = lawful;
  has = λ p h. inr (h, refl);
  gets = λ p h. elim h [ inl k ↦ absurd k | inr k ↦ k.0 ];
}

pub join_change : (marks : List Key) (xs zs : List Pair) → IsLawful zs → zs ≡ xs
    → Change (λ p. Has p (joined marks xs)) drops_all zs (joined marks zs)
join_change marks xs zs lawful is = record {
  lawful = lawful-joined marks zs lawful;
  has = λ p h. inl (subst (λ (l : List Pair). Has p (joined marks l)) is h);
  gets = λ p h. elim h [
    | inl k ↦ subst (λ (l : List Pair). Has p (joined marks l)) (sym is) k
    | inr k ↦ absurd (differs k.1)
  ];
}
  where
    differs : true ≡ false → ⊥
    differs e = cc

-- and what is local about them

fold_inside : (x y : Bound) (range : Interval) (ms : List Pair) → IsInside x y range
    → ((p : Pair) → Has p ms → IsInside x y p.range) → IsInside x y (fold (λ r p. hull r p.range) range ms)
fold_inside x y range [] i all = i
fold_inside x y range (m ∷ ms) i all =
    fold_inside x y (hull range m.range) ms (hull_inside x y range m.range i (all m (inl refl))) (λ p h. all p (inr h))

pub grant_local : (txn : ℕ) (range : Interval) (xs : List Pair)
    → IsLocal range (λ p. p ≡ merged txn range xs) (is_own txn range) xs
grant_local txn range xs = record {
  over = own_over txn range;
  within = λ p e x y i all. subst (λ (q : Pair). IsInside x y q.range) (sym e)
      (fold_inside x y range (filter (is_own txn range) xs) i (λ q h. all q (has_filter (is_own txn range) q xs h).0));
}

pub free_local : (txn : ℕ) (range : Interval) (xs : List Pair) → IsLocal range NoPair (is_own txn range) xs
free_local txn range xs = record { over = own_over txn range; within = λ p e x y i all. absurd e }

pub no_local : (range : Interval) (xs : List Pair) → IsLocal range NoPair drops_none xs
no_local range xs = record { over = λ p e. cc; within = λ p e x y i all. absurd e }

-- What a part shows of the whole list, where each test of pairs that overlap the range finds the same in both.

pub record FindsSame (range : Interval) (xs ys : List Pair) : Type 0 where
  pub same : (f : Pair → Bool) → ((p : Pair) → f p ≡ true → overlap p.range range ≡ true) → filter f xs ≡ filter f ys

module _ {range : Interval} {xs ys : List Pair} (found : FindsSame range xs ys) where
  pub same_others : (txn : ℕ) → others txn range xs ≡ others txn range ys
  same_others txn =
      ap (λ (l : List Pair). ascending (map (λ p. p.owner) l)) (found.same (is_others txn range) (others_over txn range))

  pub same_count : (txn : ℕ) → count_freed txn range xs ≡ count_freed txn range ys
  same_count txn = ap (λ (l : List Pair). length l) (found.same (is_own txn range) (own_over txn range))

  pub same_merged : (txn : ℕ) → merged txn range xs ≡ merged txn range ys
  same_merged txn =
      ap (λ (l : List Pair). record { owner = txn; range = fold (λ r p. hull r p.range) range l })
      (found.same (is_own txn range) (own_over txn range))
