-- What an event that is no free leaves to those that wait: a wish that has a holder keeps it, and gets no other than the event's transaction.
use Rattle.std.proofs.Common.{◌≡◌, ◌≢◌, ◌⊎◌, inl, inr, ℕ, List, [], ◌∷◌, map, Bool, true, false, not, ◌==◌, ◌&&◌, ◌||◌, if◌then◌else◌, refl, sym, subst, ◌∙◌, arith, eq-eqb}
use Rattle.std.specs.List.{filter, fold}
use Rattle.std.proofs.lemmas.Bool.Decides.{nat_tests}
use Rattle.lt_ranges.specs.Key.{key_le}
use Rattle.lt_ranges.specs.Interval.{Interval, overlap, covers, hull}
use Rattle.lt_ranges.specs.Numbers.{is_in}
use Rattle.lt_ranges.proofs.KeyLaws.{le_trans}
use Rattle.lt_ranges.proofs.IntervalLaws.{covers_hull_left, covers_hull_right}
use Rattle.lt_seq.specs.declared.event.Pair.{Pair}
use Rattle.lt_seq.specs.Pairs.{is_own, is_others, others, freed, span, with_pair, granted}
use Rattle.lt_seq.proofs.NumbersLaws.{is_in-ascending}

eq_of : (a b : ℕ) → (a == b) ≡ true → a ≡ b
eq_of a b e = grind (arith, nat_tests)

-- Owners by their pairs.

-- one of the owner's pairs overlaps the range
abbrev pub Meets : ℕ → Interval → List Pair → Type 0
Meets owner range [] = ⊥
Meets owner range (p ∷ ps) = ((p.owner ≡ owner) × (overlap p.range range ≡ true)) ⊎ Meets owner range ps

record IsOthers (txn : ℕ) (range : Interval) (p : Pair) : Type 0 where
  apart : p.owner ≢ txn
  over : overlap p.range range ≡ true

others_from : (txn : ℕ) (range : Interval) (p : Pair) → is_others txn range p ≡ true → IsOthers txn range p
others_from txn range p e = by_tests (p.owner == txn) (overlap p.range range) refl refl e
  where
    by_tests : (a b : Bool) → (p.owner == txn) ≡ a → overlap p.range range ≡ b → (not a && b) ≡ true → IsOthers txn range p
    by_tests true b h k both = absurd (let x : false ≡ true = both in cc)
    by_tests false false h k both = absurd (let x : false ≡ true = both in cc)
    by_tests false true h k both = record { apart = λ same. (let x : false ≡ true = sym h ∙ eq-eqb p.owner txn same in cc); over = k }

from_others : (txn : ℕ) (range : Interval) (p : Pair) → p.owner ≢ txn → overlap p.range range ≡ true → is_others txn range p ≡ true
from_others txn range p apart over = by_tests (p.owner == txn) refl ∙ over
  where
    by_tests : (a : Bool) → (p.owner == txn) ≡ a → (not a && overlap p.range range) ≡ overlap p.range range
    by_tests true h = absurd (apart (eq_of p.owner txn h))
    by_tests false h = refl

-- who holds what a transaction wishes for
pub record IsHolder (txn holder : ℕ) (range : Interval) (pairs : List Pair) : Type 0 where
  pub apart : holder ≢ txn
  pub meets : Meets holder range pairs

abbrev owners_of : ℕ → Interval → List Pair → List ℕ
owners_of txn range pairs = map (λ p. p.owner) (filter (is_others txn range) pairs)

owner_meets : (txn holder : ℕ) (range : Interval) (pairs : List Pair) → is_in holder (owners_of txn range pairs) ≡ true →
    IsHolder txn holder range pairs
owner_meets txn holder range [] there = absurd (let k : false ≡ true = there in cc)
owner_meets txn holder range (p ∷ ps) there = by_test (is_others txn range p) refl there (owner_meets txn holder range ps)
  where
    later_too : IsHolder txn holder range ps → IsHolder txn holder range (p ∷ ps)
    later_too rest = record { apart = rest.apart; meets = inr rest.meets }

    by_owner : (b : Bool) → (p.owner == holder) ≡ b → IsOthers txn range p → (b || is_in holder (owners_of txn range ps)) ≡ true →
        (is_in holder (owners_of txn range ps) ≡ true → IsHolder txn holder range ps) → IsHolder txn holder range (p ∷ ps)
    by_owner true e other h later = let same = eq_of p.owner holder e in record { apart = λ is. other.apart (same ∙ is); meets = inl (same, other.over) }
    by_owner false e other h later = later_too (later h)

    by_test : (b : Bool) → is_others txn range p ≡ b →
        is_in holder (map (λ q. q.owner) (if b then p ∷ filter (is_others txn range) ps else filter (is_others txn range) ps)) ≡ true →
        (is_in holder (owners_of txn range ps) ≡ true → IsHolder txn holder range ps) → IsHolder txn holder range (p ∷ ps)
    by_test true e h later = by_owner (p.owner == holder) refl (others_from txn range p e) h later
    by_test false e h later = later_too (later h)

meets_owner : (txn holder : ℕ) (range : Interval) (pairs : List Pair) → holder ≢ txn → Meets holder range pairs →
    is_in holder (owners_of txn range pairs) ≡ true
meets_owner txn holder range [] apart meets = absurd meets
meets_owner txn holder range (p ∷ ps) apart meets = by_test (is_others txn range p) refl meets (λ m. meets_owner txn holder range ps apart m)
  where
    front : (b : Bool) → b ≡ true → (b || is_in holder (owners_of txn range ps)) ≡ true
    front true e = refl
    front false e = cc

    behind : (b : Bool) → is_in holder (owners_of txn range ps) ≡ true → (b || is_in holder (owners_of txn range ps)) ≡ true
    behind true e = refl
    behind false e = e

    here : p.owner ≡ holder → overlap p.range range ≡ true → is_others txn range p ≡ true
    here same over = from_others txn range p (λ is. apart (sym same ∙ is)) over

    by_test : (b : Bool) → is_others txn range p ≡ b → ((p.owner ≡ holder) × (overlap p.range range ≡ true)) ⊎ Meets holder range ps →
        (Meets holder range ps → is_in holder (owners_of txn range ps) ≡ true) →
        is_in holder (map (λ q. q.owner) (if b then p ∷ filter (is_others txn range) ps else filter (is_others txn range) ps)) ≡ true
    by_test true e (inl (same, over)) later = front (p.owner == holder) (eq-eqb p.owner holder same)
    by_test true e (inr m) later = behind (p.owner == holder) (later m)
    by_test false e (inl (same, over)) later = absurd (let k : false ≡ true = sym e ∙ here same over in cc)
    by_test false e (inr m) later = later m

pub holder_meets : (txn holder : ℕ) (range : Interval) (pairs : List Pair) → is_in holder (others txn range pairs) ≡ true →
    IsHolder txn holder range pairs
holder_meets txn holder range pairs there = owner_meets txn holder range pairs (sym (is_in-ascending holder (owners_of txn range pairs)) ∙ there)

pub meets_holder : (txn holder : ℕ) (range : Interval) (pairs : List Pair) → holder ≢ txn → Meets holder range pairs →
    is_in holder (others txn range pairs) ≡ true
meets_holder txn holder range pairs apart meets = is_in-ascending holder (owners_of txn range pairs) ∙ meets_owner txn holder range pairs apart meets

-- Pairs grow: who meets a range meets it still, and a range that is met is met by no other than the transaction besides.
pub record Grow (txn : ℕ) (old new : List Pair) : Type 0 where
  pub keeps : (holder : ℕ) (range : Interval) → Meets holder range old → Meets holder range new
  pub gives : (first holder : ℕ) (range : Interval) → Meets first range old → Meets holder range new → Meets holder range old ⊎ (holder ≡ txn)

pub grow_none : (txn : ℕ) (pairs : List Pair) → Grow txn pairs pairs
grow_none txn pairs = record { keeps = λ holder range meets. meets; gives = λ first holder range some meets. inl meets }

grow_same : (txn : ℕ) (old new : List Pair) → old ≡ new → Grow txn old new
grow_same txn old new same = subst (Grow txn old) same (grow_none txn old)

pub grow_on : (txn : ℕ) (a b c : List Pair) → Grow txn a b → Grow txn b c → Grow txn a c
grow_on txn a b c one two = record {
  keeps = λ holder range meets. two.keeps holder range (one.keeps holder range meets);
  gives = λ first holder range some meets. by_second first holder range some (two.gives first holder range (one.keeps first range some) meets);
}
  where
    by_second : (first holder : ℕ) (range : Interval) → Meets first range a → Meets holder range b ⊎ (holder ≡ txn) →
        Meets holder range a ⊎ (holder ≡ txn)
    by_second first holder range some (inl meets) = one.gives first holder range some meets
    by_second first holder range some (inr same) = inr same

-- A range is granted.

pub wider : (a b c : Interval) → covers a b ≡ true → overlap b c ≡ true → overlap a c ≡ true
wider a b c over meets = grind (arith, le_trans a.left b.left c.right, le_trans c.left b.right a.right)

fold_keeps : (range acc : Interval) (ms : List Pair) → overlap acc range ≡ true → overlap (fold (λ r p. hull r p.range) acc ms) range ≡ true
fold_keeps range acc [] over = over
fold_keeps range acc (m ∷ ms) over = fold_keeps range (hull acc m.range) ms (wider (hull acc m.range) acc range (covers_hull_left acc m.range) over)

fold_meets : (holder : ℕ) (range acc : Interval) (ms : List Pair) → Meets holder range ms →
    overlap (fold (λ r p. hull r p.range) acc ms) range ≡ true
fold_meets holder range acc [] meets = absurd meets
fold_meets holder range acc (m ∷ ms) (inl (same, over)) = fold_keeps range (hull acc m.range) ms (wider (hull acc m.range) m.range range (covers_hull_right acc m.range) over)
fold_meets holder range acc (m ∷ ms) (inr later) = fold_meets holder range (hull acc m.range) ms later

-- a pair put in meets what it meets, and so do the others
with_old : (holder : ℕ) (range : Interval) (new : Pair) (pairs : List Pair) → Meets holder range pairs → Meets holder range (with_pair new pairs)
with_old holder range new [] meets = absurd meets
with_old holder range new (p ∷ ps) meets = by_test (key_le p.range.left new.range.left) meets (with_old holder range new ps)
  where
    by_test : (b : Bool) → Meets holder range (p ∷ ps) → (Meets holder range ps → Meets holder range (with_pair new ps)) →
        Meets holder range (if b then p ∷ with_pair new ps else new ∷ p ∷ ps)
    by_test true (inl here) later = inl here
    by_test true (inr there) later = inr (later there)
    by_test false m later = inr m

with_new : (holder : ℕ) (range : Interval) (new : Pair) (pairs : List Pair) → new.owner ≡ holder → overlap new.range range ≡ true →
    Meets holder range (with_pair new pairs)
with_new holder range new [] own over = inl (own, over)
with_new holder range new (p ∷ ps) own over = by_test (key_le p.range.left new.range.left) (with_new holder range new ps own over)
  where
    by_test : (b : Bool) → Meets holder range (with_pair new ps) → Meets holder range (if b then p ∷ with_pair new ps else new ∷ p ∷ ps)
    by_test true later = inr later
    by_test false later = inl (own, over)

from_with : (holder : ℕ) (range : Interval) (new : Pair) (pairs : List Pair) → Meets holder range (with_pair new pairs) →
    Meets holder range pairs ⊎ (holder ≡ new.owner)
from_with holder range new [] (inl here) = inr (sym here.0)
from_with holder range new [] (inr there) = absurd there
from_with holder range new (p ∷ ps) meets = by_test (key_le p.range.left new.range.left) meets (from_with holder range new ps)
  where
    on : Meets holder range ps ⊎ (holder ≡ new.owner) → Meets holder range (p ∷ ps) ⊎ (holder ≡ new.owner)
    on (inl there) = inl (inr there)
    on (inr same) = inr same

    by_test : (b : Bool) → Meets holder range (if b then p ∷ with_pair new ps else new ∷ p ∷ ps) →
        (Meets holder range (with_pair new ps) → Meets holder range ps ⊎ (holder ≡ new.owner)) →
        Meets holder range (p ∷ ps) ⊎ (holder ≡ new.owner)
    by_test true (inl here) later = inl (inl here)
    by_test true (inr there) later = on (later there)
    by_test false (inl here) later = inr (sym here.0)
    by_test false (inr there) later = inl there

from_freed : (holder : ℕ) (range : Interval) (txn : ℕ) (asked : Interval) (pairs : List Pair) → Meets holder range (freed txn asked pairs) →
    Meets holder range pairs
from_freed holder range txn asked [] meets = meets
from_freed holder range txn asked (p ∷ ps) meets = by_test (is_own txn asked p) meets (from_freed holder range txn asked ps)
  where
    by_test : (b : Bool) → Meets holder range (if not b then p ∷ freed txn asked ps else freed txn asked ps) →
        (Meets holder range (freed txn asked ps) → Meets holder range ps) →
        Meets holder range (p ∷ ps)
    by_test true m later = inr (later m)
    by_test false (inl here) later = inl here
    by_test false (inr there) later = inr (later there)

-- what a pair met is met by one that is left, or by one of the transaction's that are taken
abbrev IsTaken : ℕ → Interval → ℕ → Interval → List Pair → Type 0
IsTaken holder range txn asked pairs = (holder ≡ txn) × Meets holder range (filter (is_own txn asked) pairs)

own_owner : (txn : ℕ) (asked : Interval) (p : Pair) → is_own txn asked p ≡ true → p.owner ≡ txn
own_owner txn asked p e = by_tests (p.owner == txn) refl e
  where
    by_tests : (a : Bool) → (p.owner == txn) ≡ a → (a && overlap p.range asked) ≡ true → p.owner ≡ txn
    by_tests true h both = eq_of p.owner txn h
    by_tests false h both = absurd (let x : false ≡ true = both in cc)

abbrev LeftOrTaken : ℕ → Interval → ℕ → Interval → Pair → List Pair → Bool → Type 0
LeftOrTaken holder range txn asked p ps b = Meets holder range (if not b then p ∷ freed txn asked ps else freed txn asked ps)
    ⊎ ((holder ≡ txn) × Meets holder range (if b then p ∷ filter (is_own txn asked) ps else filter (is_own txn asked) ps))

freed_on : (holder : ℕ) (range : Interval) (txn : ℕ) (asked : Interval) (p : Pair) (ps : List Pair) (b : Bool) →
    Meets holder range (freed txn asked ps) ⊎ IsTaken holder range txn asked ps → LeftOrTaken holder range txn asked p ps b
freed_on holder range txn asked p ps true (inl there) = inl there
freed_on holder range txn asked p ps true (inr (same, taken)) = inr (same, inr taken)
freed_on holder range txn asked p ps false (inl there) = inl (inr there)
freed_on holder range txn asked p ps false (inr (same, taken)) = inr (same, taken)

to_freed : (holder : ℕ) (range : Interval) (txn : ℕ) (asked : Interval) (pairs : List Pair) → Meets holder range pairs →
    Meets holder range (freed txn asked pairs) ⊎ IsTaken holder range txn asked pairs
to_freed holder range txn asked [] meets = absurd meets
to_freed holder range txn asked (p ∷ ps) meets = by_test (is_own txn asked p) refl meets (to_freed holder range txn asked ps)
  where
    by_test : (b : Bool) → is_own txn asked p ≡ b → Meets holder range (p ∷ ps) →
        (Meets holder range ps → Meets holder range (freed txn asked ps) ⊎ IsTaken holder range txn asked ps) →
        LeftOrTaken holder range txn asked p ps b
    by_test true e (inl here) later = inr (sym here.0 ∙ own_owner txn asked p e, inl here)
    by_test false e (inl here) later = inl (inl here)
    by_test b e (inr there) later = freed_on holder range txn asked p ps b (later there)

pub grow_granted : (txn : ℕ) (asked : Interval) (pairs : List Pair) → Grow txn pairs (granted txn asked pairs)
grow_granted txn asked pairs = record {
  keeps = λ holder range meets. kept holder range (to_freed holder range txn asked pairs meets);
  gives = λ first holder range some meets. given holder range (from_with holder range new (freed txn asked pairs) meets);
}
  where
    new : Pair
    new = record { owner = txn; range = span txn asked pairs }

    kept : (holder : ℕ) (range : Interval) → Meets holder range (freed txn asked pairs) ⊎ IsTaken holder range txn asked pairs →
        Meets holder range (granted txn asked pairs)
    kept holder range (inl left) = with_old holder range new (freed txn asked pairs) left
    kept holder range (inr (same, taken)) = with_new holder range new (freed txn asked pairs) (sym same) (fold_meets holder range asked (filter (is_own txn asked) pairs) taken)

    given : (holder : ℕ) (range : Interval) → Meets holder range (freed txn asked pairs) ⊎ (holder ≡ txn) →
        Meets holder range pairs ⊎ (holder ≡ txn)
    given holder range (inl there) = inl (from_freed holder range txn asked pairs there)
    given holder range (inr same) = inr same
