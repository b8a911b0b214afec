-- A lawful list splits at a range.
use Rattle.std.proofs.Common.{◌≡◌, inl, inr, List, [], ◌∷◌, ◌++◌, Bool, true, false, not, ◌&&◌, refl, sym, ap, subst}
use Rattle.lt_ranges.specs.Key.{key_le}
use Rattle.lt_ranges.specs.Interval.{Interval, IsInterval, before, overlap}
use Rattle.lt_ranges.proofs.KeyLaws.{le_trans}
use Rattle.lt_ranges.proofs.IntervalLaws.{before_trans}
use Rattle.lt_seq.specs.declared.event.Pair.{Pair}
use Rattle.lt_seq.specs.Pairs.{IsLawful}
use Rattle.lt_forest.specs.Pairs.{Has}
use Rattle.lt_forest.specs.Places.{SplitsAt}
use Rattle.lt_forest.proofs.BoundLaws.{lt_is}
use Rattle.lt_forest.proofs.PairLists.{after_has, lawful_has}

pub both_true : (b c : Bool) → b && c ≡ true → (b ≡ true) × (c ≡ true)
both_true true true e = (refl, refl)
both_true true false e = (refl, e)
both_true false c e = (e, absurd (cc))

are_both : (b c : Bool) → b ≡ true → c ≡ true → b && c ≡ true
are_both true c e f = f
are_both false c e f = e

-- what follows a pair that ends no earlier than the range begins does so too
ends_later : (range : Interval) (p q : Pair) → key_le range.left p.range.right ≡ true → before p.range q.range ≡ true
    → IsInterval q.range → key_le range.left q.range.right ≡ true
ends_later range p q h b o =
    le_trans range.left q.range.left q.range.right
    (le_trans range.left p.range.right q.range.left h (lt_is p.range.right q.range.left b)) o

-- the part of it that doesn't end before the range
record SplitsOver (range : Interval) (pairs : List Pair) : Type 0 where
  pub over : List Pair
  pub behind : List Pair
  pub is : pairs ≡ over ++ behind
  pub overlaps : (p : Pair) → Has p over → overlap p.range range ≡ true
  pub begins_behind : (p : Pair) → Has p behind → before range p.range ≡ true

first_or : (P : Pair → Type 0) (q : Pair) (qs : List Pair) → P q → ((p : Pair) → Has p qs → P p) → (p : Pair) → Has p (q ∷ qs) → P p
first_or P q qs first more p h = elim h [ inl e ↦ subst P (sym e) first | inr k ↦ more p k ]

splits_over : (range : Interval) (pairs : List Pair) → ((p : Pair) → Has p pairs → key_le range.left p.range.right ≡ true)
    → IsLawful pairs → SplitsOver range pairs
splits_over range [] later lawful =
    record { over = []; behind = []; is = refl; overlaps = λ p h. absurd h; begins_behind = λ p h. absurd h }
splits_over range (q ∷ qs) later lawful = by_left (key_le q.range.left range.right) refl (splits_over range qs (λ p h. later p (inr h)) lawful.2)
  where
    by_left : (b : Bool) → key_le q.range.left range.right ≡ b → SplitsOver range qs → SplitsOver range (q ∷ qs)
    by_left true e k = record {
      over = q ∷ k.over;
      behind = k.behind;
      is = ap (λ (l : List Pair). q ∷ l) k.is;
      overlaps = first_or (λ p. overlap p.range range ≡ true) q k.over
          (are_both (key_le q.range.left range.right) (key_le range.left q.range.right) e (later q (inl refl))) k.overlaps;
      begins_behind = k.begins_behind;
    }
    by_left false e k =
        let here : before range q.range ≡ true = ap not e in
        record {
          over = [];
          behind = q ∷ qs;
          is = refl;
          overlaps = λ p h. absurd h;
          begins_behind = first_or (λ p. before range p.range ≡ true) q qs here
              (λ p h. before_trans range q.range p.range here lawful.0 (after_has q.range p qs lawful.1 h));
        }

pub splits : (range : Interval) (pairs : List Pair) → IsLawful pairs → SplitsAt range pairs
splits range [] lawful = record {
  ahead = [];
  over = [];
  behind = [];
  is = refl;
  ends_before = λ p h. absurd h;
  overlaps = λ p h. absurd h;
  begins_behind = λ p h. absurd h;
}
splits range (q ∷ qs) lawful = by_right (key_le range.left q.range.right) refl (splits range qs lawful.2)
  where
    by_right : (b : Bool) → key_le range.left q.range.right ≡ b → SplitsAt range qs → SplitsAt range (q ∷ qs)
    by_right false e k = record {
      ahead = q ∷ k.ahead;
      over = k.over;
      behind = k.behind;
      is = ap (λ (l : List Pair). q ∷ l) k.is;
      ends_before = first_or (λ p. before p.range range ≡ true) q k.ahead (ap not e) k.ends_before;
      overlaps = k.overlaps;
      begins_behind = k.begins_behind;
    }
    by_right true e k =
        let s = splits_over range (q ∷ qs)
        (first_or (λ p. key_le range.left p.range.right ≡ true) q qs e
        (λ p h. ends_later range q p e (after_has q.range p qs lawful.1 h) (lawful_has p qs lawful.2 h))) lawful in
        record {
          ahead = [];
          over = s.over;
          behind = s.behind;
          is = s.is;
          ends_before = λ p h. absurd h;
          overlaps = s.overlaps;
          begins_behind = s.begins_behind;
        }
