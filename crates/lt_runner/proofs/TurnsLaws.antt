-- Laws of lists of turns.
use Rattle.std.proofs.Common.{◌≡◌, ℕ, zero, suc, ◌<◌, List, [], ◌∷◌, Bool, true, false, ◌==◌, if◌then◌else◌, map, length, get_or, slice_set, nat_cmp, refl, sym, ◌∙◌, arith, eq-eqb}
use Rattle.std.specs.List.Sorted.{IsStrictlySortedBy}
use Rattle.std.proofs.lemmas.Bool.Decides.{nat_tests}
use Rattle.std.proofs.lemmas.List.{get_or-map, length-map}
use Rattle.std.proofs.lemmas.Map.Keys.{sorted_tail, below_from_sorted}
use Rattle.lt_seq.specs.Table.{Setting}
use Rattle.lt_runner.specs.TurnView.{Turn}
use Rattle.lt_runner.specs.Serial.{turn_of, with_turn}
pub use Rattle.lt_runner.proofs.ChoiceLaws.{on_true, on_false}

abbrev numbers_of : List Turn → List ℕ
numbers_of turns = map (λ turn. turn.txn) turns

differs : (a b : ℕ) → a < b → (a == b) ≡ false
differs a b lt = grind (arith, nat_tests)

differs_back : (a b : ℕ) → b < a → (a == b) ≡ false
differs_back a b lt = grind (arith, nat_tests)

-- the first turn's number is below the others
first_below : (t : Turn) (ts : List Turn) (i : ℕ) (d : Turn) → IsStrictlySortedBy nat_cmp (numbers_of (t ∷ ts)) → i < length ts → t.txn < (get_or ts i d).txn
first_below t ts i d sorted inside =
    omega (arith, below_from_sorted (numbers_of (t ∷ ts)) 0 (suc i) 0 sorted (omega arith) (omega (arith, length-map ts (λ (u : Turn). u.txn))), get_or-map (λ (u : Turn). u.txn) ts i d 0 inside)

-- a transaction's turn is where its number is
pub turn_of_at : (setting : Setting) (txn : ℕ) (turns : List Turn) (i : ℕ) (d : Turn) → IsStrictlySortedBy nat_cmp (numbers_of turns) →
    i < length turns → (get_or turns i d).txn ≡ txn → turn_of setting txn turns ≡ get_or turns i d
turn_of_at setting txn [] i d sorted inside is = absurd (omega arith)
turn_of_at setting txn (t ∷ ts) zero d sorted inside is = on_true (t.txn == txn) t _ (eq-eqb t.txn txn is)
turn_of_at setting txn (t ∷ ts) (suc i) d sorted inside is =
    let below = first_below t ts i d sorted (omega arith) in
    on_false (t.txn == txn) t _ (differs t.txn txn (omega arith))
    ∙ turn_of_at setting txn ts i d (sorted_tail nat_cmp t.txn (numbers_of ts) sorted) (omega arith) is

-- a turn that isn't there replaces none
with_turn_absent : (new : Turn) (turns : List Turn) → ((i : ℕ) (d : Turn) → i < length turns → new.txn < (get_or turns i d).txn) → with_turn new turns ≡ turns
with_turn_absent new [] above = refl
with_turn_absent new (t ∷ ts) above =
    let first = above 0 new (omega arith) in
    let here : (if t.txn == new.txn then new else t) ≡ t = on_false (t.txn == new.txn) new t (differs_back t.txn new.txn first) in
    let rest = with_turn_absent new ts (λ i d inside. above (suc i) d (omega arith)) in
    λ j. here j ∷ rest j

-- and one that is there replaces the one with its number
pub with_turn_at : (new : Turn) (turns : List Turn) (i : ℕ) (d : Turn) → IsStrictlySortedBy nat_cmp (numbers_of turns) →
    i < length turns → (get_or turns i d).txn ≡ new.txn → with_turn new turns ≡ slice_set turns i new
with_turn_at new [] i d sorted inside is = absurd (omega arith)
with_turn_at new (t ∷ ts) zero d sorted inside is =
    let here : (if t.txn == new.txn then new else t) ≡ new = on_true (t.txn == new.txn) new t (eq-eqb t.txn new.txn is) in
    let rest = with_turn_absent new ts (λ i d within. let below = first_below t ts i d sorted within in omega arith) in
    λ j. here j ∷ rest j
with_turn_at new (t ∷ ts) (suc i) d sorted inside is =
    let below = first_below t ts i d sorted (omega arith) in
    let here : (if t.txn == new.txn then new else t) ≡ t = on_false (t.txn == new.txn) new t (differs t.txn new.txn (omega arith)) in
    let rest = with_turn_at new ts i d (sorted_tail nat_cmp t.txn (numbers_of ts) sorted) (omega arith) is in
    λ j. here j ∷ rest j

-- the last of two turns of a transaction stays
pub with_turn_twice : (new mid : Turn) (turns : List Turn) → mid.txn ≡ new.txn → with_turn new (with_turn mid turns) ≡ with_turn new turns
with_turn_twice new mid [] same = refl
with_turn_twice new mid (t ∷ ts) same =
    let here = by_test (t.txn == mid.txn) refl in
    let rest = with_turn_twice new mid ts same in
    λ j. here j ∷ rest j
  where
    by_test : (b : Bool) → (t.txn == mid.txn) ≡ b →
        (if (if b then mid else t).txn == new.txn then new else (if b then mid else t)) ≡ (if t.txn == new.txn then new else t)
    by_test true e = on_true (mid.txn == new.txn) new mid (eq-eqb mid.txn new.txn same) ∙ sym (on_true (t.txn == new.txn) new t (grind (arith, nat_tests)))
    by_test false e = refl
