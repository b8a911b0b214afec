-- Sums over the turns of a game.
use Rattle.std.proofs.Common.{◌≡◌, ℕ, ◌+◌, ◌<◌, List, [], ◌∷◌, Bool, true, false, ◌==◌, ◌||◌, if◌then◌else◌, nat_cmp, refl, sym, ap, subst, ◌∙◌, arith}
use Rattle.std.specs.List.{AllByRecursion}
use Rattle.std.specs.List.Sorted.{IsStrictlySortedBy}
use Rattle.std.specs.declared.cmp.Ordering.TheVariants.{Less}
use Rattle.std.proofs.lemmas.Bool.Decides.{nat_tests}
use Rattle.std.proofs.lemmas.Cmp.{ranked}
use Rattle.lt_ranges.specs.Numbers.{is_in}
use Rattle.lt_seq.specs.Table.{Setting}
use Rattle.lt_runner.specs.TurnView.{Turn}
use Rattle.lt_runner.specs.Serial.{turn_of, with_turn}
use Rattle.lt_runner.proofs.SteadyLaws.{numbers}

abbrev pub total : (Turn → ℕ) → List Turn → ℕ
total f [] = 0
total f (t ∷ ts) = f t + total f ts

not_there : (n : ℕ) (ns : List ℕ) → AllByRecursion (λ k. nat_cmp n k ≡ Less) ns → is_in n ns ≡ false
not_there n [] above = refl
not_there n (k ∷ ks) above = by_rest (not_there n ks above.1)
  where
    by_rest : is_in n ks ≡ false → ((k == n) || is_in n ks) ≡ false
    by_rest rest = let less : n < k = ranked n k _ (sym above.0) in grind (arith, nat_tests, rest)

others_stay : (new : Turn) (turns : List Turn) → is_in new.txn (numbers turns) ≡ false → with_turn new turns ≡ turns
others_stay new [] absent = refl
others_stay new (t ∷ ts) absent = by_test (t.txn == new.txn) absent (others_stay new ts)
  where
    by_test : (b : Bool) → (b || is_in new.txn (numbers ts)) ≡ false → (is_in new.txn (numbers ts) ≡ false → with_turn new ts ≡ ts) →
        (if b then new else t) ∷ with_turn new ts ≡ t ∷ ts
    by_test true e rest = absurd (let k : true ≡ false = e in cc)
    by_test false e rest = ap (λ (ls : List Turn). t ∷ ls) (rest e)

sum_swap : (a b c : ℕ) → (a + b) + c ≡ (c + b) + a
sum_swap a b c = omega arith

sum_later : (a b c d e : ℕ) → b + c ≡ d + e → (a + b) + c ≡ (a + d) + e
sum_later a b c d e h = omega (arith, h)

-- a turn put in its place
pub total_with : (f : Turn → ℕ) (setting : Setting) (new : Turn) (turns : List Turn) → IsStrictlySortedBy nat_cmp (numbers turns) →
    is_in new.txn (numbers turns) ≡ true →
    total f (with_turn new turns) + f (turn_of setting new.txn turns) ≡ total f turns + f new
unfolding IsStrictlySortedBy
total_with f setting new [] sorted there = absurd (let k : false ≡ true = there in cc)
total_with f setting new (t ∷ ts) sorted there = by_test (t.txn == new.txn) refl there (total_with f setting new ts sorted.1)
  where
    eq_of : (a b : ℕ) → (a == b) ≡ true → a ≡ b
    eq_of a b e = grind (arith, nat_tests)

    by_test : (b : Bool) → (t.txn == new.txn) ≡ b → (b || is_in new.txn (numbers ts)) ≡ true →
        (is_in new.txn (numbers ts) ≡ true → total f (with_turn new ts) + f (turn_of setting new.txn ts) ≡ total f ts + f new) →
        (f (if b then new else t) + total f (with_turn new ts)) + f (if b then t else turn_of setting new.txn ts) ≡ (f t + total f ts) + f new
    by_test true e h later =
        let absent : is_in new.txn (numbers ts) ≡ false =
        subst (λ n. is_in n (numbers ts) ≡ false) (eq_of t.txn new.txn e) (not_there t.txn (numbers ts) sorted.0) in
        ap (λ (ls : List Turn). (f new + total f ls) + f t) (others_stay new ts absent) ∙ sum_swap (f new) (total f ts) (f t)
    by_test false e h later = sum_later (f t) (total f (with_turn new ts)) (f (turn_of setting new.txn ts)) (total f ts) (f new) (later h)
