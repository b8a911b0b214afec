-- Numbers with leading zeros are bytes, and ascend as the numbers do.
use Rattle.std.proofs.Common.{◌≡◌, ℕ, zero, suc, ◌+◌, ◌*◌, ◌/◌, ◌%◌, ◌^◌, ◌<◌, ◌≤◌, List, [], ◌∷◌, Bool, true, false, cond, eqb, ltb, map, Some, sym, ap, ◌∙◌, refl, arith}
use Rattle.std.specs.List.{All}
use Rattle.std.specs.Ordering.{is_le, ordering_then}
use Rattle.std.specs.declared.cmp.Ordering.{Ordering}
use Rattle.std.specs.declared.cmp.Ordering.TheVariants.{Less, Equal, Greater}
use Rattle.std.specs.Cmp.Lexicographic.{slice_cmp}
use Rattle.std.proofs.lemmas.Bool.Decides.{nat_tests}
use Rattle.std.proofs.lemmas.List.Elements.{All-cons, All-nil}
use Rattle.std.proofs.lemmas.Nat.{div_below, le-div, mod_below}
use Rattle.std.proofs.Math.Nat.{pow-suc, div-mul-le_self, div-add-mod, mod-eq_of_lt}
use Rattle.lt_ranges.specs.declared.key.Key.TheVariants.{Bytes}
use Rattle.lt_ranges.specs.Key.{symbol_cmp, key_le}
use Rattle.lt_ranges.specs.Numbers.{AreBytes}
use Rattle.lt_trace.specs.Generator.{padded}

power : (places : ℕ) → 0 < 10 ^ places
power zero = omega arith
power (suc places) = let rest = power places in omega (arith, pow-suc 10 places)

-- the first digits of two numbers in order are in order, and where they are equal the rests are
first_le : (n m p : ℕ) → 0 < p → n ≤ m → n / p ≤ m / p
first_le n m p positive h = le-div (n / p) m p positive (omega (arith, div-mul-le_self n p))

rest_le : (n m p : ℕ) → n ≤ m → n / p ≡ m / p → n % p ≤ m % p
rest_le n m p h same =
    let products : p * (n / p) ≡ p * (m / p) = ap (λ q. p * q) same in
    omega (arith, div-add-mod n p, div-add-mod m p)

pub padded_le : (places n m : ℕ) → n ≤ m → is_le (slice_cmp symbol_cmp (map Some (padded places n)) (map Some (padded places m))) ≡ true
padded_le zero n m h = refl
padded_le (suc places) n m h =
    let p = 10 ^ places in
    let first = first_le n m p (power places) h in
    by_test (ltb (48 + n / p) (48 + m / p)) (eqb (48 + n / p) (48 + m / p))
    (slice_cmp symbol_cmp (map Some (padded places (n % p))) (map Some (padded places (m % p))))
    (λ below. grind (arith, nat_tests))
    (λ same. padded_le places (n % p) (m % p) (rest_le n m p h (grind (arith, nat_tests))))
  where
    by_test : (below same : Bool) (rest : Ordering) → (below ≡ false → same ≡ true) → (same ≡ true → is_le rest ≡ true)
        → is_le (ordering_then (cond below Less (cond same Equal Greater)) rest) ≡ true
    by_test true same rest first then = refl
    by_test false true rest first then = then refl
    by_test false false rest first then = let no : false ≡ true = first refl in cc

pub keys_le : (n m : ℕ) → n ≤ m → key_le (Bytes (padded 5 n)) (Bytes (padded 5 m)) ≡ true
unfolding key_le
keys_le n m h = padded_le 5 n m h

-- a number below a power of ten has digits
pub padded_bytes : (places n : ℕ) → n < 10 ^ places → AreBytes (padded places n)
padded_bytes zero n h = All-nil (λ number. number < 256)
padded_bytes (suc places) n h =
    let p = 10 ^ places in
    let digit : n / p < 10 = div_below n p 10 (power places) (omega (arith, pow-suc 10 places)) in
    All-cons (λ number. number < 256) (48 + n / p) (padded places (n % p)) (omega arith)
    (padded_bytes places (n % p) (mod_below n p (power places)))
