-- Words of eight bytes each stand to each other as the bytes do, and give the bytes back.
use Rattle.std.proofs.Common.{◌≡◌, ℕ, zero, suc, ◌+◌, ◌-◌, ◌*◌, ◌<◌, List, [], ◌∷◌, ◌++◌, length, take, drop, map, get_or, refl, sym, ap, ◌∙◌, subst, arith, length-take-le, length-drop}
use mathlib.Core.Logic.{dite}
use native.Mathlib.Decide.{ℕ_discrete}
use Rattle.std.proofs.lemmas.List.{take-append-drop, get_or_past}
use Rattle.std.proofs.lemmas.List.Elements.{All-head, All-tail, All-take, All-drop}
use Rattle.std.proofs.lemmas.Nat.{be_bytes_8}
use Rattle.std.specs.declared.cmp.Ordering.{Ordering}
use Rattle.std.specs.declared.cmp.Ordering.TheVariants.{Less, Equal, Greater}
use Rattle.std.specs.Ordering.{nat_cmp, ordering_then, MatchOrdering}
use Rattle.std.specs.Cmp.{nat_cmp_is, ranked}
use Rattle.std.specs.Cmp.Lexicographic.{slice_cmp}
use Rattle.std.specs.Int.{w64, from_be_bytes, to_be_bytes}
use Rattle.std.specs.List.{flat_map}
use Rattle.std.specs.Simd.{first_chunks}
use Rattle.lt_ranges.specs.Numbers.{AreBytes}

abbrev pub IsByte : ℕ → Type 0
IsByte n = n < 256

pub then_then : (a b c : Ordering) → ordering_then (ordering_then a b) c ≡ ordering_then a (ordering_then b c)
then_then Less b c = refl
then_then Equal b c = refl
then_then Greater b c = refl

-- lists whose fronts are equally long are compared by these, and then by what is behind
slice_more : (xs ys us vs : List ℕ) → length xs ≡ length ys
    → slice_cmp nat_cmp (xs ++ us) (ys ++ vs) ≡ ordering_then (slice_cmp nat_cmp xs ys) (slice_cmp nat_cmp us vs)
slice_more [] [] us vs e = refl
slice_more [] (y ∷ ys) us vs e = absurd (omega (arith, e))
slice_more (x ∷ xs) [] us vs e = absurd (omega (arith, e))
slice_more (x ∷ xs) (y ∷ ys) us vs e =
    ap (ordering_then (nat_cmp x y)) (slice_more xs ys us vs (omega (arith, e)))
    ∙ sym (then_then (nat_cmp x y) (slice_cmp nat_cmp xs ys) (slice_cmp nat_cmp us vs))

-- the number whose digits to the base 256 are those of n and then these
number : ℕ → List ℕ → ℕ
number n [] = n
number n (x ∷ xs) = number (n * 256 + x) xs

-- one digit more is compared last
digit_more : (m n x y : ℕ) → x < 256 → y < 256 → nat_cmp (m * 256 + x) (n * 256 + y) ≡ ordering_then (nat_cmp m n) (nat_cmp x y)
digit_more m n x y p q =
    sym (nat_cmp_is (m * 256 + x) (n * 256 + y) (ordering_then (nat_cmp m n) (nat_cmp x y)) (ranks (nat_cmp m n) (nat_cmp x y) (ranked m n _ refl) (ranked x y _ refl)))
  where
    ranks : (o k : Ordering) → MatchOrdering o (m < n) (m ≡ n) (n < m) → MatchOrdering k (x < y) (x ≡ y) (y < x)
        → MatchOrdering (ordering_then o k) (m * 256 + x < n * 256 + y) (m * 256 + x ≡ n * 256 + y) (n * 256 + y < m * 256 + x)
    ranks Less k h i = omega arith
    ranks Equal Less h i = omega arith
    ranks Equal Equal h i = omega arith
    ranks Equal Greater h i = omega arith
    ranks Greater k h i = omega arith

-- numbers by their digits, as many for one as for the other
digits_order : (xs ys : List ℕ) (m n : ℕ) → length xs ≡ length ys → AreBytes xs → AreBytes ys
    → nat_cmp (number m xs) (number n ys) ≡ ordering_then (nat_cmp m n) (slice_cmp nat_cmp xs ys)
unfolding number
digits_order [] [] m n e s t = sym (then_equal (nat_cmp m n))
  where
    then_equal : (o : Ordering) → ordering_then o Equal ≡ o
    then_equal Less = refl
    then_equal Equal = refl
    then_equal Greater = refl
digits_order [] (y ∷ ys) m n e s t = absurd (omega (arith, e))
digits_order (x ∷ xs) [] m n e s t = absurd (omega (arith, e))
digits_order (x ∷ xs) (y ∷ ys) m n e s t =
    digits_order xs ys (m * 256 + x) (n * 256 + y) (omega (arith, e)) (All-tail IsByte x xs s) (All-tail IsByte y ys t)
    ∙ (ap (λ (o : Ordering). ordering_then o (slice_cmp nat_cmp xs ys)) (digit_more m n x y (All-head IsByte x xs s) (All-head IsByte y ys t))
    ∙ then_then (nat_cmp m n) (nat_cmp x y) (slice_cmp nat_cmp xs ys))

-- a word is the number of its eight bytes
word_is : (xs : List ℕ) → length xs ≡ 8 → from_be_bytes w64 xs ≡ number 0 xs
unfolding number
word_is [] e = absurd (omega (arith, e))
word_is (a ∷ []) e = absurd (omega (arith, e))
word_is (a ∷ b ∷ []) e = absurd (omega (arith, e))
word_is (a ∷ b ∷ c ∷ []) e = absurd (omega (arith, e))
word_is (a ∷ b ∷ c ∷ d ∷ []) e = absurd (omega (arith, e))
word_is (a ∷ b ∷ c ∷ d ∷ f ∷ []) e = absurd (omega (arith, e))
word_is (a ∷ b ∷ c ∷ d ∷ f ∷ g ∷ []) e = absurd (omega (arith, e))
word_is (a ∷ b ∷ c ∷ d ∷ f ∷ g ∷ h ∷ []) e = absurd (omega (arith, e))
word_is (a ∷ b ∷ c ∷ d ∷ f ∷ g ∷ h ∷ i ∷ []) e = omega arith
word_is (a ∷ b ∷ c ∷ d ∷ f ∷ g ∷ h ∷ i ∷ j ∷ xs) e = absurd (omega (arith, e))

word_order : (xs ys : List ℕ) → length xs ≡ 8 → length ys ≡ 8 → AreBytes xs → AreBytes ys
    → nat_cmp (from_be_bytes w64 xs) (from_be_bytes w64 ys) ≡ slice_cmp nat_cmp xs ys
word_order xs ys e f s t =
    (λ i. nat_cmp (word_is xs e i) (word_is ys f i)) ∙ digits_order xs ys 0 0 (e ∙ sym f) s t

-- the first eight of eight more
eight : (n : ℕ) (xs : List ℕ) → length xs ≡ (n + 1) * 8 → length (take 8 xs) ≡ 8
eight n xs e = length-take-le 8 xs (omega (arith, e))

behind : (n : ℕ) (xs : List ℕ) → length xs ≡ (n + 1) * 8 → length (drop 8 xs) ≡ n * 8
behind n xs e = omega (arith, length-drop 8 xs, e)

pub words_order : (n : ℕ) (xs ys : List ℕ) → length xs ≡ n * 8 → length ys ≡ n * 8 → AreBytes xs → AreBytes ys
    → slice_cmp nat_cmp (map (from_be_bytes w64) (first_chunks 8 n xs)) (map (from_be_bytes w64) (first_chunks 8 n ys)) ≡ slice_cmp nat_cmp xs ys
words_order zero [] [] e f s t = refl
words_order zero [] (y ∷ ys) e f s t = absurd (omega (arith, f))
words_order zero (x ∷ xs) ys e f s t = absurd (omega (arith, e))
words_order (suc n) xs ys e f s t =
    let xe : length (take 8 xs) ≡ 8 = eight n xs (omega (arith, e)) in
    let ye : length (take 8 ys) ≡ 8 = eight n ys (omega (arith, f)) in
    let rest = words_order n (drop 8 xs) (drop 8 ys) (behind n xs (omega (arith, e))) (behind n ys (omega (arith, f))) (All-drop IsByte 8 xs s) (All-drop IsByte 8 ys t) in
    (λ i. ordering_then (word_order (take 8 xs) (take 8 ys) xe ye (All-take IsByte 8 xs s) (All-take IsByte 8 ys t) i) (rest i))
    ∙ (sym (slice_more (take 8 xs) (take 8 ys) (drop 8 xs) (drop 8 ys) (xe ∙ sym ye))
    ∙ (λ i. slice_cmp nat_cmp (take-append-drop 8 xs i) (take-append-drop 8 ys i)))

pub words_back : (n : ℕ) (xs : List ℕ) → length xs ≡ n * 8 → AreBytes xs → flat_map (to_be_bytes w64) (map (from_be_bytes w64) (first_chunks 8 n xs)) ≡ xs
words_back zero [] e s = refl
words_back zero (x ∷ xs) e s = absurd (omega (arith, e))
words_back (suc n) xs e s =
    let word = be_bytes_8 (take 8 xs) (from_be_bytes w64 (take 8 xs)) (eight n xs (omega (arith, e))) (each (take 8 xs) (All-take IsByte 8 xs s)) refl in
    let rest = words_back n (drop 8 xs) (behind n xs (omega (arith, e))) (All-drop IsByte 8 xs s) in
    (λ i. word i ++ rest i) ∙ take-append-drop 8 xs
  where
    each : (ys : List ℕ) → AreBytes ys → (i : ℕ) → get_or ys i 0 < 256
    each ys t i = dite (ℕ_discrete (length ys - i) 0)
        (λ z. subst (λ (b : ℕ). b < 256) (sym (get_or_past ys i 0 (omega arith))) (omega arith))
        (λ ne. t i 0 (omega arith))
