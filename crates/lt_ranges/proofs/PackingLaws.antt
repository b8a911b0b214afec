-- Packed keys: their order, and the way back.
use Rattle.std.proofs.Common.{◌≡◌, ◌≢◌, ℕ, zero, suc, ◌+◌, ◌-◌, ◌<◌, ◌≤◌, Bool, true, false, List, [], ◌∷◌, ◌++◌, length, take, replicate, map, get_or, refl, sym, ap, ◌∙◌, arith, eq-eqb, true≢false}
use Rattle.std.specs.Prelude.{Option, Some, None, nat_eq, nat_lt, ◌&&◌, slice_index, IfNone}
use Rattle.std.specs.Bool.{then_some}
use Rattle.std.proofs.lemmas.Bool.Decides.{nat_tests}
use borrow.Author.Tests.{eqb-true}
use Rattle.std.specs.Int.{w64, to_be_bytes}
use Rattle.std.specs.List.{flat_map}
use Rattle.std.specs.Ordering.{nat_cmp}
use Rattle.std.specs.Cmp.Lexicographic.{pointwise, slice_cmp}
use Rattle.lt_ranges.specs.declared.key.Key.{Key}
use Rattle.lt_ranges.specs.declared.key.Key.TheVariants.{Below, Bytes, After, Above}
use Rattle.lt_ranges.specs.Key.{key_cmp}
use Rattle.lt_ranges.specs.KeyText.{is_long, bytes_of}
use Rattle.lt_ranges.specs.Packing.{IsValid, packed_bytes, words_of, packed, spread, coded, only_key, checked, unpacked}
use Rattle.lt_ranges.proofs.PackedWords.{words_order, words_back}
use Rattle.lt_ranges.proofs.PackedBytes.{IsShort, bytes_order, packed_length, packed_small}

short_is : (key : Key) → is_long key ≡ false → IsShort key
short_is key e = few (length (bytes_of key)) e
  where
    few : (n : ℕ) → nat_lt 63 n ≡ false → n ≤ 63
    few n e = grind (arith, nat_tests)

-- the order of packed words is the order of keys
pub packed_order : (x y : Key) → IsValid x → IsValid y → slice_cmp nat_cmp (packed x) (packed y) ≡ key_cmp x y
unfolding packed
packed_order x y vx vy =
    let sx = short_is x vx.1 in
    let sy = short_is y vy.1 in
    words_order 8 (packed_bytes x) (packed_bytes y) (packed_length x sx) (packed_length y sy) (packed_small x sx vx.0) (packed_small y sy vy.0)
    ∙ bytes_order x y sx sy vx.0 vy.0

-- the code, and the bytes before the filling
code_at : (bytes : List ℕ) (room filling code i : ℕ) → length bytes + room ≡ i → get_or (bytes ++ (replicate room filling ++ code ∷ [])) i 0 ≡ code
code_at [] zero filling code zero e = refl
code_at [] zero filling code (suc i) e = absurd (omega (arith, e))
code_at [] (suc room) filling code zero e = absurd (omega (arith, e))
code_at [] (suc room) filling code (suc i) e = code_at [] room filling code i (omega (arith, e))
code_at (x ∷ xs) room filling code zero e = absurd (omega (arith, e))
code_at (x ∷ xs) room filling code (suc i) e = code_at xs room filling code i (omega (arith, e))

front_of : (bytes behind : List ℕ) (n : ℕ) → n ≡ length bytes → take n (bytes ++ behind) ≡ bytes
front_of [] behind zero e = refl
front_of [] behind (suc n) e = absurd (omega (arith, e))
front_of (x ∷ xs) behind zero e = absurd (omega (arith, e))
front_of (x ∷ xs) behind (suc n) e = ap (λ (l : List ℕ). x ∷ l) (front_of xs behind n (omega (arith, e)))

-- codes of the two kinds
coded_bytes : (bytes : List ℕ) (code : ℕ) → 0 < code → code ≤ 64 → coded bytes code ≡ Some (Bytes (take (code - 1) bytes))
coded_bytes bytes code some few = grind (arith, nat_tests)

coded_after : (bytes : List ℕ) (code : ℕ) → 190 < code → code < 255 → coded bytes code ≡ Some (After (take (254 - code) bytes))
coded_after bytes code some few = grind (arith, nat_tests)

-- the bytes of a packed key have that key's code
coded_back : (key : Key) → IsShort key → coded (packed_bytes key) (slice_index (packed_bytes key) 63) ≡ Some key
coded_back Below short = refl
coded_back (Bytes b) short =
    let at : slice_index (packed_bytes (Bytes b)) 63 ≡ length b + 1 = code_at b (63 - length b) 0 (length b + 1) 63 (omega arith) in
    ap (coded (packed_bytes (Bytes b))) at
    ∙ (coded_bytes (packed_bytes (Bytes b)) (length b + 1) (omega arith) (omega arith)
    ∙ ap (λ (l : List ℕ). Some (Bytes l)) (front_of b _ (length b + 1 - 1) (omega arith)))
coded_back (After b) short =
    let at : slice_index (packed_bytes (After b)) 63 ≡ 254 - length b = code_at b (63 - length b) 255 (254 - length b) 63 (omega arith) in
    ap (coded (packed_bytes (After b))) at
    ∙ (coded_after (packed_bytes (After b)) (254 - length b) (omega arith) (omega arith)
    ∙ ap (λ (l : List ℕ). Some (After l)) (front_of b _ (254 - (254 - length b)) (omega arith)))
coded_back Above short = refl

all_same : (xs : List ℕ) → pointwise nat_eq xs xs ≡ true
all_same [] = refl
all_same (x ∷ xs) = ap (λ b. b && pointwise nat_eq xs xs) (eq-eqb x x refl) ∙ all_same xs

both : (a b : Bool) → (a && b) ≡ true → (a ≡ true) × (b ≡ true)
both true b e = (refl, e)
both false b e = absurd (true≢false (sym e))

as_same : (xs ys : List ℕ) → pointwise nat_eq xs ys ≡ true → xs ≡ ys
as_same [] [] e = refl
as_same [] (y ∷ ys) e = absurd (true≢false (sym e))
as_same (x ∷ xs) [] e = absurd (true≢false (sym e))
as_same (x ∷ xs) (y ∷ ys) e = let h = both (nat_eq x y) (pointwise nat_eq xs ys) e in λ i. eqb-true x y h.0 i ∷ as_same xs ys h.1 i

-- what a key packs to unpacks to it
pub unpacked_again : (key : Key) → IsValid key → unpacked (packed key) ≡ Some key
unfolding unpacked packed only_key
unpacked_again key valid =
    let short = short_is key valid.1 in
    let back : spread (words_of (packed_bytes key)) ≡ packed_bytes key = words_back 8 (packed_bytes key) (packed_length key short) (packed_small key short valid.0) in
    ap (checked (packed key)) (ap (λ (l : List ℕ). coded l (slice_index l 63)) back ∙ coded_back key short)
    ∙ ap (λ b. then_some b key) (all_same (packed key))

-- what words unpack to packs to them
pub packed_again : (words : List ℕ) (key : Key) → unpacked words ≡ Some key → packed key ≡ words
unfolding unpacked only_key
packed_again words key = by_code (coded (spread words) (slice_index (spread words) 63))
  where
    by_test : (other : Key) (t : Bool) → pointwise nat_eq (packed other) words ≡ t → then_some t other ≡ Some key → packed key ≡ words
    by_test other true same is = ap packed (let e : key ≡ other = cc in e) ∙ as_same (packed other) words same
    by_test other false same is = cc

    by_code : (o : Option Key) → checked words o ≡ Some key → packed key ≡ words
    by_code None is = cc
    by_code (Some other) is = by_test other (pointwise nat_eq (packed other) words) refl is

-- where words unpack to none, no key packs to them
pub none_packs : (words : List ℕ) → unpacked words ≡ None → (key : Key) → IsValid key → packed key ≢ words
none_packs words none key valid is =
    let again = unpacked_again key valid in
    let e : unpacked (packed key) ≡ None = ap unpacked is ∙ none in cc

-- the bytes of words, put together
pub flattened : (words : List ℕ) → flat_map (λ (bytes : List ℕ). bytes) (map (to_be_bytes w64) words) ≡ spread words
flattened [] = refl
flattened (x ∷ xs) = ap (λ (l : List ℕ). to_be_bytes w64 x ++ l) (flattened xs)

pub unpacked_none : (words : List ℕ) → only_key words ≡ None → unpacked words ≡ None
unfolding unpacked
unpacked_none words e = ap (checked words) e

pub unpacked_by : (words : List ℕ) (key : Key) (t : Bool) → only_key words ≡ Some key → pointwise nat_eq (packed key) words ≡ t → unpacked words ≡ then_some t key
unfolding unpacked
unpacked_by words key t e same = ap (checked words) e ∙ ap (λ b. then_some b key) same

pub refused : (words : List ℕ) (answer : Option Key) → answer ≡ unpacked words
    → IfNone answer ((key : Key) → IsValid key → packed key ≢ words)
refused words None e = none_packs words (sym e)
refused words (Some key) e = tt
