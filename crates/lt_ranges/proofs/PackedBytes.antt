-- The bytes of packed keys stand to each other as the keys do.
use Rattle.std.proofs.Common.{◌≡◌, ℕ, zero, suc, ◌+◌, ◌-◌, ◌<◌, ◌≤◌, List, [], ◌∷◌, ◌++◌, map, length, replicate, Some, None, refl, sym, ap, ◌∙◌, subst, arith, length-append}
use mathlib.Core.Logic.{dite}
use native.Mathlib.Decide.{ℕ_discrete}
use Rattle.std.proofs.lemmas.List.{length-replicate}
use Rattle.std.proofs.lemmas.List.Elements.{All-nil, All-cons, All-head, All-tail, All-append, All-replicate}
use Rattle.std.specs.declared.cmp.Ordering.{Ordering}
use Rattle.std.specs.declared.cmp.Ordering.TheVariants.{Less, Equal}
use Rattle.std.specs.Ordering.{nat_cmp, ordering_reverse, ordering_then}
use Rattle.std.specs.Cmp.{nat_cmp_is}
use Rattle.std.specs.Cmp.Lexicographic.{slice_cmp, nat_list_cmp_total}
use Rattle.lt_ranges.specs.declared.key.Key.{Key}
use Rattle.lt_ranges.specs.declared.key.Key.TheVariants.{Below, Bytes, After, Above}
use Rattle.lt_ranges.specs.Numbers.{AreBytes}
use Rattle.lt_ranges.specs.Key.{key_cmp, symbol_cmp}
use Rattle.lt_ranges.specs.KeyOrder.{bytes_cmp, key_total}
use Rattle.lt_ranges.specs.KeyText.{bytes_of, IsOfBytes}
use Rattle.lt_ranges.specs.Packing.{packed_bytes, filled}
use Rattle.lt_ranges.proofs.PackedWords.{IsByte}

-- it has no more bytes than there is room for
abbrev pub IsShort : Key → Type 0
IsShort key = length (bytes_of key) ≤ 63

less : (x y : ℕ) → x < y → nat_cmp x y ≡ Less
less x y lt = sym (nat_cmp_is x y Less lt)

same : (x : ℕ) → nat_cmp x x ≡ Equal
same x = sym (nat_cmp_is x x Equal refl)

same_list : (xs : List ℕ) → slice_cmp nat_cmp xs xs ≡ Equal
same_list [] = refl
same_list (x ∷ xs) = ap (λ (o : Ordering). ordering_then o (slice_cmp nat_cmp xs xs)) (same x) ∙ same_list xs

turned : (xs ys : List ℕ) (o : Ordering) → slice_cmp nat_cmp ys xs ≡ o → slice_cmp nat_cmp xs ys ≡ ordering_reverse o
turned xs ys o e = nat_list_cmp_total.antisymm xs ys ∙ ap ordering_reverse e

first_less : (x y : ℕ) (rest : Ordering) → x < y → ordering_then (nat_cmp x y) rest ≡ Less
first_less x y rest lt = ap (λ (o : Ordering). ordering_then o rest) (less x y lt)

-- no greater first, and less behind
then_less : (x y : ℕ) (rest : Ordering) → x ≤ y → rest ≡ Less → ordering_then (nat_cmp x y) rest ≡ Less
then_less x y rest le e = dite (ℕ_discrete x y)
    (λ s. ap (λ (z : ℕ). ordering_then (nat_cmp x z) rest) (sym s) ∙ (ap (λ (o : Ordering). ordering_then o rest) (same x) ∙ e))
    (λ ne. first_less x y rest (omega arith))

-- bytes, a filling of some length and a code
abbrev with_filling : List ℕ → ℕ → ℕ → ℕ → List ℕ
with_filling bytes room filling code = bytes ++ (replicate room filling ++ code ∷ [])

-- zeros and a code come before anything with a greater code
low : (m room : ℕ) (j c filling : ℕ) (ys : List ℕ) → length ys + room ≡ m → j < c
    → slice_cmp nat_cmp (replicate m 0 ++ j ∷ []) (with_filling ys room filling c) ≡ Less
low zero zero j c filling [] e lt = first_less j c Equal lt
low zero (suc room) j c filling [] e lt = absurd (omega (arith, e))
low zero room j c filling (y ∷ ys) e lt = absurd (omega (arith, e))
low (suc m) zero j c filling [] e lt = absurd (omega (arith, e))
low (suc m) (suc room) j c filling [] e lt = then_less 0 filling _ (omega arith) (low m room j c filling [] (omega (arith, e)) lt)
low (suc m) room j c filling (y ∷ ys) e lt = then_less 0 y _ (omega arith) (low m room j c filling ys (omega (arith, e)) lt)

-- anything comes before the greatest bytes and a greater code
high : (m room : ℕ) (j c filling : ℕ) (xs : List ℕ) → length xs + room ≡ m → AreBytes xs → filling ≤ 255 → j < c
    → slice_cmp nat_cmp (with_filling xs room filling j) (replicate m 255 ++ c ∷ []) ≡ Less
high zero zero j c filling [] e small le lt = first_less j c Equal lt
high zero (suc room) j c filling [] e small le lt = absurd (omega (arith, e))
high zero room j c filling (x ∷ xs) e small le lt = absurd (omega (arith, e))
high (suc m) zero j c filling [] e small le lt = absurd (omega (arith, e))
high (suc m) (suc room) j c filling [] e small le lt = then_less filling 255 _ le (high m room j c filling [] (omega (arith, e)) small le lt)
high (suc m) room j c filling (x ∷ xs) e small le lt =
    then_less x 255 _ (let h = All-head IsByte x xs small in omega arith) (high m room j c filling xs (omega (arith, e)) (All-tail IsByte x xs small) le lt)

-- equally many bytes, equally filled and with one code
alike : (r q c d filling : ℕ) → r ≡ q → c ≡ d → slice_cmp nat_cmp (replicate r filling ++ c ∷ []) (replicate q filling ++ d ∷ []) ≡ Equal
alike r q c d filling e f =
    subst (λ (n : ℕ × ℕ). slice_cmp nat_cmp (replicate r filling ++ c ∷ []) (replicate n.0 filling ++ n.1 ∷ []) ≡ Equal) (λ i. (e i, f i)) (same_list (replicate r filling ++ c ∷ []))

-- two keys of bytes: the longer of two with one front has the greater code
bytes_bytes : (a b : List ℕ) (r q c d : ℕ) → length a + r ≡ length b + q → c + length b ≡ d + length a
    → slice_cmp nat_cmp (with_filling a r 0 c) (with_filling b q 0 d) ≡ slice_cmp nat_cmp a b
bytes_bytes [] [] r q c d e f = alike r q c d 0 (omega (arith, e)) (omega (arith, f))
bytes_bytes [] (y ∷ ys) r q c d e f = low r q c d 0 (y ∷ ys) (omega (arith, e)) (omega (arith, f))
bytes_bytes (x ∷ xs) [] r q c d e f =
    turned ((x ∷ xs) ++ (replicate r 0 ++ c ∷ [])) (replicate q 0 ++ d ∷ []) Less (low q r d c 0 (x ∷ xs) (omega (arith, e)) (omega (arith, f)))
bytes_bytes (x ∷ xs) (y ∷ ys) r q c d e f = ap (ordering_then (nat_cmp x y)) (bytes_bytes xs ys r q c d (omega (arith, e)) (omega (arith, f)))

-- bytes, and an end behind bytes
bytes_after : (a b : List ℕ) (r q c d : ℕ) → length a + r ≡ length b + q → c < d → AreBytes a
    → slice_cmp nat_cmp (with_filling a r 0 c) (with_filling b q 255 d) ≡ slice_cmp symbol_cmp (map Some a) (map Some b ++ None ∷ [])
bytes_after [] [] r q c d e lt small = low r q c d 255 [] (omega (arith, e)) lt
bytes_after [] (y ∷ ys) r q c d e lt small = low r q c d 255 (y ∷ ys) (omega (arith, e)) lt
bytes_after (x ∷ xs) [] r q c d e lt small = high q r c d 0 (x ∷ xs) (omega (arith, e)) small (omega arith) lt
bytes_after (x ∷ xs) (y ∷ ys) r q c d e lt small =
    ap (ordering_then (nat_cmp x y)) (bytes_after xs ys r q c d (omega (arith, e)) lt (All-tail IsByte x xs small))

-- two ends: of two with one front that behind more bytes comes first, and has the lesser code
after_after : (a b : List ℕ) (r q c d : ℕ) → length a + r ≡ length b + q → c + length a ≡ d + length b → AreBytes a → AreBytes b
    → slice_cmp nat_cmp (with_filling a r 255 c) (with_filling b q 255 d) ≡ slice_cmp symbol_cmp (map Some a ++ None ∷ []) (map Some b ++ None ∷ [])
after_after [] [] r q c d e f s t = alike r q c d 255 (omega (arith, e)) (omega (arith, f))
after_after [] (y ∷ ys) r q c d e f s t =
    turned (replicate r 255 ++ c ∷ []) ((y ∷ ys) ++ (replicate q 255 ++ d ∷ [])) Less (high r q d c 255 (y ∷ ys) (omega (arith, e)) t (omega arith) (omega (arith, f)))
after_after (x ∷ xs) [] r q c d e f s t = high q r c d 255 (x ∷ xs) (omega (arith, e)) s (omega arith) (omega (arith, f))
after_after (x ∷ xs) (y ∷ ys) r q c d e f s t =
    ap (ordering_then (nat_cmp x y)) (after_after xs ys r q c d (omega (arith, e)) (omega (arith, f)) (All-tail IsByte x xs s) (All-tail IsByte y ys t))

pub bytes_order : (x y : Key) → IsShort x → IsShort y → IsOfBytes x → IsOfBytes y
    → slice_cmp nat_cmp (packed_bytes x) (packed_bytes y) ≡ key_cmp x y
bytes_order Below Below sx sy bx by = same_list (replicate 64 0)
bytes_order Below (Bytes b) sx sy bx by = low 63 (63 - length b) 0 (length b + 1) 0 b (omega arith) (omega arith)
bytes_order Below (After b) sx sy bx by = low 63 (63 - length b) 0 (254 - length b) 255 b (omega arith) (omega arith)
bytes_order Below Above sx sy bx by = low 63 63 0 255 255 [] (omega arith) (omega arith)
bytes_order (Bytes a) Below sx sy bx by =
    turned (packed_bytes (Bytes a)) (packed_bytes Below) Less (low 63 (63 - length a) 0 (length a + 1) 0 a (omega arith) (omega arith))
bytes_order (Bytes a) (Bytes b) sx sy bx by =
    bytes_bytes a b (63 - length a) (63 - length b) (length a + 1) (length b + 1) (omega arith) (omega arith) ∙ bytes_cmp a b
bytes_order (Bytes a) (After b) sx sy bx by =
    bytes_after a b (63 - length a) (63 - length b) (length a + 1) (254 - length b) (omega arith) (omega arith) bx
bytes_order (Bytes a) Above sx sy bx by = high 63 (63 - length a) (length a + 1) 255 0 a (omega arith) bx (omega arith) (omega arith)
bytes_order (After a) Below sx sy bx by =
    turned (packed_bytes (After a)) (packed_bytes Below) Less (low 63 (63 - length a) 0 (254 - length a) 255 a (omega arith) (omega arith))
bytes_order (After a) (Bytes b) sx sy bx by =
    turned (packed_bytes (After a)) (packed_bytes (Bytes b)) (key_cmp (Bytes b) (After a))
    (bytes_after b a (63 - length b) (63 - length a) (length b + 1) (254 - length a) (omega arith) (omega arith) by)
    ∙ sym (key_total.antisymm (After a) (Bytes b))
bytes_order (After a) (After b) sx sy bx by =
    after_after a b (63 - length a) (63 - length b) (254 - length a) (254 - length b) (omega arith) (omega arith) bx by
bytes_order (After a) Above sx sy bx by = high 63 (63 - length a) (254 - length a) 255 255 a (omega arith) bx (omega arith) (omega arith)
bytes_order Above Below sx sy bx by = turned (packed_bytes Above) (packed_bytes Below) Less (low 63 63 0 255 255 [] (omega arith) (omega arith))
bytes_order Above (Bytes b) sx sy bx by =
    turned (packed_bytes Above) (packed_bytes (Bytes b)) Less (high 63 (63 - length b) (length b + 1) 255 0 b (omega arith) by (omega arith) (omega arith))
bytes_order Above (After b) sx sy bx by =
    turned (packed_bytes Above) (packed_bytes (After b)) Less (high 63 (63 - length b) (254 - length b) 255 255 b (omega arith) by (omega arith) (omega arith))
bytes_order Above Above sx sy bx by = same_list (replicate 64 255)

filled_length : (bytes : List ℕ) (filling code : ℕ) → length bytes ≤ 63 → length (filled bytes filling code) ≡ 64
filled_length bytes filling code le =
    omega (arith, length-append bytes (replicate (63 - length bytes) filling ++ code ∷ []), length-append (replicate (63 - length bytes) filling) (code ∷ []), length-replicate (63 - length bytes) filling)

pub packed_length : (key : Key) → IsShort key → length (packed_bytes key) ≡ 64
packed_length Below short = length-replicate {A = ℕ} 64 0
packed_length (Bytes b) short = filled_length b 0 (length b + 1) short
packed_length (After b) short = filled_length b 255 (254 - length b) short
packed_length Above short = length-replicate {A = ℕ} 64 255

filled_small : (bytes : List ℕ) (filling code : ℕ) → AreBytes bytes → filling < 256 → code < 256 → AreBytes (filled bytes filling code)
filled_small bytes filling code h f c =
    All-append IsByte bytes (replicate (63 - length bytes) filling ++ code ∷ []) h
    (All-append IsByte (replicate (63 - length bytes) filling) (code ∷ []) (All-replicate IsByte (63 - length bytes) filling f) (All-cons IsByte code [] c (All-nil IsByte)))

pub packed_small : (key : Key) → IsShort key → IsOfBytes key → AreBytes (packed_bytes key)
packed_small Below short small = All-replicate IsByte 64 0 (omega arith)
packed_small (Bytes b) short small = filled_small b 0 (length b + 1) small (omega arith) (omega arith)
packed_small (After b) short small = filled_small b 255 (254 - length b) small (omega arith) (omega arith)
packed_small Above short small = All-replicate IsByte 64 255 (omega arith)
