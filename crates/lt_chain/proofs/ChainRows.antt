-- What the words of a chain's row show.
use Rattle.std.proofs.Common.{◌≡◌, ℕ, List, [], ◌∷◌, length, get_or, refl, ap, ap₂, ◌∙◌, arith}
use Rattle.std.specs.Prelude.{if◌then◌else◌}
use Rattle.lt_ranges.specs.declared.key.Key.{Key}
use Rattle.lt_ranges.specs.Interval.{Interval, IsInterval}
use Rattle.lt_ranges.specs.Packing.{IsValid, packed}
use Rattle.lt_ranges.proofs.PackingLaws.{unpacked_again}
use Rattle.lt_rows.specs.Nodes.{key_of, node_of, upwards, or_below}
use Rattle.lt_chain.specs.Images.{chain_node}

-- a list of eight numbers, number by number
pub eight : (xs : List ℕ) → length xs ≡ 8
    → (get_or xs 0 0 ∷ get_or xs 1 0 ∷ get_or xs 2 0 ∷ get_or xs 3 0 ∷ get_or xs 4 0 ∷ get_or xs 5 0 ∷ get_or xs 6 0 ∷ get_or xs 7 0 ∷ []) ≡ xs
eight [] e = absurd (omega arith)
eight (a ∷ []) e = absurd (omega arith)
eight (a ∷ b ∷ []) e = absurd (omega arith)
eight (a ∷ b ∷ c ∷ []) e = absurd (omega arith)
eight (a ∷ b ∷ c ∷ d ∷ []) e = absurd (omega arith)
eight (a ∷ b ∷ c ∷ d ∷ f ∷ []) e = absurd (omega arith)
eight (a ∷ b ∷ c ∷ d ∷ f ∷ g ∷ []) e = absurd (omega arith)
eight (a ∷ b ∷ c ∷ d ∷ f ∷ g ∷ h ∷ []) e = absurd (omega arith)
eight (a ∷ b ∷ c ∷ d ∷ f ∷ g ∷ h ∷ i ∷ []) e = refl
eight (a ∷ b ∷ c ∷ d ∷ f ∷ g ∷ h ∷ i ∷ j ∷ xs) e = absurd (omega arith)

packed_key : (xs : List ℕ) (key : Key) → xs ≡ packed key → IsValid key → key_of xs ≡ key
unfolding key_of
packed_key xs key e valid = ap key_of e ∙ ap or_below (unpacked_again key valid)

range_back : (range : Interval) → IsInterval range → upwards range.left range.right ≡ range
range_back range ordered = ap (λ b. record { left = range.left; right = if b then range.right else range.left }) ordered

-- the words of a chain's row hold its owner, its range and the link to the next row
pub chain_words : (owner next : ℕ) (range : Interval) (left right : Key) (a b : List ℕ) → left ≡ range.left → right ≡ range.right
    → IsInterval range → length a ≡ 8 → length b ≡ 8 → a ≡ packed left → b ≡ packed right → IsValid left → IsValid right
    → node_of (owner ∷ get_or a 0 0 ∷ get_or a 1 0 ∷ get_or a 2 0 ∷ get_or a 3 0 ∷ get_or a 4 0 ∷ get_or a 5 0 ∷ get_or a 6 0 ∷ get_or a 7 0
    ∷ get_or b 0 0 ∷ get_or b 1 0 ∷ get_or b 2 0 ∷ get_or b 3 0 ∷ get_or b 4 0 ∷ get_or b 5 0 ∷ get_or b 6 0 ∷ get_or b 7 0 ∷ next ∷ 0 ∷ 0 ∷ 0 ∷ [])
    ≡ chain_node owner range next
unfolding node_of
chain_words owner next range left right a b left_is right_is ordered long_a long_b a_is b_is valid_a valid_b =
    let l = ap key_of (eight a long_a) ∙ (packed_key a left a_is valid_a ∙ left_is) in
    let r = ap key_of (eight b long_b) ∙ (packed_key b right b_is valid_b ∙ right_is) in
    ap (λ (i : Interval). chain_node owner i next) (ap₂ (λ (x y : Key). upwards x y) l r ∙ range_back range ordered)
