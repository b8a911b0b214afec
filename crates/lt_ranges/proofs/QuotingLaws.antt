-- Texts between quotation marks.
use Rattle.std.proofs.Common.{◌≡◌, ℕ, ◌+◌, ◌-◌, ◌≤◌, List, [], ◌∷◌, ◌++◌, length, take, drop, get_or, refl, ap, ◌∙◌, arith, length-append}
use Rattle.std.proofs.lemmas.Grind.{common_steps}
use Rattle.std.proofs.lemmas.List.{get_or_at, take_more, append_cancel_right}

-- a text between two quotation marks begins and ends with one
pub quoted_begins : (text inside : List ℕ) → text ≡ 34 ∷ (inside ++ 34 ∷ []) → get_or text 0 0 ≡ 34
quoted_begins text inside e = ap (λ t. get_or t 0 0) e

pub quoted_length : (text inside : List ℕ) → text ≡ 34 ∷ (inside ++ 34 ∷ []) → length text ≡ length inside + 2
quoted_length text inside e = omega (arith, ap length e, length-append inside (34 ∷ []))

pub quoted_ends : (text inside : List ℕ) → text ≡ 34 ∷ (inside ++ 34 ∷ []) → get_or text (length text - 1) 0 ≡ 34
quoted_ends text inside e =
    ap (λ t. get_or t (length text - 1) 0) e
    ∙ get_or_at (34 ∷ inside) 34 [] 0 (length text - 1) (omega (arith, quoted_length text inside e))

-- a text that begins and ends with a quotation mark stands between two
pub quoted_by_ends : (text : List ℕ) → 2 ≤ length text → get_or text 0 0 ≡ 34 → get_or text (length text - 1) 0 ≡ 34 → text ≡ 34 ∷ (take (length text - 1 - 1) (drop 1 text) ++ 34 ∷ [])
quoted_by_ends [] h b e = absurd (omega arith)
quoted_by_ends (x ∷ xs) h b e = grind (arith, common_steps)

-- what stands inside is told by the whole
pub same_inside : (xs ys : List ℕ) → 34 ∷ (xs ++ 34 ∷ []) ≡ 34 ∷ (ys ++ 34 ∷ []) → xs ≡ ys
same_inside xs ys e =
    let insides : xs ++ 34 ∷ [] ≡ ys ++ 34 ∷ [] = cc in
    append_cancel_right xs ys (34 ∷ []) insides

-- two texts with one last character
pub same_front : (xs ys : List ℕ) (a b : ℕ) → xs ++ a ∷ [] ≡ ys ++ b ∷ [] → (xs ≡ ys) × (a ≡ b)
same_front [] [] a b e = (refl, cc)
same_front [] (y ∷ ys) a b e = absurd (omega (arith, ap length e, length-append ys (b ∷ [])))
same_front (x ∷ xs) [] a b e = absurd (omega (arith, ap length e, length-append xs (a ∷ [])))
same_front (x ∷ xs) (y ∷ ys) a b e =
    let tails : xs ++ a ∷ [] ≡ ys ++ b ∷ [] = cc in
    let heads : x ≡ y = cc in
    let rest = same_front xs ys a b tails in
    ((λ i. heads i ∷ rest.0 i), rest.1)

-- a text that ends with a star is what stands before it, and the star
pub starred_by_end : (text : List ℕ) → 1 ≤ length text → get_or text (length text - 1) 0 ≡ 42 → text ≡ take (length text - 1) text ++ 42 ∷ []
starred_by_end text h e = grind (arith, common_steps, take_more text (length text - 1) 0)
