-- A loop that copies a part of a list.
use Rattle.std.proofs.Common.{◌≡◌, ℕ, zero, suc, ◌+◌, ◌<◌, List, [], ◌∷◌, ◌++◌, length, take, drop, set, get_or, sym, ap, ◌∙◌, arith, length-drop}
use Rattle.std.proofs.lemmas.List.{take_all, take_more, take_more_set, get_or-drop}
use mathlib.Core.Option.{some, some-ne-none}
use lib.ListN.{get_elem?}

pub elem_below : (l : List ℕ) (i a : ℕ) → get_elem? l i ≡ some a → i < length l
elem_below [] i a e = absurd (some-ne-none a (sym e))
elem_below (x ∷ xs) zero a e = omega arith
elem_below (x ∷ xs) (suc i) a e = let h = elem_below xs i a e in omega arith

pub one_more_copied : (from to : List ℕ) (at i x : ℕ) → take i to ≡ take i (drop at from) → i < length to → at + i < length from
    → x ≡ get_or from (at + i) 0 → take (i + 1) (set to i x) ≡ take (i + 1) (drop at from)
one_more_copied from to at i x so_far in_to in_from is =
    take_more_set to i x in_to
    ∙ ((λ j. so_far j ++ (is ∙ sym (get_or-drop at from i 0)) j ∷ [])
    ∙ sym (take_more (drop at from) i 0 (omega (arith, length-drop at from))))

pub all_copied : (part to : List ℕ) (i n : ℕ) → take i to ≡ take i part → length to ≡ n → i ≡ n → to ≡ take n part
all_copied part to i n so_far long is = sym (take_all n to (omega (arith, long))) ∙ (ap (λ m. take m to) (sym is) ∙ (so_far ∙ ap (λ m. take m part) is))
