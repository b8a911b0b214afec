-- A loop that writes what a function makes of each item of a list.
use Rattle.std.proofs.Common.{◌≡◌, ℕ, ◌+◌, ◌<◌, List, [], ◌∷◌, ◌++◌, length, take, map, get_or, sym, ap, ◌∙◌, arith}
use Rattle.std.proofs.Math.ListN.{set}
use Rattle.std.proofs.lemmas.List.{take_all, take_more, take_more_set, map-append}

pub one_more_mapped : {A B : Type 0} (f : A → B) (xs : List A) (ys : List B) (i : ℕ) (d : A)
    → take i ys ≡ map f (take i xs) → i < length xs → i < length ys → take (i + 1) (set ys i (f (get_or xs i d))) ≡ map f (take (i + 1) xs)
one_more_mapped f xs ys i d so_far in_xs in_ys =
    take_more_set ys i (f (get_or xs i d)) in_ys
    ∙ (ap (λ l. l ++ f (get_or xs i d) ∷ []) so_far
    ∙ (sym (map-append f (take i xs) (get_or xs i d ∷ [])) ∙ ap (map f) (sym (take_more xs i d in_xs))))

pub all_mapped : {A B : Type 0} (f : A → B) (xs : List A) (ys : List B) (n : ℕ)
    → take n ys ≡ map f (take n xs) → length xs ≡ n → length ys ≡ n → ys ≡ map f xs
all_mapped f xs ys n done ex ey =
    sym (take_all n ys (omega (arith, ey))) ∙ (done ∙ ap (map f) (take_all n xs (omega (arith, ex))))
