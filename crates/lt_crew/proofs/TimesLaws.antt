-- Lists of indexes, and how often each stands in them.
use Rattle.std.proofs.Common.{◌≡◌, ◌≢◌, ◌⊎◌, inl, inr, ℕ, zero, suc, ◌+◌, ◌*◌, ◌<◌, ◌≤◌, List, [], ◌∷◌, ◌++◌, length, get_or, refl, sym, ap, subst, ◌∙◌, arith}
use Rattle.std.specs.Prelude.{nat_eq}
use Rattle.std.specs.List.{AllByRecursion}
use Rattle.std.proofs.lemmas.Bool.{cases_eq}
use Rattle.lt_deal.specs.Rule.{times, weight}
use Rattle.lt_deal.proofs.Lists.{times_append, weight_same, weight_else}
use Rattle.lt_crew.specs.Crew.{sum_to}
use Rattle.lt_crew.proofs.SumLaws.{sum_same}

pub all_append : (P : ℕ → Type 0) (xs ys : List ℕ) → AllByRecursion P xs → AllByRecursion P ys → AllByRecursion P (xs ++ ys)
all_append P [] ys all rest = rest
all_append P (x ∷ xs) ys all rest = (all.0, all_append P xs ys all.1 rest)

pub all_at : (P : ℕ → Type 0) (xs : List ℕ) → AllByRecursion P xs → (j d : ℕ) → j < length xs → P (get_or xs j d)
all_at P [] all j d inside = absurd (omega arith)
all_at P (x ∷ xs) all zero d inside = all.0
all_at P (x ∷ xs) all (suc j) d inside = all_at P xs all.1 j d (omega arith)

-- what stands at a place stands there once at least
pub times_here : (xs : List ℕ) (j d : ℕ) → j < length xs → 0 < times (get_or xs j d) xs
times_here [] j d inside = absurd (omega arith)
times_here (x ∷ xs) zero d inside = let one = weight_same x in omega arith
times_here (x ∷ xs) (suc j) d inside = let k = times_here xs j d (omega arith) in omega arith

-- and at two places twice
pub once_same : (xs : List ℕ) → ((k : ℕ) → times k xs ≤ 1) → (i j d : ℕ) → i < length xs → j < length xs →
    get_or xs i d ≡ get_or xs j d → i ≡ j
once_same [] once i j d in_i in_j same = absurd (omega arith)
once_same (x ∷ xs) once zero zero d in_i in_j same = refl
once_same (x ∷ xs) once zero (suc j) d in_i in_j same =
    let there : 0 < times x xs = subst (λ (n : ℕ). 0 < times n xs) (sym same) (times_here xs j d (omega arith)) in
    let one = weight_same x in
    let most = once x in
    absurd (omega arith)
once_same (x ∷ xs) once (suc i) zero d in_i in_j same =
    let there : 0 < times x xs = subst (λ (n : ℕ). 0 < times n xs) same (times_here xs i d (omega arith)) in
    let one = weight_same x in
    let most = once x in
    absurd (omega arith)
once_same (x ∷ xs) once (suc i) (suc j) d in_i in_j same =
    ap suc (once_same xs (λ k. let most = once k in omega arith) i j d (omega arith) (omega arith) same)

-- where it stands
pub place_of : (k : ℕ) (xs : List ℕ) → 0 < times k xs → (j : ℕ) × (j < length xs) × ((d : ℕ) → get_or xs j d ≡ k)
place_of k [] some = absurd (omega arith)
place_of k (x ∷ xs) some = by_test (cases_eq x k) (place_of k xs)
  where
    by_test : (x ≡ k) ⊎ (x ≢ k) → (0 < times k xs → (j : ℕ) × (j < length xs) × ((d : ℕ) → get_or xs j d ≡ k)) →
        (j : ℕ) × (j < length (x ∷ xs)) × ((d : ℕ) → get_or (x ∷ xs) j d ≡ k)
    by_test (inl same) later = (0, omega arith, λ d. same)
    by_test (inr differs) later =
        let none = weight_else x k differs in
        let r = later (omega arith) in
        (suc r.0, (let low = r.1 in omega arith), λ d. r.2 d)

-- Sums.

abbrev pub over : (ℕ → ℕ) → List ℕ → ℕ
over f [] = 0
over f (x ∷ xs) = f x + over f xs

pub over_append : (f : ℕ → ℕ) (xs ys : List ℕ) → over f (xs ++ ys) ≡ over f xs + over f ys
over_append f [] ys = omega arith
over_append f (x ∷ xs) ys = omega (arith, over_append f xs ys)

sum_plus : (f g : ℕ → ℕ) (n : ℕ) → sum_to (λ k. f k + g k) n ≡ sum_to f n + sum_to g n
sum_plus f g zero = omega arith
sum_plus f g (suc n) = omega (arith, sum_plus f g n)

sum_zero : (f : ℕ → ℕ) (n : ℕ) → ((k : ℕ) → k < n → f k ≡ 0) → sum_to f n ≡ 0
sum_zero f zero none = refl
sum_zero f (suc n) none = omega (arith, sum_zero f n (λ k low. none k (omega arith)), none n (omega arith))

sum_ones : (f : ℕ → ℕ) (n : ℕ) → ((k : ℕ) → f k ≤ 1) → sum_to f n ≤ n
sum_ones f zero one = omega arith
sum_ones f (suc n) one = omega (arith, sum_ones f n one, one n)

pub sum_shift : (f : ℕ → ℕ) (n : ℕ) → sum_to f (suc n) ≡ f 0 + sum_to (λ k. f (suc k)) n
sum_shift f zero = omega arith
sum_shift f (suc n) = omega (arith, sum_shift f n)

times_none : (w f : ℕ) → w ≡ 0 → w * f ≡ 0
times_none w f none = ap (λ (n : ℕ). n * f) none ∙ omega arith

times_once : (w f : ℕ) → w ≡ 1 → w * f ≡ f
times_once w f one = ap (λ (n : ℕ). n * f) one ∙ omega arith

sum_weight : (f : ℕ → ℕ) (x n : ℕ) → x < n → sum_to (λ k. weight (nat_eq x k) * f k) n ≡ f x
sum_weight f x zero low = absurd (omega arith)
sum_weight f x (suc n) low = by_place (cases_eq x n) (sum_weight f x n)
  where
    by_place : (x ≡ n) ⊎ (x ≢ n) → (x < n → sum_to (λ k. weight (nat_eq x k) * f k) n ≡ f x) →
        sum_to (λ k. weight (nat_eq x k) * f k) (suc n) ≡ f x
    by_place (inl same) later =
        let rest = sum_zero (λ k. weight (nat_eq x k) * f k) n (λ k below. times_none _ (f k) (weight_else x k (omega arith))) in
        let here = times_once (weight (nat_eq x n)) (f n) (subst (λ (m : ℕ). weight (nat_eq x m) ≡ 1) same (weight_same x)) in
        let last = ap f same in
        omega (arith, rest, here, last)
    by_place (inr differs) later =
        let rest = later (omega arith) in
        let here = times_none (weight (nat_eq x n)) (f n) (weight_else x n differs) in
        omega (arith, rest, here)

both_times : (w t f : ℕ) → (w + t) * f ≡ w * f + t * f
both_times w t f = omega arith

over_sum : (f : ℕ → ℕ) (xs : List ℕ) (n : ℕ) → AllByRecursion (λ k. k < n) xs → over f xs ≡ sum_to (λ k. times k xs * f k) n
over_sum f [] n all = sym (sum_zero (λ k. times k [] * f k) n (λ k low. times_none (times k []) (f k) refl))
over_sum f (x ∷ xs) n all =
    let split = sum_same (λ k. times k (x ∷ xs) * f k) (λ k. weight (nat_eq x k) * f k + times k xs * f k) n
    (λ k low. both_times (weight (nat_eq x k)) (times k xs) (f k)) in
    let sums = sum_plus (λ k. weight (nat_eq x k) * f k) (λ k. times k xs * f k) n in
    omega (arith, split, sums, sum_weight f x n all.0, over_sum f xs n all.1)

-- where each index stands there once, the sum is over all indexes
pub over_all : (f : ℕ → ℕ) (xs : List ℕ) (n : ℕ) → AllByRecursion (λ k. k < n) xs → ((k : ℕ) → k < n → times k xs ≡ 1) →
    over f xs ≡ sum_to f n
over_all f xs n all once = over_sum f xs n all ∙ sum_same (λ k. times k xs * f k) f n (λ k low. times_once (times k xs) (f k) (once k low))

length_over : (xs : List ℕ) → length xs ≡ over (λ k. 1) xs
length_over [] = refl
length_over (x ∷ xs) = omega (arith, length_over xs)

-- where none stands there twice, there are no more than indexes
pub few_once : (xs : List ℕ) (n : ℕ) → AllByRecursion (λ k. k < n) xs → ((k : ℕ) → times k xs ≤ 1) → length xs ≤ n
few_once xs n all once =
    let sums = over_sum (λ k. 1) xs n all in
    let ones = sum_ones (λ k. times k xs * 1) n (λ k. let one = once k in omega arith) in
    omega (arith, length_over xs, sums, ones)

-- Lists of indexes, one behind another.

abbrev pub flat : List (List ℕ) → List ℕ
flat [] = []
flat (xs ∷ cut) = xs ++ flat cut

abbrev pub cut_at : List (List ℕ) → ℕ → List ℕ
cut_at cut zero = []
cut_at cut (suc k) = get_or cut k []

sum_cut : (f : ℕ → ℕ) (cut : List (List ℕ)) → sum_to (λ k. over f (get_or cut k [])) (length cut) ≡ over f (flat cut)
sum_cut f [] = refl
sum_cut f (xs ∷ cut) =
    omega (arith, sum_shift (λ k. over f (get_or (xs ∷ cut) k [])) (length cut), over_append f xs (flat cut), sum_cut f cut)

pub sum_passes : (f : ℕ → ℕ) (cut : List (List ℕ)) → sum_to (λ pass. over f (cut_at cut pass)) (suc (length cut)) ≡ over f (flat cut)
sum_passes f cut = omega (arith, sum_shift (λ pass. over f (cut_at cut pass)) (length cut), sum_cut f cut)

flat_has : (i : ℕ) (cut : List (List ℕ)) (a : ℕ) → times i (get_or cut a []) ≤ times i (flat cut)
flat_has i [] a = omega arith
flat_has i (xs ∷ cut) zero = omega (arith, times_append i xs (flat cut))
flat_has i (xs ∷ cut) (suc a) = omega (arith, times_append i xs (flat cut), flat_has i cut a)

flat_two : (i : ℕ) (cut : List (List ℕ)) (a b : ℕ) → a ≢ b → times i (get_or cut a []) + times i (get_or cut b []) ≤ times i (flat cut)
flat_two i [] a b differs = omega arith
flat_two i (xs ∷ cut) zero zero differs = absurd (differs refl)
flat_two i (xs ∷ cut) zero (suc b) differs = omega (arith, times_append i xs (flat cut), flat_has i cut b)
flat_two i (xs ∷ cut) (suc a) zero differs = omega (arith, times_append i xs (flat cut), flat_has i cut a)
flat_two i (xs ∷ cut) (suc a) (suc b) differs = omega (arith, times_append i xs (flat cut), flat_two i cut a b (λ same. differs (ap suc same)))

-- one that stands in two of them is once in one
pub flat_apart : (cut : List (List ℕ)) → ((k : ℕ) → times k (flat cut) ≤ 1) → (i a b : ℕ) → 0 < times i (get_or cut a []) →
    0 < times i (get_or cut b []) → a ≡ b
flat_apart cut once i a b in_a in_b = by_test (cases_eq a b)
  where
    by_test : (a ≡ b) ⊎ (a ≢ b) → a ≡ b
    by_test (inl same) = same
    by_test (inr differs) = (let two = flat_two i cut a b differs in let most = once i in absurd (omega arith))

pub flat_place : (i : ℕ) (cut : List (List ℕ)) → 0 < times i (flat cut) → (a : ℕ) × (a < length cut) × (0 < times i (get_or cut a []))
flat_place i [] some = absurd (omega arith)
flat_place i (xs ∷ cut) some = by_test (cases_eq (times i xs) 0) (flat_place i cut)
  where
    by_test : (times i xs ≡ 0) ⊎ (times i xs ≢ 0) → (0 < times i (flat cut) →
        (a : ℕ) × (a < length cut) × (0 < times i (get_or cut a []))) →
        (a : ℕ) × (a < length (xs ∷ cut)) × (0 < times i (get_or (xs ∷ cut) a []))
    by_test (inl none) later =
        let sum = times_append i xs (flat cut) in
        let r = later (omega arith) in
        (suc r.0, (let low = r.1 in omega arith), r.2)
    by_test (inr here) later = (0, omega arith, omega arith)

pub flat_all : (P : ℕ → Type 0) (cut : List (List ℕ)) → ((a : ℕ) → a < length cut → AllByRecursion P (get_or cut a [])) →
    AllByRecursion P (flat cut)
flat_all P [] all = tt
flat_all P (xs ∷ cut) all = all_append P xs (flat cut) (all 0 (omega arith)) (flat_all P cut (λ a low. all (suc a) (omega arith)))

pub part_all : (P : ℕ → Type 0) (cut : List (List ℕ)) → AllByRecursion P (flat cut) → (a : ℕ) → AllByRecursion P (get_or cut a [])
part_all P [] all a = tt
part_all P (xs ∷ cut) all zero = first xs all
  where
    first : (ys : List ℕ) → AllByRecursion P (ys ++ flat cut) → AllByRecursion P ys
    first [] rest = tt
    first (y ∷ ys) rest = (rest.0, first ys rest.1)
part_all P (xs ∷ cut) all (suc a) = part_all P cut (last xs all) a
  where
    last : (ys : List ℕ) → AllByRecursion P (ys ++ flat cut) → AllByRecursion P (flat cut)
    last [] rest = rest
    last (y ∷ ys) rest = last ys rest.1
