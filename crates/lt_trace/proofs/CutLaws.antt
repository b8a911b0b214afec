-- A text is cut in one way at the first of a byte.
use Rattle.std.proofs.Common.{◌≡◌, ◌≢◌, ℕ, ◌+◌, ◌<◌, List, [], ◌∷◌, ◌++◌, ◌||◌, Bool, true, false, eqb, length, take, drop, get_or, sym, ap, ◌∙◌, refl, arith}
use Rattle.std.proofs.lemmas.Bool.{true≢false, eqb-false}
use Rattle.std.proofs.lemmas.Bool.Decides.{nat_tests}
use Rattle.lt_trace.specs.Grammar.{first_line}
use Rattle.std.proofs.lemmas.List.{take_more, drop_more, take-append-drop}
use Rattle.std.specs.List.{list_any}
use Rattle.lt_trace.specs.Cut.{Lacks}

eqb-no : (a b : ℕ) → a ≢ b → eqb a b ≡ false
eqb-no a b ne = grind (arith, nat_tests)

pub lacks_append : (b : ℕ) (xs ys : List ℕ) → Lacks b xs → Lacks b ys → Lacks b (xs ++ ys)
lacks_append b [] ys first second = second
lacks_append b (x ∷ xs) ys first second = (first.0, lacks_append b xs ys first.1 second)

-- a text with the byte doesn't lack it
pub lacks_not : (b : ℕ) (xs ys : List ℕ) → Lacks b (xs ++ b ∷ ys) → ⊥
lacks_not b [] ys lacks = lacks.0 refl
lacks_not b (x ∷ xs) ys lacks = lacks_not b xs ys lacks.1

pub cut_once : (b : ℕ) (xs ys us vs : List ℕ) → Lacks b xs → Lacks b ys → xs ++ b ∷ us ≡ ys ++ b ∷ vs → (xs ≡ ys) × (us ≡ vs)
cut_once b [] [] us vs xl yl e = (refl, cc)
cut_once b [] (y ∷ ys) us vs xl yl e = absurd (yl.0 cc)
cut_once b (x ∷ xs) [] us vs xl yl e = absurd (xl.0 cc)
cut_once b (x ∷ xs) (y ∷ ys) us vs xl yl e =
    let rest : xs ++ b ∷ us ≡ ys ++ b ∷ vs = cc in
    let once = cut_once b xs ys us vs xl.1 yl.1 rest in
    (cc, once.1)

-- one more byte that isn't it
pub lacks_more : (b : ℕ) (xs : List ℕ) (i : ℕ) → i < length xs → Lacks b (take i xs) → get_or xs i 0 ≢ b → Lacks b (take (i + 1) xs)
lacks_more b xs i h lacks other = rw (take_more xs i 0 h) (lacks_append b (take i xs) (get_or xs i 0 ∷ []) lacks (other, tt))

pub cut_at : (b : ℕ) (xs : List ℕ) (i : ℕ) → i < length xs → get_or xs i 0 ≡ b → xs ≡ take i xs ++ b ∷ drop (i + 1) xs
cut_at b xs i h is = sym (take-append-drop i xs) ∙ ap (λ ys. take i xs ++ ys) (drop_more xs i 0 h ∙ ap (λ y. y ∷ drop (i + 1) xs) is)

-- where no newline comes, all is one line without an end
pub first_line_all : (text : List ℕ) → Lacks 10 text → first_line text ≡ record { bytes = text; ended = false }
first_line_all [] lacks = refl
first_line_all (b ∷ bs) lacks = rw (eqb-no b 10 lacks.0, first_line_all bs lacks.1)

-- the line before the first newline
pub first_line_cut : (text rest : List ℕ) → Lacks 10 text → first_line (text ++ 10 ∷ rest) ≡ record { bytes = text; ended = true }
first_line_cut [] rest lacks = refl
first_line_cut (b ∷ bs) rest lacks = rw (eqb-no b 10 lacks.0, first_line_cut bs rest lacks.1)

-- whether a text has a byte is computed
pub lacks_by_test : (b : ℕ) (xs : List ℕ) → list_any (λ x. eqb x b) xs ≡ false → Lacks b xs
lacks_by_test b [] none = tt
lacks_by_test b (x ∷ xs) none = by_case (eqb x b) (λ other. eqb-false x b other) none (lacks_by_test b xs)
  where
    by_case : (same : Bool) → (same ≡ false → x ≢ b) → (same || list_any (λ y. eqb y b) xs) ≡ false → (list_any (λ y. eqb y b) xs ≡ false → Lacks b xs) → (x ≢ b) × Lacks b xs
    by_case true differs none rest = absurd (true≢false none)
    by_case false differs none rest = (differs refl, rest none)
