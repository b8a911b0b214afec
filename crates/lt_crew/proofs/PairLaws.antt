-- Lists whose elements are changed one by one.
use Rattle.std.proofs.Common.{zero, suc, [], ◌∷◌, ◌++◌, ◌≡◌, ◌≢◌, ◌⊎◌, ℕ, ◌+◌, ◌≤◌, ◌<◌, List, map, length, get_or, set, refl, sym, ap₂}
use Rattle.std.proofs.Common.{◌∙◌, arith, inl, inr}
use Rattle.std.specs.List.{All, AllByRecursion}
use Rattle.std.proofs.lemmas.Bool.{cases_eq}
use Rattle.std.proofs.lemmas.List.{get_or-set_same, get_or-set_other, length-set, get_or_default}
use Rattle.lt_crew.specs.Workers.{UpTo, EachPair, AllBelow}

module _ {X : Type 0} where
  pub up_to_none : (R : X → X → Type 0) (xs : List X) → UpTo R 0 xs xs
  up_to_none R xs = record { len = refl; below = λ k d h. absurd (omega arith); rest = λ k d h. refl }

  -- one more element
  pub up_to_more : (R : X → X → Type 0) (i : ℕ) (old cur : List X) (was x : X) → UpTo R i old cur → i < length cur → was ≡ get_or cur i was →
      R (get_or cur i was) x → UpTo R (i + 1) old (set cur i x)
  up_to_more R i old cur was x u h at r =
      let same : (d : X) → get_or old i d ≡ get_or cur i was = λ d. sym (u.rest i d (omega arith)) ∙ get_or_default cur i d was h in
      record {
        len = length-set cur i x ∙ u.len;
        below = λ k d p q. go k d (cases_eq k i) p q same;
        rest = λ k d p. let ne : k ≢ i = omega arith in get_or-set_other cur i k x d ne ∙ u.rest k d (omega arith);
      }
    where
      go : (k : ℕ) (d : X) → (k ≡ i) ⊎ (k ≢ i) → k < i + 1 → k < length old → ((e : X) → get_or old i e ≡ get_or cur i was) →
          R (get_or old k d) (get_or (set cur i x) k d)
      go k d (inl e) p q same = rw (e, get_or-set_same cur i x d h, same d) r
      go k d (inr ne) p q same = rw (get_or-set_other cur i k x d ne) (u.below k d (omega arith) q)

  -- one that is left as it is
  pub up_to_left : (R : X → X → Type 0) (i : ℕ) (old cur : List X) → UpTo R i old cur →
      ((d : X) → i < length old → R (get_or old i d) (get_or cur i d)) → UpTo R (i + 1) old cur
  up_to_left R i old cur u r =
      record { len = u.len; below = λ k d p q. go k d p q (cases_eq k i); rest = λ k d p. u.rest k d (omega arith) }
    where
      go : (k : ℕ) (d : X) → k < i + 1 → k < length old → (k ≡ i) ⊎ (k ≢ i) → R (get_or old k d) (get_or cur k d)
      go k d p q (inl e) = rw e (r d (omega (arith, e, q)))
      go k d p q (inr ne) = u.below k d (omega arith) q

  pub up_to_all : (R : X → X → Type 0) (n : ℕ) (old new : List X) → UpTo R n old new → length old ≤ n → EachPair R old new
  up_to_all R n old new u h = (u.len, λ k d p. u.below k d (omega arith) p)

  pub below_set : (P : X → Type 0) (i : ℕ) (xs : List X) (x : X) → AllBelow P i xs → P x → AllBelow P (i + 1) (set xs i x)
  below_set P i xs x a px k d p q = go (cases_eq k i)
    where
      go : (k ≡ i) ⊎ (k ≢ i) → P (get_or (set xs i x) k d)
      go (inl e) = rw (e, get_or-set_same xs i x d (rw (e, length-set) at q)) px
      go (inr ne) = rw (get_or-set_other xs i k x d ne) (a k d (omega arith) (rw length-set at q))

  pub below_weaker : (P Q : X → Type 0) (i : ℕ) (xs : List X) → ((x : X) → P x → Q x) → AllBelow P i xs → AllBelow Q i xs
  below_weaker P Q i xs w a k d p q = w _ (a k d p q)

  pub below_each : (P : X → Type 0) (n : ℕ) (xs : List X) → AllBelow P n xs → length xs ≤ n → AllByRecursion P xs
  below_each P n [] a few = tt
  below_each P n (x ∷ xs) a few = (
    a 0 x (omega (arith, few)) (omega arith),
    below_each P n xs (λ k d p q. a (suc k) d (omega (arith, q, few)) (omega (arith, q))) (omega (arith, few)),
  )

  pub all_more : (P : X → Type 0) (xs : List X) (x : X) → All P xs → P x → All P (xs ++ x ∷ [])
  all_more P [] x all px zero d inside = px
  all_more P [] x all px (suc k) d inside = absurd (omega (arith, inside))
  all_more P (y ∷ ys) x all px zero d inside = all 0 d (omega arith)
  all_more P (y ∷ ys) x all px (suc k) d inside = all_more P ys x (λ i e lt. all (suc i) e (omega (arith, lt))) px k d (omega (arith, inside))

-- one element more was handed on, and is in a list of its own
pub moved_on : {X Y : Type 0} (f : X → Y) (xs : List X) (x : X) (left rest all : List Y) → map f xs ++ left ≡ all → left ≡ f x ∷ rest →
    map f (xs ++ x ∷ []) ++ rest ≡ all
moved_on f [] x left rest all is next = sym next ∙ is
moved_on f (y ∷ ys) x left rest [] is next = cc
moved_on f (y ∷ ys) x left rest (z ∷ zs) is next =
    let first : f y ≡ z = cc in
    let later : map f ys ++ left ≡ zs = cc in
    ap₂ (λ a bs. a ∷ bs) first (moved_on f ys x left rest zs later next)
