-- Ways, and the circle that they come to where each has a step on.
use Rattle.std.proofs.Common.{◌≡◌, ◌≢◌, ◌⊎◌, inl, inr, ℕ, zero, suc, ◌<◌, ◌≤◌, List, [], ◌∷◌, ◌++◌, Bool, true, false, not, ◌==◌, ◌||◌, if◌then◌else◌, length, refl, sym, subst, ◌∙◌, arith, eq-eqb}
use Rattle.std.specs.List.{AllByRecursion, filter}
use Rattle.std.proofs.lemmas.Bool.Decides.{nat_tests}
use Rattle.lt_ranges.specs.Numbers.{is_in}
use Rattle.lt_runner.specs.Clear.{IsWay, IsLong}

-- One way behind another.

pub way_both : (R : ℕ → ℕ → Type 0) (a b c : ℕ) (xs ys : List ℕ) → IsWay R a xs b → IsWay R b ys c → IsWay R a (xs ++ ys) c
way_both R a b c [] ys first second = subst (λ (n : ℕ). IsWay R n ys c) (sym first) second
way_both R a b c (x ∷ xs) ys first second = (first.0, way_both R x b c xs ys first.1 second)

pub long_way : (R : ℕ → ℕ → Type 0) (a b : ℕ) (xs : List ℕ) → IsLong R a xs b → IsWay R a xs b
long_way R a b [] long = absurd long
long_way R a b (x ∷ xs) long = long

pub long_behind : (R : ℕ → ℕ → Type 0) (a b c : ℕ) (xs ys : List ℕ) → IsWay R a xs b → IsLong R b ys c → IsLong R a (xs ++ ys) c
long_behind R a b c [] ys first second = subst (λ (n : ℕ). IsLong R n ys c) (sym first) second
long_behind R a b c (x ∷ xs) ys first second = (first.0, way_both R x b c xs ys first.1 (long_way R b c ys second))

pub long_before : (R : ℕ → ℕ → Type 0) (a b c : ℕ) (xs ys : List ℕ) → IsLong R a xs b → IsWay R b ys c → IsLong R a (xs ++ ys) c
long_before R a b c [] ys first second = absurd first
long_before R a b c (x ∷ xs) ys first second = (first.0, way_both R x b c xs ys first.1 second)

-- what is known of each on the way, is known of the last
pub last_has : (N : ℕ → Type 0) (R : ℕ → ℕ → Type 0) (from to : ℕ) (way : List ℕ) → AllByRecursion N way → IsLong R from way to → N to
last_has N R from to [] all long = absurd long
last_has N R from to (x ∷ []) all long = subst N long.1 all.0
last_has N R from to (x ∷ y ∷ ys) all long = last_has N R x to (y ∷ ys) all.1 long.1

-- other steps along the same way
pub way_by : (N : ℕ → Type 0) (R Q : ℕ → ℕ → Type 0) (from to : ℕ) (way : List ℕ) → ((a b : ℕ) → N a → N b → R a b → Q a b) → N from →
    AllByRecursion N way →
    IsWay R from way to → IsWay Q from way to
way_by N R Q from to [] each first all along = along
way_by N R Q from to (x ∷ xs) each first all along = (each from x first all.0 along.0, way_by N R Q x to xs each all.0 all.1 along.1)

pub circle_by : (N : ℕ → Type 0) (R Q : ℕ → ℕ → Type 0) (txn : ℕ) (way : List ℕ) → ((a b : ℕ) → N a → N b → R a b → Q a b) →
    AllByRecursion N way →
    IsLong R txn way txn → IsLong Q txn way txn
circle_by N R Q txn [] each all along = along
circle_by N R Q txn (x ∷ xs) each all along = way_by N R Q txn txn (x ∷ xs) each (last_has N R txn txn (x ∷ xs) all along) all along

-- A circle through a number, from that number on.

eq_of : (a b : ℕ) → (a == b) ≡ true → a ≡ b
eq_of a b e = grind (arith, nat_tests)

-- a way in two, at one of its numbers
pub record Parts (R : ℕ → ℕ → Type 0) (from at to : ℕ) : Type 0 where
  pub front : List ℕ
  pub back : List ℕ
  pub comes : IsLong R from front at
  pub goes : IsWay R at back to

parts : (R : ℕ → ℕ → Type 0) (from at to : ℕ) (way : List ℕ) → is_in at way ≡ true → IsWay R from way to → Parts R from at to
parts R from at to [] there along = absurd (let k : false ≡ true = there in cc)
parts R from at to (x ∷ xs) there along = by_test (x == at) refl there (λ h. parts R x at to xs h along.1)
  where
    by_test : (b : Bool) → (x == at) ≡ b → (b || is_in at xs) ≡ true → (is_in at xs ≡ true → Parts R x at to) → Parts R from at to
    by_test true e h later =
        let same = eq_of x at e in
        record { front = x ∷ []; back = xs; comes = (along.0, same); goes = subst (λ (n : ℕ). IsWay R n xs to) same along.1 }
    by_test false e h later =
        let rest = later h in
        record { front = x ∷ rest.front; back = rest.back; comes = (along.0, long_way R x at rest.front rest.comes); goes = rest.goes }

pub circle_at : (R : ℕ → ℕ → Type 0) (txn at : ℕ) (way : List ℕ) → is_in at way ≡ true → IsLong R txn way txn →
    (round : List ℕ) × IsLong R at round at
circle_at R txn at way there circle =
    let two = parts R txn at txn way there (long_way R txn txn way circle) in
    (two.back ++ two.front, long_behind R at txn at two.back two.front two.goes two.comes)

-- those that are none of these
pub none_of : (Of : ℕ → Type 0) (at : ℕ) (way : List ℕ) → is_in at way ≡ false → AllByRecursion (λ n. (n ≡ at) ⊎ Of n) way →
    AllByRecursion (λ n. (n ≢ at) × Of n) way
none_of Of at [] out all = tt
none_of Of at (x ∷ xs) out all = by_test (x == at) refl out (λ h. none_of Of at xs h all.1)
  where
    differs : (x == at) ≡ false → x ≢ at
    differs e same = let k : false ≡ true = sym e ∙ eq-eqb x at same in cc

    own : x ≢ at → (x ≡ at) ⊎ Of x → Of x
    own apart (inl same) = absurd (apart same)
    own apart (inr of) = of

    by_test : (b : Bool) → (x == at) ≡ b → (b || is_in at xs) ≡ false → (is_in at xs ≡ false → AllByRecursion (λ n. (n ≢ at) × Of n) xs) →
        AllByRecursion (λ n. (n ≢ at) × Of n) (x ∷ xs)
    by_test true e h later = absurd (let k : true ≡ false = h in cc)
    by_test false e h later = ((differs e, own (differs e) all.0), later h)

-- Where each has a step on, there is a circle.

abbrev without : ℕ → List ℕ → List ℕ
without n ns = filter (λ m. not (m == n)) ns

fewer : (n : ℕ) (ns : List ℕ) → length (without n ns) ≤ length ns
fewer n [] = omega arith
fewer n (m ∷ ms) = by_test (m == n) (fewer n ms)
  where
    by_test : (b : Bool) → length (without n ms) ≤ length ms → length (if not b then m ∷ without n ms else without n ms) ≤ suc (length ms)
    by_test true few = omega (arith, few)
    by_test false few = omega (arith, few)

one_fewer : (n : ℕ) (ns : List ℕ) → is_in n ns ≡ true → length (without n ns) < length ns
one_fewer n [] there = absurd (let k : false ≡ true = there in cc)
one_fewer n (m ∷ ms) there = by_test (m == n) there (λ h. one_fewer n ms h)
  where
    by_test : (b : Bool) → (b || is_in n ms) ≡ true → (is_in n ms ≡ true → length (without n ms) < length ms) →
        length (if not b then m ∷ without n ms else without n ms) < suc (length ms)
    by_test true h later = omega (arith, fewer n ms)
    by_test false h later = omega (arith, later h)

stays_in : (k n : ℕ) (ns : List ℕ) → k ≢ n → is_in k ns ≡ true → is_in k (without n ns) ≡ true
stays_in k n [] apart there = there
stays_in k n (m ∷ ms) apart there = by_tests (m == n) (m == k) refl refl there (λ h. stays_in k n ms apart h)
  where
    in_front : (b : Bool) → b ≡ true → (b || is_in k (without n ms)) ≡ true
    in_front true e = refl
    in_front false e = cc

    behind : (b : Bool) → is_in k (without n ms) ≡ true → (b || is_in k (without n ms)) ≡ true
    behind true e = refl
    behind false e = e

    by_tests : (b c : Bool) → (m == n) ≡ b → (m == k) ≡ c → (c || is_in k ms) ≡ true → (is_in k ms ≡ true → is_in k (without n ms) ≡ true) →
        is_in k (if not b then m ∷ without n ms else without n ms) ≡ true
    by_tests true true e f h later = absurd (apart (sym (eq_of m k f) ∙ eq_of m n e))
    by_tests true false e f h later = later h
    by_tests false true e f h later = in_front (m == k) f
    by_tests false false e f h later = behind (m == k) (later h)

-- a circle of one
pub record Circle (R : ℕ → ℕ → Type 0) : Type 0 where
  pub txn : ℕ
  pub way : List ℕ
  pub round : IsLong R txn way txn

-- each that has a step on was not reached yet, or a way goes from it to the one reached now
abbrev Reached : (ℕ → ℕ → Type 0) → List ℕ → ℕ → ℕ → Type 0
Reached R left now k = (is_in k left ≡ true) ⊎ ((way : List ℕ) × IsLong R k way now)

on_from : (R : ℕ → ℕ → Type 0) (left : List ℕ) (now next k : ℕ) (b : Bool) → (k == now) ≡ b → R now next → Reached R left now k →
    Reached R (without now left) next k
on_from R left now next k true e on r = inr (next ∷ [], (subst (λ (n : ℕ). R n next) (sym (eq_of k now e)) on, refl))
on_from R left now next k false e on (inl there) = inl (stays_in k now left (λ same. let x : false ≡ true = sym e ∙ eq-eqb k now same in cc) there)
on_from R left now next k false e on (inr (way, long)) = inr (way ++ next ∷ [], long_before R k now next way (next ∷ []) long (on, refl))

goes_on : (R : ℕ → ℕ → Type 0) (W : ℕ → Type 0) (fuel : ℕ) (left : List ℕ) (now : ℕ) → length left ≤ fuel →
    ((n : ℕ) → W n → (m : ℕ) × R n m × W m) →
    ((k : ℕ) → W k → Reached R left now k) → W now → Circle R
goes_on R W zero left now few step reached here_now = by_now (reached now here_now)
  where
    by_now : Reached R left now now → Circle R
    by_now (inr (way, long)) = record { txn = now; way = way; round = long }
    by_now (inl there) = absurd (omega (arith, few, one_fewer now left there))
goes_on R W (suc fuel) left now few step reached here_now =
    let next = step now here_now in
    by_now (reached now here_now) (λ enough. goes_on R W fuel (without now left) next.0 enough step (λ k w. on_from R left now next.0 k (k == now) refl next.1 (reached k w)) next.2)
  where
    by_now : Reached R left now now → (length (without now left) ≤ fuel → Circle R) → Circle R
    by_now (inr (way, long)) later = record { txn = now; way = way; round = long }
    by_now (inl there) later = later (omega (arith, few, one_fewer now left there))

pub circle_of : (R : ℕ → ℕ → Type 0) (W : ℕ → Type 0) (txns : List ℕ) (txn : ℕ) → ((n : ℕ) → W n → is_in n txns ≡ true) →
    ((n : ℕ) → W n → (m : ℕ) × R n m × W m) → W txn → Circle R
circle_of R W txns txn inside step here_now = goes_on R W (length txns) txns txn (omega arith) step (λ k w. inl (inside k w)) here_now
