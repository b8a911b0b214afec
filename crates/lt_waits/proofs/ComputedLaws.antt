-- The walk that is computed is the least.
use Rattle.std.proofs.Common.{◌≡◌, ℕ, zero, suc, ◌+◌, ◌≤◌, List, [], ◌∷◌, map, length, Option, Some, None, Bool, true, false, eqb, eqb-true, if◌then◌else◌, ◌⊎◌, Contains, refl, sym, ap, subst, ◌∙◌, inl, inr, arith}
use Rattle.std.specs.Prelude.{MatchOption, filter}
use Rattle.std.specs.List.{flat_map}
use Rattle.std.specs.Ordering.{nat_cmp, is_le}
use Rattle.std.specs.Cmp.Lexicographic.{slice_cmp}
use Rattle.std.proofs.lemmas.Bool.{cases_lt, eqb-false, eq-eqb}
use Rattle.std.proofs.lemmas.List.Elements.{Contains-append_left, Contains-append_right, Contains-append_cases}
use Rattle.lt_waits.specs.declared.wait.Wait.{Wait}
use Rattle.lt_waits.specs.Walks.{IsEdge, IsWay, IsClosedWalk, IsAtMost, IsLeastWalk, ways, least_from, least_of, shortest}
use Rattle.lt_waits.proofs.OrderLaws.{at_most_itself, at_most_then, at_most_either}

-- Elements of lists.

pub contains_cons : {X : Type 0} (x : X) (xs : List X) (y : X) → Contains (x ∷ xs) y → (x ≡ y) ⊎ Contains xs y
contains_cons x xs y (zero, below, at) = inl at
contains_cons x xs y (suc k, below, at) = inr (k, omega arith, at)

contains_here : {X : Type 0} (x : X) (xs : List X) → Contains (x ∷ xs) x
contains_here x xs = (0, omega arith, refl)

contains_later : {X : Type 0} (x : X) (xs : List X) (y : X) → Contains xs y → Contains (x ∷ xs) y
contains_later x xs y has = (suc has.0, omega (arith, has.1), has.2)

contains_map : {X Y : Type 0} (f : X → Y) (xs : List X) (x : X) → Contains xs x → Contains (map f xs) (f x)
contains_map f [] x has = absurd (omega (arith, has.1))
contains_map f (y ∷ xs) x has = elim (contains_cons y xs x has) [
  | inl same ↦ subst (λ z. Contains (map f (y ∷ xs)) (f z)) same (contains_here (f y) (map f xs))
  | inr later ↦ contains_later (f y) (map f xs) (f x) (contains_map f xs x later)
]

map_contains : {X Y : Type 0} (f : X → Y) (xs : List X) (y : Y) → Contains (map f xs) y → (x : X) × Contains xs x × (f x ≡ y)
map_contains f [] y has = absurd (omega (arith, has.1))
map_contains f (x ∷ xs) y has = elim (contains_cons (f x) (map f xs) y has) [
  | inl same ↦ (x, contains_here x xs, same)
  | inr later ↦ (let of = map_contains f xs y later in (of.0, contains_later x xs of.0 of.1, of.2))
]

contains_flat : {X Y : Type 0} (f : X → List Y) (xs : List X) (x : X) (y : Y) → Contains xs x → Contains (f x) y → Contains (flat_map f xs) y
contains_flat f [] x y has inside = absurd (omega (arith, has.1))
contains_flat f (z ∷ xs) x y has inside = elim (contains_cons z xs x has) [
  | inl same ↦ Contains-append_left (f z) (flat_map f xs) y (subst (λ w. Contains (f w) y) (sym same) inside)
  | inr later ↦ Contains-append_right (f z) (flat_map f xs) y (contains_flat f xs x y later inside)
]

flat_contains : {X Y : Type 0} (f : X → List Y) (xs : List X) (y : Y) → Contains (flat_map f xs) y → (x : X) × Contains xs x × Contains (f x) y
flat_contains f [] y has = absurd (omega (arith, has.1))
flat_contains f (x ∷ xs) y has = elim (Contains-append_cases (f x) (flat_map f xs) y has) [
  | inl here ↦ (x, contains_here x xs, here)
  | inr later ↦ (let of = flat_contains f xs y later in (of.0, contains_later x xs of.0 of.1, of.2))
]

contains_filter : {X : Type 0} (test : X → Bool) (xs : List X) (x : X) → Contains xs x → test x ≡ true → Contains (filter test xs) x
contains_filter test [] x has passes = absurd (omega (arith, has.1))
contains_filter test (y ∷ xs) x has passes = by_test (test y) refl (contains_cons y xs x has) (λ later. contains_filter test xs x later passes)
  where
    by_test : (b : Bool) → test y ≡ b → (y ≡ x) ⊎ Contains xs x → (Contains xs x → Contains (filter test xs) x) → Contains (if b then y ∷ filter test xs else filter test xs) x
    by_test true e (inl same) rest = subst (λ z. Contains (y ∷ filter test xs) z) same (contains_here y (filter test xs))
    by_test true e (inr later) rest = contains_later y (filter test xs) x (rest later)
    by_test false e (inl same) rest = absurd (let no : false ≡ true → ⊥ = λ e. cc in no (sym e ∙ ap test same ∙ passes))
    by_test false e (inr later) rest = rest later

filter_contains : {X : Type 0} (test : X → Bool) (xs : List X) (x : X) → Contains (filter test xs) x → Contains xs x × (test x ≡ true)
filter_contains test [] x has = absurd (omega (arith, has.1))
filter_contains test (y ∷ xs) x has = by_test (test y) refl has (filter_contains test xs x)
  where
    by_test : (b : Bool) → test y ≡ b → Contains (if b then y ∷ filter test xs else filter test xs) x → (Contains (filter test xs) x → Contains xs x × (test x ≡ true)) → Contains (y ∷ xs) x × (test x ≡ true)
    by_test true e h rest = elim (contains_cons y (filter test xs) x h) [
      | inl same ↦ (subst (λ z. Contains (y ∷ xs) z) same (contains_here y xs), ap test (sym same) ∙ e)
      | inr later ↦ (let of = rest later in (contains_later y xs x of.0, of.1))
    ]
    by_test false e h rest = (let of = rest h in (contains_later y xs x of.0, of.1))

-- All ways of so many edges, and no others.

pub ways_are : (n : ℕ) (edges : List Wait) (from to : ℕ) (way : List ℕ) → Contains (ways n edges from to) way → IsWay edges from way to × (length way ≡ n)
ways_are zero edges from to way has = at_end (eqb from to) refl has
  where
    at_end : (b : Bool) → eqb from to ≡ b → Contains (if b then [] ∷ [] else []) way → IsWay edges from way to × (length way ≡ 0)
    at_end true e h = elim (contains_cons [] [] way h) [
      | inl same ↦ subst (λ w. IsWay edges from w to × (length w ≡ 0)) same (eqb-true from to e, refl)
      | inr nowhere ↦ absurd (omega (arith, nowhere.1))
    ]
    at_end false e h = absurd (omega (arith, h.1))
ways_are (suc n) edges from to way has =
    let by = flat_contains (λ e. map (λ way. e.holder ∷ way) (ways n edges e.holder to)) (filter (λ e. eqb e.waiter from) edges) way has in
    let edge = filter_contains (λ e. eqb e.waiter from) edges by.0 by.1 in
    let rest = map_contains (λ way. (by.0).holder ∷ way) (ways n edges (by.0).holder to) way by.2 in
    let is = ways_are n edges (by.0).holder to rest.0 rest.1 in
    subst (λ w. IsWay edges from w to × (length w ≡ suc n)) rest.2
    ((subst (λ x. IsEdge edges x (by.0).holder) (eqb-true (by.0).waiter from edge.1) edge.0, is.0), ap suc is.1)

pub are_ways : (edges : List Wait) (way : List ℕ) (from to : ℕ) → IsWay edges from way to → Contains (ways (length way) edges from to) way
are_ways edges [] from to way = at_end (eqb from to) refl
  where
    at_end : (b : Bool) → eqb from to ≡ b → Contains {X = List ℕ} (if b then [] ∷ [] else []) []
    at_end true e = contains_here [] []
    at_end false e = absurd (eqb-false from to e way)
are_ways edges (next ∷ more) from to way =
    contains_flat (λ e. map (λ way. e.holder ∷ way) (ways (length more) edges e.holder to)) (filter (λ e. eqb e.waiter from) edges) (record { waiter = from; holder = next }) (next ∷ more)
    (contains_filter (λ e. eqb e.waiter from) edges (record { waiter = from; holder = next }) way.0 (eq-eqb from from refl))
    (contains_map (λ way. next ∷ way) (ways (length more) edges next to) more (are_ways edges more next to way.1))

-- The least of a list.

pub least_from_is : (best : List ℕ) (ws : List (List ℕ)) → Contains (best ∷ ws) (least_from best ws) × ((w : List ℕ) → Contains (best ∷ ws) w → IsAtMost (least_from best ws) w)
least_from_is best [] = (
  contains_here best [],
  λ w has. elim (contains_cons best [] w has) [
    | inl same ↦ subst (λ v. IsAtMost best v) same (at_most_itself best)
    | inr nowhere ↦ absurd (omega (arith, nowhere.1))
  ],
)
least_from_is best (way ∷ ws) = by_test (is_le (slice_cmp nat_cmp best way)) refl (least_from_is best ws) (least_from_is way ws)
  where
    by_test : (b : Bool) → is_le (slice_cmp nat_cmp best way) ≡ b → Contains (best ∷ ws) (least_from best ws) × ((w : List ℕ) → Contains (best ∷ ws) w → IsAtMost (least_from best ws) w) → Contains (way ∷ ws) (least_from way ws) × ((w : List ℕ) → Contains (way ∷ ws) w → IsAtMost (least_from way ws) w) → Contains (best ∷ way ∷ ws) (least_from (if b then best else way) ws) × ((w : List ℕ) → Contains (best ∷ way ∷ ws) w → IsAtMost (least_from (if b then best else way) ws) w)
    by_test true e one two = (
      (elim (contains_cons best ws (least_from best ws) one.0) [
        | inl same ↦ subst (λ v. Contains (best ∷ way ∷ ws) v) same (contains_here best (way ∷ ws))
        | inr later ↦ contains_later best (way ∷ ws) (least_from best ws) (contains_later way ws (least_from best ws) later)
      ]),
      λ w has. elim (contains_cons best (way ∷ ws) w has) [
        | inl same ↦ subst (λ v. IsAtMost (least_from best ws) v) same (one.1 best (contains_here best ws))
        | inr behind ↦ elim (contains_cons way ws w behind) [
          | inl same ↦ at_most_then (least_from best ws) best w (one.1 best (contains_here best ws)) (subst (λ v. IsAtMost best v) same e)
          | inr later ↦ one.1 w (contains_later best ws w later)
        ]
      ],
    )
    by_test false e one two = (
      contains_later best (way ∷ ws) (least_from way ws) two.0,
      λ w has. elim (contains_cons best (way ∷ ws) w has) [
        | inl same ↦ at_most_then (least_from way ws) way w (two.1 way (contains_here way ws)) (subst (λ v. IsAtMost way v) same (at_most_either best way e))
        | inr behind ↦ two.1 w behind
      ],
    )

-- Closed walks and ways.

closed_of : (edges : List Wait) (txn : ℕ) (way : List ℕ) → IsWay edges txn way txn → 1 ≤ length way → IsClosedWalk edges txn (txn ∷ way)
closed_of edges txn [] way some = absurd (omega (arith, some))
closed_of edges txn (next ∷ more) way some = (refl, way)

pub of_closed : (edges : List Wait) (txn : ℕ) (walk : List ℕ) → IsClosedWalk edges txn walk → (way : List ℕ) × (walk ≡ txn ∷ way) × IsWay edges txn way txn × (1 ≤ length way)
of_closed edges txn [] closed = absurd closed
of_closed edges txn (first ∷ []) closed = absurd closed
of_closed edges txn (first ∷ next ∷ more) closed = (next ∷ more, ap (λ x. x ∷ next ∷ more) closed.0, closed.1, omega arith)

pub shortest_is : (n count : ℕ) (edges : List Wait) (txn : ℕ) → 1 ≤ count → ((way : List ℕ) → IsWay edges txn way txn → 1 ≤ length way → count ≤ length way) → MatchOption (shortest n count edges txn) ((way : List ℕ) → IsWay edges txn way txn → 1 ≤ length way → count + n ≤ length way) (λ walk. IsLeastWalk edges txn walk)
shortest_is zero count edges txn some none = λ way is long. (let least : count ≤ length way = none way is long in omega (arith, least))
shortest_is (suc n) count edges txn some none = by_ways (ways count edges txn txn) refl (shortest_is n (suc count) edges txn (omega arith))
  where
    by_ways : (l : List (List ℕ)) → ways count edges txn txn ≡ l → (((way : List ℕ) → IsWay edges txn way txn → 1 ≤ length way → suc count ≤ length way) → MatchOption (shortest n (suc count) edges txn) ((way : List ℕ) → IsWay edges txn way txn → 1 ≤ length way → suc count + n ≤ length way) (λ walk. IsLeastWalk edges txn walk)) → MatchOption (least_of (map (λ way. txn ∷ way) l) (shortest n (suc count) edges txn)) ((way : List ℕ) → IsWay edges txn way txn → 1 ≤ length way → count + suc n ≤ length way) (λ walk. IsLeastWalk edges txn walk)
    by_ways [] e rest = further (shortest n (suc count) edges txn) (rest (λ way is long. longer way is (none way is long)))
      where
        longer : (way : List ℕ) → IsWay edges txn way txn → count ≤ length way → suc count ≤ length way
        longer way is least = elim (cases_lt count (length way)) [
          | inl less ↦ omega (arith, less)
          | inr more ↦ (let same : length way ≡ count = omega (arith, least, more) in
              let has : Contains [] way = subst (λ l. Contains l way) e (subst (λ m. Contains (ways m edges txn txn) way) same (are_ways edges way txn txn is)) in
              absurd (omega (arith, has.1)))
        ]

        further : (o : Option (List ℕ)) → MatchOption o ((way : List ℕ) → IsWay edges txn way txn → 1 ≤ length way → suc count + n ≤ length way) (λ walk. IsLeastWalk edges txn walk) → MatchOption o ((way : List ℕ) → IsWay edges txn way txn → 1 ≤ length way → count + suc n ≤ length way) (λ walk. IsLeastWalk edges txn walk)
        further None h = λ way is long. (let more : suc count + n ≤ length way = h way is long in omega (arith, more))
        further (Some walk) h = h
    by_ways (w ∷ ws) e rest =
        let least = least_from_is (txn ∷ w) (map (λ way. txn ∷ way) ws) in
        let of = map_contains (λ way. txn ∷ way) (w ∷ ws) (least_from (txn ∷ w) (map (λ way. txn ∷ way) ws)) least.0 in
        let is = ways_are count edges txn txn of.0 (subst (λ l. Contains l of.0) (sym e) of.1) in
        let long : length (least_from (txn ∷ w) (map (λ way. txn ∷ way) ws)) ≡ suc count = ap length (sym of.2) ∙ ap suc is.1 in
        record {
          closed = subst (λ walk. IsClosedWalk edges txn walk) of.2 (closed_of edges txn of.0 is.0 (omega (arith, is.1, some)));
          fewest = λ other closed.
              let other_way = of_closed edges txn other closed in
              let count_least : count ≤ length other_way.0 = none other_way.0 other_way.2 other_way.3 in
              omega (arith, long, count_least, ap length other_way.1);
          least = λ other closed as_long.
              let other_way = of_closed edges txn other closed in
              let same : length other_way.0 ≡ count = omega (arith, long, as_long, ap length other_way.1) in
              let among : Contains (w ∷ ws) other_way.0 = subst (λ l. Contains l other_way.0) e (subst (λ m. Contains (ways m edges txn txn) other_way.0) same (are_ways edges other_way.0 txn txn other_way.2)) in
              least.1 other (subst (λ v. Contains (map (λ way. txn ∷ way) (w ∷ ws)) v) (sym other_way.1) (contains_map (λ way. txn ∷ way) (w ∷ ws) other_way.0 among));
        }
