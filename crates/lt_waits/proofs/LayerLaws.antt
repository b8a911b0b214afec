-- One holder of a layer opened, one layer more, and the end.
use Rattle.std.proofs.Common.{◌≡◌, ℕ, zero, suc, ◌+◌, ◌≤◌, ◌<◌, List, [], ◌∷◌, length, get_or, drop, Option, None, ◌⊎◌, Contains, refl, sym, subst, ◌∙◌, inl, inr, arith, drop-cons, add-one}
use Rattle.std.specs.Prelude.{is_none}
use Rattle.std.proofs.lemmas.Bool.{cases_lt}
use Rattle.std.proofs.lemmas.Option.{none-some}
use Rattle.std.proofs.lemmas.List.Elements.{All-nil, All-cons}
use Rattle.std.proofs.lemmas.List.{drop_all}
use Rattle.std.proofs.lemmas.List.Sums.{length-filter, count_by-le-length}
use Rattle.lt_waits.specs.declared.wait.Wait.{Wait}
use Rattle.lt_waits.specs.declared.search.Step.{Step}
use Rattle.lt_waits.specs.Steps.{IsNext, IsOpened, Grows, AddsOnly, IsSearch, IsHere, AreSteps, waiting}
use Rattle.lt_waits.proofs.StepLaws.{opened_grows}

contains_cons : (x : ℕ) (xs : List ℕ) (y : ℕ) → Contains (x ∷ xs) y → (y ≡ x) ⊎ Contains xs y
contains_cons x xs y (zero, below, at) = inl (sym at)
contains_cons x xs y (suc k, below, at) = inr (k, omega arith, at)

contains_none : (y : ℕ) → Contains [] y → ⊥
contains_none y has = absurd (omega (arith, has.1))

-- what is left by so few edges was left before
was_next : (txn count : ℕ) (f g : ℕ → Option Step) → AddsOnly count f g → (next n : ℕ) → n ≤ count → IsNext txn g next n → IsNext txn f next n
was_next txn count f g adds next n small is =
    elim is [
      | inl here ↦ inl here
      | inr by ↦ elim (adds next by.0 by.1) [
        | inl old ↦ inr (old.0, old.1, omega (arith, old.2, by.2))
        | inr new ↦ absurd (omega (arith, new, by.2, small))
      ]
    ]

pub here_more : (edges : List Wait) (txn count : ℕ) (f g : ℕ → Option Step) (layer : List ℕ) (i d holder : ℕ) → IsHere edges txn count f (drop i layer) → Grows f g → AddsOnly count f g → IsOpened edges g holder count → i < length layer → get_or layer i d ≡ holder → IsHere edges txn count g (drop (i + 1) layer)
here_more edges txn count f g layer i d holder here grows adds opened below at next is =
    elim (here next (was_next txn count f g adds next count (omega arith) is)) [
      | inl was ↦ inl (opened_grows edges f g grows next count was)
      | inr later ↦ elim (contains_cons holder (drop (i + 1) layer) next (subst (λ l. Contains l next) split later)) [
        | inl same ↦ inl (subst (λ h. IsOpened edges g h count) (sym same) opened)
        | inr there ↦ inr there
      ]
    ]
  where
    split : drop i layer ≡ holder ∷ drop (i + 1) layer
    split = rw add-one (subst (λ h. drop i layer ≡ h ∷ drop (suc i) layer) at (drop-cons layer i d below))

pub here_all : (edges : List Wait) (txn count : ℕ) (f : ℕ → Option Step) (layer : List ℕ) (i : ℕ) → length layer ≤ i → IsHere edges txn count f (drop i layer) → IsHere edges txn count f []
here_all edges txn count f layer i done here = subst (λ l. IsHere edges txn count f l) (drop_all i layer done) here

pub search_begins : (edges : List Wait) (txn : ℕ) (f : ℕ → Option Step) → ((next : ℕ) → f next ≡ None) → IsSearch edges txn 0 f (txn ∷ [])
search_begins edges txn f none = record {
  sound = λ waiter step e. absurd (none-some step (sym (none waiter) ∙ e));
  bound = λ waiter step e. absurd (none-some step (sym (none waiter) ∙ e));
  opened = λ next n is less. absurd (omega (arith, less));
  listed = λ next is. elim is [
    | inl here ↦ (0, omega arith, sym here.0)
    | inr by ↦ absurd (none-some by.0 (sym (none next) ∙ by.1))
  ];
  ahead = All-cons (λ next. IsNext txn f next (0 + 1)) txn [] (inl (refl, refl)) (All-nil (λ next. IsNext txn f next (0 + 1)));
}

pub here_begins : (edges : List Wait) (txn : ℕ) (f : ℕ → Option Step) → IsHere edges txn 0 f []
here_begins edges txn f next is = elim is [
  | inl here ↦ absurd (omega (arith, here.1))
  | inr by ↦ absurd (omega (arith, by.2))
]

pub waiting_at_most : (edges : List Wait) (f : ℕ → Option Step) → waiting edges f ≤ length edges
waiting_at_most edges f = rw (length-filter (λ e. is_none (f e.waiter)) edges) (count_by-le-length (λ e. is_none (f e.waiter)) edges)

-- all that has so many edges is opened, or fewer
opened_to : (edges : List Wait) (txn count : ℕ) (f : ℕ → Option Step) (layer : List ℕ) → IsSearch edges txn count f layer → IsHere edges txn count f [] → (next n : ℕ) → n ≤ count → IsNext txn f next n → IsOpened edges f next n
opened_to edges txn count f layer search here next n small is = elim (cases_lt n count) [
  | inl less ↦ search.opened next n is less
  | inr more ↦ (let same : count ≡ n = omega (arith, small, more) in
      subst (λ m. IsOpened edges f next m) same (elim (here next (subst (λ m. IsNext txn f next m) (sym same) is)) [
        | inl done ↦ done
        | inr nowhere ↦ absurd (contains_none next nowhere)
      ]))
]

pub search_goes_on : (edges : List Wait) (txn count : ℕ) (f : ℕ → Option Step) (layer : List ℕ) → IsSearch edges txn count f layer → IsHere edges txn count f [] → IsSearch edges txn (count + 1) f []
search_goes_on edges txn count f layer search here = record {
  sound = search.sound;
  bound = λ waiter step e. (let small : step.left ≤ count = search.bound waiter step e in omega (arith, small));
  opened = λ next n is less. opened_to edges txn count f layer search here next n (omega (arith, less)) is;
  listed = λ next is. elim is [
    | inl at ↦ absurd (omega (arith, at.1))
    | inr by ↦ (let small : (by.0).left ≤ count = search.bound next by.0 by.1 in absurd (omega (arith, by.2, small)))
  ];
  ahead = All-nil (λ next. IsNext txn f next (count + 1 + 1));
}

pub here_goes_on : (edges : List Wait) (txn count : ℕ) (f : ℕ → Option Step) (layer : List ℕ) → IsSearch edges txn count f layer → IsHere edges txn (count + 1) f layer
here_goes_on edges txn count f layer search next is = inr (search.listed next is)

pub search_ends : (edges : List Wait) (txn count : ℕ) (f : ℕ → Option Step) (layer : List ℕ) → IsSearch edges txn count f layer → IsHere edges txn count f [] → length layer ≡ 0 → AreSteps edges txn f
search_ends edges txn count f layer search here empty = record {
  sound = search.sound;
  opened = λ next n is. elim (cases_lt count n) [
    | inl more ↦ absurd (none_above next n is more)
    | inr small ↦ opened_to edges txn count f layer search here next n small is
  ];
}
  where
    none_listed : (next : ℕ) → IsNext txn f next (count + 1) → ⊥
    none_listed next is = (let has = search.listed next is in absurd (omega (arith, has.1, empty)))

    none_above : (next n : ℕ) → IsNext txn f next n → count < n → ⊥
    none_above next n is more = elim is [
      | inl at ↦ none_listed next (inl (at.0, omega (arith, at.1, more)))
      | inr by ↦ (let small : (by.0).left ≤ count = search.bound next by.0 by.1 in none_listed next (inr (by.0, by.1, omega (arith, by.2, small, more))))
    ]
