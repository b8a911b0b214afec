-- One step more, one holder more, one layer more.
use Rattle.std.proofs.Common.{◌≡◌, ◌≢◌, ℕ, zero, suc, ◌+◌, ◌≤◌, ◌<◌, List, [], ◌∷◌, ◌++◌, length, get_or, Option, Some, None, Bool, true, false, cond, ◌&&◌, eqb, ltb, ◌⊎◌, All, Contains, refl, sym, ap, subst, ◌∙◌, inl, inr, arith, length-append, take}
use Rattle.std.specs.Prelude.{filter, is_none}
use Rattle.std.proofs.lemmas.Bool.{cases_eq}
use Rattle.std.proofs.lemmas.List.Elements.{All-contains, All-push, All-weaker, All-more, Contains-append_left, Contains-push}
use Rattle.std.proofs.lemmas.Bool.Decides.{nat_tests}
use Rattle.std.proofs.lemmas.Option.{none-some}
use Rattle.std.proofs.lemmas.List.{take_all}
use Rattle.lt_waits.specs.declared.wait.Wait.{Wait}
use Rattle.lt_waits.specs.declared.search.Step.{Step}
use Rattle.lt_waits.specs.Walks.{IsEdge}
use Rattle.lt_waits.specs.Steps.{IsNext, HasStep, IsOpened, Grows, AddsOnly, IsSearch, waiting, better, found_then, IsTaken, HasEdgesTo}

pub grows_same : (f : ℕ → Option Step) → Grows f f
grows_same f txn step e = (step, e, refl, omega arith)

pub grows_then : (f g h : ℕ → Option Step) → Grows f g → Grows g h → Grows f h
grows_then f g h one two txn step e =
    let a = one txn step e in
    let b = two txn a.0 a.1 in
    (b.0, b.1, b.2 ∙ a.2, omega (arith, a.3, b.3))

pub next_grows : (txn : ℕ) (f g : ℕ → Option Step) → Grows f g → (next count : ℕ) → IsNext txn f next count → IsNext txn g next count
next_grows txn f g grows next count is =
    elim is [
      | inl here ↦ inl here
      | inr by ↦ (let now = grows next by.0 by.1 in inr (now.0, now.1, omega (arith, now.2, by.2)))
    ]

pub has_grows : (f g : ℕ → Option Step) → Grows f g → (waiter next count : ℕ) → HasStep f waiter next count → HasStep g waiter next count
has_grows f g grows waiter next count has =
    let now = grows waiter has.0 has.1 in
    (now.0, now.1, omega (arith, now.2, has.2), λ e. (let small : has.0.next ≤ next = has.3 (sym now.2 ∙ e) in omega (arith, now.3, small)))

pub opened_grows : (edges : List Wait) (f g : ℕ → Option Step) → Grows f g → (next count : ℕ) → IsOpened edges f next count → IsOpened edges g next count
opened_grows edges f g grows next count opened waiter edge = has_grows f g grows waiter next count (opened waiter edge)

-- the better of two steps is as long as the one that was there, and leads to neither's number or a lesser one
record Better (wait : Wait) (count : ℕ) (old new : Step) : Type 0 where
  same : new.left ≡ old.left
  less : new.next ≤ old.next
  along : new.left ≡ count → new.next ≤ wait.holder
  either : (new ≡ old) ⊎ ((new.next ≡ wait.holder) × (new.left ≡ count))

better_by : (wait : Wait) (count : ℕ) (old : Step) (same less : Bool) → eqb old.left count ≡ same → ltb wait.holder old.next ≡ less → Better wait count old (cond (same && less) (record { left = count; next = wait.holder }) old)
better_by wait count old true true e f =
    let same : old.left ≡ count = grind (arith, nat_tests) in
    let less : wait.holder < old.next = grind (arith, nat_tests) in
    record { same = sym same; less = omega (arith, less); along = λ _. omega arith; either = inr (refl, refl) }
better_by wait count old true false e f =
    let no : wait.holder < old.next → ⊥ = λ lt. grind (arith, nat_tests) in
    record { same = refl; less = omega arith; along = λ _. omega (arith, no); either = inl refl }
better_by wait count old false less e f =
    let no : old.left ≡ count → ⊥ = λ same. grind (arith, nat_tests) in
    record { same = refl; less = omega arith; along = λ same. absurd (no same); either = inl refl }

better_is : (wait : Wait) (count : ℕ) (old : Step) → Better wait count old (better wait count (Some old))
better_is wait count old = better_by wait count old (eqb old.left count) (ltb wait.holder old.next) refl refl

-- what a taken step changes
pub record Changes (count : ℕ) (wait : Wait) (f g : ℕ → Option Step) (were are : List ℕ) : Type 0 where
  pub grows : Grows f g
  pub has : HasStep g wait.waiter wait.holder count
  pub leads : (waiter : ℕ) (step : Step) → g waiter ≡ Some step → (f waiter ≡ Some step) ⊎ ((waiter ≡ wait.waiter) × (step.next ≡ wait.holder) × (step.left ≡ count))
  pub was : (waiter : ℕ) (step : Step) → g waiter ≡ Some step → ((old : Step) × (f waiter ≡ Some old) × (step.left ≡ old.left)) ⊎ ((step.left ≡ count) × Contains are waiter)
  pub kept : (waiter : ℕ) → Contains were waiter → Contains are waiter
  pub more : (are ≡ were) ⊎ ((are ≡ were ++ wait.waiter ∷ []) × (f wait.waiter ≡ None))

some_is : (a b : Step) → Some a ≡ Some b → a ≡ b
some_is a b e = cc

changes_by : (count : ℕ) (wait : Wait) (f g : ℕ → Option Step) (were are : List ℕ) (o : Option Step) → f wait.waiter ≡ o → g wait.waiter ≡ Some (better wait count o) → ((txn : ℕ) → txn ≢ wait.waiter → g txn ≡ f txn) → are ≡ found_then wait o were → ((step : Step) → f wait.waiter ≡ Some step → step.left ≤ count) → Changes count wait f g were are
changes_by count wait f g were are None is here others found bound = record {
  grows = λ txn step e. elim (cases_eq txn wait.waiter) [
    | inl same ↦ absurd (none-some step (sym is ∙ ap f (sym same) ∙ e))
    | inr apart ↦ (step, others txn apart ∙ e, refl, omega arith)
  ];
  has = (record { left = count; next = wait.holder }, here, omega arith, λ _. omega arith);
  leads = λ txn step e. elim (cases_eq txn wait.waiter) [
    | inl same ↦ (let s : record { left = count; next = wait.holder } ≡ step = some_is _ _ (sym here ∙ ap g (sym same) ∙ e) in inr (same, ap (λ (x : Step). x.next) (sym s), ap (λ (x : Step). x.left) (sym s)))
    | inr apart ↦ inl (sym (others txn apart) ∙ e)
  ];
  was = λ txn step e. elim (cases_eq txn wait.waiter) [
    | inl same ↦ (let s : record { left = count; next = wait.holder } ≡ step = some_is _ _ (sym here ∙ ap g (sym same) ∙ e) in
        inr (ap (λ (x : Step). x.left) (sym s), subst (λ l. Contains l txn) (sym found) (subst (λ x. Contains (were ++ x ∷ []) txn) same (Contains-push were txn))))
    | inr apart ↦ inl (step, sym (others txn apart) ∙ e, refl)
  ];
  kept = λ txn h. subst (λ l. Contains l txn) (sym found) (Contains-append_left were (wait.waiter ∷ []) txn h);
  more = inr (found, is);
}
changes_by count wait f g were are (Some old) is here others found bound =
    let b = better_is wait count old in
    record {
      grows = λ txn step e. elim (cases_eq txn wait.waiter) [
        | inl same ↦ (let s : old ≡ step = some_is _ _ (sym is ∙ ap f (sym same) ∙ e) in
            (better wait count (Some old), ap g same ∙ here, b.same ∙ ap (λ (x : Step). x.left) s, subst (λ (x : Step). (better wait count (Some old)).next ≤ x.next) s b.less))
        | inr apart ↦ (step, others txn apart ∙ e, refl, omega arith)
      ];
      has = (better wait count (Some old), here, (let small : old.left ≤ count = bound old is in omega (arith, small, b.same)), b.along);
      leads = λ txn step e. elim (cases_eq txn wait.waiter) [
        | inl same ↦ (let s : better wait count (Some old) ≡ step = some_is _ _ (sym here ∙ ap g (sym same) ∙ e) in
            elim b.either [
              | inl stays ↦ inl (ap f same ∙ is ∙ ap Some (sym stays ∙ s))
              | inr along ↦ inr (same, ap (λ (x : Step). x.next) (sym s) ∙ along.0, ap (λ (x : Step). x.left) (sym s) ∙ along.1)
            ])
        | inr apart ↦ inl (sym (others txn apart) ∙ e)
      ];
      was = λ txn step e. elim (cases_eq txn wait.waiter) [
        | inl same ↦ (let s : better wait count (Some old) ≡ step = some_is _ _ (sym here ∙ ap g (sym same) ∙ e) in
            inl (old, ap f same ∙ is, ap (λ (x : Step). x.left) (sym s) ∙ b.same))
        | inr apart ↦ inl (step, sym (others txn apart) ∙ e, refl)
      ];
      kept = λ txn h. subst (λ l. Contains l txn) (sym found) h;
      more = inl found;
    }

pub changes : (edges : List Wait) (txn count : ℕ) (wait : Wait) (f g : ℕ → Option Step) (were are : List ℕ) → IsSearch edges txn count f were → IsTaken wait count f were g are → Changes count wait f g were are
changes edges txn count wait f g were are search taken =
    changes_by count wait f g were are (f wait.waiter) refl taken.here taken.others taken.found (search.bound wait.waiter)

-- a way that is left now was left before, or is a new one
next_was : (txn count : ℕ) (wait : Wait) (f g : ℕ → Option Step) (were are : List ℕ) → Changes count wait f g were are → (next n : ℕ) → IsNext txn g next n → IsNext txn f next n ⊎ ((n ≡ count + 1) × Contains are next)
next_was txn count wait f g were are ch next n is =
    elim is [
      | inl here ↦ inl (inl here)
      | inr by ↦ elim (ch.was next by.0 by.1) [
        | inl old ↦ inl (inr (old.0, old.1, omega (arith, old.2, by.2)))
        | inr new ↦ inr (omega (arith, new.0, by.2), new.1)
      ]
    ]

-- the search goes on by one edge
pub search_step : (edges : List Wait) (txn count : ℕ) (wait : Wait) (f g : ℕ → Option Step) (were are : List ℕ) → IsSearch edges txn count f were → IsTaken wait count f were g are → Contains edges wait → IsNext txn f wait.holder count → IsSearch edges txn count g are
search_step edges txn count wait f g were are search taken edge next =
    let ch = changes edges txn count wait f g were are search taken in
    record {
      sound = λ waiter step e. elim (ch.leads waiter step e) [
        | inl was ↦ (let s = search.sound waiter step was in (s.0, next_grows txn f g ch.grows step.next step.left s.1))
        | inr new ↦ (
          subst (λ w. IsEdge edges w step.next) (sym new.0) (subst (λ h. IsEdge edges wait.waiter h) (sym new.1) edge),
          next_grows txn f g ch.grows step.next step.left (subst (λ h. IsNext txn f h step.left) (sym new.1) (subst (λ n. IsNext txn f wait.holder n) (sym new.2) next)),
        )
      ];
      bound = λ waiter step e. elim (ch.leads waiter step e) [
        | inl was ↦ search.bound waiter step was
        | inr new ↦ omega (arith, new.2)
      ];
      opened = λ there n is less. elim (next_was txn count wait f g were are ch there n is) [
        | inl was ↦ opened_grows edges f g ch.grows there n (search.opened there n was less)
        | inr new ↦ absurd (omega (arith, new.0, less))
      ];
      listed = λ there is. elim (next_was txn count wait f g were are ch there (count + 1) is) [
        | inl was ↦ ch.kept there (search.listed there was)
        | inr new ↦ new.1
      ];
      ahead = elim ch.more [
        | inl same ↦ subst (λ l. All (λ there. IsNext txn g there (count + 1)) l) (sym same) (ahead_were ch)
        | inr more ↦ subst (λ l. All (λ there. IsNext txn g there (count + 1)) l) (sym more.0) (All-push (λ there. IsNext txn g there (count + 1)) were wait.waiter (ahead_were ch) (inr (better wait count (f wait.waiter), taken.here, new_left (f wait.waiter) more.1)))
      ];
    }
  where
    ahead_were : Changes count wait f g were are → All (λ there. IsNext txn g there (count + 1)) were
    ahead_were ch = All-weaker (λ there. IsNext txn f there (count + 1)) (λ there. IsNext txn g there (count + 1)) (λ there. next_grows txn f g ch.grows there (count + 1)) were search.ahead

    new_left : (o : Option Step) → o ≡ None → (better wait count o).left + 1 ≡ count + 1
    new_left None e = refl
    new_left (Some old) e = absurd (none-some old (sym e))

-- Those that have no step yet.

is_none_none : (o : Option Step) → o ≡ None → is_none o ≡ true
is_none_none None e = refl
is_none_none (Some s) e = absurd (none-some s (sym e))

is_none_some : (o : Option Step) (s : Step) → o ≡ Some s → is_none o ≡ false
is_none_some None s e = absurd (none-some s e)
is_none_some (Some t) s e = refl

-- who has a step keeps it
still : (f g : ℕ → Option Step) → Grows f g → (waiter : ℕ) (old new : Option Step) → f waiter ≡ old → g waiter ≡ new → is_none new ≡ true → is_none old ≡ true
still f g grows waiter None new e h none = refl
still f g grows waiter (Some s) new e h none = (let now = grows waiter s e in absurd (let no : false ≡ true → ⊥ = λ e. cc in no (sym (is_none_some new now.0 (sym h ∙ now.1)) ∙ none)))

abbrev without : (ℕ → Option Step) → List Wait → List Wait
without f edges = filter (λ e. is_none (f e.waiter)) edges

pub waiting_less : (edges : List Wait) (f g : ℕ → Option Step) → Grows f g → waiting edges g ≤ waiting edges f
waiting_less [] f g grows = omega arith
waiting_less (e ∷ edges) f g grows = by_test (is_none (g e.waiter)) (is_none (f e.waiter)) (still f g grows e.waiter (f e.waiter) (g e.waiter) refl refl) (waiting_less edges f g grows)
  where
    by_test : (now was : Bool) → (now ≡ true → was ≡ true) → waiting edges g ≤ waiting edges f → length (cond now (e ∷ without g edges) (without g edges)) ≤ length (cond was (e ∷ without f edges) (without f edges))
    by_test true true h le = omega arith
    by_test true false h le = absurd (let no : false ≡ true → ⊥ = λ e. cc in no (h refl))
    by_test false true h le = omega arith
    by_test false false h le = omega arith

pub waiting_fewer : (edges : List Wait) (f g : ℕ → Option Step) → Grows f g → (wait : Wait) (k : ℕ) → k < length edges → get_or edges k wait ≡ wait → f wait.waiter ≡ None → (s : Step) → g wait.waiter ≡ Some s → waiting edges g + 1 ≤ waiting edges f
waiting_fewer [] f g grows wait k below at none s some = absurd (omega arith)
waiting_fewer (e ∷ edges) f g grows wait zero below at none s some = by_test (is_none (g e.waiter)) (is_none (f e.waiter)) (is_none_some (g e.waiter) s (ap (λ (w : Wait). g w.waiter) at ∙ some)) (is_none_none (f e.waiter) (ap (λ (w : Wait). f w.waiter) at ∙ none)) (waiting_less edges f g grows)
  where
    by_test : (now was : Bool) → now ≡ false → was ≡ true → waiting edges g ≤ waiting edges f → length (cond now (e ∷ without g edges) (without g edges)) + 1 ≤ length (cond was (e ∷ without f edges) (without f edges))
    by_test true true h i le = absurd (let no : true ≡ false → ⊥ = λ e. cc in no h)
    by_test true false h i le = absurd (let no : true ≡ false → ⊥ = λ e. cc in no h)
    by_test false true h i le = omega arith
    by_test false false h i le = absurd (let no : false ≡ true → ⊥ = λ e. cc in no i)
waiting_fewer (e ∷ edges) f g grows wait (suc k) below at none s some = by_test (is_none (g e.waiter)) (is_none (f e.waiter)) (still f g grows e.waiter (f e.waiter) (g e.waiter) refl refl) (waiting_fewer edges f g grows wait k (omega arith) at none s some)
  where
    by_test : (now was : Bool) → (now ≡ true → was ≡ true) → waiting edges g + 1 ≤ waiting edges f → length (cond now (e ∷ without g edges) (without g edges)) + 1 ≤ length (cond was (e ∷ without f edges) (without f edges))
    by_test true true h le = omega arith
    by_test true false h le = absurd (let no : false ≡ true → ⊥ = λ e. cc in no (h refl))
    by_test false true h le = omega arith
    by_test false false h le = omega arith

-- what a step adds to those found it takes from those that have none
pub step_fewer : (edges : List Wait) (txn count : ℕ) (wait : Wait) (f g : ℕ → Option Step) (were are : List ℕ) → IsSearch edges txn count f were → IsTaken wait count f were g are → Contains edges wait → waiting edges g + length are ≤ waiting edges f + length were
step_fewer edges txn count wait f g were are search taken edge =
    let ch = changes edges txn count wait f g were are search taken in
    elim ch.more [
      | inl same ↦ (let l : length are ≡ length were = ap length same in omega (arith, l, waiting_less edges f g ch.grows))
      | inr more ↦ (let l : length are ≡ length were + 1 = ap length more.0 ∙ length-append were (wait.waiter ∷ []) in
          omega (arith, l, waiting_fewer edges f g ch.grows wait edge.0 edge.1 edge.2 more.1 ch.has.0 ch.has.1))
    ]

-- all edges of the part were gone along
pub all_opened : (edges part : List Wait) (holder count i : ℕ) (f : ℕ → Option Step) → HasEdgesTo edges holder part → length part ≤ i → All (λ w. HasStep f w.waiter holder count) (take i part) → IsOpened edges f holder count
all_opened edges part holder count i f has done all waiter edge =
    let whole : take i part ≡ part = take_all i part done in
    All-contains (λ (w : Wait). HasStep f w.waiter holder count) part (record { waiter = waiter; holder = holder }) (subst (λ l. All (λ w. HasStep f w.waiter holder count) l) whole all) (has.every waiter edge)

pub changes_add : (count : ℕ) (wait : Wait) (f g : ℕ → Option Step) (were are : List ℕ) → Changes count wait f g were are → AddsOnly count f g
changes_add count wait f g were are ch txn step e = elim (ch.was txn step e) [ inl old ↦ inl old | inr new ↦ inr new.0 ]

pub adds_none : (count : ℕ) (f : ℕ → Option Step) → AddsOnly count f f
adds_none count f txn step e = inl (step, e, refl)

pub adds_then : (count : ℕ) (f g h : ℕ → Option Step) → AddsOnly count f g → AddsOnly count g h → AddsOnly count f h
adds_then count f g h one two txn step e =
    elim (two txn step e) [
      | inl was ↦ elim (one txn was.0 was.1) [
        | inl old ↦ inl (old.0, old.1, was.2 ∙ old.2)
        | inr new ↦ inr (was.2 ∙ new)
      ]
      | inr new ↦ inr new
    ]

-- one edge more of the part is gone along
pub opened_more : (part : List Wait) (i holder count : ℕ) (d : Wait) (f g : ℕ → Option Step) → Grows f g → i < length part → (get_or part i d).holder ≡ holder → HasStep g (get_or part i d).waiter (get_or part i d).holder count → All (λ w. HasStep f w.waiter holder count) (take i part) → All (λ w. HasStep g w.waiter holder count) (take (i + 1) part)
opened_more part i holder count d f g grows below same has all =
    All-more (λ w. HasStep g w.waiter holder count) part i d below
    (All-weaker (λ w. HasStep f w.waiter holder count) (λ w. HasStep g w.waiter holder count) (λ w. has_grows f g grows w.waiter holder count) (take i part) all)
    (subst (λ h. HasStep g (get_or part i d).waiter h count) same has)
