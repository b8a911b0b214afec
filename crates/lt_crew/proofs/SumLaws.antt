-- Sums over transactions and over passes.
use Rattle.std.proofs.Common.{◌≡◌, ◌≢◌, ◌⊎◌, ◌<◌, ◌==◌, inl, inr, eq-eqb, ℕ, zero, suc, ◌+◌, ◌≤◌, List, [], ◌∷◌, Bool, true, false, length, refl, sym, ap, subst, ◌∙◌, arith}
use Rattle.std.specs.List.{AllByRecursion}
use Rattle.std.proofs.lemmas.Bool.{cases_eq}
use Rattle.std.proofs.lemmas.Bool.Decides.{nat_tests}
use Rattle.lt_seq.specs.declared.event.Event.{Event}
use Rattle.lt_seq.specs.History.{IsLegal, calls_from}
use Rattle.lt_seq.specs.Table.{Setting, opening}
use Rattle.lt_runner.specs.TurnView.{Seat}
use Rattle.lt_runner.proofs.ChoiceLaws.{on_true, on_false}
use Rattle.lt_crew.specs.Crew.{work_all, work_of, sum_to}
use Rattle.lt_crew.proofs.OwnLaws.{all_passes}

-- Sums over the passes.

sum_none : (n : ℕ) → sum_to (λ (p : ℕ). 0) n ≡ 0
sum_none zero = refl
sum_none (suc n) = omega (arith, sum_none n)

pub sum_same : (f g : ℕ → ℕ) (n : ℕ) → ((p : ℕ) → p < n → f p ≡ g p) → sum_to f n ≡ sum_to g n
sum_same f g zero same = refl
sum_same f g (suc n) same = omega (arith, sum_same f g n (λ p less. same p (omega arith)), same n (omega arith))

sum_both : (f g h k : ℕ → ℕ) (n : ℕ) → ((p : ℕ) → p < n → f p + g p ≤ h p + k p) → sum_to f n + sum_to g n ≤ sum_to h n + sum_to k n
sum_both f g h k zero le = omega arith
sum_both f g h k (suc n) le = omega (arith, sum_both f g h k n (λ p less. le p (omega arith)), le n (omega arith))

-- one more at one place
sum_one : (f g : ℕ → ℕ) (at n : ℕ) → at < n → f at ≡ g at + 1 → ((p : ℕ) → p ≢ at → f p ≡ g p) → sum_to f n ≡ sum_to g n + 1
sum_one f g at zero less here others = absurd (omega arith)
sum_one f g at (suc n) less here others = by_place (cases_eq n at) (λ below. sum_one f g at n below here others)
  where
    by_place : (n ≡ at) ⊎ (n ≢ at) → (at < n → sum_to f n ≡ sum_to g n + 1) → sum_to f (suc n) ≡ sum_to g (suc n) + 1
    by_place (inl same) later =
        let rest : sum_to f n ≡ sum_to g n = sum_same f g n (λ p below. others p (omega arith)) in
        let last : f n ≡ g n + 1 = subst (λ (k : ℕ). f k ≡ g k + 1) (sym same) here in
        omega (arith, rest, last)
    by_place (inr differs) later = (let k = later (omega arith) in omega (arith, k, others n differs))

calls_here : (place pass : ℕ) (e : Event) (es : List Event) → e.pass ≡ pass →
    length (calls_from place pass (e ∷ es)) ≡ length (calls_from (place + 1) pass es) + 1
calls_here place pass e es own = ap length (on_true (e.pass == pass) (record { place = place; event = e } ∷ calls_from (place + 1) pass es) (calls_from (place + 1) pass es) (eq-eqb e.pass pass own)) ∙ omega arith

calls_there : (place pass : ℕ) (e : Event) (es : List Event) → pass ≢ e.pass →
    length (calls_from place pass (e ∷ es)) ≡ length (calls_from (place + 1) pass es)
calls_there place pass e es differs = ap length (on_false (e.pass == pass) (record { place = place; event = e } ∷ calls_from (place + 1) pass es) (calls_from (place + 1) pass es) (by_test (e.pass == pass) refl))
  where
    by_test : (b : Bool) → (e.pass == pass) ≡ b → (e.pass == pass) ≡ false
    by_test true h = absurd (differs (let same : e.pass ≡ pass = grind (arith, nat_tests) in sym same))
    by_test false h = h

-- the passes' calls are all events
pub calls_sum : (passes place : ℕ) (events : List Event) → AllByRecursion (λ e. e.pass < passes) events →
    length events ≡ sum_to (λ pass. length (calls_from place pass events)) passes
calls_sum passes place [] all = sym (sum_none passes)
calls_sum passes place (e ∷ es) all =
    omega (
      arith,
      calls_sum passes (place + 1) es all.1,
      sum_one (λ pass. length (calls_from place pass (e ∷ es))) (λ pass. length (calls_from (place + 1) pass es)) e.pass passes all.0 (calls_here place e.pass e es refl) (λ pass differs. calls_there place pass e es differs),
    )

-- What the passes have made is all.
pub spent_by : (setting : Setting) (before history : List Event) (were are : ℕ → List Seat) → IsLegal setting before →
    IsLegal setting history →
    ((pass : ℕ) → pass < setting.plan.passes →
    length (calls_from setting.plan.first pass history) + work_all setting (are pass) ≤ length (calls_from setting.plan.first pass before) + work_all setting (were pass)) →
    length history + work_of setting are ≤ length before + work_of setting were
spent_by setting before history were are legal_before legal each =
    let first = setting.plan.first in
    let was = calls_sum setting.plan.passes first before (all_passes setting before (opening setting) legal_before) in
    let now = calls_sum setting.plan.passes first history (all_passes setting history (opening setting) legal) in
    let sums = sum_both (λ pass. length (calls_from first pass history)) (λ pass. work_all setting (are pass))
    (λ pass. length (calls_from first pass before)) (λ pass. work_all setting (were pass)) setting.plan.passes each in
    omega (arith, was, now, sums)
