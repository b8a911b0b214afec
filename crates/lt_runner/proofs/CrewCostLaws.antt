-- What a crew's run may cost in all.
use Rattle.std.proofs.Common.{◌≡◌, ℕ, zero, suc, ◌+◌, ◌*◌, ◌<◌, ◌≤◌, List, [], ◌∷◌}
use Rattle.std.proofs.Common.{◌++◌, map, Bool, true, false, ◌==◌, if◌then◌else◌, length, get_or, slice_set, replicate, nat_cmp}
use Rattle.std.proofs.Common.{refl, sym, ap, subst, ◌∙◌, arith, length-append}
use Rattle.std.specs.List.{AllByRecursion}
use Rattle.std.specs.List.Sorted.{IsStrictlySortedBy}
use Rattle.std.specs.declared.cmp.Ordering.TheVariants.{Less}
use Rattle.std.proofs.lemmas.Bool.Decides.{nat_tests}
use Rattle.std.proofs.lemmas.Cmp.{ranked}
use Rattle.std.proofs.lemmas.Nat.{mul-le}
use Rattle.lt_seq.specs.Table.{Setting}
use Rattle.lt_trace.specs.declared.line.Line.{Line}
use Rattle.lt_trace.specs.Trace.{TraceView}
use Rattle.lt_trace.specs.Grammar.{txns_of}
use Rattle.lt_runner.specs.TurnView.{Seat}
use Rattle.lt_runner.specs.Turn.{nothing_recorded}
use Rattle.lt_runner.specs.Plays.{own_of, lines_for, has_last, end_of}
use Rattle.lt_runner.specs.Seats.{opening_seat}
use Rattle.lt_runner.specs.Serial.{setting_of, most_of, most_events}
use Rattle.lt_runner.specs.Work.{lines_work, owed, work, steps}
use Rattle.lt_runner.specs.CrewCost.{sum_of, pass_cost, seats_of}
use Rattle.lt_runner.proofs.OrderLaws.{ascending_sorted}
use Rattle.lt_runner.proofs.CostLaws.{times_more}

-- one of several that is put in its place
pub sum_set : (f : Seat → ℕ) (seats : List Seat) (i : ℕ) (d is : Seat) → i < length seats →
    sum_of f (slice_set seats i is) + f (get_or seats i d) ≡ sum_of f seats + f is
sum_set f [] i d is inside = absurd (omega arith)
sum_set f (s ∷ ss) zero d is inside = omega arith
sum_set f (s ∷ ss) (suc i) d is inside = omega (arith, sum_set f ss i d is (omega arith))

-- Lines.

abbrev over : (ℕ → ℕ) → List ℕ → ℕ
over f [] = 0
over f (n ∷ ns) = f n + over f ns

abbrev same_one : ℕ → ℕ → ℕ
same_one n t = if n == t then 1 else 0

apart_one : (n m : ℕ) → (n ≡ m → ⊥) → same_one n m ≡ 0
apart_one n m apart = by_test (n == m) refl
  where
    choice : Bool → ℕ
    choice b = if b then 1 else 0

    by_test : (b : Bool) → (n == m) ≡ b → choice b ≡ 0
    by_test true e = absurd (apart (let same : n ≡ m = grind (arith, nat_tests) in same))
    by_test false e = refl

none_same : (n : ℕ) (ns : List ℕ) → AllByRecursion (λ m. nat_cmp n m ≡ Less) ns → over (same_one n) ns ≡ 0
none_same n [] all = refl
none_same n (m ∷ ms) all =
    let less : n < m = ranked n m _ (sym all.0) in
    omega (arith, none_same n ms all.1, apart_one n m (λ same. omega (arith, less, same)))

once_same : (n : ℕ) (ns : List ℕ) → IsStrictlySortedBy nat_cmp ns → over (same_one n) ns ≤ 1
unfolding IsStrictlySortedBy
once_same n [] sorted = omega arith
once_same n (m ∷ ms) sorted = by_test (n == m) refl (once_same n ms sorted.1)
  where
    by_test : (b : Bool) → (n == m) ≡ b → over (same_one n) ms ≤ 1 → (if b then 1 else 0) + over (same_one n) ms ≤ 1
    by_test true e rest =
        let same : n ≡ m = grind (arith, nat_tests) in
        let none : over (same_one n) ms ≡ 0 = subst (λ (k : ℕ). over (same_one k) ms ≡ 0) (sym same) (none_same m ms sorted.0) in
        omega (arith, none)
    by_test false e rest = omega (arith, rest)

over_add : (f g h : ℕ → ℕ) (ns : List ℕ) → ((n : ℕ) → h n ≡ f n + g n) → over h ns ≡ over f ns + over g ns
over_add f g h [] each = refl
over_add f g h (n ∷ ns) each = omega (arith, each n, over_add f g h ns each)

own_one : (line : Line) (lines : List Line) (txn : ℕ) → length (own_of txn (line ∷ lines)) ≡ same_one line.txn txn + length (own_of txn lines)
own_one line lines txn = by_test (line.txn == txn)
  where
    by_test : (b : Bool) → length (if b then line ∷ own_of txn lines else own_of txn lines) ≡ (if b then 1 else 0) + length (own_of txn lines)
    by_test true = omega arith
    by_test false = omega arith

none_over : (ns : List ℕ) → over (λ t. 0) ns ≡ 0
none_over [] = refl
none_over (n ∷ ns) = omega (arith, none_over ns)

all_own : (lines : List Line) (txns : List ℕ) → IsStrictlySortedBy nat_cmp txns → over (λ t. length (own_of t lines)) txns ≤ length lines
all_own [] txns sorted = omega (arith, none_over txns)
all_own (line ∷ lines) txns sorted =
    omega (
      arith,
      over_add (same_one line.txn) (λ t. length (own_of t lines)) (λ t. length (own_of t (line ∷ lines))) txns (own_one line lines),
      once_same line.txn txns sorted,
      all_own lines txns sorted,
    )

with_end_one : (txn : ℕ) (lines : List Line) → length (lines_for txn lines) ≤ length (own_of txn lines) + 1
with_end_one txn lines = by_test (has_last (own_of txn lines))
  where
    by_test : (b : Bool) → length (if b then own_of txn lines else own_of txn lines ++ end_of txn ∷ []) ≤ length (own_of txn lines) + 1
    by_test true = omega arith
    by_test false = omega (arith, length-append (own_of txn lines) (end_of txn ∷ []))

all_lines : (lines : List Line) (txns : List ℕ) → over (λ t. length (lines_for t lines)) txns ≤ over (λ t. length (own_of t lines)) txns + length txns
all_lines lines [] = omega arith
all_lines lines (t ∷ ts) = omega (arith, with_end_one t lines, all_lines lines ts)

-- Seats that have not begun.

lines_are : (trees : ℕ) (lines : List Line) → lines_work trees lines ≡ (2 * trees + 3) * length lines
lines_are trees [] = omega arith
lines_are trees (line ∷ lines) = (let k = lines_are trees lines in let j = times_more (2 * trees + 3) 1 (length lines) in omega (arith, k, j))

none_owed : (count : ℕ) → owed (replicate count nothing_recorded) ≡ 0
none_owed zero = refl
none_owed (suc n) = omega (arith, none_owed n)

-- what is to do at the opening
record IsOpening (setting : Setting) (lines : List Line) (txns : List ℕ) (seats : List Seat) : Type 0 where
  works : sum_of (work setting) seats ≡ (2 * setting.plan.trees + 3) * over (λ t. length (lines_for t lines)) txns +
      (2 * setting.plan.trees + 1) * length txns
  stepped : sum_of steps seats ≡ 2 * over (λ t. length (lines_for t lines)) txns

opening_all : (setting : Setting) (lines : List Line) (txns : List ℕ) →
    IsOpening setting lines txns (map (λ txn. opening_seat setting.plan.trees txn (lines_for txn lines)) txns)
opening_all setting lines [] = record { works = omega arith; stepped = refl }
opening_all setting lines (t ∷ ts) =
    let rest = opening_all setting lines ts in
    let n = length (lines_for t lines) in
    let m = over (λ k. length (lines_for k lines)) ts in
    let here : work setting (opening_seat setting.plan.trees t (lines_for t lines)) ≡ (2 * setting.plan.trees + 3) * n +
    (2 * setting.plan.trees + 1) =
    omega (arith, lines_are setting.plan.trees (lines_for t lines), none_owed setting.plan.trees) in
    record {
      works = omega (arith, rest.works, here, times_more (2 * setting.plan.trees + 3) n m, times_more (2 * setting.plan.trees + 1) 1 (length ts));
      stepped = omega (arith, rest.stepped);
    }

-- Products.

times_suc : (a b : ℕ) → suc a * b ≡ a * b + b
times_suc a zero = omega arith
times_suc a (suc b) = let k = times_suc a b in omega (arith, k)

times_turned : (a b : ℕ) → a * b ≡ b * a
times_turned a zero = omega arith
times_turned a (suc b) = let k = times_turned a b in let j = times_suc b a in omega (arith, k, j)

times_grouped : (a b c : ℕ) → (a * b) * c ≡ a * (b * c)
times_grouped a b zero = omega arith
times_grouped a b (suc c) = (let k = times_grouped a b c in let j = times_more a (b * c) b in let e : a * (b * suc c) ≡ a * (b * c + b) = ap
    (λ (x : ℕ). a * x) (let y : b * suc c ≡ b * c + b = omega arith in y) in omega (arith, k, j, e))

-- what is paid for, and a pass of retries for each step
in_bound : (trees lines txns all works stepped : ℕ) → all ≤ lines + txns → works ≡ (2 * trees + 3) * all + (2 * trees + 1) * txns →
    stepped ≡ 2 * all →
    works + stepped * (txns * (trees + 1 + txns)) ≤ most_of lines txns trees
in_bound trees lines txns all works stepped few works_are steps_are =
    let n = 2 * lines + 2 * txns + 2 in
    let v = 2 * trees + txns + 4 in
    let p = trees + 1 + txns in
    let half = lines + txns in
    let paid : (2 * trees + 3) * all ≤ v * half = mul-le (2 * trees + 3) all v half (omega arith) few in
    let once : (2 * trees + 1) * txns ≤ v * half = mul-le (2 * trees + 1) txns v half (omega arith) (omega arith) in
    let twice : v * (half + half) ≡ v * half + v * half = times_more v half half in
    let wide : v * (half + half) ≤ v * n = mul-le v (half + half) v n (omega arith) (omega arith) in
    let one : txns * p ≤ txns * v = mul-le txns p txns v (omega arith) (omega arith) in
    let passes : stepped * (txns * p) ≤ n * (txns * v) = mul-le stepped (txns * p) n (txns * v) (omega (arith, steps_are, few)) one in
    let grouped : (n * txns) * v ≡ n * (txns * v) = times_grouped n txns v in
    let split : n * (txns + 1) ≡ n * txns + n = (let k = times_more n txns 1 in omega (arith, k)) in
    let whole : (n * (txns + 1)) * v ≡ v * (n * txns) + v * n =
    times_turned (n * (txns + 1)) v ∙ ap (λ (x : ℕ). v * x) split ∙ times_more v (n * txns) n in
    let turned : v * (n * txns) ≡ (n * txns) * v = times_turned v (n * txns) in
    omega (arith, works_are, paid, once, twice, wide, passes, grouped, whole, turned)

pub crews_make_few : (trace : TraceView) (passes first : ℕ) →
    sum_of (work (setting_of trace passes first)) (seats_of trace) + sum_of steps (seats_of trace) * pass_cost trace.trees
    (length (txns_of trace.lines)) ≤ most_events trace
crews_make_few trace passes first =
    let txns = txns_of trace.lines in
    let opening = opening_all (setting_of trace passes first) trace.lines txns in
    let own = all_own trace.lines txns (ascending_sorted (map (λ (line : Line). line.txn) trace.lines)) in
    let more = all_lines trace.lines txns in
    in_bound trace.trees (length trace.lines) (length txns) (over (λ t. length (lines_for t trace.lines)) txns)
    (sum_of (work (setting_of trace passes first)) (seats_of trace)) (sum_of steps (seats_of trace))
    (omega (arith, own, more)) opening.works opening.stepped
