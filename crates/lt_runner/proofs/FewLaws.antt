-- The plain scheduler's run makes few events, whatever its lines are.
use Rattle.std.proofs.Common.{◌≡◌, ℕ, zero, suc, ◌+◌, ◌*◌, ◌≤◌, List, [], ◌∷◌, ◌++◌, map, Bool, true, false, if◌then◌else◌, Option, Some, None, is_some, length, replicate, nat_cmp, refl, sym, ap, subst, ◌∙◌, arith, length-append}
use Rattle.std.specs.List.{AllByRecursion, fold, find}
use Rattle.std.specs.List.Sorted.{IsStrictlySortedBy}
use Rattle.std.proofs.lemmas.Nat.{mul-le}
use Rattle.lt_ranges.specs.Numbers.{is_in}
use Rattle.lt_seq.specs.Table.{Setting}
use Rattle.lt_trace.specs.declared.line.Line.{Line}
use Rattle.lt_trace.specs.Trace.{TraceView}
use Rattle.lt_trace.specs.Grammar.{txns_of}
use Rattle.lt_runner.specs.TurnView.{Turn}
use Rattle.lt_runner.specs.Turn.{nothing_recorded, rest_of}
use Rattle.lt_runner.specs.Plays.{end_of, opening_turn}
use Rattle.lt_runner.specs.Serial.{Game, turn_of, is_waiting, is_ready, plays_next, swept, settled, added, takes_line, ends_first, ends_one, opening_game, played, setting_of, game_of, most_of, most_events}
use Rattle.lt_runner.specs.Steps.{IsFitLine, IsSteady, IsInOrder, IsTurnOf, IsFit, takes}
use Rattle.lt_runner.proofs.SteadyLaws.{numbers, turn_of_txn, turn_of_with, turn_has, steady_taking}
use Rattle.lt_runner.proofs.MoveLaws.{the_turn, in_order_with}
use Rattle.lt_runner.proofs.IdleLaws.{AreAtRest, rest_added, rest_swept, rest_settled}
use Rattle.lt_runner.proofs.StepLaws.{found_ready, opening_at_rest}
use Rattle.lt_runner.proofs.EndLaws.{open_less, open_few}
use Rattle.lt_runner.proofs.SettledLaws.{still_takes}
use Rattle.lt_runner.proofs.OrderLaws.{ascending_sorted}
use Rattle.lt_runner.proofs.SumLaws.{total, total_with}
use Rattle.lt_runner.proofs.SmallLaws.{may_free, frees_of, tries_of}
use Rattle.lt_runner.proofs.CostLaws.{spent, tries_left, sweeps_left, cost, Costs, times_more, costs_nothing, costs_then, costs_most, costs_ready, costs_swept, costs_settled}

-- A line that is added.

length-rest : (lines : List Line) (line : Line) → length (rest_of (lines ++ line ∷ [])) ≤ length (rest_of lines) + 1
length-rest [] line = omega arith
length-rest (l ∷ ls) line = omega (arith, length-append ls (line ∷ []))

tries_taken : (turn : Turn) (line : Line) → tries_of (record turn { lines = turn.lines ++ line ∷ [] }) ≤ tries_of turn + 2
tries_taken turn line = by_waiting turn.waits
  where
    by_waiting : (b : Bool) → (if b then 1 + 2 * length (rest_of (turn.lines ++ line ∷ [])) else 2 * length (turn.lines ++ line ∷ []))
        ≤ (if b then 1 + 2 * length (rest_of turn.lines) else 2 * length turn.lines) + 2
    by_waiting true = let k = length-rest turn.lines line in omega (arith, k)
    by_waiting false = omega (arith, length-append turn.lines (line ∷ []))

costs_taking : (setting : Setting) (txns : List ℕ) (game : Game) (turn : Turn) (line : Line) → IsTurnOf setting txns game turn →
    is_some turn.outcome ≡ false →
    Costs setting txns game (takes turn line game) 2 0
costs_taking setting txns game turn line of_game goes =
    let new : Turn = record turn { lines = turn.lines ++ line ∷ [] } in
    let next = takes turn line game in
    let order = of_game.order in
    let sorted = subst (IsStrictlySortedBy nat_cmp) (sym order.numbers) order.sorted in
    let number : is_in turn.txn (numbers game.turns) ≡ true = ap (is_in turn.txn) order.numbers ∙ of_game.number in
    let sum : total frees_of next.turns + frees_of turn ≡ total frees_of game.turns + frees_of new =
    ap (λ (t : Turn). total frees_of next.turns + frees_of t) (sym of_game.there) ∙ total_with frees_of setting new game.turns sorted number in
    let sum_tries : total tries_of next.turns + tries_of turn ≡ total tries_of game.turns + tries_of new =
    ap (λ (t : Turn). total tries_of next.turns + tries_of t) (sym of_game.there) ∙ total_with tries_of setting new game.turns sorted number in
    let same : frees_of new ≡ frees_of turn = refl in
    let unended = open_less setting game next txns (still_takes setting txns txns game turn line of_game goes) in
    let more = tries_taken turn line in
    record {
      tries = 0;
      sweeps = 0;
      paid = omega (arith, sum, same);
      fewer = omega (arith, sum_tries, more);
      marked = omega (arith, unended);
    }

costs_added : (setting : Setting) (txns : List ℕ) (game : Game) (turn : Turn) (line : Line) → IsTurnOf setting txns game turn →
    IsFitLine setting turn.txn line →
    Costs setting txns game (added setting line turn game) 2 0
costs_added setting txns game turn line of_game fits = by_outcome (is_some turn.outcome) refl
  where
    new : Turn
    new = record turn { lines = turn.lines ++ line ∷ [] }

    next : Game
    next = takes turn line game

    there : turn_of setting turn.txn next.turns ≡ new
    there = turn_of_with setting new game.turns (ap (is_in turn.txn) of_game.order.numbers ∙ of_game.number)

    steady : IsSteady setting turn
    steady = turn_has (IsSteady setting) setting txns game turn of_game of_game.order.steady

    by_waiting : (b : Bool) → is_waiting turn ≡ b → is_some turn.outcome ≡ false →
        Costs setting txns game (if b then next else plays_next setting turn.txn next) 2 0
    by_waiting true held goes = costs_taking setting txns game turn line of_game goes
    by_waiting false free goes =
        costs_then setting txns game next (plays_next setting turn.txn next) 2 0 0 0 2 0 (costs_taking setting txns game turn line of_game goes)
        (costs_ready setting txns turn.txn next of_game.number
        (in_order_with setting txns game.events game.released game new of_game.order (steady_taking setting turn line goes fits steady))
        (ap (λ (t : Turn). is_some t.outcome) there ∙ goes) (ap (λ (t : Turn). t.waits) there ∙ free)) (omega arith) (omega arith)

    by_outcome : (b : Bool) → is_some turn.outcome ≡ b →
        Costs setting txns game (if b then game else if is_waiting turn then next else plays_next setting turn.txn next) 2 0
    by_outcome true ended = costs_most setting txns game game 0 0 2 0 (costs_nothing setting txns game) (omega arith) (omega arith)
    by_outcome false goes = by_waiting (is_waiting turn) refl goes

-- Steps.

-- a game between two steps, and what it cost to come there
record Comes (setting : Setting) (txns : List ℕ) (old new : Game) (tries sweeps : ℕ) : Type 0 where
  costs : Costs setting txns old new tries sweeps
  at_rest : AreAtRest setting txns new

comes_settled : (setting : Setting) (txns : List ℕ) (old game : Game) (tries sweeps : ℕ) → Comes setting txns old game tries sweeps →
    Comes setting txns old (settled setting txns game) tries sweeps
comes_settled setting txns old game tries sweeps comes = record {
  costs = costs_then setting txns old game (settled setting txns game) tries sweeps 0 0 tries sweeps comes.costs (costs_settled setting txns game comes.at_rest.order) (omega arith) (omega arith);
  at_rest = rest_settled setting txns game comes.at_rest;
}

comes_taken : (setting : Setting) (txns : List ℕ) (line : Line) (game : Game) → IsFit setting txns line → AreAtRest setting txns game →
    Comes setting txns game (takes_line setting txns game line) 2 0
comes_taken setting txns line game fit at_rest =
    let turn = turn_of setting line.txn game.turns in
    let of_game = the_turn setting txns line.txn game fit.number at_rest.order in
    let own : line.txn ≡ turn.txn = sym (turn_of_txn setting line.txn game.turns (ap (is_in line.txn) at_rest.order.numbers ∙ fit.number)) in
    let fits : IsFitLine setting turn.txn line = record { own = own; deed = fit.deed } in
    comes_settled setting txns game (added setting line turn game) 2 0
    (record { costs = costs_added setting txns game turn line of_game fits; at_rest = rest_added setting txns game turn line of_game fits at_rest })

comes_ended : (setting : Setting) (txns : List ℕ) (game : Game) → AreAtRest setting txns game →
    Comes setting txns game (ends_one setting txns game) 2 1
comes_ended setting txns game at_rest =
    comes_settled setting txns game (ends_first setting txns (find is_ready game.turns) game) 2 1 (by_found (find is_ready game.turns) refl)
  where
    order : IsInOrder setting txns game
    order = at_rest.order

    by_found : (found : Option Turn) → find is_ready game.turns ≡ found → Comes setting txns game (ends_first setting txns found game) 2 1
    by_found None none = record {
      costs = costs_most setting txns game (swept setting txns game) 0 1 2 1 (costs_swept setting txns game 1 order (omega arith)) (omega arith) (omega arith);
      at_rest = rest_swept setting txns game at_rest;
    }
    by_found (Some turn) some =
        let found = found_ready setting game.turns turn (subst (IsStrictlySortedBy nat_cmp) (sym order.numbers) order.sorted) some in
        let of_game : IsTurnOf setting txns game turn =
        record { order = order; number = sym (ap (is_in turn.txn) order.numbers) ∙ found.number; there = found.there } in
        let fits : IsFitLine setting turn.txn (end_of turn.txn) = record { own = refl; deed = tt } in
        record {
          costs = costs_most setting txns game (added setting (end_of turn.txn) turn game) 2 0 2 1 (costs_added setting txns game turn (end_of turn.txn) of_game fits) (omega arith) (omega arith);
          at_rest = rest_added setting txns game turn (end_of turn.txn) of_game fits at_rest;
        }

comes_then : (setting : Setting) (txns : List ℕ) (one two three : Game) (a b c d e f : ℕ) → Comes setting txns one two a b →
    Comes setting txns two three c d →
    a + c ≤ e → b + d ≤ f → Comes setting txns one three e f
comes_then setting txns one two three a b c d e f first second tries sweeps = record {
  costs = costs_then setting txns one two three a b c d e f first.costs second.costs tries sweeps;
  at_rest = second.at_rest;
}

all_taken : (setting : Setting) (txns : List ℕ) (lines : List Line) (game : Game) → AllByRecursion (IsFit setting txns) lines →
    AreAtRest setting txns game →
    Comes setting txns game (fold (takes_line setting txns) game lines) (2 * length lines) 0
all_taken setting txns [] game fit at_rest = record { costs = costs_nothing setting txns game; at_rest = at_rest }
all_taken setting txns (line ∷ lines) game fit at_rest =
    let next = takes_line setting txns game line in
    let first = comes_taken setting txns line game fit.0 at_rest in
    comes_then setting txns game next (fold (takes_line setting txns) next lines) 2 0 (2 * length lines) 0 (2 * suc (length lines)) 0
    first (all_taken setting txns lines next fit.1 first.at_rest) (omega arith) (omega arith)

all_ended : (setting : Setting) (txns left : List ℕ) (game : Game) → AreAtRest setting txns game →
    Comes setting txns game (fold (λ g (txn : ℕ). ends_one setting txns g) game left) (2 * length left) (length left)
all_ended setting txns [] game at_rest = record { costs = costs_nothing setting txns game; at_rest = at_rest }
all_ended setting txns (txn ∷ left) game at_rest =
    let next = ends_one setting txns game in
    let first = comes_ended setting txns game at_rest in
    comes_then setting txns game next (fold (λ g (n : ℕ). ends_one setting txns g) next left) 2 1 (2 * length left) (length left)
    (2 * suc (length left)) (suc (length left))
    first (all_ended setting txns left next first.at_rest) (omega arith) (omega arith)

-- The whole run.

free_first : (count : ℕ) → may_free (replicate count nothing_recorded) ≡ 0
free_first zero = refl
free_first (suc n) = let rest = free_first n in omega (arith, rest)

none_first : (setting : Setting) (txns : List ℕ) →
    (total frees_of (map (λ txn. opening_turn setting txn []) txns) ≡ 0) × (total tries_of (map (λ txn. opening_turn setting txn []) txns) ≡ 0)
none_first setting [] = (refl, refl)
none_first setting (txn ∷ txns) = let rest = none_first setting txns in let first = free_first setting.plan.trees in (omega (arith, rest.0, first), omega (arith, rest.1))

-- so many tries, at so much each
most_in_all : (lines txns trees events tries sweeps : ℕ) → events ≤ (trees + txns + 3) * tries →
    tries ≤ 2 * lines + 2 * txns + txns * sweeps → sweeps ≤ txns + txns → events ≤ most_of lines txns trees
most_in_all lines txns trees events tries sweeps paid few seldom =
    let n = 2 * lines + 2 * txns + 2 in
    let v = 2 * trees + txns + 4 in
    let swept : txns * sweeps ≤ n * txns = mul_turned txns sweeps n (omega (arith, seldom)) in
    let all : n * (txns + 1) ≡ n * txns + n * 1 = times_more n txns 1 in
    let once : n * 1 ≡ n = omega arith in
    let tries_most : tries ≤ n * (txns + 1) = omega (arith, few, swept, all, once) in
    let whole : (trees + txns + 3) * tries ≤ n * (txns + 1) * v = mul_swapped (trees + txns + 3) tries (n * (txns + 1)) v (omega arith) tries_most in
    omega (arith, paid, whole)
  where
    times_suc : (a b : ℕ) → suc a * b ≡ a * b + b
    times_suc a zero = omega arith
    times_suc a (suc b) = let k = times_suc a b in omega (arith, k)

    times_turned : (a b : ℕ) → a * b ≡ b * a
    times_turned a zero = omega arith
    times_turned a (suc b) = let k = times_turned a b in let j = times_suc b a in omega (arith, k, j)

    mul_turned : (a b c : ℕ) → b ≤ c → a * b ≤ c * a
    mul_turned a b c less = let k = mul-le a b a c (omega arith) less in let j = times_turned a c in omega (arith, k, j)

    mul_swapped : (a b c d : ℕ) → a ≤ d → b ≤ c → a * b ≤ c * d
    mul_swapped a b c d one two = let k = mul-le a b d c one two in let j = times_turned d c in omega (arith, k, j)

-- a run of lines of any form that fit
pub few_played : (setting : Setting) (txns : List ℕ) (lines : List Line) → IsStrictlySortedBy nat_cmp txns →
    AllByRecursion (IsFit setting txns) lines →
    length (played setting txns lines).events ≤ most_of (length lines) (length txns) setting.plan.trees
few_played setting txns lines sorted fit =
    let start = opening_game setting txns in
    let middle = fold (takes_line setting txns) start lines in
    let last = played setting txns lines in
    let taken = all_taken setting txns lines start fit (opening_at_rest setting txns sorted) in
    let ended = all_ended setting txns txns middle taken.at_rest in
    let whole =
    costs_then setting txns start middle last (2 * length lines) 0 (2 * length txns) (length txns) (2 * length lines + 2 * length txns) (length txns)
    taken.costs ended.costs (omega arith) (omega arith) in
    let none = none_first setting txns in
    let unended = open_few setting start txns in
    most_in_all (length lines) (length txns) setting.plan.trees (length last.events) whole.tries whole.sweeps
    (let k : spent last ≤ spent start + cost setting txns * whole.tries = whole.paid in omega (arith, k, none.0))
    (let k : whole.tries + tries_left last ≤ tries_left start + (2 * length lines + 2 * length txns) + length txns * whole.sweeps = whole.fewer in omega (arith, k, none.1))
    (let k : whole.sweeps + sweeps_left setting txns last ≤ sweeps_left setting txns start + length txns = whole.marked in omega (arith, k, unended))

-- of a trace
pub few_events : (trace : TraceView) (first : ℕ) → AllByRecursion (IsFit (setting_of trace 1 first) (txns_of trace.lines)) trace.lines →
    length (game_of trace first).events ≤ most_events trace
few_events trace first fit =
    few_played (setting_of trace 1 first) (txns_of trace.lines) trace.lines (ascending_sorted (map (λ (line : Line). line.txn) trace.lines)) fit
