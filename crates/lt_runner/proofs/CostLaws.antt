-- What the steps of the plain scheduler cost.
use Rattle.std.proofs.Common.{◌≡◌, ℕ, zero, suc, ◌+◌, ◌*◌, ◌≤◌, List, [], ◌∷◌, Bool, true, false, if◌then◌else◌, is_some, length, nat_cmp, refl, sym, ap, subst, ◌∙◌, arith, length-append}
use Rattle.std.specs.List.{fold}
use Rattle.std.specs.List.Sorted.{IsStrictlySortedBy}
use Rattle.std.proofs.lemmas.List.{length-map}
use Rattle.lt_ranges.specs.Numbers.{is_in}
use Rattle.lt_seq.specs.declared.event.Deed.TheVariants.{Free}
use Rattle.lt_seq.specs.declared.event.Receipt.{Receipt}
use Rattle.lt_seq.specs.Table.{Setting}
use Rattle.lt_seq.specs.Questions.{receipt_after, events_of}
use Rattle.lt_trace.specs.declared.line.Line.{Line}
use Rattle.lt_runner.specs.declared.release.Release.{Release}
use Rattle.lt_runner.specs.TurnView.{Turn}
use Rattle.lt_runner.specs.Turn.{Move, frees, receipts_in, turn_after, rest_of, rest_of_release}
use Rattle.lt_runner.specs.Serial.{Game, turn_of, with_turn, is_waiting, is_ready, line_move, does, gives_back, settles, plays_line, plays_next, plays_on, retried, swept, swept_if_released, settled}
use Rattle.lt_runner.specs.Steps.{IsSteady, IsInOrder, IsTurnOf, IsAtLine}
use Rattle.lt_runner.proofs.ChoiceLaws.{on_true}
use Rattle.lt_runner.proofs.SteadyLaws.{numbers, turn_of_txn, turn_has, steady_freed, after_txn, ready_goes, waits_goes}
use Rattle.lt_runner.proofs.MoveLaws.{AnyOne, AreOf, are_of, the_turn, turn_after_does, in_order_with, holds_plays, holds_settles, holds_next, holds_retried, holds_swept_if}
use Rattle.lt_runner.proofs.IdleLaws.{keeps_nothing, keeps_ended}
use Rattle.lt_runner.proofs.EndLaws.{has_ended, open_in, open_less, open_fewer, AreStill, ready_free}
use Rattle.lt_runner.proofs.SettledLaws.{still_line, settled_flag}
use Rattle.lt_runner.proofs.SumLaws.{total, total_with}
use Rattle.lt_runner.proofs.SmallLaws.{frees_of, tries_of, small_line}

-- What a game has spent, and what is left of it.

-- its events, and the frees that it owes for them
abbrev pub spent : Game → ℕ
spent game = length game.events + total frees_of game.turns

abbrev pub tries_left : Game → ℕ
tries_left game = total tries_of game.turns

abbrev pub one_if : Bool → ℕ
one_if b = if b then 1 else 0

-- how often a sweep may still begin
abbrev pub sweeps_left : Setting → List ℕ → Game → ℕ
sweeps_left setting txns game = open_in setting game txns + one_if game.released

-- the most that one try costs: a join of each tree, an ask, a question for each that waits, and two frees
abbrev pub cost : Setting → List ℕ → ℕ
cost setting txns = setting.plan.trees + length txns + 3

-- One game comes from another by so many tries and sweeps. Besides what was left it had these tries and sweeps more.
pub record Costs (setting : Setting) (txns : List ℕ) (old new : Game) (more_tries more_sweeps : ℕ) : Type 0 where
  pub tries : ℕ
  pub sweeps : ℕ
  pub paid : spent new ≤ spent old + cost setting txns * tries
  pub fewer : tries + tries_left new ≤ tries_left old + more_tries + length txns * sweeps
  pub marked : sweeps + sweeps_left setting txns new ≤ sweeps_left setting txns old + more_sweeps

pub times_more : (a m n : ℕ) → a * (m + n) ≡ a * m + a * n
times_more a zero n = omega arith
times_more a (suc m) n = let k = times_more a m n in omega (arith, k)

pub costs_nothing : (setting : Setting) (txns : List ℕ) (game : Game) → Costs setting txns game game 0 0
costs_nothing setting txns game = record { tries = 0; sweeps = 0; paid = omega arith; fewer = omega arith; marked = omega arith }

pub costs_then : (setting : Setting) (txns : List ℕ) (one two three : Game) (a b c d e f : ℕ) → Costs setting txns one two a b →
    Costs setting txns two three c d →
    a + c ≤ e → b + d ≤ f → Costs setting txns one three e f
costs_then setting txns one two three a b c d e f first second tries sweeps = record {
  tries = first.tries + second.tries;
  sweeps = first.sweeps + second.sweeps;
  paid = omega (arith, first.paid, second.paid, times_more (cost setting txns) first.tries second.tries);
  fewer = omega (arith, first.fewer, second.fewer, tries, times_more (length txns) first.sweeps second.sweeps);
  marked = omega (arith, first.marked, second.marked, sweeps);
}

pub costs_most : (setting : Setting) (txns : List ℕ) (one two : Game) (a b e f : ℕ) → Costs setting txns one two a b → a ≤ e → b ≤ f →
    Costs setting txns one two e f
costs_most setting txns one two a b e f first tries sweeps = record {
  tries = first.tries;
  sweeps = first.sweeps;
  paid = first.paid;
  fewer = omega (arith, first.fewer, tries);
  marked = omega (arith, first.marked, sweeps);
}

-- A move.

total_does : (f : Turn → ℕ) (setting : Setting) (txns : List ℕ) (game : Game) (turn : Turn) (move : Move) →
    IsTurnOf setting txns game turn →
    total f (does setting turn move game).turns + f turn ≡ total f game.turns + f (turn_after turn move)
total_does f setting txns game turn move of_game =
    let new = turn_after turn move in
    let same : new.txn ≡ turn.txn = after_txn turn move in
    let order = of_game.order in
    let sum = total_with f setting new game.turns (subst (IsStrictlySortedBy nat_cmp) (sym order.numbers) order.sorted)
    (ap (λ (n : ℕ). is_in n (numbers game.turns)) same ∙ ap (is_in turn.txn) order.numbers ∙ of_game.number) in
    ap (λ (t : Turn). total f (with_turn new game.turns) + f t) (sym (ap (λ (n : ℕ). turn_of setting n game.turns) same ∙ of_game.there)) ∙ sum

length-does : (setting : Setting) (game : Game) (turn : Turn) (move : Move) →
    length (does setting turn move game).events ≡ length game.events + length (receipts_in move)
length-does setting game turn move =
    omega (arith, length-append game.events (events_of (receipts_in move)), length-map (receipts_in move) (λ (r : Receipt). r.event))

-- A release makes the frees that were owed.

record Settles (old new : Game) : Type 0 where
  paid : spent new ≤ spent old
  tries : tries_left new ≤ tries_left old

back_costs : (setting : Setting) (txns : List ℕ) (txn : ℕ) (rs : List Release) (game : Game) → is_in txn txns ≡ true →
    IsInOrder setting txns game →
    is_some (turn_of setting txn game.turns).outcome ≡ true → (turn_of setting txn game.turns).releases ≡ rs →
    Settles game (gives_back setting txn rs game)
back_costs setting txns txn [] game number order ended owed = record { paid = omega arith; tries = omega arith }
back_costs setting txns txn (r ∷ rs) game number order ended owed =
    let turn = turn_of setting txn game.turns in
    let of_game = the_turn setting txns txn game number order in
    let own = turn_of_txn setting txn game.turns (ap (is_in txn) order.numbers ∙ number) in
    let move = frees (receipt_after setting game.events 0 txn (Free r.tree r.range r.first 0)) in
    let next = does setting turn move game in
    let there : turn_of setting txn next.turns ≡ turn_after turn move =
    ap (λ (n : ℕ). turn_of setting n next.turns) (sym own) ∙ turn_after_does setting txns game turn move of_game in
    let onward : IsInOrder setting txns next = in_order_with setting txns next.events game.released game (turn_after turn move) order
    (steady_freed setting turn (turn_has (IsSteady setting) setting txns game turn of_game order.steady)) in
    let rest =
    back_costs setting txns txn rs next number onward (ap (λ (t : Turn). is_some t.outcome) there ∙ ended)
    (ap (λ (t : Turn). t.releases) there ∙ ap rest_of_release owed) in
    let before : frees_of turn ≡ suc (length rs) = on_true (is_some turn.outcome) _ _ ended ∙ ap length owed in
    let behind : frees_of (turn_after turn move) ≡ length rs =
    on_true (is_some turn.outcome) _ _ ended ∙ ap (λ (l : List Release). length (rest_of_release l)) owed in
    let same : tries_of (turn_after turn move) ≡ tries_of turn = refl in
    let sum = total_does frees_of setting txns game turn move of_game in
    let sum_tries = total_does tries_of setting txns game turn move of_game in
    let events : length next.events ≡ length game.events + 1 = length-does setting game turn move in
    record {
      paid = omega (arith, rest.paid, before, behind, sum, events);
      tries = omega (arith, rest.tries, same, sum_tries);
    }

settle_costs : (setting : Setting) (txns : List ℕ) (txn : ℕ) (game : Game) → is_in txn txns ≡ true → IsInOrder setting txns game →
    Settles game (settles setting (turn_of setting txn game.turns) game)
settle_costs setting txns txn game number order = by_outcome (is_some turn.outcome) refl
  where
    turn : Turn
    turn = turn_of setting txn game.turns

    own : turn.txn ≡ txn
    own = turn_of_txn setting txn game.turns (ap (is_in txn) order.numbers ∙ number)

    by_outcome : (b : Bool) → is_some turn.outcome ≡ b →
        Settles game (if b then record (gives_back setting turn.txn turn.releases game) { released = true } else game)
    by_outcome true ended =
        let back = back_costs setting txns turn.txn turn.releases game (ap (λ (n : ℕ). is_in n txns) own ∙ number) order
        (ap (λ (n : ℕ). is_some (turn_of setting n game.turns).outcome) own ∙ ended) (ap (λ (n : ℕ). (turn_of setting n game.turns).releases) own) in
        record { paid = back.paid; tries = back.tries }
    by_outcome false goes = record { paid = omega arith; tries = omega arith }

-- A line.

one_most : (b : Bool) → one_if b ≤ 1
one_most true = omega arith
one_most false = omega arith

-- a sweep may begin no more often behind a line
marks_line : (setting : Setting) (txns : List ℕ) (txn : ℕ) (line : Line) (lines : List Line) (game : Game) → is_in txn txns ≡ true →
    IsInOrder setting txns game →
    is_some (turn_of setting txn game.turns).outcome ≡ false → (turn_of setting txn game.turns).lines ≡ line ∷ lines →
    sweeps_left setting txns (plays_line setting txn (line ∷ lines) game) ≤ sweeps_left setting txns game
marks_line setting txns txn line lines game number order goes same = by_outcome (is_some (turn_of setting txn next.turns).outcome) refl
  where
    turn : Turn
    turn = turn_of setting txn game.turns

    next : Game
    next = does setting turn (line_move setting game turn line.deed) game

    last : Game
    last = plays_line setting txn (line ∷ lines) game

    stays : AreStill setting game last txns
    stays = still_line setting txns txns txn (line ∷ lines) game number order goes same

    at : IsAtLine setting txns game turn line lines
    at = record { of_game = the_turn setting txns txn game number order; goes = goes; next = same }

    onward : IsInOrder setting txns next
    onward = (holds_plays setting txns AnyOne (λ g. Unit {0}) game turn line lines (keeps_nothing setting txns) at tt tt).order

    by_outcome : (b : Bool) → is_some (turn_of setting txn next.turns).outcome ≡ b →
        sweeps_left setting txns last ≤ sweeps_left setting txns game
    by_outcome true ended =
        let over =
        (holds_settles setting txns AnyOne (λ g. has_ended setting txn g ≡ true) txn next (keeps_ended setting txns txn) tt number (record { order = onward; is = ended })).is in
        let k = open_fewer setting game last txn txns stays number goes over in
        let most = one_most last.released in
        omega (arith, k, most)
    by_outcome false still =
        let same_game : last ≡ next = settled_flag setting (turn_of setting txn next.turns) next still in
        let flag : one_if last.released ≡ one_if game.released = ap (λ (g : Game). one_if g.released) same_game in
        let k = open_less setting game last txns stays in
        omega (arith, k, flag)

-- the tries of a turn at a line: one more where it has been held there
tries_at : (turn : Turn) (line : Line) (lines : List Line) → turn.lines ≡ line ∷ lines →
    2 + 2 * length (rest_of turn.lines) ≡ tries_of turn + one_if turn.waits
tries_at turn line lines same = by_waiting turn.waits
  where
    long : length turn.lines ≡ 1 + length (rest_of turn.lines)
    long = omega (arith, ap length same, ap (λ (ls : List Line). length (rest_of ls)) same)

    by_waiting : (b : Bool) →
        2 + 2 * length (rest_of turn.lines) ≡ (if b then 1 + 2 * length (rest_of turn.lines) else 2 * length turn.lines) + one_if b
    by_waiting true = omega arith
    by_waiting false = omega (arith, long)

costs_line : (setting : Setting) (txns : List ℕ) (txn : ℕ) (lines : List Line) (game : Game) → is_in txn txns ≡ true →
    IsInOrder setting txns game →
    is_some (turn_of setting txn game.turns).outcome ≡ false → (turn_of setting txn game.turns).lines ≡ lines →
    Costs setting txns game (plays_line setting txn lines game) (one_if (turn_of setting txn game.turns).waits) 0
costs_line setting txns txn [] game number order goes same =
    costs_most setting txns game game 0 0 (one_if (turn_of setting txn game.turns).waits) 0 (costs_nothing setting txns game) (omega arith)
    (omega arith)
costs_line setting txns txn (line ∷ lines) game number order goes same =
    let turn = turn_of setting txn game.turns in
    let move = line_move setting game turn line.deed in
    let next = does setting turn move game in
    let last = plays_line setting txn (line ∷ lines) game in
    let of_game = the_turn setting txns txn game number order in
    let at : IsAtLine setting txns game turn line lines = record { of_game = of_game; goes = goes; next = same } in
    let onward : IsInOrder setting txns next =
    (holds_plays setting txns AnyOne (λ g. Unit {0}) game turn line lines (keeps_nothing setting txns) at tt tt).order in
    let is_small = small_line setting game turn line lines goes same in
    let small = is_small.small in
    let settled_all : Settles next last = settle_costs setting txns txn next number onward in
    let sum = total_does frees_of setting txns game turn move of_game in
    let sum_tries = total_does tries_of setting txns game turn move of_game in
    let events = length-does setting game turn move in
    let turns : length game.turns ≡ length txns = sym (length-map game.turns (λ (t : Turn). t.txn)) ∙ ap length order.numbers in
    let one : cost setting txns * 1 ≡ cost setting txns = omega arith in
    let begun = tries_at turn line lines same in
    record {
      tries = 1;
      sweeps = 0;
      paid = omega (arith, settled_all.paid, sum, events, is_small.events, small.frees, turns, one);
      fewer = omega (arith, settled_all.tries, sum_tries, small.tries, begun);
      marked = (let k = marks_line setting txns txn line lines game number order goes same in omega (arith, k));
    }

costs_next : (setting : Setting) (txns : List ℕ) (txn : ℕ) (game : Game) → is_in txn txns ≡ true → IsInOrder setting txns game →
    is_some (turn_of setting txn game.turns).outcome ≡ false →
    Costs setting txns game (plays_next setting txn game) (one_if (turn_of setting txn game.turns).waits) 0
costs_next setting txns txn game number order goes = costs_line setting txns txn (turn_of setting txn game.turns).lines game number order goes refl

-- one that is ready needs no more tries than were left
pub costs_ready : (setting : Setting) (txns : List ℕ) (txn : ℕ) (game : Game) → is_in txn txns ≡ true → IsInOrder setting txns game →
    is_some (turn_of setting txn game.turns).outcome ≡ false →
    (turn_of setting txn game.turns).waits ≡ false → Costs setting txns game (plays_next setting txn game) 0 0
costs_ready setting txns txn game number order goes free =
    let none : one_if (turn_of setting txn game.turns).waits ≡ 0 = ap one_if free in
    costs_most setting txns game (plays_next setting txn game) (one_if (turn_of setting txn game.turns).waits) 0 0 0
    (costs_next setting txns txn game number order goes) (omega (arith, none)) (omega arith)

order_next : (setting : Setting) (txns : List ℕ) (txn : ℕ) (game : Game) → is_in txn txns ≡ true → IsInOrder setting txns game →
    is_some (turn_of setting txn game.turns).outcome ≡ false →
    IsInOrder setting txns (plays_next setting txn game)
order_next setting txns txn game number order goes =
    (holds_next setting txns AnyOne (λ g. Unit {0}) txn game (keeps_nothing setting txns) tt number (record { order = order; is = tt }) goes).order

costs_on : (setting : Setting) (txns : List ℕ) (txn : ℕ) (lines : List Line) (game : Game) → is_in txn txns ≡ true →
    IsInOrder setting txns game →
    Costs setting txns game (plays_on setting txn lines game) 0 0
costs_on setting txns txn [] game number order = costs_nothing setting txns game
costs_on setting txns txn (line ∷ lines) game number order =
    by_test (is_ready (turn_of setting txn game.turns)) refl (λ onward. costs_on setting txns txn lines (plays_next setting txn game) number onward)
  where
    turn : Turn
    turn = turn_of setting txn game.turns

    by_test : (b : Bool) → is_ready turn ≡ b →
        (IsInOrder setting txns (plays_next setting txn game) → Costs setting txns (plays_next setting txn game) (plays_on setting txn lines (plays_next setting txn game)) 0 0) →
        Costs setting txns game (if b then plays_on setting txn lines (plays_next setting txn game) else game) 0 0
    by_test true ready on =
        let goes = ready_goes turn ready in
        costs_then setting txns game (plays_next setting txn game) (plays_on setting txn lines (plays_next setting txn game)) 0 0 0 0 0 0
        (costs_ready setting txns txn game number order goes (ready_free turn ready)) (on (order_next setting txns txn game number order goes))
        (omega arith) (omega arith)
    by_test false waiting on = costs_nothing setting txns game

-- one that waits is tried once more
costs_retried : (setting : Setting) (txns : List ℕ) (game : Game) (txn : ℕ) → is_in txn txns ≡ true → IsInOrder setting txns game →
    Costs setting txns game (retried setting game txn) 1 0
costs_retried setting txns game txn number order = by_test (is_waiting turn) refl
  where
    turn : Turn
    turn = turn_of setting txn game.turns

    by_test : (b : Bool) → is_waiting turn ≡ b →
        Costs setting txns game (if b then (let next = plays_next setting txn game in plays_on setting txn (turn_of setting txn next.turns).lines next) else game) 1 0
    by_test true held =
        let goes =
        waits_goes setting turn (turn_has (IsSteady setting) setting txns game turn (the_turn setting txns txn game number order) order.steady) held in
        let next = plays_next setting txn game in
        let most = one_most turn.waits in
        costs_then setting txns game next (plays_on setting txn (turn_of setting txn next.turns).lines next) (one_if turn.waits) 0 0 0 1 0
        (costs_next setting txns txn game number order goes)
        (costs_on setting txns txn (turn_of setting txn next.turns).lines next number (order_next setting txns txn game number order goes))
        (omega (arith, most)) (omega arith)
    by_test false free = costs_most setting txns game game 0 0 1 0 (costs_nothing setting txns game) (omega arith) (omega arith)

-- Sweeps.

costs_round : (setting : Setting) (txns left : List ℕ) (game : Game) → AreOf txns left → IsInOrder setting txns game →
    Costs setting txns game (fold (retried setting) game left) (length left) 0
costs_round setting txns [] game all order = costs_nothing setting txns game
costs_round setting txns (txn ∷ left) game all order =
    let next = retried setting game txn in
    let onward =
    (holds_retried setting txns AnyOne (λ g. Unit {0}) game txn (keeps_nothing setting txns) tt all.0 (record { order = order; is = tt })).order in
    costs_then setting txns game next (fold (retried setting) next left) 1 0 (length left) 0 (suc (length left)) 0
    (costs_retried setting txns game txn all.0 order) (costs_round setting txns left next all.1 onward) (omega arith) (omega arith)

still_marked : (setting : Setting) (game : Game) (ns : List ℕ) → AreStill setting game (record game { released = false }) ns
still_marked setting game [] = tt
still_marked setting game (n ∷ ns) = ((λ is. is), still_marked setting game ns)

-- a sweep tries each that waits once more
pub costs_swept : (setting : Setting) (txns : List ℕ) (game : Game) (more : ℕ) → IsInOrder setting txns game →
    1 ≤ one_if game.released + more →
    Costs setting txns game (swept setting txns game) 0 more
costs_swept setting txns game more order some =
    let free : Game = record game { released = false } in
    let round = costs_round setting txns txns free (are_of txns) (record { sorted = order.sorted; numbers = order.numbers; steady = order.steady }) in
    let unended = open_less setting game free txns (still_marked setting game txns) in
    record {
      tries = round.tries;
      sweeps = 1 + round.sweeps;
      paid = round.paid;
      fewer = omega (arith, round.fewer, times_more (length txns) 1 round.sweeps);
      marked = omega (arith, round.marked, unended, some);
    }

costs_swept_if : (setting : Setting) (txns : List ℕ) (game : Game) → IsInOrder setting txns game →
    Costs setting txns game (swept_if_released setting txns game) 0 0
unfolding swept_if_released
costs_swept_if setting txns game order = by_test game.released refl
  where
    by_test : (b : Bool) → game.released ≡ b → Costs setting txns game (if b then swept setting txns game else game) 0 0
    by_test true e = (let one : one_if game.released ≡ 1 = ap one_if e in costs_swept setting txns game 0 order (omega (arith, one)))
    by_test false e = costs_nothing setting txns game

order_swept : (setting : Setting) (txns : List ℕ) (game : Game) → IsInOrder setting txns game →
    IsInOrder setting txns (swept_if_released setting txns game)
order_swept setting txns game order =
    (holds_swept_if setting txns (λ g. Unit {0}) game (record { plays = λ g turn line lines at is. tt; gives = λ g turn r rs at is. tt; marks = λ g released is. tt })
    (record { order = order; is = tt })).order

costs_rounds : (setting : Setting) (txns left : List ℕ) (game : Game) → IsInOrder setting txns game →
    Costs setting txns game (fold (λ g (txn : ℕ). swept_if_released setting txns g) game left) 0 0
costs_rounds setting txns [] game order = costs_nothing setting txns game
costs_rounds setting txns (txn ∷ left) game order =
    let next = swept_if_released setting txns game in
    costs_then setting txns game next (fold (λ g (n : ℕ). swept_if_released setting txns g) next left) 0 0 0 0 0 0
    (costs_swept_if setting txns game order) (costs_rounds setting txns left next (order_swept setting txns game order)) (omega arith) (omega arith)

pub costs_settled : (setting : Setting) (txns : List ℕ) (game : Game) → IsInOrder setting txns game →
    Costs setting txns game (settled setting txns game) 0 0
costs_settled setting txns game order = costs_rounds setting txns txns game order
