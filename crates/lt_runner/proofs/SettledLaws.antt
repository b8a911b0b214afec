-- Once sweeps are over, none was released since the last one began: so it is between two steps.
use Rattle.std.proofs.Common.{◌≡◌, ℕ, suc, ◌+◌, ◌≤◌, List, [], ◌∷◌, ◌++◌, Option, Some, None, nat_cmp, Bool, true, false, if◌then◌else◌, is_some, length, refl, sym, ap, subst, ◌∙◌, arith}
use Rattle.std.specs.List.{fold, find}
use Rattle.std.specs.List.Sorted.{IsStrictlySortedBy}
use Rattle.lt_ranges.specs.Numbers.{is_in}
use Rattle.lt_seq.specs.Table.{Setting}
use Rattle.lt_trace.specs.declared.line.Line.{Line}
use Rattle.lt_runner.specs.TurnView.{Turn}
use Rattle.lt_runner.specs.Plays.{end_of}
use Rattle.lt_runner.specs.Serial.{Game, turn_of, is_waiting, is_ready, line_move, does, settles, plays_line, plays_next, plays_on, retried, swept, swept_if_released, settled, added}
use Rattle.lt_runner.specs.Serial.{takes_line, ends_first, ends_one}
use Rattle.lt_runner.specs.Steps.{IsFitLine, IsSteady, IsInOrder, IsTurnOf, IsAtLine, IsFit, takes}
use Rattle.lt_runner.proofs.ChoiceLaws.{on_false}
use Rattle.lt_runner.proofs.SteadyLaws.{turn_of_txn, turn_of_with, turn_has, steady_taking, ready_goes, waits_goes, never}
use Rattle.lt_runner.proofs.MoveLaws.{Holds, AnyOne, AreOf, are_of, the_turn, in_order_with, holds_plays, holds_settles, holds_line, holds_next, holds_retried, holds_swept_if}
use Rattle.lt_runner.proofs.IdleLaws.{AreAtRest, keeps_nothing, keeps_ended, rest_added, rest_swept}
use Rattle.lt_runner.proofs.StepLaws.{found_ready}
use Rattle.lt_runner.proofs.EndLaws.{has_ended, ended_takes, open_in, open_few, open_less, open_fewer, AreStill}

ordered : (setting : Setting) (txns : List ℕ) (game : Game) → IsInOrder setting txns game → Holds setting txns (λ game. Unit {0}) game
ordered setting txns game order = record { order = order; is = tt }

-- Where one is released, fewer are left than there were in the old game; and those that had ended then have.
pub record Progress (setting : Setting) (txns : List ℕ) (old game : Game) : Type 0 where
  pub fewer : game.released ≡ true → 1 + open_in setting game txns ≤ open_in setting old txns
  pub still : AreStill setting old game txns

still_on : (setting : Setting) (a b c : Game) (ns : List ℕ) → AreStill setting a b ns → AreStill setting b c ns → AreStill setting a c ns
still_on setting a b c [] first second = tt
still_on setting a b c (n ∷ ns) first second = ((λ is. second.0 (first.0 is)), still_on setting a b c ns first.1 second.1)

still_itself : (setting : Setting) (a : Game) (ns : List ℕ) → AreStill setting a a ns
still_itself setting a [] = tt
still_itself setting a (n ∷ ns) = ((λ is. is), still_itself setting a ns)

-- a release marks the game, and nothing else does
pub settled_flag : (setting : Setting) (turn : Turn) (game : Game) → is_some turn.outcome ≡ false → settles setting turn game ≡ game
settled_flag setting turn game goes = on_false (is_some turn.outcome) _ game goes

-- what a line's move and its release keep of those that had ended
pub still_line : (setting : Setting) (txns ns : List ℕ) (txn : ℕ) (lines : List Line) (game : Game) → is_in txn txns ≡ true → IsInOrder setting txns game →
    is_some (turn_of setting txn game.turns).outcome ≡ false → (turn_of setting txn game.turns).lines ≡ lines →
    AreStill setting game (plays_line setting txn lines game) ns
still_line setting txns [] txn lines game number order goes same = tt
still_line setting txns (n ∷ ns) txn lines game number order goes same = (
  λ is. (holds_line setting txns AnyOne (λ g. has_ended setting n g ≡ true) txn lines game (keeps_ended setting txns n) tt number (record { order = order; is = is }) goes same).is,
  still_line setting txns ns txn lines game number order goes same,
)

-- one line
progress_line : (setting : Setting) (txns : List ℕ) (old : Game) (txn : ℕ) (lines : List Line) (game : Game) → is_in txn txns ≡ true → IsInOrder setting txns game →
    is_some (turn_of setting txn game.turns).outcome ≡ false → (turn_of setting txn game.turns).lines ≡ lines →
    Progress setting txns old game → Progress setting txns old (plays_line setting txn lines game)
progress_line setting txns old txn [] game number order goes same so_far = so_far
progress_line setting txns old txn (line ∷ lines) game number order goes same so_far = record {
  fewer = by_outcome (is_some (turn_of setting txn next.turns).outcome) refl;
  still = still_on setting old game last txns so_far.still stays;
}
  where
    turn : Turn
    turn = turn_of setting txn game.turns

    next : Game
    next = does setting turn (line_move setting game turn line.deed) game

    last : Game
    last = plays_line setting txn (line ∷ lines) game

    stays : AreStill setting game last txns
    stays = still_line setting txns txns txn (line ∷ lines) game number order goes same

    at : IsAtLine setting txns game turn line lines
    at = record { of_game = the_turn setting txns txn game number order; goes = goes; next = same }

    onward : IsInOrder setting txns next
    onward = (holds_plays setting txns AnyOne (λ g. Unit {0}) game turn line lines (keeps_nothing setting txns) at tt tt).order

    by_outcome : (b : Bool) → is_some (turn_of setting txn next.turns).outcome ≡ b → last.released ≡ true → 1 + open_in setting last txns ≤ open_in setting old txns
    by_outcome true ended marked =
        let over = (holds_settles setting txns AnyOne (λ g. has_ended setting txn g ≡ true) txn next (keeps_ended setting txns txn) tt number (record { order = onward; is = ended })).is in
        let k = open_fewer setting game last txn txns stays number goes over in
        omega (arith, k, open_less setting old game txns so_far.still)
    by_outcome false still marked =
        let same_game = settled_flag setting (turn_of setting txn next.turns) next still in
        let k = so_far.fewer (sym (ap (λ (g : Game). g.released) same_game) ∙ marked) in
        omega (arith, k, open_less setting game last txns stays)

progress_next : (setting : Setting) (txns : List ℕ) (old : Game) (txn : ℕ) (game : Game) → is_in txn txns ≡ true → IsInOrder setting txns game →
    is_some (turn_of setting txn game.turns).outcome ≡ false →
    Progress setting txns old game → Progress setting txns old (plays_next setting txn game)
progress_next setting txns old txn game number order goes so_far = progress_line setting txns old txn (turn_of setting txn game.turns).lines game number order goes refl so_far

progress_on : (setting : Setting) (txns : List ℕ) (old : Game) (txn : ℕ) (lines : List Line) (game : Game) → is_in txn txns ≡ true → IsInOrder setting txns game →
    Progress setting txns old game → Progress setting txns old (plays_on setting txn lines game)
progress_on setting txns old txn [] game number order so_far = so_far
progress_on setting txns old txn (line ∷ lines) game number order so_far =
    by_test (is_ready (turn_of setting txn game.turns)) refl (λ onward now. progress_on setting txns old txn lines (plays_next setting txn game) number onward now)
  where
    turn : Turn
    turn = turn_of setting txn game.turns

    by_test : (b : Bool) → is_ready turn ≡ b →
        (IsInOrder setting txns (plays_next setting txn game) → Progress setting txns old (plays_next setting txn game) →
        Progress setting txns old (plays_on setting txn lines (plays_next setting txn game))) →
        Progress setting txns old (if b then plays_on setting txn lines (plays_next setting txn game) else game)
    by_test true ready on =
        let goes = ready_goes turn ready in
        on (holds_next setting txns AnyOne (λ g. Unit {0}) txn game (keeps_nothing setting txns) tt number (ordered setting txns game order) goes).order
        (progress_next setting txns old txn game number order goes so_far)
    by_test false waiting on = so_far

progress_retried : (setting : Setting) (txns : List ℕ) (old game : Game) (txn : ℕ) → is_in txn txns ≡ true → IsInOrder setting txns game →
    Progress setting txns old game → Progress setting txns old (retried setting game txn)
progress_retried setting txns old game txn number order so_far = by_test (is_waiting turn) refl
  where
    turn : Turn
    turn = turn_of setting txn game.turns

    by_test : (b : Bool) → is_waiting turn ≡ b →
        Progress setting txns old (if b then (let next = plays_next setting txn game in plays_on setting txn (turn_of setting txn next.turns).lines next) else game)
    by_test true held =
        let goes = waits_goes setting turn (turn_has (IsSteady setting) setting txns game turn (the_turn setting txns txn game number order) order.steady) held in
        progress_on setting txns old txn (turn_of setting txn (plays_next setting txn game).turns).lines (plays_next setting txn game) number
        (holds_next setting txns AnyOne (λ g. Unit {0}) txn game (keeps_nothing setting txns) tt number (ordered setting txns game order) goes).order
        (progress_next setting txns old txn game number order goes so_far)
    by_test false free = so_far

progress_round : (setting : Setting) (txns left : List ℕ) (old game : Game) → AreOf txns left → IsInOrder setting txns game → Progress setting txns old game →
    Progress setting txns old (fold (retried setting) game left)
progress_round setting txns [] old game all order so_far = so_far
progress_round setting txns (txn ∷ left) old game all order so_far =
    progress_round setting txns left old (retried setting game txn) all.1
    (holds_retried setting txns AnyOne (λ g. Unit {0}) game txn (keeps_nothing setting txns) tt all.0 (ordered setting txns game order)).order
    (progress_retried setting txns old game txn all.0 order so_far)

-- a sweep behind which one was released has ended one
progress_swept : (setting : Setting) (txns : List ℕ) (game : Game) → IsInOrder setting txns game → Progress setting txns game (swept setting txns game)
progress_swept setting txns game order =
    progress_round setting txns txns game (record game { released = false }) (are_of txns) (record { sorted = order.sorted; numbers = order.numbers; steady = order.steady })
    (record { fewer = λ e. never false refl e; still = still_itself setting game txns })

-- one sweep after another: where one is released still, each has ended one
record Sweeps (setting : Setting) (txns : List ℕ) (count : ℕ) (game last : Game) : Type 0 where
  fewer : last.released ≡ true → count + open_in setting last txns ≤ open_in setting game txns
  rested : game.released ≡ false → last ≡ game

sweep_if : (setting : Setting) (txns : List ℕ) (game : Game) → IsInOrder setting txns game → Sweeps setting txns 1 game (swept_if_released setting txns game)
unfolding swept_if_released
sweep_if setting txns game order = by_test game.released refl
  where
    by_test : (b : Bool) → game.released ≡ b → Sweeps setting txns 1 game (if b then swept setting txns game else game)
    by_test true e = record { fewer = (progress_swept setting txns game order).fewer; rested = λ free. never game.released free e }
    by_test false e = record { fewer = λ marked. never game.released e marked; rested = λ free. refl }

swept_order : (setting : Setting) (txns : List ℕ) (game : Game) → IsInOrder setting txns game → IsInOrder setting txns (swept_if_released setting txns game)
swept_order setting txns game order =
    (holds_swept_if setting txns (λ g. Unit {0}) game (record { plays = λ g turn line lines at is. tt; gives = λ g turn r rs at is. tt; marks = λ g released is. tt })
    (ordered setting txns game order)).order

sweeps : (setting : Setting) (txns left : List ℕ) (game : Game) → IsInOrder setting txns game →
    Sweeps setting txns (length left) game (fold (λ g (txn : ℕ). swept_if_released setting txns g) game left)
sweeps setting txns [] game order = record { fewer = λ marked. omega arith; rested = λ free. refl }
sweeps setting txns (txn ∷ left) game order =
    let next = swept_if_released setting txns game in
    let first = sweep_if setting txns game order in
    let later = sweeps setting txns left next (swept_order setting txns game order) in
    record {
      fewer = λ marked. by_next next.released refl first later marked;
      rested = λ free. later.rested (ap (λ (g : Game). g.released) (first.rested free) ∙ free) ∙ first.rested free;
    }
  where
    by_next : (b : Bool) → (swept_if_released setting txns game).released ≡ b → Sweeps setting txns 1 game (swept_if_released setting txns game) →
        Sweeps setting txns (length left) (swept_if_released setting txns game) (fold (λ g (n : ℕ). swept_if_released setting txns g) (swept_if_released setting txns game) left) →
        (fold (λ g (n : ℕ). swept_if_released setting txns g) (swept_if_released setting txns game) left).released ≡ true →
        suc (length left) + open_in setting (fold (λ g (n : ℕ). swept_if_released setting txns g) (swept_if_released setting txns game) left) txns ≤ open_in setting game txns
    by_next true e first later marked = omega (arith, first.fewer e, later.fewer marked)
    by_next false e first later marked =
        never (swept_if_released setting txns game).released e (sym (ap (λ (g : Game). g.released) (later.rested e)) ∙ marked)

-- As many sweeps as there are transactions are enough, where one that was released has ended.
pub settled_rests : (setting : Setting) (txns : List ℕ) (game : Game) → IsInOrder setting txns game →
    (game.released ≡ true → 1 + open_in setting game txns ≤ length txns) → (settled setting txns game).released ≡ false
settled_rests setting txns game order some = by_flag (settled setting txns game).released refl
  where
    all : Sweeps setting txns (length txns) game (settled setting txns game)
    all = sweeps setting txns txns game order

    by_first : (b : Bool) → game.released ≡ b → (settled setting txns game).released ≡ true → (settled setting txns game).released ≡ false
    by_first true e marked = absurd (omega (arith, some e, all.fewer marked))
    by_first false e marked = ap (λ (g : Game). g.released) (all.rested e) ∙ e

    by_flag : (b : Bool) → (settled setting txns game).released ≡ b → (settled setting txns game).released ≡ false
    by_flag true e = by_first game.released refl e
    by_flag false e = e

-- Steps.

pub still_takes : (setting : Setting) (txns ns : List ℕ) (game : Game) (turn : Turn) (line : Line) → IsTurnOf setting txns game turn → is_some turn.outcome ≡ false →
    AreStill setting game (takes turn line game) ns
still_takes setting txns [] game turn line of_game goes = tt
still_takes setting txns (n ∷ ns) game turn line of_game goes = ((λ is. ended_takes setting txns n game turn line of_game goes is), still_takes setting txns ns game turn line of_game goes)

-- a line that is played where none was released
progress_added : (setting : Setting) (txns : List ℕ) (game : Game) (turn : Turn) (line : Line) → IsTurnOf setting txns game turn → IsFitLine setting turn.txn line →
    game.released ≡ false → Progress setting txns game (added setting line turn game)
progress_added setting txns game turn line of_game fits free = by_outcome (is_some turn.outcome) refl
  where
    new : Turn
    new = record turn { lines = turn.lines ++ line ∷ [] }

    next : Game
    next = takes turn line game

    there : turn_of setting turn.txn next.turns ≡ new
    there = turn_of_with setting new game.turns (ap (is_in turn.txn) of_game.order.numbers ∙ of_game.number)

    steady : IsSteady setting turn
    steady = turn_has (IsSteady setting) setting txns game turn of_game of_game.order.steady

    taken : is_some turn.outcome ≡ false → Progress setting txns game next
    taken goes = record { fewer = λ marked. never game.released free marked; still = still_takes setting txns txns game turn line of_game goes }

    by_waiting : (b : Bool) → is_some turn.outcome ≡ false → Progress setting txns game (if b then next else plays_next setting turn.txn next)
    by_waiting true goes = taken goes
    by_waiting false goes =
        progress_next setting txns game turn.txn next of_game.number (in_order_with setting txns game.events game.released game new of_game.order (steady_taking setting turn line goes fits steady))
        (ap (λ (t : Turn). is_some t.outcome) there ∙ goes) (taken goes)

    by_outcome : (b : Bool) → is_some turn.outcome ≡ b → Progress setting txns game (if b then game else if is_waiting turn then next else plays_next setting turn.txn next)
    by_outcome true ended = record { fewer = λ marked. never game.released free marked; still = still_itself setting game txns }
    by_outcome false goes = by_waiting (is_waiting turn) goes

-- Between two steps none was released since the last sweep began.
unreleased : (setting : Setting) (txns : List ℕ) (old game : Game) → IsInOrder setting txns game → Progress setting txns old game → (settled setting txns game).released ≡ false
unreleased setting txns old game order so_far = settled_rests setting txns game order (λ marked. omega (arith, so_far.fewer marked, open_few setting old txns))

pub unreleased_taken : (setting : Setting) (txns : List ℕ) (line : Line) (game : Game) → IsFit setting txns line → AreAtRest setting txns game → game.released ≡ false →
    (takes_line setting txns game line).released ≡ false
unreleased_taken setting txns line game fit at_rest free =
    let turn = turn_of setting line.txn game.turns in
    let of_game = the_turn setting txns line.txn game fit.number at_rest.order in
    let own : line.txn ≡ turn.txn = sym (turn_of_txn setting line.txn game.turns (ap (is_in line.txn) at_rest.order.numbers ∙ fit.number)) in
    let fits : IsFitLine setting turn.txn line = record { own = own; deed = fit.deed } in
    unreleased setting txns game (added setting line turn game) (rest_added setting txns game turn line of_game fits at_rest).order (progress_added setting txns game turn line of_game fits free)

pub unreleased_ends : (setting : Setting) (txns : List ℕ) (game : Game) → AreAtRest setting txns game → game.released ≡ false → (ends_one setting txns game).released ≡ false
unreleased_ends setting txns game at_rest free = by_found (find is_ready game.turns) refl
  where
    by_found : (found : Option Turn) → find is_ready game.turns ≡ found → (settled setting txns (ends_first setting txns found game)).released ≡ false
    by_found None none = unreleased setting txns game (swept setting txns game) (rest_swept setting txns game at_rest).order (progress_swept setting txns game at_rest.order)
    by_found (Some turn) some =
        let order = at_rest.order in
        let found = found_ready setting game.turns turn (subst (IsStrictlySortedBy nat_cmp) (sym order.numbers) order.sorted) some in
        let of_game : IsTurnOf setting txns game turn = record { order = order; number = sym (ap (is_in turn.txn) order.numbers) ∙ found.number; there = found.there } in
        let fits : IsFitLine setting turn.txn (end_of turn.txn) = record { own = refl; deed = tt } in
        unreleased setting txns game (added setting (end_of turn.txn) turn game) (rest_added setting txns game turn (end_of turn.txn) of_game fits at_rest).order
        (progress_added setting txns game turn (end_of turn.txn) of_game fits free)
