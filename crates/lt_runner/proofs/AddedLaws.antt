-- A line that is added to a board.
use Rattle.std.proofs.Common.{◌≡◌, ◌≢◌, ℕ, List, [], ◌∷◌, ◌++◌, Bool, true, false, ◌&&◌, not, if◌then◌else◌, Option, Some, None, is_some, is_none, get_or, nat_cmp, refl, sym, ap, subst, ◌∙◌}
use Rattle.std.specs.Prelude.{option_map}
use Rattle.std.specs.List.{find}
use Rattle.std.specs.List.Sorted.{IsStrictlySortedBy}
use Rattle.lt_ranges.specs.Numbers.{is_in}
use Rattle.lt_seq.specs.declared.event.Event.{Event}
use Rattle.lt_seq.specs.Table.{Setting}
use Rattle.lt_trace.specs.declared.line.Line.{Line}
use Rattle.lt_history.specs.declared.outcome.Outcome.{Outcome}
use Rattle.lt_runner.specs.TurnView.{Turn, Seat}
use Rattle.lt_runner.specs.Plays.{next_wish, end_of}
use Rattle.lt_runner.specs.Played.{IsAtLock}
use Rattle.lt_runner.specs.Seats.{idle, with_line}
use Rattle.lt_runner.specs.Serial.{Game, game_at, turn_of, with_turn, is_waiting, is_ready, plays_next, swept, added, takes_line, ends_first, ends_one}
use Rattle.lt_runner.specs.Steps.{IsSteady, IsInOrder, IsFitLine, IsFit, takes}
use Rattle.lt_runner.specs.Board.{BoardView, IsBoard, IsOn, IsCalm, GoesOn, IsLinePut, Shows, HasRoom, turns_of, game_on, numbers_on, turn_on}
use Rattle.lt_runner.proofs.ChoiceLaws.{on_true, on_false}
use Rattle.lt_runner.proofs.SteadyLaws.{turn_of_with, steady_taking}
use Rattle.lt_runner.proofs.MoveLaws.{the_turn, in_order_with}
use Rattle.lt_runner.proofs.StepLaws.{found_ready}
use Rattle.lt_runner.proofs.WishLaws.{wish_of}
use Rattle.lt_runner.proofs.WaitLaws.{wishes_stay}
use Rattle.lt_runner.proofs.BoardLaws.{turn_at}
use Rattle.lt_runner.proofs.SeatLaws.{IsPut, board_put, shows_put}
use Rattle.lt_runner.proofs.SeatMoveLaws.{calm_at}
use Rattle.lt_runner.proofs.LockMoveLaws.{steady_on, txn_is}
use Rattle.lt_runner.proofs.RoomLaws.{room_rounds, order_next, order_swept}
use Rattle.lt_runner.proofs.OnLaws.{shows_of, shows_then, is_on, room_own}

sorted_on : (setting : Setting) (txns : List ℕ) (events : List Event) (board : BoardView) → IsBoard setting txns events board →
    IsStrictlySortedBy nat_cmp (numbers_on board)
sorted_on setting txns events board stands = subst (IsStrictlySortedBy nat_cmp) (sym stands.order.numbers) stands.order.sorted

-- A line behind the others.

abbrev pub lined : Turn → Line → Turn
lined turn line = record turn { lines = turn.lines ++ line ∷ [] }

wish_longer : (txn : ℕ) (lines : List Line) (line : Line) → IsAtLock lines → next_wish txn (lines ++ line ∷ []) ≡ next_wish txn lines
wish_longer txn [] line lock = absurd lock
wish_longer txn (l ∷ ls) line lock = refl

same_wish : (turn : Turn) (line : Line) → (turn.waits ≡ true → IsAtLock turn.lines) → wish_of turn ≡ wish_of (lined turn line)
same_wish turn line held = by_test turn.waits refl
  where
    by_test : (b : Bool) → turn.waits ≡ b →
        (if b then next_wish turn.txn turn.lines else None) ≡ (if b then next_wish turn.txn (turn.lines ++ line ∷ []) else None)
    by_test true e = sym (wish_longer turn.txn turn.lines line (held e))
    by_test false e = refl

fits_on : (setting : Setting) (txns : List ℕ) (events : List Event) (board : BoardView) (line : Line) → IsBoard setting txns events board →
    IsFit setting txns line →
    IsFitLine setting (turn_on setting line.txn board).txn line
fits_on setting txns events board line stands fit = record { own = sym (txn_is setting txns line.txn events board stands fit.number); deed = fit.deed }

-- it is put behind the others of its transaction
pub put_shows : (setting : Setting) (txns : List ℕ) (events : List Event) (board new : BoardView) (line : Line) →
    IsBoard setting txns events board → IsFit setting txns line →
    is_some (turn_on setting line.txn board).outcome ≡ false → IsLinePut line board new → Shows setting txns events new (takes (turn_on setting line.txn board) line (game_on events board))
put_shows setting txns events board new line stands fit goes put =
    subst (λ (b : BoardView). Shows setting txns events b (takes turn line game)) (sym (put.board d)) shows_here
  where
    turn : Turn
    turn = turn_on setting line.txn board

    game : Game
    game = game_on events board

    d : Seat
    d = idle turn

    was : Seat
    was = get_or board.seats put.place d

    seat : Seat
    seat = with_line line was

    turn_is : was.turn ≡ turn
    turn_is = turn_at setting line.txn board put.place d (sorted_on setting txns events board stands) put.inside (put.number d)

    seat_is : seat.turn ≡ lined turn line
    seat_is = ap (λ (t : Turn). lined t line) turn_is

    own : seat.turn.txn ≡ line.txn
    own = put.number d

    steady : IsSteady setting turn
    steady = steady_on setting txns line.txn events board stands fit.number

    calm : IsCalm was
    calm = calm_at board.seats put.place d stands.calm put.inside

    at : IsPut setting board put.place seat board.registry
    at = record {
      inside = put.inside;
      number = λ e. put.number e ∙ sym own;
      steady = subst (IsSteady setting) (sym seat_is) (steady_taking setting turn line goes (fits_on setting txns events board line stands fit) steady);
      calm = record { free = calm.free; listed = calm.listed };
      waiting = stands.waiting ∙ sym (wishes_stay setting seat.turn (turns_of board.seats) (sorted_on setting txns events board stands)
          (ap (λ (n : ℕ). wish_of (turn_of setting n (turns_of board.seats))) own ∙ same_wish turn line steady.held ∙ ap wish_of (sym seat_is)));
    }

    shows_here : Shows setting txns events (board_put board put.place seat board.registry board.released) (takes turn line game)
    shows_here =
        shows_then setting txns events (board_put board put.place seat board.registry board.released) _ _
        (shows_put setting txns events events board put.place seat board.registry board.released stands at)
        (ap (λ (t : Turn). game_at events (with_turn t (turns_of board.seats)) board.released) seat_is)

-- The line is played at once.

pub record IsAdding (setting : Setting) (txns : List ℕ) (events : List Event) (board mid : BoardView) (line : Line) : Type 0 where
  pub stands : IsBoard setting txns events board
  pub fit : IsFit setting txns line
  pub goes : is_some (turn_on setting line.txn board).outcome ≡ false
  pub shows : Shows setting txns events mid (takes (turn_on setting line.txn board) line (game_on events board))

pub adding : (setting : Setting) (txns : List ℕ) (events : List Event) (board new : BoardView) (line : Line) →
    IsBoard setting txns events board → IsFit setting txns line →
    is_some (turn_on setting line.txn board).outcome ≡ false → IsLinePut line board new → IsAdding setting txns events board new line
adding setting txns events board new line stands fit goes put = record { stands = stands; fit = fit; goes = goes; shows = put_shows setting txns events board new line stands fit goes put }

taken_turn : (setting : Setting) (txns : List ℕ) (events : List Event) (board mid : BoardView) (line : Line) →
    IsAdding setting txns events board mid line →
    turn_on setting line.txn mid ≡ lined (turn_on setting line.txn board) line
taken_turn setting txns events board mid line at =
    let turn = turn_on setting line.txn board in
    let same = txn_is setting txns line.txn events board at.stands at.fit.number in
    ap (λ (g : Game). turn_of setting line.txn g.turns) at.shows.game_is
    ∙ ap (λ (n : ℕ). turn_of setting n (with_turn (lined turn line) (turns_of board.seats))) (sym same)
    ∙ turn_of_with setting (lined turn line) (turns_of board.seats) (ap (λ (n : ℕ). is_in n (numbers_on board)) same ∙ ap (is_in line.txn) at.stands.order.numbers ∙ at.fit.number)

pub added_on : (setting : Setting) (txns : List ℕ) (events : List Event) (board mid : BoardView) (line : Line) →
    IsAdding setting txns events board mid line → IsOn line.txn mid
added_on setting txns events board mid line at = is_on setting txns line.txn events mid at.fit.number at.shows.stands

added_goes : (setting : Setting) (txns : List ℕ) (events : List Event) (board : BoardView) (line : Line) →
    is_some (turn_on setting line.txn board).outcome ≡ false →
    added setting line (turn_on setting line.txn board) (game_on events board)
    ≡ (let turn = turn_on setting line.txn board in let next = takes turn line (game_on events board) in if is_waiting turn then next else plays_next setting turn.txn next)
added_goes setting txns events board line goes = on_false (is_some (turn_on setting line.txn board).outcome) (game_on events board) _ goes

-- where it waits, the line stays behind the others
pub added_waits : (setting : Setting) (txns : List ℕ) (events : List Event) (board mid : BoardView) (line : Line) →
    IsAdding setting txns events board mid line → (turn_on setting line.txn mid).waits ≡ true →
    Shows setting txns events mid (added setting line (turn_on setting line.txn board) (game_on events board))
added_waits setting txns events board mid line at held =
    let turn = turn_on setting line.txn board in
    let next = takes turn line (game_on events board) in
    let here : turn.waits ≡ true = ap (λ (t : Turn). t.waits) (sym (taken_turn setting txns events board mid line at)) ∙ held in
    shows_then setting txns events mid next _ at.shows
    (sym (added_goes setting txns events board line at.goes ∙ on_true (is_waiting turn) next (plays_next setting turn.txn next) here))

some_line : (lines : List Line) (line : Line) → lines ++ line ∷ [] ≢ []
some_line [] line = λ none. absurd cc
some_line (l ∷ ls) line = λ none. absurd cc

goes_ready : (turn : Turn) → is_some turn.outcome ≡ false → turn.waits ≡ false → is_ready turn ≡ true
goes_ready turn goes quiet = by_outcome turn.outcome goes ∙ ap not quiet
  where
    by_outcome : (o : Option Outcome) → is_some o ≡ false → (is_none o && not turn.waits) ≡ not turn.waits
    by_outcome None e = refl
    by_outcome (Some outcome) e = absurd cc

pub added_ready : (setting : Setting) (txns : List ℕ) (events : List Event) (board mid : BoardView) (line : Line) →
    IsAdding setting txns events board mid line → (turn_on setting line.txn mid).waits ≡ false →
    GoesOn setting line.txn mid
added_ready setting txns events board mid line at quiet =
    let is = taken_turn setting txns events board mid line at in
    record {
      number = ap (is_in line.txn) at.shows.stands.order.numbers ∙ at.fit.number;
      ready = goes_ready (turn_on setting line.txn mid) (ap (λ (t : Turn). is_some t.outcome) is ∙ at.goes) quiet;
      left = subst (λ (t : Turn). t.lines ≢ []) (sym is) (some_line (turn_on setting line.txn board).lines line);
    }

added_next : (setting : Setting) (txns : List ℕ) (events : List Event) (board mid : BoardView) (line : Line) →
    IsAdding setting txns events board mid line → (turn_on setting line.txn mid).waits ≡ false →
    plays_next setting line.txn (game_on events mid) ≡ added setting line (turn_on setting line.txn board) (game_on events board)
added_next setting txns events board mid line at quiet =
    let turn = turn_on setting line.txn board in
    let next = takes turn line (game_on events board) in
    let here : turn.waits ≡ false = ap (λ (t : Turn). t.waits) (sym (taken_turn setting txns events board mid line at)) ∙ quiet in
    ap (plays_next setting line.txn) at.shows.game_is
    ∙ ap (λ (n : ℕ). plays_next setting n next) (sym (txn_is setting txns line.txn events board at.stands at.fit.number))
    ∙ sym (added_goes setting txns events board line at.goes ∙ on_false (is_waiting turn) next (plays_next setting turn.txn next) here)

pub added_room : (setting : Setting) (txns : List ℕ) (events : List Event) (board mid : BoardView) (line : Line) →
    IsAdding setting txns events board mid line → (turn_on setting line.txn mid).waits ≡ false →
    HasRoom setting txns (added setting line (turn_on setting line.txn board) (game_on events board)) → HasRoom setting (numbers_on mid) (plays_next setting line.txn (game_on events mid))
added_room setting txns events board mid line at quiet room =
    room_own setting txns events mid _ at.shows.stands (subst (HasRoom setting txns) (sym (added_next setting txns events board mid line at quiet)) room)

pub added_shows : (setting : Setting) (txns : List ℕ) (events new_events : List Event) (board mid new : BoardView) (line : Line) →
    IsAdding setting txns events board mid line → (turn_on setting line.txn mid).waits ≡ false →
    Shows setting (numbers_on mid) new_events new (plays_next setting line.txn (game_on events mid)) → Shows setting txns new_events new (added setting line (turn_on setting line.txn board) (game_on events board))
added_shows setting txns events new_events board mid new line at quiet shows =
    shows_then setting txns new_events new _ _ (shows_of setting txns events new_events mid new _ at.shows.stands shows) (added_next setting txns events board mid line at quiet)

-- where it has ended, it is passed over
pub added_ended : (setting : Setting) (txns : List ℕ) (events : List Event) (board : BoardView) (line : Line) →
    IsBoard setting txns events board → is_some (turn_on setting line.txn board).outcome ≡ true →
    Shows setting txns events board (added setting line (turn_on setting line.txn board) (game_on events board))
added_ended setting txns events board line stands ended =
    record { stands = stands; game_is = sym (on_true (is_some (turn_on setting line.txn board).outcome) (game_on events board) _ ended) }

order_added : (setting : Setting) (txns : List ℕ) (events : List Event) (board : BoardView) (line : Line) →
    IsBoard setting txns events board → IsFit setting txns line →
    IsInOrder setting txns (added setting line (turn_on setting line.txn board) (game_on events board))
order_added setting txns events board line stands fit = by_outcome (is_some turn.outcome) refl
  where
    turn : Turn
    turn = turn_on setting line.txn board

    game : Game
    game = game_on events board

    next : Game
    next = takes turn line game

    taken : is_some turn.outcome ≡ false → IsInOrder setting txns next
    taken goes =
        in_order_with setting txns game.events game.released game (lined turn line) stands.order
        (steady_taking setting turn line goes (fits_on setting txns events board line stands fit) (steady_on setting txns line.txn events board stands fit.number))

    by_waiting : (b : Bool) → is_some turn.outcome ≡ false → IsInOrder setting txns (if b then next else plays_next setting turn.txn next)
    by_waiting true goes = taken goes
    by_waiting false goes =
        let of_game = the_turn setting txns line.txn game fit.number stands.order in
        let there = turn_of_with setting (lined turn line) game.turns (ap (is_in turn.txn) stands.order.numbers ∙ of_game.number) in
        order_next setting txns turn.txn next of_game.number (ap (λ (t : Turn). is_some t.outcome) there ∙ goes) (taken goes)

    by_outcome : (b : Bool) → is_some turn.outcome ≡ b →
        IsInOrder setting txns (if b then game else if is_waiting turn then next else plays_next setting turn.txn next)
    by_outcome true ended = stands.order
    by_outcome false goes = by_waiting (is_waiting turn) goes

-- there is room for it, where there is for the sweeps behind it
pub taken_room : (setting : Setting) (txns : List ℕ) (events : List Event) (board : BoardView) (line : Line) →
    IsBoard setting txns events board → IsFit setting txns line →
    HasRoom setting txns (takes_line setting txns (game_on events board) line) → HasRoom setting txns (added setting line (turn_on setting line.txn board) (game_on events board))
taken_room setting txns events board line stands fit room =
    room_rounds setting txns txns (added setting line (turn_on setting line.txn board) (game_on events board)) (order_added setting txns events board line stands fit) room

-- The first that is ready.

find_turns : (seats : List Seat) →
    find is_ready (turns_of seats) ≡ option_map (λ (s : Seat). s.turn) (find (λ (s : Seat). is_ready s.turn) seats)
find_turns [] = refl
find_turns (s ∷ ss) = by_test (is_ready s.turn) (find_turns ss)
  where
    by_test : (b : Bool) → find is_ready (turns_of ss) ≡ option_map (λ (t : Seat). t.turn) (find (λ (t : Seat). is_ready t.turn) ss) →
        (if b then Some s.turn else find is_ready (turns_of ss)) ≡ option_map (λ (t : Seat). t.turn) (if b then Some s else find (λ (t : Seat). is_ready t.turn) ss)
    by_test true rest = refl
    by_test false rest = rest

pub none_ready : (seats : List Seat) → option_map (λ (s : Seat). s.turn.txn) (find (λ (s : Seat). is_ready s.turn) seats) ≡ None →
    find is_ready (turns_of seats) ≡ None
none_ready seats none = find_turns seats ∙ by_found (find (λ (s : Seat). is_ready s.turn) seats) none
  where
    by_found : (o : Option Seat) → option_map (λ (s : Seat). s.turn.txn) o ≡ None → option_map (λ (s : Seat). s.turn) o ≡ None
    by_found None e = refl
    by_found (Some s) e = absurd cc

-- it is a turn of the board
pub record IsFirst (setting : Setting) (txns : List ℕ) (board : BoardView) (txn : ℕ) : Type 0 where
  pub number : is_in txn txns ≡ true
  pub found : find is_ready (turns_of board.seats) ≡ Some (turn_on setting txn board)
  pub own : (turn_on setting txn board).txn ≡ txn

pub first_is : (setting : Setting) (txns : List ℕ) (events : List Event) (board : BoardView) (txn : ℕ) → IsBoard setting txns events board →
    option_map (λ (s : Seat). s.turn.txn) (find (λ (s : Seat). is_ready s.turn) board.seats) ≡ Some txn → IsFirst setting txns board txn
first_is setting txns events board txn stands some = by_found (find (λ (s : Seat). is_ready s.turn) board.seats) refl some
  where
    by_found : (o : Option Seat) → find (λ (s : Seat). is_ready s.turn) board.seats ≡ o →
        option_map (λ (s : Seat). s.turn.txn) o ≡ Some txn → IsFirst setting txns board txn
    by_found None e h = absurd cc
    by_found (Some s) e h =
        let same : s.turn.txn ≡ txn = cc in
        let found : find is_ready (turns_of board.seats) ≡ Some s.turn = find_turns board.seats ∙ ap (option_map (λ (t : Seat). t.turn)) e in
        let it = found_ready setting (turns_of board.seats) s.turn (sorted_on setting txns events board stands) found in
        let here : turn_on setting txn board ≡ s.turn = ap (λ (n : ℕ). turn_of setting n (turns_of board.seats)) (sym same) ∙ it.there in
        record {
          number = ap (λ (n : ℕ). is_in n txns) (sym same) ∙ sym (ap (is_in s.turn.txn) stands.order.numbers) ∙ it.number;
          found = found ∙ ap (λ (t : Turn). Some t) (sym here);
          own = ap (λ (t : Turn). t.txn) here ∙ same;
        }

pub end_fits : (setting : Setting) (txns : List ℕ) (board : BoardView) (txn : ℕ) → IsFirst setting txns board txn →
    IsFit setting txns (end_of txn)
end_fits setting txns board txn first = record { number = first.number; deed = tt }

pub ends_is : (setting : Setting) (txns : List ℕ) (events : List Event) (board : BoardView) (txn : ℕ) → IsFirst setting txns board txn →
    ends_first setting txns (find is_ready (turns_of board.seats)) (game_on events board) ≡ added setting (end_of txn) (turn_on setting txn board) (game_on events board)
ends_is setting txns events board txn first =
    ap (λ (o : Option Turn). ends_first setting txns o (game_on events board)) first.found
    ∙ ap (λ (n : ℕ). added setting (end_of n) (turn_on setting txn board) (game_on events board)) first.own

pub sweeps_is : (setting : Setting) (txns : List ℕ) (events : List Event) (board : BoardView) →
    find is_ready (turns_of board.seats) ≡ None →
    ends_first setting txns (find is_ready (turns_of board.seats)) (game_on events board) ≡ swept setting txns (game_on events board)
sweeps_is setting txns events board none = ap (λ (o : Option Turn). ends_first setting txns o (game_on events board)) none

order_ends : (setting : Setting) (txns : List ℕ) (events : List Event) (board : BoardView) → IsBoard setting txns events board →
    IsInOrder setting txns (ends_first setting txns (find is_ready (turns_of board.seats)) (game_on events board))
order_ends setting txns events board stands = by_found (find (λ (s : Seat). is_ready s.turn) board.seats) refl
  where
    game : Game
    game = game_on events board

    by_found : (o : Option Seat) → find (λ (s : Seat). is_ready s.turn) board.seats ≡ o →
        IsInOrder setting txns (ends_first setting txns (find is_ready (turns_of board.seats)) game)
    by_found None e =
        subst (IsInOrder setting txns) (sym (sweeps_is setting txns events board (none_ready board.seats (ap (option_map (λ (s : Seat). s.turn.txn)) e)))) (order_swept setting txns game stands.order)
    by_found (Some s) e =
        let first = first_is setting txns events board s.turn.txn stands (ap (option_map (λ (t : Seat). t.turn.txn)) e) in
        subst (IsInOrder setting txns) (sym (ends_is setting txns events board s.turn.txn first))
        (order_added setting txns events board (end_of s.turn.txn) stands (end_fits setting txns board s.turn.txn first))

pub ends_room : (setting : Setting) (txns : List ℕ) (events : List Event) (board : BoardView) → IsBoard setting txns events board →
    HasRoom setting txns (ends_one setting txns (game_on events board)) →
    HasRoom setting txns (ends_first setting txns (find is_ready (turns_of board.seats)) (game_on events board))
ends_room setting txns events board stands room =
    room_rounds setting txns txns (ends_first setting txns (find is_ready (turns_of board.seats)) (game_on events board)) (order_ends setting txns events board stands) room
