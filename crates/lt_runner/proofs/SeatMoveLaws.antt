-- What a move of one seat makes of the board.
use Rattle.std.proofs.Common.{◌≡◌, ℕ, zero, suc, ◌+◌, ◌<◌, ◌≤◌, List, [], ◌∷◌, ◌++◌, map, Bool, true, false, ◌==◌, ◌&&◌, nat_lt, if◌then◌else◌, None, is_some, is_none, not, ◌||◌, length, get_or, nat_cmp, refl, sym, ap, subst, ◌∙◌, arith, length-append}
use Rattle.std.specs.List.{AllByRecursion}
use Rattle.std.specs.List.Sorted.{IsStrictlySortedBy}
use Rattle.std.proofs.lemmas.Bool.Decides.{nat_tests}
use Rattle.lt_ranges.specs.Interval.{Interval}
use Rattle.lt_ranges.specs.Numbers.{is_in}
use Rattle.lt_seq.specs.declared.event.Deed.{Deed}
use Rattle.lt_seq.specs.declared.event.Deed.TheVariants.{Ask, Free}
use Rattle.lt_seq.specs.declared.event.Reply.{Reply}
use Rattle.lt_seq.specs.declared.event.Reply.TheVariants.{Granted, Buffered, HeldBy}
use Rattle.lt_seq.specs.declared.event.Event.{Event}
use Rattle.lt_seq.specs.declared.event.Receipt.{Receipt}
use Rattle.lt_seq.specs.Table.{Setting, used}
use Rattle.lt_seq.specs.History.{after}
use Rattle.lt_seq.specs.Questions.{receipt_after, events_of}
use Rattle.lt_seq.specs.Yard.{place_after, places_end}
use Rattle.lt_seq.specs.Passes.{numbers_from}
use Rattle.lt_trace.specs.declared.line.Line.{Line}
use Rattle.lt_trace.specs.declared.line.LineDeed.{LineDeed}
use Rattle.lt_trace.specs.declared.line.LineDeed.TheVariants.{Try, Lock, End, Abort, Escalate, Big}
use Rattle.lt_runner.specs.declared.release.Release.{Release}
use Rattle.lt_runner.specs.TurnView.{Turn, Seat}
use Rattle.lt_runner.specs.Turn.{Move, asks, stops, frees, receipts_in, turn_after, asked_at, ended_at, answered_by, rest_of_release}
use Rattle.lt_runner.specs.Attempt.{bar_of}
use Rattle.lt_runner.specs.Plays.{next_wish, wish_for}
use Rattle.lt_runner.specs.Seats.{idle}
use Rattle.lt_runner.specs.Serial.{Game, game_at, turn_of, with_turn, is_ready, joins_of, behind_joins, attempt, line_move, does, gives_back, settles}
use Rattle.lt_runner.specs.Steps.{IsSteady, IsFitDeed, IsFitLine, IsFitRelease}
use Rattle.lt_runner.specs.PlaysOn.{IsFit, IsFitLine as IsPlayable}
use Rattle.lt_runner.specs.PlaysAlone.{play_move, with_frees, IsReleased, IsPlayedAtOnce}
use Rattle.lt_runner.specs.Board.{BoardView, IsBoard, IsCalm, GoesOn, Shows, HasRoom, turns_of, game_on, numbers_on, turn_on, moved, moved_at}
use Rattle.lt_runner.proofs.ChoiceLaws.{on_true, on_false}
use Rattle.lt_runner.proofs.SteadyLaws.{turn_of_txn, turn_of_with, turn_has, numbers_with, steady_after, after_txn, ready_goes}
use Rattle.lt_runner.proofs.TurnsLaws.{with_turn_twice}
use Rattle.lt_runner.proofs.MoveLaws.{the_turn}
use Rattle.lt_runner.proofs.WishLaws.{wish_of, IsPlaced, all_placed}
use Rattle.lt_runner.proofs.WaitLaws.{wishes_stay}
use Rattle.lt_runner.proofs.SeatLaws.{IsPut, board_put, shows_put}
use Rattle.lt_runner.proofs.OnLaws.{shows_then}
use Rattle.lt_runner.proofs.RoomLaws.{longer, room_before}

-- A seat of the board.

pub record IsSeat (setting : Setting) (txn : ℕ) (board : BoardView) (place : ℕ) (seat : Seat) : Type 0 where
  pub inside : place < length board.seats
  pub number : (d : Seat) → (get_or board.seats place d).turn.txn ≡ txn
  pub here : seat.turn ≡ turn_on setting txn board
  pub calm : IsCalm seat

pub calm_at : (seats : List Seat) (place : ℕ) (d : Seat) → AllByRecursion IsCalm seats → place < length seats →
    IsCalm (get_or seats place d)
calm_at [] place d all inside = absurd (omega arith)
calm_at (s ∷ ss) zero d all inside = all.0
calm_at (s ∷ ss) (suc place) d all inside = calm_at ss place d all.1 (omega arith)

pub seat_at : (setting : Setting) (txns : List ℕ) (txn : ℕ) (events : List Event) (board : BoardView) (place : ℕ) (seat : Seat) →
    IsBoard setting txns events board → place < length board.seats →
    ((d : Seat) → (get_or board.seats place d).turn.txn ≡ txn) → ((d : Seat) → (get_or board.seats place d).turn ≡ turn_on setting txn board) →
    seat ≡ get_or board.seats place seat → IsSeat setting txn board place seat
seat_at setting txns txn events board place seat stands inside number found is = record {
  inside = inside;
  number = number;
  here = ap (λ (s : Seat). s.turn) is ∙ found seat;
  calm = subst IsCalm (sym is) (calm_at board.seats place seat stands.calm inside);
}

pub steady_seat : (setting : Setting) (txns : List ℕ) (txn : ℕ) (events : List Event) (board : BoardView) (place : ℕ) (seat : Seat) →
    IsBoard setting txns events board → is_in txn txns ≡ true →
    IsSeat setting txn board place seat → IsSteady setting seat.turn
steady_seat setting txns txn events board place seat stands number at =
    subst (IsSteady setting) (sym at.here)
    (turn_has (IsSteady setting) setting txns (game_on events board) (turn_on setting txn board) (the_turn setting txns txn (game_on events board) number stands.order) stands.order.steady)

pub sorted_on : (setting : Setting) (txns : List ℕ) (events : List Event) (board : BoardView) → IsBoard setting txns events board →
    IsStrictlySortedBy nat_cmp (numbers_on board)
sorted_on setting txns events board stands = subst (IsStrictlySortedBy nat_cmp) (sym stands.order.numbers) stands.order.sorted

pub txn_is : (setting : Setting) (txns : List ℕ) (txn : ℕ) (events : List Event) (board : BoardView) → IsBoard setting txns events board →
    is_in txn txns ≡ true → (turn_on setting txn board).txn ≡ txn
txn_is setting txns txn events board stands number = turn_of_txn setting txn (turns_of board.seats) (ap (is_in txn) stands.order.numbers ∙ number)

-- Lines that are no lock lines.

quiet_answer : (tree : ℕ) (range : Interval) (reply : Reply) (turn : Turn) → (answered_by tree range reply turn).waits ≡ false
quiet_answer tree range Granted turn = refl
quiet_answer tree range Buffered turn = refl
quiet_answer tree range (HeldBy owners) turn = refl

quiet_asked : (txn : ℕ) (lines : List Line) (reply : Reply) (turn : Turn) → turn.waits ≡ false → next_wish txn lines ≡ None →
    (asked_at lines reply None turn).waits ≡ false
quiet_asked txn [] reply turn quiet none = quiet
quiet_asked txn (line ∷ lines) reply turn quiet none = by_deed line.deed none
  where
    by_deed : (deed : LineDeed) → wish_for txn deed ≡ None → (asked_at (record line { deed = deed } ∷ lines) reply None turn).waits ≡ false
    by_deed (Try tree range) e = quiet_answer tree range reply turn
    by_deed (Lock tree range) e = absurd cc
    by_deed End e = quiet
    by_deed Abort e = quiet
    by_deed (Escalate tree) e = quiet
    by_deed Big e = quiet

quiet_ended : (lines : List Line) (turn : Turn) → turn.waits ≡ false → (ended_at lines turn).waits ≡ false
quiet_ended [] turn quiet = quiet
quiet_ended (line ∷ lines) turn quiet = by_deed line.deed
  where
    by_deed : (deed : LineDeed) → (ended_at (record line { deed = deed } ∷ lines) turn).waits ≡ false
    by_deed (Try tree range) = quiet
    by_deed (Lock tree range) = quiet
    by_deed End = refl
    by_deed Abort = refl
    by_deed (Escalate tree) = quiet
    by_deed Big = quiet

quiet_attempt : (setting : Setting) (turns : List Turn) (turn : Turn) (deed : Deed) (events : List Event) → turn.waits ≡ false →
    next_wish turn.txn turn.lines ≡ None →
    (turn_after turn (attempt setting turns turn false deed events)).waits ≡ false
quiet_attempt setting turns turn deed events quiet none = by_test (nat_lt (used (after setting events)) (bar_of setting turn))
  where
    joins : List Receipt
    joins = joins_of setting turn.txn (numbers_from 0 setting.plan.trees) events

    later : List Event
    later = events ++ events_of joins

    by_later : (b : Bool) →
        (turn_after turn (if b then asks joins (receipt_after setting later 0 turn.txn deed) else stops joins (place_after setting later) (used (after setting later)))).waits ≡ false
    by_later true = quiet_asked turn.txn turn.lines _ turn quiet none
    by_later false = refl

    by_test : (b : Bool) →
        (turn_after turn (if b then asks [] (receipt_after setting events 0 turn.txn deed) else behind_joins setting turns turn false deed later joins)).waits ≡ false
    by_test true = quiet_asked turn.txn turn.lines _ turn quiet none
    by_test false = by_later (nat_lt (used (after setting later)) (bar_of setting turn))

quiet_move : (setting : Setting) (events : List Event) (turn : Turn) (deed : LineDeed) → turn.waits ≡ false →
    next_wish turn.txn turn.lines ≡ None →
    (turn_after turn (play_move setting events turn deed)).waits ≡ false
quiet_move setting events turn (Try tree range) quiet none = quiet_attempt setting [] turn (Ask tree range Granted) events quiet none
quiet_move setting events turn (Lock tree range) quiet none = quiet_attempt setting [] turn (Ask tree range Granted) events quiet none
quiet_move setting events turn End quiet none = quiet_ended turn.lines turn quiet
quiet_move setting events turn Abort quiet none = quiet_ended turn.lines turn quiet
quiet_move setting events turn (Escalate tree) quiet none = refl
quiet_move setting events turn Big quiet none = refl

same_move : (setting : Setting) (game : Game) (turn : Turn) (deed : LineDeed) → wish_for turn.txn deed ≡ None →
    play_move setting game.events turn deed ≡ line_move setting game turn deed
same_move setting game turn (Try tree range) none = refl
same_move setting game turn (Lock tree range) none = absurd cc
same_move setting game turn End none = refl
same_move setting game turn Abort none = refl
same_move setting game turn (Escalate tree) none = refl
same_move setting game turn Big none = refl

pub ready_quiet : (turn : Turn) → is_ready turn ≡ true → turn.waits ≡ false
ready_quiet turn ready = by_tests (is_none turn.outcome) turn.waits refl ready
  where
    by_tests : (a b : Bool) → turn.waits ≡ b → (a && not b) ≡ true → turn.waits ≡ false
    by_tests a false e h = e
    by_tests true true e h = absurd (let k : false ≡ true = h in cc)
    by_tests false true e h = absurd (let k : false ≡ true = h in cc)

-- a line of it is played
pub line_shows : (setting : Setting) (txns : List ℕ) (txn : ℕ) (events new_events : List Event) (board : BoardView) (place : ℕ) (seat new : Seat) →
    IsBoard setting txns events board →
    GoesOn setting txn board → next_wish (turn_on setting txn board).txn (turn_on setting txn board).lines ≡ None → IsSeat setting txn board place seat →
    IsPlayedAtOnce setting seat.turn.lines events new_events seat new →
    Shows setting txns new_events (board_put board place new board.registry board.released) (moved setting txn (game_on events board))
line_shows setting txns txn events new_events board place seat new stands on none at played = by_lines seat.turn.lines refl played
  where
    game : Game
    game = game_on events board

    turn : Turn
    turn = turn_on setting txn board

    number : is_in txn txns ≡ true
    number = ap (is_in txn) (sym stands.order.numbers) ∙ on.number

    by_lines : (lines : List Line) → seat.turn.lines ≡ lines → IsPlayedAtOnce setting lines events new_events seat new →
        Shows setting txns new_events (board_put board place new board.registry board.released) (moved setting txn game)
    by_lines [] same made = absurd (on.left (ap (λ (t : Turn). t.lines) (sym at.here) ∙ same))
    by_lines (line ∷ rest) same made =
        let quiet = ready_quiet turn on.ready in
        let lines_are : turn.lines ≡ line ∷ rest = ap (λ (t : Turn). t.lines) (sym at.here) ∙ same in
        let none_here : wish_for turn.txn line.deed ≡ None = ap (next_wish turn.txn) (sym lines_are) ∙ none in
        let m = line_move setting game turn line.deed in
        let own_move : play_move setting events turn line.deed ≡ m = same_move setting game turn line.deed none_here in
        let move_is : play_move setting events seat.turn line.deed ≡ m = ap (λ (t : Turn). play_move setting events t line.deed) at.here ∙ own_move in
        let new_turn = turn_after turn m in
        let new_is : new ≡ idle new_turn =
        made.seat ∙ ap (λ (t : Turn). idle (turn_after t (play_move setting events seat.turn line.deed))) at.here ∙ ap (λ (x : Move). idle (turn_after turn x)) move_is in
        let front : new_events ≡ events ++ events_of (receipts_in m) = made.front ∙ ap (λ (x : Move). events ++ events_of (receipts_in x)) move_is in
        let still : new_turn.waits ≡ false = ap (λ (x : Move). (turn_after turn x).waits) (sym own_move) ∙ quiet_move setting events turn line.deed quiet none in
        let txn_same : new_turn.txn ≡ txn = after_txn turn m ∙ txn_is setting txns txn events board stands number in
        let was : wish_of (turn_of setting new_turn.txn (turns_of board.seats)) ≡ wish_of new_turn =
        ap (λ (n : ℕ). wish_of (turn_of setting n (turns_of board.seats))) txn_same ∙ on_false turn.waits (next_wish turn.txn turn.lines) None quiet
        ∙ sym (on_false new_turn.waits (next_wish new_turn.txn new_turn.lines) None still) in
        let put : IsPut setting board place (idle new_turn) board.registry = record {
          inside = at.inside;
          number = λ d. at.number d ∙ sym txn_same;
          steady = steady_after setting turn m (ready_goes turn on.ready) (subst (IsSteady setting) at.here (steady_seat setting txns txn events board place seat stands number at));
          calm = record { free = refl; listed = sym still };
          waiting = stands.waiting ∙ sym (wishes_stay setting new_turn (turns_of board.seats) (sorted_on setting txns events board stands) was);
        } in
        let shows = shows_put setting txns events new_events board place (idle new_turn) board.registry board.released stands put in
        let game_is : record { events = new_events; turns = with_turn new_turn (turns_of board.seats); released = board.released } ≡ moved setting txn game =
        ap (λ (es : List Event). game_at es (with_turn new_turn (turns_of board.seats)) board.released) front ∙ ap (λ (ls : List Line). moved_at setting txn ls game) (sym lines_are) in
        subst (λ (s : Seat). Shows setting txns new_events (board_put board place s board.registry board.released) (moved setting txn game)) (sym new_is)
        (shows_then setting txns new_events (board_put board place (idle new_turn) board.registry board.released) _ _ shows game_is)

-- What a play asks.

all_fit : (setting : Setting) (txn : ℕ) (lines : List Line) → AllByRecursion (IsFitLine setting txn) lines →
    AllByRecursion (λ line. IsPlayable setting line.deed) lines
all_fit setting txn [] all = tt
all_fit setting txn (line ∷ lines) all = (by_deed line.deed all.0.deed, all_fit setting txn lines all.1)
  where
    by_deed : (deed : LineDeed) → IsFitDeed setting deed → IsPlayable setting deed
    by_deed (Try tree range) fit = fit.0
    by_deed (Lock tree range) fit = fit.0
    by_deed End fit = tt
    by_deed Abort fit = tt
    by_deed (Escalate tree) fit = fit
    by_deed Big fit = tt

all_freed : (setting : Setting) (rs : List Release) → AllByRecursion (IsFitRelease setting) rs →
    AllByRecursion (λ r. r.tree < setting.plan.trees) rs
all_freed setting [] all = tt
all_freed setting (r ∷ rs) all = (all.0.0, all_freed setting rs all.1)

pub has_number : (txn : ℕ) (ns : List ℕ) → AllByRecursion (λ n. 1 ≤ n) ns → is_in txn ns ≡ true → 1 ≤ txn
has_number txn [] all there = absurd (let k : false ≡ true = there in cc)
has_number txn (n ∷ ns) all there = by_test (n == txn) refl there (has_number txn ns all.1)
  where
    by_test : (b : Bool) → (n == txn) ≡ b → (b || is_in txn ns) ≡ true → (is_in txn ns ≡ true → 1 ≤ txn) → 1 ≤ txn
    by_test true e h later = let same : n ≡ txn = grind (arith, nat_tests) in omega (arith, same, all.0)
    by_test false e h later = later h

pub seat_fits : (setting : Setting) (txns : List ℕ) (txn : ℕ) (events : List Event) (board : BoardView) (place : ℕ) (seat : Seat) →
    IsBoard setting txns events board → is_in txn txns ≡ true →
    IsSeat setting txn board place seat → IsFit setting seat
seat_fits setting txns txn events board place seat stands number at =
    let steady = steady_seat setting txns txn events board place seat stands number at in
    let same : seat.turn.txn ≡ txn = ap (λ (t : Turn). t.txn) at.here ∙ txn_is setting txns txn events board stands number in
    record {
      txn = (let k = has_number txn txns stands.numbered number in omega (arith, k, same));
      lines = all_fit setting seat.turn.txn seat.turn.lines steady.lines;
      releases = all_freed setting seat.turn.releases steady.releases;
      recorded = steady.recorded;
      over = λ ended. steady.over ended;
    }

few_moved : (setting : Setting) (txn : ℕ) (game : Game) → length game.events ≤ length (moved setting txn game).events
few_moved setting txn game = by_lines (turn_of setting txn game.turns).lines
  where
    by_lines : (lines : List Line) → length game.events ≤ length (moved_at setting txn lines game).events
    by_lines [] = omega arith
    by_lines (line ∷ lines) = longer (length game.events) game.events _ (omega arith)

-- there are places for a line
pub room_here : (setting : Setting) (txns : List ℕ) (txn : ℕ) (events : List Event) (board : BoardView) →
    HasRoom setting txns (moved setting txn (game_on events board)) →
    place_after setting events + setting.plan.trees + 1 + length txns ≤ places_end
room_here setting txns txn events board room = (room_before setting txns (game_on events board) (moved setting txn (game_on events board)) (few_moved setting txn (game_on events board)) room).places

pub line_places : (setting : Setting) (txns : List ℕ) (txn : ℕ) (events : List Event) (board : BoardView) (place : ℕ) (seat : Seat) →
    IsBoard setting txns events board → is_in txn txns ≡ true →
    is_some (turn_on setting txn board).outcome ≡ false → IsSeat setting txn board place seat → HasRoom setting txns (moved setting txn (game_on events board)) →
    place_after setting events + setting.plan.trees + length seat.turn.releases < places_end
line_places setting txns txn events board place seat stands number goes at room =
    let steady = steady_seat setting txns txn events board place seat stands number at in
    let none : seat.turn.releases ≡ [] = steady.none_owed (ap (λ (t : Turn). is_some t.outcome) at.here ∙ goes) in
    let k = room_here setting txns txn events board room in
    omega (arith, k, ap (λ (rs : List Release). length rs) none)

-- The board as the code holds it.

pub seat_in : (setting : Setting) (txns : List ℕ) (txn : ℕ) (events : List Event) (inner board : BoardView) (place : ℕ) (seat : Seat) →
    inner ≡ board → IsBoard setting txns events board →
    place < length board.seats → ((d : Seat) → (get_or board.seats place d).turn.txn ≡ txn) → ((d : Seat) → (get_or board.seats place d).turn ≡ turn_on setting txn board) →
    seat ≡ get_or inner.seats place seat → IsSeat setting txn board place seat
seat_in setting txns txn events inner board place seat same stands inside number found is =
    seat_at setting txns txn events board place seat stands inside number found (is ∙ ap (λ (b : BoardView). get_or b.seats place seat) same)

pub line_shows_in : (setting : Setting) (txns : List ℕ) (txn : ℕ) (events new_events : List Event) (inner board : BoardView) (place : ℕ) (seat new : Seat) →
    inner ≡ board → IsBoard setting txns events board →
    GoesOn setting txn board → next_wish (turn_on setting txn board).txn (turn_on setting txn board).lines ≡ None → IsSeat setting txn board place seat →
    IsPlayedAtOnce setting seat.turn.lines events new_events seat new →
    Shows setting txns new_events (board_put inner place new inner.registry inner.released) (moved setting txn (game_on events board))
line_shows_in setting txns txn events new_events inner board place seat new same stands on none at played =
    subst (λ (b : BoardView). Shows setting txns new_events (board_put b place new b.registry b.released) (moved setting txn (game_on events board))) (sym same)
    (line_shows setting txns txn events new_events board place seat new stands on none at played)
