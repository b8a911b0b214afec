-- What a release makes of the board.
use Rattle.std.proofs.Common.{◌≡◌, ℕ, zero, suc, ◌+◌, ◌<◌, ◌≤◌, List, [], ◌∷◌, ◌++◌, map, Bool, true, false, ◌==◌, ◌&&◌, nat_lt, if◌then◌else◌, None, is_some, is_none, not, ◌||◌, length, get_or, nat_cmp, refl, sym, ap, subst, ◌∙◌, arith, length-append}
use Rattle.std.specs.List.{AllByRecursion}
use Rattle.std.specs.List.Sorted.{IsStrictlySortedBy}
use Rattle.std.proofs.lemmas.Bool.Decides.{nat_tests}
use Rattle.lt_ranges.specs.Interval.{Interval}
use Rattle.lt_ranges.specs.Numbers.{is_in}
use Rattle.lt_seq.specs.declared.event.Deed.{Deed}
use Rattle.lt_seq.specs.declared.event.Deed.TheVariants.{Ask, Free}
use Rattle.lt_seq.specs.declared.event.Reply.{Reply}
use Rattle.lt_seq.specs.declared.event.Reply.TheVariants.{Granted, Buffered, HeldBy}
use Rattle.lt_seq.specs.declared.event.Event.{Event}
use Rattle.lt_seq.specs.declared.event.Receipt.{Receipt}
use Rattle.lt_seq.specs.Table.{Setting, used}
use Rattle.lt_seq.specs.History.{after}
use Rattle.lt_seq.specs.Questions.{receipt_after, events_of}
use Rattle.lt_seq.specs.Yard.{place_after, places_end}
use Rattle.lt_seq.specs.Passes.{numbers_from}
use Rattle.lt_trace.specs.declared.line.Line.{Line}
use Rattle.lt_trace.specs.declared.line.LineDeed.{LineDeed}
use Rattle.lt_trace.specs.declared.line.LineDeed.TheVariants.{Try, Lock, End, Abort, Escalate, Big}
use Rattle.lt_runner.specs.declared.release.Release.{Release}
use Rattle.lt_runner.specs.TurnView.{Turn, Seat}
use Rattle.lt_runner.specs.Turn.{Move, asks, stops, frees, receipts_in, turn_after, asked_at, ended_at, answered_by, rest_of_release}
use Rattle.lt_runner.specs.Attempt.{bar_of}
use Rattle.lt_runner.specs.Plays.{next_wish, wish_for}
use Rattle.lt_runner.specs.Seats.{idle}
use Rattle.lt_runner.specs.Serial.{Game, game_at, turn_of, with_turn, is_ready, joins_of, behind_joins, attempt, line_move, does, gives_back, settles}
use Rattle.lt_runner.specs.Steps.{IsSteady, IsFitDeed, IsFitLine, IsFitRelease}
use Rattle.lt_runner.specs.PlaysOn.{IsFit, IsFitLine as IsPlayable}
use Rattle.lt_runner.specs.PlaysAlone.{play_move, with_frees, IsReleased, IsPlayedAtOnce}
use Rattle.lt_runner.specs.Board.{BoardView, IsBoard, IsCalm, GoesOn, Shows, HasRoom, turns_of, game_on, numbers_on, turn_on, moved, moved_at}
use Rattle.lt_runner.proofs.ChoiceLaws.{on_true, on_false}
use Rattle.lt_runner.proofs.SteadyLaws.{turn_of_txn, turn_of_with, turn_has, numbers_with, steady_after, after_txn, ready_goes}
use Rattle.lt_runner.proofs.TurnsLaws.{with_turn_twice}
use Rattle.lt_runner.proofs.MoveLaws.{the_turn}
use Rattle.lt_runner.proofs.WishLaws.{wish_of, IsPlaced, all_placed}
use Rattle.lt_runner.proofs.WaitLaws.{wishes_stay}
use Rattle.lt_runner.proofs.SeatLaws.{IsPut, board_put, shows_put}
use Rattle.lt_runner.proofs.OnLaws.{shows_then}
use Rattle.lt_runner.proofs.RoomLaws.{longer, room_before}
use Rattle.lt_runner.proofs.SeatMoveLaws.{IsSeat, steady_seat, sorted_on, txn_is}

pub length_frees : (setting : Setting) (txn : ℕ) (rs : List Release) (events : List Event) →
    length (with_frees setting txn rs events) ≡ length events + length rs
length_frees setting txn [] events = omega arith
length_frees setting txn (r ∷ rs) events =
    let e = (receipt_after setting events 0 txn (Free r.tree r.range r.first 0)).event in
    omega (arith, length_frees setting txn rs (events ++ e ∷ []), length-append events (e ∷ []))

-- a turn put in its own place changes nothing
with_itself : (setting : Setting) (turn : Turn) (turns us : List Turn) → turn_of setting turn.txn turns ≡ turn →
    AllByRecursion (IsPlaced setting turns) us → with_turn turn us ≡ us
with_itself setting turn turns [] there placed = refl
with_itself setting turn turns (u ∷ us) there placed =
    let here = by_test (u.txn == turn.txn) refl in
    let rest = with_itself setting turn turns us there placed.1 in
    λ j. here j ∷ rest j
  where
    by_test : (b : Bool) → (u.txn == turn.txn) ≡ b → (if b then turn else u) ≡ u
    by_test true e = let same : u.txn ≡ turn.txn = grind (arith, nat_tests) in sym there ∙ ap (λ (n : ℕ). turn_of setting n turns) (sym same) ∙ placed.0.there
    by_test false e = refl

pub given_back : (setting : Setting) (txn : ℕ) (rs : List Release) (game : Game) (turn : Turn) →
    IsStrictlySortedBy nat_cmp (map (λ t. t.txn) game.turns) → is_in txn (map (λ t. t.txn) game.turns) ≡ true →
    turn_of setting txn game.turns ≡ turn → turn.txn ≡ txn → turn.releases ≡ rs →
    gives_back setting txn rs game ≡ record game { events = with_frees setting txn rs game.events; turns = with_turn (record turn { releases = [] }) game.turns }
given_back setting txn [] game turn sorted number there same owed =
    let itself : record turn { releases = [] } ≡ turn = ap (λ (rs : List Release). record turn { releases = rs }) (sym owed) in
    let turns_are : with_turn (record turn { releases = [] }) game.turns ≡ game.turns =
    ap (λ (t : Turn). with_turn t game.turns) itself
    ∙ with_itself setting turn game.turns game.turns (ap (λ (n : ℕ). turn_of setting n game.turns) same ∙ there) (all_placed setting game.turns sorted) in
    ap (λ (ts : List Turn). game_at game.events ts game.released) (sym turns_are)
given_back setting txn (r ∷ rs) game turn sorted number there same owed =
    let f = receipt_after setting game.events 0 txn (Free r.tree r.range r.first 0) in
    let left = record turn { releases = rest_of_release turn.releases } in
    let next = does setting turn (frees f) game in
    let numbers_are = numbers_with left game.turns in
    let next_there : turn_of setting txn next.turns ≡ left =
    ap (λ (n : ℕ). turn_of setting n next.turns) (sym same) ∙ turn_of_with setting left game.turns (ap (λ (n : ℕ). is_in n (map (λ (t : Turn). t.txn) game.turns)) same ∙ number) in
    ap (λ (t : Turn). gives_back setting txn rs (does setting t (frees f) game)) there
    ∙ given_back setting txn rs next left (subst (IsStrictlySortedBy nat_cmp) (sym numbers_are) sorted) (ap (is_in txn) numbers_are ∙ number) next_there same (ap rest_of_release owed)
    ∙ ap (λ (ts : List Turn). game_at (with_frees setting txn rs next.events) ts game.released) (with_turn_twice (record turn { releases = [] }) left game.turns refl)

steady_emptied : (setting : Setting) (turn : Turn) → IsSteady setting turn → IsSteady setting (record turn { releases = [] })
steady_emptied setting turn steady = record {
  lines = steady.lines;
  recorded = steady.recorded;
  ranges = steady.ranges;
  releases = tt;
  held = steady.held;
  over = steady.over;
  still = steady.still;
  none_owed = λ goes. refl;
}

-- the rest of its release is made
settled_is : (setting : Setting) (txns : List ℕ) (txn : ℕ) (events : List Event) (board : BoardView) → IsBoard setting txns events board →
    is_in txn txns ≡ true →
    is_some (turn_on setting txn board).outcome ≡ true → (let turn = turn_on setting txn board in
    game_at (with_frees setting turn.txn turn.releases events) (with_turn (record turn { releases = [] }) (turns_of board.seats)) true ≡ settles setting turn (game_on events board))
settled_is setting txns txn events board stands number ended =
    let turn = turn_on setting txn board in
    let game = game_on events board in
    let of_game = the_turn setting txns txn game number stands.order in
    let back = given_back setting turn.txn turn.releases game turn (sorted_on setting txns events board stands) (ap (is_in turn.txn) stands.order.numbers ∙ of_game.number) of_game.there refl refl in
    sym (on_true (is_some turn.outcome) (record (gives_back setting turn.txn turn.releases game) { released = true }) game ended ∙ ap (λ (g : Game). record g { released = true }) back)

pub release_shows : (setting : Setting) (txns : List ℕ) (txn : ℕ) (events new_events : List Event) (board : BoardView) (place : ℕ) (seat new : Seat) →
    IsBoard setting txns events board →
    is_in txn txns ≡ true → is_some (turn_on setting txn board).outcome ≡ true → IsSeat setting txn board place seat →
    IsPlayedAtOnce setting seat.turn.lines events new_events seat new →
    Shows setting txns new_events (board_put board place new board.registry true) (settles setting (turn_on setting txn board) (game_on events board))
release_shows setting txns txn events new_events board place seat new stands number ended at played =
    shows_then setting txns new_events (board_put board place new board.registry true) _ _ shows
    (ap (λ (t : Turn). game_at new_events (with_turn t (turns_of board.seats)) true) new_turn
    ∙ ap (λ (es : List Event). game_at es (with_turn (record turn { releases = [] }) (turns_of board.seats)) true) front
    ∙ settled_is setting txns txn events board stands number ended)
  where
    turn : Turn
    turn = turn_on setting txn board

    steady : IsSteady setting turn
    steady = subst (IsSteady setting) at.here (steady_seat setting txns txn events board place seat stands number at)

    none : seat.turn.lines ≡ []
    none = ap (λ (t : Turn). t.lines) at.here ∙ steady.over ended

    made : IsReleased setting events new_events seat new
    made = subst (λ (ls : List Line). IsPlayedAtOnce setting ls events new_events seat new) none played

    new_turn : new.turn ≡ record turn { releases = [] }
    new_turn = made.turn ∙ ap (λ (t : Turn). record t { releases = [] }) at.here

    front : new_events ≡ with_frees setting turn.txn turn.releases events
    front = made.front ∙ ap (λ (t : Turn). with_frees setting t.txn t.releases events) at.here

    txn_same : new.turn.txn ≡ txn
    txn_same = ap (λ (t : Turn). t.txn) new_turn ∙ txn_is setting txns txn events board stands number

    was : wish_of (turn_of setting new.turn.txn (turns_of board.seats)) ≡ wish_of new.turn
    was = ap (λ (n : ℕ). wish_of (turn_of setting n (turns_of board.seats))) txn_same ∙ ap wish_of (sym new_turn)

    put : IsPut setting board place new board.registry
    put = record {
      inside = at.inside;
      number = λ d. at.number d ∙ sym txn_same;
      steady = subst (IsSteady setting) (sym new_turn) (steady_emptied setting turn steady);
      calm = record { free = made.free at.calm.free; listed = made.listed ∙ at.calm.listed ∙ ap (λ (t : Turn). t.waits) at.here ∙ ap (λ (t : Turn). t.waits) (sym new_turn) };
      waiting = stands.waiting ∙ sym (wishes_stay setting new.turn (turns_of board.seats) (sorted_on setting txns events board stands) was);
    }

    shows : Shows setting txns new_events (board_put board place new board.registry true) (game_at new_events (with_turn new.turn (turns_of board.seats)) true)
    shows = shows_put setting txns events new_events board place new board.registry true stands put

-- there are places for it
pub release_places : (setting : Setting) (txns : List ℕ) (txn : ℕ) (events : List Event) (board : BoardView) (place : ℕ) (seat : Seat) →
    IsBoard setting txns events board → is_in txn txns ≡ true →
    is_some (turn_on setting txn board).outcome ≡ true → IsSeat setting txn board place seat → HasRoom setting txns (settles setting (turn_on setting txn board) (game_on events board)) →
    place_after setting events + setting.plan.trees + length seat.turn.releases < places_end
release_places setting txns txn events board place seat stands number ended at room =
    let turn = turn_on setting txn board in
    let is = settled_is setting txns txn events board stands number ended in
    let k = (subst (HasRoom setting txns) (sym is) room).places in
    omega (arith, k, length_frees setting turn.txn turn.releases events, ap (λ (t : Turn). length t.releases) at.here)

-- The board as the code holds it.

pub release_shows_in : (setting : Setting) (txns : List ℕ) (txn : ℕ) (events new_events : List Event) (inner board : BoardView) (place : ℕ) (seat new : Seat) →
    inner ≡ board → IsBoard setting txns events board →
    is_in txn txns ≡ true → is_some (turn_on setting txn board).outcome ≡ true → IsSeat setting txn board place seat →
    IsPlayedAtOnce setting seat.turn.lines events new_events seat new →
    Shows setting txns new_events (board_put inner place new inner.registry true) (settles setting (turn_on setting txn board) (game_on events board))
release_shows_in setting txns txn events new_events inner board place seat new same stands number ended at played =
    subst (λ (b : BoardView). Shows setting txns new_events (board_put b place new b.registry true) (settles setting (turn_on setting txn board) (game_on events board))) (sym same)
    (release_shows setting txns txn events new_events board place seat new stands number ended at played)

pub ended_still : (setting : Setting) (txns : List ℕ) (txn : ℕ) (events : List Event) (board : BoardView) (place : ℕ) (seat : Seat) →
    IsBoard setting txns events board → is_in txn txns ≡ true →
    is_some (turn_on setting txn board).outcome ≡ true → IsSeat setting txn board place seat → seat.turn.waits ≡ false
ended_still setting txns txn events board place seat stands number ended at =
    (steady_seat setting txns txn events board place seat stands number at).still (ap (λ (t : Turn). is_some t.outcome) at.here ∙ ended)
