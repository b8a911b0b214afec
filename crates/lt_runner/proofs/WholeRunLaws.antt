-- A board on which a whole trace is played.
use Rattle.std.proofs.Common.{◌≡◌, ℕ, zero, suc, ◌+◌, ◌<◌, ◌≤◌, List, [], ◌∷◌, map, drop, get_or, false, Option, Some, None, length, nat_cmp, refl, sym, ap, subst, ◌∙◌, arith}
use Rattle.std.specs.List.{AllByRecursion, fold, find, filter_map, cons_option}
use Rattle.std.specs.List.Sorted.{IsStrictlySortedBy}
use Rattle.std.proofs.lemmas.List.{at_drop_more}
use Rattle.lt_ranges.specs.Numbers.{is_in}
use Rattle.lt_seq.specs.declared.event.Event.{Event}
use Rattle.lt_seq.specs.Table.{Setting}
use Rattle.lt_trace.specs.declared.line.Line.{Line}
use Rattle.lt_runner.specs.TurnView.{Turn, Seat}
use Rattle.lt_runner.specs.Plays.{end_of, opening_turn}
use Rattle.lt_runner.specs.Seats.{opening_seat}
use Rattle.lt_runner.specs.Serial.{Game, is_ready, wishes_in, takes_line, ends_first, ends_one, opening_game, played, ended_in}
use Rattle.lt_runner.specs.Steps.{IsInOrder, IsFit, IsFitLine, IsTurnOf, KeepsMoves, KeepsSteps}
use Rattle.lt_runner.specs.Board.{BoardView, IsBoard, IsCalm, Shows, HasRoom, turns_of, game_on, numbers_on}
use Rattle.lt_runner.proofs.MoveLaws.{Holds, holds_swept, holds_settled}
use Rattle.lt_runner.proofs.StepLaws.{steps_alone, holds_taken, holds_added, found_ready, opening_in_order}
use Rattle.lt_runner.proofs.RoomLaws.{Reaches, keeps_events, begun, room_before}

-- Steps take no events back.

steps_keep : (setting : Setting) (txns : List ℕ) (count : ℕ) → KeepsSteps setting txns (λ left game. Reaches count game)
steps_keep setting txns count = steps_alone setting txns (Reaches count) (keeps_events setting txns count) (λ game turn line at le. le)

taken_on : (setting : Setting) (txns : List ℕ) (count : ℕ) (line : Line) (game : Game) → IsFit setting txns line →
    Holds setting txns (Reaches count) game →
    Holds setting txns (Reaches count) (takes_line setting txns game line)
taken_on setting txns count line game fit holds = holds_taken setting txns (λ left game. Reaches count game) line [] game (steps_keep setting txns count) fit holds

all_taken : (setting : Setting) (txns : List ℕ) (count : ℕ) (lines : List Line) (game : Game) → AllByRecursion (IsFit setting txns) lines →
    Holds setting txns (Reaches count) game →
    Holds setting txns (Reaches count) (fold (takes_line setting txns) game lines)
all_taken setting txns count [] game fit holds = holds
all_taken setting txns count (line ∷ lines) game fit holds = all_taken setting txns count lines (takes_line setting txns game line) fit.1 (taken_on setting txns count line game fit.0 holds)

ended_on : (setting : Setting) (txns : List ℕ) (count : ℕ) (game : Game) → Holds setting txns (Reaches count) game →
    Holds setting txns (Reaches count) (ends_one setting txns game)
ended_on setting txns count game holds =
    holds_settled setting txns (Reaches count) (ends_first setting txns (find is_ready game.turns) game) keeps (by_found (find is_ready game.turns) refl)
  where
    keeps : KeepsMoves setting txns (Reaches count)
    keeps = keeps_events setting txns count

    by_found : (o : Option Turn) → find is_ready game.turns ≡ o → Holds setting txns (Reaches count) (ends_first setting txns o game)
    by_found None e = holds_swept setting txns (Reaches count) game keeps holds
    by_found (Some turn) e =
        let order = holds.order in
        let found = found_ready setting game.turns turn (subst (IsStrictlySortedBy nat_cmp) (sym order.numbers) order.sorted) e in
        let of_game : IsTurnOf setting txns game turn = record { order = order; number = sym (ap (is_in turn.txn) order.numbers) ∙ found.number; there = found.there } in
        let fits : IsFitLine setting turn.txn (end_of turn.txn) = record { own = refl; deed = tt } in
        holds_added setting txns (Reaches count) game turn (end_of turn.txn) keeps of_game fits (λ goes. holds.is) (λ ended. holds.is)

all_ended : (setting : Setting) (txns left : List ℕ) (count : ℕ) (game : Game) → Holds setting txns (Reaches count) game →
    Holds setting txns (Reaches count) (fold (λ game (txn : ℕ). ends_one setting txns game) game left)
all_ended setting txns [] count game holds = holds
all_ended setting txns (txn ∷ left) count game holds = all_ended setting txns left count (ends_one setting txns game) (ended_on setting txns count game holds)

-- Lines that are taken.

pub all_at : {X : Type 0} (P : X → Type 0) (xs : List X) (i : ℕ) (d : X) → AllByRecursion P xs → i < length xs → P (get_or xs i d)
all_at P [] i d all inside = absurd (omega arith)
all_at P (x ∷ xs) zero d all inside = all.0
all_at P (x ∷ xs) (suc i) d all inside = all_at P xs i d all.1 (omega arith)

pub all_behind : {X : Type 0} (P : X → Type 0) (xs : List X) (i : ℕ) → AllByRecursion P xs → AllByRecursion P (drop i xs)
all_behind P [] zero all = tt
all_behind P [] (suc i) all = tt
all_behind P (x ∷ xs) zero all = all
all_behind P (x ∷ xs) (suc i) all = all_behind P xs i all.1

-- what is left of the lines comes to this in the end
pub record Taking (setting : Setting) (txns : List ℕ) (events : List Event) (board : BoardView) (left : List Line) (whole : Game) : Type 0 where
  pub stands : IsBoard setting txns events board
  pub onward : fold (takes_line setting txns) (game_on events board) left ≡ whole

next_taken : (setting : Setting) (txns : List ℕ) (game whole : Game) (lines : List Line) (i : ℕ) (line : Line) → i < length lines →
    line ≡ get_or lines i line →
    fold (takes_line setting txns) game (drop i lines) ≡ whole → fold (takes_line setting txns) (takes_line setting txns game line) (drop (i + 1) lines) ≡ whole
next_taken setting txns game whole lines i line inside is goes =
    ap (λ (l : Line). fold (takes_line setting txns) (takes_line setting txns game l) (drop (i + 1) lines)) is
    ∙ sym (at_drop_more (fold (takes_line setting txns) game) lines i line inside) ∙ goes

pub taking_fit : (setting : Setting) (txns : List ℕ) (events : List Event) (board : BoardView) (lines : List Line) (i : ℕ) (line : Line) →
    IsBoard setting txns events board → i < length lines → line ≡ get_or lines i line →
    AllByRecursion (IsFit setting txns) lines → IsFit setting (numbers_on board) line
taking_fit setting txns events board lines i line stands inside is fits =
    subst (λ (ns : List ℕ). IsFit setting ns line) (sym stands.order.numbers) (subst (IsFit setting txns) (sym is) (all_at (IsFit setting txns) lines i line fits inside))

pub taking_room : (setting : Setting) (txns : List ℕ) (events : List Event) (board : BoardView) (lines : List Line) (i : ℕ) (line : Line) (whole : Game) →
    Taking setting txns events board (drop i lines) whole →
    i < length lines → line ≡ get_or lines i line → AllByRecursion (IsFit setting txns) lines → HasRoom setting txns whole →
    HasRoom setting (numbers_on board) (takes_line setting (numbers_on board) (game_on events board) line)
taking_room setting txns events board lines i line whole taking inside is fits room =
    let game = game_on events board in
    let fit = subst (IsFit setting txns) (sym is) (all_at (IsFit setting txns) lines i line fits inside) in
    let next = takes_line setting txns game line in
    let order = (taken_on setting txns 0 line game fit (record { order = taking.stands.order; is = omega arith })).order in
    let rest = all_taken setting txns (length next.events) (drop (i + 1) lines) next (all_behind (IsFit setting txns) lines (i + 1) fits) (begun setting txns next order) in
    let here = room_before setting txns next _ rest.is (subst (HasRoom setting txns) (sym (next_taken setting txns game whole lines i line inside is taking.onward)) room) in
    subst (λ (ns : List ℕ). HasRoom setting ns (takes_line setting ns game line)) (sym taking.stands.order.numbers) here

pub taking_more : (setting : Setting) (txns : List ℕ) (events new_events : List Event) (board new_board : BoardView) (lines : List Line) (i : ℕ) (line : Line) (whole : Game) →
    Taking setting txns events board (drop i lines) whole → i < length lines → line ≡ get_or lines i line →
    Shows setting (numbers_on board) new_events new_board (takes_line setting (numbers_on board) (game_on events board) line) → Taking setting txns new_events new_board (drop (i + 1) lines) whole
taking_more setting txns events new_events board new_board lines i line whole taking inside is shows =
    let now : Shows setting txns new_events new_board (takes_line setting txns (game_on events board) line) =
    subst (λ (ns : List ℕ). Shows setting ns new_events new_board (takes_line setting ns (game_on events board) line)) taking.stands.order.numbers shows in
    record {
      stands = now.stands;
      onward = ap (λ (g : Game). fold (takes_line setting txns) g (drop (i + 1) lines)) now.game_is ∙ next_taken setting txns (game_on events board) whole lines i line inside is taking.onward;
    }

-- Transactions that are ended.

pub record Ending (setting : Setting) (txns : List ℕ) (events : List Event) (board : BoardView) (left : List ℕ) (whole : Game) : Type 0 where
  pub stands : IsBoard setting txns events board
  pub onward : fold (λ game (txn : ℕ). ends_one setting txns game) (game_on events board) left ≡ whole

next_ended : (setting : Setting) (txns : List ℕ) (game whole : Game) (left : List ℕ) (i : ℕ) → i < length left →
    fold (λ game (txn : ℕ). ends_one setting txns game) game (drop i left) ≡ whole → fold (λ game (txn : ℕ). ends_one setting txns game) (ends_one setting txns game) (drop (i + 1) left) ≡ whole
next_ended setting txns game whole left i inside goes = sym (at_drop_more (fold (λ (g : Game) (txn : ℕ). ends_one setting txns g) game) left i 0 inside) ∙ goes

pub ending_room : (setting : Setting) (txns : List ℕ) (events : List Event) (board : BoardView) (left : List ℕ) (i : ℕ) (whole : Game) →
    Ending setting txns events board (drop i left) whole →
    i < length left → HasRoom setting txns whole → HasRoom setting (numbers_on board) (ends_one setting (numbers_on board) (game_on events board))
ending_room setting txns events board left i whole ending inside room =
    let game = game_on events board in
    let next = ends_one setting txns game in
    let order = (ended_on setting txns 0 game (record { order = ending.stands.order; is = omega arith })).order in
    let rest = all_ended setting txns (drop (i + 1) left) (length next.events) next (begun setting txns next order) in
    let here = room_before setting txns next _ rest.is (subst (HasRoom setting txns) (sym (next_ended setting txns game whole left i inside ending.onward)) room) in
    subst (λ (ns : List ℕ). HasRoom setting ns (ends_one setting ns game)) (sym ending.stands.order.numbers) here

pub ending_more : (setting : Setting) (txns : List ℕ) (events new_events : List Event) (board new_board : BoardView) (left : List ℕ) (i : ℕ) (whole : Game) →
    Ending setting txns events board (drop i left) whole → i < length left →
    Shows setting (numbers_on board) new_events new_board (ends_one setting (numbers_on board) (game_on events board)) → Ending setting txns new_events new_board (drop (i + 1) left) whole
ending_more setting txns events new_events board new_board left i whole ending inside shows =
    let now : Shows setting txns new_events new_board (ends_one setting txns (game_on events board)) =
    subst (λ (ns : List ℕ). Shows setting ns new_events new_board (ends_one setting ns (game_on events board))) ending.stands.order.numbers shows in
    record {
      stands = now.stands;
      onward = ap (λ (g : Game). fold (λ game (txn : ℕ). ends_one setting txns game) g (drop (i + 1) left)) now.game_is ∙ next_ended setting txns (game_on events board) whole left i inside ending.onward;
    }

-- The whole run.

pub lines_room : (setting : Setting) (txns : List ℕ) (lines : List Line) (game : Game) → IsInOrder setting txns game →
    AllByRecursion (IsFit setting txns) lines → game ≡ opening_game setting txns →
    HasRoom setting txns (played setting txns lines) → HasRoom setting txns (fold (takes_line setting txns) game lines)
lines_room setting txns lines game order fits fresh room =
    let middle = fold (takes_line setting txns) game lines in
    let last = (all_taken setting txns 0 lines game fits (record { order = order; is = omega arith })).order in
    let rest = all_ended setting txns txns (length middle.events) middle (begun setting txns middle last) in
    room_before setting txns middle _ rest.is
    (subst (λ (g : Game). HasRoom setting txns (fold (λ game (txn : ℕ). ends_one setting txns game) (fold (takes_line setting txns) g lines) txns)) (sym fresh) room)

pub ends_room_all : (setting : Setting) (txns : List ℕ) (lines : List Line) (game : Game) (events : List Event) (board : BoardView) →
    game ≡ opening_game setting txns →
    Shows setting txns events board (fold (takes_line setting txns) game lines) → HasRoom setting txns (played setting txns lines) →
    HasRoom setting (numbers_on board) (fold (λ game (txn : ℕ). ends_one setting (numbers_on board) game) (game_on events board) (numbers_on board))
ends_room_all setting txns lines game events board fresh shows room =
    subst (λ (ns : List ℕ). HasRoom setting ns (fold (λ game (txn : ℕ). ends_one setting ns game) (game_on events board) ns)) (sym shows.stands.order.numbers)
    (subst (λ (g : Game). HasRoom setting txns (fold (λ game (txn : ℕ). ends_one setting txns game) g txns)) (sym shows.game_is)
    (subst (λ (g : Game). HasRoom setting txns (fold (λ game (txn : ℕ). ends_one setting txns game) (fold (takes_line setting txns) g lines) txns)) (sym fresh) room))

pub all_shows : (setting : Setting) (txns : List ℕ) (lines : List Line) (game : Game) (events new_events : List Event) (board new_board : BoardView) →
    game ≡ opening_game setting txns →
    Shows setting txns events board (fold (takes_line setting txns) game lines) →
    Shows setting (numbers_on board) new_events new_board (fold (λ game (txn : ℕ). ends_one setting (numbers_on board) game) (game_on events board) (numbers_on board)) →
    Shows setting txns new_events new_board (played setting txns lines)
all_shows setting txns lines game events new_events board new_board fresh first second =
    subst (λ (g : Game). Shows setting txns new_events new_board (fold (λ game (txn : ℕ). ends_one setting txns game) (fold (takes_line setting txns) g lines) txns)) fresh
    (subst (λ (g : Game). Shows setting txns new_events new_board (fold (λ game (txn : ℕ). ends_one setting txns game) g txns)) first.game_is
    (subst (λ (ns : List ℕ). Shows setting ns new_events new_board (fold (λ game (txn : ℕ). ends_one setting ns game) (game_on events board) ns)) first.stands.order.numbers second))

-- The first board.

opening_turns : (setting : Setting) (txns : List ℕ) →
    turns_of (map (λ txn. opening_seat setting.plan.trees txn []) txns) ≡ map (λ txn. opening_turn setting txn []) txns
opening_turns setting [] = refl
opening_turns setting (txn ∷ txns) = ap (λ (ts : List Turn). opening_turn setting txn [] ∷ ts) (opening_turns setting txns)

opening_calm : (trees : ℕ) (txns : List ℕ) → AllByRecursion IsCalm (map (λ txn. opening_seat trees txn []) txns)
opening_calm trees [] = tt
opening_calm trees (txn ∷ txns) = (record { free = refl; listed = refl }, opening_calm trees txns)

opening_wishes : (setting : Setting) (txns : List ℕ) → wishes_in (map (λ txn. opening_turn setting txn []) txns) ≡ []
opening_wishes setting [] = refl
opening_wishes setting (txn ∷ txns) = opening_wishes setting txns

pub opening_shows : (setting : Setting) (txns : List ℕ) (board : BoardView) → IsStrictlySortedBy nat_cmp txns →
    AllByRecursion (λ n. 1 ≤ n) txns →
    board ≡ record { seats = map (λ txn. opening_seat setting.plan.trees txn []) txns; registry = []; released = false } → Shows setting txns [] board (opening_game setting txns)
opening_shows setting txns board sorted numbered is =
    subst (λ (b : BoardView). Shows setting txns [] b (opening_game setting txns)) (sym is) (record {
      stands = record {
        order = subst (λ (g : Game). IsInOrder setting txns g) (sym game_is) (opening_in_order setting txns sorted);
        numbered = numbered;
        calm = opening_calm setting.plan.trees txns;
        waiting = sym (opening_wishes setting txns) ∙ ap wishes_in (sym (opening_turns setting txns));
      };
      game_is = game_is;
    })
  where
    first : BoardView
    first = record { seats = map (λ txn. opening_seat setting.plan.trees txn []) txns; registry = []; released = false }

    game_is : game_on [] first ≡ opening_game setting txns
    game_is = ap (λ (ts : List Turn). (let g : Game = record { events = []; turns = ts; released = false } in g)) (opening_turns setting txns)

-- How they ended.
pub ended_turns : (seats : List Seat) → filter_map (λ seat. ended_in seat.turn) seats ≡ filter_map ended_in (turns_of seats)
ended_turns [] = refl
ended_turns (s ∷ ss) = ap (cons_option (ended_in s.turn)) (ended_turns ss)
