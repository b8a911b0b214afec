-- A board that is played on.
use Rattle.std.proofs.Common.{◌≡◌, ◌≢◌, ℕ, ◌+◌, ◌<◌, List, [], ◌∷◌, drop, Bool, true, false, if◌then◌else◌, is_some, length, nat_cmp, refl, sym, ap, subst, ◌∙◌, arith}
use Rattle.std.proofs.lemmas.List.{at_drop_more}
use Rattle.lt_runner.specs.Plays.{end_of}
use Rattle.std.specs.List.{fold}
use Rattle.std.specs.List.Sorted.{IsStrictlySortedBy}
use Rattle.lt_ranges.specs.Numbers.{is_in}
use Rattle.lt_seq.specs.declared.event.Event.{Event}
use Rattle.lt_seq.specs.Table.{Setting}
use Rattle.lt_trace.specs.declared.line.Line.{Line}
use Rattle.lt_runner.specs.Serial.{Game, turn_of, is_ready, settles, plays_line, plays_next, plays_on, swept, swept_if_released}
use Rattle.lt_runner.specs.Steps.{IsInOrder}
use Rattle.lt_runner.specs.Board.{BoardView, IsBoard, IsOn, GoesOn, Shows, HasRoom, game_on, numbers_on, turn_on, moved, moved_at}
use Rattle.lt_runner.proofs.ChoiceLaws.{on_true, on_false}
use Rattle.lt_runner.proofs.SteadyLaws.{ready_goes}
use Rattle.lt_runner.proofs.MoveLaws.{AnyOne, the_turn, holds_plays}
use Rattle.lt_runner.proofs.IdleLaws.{keeps_nothing}
use Rattle.lt_runner.proofs.RoomLaws.{room_settles, room_on, room_rounds, order_next, order_swept}

-- A board of these transactions is one of its own.

pub own_board : (setting : Setting) (txns : List ℕ) (events : List Event) (board : BoardView) → IsBoard setting txns events board →
    IsBoard setting (numbers_on board) events board
own_board setting txns events board stands = subst (λ (ns : List ℕ). IsBoard setting ns events board) (sym stands.order.numbers) stands

pub is_on : (setting : Setting) (txns : List ℕ) (txn : ℕ) (events : List Event) (board : BoardView) → is_in txn txns ≡ true →
    IsBoard setting txns events board → IsOn txn board
is_on setting txns txn events board number stands = record {
  sorted = subst (IsStrictlySortedBy nat_cmp) (sym stands.order.numbers) stands.order.sorted;
  number = ap (is_in txn) stands.order.numbers ∙ number;
}

-- what a call has shown of the board's own transactions, of these
pub shows_of : (setting : Setting) (txns : List ℕ) (events new_events : List Event) (board new_board : BoardView) (game : Game) →
    IsBoard setting txns events board →
    Shows setting (numbers_on board) new_events new_board game → Shows setting txns new_events new_board game
shows_of setting txns events new_events board new_board game stands shows =
    subst (λ (ns : List ℕ). Shows setting ns new_events new_board game) stands.order.numbers shows

pub room_own : (setting : Setting) (txns : List ℕ) (events : List Event) (board : BoardView) (game : Game) →
    IsBoard setting txns events board → HasRoom setting txns game → HasRoom setting (numbers_on board) game
room_own setting txns events board game stands room = subst (λ (ns : List ℕ). HasRoom setting ns game) (sym stands.order.numbers) room

pub shows_itself : (setting : Setting) (txns : List ℕ) (events : List Event) (board : BoardView) → IsBoard setting txns events board →
    Shows setting txns events board (game_on events board)
shows_itself setting txns events board stands = record { stands = stands; game_is = refl }

-- and on from there
pub shows_then : (setting : Setting) (txns : List ℕ) (events : List Event) (board : BoardView) (game last : Game) →
    Shows setting txns events board game → game ≡ last → Shows setting txns events board last
shows_then setting txns events board game last shows same = record { stands = shows.stands; game_is = shows.game_is ∙ same }

-- One line and its release.

pub next_is : (setting : Setting) (txn : ℕ) (game : Game) → (turn_of setting txn game.turns).lines ≢ [] →
    plays_next setting txn game ≡ settles setting (turn_of setting txn (moved setting txn game).turns) (moved setting txn game)
next_is setting txn game some = by_lines (turn_of setting txn game.turns).lines some
  where
    by_lines : (lines : List Line) → lines ≢ [] →
        plays_line setting txn lines game ≡ settles setting (turn_of setting txn (moved_at setting txn lines game).turns) (moved_at setting txn lines game)
    by_lines [] none = absurd (none refl)
    by_lines (line ∷ lines) none = refl

pub order_moved : (setting : Setting) (txns : List ℕ) (txn : ℕ) (game : Game) → is_in txn txns ≡ true →
    is_some (turn_of setting txn game.turns).outcome ≡ false →
    IsInOrder setting txns game → IsInOrder setting txns (moved setting txn game)
order_moved setting txns txn game number goes order = by_lines (turn_of setting txn game.turns).lines refl
  where
    by_lines : (lines : List Line) → (turn_of setting txn game.turns).lines ≡ lines →
        IsInOrder setting txns (moved_at setting txn lines game)
    by_lines [] same = order
    by_lines (line ∷ lines) same =
        (holds_plays setting txns AnyOne (λ g. Unit {0}) game (turn_of setting txn game.turns) line lines (keeps_nothing setting txns)
        (record { of_game = the_turn setting txns txn game number order; goes = goes; next = same }) tt tt).order

-- there is room for the line, where there is for its release
pub room_moved : (setting : Setting) (txns : List ℕ) (txn : ℕ) (events : List Event) (board : BoardView) →
    IsBoard setting txns events board → is_in txn txns ≡ true → GoesOn setting txn board →
    HasRoom setting txns (plays_next setting txn (game_on events board)) → HasRoom setting txns (moved setting txn (game_on events board))
room_moved setting txns txn events board stands number goes room =
    let game = game_on events board in
    let on = ready_goes (turn_of setting txn game.turns) goes.ready in
    room_settles setting txns txn (moved setting txn game) number (order_moved setting txns txn game number on stands.order)
    (subst (HasRoom setting txns) (next_is setting txn game goes.left) room)

-- Lines until it waits or has ended.

-- the lines that are left of those that were there come to this in the end
pub record PlayingOn (setting : Setting) (txns : List ℕ) (txn : ℕ) (events : List Event) (board : BoardView) (left : List Line) (whole : Game) : Type 0 where
  pub stands : IsBoard setting txns events board
  pub onward : plays_on setting txn left (game_on events board) ≡ whole

no_more : (setting : Setting) (txn : ℕ) (lines : List Line) (game : Game) → (turn_of setting txn game.turns).lines ≡ [] →
    plays_on setting txn lines game ≡ game
no_more setting txn [] game none = refl
no_more setting txn (line ∷ lines) game none = by_test (is_ready (turn_of setting txn game.turns)) (no_more setting txn lines game none)
  where
    still : plays_next setting txn game ≡ game
    still = ap (λ (ls : List Line). plays_line setting txn ls game) none

    by_test : (b : Bool) → plays_on setting txn lines game ≡ game →
        (if b then plays_on setting txn lines (plays_next setting txn game) else game) ≡ game
    by_test true rest = ap (plays_on setting txn lines) still ∙ rest
    by_test false rest = refl

unready : (setting : Setting) (txn : ℕ) (lines : List Line) (game : Game) → is_ready (turn_of setting txn game.turns) ≡ false →
    plays_on setting txn lines game ≡ game
unready setting txn [] game not_ready = refl
unready setting txn (line ∷ lines) game not_ready = on_false (is_ready (turn_of setting txn game.turns)) _ game not_ready

-- it stops where it does not go on
pub on_stops : (setting : Setting) (txns : List ℕ) (txn : ℕ) (events : List Event) (board : BoardView) (left : List Line) (whole : Game) →
    PlayingOn setting txns txn events board left whole → is_ready (turn_on setting txn board) ≡ false → Shows setting txns events board whole
on_stops setting txns txn events board left whole playing not_ready =
    record { stands = playing.stands; game_is = sym (unready setting txn left (game_on events board) not_ready) ∙ playing.onward }

pub on_empty : (setting : Setting) (txns : List ℕ) (txn : ℕ) (events : List Event) (board : BoardView) (left : List Line) (whole : Game) →
    PlayingOn setting txns txn events board left whole → length (turn_on setting txn board).lines ≡ 0 → Shows setting txns events board whole
on_empty setting txns txn events board left whole playing none =
    record { stands = playing.stands; game_is = sym (no_more setting txn left (game_on events board) (empty (turn_on setting txn board).lines none)) ∙ playing.onward }
  where
    empty : (lines : List Line) → length lines ≡ 0 → lines ≡ []
    empty [] e = refl
    empty (line ∷ lines) e = absurd (omega arith)

pub on_over : (setting : Setting) (txns : List ℕ) (txn : ℕ) (events : List Event) (board : BoardView) (whole : Game) →
    PlayingOn setting txns txn events board [] whole → Shows setting txns events board whole
on_over setting txns txn events board whole playing = record { stands = playing.stands; game_is = playing.onward }

-- and plays the next line where it does
pub onward_at : (setting : Setting) (txn : ℕ) (game whole : Game) (lines : List Line) (i : ℕ) → i < length lines →
    is_ready (turn_of setting txn game.turns) ≡ true →
    plays_on setting txn (drop i lines) game ≡ whole → plays_on setting txn (drop (i + 1) lines) (plays_next setting txn game) ≡ whole
onward_at setting txn game whole lines i inside ready goes =
    sym (on_true (is_ready (turn_of setting txn game.turns)) (plays_on setting txn (drop (i + 1) lines) (plays_next setting txn game)) game ready)
    ∙ sym (at_drop_more (λ (ls : List Line). plays_on setting txn ls game) lines i (end_of 0) inside) ∙ goes

pub on_more : (setting : Setting) (txns : List ℕ) (txn : ℕ) (events new_events : List Event) (board new_board : BoardView) (lines : List Line) (i : ℕ) (whole : Game) →
    PlayingOn setting txns txn events board (drop i lines) whole → i < length lines → is_ready (turn_on setting txn board) ≡ true →
    Shows setting (numbers_on board) new_events new_board (plays_next setting txn (game_on events board)) → PlayingOn setting txns txn new_events new_board (drop (i + 1) lines) whole
on_more setting txns txn events new_events board new_board lines i whole playing inside ready shows =
    let now = shows_of setting txns events new_events board new_board _ playing.stands shows in
    record {
      stands = now.stands;
      onward = ap (plays_on setting txn (drop (i + 1) lines)) now.game_is ∙ onward_at setting txn (game_on events board) whole lines i inside ready playing.onward;
    }

-- there is room for it
pub on_room : (setting : Setting) (txns : List ℕ) (txn : ℕ) (events : List Event) (board : BoardView) (lines : List Line) (i : ℕ) (whole : Game) →
    PlayingOn setting txns txn events board (drop i lines) whole → is_in txn txns ≡ true → i < length lines → is_ready (turn_on setting txn board) ≡ true →
    HasRoom setting txns whole → HasRoom setting (numbers_on board) (plays_next setting txn (game_on events board))
on_room setting txns txn events board lines i whole playing number inside ready room =
    let game = game_on events board in
    let next = onward_at setting txn game whole lines i inside ready playing.onward in
    room_own setting txns events board _ playing.stands
    (room_on setting txns txn (drop (i + 1) lines) (plays_next setting txn game) number
    (order_next setting txns txn game number (ready_goes (turn_of setting txn game.turns) ready) playing.stands.order)
    (subst (HasRoom setting txns) (sym next) room))

-- Sweeps while one was released.

pub record Settling (setting : Setting) (txns : List ℕ) (events : List Event) (board : BoardView) (left : List ℕ) (whole : Game) : Type 0 where
  pub stands : IsBoard setting txns events board
  pub onward : fold (λ game (txn : ℕ). swept_if_released setting txns game) (game_on events board) left ≡ whole

unreleased : (setting : Setting) (txns : List ℕ) (left : List ℕ) (game : Game) → game.released ≡ false →
    fold (λ game (txn : ℕ). swept_if_released setting txns game) game left ≡ game
unfolding swept_if_released
unreleased setting txns [] game none = refl
unreleased setting txns (txn ∷ left) game none =
    ap (λ (g : Game). fold (λ game (n : ℕ). swept_if_released setting txns game) g left) (on_false game.released (swept setting txns game) game none) ∙ unreleased setting txns left game none

pub settled_stops : (setting : Setting) (txns : List ℕ) (events : List Event) (board : BoardView) (left : List ℕ) (whole : Game) →
    Settling setting txns events board left whole → board.released ≡ false → Shows setting txns events board whole
settled_stops setting txns events board left whole settling none =
    record { stands = settling.stands; game_is = sym (unreleased setting txns left (game_on events board) none) ∙ settling.onward }

sweeps_at : (setting : Setting) (txns : List ℕ) (game whole : Game) (left : List ℕ) (i : ℕ) → i < length left → game.released ≡ true →
    fold (λ game (txn : ℕ). swept_if_released setting txns game) game (drop i left) ≡ whole →
    fold (λ game (txn : ℕ). swept_if_released setting txns game) (swept setting txns game) (drop (i + 1) left) ≡ whole
unfolding swept_if_released
sweeps_at setting txns game whole left i inside marked goes =
    let f = λ (g : Game) (txn : ℕ). swept_if_released setting txns g in
    ap (λ (g : Game). fold f g (drop (i + 1) left)) (sym (on_true game.released (swept setting txns game) game marked))
    ∙ sym (at_drop_more (fold f game) left i 0 inside) ∙ goes

pub settled_more : (setting : Setting) (txns : List ℕ) (events new_events : List Event) (board new_board : BoardView) (left : List ℕ) (i : ℕ) (whole : Game) →
    Settling setting txns events board (drop i left) whole → i < length left → board.released ≡ true →
    Shows setting (numbers_on board) new_events new_board (swept setting (numbers_on board) (game_on events board)) → Settling setting txns new_events new_board (drop (i + 1) left) whole
settled_more setting txns events new_events board new_board left i whole settling inside marked shows =
    let now : Shows setting txns new_events new_board (swept setting txns (game_on events board)) =
    subst (λ (ns : List ℕ). Shows setting ns new_events new_board (swept setting ns (game_on events board))) settling.stands.order.numbers shows in
    record {
      stands = now.stands;
      onward = ap (λ (g : Game). fold (λ game (txn : ℕ). swept_if_released setting txns game) g (drop (i + 1) left)) now.game_is
          ∙ sweeps_at setting txns (game_on events board) whole left i inside marked settling.onward;
    }

pub settled_room : (setting : Setting) (txns : List ℕ) (events : List Event) (board : BoardView) (left : List ℕ) (i : ℕ) (whole : Game) →
    Settling setting txns events board (drop i left) whole → i < length left → board.released ≡ true →
    HasRoom setting txns whole → HasRoom setting (numbers_on board) (swept setting (numbers_on board) (game_on events board))
settled_room setting txns events board left i whole settling inside marked room =
    let game = game_on events board in
    let next = sweeps_at setting txns game whole left i inside marked settling.onward in
    let here = room_rounds setting txns (drop (i + 1) left) (swept setting txns game) (order_swept setting txns game settling.stands.order) (subst (HasRoom setting txns) (sym next) room) in
    subst (λ (ns : List ℕ). HasRoom setting ns (swept setting ns game)) (sym settling.stands.order.numbers) here
