-- A board that is swept.
use Rattle.std.proofs.Common.{◌≡◌, ◌≢◌, ℕ, ◌<◌, ◌≤◌, nat_lt, List, [], ◌∷◌, Bool, true, false, if◌then◌else◌, Some, None, is_some, length, nat_cmp, refl, sym, ap, subst, ◌∙◌, arith}
use Rattle.std.specs.List.{AllByRecursion, fold}
use Rattle.std.specs.List.Sorted.{IsStrictlySortedBy}
use Rattle.std.specs.declared.cmp.Ordering.TheVariants.{Less}
use Rattle.std.proofs.lemmas.Bool.Decides.{nat_tests}
use Rattle.lt_ranges.specs.Numbers.{is_in}
use Rattle.lt_seq.specs.declared.event.Event.{Event}
use Rattle.lt_seq.specs.Table.{Setting}
use Rattle.lt_trace.specs.declared.line.Line.{Line}
use Rattle.lt_trace.specs.declared.line.LineDeed.{LineDeed}
use Rattle.lt_trace.specs.declared.line.LineDeed.TheVariants.{Try, Lock, End, Abort, Escalate, Big}
use Rattle.lt_requests.specs.declared.wish.Wish.{Wish}
use Rattle.lt_requests.specs.Registered.{next_above}
use Rattle.lt_runner.specs.TurnView.{Turn}
use Rattle.lt_runner.specs.Plays.{wish_for, next_wish, is_lock}
use Rattle.lt_runner.specs.Played.{IsAtLock}
use Rattle.lt_runner.specs.Serial.{Game, turn_of, is_waiting, settles, plays_next, plays_on, retried, swept}
use Rattle.lt_runner.specs.Steps.{IsSteady, IsInOrder}
use Rattle.lt_runner.specs.Board.{BoardView, IsBoard, Shows, HasRoom, turns_of, game_on, numbers_on, turn_on, moved, above}
use Rattle.lt_runner.proofs.ChoiceLaws.{on_true}
use Rattle.lt_runner.proofs.SteadyLaws.{waits_goes, turn_has}
use Rattle.lt_runner.proofs.MoveLaws.{AreOf, are_of, the_turn}
use Rattle.lt_runner.proofs.WishLaws.{all_placed}
use Rattle.lt_runner.proofs.WaitLaws.{AllOver, IsNext, next_waits}
use Rattle.lt_runner.proofs.SweepLaws.{HasWish, sweep_on, sweep_over, above_fewer, all_above}
use Rattle.lt_runner.proofs.RoomLaws.{room_settles, room_on, room_round, order_next, order_retried}
use Rattle.lt_runner.proofs.OnLaws.{shows_of, room_own, next_is, order_moved}

-- One that waits has a lock line next.

pub lock_wish : (txn : ℕ) (lines : List Line) → IsAtLock lines → (w : Wish) × (next_wish txn lines ≡ Some w)
lock_wish txn [] lock = absurd lock
lock_wish txn (line ∷ lines) lock = by_deed line.deed lock
  where
    by_deed : (deed : LineDeed) → is_lock deed ≡ true → (w : Wish) × (wish_for txn deed ≡ Some w)
    by_deed (Try tree range) e = absurd cc
    by_deed (Lock tree range) e = (record { txn = txn; tree = tree; range = range }, refl)
    by_deed End e = absurd cc
    by_deed Abort e = absurd cc
    by_deed (Escalate tree) e = absurd cc
    by_deed Big e = absurd cc

pub lock_line : (lines : List Line) → IsAtLock lines → lines ≢ []
lock_line [] lock = absurd lock
lock_line (line ∷ lines) lock = λ none. absurd cc

have_wishes : (setting : Setting) (turns : List Turn) → AllByRecursion (IsSteady setting) turns → AllByRecursion HasWish turns
have_wishes setting [] steady = tt
have_wishes setting (t ∷ ts) steady = ((λ waits. lock_wish t.txn t.lines (steady.0.held waits)), have_wishes setting ts steady.1)

sorted_on : (setting : Setting) (txns : List ℕ) (events : List Event) (board : BoardView) → IsBoard setting txns events board →
    IsStrictlySortedBy nat_cmp (numbers_on board)
sorted_on setting txns events board stands = subst (IsStrictlySortedBy nat_cmp) (sym stands.order.numbers) stands.order.sorted

-- What is left of a sweep behind this number comes to this in the end.
pub record Sweeping (setting : Setting) (txns : List ℕ) (events : List Event) (board : BoardView) (last : ℕ) (whole : Game) : Type 0 where
  pub stands : IsBoard setting txns events board
  pub onward : fold (retried setting) (game_on events board) (above last txns) ≡ whole

all_numbered : (txns : List ℕ) → AllByRecursion (λ n. 1 ≤ n) txns → AllOver 0 txns
all_numbered [] all = tt
all_numbered (n ∷ ns) all = ((let k : 1 ≤ n = all.0 in let less : 0 < n = k in below n less), all_numbered ns all.1)
  where
    below : (m : ℕ) → 0 < m → nat_cmp 0 m ≡ Less
    below m less = grind (arith, nat_tests)

pub sweep_begins : (setting : Setting) (txns : List ℕ) (events : List Event) (board new_board : BoardView) →
    IsBoard setting txns events board → new_board ≡ record board { released = false } →
    Sweeping setting txns events new_board 0 (swept setting txns (game_on events board))
sweep_begins setting txns events board new_board stands same =
    subst (λ (b : BoardView). Sweeping setting txns events b 0 (swept setting txns (game_on events board))) (sym same) (record {
      stands = record {
        order = record { sorted = stands.order.sorted; numbers = stands.order.numbers; steady = stands.order.steady };
        numbered = stands.numbered;
        calm = stands.calm;
        waiting = stands.waiting;
      };
      onward = ap (fold (retried setting) (record (game_on events board) { released = false })) (all_above 0 0 txns (omega arith) (all_numbered txns stands.numbered));
    })

pub sweep_next : (setting : Setting) (txns : List ℕ) (events : List Event) (board : BoardView) (last txn : ℕ) →
    IsBoard setting txns events board → next_above last board.registry ≡ Some txn →
    IsNext setting last txn (turns_of board.seats)
sweep_next setting txns events board last txn stands found =
    next_waits setting last txn (turns_of board.seats) (sorted_on setting txns events board stands) (ap (next_above last) (sym stands.waiting) ∙ found)

pub sweep_number : (setting : Setting) (txns : List ℕ) (events : List Event) (board : BoardView) (last txn : ℕ) →
    IsBoard setting txns events board → next_above last board.registry ≡ Some txn → is_in txn txns ≡ true
sweep_number setting txns events board last txn stands found =
    ap (is_in txn) (sym stands.order.numbers) ∙ (sweep_next setting txns events board last txn stands found).number

-- the next one asks again
onward_next : (setting : Setting) (txns : List ℕ) (events : List Event) (board : BoardView) (last txn : ℕ) (whole : Game) →
    Sweeping setting txns events board last whole →
    next_above last board.registry ≡ Some txn → fold (retried setting) (retried setting (game_on events board) txn) (above txn txns) ≡ whole
onward_next setting txns events board last txn whole sweeping found =
    let stands = sweeping.stands in
    let game = game_on events board in
    let sorted = sorted_on setting txns events board stands in
    let on = sweep_on setting game last txn (turns_of board.seats) sorted (all_placed setting (turns_of board.seats) sorted) (have_wishes setting (turns_of board.seats) stands.order.steady)
    (ap (next_above last) (sym stands.waiting) ∙ found) in
    ap (λ (ns : List ℕ). fold (retried setting) (retried setting game txn) (above txn ns)) (sym stands.order.numbers)
    ∙ sym on ∙ ap (λ (ns : List ℕ). fold (retried setting) game (above last ns)) stands.order.numbers ∙ sweeping.onward

pub sweep_more : (setting : Setting) (txns : List ℕ) (events new_events : List Event) (board new_board : BoardView) (last txn : ℕ) (whole : Game) →
    Sweeping setting txns events board last whole →
    next_above last board.registry ≡ Some txn → Shows setting (numbers_on board) new_events new_board (retried setting (game_on events board) txn) →
    Sweeping setting txns new_events new_board txn whole
sweep_more setting txns events new_events board new_board last txn whole sweeping found shows =
    let now = shows_of setting txns events new_events board new_board _ sweeping.stands shows in
    record {
      stands = now.stands;
      onward = ap (λ (g : Game). fold (retried setting) g (above txn txns)) now.game_is ∙ onward_next setting txns events board last txn whole sweeping found;
    }

are_above : (last : ℕ) (txns ns : List ℕ) → AreOf txns ns → AreOf txns (above last ns)
are_above last txns [] all = tt
are_above last txns (n ∷ ns) all = by_test (nat_lt last n) (are_above last txns ns all.1)
  where
    by_test : (b : Bool) → AreOf txns (above last ns) → AreOf txns (if b then n ∷ above last ns else above last ns)
    by_test true rest = (all.0, rest)
    by_test false rest = rest

pub sweep_room : (setting : Setting) (txns : List ℕ) (events : List Event) (board : BoardView) (last txn : ℕ) (whole : Game) →
    Sweeping setting txns events board last whole →
    next_above last board.registry ≡ Some txn → HasRoom setting txns whole → HasRoom setting (numbers_on board) (retried setting (game_on events board) txn)
sweep_room setting txns events board last txn whole sweeping found room =
    let game = game_on events board in
    let number = sweep_number setting txns events board last txn sweeping.stands found in
    room_own setting txns events board _ sweeping.stands
    (room_round setting txns (above txn txns) (retried setting game txn) (are_above txn txns txns (are_of txns)) (order_retried setting txns txn game number sweeping.stands.order)
    (subst (HasRoom setting txns) (sym (onward_next setting txns events board last txn whole sweeping found)) room))

pub sweep_ends : (setting : Setting) (txns : List ℕ) (events : List Event) (board : BoardView) (last : ℕ) (whole : Game) →
    Sweeping setting txns events board last whole →
    next_above last board.registry ≡ None → Shows setting txns events board whole
sweep_ends setting txns events board last whole sweeping none =
    let stands = sweeping.stands in
    let game = game_on events board in
    let sorted = sorted_on setting txns events board stands in
    let over = sweep_over setting game last (turns_of board.seats) (all_placed setting (turns_of board.seats) sorted) (have_wishes setting (turns_of board.seats) stands.order.steady)
    (ap (next_above last) (sym stands.waiting) ∙ none) in
    record { stands = stands; game_is = sym over ∙ ap (λ (ns : List ℕ). fold (retried setting) game (above last ns)) stands.order.numbers ∙ sweeping.onward }

pub sweep_falls : (setting : Setting) (txns : List ℕ) (events : List Event) (board : BoardView) (last txn : ℕ) →
    IsBoard setting txns events board → next_above last board.registry ≡ Some txn →
    length (above txn txns) < length (above last txns)
sweep_falls setting txns events board last txn stands found =
    above_fewer last txn txns (sweep_next setting txns events board last txn stands found).behind (sweep_number setting txns events board last txn stands found)

-- One that asks again.

pub record IsRetry (setting : Setting) (txns : List ℕ) (txn : ℕ) (game : Game) : Type 0 where
  pub moved_room : HasRoom setting txns (moved setting txn game)
  pub next_room : HasRoom setting txns (settles setting (turn_of setting txn (moved setting txn game).turns) (moved setting txn game))
  pub is : retried setting game txn ≡ (let next = settles setting (turn_of setting txn (moved setting txn game).turns) (moved setting txn game) in
      plays_on setting txn (turn_of setting txn next.turns).lines next)

pub retry_parts : (setting : Setting) (txns : List ℕ) (txn : ℕ) (events : List Event) (board : BoardView) →
    IsBoard setting txns events board → is_in txn txns ≡ true →
    is_waiting (turn_on setting txn board) ≡ true → HasRoom setting txns (retried setting (game_on events board) txn) → IsRetry setting txns txn (game_on events board)
retry_parts setting txns txn events board stands number waits room =
    record { moved_room = moved_room; next_room = next_room; is = is }
  where
    game : Game
    game = game_on events board

    steady : IsSteady setting (turn_of setting txn game.turns)
    steady = turn_has (IsSteady setting) setting txns game (turn_of setting txn game.turns) (the_turn setting txns txn game number stands.order) stands.order.steady

    goes : is_some (turn_of setting txn game.turns).outcome ≡ false
    goes = waits_goes setting (turn_of setting txn game.turns) steady waits

    next_game : Game
    next_game = settles setting (turn_of setting txn (moved setting txn game).turns) (moved setting txn game)

    next_same : plays_next setting txn game ≡ next_game
    next_same = next_is setting txn game (lock_line (turn_of setting txn game.turns).lines (steady.held waits))

    is : retried setting game txn ≡ plays_on setting txn (turn_of setting txn next_game.turns).lines next_game
    is = on_true (is_waiting (turn_of setting txn game.turns)) _ game waits
        ∙ ap (λ (g : Game). plays_on setting txn (turn_of setting txn g.turns).lines g) next_same

    next_order : IsInOrder setting txns next_game
    next_order = subst (IsInOrder setting txns) next_same (order_next setting txns txn game number goes stands.order)

    next_room : HasRoom setting txns next_game
    next_room = room_on setting txns txn (turn_of setting txn next_game.turns).lines next_game number next_order (subst (HasRoom setting txns) is room)

    moved_room : HasRoom setting txns (moved setting txn game)
    moved_room = room_settles setting txns txn (moved setting txn game) number (order_moved setting txns txn game number goes stands.order) next_room

-- there is room for its release
pub retry_release_room : (setting : Setting) (txns : List ℕ) (txn : ℕ) (game : Game) (events : List Event) (board : BoardView) →
    IsRetry setting txns txn game →
    Shows setting txns events board (moved setting txn game) → HasRoom setting (numbers_on board) (settles setting (turn_on setting txn board) (game_on events board))
retry_release_room setting txns txn game events board parts shows =
    room_own setting txns events board _ shows.stands
    (subst (λ (g : Game). HasRoom setting txns (settles setting (turn_of setting txn g.turns) g)) (sym shows.game_is) parts.next_room)

-- what its release shows
pub retry_released : (setting : Setting) (txns : List ℕ) (txn : ℕ) (game : Game) (events new_events : List Event) (board new_board : BoardView) →
    Shows setting txns events board (moved setting txn game) →
    Shows setting (numbers_on board) new_events new_board (settles setting (turn_on setting txn board) (game_on events board)) →
    Shows setting txns new_events new_board (settles setting (turn_of setting txn (moved setting txn game).turns) (moved setting txn game))
retry_released setting txns txn game events new_events board new_board first second =
    subst (λ (g : Game). Shows setting txns new_events new_board (settles setting (turn_of setting txn g.turns) g)) first.game_is
    (shows_of setting txns events new_events board new_board _ first.stands second)

-- and for the lines behind it
pub retry_on_room : (setting : Setting) (txns : List ℕ) (txn : ℕ) (game : Game) (events new_events : List Event) (board new_board : BoardView) →
    IsRetry setting txns txn game →
    Shows setting txns events board (moved setting txn game) →
    Shows setting (numbers_on board) new_events new_board (settles setting (turn_on setting txn board) (game_on events board)) →
    HasRoom setting txns (retried setting game txn) → HasRoom setting (numbers_on new_board) (plays_on setting txn (turn_on setting txn new_board).lines (game_on new_events new_board))
retry_on_room setting txns txn game events new_events board new_board parts first second room =
    let shows = retry_released setting txns txn game events new_events board new_board first second in
    room_own setting txns new_events new_board _ shows.stands
    (subst (λ (g : Game). HasRoom setting txns (plays_on setting txn (turn_of setting txn g.turns).lines g)) (sym shows.game_is) (subst (HasRoom setting txns) parts.is room))

-- it shows what it comes to
pub retry_shows : (setting : Setting) (txns : List ℕ) (txn : ℕ) (game : Game) (events new_events last_events : List Event) (board new_board last_board : BoardView) →
    IsRetry setting txns txn game →
    Shows setting txns events board (moved setting txn game) →
    Shows setting (numbers_on board) new_events new_board (settles setting (turn_on setting txn board) (game_on events board)) →
    Shows setting (numbers_on new_board) last_events last_board (plays_on setting txn (turn_on setting txn new_board).lines (game_on new_events new_board)) →
    Shows setting txns last_events last_board (retried setting game txn)
retry_shows setting txns txn game events new_events last_events board new_board last_board parts first second third =
    let shows = retry_released setting txns txn game events new_events board new_board first second in
    subst (Shows setting txns last_events last_board) (sym parts.is)
    (subst (λ (g : Game). Shows setting txns last_events last_board (plays_on setting txn (turn_of setting txn g.turns).lines g)) shows.game_is
    (shows_of setting txns new_events last_events new_board last_board _ shows.stands third))
