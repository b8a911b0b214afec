-- What the answer at a lock line makes of the board.
use Rattle.std.proofs.Common.{◌≡◌, ℕ, ◌<◌, ◌≤◌, List, [], ◌∷◌, ◌++◌, map, Bool, true, false, ◌==◌, ◌||◌, if◌then◌else◌, Some, None, is_some, length, get_or, nat_cmp, Result, Ok, Err, refl, sym, ap, subst, ◌∙◌, arith}
use Rattle.std.specs.List.{AllByRecursion}
use Rattle.std.specs.List.Sorted.{IsStrictlySortedBy}
use Rattle.lt_ranges.specs.Numbers.{is_in}
use Rattle.lt_seq.specs.declared.event.Event.{Event}
use Rattle.lt_seq.specs.declared.fault.Fault.{Fault}
use Rattle.lt_seq.specs.declared.fault.Fault.TheVariants.{OutOfMemory, Busy, HistoryFull, OutOfLocks}
use Rattle.lt_seq.specs.Table.{Setting}
use Rattle.lt_seq.specs.Questions.{events_of}
use Rattle.lt_seq.specs.Yard.{PassView}
use Rattle.lt_trace.specs.declared.line.Line.{Line}
use Rattle.lt_trace.specs.declared.line.LineDeed.{LineDeed}
use Rattle.lt_trace.specs.declared.line.LineDeed.TheVariants.{Try, Lock, End, Abort, Escalate, Big}
use Rattle.lt_requests.specs.declared.wish.Wish.{Wish}
use Rattle.lt_requests.specs.declared.started.Started.{Started}
use Rattle.lt_requests.specs.declared.started.Started.TheVariants.{Granted as StartedGranted, Waits, Deadlock}
use Rattle.lt_requests.specs.Registered.{without, with_wish}
use Rattle.lt_requests.specs.Started.{IsStarted, HasAnswer}
use Rattle.lt_history.specs.declared.outcome.Outcome.TheVariants.{Deadlock as EndedByDeadlock, OutOfLocks as StoppedAt}
use Rattle.lt_runner.specs.TurnView.{Turn, Seat}
use Rattle.lt_runner.specs.Turn.{Move, receipts_in, ending}
use Rattle.lt_runner.specs.Plays.{next_wish, wish_for}
use Rattle.lt_runner.specs.Seats.{idle, granted_at}
use Rattle.lt_runner.specs.Serial.{Game, game_at, turn_of, with_turn, wishes_in, line_move, does}
use Rattle.lt_runner.specs.Steps.{IsSteady, IsFitDeed, IsFitLine}
use Rattle.lt_runner.specs.StartsAlone.{IsLockMove, IsStartedAtOnce}
use Rattle.lt_runner.specs.Board.{BoardView, IsBoard, IsCalm, Shows, IsAnswer, IsAnswered, IsTaken, seat_so, registry_so, turns_of, game_on, numbers_on, turn_on, moved, moved_at}
use Rattle.lt_runner.proofs.ChoiceLaws.{on_true, on_false}
use Rattle.lt_runner.proofs.SteadyLaws.{turn_of_txn, turn_has, steady_after, after_txn}
use Rattle.lt_runner.proofs.MoveLaws.{the_turn}
use Rattle.lt_runner.proofs.WishLaws.{wish_of}
use Rattle.lt_runner.proofs.WaitLaws.{wishes_stay, wishes_leave, wishes_come}
use Rattle.lt_runner.proofs.SeatLaws.{IsPut, board_put, shows_put}
use Rattle.lt_runner.proofs.OnLaws.{shows_then}

-- The turn is one that has not ended, and its next line is a lock line with this wish.
pub record IsLocking (setting : Setting) (txns : List ℕ) (txn : ℕ) (events : List Event) (board : BoardView) (wish : Wish) (line : Line) (lines : List Line) : Type 0 where
  pub stands : IsBoard setting txns events board
  pub number : is_in txn txns ≡ true
  pub goes : is_some (turn_on setting txn board).outcome ≡ false
  pub next : (turn_on setting txn board).lines ≡ line ∷ lines
  pub lock : line.deed ≡ Lock wish.tree wish.range
  pub own : wish.txn ≡ txn

sorted_on : (setting : Setting) (txns : List ℕ) (events : List Event) (board : BoardView) → IsBoard setting txns events board →
    IsStrictlySortedBy nat_cmp (numbers_on board)
sorted_on setting txns events board stands = subst (IsStrictlySortedBy nat_cmp) (sym stands.order.numbers) stands.order.sorted

pub txn_is : (setting : Setting) (txns : List ℕ) (txn : ℕ) (events : List Event) (board : BoardView) → IsBoard setting txns events board →
    is_in txn txns ≡ true → (turn_on setting txn board).txn ≡ txn
txn_is setting txns txn events board stands number = turn_of_txn setting txn (turns_of board.seats) (ap (is_in txn) stands.order.numbers ∙ number)

pub steady_on : (setting : Setting) (txns : List ℕ) (txn : ℕ) (events : List Event) (board : BoardView) →
    IsBoard setting txns events board → is_in txn txns ≡ true → IsSteady setting (turn_on setting txn board)
steady_on setting txns txn events board stands number =
    turn_has (IsSteady setting) setting txns (game_on events board) (turn_on setting txn board) (the_turn setting txns txn (game_on events board) number stands.order) stands.order.steady

-- The next line of a turn that waits for this.
pub record HasLock (txn : ℕ) (wish : Wish) (lines : List Line) : Type 0 where
  pub line : Line
  pub rest : List Line
  pub next : lines ≡ line ∷ rest
  pub lock : line.deed ≡ Lock wish.tree wish.range
  pub own : wish.txn ≡ txn

pub has_lock : (txn : ℕ) (wish : Wish) (lines : List Line) → next_wish txn lines ≡ Some wish → HasLock txn wish lines
has_lock txn wish [] e = absurd cc
has_lock txn wish (line ∷ lines) e = by_deed line.deed refl e
  where
    by_deed : (deed : LineDeed) → line.deed ≡ deed → wish_for txn deed ≡ Some wish → HasLock txn wish (line ∷ lines)
    by_deed (Try tree range) is h = absurd cc
    by_deed (Lock tree range) is h =
        let same : record { txn = txn; tree = tree; range = range } ≡ wish = cc in
        record { line = line; rest = lines; next = refl; lock = is ∙ ap (λ (w : Wish). Lock w.tree w.range) same; own = sym (ap (λ (w : Wish). w.txn) same) }
    by_deed End is h = absurd cc
    by_deed Abort is h = absurd cc
    by_deed (Escalate tree) is h = absurd cc
    by_deed Big is h = absurd cc

pub locking : (setting : Setting) (txns : List ℕ) (txn : ℕ) (events : List Event) (board : BoardView) (wish : Wish) →
    IsBoard setting txns events board → is_in txn txns ≡ true →
    is_some (turn_on setting txn board).outcome ≡ false → (at : HasLock (turn_on setting txn board).txn wish (turn_on setting txn board).lines) →
    IsLocking setting txns txn events board wish at.line at.rest
locking setting txns txn events board wish stands number goes at = record {
  stands = stands;
  number = number;
  goes = goes;
  next = at.next;
  lock = at.lock;
  own = at.own ∙ txn_is setting txns txn events board stands number;
}

pub wish_is : (setting : Setting) (txns : List ℕ) (txn : ℕ) (events : List Event) (board : BoardView) (wish : Wish) (line : Line) (lines : List Line) →
    IsLocking setting txns txn events board wish line lines →
    next_wish (turn_on setting txn board).txn (turn_on setting txn board).lines ≡ Some wish
wish_is setting txns txn events board wish line lines at =
    let turn = turn_on setting txn board in
    let same = txn_is setting txns txn events board at.stands at.number in
    ap (next_wish turn.txn) at.next ∙ ap (wish_for turn.txn) at.lock ∙ ap (λ (n : ℕ). Some (let w : Wish = record { txn = n; tree = wish.tree; range = wish.range } in w)) (same ∙ sym at.own)

-- the turn's move, with what it made, is the game's
pub lock_shows : (setting : Setting) (txns : List ℕ) (txn : ℕ) (events new_events : List Event) (board : BoardView) (wish : Wish) (line : Line) (lines : List Line) (place : ℕ) (seat : Seat) (registry : List Wish) →
    IsLocking setting txns txn events board wish line lines → place < length board.seats → ((d : Seat) → (get_or board.seats place d).turn.txn ≡ txn) →
    IsLockMove setting (turns_of board.seats) (turn_on setting txn board) wish events new_events seat.turn → IsCalm seat → registry ≡ wishes_in (with_turn seat.turn (turns_of board.seats)) →
    Shows setting txns new_events (board_put board place seat registry board.released) (moved setting txn (game_on events board))
lock_shows setting txns txn events new_events board wish line lines place seat registry at inside number made calm waiting =
    shows_then setting txns new_events (board_put board place seat registry board.released) _ _ shows game_is
  where
    turn : Turn
    turn = turn_on setting txn board

    turns : List Turn
    turns = turns_of board.seats

    game : Game
    game = game_on events board

    move_same : made.move ≡ line_move setting game turn line.deed
    move_same = sym made.move_is ∙ sym (ap (line_move setting game turn) at.lock)

    txn_same : seat.turn.txn ≡ txn
    txn_same = ap (λ (t : Turn). t.txn) made.turn_is ∙ after_txn turn made.move ∙ txn_is setting txns txn events board at.stands at.number

    put : IsPut setting board place seat registry
    put = record {
      inside = inside;
      number = λ d. number d ∙ sym txn_same;
      steady = subst (IsSteady setting) (sym made.turn_is) (steady_after setting turn made.move at.goes (steady_on setting txns txn events board at.stands at.number));
      calm = calm;
      waiting = waiting;
    }

    shows : Shows setting txns new_events (board_put board place seat registry board.released) (game_at new_events (with_turn seat.turn turns) board.released)
    shows = shows_put setting txns events new_events board place seat registry board.released at.stands put

    game_is : game_at new_events (with_turn seat.turn turns) board.released ≡ moved setting txn game
    game_is =
        ap (λ (es : List Event). game_at es (with_turn seat.turn turns) board.released) made.front
        ∙ ap (λ (t : Turn). game_at (events ++ events_of (receipts_in made.move)) (with_turn t turns) board.released) made.turn_is
        ∙ ap (λ (m : Move). does setting turn m game) move_same
        ∙ ap (λ (ls : List Line). moved_at setting txn ls game) (sym at.next)

-- What is registered then.

abbrev pub IsLeftSo : List Turn → Turn → Result Started Fault → List Wish → Type 0
IsLeftSo turns turn (Ok (StartedGranted place buffered)) left = (new : Turn) → new.txn ≡ turn.txn → wish_of new ≡ None → left ≡ wishes_in (with_turn new turns)
IsLeftSo turns turn (Ok (Waits owners)) left = left ≡ wishes_in (with_turn (record turn { waits = true }) turns)
IsLeftSo turns turn (Ok (Deadlock walk)) left = (new : Turn) → new.txn ≡ turn.txn → wish_of new ≡ None → left ≡ wishes_in (with_turn new turns)
IsLeftSo turns turn (Err fault) left = left ≡ wishes_in turns

no_wish : (turn : Turn) → turn.waits ≡ false → wish_of turn ≡ None
no_wish turn quiet = on_false turn.waits (next_wish turn.txn turn.lines) None quiet

quiet_granted : (turn : Turn) (wish : Wish) (line : Line) (rest : List Line) (buffered : Bool) → turn.lines ≡ line ∷ rest →
    line.deed ≡ Lock wish.tree wish.range → (granted_at turn buffered).waits ≡ false
quiet_granted turn wish line rest buffered next lock =
    subst (λ (ls : List Line). (granted_at (record turn { lines = ls }) buffered).waits ≡ false) (sym next)
    (subst (λ (d : LineDeed). (granted_at (record turn { lines = record line { deed = d } ∷ rest }) buffered).waits ≡ false) (sym lock) refl)

pub own_turn : (setting : Setting) (txns : List ℕ) (txn : ℕ) (events : List Event) (board : BoardView) → IsBoard setting txns events board →
    is_in txn txns ≡ true →
    turn_of setting (turn_on setting txn board).txn (turns_of board.seats) ≡ turn_on setting txn board
own_turn setting txns txn events board stands number = (the_turn setting txns txn (game_on events board) number stands.order).there

-- behind a start, of one that did not wait
pub left_start : (setting : Setting) (txns : List ℕ) (txn : ℕ) (events : List Event) (board : BoardView) (wish : Wish) (line : Line) (lines : List Line) (bar : ℕ) (registry : List Wish) (old new : PassView)
    (left : List Wish) (started : Result Started Fault) → IsLocking setting txns txn events board wish line lines → (turn_on setting txn board).waits ≡ false → registry ≡ board.registry →
    IsStarted setting bar wish registry (with_wish wish registry) registry old new left started → IsLeftSo (turns_of board.seats) (turn_on setting txn board) started left
left_start setting txns txn events board wish line lines bar registry old new left started at quiet same is = by_answer started is
  where
    turn : Turn
    turn = turn_on setting txn board

    turns : List Turn
    turns = turns_of board.seats

    stays : (t : Turn) → t.txn ≡ turn.txn → wish_of t ≡ None → registry ≡ wishes_in (with_turn t turns)
    stays t own none =
        same ∙ at.stands.waiting ∙ sym (wishes_stay setting t turns (sorted_on setting txns events board at.stands)
        (ap (λ (n : ℕ). wish_of (turn_of setting n turns)) own ∙ ap wish_of (own_turn setting txns txn events board at.stands at.number) ∙ no_wish turn quiet ∙ sym none))

    comes : with_wish wish registry ≡ wishes_in (with_turn (record turn { waits = true }) turns)
    comes =
        ap (with_wish wish) (same ∙ at.stands.waiting)
        ∙ sym (wishes_come setting (record turn { waits = true }) wish turns (sorted_on setting txns events board at.stands)
        (ap (is_in turn.txn) at.stands.order.numbers ∙ (the_turn setting txns txn (game_on events board) at.number at.stands.order).number)
        (wish_is setting txns txn events board wish line lines at) (ap (λ (t : Turn). t.waits) (own_turn setting txns txn events board at.stands at.number) ∙ quiet))

    by_answer : (r : Result Started Fault) → IsStarted setting bar wish registry (with_wish wish registry) registry old new left r →
        IsLeftSo turns turn r left
    by_answer (Ok (StartedGranted place buffered)) h = λ t own none. h.1 ∙ stays t own none
    by_answer (Ok (Waits owners)) h = h.1 ∙ comes
    by_answer (Ok (Deadlock walk)) h = λ t own none. h.1 ∙ stays t own none
    by_answer (Err fault) h = h.1 ∙ same ∙ at.stands.waiting

-- behind a retry
pub left_retry : (setting : Setting) (txns : List ℕ) (txn : ℕ) (events : List Event) (board : BoardView) (wish : Wish) (line : Line) (lines : List Line) (bar : ℕ) (registry : List Wish) (old new : PassView)
    (left : List Wish) (started : Result Started Fault) → IsLocking setting txns txn events board wish line lines → (turn_on setting txn board).waits ≡ true → registry ≡ board.registry →
    IsStarted setting bar wish (without txn registry) registry registry old new left started → IsLeftSo (turns_of board.seats) (turn_on setting txn board) started left
left_retry setting txns txn events board wish line lines bar registry old new left started at held same is = by_answer started is
  where
    turn : Turn
    turn = turn_on setting txn board

    turns : List Turn
    turns = turns_of board.seats

    leaves : (t : Turn) → t.txn ≡ turn.txn → wish_of t ≡ None → without txn registry ≡ wishes_in (with_turn t turns)
    leaves t own none =
        ap (without txn) (same ∙ at.stands.waiting)
        ∙ ap (λ (n : ℕ). without n (wishes_in turns)) (sym (own ∙ txn_is setting txns txn events board at.stands at.number)) ∙ sym (wishes_leave t turns none)

    stays : registry ≡ wishes_in (with_turn (record turn { waits = true }) turns)
    stays =
        same ∙ at.stands.waiting ∙ sym (wishes_stay setting (record turn { waits = true }) turns (sorted_on setting txns events board at.stands)
        (ap wish_of (own_turn setting txns txn events board at.stands at.number) ∙ on_true turn.waits (next_wish turn.txn turn.lines) None held))

    by_answer : (r : Result Started Fault) → IsStarted setting bar wish (without txn registry) registry registry old new left r →
        IsLeftSo turns turn r left
    by_answer (Ok (StartedGranted place buffered)) h = λ t own none. h.1 ∙ leaves t own none
    by_answer (Ok (Waits owners)) h = h.1 ∙ stays
    by_answer (Ok (Deadlock walk)) h = λ t own none. h.1 ∙ leaves t own none
    by_answer (Err fault) h = h.1 ∙ same ∙ at.stands.waiting

-- all that wait, with it among them
pub waiting_start : (setting : Setting) (txns : List ℕ) (txn : ℕ) (events : List Event) (board : BoardView) (wish : Wish) (line : Line) (lines : List Line) (registry : List Wish) →
    IsLocking setting txns txn events board wish line lines → (turn_on setting txn board).waits ≡ false → registry ≡ board.registry →
    with_wish wish registry ≡ wishes_in (with_turn (record (turn_on setting txn board) { waits = true }) (turns_of board.seats))
waiting_start setting txns txn events board wish line lines registry at quiet same =
    let turn = turn_on setting txn board in
    let turns = turns_of board.seats in
    ap (with_wish wish) (same ∙ at.stands.waiting)
    ∙ sym (wishes_come setting (record turn { waits = true }) wish turns (sorted_on setting txns events board at.stands)
    (ap (is_in turn.txn) at.stands.order.numbers ∙ (the_turn setting txns txn (game_on events board) at.number at.stands.order).number)
    (wish_is setting txns txn events board wish line lines at) (ap (λ (t : Turn). t.waits) (own_turn setting txns txn events board at.stands at.number) ∙ quiet))

pub waiting_retry : (setting : Setting) (txns : List ℕ) (txn : ℕ) (events : List Event) (board : BoardView) (wish : Wish) (line : Line) (lines : List Line) (registry : List Wish) →
    IsLocking setting txns txn events board wish line lines → (turn_on setting txn board).waits ≡ true → registry ≡ board.registry →
    registry ≡ wishes_in (with_turn (record (turn_on setting txn board) { waits = true }) (turns_of board.seats))
waiting_retry setting txns txn events board wish line lines registry at held same =
    let turn = turn_on setting txn board in
    let turns = turns_of board.seats in
    same ∙ at.stands.waiting ∙ sym (wishes_stay setting (record turn { waits = true }) turns (sorted_on setting txns events board at.stands)
    (ap wish_of (own_turn setting txns txn events board at.stands at.number) ∙ on_true turn.waits (next_wish turn.txn turn.lines) None held))

-- The board behind the answer.

pub answer_shows : (setting : Setting) (txns : List ℕ) (txn : ℕ) (events new_events : List Event) (board mid new : BoardView) (wish : Wish) (line : Line) (lines : List Line) (left : List Wish) (started : Result Started Fault) →
    IsLocking setting txns txn events board wish line lines → mid ≡ record board { registry = left } →
    IsStartedAtOnce setting (turns_of board.seats) (turn_on setting txn board) wish events new_events started → IsLeftSo (turns_of board.seats) (turn_on setting txn board) started left →
    IsTaken txn started mid new → Shows setting txns new_events new (moved setting txn (game_on events board))
answer_shows setting txns txn events new_events board mid new wish line lines left started at same made so taken =
    subst (λ (b : BoardView). Shows setting txns new_events b (moved setting txn (game_on events board))) (sym new_is) (by_answer started made so here.answered)
  where
    turn : Turn
    turn = turn_on setting txn board

    turns : List Turn
    turns = turns_of board.seats

    here : IsTaken txn started (record board { registry = left }) new
    here = subst (λ (m : BoardView). IsTaken txn started m new) same taken

    new_is : new ≡ board_put board here.place (seat_so turn started) (registry_so txn left started) board.released
    new_is = λ j. record { seats = here.seats setting j; registry = here.registry j; released = here.released j }

    shown : (seat : Seat) (registry : List Wish) → IsLockMove setting turns turn wish events new_events seat.turn → IsCalm seat →
        registry ≡ wishes_in (with_turn seat.turn turns) →
        Shows setting txns new_events (board_put board here.place seat registry board.released) (moved setting txn (game_on events board))
    shown seat registry move calm waiting = lock_shows setting txns txn events new_events board wish line lines here.place seat registry at here.inside here.number move calm waiting

    own : (t : Turn) → IsLockMove setting turns turn wish events new_events t → t.txn ≡ turn.txn
    own t move = ap (λ (u : Turn). u.txn) move.turn_is ∙ after_txn turn move.move

    by_answer : (r : Result Started Fault) → IsStartedAtOnce setting turns turn wish events new_events r → IsLeftSo turns turn r left →
        IsAnswered r →
        Shows setting txns new_events (board_put board here.place (seat_so turn r) (registry_so txn left r) board.released) (moved setting txn (game_on events board))
    by_answer (Ok (StartedGranted place buffered)) move is has =
        let quiet = quiet_granted turn wish line lines buffered at.next at.lock in
        shown (idle (granted_at turn buffered)) left move (record { free = refl; listed = sym quiet }) (is (granted_at turn buffered) (own _ move) (no_wish (granted_at turn buffered) quiet))
    by_answer (Ok (Waits owners)) move is has = shown (record { turn = record turn { waits = true }; busy = false; listed = true }) left move (record { free = refl; listed = refl }) is
    by_answer (Ok (Deadlock walk)) move is has =
        let t = ending (EndedByDeadlock walk) turn in shown (idle t) left move (record { free = refl; listed = refl }) (is t (own t move) (no_wish t refl))
    by_answer (Err OutOfMemory) move is has = absurd has
    by_answer (Err (Busy row holder)) move is has = absurd has
    by_answer (Err (HistoryFull place)) move is has = absurd has
    by_answer (Err (OutOfLocks place rows)) move is has =
        let t = ending (StoppedAt place rows) turn in
        shown (idle t) (without txn left) move (record { free = refl; listed = refl })
        (ap (without txn) is ∙ ap (λ (n : ℕ). without n (wishes_in turns)) (sym (own t move ∙ txn_is setting txns txn events board at.stands at.number)) ∙ sym (wishes_leave t turns (no_wish t refl)))

-- What is asked of the answer.

turn_any : (s r : Setting) (txn : ℕ) (turns : List Turn) → is_in txn (map (λ t. t.txn) turns) ≡ true →
    turn_of s txn turns ≡ turn_of r txn turns
turn_any s r txn [] there = absurd (let k : false ≡ true = there in cc)
turn_any s r txn (t ∷ ts) there = by_test (t.txn == txn) there (turn_any s r txn ts)
  where
    by_test : (b : Bool) → (b || is_in txn (map (λ t. t.txn) ts)) ≡ true →
        (is_in txn (map (λ t. t.txn) ts) ≡ true → turn_of s txn ts ≡ turn_of r txn ts) →
        (if b then t else turn_of s txn ts) ≡ (if b then t else turn_of r txn ts)
    by_test true h rest = refl
    by_test false h rest = rest h

has_answer : (setting : Setting) (turns : List Turn) (turn : Turn) (wish : Wish) (events new_events : List Event) (started : Result Started Fault) →
    IsStartedAtOnce setting turns turn wish events new_events started → HasAnswer started
has_answer setting turns turn wish events new_events (Ok started) made = tt
has_answer setting turns turn wish events new_events (Err OutOfMemory) made = tt
has_answer setting turns turn wish events new_events (Err (Busy row holder)) made = made
has_answer setting turns turn wish events new_events (Err (HistoryFull place)) made = made
has_answer setting turns turn wish events new_events (Err (OutOfLocks place rows)) made = tt

pub lock_fits : (setting : Setting) (txn : ℕ) (wish : Wish) (line : Line) (lines all : List Line) → all ≡ line ∷ lines →
    line.deed ≡ Lock wish.tree wish.range → AllByRecursion (IsFitLine setting txn) all → wish.tree < setting.plan.trees
lock_fits setting txn wish line lines all next lock fits =
    let first : AllByRecursion (IsFitLine setting txn) (line ∷ lines) = subst (AllByRecursion (IsFitLine setting txn)) next fits in
    let deed : IsFitDeed setting (Lock wish.tree wish.range) = subst (IsFitDeed setting) lock first.0.deed in deed.0

pub answer_for : (setting : Setting) (txns : List ℕ) (txn : ℕ) (events new_events : List Event) (board mid : BoardView) (wish : Wish) (line : Line) (lines : List Line) (left : List Wish) (started : Result Started Fault) →
    IsLocking setting txns txn events board wish line lines → setting.plan.trees ≤ 16 → mid ≡ record board { registry = left } →
    IsStartedAtOnce setting (turns_of board.seats) (turn_on setting txn board) wish events new_events started → IsAnswer txn mid started
answer_for setting txns txn events new_events board mid wish line lines left started at few same made =
    subst (λ (m : BoardView). IsAnswer txn m started) (sym same) (record {
      wish = wish;
      lock = λ s. ap (λ (t : Turn). next_wish t.txn t.lines) (any s) ∙ wish_is setting txns txn events board wish line lines at;
      tree = λ s. (let k = lock_fits setting turn.txn wish line lines turn.lines at.next at.lock steady.lines in omega (arith, k, steady.recorded, ap (λ (t : Turn). length t.recorded) (any s)));
      few = λ s. omega (arith, few, steady.recorded, ap (λ (t : Turn). length t.recorded) (any s));
      has = has_answer setting (turns_of board.seats) turn wish events new_events started made;
    })
  where
    turn : Turn
    turn = turn_on setting txn board

    steady : IsSteady setting turn
    steady = steady_on setting txns txn events board at.stands at.number

    any : (s : Setting) → turn_on s txn board ≡ turn
    any s = turn_any s setting txn (turns_of board.seats) (ap (is_in txn) at.stands.order.numbers ∙ at.number)
