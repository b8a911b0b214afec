-- What a start by a pass that acts alone makes of a transaction.
use Rattle.std.proofs.Common.{◌≡◌, ℕ, ◌+◌, List, [], ◌∷◌, Bool, true, false, if◌then◌else◌, nat_lt, length, Some, Result, Ok, Err}
use Rattle.std.proofs.Common.{refl, ap, arith}
use Rattle.lt_seq.specs.declared.fault.Fault.{Fault}
use Rattle.lt_seq.specs.declared.fault.Fault.TheVariants.{OutOfMemory, Busy, HistoryFull, OutOfLocks}
use Rattle.lt_seq.specs.Table.{Setting}
use Rattle.lt_seq.specs.Yard.{PassView, bar_for}
use Rattle.lt_requests.specs.declared.wish.Wish.{Wish}
use Rattle.lt_requests.specs.declared.started.Started.{Started}
use Rattle.lt_requests.specs.declared.started.Started.TheVariants.{Granted as StartedGranted, Waits, Deadlock}
use Rattle.lt_requests.specs.Registered.{may_ask, with_wish}
use Rattle.lt_requests.specs.Started.{IsStarted, HasAnswer}
use Rattle.lt_requests.proofs.DoneLaws.{start_answers}
use Rattle.lt_requests.proofs.RegistryLaws.{ascend-with_wish, wish_put}
use Rattle.lt_runner.specs.TurnView.{Seat}
use Rattle.lt_runner.specs.Board.{IsAnswered, seat_so}
use Rattle.lt_runner.specs.Plays.{next_wish}
use Rattle.lt_runner.specs.PlaysOn.{PlaysOn}
use Rattle.lt_runner.specs.Played.{Search}
use Rattle.lt_runner.specs.Standing.{IsStanding}
use Rattle.lt_runner.specs.StartsOn.{StartsOn, MayStart}
use Rattle.lt_runner.proofs.AskLaws.{may_be_asked}
use Rattle.lt_runner.proofs.RegisteredLaws.{seats_stay_fit}
use Rattle.lt_runner.proofs.StartsOnLaws.{starts_play_on}
use Rattle.lt_live.specs.Going.{MayGoOn, MayAskAlone}
use Rattle.lt_live.specs.Live.{AreOwn, PlaysHere}
use Rattle.lt_live.proofs.GoingLaws.{stands_on}
use Rattle.lt_live.proofs.LiveLaws.{plays_here}

one_more : (wish : Wish) (ws : List Wish) → length (with_wish wish ws) ≡ length ws + 1
one_more wish [] = refl
one_more wish (w ∷ ws) = by_test (nat_lt wish.txn w.txn) (one_more wish ws)
  where
    by_test : (b : Bool) → length (with_wish wish ws) ≡ length ws + 1 →
        length (if b then wish ∷ w ∷ ws else w ∷ with_wish wish ws) ≡ length (w ∷ ws) + 1
    by_test true rest = omega arith
    by_test false rest = omega (arith, rest)

-- its wish may be asked of the table
pub wish_may : (setting : Setting) (seat : Seat) (wish : Wish) → MayGoOn setting seat → next_wish seat.turn.txn seat.turn.lines ≡ Some wish →
    may_ask setting.plan.trees wish ≡ true
wish_may setting seat wish may next = may_be_asked setting seat.turn.txn wish seat.turn.lines may.standing.steady.lines may.fit.txn next

starts : (setting : Setting) (pass : PassView) (registry : List Wish) (seat : Seat) (wish : Wish) → MayAskAlone setting pass registry seat wish →
    MayStart setting pass (with_wish wish registry)
starts setting pass registry seat wish may = record {
  all = may.all;
  trees = may.fit.plan.trees;
  places = omega (arith, may.room, one_more wish registry);
}

-- Its start has an answer.
pub start_has : (setting : Setting) (bar : ℕ) (old new : PassView) (registry left : List Wish) (seat : Seat) (wish : Wish)
    (result : Result Started Fault) → MayAskAlone setting old registry seat wish →
    IsStarted setting bar wish registry (with_wish wish registry) registry old new left result → HasAnswer result
start_has setting bar old new registry left seat wish result may is =
    start_answers setting bar wish registry (with_wish wish registry) registry old new left result is
    (ascend-with_wish wish registry may.absent may.ascend) may.all (starts setting old registry seat wish may).places

-- one that played on by searches of its own
brought : (setting : Setting) (found : List Search) (old new : PassView) (was is : Seat) → AreOwn was.turn.txn found → MayGoOn setting was →
    PlaysOn setting found old new was is → PlaysHere setting old new was is × IsStanding setting is.turn
brought setting found old new was is own may plays =
    (plays_here setting found old new was is own plays, stands_on setting found old new was is own may.standing plays)

by_answer : (setting : Setting) (wishes : List Wish) (old new : PassView) (seat : Seat) (result : Result Started Fault) → MayGoOn setting seat →
    StartsOn setting wishes old new seat result → IsAnswered result →
    PlaysHere setting old new seat (seat_so seat.turn result) × IsStanding setting (seat_so seat.turn result).turn
by_answer setting wishes old new seat (Ok (StartedGranted place buffered)) may on has = brought setting [] old new seat _ tt may on
by_answer setting wishes old new seat (Ok (Waits owners)) may on has = brought setting _ old new seat _ (refl, tt) may on.plays
by_answer setting wishes old new seat (Ok (Deadlock walk)) may on has = brought setting _ old new seat _ (refl, tt) may on.plays
by_answer setting wishes old new seat (Err OutOfMemory) may on has = absurd has
by_answer setting wishes old new seat (Err (Busy row holder)) may on has = absurd has
by_answer setting wishes old new seat (Err (HistoryFull place)) may on has = absurd has
by_answer setting wishes old new seat (Err (OutOfLocks place rows)) may on has = brought setting [] old new seat _ tt may on

-- It has played on then, and may be played on again.
pub start_plays : (setting : Setting) (big : Bool) (old new : PassView) (registry left : List Wish) (seat : Seat) (wish : Wish)
    (result : Result Started Fault) → big ≡ seat.turn.big → MayAskAlone setting old registry seat wish →
    IsStarted setting (bar_for setting big) wish registry (with_wish wish registry) registry old new left result → IsAnswered result →
    PlaysHere setting old new seat (seat_so seat.turn result) × MayGoOn setting (seat_so seat.turn result)
start_plays setting big old new registry left seat wish result same may is has =
    let on = starts_play_on setting (bar_for setting big) seat wish registry (with_wish wish registry) registry old new left result
    (ap (bar_for setting) same) (starts setting old registry seat wish may) may.fit.sound (record {
      next = may.next;
      ascend = ascend-with_wish wish registry may.absent may.ascend;
      own = wish_put wish registry may.absent;
    }) is in
    let both = by_answer setting (with_wish wish registry) old new seat result may.may on has in
    (both.0, record { fit = seats_stay_fit setting seat wish result may.may.fit may.next has; standing = both.1 })
