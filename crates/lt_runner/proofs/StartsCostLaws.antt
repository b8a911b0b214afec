-- What a start or a retry of a transaction that waits costs.
use Rattle.std.proofs.Common.{◌≡◌, ℕ, ◌+◌, ◌-◌, ◌*◌, ◌≤◌, List, [], ◌∷◌, Bool}
use Rattle.std.proofs.Common.{true, false, if◌then◌else◌, is_some, Option, Some, None, Result, Ok, Err}
use Rattle.std.proofs.Common.{inl, inr, length, refl, sym, ap, subst, ◌∙◌, arith, length-append}
use Rattle.lt_seq.specs.declared.event.Receipt.{Receipt}
use Rattle.lt_seq.specs.declared.fault.Fault.{Fault}
use Rattle.lt_seq.specs.declared.fault.Fault.TheVariants.{OutOfMemory, Busy, HistoryFull, OutOfLocks}
use Rattle.lt_seq.specs.Table.{Setting}
use Rattle.lt_seq.specs.Yard.{PassView, IsSound, AskAnswers}
use Rattle.lt_requests.specs.declared.wish.Wish.{Wish}
use Rattle.lt_requests.specs.declared.cycle.Edge.{Edge}
use Rattle.lt_requests.specs.declared.started.Started.{Started}
use Rattle.lt_requests.specs.declared.started.Started.TheVariants.{Granted as StartedGranted, Waits, Deadlock}
use Rattle.lt_requests.specs.Started.{HasFailed, IsSearched, HasFault, IsStarted, deed_for}
use Rattle.lt_history.specs.declared.outcome.Outcome.{Outcome}
use Rattle.lt_history.specs.declared.outcome.Outcome.TheVariants.{Deadlock as EndedByDeadlock, OutOfLocks as StoppedAt}
use Rattle.lt_runner.specs.TurnView.{Turn, Seat}
use Rattle.lt_runner.specs.Turn.{ending, granted_to, rest_of}
use Rattle.lt_runner.specs.Attempt.{bar_of}
use Rattle.lt_runner.specs.Seats.{idle, granted_at}
use Rattle.lt_runner.specs.PlaysOn.{IsFit}
use Rattle.lt_runner.specs.StartsOn.{IsAmongWishes}
use Rattle.lt_runner.specs.StartsCost.{StartsCost}
use Rattle.lt_runner.specs.Work.{lines_work, owed, work, some_left, steps}
use Rattle.lt_runner.proofs.AnswerLaws.{joined_is}
use Rattle.lt_runner.proofs.StartedLaws.{few_questions}
use Rattle.lt_runner.proofs.LockMoveLaws.{HasLock, has_lock}
use Rattle.lt_runner.proofs.StartsOnLaws.{made_is, granted_is}
use Rattle.lt_runner.proofs.WorkLaws.{IsPaid, paid_past, paid_ended, owed_granted, open_of, open_work}

-- What the calls made.

asked_mine : (setting : Setting) (bar txn : ℕ) (old new : PassView) (wish : Wish) (ask : Receipt) → IsSound setting old →
    (answers : AskAnswers setting bar old new txn (deed_for wish) (Ok ask)) →
    length new.mine ≤ length old.mine + setting.plan.trees + 1
asked_mine setting bar txn old new wish ask sound answers =
    let joins = answers.joins in
    let all = joined_is setting bar old answers.joined txn 0 joins answers.chain sound in
    omega (
      arith,
      ap length answers.answer.happens.mine,
      length-append answers.joined.mine (ask ∷ []),
      ap length all.mine,
      length-append old.mine joins,
      answers.most,
    )

held_mine : (setting : Setting) (bar : ℕ) (old new : PassView) (seat : Seat) (wish : Wish) (wishes : List Wish) (owners : List ℕ)
    (walk : Option (List Edge)) → IsSound setting old → IsAmongWishes seat wish wishes →
    IsSearched setting bar wish wishes old new owners walk → length new.mine ≤ length old.mine + (setting.plan.trees + 1 + length wishes)
held_mine setting bar old new seat wish wishes owners walk sound among was =
    let answers = was.held.answers in
    let asked = asked_mine setting bar wish.txn old was.asked wish was.ask sound answers in
    let found = was.searched.receipts in
    let made = made_is setting was.asked new wish.txn found was.searched.made answers.goes.sound in
    let few = few_questions wish.txn wishes owners found among.ascend was.searched.is_search in
    omega (arith, asked, ap length made.mine, length-append was.asked.mine found, few)

never_stopped : (setting : Setting) (txn : ℕ) (left : List Wish) (last new : PassView) (place rows : ℕ) →
    HasFailed setting txn left last new (OutOfLocks place rows) → ⊥
never_stopped setting txn left last new place rows (inl short) = let k = short.1 in cc
never_stopped setting txn left last new place rows (inr by) = by.3.answer.cause

stopped_mine : (setting : Setting) (bar : ℕ) (old new : PassView) (wish : Wish) (wishes : List Wish) (place rows : ℕ) → IsSound setting old →
    HasFault setting bar wish wishes old new (OutOfLocks place rows) →
    length new.mine ≤ length old.mine + setting.plan.trees
stopped_mine setting bar old new wish wishes place rows sound (inl short) = absurd (let k = short.1 in cc)
stopped_mine setting bar old new wish wishes place rows sound (inr (inl answers)) =
    let all = joined_is setting bar old answers.joined wish.txn 0 answers.joins answers.chain sound in
    omega (arith, ap length answers.answer.watches.mine, ap length all.mine, length-append old.mine answers.joins, answers.most)
stopped_mine setting bar old new wish wishes place rows sound (inr (inr cut)) =
    absurd (never_stopped setting wish.txn cut.cut.left cut.cut.last new place rows cut.cut.failed)

-- What is left.

waits_not : {P : Type 0} (turn : Turn) → turn.waits ≡ true → turn.waits ≡ false → P
waits_not turn held quiet = absurd (let k : true ≡ false = sym held ∙ quiet in cc)

granted_paid : (setting : Setting) (seat : Seat) (wish : Wish) (buffered : Bool) → IsFit setting seat → seat.turn.waits ≡ true →
    HasLock seat.turn.txn wish seat.turn.lines →
    IsPaid setting seat (idle (granted_at seat.turn buffered)) 0
granted_paid setting seat wish buffered fit held at =
    subst (λ (t : Turn). IsPaid setting seat (idle t) 0) (sym (granted_is seat.turn wish buffered at))
    (paid_past setting seat (granted_to wish.tree wish.range buffered seat.turn) at.line at.rest 0
    (open_of seat.turn at.line at.rest fit.over at.next) at.next (ap rest_of at.next) refl refl
    (owed_granted wish.tree wish.range buffered seat.turn) (waits_not seat.turn held) (λ e. refl))

ended_paid : (setting : Setting) (seat : Seat) (wish : Wish) (outcome : Outcome) → IsFit setting seat → 2 ≤ length seat.turn.lines →
    HasLock seat.turn.txn wish seat.turn.lines → IsPaid setting seat (idle (ending outcome seat.turn)) 0
ended_paid setting seat wish outcome fit more at =
    paid_ended setting seat outcome at.line at.rest 0 (open_of seat.turn at.line at.rest fit.over at.next) at.next
    (λ e. omega (arith, more, ap length at.next)) (omega arith)

waiting_work : (setting : Setting) (seat : Seat) (listed : Bool) → seat.turn.waits ≡ true → is_some seat.turn.outcome ≡ false →
    work setting (record { turn = record seat.turn { waits = true }; busy = false; listed = listed }) ≡ work setting seat
waiting_work setting seat listed held goes =
    open_work setting (record { turn = record seat.turn { waits = true }; busy = false; listed = listed }) goes
    ∙ ap (λ (w : Bool). lines_work setting.plan.trees seat.turn.lines + owed seat.turn.recorded +
    (if w then 0 else setting.plan.trees + 1 + (if seat.busy then 0 else setting.plan.trees))) (sym held)
    ∙ sym (open_work setting seat goes)

waiting_steps : (seat : Seat) (listed : Bool) → seat.turn.waits ≡ true →
    steps (record { turn = record seat.turn { waits = true }; busy = false; listed = listed }) ≡ steps seat
waiting_steps seat listed held =
    ap (λ (w : Bool). if is_some seat.turn.outcome then some_left seat.turn.releases else 2 * length seat.turn.lines - (if w then 1 else 0))
    (sym held)

-- The answer.

pub starts_cost : (setting : Setting) (bar : ℕ) (seat : Seat) (wish : Wish) (others wishes before : List Wish) (old new : PassView) (left : List Wish)
    (result : Result Started Fault) →
    bar ≡ bar_of setting seat.turn → IsSound setting old → IsAmongWishes seat wish wishes → IsFit setting seat → seat.turn.waits ≡ true →
    2 ≤ length seat.turn.lines →
    IsStarted setting bar wish others wishes before old new left result → StartsCost setting (length wishes) old new seat result
starts_cost setting bar seat wish others wishes before old new left (Ok (StartedGranted place buffered)) same sound among fit held more is =
    let paid = granted_paid setting seat wish buffered fit held (has_lock seat.turn.txn wish seat.turn.lines among.next) in
    (omega (arith, paid.events, asked_mine setting bar wish.txn old new wish is.0.ask sound is.0.answers), paid.steps)
starts_cost setting bar seat wish others wishes before old new left (Ok (Waits owners)) same sound among fit held more is =
    let at = has_lock seat.turn.txn wish seat.turn.lines among.next in (
      omega (
        arith,
        held_mine setting bar old new seat wish wishes owners None sound among is.0,
        waiting_work setting seat true held
            (open_of seat.turn at.line at.rest fit.over at.next),
      ),
      waiting_steps seat true held,
    )
starts_cost setting bar seat wish others wishes before old new left (Ok (Deadlock walk)) same sound among fit held more is =
    let paid = ended_paid setting seat wish (EndedByDeadlock walk) fit more (has_lock seat.turn.txn wish seat.turn.lines among.next) in
    (omega (arith, paid.events, held_mine setting bar old new seat wish wishes is.0.0 (Some walk) sound among is.0.1), paid.steps)
starts_cost setting bar seat wish others wishes before old new left (Err OutOfMemory) same sound among fit held more is = tt
starts_cost setting bar seat wish others wishes before old new left (Err (Busy row holder)) same sound among fit held more is = tt
starts_cost setting bar seat wish others wishes before old new left (Err (HistoryFull place)) same sound among fit held more is = tt
starts_cost setting bar seat wish others wishes before old new left (Err (OutOfLocks place rows)) same sound among fit held more is =
    let paid = ended_paid setting seat wish (StoppedAt place rows) fit more (has_lock seat.turn.txn wish seat.turn.lines among.next) in
    (omega (arith, paid.events, stopped_mine setting bar old new wish wishes place rows sound is.0), paid.steps)
