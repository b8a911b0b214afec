-- What a play by a pass that has all the rights is of the plain scheduler.
use Rattle.std.proofs.Common.{◌≡◌, ℕ, ◌≤◌, List, [], ◌∷◌, ◌++◌, false, Some, None, Ok, Err, length, refl, sym, ap, subst, ◌∙◌, arith, append_assoc, append-nil, length-append}
use Rattle.std.proofs.lemmas.List.{map-append}
use Rattle.lt_ranges.specs.Interval.{Interval}
use Rattle.lt_seq.specs.declared.event.Deed.{Deed}
use Rattle.lt_seq.specs.declared.event.Deed.TheVariants.{Ask, Free, Join}
use Rattle.lt_seq.specs.declared.event.Reply.TheVariants.{Granted}
use Rattle.lt_seq.specs.declared.event.Event.{Event}
use Rattle.lt_seq.specs.declared.event.Receipt.{Receipt}
use Rattle.lt_seq.specs.declared.fault.Fault.{Fault}
use Rattle.lt_seq.specs.declared.fault.Fault.TheVariants.{OutOfMemory, Busy, HistoryFull, OutOfLocks}
use Rattle.lt_seq.specs.Table.{Setting}
use Rattle.lt_seq.specs.History.{IsFront}
use Rattle.lt_seq.specs.Questions.{receipt_after, events_of}
use Rattle.lt_seq.specs.Yard.{PassView, HasAll, Goes, IsSound, Answers, AskAnswers, AskCaused, Caused, FaultAt, Rose}
use Rattle.lt_seq.specs.Alone.{IsDone, IsDoneOrOutOfLocks}
use Rattle.lt_seq.proofs.YardLaws.{alone_answers, alone_done, alone_ask_answers, alone_ask_done}
use Rattle.lt_trace.specs.declared.line.Line.{Line}
use Rattle.lt_trace.specs.declared.line.LineDeed.{LineDeed}
use Rattle.lt_trace.specs.declared.line.LineDeed.TheVariants.{Try, Lock, End, Abort, Escalate, Big}
use Rattle.lt_runner.specs.declared.release.Release.{Release}
use Rattle.lt_history.specs.declared.outcome.Outcome.TheVariants.{OutOfLocks as StoppedAt}
use Rattle.lt_runner.specs.TurnView.{Turn, Seat}
use Rattle.lt_runner.specs.Turn.{Move, asks, stops, escalates, receipts_in, turn_after, reply_in, asked_at, ending, past, rest_of_release}
use Rattle.lt_runner.specs.Attempt.{bar_of}
use Rattle.lt_runner.specs.Plays.{line_question}
use Rattle.lt_runner.specs.Serial.{attempt}
use Rattle.lt_runner.specs.Seats.{idle}
use Rattle.lt_runner.specs.PlaysOn.{IsNextAsk}
use Rattle.lt_runner.specs.PlaysAlone.{HasCause, IsCaused, play_move, with_frees, IsMoveMade, IsPlayedAtOnce, IsAnsweredAtOnce, IsFreedAtOnce, MayPlayAtOnce}
use Rattle.lt_runner.proofs.AnswerLaws.{joined_is}
use Rattle.lt_runner.proofs.AloneLaws.{receipt_is, attempt_asked, attempt_stopped}

-- Causes.

front_then : (a b c : List Event) → IsFront a b → IsFront b c → IsFront a c
front_then a b c (more, is) (rest, then) = (more ++ rest, then ∙ ap (λ (es : List Event). es ++ rest) is ∙ append_assoc a more rest)

itself : (es : List Event) → IsFront es es
itself es = ([], sym (append-nil es))

-- from a later view on
rose_since : (a b c : ℕ) → a ≤ b → Rose b c → Rose a c
rose_since a b c le rose = omega (arith, le, rose)

since : (setting : Setting) (old mid new : PassView) (fault : Fault) (seen : List Event) → Goes setting old mid → mid.rights ≡ old.rights → Caused setting mid new fault seen → Caused setting old new fault seen
since setting old mid new OutOfMemory seen goes rights cause = tt
since setting old mid new (Busy row holder) seen goes rights cause = record {
  room = cause.room;
  rose = rose_since old.met mid.met new.met goes.met cause.rose;
  row_is = cause.row_is;
  holder_is = cause.holder_is;
  others = λ same. cause.others (rights ∙ same);
}
since setting old mid new (HistoryFull place) seen goes rights cause = cause
since setting old mid new (OutOfLocks place rows) seen goes rights cause = cause

pub caused_since : (setting : Setting) (old mid new : PassView) (fault : Fault) → Goes setting old mid → mid.rights ≡ old.rights → HasCause setting mid new fault → HasCause setting old new fault
caused_since setting old mid new fault goes rights has = record {
  seen = has.seen;
  looked = front_then old.front mid.front has.seen goes.front has.looked;
  waited = has.waited;
  cause = since setting old mid new fault has.seen goes rights has.cause;
}

pub caused_by : (setting : Setting) (old new : PassView) (txn : ℕ) (deed : Deed) (fault : Fault) → Answers setting old new txn deed (Err fault) → HasCause setting old new fault
caused_by setting old new txn deed fault answers =
    let at = answers.answer in record { seen = at.seen; looked = at.looked; waited = at.waited; cause = at.cause }

-- what a fault is of a call other than an ask
pub is_caused_by : (setting : Setting) (old new : PassView) (txn : ℕ) (deed : Deed) (fault : Fault) → Answers setting old new txn deed (Err fault) → IsCaused setting old new (Err fault)
is_caused_by setting old new txn deed OutOfMemory answers = tt
is_caused_by setting old new txn deed (Busy row holder) answers = caused_by setting old new txn deed (Busy row holder) answers
is_caused_by setting old new txn deed (HistoryFull place) answers = caused_by setting old new txn deed (HistoryFull place) answers
is_caused_by setting old new txn deed (OutOfLocks place rows) answers = answers.answer.cause

-- and from a later view on
pub is_caused_since : (setting : Setting) (old mid new : PassView) (fault : Fault) → Goes setting old mid → mid.rights ≡ old.rights → IsCaused setting mid new (Err fault) → IsCaused setting old new (Err fault)
is_caused_since setting old mid new OutOfMemory goes rights has = tt
is_caused_since setting old mid new (Busy row holder) goes rights has = caused_since setting old mid new (Busy row holder) goes rights has
is_caused_since setting old mid new (HistoryFull place) goes rights has = caused_since setting old mid new (HistoryFull place) goes rights has
is_caused_since setting old mid new (OutOfLocks place rows) goes rights has = has

-- what a fault is of an ask, which is not out of locks
behind_joins : (setting : Setting) (bar : ℕ) (joins : List Receipt) (joined new : PassView) (fault : Fault) → FaultAt setting joined new (AskCaused setting bar joins joined new fault) →
    ((place rows : ℕ) → fault ≡ OutOfLocks place rows → ⊥) → IsCaused setting joined new (Err fault)
behind_joins setting bar joins joined new OutOfMemory at never = tt
behind_joins setting bar joins joined new (Busy row holder) at never = record { seen = at.seen; looked = at.looked; waited = at.waited; cause = at.cause.busy }
behind_joins setting bar joins joined new (HistoryFull place) at never = record { seen = at.seen; looked = at.looked; waited = at.waited; cause = at.cause }
behind_joins setting bar joins joined new (OutOfLocks place rows) at never = never place rows refl

pub is_caused_by_ask : (setting : Setting) (old new : PassView) (turn : Turn) (deed : Deed) (fault : Fault) → IsSound setting old →
    AskAnswers setting (bar_of setting turn) old new turn.txn deed (Err fault) → ((place rows : ℕ) → fault ≡ OutOfLocks place rows → ⊥) → IsCaused setting old new (Err fault)
is_caused_by_ask setting old new turn deed fault sound answers never =
    let all = joined_is setting (bar_of setting turn) old answers.joined turn.txn 0 answers.joins answers.chain sound in
    is_caused_since setting old answers.joined new fault all.goes all.rights
    (behind_joins setting (bar_of setting turn) answers.joins answers.joined new fault answers.answer never)

-- Asks.

ask_events : (events : List Event) (joins : List Receipt) (ask : Receipt) → (events ++ events_of joins) ++ ask.event ∷ [] ≡ events ++ events_of (joins ++ ask ∷ [])
ask_events events joins ask =
    append_assoc events (events_of joins) (ask.event ∷ []) ∙ ap (λ (es : List Event). events ++ es) (sym (map-append (λ (r : Receipt). r.event) joins (ask ∷ [])))

-- an ask line's move is an attempt
asks_by : (setting : Setting) (events : List Event) (turn : Turn) (deed : LineDeed) (tree : ℕ) (range : Interval) → line_question deed ≡ Some (Ask tree range Granted) →
    play_move setting events turn deed ≡ attempt setting [] turn false (Ask tree range Granted) events
asks_by setting events turn (Try t r) tree range is =
    let same : Ask t r Granted ≡ Ask tree range Granted = cc in ap (λ (d : Deed). attempt setting [] turn false d events) same
asks_by setting events turn (Lock t r) tree range is =
    let same : Ask t r Granted ≡ Ask tree range Granted = cc in ap (λ (d : Deed). attempt setting [] turn false d events) same
asks_by setting events turn End tree range is = absurd cc
asks_by setting events turn Abort tree range is = absurd cc
asks_by setting events turn (Escalate t) tree range is = absurd (let k : Join t 0 0 ≡ Ask tree range Granted = cc in cc)
asks_by setting events turn Big tree range is = absurd cc

by_line : (setting : Setting) (old new : List Event) (was is : Seat) (line : Line) (rest : List Line) → was.turn.lines ≡ line ∷ rest →
    IsMoveMade setting old new was is (play_move setting old was.turn line.deed) → IsPlayedAtOnce setting was.turn.lines old new was is
by_line setting old new was is line rest same made = subst (λ (ls : List Line). IsPlayedAtOnce setting ls old new was is) (sym same) made

pub asked_at_once : (setting : Setting) (old new : PassView) (seat : Seat) (tree : ℕ) (range : Interval) (line : Line) (rest : List Line) (ask : Receipt) → IsNextAsk seat.turn tree range line rest →
    AskAnswers setting (bar_of setting seat.turn) old new seat.turn.txn (Ask tree range Granted) (Ok ask) → MayPlayAtOnce setting old seat.turn →
    IsPlayedAtOnce setting seat.turn.lines old.front new.front seat (idle (asked_at seat.turn.lines (reply_in ask.event.deed) None seat.turn))
asked_at_once setting old new seat tree range line rest ask next answers may =
    let turn = seat.turn in
    let of = attempt_asked setting old new (Ask tree range Granted) turn ask may.number may.all answers in
    let move_is : play_move setting old.front turn line.deed ≡ asks of.joins ask = asks_by setting old.front turn line.deed tree range next.asks_it ∙ of.move [] false in
    by_line setting old.front new.front seat _ line rest next.lines
    (subst (λ (m : Move). IsMoveMade setting old.front new.front seat (idle (asked_at turn.lines (reply_in ask.event.deed) None turn)) m) (sym move_is)
    (record { front = of.front ∙ ask_events old.front of.joins ask; seat = refl }))

pub stopped_at_once : (setting : Setting) (old new : PassView) (seat : Seat) (tree : ℕ) (range : Interval) (line : Line) (rest : List Line) (place rows : ℕ) → IsNextAsk seat.turn tree range line rest → 1 ≤ setting.plan.trees →
    AskAnswers setting (bar_of setting seat.turn) old new seat.turn.txn (Ask tree range Granted) (Err (OutOfLocks place rows)) → MayPlayAtOnce setting old seat.turn →
    IsPlayedAtOnce setting seat.turn.lines old.front new.front seat (idle (ending (StoppedAt place rows) seat.turn))
stopped_at_once setting old new seat tree range line rest place rows next trees answers may =
    let turn = seat.turn in
    let of = attempt_stopped setting old new (Ask tree range Granted) turn place rows may.number may.all trees answers in
    let move_is : play_move setting old.front turn line.deed ≡ stops of.joins place rows = asks_by setting old.front turn line.deed tree range next.asks_it ∙ of.move [] false in
    by_line setting old.front new.front seat _ line rest next.lines
    (subst (λ (m : Move). IsMoveMade setting old.front new.front seat (idle (ending (StoppedAt place rows) turn)) m) (sym move_is) (record { front = of.front; seat = refl }))

-- with all the rights, and places, an ask is not refused
not_answered : (setting : Setting) (old new : List Event) (was is : Seat) (fault : Fault) → IsDoneOrOutOfLocks (Err fault) → ((place rows : ℕ) → fault ≡ OutOfLocks place rows → ⊥) →
    IsAnsweredAtOnce setting old new was is (Err fault)
not_answered setting old new was is OutOfMemory done never = tt
not_answered setting old new was is (Busy row holder) done never = done
not_answered setting old new was is (HistoryFull place) done never = done
not_answered setting old new was is (OutOfLocks place rows) done never = never place rows refl

pub ask_not_refused : (setting : Setting) (old new : PassView) (seat is : Seat) (deed : Deed) (fault : Fault) → MayPlayAtOnce setting old seat.turn →
    AskAnswers setting (bar_of setting seat.turn) old new seat.turn.txn deed (Err fault) → ((place rows : ℕ) → fault ≡ OutOfLocks place rows → ⊥) →
    IsAnsweredAtOnce setting old.front new.front seat is (Err fault)
ask_not_refused setting old new seat is deed fault may answers never =
    not_answered setting old.front new.front seat is fault
    (alone_ask_done setting (bar_of setting seat.turn) old new seat.turn.txn deed (Err fault)
    (alone_ask_answers setting (bar_of setting seat.turn) old new seat.turn.txn deed (Err fault) answers may.all) (omega (arith, may.places))) never

-- nor is any other call
pub call_not_refused : (setting : Setting) (old new : PassView) (seat is : Seat) (txn : ℕ) (deed : Deed) (fault : Fault) → MayPlayAtOnce setting old seat.turn → Answers setting old new txn deed (Err fault) →
    IsAnsweredAtOnce setting old.front new.front seat is (Err fault)
call_not_refused setting old new seat is txn deed fault may answers =
    by_fault fault (alone_done setting old new txn deed (Err fault) (alone_answers setting old new txn deed (Err fault) answers may.all) (omega (arith, may.places)))
  where
    by_fault : (f : Fault) → IsDone (Err f) → IsAnsweredAtOnce setting old.front new.front seat is (Err f)
    by_fault OutOfMemory done = tt
    by_fault (Busy row holder) done = done
    by_fault (HistoryFull place) done = done
    by_fault (OutOfLocks place rows) done = done

-- Escalations, and lines without a call.

made_events : (setting : Setting) (old new : PassView) (txn : ℕ) (deed : Deed) (r : Receipt) → old.number ≡ 0 → HasAll setting old → Answers setting old new txn deed (Ok r) →
    (r ≡ receipt_after setting old.front 0 txn deed) × (new.front ≡ old.front ++ r.event ∷ [])
made_events setting old new txn deed r number all answers =
    let made = (alone_answers setting old new txn deed (Ok r) answers all).answer in (receipt_is setting old new txn deed r number made.more, made.more.front)

pub escalated_at_once : (setting : Setting) (old new : PassView) (seat : Seat) (tree : ℕ) (line : Line) (rest : List Line) (join : Receipt) → seat.turn.lines ≡ line ∷ rest → line.deed ≡ Escalate tree →
    Answers setting old new seat.turn.txn (Join tree 0 0) (Ok join) → MayPlayAtOnce setting old seat.turn →
    IsPlayedAtOnce setting seat.turn.lines old.front new.front seat (idle (past seat.turn))
escalated_at_once setting old new seat tree line rest join lines is answers may =
    let made = made_events setting old new seat.turn.txn (Join tree 0 0) join may.number may.all answers in
    let move_is : play_move setting old.front seat.turn line.deed ≡ escalates join =
    ap (play_move setting old.front seat.turn) is ∙ ap escalates (sym made.0) in
    by_line setting old.front new.front seat (idle (past seat.turn)) line rest lines
    (subst (λ (m : Move). IsMoveMade setting old.front new.front seat (idle (past seat.turn)) m) (sym move_is) (record { front = made.1; seat = refl }))

-- a line that makes no event
pub silent_at_once : (setting : Setting) (events : List Event) (was is : Seat) (line : Line) (rest : List Line) (move : Move) → was.turn.lines ≡ line ∷ rest → play_move setting events was.turn line.deed ≡ move →
    receipts_in move ≡ [] → is ≡ idle (turn_after was.turn move) → IsPlayedAtOnce setting was.turn.lines events events was is
silent_at_once setting events was is line rest move lines move_is none seat =
    by_line setting events events was is line rest lines (subst (λ (m : Move). IsMoveMade setting events events was is m) (sym move_is)
    (record { front = sym (append-nil events) ∙ ap (λ (rs : List Receipt). events ++ events_of rs) (sym none); seat = seat }))

-- Releases.

-- one free of it
pub freed_at_once : (setting : Setting) (old new : PassView) (seat : Seat) (r : Release) (free : Receipt) → Answers setting old new seat.turn.txn (Free r.tree r.range r.first 0) (Ok free) → old.number ≡ 0 → HasAll setting old →
    new.front ≡ old.front ++ (receipt_after setting old.front 0 seat.turn.txn (Free r.tree r.range r.first 0)).event ∷ []
freed_at_once setting old new seat r free answers number all =
    let made = made_events setting old new seat.turn.txn (Free r.tree r.range r.first 0) free number all answers in
    made.1 ∙ ap (λ (x : Receipt). old.front ++ x.event ∷ []) made.0

-- the rest of it is there
pub with_rest : (setting : Setting) (old new : PassView) (turn is : Turn) (r : Release) (rest : List Release) → turn.releases ≡ r ∷ rest → is.releases ≡ rest_of_release turn.releases → is.txn ≡ turn.txn →
    new.front ≡ old.front ++ (receipt_after setting old.front 0 turn.txn (Free r.tree r.range r.first 0)).event ∷ [] →
    with_frees setting is.txn is.releases new.front ≡ with_frees setting turn.txn turn.releases old.front
with_rest setting old new turn is r rest there left same front =
    ap (λ (n : ℕ). with_frees setting n is.releases new.front) same
    ∙ ap (λ (rs : List Release). with_frees setting turn.txn rs new.front) (left ∙ ap rest_of_release there)
    ∙ ap (with_frees setting turn.txn rest) front ∙ ap (λ (rs : List Release). with_frees setting turn.txn rs old.front) (sym there)

pub may_still : (setting : Setting) (old new : PassView) (turn is : Turn) (r : Release) (rest : List Release) → turn.releases ≡ r ∷ rest → is.releases ≡ rest_of_release turn.releases →
    Goes setting old new → new.rights ≡ old.rights → (e : Event) → new.front ≡ old.front ++ e ∷ [] → MayPlayAtOnce setting old turn → MayPlayAtOnce setting new is
may_still setting old new turn is r rest there left goes rights e front may = record {
  number = goes.number ∙ may.number;
  all = rights ∙ may.all;
  places =
      let one = ap length front ∙ length-append old.front (e ∷ []) in
      let shorter : length is.releases ≡ length rest = ap length (left ∙ ap rest_of_release there) in
      omega (arith, one, shorter, ap length there, may.places);
}

-- all of it was made
pub released_at_once : (setting : Setting) (old new : List Event) (was is : Seat) → was.turn.lines ≡ [] → is.turn ≡ record was.turn { releases = is.turn.releases } → is.turn.releases ≡ [] →
    with_frees setting is.turn.txn is.turn.releases new ≡ with_frees setting was.turn.txn was.turn.releases old → (was.busy ≡ false → is.busy ≡ false) → is.listed ≡ was.listed →
    IsPlayedAtOnce setting was.turn.lines old new was is
released_at_once setting old new was is none turn left events free listed =
    subst (λ (ls : List Line). IsPlayedAtOnce setting ls old new was is) (sym none) (record {
      front = ap (λ (rs : List Release). with_frees setting is.turn.txn rs new) (sym left) ∙ events;
      turn = turn ∙ ap (λ (rs : List Release). record was.turn { releases = rs }) left;
      free = free;
      listed = listed;
    })

pub freed_or_short : (setting : Setting) (old new : PassView) (turn : Turn) (r : Release) (fault : Fault) → Answers setting old new turn.txn (Free r.tree r.range r.first 0) (Err fault) → MayPlayAtOnce setting old turn →
    IsFreedAtOnce setting old new turn r (Err fault)
freed_or_short setting old new turn r fault answers may =
    by_fault fault (alone_done setting old new turn.txn (Free r.tree r.range r.first 0) (Err fault) (alone_answers setting old new turn.txn (Free r.tree r.range r.first 0) (Err fault) answers may.all) (omega (arith, may.places)))
  where
    by_fault : (f : Fault) → IsDone (Err f) → IsFreedAtOnce setting old new turn r (Err f)
    by_fault OutOfMemory done = tt
    by_fault (Busy row holder) done = done
    by_fault (HistoryFull place) done = done
    by_fault (OutOfLocks place rows) done = done

-- a release that stopped at a free
pub stopped_by_free : (setting : Setting) (old new mid : PassView) (seat is : Seat) (turn : Turn) (r : Release) (fault : Fault) → IsFreedAtOnce setting mid new turn r (Err fault) →
    IsAnsweredAtOnce setting old.front new.front seat is (Err fault)
stopped_by_free setting old new mid seat is turn r OutOfMemory stop = tt
stopped_by_free setting old new mid seat is turn r (Busy row holder) stop = stop
stopped_by_free setting old new mid seat is turn r (HistoryFull place) stop = stop
stopped_by_free setting old new mid seat is turn r (OutOfLocks place rows) stop = stop
