-- What one call of a play spends.
use Rattle.std.proofs.Common.{◌≡◌, ℕ, ◌+◌, ◌-◌, ◌*◌, ◌<◌, ◌≤◌, List, [], ◌∷◌, ◌++◌, Bool, true, false, if◌then◌else◌, IsTrue, is_some, None, Ok, Err}
use Rattle.std.proofs.Common.{length, refl, sym, ap, subst, ◌∙◌, arith, append_assoc, append-nil, length-append}
use Rattle.lt_ranges.specs.Interval.{Interval}
use Rattle.lt_seq.specs.declared.event.Deed.{Deed}
use Rattle.lt_seq.specs.declared.event.Deed.TheVariants.{Ask, Free}
use Rattle.lt_seq.specs.declared.event.Reply.TheVariants.{Granted}
use Rattle.lt_seq.specs.declared.event.Receipt.{Receipt}
use Rattle.lt_seq.specs.declared.fault.Fault.{Fault}
use Rattle.lt_seq.specs.declared.fault.Fault.TheVariants.{OutOfMemory, Busy, HistoryFull, OutOfLocks}
use Rattle.lt_seq.specs.Table.{Setting}
use Rattle.lt_seq.specs.Yard.{PassView, IsSound, Answers, AskAnswers}
use Rattle.lt_seq.specs.Alone.{IsDoneOrOutOfLocks}
use Rattle.lt_seq.proofs.YardLaws.{alone_ask_answers, alone_ask_done}
use Rattle.lt_trace.specs.declared.line.Line.{Line}
use Rattle.lt_history.specs.declared.outcome.Outcome.{Outcome}
use Rattle.lt_history.specs.declared.outcome.Outcome.TheVariants.{OutOfLocks as StoppedAt}
use Rattle.lt_runner.specs.declared.release.Release.{Release}
use Rattle.lt_runner.specs.declared.turn.Moved.{Moved}
use Rattle.lt_runner.specs.declared.turn.Moved.TheVariants.{Played, Held}
use Rattle.lt_runner.specs.TurnView.{Turn, Seat}
use Rattle.lt_runner.specs.Turn.{reply_in, asked_at, ending, rest_of, rest_of_release}
use Rattle.lt_runner.specs.Attempt.{bar_of}
use Rattle.lt_runner.specs.Seats.{idle}
use Rattle.lt_runner.specs.PlaysOn.{IsFit, IsNext, IsNextAsk, UnlessShort, moved_to}
use Rattle.lt_runner.specs.Work.{owed, steps, Spends, StepsOn}
use Rattle.lt_runner.proofs.AnswerLaws.{joined_is}
use Rattle.lt_runner.proofs.WorkLaws.{IsPaid, paid_past, paid_ended, paid_asked, paid_refused}
use Rattle.lt_runner.proofs.WorkLaws.{paid_kept, paid_freed, steps_freed, open_of, spends_paid}

-- what was spent, and that it came on
pub record SpendsOn (setting : Setting) (old new : PassView) (was is : Seat) : Type 0 where
  pub spends : Spends setting old new was is
  pub less : steps is < steps was

on_paid : (setting : Setting) (old new : PassView) (was : Seat) (turn : Turn) (made : List Receipt) → new.mine ≡ old.mine ++ made →
    IsPaid setting was (idle turn) (length made) →
    SpendsOn setting old new was (idle turn)
on_paid setting old new was turn made mine paid = record {
  spends = spends_paid setting old new was
      (idle turn) made mine paid refl;
  less = paid.steps;
}

pub spends_asked : (setting : Setting) (old new : PassView) (seat : Seat) (tree : ℕ) (range : Interval) (line : Line) (rest : List Line)
    (ask : Receipt) → IsNextAsk seat.turn tree range line rest →
    IsFit setting seat → IsSound setting old → AskAnswers setting (bar_of setting seat.turn) old new seat.turn.txn (Ask tree range Granted) (Ok ask) →
    SpendsOn setting old new seat (idle (asked_at seat.turn.lines (reply_in ask.event.deed) None seat.turn))
spends_asked setting old new seat tree range line rest ask next fit sound answers =
    let joins = answers.joins in
    let all = joined_is setting (bar_of setting seat.turn) old answers.joined seat.turn.txn 0 joins answers.chain sound in
    on_paid setting old new seat (asked_at seat.turn.lines (reply_in ask.event.deed) None seat.turn) (joins ++ ask ∷ [])
    (answers.answer.happens.mine ∙ ap (λ (rs : List Receipt). rs ++ ask ∷ []) all.mine ∙ append_assoc old.mine joins (ask ∷ []))
    (paid_asked setting seat tree range line rest (reply_in ask.event.deed) (length (joins ++ ask ∷ [])) next
    (open_of seat.turn line rest fit.over next.lines)
    (omega (arith, length-append joins (ask ∷ []), answers.most)))

quiet_not : {P : Type 0} (turn : Turn) → turn.waits ≡ false → turn.waits ≡ true → P
quiet_not turn quiet waits = absurd (let k : false ≡ true = sym quiet ∙ waits in cc)

pub spends_stopped : (setting : Setting) (old new : PassView) (seat : Seat) (tree : ℕ) (range : Interval) (line : Line) (rest : List Line)
    (place rows : ℕ) → IsNextAsk seat.turn tree range line rest →
    IsFit setting seat → IsSound setting old → AskAnswers setting (bar_of setting seat.turn) old new seat.turn.txn (Ask tree range Granted)
    (Err (OutOfLocks place rows)) →
    SpendsOn setting old new seat (idle (ending (StoppedAt place rows) seat.turn))
spends_stopped setting old new seat tree range line rest place rows next fit sound answers =
    let joins = answers.joins in
    let all = joined_is setting (bar_of setting seat.turn) old answers.joined seat.turn.txn 0 joins answers.chain sound in
    on_paid setting old new seat (ending (StoppedAt place rows) seat.turn) joins (answers.answer.watches.mine ∙ all.mine)
    (paid_ended setting seat (StoppedAt place rows) line rest (length joins) (open_of seat.turn line rest fit.over next.lines) next.lines
    (quiet_not seat.turn next.goes) (omega (arith, answers.most)))

refused_steps : (seat : Seat) → steps (record seat { busy = true }) ≤ steps seat
refused_steps seat = omega arith

-- one that was refused before is not refused again
pub spends_refused : (setting : Setting) (old new : PassView) (seat : Seat) (tree : ℕ) (range : Interval) (line : Line) (rest : List Line)
    (fault : Fault) → IsNextAsk seat.turn tree range line rest →
    IsFit setting seat → IsNext setting old seat → (IsDoneOrOutOfLocks (Err fault) → ⊥) → IsSound setting old →
    AskAnswers setting (bar_of setting seat.turn) old new seat.turn.txn (Ask tree range Granted) (Err fault) →
    Spends setting old new seat (record seat { busy = true })
spends_refused setting old new seat tree range line rest fault ask fit next never sound answers = by_busy seat.busy refl
  where
    by_busy : (b : Bool) → seat.busy ≡ b → Spends setting old new seat (record seat { busy = true })
    by_busy true e =
        absurd (never (alone_ask_done setting (bar_of setting seat.turn) old new seat.turn.txn (Ask tree range Granted) (Err fault)
        (alone_ask_answers setting (bar_of setting seat.turn) old new seat.turn.txn (Ask tree range Granted) (Err fault) answers (next.alone e))
        (next.places e)))
    by_busy false e =
        let joins = answers.joins in
        let all = joined_is setting (bar_of setting seat.turn) old answers.joined seat.turn.txn 0 joins answers.chain sound in
        let mine : length new.mine ≡ length old.mine + length joins = ap length (answers.answer.watches.mine ∙ all.mine)
        ∙ length-append old.mine joins in
        let paid = paid_refused setting seat (length joins) (open_of seat.turn line rest fit.over ask.lines) ask.goes e answers.most in
        record { events = omega (arith, mine, paid); steps = refused_steps seat; listed = λ l. l }

-- a call without an event
spends_kept : (setting : Setting) (old new : PassView) (seat : Seat) → new.mine ≡ old.mine → Spends setting old new seat (record seat { busy = true })
spends_kept setting old new seat mine = record {
  events = omega (
    arith,
    ap length mine,
    paid_kept setting seat,
  );
  steps = refused_steps seat;
  listed = λ l. l;
}

pub kept_spends : (setting : Setting) (old new : PassView) (seat : Seat) (txn : ℕ) (deed : Deed) (fault : Fault) →
    Answers setting old new txn deed (Err fault) →
    UnlessShort (Err fault) (Spends setting old new seat (record seat { busy = true }))
kept_spends setting old new seat txn deed OutOfMemory answers = tt
kept_spends setting old new seat txn deed (Busy row holder) answers = spends_kept setting old new seat answers.answer.watches.mine
kept_spends setting old new seat txn deed (HistoryFull place) answers = spends_kept setting old new seat answers.answer.watches.mine
kept_spends setting old new seat txn deed (OutOfLocks place rows) answers = absurd answers.answer.cause

-- a line without an ask, with so many receipts
pub spends_past : (setting : Setting) (old new : PassView) (seat : Seat) (turn : Turn) (line : Line) (rest : List Line) (made : List Receipt) →
    IsFit setting seat → seat.turn.lines ≡ line ∷ rest →
    seat.turn.waits ≡ false → turn.lines ≡ rest_of seat.turn.lines → turn.outcome ≡ seat.turn.outcome → turn.waits ≡ false →
    turn.recorded ≡ seat.turn.recorded →
    new.mine ≡ old.mine ++ made → length made ≤ 1 → SpendsOn setting old new seat (idle turn)
spends_past setting old new seat turn line rest made fit lines goes left outcome quiet recorded mine few =
    on_paid setting old new seat turn made mine
    (paid_past setting seat turn line rest (length made) (open_of seat.turn line rest fit.over lines) lines (left ∙ ap rest_of lines) outcome quiet
    (omega (arith, ap owed recorded)) (λ e. omega (arith, few)) (quiet_not seat.turn goes))

-- the end of its lines
pub spends_ended : (setting : Setting) (pass : PassView) (seat : Seat) (outcome : Outcome) (line : Line) (rest : List Line) → IsFit setting seat →
    seat.turn.lines ≡ line ∷ rest → seat.turn.waits ≡ false →
    SpendsOn setting pass pass seat (idle (ending outcome seat.turn))
spends_ended setting pass seat outcome line rest fit lines goes =
    on_paid setting pass pass seat (ending outcome seat.turn) [] (sym (append-nil pass.mine))
    (paid_ended setting seat outcome line rest 0 (open_of seat.turn line rest fit.over lines) lines (quiet_not seat.turn goes) (omega arith))

-- a free
pub spends_freed : (setting : Setting) (old new : PassView) (seat : Seat) (r : Release) (rs : List Release) (free : Receipt) →
    is_some seat.turn.outcome ≡ true → seat.turn.releases ≡ r ∷ rs →
    Answers setting old new seat.turn.txn (Free r.tree r.range r.first 0) (Ok free) →
    Spends setting old new seat (record seat { turn = record seat.turn { releases = rest_of_release seat.turn.releases }; busy = false })
spends_freed setting old new seat r rs free over releases answers =
    let mine : length new.mine ≡ length old.mine + 1 = ap length answers.answer.mine ∙ length-append old.mine (free ∷ []) in
    record { events = omega (arith, mine, paid_freed setting seat r rs over releases); steps = steps_freed seat r rs over releases; listed = λ l. l }

pub spends_nothing : (setting : Setting) (pass : PassView) (seat : Seat) → Spends setting pass pass seat seat
spends_nothing setting pass seat = record { events = omega arith; steps = omega arith; listed = λ l. l }

pub spends_then : (setting : Setting) (a b c : PassView) (was between is : Seat) → Spends setting a b was between → Spends setting b c between is →
    Spends setting a c was is
spends_then setting a b c was between is one two = record {
  events = omega (arith, one.events, two.events);
  steps = omega
      (arith, one.steps, two.steps);
  listed = λ l. two.listed (one.listed l);
}

-- By the answer.

pub steps_moved : (was is : Seat) (moved : Moved) → moved ≡ moved_to is → steps is < steps was → StepsOn was is (Ok moved)
steps_moved was is moved same less = subst (λ (m : Moved). StepsOn was is (Ok m)) (sym same) (by_waits is.turn.waits)
  where
    by_waits : (b : Bool) → StepsOn was is (Ok (if b then Held else Played))
    by_waits true = less
    by_waits false = less

pub steps_over : (was is : Seat) → IsTrue (is_some was.turn.outcome) → is.turn ≡ record was.turn { releases = [] } → steps is ≡ 0
steps_over was is over same =
    ap (λ (t : Turn). steps (idle t)) same ∙ ap (λ (b : Bool). if b then 0 else 2 * length was.turn.lines - (if was.turn.waits then 1 else 0)) over
