-- A pass plays a transaction on.
use Rattle.std.proofs.Common.{◌≡◌, ◌≢◌, ℕ, ◌+◌, ◌≤◌, ◌<◌, List, [], ◌∷◌, ◌++◌, Bool, true, false, if◌then◌else◌, None, Result, Ok, Err, IsTrue, length, refl, sym, ap, subst, ◌∙◌, arith, append_assoc, append-nil, length-append}
use Rattle.std.specs.List.{AllByRecursion}
use Rattle.std.proofs.lemmas.List.{map-append}
use Rattle.lt_ranges.specs.Interval.{Interval, whole}
use Rattle.lt_seq.specs.declared.event.Deed.{Deed}
use Rattle.lt_seq.specs.declared.event.Deed.TheVariants.{Ask, Free, Join}
use Rattle.lt_seq.specs.declared.event.Reply.TheVariants.{Granted}
use Rattle.lt_seq.specs.declared.event.Event.{Event}
use Rattle.lt_seq.specs.declared.event.Receipt.{Receipt}
use Rattle.lt_seq.specs.declared.fault.Fault.{Fault}
use Rattle.lt_seq.specs.declared.fault.Fault.TheVariants.{OutOfMemory, Busy, HistoryFull, OutOfLocks}
use Rattle.lt_seq.specs.Table.{Setting}
use Rattle.lt_seq.specs.History.{IsFront}
use Rattle.lt_seq.specs.Questions.{events_of}
use Rattle.lt_seq.specs.Yard.{PassView, HasAll, place_after, Goes, IsSound, Answers, AskAnswers, AreJoined, FaultAt, AskCaused, bar_for}
use Rattle.lt_seq.specs.Alone.{IsDoneOrOutOfLocks}
use Rattle.lt_seq.proofs.YardLaws.{goes_then, alone_ask_answers, alone_ask_done}
use Rattle.lt_trace.specs.declared.line.Line.{Line}
use Rattle.lt_trace.specs.declared.line.LineDeed.TheVariants.{Escalate}
use Rattle.lt_runner.specs.declared.release.Release.{Release}
use Rattle.lt_runner.specs.declared.turn.Moved.{Moved}
use Rattle.lt_history.specs.declared.outcome.Outcome.{Outcome}
use Rattle.lt_runner.specs.TurnView.{Turn, Recorded, Seat}
use Rattle.lt_runner.specs.Turn.{Move, leaves, asks, stops, escalates, grows, ends, frees, turn_after, reply_in, asked_at, ended_at, ending, past, rest_of_release, releases_by, releases_in, releases_from}
use Rattle.lt_runner.specs.Attempt.{bar_of}
use Rattle.lt_runner.specs.Plays.{Stage, is_big}
use Rattle.lt_trace.specs.Grammar.{is_last}
use Rattle.lt_history.specs.declared.outcome.Outcome.TheVariants.{OutOfLocks as StoppedAt}
use Rattle.lt_runner.specs.Seats.{idle}
use Rattle.lt_runner.specs.Played.{Search, Fits, IsAmong, IsAtLine, HasCome, MovesBy}
use Rattle.lt_runner.specs.PlaysOn.{PlaysOn, IsNext, IsNextAsk, IsReady, IsFit, UnlessShort}
use Rattle.lt_runner.proofs.SearchLaws.{all_txn}
use Rattle.lt_runner.proofs.ComeLaws.{come_more, come_on}
use Rattle.lt_runner.proofs.SteadyLaws.{after_txn}
use Rattle.lt_runner.proofs.AnswerLaws.{joined_is, asks_move, stops_move, leaves_move, ends_move, grows_move, escalates_move, frees_move}

pub all_append : (P : Receipt → Type 0) (xs ys : List Receipt) → AllByRecursion P xs → AllByRecursion P ys → AllByRecursion P (xs ++ ys)
all_append P [] ys all rest = rest
all_append P (x ∷ xs) ys all rest = (all.0, all_append P xs ys all.1 rest)

come_move : (setting : Setting) (searches found : List Search) (old new : List Event) (opening : Stage) (was is : Seat) (receipts made : List Receipt) (move : Move) → IsFront old new →
    IsAtLine opening → Fits searches found (place_after setting old) opening.turn.txn → IsAmong found opening.turn.txn move → HasCome true setting searches old opening was receipts →
    MovesBy true setting old new was is made move → HasCome true setting searches new opening is (receipts ++ made)
come_move setting searches found old new opening was is receipts made move (more, same) start fits allowed come moves =
    subst (λ (es : List Event). HasCome true setting searches es opening is (receipts ++ made)) (sym same)
    (come_more true setting searches found old more opening was is receipts made move start fits allowed come (subst (λ (es : List Event). MovesBy true setting old es was is made move) same moves))

-- by one move
pub plays_move : (setting : Setting) (found : List Search) (old new : PassView) (was is : Seat) (made : List Receipt) (move : Move) → Goes setting old new → new.rights ≡ old.rights → new.mine ≡ old.mine ++ made →
    AllByRecursion (λ r. r.event.txn ≡ was.turn.txn) made → (HasAll setting old → new.front ≡ old.front ++ events_of made) → IsAmong found was.turn.txn move →
    MovesBy true setting old.front new.front was is made move → PlaysOn setting found old new was is
plays_move setting found old new was is made move goes rights mine own alone allowed moves = record {
  made = made;
  txn = ap (λ (t : Turn). t.txn) moves.turn ∙ after_txn was.turn move;
  goes = goes;
  rights = rights;
  mine = mine;
  own = own;
  alone = alone;
  comes = λ opening receipts searches start fits come.
      come_move setting searches found old.front new.front opening was is receipts made move goes.front start fits
      (subst (λ (n : ℕ). IsAmong found n move) (sym (sym (all_txn opening come.moves) ∙ ap (λ (t : Turn). t.txn) come.here)) allowed) come moves;
}

-- by none: a call was refused, or there was nothing to do
pub plays_idle : (setting : Setting) (found : List Search) (old new : PassView) (was is : Seat) → Goes setting old new → new.rights ≡ old.rights → new.mine ≡ old.mine → (HasAll setting old → new.front ≡ old.front) →
    is.turn ≡ was.turn → is.listed ≡ was.listed → (is.busy ≡ false → was.busy ≡ false) → PlaysOn setting found old new was is
plays_idle setting found old new was is goes rights mine alone same listed free = record {
  made = [];
  txn = ap (λ (t : Turn). t.txn) same;
  goes = goes;
  rights = rights;
  mine = mine ∙ sym (append-nil old.mine);
  own = tt;
  alone = λ all. alone all ∙ sym (append-nil old.front);
  comes = λ opening receipts searches start fits come.
      let on = come_on true setting searches old.front new.front opening was receipts goes.front come in
      subst (λ (rs : List Receipt). HasCome true setting searches new.front opening is rs) (sym (append-nil receipts)) (record {
        moves = on.moves;
        played = on.played;
        inside = on.inside;
        listed = on.listed;
        own = on.own;
        here = on.here ∙ sym same;
        past = record {
          seen = on.past.seen;
          held = λ goes. on.past.held (sym (ap (λ (t : Turn). t.waits) same) ∙ goes);
          left = λ e. on.past.left (free e);
          once = λ e. on.past.once (sym listed ∙ e);
        };
        made = on.made;
      });
}

later_fits : (setting : Setting) (searches found : List Search) (a b : List Event) (txn : ℕ) → IsFront a b → Fits searches found (place_after setting a) txn → Fits searches found (place_after setting b) txn
later_fits setting searches found a b txn (more, is) fits = record { before = by_searches searches fits.before; among = fits.among }
  where
    longer : place_after setting a ≤ place_after setting b
    longer = omega (arith, ap length is, length-append a more)

    by_searches : (ss : List Search) → AllByRecursion (λ s. s.txn ≢ txn → s.place < place_after setting a) ss → AllByRecursion (λ s. s.txn ≢ txn → s.place < place_after setting b) ss
    by_searches [] all = tt
    by_searches (s ∷ ss) all = ((λ differs. (let k = all.0 differs in omega (arith, k, longer))), by_searches ss all.1)

-- by one thing and then another
pub plays_then : (setting : Setting) (found : List Search) (a b c : PassView) (was between is : Seat) → PlaysOn setting found a b was between → PlaysOn setting found b c between is → PlaysOn setting found a c was is
plays_then setting found a b c was between is first second = record {
  made = first.made ++ second.made;
  txn = second.txn ∙ first.txn;
  goes = goes_then setting a b c first.goes second.goes;
  rights = second.rights ∙ first.rights;
  mine = second.mine ∙ ap (λ (rs : List Receipt). rs ++ second.made) first.mine ∙ append_assoc a.mine first.made second.made;
  own = all_append (λ r. r.event.txn ≡ was.turn.txn) first.made second.made first.own (subst (λ (n : ℕ). AllByRecursion (λ (r : Receipt). r.event.txn ≡ n) second.made) first.txn second.own);
  alone = λ all. second.alone (first.rights ∙ all) ∙ ap (λ (es : List Event). es ++ events_of second.made) (first.alone all) ∙ append_assoc a.front (events_of first.made) (events_of second.made)
      ∙ ap (λ (es : List Event). a.front ++ es) (sym (map-append (λ (r : Receipt). r.event) first.made second.made));
  comes = λ opening receipts searches start fits come.
      subst (λ (rs : List Receipt). HasCome true setting searches c.front opening is rs) (append_assoc receipts first.made second.made)
      (second.comes opening (receipts ++ first.made) searches start (later_fits setting searches found a.front b.front opening.turn.txn first.goes.front fits) (first.comes opening receipts searches start fits come));
}

-- What the answers of a yard come to.

-- an ask that was done
pub plays_asked : (setting : Setting) (found : List Search) (old new : PassView) (seat : Seat) (tree : ℕ) (range : Interval) (line : Line) (rest : List Line) (ask : Receipt) → IsNextAsk seat.turn tree range line rest → IsSound setting old →
    AskAnswers setting (bar_of setting seat.turn) old new seat.turn.txn (Ask tree range Granted) (Ok ask) → PlaysOn setting found old new seat (idle (asked_at seat.turn.lines (reply_in ask.event.deed) None seat.turn))
plays_asked setting found old new seat tree range line rest ask next sound answers =
    let joins = answers.joins in
    let joined = answers.joined in
    let was = answers.answer in
    let happens = was.happens in
    let all = joined_is setting (bar_of setting seat.turn) old joined seat.turn.txn 0 joins answers.chain sound in
    plays_move setting found old new seat (idle (turn_after seat.turn (asks joins ask))) (joins ++ ask ∷ []) (asks joins ask)
    (goes_then setting old joined new all.goes happens.goes)
    (happens.rights ∙ all.rights)
    (happens.mine ∙ ap (λ (rs : List Receipt). rs ++ ask ∷ []) all.mine ∙ append_assoc old.mine joins (ask ∷ []))
    (all_append (λ r. r.event.txn ≡ seat.turn.txn) joins (ask ∷ []) all.own (ap (λ (e : Event). e.txn) happens.event, tt))
    (λ every. happens.front ∙ ap (λ (es : List Event). es ++ ask.event ∷ []) (happens.alone (all.rights ∙ every) ∙ all.alone every) ∙ append_assoc old.front (events_of joins) (ask.event ∷ [])
    ∙ ap (λ (es : List Event). old.front ++ es) (sym (map-append (λ (r : Receipt). r.event) joins (ask ∷ []))))
    tt
    (asks_move setting old joined new seat tree range line rest joins ask next answers.chain sound was)

-- one that was out of locks
pub plays_stopped : (setting : Setting) (found : List Search) (old new : PassView) (seat : Seat) (tree : ℕ) (range : Interval) (line : Line) (rest : List Line) (place rows : ℕ) → IsNextAsk seat.turn tree range line rest →
    1 ≤ setting.plan.trees → IsSound setting old → AskAnswers setting (bar_of setting seat.turn) old new seat.turn.txn (Ask tree range Granted) (Err (OutOfLocks place rows)) →
    PlaysOn setting found old new seat (idle (ending (StoppedAt place rows) seat.turn))
plays_stopped setting found old new seat tree range line rest place rows next trees sound answers =
    let joins = answers.joins in
    let joined = answers.joined in
    let at = answers.answer in
    let all = joined_is setting (bar_of setting seat.turn) old joined seat.turn.txn 0 joins answers.chain sound in
    plays_move setting found old new seat (idle (turn_after seat.turn (stops joins place rows))) joins (stops joins place rows)
    (goes_then setting old joined new all.goes at.watches.goes)
    (at.watches.rights ∙ all.rights)
    (at.watches.mine ∙ all.mine)
    all.own
    (λ every. at.watches.alone (all.rights ∙ every) ∙ all.alone every)
    tt
    (stops_move setting old joined new seat tree range line rest joins place rows next.lines next.asks_it trees answers.chain sound at)

not_none : (r : Receipt) (rs : List Receipt) → r ∷ rs ≢ []
not_none r rs e = cc

-- one that was refused, and may have left joins
pub plays_refused : (setting : Setting) (found : List Search) (old new : PassView) (seat : Seat) (tree : ℕ) (range : Interval) (line : Line) (rest : List Line) (fault : Fault) → IsNextAsk seat.turn tree range line rest → seat.busy ≡ false →
    IsSound setting old → AskAnswers setting (bar_of setting seat.turn) old new seat.turn.txn (Ask tree range Granted) (Err fault) → PlaysOn setting found old new seat (record seat { busy = true })
plays_refused setting found old new seat tree range line rest fault next free sound answers = by_joins answers.joins answers.joined answers.most answers.chain answers.answer
  where
    by_joins : (joins : List Receipt) (joined : PassView) → length joins ≤ setting.plan.trees → AreJoined setting (bar_of setting seat.turn) old joined seat.turn.txn 0 joins →
        FaultAt setting joined new (AskCaused setting (bar_of setting seat.turn) joins joined new fault) → PlaysOn setting found old new seat (record seat { busy = true })
    by_joins [] joined most chain at =
        plays_idle setting found old new seat (record seat { busy = true })
        (subst (λ (p : PassView). Goes setting p new) chain at.watches.goes) (at.watches.rights ∙ ap (λ (p : PassView). p.rights) chain) (at.watches.mine ∙ ap (λ (p : PassView). p.mine) chain)
        (λ every. at.watches.alone (ap (λ (p : PassView). p.rights) chain ∙ every) ∙ ap (λ (p : PassView). p.front) chain) refl refl (λ e. cc)
    by_joins (r ∷ rs) joined most chain at =
        let all = joined_is setting (bar_of setting seat.turn) old joined seat.turn.txn 0 (r ∷ rs) chain sound in
        plays_move setting found old new seat (record seat { busy = true }) (r ∷ rs) (leaves (r ∷ rs))
        (goes_then setting old joined new all.goes at.watches.goes)
        (at.watches.rights ∙ all.rights)
        (at.watches.mine ∙ all.mine)
        all.own
        (λ every. at.watches.alone (all.rights ∙ every) ∙ all.alone every)
        tt
        (leaves_move setting old joined new seat tree range line rest (r ∷ rs) next free chain sound (not_none r rs) most at.watches.goes.front)

itself : (setting : Setting) (pass : PassView) → IsSound setting pass → Goes setting pass pass
itself setting pass sound = record { number = refl; met = omega arith; front = ([], sym (append-nil pass.front)); sound = sound }

-- nothing done
pub plays_not : (setting : Setting) (found : List Search) (pass : PassView) (seat : Seat) → IsSound setting pass → PlaysOn setting found pass pass seat seat
plays_not setting found pass seat sound =
    plays_idle setting found pass pass seat seat (itself setting pass sound) refl refl (λ every. refl) refl refl (λ e. e)

-- the end of its lines
pub plays_ended : (setting : Setting) (found : List Search) (pass : PassView) (seat : Seat) (line : Line) (rest : List Line) → seat.turn.lines ≡ line ∷ rest → seat.turn.waits ≡ false → IsTrue (is_last line.deed) → IsSound setting pass →
    PlaysOn setting found pass pass seat (idle (ended_at seat.turn.lines seat.turn))
plays_ended setting found pass seat line rest lines goes is sound =
    plays_move setting found pass pass seat (idle (turn_after seat.turn ends)) [] ends (itself setting pass sound) refl (sym (append-nil pass.mine)) tt (λ every. sym (append-nil pass.front)) tt
    (ends_move setting pass.front seat line rest lines goes is)

-- it says that it is a big one
pub plays_grown : (setting : Setting) (found : List Search) (pass : PassView) (seat : Seat) (line : Line) (rest : List Line) → seat.turn.lines ≡ line ∷ rest → seat.turn.waits ≡ false → IsTrue (is_big line.deed) → IsSound setting pass →
    PlaysOn setting found pass pass seat (idle (record (past seat.turn) { big = true }))
plays_grown setting found pass seat line rest lines goes is sound =
    plays_move setting found pass pass seat (idle (turn_after seat.turn grows)) [] grows (itself setting pass sound) refl (sym (append-nil pass.mine)) tt (λ every. sym (append-nil pass.front)) tt
    (grows_move setting pass.front seat line rest lines goes is)

-- an escalation
pub plays_escalated : (setting : Setting) (found : List Search) (old new : PassView) (seat : Seat) (tree : ℕ) (line : Line) (rest : List Line) (join : Receipt) → seat.turn.lines ≡ line ∷ rest → seat.turn.waits ≡ false → line.deed ≡ Escalate tree →
    Answers setting old new seat.turn.txn (Join tree 0 0) (Ok join) → PlaysOn setting found old new seat (idle (past seat.turn))
plays_escalated setting found old new seat tree line rest join lines goes is answers =
    let happens = answers.answer in
    plays_move setting found old new seat (idle (turn_after seat.turn (escalates join))) (join ∷ []) (escalates join) happens.goes happens.rights happens.mine (ap (λ (e : Event). e.txn) happens.event, tt)
    (λ every. happens.front ∙ ap (λ (es : List Event). es ++ join.event ∷ []) (happens.alone every)) tt
    (escalates_move setting old new seat tree line rest join lines goes is happens)

-- a free
pub plays_freed : (setting : Setting) (found : List Search) (old new : PassView) (seat : Seat) (r : Release) (rs : List Release) (free : Receipt) → seat.turn.lines ≡ [] → seat.turn.waits ≡ false → seat.turn.releases ≡ r ∷ rs →
    Answers setting old new seat.turn.txn (Free r.tree r.range r.first 0) (Ok free) → PlaysOn setting found old new seat (record seat { turn = record seat.turn { releases = rest_of_release seat.turn.releases }; busy = false })
plays_freed setting found old new seat r rs free lines goes releases answers =
    let happens = answers.answer in
    plays_move setting found old new seat (record seat { turn = turn_after seat.turn (frees free); busy = false }) (free ∷ []) (frees free) happens.goes happens.rights happens.mine (ap (λ (e : Event). e.txn) happens.event, tt)
    (λ every. happens.front ∙ ap (λ (es : List Event). es ++ free.event ∷ []) (happens.alone every)) tt
    (frees_move setting old new seat r rs free lines goes releases happens)

-- any other call that was refused
pub plays_kept : (setting : Setting) (found : List Search) (old new : PassView) (seat : Seat) (txn : ℕ) (deed : Deed) (fault : Fault) → Answers setting old new txn deed (Err fault) → PlaysOn setting found old new seat (record seat { busy = true })
plays_kept setting found old new seat txn deed fault answers =
    let at = answers.answer in
    plays_idle setting found old new seat (record seat { busy = true }) at.watches.goes at.watches.rights at.watches.mine at.watches.alone refl refl (λ e. cc)

-- a pass that played is ready still
pub ready_still : (setting : Setting) (found : List Search) (old new : PassView) (was is : Seat) → IsReady setting old → PlaysOn setting found old new was is → IsReady setting new
ready_still setting found old new was is ready plays = record { plan = ready.plan; right = omega (arith, ready.right, plays.rights); sound = plays.goes.sound }

-- unless memory was short
pub kept_unless : (setting : Setting) (found : List Search) (old new : PassView) (seat : Seat) (txn : ℕ) (deed : Deed) (fault : Fault) → Answers setting old new txn deed (Err fault) → UnlessShort (Err fault) (PlaysOn setting found old new seat (record seat { busy = true }))
kept_unless setting found old new seat txn deed OutOfMemory answers = tt
kept_unless setting found old new seat txn deed (Busy row holder) answers = plays_kept setting found old new seat txn deed (Busy row holder) answers
kept_unless setting found old new seat txn deed (HistoryFull place) answers = plays_kept setting found old new seat txn deed (HistoryFull place) answers
kept_unless setting found old new seat txn deed (OutOfLocks place rows) answers = absurd answers.answer.cause

-- one that may be played and was refused: one that was refused before is not refused again
pub ask_refused : (setting : Setting) (found : List Search) (old new : PassView) (seat : Seat) (tree : ℕ) (range : Interval) (line : Line) (rest : List Line) (fault : Fault) → IsNextAsk seat.turn tree range line rest → IsNext setting old seat →
    (IsDoneOrOutOfLocks (Err fault) → ⊥) → IsSound setting old → AskAnswers setting (bar_of setting seat.turn) old new seat.turn.txn (Ask tree range Granted) (Err fault) → PlaysOn setting found old new seat (record seat { busy = true })
ask_refused setting found old new seat tree range line rest fault ask next never sound answers = by_busy seat.busy refl
  where
    by_busy : (b : Bool) → seat.busy ≡ b → PlaysOn setting found old new seat (record seat { busy = true })
    by_busy true e =
        absurd (never (alone_ask_done setting (bar_of setting seat.turn) old new seat.turn.txn (Ask tree range Granted) (Err fault)
        (alone_ask_answers setting (bar_of setting seat.turn) old new seat.turn.txn (Ask tree range Granted) (Err fault) answers (next.alone e)) (next.places e)))
    by_busy false e = plays_refused setting found old new seat tree range line rest fault ask e sound answers

-- an answer by the seat's number and size
pub answer_of : (setting : Setting) (old new : PassView) (seat : Seat) (txn : ℕ) (big : Bool) (deed : Deed) (result : Result Receipt Fault) → txn ≡ seat.turn.txn → big ≡ seat.turn.big →
    AskAnswers setting (bar_for setting big) old new txn deed result → AskAnswers setting (bar_of setting seat.turn) old new seat.turn.txn deed result
answer_of setting old new seat txn big deed result same size answer =
    subst (λ (n : ℕ). AskAnswers setting (bar_of setting seat.turn) old new n deed result) same
    (subst (λ (b : Bool). AskAnswers setting (bar_for setting b) old new txn deed result) size answer)

-- Seats stay fit.

trees_by : (setting : Setting) (tree : ℕ) (first : Bool) (ranges : List Interval) → tree < setting.plan.trees → AllByRecursion (λ r. r.tree < setting.plan.trees) (releases_by tree first ranges)
trees_by setting tree first [] inside = tt
trees_by setting tree first (r ∷ rs) inside = (inside, trees_by setting tree false rs inside)

trees_in : (setting : Setting) (tree : ℕ) (r : Recorded) → tree < setting.plan.trees → AllByRecursion (λ r. r.tree < setting.plan.trees) (releases_in tree r)
trees_in setting tree r inside = by_buffer r.buffered
  where
    by_buffer : (b : Bool) → AllByRecursion (λ r. r.tree < setting.plan.trees) (if b then record { tree = tree; range = whole; first = true } ∷ [] else releases_by tree true r.ranges)
    by_buffer true = (inside, tt)
    by_buffer false = trees_by setting tree true r.ranges inside

releases_append : (setting : Setting) (xs ys : List Release) → AllByRecursion (λ r. r.tree < setting.plan.trees) xs → AllByRecursion (λ r. r.tree < setting.plan.trees) ys → AllByRecursion (λ r. r.tree < setting.plan.trees) (xs ++ ys)
releases_append setting [] ys all rest = rest
releases_append setting (x ∷ xs) ys all rest = (all.0, releases_append setting xs ys all.1 rest)

trees_from : (setting : Setting) (tree : ℕ) (rs : List Recorded) → tree + length rs ≤ setting.plan.trees → AllByRecursion (λ r. r.tree < setting.plan.trees) (releases_from tree rs)
trees_from setting tree [] inside = tt
trees_from setting tree (r ∷ rs) inside =
    releases_append setting (releases_in tree r) (releases_from (tree + 1) rs) (trees_in setting tree r (omega arith)) (trees_from setting (tree + 1) rs (omega arith))

pub fit_ended : (setting : Setting) (seat : Seat) (outcome : Outcome) → IsFit setting seat → IsFit setting (idle (ending outcome seat.turn))
fit_ended setting seat outcome fit = record {
  txn = fit.txn;
  lines = tt;
  releases = trees_from setting 0 seat.turn.recorded (omega (arith, fit.recorded));
  recorded = fit.recorded;
  over = λ done. refl;
}

-- an end or abort line by its deed
pub ended_by_deed : (turn : Turn) (line : Line) (rest : List Line) (outcome : Outcome) → turn.lines ≡ line ∷ rest → ended_at (line ∷ rest) turn ≡ ending outcome turn → ended_at turn.lines turn ≡ ending outcome turn
ended_by_deed turn line rest outcome lines is = ap (λ (ls : List Line). ended_at ls turn) lines ∙ is

-- what follows where memory was not short
pub unless_then : {P Q : Type 0} (result : Result Moved Fault) → (P → Q) → UnlessShort result P → UnlessShort result Q
unless_then (Ok moved) f p = f p
unless_then (Err OutOfMemory) f p = tt
unless_then (Err (Busy row holder)) f p = f p
unless_then (Err (HistoryFull place)) f p = f p
unless_then (Err (OutOfLocks place rows)) f p = p

pub length_rest : (rs : List Release) → 0 < length rs → length (rest_of_release rs) + 1 ≡ length rs
length_rest [] some = absurd (omega arith)
length_rest (r ∷ rs) some = omega arith
