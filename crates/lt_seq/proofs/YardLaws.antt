-- Laws of what calls promise.
use Rattle.std.proofs.Common.{◌≡◌, ℕ, ◌^◌, ◌<◌, List, [], ◌∷◌, ◌++◌, Result, Ok, Err, refl, sym, ap, subst, ◌∙◌, arith, length, inl, ◌+◌, ◌≤◌, length-append, append_assoc}
use Rattle.lt_seq.specs.declared.event.Deed.{Deed}
use Rattle.lt_seq.specs.declared.event.Deed.TheVariants.{Join}
use Rattle.lt_seq.specs.declared.event.Event.{Event}
use Rattle.lt_seq.specs.declared.event.Receipt.{Receipt}
use Rattle.lt_seq.specs.declared.fault.Fault.{Fault}
use Rattle.lt_seq.specs.declared.fault.Fault.TheVariants.{OutOfMemory, Busy, HistoryFull, OutOfLocks}
use Rattle.lt_seq.specs.Table.{Setting, used}
use Rattle.lt_seq.specs.History.{IsFront, IsLegal, after, calls_from}
use Rattle.lt_seq.proofs.HistoryLaws.{front_itself}
use Rattle.lt_seq.specs.Yard.{PassView, NoteView, Learns, HasAll, Goes, Watches, Happens, FaultAt, Answers, Answered, AskAnswers, AskAnswered, JoinsOne, AreJoined, AreNoneOrAll, IsAsked, Caused, AskCaused, OneMore, IsSound, noted, place_after, event_after}
use Rattle.lt_seq.specs.SeqCalls.{HasJoined, JoinsStop}
use Rattle.lt_seq.specs.Alone.{Stays, IsMade, AloneCaused, AloneAskCaused, AloneAnswered, AloneAnswers, AreJoinedAtOnce, HasReached, AloneAskAnswered, AloneAskAnswers, IsDone, IsDoneOrOutOfLocks}

-- Calls of a pass, one after another.

pub front_then : (one two three : List Event) → IsFront one two → IsFront two three → IsFront one three
front_then one two three (more, is) (others, are) = (more ++ others, are ∙ ap (λ es. es ++ others) is ∙ append_assoc one more others)

pub goes_then : (setting : Setting) (one two three : PassView) → Goes setting one two → Goes setting two three → Goes setting one three
goes_then setting one two three first second = record {
  number = second.number ∙ first.number;
  met = omega (arith, first.met, second.met);
  front = front_then one.front two.front three.front first.front second.front;
  sound = second.sound;
}

-- what an answer says of the pass, whatever it is
pub answered_rights : (setting : Setting) (old new : PassView) (txn : ℕ) (deed : Deed) (result : Result Receipt Fault) → Answered setting old new txn deed result → new.rights ≡ old.rights
answered_rights setting old new txn deed (Ok receipt) happens = happens.rights
answered_rights setting old new txn deed (Err fault) at = at.watches.rights

pub answered_goes : (setting : Setting) (old new : PassView) (txn : ℕ) (deed : Deed) (result : Result Receipt Fault) → Answered setting old new txn deed result → Goes setting old new
answered_goes setting old new txn deed (Ok receipt) happens = happens.goes
answered_goes setting old new txn deed (Err fault) at = at.watches.goes

pub answers_of : (setting : Setting) (old new : PassView) (txn : ℕ) (deed : Deed) (result : Result Receipt Fault) → Answered setting old new txn deed result → Answers setting old new txn deed result
answers_of setting old new txn deed result answer = record {
  rights = answered_rights setting old new txn deed result answer;
  goes = answered_goes setting old new txn deed result answer;
  answer = answer;
}

pub asked_rights : (setting : Setting) (bar : ℕ) (joins : List Receipt) (old new : PassView) (txn : ℕ) (deed : Deed) (result : Result Receipt Fault) → AskAnswered setting bar joins old new txn deed result → new.rights ≡ old.rights
asked_rights setting bar joins old new txn deed (Ok receipt) asked = asked.happens.rights
asked_rights setting bar joins old new txn deed (Err fault) at = at.watches.rights

pub asked_goes : (setting : Setting) (bar : ℕ) (joins : List Receipt) (old new : PassView) (txn : ℕ) (deed : Deed) (result : Result Receipt Fault) → AskAnswered setting bar joins old new txn deed result → Goes setting old new
asked_goes setting bar joins old new txn deed (Ok receipt) asked = asked.happens.goes
asked_goes setting bar joins old new txn deed (Err fault) at = at.watches.goes

-- a pass behind joins has its rights
pub joined_rights : (setting : Setting) (bar : ℕ) (old new : PassView) (txn tree : ℕ) (joins : List Receipt) → AreJoined setting bar old new txn tree joins → new.rights ≡ old.rights
joined_rights setting bar old new txn tree [] same = ap (λ (p : PassView). p.rights) same
joined_rights setting bar old new txn tree (r ∷ rs) one = joined_rights setting bar one.next new txn (tree + 1) rs one.others ∙ one.join.rights

-- and what it does next goes on from what it did before them
pub joined_goes : (setting : Setting) (bar : ℕ) (old joined new : PassView) (txn tree : ℕ) (joins : List Receipt) → AreJoined setting bar old joined txn tree joins → Goes setting joined new → Goes setting old new
joined_goes setting bar old joined new txn tree [] same goes = subst (λ (p : PassView). Goes setting p new) same goes
joined_goes setting bar old joined new txn tree (r ∷ rs) one goes =
    goes_then setting old one.next new one.join.goes (joined_goes setting bar one.next joined new txn (tree + 1) rs one.others goes)

-- an ask is its joins and what it answers behind them
pub ask_answers_of : (setting : Setting) (bar : ℕ) (old joined new : PassView) (txn : ℕ) (deed : Deed) (result : Result Receipt Fault) (joins : List Receipt) → length joins ≤ setting.plan.trees →
    AreJoined setting bar old joined txn 0 joins → AskAnswered setting bar joins joined new txn deed result → AskAnswers setting bar old new txn deed result
ask_answers_of setting bar old joined new txn deed result joins most chain answer = record {
  rights = asked_rights setting bar joins joined new txn deed result answer ∙ joined_rights setting bar old joined txn 0 joins chain;
  goes = joined_goes setting bar old joined new txn 0 joins chain (asked_goes setting bar joins joined new txn deed result answer);
  joins = joins;
  joined = joined;
  most = most;
  chain = chain;
  answer = answer;
}

-- one join more
pub joined_more : (setting : Setting) (bar : ℕ) (old joined new : PassView) (txn tree : ℕ) (joins : List Receipt) (r : Receipt) → AreJoined setting bar old joined txn tree joins →
    JoinsOne setting bar joined txn (tree + length joins) r (λ next. new ≡ next) → AreJoined setting bar old new txn tree (joins ++ r ∷ [])
joined_more setting bar old joined new txn tree [] r same last =
    subst (λ (p : PassView). JoinsOne setting bar p txn tree r (λ next. new ≡ next)) same (subst (λ (n : ℕ). JoinsOne setting bar joined txn n r (λ next. new ≡ next)) (omega arith) last)
joined_more setting bar old joined new txn tree (x ∷ xs) r one last = record {
  next = one.next;
  join = one.join;
  reached = one.reached;
  others =
      joined_more setting bar one.next joined new txn (tree + 1) xs r one.others
      (subst (λ (n : ℕ). JoinsOne setting bar joined txn n r (λ next. new ≡ next)) (omega arith) last);
}

-- no join was made yet
pub has_joined_none : (setting : Setting) (bar : ℕ) (old : PassView) (txn : ℕ) → HasJoined setting bar old old txn 0
has_joined_none setting bar old txn = record { joins = []; count = refl; chain = refl }

-- where none was made, the pass is as it was
none_joined : (setting : Setting) (bar : ℕ) (old new : PassView) (txn : ℕ) (joins : List Receipt) → length joins ≡ 0 → AreJoined setting bar old new txn 0 joins → new ≡ old
none_joined setting bar old new txn [] none same = same
none_joined setting bar old new txn (r ∷ rs) none one = absurd (omega (arith, none))

-- one tree more is joined, by a pass that has all the rights
pub has_joined_more : (setting : Setting) (bar : ℕ) (old joined new : PassView) (txn trees : ℕ) (r : Receipt) → HasAll setting old → bar ≤ used (after setting old.front) →
    HasJoined setting bar old joined txn trees → Happens setting joined new txn (Join trees 0 0) r → HasJoined setting bar old new txn (trees + 1)
has_joined_more setting bar old joined new txn trees r all full has join = record {
  joins = has.joins ++ r ∷ [];
  count = omega (arith, has.count, length-append has.joins (r ∷ []));
  chain =
      joined_more setting bar old joined new txn 0 has.joins r has.chain
      (subst (λ (n : ℕ). JoinsOne setting bar joined txn n r (λ next. new ≡ next)) (omega (arith, has.count)) (record {
        next = new;
        join = join;
        reached = reached;
        others = refl;
      }));
}
  where
    reached : trees ≡ 0 → bar ≤ used (after setting join.seen)
    reached none =
        let same = none_joined setting bar old joined txn has.joins (has.count ∙ none) has.chain in
        let there : join.seen ≡ old.front = join.alone_seen (ap (λ (p : PassView). p.rights) same ∙ all) ∙ ap (λ (p : PassView). p.front) same in
        subst (λ (es : List Event). bar ≤ used (after setting es)) (sym there) full

-- the cause of a join's fault is one of the ask's, where trees are left to join
midway : (setting : Setting) (bar : ℕ) (joins : List Receipt) (old new : PassView) (seen : List Event) → length joins < setting.plan.trees → (fault : Fault) → Caused setting old new fault seen → AskCaused setting bar joins old new fault seen
midway setting bar joins old new seen few OutOfMemory cause = tt
midway setting bar joins old new seen few (Busy row holder) cause = record { busy = cause; below = λ all. absurd (omega (arith, all, few)) }
midway setting bar joins old new seen few (HistoryFull place) cause = cause
midway setting bar joins old new seen few (OutOfLocks place used_rows) cause = absurd cause

-- an ask that ends among its joins
pub asks_midway : (setting : Setting) (bar : ℕ) (old new : PassView) (txn : ℕ) (deed : Deed) (fault : Fault) → JoinsStop setting bar old new txn setting.plan.trees fault → AskAnswers setting bar old new txn deed (Err fault)
asks_midway setting bar old new txn deed fault stop =
    ask_answers_of setting bar old stop.joined new txn deed (Err fault) stop.joins (omega (arith, stop.count)) stop.chain (record {
      seen = stop.at.seen;
      looked = stop.at.looked;
      waited = stop.at.waited;
      alone_seen = stop.at.alone_seen;
      cause = midway setting bar stop.joins stop.joined new stop.at.seen stop.count fault stop.at.cause;
      watches = stop.at.watches;
    })

-- At once.

-- a pass that has all the rights makes its event at once
pub happens_alone : (setting : Setting) (old new : PassView) (txn : ℕ) (deed : Deed) (receipt : Receipt) → Happens setting old new txn deed receipt → HasAll setting old → IsMade setting old new txn deed receipt
happens_alone setting old new txn deed receipt happens all =
    let same = happens.alone all in
    record {
      more = record {
        receipt_is = λ i. record { place = (happens.place ∙ ap (place_after setting) same) i; event = (happens.event ∙ ap (λ es. event_after setting es old.number txn deed) same) i };
        front = happens.front ∙ ap (λ es. es ++ receipt.event ∷ []) same;
        mine = happens.mine;
        notes = happens.notes ∙ ap (λ es. noted setting es deed old.notes) same;
        rights = happens.rights;
        met = happens.goes.met;
        number = happens.goes.number;
      };
      sound = happens.goes.sound;
      room = subst (λ es. place_after setting es < 2 ^ 39) (happens.alone_seen all) happens.room;
    }

-- a fault leaves it as it was
stays_alone : (setting : Setting) (old new : PassView) → Watches setting old new → HasAll setting old → Stays setting old new
stays_alone setting old new watches all = record {
  number = watches.goes.number;
  rights = watches.rights;
  met = watches.goes.met;
  front = watches.alone all;
  mine = watches.mine;
  notes = watches.notes;
  sound = watches.goes.sound;
}

caused_alone : (setting : Setting) (old new : PassView) (fault : Fault) → HasAll setting old → Caused setting old new fault old.front → AloneCaused setting old.front fault
caused_alone setting old new OutOfMemory all cause = tt
caused_alone setting old new (Busy row holder) all cause = cause.others all
caused_alone setting old new (HistoryFull place) all cause = cause
caused_alone setting old new (OutOfLocks place used_rows) all cause = cause

ask_caused_alone : (setting : Setting) (bar : ℕ) (joins : List Receipt) (old new : PassView) (fault : Fault) → HasAll setting old → AskCaused setting bar joins old new fault old.front → AloneAskCaused setting bar joins old.front fault
ask_caused_alone setting bar joins old new OutOfMemory all cause = tt
ask_caused_alone setting bar joins old new (Busy row holder) all cause = cause.busy.others all
ask_caused_alone setting bar joins old new (HistoryFull place) all cause = cause
ask_caused_alone setting bar joins old new (OutOfLocks place used_rows) all cause = cause

-- the answer of a call other than an ask by a pass that has all the rights
answered_alone : (setting : Setting) (old new : PassView) (txn : ℕ) (deed : Deed) (result : Result Receipt Fault) → Answered setting old new txn deed result → HasAll setting old → AloneAnswered setting old new txn deed result
answered_alone setting old new txn deed (Ok receipt) happens all = happens_alone setting old new txn deed receipt happens all
answered_alone setting old new txn deed (Err fault) at all =
    record { stays = stays_alone setting old new at.watches all; cause = caused_alone setting old new fault all (subst (Caused setting old new fault) (at.alone_seen all) at.cause) }

pub alone_answers : (setting : Setting) (old new : PassView) (txn : ℕ) (deed : Deed) (result : Result Receipt Fault) → Answers setting old new txn deed result → HasAll setting old → AloneAnswers setting old new txn deed result
alone_answers setting old new txn deed result answers all = record { answer = answered_alone setting old new txn deed result answers.answer all }

-- the joins of an ask by a pass that has all the rights
joined_alone : (setting : Setting) (bar : ℕ) (old new : PassView) (txn tree : ℕ) (joins : List Receipt) → AreJoined setting bar old new txn tree joins → HasAll setting old → AreJoinedAtOnce setting old new txn tree joins
joined_alone setting bar old new txn tree [] same all = same
joined_alone setting bar old new txn tree (r ∷ rs) one all =
    let made = happens_alone setting old one.next txn (Join tree 0 0) r one.join all in
    record {
      next = one.next;
      more = made.more;
      room = made.room;
      others = joined_alone setting bar one.next new txn (tree + 1) rs one.others (one.join.rights ∙ all);
    }

reached_alone : (setting : Setting) (bar : ℕ) (old new : PassView) (txn : ℕ) (joins : List Receipt) → AreJoined setting bar old new txn 0 joins → HasAll setting old → HasReached setting bar old.front joins
reached_alone setting bar old new txn [] same all = tt
reached_alone setting bar old new txn (r ∷ rs) one all = subst (λ (es : List Event). bar ≤ used (after setting es)) (one.join.alone_seen all) (one.reached refl)

behind_alone : (setting : Setting) (bar : ℕ) (joins : List Receipt) (old new : PassView) (txn : ℕ) (deed : Deed) (result : Result Receipt Fault) → AskAnswered setting bar joins old new txn deed result → HasAll setting old → AloneAskAnswered setting bar joins old new txn deed result
behind_alone setting bar joins old new txn deed (Ok receipt) asked all = record {
  whole = asked.whole;
  made = happens_alone setting old new txn deed receipt asked.happens all;
  below = subst (λ (es : List Event). used (after setting es) < bar) (asked.happens.alone_seen all) asked.below;
}
behind_alone setting bar joins old new txn deed (Err fault) at all =
    record { stays = stays_alone setting old new at.watches all; cause = ask_caused_alone setting bar joins old new fault all (subst (AskCaused setting bar joins old new fault) (at.alone_seen all) at.cause) }

-- the answer of an ask by a pass that has all the rights
pub alone_ask_answers : (setting : Setting) (bar : ℕ) (old new : PassView) (txn : ℕ) (deed : Deed) (result : Result Receipt Fault) → AskAnswers setting bar old new txn deed result → HasAll setting old → AloneAskAnswers setting bar old new txn deed result
alone_ask_answers setting bar old new txn deed result ask all = record {
  joins = ask.joins;
  joined = ask.joined;
  most = ask.most;
  reached = reached_alone setting bar old ask.joined txn ask.joins ask.chain all;
  chain = joined_alone setting bar old ask.joined txn 0 ask.joins ask.chain all;
  answer = behind_alone setting bar ask.joins ask.joined new txn deed result ask.answer (joined_rights setting bar old ask.joined txn 0 ask.joins ask.chain ∙ all);
}

-- where there is a place, a call other than an ask makes its event unless memory is short
pub alone_done : (setting : Setting) (old new : PassView) (txn : ℕ) (deed : Deed) (result : Result Receipt Fault) → AloneAnswers setting old new txn deed result → place_after setting old.front < 2 ^ 39 → IsDone result
alone_done setting old new txn deed (Ok receipt) answers room = tt
alone_done setting old new txn deed (Err OutOfMemory) answers room = tt
alone_done setting old new txn deed (Err (Busy row holder)) answers room = answers.answer.cause
alone_done setting old new txn deed (Err (HistoryFull place)) answers room = absurd (omega (arith, answers.answer.cause.place_is, answers.answer.cause.full, room))
alone_done setting old new txn deed (Err (OutOfLocks place used_rows)) answers room = answers.answer.cause

-- joins at once make one event each
joined_long : (setting : Setting) (old new : PassView) (txn tree : ℕ) (joins : List Receipt) → AreJoinedAtOnce setting old new txn tree joins → length new.front ≡ length old.front + length joins
joined_long setting old new txn tree [] same = omega (arith, ap (λ (p : PassView). length p.front) same)
joined_long setting old new txn tree (r ∷ rs) one =
    omega (arith, joined_long setting one.next new txn (tree + 1) rs one.others, ap length one.more.front, length-append old.front (r.event ∷ []))

-- where there is a row below the bar, there are none
none_below : (setting : Setting) (bar : ℕ) (old new : PassView) (txn : ℕ) (joins : List Receipt) → HasReached setting bar old.front joins → AreJoinedAtOnce setting old new txn 0 joins → used (after setting old.front) < bar → new ≡ old
none_below setting bar old new txn [] reached same below = same
none_below setting bar old new txn (r ∷ rs) reached one below = absurd (omega (arith, reached, below))

-- where there are places enough, an ask makes its event or is out of locks, unless memory is short
pub alone_ask_done : (setting : Setting) (bar : ℕ) (old new : PassView) (txn : ℕ) (deed : Deed) (result : Result Receipt Fault) → AloneAskAnswers setting bar old new txn deed result → place_after setting old.front + setting.plan.trees < 2 ^ 39 → IsDoneOrOutOfLocks result
alone_ask_done setting bar old new txn deed (Ok receipt) ask room = tt
alone_ask_done setting bar old new txn deed (Err OutOfMemory) ask room = tt
alone_ask_done setting bar old new txn deed (Err (Busy row holder)) ask room = ask.answer.cause
alone_ask_done setting bar old new txn deed (Err (HistoryFull place)) ask room =
    absurd (omega (arith, ask.answer.cause.place_is, ask.answer.cause.full, room, ask.most, joined_long setting old ask.joined txn 0 ask.joins ask.chain))
alone_ask_done setting bar old new txn deed (Err (OutOfLocks place used_rows)) ask room = tt

-- and where there is a row below the bar, it makes its event
pub alone_ask_below : (setting : Setting) (bar : ℕ) (old new : PassView) (txn : ℕ) (deed : Deed) (result : Result Receipt Fault) → AloneAskAnswers setting bar old new txn deed result → place_after setting old.front < 2 ^ 39 → used (after setting old.front) < bar → IsDone result
alone_ask_below setting bar old new txn deed (Ok receipt) ask room below = tt
alone_ask_below setting bar old new txn deed (Err OutOfMemory) ask room below = tt
alone_ask_below setting bar old new txn deed (Err (Busy row holder)) ask room below = ask.answer.cause
alone_ask_below setting bar old new txn deed (Err (HistoryFull place)) ask room below =
    let same = none_below setting bar old ask.joined txn ask.joins ask.reached ask.chain below in
    absurd (omega (arith, ask.answer.cause.place_is, ask.answer.cause.full, room, ap (λ (p : PassView). place_after setting p.front) same))
alone_ask_below setting bar old new txn deed (Err (OutOfLocks place used_rows)) ask room below =
    let same = none_below setting bar old ask.joined txn ask.joins ask.reached ask.chain below in
    absurd (omega (arith, ask.answer.cause.used_is, ask.answer.cause.reached, below, ap (λ (p : PassView). used (after setting p.front)) same))

-- The plain table.

-- an event at once is an event
pub happens_at_once : (setting : Setting) (old new : PassView) (txn : ℕ) (deed : Deed) (receipt : Receipt) → OneMore setting old new txn deed receipt → IsSound setting new → place_after setting old.front < 2 ^ 39 → Happens setting old new txn deed receipt
happens_at_once setting old new txn deed receipt more sound room = record {
  seen = old.front;
  before = old.front;
  looked = front_itself old.front;
  waited = front_itself old.front;
  room = room;
  event = ap (λ r. r.event) more.receipt_is;
  place = ap (λ r. r.place) more.receipt_is;
  front = more.front;
  mine = more.mine;
  notes = more.notes;
  rights = more.rights;
  alone_seen = λ all. refl;
  alone = λ all. refl;
  goes = record {
    number = more.number;
    met = more.met;
    front = (receipt.event ∷ [], more.front);
    sound = sound;
  };
}

-- a call without any change
pub watches_same : (setting : Setting) (old new : PassView) → new ≡ old → IsSound setting old → Watches setting old new
watches_same setting old new same sound = record {
  goes = record {
    number = ap (λ p. p.number) same;
    met = omega (arith, ap (λ p. p.met) same);
    front = subst (IsFront old.front) (ap (λ p. p.front) (sym same)) (front_itself old.front);
    sound = subst (IsSound setting) (sym same) sound;
  };
  rights = ap (λ p. p.rights) same;
  mine = ap (λ p. p.mine) same;
  notes = ap (λ p. p.notes) same;
  alone = λ all. ap (λ p. p.front) same;
}

-- a fault that changed nothing
pub fault_same : (setting : Setting) (old new : PassView) (Cause : List Event → Type 0) → new ≡ old → IsSound setting old → Cause old.front → FaultAt setting old new Cause
fault_same setting old new Cause same sound cause = record {
  seen = old.front;
  looked = front_itself old.front;
  waited = subst (IsFront old.front) (ap (λ p. p.front) (sym same)) (front_itself old.front);
  alone_seen = λ all. refl;
  cause = cause;
  watches = watches_same setting old new same sound;
}

-- a call that was refused where nothing changed
pub refused : (setting : Setting) (old new : PassView) (txn : ℕ) (deed : Deed) (result : Result Receipt Fault) (fault : Fault) → result ≡ Err fault → new ≡ old → IsSound setting old → AloneCaused setting old.front fault → Answers setting old new txn deed result
refused setting old new txn deed result fault is same sound cause =
    subst (Answers setting old new txn deed) (sym is) (answers_of setting old new txn deed (Err fault) (fault_same setting old new (Caused setting old new fault) same sound (by_fault fault cause)))
  where
    by_fault : (f : Fault) → AloneCaused setting old.front f → Caused setting old new f old.front
    by_fault OutOfMemory told = tt
    by_fault (Busy row holder) told = absurd told
    by_fault (HistoryFull place) told = told
    by_fault (OutOfLocks place used_rows) told = absurd told

-- and an ask behind these joins
pub ask_refused : (setting : Setting) (bar : ℕ) (joins : List Receipt) (old new : PassView) (txn : ℕ) (deed : Deed) (result : Result Receipt Fault) (fault : Fault) → result ≡ Err fault → new ≡ old → IsSound setting old → AloneCaused setting old.front fault → AskAnswered setting bar joins old new txn deed result
ask_refused setting bar joins old new txn deed result fault is same sound cause =
    subst (AskAnswered setting bar joins old new txn deed) (sym is) (fault_same setting old new (AskCaused setting bar joins old new fault) same sound (by_fault fault cause))
  where
    by_fault : (f : Fault) → AloneCaused setting old.front f → AskCaused setting bar joins old new f old.front
    by_fault OutOfMemory told = tt
    by_fault (Busy row holder) told = absurd told
    by_fault (HistoryFull place) told = told
    by_fault (OutOfLocks place used_rows) told = absurd told

-- an ask behind none or all joins that made its event at once
pub asked_at_once : (setting : Setting) (bar : ℕ) (joins : List Receipt) (old new : PassView) (txn : ℕ) (deed : Deed) (receipt : Receipt) → AreNoneOrAll setting joins → OneMore setting old new txn deed receipt → IsSound setting new →
    place_after setting old.front < 2 ^ 39 → used (after setting old.front) < bar → IsAsked setting bar joins old new txn deed receipt
unfolding happens_at_once
asked_at_once setting bar joins old new txn deed receipt whole more sound room below = record {
  whole = whole;
  happens = happens_at_once setting old new txn deed receipt more sound room;
  below = below;
}

-- joins of all trees
pub all_joined : (setting : Setting) (joins : List Receipt) → length joins ≡ setting.plan.trees → AreNoneOrAll setting joins
all_joined setting [] all = tt
all_joined setting (r ∷ rs) all = all

-- a pass learns of a note that tells it nothing
pub learns_none : (setting : Setting) (old : PassView) (note : NoteView) (new : PassView) → IsSound setting old → note.front ≡ [] → new ≡ record old { rights = old.rights + note.rights } → Learns setting old note new
learns_none setting old note new sound none same = record {
  same = same ∙ (let front : new.front ≡ old.front = ap (λ (p : PassView). p.front) same in ap (λ (es : List Event). record old { rights = old.rights + note.rights; front = es }) (sym front));
  longer = inl (ap (λ (p : PassView). p.front) same, (old.front, subst (λ (es : List Event). old.front ≡ es ++ old.front) (sym none) refl));
  sound = record {
    legal = subst (IsLegal setting) (sym (ap (λ (p : PassView). p.front) same)) sound.legal;
    mine = ap (λ (p : PassView). p.mine) same ∙ sound.mine ∙ sym (ap (λ (p : PassView). calls_from setting.plan.first p.number p.front) same);
  };
}
