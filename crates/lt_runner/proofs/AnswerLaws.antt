-- What a yard's answer makes of a transaction.
use Rattle.std.proofs.Common.{◌≡◌, ◌≢◌, ℕ, ◌+◌, ◌<◌, ◌≤◌, List, [], ◌∷◌, ◌++◌, Bool, true, false, ◌==◌, ◌&&◌, ◌||◌, not, if◌then◌else◌, IsTrue, Some, length, refl, sym, ap, subst, ◌∙◌, arith, append_assoc, append-nil, eq-eqb, length-append}
use Rattle.lt_ranges.specs.Interval.{Interval}
use Rattle.lt_seq.specs.declared.event.Deed.{Deed}
use Rattle.lt_seq.specs.declared.event.Deed.TheVariants.{Ask, Free, Join}
use Rattle.lt_seq.specs.declared.event.Reply.{Reply}
use Rattle.lt_seq.specs.declared.event.Reply.TheVariants.{Granted}
use Rattle.lt_seq.specs.declared.event.Event.{Event}
use Rattle.lt_seq.specs.declared.event.Receipt.{Receipt}
use Rattle.lt_seq.specs.declared.fault.Fault.TheVariants.{OutOfLocks}
use Rattle.lt_seq.specs.Table.{Setting, used}
use Rattle.lt_seq.specs.History.{after, IsFront}
use Rattle.lt_seq.specs.Questions.{question, events_of, named_by}
use Rattle.lt_requests.specs.declared.wish.Wish.{Wish}
use Rattle.lt_requests.specs.Search.{IsSearch, wishes_of}
use Rattle.lt_seq.specs.Yard.{PassView, IsSound, Happens, FaultAt, AreJoined, IsAsked, AskCaused, place_after}
use Rattle.lt_seq.proofs.HistoryLaws.{front_on, front_itself, front_more}
use Rattle.lt_trace.specs.Grammar.{is_last}
use Rattle.lt_trace.specs.declared.line.Line.{Line}
use Rattle.lt_trace.specs.declared.line.LineDeed.{LineDeed}
use Rattle.lt_trace.specs.declared.line.LineDeed.TheVariants.{Try, Lock, End, Abort, Escalate, Big}
use Rattle.lt_runner.specs.declared.release.Release.{Release}
use Rattle.lt_runner.specs.TurnView.{Turn, Seat}
use Rattle.lt_runner.specs.Turn.{leaves, asks, waits, stops, escalates, grows, ends, frees, turn_after, reply_in}
use Rattle.lt_runner.specs.Attempt.{behind, bar_of, used_at, HasRoom, AreJoins, IsAttempt, IsStop}
use Rattle.lt_runner.specs.Plays.{Past, is_ask, is_lock, is_held, is_big, line_question, NeedsNoSearch, AreWishes, MayDo, IsMove, MayFree}
use Rattle.lt_runner.specs.Seats.{idle}
use Rattle.lt_runner.specs.Played.{AreInside, IsFirstFrom, MovesBy}
use Rattle.lt_runner.specs.Calls.{Joining}
use Rattle.lt_runner.specs.PlaysOn.{IsNextAsk}
use Rattle.lt_runner.proofs.PlayLaws.{used_at_front, list_inside, joins_stay, attempt_stays}

-- Fronts.

pub front_longer : (setting : Setting) (a b : List Event) → IsFront a b → place_after setting a ≤ place_after setting b
front_longer setting a b (more, is) = omega (arith, ap length is, length-append a more)

pub inside_on : (setting : Setting) (a b : List Event) (receipts : List Receipt) → IsFront a b → AreInside setting a receipts → AreInside setting b receipts
inside_on setting a b receipts (more, is) inside = subst (λ (es : List Event). AreInside setting es receipts) (sym is) (list_inside setting a more receipts inside)

-- An event's place is behind what was seen before it, and within what is seen then.
pub record IsPlaced (setting : Setting) (old new : PassView) (seen : List Event) (place : ℕ) : Type 0 where
  pub looked : place_after setting old.front ≤ place_after setting seen
  pub waited : place_after setting seen ≤ place
  pub inside : place + 1 ≤ place_after setting new.front

pub happened : (setting : Setting) (old new : PassView) (txn : ℕ) (deed : Deed) (r : Receipt) (happens : Happens setting old new txn deed r) → IsPlaced setting old new happens.seen r.place
happened setting old new txn deed r happens = record {
  looked = front_longer setting old.front happens.seen happens.looked;
  waited = (let k = front_longer setting happens.seen happens.before happens.waited in omega (arith, k, happens.place));
  inside = omega (arith, happens.place, ap length happens.front, length-append happens.before (r.event ∷ []));
}

seen_front : (setting : Setting) (old new : PassView) (txn : ℕ) (deed : Deed) (r : Receipt) (happens : Happens setting old new txn deed r) → IsFront happens.seen new.front
seen_front setting old new txn deed r happens =
    front_on happens.seen happens.before new.front happens.waited (subst (IsFront happens.before) (sym happens.front) (front_more happens.before r.event))

-- Joins.

pub joined_is : (setting : Setting) (bar : ℕ) (old new : PassView) (txn tree : ℕ) (joins : List Receipt) → AreJoined setting bar old new txn tree joins → IsSound setting old → Joining setting old new txn tree joins
joined_is setting bar old new txn tree [] same sound =
    subst (λ (p : PassView). Joining setting old p txn tree []) (sym same) (record {
      goes = record { number = refl; met = omega arith; front = front_itself old.front; sound = sound };
      rights = refl;
      mine = sym (append-nil old.mine);
      own = tt;
      alone = λ all. sym (append-nil old.front);
      trees = tt;
      inside = tt;
      last = λ since low. low;
    })
joined_is setting bar old new txn tree (r ∷ rs) one sound =
    let happens = one.join in
    let next = one.next in
    let later = joined_is setting bar next new txn (tree + 1) rs one.others happens.goes.sound in
    let h = happened setting old next txn (Join tree 0 0) r happens in
    record {
      goes = record {
        number = later.goes.number ∙ happens.goes.number;
        met = omega (arith, later.goes.met, happens.goes.met);
        front = front_on old.front next.front new.front happens.goes.front later.goes.front;
        sound = later.goes.sound;
      };
      rights = later.rights ∙ happens.rights;
      mine = later.mine ∙ ap (λ m. m ++ rs) happens.mine ∙ append_assoc old.mine (r ∷ []) rs;
      own = (ap (λ (e : Event). e.txn) happens.event, later.own);
      alone = λ all. later.alone (happens.rights ∙ all) ∙ ap (λ (es : List Event). es ++ events_of rs) (happens.front ∙ ap (λ (es : List Event). es ++ r.event ∷ []) (happens.alone all))
          ∙ append_assoc old.front (r.event ∷ []) (events_of rs);
      trees = (ap (λ (e : Event). question e.deed) happens.event, later.trees);
      inside = ((let k = front_longer setting next.front new.front later.goes.front in omega (arith, h.inside, k)), later.inside);
      last = λ since low. later.last (r.place + 1) h.inside;
    }

-- the rows had reached the bar where they began
pub begun_full : (setting : Setting) (old joined : PassView) (txn bar : ℕ) (joins : List Receipt) (since : ℕ) → AreJoined setting bar old joined txn 0 joins → IsSound setting old →
    joins ≢ [] → since ≤ place_after setting old.front → AreJoins setting joined.front bar since joins
begun_full setting old joined txn bar [] since chain sound some low = absurd (some refl)
begun_full setting old joined txn bar (r ∷ rs) since one sound some low =
    let happens = one.join in
    let next = one.next in
    let all = joined_is setting bar old joined txn 0 (r ∷ rs) one sound in
    let later = joined_is setting bar next joined txn 1 rs one.others happens.goes.sound in
    let h = happened setting old next txn (Join 0 0 0) r happens in
    let shown = used_at_front setting happens.seen joined.front (front_on happens.seen next.front joined.front (seen_front setting old next txn (Join 0 0 0) r happens) later.goes.front) in
    ((place_after setting happens.seen, omega (arith, low, h.looked), h.waited, subst (λ n. bar ≤ n) (sym shown) (one.reached refl)), all.trees)

-- and no earlier than what had been seen
begun_late : (setting : Setting) (old joined : PassView) (txn bar : ℕ) (joins : List Receipt) → AreJoined setting bar old joined txn 0 joins → joins ≢ [] → IsFirstFrom (place_after setting old.front) joins
begun_late setting old joined txn bar [] chain some = absurd (some refl)
begun_late setting old joined txn bar (r ∷ rs) one some =
    let h = happened setting old one.next txn (Join 0 0 0) r one.join in omega (arith, h.looked, h.waited)

-- Attempts.

room_found : (setting : Setting) (old new : PassView) (txn bar : ℕ) (deed : Deed) (ask : Receipt) (since : ℕ) (happens : Happens setting old new txn deed ask) →
    used (after setting happens.seen) < bar → since ≤ place_after setting old.front → HasRoom setting new.front bar since ask.place
room_found setting old new txn bar deed ask since happens room low =
    let h = happened setting old new txn deed ask happens in
    (place_after setting happens.seen, omega (arith, low, h.looked), h.waited, subst (λ n. n < bar) (sym (used_at_front setting happens.seen new.front (seen_front setting old new txn deed ask happens))) room)

pub attempt_found : (setting : Setting) (old joined new : PassView) (txn bar : ℕ) (joins : List Receipt) (deed : Deed) (ask : Receipt) (since : ℕ) →
    AreJoined setting bar old joined txn 0 joins → IsSound setting old → IsAsked setting bar joins joined new txn deed ask →
    since ≤ place_after setting old.front → IsAttempt setting new.front bar since joins ask.place
attempt_found setting old joined new txn bar [] deed ask since chain sound asked low =
    room_found setting joined new txn bar deed ask since asked.happens asked.below (subst (λ (p : PassView). since ≤ place_after setting p.front) (sym chain) low)
attempt_found setting old joined new txn bar (r ∷ rs) deed ask since chain sound asked low =
    let all = joined_is setting bar old joined txn 0 (r ∷ rs) chain sound in
    let full = begun_full setting old joined txn bar (r ∷ rs) since chain sound (λ e. cc) low in
    let (more, is) = asked.happens.goes.front in (
      subst (λ (es : List Event). AreJoins setting es bar since (r ∷ rs)) (sym is) (joins_stay setting joined.front more bar since (r ∷ rs) all.inside full),
      asked.whole,
      room_found setting joined new txn bar deed ask (behind since (r ∷ rs)) asked.happens asked.below (all.last since low),
    )

pub stop_found : (setting : Setting) (old joined new : PassView) (txn bar : ℕ) (joins : List Receipt) (place rows since : ℕ) → 1 ≤ setting.plan.trees →
    AreJoined setting bar old joined txn 0 joins → IsSound setting old → FaultAt setting joined new (AskCaused setting bar joins joined new (OutOfLocks place rows)) →
    since ≤ place_after setting old.front → IsStop setting new.front bar since joins place rows
stop_found setting old joined new txn bar joins place rows since trees chain sound at low =
    let all = joined_is setting bar old joined txn 0 joins chain sound in
    let cause = at.cause in
    let full = begun_full setting old joined txn bar joins since chain sound (λ none. (let k : length joins ≡ 0 = ap length none in omega (arith, k, trees, cause.all))) low in
    let (more, is) = at.watches.goes.front in
    let k = front_longer setting joined.front at.seen at.looked in
    record {
      joined = subst (λ (es : List Event). AreJoins setting es bar since joins) (sym is) (joins_stay setting joined.front more bar since joins all.inside full);
      all = cause.all;
      low = (let last = all.last since low in omega (arith, last, k, cause.place_is));
      high = (let j = front_longer setting at.seen new.front at.waited in omega (arith, j, cause.place_is));
      shows = cause.used_is ∙ sym (ap (used_at setting new.front) cause.place_is ∙ used_at_front setting at.seen new.front at.waited);
      full = cause.reached;
    }

-- Moves at a line.

asks_line : (tree : ℕ) (range : Interval) (deed : LineDeed) → line_question deed ≡ Some (Ask tree range Granted) → IsTrue (is_ask deed)
asks_line tree range (Try t r) is = refl
asks_line tree range (Lock t r) is = refl
asks_line tree range End is = cc
asks_line tree range Abort is = cc
asks_line tree range (Escalate t) is = cc
asks_line tree range Big is = cc

or_true : (a b : Bool) → b ≡ true → (a || b) ≡ true
or_true true b e = refl
or_true false b e = e

held_none : (past : Past) → past.held ≡ 0 → (past.held == 0) ≡ true
held_none past none = eq-eqb past.held 0 none

needs_none : (past : Past) (deed : LineDeed) (reply : Reply) → past.held ≡ 0 → NeedsNoSearch true past deed reply
needs_none past deed reply none = or_true (not (is_lock deed && is_held reply)) (past.held == 0) (held_none past none)

held_now : (past : Past) (turn : Turn) → turn.waits ≡ false → (if turn.waits then past.held + 1 else 0) ≡ 0
held_now past turn e = by_test turn.waits e
  where
    by_test : (b : Bool) → b ≡ false → (if b then past.held + 1 else 0) ≡ 0
    by_test true h = cc
    by_test false h = refl

held_once : (past : Past) (turn : Turn) → past.held ≡ 0 → (if turn.waits then past.held + 1 else 0) ≤ 1
held_once past turn none = by_test turn.waits
  where
    by_test : (b : Bool) → (if b then past.held + 1 else 0) ≤ 1
    by_test true = omega (arith, none)
    by_test false = omega arith

-- it asks at a line that was not held
pub asks_move : (setting : Setting) (old joined new : PassView) (seat : Seat) (tree : ℕ) (range : Interval) (line : Line) (rest : List Line) (joins : List Receipt) (ask : Receipt) →
    IsNextAsk seat.turn tree range line rest → AreJoined setting (bar_of setting seat.turn) old joined seat.turn.txn 0 joins → IsSound setting old →
    IsAsked setting (bar_of setting seat.turn) joins joined new seat.turn.txn (Ask tree range Granted) ask →
    MovesBy true setting old.front new.front seat (idle (turn_after seat.turn (asks joins ask))) (joins ++ ask ∷ []) (asks joins ask)
asks_move setting old joined new seat tree range line rest joins ask next chain sound asked =
    let all = joined_is setting (bar_of setting seat.turn) old joined seat.turn.txn 0 joins chain sound in
    let happens = asked.happens in
    let h = happened setting joined new seat.turn.txn (Ask tree range Granted) ask happens in
    record {
      may = λ past fits.
          subst (λ (ls : List Line). IsMove true setting new.front (record { turn = seat.turn; past = past }) ls (asks joins ask)) (sym next.lines) (
            attempt_found setting old joined new seat.turn.txn (bar_of setting seat.turn) joins (Ask tree range Granted) ask past.since chain sound asked fits.seen,
            asks_line tree range line.deed next.asks_it,
            next.asks_it ∙ ap (λ (d : Deed). Some d) (sym (ap (λ (e : Event). question e.deed) happens.event)),
            needs_none past line.deed (reply_in ask.event.deed) (fits.held next.goes),
          );
      turn = refl;
      inside = (omega (arith, h.inside), inside_on setting joined.front new.front joins happens.goes.front all.inside);
      late = (let g = front_longer setting old.front joined.front all.goes.front in omega (arith, g, h.looked, h.waited));
      past = λ past fits. record {
        seen = h.inside;
        held = held_now past (turn_after seat.turn (asks joins ask));
        left = λ free. refl;
        once = λ unlisted. held_once past (turn_after seat.turn (asks joins ask)) (fits.held next.goes);
      };
      made_by = refl;
    }

-- What a search behind a held ask came to: its receipts lie behind the ask, and the pass has seen them.
pub record HasSearched (setting : Setting) (asked new : List Event) (txn : ℕ) (wishes : List Wish) (ask : Receipt) (found : List Receipt) : Type 0 where
  pub front : IsFront asked new
  pub last : behind (ask.place + 1) found ≤ place_after setting new
  pub is_search : IsSearch txn wishes [] (wishes_of (named_by (reply_in ask.event.deed)) wishes) found

-- it waits and is registered, or its search found a walk and its release is next
abbrev pub searched_seat : Turn → Seat
searched_seat turn = record { turn = turn; busy = false; listed = turn.waits }

listed_held : (past : Past) (turn : Turn) → turn.waits ≡ false → (if turn.waits then past.held + 1 else 0) ≤ 1
listed_held past turn unlisted = omega (arith, held_now past turn unlisted)

-- A pass asked at a lock line, was held, and searched among these wishes: whether it waited before or not.
pub waits_move : (setting : Setting) (old joined asked new : PassView) (seat : Seat) (tree : ℕ) (range : Interval) (line : Line) (rest : List Line) (joins : List Receipt) (ask : Receipt)
    (wishes : List Wish) (found : List Receipt) → seat.turn.lines ≡ line ∷ rest → line_question line.deed ≡ Some (Ask tree range Granted) → IsTrue (is_lock line.deed && is_held (reply_in ask.event.deed)) → AreWishes wishes seat.turn.txn line.deed →
    AreJoined setting (bar_of setting seat.turn) old joined seat.turn.txn 0 joins → IsSound setting old →
    IsAsked setting (bar_of setting seat.turn) joins joined asked seat.turn.txn (Ask tree range Granted) ask → HasSearched setting asked.front new.front seat.turn.txn wishes ask found →
    MovesBy true setting old.front new.front seat (searched_seat (turn_after seat.turn (waits joins ask wishes found))) (joins ++ ask ∷ found) (waits joins ask wishes found)
waits_move setting old joined asked new seat tree range line rest joins ask wishes found lines asks_it held are chain sound was searched =
    let turn = seat.turn in
    let all = joined_is setting (bar_of setting turn) old joined turn.txn 0 joins chain sound in
    let happens = was.happens in
    let h = happened setting joined asked turn.txn (Ask tree range Granted) ask happens in
    let grown = front_longer setting asked.front new.front searched.front in
    let (more, is) = searched.front in
    record {
      may = λ past fits.
          let found_room = attempt_found setting old joined asked turn.txn (bar_of setting turn) joins (Ask tree range Granted) ask past.since chain sound was fits.seen in
          subst (λ (ls : List Line). IsMove true setting new.front (record { turn = turn; past = past }) ls (waits joins ask wishes found)) (sym lines) (
            subst (λ (es : List Event). IsAttempt setting es (bar_of setting turn) past.since joins ask.place) (sym is)
                (attempt_stays setting asked.front more (bar_of setting turn) past.since joins ask.place (omega (arith, h.inside)) (inside_on setting joined.front asked.front joins happens.goes.front all.inside) found_room),
            asks_line tree range line.deed asks_it,
            asks_it ∙ ap (λ (d : Deed). Some d) (sym (ap (λ (e : Event). question e.deed) happens.event)),
            held,
            are,
            searched.is_search,
          );
      turn = refl;
      inside = (omega (arith, h.inside, grown), inside_on setting joined.front new.front joins (front_on joined.front asked.front new.front happens.goes.front searched.front) all.inside);
      late = (let g = front_longer setting old.front joined.front all.goes.front in omega (arith, g, h.looked, h.waited));
      past = λ past fits. record {
        seen = searched.last;
        held = held_now past (turn_after turn (waits joins ask wishes found));
        left = λ free. refl;
        once = listed_held past (turn_after turn (waits joins ask wishes found));
      };
      made_by = refl;
    }

-- it is out of locks
pub stops_move : (setting : Setting) (old joined new : PassView) (seat : Seat) (tree : ℕ) (range : Interval) (line : Line) (rest : List Line) (joins : List Receipt) (place rows : ℕ) →
    seat.turn.lines ≡ line ∷ rest → line_question line.deed ≡ Some (Ask tree range Granted) → 1 ≤ setting.plan.trees → AreJoined setting (bar_of setting seat.turn) old joined seat.turn.txn 0 joins → IsSound setting old →
    FaultAt setting joined new (AskCaused setting (bar_of setting seat.turn) joins joined new (OutOfLocks place rows)) →
    MovesBy true setting old.front new.front seat (idle (turn_after seat.turn (stops joins place rows))) joins (stops joins place rows)
stops_move setting old joined new seat tree range line rest joins place rows lines asks_it trees chain sound at =
    let turn = seat.turn in
    let all = joined_is setting (bar_of setting turn) old joined turn.txn 0 joins chain sound in
    record {
      may = λ past fits.
          subst (λ (ls : List Line). IsMove true setting new.front (record { turn = turn; past = past }) ls (stops joins place rows)) (sym lines) (
            stop_found setting old joined new turn.txn (bar_of setting turn) joins place rows past.since trees chain sound at fits.seen,
            asks_line tree range line.deed asks_it,
          );
      turn = refl;
      inside = inside_on setting joined.front new.front joins at.watches.goes.front all.inside;
      late = (let g = front_longer setting old.front joined.front all.goes.front in let k = front_longer setting joined.front at.seen at.looked in omega (arith, g, k, at.cause.place_is));
      past = λ past fits. record {
        seen = (let k = front_longer setting at.seen new.front at.waited in omega (arith, k, at.cause.place_is));
        held = λ w. refl;
        left = λ free. refl;
        once = λ unlisted. omega arith;
      };
      made_by = refl;
    }

both_true : (a b : Bool) → a ≡ true → b ≡ false → (a && not b) ≡ true
both_true true false e k = refl
both_true true true e k = cc
both_true false b e k = cc

-- it was busy in the midst of its joins
pub leaves_move : (setting : Setting) (old joined new : PassView) (seat : Seat) (tree : ℕ) (range : Interval) (line : Line) (rest : List Line) (joins : List Receipt) →
    IsNextAsk seat.turn tree range line rest → seat.busy ≡ false → AreJoined setting (bar_of setting seat.turn) old joined seat.turn.txn 0 joins → IsSound setting old → joins ≢ [] → length joins ≤ setting.plan.trees →
    IsFront joined.front new.front → MovesBy true setting old.front new.front seat (record seat { busy = true }) joins (leaves joins)
leaves_move setting old joined new seat tree range line rest joins next idle chain sound some few (more, is) =
    let turn = seat.turn in
    let all = joined_is setting (bar_of setting turn) old joined turn.txn 0 joins chain sound in
    record {
      may = λ past fits.
          let full = begun_full setting old joined turn.txn (bar_of setting turn) joins past.since chain sound some fits.seen in
          subst (λ (ls : List Line). IsMove true setting new.front (record { turn = turn; past = past }) ls (leaves joins)) (sym next.lines) (
            both_true (past.held == 0) past.left (held_none past (fits.held next.goes)) (fits.left idle),
            asks_line tree range line.deed next.asks_it,
            (subst (λ (es : List Event). AreJoins setting es (bar_of setting turn) past.since joins) (sym is) (joins_stay setting joined.front more (bar_of setting turn) past.since joins all.inside full), few),
          );
      turn = refl;
      inside = inside_on setting joined.front new.front joins (more, is) all.inside;
      late = begun_late setting old joined turn.txn (bar_of setting turn) joins chain some;
      past = λ past fits. record {
        seen = (let last = all.last past.since fits.seen in let k = front_longer setting joined.front new.front (more, is) in omega (arith, last, k));
        held = held_now past turn;
        left = λ free. cc;
        once = λ unlisted. held_once past turn (fits.held next.goes);
      };
      made_by = refl;
    }

-- its lines are over
pub ends_move : (setting : Setting) (history : List Event) (seat : Seat) (line : Line) (rest : List Line) → seat.turn.lines ≡ line ∷ rest → seat.turn.waits ≡ false → IsTrue (is_last line.deed) →
    MovesBy true setting history history seat (idle (turn_after seat.turn ends)) [] ends
ends_move setting history seat line rest lines goes is = record {
  may = λ past fits. subst (λ (ls : List Line). IsMove true setting history (record { turn = seat.turn; past = past }) ls ends) (sym lines) is;
  turn = refl;
  inside = tt;
  late = tt;
  past = λ past fits. record {
    seen = fits.seen;
    held = held_now past (turn_after seat.turn ends);
    left = λ free. refl;
    once = λ unlisted. held_once past (turn_after seat.turn ends) (fits.held goes);
  };
  made_by = refl;
}

-- it says that it is a big one
pub grows_move : (setting : Setting) (history : List Event) (seat : Seat) (line : Line) (rest : List Line) → seat.turn.lines ≡ line ∷ rest → seat.turn.waits ≡ false → IsTrue (is_big line.deed) →
    MovesBy true setting history history seat (idle (turn_after seat.turn grows)) [] grows
grows_move setting history seat line rest lines goes is = record {
  may = λ past fits. subst (λ (ls : List Line). IsMove true setting history (record { turn = seat.turn; past = past }) ls grows) (sym lines) is;
  turn = refl;
  inside = tt;
  late = tt;
  past = λ past fits. record {
    seen = fits.seen;
    held = held_now past (turn_after seat.turn grows);
    left = λ free. refl;
    once = λ unlisted. held_once past (turn_after seat.turn grows) (fits.held goes);
  };
  made_by = refl;
}

-- it joins the runs of neighbours in a tree
pub escalates_move : (setting : Setting) (old new : PassView) (seat : Seat) (tree : ℕ) (line : Line) (rest : List Line) (join : Receipt) → seat.turn.lines ≡ line ∷ rest → seat.turn.waits ≡ false →
    line.deed ≡ Escalate tree → Happens setting old new seat.turn.txn (Join tree 0 0) join → MovesBy true setting old.front new.front seat (idle (turn_after seat.turn (escalates join))) (join ∷ []) (escalates join)
escalates_move setting old new seat tree line rest join lines goes is happens =
    let h = happened setting old new seat.turn.txn (Join tree 0 0) join happens in
    record {
      may = λ past fits.
          subst (λ (ls : List Line). IsMove true setting new.front (record { turn = seat.turn; past = past }) ls (escalates join)) (sym lines)
          (subst (λ (d : LineDeed). MayDo true setting new.front (record { turn = seat.turn; past = past }) d (escalates join)) (sym is)
          (refl, ap (λ (d : Deed). Some d) (sym (ap (λ (e : Event). question e.deed) happens.event))));
      turn = refl;
      inside = tt;
      late = omega (arith, h.looked, h.waited);
      past = λ past fits. record {
        seen = h.inside;
        held = held_now past (turn_after seat.turn (escalates join));
        left = λ free. refl;
        once = λ unlisted. held_once past (turn_after seat.turn (escalates join)) (fits.held goes);
      };
      made_by = refl;
    }

-- it gives back
pub frees_move : (setting : Setting) (old new : PassView) (seat : Seat) (r : Release) (rs : List Release) (free : Receipt) → seat.turn.lines ≡ [] → seat.turn.waits ≡ false → seat.turn.releases ≡ r ∷ rs →
    Happens setting old new seat.turn.txn (Free r.tree r.range r.first 0) free →
    MovesBy true setting old.front new.front seat (record seat { turn = turn_after seat.turn (frees free); busy = false }) (free ∷ []) (frees free)
frees_move setting old new seat r rs free lines goes releases happens =
    let h = happened setting old new seat.turn.txn (Free r.tree r.range r.first 0) free happens in
    record {
      may = λ past fits.
          subst (λ (ls : List Line). IsMove true setting new.front (record { turn = seat.turn; past = past }) ls (frees free)) (sym lines)
          (subst (λ (fs : List Release). MayFree past.since fs (frees free)) (sym releases) (omega (arith, fits.seen, h.looked, h.waited), ap (λ (e : Event). question e.deed) happens.event));
      turn = refl;
      inside = tt;
      late = omega (arith, h.looked, h.waited);
      past = λ past fits. record {
        seen = h.inside;
        held = held_now past (turn_after seat.turn (frees free));
        left = λ free. refl;
        once = λ unlisted. held_once past (turn_after seat.turn (frees free)) (fits.held goes);
      };
      made_by = refl;
    }
