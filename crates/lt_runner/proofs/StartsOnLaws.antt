-- What a start or a retry makes of a transaction that waits, whatever others do meanwhile.
use Rattle.std.proofs.Common.{◌≡◌, ℕ, ◌+◌, ◌≤◌, List, [], ◌∷◌, ◌++◌, Bool, true, false, ◌&&◌}
use Rattle.std.proofs.Common.{◌||◌, ◌==◌, not, if◌then◌else◌, IsTrue, Option, Some, None, Result, Ok, Err, zero}
use Rattle.std.proofs.Common.{inl, inr, refl, sym, ap, subst, ◌∙◌, arith, append_assoc, append-nil}
use Rattle.std.specs.List.{AllByRecursion, find}
use Rattle.std.proofs.lemmas.List.{map-append}
use Rattle.lt_seq.specs.declared.event.Deed.{Deed}
use Rattle.lt_seq.specs.declared.event.Reply.{Reply}
use Rattle.lt_seq.specs.declared.event.Reply.TheVariants.{Granted, Buffered, HeldBy}
use Rattle.lt_seq.specs.declared.event.Event.{Event}
use Rattle.lt_seq.specs.declared.event.Receipt.{Receipt}
use Rattle.lt_seq.specs.declared.fault.Fault.{Fault}
use Rattle.lt_seq.specs.declared.fault.Fault.TheVariants.{OutOfMemory, Busy, HistoryFull, OutOfLocks}
use Rattle.lt_seq.specs.Table.{Setting}
use Rattle.lt_seq.specs.Questions.{question, events_of, named_by, named_in}
use Rattle.lt_seq.specs.Yard.{PassView, HasAll, Goes, IsSound, Happens, AskAnswers, AreJoined, IsAsked, place_after, event_after}
use Rattle.lt_seq.proofs.HistoryLaws.{front_itself}
use Rattle.lt_seq.proofs.YardLaws.{goes_then}
use Rattle.lt_trace.specs.declared.line.Line.{Line}
use Rattle.lt_trace.specs.declared.line.LineDeed.{LineDeed}
use Rattle.lt_trace.specs.declared.line.LineDeed.TheVariants.{Lock}
use Rattle.lt_requests.specs.declared.wish.Wish.{Wish}
use Rattle.lt_requests.specs.declared.cycle.Edge.{Edge}
use Rattle.lt_requests.specs.declared.started.Started.{Started}
use Rattle.lt_requests.specs.declared.started.Started.TheVariants.{Granted as StartedGranted, Waits, Deadlock}
use Rattle.lt_requests.specs.Search.{IsSearch, wishes_of, edges_in, edges_of, waiter_in}
use Rattle.lt_requests.specs.Walks.{cycle_of}
use Rattle.lt_requests.specs.Started.{AreMade, HasFailed, IsGranted, IsSearched, HasFault, IsStarted, deed_for, reply_of}
use Rattle.lt_requests.proofs.RegistryLaws.{registered_ascend}
use Rattle.lt_requests.proofs.DoneLaws.{start_answers}
use Rattle.lt_history.specs.declared.outcome.Outcome.TheVariants.{OutOfLocks as StoppedAt}
use Rattle.lt_runner.specs.TurnView.{Turn, Seat}
use Rattle.lt_runner.specs.Turn.{Move, asks, waits, stops, turn_after, reply_in, asked_at, locked_by, walked, granted_to, ending}
use Rattle.lt_runner.specs.Attempt.{behind, bar_of}
use Rattle.lt_runner.specs.Plays.{Past, is_ask, is_lock, is_held, line_question, next_wish, AreWishes, NeedsNoSearch, IsMove}
use Rattle.lt_runner.specs.Seats.{idle, granted_at}
use Rattle.lt_runner.specs.Played.{Search, IsAmong, MovesBy}
use Rattle.lt_runner.specs.PlaysOn.{PlaysOn}
use Rattle.lt_runner.specs.StartsOn.{IsAmongWishes, SearchesOn, MayStart, StartsOn}
use Rattle.lt_runner.proofs.LockMoveLaws.{HasLock, has_lock}
use Rattle.lt_runner.proofs.PlaysOnLaws.{plays_move, all_append}
use Rattle.lt_runner.proofs.StartedLaws.{same_reply, answers_of, not_held}
use Rattle.lt_runner.specs.Calls.{Joining}
use Rattle.lt_runner.proofs.AnswerLaws.{front_longer, inside_on, IsPlaced, HasSearched, searched_seat, joined_is, happened, attempt_found, waits_move, stops_move}

-- Lists and fronts.

behind_append : (since : ℕ) (xs ys : List Receipt) → behind since (xs ++ ys) ≡ behind (behind since xs) ys
behind_append since [] ys = refl
behind_append since (x ∷ xs) ys = behind_append (x.place + 1) xs ys

-- The search.

-- What the calls of a search bring a pass to.
pub record Searching (setting : Setting) (old new : PassView) (txn : ℕ) (receipts : List Receipt) : Type 0 where
  pub goes : Goes setting old new
  pub rights : new.rights ≡ old.rights
  pub mine : new.mine ≡ old.mine ++ receipts
  pub own : AllByRecursion (λ r. r.event.txn ≡ txn) receipts
  pub alone : HasAll setting old → new.front ≡ old.front ++ events_of receipts
  pub last : (since : ℕ) → since ≤ place_after setting old.front → behind since receipts ≤ place_after setting new.front

pub made_is : (setting : Setting) (old new : PassView) (txn : ℕ) (receipts : List Receipt) → AreMade setting old new txn receipts →
    IsSound setting old → Searching setting old new txn receipts
made_is setting old new txn [] same sound =
    subst (λ (p : PassView). Searching setting old p txn []) (sym same) (record {
      goes = record { number = refl; met = omega arith; front = front_itself old.front; sound = sound };
      rights = refl;
      mine = sym (append-nil old.mine);
      own = tt;
      alone = λ all. sym (append-nil old.front);
      last = λ since low. low;
    })
made_is setting old new txn (r ∷ rs) one sound =
    let happens = one.happens in
    let next = one.next in
    let later = made_is setting next new txn rs one.others happens.goes.sound in
    let h = happened setting old next txn (question r.event.deed) r happens in
    record {
      goes = goes_then setting old next new happens.goes later.goes;
      rights = later.rights ∙ happens.rights;
      mine = later.mine ∙ ap (λ (m : List Receipt). m ++ rs) happens.mine ∙ append_assoc old.mine (r ∷ []) rs;
      own = (ap (λ (e : Event). e.txn) happens.event, later.own);
      alone = λ all. later.alone (happens.rights ∙ all)
          ∙ ap (λ (es : List Event). es ++ events_of rs) (happens.front ∙ ap (λ (es : List Event). es ++ r.event ∷ []) (happens.alone all))
          ∙ append_assoc old.front (r.event ∷ []) (events_of rs);
      last = λ since low. later.last (r.place + 1) h.inside;
    }

-- Lock lines.

-- an ask at a lock line, with the walk that a search behind it found
at_lock : (turn : Turn) (wish : Wish) (reply : Reply) (walk : Option (List Edge)) (at : HasLock turn.txn wish turn.lines) →
    asked_at turn.lines reply walk turn ≡ locked_by wish.tree wish.range reply walk turn
at_lock turn wish reply walk at =
    ap (λ (ls : List Line). asked_at ls reply walk turn) at.next
    ∙ ap (λ (d : LineDeed). asked_at (record at.line { deed = d } ∷ at.rest) reply walk turn) at.lock

pub granted_is : (turn : Turn) (wish : Wish) (buffered : Bool) (at : HasLock turn.txn wish turn.lines) →
    granted_at turn buffered ≡ granted_to wish.tree wish.range buffered turn
granted_is turn wish buffered at =
    ap (λ (ls : List Line). granted_at (record turn { lines = ls }) buffered) at.next
    ∙ ap (λ (d : LineDeed). granted_at (record turn { lines = record at.line { deed = d } ∷ at.rest }) buffered) at.lock
    ∙ ap (λ (ls : List Line). granted_to wish.tree wish.range buffered (record turn { lines = ls }))
    (ap (λ (d : LineDeed). record at.line { deed = d } ∷ at.rest) (sym at.lock) ∙ sym at.next)

asks_it : (turn : Turn) (wish : Wish) (at : HasLock turn.txn wish turn.lines) → line_question at.line.deed ≡ Some (deed_for wish)
asks_it turn wish at = ap line_question at.lock

-- It was granted.

by_buffer : (wish : Wish) (turn : Turn) (buffered : Bool) →
    locked_by wish.tree wish.range (if buffered then Buffered else Granted) None turn ≡ granted_to wish.tree wish.range buffered turn
by_buffer wish turn true = refl
by_buffer wish turn false = refl

needs_none : (past : Past) (deed : LineDeed) (reply : Reply) → is_held reply ≡ false → NeedsNoSearch true past deed reply
needs_none past deed reply free = by_tests (is_lock deed) (is_held reply) free
  where
    by_tests : (a b : Bool) → b ≡ false → IsTrue (not (a && b) || (true && past.held == 0))
    by_tests true false e = refl
    by_tests false false e = refl
    by_tests a true e = absurd cc

held_none : (waiting : Bool) (n : ℕ) → waiting ≡ false → (if waiting then n + 1 else 0) ≡ 0
held_none true n e = absurd cc
held_none false n e = refl

-- whether it waited before or not
pub grants_move : (setting : Setting) (old joined new : PassView) (seat : Seat) (wish : Wish) (joins : List Receipt) (ask : Receipt)
    (buffered : Bool) →
    HasLock seat.turn.txn wish seat.turn.lines → reply_in ask.event.deed ≡ (if buffered then Buffered else Granted) →
    AreJoined setting (bar_of setting seat.turn) old joined seat.turn.txn 0 joins → IsSound setting old →
    IsAsked setting (bar_of setting seat.turn) joins joined new seat.turn.txn (deed_for wish) ask →
    MovesBy true setting old.front new.front seat (idle (granted_at seat.turn buffered)) (joins ++ ask ∷ []) (asks joins ask)
grants_move setting old joined new seat wish joins ask buffered at reply chain sound asked =
    let turn = seat.turn in
    let all = joined_is setting (bar_of setting turn) old joined turn.txn 0 joins chain sound in
    let happens = asked.happens in
    let h = happened setting joined new turn.txn (deed_for wish) ask happens in
    let turn_is : granted_at turn buffered ≡ turn_after turn (asks joins ask) =
    granted_is turn wish buffered at ∙ sym (by_buffer wish turn buffered)
    ∙ ap (λ (r : Reply). locked_by wish.tree wish.range r None turn) (sym reply) ∙ sym (at_lock turn wish (reply_in ask.event.deed) None at) in
    let quiet : (turn_after turn (asks joins ask)).waits ≡ false = ap (λ (t : Turn). t.waits) (sym turn_is ∙ granted_is turn wish buffered at) in
    record {
      may = λ past fits.
          subst (λ (ls : List Line). IsMove true setting new.front (record { turn = turn; past = past }) ls (asks joins ask)) (sym at.next) (
            attempt_found setting old joined new turn.txn (bar_of setting turn) joins (deed_for wish) ask past.since chain sound asked fits.seen,
            subst (λ (d : LineDeed). IsTrue (is_ask d)) (sym at.lock) refl,
            asks_it turn wish at ∙ ap (λ (d : Deed). Some d) (sym (ap (λ (e : Event). question e.deed) happens.event)),
            needs_none past at.line.deed (reply_in ask.event.deed) (ap is_held reply ∙ not_held buffered),
          );
      turn = turn_is;
      inside = (omega (arith, h.inside), inside_on setting joined.front new.front joins happens.goes.front all.inside);
      late = (let g = front_longer setting old.front joined.front all.goes.front in omega (arith, g, h.looked, h.waited));
      past = λ past fits. record {
        seen = h.inside;
        held = λ goes. held_none (turn_after turn (asks joins ask)).waits past.held quiet;
        left = λ free. refl;
        once = λ unlisted. omega (arith, held_none (turn_after turn (asks joins ask)).waits past.held quiet);
      };
      made_by = refl;
    }

asked_made : (setting : Setting) (old joined new : PassView) (txn bar : ℕ) (joins : List Receipt) (deed : Deed) (ask : Receipt) →
    AreJoined setting bar old joined txn 0 joins → IsSound setting old → Happens setting joined new txn deed ask →
    Searching setting old new txn (joins ++ ask ∷ [])
asked_made setting old joined new txn bar joins deed ask chain sound happens =
    let all = joined_is setting bar old joined txn 0 joins chain sound in
    let h = happened setting joined new txn deed ask happens in
    record {
      goes = goes_then setting old joined new all.goes happens.goes;
      rights = happens.rights ∙ all.rights;
      mine = happens.mine ∙ ap (λ (rs : List Receipt). rs ++ ask ∷ []) all.mine ∙ append_assoc old.mine joins (ask ∷ []);
      own = all_append (λ r. r.event.txn ≡ txn) joins (ask ∷ []) all.own (ap (λ (e : Event). e.txn) happens.event, tt);
      alone = λ every. happens.front ∙ ap (λ (es : List Event). es ++ ask.event ∷ []) (happens.alone (all.rights ∙ every) ∙ all.alone every)
          ∙ append_assoc old.front (events_of joins) (ask.event ∷ [])
          ∙ ap (λ (es : List Event). old.front ++ es) (sym (map-append (λ (r : Receipt). r.event) joins (ask ∷ [])));
      last = λ since low. subst (λ (n : ℕ). n ≤ place_after setting new.front) (sym (behind_append since joins (ask ∷ []))) h.inside;
    }

searched_made : (setting : Setting) (old asked new : PassView) (txn : ℕ) (before found : List Receipt) → Searching setting old asked txn before →
    Searching setting asked new txn found → Searching setting old new txn (before ++ found)
searched_made setting old asked new txn before found one two = record {
  goes = goes_then setting old asked new one.goes two.goes;
  rights = two.rights ∙ one.rights;
  mine = two.mine ∙ ap (λ (rs : List Receipt). rs ++ found) one.mine ∙ append_assoc old.mine before found;
  own = all_append (λ r. r.event.txn ≡ txn) before found one.own two.own;
  alone = λ every. two.alone (one.rights ∙ every) ∙ ap (λ (es : List Event). es ++ events_of found) (one.alone every)
      ∙ append_assoc old.front (events_of before) (events_of found)
      ∙ ap (λ (es : List Event). old.front ++ es) (sym (map-append (λ (r : Receipt). r.event) before found));
  last = λ since low. subst (λ (n : ℕ). n ≤ place_after setting new.front) (sym (behind_append since before found))
      (two.last (behind since before) (one.last since low));
}

plays_made : (setting : Setting) (found : List Search) (old new : PassView) (was is : Seat) (made : List Receipt) (move : Move) →
    Searching setting old new was.turn.txn made →
    IsAmong found was.turn.txn move → MovesBy true setting old.front new.front was is made move → PlaysOn setting found old new was is
plays_made setting found old new was is made move by among moves =
    plays_move setting found old new was is made move by.goes by.rights by.mine by.own by.alone among moves

granted_plays : (setting : Setting) (bar : ℕ) (seat : Seat) (wish : Wish) (old new : PassView) (place : ℕ) (buffered : Bool) →
    bar ≡ bar_of setting seat.turn →
    IsSound setting old → HasLock seat.turn.txn wish seat.turn.lines → IsGranted setting bar wish old new place buffered →
    PlaysOn setting [] old new seat (idle (granted_at seat.turn buffered))
granted_plays setting bar seat wish old new place buffered same sound at granted =
    let ask = granted.ask in
    let answers = answers_of setting bar wish.txn old new seat.turn (deed_for wish) (Ok ask) same at.own granted.answers in
    plays_made setting [] old new seat (idle (granted_at seat.turn buffered)) (answers.joins ++ ask ∷ []) (asks answers.joins ask)
    (asked_made setting old answers.joined new seat.turn.txn (bar_of setting seat.turn) answers.joins
    (deed_for wish) ask answers.chain sound answers.answer.happens)
    tt
    (grants_move setting old answers.joined new seat wish answers.joins ask buffered at
    (same_reply ask.event.deed ∙ granted.reply_is) answers.chain sound answers.answer)

-- It was held.

lock_held : (deed : LineDeed) (wish : Wish) (reply : Reply) (owners : List ℕ) → deed ≡ Lock wish.tree wish.range → reply ≡ HeldBy owners →
    IsTrue (is_lock deed && is_held reply)
lock_held deed wish reply owners lock held =
    subst (λ (d : LineDeed). IsTrue (is_lock d && is_held reply)) (sym lock) (subst (λ (r : Reply). IsTrue (is_held r)) (sym held) refl)

are_wishes : (seat : Seat) (wish : Wish) (wishes : List Wish) (at : HasLock seat.turn.txn wish seat.turn.lines) → IsAmongWishes seat wish wishes →
    AreWishes wishes seat.turn.txn at.line.deed
are_wishes seat wish wishes at among = (
  registered_ascend wishes among.ascend,
  subst (λ (n : ℕ). find (λ w. w.txn == n) wishes ≡ Some wish) at.own among.own ∙ sym (ap (next_wish seat.turn.txn) (sym at.next) ∙ among.next),
)

-- The turn behind the search.
held_turn : (setting : Setting) (before : List Event) (seat : Seat) (wish : Wish) (wishes : List Wish) (pass : ℕ) (ask : Receipt)
    (found : List Receipt) (owners : List ℕ) (walk : Option (List Edge)) →
    HasLock seat.turn.txn wish seat.turn.lines → ask.event ≡ event_after setting before pass seat.turn.txn (deed_for wish) →
    reply_of ask.event.deed ≡ HeldBy owners →
    walk ≡ cycle_of (edges_of wish.txn ask.place (wishes_of owners wishes) ++ edges_in wishes found) wish.txn → (joins : List Receipt) →
    walked walk seat.turn ≡ turn_after seat.turn (waits joins ask wishes found)
held_turn setting before seat wish wishes pass ask found owners walk at event reply is joins =
    ap (λ (w : Option (List Edge)). walked w turn) walk_is
    ∙ ap (λ (r : Reply). locked_by wish.tree wish.range r (cycle_of (edges_in wishes (ask ∷ found)) turn.txn) turn)
    (sym (same_reply ask.event.deed ∙ reply))
    ∙ sym (at_lock turn wish (reply_in ask.event.deed) (cycle_of (edges_in wishes (ask ∷ found)) turn.txn) at)
  where
    turn : Turn
    turn = seat.turn

    waiter : waiter_in ask ask.event.deed ≡ turn.txn
    waiter = ap (λ (e : Event). waiter_in (record { place = ask.place; event = e }) e.deed) event

    named : named_in ask.event.deed ≡ owners
    named = ap (λ (e : Event). named_in e.deed) event ∙ sym (ap (λ (e : Event). named_by (reply_of e.deed)) event) ∙ ap named_by reply

    walk_is : walk ≡ cycle_of (edges_in wishes (ask ∷ found)) turn.txn
    walk_is = is ∙ ap (λ (n : ℕ). cycle_of (edges_of n ask.place (wishes_of owners wishes) ++ edges_in wishes found) n) at.own
        ∙ ap (λ (ns : List ℕ). cycle_of (edges_of turn.txn ask.place (wishes_of ns wishes) ++ edges_in wishes found) turn.txn) (sym named)
        ∙ ap (λ (n : ℕ). cycle_of (edges_of n ask.place (wishes_of (named_in ask.event.deed) wishes) ++ edges_in wishes found) turn.txn) (sym waiter)

searched_plays : (setting : Setting) (bar : ℕ) (seat : Seat) (wish : Wish) (wishes : List Wish) (old new : PassView) (owners : List ℕ)
    (walk : Option (List Edge)) → bar ≡ bar_of setting seat.turn →
    IsSound setting old → HasLock seat.turn.txn wish seat.turn.lines → IsAmongWishes seat wish wishes →
    IsSearched setting bar wish wishes old new owners walk →
    SearchesOn setting wishes old new seat (searched_seat (walked walk seat.turn))
searched_plays setting bar seat wish wishes old new owners walk same sound at among was = record {
  place = ask.place;
  late = (let g = front_longer setting old.front joined.front all.goes.front in omega (arith, g, h.looked, h.waited));
  inside = (let k = front_longer setting asked.front new.front searching.goes.front in omega (arith, h.inside, k));
  plays = plays_made setting (record { txn = turn.txn; place = ask.place; wishes = wishes } ∷ []) old new seat (searched_seat (walked walk turn))
      (joins ++ ask ∷ found) (waits joins ask wishes found)
      by (zero, omega arith, refl)
      (subst (λ (t : Turn). MovesBy true setting old.front new.front seat (searched_seat t) (joins ++ ask ∷ found) (waits joins ask wishes found))
      (sym turn_is)
      (waits_move setting old joined asked new seat wish.tree wish.range at.line at.rest joins ask wishes found at.next (asks_it turn wish at)
      (lock_held at.line.deed wish (reply_in ask.event.deed) owners at.lock reply)
      (are_wishes seat wish wishes at among) answers.chain sound answers.answer searched));
}
  where
    turn : Turn
    turn = seat.turn

    ask : Receipt
    ask = was.ask

    asked : PassView
    asked = was.asked

    answers : AskAnswers setting (bar_of setting turn) old asked turn.txn (deed_for wish) (Ok ask)
    answers = answers_of setting bar wish.txn old asked turn (deed_for wish) (Ok ask) same at.own was.held.answers

    joins : List Receipt
    joins = answers.joins

    joined : PassView
    joined = answers.joined

    found : List Receipt
    found = was.searched.receipts

    all : Joining setting old joined turn.txn 0 joins
    all = joined_is setting (bar_of setting turn) old joined turn.txn 0 joins answers.chain sound

    h : IsPlaced setting joined asked answers.answer.happens.seen ask.place
    h = happened setting joined asked turn.txn (deed_for wish) ask answers.answer.happens

    reply : reply_in ask.event.deed ≡ HeldBy owners
    reply = same_reply ask.event.deed ∙ was.held.reply_is

    searching : Searching setting asked new turn.txn found
    searching = subst (λ (n : ℕ). Searching setting asked new n found) at.own
        (made_is setting asked new wish.txn found was.searched.made answers.answer.happens.goes.sound)

    searched : HasSearched setting asked.front new.front turn.txn wishes ask found
    searched = record {
      front = searching.goes.front;
      last = searching.last (ask.place + 1) h.inside;
      is_search = subst (λ (ns : List ℕ). IsSearch turn.txn wishes [] (wishes_of ns wishes) found) (sym (ap named_by reply))
          (subst (λ (n : ℕ). IsSearch n wishes [] (wishes_of owners wishes) found) at.own was.searched.is_search);
    }

    by : Searching setting old new turn.txn (joins ++ ask ∷ found)
    by = subst (Searching setting old new turn.txn) (append_assoc joins (ask ∷ []) found)
        (searched_made setting old asked new turn.txn (joins ++ ask ∷ []) found
        (asked_made setting old joined asked turn.txn (bar_of setting turn) joins
        (deed_for wish) ask answers.chain sound answers.answer.happens) searching)

    turn_is : walked walk turn ≡ turn_after turn (waits joins ask wishes found)
    turn_is =
        held_turn setting answers.answer.happens.before seat wish wishes joined.number
        ask found owners walk at answers.answer.happens.event was.held.reply_is was.searched.walk joins

-- It was out of locks.

stopped_plays : (setting : Setting) (bar : ℕ) (seat : Seat) (wish : Wish) (wishes : List Wish) (old new : PassView) (place rows : ℕ) →
    bar ≡ bar_of setting seat.turn → 1 ≤ setting.plan.trees →
    IsSound setting old → HasLock seat.turn.txn wish seat.turn.lines → HasFault setting bar wish wishes old new (OutOfLocks place rows) →
    PlaysOn setting [] old new seat (idle (ending (StoppedAt place rows) seat.turn))
stopped_plays setting bar seat wish wishes old new place rows same trees sound at (inl short) = absurd (let k = short.1 in cc)
stopped_plays setting bar seat wish wishes old new place rows same trees sound at (inr (inl given)) =
    let answers = answers_of setting bar wish.txn old new seat.turn (deed_for wish) (Err (OutOfLocks place rows)) same at.own given in
    let joins = answers.joins in
    let joined = answers.joined in
    let last = answers.answer in
    let all = joined_is setting (bar_of setting seat.turn) old joined seat.turn.txn 0 joins answers.chain sound in
    plays_move setting [] old new seat (idle (turn_after seat.turn (stops joins place rows))) joins (stops joins place rows)
    (goes_then setting old joined new all.goes last.watches.goes)
    (last.watches.rights ∙ all.rights)
    (last.watches.mine ∙ all.mine)
    all.own
    (λ every. last.watches.alone (all.rights ∙ every) ∙ all.alone every)
    tt
    (stops_move setting old joined new seat wish.tree wish.range at.line at.rest joins place rows at.next
    (asks_it seat.turn wish at) trees answers.chain sound last)
stopped_plays setting bar seat wish wishes old new place rows same trees sound at (inr (inr cut)) = absurd (never cut.cut.failed)
  where
    never : HasFailed setting wish.txn cut.cut.left cut.cut.last new (OutOfLocks place rows) → ⊥
    never (inl short) = let k = short.1 in cc
    never (inr by) = by.3.answer.cause

-- The answer.

pub starts_play_on : (setting : Setting) (bar : ℕ) (seat : Seat) (wish : Wish) (others wishes before : List Wish) (old new : PassView)
    (left : List Wish) (result : Result Started Fault) →
    bar ≡ bar_of setting seat.turn → MayStart setting old wishes → IsSound setting old → IsAmongWishes seat wish wishes →
    IsStarted setting bar wish others wishes before old new left result →
    StartsOn setting wishes old new seat result
starts_play_on setting bar seat wish others wishes before old new left (Ok (StartedGranted place buffered)) same may sound among is =
    granted_plays setting bar seat wish old new place buffered same sound (has_lock seat.turn.txn wish seat.turn.lines among.next) is.0
starts_play_on setting bar seat wish others wishes before old new left (Ok (Waits owners)) same may sound among is =
    searched_plays setting bar seat wish wishes old new owners None same sound (has_lock seat.turn.txn wish seat.turn.lines among.next) among is.0
starts_play_on setting bar seat wish others wishes before old new left (Ok (Deadlock walk)) same may sound among is =
    searched_plays setting bar seat wish wishes old new is.0.0 (Some walk) same sound
    (has_lock seat.turn.txn wish seat.turn.lines among.next) among is.0.1
starts_play_on setting bar seat wish others wishes before old new left (Err OutOfMemory) same may sound among is = tt
starts_play_on setting bar seat wish others wishes before old new left (Err (Busy row holder)) same may sound among is =
    start_answers setting bar wish others wishes before old new left (Err (Busy row holder)) is among.ascend may.all may.places
starts_play_on setting bar seat wish others wishes before old new left (Err (HistoryFull place)) same may sound among is =
    start_answers setting bar wish others wishes before old new left (Err (HistoryFull place)) is among.ascend may.all may.places
starts_play_on setting bar seat wish others wishes before old new left (Err (OutOfLocks place rows)) same may sound among is =
    stopped_plays setting bar seat wish wishes old new place rows same may.trees sound (has_lock seat.turn.txn wish seat.turn.lines among.next) is.0
