-- What a start or a retry by a pass that has all the rights is of the plain scheduler.
use Rattle.std.proofs.Common.{◌≡◌, ℕ, ◌≤◌, List, [], ◌∷◌, ◌++◌, Bool, true, false, Option, Some, None, Result, Ok, Err, if◌then◌else◌, length}
use Rattle.std.proofs.Common.{inl, inr, refl, sym, ap, subst, ◌∙◌, arith, append_assoc, append-nil}
use Rattle.std.proofs.lemmas.List.{map-append}
use Rattle.lt_seq.specs.declared.event.Deed.{Deed}
use Rattle.lt_seq.specs.declared.event.Deed.TheVariants.{Ask, Free, Who, Join}
use Rattle.lt_seq.specs.declared.event.Reply.{Reply}
use Rattle.lt_seq.specs.declared.event.Reply.TheVariants.{Granted, Buffered, HeldBy}
use Rattle.lt_seq.specs.declared.event.Event.{Event}
use Rattle.lt_seq.specs.declared.event.Receipt.{Receipt}
use Rattle.lt_seq.specs.declared.fault.Fault.{Fault}
use Rattle.lt_seq.specs.declared.fault.Fault.TheVariants.{OutOfMemory, Busy, HistoryFull, OutOfLocks}
use Rattle.lt_seq.specs.Table.{Setting}
use Rattle.lt_seq.specs.Questions.{question, receipt_after, events_of, named_by, named_in}
use Rattle.lt_seq.specs.Yard.{PassView, HasAll, Happens, AskAnswers, place_after, event_after}
use Rattle.lt_trace.specs.declared.line.Line.{Line}
use Rattle.lt_trace.specs.declared.line.LineDeed.{LineDeed}
use Rattle.lt_requests.specs.declared.wish.Wish.{Wish}
use Rattle.lt_requests.specs.declared.cycle.Edge.{Edge}
use Rattle.lt_requests.specs.declared.started.Started.{Started}
use Rattle.lt_requests.specs.declared.started.Started.TheVariants.{Granted as StartedGranted, Waits, Deadlock}
use Rattle.lt_requests.specs.Search.{IsSearch, Reaches, searched, wishes_of, new_wishes, question_for, edges_in, edges_of, waiter_in}
use Rattle.lt_requests.specs.Registered.{Ascend}
use Rattle.lt_requests.specs.Walks.{cycle_of}
use Rattle.lt_requests.specs.Started.{AreMade, HasFailed, IsGranted, IsSearched, HasFault, IsStarted, deed_for, reply_of}
use Rattle.lt_requests.proofs.DoneLaws.{few_asked, start_answers}
use Rattle.lt_history.specs.declared.outcome.Outcome.TheVariants.{OutOfLocks as StoppedAt}
use Rattle.lt_runner.specs.TurnView.{Turn}
use Rattle.lt_runner.specs.Turn.{Move, asks, waits, stops, reply_in, asked_at, locked_by, walked, granted_to, ending}
use Rattle.lt_runner.specs.Attempt.{bar_of}
use Rattle.lt_runner.specs.Plays.{is_held}
use Rattle.lt_runner.specs.Seats.{granted_at}
use Rattle.lt_runner.specs.Serial.{attempt, wishes_in, with_turn}
use Rattle.lt_runner.specs.StartsAlone.{MayStartAtOnce, IsAtLock, IsLockMove, IsStartedAtOnce}
use Rattle.lt_runner.proofs.ChoiceLaws.{on_true, on_false}
use Rattle.lt_runner.proofs.AloneLaws.{IsAttemptOf, attempt_asked, attempt_stopped}

-- The search.

same_receipt : (r : Receipt) (place : ℕ) (event : Event) → r.place ≡ place → r.event ≡ event → r ≡ record { place = place; event = event }
same_receipt r place event p e =
    ap (λ (n : ℕ). (let x : Receipt = record { place = n; event = r.event } in x)) p ∙ ap (λ (v : Event). (let x : Receipt = record { place = place; event = v } in x)) e

-- a call's event at once
made_is : (setting : Setting) (old next : PassView) (txn : ℕ) (deed : Deed) (r : Receipt) → old.number ≡ 0 → HasAll setting old → Happens setting old next txn deed r →
    r ≡ receipt_after setting old.front 0 txn deed
made_is setting old next txn deed r number all happens =
    same_receipt r (place_after setting old.front) (event_after setting old.front 0 txn deed)
    (happens.place ∙ ap (place_after setting) (happens.alone all))
    (happens.event ∙ ap (λ (es : List Event). event_after setting es old.number txn deed) (happens.alone all) ∙ ap (λ (n : ℕ). event_after setting old.front n txn deed) number)

pub record IsSearchOf (setting : Setting) (old new : PassView) (txn : ℕ) (wishes steps done listed : List Wish) (rs : List Receipt) : Type 0 where
  pub search_is : rs ≡ searched setting txn wishes steps old.front done listed
  pub front : new.front ≡ old.front ++ events_of rs

pub searched_alone : (setting : Setting) (old new : PassView) (txn : ℕ) (wishes steps done listed : List Wish) (rs : List Receipt) → old.number ≡ 0 → HasAll setting old →
    AreMade setting old new txn rs → IsSearch txn wishes done listed rs → length rs ≤ length steps → IsSearchOf setting old new txn wishes steps done listed rs
searched_alone setting old new txn wishes [] done listed [] number all made is few = record { search_is = refl; front = ap (λ (p : PassView). p.front) made ∙ sym (append-nil old.front) }
searched_alone setting old new txn wishes (s ∷ ss) done [] [] number all made is few = record { search_is = refl; front = ap (λ (p : PassView). p.front) made ∙ sym (append-nil old.front) }
searched_alone setting old new txn wishes (s ∷ ss) done (w ∷ ws) [] number all made is few = absurd is
searched_alone setting old new txn wishes [] done listed (r ∷ rs) number all made is few = absurd (omega (arith, few))
searched_alone setting old new txn wishes (s ∷ ss) done [] (r ∷ rs) number all made is few = absurd is
searched_alone setting old new txn wishes (s ∷ ss) done (w ∷ ws) (r ∷ rs) number all made is few =
    let next = made.next in
    let later : List Wish = ws ++ new_wishes txn (done ++ w ∷ ws) (wishes_of (named_in r.event.deed) wishes) in
    let one : r ≡ receipt_after setting old.front 0 txn (question_for w) =
    made_is setting old next txn (question r.event.deed) r number all made.happens ∙ ap (receipt_after setting old.front 0 txn) is.0 in
    let front : next.front ≡ old.front ++ r.event ∷ [] = made.happens.front ∙ ap (λ (es : List Event). es ++ r.event ∷ []) (made.happens.alone all) in
    let rest = searched_alone setting next new txn wishes ss (done ++ w ∷ []) later rs (made.happens.goes.number ∙ number) (made.happens.rights ∙ all) made.others is.1 (omega (arith, few)) in
    let go = λ (es : List Event) (x : Receipt). x ∷ searched setting txn wishes ss es (done ++ w ∷ []) (ws ++ new_wishes txn (done ++ w ∷ ws) (wishes_of (named_in x.event.deed) wishes)) in
    record {
      search_is = ap (λ (xs : List Receipt). r ∷ xs) rest.search_is ∙ ap (λ (es : List Event). go es r) front ∙ ap (λ (x : Receipt). go (old.front ++ x.event ∷ []) x) one;
      front = rest.front ∙ ap (λ (es : List Event). es ++ events_of rs) front ∙ append_assoc old.front (r.event ∷ []) (events_of rs);
    }

-- those that a search has asked for
record ReachesAll (txn : ℕ) (wishes done listed : List Wish) (rs : List Receipt) : Type 0 where
  asked : List Wish
  reaches : Reaches txn wishes done listed rs asked []

reaches_all : (txn : ℕ) (wishes done listed : List Wish) (rs : List Receipt) → IsSearch txn wishes done listed rs → ReachesAll txn wishes done listed rs
reaches_all txn wishes done [] [] is = record { asked = done; reaches = (refl, refl) }
reaches_all txn wishes done [] (r ∷ rs) is = absurd is
reaches_all txn wishes done (w ∷ ws) [] is = absurd is
reaches_all txn wishes done (w ∷ ws) (r ∷ rs) is =
    let rest = reaches_all txn wishes (done ++ w ∷ []) (ws ++ new_wishes txn (done ++ w ∷ ws) (wishes_of (named_in r.event.deed) wishes)) rs is.1 in
    record { asked = rest.asked; reaches = (is.0, rest.reaches) }

pub few_questions : (txn : ℕ) (wishes : List Wish) (owners : List ℕ) (rs : List Receipt) → Ascend wishes → IsSearch txn wishes [] (wishes_of owners wishes) rs → length rs ≤ length wishes
few_questions txn wishes owners rs ascend is =
    let all = reaches_all txn wishes [] (wishes_of owners wishes) rs is in
    let few = few_asked txn wishes owners all.asked [] rs ascend all.reaches in omega (arith, few)

-- The turn.

-- an ask of a turn at its lock line, with the walk that a search behind it found
at_lock : (turns : List Turn) (turn : Turn) (line : Line) (lines : List Line) (wish : Wish) (wishes : List Wish) (reply : Reply) (walk : Option (List Edge)) → IsAtLock turns turn line lines wish wishes →
    asked_at turn.lines reply walk turn ≡ locked_by wish.tree wish.range reply walk turn
at_lock turns turn line lines wish wishes reply walk at =
    ap (λ (ls : List Line). asked_at ls reply walk turn) at.lines_are
    ∙ ap (λ (d : LineDeed). asked_at (record line { deed = d } ∷ lines) reply walk turn) at.lock

granted_is : (turns : List Turn) (turn : Turn) (line : Line) (lines : List Line) (wish : Wish) (wishes : List Wish) (buffered : Bool) → IsAtLock turns turn line lines wish wishes →
    granted_at turn buffered ≡ granted_to wish.tree wish.range buffered turn
granted_is turns turn line lines wish wishes buffered at =
    ap (λ (ls : List Line). granted_at (record turn { lines = ls }) buffered) at.lines_are
    ∙ ap (λ (d : LineDeed). granted_at (record turn { lines = record line { deed = d } ∷ lines }) buffered) at.lock
    ∙ ap (λ (ls : List Line). granted_to wish.tree wish.range buffered (record turn { lines = ls }))
    (ap (λ (d : LineDeed). record line { deed = d } ∷ lines) (sym at.lock) ∙ sym at.lines_are)

pub same_reply : (d : Deed) → reply_in d ≡ reply_of d
same_reply (Ask tree range reply) = refl
same_reply (Free tree range first count) = refl
same_reply (Who tree range named owners) = refl
same_reply (Join tree before after) = refl

pub answers_of : (setting : Setting) (bar txn : ℕ) (old new : PassView) (turn : Turn) (deed : Deed) (result : Result Receipt Fault) → bar ≡ bar_of setting turn → txn ≡ turn.txn →
    AskAnswers setting bar old new txn deed result → AskAnswers setting (bar_of setting turn) old new turn.txn deed result
answers_of setting bar txn old new turn deed result same own answers =
    subst (λ (n : ℕ). AskAnswers setting (bar_of setting turn) old new n deed result) own (subst (λ (b : ℕ). AskAnswers setting b old new txn deed result) same answers)

-- It was granted.

ask_events : (events : List Event) (joins : List Receipt) (ask : Receipt) (search : List Receipt) → ((events ++ events_of joins) ++ ask.event ∷ []) ++ events_of search ≡ events ++ events_of (joins ++ ask ∷ search)
ask_events events joins ask search =
    append_assoc (events ++ events_of joins) (ask.event ∷ []) (events_of search) ∙ append_assoc events (events_of joins) (ask.event ∷ events_of search)
    ∙ ap (λ (es : List Event). events ++ es) (sym (map-append (λ (r : Receipt). r.event) joins (ask ∷ search)))

by_buffer : (tree : ℕ) (wish : Wish) (turn : Turn) (buffered : Bool) → locked_by wish.tree wish.range (if buffered then Buffered else Granted) None turn ≡ granted_to wish.tree wish.range buffered turn
by_buffer tree wish turn true = refl
by_buffer tree wish turn false = refl

pub not_held : (buffered : Bool) → is_held (if buffered then Buffered else Granted) ≡ false
not_held true = refl
not_held false = refl

started_granted : (setting : Setting) (bar : ℕ) (turns : List Turn) (turn : Turn) (line : Line) (lines : List Line) (wish : Wish) (wishes : List Wish) (old new : PassView) (place : ℕ) (buffered : Bool) →
    bar ≡ bar_of setting turn → MayStartAtOnce setting old wishes → IsAtLock turns turn line lines wish wishes → IsGranted setting bar wish old new place buffered →
    IsLockMove setting turns turn wish old.front new.front (granted_at turn buffered)
started_granted setting bar turns turn line lines wish wishes old new place buffered same may at granted =
    let ask = granted.ask in
    let of = attempt_asked setting old new (deed_for wish) turn ask may.number may.all (answers_of setting bar wish.txn old new turn (deed_for wish) (Ok ask) same at.own granted.answers) in
    let later = old.front ++ events_of of.joins in
    let reply : reply_in ask.event.deed ≡ (if buffered then Buffered else Granted) = same_reply ask.event.deed ∙ granted.reply_is in
    let free : is_held (reply_in ask.event.deed) ≡ false = ap is_held reply ∙ not_held buffered in
    record {
      move = asks of.joins ask;
      move_is = of.move turns true ∙ on_false (is_held (reply_in ask.event.deed)) _ (asks of.joins ask) free;
      front = of.front ∙ sym (append-nil (later ++ ask.event ∷ [])) ∙ ask_events old.front of.joins ask [];
      turn_is = granted_is turns turn line lines wish wishes buffered at ∙ sym (by_buffer wish.tree wish turn buffered)
          ∙ ap (λ (r : Reply). locked_by wish.tree wish.range r None turn) (sym reply) ∙ sym (at_lock turns turn line lines wish wishes (reply_in ask.event.deed) None at);
    }

-- It was held.

-- a held ask and its search
pub record IsHeldMove (setting : Setting) (turns : List Turn) (turn : Turn) (wish : Wish) (wishes : List Wish) (old new : List Event) (found : Option (List Edge)) : Type 0 where
  pub joins : List Receipt
  pub ask : Receipt
  pub search : List Receipt
  pub owners : List ℕ
  pub move_is : attempt setting turns turn true (deed_for wish) old ≡ waits joins ask wishes search
  pub front : new ≡ old ++ events_of (joins ++ ask ∷ search)
  pub reply : reply_in ask.event.deed ≡ HeldBy owners
  pub walk : cycle_of (edges_in wishes (ask ∷ search)) turn.txn ≡ found

abbrev held_by : Setting → List Turn → Turn → List Event → List Receipt → Receipt → List Wish → List ℕ → Move
held_by setting turns turn events joins ask wishes owners =
    waits joins ask wishes (searched setting turn.txn wishes wishes events [] (wishes_of owners wishes))

started_held : (setting : Setting) (bar : ℕ) (turns : List Turn) (turn : Turn) (line : Line) (lines : List Line) (wish : Wish) (wishes : List Wish) (old new : PassView) (owners : List ℕ) (found : Option (List Edge)) →
    bar ≡ bar_of setting turn → MayStartAtOnce setting old wishes → IsAtLock turns turn line lines wish wishes → IsSearched setting bar wish wishes old new owners found →
    IsHeldMove setting turns turn wish wishes old.front new.front found
started_held setting bar turns turn line lines wish wishes old new owners found same may at was = record {
  joins = of.joins;
  ask = ask;
  search = was.searched.receipts;
  owners = owners;
  move_is = of.move turns true
      ∙ on_true (is_held (reply_in ask.event.deed)) (held_by setting turns turn (later ++ ask.event ∷ []) of.joins ask all_wishes (named_by (reply_in ask.event.deed))) (asks of.joins ask) (ap is_held reply)
      ∙ ap (λ (r : Reply). held_by setting turns turn (later ++ ask.event ∷ []) of.joins ask all_wishes (named_by r)) reply
      ∙ ap (λ (ws : List Wish). held_by setting turns turn (later ++ ask.event ∷ []) of.joins ask ws owners) (sym at.all)
      ∙ ap (λ (es : List Event). held_by setting turns turn es of.joins ask wishes owners) (sym of.front)
      ∙ ap (λ (n : ℕ). waits of.joins ask wishes (searched setting n wishes wishes asked.front [] (wishes_of owners wishes))) (sym at.own)
      ∙ ap (waits of.joins ask wishes) (sym search.search_is);
  front = search.front ∙ ap (λ (es : List Event). es ++ events_of was.searched.receipts) of.front ∙ ask_events old.front of.joins ask was.searched.receipts;
  reply = reply;
  walk = ap (λ (n : ℕ). cycle_of (edges_of n ask.place (wishes_of (named_in ask.event.deed) wishes) ++ edges_in wishes was.searched.receipts) turn.txn) waiter
      ∙ ap (λ (ns : List ℕ). cycle_of (edges_of turn.txn ask.place (wishes_of ns wishes) ++ edges_in wishes was.searched.receipts) turn.txn) named
      ∙ ap (λ (n : ℕ). cycle_of (edges_of n ask.place (wishes_of owners wishes) ++ edges_in wishes was.searched.receipts) n) (sym at.own) ∙ sym was.searched.walk;
}
  where
    ask : Receipt
    ask = was.ask

    asked : PassView
    asked = was.asked

    all_wishes : List Wish
    all_wishes = wishes_in (with_turn (record turn { waits = true }) turns)

    of : IsAttemptOf setting old.front asked.front turn (deed_for wish) ask
    of = attempt_asked setting old asked (deed_for wish) turn ask may.number may.all (answers_of setting bar wish.txn old asked turn (deed_for wish) (Ok ask) same at.own was.held.answers)

    later : List Event
    later = old.front ++ events_of of.joins

    reply : reply_in ask.event.deed ≡ HeldBy owners
    reply = same_reply ask.event.deed ∙ was.held.reply_is

    search : IsSearchOf setting asked new wish.txn wishes wishes [] (wishes_of owners wishes) was.searched.receipts
    search = searched_alone setting asked new wish.txn wishes wishes [] (wishes_of owners wishes) was.searched.receipts (was.held.answers.goes.number ∙ may.number) (was.held.answers.rights ∙ may.all)
        was.searched.made was.searched.is_search (few_questions wish.txn wishes owners was.searched.receipts at.ascend was.searched.is_search)

    waiter : waiter_in ask ask.event.deed ≡ turn.txn
    waiter = ap (λ (r : Receipt). waiter_in r r.event.deed) of.ask_is

    named : named_in ask.event.deed ≡ owners
    named = ap (λ (r : Receipt). named_in r.event.deed) of.ask_is ∙ sym (ap (λ (r : Receipt). named_by (reply_of r.event.deed)) of.ask_is) ∙ ap named_by was.held.reply_is

held_turn : (setting : Setting) (turns : List Turn) (turn : Turn) (line : Line) (lines : List Line) (wish : Wish) (wishes : List Wish) (old new : List Event) (found : Option (List Edge)) →
    IsAtLock turns turn line lines wish wishes → IsHeldMove setting turns turn wish wishes old new found → IsLockMove setting turns turn wish old new (walked found turn)
held_turn setting turns turn line lines wish wishes old new found at held = record {
  move = waits held.joins held.ask wishes held.search;
  move_is = held.move_is;
  front = held.front;
  turn_is = ap (λ (w : Option (List Edge)). walked w turn) (sym held.walk)
      ∙ ap (λ (r : Reply). locked_by wish.tree wish.range r (cycle_of (edges_in wishes (held.ask ∷ held.search)) turn.txn) turn) (sym held.reply)
      ∙ sym (at_lock turns turn line lines wish wishes (reply_in held.ask.event.deed) (cycle_of (edges_in wishes (held.ask ∷ held.search)) turn.txn) at);
}

-- It was out of locks.

started_stopped : (setting : Setting) (bar : ℕ) (turns : List Turn) (turn : Turn) (wish : Wish) (wishes : List Wish) (old new : PassView) (place rows : ℕ) → bar ≡ bar_of setting turn →
    MayStartAtOnce setting old wishes → wish.txn ≡ turn.txn → HasFault setting bar wish wishes old new (OutOfLocks place rows) →
    IsLockMove setting turns turn wish old.front new.front (ending (StoppedAt place rows) turn)
started_stopped setting bar turns turn wish wishes old new place rows same may own (inl short) = absurd (let k = short.1 in cc)
started_stopped setting bar turns turn wish wishes old new place rows same may own (inr (inl answers)) =
    let of = attempt_stopped setting old new (deed_for wish) turn place rows may.number may.all may.trees (answers_of setting bar wish.txn old new turn (deed_for wish) (Err (OutOfLocks place rows)) same own answers) in
    record { move = stops of.joins place rows; move_is = of.move turns true; front = of.front; turn_is = refl }
started_stopped setting bar turns turn wish wishes old new place rows same may own (inr (inr cut)) = absurd (never cut.cut.failed)
  where
    never : HasFailed setting wish.txn cut.cut.left cut.cut.last new (OutOfLocks place rows) → ⊥
    never (inl short) = let k = short.1 in cc
    never (inr by) = by.3.answer.cause

-- The answer.

pub started_at_once : (setting : Setting) (bar : ℕ) (turns : List Turn) (turn : Turn) (line : Line) (lines : List Line) (wish : Wish) (others wishes before : List Wish) (old new : PassView) (after : List Wish) (result : Result Started Fault) →
    bar ≡ bar_of setting turn → MayStartAtOnce setting old wishes → IsAtLock turns turn line lines wish wishes → IsStarted setting bar wish others wishes before old new after result →
    IsStartedAtOnce setting turns turn wish old.front new.front result
started_at_once setting bar turns turn line lines wish others wishes before old new after (Ok (StartedGranted place buffered)) same may at is =
    started_granted setting bar turns turn line lines wish wishes old new place buffered same may at is.0
started_at_once setting bar turns turn line lines wish others wishes before old new after (Ok (Waits owners)) same may at is =
    held_turn setting turns turn line lines wish wishes old.front new.front None at (started_held setting bar turns turn line lines wish wishes old new owners None same may at is.0)
started_at_once setting bar turns turn line lines wish others wishes before old new after (Ok (Deadlock walk)) same may at is =
    held_turn setting turns turn line lines wish wishes old.front new.front (Some walk) at (started_held setting bar turns turn line lines wish wishes old new is.0.0 (Some walk) same may at is.0.1)
started_at_once setting bar turns turn line lines wish others wishes before old new after (Err OutOfMemory) same may at is = tt
started_at_once setting bar turns turn line lines wish others wishes before old new after (Err (Busy row holder)) same may at is =
    start_answers setting bar wish others wishes before old new after (Err (Busy row holder)) is at.ascend may.all may.places
started_at_once setting bar turns turn line lines wish others wishes before old new after (Err (HistoryFull place)) same may at is =
    start_answers setting bar wish others wishes before old new after (Err (HistoryFull place)) is at.ascend may.all may.places
started_at_once setting bar turns turn line lines wish others wishes before old new after (Err (OutOfLocks place rows)) same may at is =
    started_stopped setting bar turns turn wish wishes old new place rows same may at.own is.0
