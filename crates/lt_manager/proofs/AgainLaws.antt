-- A call that begins anew: between two tries the pass has only seen more.
use Rattle.std.proofs.Common.{◌≡◌, ℕ, ◌≤◌, List, [], ◌∷◌, ◌++◌, length, Result, Ok, Err, IfOk, refl, sym, ap, ◌∙◌, subst, arith}
use Rattle.lt_seq.specs.declared.event.Deed.{Deed}
use Rattle.lt_seq.specs.declared.event.Deed.TheVariants.{Join}
use Rattle.lt_seq.specs.declared.event.Event.{Event}
use Rattle.lt_seq.specs.declared.event.Receipt.{Receipt}
use Rattle.lt_seq.specs.declared.fault.Fault.{Fault}
use Rattle.lt_seq.specs.declared.fault.Fault.TheVariants.{OutOfMemory, Busy, HistoryFull, OutOfLocks}
use Rattle.lt_seq.specs.Table.{Setting}
use Rattle.lt_seq.specs.Yard.{PassView, Watches, Happens, FaultAt, Answers, Answered, AskAnswers, AskAnswered, AreJoined, IsBusy, Caused, AskCaused, noted, event_after}
use Rattle.lt_seq.proofs.YardLaws.{front_then, goes_then, answers_of, ask_answers_of}
use Rattle.lt_rows.specs.declared.row_plan.RowPlan.{RowPlan}
use Rattle.lt_rows.specs.Plan.{setting_of}
use Rattle.lt_locktree.specs.Calls.{sees}
use Rattle.lt_manager.specs.Views.{Kept, view_of}
use Rattle.lt_manager.specs.Answers.{AnsweredBehind}
use Rattle.lt_manager.specs.Behind.{AnswersBehind}

-- Of two passes, what calls of the second answer the first answers, too.
abbrev pub GoesOn : Setting → PassView → PassView → Type 0
GoesOn setting old now =
    (new : PassView) (txn : ℕ) (deed : Deed) (result : Result Receipt Fault)
    → Answers setting now new txn deed result → Answers setting old new txn deed result

abbrev pub AsksOn : Setting → PassView → PassView → Type 0
AsksOn setting old now =
    (bar : ℕ) (new : PassView) (txn : ℕ) (deed : Deed) (result : Result Receipt Fault)
    → AskAnswers setting bar now new txn deed result → AskAnswers setting bar old new txn deed result

-- A pass that was old has seen more, and is mid now.
module _ (setting : Setting) (old mid : PassView) (seen_more : Watches setting old mid) where
  happens_on : (new : PassView) (txn : ℕ) (deed : Deed) (receipt : Receipt) → Happens setting mid new txn deed receipt
      → Happens setting old new txn deed receipt
  happens_on new txn deed receipt made = record {
    seen = made.seen;
    before = made.before;
    looked = front_then old.front mid.front made.seen seen_more.goes.front made.looked;
    waited = made.waited;
    room = made.room;
    event = made.event ∙ ap (λ (n : ℕ). event_after setting made.before n txn deed) seen_more.goes.number;
    place = made.place;
    front = made.front;
    mine = made.mine ∙ ap (λ (l : List Receipt). l ++ receipt ∷ []) seen_more.mine;
    notes = made.notes ∙ ap (noted setting made.before deed) seen_more.notes;
    rights = made.rights ∙ seen_more.rights;
    alone_seen = λ all. made.alone_seen (seen_more.rights ∙ all) ∙ seen_more.alone all;
    alone = λ all. made.alone (seen_more.rights ∙ all) ∙ seen_more.alone all;
    goes = goes_then setting old mid new seen_more.goes made.goes;
  }

  watches_on : (new : PassView) → Watches setting mid new → Watches setting old new
  watches_on new more = record {
    goes = goes_then setting old mid new seen_more.goes more.goes;
    rights = more.rights ∙ seen_more.rights;
    mine = more.mine ∙ seen_more.mine;
    notes = more.notes ∙ seen_more.notes;
    alone = λ all. more.alone (seen_more.rights ∙ all) ∙ seen_more.alone all;
  }

  fault_on : (new : PassView) (Cause Other : List Event → Type 0) → ((seen : List Event) → Cause seen → Other seen)
      → FaultAt setting mid new Cause → FaultAt setting old new Other
  fault_on new Cause Other on at = record {
    seen = at.seen;
    looked = front_then old.front mid.front at.seen seen_more.goes.front at.looked;
    waited = at.waited;
    alone_seen = λ all. at.alone_seen (seen_more.rights ∙ all) ∙ seen_more.alone all;
    cause = on at.seen at.cause;
    watches = watches_on new at.watches;
  }

  busy_on : (new : PassView) (seen : List Event) (row holder : ℕ) → IsBusy setting mid new seen row holder
      → IsBusy setting old new seen row holder
  busy_on new seen row holder busy = record {
    room = busy.room;
    rose = grind (arith, busy.rose, seen_more.goes.met);
    row_is = busy.row_is;
    holder_is = busy.holder_is;
    others = λ all. busy.others (seen_more.rights ∙ all);
  }

  caused_on : (new : PassView) (fault : Fault) (seen : List Event) → Caused setting mid new fault seen → Caused setting old new fault seen
  caused_on new OutOfMemory seen cause = tt
  caused_on new (Busy row holder) seen cause = busy_on new seen row holder cause
  caused_on new (HistoryFull place) seen cause = cause
  caused_on new (OutOfLocks place used) seen cause = absurd cause

  answered_on : (new : PassView) (txn : ℕ) (deed : Deed) (result : Result Receipt Fault) → Answered setting mid new txn deed result
      → Answered setting old new txn deed result
  answered_on new txn deed (Ok receipt) made = happens_on new txn deed receipt made
  answered_on new txn deed (Err fault) at =
      fault_on new (Caused setting mid new fault) (Caused setting old new fault) (caused_on new fault) at

  -- a call of it is one of the pass that it was
  pub answers_on : GoesOn setting old mid
  answers_on new txn deed result answers =
      answers_of setting old new txn deed result (answered_on new txn deed result answers.answer)

  ask_caused_on : (bar : ℕ) (joins : List Receipt) (new : PassView) (fault : Fault) (seen : List Event)
      → AskCaused setting bar joins mid new fault seen → AskCaused setting bar joins old new fault seen
  ask_caused_on bar joins new OutOfMemory seen cause = tt
  ask_caused_on bar joins new (Busy row holder) seen cause =
      record { busy = busy_on new seen row holder cause.busy; below = cause.below }
  ask_caused_on bar joins new (HistoryFull place) seen cause = cause
  ask_caused_on bar joins new (OutOfLocks place used) seen cause = cause

  ask_answered_on : (bar : ℕ) (joins : List Receipt) (new : PassView) (txn : ℕ) (deed : Deed) (result : Result Receipt Fault)
      → AskAnswered setting bar joins mid new txn deed result → AskAnswered setting bar joins old new txn deed result
  unfolding happens_on
  ask_answered_on bar joins new txn deed (Ok receipt) asked = record {
    whole = asked.whole;
    happens = happens_on new txn deed receipt asked.happens;
    below = asked.below;
  }
  ask_answered_on bar joins new txn deed (Err fault) at =
      fault_on new (AskCaused setting bar joins mid new fault) (AskCaused setting bar joins old new fault)
      (ask_caused_on bar joins new fault) at

  -- its joins stand behind what the pass was, and where it makes none, so does its event
  asks_from : (bar : ℕ) (new : PassView) (txn : ℕ) (deed : Deed) (result : Result Receipt Fault) (joined : PassView) (joins : List Receipt)
      → length joins ≤ setting.plan.trees → AreJoined setting bar mid joined txn 0 joins
      → AskAnswered setting bar joins joined new txn deed result → AskAnswers setting bar old new txn deed result
  unfolding happens_on
  asks_from bar new txn deed result joined [] most same answer =
      ask_answers_of setting bar old old new txn deed result [] most refl
      (ask_answered_on bar [] new txn deed result
      (subst (λ (p : PassView). AskAnswered setting bar [] p new txn deed result) same answer))
  asks_from bar new txn deed result joined (r ∷ rs) most one answer =
      ask_answers_of setting bar old joined new txn deed result (r ∷ rs) most (record {
        next = one.next;
        join = happens_on one.next txn (Join 0 0 0) r one.join;
        reached = one.reached;
        others = one.others;
      })
      answer

  pub ask_answers_on : AsksOn setting old mid
  ask_answers_on bar new txn deed result asks =
      asks_from bar new txn deed result asks.joined asks.joins asks.most asks.chain asks.answer

-- a try that made no event has only seen more
refused_watches : (setting : Setting) (old new : PassView) (txn : ℕ) (deed : Deed) (result : Result Receipt Fault) → IfOk result (λ _. ⊥)
    → Answered setting old new txn deed result → Watches setting old new
refused_watches setting old new txn deed (Ok receipt) refused answered = absurd refused
refused_watches setting old new txn deed (Err fault) refused at = at.watches

refused_behind : (setting : Setting) (seen : List Event) (old new : PassView) (txn : ℕ) (deed : Deed) (result : Result Receipt Fault)
    → IfOk result (λ _. ⊥) → AnsweredBehind setting seen old new txn deed result → Watches setting old new
refused_behind setting seen old new txn deed (Ok receipt) refused answered = absurd refused
refused_behind setting seen old new txn deed (Err fault) refused left = left.0.watches

-- A pass was p, and is q between two tries, behind which it is r.
module _ (p q r : Kept) (plan : (sees q.pass).plan ≡ (sees p.pass).plan) where
  abbrev first : Setting
  first = setting_of (sees p.pass).plan

  -- what the last try answers
  pub goes_on_with : (txn : ℕ) (deed : Deed) (result : Result Receipt Fault) → GoesOn first (view_of p) (view_of q)
      → Answers (setting_of (sees q.pass).plan) (view_of q) (view_of r) txn deed result → Answers first (view_of p) (view_of r) txn deed result
  goes_on_with txn deed result on answers =
      on (view_of r) txn deed result
      (subst (λ (k : RowPlan). Answers (setting_of k) (view_of q) (view_of r) txn deed result) plan answers)

  -- and one that was refused
  pub goes_on_behind : (txn : ℕ) (deed : Deed) (result : Result Receipt Fault) → IfOk result (λ _. ⊥) → GoesOn first (view_of p) (view_of q)
      → Answers (setting_of (sees q.pass).plan) (view_of q) (view_of r) txn deed result → GoesOn first (view_of p) (view_of r)
  goes_on_behind txn deed result refused on answers new txn' deed' next_result next =
      let more : Watches first (view_of q) (view_of r) =
      subst (λ (k : RowPlan). Watches (setting_of k) (view_of q) (view_of r)) plan
      (refused_watches (setting_of (sees q.pass).plan) (view_of q) (view_of r) txn deed result refused answers.answer) in
      on new txn' deed' next_result (answers_on first (view_of q) (view_of r) more new txn' deed' next_result next)

  -- the same of an ask
  pub asks_on_with : (bar txn : ℕ) (deed : Deed) (result : Result Receipt Fault) → AsksOn first (view_of p) (view_of q)
      → AskAnswers (setting_of (sees q.pass).plan) bar (view_of q) (view_of r) txn deed result
      → AskAnswers first bar (view_of p) (view_of r) txn deed result
  asks_on_with bar txn deed result on asks =
      on bar (view_of r) txn deed result
      (subst (λ (k : RowPlan). AskAnswers (setting_of k) bar (view_of q) (view_of r) txn deed result) plan asks)

  -- it looked, and was s, before its event was refused
  pub asks_on_behind : (s : Kept) → (sees s.pass).plan ≡ (sees q.pass).plan
      → Watches (setting_of (sees q.pass).plan) (view_of q) (view_of s) → (txn : ℕ) (deed : Deed) (result : Result Receipt Fault)
      → IfOk result (λ _. ⊥) → AsksOn first (view_of p) (view_of q) → AnswersBehind s (view_of r) txn deed result
      → AsksOn first (view_of p) (view_of r)
  asks_on_behind s there watches txn deed result refused on behind bar new txn' deed' next_result next =
      let answered : AnsweredBehind (setting_of (sees s.pass).plan) (sees s.pass).front (view_of q) (view_of r) txn deed result =
      behind (view_of q) (subst (λ (k : RowPlan). Watches (setting_of k) (view_of q) (view_of s)) (sym there) watches) in
      let more : Watches first (view_of q) (view_of r) =
      subst (λ (k : RowPlan). Watches (setting_of k) (view_of q) (view_of r)) (there ∙ plan)
      (refused_behind (setting_of (sees s.pass).plan) (sees s.pass).front (view_of q) (view_of r) txn deed result refused answered) in
      on bar new txn' deed' next_result (ask_answers_on first (view_of q) (view_of r) more bar new txn' deed' next_result next)

-- a pass goes on from itself
pub goes_on_itself : (s : Setting) (old : PassView) → GoesOn s old old
goes_on_itself s old new txn deed result answers = answers

pub asks_on_itself : (s : Setting) (old : PassView) → AsksOn s old old
asks_on_itself s old bar new txn deed result asks = asks
