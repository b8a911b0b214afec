-- What an ask answers: at once, or behind its joins.
use Rattle.std.proofs.Common.{◌≡◌, ℕ, ◌<◌, ◌≤◌, Bool, true, false, List, [], Result, Ok, Err, refl, sym, subst, arith}
use Rattle.std.proofs.lemmas.Bool.Decides.{nat_tests}
use Rattle.lt_seq.specs.declared.event.Deed.{Deed}
use Rattle.lt_seq.specs.declared.event.Event.{Event}
use Rattle.lt_seq.specs.declared.event.Receipt.{Receipt}
use Rattle.lt_seq.specs.declared.fault.Fault.{Fault}
use Rattle.lt_seq.specs.declared.fault.Fault.TheVariants.{OutOfMemory, Busy, HistoryFull, OutOfLocks}
use Rattle.lt_rows.specs.declared.row_plan.RowPlan.{RowPlan}
use Rattle.lt_seq.specs.Table.{Setting, used}
use Rattle.lt_seq.specs.History.{after}
use Rattle.lt_rows.specs.Plan.{setting_of}
use Rattle.lt_seq.specs.Alone.{AloneCaused}
use Rattle.lt_seq.specs.Yard.{PassView, Watches, FaultAt, Caused, AskCaused, AskAnswers, AskAnswered, AreNoneOrAll}
use Rattle.lt_seq.specs.Yard.{bar_for, place_after, places_end}
use Rattle.lt_seq.proofs.HistoryLaws.{front_itself}
use Rattle.lt_seq.proofs.YardLaws.{all_joined, ask_answers_of, asks_midway}
use Rattle.lt_rows.specs.Views.{is_below, used_after}
use Rattle.lt_locktree.specs.Calls.{sees}
use Rattle.lt_manager.specs.Views.{Kept, view_of}
use Rattle.lt_manager.specs.Answers.{AnsweredBehind}
use Rattle.lt_manager.specs.Behind.{AnswersBehind, AsksBehind, AsksBehindAll}
use Rattle.lt_manager.proofs.EventLaws.{fault_there}

used_is : (k : RowPlan) (log : List Event) → used_after k log ≡ used (after (setting_of k) log)
unfolding used_after
used_is k log = refl

-- a look that shows a place and a row below the limit gives leave to take a row
pub is_licensed : (k : RowPlan) (log : List Event) → place_after (setting_of k) log < places_end → used (after (setting_of k) log) < k.limit
    → is_below k log ≡ true
is_licensed k log room below =
    let rows : used_after k log < k.limit = omega (arith, used_is k log) in
    grind (arith, nat_tests)

-- the bar is at most the limit
pub bar_most : (setting : Setting) (big : Bool) → bar_for setting big ≤ setting.plan.limit
bar_most setting true = omega arith
bar_most setting false = omega arith

-- The look behind the joins of all trees.

-- where it shows no place
no_place : (setting : Setting) (bar : ℕ) (joins : List Receipt) (old new : PassView) (fault : Fault) → AloneCaused setting new.front fault
    → AskCaused setting bar joins old new fault new.front
no_place setting bar joins old new OutOfMemory cause = tt
no_place setting bar joins old new (Busy row holder) cause = absurd cause
no_place setting bar joins old new (HistoryFull place) cause = cause
no_place setting bar joins old new (OutOfLocks place used_rows) cause = absurd cause

-- the ask ends with what it showed
ends_there : (setting : Setting) (bar : ℕ) (joins : List Receipt) (old new : PassView) (fault : Fault) → Watches setting old new
    → AskCaused setting bar joins old new fault new.front → FaultAt setting old new (AskCaused setting bar joins old new fault)
ends_there setting bar joins old new fault watches cause = record {
  seen = new.front;
  looked = watches.goes.front;
  waited = front_itself new.front;
  alone_seen = watches.alone;
  cause = cause;
  watches = watches;
}

-- The ask behind a look that showed a row below the bar.

module _ (setting : Setting) (bar : ℕ) (joins : List Receipt) (seen : List Event) (old new : PassView) where
  below_cause : used (after setting seen) < bar → (fault : Fault) → Caused setting old new fault seen
      → AskCaused setting bar joins old new fault seen
  below_cause below OutOfMemory cause = tt
  below_cause below (Busy row holder) cause = record { busy = cause; below = λ all. below }
  below_cause below (HistoryFull place) cause = cause
  below_cause below (OutOfLocks place used_rows) cause = absurd cause

asked_below : (setting : Setting) (bar : ℕ) (joins : List Receipt) (seen : List Event) (old new : PassView) (txn : ℕ) (deed : Deed)
    (result : Result Receipt Fault) → AreNoneOrAll setting joins → used (after setting seen) < bar
    → AnsweredBehind setting seen old new txn deed result → AskAnswered setting bar joins old new txn deed result
asked_below setting bar joins seen old new txn deed (Ok receipt) whole below behind = record {
  whole = whole;
  happens = behind.0;
  below = subst (λ (es : List Event). used (after setting es) < bar) (sym behind.1) below;
}
asked_below setting bar joins seen old new txn deed (Err fault) whole below behind =
    let there : used (after setting behind.0.seen) < bar =
    subst (λ (es : List Event). used (after setting es) < bar) (sym behind.1) below in
    record {
      seen = behind.0.seen;
      looked = behind.0.looked;
      waited = behind.0.waited;
      alone_seen = behind.0.alone_seen;
      cause = below_cause setting bar joins behind.0.seen old new there fault behind.0.cause;
      watches = behind.0.watches;
    }

-- A pass looked: it was p before, and is q then.
module _ (p q : Kept) (bar txn : ℕ) (deed : Deed) (watches : Watches (setting_of (sees p.pass).plan) (view_of p) (view_of q)) where
  abbrev setting : Setting
  setting = setting_of (sees p.pass).plan

  -- its first look shows no place
  pub first_fails : (fault : Fault) (result : Result Receipt Fault) → result ≡ Err fault → 0 < setting.plan.trees
      → Caused setting (view_of p) (view_of q) fault (sees q.pass).front → AskAnswers setting bar (view_of p) (view_of q) txn deed result
  first_fails fault result is some cause =
      subst (AskAnswers setting bar (view_of p) (view_of q) txn deed) (sym is)
      (asks_midway setting bar (view_of p) (view_of q) txn deed fault (record {
        joins = [];
        joined = view_of p;
        count = some;
        chain = refl;
        at = fault_there setting (view_of p) (view_of q) fault watches cause;
      }))

  -- its look behind the joins shows no place
  pub last_fails : (fault : Fault) (result : Result Receipt Fault) → result ≡ Err fault → AloneCaused setting (sees q.pass).front fault
      → AsksBehindAll p (view_of q) bar txn deed result
  last_fails fault result is cause joins all =
      subst (AskAnswered setting bar joins (view_of p) (view_of q) txn deed) (sym is)
      (ends_there setting bar joins (view_of p) (view_of q) fault watches
      (no_place setting bar joins (view_of p) (view_of q) fault cause))

  -- or no row below the bar
  pub out_of_locks : (place used_rows : ℕ) → place ≡ place_after setting (sees q.pass).front → place < places_end
      → used_rows ≡ used (after setting (sees q.pass).front) → bar ≤ used_rows
      → AsksBehindAll p (view_of q) bar txn deed (Err (OutOfLocks place used_rows))
  out_of_locks place used_rows place_is room used_is reached joins all =
      ends_there setting bar joins (view_of p) (view_of q) (OutOfLocks place used_rows) watches
      (record { all = all; place_is = place_is; room = room; used_is = used_is; reached = reached })

  module _ (new : PassView) (result : Result Receipt Fault) (plan : (sees q.pass).plan ≡ (sees p.pass).plan) where
    there : Watches (setting_of (sees q.pass).plan) (view_of p) (view_of q)
    there = subst (λ (k : RowPlan). Watches (setting_of k) (view_of p) (view_of q)) (sym plan) watches

    behind_look : AnswersBehind q new txn deed result → AnsweredBehind setting (sees q.pass).front (view_of p) new txn deed result
    behind_look behind =
        subst (λ (k : RowPlan). AnsweredBehind (setting_of k) (sees q.pass).front (view_of p) new txn deed result) plan
        (behind (view_of p) there)

    -- it asks behind the joins of all trees
    pub asks_last : used (after setting (sees q.pass).front) < bar → AnswersBehind q new txn deed result
        → AsksBehindAll p new bar txn deed result
    asks_last below behind joins all =
        asked_below setting bar joins (sees q.pass).front (view_of p) new txn deed result (all_joined setting joins all) below
        (behind_look behind)

    -- or at once
    pub asks_at_once : used (after setting (sees q.pass).front) < bar → AnswersBehind q new txn deed result
        → AskAnswers setting bar (view_of p) new txn deed result
    asks_at_once below behind =
        ask_answers_of setting bar (view_of p) (view_of p) new txn deed result [] (omega arith) refl
        (asked_below setting bar [] (sees q.pass).front (view_of p) new txn deed result tt below (behind_look behind))

    -- or it joins first
    pub asks_joining : AsksBehind q new bar txn deed result → AskAnswers setting bar (view_of p) new txn deed result
    asks_joining behind =
        subst (λ (k : RowPlan). AskAnswers (setting_of k) bar (view_of p) new txn deed result) plan (behind (view_of p) there)
