-- What an ask by a pass that has all the rights is of the plain scheduler's attempt.
use Rattle.std.proofs.Common.{◌≡◌, ℕ, ◌+◌, ◌<◌, ◌≤◌, List, [], ◌∷◌, ◌++◌, Bool, true, false, nat_lt, Ok, Err, length}
use Rattle.std.proofs.Common.{refl, sym, ap, subst, ◌∙◌, arith, append_assoc, append-nil}
use Rattle.std.proofs.lemmas.Bool.Decides.{nat_tests}
use Rattle.lt_seq.specs.declared.event.Deed.{Deed}
use Rattle.lt_seq.specs.declared.event.Deed.TheVariants.{Join}
use Rattle.lt_seq.specs.declared.event.Event.{Event}
use Rattle.lt_seq.specs.declared.event.Receipt.{Receipt}
use Rattle.lt_seq.specs.declared.fault.Fault.TheVariants.{OutOfLocks}
use Rattle.lt_seq.specs.Table.{Setting, used}
use Rattle.lt_seq.specs.History.{after}
use Rattle.lt_seq.specs.Questions.{receipt_after, events_of}
use Rattle.lt_seq.specs.Passes.{numbers_from}
use Rattle.lt_seq.specs.Alone.{AloneAskAnswers, AreJoinedAtOnce, IsAskedAtOnce, IsRefused, HasReached}
use Rattle.lt_seq.specs.Yard.{PassView, OneMore, AskAnswers, HasAll, IsOutOfLocks, place_after, event_after}
use Rattle.lt_seq.proofs.YardLaws.{alone_ask_answers}
use Rattle.lt_runner.specs.TurnView.{Turn}
use Rattle.lt_runner.specs.Turn.{Move, stops}
use Rattle.lt_runner.specs.Attempt.{bar_of}
use Rattle.lt_runner.specs.Serial.{joins_of, ask_move, behind_joins, attempt}
use Rattle.lt_runner.proofs.ChoiceLaws.{on_true, on_false}

-- joins at once are those of the plain scheduler
record AreJoinsOf (setting : Setting) (old new : PassView) (txn tree : ℕ) (joins : List Receipt) : Type 0 where
  pub joins_are : joins ≡ joins_of setting txn (numbers_from tree (length joins)) old.front
  pub front : new.front ≡ old.front ++ events_of joins
  pub number : new.number ≡ old.number

pub receipt_is : (setting : Setting) (old next : PassView) (txn : ℕ) (deed : Deed) (r : Receipt) → old.number ≡ 0 → OneMore setting old next txn deed r →
    r ≡ receipt_after setting old.front 0 txn deed
receipt_is setting old next txn deed r number more =
    more.receipt_is ∙ ap (λ (n : ℕ). (let e : Receipt = record { place = place_after setting old.front; event = event_after setting old.front n txn deed } in e)) number

joined_at_once : (setting : Setting) (old new : PassView) (txn tree : ℕ) (joins : List Receipt) → old.number ≡ 0 →
    AreJoinedAtOnce setting old new txn tree joins → AreJoinsOf setting old new txn tree joins
joined_at_once setting old new txn tree [] number same = record {
  joins_are = refl;
  front = ap (λ (p : PassView). p.front) same ∙ sym (append-nil old.front);
  number = ap (λ (p : PassView). p.number) same;
}
joined_at_once setting old new txn tree (r ∷ rs) number one =
    let next = one.next in
    let later = joined_at_once setting next new txn (tree + 1) rs (one.more.number ∙ number) one.others in
    let is = receipt_is setting old next txn (Join tree 0 0) r number one.more in
    record {
      joins_are =
          ap (λ (rest : List Receipt). r ∷ rest) (later.joins_are ∙ ap (joins_of setting txn (numbers_from (tree + 1) (length rs))) one.more.front)
          ∙ ap (λ (x : Receipt). x ∷ joins_of setting txn (numbers_from (tree + 1) (length rs)) (old.front ++ x.event ∷ [])) is;
      front = later.front ∙ ap (λ (es : List Event). es ++ events_of rs) one.more.front ∙ append_assoc old.front (r.event ∷ []) (events_of rs);
      number = later.number ∙ one.more.number;
    }

not_below : (bar rows : ℕ) → bar ≤ rows → nat_lt rows bar ≡ false
not_below bar rows le = grind (arith, nat_tests)

below : (bar rows : ℕ) → rows < bar → nat_lt rows bar ≡ true
below bar rows lt = grind (arith, nat_tests)

abbrev room_at : Setting → Turn → List Event → Bool
room_at setting turn events = nat_lt (used (after setting events)) (bar_of setting turn)

-- the attempt without room
abbrev joins_first : Setting → List Turn → Turn → Bool → Deed → List Event → Move
joins_first setting turns turn locks deed events =
    let joins = joins_of setting turn.txn (numbers_from 0 setting.plan.trees) events in
    behind_joins setting turns turn locks deed (events ++ events_of joins) joins

attempt_now : (setting : Setting) (turns : List Turn) (turn : Turn) (locks : Bool) (deed : Deed) (events : List Event) → room_at setting turn events ≡ true →
    attempt setting turns turn locks deed events ≡ ask_move setting turns turn locks events [] (receipt_after setting events 0 turn.txn deed)
attempt_now setting turns turn locks deed events room =
    on_true (room_at setting turn events) (ask_move setting turns turn locks events [] (receipt_after setting events 0 turn.txn deed))
    (joins_first setting turns turn locks deed events) room

attempt_later : (setting : Setting) (turns : List Turn) (turn : Turn) (locks : Bool) (deed : Deed) (events : List Event) → room_at setting turn events ≡ false →
    attempt setting turns turn locks deed events ≡ joins_first setting turns turn locks deed events
attempt_later setting turns turn locks deed events room =
    on_false (room_at setting turn events) (ask_move setting turns turn locks events [] (receipt_after setting events 0 turn.txn deed))
    (joins_first setting turns turn locks deed events) room

-- these joins come first
attempt_joined : (setting : Setting) (turns : List Turn) (turn : Turn) (locks : Bool) (deed : Deed) (old joined : PassView) (joins : List Receipt) → old.number ≡ 0 →
    AreJoinedAtOnce setting old joined turn.txn 0 joins → length joins ≡ setting.plan.trees → room_at setting turn old.front ≡ false →
    attempt setting turns turn locks deed old.front ≡ behind_joins setting turns turn locks deed (old.front ++ events_of joins) joins
attempt_joined setting turns turn locks deed old joined joins number chain all full =
    let are = joined_at_once setting old joined turn.txn 0 joins number chain in
    let same : joins_of setting turn.txn (numbers_from 0 setting.plan.trees) old.front ≡ joins =
    ap (λ (n : ℕ). joins_of setting turn.txn (numbers_from 0 n) old.front) (sym all) ∙ sym are.joins_are in
    attempt_later setting turns turn locks deed old.front full
    ∙ ap (λ (js : List Receipt). behind_joins setting turns turn locks deed (old.front ++ events_of js) js) same

-- The attempt whose ask this is, and what it made of the events.
pub record IsAttemptOf (setting : Setting) (events new : List Event) (turn : Turn) (deed : Deed) (ask : Receipt) : Type 0 where
  pub joins : List Receipt
  pub move : (turns : List Turn) (locks : Bool) →
      attempt setting turns turn locks deed events ≡ ask_move setting turns turn locks (events ++ events_of joins) joins ask
  pub ask_is : ask ≡ receipt_after setting (events ++ events_of joins) 0 turn.txn deed
  pub front : new ≡ (events ++ events_of joins) ++ ask.event ∷ []

pub attempt_asked : (setting : Setting) (old new : PassView) (deed : Deed) (turn : Turn) (ask : Receipt) → old.number ≡ 0 → HasAll setting old →
    AskAnswers setting (bar_of setting turn) old new turn.txn deed (Ok ask) → IsAttemptOf setting old.front new.front turn deed ask
attempt_asked setting old new deed turn ask number all answers = by_joins alone.joins alone.joined alone.reached alone.chain alone.answer
  where
    alone : AloneAskAnswers setting (bar_of setting turn) old new turn.txn deed (Ok ask)
    alone = alone_ask_answers setting (bar_of setting turn) old new turn.txn deed (Ok ask) answers all

    by_joins : (joins : List Receipt) (joined : PassView) → HasReached setting (bar_of setting turn) old.front joins → AreJoinedAtOnce setting old joined turn.txn 0 joins →
        IsAskedAtOnce setting (bar_of setting turn) joins joined new turn.txn deed ask → IsAttemptOf setting old.front new.front turn deed ask
    by_joins [] joined reached chain was =
        let same : joined.front ≡ old.front = ap (λ (p : PassView). p.front) chain in
        let nil : old.front ++ [] ≡ old.front = append-nil old.front in
        let is : ask ≡ receipt_after setting old.front 0 turn.txn deed =
        receipt_is setting joined new turn.txn deed ask (ap (λ (p : PassView). p.number) chain ∙ number) was.made.more
        ∙ ap (λ (es : List Event). receipt_after setting es 0 turn.txn deed) same in
        let room = below (bar_of setting turn) (used (after setting old.front)) (subst (λ (es : List Event). used (after setting es) < bar_of setting turn) same was.below) in
        record {
          joins = [];
          move = λ turns locks. attempt_now setting turns turn locks deed old.front room
              ∙ ap (ask_move setting turns turn locks old.front []) (sym is) ∙ ap (λ (es : List Event). ask_move setting turns turn locks es [] ask) (sym nil);
          ask_is = is ∙ ap (λ (es : List Event). receipt_after setting es 0 turn.txn deed) (sym nil);
          front = was.made.more.front ∙ ap (λ (es : List Event). es ++ ask.event ∷ []) (same ∙ sym nil);
        }
    by_joins (r ∷ rs) joined reached chain was =
        let are = joined_at_once setting old joined turn.txn 0 (r ∷ rs) number chain in
        let later = old.front ++ events_of (r ∷ rs) in
        let is : ask ≡ receipt_after setting later 0 turn.txn deed =
        receipt_is setting joined new turn.txn deed ask (are.number ∙ number) was.made.more ∙ ap (λ (es : List Event). receipt_after setting es 0 turn.txn deed) are.front in
        let full = not_below (bar_of setting turn) (used (after setting old.front)) reached in
        let room = below (bar_of setting turn) (used (after setting later)) (subst (λ (es : List Event). used (after setting es) < bar_of setting turn) are.front was.below) in
        record {
          joins = r ∷ rs;
          move = λ turns locks. attempt_joined setting turns turn locks deed old joined (r ∷ rs) number chain was.whole full
              ∙ on_true (room_at setting turn later) (ask_move setting turns turn locks later (r ∷ rs) (receipt_after setting later 0 turn.txn deed))
              (stops (r ∷ rs) (place_after setting later) (used (after setting later))) room
              ∙ ap (ask_move setting turns turn locks later (r ∷ rs)) (sym is);
          ask_is = is;
          front = was.made.more.front ∙ ap (λ (es : List Event). es ++ ask.event ∷ []) are.front;
        }

-- The attempt that was out of locks.
pub record IsStopOf (setting : Setting) (events new : List Event) (turn : Turn) (deed : Deed) (place rows : ℕ) : Type 0 where
  pub joins : List Receipt
  pub move : (turns : List Turn) (locks : Bool) → attempt setting turns turn locks deed events ≡ stops joins place rows
  pub front : new ≡ events ++ events_of joins

pub attempt_stopped : (setting : Setting) (old new : PassView) (deed : Deed) (turn : Turn) (place rows : ℕ) → old.number ≡ 0 → HasAll setting old → 1 ≤ setting.plan.trees →
    AskAnswers setting (bar_of setting turn) old new turn.txn deed (Err (OutOfLocks place rows)) → IsStopOf setting old.front new.front turn deed place rows
attempt_stopped setting old new deed turn place rows number all trees answers = by_joins alone.joins alone.joined alone.reached alone.chain alone.answer
  where
    alone : AloneAskAnswers setting (bar_of setting turn) old new turn.txn deed (Err (OutOfLocks place rows))
    alone = alone_ask_answers setting (bar_of setting turn) old new turn.txn deed (Err (OutOfLocks place rows)) answers all

    by_joins : (joins : List Receipt) (joined : PassView) → HasReached setting (bar_of setting turn) old.front joins → AreJoinedAtOnce setting old joined turn.txn 0 joins →
        IsRefused setting joined new (IsOutOfLocks setting (bar_of setting turn) joins joined.front place rows) → IsStopOf setting old.front new.front turn deed place rows
    by_joins [] joined reached chain was = absurd (let none : 0 ≡ setting.plan.trees = was.cause.all in omega arith)
    by_joins (r ∷ rs) joined reached chain was =
        let are = joined_at_once setting old joined turn.txn 0 (r ∷ rs) number chain in
        let later = old.front ++ events_of (r ∷ rs) in
        let place_is : place ≡ place_after setting later = was.cause.place_is ∙ ap (place_after setting) are.front in
        let rows_are : rows ≡ used (after setting later) = was.cause.used_is ∙ ap (λ (es : List Event). used (after setting es)) are.front in
        let full = not_below (bar_of setting turn) (used (after setting old.front)) reached in
        let none = not_below (bar_of setting turn) (used (after setting later)) (subst (λ (n : ℕ). bar_of setting turn ≤ n) rows_are was.cause.reached) in
        record {
          joins = r ∷ rs;
          move = λ turns locks. attempt_joined setting turns turn locks deed old joined (r ∷ rs) number chain was.cause.all full
              ∙ on_false (room_at setting turn later) (ask_move setting turns turn locks later (r ∷ rs) (receipt_after setting later 0 turn.txn deed))
              (stops (r ∷ rs) (place_after setting later) (used (after setting later))) none
              ∙ ap (λ (n : ℕ). stops (r ∷ rs) n (used (after setting later))) (sym place_is) ∙ ap (stops (r ∷ rs) place) (sym rows_are);
          front = was.stays.front ∙ are.front;
        }
