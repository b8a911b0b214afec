-- What asks and frees come to on the map's table.
use Rattle.std.proofs.Common.{◌≡◌, ◌≢◌, ℕ, ◌+◌, ◌^◌, ◌<◌, ◌≤◌, List, [], ◌∷◌, ◌++◌, length, Bool, true, false, nat_lt, if◌then◌else◌, Result, Ok, Err, refl, sym, ap, subst, ◌∙◌, arith}
use Rattle.std.proofs.lemmas.Bool.Decides.{nat_tests}
use Rattle.lt_ranges.specs.Interval.{Interval}
use Rattle.lt_seq.specs.declared.event.Deed.{Deed}
use Rattle.lt_seq.specs.declared.event.Deed.TheVariants.{Ask, Free, Join}
use Rattle.lt_seq.specs.declared.event.Reply.{Reply}
use Rattle.lt_seq.specs.declared.event.Reply.TheVariants.{Granted, Buffered, HeldBy}
use Rattle.lt_seq.specs.declared.event.Event.{Event}
use Rattle.lt_seq.specs.declared.event.Receipt.{Receipt}
use Rattle.lt_seq.specs.declared.fault.Fault.{Fault}
use Rattle.lt_seq.specs.declared.fault.Fault.TheVariants.{OutOfMemory, Busy, HistoryFull, OutOfLocks}
use Rattle.lt_seq.specs.Table.{Setting, used}
use Rattle.lt_seq.specs.History.{after}
use Rattle.lt_seq.specs.Yard.{PassView, OneMore, AskAnswers, Answers, HasAll, bar_for, event_after, IsOutOfLocks}
use Rattle.lt_seq.specs.Alone.{AloneAskAnswers, AloneAnswers, AreJoinedAtOnce, IsAskedAtOnce, IsRefused, IsMade, HasReached}
use Rattle.lt_seq.proofs.YardLaws.{alone_ask_answers, alone_answers, alone_ask_done, alone_done}
use Rattle.lt_store.specs.Attempts.{setting_of, tree_after_all, used_after, with_deed, joined_first, has_room, asked, reply_to}
use Rattle.lt_store.specs.Locks.{IsPlain, IsTable, IsStopped, IsAskDeed, IsReplied, HasAsked, said}
use Rattle.lt_store.specs.declared.locks.Asked.{Asked}
use Rattle.lt_store.specs.declared.locks.Asked.TheVariants.{Granted as IsGranted, Held, OutOfLocks as Stopped}
use Rattle.lt_store.proofs.TableLaws.{first_plain, ask_plain, free_plain}

below : (a b : ℕ) → a < b → nat_lt a b ≡ true
below a b lt = grind (arith, nat_tests)

not_below : (a b : ℕ) → b ≤ a → nat_lt a b ≡ false
not_below a b le = grind (arith, nat_tests)

now_first : (limit txn : ℕ) (events : List Event) → nat_lt (used_after limit events) limit ≡ true → joined_first limit txn events ≡ events
now_first limit txn events e = ap (λ (b : Bool). if b then events else with_deed limit txn (Join 0 0 0) events) e

later_first : (limit txn : ℕ) (events : List Event) → nat_lt (used_after limit events) limit ≡ false → joined_first limit txn events ≡ with_deed limit txn (Join 0 0 0) events
later_first limit txn events e = ap (λ (b : Bool). if b then events else with_deed limit txn (Join 0 0 0) events) e

-- one event more
made_front : (limit txn : ℕ) (deed : Deed) (old new : PassView) (receipt : Receipt) → old.number ≡ 0 → OneMore (setting_of limit) old new txn deed receipt →
    receipt.event ≡ event_after (setting_of limit) old.front 0 txn deed
made_front limit txn deed old new receipt number more =
    ap (λ (r : Receipt). r.event) more.receipt_is ∙ ap (λ (n : ℕ). event_after (setting_of limit) old.front n txn deed) number

-- what the joins of an ask leave
record Joined (limit txn : ℕ) (old joined : PassView) : Type 0 where
  pub front : joined.front ≡ joined_first limit txn old.front
  pub number : joined.number ≡ 0
  pub rights : joined.rights ≡ 1

joined_none : (limit txn : ℕ) (old joined : PassView) → IsTable limit old → joined ≡ old → used (after (setting_of limit) joined.front) < limit → Joined limit txn old joined
joined_none limit txn old joined table same lt = record {
  front = ap (λ (p : PassView). p.front) same
      ∙ sym (now_first limit txn old.front (below (used_after limit old.front) limit (subst (λ (p : PassView). used (after (setting_of limit) p.front) < limit) same lt)));
  number = ap (λ (p : PassView). p.number) same ∙ table.number;
  rights = ap (λ (p : PassView). p.rights) same ∙ table.rights;
}

joined_one : (limit txn : ℕ) (old joined : PassView) (r : Receipt) (rs : List Receipt) → IsTable limit old → limit ≤ used (after (setting_of limit) old.front) → length (r ∷ rs) ≡ 1 →
    AreJoinedAtOnce (setting_of limit) old joined txn 0 (r ∷ rs) → Joined limit txn old joined
joined_one limit txn old joined r [] table full one chain = record {
  front = ap (λ (p : PassView). p.front) chain.others
      ∙ chain.more.front ∙ ap (λ (e : Event). old.front ++ e ∷ []) (made_front limit txn (Join 0 0 0) old chain.next r table.number chain.more)
      ∙ sym (later_first limit txn old.front (not_below (used_after limit old.front) limit full));
  number = ap (λ (p : PassView). p.number) chain.others ∙ chain.more.number ∙ table.number;
  rights = ap (λ (p : PassView). p.rights) chain.others ∙ chain.more.rights ∙ table.rights;
}
joined_one limit txn old joined r (s ∷ rs) table full one chain = absurd (omega (arith, one))

-- The ask made its event.
pub record Fine (limit txn : ℕ) (range : Interval) (old new : PassView) (receipt : Receipt) : Type 0 where
  pub room : has_room limit txn old.front ≡ true
  pub deed : receipt.event.deed ≡ Ask 0 range (reply_to limit txn range old.front)
  pub front : new.front ≡ asked limit txn range old.front
  pub table : IsTable limit new

fine : (limit txn : ℕ) (range : Interval) (old joined new : PassView) (receipt : Receipt) → IsTable limit old → Joined limit txn old joined →
    IsMade (setting_of limit) joined new txn (Ask 0 range Granted) receipt → used (after (setting_of limit) joined.front) < limit → Fine limit txn range old new receipt
fine limit txn range old joined new receipt table are made lt =
    let event : receipt.event ≡ event_after (setting_of limit) (joined_first limit txn old.front) 0 txn (Ask 0 range Granted) =
    made_front limit txn (Ask 0 range Granted) joined new receipt are.number made.more ∙ ap (λ (es : List Event). event_after (setting_of limit) es 0 txn (Ask 0 range Granted)) are.front in
    let front : new.front ≡ asked limit txn range old.front =
    made.more.front ∙ ap (λ (es : List Event). es ++ receipt.event ∷ []) are.front ∙ ap (λ (e : Event). joined_first limit txn old.front ++ e ∷ []) event in
    record {
      room = below (used_after limit (joined_first limit txn old.front)) limit (subst (λ (es : List Event). used (after (setting_of limit) es) < limit) are.front lt);
      deed = ap (λ (e : Event). e.deed) event;
      front = front;
      table = record {
        number = made.more.number ∙ are.number;
        rights = made.more.rights ∙ are.rights;
        sound = made.sound;
        plain = subst (λ (es : List Event). IsPlain (tree_after_all limit es).mode) (sym front) (ask_plain limit txn (joined_first limit txn old.front) range);
      };
    }

pub ask_is_fine : (limit txn : ℕ) (range : Interval) (old new : PassView) (receipt : Receipt) → IsTable limit old →
    AskAnswers (setting_of limit) (bar_for (setting_of limit) false) old new txn (Ask 0 range Granted) (Ok receipt) → Fine limit txn range old new receipt
ask_is_fine limit txn range old new receipt table answers = by alone.joins alone.joined alone.reached alone.chain alone.answer
  where
    alone : AloneAskAnswers (setting_of limit) limit old new txn (Ask 0 range Granted) (Ok receipt)
    alone = alone_ask_answers (setting_of limit) limit old new txn (Ask 0 range Granted) (Ok receipt) answers table.rights

    by : (joins : List Receipt) (joined : PassView) → HasReached (setting_of limit) limit old.front joins → AreJoinedAtOnce (setting_of limit) old joined txn 0 joins →
        IsAskedAtOnce (setting_of limit) limit joins joined new txn (Ask 0 range Granted) receipt → Fine limit txn range old new receipt
    by [] joined reached chain was = fine limit txn range old joined new receipt table (joined_none limit txn old joined table chain was.below) was.made was.below
    by (r ∷ rs) joined reached chain was = fine limit txn range old joined new receipt table (joined_one limit txn old joined r rs table reached was.whole chain) was.made was.below

at_start : (n : ℕ) → 0 + n ≡ n
at_start n = omega arith

-- or there was no lock left
pub record Full (limit txn : ℕ) (old new : PassView) (place used_rows : ℕ) : Type 0 where
  pub stopped : IsStopped limit txn old.front new.front place used_rows
  pub table : IsTable limit new

pub ask_is_full : (limit txn : ℕ) (range : Interval) (old new : PassView) (place used_rows : ℕ) → IsTable limit old →
    AskAnswers (setting_of limit) (bar_for (setting_of limit) false) old new txn (Ask 0 range Granted) (Err (OutOfLocks place used_rows)) → Full limit txn old new place used_rows
ask_is_full limit txn range old new place used_rows table answers = by alone.joins alone.joined alone.reached alone.chain alone.answer
  where
    alone : AloneAskAnswers (setting_of limit) limit old new txn (Ask 0 range Granted) (Err (OutOfLocks place used_rows))
    alone = alone_ask_answers (setting_of limit) limit old new txn (Ask 0 range Granted) (Err (OutOfLocks place used_rows)) answers table.rights

    by : (joins : List Receipt) (joined : PassView) → HasReached (setting_of limit) limit old.front joins → AreJoinedAtOnce (setting_of limit) old joined txn 0 joins →
        IsRefused (setting_of limit) joined new (IsOutOfLocks (setting_of limit) limit joins joined.front place used_rows) → Full limit txn old new place used_rows
    by [] joined reached chain was = absurd (omega (arith, was.cause.all))
    by (r ∷ rs) joined reached chain was =
        let are = joined_one limit txn old joined r rs table reached was.cause.all chain in
        let front : new.front ≡ joined_first limit txn old.front = was.stays.front ∙ are.front in
        let full : limit ≤ used (after (setting_of limit) joined.front) = omega (arith, was.cause.reached, was.cause.used_is) in
        record {
          stopped = record {
            room = not_below (used_after limit (joined_first limit txn old.front)) limit (subst (λ (es : List Event). limit ≤ used (after (setting_of limit) es)) are.front full);
            front = front;
            place_is = was.cause.place_is ∙ at_start (length joined.front) ∙ ap (λ (es : List Event). length es) (sym was.stays.front);
            used_is = was.cause.used_is ∙ ap (λ (es : List Event). used (after (setting_of limit) es)) (sym was.stays.front);
          };
          table = record {
            number = was.stays.number ∙ are.number;
            rights = was.stays.rights ∙ are.rights;
            sound = was.stays.sound;
            plain = subst (λ (es : List Event). IsPlain (tree_after_all limit es).mode) (sym front) (first_plain limit txn old.front table.plain);
          };
        }

-- and where there are places nothing else comes
pub never_full : (limit txn : ℕ) (range : Interval) (old new : PassView) (place : ℕ) → IsTable limit old → length old.front + 2 ≤ 2 ^ 38 →
    AskAnswers (setting_of limit) (bar_for (setting_of limit) false) old new txn (Ask 0 range Granted) (Err (HistoryFull place)) → ⊥
never_full limit txn range old new place table room answers =
    alone_ask_done (setting_of limit) limit old new txn (Ask 0 range Granted) (Err (HistoryFull place))
    (alone_ask_answers (setting_of limit) limit old new txn (Ask 0 range Granted) (Err (HistoryFull place)) answers table.rights) (omega arith)

pub never_busy : (limit txn : ℕ) (range : Interval) (old new : PassView) (row holder : ℕ) → IsTable limit old →
    AskAnswers (setting_of limit) (bar_for (setting_of limit) false) old new txn (Ask 0 range Granted) (Err (Busy row holder)) → ⊥
never_busy limit txn range old new row holder table answers =
    (alone_ask_answers (setting_of limit) limit old new txn (Ask 0 range Granted) (Err (Busy row holder)) answers table.rights).answer.cause

-- A free makes its event.
pub record Freed (limit txn : ℕ) (range : Interval) (first : Bool) (old new : PassView) : Type 0 where
  pub front : new.front ≡ with_deed limit txn (Free 0 range first 0) old.front
  pub table : IsTable limit new

pub free_is : (limit txn : ℕ) (range : Interval) (first : Bool) (old new : PassView) (receipt : Receipt) → IsTable limit old →
    Answers (setting_of limit) old new txn (Free 0 range first 0) (Ok receipt) → Freed limit txn range first old new
free_is limit txn range first old new receipt table answers =
    let made = (alone_answers (setting_of limit) old new txn (Free 0 range first 0) (Ok receipt) answers table.rights).answer in
    let front : new.front ≡ with_deed limit txn (Free 0 range first 0) old.front =
    made.more.front ∙ ap (λ (e : Event). old.front ++ e ∷ []) (made_front limit txn (Free 0 range first 0) old new receipt table.number made.more) in
    record {
      front = front;
      table = record {
        number = made.more.number ∙ table.number;
        rights = made.more.rights ∙ table.rights;
        sound = made.sound;
        plain = subst (λ (es : List Event). IsPlain (tree_after_all limit es).mode) (sym front) (free_plain limit txn old.front range first table.plain);
      };
    }

pub free_never_full : (limit txn : ℕ) (range : Interval) (first : Bool) (old new : PassView) (place : ℕ) → IsTable limit old → length old.front + 1 ≤ 2 ^ 38 →
    Answers (setting_of limit) old new txn (Free 0 range first 0) (Err (HistoryFull place)) → ⊥
free_never_full limit txn range first old new place table room answers =
    alone_done (setting_of limit) old new txn (Free 0 range first 0) (Err (HistoryFull place))
    (alone_answers (setting_of limit) old new txn (Free 0 range first 0) (Err (HistoryFull place)) answers table.rights) (omega arith)

pub is_ask : (limit txn : ℕ) (range : Interval) (old new : PassView) (receipt : Receipt) → Fine limit txn range old new receipt → IsAskDeed receipt.event.deed
is_ask limit txn range old new receipt was = subst IsAskDeed (sym was.deed) tt

never_stopped : (place used_rows : ℕ) (r : Reply) → Stopped place used_rows ≡ said r → ⊥
never_stopped place used_rows Granted e = cc
never_stopped place used_rows Buffered e = cc
never_stopped place used_rows (HeldBy owners) e = cc

pub has_asked : (limit txn : ℕ) (range : Interval) (old new : PassView) (receipt : Receipt) (answer : Asked) → Fine limit txn range old new receipt → IsReplied receipt.event.deed answer →
    HasAsked limit txn range old.front new.front answer
has_asked limit txn range old new receipt answer was replied = by answer (subst (λ (d : Deed). IsReplied d answer) was.deed replied)
  where
    by : (a : Asked) → a ≡ said (reply_to limit txn range old.front) → HasAsked limit txn range old.front new.front a
    by IsGranted e = record { room = was.room; reply = e; front = was.front }
    by (Held owners) e = record { room = was.room; reply = e; front = was.front }
    by (Stopped place used_rows) e = absurd (never_stopped place used_rows (reply_to limit txn range old.front) e)
