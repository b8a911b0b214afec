-- Transactions keep their numbers from 1 at each step.
use Rattle.std.proofs.Common.{ℕ, ◌+◌, ◌≤◌, List, [], ◌∷◌, ◌++◌, Bool, true, false, nat_lt, ◌==◌, if◌then◌else◌, sym, subst}
use Rattle.lt_seq.specs.declared.event.Reply.{Reply}
use Rattle.lt_seq.specs.declared.event.Reply.TheVariants.{Granted, Buffered, HeldBy}
use Rattle.lt_ranges.specs.Numbers.{is_in}
use Rattle.lt_store.specs.declared.op.Op.{Op}
use Rattle.lt_store.specs.declared.op.Op.TheVariants.{Get, Put, Scan, Commit, Abort}
use Rattle.lt_store.specs.declared.answer.Answer.{Answer}
use Rattle.lt_store.specs.declared.done.Done.{Done}
use Rattle.lt_store.specs.Ranges.{range_of}
use Rattle.lt_store.specs.Attempts.{has_room, reply_to}
use Rattle.lt_store.specs.View.{Work, StoreView, begun}
use Rattle.lt_store.specs.Standing.{AreNumbered}
use Rattle.lt_store.specs.Steps.{IsAmong, RepliedTo, Attempts, DoesOp, StepsBy, Steps}

abbrev work_of : ℕ → List Done → Work
work_of txn done = record { txn = txn; done = done }

with_begun : (txn : ℕ) (ws : List Work) → 1 ≤ txn → AreNumbered ws → AreNumbered (begun txn ws)
with_begun txn [] one all = (one, tt)
with_begun txn (w ∷ ws) one all = by (nat_lt w.txn txn) (w.txn == txn) (with_begun txn ws one all.1)
  where
    by : (a b : Bool) → AreNumbered (begun txn ws) →
        AreNumbered (if a then w ∷ begun txn ws else if b then w ∷ ws else work_of txn [] ∷ w ∷ ws)
    by true b rest = (all.0, rest)
    by false true rest = all
    by false false rest = (one, all)

without : (before : List Work) (w : Work) (behind : List Work) → AreNumbered (before ++ w ∷ behind) → AreNumbered (before ++ behind)
without [] w behind all = all.1
without (x ∷ xs) w behind all = (all.0, without xs w behind all.1)

changed : (before : List Work) (txn : ℕ) (old new : List Done) (behind : List Work) → AreNumbered (before ++ work_of txn old ∷ behind) →
    AreNumbered (before ++ work_of txn new ∷ behind)
changed [] txn old new behind all = all
changed (x ∷ xs) txn old new behind all = (all.0, changed xs txn old new behind all.1)

module _ (old new : StoreView) (txn : ℕ) (one : 1 ≤ txn) (all : AreNumbered old.live) where
  around : (before : List Work) (done : List Done) (behind : List Work) → IsAmong old.live txn before done behind →
      AreNumbered (before ++ work_of txn done ∷ behind)
  around before done behind among = subst AreNumbered among.works_are (with_begun txn old.live one all)

  at_reply : (reply : Reply) (op : Op) (answer : Answer) → RepliedTo reply old new txn op answer → AreNumbered new.live
  at_reply Granted op answer is =
      subst (λ (v : StoreView). AreNumbered v.live) (sym is.new_is)
      (changed is.before txn is.done _ is.behind (around is.before is.done is.behind is.among))
  at_reply Buffered op answer is =
      subst (λ (v : StoreView). AreNumbered v.live) (sym is.new_is)
      (changed is.before txn is.done _ is.behind (around is.before is.done is.behind is.among))
  at_reply (HeldBy owners) op answer is = subst (λ (v : StoreView). AreNumbered v.live) (sym is.new_is) (with_begun txn old.live one all)

  at_attempt : (room : Bool) (op : Op) (answer : Answer) → Attempts room old new txn op answer → AreNumbered new.live
  at_attempt true op answer is = at_reply (reply_to old.limit txn (range_of op) old.front) op answer is
  at_attempt false op answer is =
      subst (λ (v : StoreView). AreNumbered v.live) (sym is.new_is)
      (without is.before _ is.behind (around is.before is.done is.behind is.among))

  at_op : (op : Op) (answer : Answer) → DoesOp op old new txn answer → AreNumbered new.live
  at_op (Get key) answer is = at_attempt (has_room old.limit txn old.front) (Get key) answer is
  at_op (Put key value) answer is = at_attempt (has_room old.limit txn old.front) (Put key value) answer is
  at_op (Scan range) answer is = at_attempt (has_room old.limit txn old.front) (Scan range) answer is
  at_op Commit answer is =
      subst (λ (v : StoreView). AreNumbered v.live) (sym is.new_is)
      (without is.before _ is.behind (around is.before is.done is.behind is.among))
  at_op Abort answer is =
      subst (λ (v : StoreView). AreNumbered v.live) (sym is.new_is)
      (without is.before _ is.behind (around is.before is.done is.behind is.among))

  by_gone : (gone : Bool) (op : Op) (answer : Answer) → StepsBy gone old new txn op answer → AreNumbered new.live
  by_gone true op answer is = subst (λ (v : StoreView). AreNumbered v.live) (sym is.1) all
  by_gone false op answer is = at_op op answer is

  pub still_numbered : (op : Op) (answer : Answer) → Steps old new txn op answer → AreNumbered new.live
  still_numbered op answer is = by_gone (is_in txn old.gone) op answer is
