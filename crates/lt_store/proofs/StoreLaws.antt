-- What each move leaves of the locks that live transactions hold.
use Rattle.std.proofs.Common.{◌≡◌, ◌≢◌, ℕ, ◌+◌, ◌*◌, ◌≤◌, List, [], ◌∷◌, ◌++◌, length, Bool, true, false, ◌⊎◌, inl, inr, refl, sym, ap, subst, ◌∙◌, arith}
use Rattle.lt_ranges.specs.declared.key.Key.{Key}
use Rattle.lt_ranges.specs.Interval.{Interval, has}
use Rattle.lt_seq.specs.declared.event.Pair.{Pair}
use Rattle.lt_seq.specs.declared.event.Event.{Event}
use Rattle.lt_seq.specs.declared.event.Reply.{Reply}
use Rattle.lt_seq.specs.declared.event.Reply.TheVariants.{Granted, Buffered, HeldBy}
use Rattle.lt_seq.specs.Pairs.{others}
use Rattle.lt_seq.specs.Table.{ask_reply, reply_by}
use Rattle.lt_seq.specs.Joins.{holds}
use Rattle.lt_seq.specs.History.{IsLegal}
use Rattle.lt_store.specs.declared.op.Op.{Op}
use Rattle.lt_store.specs.declared.op.Op.TheVariants.{Get, Put, Scan, Commit, Abort}
use Rattle.lt_store.specs.declared.done.Done.{Done}
use Rattle.lt_store.specs.declared.locks.Asked.{Asked}
use Rattle.lt_store.specs.declared.locks.Asked.TheVariants.{Granted as IsGranted, Held, OutOfLocks}
use Rattle.lt_store.specs.Ranges.{range_of}
use Rattle.lt_store.specs.Clear.{Clear, IsClearOf, AreClearOf}
use Rattle.lt_store.specs.Attempts.{setting_of, tree_after_all, joined_first, asked, reply_to, all_freed}
use Rattle.lt_store.specs.Locks.{said, IsPlain}
use Rattle.lt_store.specs.Book.{Acts, In, HoldsAll, AreHeld}
use Rattle.lt_store.proofs.RowsLaws.{either, never}
use Rattle.lt_store.proofs.RerunLaws.{has_itself}
use Rattle.lt_store.proofs.PairLaws.{nobody_has}
use Rattle.lt_store.proofs.LiveLaws.{in_others, in_changed, in_middle}
use Rattle.lt_store.proofs.TableLaws.{reply_is, first_holds, ask_holds, ask_gives, frees_hold}

-- where every key stays held, so do those that a transaction has touched
holds_still : (txn : ℕ) (old new : List Pair) (ops : List Done) → ((key : Key) → holds txn key old ≡ true → holds txn key new ≡ true) → HoldsAll txn old ops → HoldsAll txn new ops
holds_still txn old new [] keeps held = tt
holds_still txn old new (d ∷ ds) keeps held = (λ key e. keeps key (held.0 key e), holds_still txn old new ds keeps held.1)

-- an ask that was granted met nobody
none_against : (os : List ℕ) → IsGranted ≡ said (reply_by os) → os ≡ []
none_against [] e = refl
none_against (o ∷ os) e = cc

pub granted_unopposed : (limit txn : ℕ) (range : Interval) (events : List Event) → IsGranted ≡ said (reply_to limit txn range events) →
    others txn range (tree_after_all limit (joined_first limit txn events)).pairs ≡ []
granted_unopposed limit txn range events e =
    none_against (others txn range (tree_after_all limit (joined_first limit txn events)).pairs)
    (e ∙ ap said (reply_is txn range (tree_after_all limit (joined_first limit txn events))))

-- so that it meets no put of another, and no other meets its own
module _ (txn : ℕ) (range : Interval) (pairs : List Pair) (none : others txn range pairs ≡ []) (owner : ℕ) (differ : owner ≢ txn) where
  clear_held : (key : Key) → has range key ≡ true → (ops : List Done) → HoldsAll owner pairs ops → Clear key ops
  clear_held key e [] held = tt
  clear_held key e (d ∷ ds) held = (
    elim (either (has (range_of d.op) key)) [
      | inl f ↦ never (has range key) e (nobody_has txn range pairs owner key none differ (held.0 key f))
      | inr f ↦ f
    ],
    clear_held key e ds held.1,
  )

  pub puts_meet_none : (op : Op) → range_of op ≡ range → (ops : List Done) → HoldsAll owner pairs ops → IsClearOf op ops
  puts_meet_none (Get key) is ops held = tt
  puts_meet_none (Put key value) is ops held = clear_held key (subst (λ (r : Interval). has r key ≡ true) is (has_itself key)) ops held
  puts_meet_none (Scan r) is ops held = tt
  puts_meet_none Commit is ops held = tt
  puts_meet_none Abort is ops held = tt

  one_meets_none : (op : Op) → ((key : Key) → has (range_of op) key ≡ true → holds owner key pairs ≡ true) → (d : Done) → range_of d.op ≡ range → IsClearOf op (d ∷ [])
  one_meets_none (Get key) h d is = tt
  one_meets_none (Put key value) h d is =
      (subst (λ (r : Interval). has r key ≡ false) (sym is) (nobody_has txn range pairs owner key none differ (h key (has_itself key))), tt)
  one_meets_none (Scan r) h d is = tt
  one_meets_none Commit h d is = tt
  one_meets_none Abort h d is = tt

  pub meets_no_puts : (d : Done) → range_of d.op ≡ range → (ops : List Done) → HoldsAll owner pairs ops → AreClearOf ops (d ∷ [])
  meets_no_puts d is [] held = tt
  meets_no_puts d is (e ∷ es) held = (one_meets_none e.op held.0 d is, meets_no_puts d is es held.1)

-- The joins before an ask, and the ask.
pub held_first : (limit txn : ℕ) (events : List Event) (live : List Acts) → IsLegal (setting_of limit) events → AreHeld (tree_after_all limit events).pairs live →
    AreHeld (tree_after_all limit (joined_first limit txn events)).pairs live
held_first limit txn events live legal held = λ a there.
    holds_still a.txn (tree_after_all limit events).pairs (tree_after_all limit (joined_first limit txn events)).pairs a.done
    (λ key e. first_holds limit txn events a.txn key legal e) (held a there)

pub held_asked : (limit txn : ℕ) (range : Interval) (events : List Event) (live : List Acts) → IsLegal (setting_of limit) events → AreHeld (tree_after_all limit events).pairs live →
    AreHeld (tree_after_all limit (asked limit txn range events)).pairs live
held_asked limit txn range events live legal held = λ a there.
    holds_still a.txn (tree_after_all limit (joined_first limit txn events)).pairs (tree_after_all limit (asked limit txn range events)).pairs a.done
    (λ key e. ask_holds limit txn (joined_first limit txn events) range a.txn key e) (held_first limit txn events live legal held a there)

-- a release takes nothing from the others
pub held_freed : (limit txn : ℕ) (ops : List Done) (events : List Event) (others_live : List Acts) → IsPlain (tree_after_all limit events).mode →
    ((a : Acts) → In others_live a → a.txn ≢ txn) → AreHeld (tree_after_all limit events).pairs others_live →
    AreHeld (tree_after_all limit (all_freed limit txn true ops events)).pairs others_live
held_freed limit txn ops events others_live plain differ held = λ a there.
    holds_still a.txn (tree_after_all limit events).pairs (tree_after_all limit (all_freed limit txn true ops events)).pairs a.done
    (λ key e. frees_hold limit txn true ops events a.txn key plain (differ a there) e) (held a there)

-- the transaction holds what it was granted, besides what it held
holds-append : (txn : ℕ) (pairs : List Pair) (xs ys : List Done) → HoldsAll txn pairs xs → HoldsAll txn pairs ys → HoldsAll txn pairs (xs ++ ys)
holds-append txn pairs [] ys h k = k
holds-append txn pairs (d ∷ ds) ys h k = (h.0, holds-append txn pairs ds ys h.1 k)

pub held_now : (limit : ℕ) (events : List Event) (before : List Acts) (a now : Acts) (behind : List Acts) (d : Done) → now.txn ≡ a.txn → now.done ≡ a.done ++ d ∷ [] →
    IsLegal (setting_of limit) events → others a.txn (range_of d.op) (tree_after_all limit (joined_first limit a.txn events)).pairs ≡ [] →
    AreHeld (tree_after_all limit events).pairs (before ++ a ∷ behind) →
    AreHeld (tree_after_all limit (asked limit a.txn (range_of d.op) events)).pairs (before ++ now ∷ behind)
held_now limit events before a now behind d txn_is done_is legal none held =
    let new = (tree_after_all limit (asked limit a.txn (range_of d.op) events)).pairs in
    let all = held_asked limit a.txn (range_of d.op) events (before ++ a ∷ behind) legal held in
    let own : HoldsAll a.txn new (a.done ++ d ∷ []) =
    holds-append a.txn new a.done (d ∷ []) (all a (in_middle before a behind))
    (λ key e. ask_gives limit a.txn (joined_first limit a.txn events) (range_of d.op) key none e, tt) in
    λ x there. elim (in_changed before now behind x there) [
      | inl e ↦ subst (λ (y : Acts). HoldsAll y.txn new y.done) e
          (subst (λ (n : ℕ). HoldsAll n new now.done) (sym txn_is) (subst (λ (l : List Done). HoldsAll a.txn new l) (sym done_is) own))
      | inr k ↦ all x (in_others before a behind x k)
    ]
