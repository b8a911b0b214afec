-- The table under the map, and what came of asking it.
use Rattle.std.specs.Prelude.{◌≡◌, ℕ, List, length, true, false}
use Rattle.lt_ranges.specs.Interval.{Interval}
use Rattle.lt_seq.specs.declared.event.Mode.{Mode}
use Rattle.lt_seq.specs.declared.event.Mode.TheVariants.{Tree, Buffer}
use Rattle.lt_seq.specs.declared.event.Deed.{Deed}
use Rattle.lt_seq.specs.declared.event.Deed.TheVariants.{Ask, Free, Who, Join}
use Rattle.lt_seq.specs.declared.event.Reply.{Reply}
use Rattle.lt_seq.specs.declared.event.Reply.TheVariants.{Granted, Buffered, HeldBy}
use Rattle.lt_seq.specs.declared.event.Event.{Event}
use Rattle.lt_seq.specs.Yard.{PassView, IsSound}
use Rattle.lt_store.specs.declared.locks.Asked.{Asked}
use Rattle.lt_store.specs.declared.locks.Asked.TheVariants.{Granted as IsGranted, Held, OutOfLocks}
use Rattle.lt_store.specs.Attempts.{setting_of, tree_after_all, used_after, joined_first, has_room, asked, reply_to}

-- the tree is no buffer
abbrev pub IsPlain : Mode → Type 0
IsPlain (Tree score) = Unit {0}
IsPlain (Buffer txn count) = ⊥

-- one pass that has all the rights
pub record IsTable (limit : ℕ) (pass : PassView) : Type 0 where
  pub number : pass.number ≡ 0
  pub rights : pass.rights ≡ 1
  pub sound : IsSound (setting_of limit) pass
  pub plain : IsPlain (tree_after_all limit pass.front).mode

abbrev pub IsAskDeed : Deed → Type 0
IsAskDeed (Ask tree range reply) = Unit {0}
IsAskDeed (Free tree range first count) = ⊥
IsAskDeed (Who tree range named owners) = ⊥
IsAskDeed (Join tree before after) = ⊥

-- what a reply says
abbrev pub said : Reply → Asked
said Granted = IsGranted
said Buffered = IsGranted
said (HeldBy owners) = Held owners

abbrev pub IsReplied : Deed → Asked → Type 0
IsReplied (Ask tree range reply) answer = answer ≡ said reply
IsReplied (Free tree range first count) answer = ⊥
IsReplied (Who tree range named owners) answer = ⊥
IsReplied (Join tree before after) answer = ⊥

-- it asked, and the reply said so
pub record IsReply (limit txn : ℕ) (range : Interval) (old new : List Event) (answer : Asked) : Type 0 where
  pub room : has_room limit txn old ≡ true
  pub reply : answer ≡ said (reply_to limit txn range old)
  pub front : new ≡ asked limit txn range old

-- or there was no lock left
pub record IsStopped (limit txn : ℕ) (old new : List Event) (place used_rows : ℕ) : Type 0 where
  pub room : has_room limit txn old ≡ false
  pub front : new ≡ joined_first limit txn old
  pub place_is : place ≡ length new
  pub used_is : used_rows ≡ used_after limit new

abbrev pub HasAsked : ℕ → ℕ → Interval → List Event → List Event → Asked → Type 0
HasAsked limit txn range old new IsGranted = IsReply limit txn range old new IsGranted
HasAsked limit txn range old new (Held owners) = IsReply limit txn range old new (Held owners)
HasAsked limit txn range old new (OutOfLocks place used_rows) = IsStopped limit txn old new place used_rows
