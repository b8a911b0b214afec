-- What the calls of a yard promise, by what a pass has seen before and after.
use Rattle.std.specs.Prelude.{◌≡◌, ◌≢◌, ◌⊎◌, ℕ, ◌+◌, ◌-◌, ◌/◌, ◌^◌, ◌<◌, ◌≤◌, List, [], ◌∷◌, ◌++◌, length, min, Bool, if◌then◌else◌, Result, Ok, Err}
use Rattle.lt_seq.specs.declared.event.Deed.{Deed}
use Rattle.lt_seq.specs.declared.event.Deed.TheVariants.{Ask, Free, Who, Join}
use Rattle.lt_seq.specs.declared.event.Event.{Event}
use Rattle.lt_seq.specs.declared.event.Receipt.{Receipt}
use Rattle.lt_seq.specs.declared.event.JoinNote.{JoinNote}
use Rattle.lt_seq.specs.declared.event.Look.{Look}
use Rattle.lt_seq.specs.declared.fault.Fault.{Fault}
use Rattle.lt_seq.specs.declared.fault.Fault.TheVariants.{OutOfMemory, Busy, HistoryFull, OutOfLocks}
use Rattle.lt_seq.specs.declared.plan.YardPlan.{YardPlan}
use Rattle.lt_seq.specs.Pairs.{joined}
use Rattle.lt_seq.specs.Table.{Setting, tree_at, tree_of, replied, used, held_in}
use Rattle.lt_seq.specs.History.{after, IsLegal, IsFront, calls_from}

-- the place from which on no call makes an event
abbrev pub places_end : ℕ
places_end = 2 ^ 39

-- the sizes that a table may have
pub record IsPlan (plan : YardPlan) : Type 0 where
  pub trees : 1 ≤ plan.trees
  pub trees_most : plan.trees ≤ 16
  pub limit : 1 ≤ plan.limit
  pub limit_most : plan.limit ≤ 65536
  pub buffer_most : plan.buffer ≤ 65536
  pub passes : 1 ≤ plan.passes
  pub passes_most : plan.passes ≤ 17
  pub first_most : plan.first ≤ places_end

-- Which yard a pass or a note was made for: plain data, so that a type can name the yard of those that it holds.
pub record Origin : Type 0 where
  pub identity : List ℕ
  pub setting : Setting

-- the origin of the passes and notes of a yard with this identity and setting
abbrev pub origin_of : List ℕ → Setting → Origin
origin_of identity setting = record { identity = identity; setting = setting }

-- what contracts see of a pass
pub record PassView : Type 0 where
  pub number : ℕ
  pub rights : ℕ
  -- how often it found a row held by another pass, and that row and pass as it found them last
  pub met : ℕ
  pub met_row : ℕ
  pub met_holder : ℕ
  -- the history as it has seen it
  pub front : List Event
  -- the receipts of its own calls
  pub mine : List Receipt
  -- the notes of its joins that were not taken yet
  pub notes : List JoinNote

-- what contracts see of a note that one pass hands to another
pub record NoteView : Type 0 where
  pub rights : ℕ
  pub front : List Event

-- the place of the event after these
abbrev pub place_after : Setting → List Event → ℕ
place_after setting events = setting.plan.first + length events

-- the pass has all the rights
abbrev pub HasAll : Setting → PassView → Type 0
HasAll setting pass = pass.rights ≡ setting.plan.passes

-- a count that rose, or can rise no more
abbrev pub Rose : ℕ → ℕ → Type 0
Rose before now = min (before + 1) (2 ^ 64 - 1) ≤ now

-- what holds of a pass at every moment
pub record IsSound (setting : Setting) (pass : PassView) : Type 0 where
  pub legal : IsLegal setting pass.front
  pub mine : pass.mine ≡ calls_from setting.plan.first pass.number pass.front

-- a pass after any call: it keeps its number and has seen no less
pub record Goes (setting : Setting) (old new : PassView) : Type 0 where
  pub number : new.number ≡ old.number
  pub met : old.met ≤ new.met
  pub front : IsFront old.front new.front
  pub sound : IsSound setting new

-- a pass after a call that makes no event of its own
pub record Watches (setting : Setting) (old new : PassView) : Type 0 where
  pub goes : Goes setting old new
  pub rights : new.rights ≡ old.rights
  pub mine : new.mine ≡ old.mine
  pub notes : new.notes ≡ old.notes
  pub alone : HasAll setting old → new.front ≡ old.front

-- what a look shows
abbrev pub shows : Setting → List Event → Look
shows setting events = record { place = place_after setting events; used = used (after setting events) }

-- Calls that make one event.

-- the event that a deed is after others, with its replies
abbrev pub event_after : Setting → List Event → ℕ → ℕ → Deed → Event
event_after setting events pass txn deed =
    record { pass = pass; txn = txn; deed = replied setting txn deed (tree_at (after setting events) (tree_of deed)) }

-- the note of a join behind these events, with the tree's pairs after it
abbrev pub note_after : Setting → List Event → ℕ → JoinNote
note_after setting events tree =
    let pairs = (tree_at (after setting events) tree).pairs in
    record {
      place = place_after setting events;
      tree = tree;
      before = length pairs;
      after = length (joined setting.marks pairs);
      pairs = held_in tree (joined setting.marks pairs);
    }

-- the notes of a pass once the deed was done behind these events: a join leaves one
abbrev pub noted : Setting → List Event → Deed → List JoinNote → List JoinNote
noted setting events (Ask tree range reply) notes = notes
noted setting events (Free tree range first count) notes = notes
noted setting events (Who tree range named owners) notes = notes
noted setting events (Join tree n m) notes = notes ++ note_after setting events tree ∷ []

-- A call whose only event is the deed: somewhere behind what the pass had seen it looked, and somewhere behind that the
-- event took place. With all the rights both are right there.
pub record Happens (setting : Setting) (old new : PassView) (txn : ℕ) (deed : Deed) (receipt : Receipt) : Type 0 where
  -- what its look saw, and what stood before its event
  pub seen : List Event
  pub before : List Event
  pub looked : IsFront old.front seen
  pub waited : IsFront seen before
  pub room : place_after setting seen < places_end
  pub event : receipt.event ≡ event_after setting before old.number txn deed
  pub place : receipt.place ≡ place_after setting before
  pub front : new.front ≡ before ++ receipt.event ∷ []
  pub mine : new.mine ≡ old.mine ++ receipt ∷ []
  pub notes : new.notes ≡ noted setting before deed old.notes
  pub rights : new.rights ≡ old.rights
  pub alone_seen : HasAll setting old → seen ≡ old.front
  pub alone : HasAll setting old → before ≡ old.front
  pub goes : Goes setting old new

-- A fault without an event: its cause is of the history that the call saw.
pub record FaultAt (setting : Setting) (old new : PassView) (Cause : List Event → Type 0) : Type 0 where
  -- what its last look saw
  pub seen : List Event
  pub looked : IsFront old.front seen
  pub waited : IsFront seen new.front
  pub alone_seen : HasAll setting old → seen ≡ old.front
  pub cause : Cause seen
  pub watches : Watches setting old new

-- the row was held by another pass, this pass has not all the rights, and its look showed a place at which an event could be made
pub record IsBusy (setting : Setting) (old new : PassView) (seen : List Event) (row holder : ℕ) : Type 0 where
  pub room : place_after setting seen < places_end
  pub rose : Rose old.met new.met
  pub row_is : row ≡ new.met_row
  pub holder_is : holder ≡ new.met_holder
  pub others : old.rights ≢ setting.plan.passes

-- a look showed a place from which on no call makes an event
pub record IsFull (setting : Setting) (seen : List Event) (place : ℕ) : Type 0 where
  pub place_is : place ≡ place_after setting seen
  pub full : places_end ≤ place

-- the cause of each fault of a call other than an ask
abbrev pub Caused : Setting → PassView → PassView → Fault → List Event → Type 0
Caused setting old new OutOfMemory seen = Unit {0}
Caused setting old new (Busy row holder) seen = IsBusy setting old new seen row holder
Caused setting old new (HistoryFull place) seen = IsFull setting seen place
Caused setting old new (OutOfLocks place used_rows) seen = ⊥

-- the event of such a call, or why there was none
abbrev pub Answered : Setting → PassView → PassView → ℕ → Deed → Result Receipt Fault → Type 0
Answered setting old new txn deed (Ok receipt) = Happens setting old new txn deed receipt
Answered setting old new txn deed (Err fault) = FaultAt setting old new (Caused setting old new fault)

-- the answer of a call other than an ask: whatever it is, the pass keeps its rights, and has seen no less
pub record Answers (setting : Setting) (old new : PassView) (txn : ℕ) (deed : Deed) (result : Result Receipt Fault) : Type 0 where
  pub rights : new.rights ≡ old.rights
  pub goes : Goes setting old new
  pub answer : Answered setting old new txn deed result

-- Asks.

-- the used rows at which an ask makes joins, and behind them is out of locks: half as many, rounded up, for a big transaction
abbrev pub bar_for : Setting → Bool → ℕ
bar_for setting big = if big then setting.plan.limit - setting.plan.limit / 2 else setting.plan.limit

-- A join of this tree that an ask makes, and then others. The look before the first tree's showed that the rows have reached the bar.
pub record JoinsOne (setting : Setting) (bar : ℕ) (old : PassView) (txn tree : ℕ) (receipt : Receipt) (Others : PassView → Type 0) : Type 0 where
  -- the pass behind it
  pub next : PassView
  pub join : Happens setting old next txn (Join tree 0 0) receipt
  pub reached : tree ≡ 0 → bar ≤ used (after setting join.seen)
  pub others : Others next

-- the joins that an ask makes, of the trees from this one on, ascending
abbrev pub AreJoined : Setting → ℕ → PassView → PassView → ℕ → ℕ → List Receipt → Type 0
AreJoined setting bar old new txn tree [] = new ≡ old
AreJoined setting bar old new txn tree (r ∷ rs) =
    JoinsOne setting bar old txn tree r (λ next. AreJoined setting bar next new txn (tree + 1) rs)

-- An ask makes its event behind no join, or behind those of all trees.
abbrev pub AreNoneOrAll : Setting → List Receipt → Type 0
AreNoneOrAll setting [] = Unit {0}
AreNoneOrAll setting (r ∷ rs) = length (r ∷ rs) ≡ setting.plan.trees

-- its event behind these joins: its look showed a row below the bar
pub record IsAsked (setting : Setting) (bar : ℕ) (joins : List Receipt) (old new : PassView) (txn : ℕ)
    (deed : Deed) (receipt : Receipt) : Type 0 where
  pub whole : AreNoneOrAll setting joins
  pub happens : Happens setting old new txn deed receipt
  pub below : used (after setting happens.seen) < bar

-- It is busy behind these joins: at the next join, or at its event, before which its look showed a row below the bar where all trees were joined.
pub record IsBusyAsk (setting : Setting) (bar : ℕ) (joins : List Receipt) (old new : PassView) (seen : List Event) (row holder : ℕ) : Type 0 where
  pub busy : IsBusy setting old new seen row holder
  pub below : length joins ≡ setting.plan.trees → used (after setting seen) < bar

-- the look behind the joins of all trees showed rows that have reached the bar, and a place at which an event could be made
pub record IsOutOfLocks (setting : Setting) (bar : ℕ) (joins : List Receipt) (seen : List Event) (place used_rows : ℕ) : Type 0 where
  pub all : length joins ≡ setting.plan.trees
  pub place_is : place ≡ place_after setting seen
  pub room : place < places_end
  pub used_is : used_rows ≡ used (after setting seen)
  pub reached : bar ≤ used_rows

-- the cause of each fault of an ask, behind these joins
abbrev pub AskCaused : Setting → ℕ → List Receipt → PassView → PassView → Fault → List Event → Type 0
AskCaused setting bar joins old new OutOfMemory seen = Unit {0}
AskCaused setting bar joins old new (Busy row holder) seen = IsBusyAsk setting bar joins old new seen row holder
AskCaused setting bar joins old new (HistoryFull place) seen = IsFull setting seen place
AskCaused setting bar joins old new (OutOfLocks place used_rows) seen = IsOutOfLocks setting bar joins seen place used_rows

-- its event behind these joins, or why there was none
abbrev pub AskAnswered : Setting → ℕ → List Receipt → PassView → PassView → ℕ → Deed → Result Receipt Fault → Type 0
AskAnswered setting bar joins old new txn deed (Ok receipt) = IsAsked setting bar joins old new txn deed receipt
AskAnswered setting bar joins old new txn deed (Err fault) = FaultAt setting old new (AskCaused setting bar joins old new fault)

-- The answer of an ask: its joins, of the trees from 0 on, and its event behind them, or why there was none. The joins
-- stand, and the pass keeps its rights, whatever it answers.
pub record AskAnswers (setting : Setting) (bar : ℕ) (old new : PassView) (txn : ℕ) (deed : Deed) (result : Result Receipt Fault) : Type 0 where
  pub rights : new.rights ≡ old.rights
  pub goes : Goes setting old new
  pub joins : List Receipt
  -- the pass behind the joins
  pub joined : PassView
  pub most : length joins ≤ setting.plan.trees
  pub chain : AreJoined setting bar old joined txn 0 joins
  pub answer : AskAnswered setting bar joins joined new txn deed result

-- Notes.

-- the longer of two fronts, one of which goes on as the other
abbrev pub IsLonger : List Event → List Event → List Event → Type 0
IsLonger one two longer = ((longer ≡ one) × IsFront two one) ⊎ ((longer ≡ two) × IsFront one two)

-- A note carries rights, and what the pass has seen. In a table of one pass there is no other to tell, and it may carry less.
pub record Shares (setting : Setting) (pass : PassView) (rights : ℕ) (note : NoteView) : Type 0 where
  pub rights_are : note.rights ≡ rights
  pub front : IsFront note.front pass.front
  pub whole : 2 ≤ setting.plan.passes → note.front ≡ pass.front

-- a pass that learns of a note adds its rights, and takes the longer front
pub record Learns (setting : Setting) (old : PassView) (note : NoteView) (new : PassView) : Type 0 where
  pub same : new ≡ record old { rights = old.rights + note.rights; front = new.front }
  pub longer : IsLonger old.front note.front new.front
  pub sound : IsSound setting new

-- one event more, at once: what a call comes to where no other pass acts
pub record OneMore (setting : Setting) (old new : PassView) (txn : ℕ) (deed : Deed) (receipt : Receipt) : Type 0 where
  pub receipt_is : receipt ≡ record { place = place_after setting old.front; event = event_after setting old.front old.number txn deed }
  pub front : new.front ≡ old.front ++ receipt.event ∷ []
  pub mine : new.mine ≡ old.mine ++ receipt ∷ []
  pub notes : new.notes ≡ noted setting old.front deed old.notes
  pub rights : new.rights ≡ old.rights
  pub met : old.met ≤ new.met
  pub number : new.number ≡ old.number
