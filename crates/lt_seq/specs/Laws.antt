-- The laws of the table, clause by clause.
use Rattle.std.specs.Prelude.{◌≡◌, ◌≢◌, ℕ, ◌+◌, ◌-◌, ◌<◌, ◌≤◌, ◌==◌, ◌&&◌, List, [], ◌∷◌, ◌++◌, length, map, take, Result, true}
use Rattle.std.specs.List.{list_any, Contains}
use Rattle.std.specs.List.Sorted.{IsStrictlyIncreasing}
use Rattle.lt_ranges.specs.declared.key.Key.{Key}
use Rattle.lt_ranges.specs.Interval.{Interval}
use Rattle.lt_ranges.specs.Numbers.{is_in}
use Rattle.lt_seq.specs.declared.event.Deed.{Deed}
use Rattle.lt_seq.specs.declared.event.Deed.TheVariants.{Ask}
use Rattle.lt_seq.specs.declared.event.Pair.{Pair}
use Rattle.lt_seq.specs.declared.event.Reply.TheVariants.{HeldBy}
use Rattle.lt_seq.specs.declared.event.Event.{Event}
use Rattle.lt_seq.specs.declared.event.Receipt.{Receipt}
use Rattle.lt_seq.specs.declared.fault.Fault.{Fault}
use Rattle.lt_seq.specs.Pairs.{IsLawful, is_others, others, joined}
use Rattle.lt_seq.specs.Joins.{Joins, holds}
use Rattle.lt_seq.specs.Sound.{IsLawfulTable}
use Rattle.lt_seq.specs.KeepsLocks.{KeepsLocks}
use Rattle.lt_seq.specs.Table.{Setting, TreeState, opening, step, tree_at, used}
use Rattle.lt_seq.specs.History.{after, IsLegal, IsNext, calls_from}
use Rattle.lt_seq.specs.Yard.{PassView, NoteView, HasAll, Answers, AskAnswers, Shares, Learns, OneMore, place_after, places_end}
use Rattle.lt_seq.specs.Passes.{RightsAndFronts, opening_passes, IsInOneList}
use Rattle.lt_seq.specs.Questions.{all_receipts}
use Rattle.lt_seq.specs.Alone.{AloneAnswers, AloneAskAnswers, IsDone, IsDoneOrOutOfLocks}

-- a legal history and a next event are a legal history
abbrev pub OneMoreIsLegal : Type 0
OneMoreIsLegal =
    (setting : Setting) (events : List Event) (e : Event) → IsLegal setting events → IsNext setting (after setting events) e
    → IsLegal setting (events ++ e ∷ [])

-- and the pass that made the event has one call more
abbrev pub OneMoreIsCalled : Type 0
OneMoreIsCalled =
    (place pass : ℕ) (events : List Event) (e : Event) → e.pass ≡ pass
    → calls_from place pass (events ++ e ∷ []) ≡ calls_from place pass events ++ record { place = place + length events; event = e } ∷ []

-- the table at the start is lawful
abbrev pub OpeningIsLawful : Type 0
OpeningIsLawful = (setting : Setting) → IsLawfulTable setting (opening setting)

-- a step keeps a table lawful
abbrev pub StepKeepsLawful : Type 0
StepKeepsLawful =
    (setting : Setting) (trees : List TreeState) (e : Event) → IsLawfulTable setting trees → IsNext setting trees e
    → IsLawfulTable setting (step setting trees e)

-- so it is lawful at every point of a legal history
abbrev pub HistoryKeepsLawful : Type 0
HistoryKeepsLawful =
    (setting : Setting) (events : List Event) → IsLegal setting events → (k : ℕ) → IsLawfulTable setting (after setting (take k events))

-- an event adds at most one row
abbrev pub EventAddsOneRow : Type 0
EventAddsOneRow =
    (setting : Setting) (trees : List TreeState) (e : Event) → IsLawfulTable setting trees → IsNext setting trees e
    → used (step setting trees e) ≤ used trees + 1

-- so there are no more rows than events
abbrev pub RowsAreNoMoreThanEvents : Type 0
RowsAreNoMoreThanEvents = (setting : Setting) (events : List Event) → IsLegal setting events → used (after setting events) ≤ length events

-- a refusal names the other owners, and there is one
abbrev pub RefusalNamesOthers : Type 0
RefusalNamesOthers =
    (setting : Setting) (trees : List TreeState) (e : Event) (tree : ℕ) (range : Interval) (owners : List ℕ) → IsNext setting trees e
    → e.deed ≡ Ask tree range (HeldBy owners) → (owners ≡ others e.txn range (tree_at trees tree).pairs) × (owners ≢ [])

-- the other owners are exactly those of whom a range overlaps
abbrev pub OthersAreExact : Type 0
OthersAreExact =
    (txn : ℕ) (range : Interval) (pairs : List Pair) (owner : ℕ)
    → is_in owner (others txn range pairs) ≡ list_any (λ p. (p.owner == owner) && is_others txn range p) pairs

-- ascending, each once
abbrev pub OthersAscend : Type 0
OthersAscend = (txn : ℕ) (range : Interval) (pairs : List Pair) → IsStrictlyIncreasing (others txn range pairs)

-- lawful pairs are joined as a join may
abbrev pub JoinedJoins : Type 0
JoinedJoins = (marks : List Key) (pairs : List Pair) → IsLawful pairs → Joins marks pairs (joined marks pairs)

-- an owner that has a key after a join is whoever had it before
abbrev pub JoinedGivesNoneOfAnother : Type 0
JoinedGivesNoneOfAnother =
    (marks : List Key) (a b : ℕ) (key : Key) (pairs : List Pair) → IsLawful pairs → holds a key pairs ≡ true
    → holds b key (joined marks pairs) ≡ true → a ≡ b

-- a legal history keeps the locks
abbrev pub LegalHistoriesKeepLocks : Type 0
LegalHistoriesKeepLocks = (setting : Setting) (history : List Event) → IsLegal setting history → KeepsLocks setting history

-- the passes of a fresh table share its rights, and have seen nothing
abbrev pub OpeningSharesRights : Type 0
OpeningSharesRights = (setting : Setting) → 1 ≤ setting.plan.passes → RightsAndFronts setting [] (opening_passes setting.plan.passes) []

-- a pass that has all the rights has seen the whole history
abbrev pub AllRightsSeeAll : Type 0
AllRightsSeeAll =
    (setting : Setting) (history : List Event) (passes : List PassView) (notes : List NoteView) (pass : PassView)
    → RightsAndFronts setting history passes notes → Contains passes pass → HasAll setting pass → pass.front ≡ history

-- a pass that shares keeps it so
abbrev pub SharesKeep : Type 0
SharesKeep =
    (setting : Setting) (history : List Event) (before behind : List PassView) (notes : List NoteView) (pass : PassView) (rights : ℕ) (note : NoteView)
    → RightsAndFronts setting history (before ++ pass ∷ behind) notes → rights ≤ pass.rights → Shares setting pass rights note
    → RightsAndFronts setting history (before ++ record pass { rights = pass.rights - rights } ∷ behind) (note ∷ notes)

-- and one that learns
abbrev pub LearnsKeep : Type 0
LearnsKeep =
    (setting : Setting) (history : List Event) (before behind : List PassView) (earlier later : List NoteView) (old new : PassView) (note : NoteView)
    → RightsAndFronts setting history (before ++ old ∷ behind) (earlier ++ note ∷ later) → Learns setting old note new
    → RightsAndFronts setting history (before ++ new ∷ behind) (earlier ++ later)

-- and an event of a pass that has all the rights, which is the history's next
abbrev pub EventsKeep : Type 0
EventsKeep =
    (setting : Setting) (history : List Event) (before behind : List PassView) (notes : List NoteView) (old new : PassView) (txn : ℕ) (deed : Deed) (receipt : Receipt)
    → RightsAndFronts setting history (before ++ old ∷ behind) notes → HasAll setting old → OneMore setting old new txn deed receipt
    → RightsAndFronts setting (history ++ receipt.event ∷ []) (before ++ new ∷ behind) notes

-- each receipt of a legal history is in the list of its pass and in no other
abbrev pub EachIsInOneList : Type 0
EachIsInOneList =
    (setting : Setting) (history : List Event) (receipt : Receipt) → IsLegal setting history
    → Contains (all_receipts setting.plan.first history) receipt → IsInOneList setting history receipt

-- the lists have receipts of the history alone
abbrev pub ListsHaveNoOthers : Type 0
ListsHaveNoOthers =
    (place pass : ℕ) (history : List Event) (receipt : Receipt) → Contains (calls_from place pass history) receipt
    → Contains (all_receipts place history) receipt

-- in the order of their places, each once
abbrev pub ListsAscend : Type 0
ListsAscend = (place pass : ℕ) (history : List Event) → IsStrictlyIncreasing (map (λ r. r.place) (calls_from place pass history))

-- what an ask answers to a pass that has all the rights
abbrev pub AsksAreAtOnce : Type 0
AsksAreAtOnce =
    (setting : Setting) (bar : ℕ) (old new : PassView) (txn : ℕ) (deed : Deed) (result : Result Receipt Fault)
    → AskAnswers setting bar old new txn deed result → HasAll setting old → AloneAskAnswers setting bar old new txn deed result

-- and what any other call does
abbrev pub CallsAreAtOnce : Type 0
CallsAreAtOnce =
    (setting : Setting) (old new : PassView) (txn : ℕ) (deed : Deed) (result : Result Receipt Fault)
    → Answers setting old new txn deed result → HasAll setting old → AloneAnswers setting old new txn deed result

-- where there is a place and a row below the bar, an ask makes its event unless memory is short
abbrev pub AsksAreDone : Type 0
AsksAreDone =
    (setting : Setting) (bar : ℕ) (old new : PassView) (txn : ℕ) (deed : Deed) (result : Result Receipt Fault)
    → AskAnswers setting bar old new txn deed result → HasAll setting old
    → place_after setting old.front < places_end → used (after setting old.front) < bar → IsDone result

-- where there are places for joins of all trees and for its event, it makes its event or is out of locks, unless memory is short
abbrev pub FullAsksAreDone : Type 0
FullAsksAreDone =
    (setting : Setting) (bar : ℕ) (old new : PassView) (txn : ℕ) (deed : Deed) (result : Result Receipt Fault)
    → AskAnswers setting bar old new txn deed result → HasAll setting old
    → place_after setting old.front + setting.plan.trees < places_end → IsDoneOrOutOfLocks result

-- where there is a place, any other call makes its event
abbrev pub CallsAreDone : Type 0
CallsAreDone =
    (setting : Setting) (old new : PassView) (txn : ℕ) (deed : Deed) (result : Result Receipt Fault)
    → Answers setting old new txn deed result → HasAll setting old → place_after setting old.front < places_end → IsDone result
