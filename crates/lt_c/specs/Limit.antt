-- What an ask comes to: below the limit at once, and at the limit behind the joins of all trees.
use Rattle.std.specs.Prelude.{◌≡◌, ◌⊎◌, ℕ, zero, suc, ◌<◌, ◌≤◌, Result, Ok, Err}
use Rattle.lt_ranges.specs.Interval.{Interval}
use Rattle.lt_seq.specs.declared.event.Deed.TheVariants.{Ask}
use Rattle.lt_seq.specs.declared.event.JoinNote.{JoinNote}
use Rattle.lt_seq.specs.declared.event.Look.{Look}
use Rattle.lt_seq.specs.declared.fault.Fault.{Fault}
use Rattle.lt_seq.specs.declared.fault.Fault.TheVariants.{OutOfMemory, Busy, HistoryFull, OutOfLocks}
use Rattle.lt_seq.specs.Yard.{places_end}
use Rattle.lt_rows.specs.declared.view.View.{View}
use Rattle.lt_rows.specs.Handles.{Looks}
use Rattle.lt_locktree.specs.declared.answers.Asked.{Asked}
use Rattle.lt_locktree.specs.Calls.{Makes, Joins}
use Rattle.lt_c.specs.Behind.{Behind, Faults}

-- A tree was joined behind a look of its own. That of the first tree showed that the rows in use had reached the limit.
pub record JoinsTree (v w : View) (txn tree : ℕ) : Type 0 where
  pub note : JoinNote
  pub joined : Behind v (λ seen look. (tree ≡ 0 → v.plan.limit ≤ look.used) × Joins seen w txn tree note)

-- the trees below this number were joined, ascending
abbrev pub AreJoined : View → View → ℕ → ℕ → Type 0
AreJoined v w txn zero = w ≡ v
AreJoined v w txn (suc tree) = (u : View) × AreJoined v u txn tree × JoinsTree u w txn tree

-- it asked behind a look that showed a row below the limit
abbrev pub AsksBelow : View → View → ℕ → ℕ → Interval → Asked → Type 0
AsksBelow v w txn tree range asked =
    Behind v (λ seen look. (look.used < v.plan.limit) × Makes seen w txn (Ask tree range asked.reply) asked.place)

-- The look behind the joins of all trees showed rows that have reached the limit.
pub record IsOutOfLocks (v w : View) (place used : ℕ) : Type 0 where
  pub look : Look
  pub looks : Looks v w look
  pub place_is : place ≡ look.place
  pub room : place < places_end
  pub used_is : used ≡ look.used
  pub reached : v.plan.limit ≤ used

-- why an ask made no event of its own behind so many joins
abbrev pub AskFaults : View → View → ℕ → Fault → Type 0
AskFaults v w joins OutOfMemory = Faults v w OutOfMemory
AskFaults v w joins (Busy row holder) = Faults v w (Busy row holder)
AskFaults v w joins (HistoryFull place) = Faults v w (HistoryFull place)
AskFaults v w joins (OutOfLocks place used) = (joins ≡ v.plan.trees) × IsOutOfLocks v w place used

-- its event behind these joins, or why there was none: there is one behind no join, or behind those of all trees
abbrev pub AskAnswered : View → View → ℕ → ℕ → ℕ → Interval → Result Asked Fault → Type 0
AskAnswered v w joins txn tree range (Ok asked) = ((joins ≡ 0) ⊎ (joins ≡ v.plan.trees)) × AsksBelow v w txn tree range asked
AskAnswered v w joins txn tree range (Err fault) = AskFaults v w joins fault

-- The answer of an ask: its joins, of the trees from 0 on, and its event behind them, or why there was none.
pub record AskAnswers (v w : View) (joins txn tree : ℕ) (range : Interval) (result : Result Asked Fault) : Type 0 where
  -- the pass behind the joins
  pub behind : View
  pub most : joins ≤ v.plan.trees
  pub are_joined : AreJoined v behind txn joins
  pub answer : AskAnswered behind w joins txn tree range result
