-- What C is told of what happened.
use Rattle.std.specs.Prelude.{◌≡◌, ◌⊎◌, IsTrue, ℕ, ◌+◌, ◌-◌, ◌^◌, ◌<◌, ◌≤◌, List, [], ◌++◌}
use Rattle.std.specs.Prelude.{length, take, drop, min, Bool, true, false, nat_eq, nat_le, Result, Ok, Err}
use Rattle.lt_ranges.specs.declared.key.Key.TheVariants.{Bytes}
use Rattle.lt_ranges.specs.Key.{key_le}
use Rattle.lt_ranges.specs.Interval.{Interval, whole}
use Rattle.lt_seq.specs.declared.event.Deed.TheVariants.{Free, Who}
use Rattle.lt_seq.specs.declared.event.JoinNote.{JoinNote}
use Rattle.lt_seq.specs.declared.event.Look.{Look}
use Rattle.lt_seq.specs.declared.event.Reply.{Reply}
use Rattle.lt_seq.specs.declared.event.Reply.TheVariants.{Granted, Buffered, HeldBy}
use Rattle.lt_seq.specs.declared.fault.Fault.{Fault}
use Rattle.lt_seq.specs.declared.fault.Fault.TheVariants.{OutOfMemory, Busy, HistoryFull, OutOfLocks}
use Rattle.lt_rows.specs.declared.view.View.{View}
use Rattle.lt_rows.specs.Handles.{Looks}
use Rattle.lt_locktree.specs.declared.answers.Asked.{Asked}
use Rattle.lt_locktree.specs.declared.answers.Named.{Named}
use Rattle.lt_locktree.specs.Calls.{Makes, Joins}
use Rattle.lt_c.specs.declared.answer.LtAnswer.{LtAnswer}
use Rattle.lt_c.specs.declared.counts.LtCounts.{LtCounts}
use Rattle.lt_c.specs.Behind.{Behind, Faults}
use Rattle.lt_c.specs.Limit.{AskAnswers}

-- an answer of these numbers
abbrev pub answer_of : ℕ → ℕ → ℕ → ℕ → LtAnswer
answer_of status joins count place = record { status = status; joins = joins; count = count; place = place; row = 0; holder = 0 }

-- a bad argument, and nothing else
abbrev pub refused : LtAnswer
refused = answer_of 100 0 0 0

-- so many trees were joined, and then there was this fault
abbrev pub fault_told : ℕ → Fault → LtAnswer
fault_told joins OutOfMemory = answer_of 101 joins 0 0
fault_told joins (Busy row holder) = record { status = 4; joins = joins; count = 0; place = 0; row = row; holder = holder }
fault_told joins (HistoryFull place) = answer_of 103 joins 0 place
fault_told joins (OutOfLocks place used) = answer_of 102 joins used place

-- the owners that a reply names
abbrev pub owners_in : Reply → List ℕ
owners_in Granted = []
owners_in Buffered = []
owners_in (HeldBy owners) = owners

abbrev pub reply_status : Reply → ℕ
reply_status Granted = 0
reply_status Buffered = 1
reply_status (HeldBy owners) = 2

abbrev pub ask_told : ℕ → Result Asked Fault → LtAnswer
ask_told joins (Ok asked) = answer_of (reply_status asked.reply) joins (length (owners_in asked.reply)) asked.place
ask_told joins (Err fault) = fault_told joins fault

abbrev pub owners_told : Result Asked Fault → List ℕ
owners_told (Ok asked) = owners_in asked.reply
owners_told (Err fault) = []

abbrev pub free_told : Result (ℕ × ℕ) Fault → LtAnswer
free_told (Ok freed) = answer_of 3 0 freed.1 freed.0
free_told (Err fault) = fault_told 0 fault

abbrev pub who_told : Result Named Fault → LtAnswer
who_told (Ok named) = answer_of 3 0 (length named.owners) named.place
who_told (Err fault) = fault_told 0 fault

abbrev pub named_told : Result Named Fault → List ℕ
named_told (Ok named) = named.owners
named_told (Err fault) = []

abbrev pub join_told : Result JoinNote Fault → LtAnswer
join_told (Ok note) = answer_of 3 1 note.after note.place
join_told (Err fault) = fault_told 0 fault

-- the numbers of a buffer once these were written from its front, as many as there is room for
abbrev pub written : List ℕ → List ℕ → List ℕ
written buffer numbers = take (length buffer) numbers ++ drop (length numbers) buffer

-- a count that rose by so many, or can rise no more
abbrev pub raised : ℕ → ℕ → ℕ
raised count more = min (count + more) (2 ^ 64 - 1)

abbrev pub one_if : Bool → ℕ
one_if true = 1
one_if false = 0

-- the counts with one answer more
abbrev pub counted : LtCounts → LtAnswer → LtCounts
counted counts answer = record {
  granted = raised counts.granted (one_if (nat_le answer.status 1));
  held = raised counts.held (one_if (nat_eq answer.status 2));
  busy = raised counts.busy (one_if (nat_eq answer.status 4));
  joins = raised counts.joins answer.joins;
}

-- the range between two keys, both in it
abbrev pub between : List ℕ → List ℕ → Interval
between left right = record { left = Bytes left; right = Bytes right }

-- it is none: a key is too long, or the ends are the wrong way round
abbrev pub IsNoRange : List ℕ → List ℕ → Type 0
IsNoRange left right = (63 < length left) ⊎ (63 < length right) ⊎ (IsTrue (key_le (Bytes left) (Bytes right)) → ⊥)

-- A call whose arguments were bad changed nothing.
pub record IsRefused (v w : View) (Bad : Type 0) (answer : LtAnswer) : Type 0 where
  pub bad : Bad
  pub same : w ≡ v
  pub answer_is : answer ≡ refused

-- there is no such transaction, tree or range
abbrev pub IsBad : View → ℕ → ℕ → List ℕ → List ℕ → Type 0
IsBad v txn tree left right = (txn ≡ 0) ⊎ (v.plan.trees ≤ tree) ⊎ IsNoRange left right

-- An ask: it was refused, or the table answered, and this was told.
abbrev pub AskTold : View → View → ℕ → ℕ → List ℕ → List ℕ → List ℕ → List ℕ → LtAnswer → Type 0
AskTold v w txn tree left right buffer holders answer =
    (IsRefused v w (IsBad v txn tree left right) answer × (holders ≡ buffer))
    ⊎ ((joins : ℕ) × (result : Result Asked Fault) × AskAnswers v w joins txn tree (between left right) result
    × (answer ≡ ask_told joins result) × (holders ≡ written buffer (owners_told result)))

-- the answer of a free
abbrev pub FreeAnswers : View → View → ℕ → ℕ → Interval → Bool → Result (ℕ × ℕ) Fault → Type 0
FreeAnswers v w txn tree range first (Ok freed) = Behind v (λ seen look. Makes seen w txn (Free tree range first freed.1) freed.0)
FreeAnswers v w txn tree range first (Err fault) = Faults v w fault

abbrev pub FreeTold : View → View → ℕ → ℕ → List ℕ → List ℕ → Bool → LtAnswer → Type 0
FreeTold v w txn tree left right first answer =
    IsRefused v w (IsBad v txn tree left right) answer
    ⊎ ((result : Result (ℕ × ℕ) Fault) × FreeAnswers v w txn tree (between left right) first result × (answer ≡ free_told result))

-- A release: a free of all keys, the first of a release in its tree.
abbrev pub ReleaseTold : View → View → ℕ → ℕ → LtAnswer → Type 0
ReleaseTold v w txn tree answer =
    IsRefused v w ((txn ≡ 0) ⊎ (v.plan.trees ≤ tree)) answer
    ⊎ ((result : Result (ℕ × ℕ) Fault) × FreeAnswers v w txn tree whole true result × (answer ≡ free_told result))

-- the answer of a question
abbrev pub WhoAnswers : View → View → ℕ → ℕ → ℕ → Interval → Result Named Fault → Type 0
WhoAnswers v w txn as_txn tree range (Ok named) = Behind v (λ seen look. Makes seen w txn (Who tree range as_txn named.owners) named.place)
WhoAnswers v w txn as_txn tree range (Err fault) = Faults v w fault

abbrev pub WhoTold : View → View → ℕ → ℕ → ℕ → List ℕ → List ℕ → List ℕ → List ℕ → LtAnswer → Type 0
WhoTold v w txn as_txn tree left right buffer holders answer =
    (IsRefused v w ((as_txn ≡ 0) ⊎ IsBad v txn tree left right) answer × (holders ≡ buffer))
    ⊎ ((result : Result Named Fault) × WhoAnswers v w txn as_txn tree (between left right) result
    × (answer ≡ who_told result) × (holders ≡ written buffer (named_told result)))

-- the answer of a join
abbrev pub JoinAnswers : View → View → ℕ → ℕ → Result JoinNote Fault → Type 0
JoinAnswers v w txn tree (Ok note) = Behind v (λ seen look. Joins seen w txn tree note)
JoinAnswers v w txn tree (Err fault) = Faults v w fault

abbrev pub JoinTold : View → View → ℕ → ℕ → LtAnswer → Type 0
JoinTold v w txn tree answer =
    IsRefused v w ((txn ≡ 0) ⊎ (v.plan.trees ≤ tree)) answer
    ⊎ ((result : Result JoinNote Fault) × JoinAnswers v w txn tree result × (answer ≡ join_told result))

-- A look: its place, and the rows in use.
abbrev pub LookTold : View → View → LtAnswer → Type 0
LookTold v w answer = (look : Look) × Looks v w look × (answer ≡ answer_of 3 0 look.used look.place)
