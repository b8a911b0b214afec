-- What a pass that has looked answers, whatever it was before that look.
use Rattle.std.specs.Prelude.{◌≡◌, ℕ, ◌≤◌, List, length, Result}
use Rattle.lt_seq.specs.declared.event.Deed.{Deed}
use Rattle.lt_seq.specs.declared.event.Receipt.{Receipt}
use Rattle.lt_seq.specs.declared.fault.Fault.{Fault}
use Rattle.lt_seq.specs.Table.{used}
use Rattle.lt_seq.specs.History.{after}
use Rattle.lt_rows.specs.Plan.{setting_of}
use Rattle.lt_seq.specs.SeqCalls.{HasJoined, JoinsStop}
use Rattle.lt_seq.specs.Yard.{PassView, Watches, AskAnswers, AskAnswered}
use Rattle.lt_locktree.specs.Calls.{sees}
use Rattle.lt_manager.specs.Views.{Kept, view_of}
use Rattle.lt_manager.specs.Answers.{AnsweredBehind}

-- its call, with that look as the call's own
abbrev pub AnswersBehind : Kept → PassView → ℕ → Deed → Result Receipt Fault → Type 0
AnswersBehind p new txn deed result =
    (old : PassView) → Watches (setting_of (sees p.pass).plan) old (view_of p)
    → AnsweredBehind (setting_of (sees p.pass).plan) (sees p.pass).front old new txn deed result

-- its joins of so many trees, the first with that look, which showed that the rows in use have reached the bar
abbrev pub JoinedBehind : Kept → PassView → ℕ → ℕ → Type 0
JoinedBehind p new txn trees =
    (bar : ℕ) → bar ≤ used (after (setting_of (sees p.pass).plan) (sees p.pass).front)
    → (old : PassView) → Watches (setting_of (sees p.pass).plan) old (view_of p)
    → HasJoined (setting_of (sees p.pass).plan) bar old new txn trees

-- or a fault before so many were joined
abbrev pub StopsBehind : Kept → PassView → ℕ → ℕ → Fault → Type 0
StopsBehind p new txn trees fault =
    (bar : ℕ) → bar ≤ used (after (setting_of (sees p.pass).plan) (sees p.pass).front)
    → (old : PassView) → Watches (setting_of (sees p.pass).plan) old (view_of p)
    → JoinsStop (setting_of (sees p.pass).plan) bar old new txn trees fault

-- the joins of all trees, and the ask behind them
abbrev pub AsksBehind : Kept → PassView → ℕ → ℕ → Deed → Result Receipt Fault → Type 0
AsksBehind p new bar txn deed result =
    (old : PassView) → Watches (setting_of (sees p.pass).plan) old (view_of p)
    → AskAnswers (setting_of (sees p.pass).plan) bar old new txn deed result

-- An ask behind the joins of all trees, whatever receipts these are.
abbrev pub AsksBehindAll : Kept → PassView → ℕ → ℕ → Deed → Result Receipt Fault → Type 0
AsksBehindAll p new bar txn deed result =
    (joins : List Receipt) → length joins ≡ (sees p.pass).plan.trees
    → AskAnswered (setting_of (sees p.pass).plan) bar joins (view_of p) new txn deed result
