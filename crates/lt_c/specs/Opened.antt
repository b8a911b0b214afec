-- What C is told of an open.
use Rattle.std.specs.Prelude.{◌≡◌, ◌⊎◌, ℕ, List, [], length, true, false, IfSome, ◌<◌}
use Rattle.std.specs.List.{All}
use Rattle.lt_seq.specs.declared.plan.YardPlan.{YardPlan}
use Rattle.lt_rows.specs.Plan.{with_marks}
use Rattle.lt_locktree.specs.declared.locktree.Locktree.{Locktree}
use Rattle.lt_c.specs.declared.answer.LtAnswer.{LtAnswer}
use Rattle.lt_c.specs.declared.c_handle.LtHandle.{LtHandle}
use Rattle.lt_c.specs.Handles.{IsOn}
use Rattle.lt_c.specs.Told.{answer_of, refused}

-- it is open, with a handle of this table
abbrev pub IsOpenOn : Locktree → LtHandle → Type 0
IsOpenOn t h = (h.is_open ≡ true) × IfSome h.slot.held (IsOn t)

abbrev pub IsShut : LtHandle → Type 0
IsShut h = h.is_open ≡ false

-- they are open handles of one table of this plan without marks, one for each pass
pub record AreOnOneTable (plan : YardPlan) (handles : List LtHandle) : Type 0 where
  pub table : Locktree
  pub plan_is : table.rows.plan ≡ with_marks plan []
  pub opened : All (IsOpenOn table) handles
  pub count : length handles ≡ plan.passes

abbrev pub plan_for : ℕ → ℕ → ℕ → ℕ → YardPlan
plan_for trees limit buffer passes = record { trees = trees; limit = limit; buffer = buffer; passes = passes; first = 0 }

-- there is no such table, or a handle was open
abbrev pub IsBadOpening : List LtHandle → ℕ → ℕ → ℕ → Type 0
IsBadOpening old trees limit buffer =
    (length old ≡ 0) ⊎ (17 < length old) ⊎ (trees ≡ 0) ⊎ (16 < trees) ⊎ (limit ≡ 0) ⊎ (65536 < limit) ⊎ (65536 < buffer)
    ⊎ (All IsShut old → ⊥)

-- All were shut, and are handles of one table of these sizes; or nothing was changed, for a bad argument or for want of memory.
abbrev pub OpenTold : List LtHandle → List LtHandle → ℕ → ℕ → ℕ → LtAnswer → Type 0
OpenTold old new trees limit buffer answer =
    ((answer ≡ answer_of 3 0 0 0) × All IsShut old × AreOnOneTable (plan_for trees limit buffer (length old)) new)
    ⊎ ((new ≡ old) × (((answer ≡ refused) × IsBadOpening old trees limit buffer) ⊎ (answer ≡ answer_of 101 0 0 0)))
