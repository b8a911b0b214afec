-- Transactions on a plain map, one operation after another.
use Rattle.std.specs.Prelude.{◌≡◌, ℕ, List, [], ◌∷◌, fold, Option}
use Rattle.lt_store.specs.declared.row.StoreRow.{StoreRow}
use Rattle.lt_store.specs.declared.op.Op.{Op}
use Rattle.lt_store.specs.declared.op.Op.TheVariants.{Get, Put, Scan, Commit, Abort}
use Rattle.lt_store.specs.declared.answer.Answer.{Answer}
use Rattle.lt_store.specs.declared.answer.Answer.TheVariants.{Value, Stored, Rows, Committed, Aborted}
use Rattle.lt_store.specs.declared.done.Done.{Done}
use Rattle.lt_store.specs.Rows.{find, put, inside}

-- what an operation answers on a map
abbrev pub answer_on : List StoreRow → Op → Answer
answer_on rows (Get key) = Value (find rows key)
answer_on rows (Put key value) = Stored
answer_on rows (Scan range) = Rows (inside range rows)
answer_on rows Commit = Committed
answer_on rows Abort = Aborted

-- and what it makes of the map
abbrev pub map_after : List StoreRow → Op → List StoreRow
map_after rows (Get key) = rows
map_after rows (Put key value) = put rows key value
map_after rows (Scan range) = rows
map_after rows Commit = rows
map_after rows Abort = rows

-- the map behind the operations of one transaction
abbrev pub after_ops : List StoreRow → List Done → List StoreRow
after_ops rows [] = rows
after_ops rows (d ∷ ds) = after_ops (map_after rows d.op) ds

-- the map behind those of one transaction after another
abbrev pub after_all : List StoreRow → List (List Done) → List StoreRow
after_all rows [] = rows
after_all rows (ops ∷ more) = after_all (after_ops rows ops) more

-- the map that the transactions make of the empty one
abbrev pub rerun : List (List Done) → List StoreRow
rerun commits = after_all [] commits

-- each answer of a transaction is the one that its operation gives there
abbrev pub AreAnswers : List StoreRow → List Done → Type 0
AreAnswers rows [] = Unit {0}
AreAnswers rows (d ∷ ds) = (d.answer ≡ answer_on rows d.op) × AreAnswers (map_after rows d.op) ds

-- and so it is for one transaction after another
abbrev pub AllAreAnswers : List StoreRow → List (List Done) → Type 0
AllAreAnswers rows [] = Unit {0}
AllAreAnswers rows (ops ∷ more) = AreAnswers rows ops × AllAreAnswers (after_ops rows ops) more
