-- What is written of a script that was played.
use Rattle.std.specs.Prelude.{ℕ, List, [], ◌∷◌, ◌++◌, Option, Some, None, codes, decimal}
use Rattle.std.specs.List.{flat_map}
use Rattle.lt_ranges.specs.KeyText.{key_text, spaced}
use Rattle.lt_store.specs.declared.row.StoreRow.{StoreRow}
use Rattle.lt_store.specs.declared.op.Op.{Op}
use Rattle.lt_store.specs.declared.op.Move.{Move}
use Rattle.lt_store.specs.declared.answer.Answer.{Answer}
use Rattle.lt_store.specs.declared.answer.Answer.TheVariants.{Value, Stored, Rows, Committed, Aborted, Held, OutOfLocks, Gone}
use Rattle.lt_script.specs.Asked.{asked_text}

-- a row of the map, behind a space
abbrev pub row_text : StoreRow → List ℕ
row_text row = codes " " ++ key_text row.key ++ spaced row.value

abbrev pub value_text : Option ℕ → List ℕ
value_text None = codes " none"
value_text (Some value) = spaced value

abbrev pub rows_text : List StoreRow → List ℕ
rows_text [] = codes " none"
rows_text (row ∷ rows) = flat_map row_text (row ∷ rows)

-- behind the transaction: what it asked for, with what came of it
abbrev pub answer_text : Op → Answer → List ℕ
answer_text op (Value value) = asked_text op ++ value_text value
answer_text op Stored = asked_text op ++ codes " ok"
answer_text op (Rows rows) = asked_text op ++ rows_text rows
answer_text op Committed = asked_text op
answer_text op Aborted = asked_text op
answer_text op (Held owners) = codes " held by" ++ flat_map spaced owners
answer_text op (OutOfLocks place used) = codes " outoflocks"
answer_text op Gone = codes " gone"

abbrev pub answer_line : Move → Answer → List ℕ
answer_line m answer = decimal m.txn ++ answer_text m.op answer ++ codes "\n"

-- the lines of the moves, in their order
abbrev pub answer_lines : List Move → List Answer → List ℕ
answer_lines [] answers = []
answer_lines (m ∷ moves) [] = []
answer_lines (m ∷ moves) (answer ∷ answers) = answer_line m answer ++ answer_lines moves answers

-- the map at the end, and how many transactions have committed
abbrev pub map_lines : List StoreRow → List ℕ
map_lines rows = flat_map (λ row. codes "map" ++ row_text row ++ codes "\n") rows

abbrev pub end_line : ℕ → List ℕ
end_line commits = codes "end" ++ spaced commits ++ codes "\n"

abbrev pub text : List Move → List Answer → List StoreRow → ℕ → List ℕ
text moves answers rows commits = answer_lines moves answers ++ map_lines rows ++ end_line commits
