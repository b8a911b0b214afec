-- The line that refuses bytes which are no trace.
use Rattle.std.specs.Prelude.{ℕ, List, [], ◌++◌, codes}
use Rattle.lt_ranges.specs.KeyText.{spaced}
use Rattle.lt_trace.specs.declared.fault.TraceFault.{TraceFault}
use Rattle.lt_trace.specs.declared.fault.TraceFault.TheVariants as fault

-- the number of the faulty line, and the fault's code and name
abbrev pub refusal_text : ℕ → ℕ → List ℕ → List ℕ
refusal_text line code name = codes "refused" ++ spaced line ++ spaced code ++ codes " " ++ name ++ codes "\n"

-- want of memory is no fault of a line
abbrev pub fault_text : TraceFault → List ℕ
fault_text (fault.BadHeader line) = refusal_text line 1 (codes "bad header")
fault_text (fault.BadLine line) = refusal_text line 2 (codes "bad line")
fault_text (fault.LineTooLong line) = refusal_text line 3 (codes "line too long")
fault_text (fault.TooManyLines line) = refusal_text line 4 (codes "too many lines")
fault_text (fault.TreeOutOfRange line) = refusal_text line 5 (codes "tree out of range")
fault_text (fault.KeyTooLong line) = refusal_text line 6 (codes "key too long")
fault_text (fault.Backwards line) = refusal_text line 7 (codes "backwards")
fault_text (fault.AfterEnd line) = refusal_text line 8 (codes "after end")
fault_text (fault.TooManyTxns line) = refusal_text line 9 (codes "too many txns")
fault_text (fault.NoFinalNewline line) = refusal_text line 10 (codes "no final newline")
fault_text fault.OutOfMemory = []
