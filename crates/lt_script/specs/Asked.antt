-- The words of an operation, as its answer repeats them.
use Rattle.std.specs.Prelude.{ℕ, List, ◌++◌, codes}
use Rattle.lt_ranges.specs.KeyText.{key_text, range_text}
use Rattle.lt_store.specs.declared.op.Op.{Op}
use Rattle.lt_store.specs.declared.op.Op.TheVariants.{Get, Put, Scan, Commit, Abort}

-- without the value of a put
abbrev pub asked_text : Op → List ℕ
asked_text (Get key) = codes " get " ++ key_text key
asked_text (Put key value) = codes " put " ++ key_text key
asked_text (Scan range) = codes " scan" ++ range_text range
asked_text Commit = codes " commit"
asked_text Abort = codes " abort"
