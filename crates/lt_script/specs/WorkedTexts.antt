-- A worked script, and worked refusals.
use Rattle.std.specs.Prelude.{ℕ, List, [], ◌∷◌, ◌++◌, codes}
use Rattle.lt_ranges.specs.declared.key.Key.{Key}
use Rattle.lt_ranges.specs.declared.key.Key.TheVariants.{Bytes}
use Rattle.lt_ranges.specs.Interval.{whole}
use Rattle.lt_trace.specs.declared.fault.TraceFault.TheVariants as fault
use Rattle.lt_store.specs.declared.op.Op.TheVariants.{Get, Put, Scan, Commit, Abort}
use Rattle.lt_script.specs.Script.{ScriptView}
use Rattle.lt_script.specs.Grammar.{Spells, IsFirstFault}

abbrev pub with_header : List ℕ → List ℕ
with_header body = codes "rangestore 1\nlimit 64\n" ++ body

abbrev pub letter_a : Key
letter_a = Bytes (codes "a")

-- a move of each form
abbrev pub script : ScriptView
script = record {
  limit = 64;
  moves =
      record { txn = 1; op = Put letter_a 5 } ∷ record { txn = 1; op = Scan whole } ∷ record { txn = 2; op = Get letter_a }
      ∷ record { txn = 1; op = Commit } ∷ record { txn = 2; op = Abort } ∷ [];
}

pub record WorkedTexts : Type 0 where
  pub spelled : Spells (with_header (codes "1 put \"a\" 5\n1 scan - +\n2 get \"a\"\n1 commit\n2 abort\n")) script
  pub backwards : IsFirstFault (with_header (codes "1 scan \"b\" \"a\"\n")) (fault.Backwards 3)
  pub after_commit : IsFirstFault (with_header (codes "1 commit\n1 commit\n")) (fault.AfterEnd 4)
  pub after_abort : IsFirstFault (with_header (codes "1 abort\n1 get \"a\"\n")) (fault.AfterEnd 4)
  pub unquoted : IsFirstFault (with_header (codes "1 get -\n")) (fault.BadLine 3)
  pub no_newline : IsFirstFault (with_header (codes "1 commit")) (fault.NoFinalNewline 3)
  pub empty : IsFirstFault [] (fault.BadHeader 1)
  pub cut : IsFirstFault (codes "rangestore 1\n") (fault.BadHeader 2)
  pub of_a_trace : IsFirstFault (codes "rangelock 1\ntrees 1\n") (fault.BadHeader 1)
