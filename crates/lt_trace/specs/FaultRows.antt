-- Worked refusals.
use Rattle.std.specs.Prelude.{ℕ, List, [], ◌++◌, codes}
use Rattle.lt_trace.specs.declared.fault.TraceFault.TheVariants as fault
use Rattle.lt_trace.specs.Grammar.{IsFirstFault}

abbrev pub with_header : List ℕ → List ℕ
with_header body = codes "rangelock 1\ntrees 1\nlimit 64\nbuffer 0\n" ++ body

pub record FaultRows : Type 0 where
  pub backwards : IsFirstFault (with_header (codes "1 try 0 \"b\" \"a\"\n")) (fault.Backwards 5)
  pub outside : IsFirstFault (with_header (codes "1 try 1 \"a\" \"a\"\n")) (fault.TreeOutOfRange 5)
  pub outside_join : IsFirstFault (with_header (codes "1 escalate 1\n")) (fault.TreeOutOfRange 5)
  pub after_end : IsFirstFault (with_header (codes "1 end\n1 end\n")) (fault.AfterEnd 6)
  pub after_abort : IsFirstFault (with_header (codes "1 abort\n1 lock 0 \"a\" \"a\"\n")) (fault.AfterEnd 6)
  pub big_in_version_1 : IsFirstFault (with_header (codes "1 big\n")) (fault.BadLine 5)
  pub no_newline : IsFirstFault (with_header (codes "1 end")) (fault.NoFinalNewline 5)
  pub empty : IsFirstFault [] (fault.BadHeader 1)
  pub cut : IsFirstFault (codes "rangelock 1\n") (fault.BadHeader 2)
