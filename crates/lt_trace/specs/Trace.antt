-- Traces as contracts see them.
use Rattle.std.specs.Prelude.{ℕ, List}
use Rattle.lt_trace.specs.declared.line.Line.{Line}

pub record TraceView : Type 0 where
  pub version : ℕ
  pub trees : ℕ
  pub limit : ℕ
  pub buffer : ℕ
  pub lines : List Line
