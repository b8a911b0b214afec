-- What is read: traces and scripts.
use Rattle.std.specs.Prelude.{ℕ, List}
use Rattle.lt_trace.specs.declared.fault.TraceFault.{TraceFault}
use Rattle.lt_trace.specs.Trace.{TraceView}
use Rattle.lt_trace.specs.Grammar as trace
use Rattle.lt_script.specs.Script.{ScriptView}
use Rattle.lt_script.specs.Grammar as script

-- how each text is spelled, the first fault of other bytes, and how many first bytes decide
pub record Language : Type 1 where
  pub Text : Type 0
  pub Spells : List ℕ → Text → Type 0
  pub IsFirstFault : List ℕ → TraceFault → Type 0
  pub deciding : ℕ

abbrev pub traces : Language
traces = record { Text = TraceView; Spells = trace.Spells; IsFirstFault = trace.IsFirstFault; deciding = trace.deciding_bytes }

abbrev pub scripts : Language
scripts = record { Text = ScriptView; Spells = script.Spells; IsFirstFault = script.IsFirstFault; deciding = script.deciding_bytes }

-- the bytes are none of the language, and this is their first fault
pub record IsNone (language : Language) (bytes : List ℕ) (fault : TraceFault) : Type 0 where
  pub none : (t : language.Text) → ¬ language.Spells bytes t
  pub first : language.IsFirstFault bytes fault
