-- What is to be written.
use Rattle.std.specs.Prelude.{◌≡◌, ◌≢◌, ℕ, ◌⊎◌, List}
use Rattle.lt_trace.specs.Trace.{TraceView}
use Rattle.lt_trace.specs.Grammar.{front_text, whole, Spells, IsFirstFault}
use Rattle.lt_trace.specs.Generator.{generated}
use Rattle.lt_trace.specs.declared.fault.TraceFault.{TraceFault}
use Rattle.lt_trace.specs.declared.fault.TraceFault.TheVariants.{OutOfMemory}
use Rattle.lt_script.specs.Script.{ScriptView}
use Rattle.lt_script.specs.Grammar.{Spells as SpellsScript, IsFirstFault as IsFirstFaultOfScript}
use Rattle.lt_script.specs.Play.{IsRunOfScript}
use Rattle.lt_history.specs.Summary.{summary_line}
use Rattle.lt_watch.specs.Tellings.{Log}
use Rattle.lt_runner.specs.Serial.{serial}
use Rattle.lt_program.specs.Refusal.{fault_text}
use Rattle.lt_program.specs.Runs.{HasPlayed}
use Rattle.lt_program.specs.declared.answer.Answer.{Answer}
use Rattle.lt_program.specs.declared.answer.Answer.TheVariants.{Text, Refusal}
use Rattle.lt_program.specs.Playings.{Playing}
use Rattle.lt_words.specs.declared.command.Recipe.{Recipe}

-- For the bytes that were read, with what the watches were told before and after.

-- The bytes spell a trace, and it was played.
pub record IsPlayed (player : Playing) (bytes written : List ℕ) (before after : List Log) : Type 0 where
  pub trace : TraceView
  pub spelled : Spells bytes trace
  pub played : HasPlayed player trace written before after

-- They are no trace, this is the line of their first fault, and the watches were told nothing.
pub record IsRefused (bytes line : List ℕ) (before after : List Log) : Type 0 where
  pub fault : TraceFault
  pub first : IsFirstFault bytes fault
  pub line_is : line ≡ fault_text fault
  pub untold : after ≡ before

-- the text of a run of the trace that the bytes spell, or the line that refuses them
abbrev pub IsAnswer : Playing → List ℕ → Answer → List Log → List Log → Type 0
IsAnswer player bytes (Text text) before after = IsPlayed player bytes text.items before after
IsAnswer player bytes (Refusal line) before after = IsRefused bytes line.items before after

abbrev pub status_of : Answer → ℕ
status_of (Text text) = 0
status_of (Refusal line) = 3

abbrev pub bytes_of : Answer → List ℕ
bytes_of (Text text) = text.items
bytes_of (Refusal line) = line.items

-- without an answer the watches were told nothing, or all joins of a run of the trace
abbrev pub IsToldOrNot : Playing → List ℕ → List Log → List Log → Type 0
IsToldOrNot player bytes before after = (after ≡ before) ⊎ ((written : List ℕ) × IsPlayed player bytes written before after)

-- the line of this fault, which is no want of memory
abbrev pub IsRefusalFor : TraceFault → Answer → Type 0
IsRefusalFor fault (Text text) = ⊥
IsRefusalFor fault (Refusal line) = (fault ≢ OutOfMemory) × (line.items ≡ fault_text fault)

-- For the bytes of a script.

-- They spell a script, and its moves were played.
pub record IsPlayedScript (bytes written : List ℕ) : Type 0 where
  pub script : ScriptView
  pub spelled : SpellsScript bytes script
  pub run : IsRunOfScript script written

-- They are no script, and this is the line of their first fault.
pub record IsRefusedScript (bytes line : List ℕ) : Type 0 where
  pub fault : TraceFault
  pub first : IsFirstFaultOfScript bytes fault
  pub line_is : line ≡ fault_text fault

abbrev pub IsAnswerToScript : List ℕ → Answer → Type 0
IsAnswerToScript bytes (Text text) = IsPlayedScript bytes text.items
IsAnswerToScript bytes (Refusal line) = IsRefusedScript bytes line.items

-- For a trace that is made.

abbrev pub made : Recipe → TraceView
made recipe = generated recipe.seed recipe.txns recipe.lines

abbrev pub made_text : Recipe → List ℕ
made_text recipe = front_text (whole (made recipe))

-- the numbers of its run
abbrev pub sum_text : Recipe → List ℕ
sum_text recipe = let run = serial (made recipe) 0 in summary_line run.receipts run.outcomes
