-- What each status says of the words, of what the source had left and has left now, of what the sink had taken
-- and has taken now, and of what the watches had been told and have been told now. None stands for a source or a sink that
-- does not tell.
use Rattle.std.specs.Prelude.{◌≡◌, ℕ, ◌⊎◌, List, [], ◌∷◌, ◌++◌, Some, IfSome}
use Rattle.std.specs.declared.option.Option.{Option}
use Rattle.std.specs.Io.KnownBytes.{Appends, Consumes, IsAtEnd}
use Rattle.lt_ranges.specs.declared.key.Key.{Key}
use Rattle.lt_edge.specs.Bytes.{AppendsPart, ReadsUpTo}
use Rattle.lt_trace.specs.Trace.{TraceView}
use Rattle.lt_trace.specs.Grammar.{Spells}
use Rattle.lt_trace.specs.declared.fault.TraceFault.{TraceFault}
use Rattle.lt_script.specs.Script.{ScriptView}
use Rattle.lt_script.specs.Play.{IsRunOfScript}
use Rattle.lt_watch.specs.Tellings.{Log}
use Rattle.lt_seq.specs.declared.event.JoinNote.{JoinNote}
use Rattle.lt_words.specs.Words.{IsCommand}
use Rattle.lt_program.specs.Words.{PlaysBy, ArePlayers, AreStorers, AreMakers}
use Rattle.lt_program.specs.Languages.{Language, traces, scripts, IsNone}
use Rattle.lt_program.specs.Refusal.{fault_text}
use Rattle.lt_program.specs.Playings.{Playing, serial, crew, live, cut}
use Rattle.lt_program.specs.Runs.{IsRunOf, IsTextOfRun, HasTold}
use Rattle.lt_program.specs.Answers.{IsAnswer, IsAnswerToScript, IsPlayed, bytes_of, made_text, sum_text}
use Rattle.lt_program.specs.declared.answer.Answer.{Answer}
use Rattle.lt_words.specs.declared.command.Command.{Command}
use Rattle.lt_words.specs.declared.command.Command.TheVariants.{Serial, Crew, Live, Cut, Store, Make, Sum}

-- Of a command that reads.

-- All that the source had was read.
pub record ReadsAll (left rest : Option (List ℕ)) (bytes : List ℕ) : Type 0 where
  pub read : Consumes left rest bytes
  pub end : IsAtEnd rest

-- All that it had was read, or as many of its first bytes as decide.
pub record ReadsEnough (language : Language) (left rest : Option (List ℕ)) (bytes : List ℕ) : Type 0 where
  pub bytes_read : ReadsUpTo language.deciding left bytes
  pub read : Consumes left rest bytes

-- The bytes read spell a trace, the text of a run of it that was played so was written, and the watches were told that run's joins.
pub record Plays (playing : Playing) (left rest before after : Option (List ℕ)) (untold told : List Log) : Type 0 where
  pub bytes : List ℕ
  pub trace : TraceView
  pub text : List ℕ
  pub notes : List JoinNote
  pub read : ReadsAll left rest bytes
  pub spelled : Spells bytes trace
  pub work : IsRunOf playing trace text notes
  pub run : IsTextOfRun playing trace text
  pub written : Appends before after text
  pub watched : HasTold notes untold told

-- The bytes read spell a script, and the text of its moves, played on a map of its own, was written.
pub record Stores (left rest before after : Option (List ℕ)) : Type 0 where
  pub bytes : List ℕ
  pub script : ScriptView
  pub text : List ℕ
  pub read : ReadsAll left rest bytes
  pub spelled : scripts.Spells bytes script
  pub run : IsRunOfScript script text
  pub written : Appends before after text

-- The bytes read are none of the language, and nor is all that the source had. The line of their first fault was written.
pub record Refuses (language : Language) (left rest before after : Option (List ℕ)) : Type 0 where
  pub bytes : List ℕ
  pub fault : TraceFault
  pub read : ReadsEnough language left rest bytes
  pub wrong : IsNone language bytes fault
  pub all_wrong : IfSome left (λ all. IsNone language all fault)
  pub written : Appends before after (fault_text fault)

-- Some of the text or of the refusal was written, but not all. The watches were told what belongs to it.
pub record BreaksOff (playing : Playing) (left rest before after : Option (List ℕ)) (untold told : List Log) : Type 0 where
  pub bytes : List ℕ
  pub answer : Answer
  pub read : ReadsEnough traces left rest bytes
  pub right : IsAnswer playing bytes answer untold told
  pub written : AppendsPart before after (bytes_of answer)

-- The same of a script.
pub record BreaksOffScript (left rest before after : Option (List ℕ)) : Type 0 where
  pub bytes : List ℕ
  pub answer : Answer
  pub read : ReadsEnough scripts left rest bytes
  pub right : IsAnswerToScript bytes answer
  pub written : AppendsPart before after (bytes_of answer)

-- The watches were told the joins of a run of the trace that was read.
pub record TellsRun (playing : Playing) (left : Option (List ℕ)) (untold told : List Log) : Type 0 where
  pub bytes : List ℕ
  pub text : List ℕ
  pub read : ReadsUpTo traces.deciding left bytes
  pub run : IsPlayed playing bytes text untold told

-- They were told nothing, or all of them.
abbrev pub TellsOrNot : Playing → Option (List ℕ) → List Log → List Log → Type 0
TellsOrNot playing left untold told = (told ≡ untold) ⊎ TellsRun playing left untold told

-- What is of the language is played, and what is not is refused, unless memory runs out.
pub record PlaysOrRefuses (language : Language) (left : Option (List ℕ)) (status : ℕ) : Type 0 where
  pub spelled : (bytes : List ℕ) (t : language.Text) → left ≡ Some bytes → language.Spells bytes t → (status ≡ 0) ⊎ (status ≡ 6)
  pub none : (bytes : List ℕ) → left ≡ Some bytes → ((t : language.Text) → ¬ language.Spells bytes t) → (status ≡ 3) ⊎ (status ≡ 6)

-- Of all commands. The marks are those that the barrier had before.

-- the command did its work
abbrev pub HasWorked : Command → List Key → Option (List ℕ) → Option (List ℕ) → Option (List ℕ) → Option (List ℕ) → List Log → List Log
    → Type 0
HasWorked Serial marks left rest before after untold told = Plays serial left rest before after untold told
HasWorked (Crew workers) marks left rest before after untold told = Plays (crew workers) left rest before after untold told
HasWorked (Live threads) marks left rest before after untold told = Plays (live threads) left rest before after untold told
HasWorked (Cut workers mark) marks left rest before after untold told =
    Plays (cut workers (marks ++ mark ∷ [])) left rest before after untold told
HasWorked Store marks left rest before after untold told = Stores left rest before after
HasWorked (Make recipe) marks left rest before after untold told = Appends before after (made_text recipe)
HasWorked (Sum recipe) marks left rest before after untold told = Appends before after (sum_text recipe)

-- the words are a command, and it did its work
pub record Works (words : List (List ℕ)) (marks : List Key) (left rest before after : Option (List ℕ)) (untold told : List Log) : Type 0
  where
    pub command : Command
    pub form : IsCommand words command
    pub work : HasWorked command marks left rest before after untold told

-- some of what it writes was written, but not all
abbrev pub HasBrokenOff : Command → List Key → Option (List ℕ) → Option (List ℕ) → Option (List ℕ) → Option (List ℕ) → List Log
    → List Log → Type 0
HasBrokenOff Serial marks left rest before after untold told = BreaksOff serial left rest before after untold told
HasBrokenOff (Crew workers) marks left rest before after untold told = BreaksOff (crew workers) left rest before after untold told
HasBrokenOff (Live threads) marks left rest before after untold told = BreaksOff (live threads) left rest before after untold told
HasBrokenOff (Cut workers mark) marks left rest before after untold told =
    BreaksOff (cut workers (marks ++ mark ∷ [])) left rest before after untold told
HasBrokenOff Store marks left rest before after untold told = BreaksOffScript left rest before after
HasBrokenOff (Make recipe) marks left rest before after untold told = AppendsPart before after (made_text recipe)
HasBrokenOff (Sum recipe) marks left rest before after untold told = AppendsPart before after (sum_text recipe)

-- the words are a command, and its writing was broken off
pub record Breaks (words : List (List ℕ)) (marks : List Key) (left rest before after : Option (List ℕ)) (untold told : List Log) : Type 0
  where
    pub command : Command
    pub form : IsCommand words command
    pub part : HasBrokenOff command marks left rest before after untold told

-- the words ask for a trace to be played or a script, and what was read is none
abbrev pub RefusesAsAsked : List (List ℕ) → Option (List ℕ) → Option (List ℕ) → Option (List ℕ) → Option (List ℕ) → Type 0
RefusesAsAsked words left rest before after =
    (ArePlayers words × Refuses traces left rest before after) ⊎ (AreStorers words × Refuses scripts left rest before after)

-- the watches were told nothing, or all joins of a run as the words ask for
abbrev pub TellsAsAsked : List (List ℕ) → List Key → Option (List ℕ) → List Log → List Log → Type 0
TellsAsAsked words marks left untold told =
    (told ≡ untold) ⊎ ((command : Command) × IsCommand words command × PlaysBy command marks (λ playing. TellsRun playing left untold told))

-- A command does its work, and what is no trace or no script is refused where one is wanted, unless memory runs out.
pub record IsComplete (words : List (List ℕ)) (left : Option (List ℕ)) (status : ℕ) : Type 0 where
  pub plays : ArePlayers words → PlaysOrRefuses traces left status
  pub stores : AreStorers words → PlaysOrRefuses scripts left status
  pub makes : AreMakers words → (status ≡ 0) ⊎ (status ≡ 6)
