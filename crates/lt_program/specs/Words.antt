-- Words that play a trace or a script, and words that make a trace.
use Rattle.std.specs.Prelude.{◌⊎◌, ℕ, List, [], ◌∷◌, ◌++◌}
use Rattle.lt_ranges.specs.declared.key.Key.{Key}
use Rattle.lt_words.specs.Words.{IsCommand}
use Rattle.lt_words.specs.declared.command.Recipe.{Recipe}
use Rattle.lt_words.specs.declared.command.Command.{Command}
use Rattle.lt_words.specs.declared.command.Command.TheVariants.{Serial, Crew, Live, Cut, Store, Make, Sum}
use Rattle.lt_program.specs.Playings.{Playing, serial, crew, live, cut}

-- a command plays a trace in this way, over a barrier with these marks
abbrev pub PlaysBy : Command → List Key → (Playing → Type 0) → Type 0
PlaysBy Serial marks Is = Is serial
PlaysBy (Crew workers) marks Is = Is (crew workers)
PlaysBy (Live threads) marks Is = Is (live threads)
PlaysBy (Cut workers mark) marks Is = Is (cut workers (marks ++ mark ∷ []))
PlaysBy Store marks Is = ⊥
PlaysBy (Make recipe) marks Is = ⊥
PlaysBy (Sum recipe) marks Is = ⊥

-- they are a command that plays a trace, which it reads
abbrev pub ArePlayers : List (List ℕ) → Type 0
ArePlayers words = (command : Command) × IsCommand words command × PlaysBy command [] (λ playing. Unit {0})

-- they are the command that plays a script, which it reads
abbrev pub AreStorers : List (List ℕ) → Type 0
AreStorers words = IsCommand words Store

-- they are a command that makes a trace, and asks the source for nothing
abbrev pub AreMakers : List (List ℕ) → Type 0
AreMakers words = (recipe : Recipe) × (IsCommand words (Make recipe) ⊎ IsCommand words (Sum recipe))
