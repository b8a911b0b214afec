-- The words of the command line.
use Rattle.std.specs.Prelude.{◌≡◌, ℕ, ◌<◌, ◌≤◌, ◌^◌, ◌-◌, List, [], ◌∷◌, false, codes, decimal}
use Rattle.lt_ranges.specs.declared.key.Key.{Key}
use Rattle.lt_ranges.specs.declared.key.Key.TheVariants.{Below, Bytes, After, Above}
use Rattle.lt_ranges.specs.KeyText.{IsOfBytes, is_long, key_text}
use Rattle.lt_trace.specs.Grammar.{IsNumber}
use Rattle.lt_words.specs.declared.command.Recipe.{Recipe}
use Rattle.lt_words.specs.declared.command.Command.{Command}
use Rattle.lt_words.specs.declared.command.Command.TheVariants.{Serial, Crew, Live, Cut, Store, Make, Sum}

-- the numbers are in the ranges of the generator
pub record IsRecipe (recipe : Recipe) : Type 0 where
  pub seed : recipe.seed < 2 ^ 64
  pub some_txns : 1 ≤ recipe.txns
  pub few_txns : recipe.txns ≤ 1024
  pub some_lines : 1 ≤ recipe.lines
  pub few_lines : recipe.lines ≤ 64512

-- the words spell these numbers, and they are in their ranges
pub record SpellRecipe (seed txns lines : List ℕ) (recipe : Recipe) : Type 0 where
  pub seed_is : IsNumber seed 0 (2 ^ 64 - 1) recipe.seed
  pub txns_are : IsNumber txns 1 1024 recipe.txns
  pub lines_are : IsNumber lines 1 64512 recipe.lines

-- the words are this one and the three numbers
pub record IsMaker (word : List ℕ) (words : List (List ℕ)) (recipe : Recipe) : Type 0 where
  pub words_are : words ≡ word ∷ decimal recipe.seed ∷ decimal recipe.txns ∷ decimal recipe.lines ∷ []
  pub ranges : IsRecipe recipe

-- the words are this one and this number of workers
pub record AreWorkers (word : List ℕ) (words : List (List ℕ)) (workers : ℕ) : Type 0 where
  pub words_are : words ≡ word ∷ decimal workers ∷ []
  pub some_workers : 1 ≤ workers
  pub few_workers : workers ≤ 16

-- a key in quotation marks, of at most 63 bytes
abbrev pub IsMark : Key → Type 0
IsMark Below = ⊥
IsMark (Bytes bytes) = IsOfBytes (Bytes bytes) × (is_long (Bytes bytes) ≡ false)
IsMark (After bytes) = ⊥
IsMark Above = ⊥

-- the words are a number of workers and a mark
pub record AreCutters (words : List (List ℕ)) (workers : ℕ) (mark : Key) : Type 0 where
  pub words_are : words ≡ codes "cut" ∷ decimal workers ∷ key_text mark ∷ []
  pub some_workers : 1 ≤ workers
  pub few_workers : workers ≤ 16
  pub mark_is : IsMark mark

-- the words are this command's form
abbrev pub IsCommand : List (List ℕ) → Command → Type 0
IsCommand words Serial = words ≡ codes "serial" ∷ []
IsCommand words (Crew workers) = AreWorkers (codes "crew") words workers
IsCommand words (Live workers) = AreWorkers (codes "live") words workers
IsCommand words (Cut workers mark) = AreCutters words workers mark
IsCommand words Store = words ≡ codes "store" ∷ []
IsCommand words (Make recipe) = IsMaker (codes "make") words recipe
IsCommand words (Sum recipe) = IsMaker (codes "sum") words recipe

-- they are none of the forms
abbrev pub IsNoCommand : List (List ℕ) → Type 0
IsNoCommand words = (command : Command) → ¬ IsCommand words command
