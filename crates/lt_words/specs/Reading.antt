-- What is read of the words that clap took.
use Rattle.std.specs.Prelude.{◌≡◌, ℕ, ◌^◌, ◌-◌, ◌==◌, false, List, [], ◌∷◌, codes, Some, Option}
use Rattle.clap.specs.Walk.{Row, Text, first_of}
use Rattle.lt_ranges.specs.declared.key.Key.{Key}
use Rattle.lt_ranges.specs.KeyText.{key_text}
use Rattle.lt_trace.specs.Grammar.{IsNumber}
use Rattle.lt_words.specs.Words.{IsMark}
use Rattle.lt_words.specs.declared.command.Recipe.{Recipe}
use Rattle.lt_words.specs.declared.command.Command.{Command}
use Rattle.lt_words.specs.declared.command.Command.TheVariants.{Serial, Crew, Live, Cut, Store, Make, Sum}

-- the word is not empty, and does not begin with `-`
abbrev pub IsPlain : Text → Type 0
IsPlain [] = ⊥
IsPlain (x ∷ xs) = (x == 45) ≡ false

-- the value of this name spells the number, which is in its range
pub record IsGiven (rows : List Row) (name : Text) (least most n : ℕ) : Type 0 where
  pub text : Text
  pub found : first_of name rows ≡ Some text
  pub number : IsNumber text least most n

-- the values spell these numbers
pub record AreGiven (rows : List Row) (recipe : Recipe) : Type 0 where
  pub seed_is : IsGiven rows (codes "SEED") 0 (2 ^ 64 - 1) recipe.seed
  pub txns_are : IsGiven rows (codes "TXNS") 1 1024 recipe.txns
  pub lines_are : IsGiven rows (codes "LINES") 1 64512 recipe.lines

-- the value spells this number of workers
abbrev pub AreWorkersGiven : List Row → ℕ → Type 0
AreWorkersGiven rows workers = IsGiven rows (codes "N") 1 16 workers

-- the text spells this key, which is one in quotation marks
pub record SpellsMark (text : List ℕ) (mark : Key) : Type 0 where
  pub spelled : text ≡ key_text mark
  pub mark_is : IsMark mark

-- the value spells this key
pub record IsMarkGiven (rows : List Row) (mark : Key) : Type 0 where
  pub text : Text
  pub found : first_of (codes "KEY") rows ≡ Some text
  pub spells : SpellsMark text mark

-- the form of this name, with these values, is the command
abbrev pub Reads : Text → List Row → Command → Type 0
Reads name rows Serial = name ≡ codes "serial"
Reads name rows (Crew workers) = (name ≡ codes "crew") × AreWorkersGiven rows workers
Reads name rows (Live workers) = (name ≡ codes "live") × AreWorkersGiven rows workers
Reads name rows (Cut workers mark) = (name ≡ codes "cut") × AreWorkersGiven rows workers × IsMarkGiven rows mark
Reads name rows Store = name ≡ codes "store"
Reads name rows (Make recipe) = (name ≡ codes "make") × AreGiven rows recipe
Reads name rows (Sum recipe) = (name ≡ codes "sum") × AreGiven rows recipe

-- the form that was met is the command
pub record IsRead (form : Option (Text × List Row)) (command : Command) : Type 0 where
  pub name : Text
  pub rows : List Row
  pub met : form ≡ Some (name, rows)
  pub read : Reads name rows command
