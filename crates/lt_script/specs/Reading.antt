-- What is read of a script on the way.
use Rattle.std.specs.Prelude.{◌≡◌, ◌≢◌, ℕ, ◌^◌, ◌<◌, List, [], ◌∷◌, ◌++◌, Option, Some, codes}
use Rattle.std.specs.List.{flat_map}
use Rattle.lt_ranges.specs.declared.key.Key.{Key}
use Rattle.lt_ranges.specs.KeyText.{key_text, spaced}
use Rattle.lt_trace.specs.declared.key_words.KeyWord.{KeyWord}
use Rattle.lt_trace.specs.declared.fault.TraceFault.{TraceFault}
use Rattle.lt_trace.specs.Reading.{IsKeyWord, AreEnds}
use Rattle.lt_store.specs.declared.op.Op.{Op}
use Rattle.lt_store.specs.declared.op.Op.TheVariants.{Get, Put, Scan, Commit, Abort}
use Rattle.lt_store.specs.declared.op.Move.{Move}
use Rattle.lt_script.specs.declared.form.Said.{Said}
use Rattle.lt_script.specs.declared.form.Said.TheVariants as said
use Rattle.lt_script.specs.Grammar.{op_text, move_text, IsQuoted, IsOpForm, Forms, fault_of_form, Front, IsFront, IsFaultless, IsBodyFault}

-- no key in quotation marks has this text, or one has of which this is kept
abbrev pub IsNoQuoted : List ℕ → Type 0
IsNoQuoted text = (key : Key) → IsQuoted key → text ≢ key_text key

abbrev pub IsQuotedOf : List ℕ → KeyWord → Type 0
IsQuotedOf text word = (key : Key) × IsQuoted key × (text ≡ key_text key) × IsKeyWord word key

-- the same of such a key with a value behind it
abbrev pub IsNoPut : List ℕ → Type 0
IsNoPut text = (key : Key) (value : ℕ) → IsQuoted key → value < 10 ^ 9 → text ≢ key_text key ++ spaced value

abbrev pub IsPutOf : List ℕ → KeyWord → ℕ → Type 0
IsPutOf text word value =
    (key : Key) × IsQuoted key × (value < 10 ^ 9) × (text ≡ key_text key ++ spaced value) × IsKeyWord word key

-- what is kept of an operation
abbrev pub Says : Said → Op → Type 0
Says (said.Get word) (Get key) = IsKeyWord word key
Says (said.Get word) _ = ⊥
Says (said.Put word value) (Put key v) = IsKeyWord word key × (value ≡ v)
Says (said.Put word value) _ = ⊥
Says (said.Scan kept) (Scan range) = AreEnds kept range
Says (said.Scan kept) _ = ⊥
Says said.Commit Commit = Unit {0}
Says said.Commit _ = ⊥
Says said.Abort Abort = Unit {0}
Says said.Abort _ = ⊥

-- the text is none of the forms that are one word, behind a transaction and a space
abbrev pub IsNoWord : List ℕ → Type 0
IsNoWord text = (text ≢ codes "commit") × (text ≢ codes "abort")

-- no form has this text behind its transaction and a space, or one has of which this is kept
abbrev pub IsNoOp : List ℕ → Type 0
IsNoOp text = (op : Op) → IsOpForm op → 32 ∷ text ≢ op_text op

abbrev pub IsOpOf : List ℕ → Said → Type 0
IsOpOf text kept = (op : Op) × IsOpForm op × (32 ∷ text ≡ op_text op) × Says kept op

-- this is kept of a move with this text
abbrev pub IsFormOf : List ℕ → ℕ → Said → Type 0
IsFormOf text txn kept = (m : Move) × Forms text (Some m) × (txn ≡ m.txn) × Says kept m.op

-- the text of body lines
abbrev pub body_text : List Move → List ℕ
body_text moves = flat_map (λ m. move_text m ++ codes "\n") moves

-- a header with body lines behind it
abbrev pub front_of : ℕ → List Move → Front
front_of limit moves = record { header = 1 ∷ limit ∷ []; moves = moves }

-- the first fault of the bytes behind a header
abbrev pub IsFirstBodyFault : ℕ → List ℕ → TraceFault → Type 0
IsFirstBodyFault limit bytes f =
    (moves : List Move) × (rest : List ℕ) × IsFront (front_of limit moves) × (bytes ≡ body_text moves ++ rest)
    × IsBodyFault moves rest f

-- the moves before, one move without a fault that the bytes begin with, and what stands behind its line
abbrev pub IsOneMore : List Move → List Move → List ℕ → List ℕ → Type 0
IsOneMore before after bytes rest =
    (m : Move) × IsFaultless before m × (after ≡ before ++ m ∷ []) × (bytes ≡ move_text m ++ codes "\n" ++ rest)

-- what is wrong with a line of this number and text behind these moves
abbrev pub IsFormFault : List Move → ℕ → List ℕ → TraceFault → Type 0
IsFormFault before number text f =
    (form : Option Move) × Forms text form × (fault_of_form number before form ≡ Some f)
