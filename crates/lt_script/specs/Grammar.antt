-- The grammar of scripts: how each one is spelled, and which line of other bytes is the first faulty one.
use Rattle.std.specs.Prelude.{◌≡◌, ◌≢◌, ℕ, ◌+◌, ◌*◌, ◌^◌, ◌<◌, ◌≤◌, List, [], ◌∷◌, ◌++◌, length, Option, Some, None}
use Rattle.std.specs.Prelude.{Bool, true, false, ◌&&◌, ◌||◌, not, nat_lt, nat_le, if◌then◌else◌, codes, decimal}
use Rattle.std.specs.List.{flat_map}
use Rattle.std.specs.Option.{option_or}
use Rattle.lt_ranges.specs.declared.key.Key.{Key}
use Rattle.lt_ranges.specs.declared.key.Key.TheVariants.{Below, Bytes, After, Above}
use Rattle.lt_ranges.specs.Key.{key_le}
use Rattle.lt_ranges.specs.KeyText.{IsOfBytes, is_long, key_text, spaced, range_text}
use Rattle.lt_trace.specs.declared.fault.TraceFault.{TraceFault}
use Rattle.lt_trace.specs.declared.fault.TraceFault.TheVariants as fault
use Rattle.lt_trace.specs.Grammar.{most_line_bytes, most_txns, HeaderForm, AreInForm, header_text, next_form, IsNoHeader, IsRangeForm}
use Rattle.lt_trace.specs.Grammar.{TextLine, first_line, IsFirst, OrNoMemory}
use Rattle.lt_store.specs.declared.op.Op.{Op}
use Rattle.lt_store.specs.declared.op.Op.TheVariants.{Get, Put, Scan, Commit, Abort}
use Rattle.lt_store.specs.declared.op.Move.{Move}
use Rattle.lt_script.specs.Script.{ScriptView}
use Rattle.lt_script.specs.Moves.{has_ended, has_begun, txns_of}

-- Limits.

-- of a script, its header's two lines among them
abbrev pub most_lines : ℕ
most_lines = 65538

-- as many bytes decide what a text is: one more than that many lines of 600 bytes, each with a newline
abbrev pub deciding_bytes : ℕ
deciding_bytes = most_lines * (most_line_bytes + 1) + 1

-- The header: two lines, each a word and a number.

abbrev pub header_forms : List HeaderForm
header_forms =
    record { word = codes "rangestore"; least = 1; most = 1 }
    ∷ record { word = codes "limit"; least = 1; most = 65536 } ∷ []

-- Body lines.

abbrev pub op_text : Op → List ℕ
op_text (Get key) = codes " get " ++ key_text key
op_text (Put key value) = codes " put " ++ key_text key ++ spaced value
op_text (Scan range) = codes " scan" ++ range_text range
op_text Commit = codes " commit"
op_text Abort = codes " abort"

abbrev pub move_text : Move → List ℕ
move_text m = decimal m.txn ++ op_text m.op

-- a key in quotation marks, of any length
abbrev pub IsQuoted : Key → Type 0
IsQuoted Below = ⊥
IsQuoted (Bytes bytes) = IsOfBytes (Bytes bytes)
IsQuoted (After bytes) = ⊥
IsQuoted Above = ⊥

abbrev pub IsOpForm : Op → Type 0
IsOpForm (Get key) = IsQuoted key
IsOpForm (Put key value) = IsQuoted key × (value < 10 ^ 9)
IsOpForm (Scan range) = IsRangeForm 1 range
IsOpForm Commit = Unit {0}
IsOpForm Abort = Unit {0}

-- a line of one of the forms, however long its keys are, and whichever comes first
pub record IsForm (m : Move) : Type 0 where
  pub least : 1 ≤ m.txn
  pub most : m.txn < 10 ^ 9
  pub op : IsOpForm m.op

-- which move a text spells, if any
abbrev pub Forms : List ℕ → Option Move → Type 0
Forms text (Some m) = IsForm m × (text ≡ move_text m)
Forms text None = (m : Move) → IsForm m → text ≢ move_text m

-- Faults.

abbrev pub has_long_key : Op → Bool
has_long_key (Get key) = is_long key
has_long_key (Put key value) = is_long key
has_long_key (Scan range) = is_long range.left || is_long range.right
has_long_key Commit = false
has_long_key Abort = false

abbrev pub is_backwards : Op → Bool
is_backwards (Get key) = false
is_backwards (Put key value) = false
is_backwards (Scan range) = not (key_le range.left range.right)
is_backwards Commit = false
is_backwards Abort = false

-- The table of faults. The first row that applies is a line's fault.

-- the rows that go by the line's number, length and end
abbrev pub fault_of_text : ℕ → TextLine → Option TraceFault
fault_of_text number text =
    if nat_lt most_lines number then Some (fault.TooManyLines number)
    else if nat_lt most_line_bytes (length text.bytes) then Some (fault.LineTooLong number)
    else if not text.ended then Some (fault.NoFinalNewline number)
    else None

-- those that go by what a body line asks for
abbrev pub fault_of_op : ℕ → Op → Option TraceFault
fault_of_op number op =
    if has_long_key op then Some (fault.KeyTooLong number)
    else if is_backwards op then Some (fault.Backwards number)
    else None

-- and those that go by whose line it is, behind these moves
abbrev pub fault_of_turn : ℕ → List Move → ℕ → Option TraceFault
fault_of_turn number before txn =
    if has_ended txn before then Some (fault.AfterEnd number)
    else if not (has_begun txn before) && nat_le most_txns (length (txns_of before))
    then Some (fault.TooManyTxns number)
    else None

-- the rows of a body line, behind these moves
abbrev pub fault_of_form : ℕ → List Move → Option Move → Option TraceFault
fault_of_form number before None = Some (fault.BadLine number)
fault_of_form number before (Some m) = option_or (fault_of_op number m.op) (fault_of_turn number before m.txn)

-- Scripts, and what lines before a faulty one may be.

-- the header's numbers and the body's moves, as far as they were read
pub record Front : Type 0 where
  pub header : List ℕ
  pub moves : List Move

-- the move has no fault behind these, in the line with the next number
pub record IsFaultless (before : List Move) (m : Move) : Type 0 where
  pub form : IsForm m
  pub text : fault_of_text (3 + length before) (record { bytes = move_text m; ended = true }) ≡ None
  pub says : fault_of_form (3 + length before) before (Some m) ≡ None

-- the moves have none, each behind those before it
abbrev pub AreFaultless : List Move → List Move → Type 0
AreFaultless before [] = Unit {0}
AreFaultless before (m ∷ moves) = IsFaultless before m × AreFaultless (before ++ m ∷ []) moves

-- body lines come behind a whole header
abbrev pub IsBody : List ℕ → List Move → Type 0
IsBody header [] = Unit {0}
IsBody header (m ∷ moves) = (length header ≡ length header_forms) × AreFaultless [] (m ∷ moves)

pub record IsFront (front : Front) : Type 0 where
  pub header : AreInForm header_forms front.header
  pub body : IsBody front.header front.moves

-- the spelling
abbrev pub front_text : Front → List ℕ
front_text front = header_text header_forms front.header ++ flat_map (λ m. move_text m ++ codes "\n") front.moves

abbrev pub whole : ScriptView → Front
whole script = record { header = 1 ∷ script.limit ∷ []; moves = script.moves }

-- the limit of a script is in its range, and its moves have no fault
abbrev pub IsScript : ScriptView → Type 0
IsScript script = IsFront (whole script)

-- the bytes are the spelling of the script
abbrev pub Spells : List ℕ → ScriptView → Type 0
Spells bytes script = IsScript script × (bytes ≡ front_text (whole script))

-- what is wrong with the header line that these bytes begin with; where nothing is left, the line is missing
abbrev pub IsHeaderFault : HeaderForm → ℕ → List ℕ → TraceFault → Type 0
IsHeaderFault form number [] f = f ≡ fault.BadHeader number
IsHeaderFault form number (b ∷ bs) f =
    let text = first_line (b ∷ bs) in
    IsFirst (fault_of_text number text) (λ g. IsNoHeader form text.bytes × (g ≡ fault.BadHeader number)) f

-- what is wrong with the body line that these bytes begin with, behind a header and these moves
abbrev pub IsBodyFault : List Move → List ℕ → TraceFault → Type 0
IsBodyFault before [] f = ⊥
IsBodyFault before (b ∷ bs) f =
    let text = first_line (b ∷ bs) in
    let number = 3 + length before in
    IsFirst (fault_of_text number text) (λ g. (form : Option Move) × Forms text.bytes form × (fault_of_form number before form ≡ Some g)) f

-- the line that the rest begins with, behind this front, has the fault
abbrev pub HasFault : Option HeaderForm → Front → List ℕ → TraceFault → Type 0
HasFault (Some form) front rest f = IsHeaderFault form (1 + length front.header) rest f
HasFault None front rest f = IsBodyFault front.moves rest f

-- the first faulty line has this fault first: the lines before it have none
abbrev pub IsFirstFault : List ℕ → TraceFault → Type 0
IsFirstFault bytes f =
    (front : Front) × (rest : List ℕ) × IsFront front × (bytes ≡ front_text front ++ rest)
    × HasFault (next_form header_forms front.header) front rest f

-- a refusal names the first fault, or memory ran out
abbrev pub Refuses : List ℕ → TraceFault → Type 0
Refuses bytes f = OrNoMemory (IsFirstFault bytes) f
