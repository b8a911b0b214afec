-- The grammar of traces: how each one is spelled, and which line of other bytes is the first faulty one.
use Rattle.std.specs.Prelude.{◌≡◌, ◌≢◌, ℕ, ◌+◌, ◌*◌, ◌^◌, ◌<◌, ◌≤◌, List, [], ◌∷◌, ◌++◌, map, length, Option, Some, None}
use Rattle.std.specs.Prelude.{Bool, true, false, ◌&&◌, ◌||◌, ◌==◌, not, nat_lt, nat_le, if◌then◌else◌, codes, decimal}
use Rattle.std.specs.List.{flat_map, list_any}
use Rattle.std.specs.Option.{option_or}
use Rattle.lt_ranges.specs.declared.key.Key.{Key}
use Rattle.lt_ranges.specs.declared.key.Key.TheVariants.{Below, Bytes, After, Above}
use Rattle.lt_ranges.specs.Key.{key_le}
use Rattle.lt_ranges.specs.Interval.{Interval}
use Rattle.lt_ranges.specs.KeyText.{IsOfBytes, is_long, spaced, range_text}
use Rattle.lt_ranges.specs.Numbers.{ascending}
use Rattle.lt_trace.specs.declared.line.Line.{Line}
use Rattle.lt_trace.specs.declared.line.LineDeed.{LineDeed}
use Rattle.lt_trace.specs.declared.line.LineDeed.TheVariants.{Try, Lock, End, Abort, Escalate, Big}
use Rattle.lt_trace.specs.declared.fault.TraceFault.{TraceFault}
use Rattle.lt_trace.specs.declared.fault.TraceFault.TheVariants as fault
use Rattle.lt_trace.specs.Trace.{TraceView}

-- Limits.

-- of a trace, its header's four lines among them
abbrev pub most_lines : ℕ
most_lines = 65540

-- of a line, without its newline
abbrev pub most_line_bytes : ℕ
most_line_bytes = 600

-- as many bytes decide what a text is: one more than that many lines of that many bytes, each with a newline
abbrev pub deciding_bytes : ℕ
deciding_bytes = most_lines * (most_line_bytes + 1) + 1

-- of the transactions that have lines
abbrev pub most_txns : ℕ
most_txns = 1024

-- Numbers.

-- the text is the decimal spelling of n, which lies between the two
pub record IsNumber (text : List ℕ) (least most n : ℕ) : Type 0 where
  pub spelled : text ≡ decimal n
  pub from : least ≤ n
  pub up_to : n ≤ most

-- The header: four lines, each a word and a number.

pub record HeaderForm : Type 0 where
  pub word : List ℕ
  pub least : ℕ
  pub most : ℕ

abbrev pub header_forms : List HeaderForm
header_forms =
    record { word = codes "rangelock"; least = 1; most = 2 }
    ∷ record { word = codes "trees"; least = 1; most = 16 }
    ∷ record { word = codes "limit"; least = 1; most = 65536 }
    ∷ record { word = codes "buffer"; least = 0; most = 65536 } ∷ []

-- the numbers are those of the first header lines
abbrev pub AreInForm : List HeaderForm → List ℕ → Type 0
AreInForm forms [] = Unit {0}
AreInForm [] (n ∷ ns) = ⊥
AreInForm (form ∷ forms) (n ∷ ns) = (form.least ≤ n) × (n ≤ form.most) × AreInForm forms ns

abbrev pub header_line : HeaderForm → ℕ → List ℕ
header_line form n = form.word ++ spaced n

abbrev pub header_text : List HeaderForm → List ℕ → List ℕ
header_text forms [] = []
header_text [] (n ∷ ns) = []
header_text (form ∷ forms) (n ∷ ns) = header_line form n ++ codes "\n" ++ header_text forms ns

-- Body lines.

abbrev pub deed_text : LineDeed → List ℕ
deed_text (Try tree range) = codes " try" ++ spaced tree ++ range_text range
deed_text (Lock tree range) = codes " lock" ++ spaced tree ++ range_text range
deed_text End = codes " end"
deed_text Abort = codes " abort"
deed_text (Escalate tree) = codes " escalate" ++ spaced tree
deed_text Big = codes " big"

abbrev pub line_text : Line → List ℕ
line_text line = decimal line.txn ++ deed_text line.deed

-- the version has such keys: prefix endpoints come with version 2
abbrev pub HasKind : ℕ → Key → Type 0
HasKind version Below = Unit {0}
HasKind version (Bytes bytes) = Unit {0}
HasKind version (After bytes) = 2 ≤ version
HasKind version Above = Unit {0}

-- a key that the version has, of any length
abbrev pub IsKeyForm : ℕ → Key → Type 0
IsKeyForm version key = HasKind version key × IsOfBytes key

-- a range of keys that the version has
abbrev pub IsRangeForm : ℕ → Interval → Type 0
IsRangeForm version range = IsKeyForm version range.left × IsKeyForm version range.right

-- a number that may stand for a tree
abbrev pub IsTreeForm : ℕ → Type 0
IsTreeForm tree = tree < 10 ^ 9

-- the deeds that the version has: big transactions come with version 2
abbrev pub IsDeedForm : ℕ → LineDeed → Type 0
IsDeedForm version (Try tree range) = IsTreeForm tree × IsRangeForm version range
IsDeedForm version (Lock tree range) = IsTreeForm tree × IsRangeForm version range
IsDeedForm version End = Unit {0}
IsDeedForm version Abort = Unit {0}
IsDeedForm version (Escalate tree) = IsTreeForm tree
IsDeedForm version Big = 2 ≤ version

-- a line of one of the forms, whatever tree it names, however long its keys are, and whichever comes first
pub record IsForm (version : ℕ) (line : Line) : Type 0 where
  pub least : 1 ≤ line.txn
  pub most : line.txn < 10 ^ 9
  pub deed : IsDeedForm version line.deed

-- which line a text spells, if any
abbrev pub Forms : ℕ → List ℕ → Option Line → Type 0
Forms version text (Some line) = IsForm version line × (text ≡ line_text line)
Forms version text None = (line : Line) → IsForm version line → text ≢ line_text line

-- Faults.

-- the tree and the range that a deed names
abbrev pub tree_in : LineDeed → Option ℕ
tree_in (Try tree range) = Some tree
tree_in (Lock tree range) = Some tree
tree_in End = None
tree_in Abort = None
tree_in (Escalate tree) = Some tree
tree_in Big = None

abbrev pub range_in : LineDeed → Option Interval
range_in (Try tree range) = Some range
range_in (Lock tree range) = Some range
range_in End = None
range_in Abort = None
range_in (Escalate tree) = None
range_in Big = None

-- there is one, and it is such
abbrev pub is_some_with : {T : Type 0} → (T → Bool) → Option T → Bool
is_some_with is_such None = false
is_some_with is_such (Some x) = is_such x

abbrev pub is_outside : ℕ → LineDeed → Bool
is_outside trees deed = is_some_with (λ tree. nat_le trees tree) (tree_in deed)

abbrev pub has_long_key : LineDeed → Bool
has_long_key deed = is_some_with (λ range. is_long range.left || is_long range.right) (range_in deed)

abbrev pub is_backwards : LineDeed → Bool
is_backwards deed = is_some_with (λ range. not (key_le range.left range.right)) (range_in deed)

abbrev pub is_last : LineDeed → Bool
is_last (Try tree range) = false
is_last (Lock tree range) = false
is_last End = true
is_last Abort = true
is_last (Escalate tree) = false
is_last Big = false

-- whether a transaction had its last line, or a line at all
abbrev pub has_ended : ℕ → List Line → Bool
has_ended txn lines = list_any (λ l. l.txn == txn && is_last l.deed) lines

abbrev pub has_begun : ℕ → List Line → Bool
has_begun txn lines = list_any (λ l. l.txn == txn) lines

abbrev pub txns_of : List Line → List ℕ
txns_of lines = ascending (map (λ l. l.txn) lines)

-- a line of text, and whether a newline ends it
pub record TextLine : Type 0 where
  pub bytes : List ℕ
  pub ended : Bool

-- the bytes up to the first newline
abbrev pub first_line : List ℕ → TextLine
first_line [] = record { bytes = []; ended = false }
first_line (b ∷ bs) =
    if b == 10 then record { bytes = []; ended = true }
    else let line = first_line bs in record { bytes = b ∷ line.bytes; ended = line.ended }

-- The table of faults. The first row that applies is a line's fault.

-- the rows that go by the line's number, length and end
abbrev pub fault_of_text : ℕ → TextLine → Option TraceFault
fault_of_text number text =
    if nat_lt most_lines number then Some (fault.TooManyLines number)
    else if nat_lt most_line_bytes (length text.bytes) then Some (fault.LineTooLong number)
    else if not text.ended then Some (fault.NoFinalNewline number)
    else None

-- those that go by what a body line asks for
abbrev pub fault_of_deed : ℕ → ℕ → LineDeed → Option TraceFault
fault_of_deed number trees deed =
    if is_outside trees deed then Some (fault.TreeOutOfRange number)
    else if has_long_key deed then Some (fault.KeyTooLong number)
    else if is_backwards deed then Some (fault.Backwards number)
    else None

-- and those that go by whose line it is, behind these lines
abbrev pub fault_of_turn : ℕ → List Line → ℕ → Option TraceFault
fault_of_turn number before txn =
    if has_ended txn before then Some (fault.AfterEnd number)
    else if not (has_begun txn before) && nat_le most_txns (length (txns_of before))
    then Some (fault.TooManyTxns number)
    else None

-- the rows of a body line, behind these lines
abbrev pub fault_of_form : ℕ → ℕ → List Line → Option Line → Option TraceFault
fault_of_form number trees before None = Some (fault.BadLine number)
fault_of_form number trees before (Some line) =
    option_or (fault_of_deed number trees line.deed) (fault_of_turn number before line.txn)

-- Traces, and what lines before a faulty one may be.

-- the header's numbers and the body's lines, as far as they were read
pub record Front : Type 0 where
  pub header : List ℕ
  pub lines : List Line

abbrev pub version_in : List ℕ → ℕ
version_in [] = 0
version_in (version ∷ numbers) = version

abbrev pub trees_in : List ℕ → ℕ
trees_in [] = 0
trees_in (version ∷ []) = 0
trees_in (version ∷ trees ∷ numbers) = trees

-- the line has no fault behind these lines
pub record IsFaultless (header : List ℕ) (before : List Line) (line : Line) : Type 0 where
  pub form : IsForm (version_in header) line
  pub number : line.number ≡ 5 + length before
  pub text : fault_of_text line.number (record { bytes = line_text line; ended = true }) ≡ None
  pub says : fault_of_form line.number (trees_in header) before (Some line) ≡ None

-- the lines have none, each behind those before it
abbrev pub AreFaultless : List ℕ → List Line → List Line → Type 0
AreFaultless header before [] = Unit {0}
AreFaultless header before (line ∷ lines) = IsFaultless header before line × AreFaultless header (before ++ line ∷ []) lines

-- body lines come behind a whole header
abbrev pub IsBody : List ℕ → List Line → Type 0
IsBody header [] = Unit {0}
IsBody header (line ∷ lines) = (length header ≡ length header_forms) × AreFaultless header [] (line ∷ lines)

pub record IsFront (front : Front) : Type 0 where
  pub header : AreInForm header_forms front.header
  pub body : IsBody front.header front.lines

-- the spelling
abbrev pub front_text : Front → List ℕ
front_text front =
    header_text header_forms front.header ++ flat_map (λ line. line_text line ++ codes "\n") front.lines

abbrev pub whole : TraceView → Front
whole trace =
    record { header = trace.version ∷ trace.trees ∷ trace.limit ∷ trace.buffer ∷ []; lines = trace.lines }

-- the numbers of a trace are in their ranges, and its lines have no fault
abbrev pub IsTrace : TraceView → Type 0
IsTrace trace = IsFront (whole trace)

-- the bytes are the spelling of the trace
abbrev pub Spells : List ℕ → TraceView → Type 0
Spells bytes trace = IsTrace trace × (bytes ≡ front_text (whole trace))

-- the form of the header line that comes next
abbrev pub next_form : List HeaderForm → List ℕ → Option HeaderForm
next_form [] numbers = None
next_form (form ∷ forms) [] = Some form
next_form (form ∷ forms) (n ∷ ns) = next_form forms ns

-- no number gives the text as this header line
abbrev pub IsNoHeader : HeaderForm → List ℕ → Type 0
IsNoHeader form text = (n : ℕ) → form.least ≤ n → n ≤ form.most → text ≢ header_line form n

-- what the first rows find, and otherwise this
abbrev pub IsFirst : Option TraceFault → (TraceFault → Type 0) → TraceFault → Type 0
IsFirst (Some found) Else f = f ≡ found
IsFirst None Else f = Else f

-- what is wrong with the header line that these bytes begin with; where nothing is left, the line is missing
abbrev pub IsHeaderFault : HeaderForm → ℕ → List ℕ → TraceFault → Type 0
IsHeaderFault form number [] f = f ≡ fault.BadHeader number
IsHeaderFault form number (b ∷ bs) f =
    let text = first_line (b ∷ bs) in
    IsFirst (fault_of_text number text) (λ g. IsNoHeader form text.bytes × (g ≡ fault.BadHeader number)) f

-- what is wrong with the body line that these bytes begin with, behind a header and these lines
abbrev pub IsBodyFault : List ℕ → List Line → List ℕ → TraceFault → Type 0
IsBodyFault header before [] f = ⊥
IsBodyFault header before (b ∷ bs) f =
    let text = first_line (b ∷ bs) in
    let number = 5 + length before in
    IsFirst (fault_of_text number text)
    (λ g. (form : Option Line) × Forms (version_in header) text.bytes form
    × (fault_of_form number (trees_in header) before form ≡ Some g)) f

-- the line that the rest begins with, behind this front, has the fault
abbrev pub HasFault : Option HeaderForm → Front → List ℕ → TraceFault → Type 0
HasFault (Some form) front rest f = IsHeaderFault form (1 + length front.header) rest f
HasFault None front rest f = IsBodyFault front.header front.lines rest f

-- the first faulty line has this fault first: the lines before it have none
abbrev pub IsFirstFault : List ℕ → TraceFault → Type 0
IsFirstFault bytes f =
    (front : Front) × (rest : List ℕ) × IsFront front × (bytes ≡ front_text front ++ rest)
    × HasFault (next_form header_forms front.header) front rest f

-- memory ran out, or the fault is one of these
abbrev pub OrNoMemory : (TraceFault → Type 0) → TraceFault → Type 0
OrNoMemory Is fault.OutOfMemory = Unit {0}
OrNoMemory Is f = Is f

-- a refusal names the first fault, or memory ran out
abbrev pub Refuses : List ℕ → TraceFault → Type 0
Refuses bytes f = OrNoMemory (IsFirstFault bytes) f
