-- What is read of a trace on the way.
use Rattle.std.specs.Prelude.{◌≡◌, ◌≢◌, ℕ, ◌≤◌, List, [], ◌∷◌, ◌++◌, ◌||◌, Option, Some, true, false, codes, decimal}
use Rattle.std.specs.List.{flat_map}
use Rattle.lt_ranges.specs.declared.key.Key.{Key}
use Rattle.lt_ranges.specs.Interval.{Interval}
use Rattle.lt_ranges.specs.KeyText.{is_long, key_text, range_text}
use Rattle.lt_trace.specs.declared.header.Header.{Header}
use Rattle.lt_trace.specs.declared.header_form.HeaderForm as header_form
use Rattle.lt_trace.specs.declared.key_words.KeyWord.{KeyWord}
use Rattle.lt_trace.specs.declared.key_words.KeyWord.TheVariants.{Fits, Long}
use Rattle.lt_trace.specs.declared.key_words.Ends.{Ends}
use Rattle.lt_trace.specs.declared.key_words.Ends.TheVariants as ends
use Rattle.lt_trace.specs.declared.form.Said.{Said}
use Rattle.lt_trace.specs.declared.form.Said.TheVariants as said
use Rattle.lt_trace.specs.declared.fault.TraceFault.{TraceFault}
use Rattle.lt_trace.specs.declared.line.Line.{Line}
use Rattle.lt_trace.specs.declared.line.LineDeed.{LineDeed}
use Rattle.lt_trace.specs.declared.line.LineDeed.TheVariants.{Try, Lock, End, Abort, Escalate, Big}
use Rattle.lt_trace.specs.Trace.{TraceView}
use Rattle.lt_trace.specs.Grammar.{HeaderForm, IsKeyForm, IsRangeForm, IsTreeForm, IsDeedForm, deed_text, line_text, Forms, fault_of_form}
use Rattle.lt_trace.specs.Grammar.{Front, IsFront, IsFaultless, IsBodyFault}

-- the form of a header line as the grammar has it
abbrev pub form_of : header_form.HeaderForm → HeaderForm
form_of form = record { word = form.word.now; least = form.least; most = form.most }

-- the numbers in their order
abbrev pub numbers : Header → List ℕ
numbers header = header.version ∷ header.trees ∷ header.limit ∷ header.buffer ∷ []

-- what is kept of a key
abbrev pub IsKeyWord : KeyWord → Key → Type 0
IsKeyWord (Fits word) key = (word ≡ key) × (is_long key ≡ false)
IsKeyWord Long key = is_long key ≡ true

-- what is kept of a range
abbrev pub AreEnds : Ends → Interval → Type 0
AreEnds (ends.Fit left right) range = (left ≡ range.left) × (right ≡ range.right) × ((is_long range.left || is_long range.right) ≡ false)
AreEnds ends.Long range = (is_long range.left || is_long range.right) ≡ true

-- no key of the version has this text, or one has of which this is kept
abbrev pub IsNoKey : ℕ → List ℕ → Type 0
IsNoKey version text = (key : Key) → IsKeyForm version key → text ≢ key_text key

abbrev pub IsKeyOf : ℕ → List ℕ → KeyWord → Type 0
IsKeyOf version text word = (key : Key) × IsKeyForm version key × (text ≡ key_text key) × IsKeyWord word key

-- the same of two keys with a space between them
abbrev pub AreNoKeys : ℕ → List ℕ → Type 0
AreNoKeys version text =
    (range : Interval) → IsRangeForm version range → text ≢ key_text range.left ++ 32 ∷ key_text range.right

abbrev pub AreKeysOf : ℕ → List ℕ → Ends → Type 0
AreKeysOf version text kept =
    (range : Interval) × IsRangeForm version range × (text ≡ key_text range.left ++ 32 ∷ key_text range.right) × AreEnds kept range

-- and of a tree with a range
abbrev pub IsNoRange : ℕ → List ℕ → Type 0
IsNoRange version text =
    (tree : ℕ) (range : Interval) → IsTreeForm tree → IsRangeForm version range → text ≢ decimal tree ++ range_text range

abbrev pub IsRangeOf : ℕ → List ℕ → ℕ → Ends → Type 0
IsRangeOf version text tree kept =
    (range : Interval) × IsTreeForm tree × IsRangeForm version range × (text ≡ decimal tree ++ range_text range) × AreEnds kept range

-- what is kept of a deed
abbrev pub Says : Said → LineDeed → Type 0
Says (said.Try tree kept) (Try t range) = (tree ≡ t) × AreEnds kept range
Says (said.Try tree kept) _ = ⊥
Says (said.Lock tree kept) (Lock t range) = (tree ≡ t) × AreEnds kept range
Says (said.Lock tree kept) _ = ⊥
Says said.End End = Unit {0}
Says said.End _ = ⊥
Says said.Abort Abort = Unit {0}
Says said.Abort _ = ⊥
Says (said.Escalate tree) (Escalate t) = tree ≡ t
Says (said.Escalate tree) _ = ⊥
Says said.Big Big = Unit {0}
Says said.Big _ = ⊥

-- the text is none of the forms that are one word, behind a transaction and a space
abbrev pub IsNoWord : ℕ → List ℕ → Type 0
IsNoWord version text = (text ≢ codes "end") × (text ≢ codes "abort") × (2 ≤ version → text ≢ codes "big")

-- no form of the version has this text behind its transaction and a space, or one has of which this is kept
abbrev pub IsNoDeed : ℕ → List ℕ → Type 0
IsNoDeed version text = (deed : LineDeed) → IsDeedForm version deed → 32 ∷ text ≢ deed_text deed

abbrev pub IsDeedOf : ℕ → List ℕ → Said → Type 0
IsDeedOf version text kept = (deed : LineDeed) × IsDeedForm version deed × (32 ∷ text ≡ deed_text deed) × Says kept deed

-- this is kept of a line with this text
abbrev pub IsFormOf : ℕ → List ℕ → ℕ → Said → Type 0
IsFormOf version text txn kept = (line : Line) × Forms version text (Some line) × (txn ≡ line.txn) × Says kept line.deed

-- the text of body lines
abbrev pub body_text : List Line → List ℕ
body_text lines = flat_map (λ line. line_text line ++ codes "\n") lines

-- a header with body lines behind it
abbrev pub front_of : Header → List Line → Front
front_of header lines = record { header = numbers header; lines = lines }

abbrev pub trace_of : Header → List Line → TraceView
trace_of header lines =
    record { version = header.version; trees = header.trees; limit = header.limit; buffer = header.buffer; lines = lines }

-- the first fault of the bytes behind a header
abbrev pub IsFirstBodyFault : Header → List ℕ → TraceFault → Type 0
IsFirstBodyFault header bytes f =
    (lines : List Line) × (rest : List ℕ) × IsFront (front_of header lines) × (bytes ≡ body_text lines ++ rest)
    × IsBodyFault (numbers header) lines rest f

-- the lines before, one line without a fault that the bytes begin with, and what stands behind it
abbrev pub IsOneMore : Header → List Line → List Line → List ℕ → List ℕ → Type 0
IsOneMore header before after bytes rest =
    (line : Line) × IsFaultless (numbers header) before line × (after ≡ before ++ line ∷ [])
    × (bytes ≡ line_text line ++ codes "\n" ++ rest)

-- what is wrong with a line of this number and text behind these lines
abbrev pub IsFormFault : Header → List Line → ℕ → List ℕ → TraceFault → Type 0
IsFormFault header before number text f =
    (form : Option Line) × Forms header.version text form × (fault_of_form number header.trees before form ≡ Some f)
