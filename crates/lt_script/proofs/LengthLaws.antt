-- The first bytes of a long text decide what is wrong with it.
use Rattle.std.proofs.Common.{◌≡◌, ℕ, suc, ◌+◌, ◌*◌, ◌<◌, ◌≤◌, ◌⊎◌, inl, inr, ⊎_elim, List, [], ◌∷◌, ◌++◌, Bool, true, false, cond, eqb, length, Option, Some, None, codes, decimal, sym, ap, subst, ◌∙◌, refl, lit<, arith, append_assoc, length-append}
use Rattle.std.specs.List.{AllByRecursion, flat_map}
use Rattle.std.proofs.lemmas.Bool.{cases_lt}
use Rattle.std.proofs.lemmas.Bool.Decides.{nat_tests}
use Rattle.std.proofs.lemmas.Fmt.{length-decimal-le}
use Rattle.lt_trace.specs.declared.fault.TraceFault.{TraceFault}
use Rattle.lt_trace.specs.declared.fault.TraceFault.TheVariants as fault
use Rattle.lt_trace.specs.Grammar.{most_line_bytes, HeaderForm, header_line, header_text, AreInForm, next_form, TextLine, first_line, IsNoHeader, IsFirst}
use Rattle.lt_store.specs.declared.op.Move.{Move}
use Rattle.lt_script.specs.Script.{ScriptView}
use Rattle.lt_script.specs.Grammar.{deciding_bytes, most_lines, header_forms, fault_of_text, fault_of_form, move_text, Forms, AreFaultless, IsBody, Front, IsFront, front_text, whole, Spells, IsHeaderFault, IsBodyFault, HasFault, IsFirstFault}
use Rattle.lt_script.proofs.FrontLaws.{IsPlain, plain_forms, no_body}

-- How long a front is.

-- a line without a fault has a number and a length in range
text_fits : (number : ℕ) (bytes : List ℕ) → fault_of_text number (record { bytes = bytes; ended = true }) ≡ None
    → (number ≤ most_lines) × (length bytes ≤ most_line_bytes)
text_fits number bytes e = grind (arith, nat_tests)

abbrev ended_line : Move → List ℕ
ended_line m = move_text m ++ codes "\n"

body_length : (before moves : List Move) → AreFaultless before moves → length (flat_map ended_line moves) ≤ 601 * length moves
body_length before [] all = omega arith
body_length before (m ∷ moves) all =
    let fits = text_fits (3 + length before) (move_text m) all.0.text in
    let rest = body_length (before ++ m ∷ []) moves all.1 in
    omega (arith, length-append (ended_line m) (flat_map ended_line moves), length-append (move_text m) (codes "\n"))

body_count : (before moves : List Move) → length before ≤ 65536 → AreFaultless before moves → length before + length moves ≤ 65536
body_count before [] few all = omega arith
body_count before (m ∷ moves) few all =
    let fits = text_fits (3 + length before) (move_text m) all.0.text in
    let more : length (before ++ m ∷ []) ≡ length before + 1 = length-append before (m ∷ []) in
    let rest = body_count (before ++ m ∷ []) moves (omega arith) all.1 in
    omega arith

body_fits : (header : List ℕ) (moves : List Move) → IsBody header moves
    → (length (flat_map ended_line moves) ≤ 601 * length moves) × (length moves ≤ 65536)
body_fits header [] body = (omega arith, omega arith)
body_fits header (m ∷ moves) body =
    (body_length [] (m ∷ moves) body.1, (let few = body_count [] (m ∷ moves) (omega arith) body.1 in omega arith))

-- at most ten bytes, a space, five digits and a newline for each header line
header_length : (forms : List HeaderForm) (ns : List ℕ) → AllByRecursion IsPlain forms → AreInForm forms ns
    → length (header_text forms ns) ≤ 17 * length ns
header_length forms [] plain in_form = omega arith
header_length [] (n ∷ ns) plain in_form = absurd in_form
header_length (form ∷ forms) (n ∷ ns) plain in_form =
    let most = plain.0.small in
    let low = in_form.1 in
    let short = plain.0.short in
    let digits = length-decimal-le 5 n (lit< tt) (omega arith) (omega arith) in
    let rest = header_length forms ns plain.1 in_form.2 in
    omega (
      arith,
      length-append (header_line form n ++ 10 ∷ []) (header_text forms ns),
      length-append (header_line form n) (10 ∷ []),
      length-append form.word (32 ∷ decimal n),
    )

header_count : (forms : List HeaderForm) (ns : List ℕ) → AreInForm forms ns → length ns ≤ length forms
header_count forms [] in_form = omega arith
header_count [] (n ∷ ns) in_form = absurd in_form
header_count (form ∷ forms) (n ∷ ns) in_form = let rest = header_count forms ns in_form.2 in omega arith

front_fits : (front : Front) → IsFront front → (length (front_text front) ≤ 34 + 601 * length front.moves) × (length front.moves ≤ 65536)
front_fits front is =
    let body = body_fits front.header front.moves is.body in
    let few = header_count header_forms front.header is.header in
    let header = header_length header_forms front.header plain_forms is.header in
    (omega (arith, length-append (header_text header_forms front.header) (flat_map ended_line front.moves)), body.1)

-- What more bytes change.

abbrev newline : TextLine
newline = record { bytes = []; ended = true }

abbrev put : ℕ → TextLine → TextLine
put b line = record { bytes = b ∷ line.bytes; ended = line.ended }

-- a line that is ended stays as it is
line_stays : (bytes more : List ℕ) → (first_line bytes).ended ≡ true → first_line (bytes ++ more) ≡ first_line bytes
line_stays [] more ended = cc
line_stays (b ∷ bs) more ended = by_case (eqb b 10) (first_line bs) (first_line (bs ++ more)) ended (line_stays bs more)
  where
    by_case : (last : Bool) (l m : TextLine) → (cond last newline (put b l)).ended ≡ true → (l.ended ≡ true → m ≡ l)
        → cond last newline (put b m) ≡ cond last newline (put b l)
    by_case true l m ended rest = refl
    by_case false l m ended rest = ap (put b) (rest ended)

-- and any other grows
line_grows : (bytes more : List ℕ) → (first_line bytes).ended ≡ false
    → (length bytes ≡ length (first_line bytes).bytes) × (length bytes ≤ length (first_line (bytes ++ more)).bytes)
line_grows [] more unended = (refl, omega arith)
line_grows (b ∷ bs) more unended = by_case (eqb b 10) (first_line bs) (first_line (bs ++ more)) unended (line_grows bs more)
  where
    by_case : (last : Bool) (l m : TextLine) → (cond last newline (put b l)).ended ≡ false
        → (l.ended ≡ false → (length bs ≡ length l.bytes) × (length bs ≤ length m.bytes))
        → (suc (length bs) ≡ length (cond last newline (put b l)).bytes) × (suc (length bs) ≤ length (cond last newline (put b m)).bytes)
    by_case true l m unended rest = cc
    by_case false l m unended rest = let both = rest unended in (omega (arith, both.0), omega (arith, both.1))

high_text : (number : ℕ) (text : TextLine) → most_lines < number → fault_of_text number text ≡ Some (fault.TooManyLines number)
high_text number text high = grind (arith, nat_tests)

long_text : (number : ℕ) (text : TextLine) → number ≤ most_lines → most_line_bytes < length text.bytes
    → fault_of_text number text ≡ Some (fault.LineTooLong number)
long_text number text low long = grind (arith, nat_tests)

-- what is known of the first line of a text, and of that of a longer text that begins so
Decided : ℕ → TextLine → TextLine → Type 0
Decided number text longer =
    (longer ≡ text) ⊎ ((f : TraceFault) × (fault_of_text number text ≡ Some f) × (fault_of_text number longer ≡ Some f))

open_decided : (number : ℕ) (rest more : List ℕ) → (number ≤ most_lines → most_line_bytes < length rest) → (first_line rest).ended ≡ false
    → Decided number (first_line rest) (first_line (rest ++ more))
unfolding Decided
open_decided number rest more long unended =
    let grown = line_grows rest more unended in
    ⊎_elim
    (λ high. inr (fault.TooManyLines number, high_text number (first_line rest) high, high_text number (first_line (rest ++ more)) high))
    (λ low. inr (
      fault.LineTooLong number,
      long_text number (first_line rest) low (let h = long low in omega (arith, grown.0)),
      long_text number (first_line (rest ++ more)) low (let h = long low in omega (arith, grown.1)),
    ))
    (cases_lt most_lines number)

decided : (number : ℕ) (rest more : List ℕ) → (number ≤ most_lines → most_line_bytes < length rest)
    → Decided number (first_line rest) (first_line (rest ++ more))
unfolding Decided
decided number rest more long = by_case (first_line rest).ended refl
  where
    by_case : (ended : Bool) → (first_line rest).ended ≡ ended → Decided number (first_line rest) (first_line (rest ++ more))
    by_case true ended = inl (line_stays rest more ended)
    by_case false unended = open_decided number rest more long unended

first_decided : (number : ℕ) (Else : TextLine → TraceFault → Type 0) (text longer : TextLine) (f : TraceFault) → Decided number text longer
    → IsFirst (fault_of_text number text) (Else text) f → IsFirst (fault_of_text number longer) (Else longer) f
unfolding Decided
first_decided number Else text longer f (inl same) is = subst (λ t. IsFirst (fault_of_text number t) (Else t) f) (sym same) is
first_decided number Else text longer f (inr found) is =
    let named : f ≡ found.0 = subst (λ o. IsFirst o (Else text) f) found.1 is in
    subst (λ o. IsFirst o (Else longer) f) (sym found.2) named

header_decided : (form : HeaderForm) (number : ℕ) (rest more : List ℕ) (f : TraceFault) → most_line_bytes < length rest
    → IsHeaderFault form number rest f → IsHeaderFault form number (rest ++ more) f
header_decided form number [] more f long is = absurd (omega arith)
header_decided form number (b ∷ bs) more f long is =
    first_decided number (λ t g. IsNoHeader form t.bytes × (g ≡ fault.BadHeader number)) (first_line (b ∷ bs))
    (first_line (b ∷ bs ++ more)) f (decided number (b ∷ bs) more (λ _. long)) is

body_decided : (before : List Move) (rest more : List ℕ) (f : TraceFault) → (3 + length before ≤ most_lines → most_line_bytes < length rest)
    → IsBodyFault before rest f → IsBodyFault before (rest ++ more) f
body_decided before [] more f long is = absurd is
body_decided before (b ∷ bs) more f long is =
    let number = 3 + length before in
    first_decided number (λ t g. (form : Option Move) × Forms t.bytes form × (fault_of_form number before form ≡ Some g))
    (first_line (b ∷ bs)) (first_line (b ∷ bs ++ more)) f (decided number (b ∷ bs) more long) is

there_decided : (next : Option HeaderForm) (front : Front) (rest more : List ℕ) (f : TraceFault) → IsFront front
    → next_form header_forms front.header ≡ next → deciding_bytes ≤ length (front_text front) + length rest → HasFault next front rest f
    → HasFault next front (rest ++ more) f
there_decided (Some form) front rest more f is next long wrong =
    let none = no_body front.header front.moves form is.body next in
    let few = ap (length {A = Move}) none in
    let fits = front_fits front is in
    header_decided form (1 + length front.header) rest more f (omega (arith, fits.0)) wrong
there_decided None front rest more f is next long wrong =
    let fits = front_fits front is in
    body_decided front.moves rest more f (λ low. omega (arith, fits.0)) wrong

pub first_bytes_decide : (bytes more : List ℕ) (f : TraceFault) → deciding_bytes ≤ length bytes → IsFirstFault bytes f
    → IsFirstFault (bytes ++ more) f
first_bytes_decide bytes more f long refused =
    let front = refused.0 in
    let rest = refused.1 in (
      front,
      rest ++ more,
      refused.2,
      ap (λ xs. xs ++ more) refused.3 ∙ append_assoc (front_text front) rest more,
      there_decided (next_form header_forms front.header) front rest more f refused.2 refl
          (omega (arith, ap length refused.3, length-append (front_text front) rest)) refused.4,
    )

pub scripts_are_short : (bytes : List ℕ) (script : ScriptView) → Spells bytes script → length bytes < deciding_bytes
scripts_are_short bytes script spelled =
    let fits = front_fits (whole script) spelled.0 in
    omega (arith, ap length spelled.1, fits.0, fits.1)
