-- Bytes spell one script or have one first fault, and never both.
use Rattle.std.proofs.Common.{◌≡◌, ℕ, ◌+◌, ◌^◌, ◌<◌, ◌≤◌, inl, inr, ⊎_elim, List, [], ◌∷◌, ◌++◌, Bool, true, false, nat_lt, cond, length, Option, Some, None, decimal, sym, ap, subst, ◌∙◌, refl, lit<, arith, length-append}
use Rattle.std.specs.List.{AllByRecursion}
use Rattle.std.proofs.lemmas.Bool.Decides.{nat_tests}
use Rattle.std.proofs.lemmas.Fmt.{length-decimal-le}
use Rattle.std.proofs.lemmas.List.{append-nil}
use Rattle.lt_trace.specs.declared.fault.TraceFault.{TraceFault}
use Rattle.lt_trace.specs.declared.fault.TraceFault.TheVariants as fault
use Rattle.lt_trace.specs.Grammar.{most_line_bytes, HeaderForm, header_line, next_form, TextLine, first_line, IsNoHeader, IsFirst}
use Rattle.lt_trace.proofs.CutLaws.{first_line_cut}
use Rattle.lt_store.specs.declared.op.Move.{Move}
use Rattle.lt_script.specs.Script.{ScriptView}
use Rattle.lt_script.specs.Grammar.{most_lines, header_forms, fault_of_text, fault_of_form, move_text, Forms, IsFaultless, Front, front_text, whole, Spells, IsHeaderFault, IsBodyFault, HasFault, IsFirstFault}
use Rattle.lt_script.proofs.FormLaws.{same_move, move_lacks}
use Rattle.lt_script.proofs.FrontLaws.{IsPlain, plain_forms, header_lacks, GoesOn, front_split}

-- What goes on has no fault there.

next_is : (P : HeaderForm → Type 0) (forms : List HeaderForm) (ns : List ℕ) (form : HeaderForm) → AllByRecursion P forms
    → next_form forms ns ≡ Some form → P form
next_is P [] ns form all next = cc
next_is P (f ∷ forms) [] form all next = let same : f ≡ form = cc in subst P same all.0
next_is P (f ∷ forms) (n ∷ ns) form all next = next_is P forms ns form all.1 next

next_length : (forms : List HeaderForm) (ns : List ℕ) (form : HeaderForm) → next_form forms ns ≡ Some form → length ns < length forms
next_length [] ns form next = cc
next_length (f ∷ forms) [] form next = omega arith
next_length (f ∷ forms) (n ∷ ns) form next = let h = next_length forms ns form next in omega arith

-- the rows that go by the text find nothing in a short line with a newline
fine_text : (number : ℕ) (text : List ℕ) → number ≤ most_lines → length text ≤ most_line_bytes
    → fault_of_text number (record { bytes = text; ended = true }) ≡ None
fine_text number text low short =
    by_case (nat_lt most_lines number) (nat_lt most_line_bytes (length text)) (grind (arith, nat_tests)) (grind (arith, nat_tests))
  where
    by_case : (high long : Bool) → high ≡ false → long ≡ false
        → cond high (Some (fault.TooManyLines number)) (cond long (Some (fault.LineTooLong number)) None) ≡ None
    by_case high long not_high not_long = rw (not_high, not_long) refl

-- where they find nothing, the others decide
otherwise : (found : Option TraceFault) (Else : TraceFault → Type 0) (f : TraceFault) → found ≡ None → IsFirst found Else f → Else f
otherwise found Else f none is = subst (λ o. IsFirst o Else f) none is

header_line_short : (form : HeaderForm) (n : ℕ) → IsPlain form → n ≤ form.most → length (header_line form n) ≤ most_line_bytes
header_line_short form n plain most =
    let small : n < 10 ^ 6 = let h = plain.small in omega arith in
    let digits = length-decimal-le 6 n (lit< tt) small (omega arith) in
    let word = plain.short in
    omega (arith, length-append form.word (32 ∷ decimal n))

header_fine : (form : HeaderForm) (number n : ℕ) (behind rest : List ℕ) (f : TraceFault) → IsPlain form → number ≤ 2 → form.least ≤ n
    → n ≤ form.most → rest ≡ header_line form n ++ 10 ∷ behind → IsHeaderFault form number rest f → ⊥
header_fine form number n behind [] f plain low least most is wrong = empty (header_line form n) is
  where
    empty : (xs : List ℕ) → [] ≡ xs ++ 10 ∷ behind → ⊥
    empty [] e = cc
    empty (x ∷ xs) e = cc
header_fine form number n behind (b ∷ bs) f plain low least most is wrong =
    let line = ap first_line is ∙ first_line_cut (header_line form n) behind (header_lacks form n plain most) in
    let none = ap (fault_of_text number) line ∙ fine_text number (header_line form n) (omega arith) (header_line_short form n plain most) in
    (otherwise (fault_of_text number (first_line (b ∷ bs)))
    (λ g. IsNoHeader form (first_line (b ∷ bs)).bytes × (g ≡ fault.BadHeader number)) f none wrong).0 n least most
    (ap (λ (t : TextLine). t.bytes) line)

-- two forms of one text have the same faults
same_faults : (number : ℕ) (before : List Move) (text : List ℕ) (k l : Move) → Forms text (Some k) → Forms text (Some l)
    → fault_of_form number before (Some k) ≡ fault_of_form number before (Some l)
same_faults number before text k l one other =
    ap (λ m. fault_of_form number before (Some m)) (same_move k l one.0 other.0 (sym one.1 ∙ other.1))

form_fine : (before : List Move) (m : Move) (form : Option Move) (text : List ℕ) (f : TraceFault) → IsFaultless before m
    → text ≡ move_text m → Forms text form → fault_of_form (3 + length before) before form ≡ Some f → ⊥
form_fine before m None text f good is forms wrong = forms m good.form is
form_fine before m (Some other) text f good is forms wrong =
    let same = same_faults (3 + length before) before text m other (good.form, is) forms in
    let clash : None ≡ Some f = sym good.says ∙ same ∙ wrong in
    cc

body_fine : (before : List Move) (m : Move) (behind rest : List ℕ) (f : TraceFault) → IsFaultless before m
    → rest ≡ move_text m ++ 10 ∷ behind → IsBodyFault before rest f → ⊥
body_fine before m behind [] f good is wrong = wrong
body_fine before m behind (b ∷ bs) f good is wrong =
    let text = ap first_line is ∙ first_line_cut (move_text m) behind (move_lacks m good.form) in
    let number = 3 + length before in
    let none = ap (fault_of_text number) text ∙ good.text in
    let found = otherwise (fault_of_text number (first_line (b ∷ bs)))
    (λ g. (form : Option Move) × Forms (first_line (b ∷ bs)).bytes form × (fault_of_form number before form ≡ Some g)) f none wrong in
    form_fine before m found.0 (first_line (b ∷ bs)).bytes f good (ap (λ (t : TextLine). t.bytes) text) found.1 found.2

no_fault : (front : Front) (rest : List ℕ) (f : TraceFault) → GoesOn front rest
    → HasFault (next_form header_forms front.header) front rest f → ⊥
no_fault front rest f (inl more) wrong =
    let plain = next_is IsPlain header_forms front.header more.form plain_forms more.next in
    let low = next_length header_forms front.header more.form more.next in
    header_fine more.form (1 + length front.header) more.number more.behind rest f plain (omega arith) more.least more.most more.begins
    (subst (λ o. HasFault o front rest f) more.next wrong)
no_fault front rest f (inr more) wrong =
    body_fine front.moves more.1.next more.1.behind rest f more.1.good more.1.begins (subst (λ o. HasFault o front rest f) more.0 wrong)

-- A line has one fault at the most.

one_first : (found : Option TraceFault) (Else : TraceFault → Type 0) (f g : TraceFault) → ((d e : TraceFault) → Else d → Else e → d ≡ e)
    → IsFirst found Else f → IsFirst found Else g → f ≡ g
one_first (Some d) Else f g once is other = is ∙ sym other
one_first None Else f g once is other = once f g is other

one_header_fault : (form : HeaderForm) (number : ℕ) (rest : List ℕ) (f g : TraceFault) → IsHeaderFault form number rest f
    → IsHeaderFault form number rest g → f ≡ g
one_header_fault form number [] f g is other = is ∙ sym other
one_header_fault form number (b ∷ bs) f g is other =
    one_first (fault_of_text number (first_line (b ∷ bs)))
    (λ d. IsNoHeader form (first_line (b ∷ bs)).bytes × (d ≡ fault.BadHeader number)) f g (λ d e one two. one.1 ∙ sym two.1) is other

one_form_fault : (number : ℕ) (before : List Move) (text : List ℕ) (d e : TraceFault) (one other : Option Move)
    → Forms text one → fault_of_form number before one ≡ Some d → Forms text other → fault_of_form number before other ≡ Some e → d ≡ e
one_form_fault number before text d e None None one first other second = cc
one_form_fault number before text d e None (Some l) one first other second = absurd (one l other.0 other.1)
one_form_fault number before text d e (Some k) None one first other second = absurd (other k one.0 one.1)
one_form_fault number before text d e (Some k) (Some l) one first other second =
    let same : Some d ≡ Some e = sym first ∙ same_faults number before text k l one other ∙ second in
    cc

one_body_fault : (before : List Move) (rest : List ℕ) (f g : TraceFault) → IsBodyFault before rest f → IsBodyFault before rest g → f ≡ g
one_body_fault before [] f g is other = absurd is
one_body_fault before (b ∷ bs) f g is other =
    let text = first_line (b ∷ bs) in
    let number = 3 + length before in
    one_first (fault_of_text number text)
    (λ d. (form : Option Move) × Forms text.bytes form × (fault_of_form number before form ≡ Some d)) f g
    (λ d e one two. one_form_fault number before text.bytes d e one.0 two.0 one.1 one.2 two.1 two.2) is other

one_fault_there : (next : Option HeaderForm) (front : Front) (rest : List ℕ) (f g : TraceFault) → HasFault next front rest f
    → HasFault next front rest g → f ≡ g
one_fault_there (Some form) front rest f g is other = one_header_fault form (1 + length front.header) rest f g is other
one_fault_there None front rest f g is other = one_body_fault front.moves rest f g is other

-- The laws.

not_empty : (xs : List ℕ) (b : ℕ) (ys : List ℕ) → [] ≡ xs ++ b ∷ ys → ⊥
not_empty [] b ys e = cc
not_empty (x ∷ xs) b ys e = cc

-- nothing goes on behind a script
script_ends : (script : ScriptView) → GoesOn (whole script) [] → ⊥
script_ends script (inl more) = let next = more.next in cc
script_ends script (inr more) = not_empty (move_text more.1.next) 10 more.1.behind more.1.begins

no_fault_behind : (script : ScriptView) (front : Front) (f : TraceFault) → whole script ≡ front
    → HasFault (next_form header_forms front.header) front [] f → ⊥
no_fault_behind script front f same wrong = subst (λ g. HasFault (next_form header_forms g.header) g [] f) (sym same) wrong

pub spelled_not_refused : (bytes : List ℕ) (script : ScriptView) (f : TraceFault) → Spells bytes script → IsFirstFault bytes f → ⊥
spelled_not_refused bytes script f spelled refused =
    let front = refused.0 in
    let rest = refused.1 in
    let both = append-nil (front_text (whole script)) ∙ sym spelled.1 ∙ refused.3 in
    ⊎_elim
    (λ same. no_fault_behind script front f same.0
    (subst (λ xs. HasFault (next_form header_forms front.header) front xs f) (sym same.1) refused.4))
    (λ more. ⊎_elim (λ h. script_ends script h) (λ h. no_fault front rest f h refused.4) more)
    (front_split (whole script) front [] rest spelled.0 refused.2 both)

abbrev made : ℕ → List Move → ScriptView
made limit moves = record { limit = limit; moves = moves }

same_script : (a b : ScriptView) → whole a ≡ whole b → a ≡ b
same_script a b e =
    let header = ap (λ (f : Front). f.header) e in
    let moves = ap (λ (f : Front). f.moves) e in
    let limit : a.limit ≡ b.limit = cc in
    ap (λ l. made l a.moves) limit ∙ ap (λ ms. made b.limit ms) moves

pub one_script : (bytes : List ℕ) (a b : ScriptView) → Spells bytes a → Spells bytes b → a ≡ b
one_script bytes a b one other =
    ⊎_elim
    (λ same. same_script a b same.0)
    (λ more. absurd (⊎_elim (λ h. script_ends a h) (λ h. script_ends b h) more))
    (front_split (whole a) (whole b) [] [] one.0 other.0
    (append-nil (front_text (whole a)) ∙ sym one.1 ∙ other.1 ∙ sym (append-nil (front_text (whole b)))))

one_fault_of : (f g : Front) (r s : List ℕ) (d e : TraceFault) → f ≡ g → r ≡ s → HasFault (next_form header_forms f.header) f r d
    → HasFault (next_form header_forms g.header) g s e → d ≡ e
one_fault_of f g r s d e same rest is other =
    let there = subst (λ h. HasFault (next_form header_forms h.header) h s e) (sym same) other in
    let here = subst (λ xs. HasFault (next_form header_forms f.header) f xs e) (sym rest) there in
    one_fault_there (next_form header_forms f.header) f r d e is here

pub one_fault : (bytes : List ℕ) (d e : TraceFault) → IsFirstFault bytes d → IsFirstFault bytes e → d ≡ e
one_fault bytes d e one other =
    ⊎_elim
    (λ same. one_fault_of one.0 other.0 one.1 other.1 d e same.0 same.1 one.4 other.4)
    (λ more. absurd (⊎_elim (λ h. no_fault one.0 one.1 d h one.4) (λ h. no_fault other.0 other.1 e h other.4) more))
    (front_split one.0 other.0 one.1 other.1 one.2 other.2 (sym one.3 ∙ other.3))
