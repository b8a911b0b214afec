use Rattle.std.proofs.Common.{◌≡◌, ℕ, List, ◌∷◌, ◌++◌, decimal, refl, sym, ap, ◌∙◌, arith}
use Rattle.lt_trace.specs.declared.line.Line.{Line}
use Rattle.lt_trace.specs.Grammar.{line_text}
use Rattle.lt_trace.proofs.FormLaws.{number_once, number_ends, deed_ahead}
use Rattle.lt_trace.proofs.form.read_form.Goals as goal

-- the text of a line goes on behind its transaction with a space
spaced_line : (line : Line) (text : List ℕ) → text ≡ line_text line → text ≡ decimal line.txn ++ 32 ∷ (deed_ahead line.deed).0
spaced_line line text is = is ∙ ap (λ xs. decimal line.txn ++ xs) (deed_ahead line.deed).1

pub returns-in_err-digits : goal.returns-in_err-digits
returns-in_err-digits c = rw c.from_residual.ensures (λ line form is.
    number_ends line.txn c.args.text.now _ c.in_err-digits.ensures (spaced_line line c.args.text.now is))

pub returns-in_err-txn : goal.returns-in_err-txn
returns-in_err-txn c = rw c.from_residual-in_err-txn.ensures (λ line form is.
    let cut = c.in_ok-digits.ensures in
    let once = number_once line.txn c.in_ok-digits.digits.now c.in_ok-digits.rest.now _ form.most cut.0 (sym cut.1 ∙ spaced_line line c.args.text.now is) in
    let most = form.most in
    c.in_err-txn.ensures.none refl line.txn (record { spelled = once.0; from = form.least; up_to = omega arith }))

pub returns-in_err-said : goal.returns-in_err-said
returns-in_err-said c = rw c.from_residual-in_err-said.ensures (λ line form is.
    let cut = c.in_ok-digits.ensures in
    let once = number_once line.txn c.in_ok-digits.digits.now c.in_ok-digits.rest.now _ form.most cut.0 (sym cut.1 ∙ spaced_line line c.args.text.now is) in
    c.in_err-said.ensures line.deed form.deed (ap (λ xs. 32 ∷ xs) once.1 ∙ sym (deed_ahead line.deed).1))

pub returns : goal.returns
returns c =
    let found = c.in_ok-txn.ensures.found in
    let said = c.in_ok-said.ensures in
    (record { txn = c.in_ok-txn.txn; number = 0; deed = said.0 }, (record { least = found.from; most = omega arith; deed = said.1 }, c.in_ok-digits.ensures.1 ∙ ap (λ xs. xs ++ 32 ∷ c.in_ok-digits.rest.now) found.spelled ∙ ap (λ xs. decimal c.in_ok-txn.txn ++ xs) said.2), refl, said.3)
