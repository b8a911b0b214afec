use Rattle.std.proofs.Common.{◌≡◌, ℕ, List, ◌∷◌, ◌++◌, decimal, refl, sym, ap, ◌∙◌, arith}
use Rattle.lt_trace.proofs.FormLaws.{number_once, number_ends}
use Rattle.lt_store.specs.declared.op.Move.{Move}
use Rattle.lt_script.specs.Grammar.{move_text}
use Rattle.lt_script.proofs.FormLaws.{op_ahead}
use Rattle.lt_script.proofs.form.read_form.Goals as goal

-- the text of a move goes on behind its transaction with a space
spaced_move : (m : Move) (text : List ℕ) → text ≡ move_text m → text ≡ decimal m.txn ++ 32 ∷ (op_ahead m.op).0
spaced_move m text is = is ∙ ap (λ xs. decimal m.txn ++ xs) (op_ahead m.op).1

pub returns-in_err-digits : goal.returns-in_err-digits
returns-in_err-digits c = rw c.from_residual.ensures (λ m form is.
    number_ends m.txn c.args.text.now _ c.in_err-digits.ensures (spaced_move m c.args.text.now is))

pub returns-in_err-txn : goal.returns-in_err-txn
returns-in_err-txn c = rw c.from_residual-in_err-txn.ensures (λ m form is.
    let cut = c.in_ok-digits.ensures in
    let once = number_once m.txn c.in_ok-digits.digits.now c.in_ok-digits.rest.now _ form.most cut.0
    (sym cut.1 ∙ spaced_move m c.args.text.now is) in
    let most = form.most in
    c.in_err-txn.ensures.none refl m.txn (record { spelled = once.0; from = form.least; up_to = omega arith }))

pub returns-in_err-said : goal.returns-in_err-said
returns-in_err-said c = rw c.from_residual-in_err-said.ensures (λ m form is.
    let cut = c.in_ok-digits.ensures in
    let once = number_once m.txn c.in_ok-digits.digits.now c.in_ok-digits.rest.now _ form.most cut.0
    (sym cut.1 ∙ spaced_move m c.args.text.now is) in
    c.in_err-said.ensures m.op form.op (ap (λ xs. 32 ∷ xs) once.1 ∙ sym (op_ahead m.op).1))

pub returns : goal.returns
returns c =
    let found = c.in_ok-txn.ensures.found in
    let said = c.in_ok-said.ensures in
    let text = c.in_ok-digits.ensures.1 ∙ ap (λ xs. xs ++ 32 ∷ c.in_ok-digits.rest.now) found.spelled
    ∙ ap (λ xs. decimal c.in_ok-txn.txn ++ xs) said.2 in
    let most = found.up_to in
    (record { txn = c.in_ok-txn.txn; op = said.0 }, (record { least = found.from; most = omega arith; op = said.1 }, text), refl, said.3)
