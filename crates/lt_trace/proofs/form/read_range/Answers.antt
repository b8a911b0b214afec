use Rattle.std.proofs.Common.{[], ◌∷◌, refl, sym, ◌∙◌, append_assoc, arith}
use Rattle.lt_ranges.specs.KeyText.{key_text}
use Rattle.lt_trace.proofs.FormLaws.{number_once, number_ends}
use Rattle.lt_trace.proofs.form.read_range.Goals as goal

pub returns-in_err-digits : goal.returns-in_err-digits
returns-in_err-digits c = rw c.from_residual.ensures (λ tree range small form is. number_ends tree c.args.text.now _ c.in_err-digits.ensures is)

pub returns-in_err-tree : goal.returns-in_err-tree
returns-in_err-tree c = rw c.from_residual-in_err-tree.ensures (λ tree range small form is.
    let cut = c.in_ok-digits.ensures in
    let once = number_once tree c.in_ok-digits.digits.now c.in_ok-digits.keys.now _ small cut.0 (sym cut.1 ∙ is) in
    c.in_err-tree.ensures.none refl tree (record { spelled = once.0; from = omega arith; up_to = omega arith }))

pub returns-in_err-ends : goal.returns-in_err-ends
returns-in_err-ends c = rw c.from_residual-in_err-ends.ensures (λ tree range small form is.
    let cut = c.in_ok-digits.ensures in
    let once = number_once tree c.in_ok-digits.digits.now c.in_ok-digits.keys.now _ small cut.0 (sym cut.1 ∙ is) in
    c.in_err-ends.ensures range form (once.1 ∙ append_assoc (key_text range.left) (32 ∷ []) (key_text range.right)))
