use Rattle.std.proofs.Common.{[], ◌++◌, codes, refl, ap, ◌∷◌, ◌∙◌, sym, append_assoc}
use Rattle.lt_ranges.specs.KeyText.{key_text}
use Rattle.lt_store.specs.declared.op.Op.TheVariants.{Get, Put, Scan}
use Rattle.lt_script.proofs.form.read_op.Goals as goal

pub returns-in-Some : goal.returns-in-Some
returns-in-Some c =
    let read = c.in_ok-key.ensures in
    let text = c.in-Some.ensures ∙ ap (λ xs. codes "get " ++ xs) read.2 in
    (Get read.0, read.1, ap (λ xs. 32 ∷ xs) text, read.3)

pub returns-in-Some-strip : goal.returns-in-Some-strip
returns-in-Some-strip c =
    let read = c.in_ok-key-2.ensures in
    let text = c.in-Some-strip.ensures ∙ ap (λ xs. codes "put " ++ xs) read.3 in
    (Put read.0 c.in_ok-key-2.value, (read.1, read.2), ap (λ xs. 32 ∷ xs) text, (read.4, refl))

pub returns-in-Some-strip-2 : goal.returns-in-Some-strip-2
returns-in-Some-strip-2 c =
    let read = c.in_ok-ends.ensures in
    let keys = read.2 ∙ sym (append_assoc (key_text read.0.left) (32 ∷ []) (key_text read.0.right)) in
    let text = c.in-Some-strip-2.ensures ∙ ap (λ xs. codes "scan " ++ xs) keys in
    (Scan read.0, read.1, ap (λ xs. 32 ∷ xs) text, read.3)
