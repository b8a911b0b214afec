use Rattle.std.proofs.Common.{◌++◌, codes, refl, ap, ◌∷◌, ◌∙◌, arith}
use Rattle.lt_trace.specs.declared.line.LineDeed.TheVariants.{Try, Lock, Escalate}
use Rattle.lt_trace.proofs.form.read_deed.Goals as goal

pub returns-in-Some : goal.returns-in-Some
returns-in-Some c =
    let read = c.in_ok-tree.ensures in
    let text = c.in-Some.ensures ∙ ap (λ xs. codes "try " ++ xs) read.3 in
    (Try c.in_ok-tree.tree read.0, (read.1, read.2), ap (λ xs. 32 ∷ xs) text, (refl, read.4))

pub returns-in-Some-strip : goal.returns-in-Some-strip
returns-in-Some-strip c =
    let read = c.in_ok-tree-2.ensures in
    let text = c.in-Some-strip.ensures ∙ ap (λ xs. codes "lock " ++ xs) read.3 in
    (Lock c.in_ok-tree-2.tree read.0, (read.1, read.2), ap (λ xs. 32 ∷ xs) text, (refl, read.4))

pub returns-in-Some-strip-2 : goal.returns-in-Some-strip-2
returns-in-Some-strip-2 c =
    let found = c.in_ok-tree-3.ensures.found in
    let text = c.in-Some-strip-2.ensures ∙ ap (λ xs. codes "escalate " ++ xs) found.spelled in
    let most = found.up_to in
    (Escalate c.in_ok-tree-3.tree, omega arith, ap (λ xs. 32 ∷ xs) text, refl)
