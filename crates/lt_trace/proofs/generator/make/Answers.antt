use Rattle.std.proofs.Common.{◌++◌, ◌∷◌, [], sym, ap, subst, ◌∙◌}
use Rattle.lt_trace.specs.Grammar.{IsFront}
use Rattle.lt_trace.specs.Generator.{drawn_lines, ending_lines}
use Rattle.lt_trace.proofs.GeneratorLaws.{generated_is_trace}
use Rattle.lt_trace.proofs.generator.make.Goals as goal

pub new-requires : goal.new-requires
new-requires c =
    let drawn = c.in_ok-push_drawn.ensures ∙ ap (λ xs. xs ++ drawn_lines c.args.seed c.args.txns c.args.lines) c.new-made.ensures.items in
    let all = c.in_ok-push_ending.ensures ∙ ap (λ xs. xs ++ ending_lines c.args.txns c.args.lines) drawn in
    subst (λ lines. IsFront (record { header = 1 ∷ 2 ∷ 4096 ∷ 512 ∷ []; lines = lines })) (sym all)
    (generated_is_trace c.args.seed c.args.txns c.args.lines c.requires.some_txns c.requires.few_txns c.requires.few_lines)
