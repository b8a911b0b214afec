use Rattle.std.proofs.Common.{◌∙◌, Ok, subst}
use Rattle.lt_seq.specs.declared.event.Deed.TheVariants.{Join}
use Rattle.lt_seq.specs.SeqPass.{plain}
use Rattle.lt_seq.specs.Yard.{Answers}
use Rattle.lt_seq.proofs.YardLaws.{has_joined_more}
use Rattle.lt_seq.proofs.seq_calls.join_all.Goals as goal

pub loop-tree-preserved : goal.loop-tree-preserved
loop-tree-preserved c =
    let (plan, has) = c.loop-tree.invariant in
    let answers : Answers (plain c.args.pass.now.plan) c.loop-tree.pass.view c.join.new.pass.view c.args.txn (Join c.loop-tree.tree 0 0) (Ok c.in_ok-join.field-0) =
    subst (λ plan. Answers (plain plan) c.loop-tree.pass.view c.join.new.pass.view c.args.txn (Join c.loop-tree.tree 0 0) (Ok c.in_ok-join.field-0)) plan c.in_ok-join.ensures.answer in
    (c.join.ensures.plan ∙ plan, has_joined_more (plain c.args.pass.now.plan) c.args._bar c.args.pass.now.view c.loop-tree.pass.view c.join.new.pass.view c.args.txn c.loop-tree.tree c.in_ok-join.field-0 c.requires.all c.requires.full has answers.answer)
