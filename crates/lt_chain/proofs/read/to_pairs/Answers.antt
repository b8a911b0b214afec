use Rattle.std.proofs.Common.{◌≡◌, ℕ, ◌<◌, [], sym, subst, List}
use Rattle.lt_rows.specs.declared.row_plan.RowPlan.{RowPlan}
use Rattle.lt_seq.specs.Table.{held_in}
use Rattle.lt_forest.specs.Forest.{folded}
use Rattle.lt_rows.specs.Lawful.{shown}
use Rattle.lt_rows.specs.Handles.{knows}
use Rattle.lt_chain.proofs.ReadLaws.{holds_chain, reads_pairs}
use Rattle.lt_chain.proofs.read.to_pairs.Goals as goal

pub returns-in-Ok-read_pairs-clause-chain : goal.returns-in-Ok-read_pairs-clause-chain
returns-in-Ok-read_pairs-clause-chain c =
    let w = c.in-Ok.ensures.walked in
    let lt : c.args.tree < (knows c.take_chain.new.pass).plan.trees = subst (λ (p : RowPlan). c.args.tree < p.trees) (sym c.in-Ok.ensures.of.0.1) c.requires.tree in
    holds_chain (knows c.take_chain.new.pass) (knows c.read_pairs.new.pass) c.args.tree w.0 w.1 c.take_chain.new.rows.items w.2 lt c.in-Ok-read_pairs.ensures.same

pub returns-in-Ok-read_pairs-clause-pairs : goal.returns-in-Ok-read_pairs-clause-pairs
returns-in-Ok-read_pairs-clause-pairs c =
    let w = c.in-Ok.ensures.walked in
    let lt : c.args.tree < (knows c.take_chain.new.pass).plan.trees = subst (λ (p : RowPlan). c.args.tree < p.trees) (sym c.in-Ok.ensures.of.0.1) c.requires.tree in
    reads_pairs (knows c.take_chain.new.pass) (knows c.read_pairs.new.pass) c.args.tree w.0 w.1 c.take_chain.new.rows.items w.2 lt c.in-Ok-read_pairs.ensures.same
    c.in-Ok-read_pairs.pairs.items
    (subst (λ (l : List ℕ). c.in-Ok-read_pairs.pairs.items ≡ held_in c.args.tree (folded (shown (knows c.take_chain.new.pass) [] c.args.tree).owner (shown (knows c.take_chain.new.pass) []) l))
    c.deref.ensures.value c.in-Ok-read_pairs.ensures.pairs)
