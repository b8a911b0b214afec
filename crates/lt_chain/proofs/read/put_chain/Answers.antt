use Rattle.std.proofs.Common.{arith, [], ◌∷◌}
use Rattle.lt_forest.proofs.SameRows.{one_here}
use Rattle.lt_rows.specs.Handles.{knows}
use Rattle.lt_chain.proofs.HoldingLaws.{keeps_rest, backs_one, backs_may_put, backs_put, backs_none_left}
use Rattle.lt_chain.proofs.read.put_chain.Goals as goal

pub put_all-requires-clause-keeps : goal.put_all-requires-clause-keeps
put_all-requires-clause-keeps c = keeps_rest (knows c.args.pass.now) (knows c.args.pass.now) c.args.tree c.args.rows.items c.requires.backs

pub put-requires-clause-settled : goal.put-requires-clause-settled
put-requires-clause-settled c =
    let one = one_here c.args.tree in
    let b = backs_one (knows c.args.pass.now) (knows c.put_all.new.pass) c.args.tree c.args.rows.items c.requires.backs c.put_all.ensures.put in
    backs_may_put (knows c.put_all.new.pass) (c.args.tree ∷ []) b c.args.tree (omega arith)

pub returns-clause-none : goal.returns-clause-none
returns-clause-none c =
    let b = backs_one (knows c.args.pass.now) (knows c.put_all.new.pass) c.args.tree c.args.rows.items c.requires.backs c.put_all.ensures.put in
    backs_none_left (knows c.put.new.pass) (backs_put c.args.tree (knows c.put_all.new.pass) (knows c.put.new.pass) [] c.put.ensures.given b)
