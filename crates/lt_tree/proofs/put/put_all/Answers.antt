use Rattle.std.proofs.Common.{◌∙◌}
use Rattle.lt_rows.specs.Handles.{knows}
use Rattle.lt_tree.proofs.PuttingLaws.{last_may_be_put, puts_one}
use Rattle.lt_tree.proofs.put.put_all.Goals as goal

pub put-requires-clause-settled : goal.put-requires-clause-settled
put-requires-clause-settled c =
    last_may_be_put (knows c.args.pass.now) (knows c.loop-row.pass) c.args.rows.items c.loop-row.rows.items c.loop-row.invariant.2
    c.pop.new.self.items c.in-Some.row c.in-Some.ensures.items

pub loop-row-preserved : goal.loop-row-preserved
loop-row-preserved c =
    let i = c.loop-row.invariant in
    let o = c.put.ensures.of in (
      o.0,
      (o.1.0 ∙ i.1.0, o.1.1 ∙ i.1.1),
      puts_one (knows c.args.pass.now) (knows c.loop-row.pass) c.args.rows.items c.loop-row.rows.items i.2
          c.pop.new.self.items c.in-Some.row c.in-Some.ensures.items (knows c.put.new.pass) c.put.ensures.given,
    )
