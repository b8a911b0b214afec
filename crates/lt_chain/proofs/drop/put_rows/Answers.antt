use Rattle.std.proofs.Common.{arith, ◌-◌, ◌∷◌, ◌∙◌, take}
use Rattle.std.specs.Prelude.{slice_index_or}
use Rattle.lt_forest.proofs.SameRows.{one_here}
use Rattle.lt_rows.specs.Handles.{knows}
use Rattle.lt_tree.proofs.ViewLaws.{held_on, held_put}
use Rattle.lt_chain.proofs.HoldingLaws.{backs_may_put, backs_put, backs_none_left}
use Rattle.lt_chain.proofs.DropLaws.{last_first, none_taken}
use Rattle.lt_chain.proofs.drop.put_rows.Goals as goal

pub put-requires-clause-settled : goal.put-requires-clause-settled
put-requires-clause-settled c =
    let i = c.loop-at.invariant in
    let b = last_first (knows c.loop-at.pass) c.args.rows.now c.loop-at.at c.loop-at-test.true i.3 i.4 in
    let one = one_here (slice_index_or c.args.rows.now (c.loop-at.at - 1) 0) in
    backs_may_put (knows c.loop-at.pass) (slice_index_or c.args.rows.now (c.loop-at.at - 1) 0 ∷ take (c.loop-at.at - 1) c.args.rows.now) b
    (slice_index_or c.args.rows.now (c.loop-at.at - 1) 0) (omega arith)

pub loop-at-preserved : goal.loop-at-preserved
loop-at-preserved c =
    let i = c.loop-at.invariant in
    let o = c.put.ensures.of in
    let b = last_first (knows c.loop-at.pass) c.args.rows.now c.loop-at.at c.loop-at-test.true i.3 i.4 in (
      o.0,
      (o.1.0 ∙ i.1.0, o.1.1 ∙ i.1.1),
      held_on (knows c.args.pass.now) (knows c.loop-at.pass) (knows c.put.new.pass) i.2
          (held_put (knows c.loop-at.pass) (knows c.put.new.pass) (slice_index_or c.args.rows.now (c.loop-at.at - 1) 0) c.put.ensures.given),
      (let le = i.3 in omega arith),
      backs_put (slice_index_or c.args.rows.now (c.loop-at.at - 1) 0) (knows c.loop-at.pass) (knows c.put.new.pass) (take (c.loop-at.at - 1) c.args.rows.now) c.put.ensures.given b,
    )

pub returns-clause-none : goal.returns-clause-none
returns-clause-none c =
    let i = c.loop-at.invariant in
    backs_none_left (knows c.loop-at.pass) (none_taken (knows c.loop-at.pass) c.args.rows.now c.loop-at.at c.loop-at-test.false i.4)
