use Rattle.std.proofs.Common.{sym, subst}
use Rattle.lt_rows.specs.declared.row_plan.RowPlan.{RowPlan}
use Rattle.lt_rows.specs.declared.view.View.{View}
use Rattle.lt_rows.specs.Rule.{Stood}
use Rattle.lt_rows.specs.Woods.{woods}
use Rattle.lt_rows.specs.Handles.{knows}
use Rattle.lt_tree.proofs.SettlingLaws.{still_all, settles_rows}
use Rattle.lt_tree.proofs.RangeLaws.{ranges_settled}
use Rattle.lt_tree.proofs.settling.settle_rows.Goals as goal

pub write_all_links-requires-clause-held : goal.write_all_links-requires-clause-held
write_all_links-requires-clause-held c =
    still_all (knows c.args.pass.now) (knows c.settle.new.pass) c.args.plan.now c.settle.result c.settle.ensures.settled c.requires.held

pub write_all_links-requires-clause-ranges : goal.write_all_links-requires-clause-ranges
write_all_links-requires-clause-ranges c =
    ranges_settled (knows c.args.pass.now) (knows c.settle.new.pass) c.args.plan.now c.settle.result c.settle.ensures.settled c.args.plan.now
    c.requires.held c.requires.ranges

pub returns-clause-settles : goal.returns-clause-settles
returns-clause-settles c =
    let u : View = knows c.settle.new.pass in
    settles_rows (knows c.args.pass.now) u (knows c.write_all_links.new.pass) c.args.plan.now c.settle.result c.settle.ensures.settled
    (subst (λ (k : RowPlan). Stood (woods k) u u.front) (sym c.settle.ensures.of.0.1) c.settle.ensures.stood)
    c.write_all_links.ensures.written c.requires.held c.requires.gathers c.requires.once
