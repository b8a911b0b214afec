use Rattle.std.proofs.Common.{◌<◌, sym, subst, ◌∙◌}
use Rattle.lt_rows.specs.declared.row_plan.RowPlan.{RowPlan}
use Rattle.lt_rows.specs.Handles.{knows}
use Rattle.lt_tree.proofs.ViewLaws.{rows_set}
use Rattle.lt_tree.proofs.SeenLaws.{seen_met, seen_rows, seen_on}
use Rattle.lt_tree.proofs.DeeperLaws.{pair_met, holds_three, deeper_free, met_free}
use Rattle.lt_tree.proofs.turning.turn_below.Goals as goal

pub settle_measured-stays-requires-clause-pair : goal.settle_measured-stays-requires-clause-pair
settle_measured-stays-requires-clause-pair c =
    pair_met (knows c.args.pass.now) (knows c.take_deeper.new.pass) c.args.tree c.args.asked.now c.args.here.now c.args.row.now
    c.in-None.ensures.taken c.requires.pair

pub turn_three-requires-clause-three : goal.turn_three-requires-clause-three
turn_three-requires-clause-three c =
    let lt = subst (λ (p : RowPlan). c.args.tree < p.trees) (sym c.requires.of.1) c.requires.tree in
    holds_three (knows c.args.pass.now) (knows c.take_deeper.new.pass) c.args.tree c.args.asked.now c.args.here.now c.args.row.now c.requires.pair lt
    c.in-Some.deeper.side c.in-Some.deeper.row c.in-Some.ensures.taken

pub returns-in-None-clause-sees : goal.returns-in-None-clause-sees
returns-in-None-clause-sees c =
    seen_on (knows c.args.pass.now) (knows c.take_deeper.new.pass) (knows c.settle_measured-stays.new.pass)
    (seen_met (knows c.args.pass.now) (knows c.take_deeper.new.pass) c.in-None.ensures.taken) c.settle_measured-stays.ensures.sees

pub returns-in-None-clause-free : goal.returns-in-None-clause-free
returns-in-None-clause-free c =
    c.settle_measured-stays.ensures.free ∙ met_free (knows c.args.pass.now) (knows c.take_deeper.new.pass) c.in-None.ensures.taken

pub returns-in-Some-clause-sees : goal.returns-in-Some-clause-sees
returns-in-Some-clause-sees c =
    seen_on (knows c.args.pass.now) (knows c.take_deeper.new.pass) (knows c.turn_three.new.pass)
    (seen_rows (knows c.args.pass.now) (knows c.take_deeper.new.pass)
    (rows_set (knows c.args.pass.now) (knows c.take_deeper.new.pass) _ c.in-Some.ensures.taken.tries.3)) c.turn_three.ensures.sees

pub returns-in-Some-clause-free : goal.returns-in-Some-clause-free
returns-in-Some-clause-free c =
    let lt = subst (λ (p : RowPlan). c.args.tree < p.trees) (sym c.requires.of.1) c.requires.tree in
    c.turn_three.ensures.free
    ∙ deeper_free (knows c.args.pass.now) (knows c.take_deeper.new.pass) c.args.tree c.args.asked.now c.args.here.now c.args.row.now c.requires.pair lt
    c.in-Some.deeper.side c.in-Some.deeper.row c.in-Some.ensures.taken
