use Rattle.std.proofs.Common.{◌<◌, sym, subst, [], ◌∷◌, ◌∙◌}
use Rattle.lt_rows.specs.declared.row_plan.RowPlan.{RowPlan}
use Rattle.lt_rows.specs.Views.{rows_of}
use Rattle.lt_rows.specs.Lawful.{IsSettle}
use Rattle.lt_rows.specs.Handles.{knows}
use Rattle.lt_tree.proofs.DeeperLaws.{gap_in, links_small}
use Rattle.lt_tree.proofs.TurningLaws.{turn_settles}
use Rattle.lt_tree.proofs.TurnedLaws.{is_turn, turn_once, turn_held, turned_pair, turned_free}
use Rattle.lt_tree.proofs.ShowsLaws.{stays_turned}
use Rattle.lt_tree.proofs.RangeLaws.{keeps_range, range_on}
use Rattle.lt_tree.proofs.turning.turn_three.Goals as goal

pub turn-requires-clause-links : goal.turn-requires-clause-links
turn-requires-clause-links c =
    let v = knows c.args.pass.now in
    let h = c.requires.three in
    let few : rows_of (knows c.args.pass.now).plan < 4294967296 =
    subst (λ (p : RowPlan). rows_of p < 4294967296) (sym c.requires.of.1) c.args.table.now.sized.0.3 in (
      links_small v h.teaches c.args.tree c.args.row.now.row (gap_in v c.args.tree c.args.asked.now c.args.row.now.row h.gap) c.args.row.now.words h.child_has few,
      links_small v h.teaches c.args.tree c.args.deeper.now.row.row h.low_gap c.args.deeper.now.row.words h.low_has few,
    )

pub settle_rows-requires-clause-held : goal.settle_rows-requires-clause-held
settle_rows-requires-clause-held c =
    let lt = subst (λ (p : RowPlan). c.args.tree < p.trees) (sym c.requires.of.1) c.requires.tree in
    let t = is_turn (knows c.args.pass.now) c.args.tree c.args.asked.now c.args.here.now c.args.row.now c.args.deeper.now.row c.args.measured
    c.relink-stays.result c.turn.result.upper c.turn.result.lower c.args.deeper.now.side c.side_to-side.result c.from.result c.requires.three lt
    c.requires.measured c.from.ensures c.side_to-side.ensures c.relink-stays.ensures.row c.relink-stays.ensures.node c.relink-stays.ensures.mode
    c.turn.ensures.rows c.turn.ensures.upper c.turn.ensures.lower in
    turn_held (knows c.args.pass.now) (knows c.args.pass.now) c.args.tree c.args.asked.now c.args.here.now c.args.row.now c.args.deeper.now.row c.relink-stays.result
    c.turn.result.upper c.turn.result.lower c.args.deeper.now.side c.side_to-side.result t

pub settle_rows-requires-clause-ranges : goal.settle_rows-requires-clause-ranges
settle_rows-requires-clause-ranges c =
    let v = knows c.args.pass.now in
    let h = c.requires.three in (
      keeps_range v c.relink-stays.result c.args.here.now.row c.args.here.now.words h.has (c.relink-stays.ensures.row ∙ c.requires.measured.0)
          (range_on c.relink-stays.result.words c.args.measured.words c.args.here.now.words c.relink-stays.ensures.range c.requires.range),
      (
        keeps_range v c.turn.result.upper c.args.deeper.now.row.row c.args.deeper.now.row.words h.low_has c.turn.ensures.rows.0 c.turn.ensures.ranges.0,
        (keeps_range v c.turn.result.lower c.args.row.now.row c.args.row.now.words h.child_has c.turn.ensures.rows.1 c.turn.ensures.ranges.1, tt),
      ),
    )

pub settle_rows-requires-clause-lawful : goal.settle_rows-requires-clause-lawful
settle_rows-requires-clause-lawful c =
    let lt = subst (λ (p : RowPlan). c.args.tree < p.trees) (sym c.requires.of.1) c.requires.tree in
    let t = is_turn (knows c.args.pass.now) c.args.tree c.args.asked.now c.args.here.now c.args.row.now c.args.deeper.now.row c.args.measured
    c.relink-stays.result c.turn.result.upper c.turn.result.lower c.args.deeper.now.side c.side_to-side.result c.from.result c.requires.three lt
    c.requires.measured c.from.ensures c.side_to-side.ensures c.relink-stays.ensures.row c.relink-stays.ensures.node c.relink-stays.ensures.mode
    c.turn.ensures.rows c.turn.ensures.upper c.turn.ensures.lower in
    subst (λ (p : RowPlan). IsSettle p (knows c.args.pass.now) (c.relink-stays.result ∷ c.turn.result.upper ∷ c.turn.result.lower ∷ [])) c.requires.of.1
    (turn_settles (knows c.args.pass.now) c.args.tree c.args.asked.now c.args.here.now c.args.row.now c.args.deeper.now.row c.relink-stays.result
    c.turn.result.upper c.turn.result.lower c.args.deeper.now.side c.side_to-side.result t)

pub settle_rows-requires-clause-once : goal.settle_rows-requires-clause-once
settle_rows-requires-clause-once c =
    let lt = subst (λ (p : RowPlan). c.args.tree < p.trees) (sym c.requires.of.1) c.requires.tree in
    let t = is_turn (knows c.args.pass.now) c.args.tree c.args.asked.now c.args.here.now c.args.row.now c.args.deeper.now.row c.args.measured
    c.relink-stays.result c.turn.result.upper c.turn.result.lower c.args.deeper.now.side c.side_to-side.result c.from.result c.requires.three lt
    c.requires.measured c.from.ensures c.side_to-side.ensures c.relink-stays.ensures.row c.relink-stays.ensures.node c.relink-stays.ensures.mode
    c.turn.ensures.rows c.turn.ensures.upper c.turn.ensures.lower in
    turn_once (knows c.args.pass.now) (knows c.args.pass.now) c.args.tree c.args.asked.now c.args.here.now c.args.row.now c.args.deeper.now.row c.relink-stays.result
    c.turn.result.upper c.turn.result.lower c.args.deeper.now.side c.side_to-side.result t

pub returns-clause-pair : goal.returns-clause-pair
returns-clause-pair c =
    let lt = subst (λ (p : RowPlan). c.args.tree < p.trees) (sym c.requires.of.1) c.requires.tree in
    let t = is_turn (knows c.args.pass.now) c.args.tree c.args.asked.now c.args.here.now c.args.row.now c.args.deeper.now.row c.args.measured
    c.relink-stays.result c.turn.result.upper c.turn.result.lower c.args.deeper.now.side c.side_to-side.result c.from.result c.requires.three lt
    c.requires.measured c.from.ensures c.side_to-side.ensures c.relink-stays.ensures.row c.relink-stays.ensures.node c.relink-stays.ensures.mode
    c.turn.ensures.rows c.turn.ensures.upper c.turn.ensures.lower in
    turned_pair (knows c.args.pass.now) (knows c.settle_rows.new.pass) c.args.tree c.args.asked.now c.args.here.now c.args.row.now c.args.deeper.now.row c.relink-stays.result
    c.turn.result.upper c.turn.result.lower c.args.deeper.now.side c.side_to-side.result t c.settle_rows.ensures.settles (knows c.put.new.pass) c.put.ensures.given

pub returns-clause-stays : goal.returns-clause-stays
returns-clause-stays c =
    let lt = subst (λ (p : RowPlan). c.args.tree < p.trees) (sym c.requires.of.1) c.requires.tree in
    let t = is_turn (knows c.args.pass.now) c.args.tree c.args.asked.now c.args.here.now c.args.row.now c.args.deeper.now.row c.args.measured
    c.relink-stays.result c.turn.result.upper c.turn.result.lower c.args.deeper.now.side c.side_to-side.result c.from.result c.requires.three lt
    c.requires.measured c.from.ensures c.side_to-side.ensures c.relink-stays.ensures.row c.relink-stays.ensures.node c.relink-stays.ensures.mode
    c.turn.ensures.rows c.turn.ensures.upper c.turn.ensures.lower in
    stays_turned (knows c.args.pass.now) c.args.tree c.args.asked.now c.args.here.now c.args.row.now c.args.deeper.now.row c.relink-stays.result
    c.turn.result.upper c.turn.result.lower c.args.deeper.now.side c.side_to-side.result t

pub returns-clause-free : goal.returns-clause-free
returns-clause-free c =
    let lt = subst (λ (p : RowPlan). c.args.tree < p.trees) (sym c.requires.of.1) c.requires.tree in
    let t = is_turn (knows c.args.pass.now) c.args.tree c.args.asked.now c.args.here.now c.args.row.now c.args.deeper.now.row c.args.measured
    c.relink-stays.result c.turn.result.upper c.turn.result.lower c.args.deeper.now.side c.side_to-side.result c.from.result c.requires.three lt
    c.requires.measured c.from.ensures c.side_to-side.ensures c.relink-stays.ensures.row c.relink-stays.ensures.node c.relink-stays.ensures.mode
    c.turn.ensures.rows c.turn.ensures.upper c.turn.ensures.lower in
    turned_free (knows c.args.pass.now) (knows c.settle_rows.new.pass) c.args.tree c.args.asked.now c.args.here.now c.args.row.now c.args.deeper.now.row c.relink-stays.result
    c.turn.result.upper c.turn.result.lower c.args.deeper.now.side c.side_to-side.result t c.settle_rows.ensures.settles (knows c.put.new.pass) c.put.ensures.given
