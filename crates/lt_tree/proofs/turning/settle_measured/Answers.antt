use Rattle.std.proofs.Common.{◌<◌, ℕ, sym, subst, ap, ◌≢◌, ◌∙◌, [], ◌∷◌}
use Rattle.std.specs.Prelude.{Option, IfSome}
use Rattle.lt_rows.specs.declared.image.RowImage.{RowImage}
use Rattle.lt_rows.specs.Nodes.{SameRange}
use Rattle.lt_rows.specs.Views.{row_at}
use Rattle.lt_tree.specs.Turnings.{IsMeasured}
use Rattle.lt_tree.proofs.SettledGaps.{free_settled}
use Rattle.lt_tree.proofs.TurnedLaws.{measured_pair}
use Rattle.lt_rows.specs.declared.row_plan.RowPlan.{RowPlan}
use Rattle.lt_rows.specs.Lawful.{IsSettle}
use Rattle.lt_rows.specs.Handles.{knows}
use Rattle.lt_rows.proofs.Planned.{held_row}
use Rattle.lt_tree.proofs.SeenLaws.{seen_same}
use Rattle.lt_tree.proofs.EstimateLaws.{measured_settles}
use Rattle.lt_tree.proofs.ShowsLaws.{stays_same, stays_measured}
use Rattle.lt_tree.proofs.RangeLaws.{keeps_range}
use Rattle.lt_tree.proofs.turning.settle_measured.Goals as goal

pub settle_rows-requires-clause-held : goal.settle_rows-requires-clause-held
settle_rows-requires-clause-held c =
    let m = subst (λ (x : Option RowImage). IfSome x (λ now. IsMeasured c.args.tree c.args.here.now now × (c.args.here.now.row ≢ c.args.tree))) c.in-Some.is c.requires.measured in
    let h = held_row (knows c.args.pass.now) c.args.here.now.row c.requires.pair.has.0 in
    ((h.0, ap (λ (r : ℕ). row_at (knows c.args.pass.now) r) m.0.0 ∙ h.1), tt)

pub settle_rows-requires-clause-ranges : goal.settle_rows-requires-clause-ranges
settle_rows-requires-clause-ranges c =
    let m = subst (λ (x : Option RowImage). IfSome x (λ now. IsMeasured c.args.tree c.args.here.now now × (c.args.here.now.row ≢ c.args.tree))) c.in-Some.is c.requires.measured in
    let r = subst (λ (x : Option RowImage). IfSome x (λ now. SameRange now.words c.args.here.now.words)) c.in-Some.is c.requires.range in
    (keeps_range (knows c.args.pass.now) c.in-Some.stays c.args.here.now.row c.args.here.now.words c.requires.pair.has m.0.0 r, tt)

pub settle_rows-requires-clause-lawful : goal.settle_rows-requires-clause-lawful
settle_rows-requires-clause-lawful c =
    let m = subst (λ (x : Option RowImage). IfSome x (λ now. IsMeasured c.args.tree c.args.here.now now × (c.args.here.now.row ≢ c.args.tree))) c.in-Some.is c.requires.measured in
    let lt = subst (λ (p : RowPlan). c.args.tree < p.trees) (sym c.requires.of.1) c.requires.tree in
    subst (λ (p : RowPlan). IsSettle p (knows c.args.pass.now) (c.in-Some.stays ∷ [])) c.requires.of.1
    (measured_settles (knows c.args.pass.now) c.args.tree c.args.asked.now c.args.here.now c.args.row.now c.in-Some.stays c.requires.pair lt m.0 m.1)

pub returns-in-None-clause-sees : goal.returns-in-None-clause-sees
returns-in-None-clause-sees c = seen_same (knows c.args.pass.now)

pub returns-in-None-clause-stays : goal.returns-in-None-clause-stays
returns-in-None-clause-stays c = stays_same c.args.tree c.args.here.now

pub returns-in-Some-clause-stays : goal.returns-in-Some-clause-stays
returns-in-Some-clause-stays c =
    let m = subst (λ (x : Option RowImage). IfSome x (λ now. IsMeasured c.args.tree c.args.here.now now × (c.args.here.now.row ≢ c.args.tree))) c.in-Some.is c.requires.measured in
    stays_measured c.args.tree c.args.here.now c.in-Some.stays m.0

pub returns-in-Some-clause-pair : goal.returns-in-Some-clause-pair
returns-in-Some-clause-pair c =
    let m = subst (λ (x : Option RowImage). IfSome x (λ now. IsMeasured c.args.tree c.args.here.now now × (c.args.here.now.row ≢ c.args.tree))) c.in-Some.is c.requires.measured in
    measured_pair (knows c.args.pass.now) (knows c.settle_rows.new.pass) c.args.tree c.args.asked.now c.args.here.now c.args.row.now c.in-Some.stays
    c.requires.pair m.0 c.settle_rows.ensures.settles

pub returns-in-Some-clause-free : goal.returns-in-Some-clause-free
returns-in-Some-clause-free c =
    free_settled (knows c.args.pass.now) (knows c.settle_rows.new.pass) (c.in-Some.stays ∷ []) c.settle_rows.ensures.settles
