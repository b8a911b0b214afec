-- One link, or two halves round the row in the middle.
use Rattle.std.proofs.Common.{◌/◌, length, rules, refl, sym, ◌∙◌}
use borrow.Author.Tests.{eqb-true}
use Rattle.lt_forest.proofs.LayoutLaws.{lays_one, lays_middle}
use Rattle.lt_forest.proofs.layout.+place.Goals as goal

pub returns-then-is_empty : goal.returns-then-is_empty
returns-then-is_empty t c = lays_one c.args.placed.now.items c.args.rows.now c.args.hangs.now c.requires.hangs_between
    (eqb-true (length c.args.rows.now) 0 (sym c.is_empty.ensures ∙ c.if-is_empty.true))

pub returns : goal.returns
returns t c = lays_middle _ _ _ _ _ _ (length c.args.rows.now / 2) _ c.args.rows.now c.args.hangs.now (search rules) refl
    c.in_ok-left.ensures c.in_ok-right.ensures c.in_ok-push.ensures.items
