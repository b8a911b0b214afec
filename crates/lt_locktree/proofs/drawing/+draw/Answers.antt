-- One link, or two halves round the row in the middle.
use Rattle.std.proofs.Common.{◌/◌, length, rules, sym, ◌∙◌}
use borrow.Author.Tests.{eqb-true}
use Rattle.lt_locktree.proofs.DrawingLaws.{draws_none, draws_middle}
use Rattle.lt_locktree.proofs.drawing.+draw.Goals as goal

pub returns-then-is_empty : goal.returns-then-is_empty
returns-then-is_empty t c = draws_none c.args.images.now.items c.args.rows.now c.args.hangs.now c.requires.hangs_between
    (eqb-true (length c.args.rows.now) 0 (sym c.is_empty.ensures ∙ c.if-is_empty.true))

pub returns : goal.returns
returns t c = draws_middle _ _ _ _ _ _ (length c.args.rows.now / 2) c.index-rows-middle.result c.image_of.result c.args.rows.now c.args.hangs.now (search rules)
    c.in_ok-left.ensures c.in_ok-right.ensures c.image_of.ensures (search rules) c.in_ok-push.ensures.items
