use Rattle.std.proofs.Common.{sym, ◌∙◌}
use Rattle.lt_rows.proofs.SideLaws.{after, not_after, ahead, not_ahead, both}
use Rattle.lt_rows.proofs.packed_range.PackedRange.side_of_all.Goals as goal

pub returns-then-is_gt : goal.returns-then-is_gt
returns-then-is_gt c =
    let s = c.args.self.now in
    after c.args.words.now s.right s.range.right c.requires s.packs_right c.cmp.result c.cmp.ensures
    (sym c.is_gt.ensures ∙ c.if-is_gt.true)

pub returns-then-is_lt : goal.returns-then-is_lt
returns-then-is_lt c =
    let s = c.args.self.now in
    ahead c.args.words.now s.left s.range.left c.requires s.packs_left c.cmp-else-is_gt.result c.cmp-else-is_gt.ensures
    (sym c.is_lt.ensures ∙ c.if-is_lt.true)

pub returns-else-is_lt : goal.returns-else-is_lt
returns-else-is_lt c =
    let s = c.args.self.now in
    both _ _
    (not_after c.args.words.now s.right s.range.right c.requires s.packs_right c.cmp.result c.cmp.ensures
    (sym c.is_gt.ensures ∙ c.if-is_gt.false))
    (not_ahead c.args.words.now s.left s.range.left c.requires s.packs_left c.cmp-else-is_gt.result c.cmp-else-is_gt.ensures
    (sym c.is_lt.ensures ∙ c.if-is_lt.false))
