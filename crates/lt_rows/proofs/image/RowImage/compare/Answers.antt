use Rattle.std.proofs.Common.{take, drop}
use Rattle.lt_ranges.specs.declared.key.Key.{Key}
use Rattle.lt_rows.specs.Nodes.{node_of, key_of}
use Rattle.lt_rows.specs.declared.image.RowImage.{RowImage}
use Rattle.lt_rows.proofs.SideLaws.{both_ahead, second_beside, first_meets}
use Rattle.lt_rows.proofs.image.RowImage.compare.Goals as goal

abbrev left : RowImage → Key
left row = key_of (take 8 (drop 1 row.words))

abbrev right : RowImage → Key
right row = key_of (take 8 (drop 9 row.words))

pub returns-in-Before-side : goal.returns-in-Before-side
unfolding node_of
returns-in-Before-side c =
    both_ahead (left c.args.self.now) (right c.args.self.now) c.args.asked.now.range c.in-Before.ensures c.in-Before-side.ensures

pub returns-in-Meets-side : goal.returns-in-Meets-side
unfolding node_of
returns-in-Meets-side c =
    second_beside (left c.args.self.now) (right c.args.self.now) c.args.asked.now.range c.side-in-Before.result
    c.args.asked.now.ordered c.in-Before.ensures c.in-Meets-side.is c.side-in-Before.ensures

pub returns-in-Meets : goal.returns-in-Meets
unfolding node_of
returns-in-Meets c = first_meets (left c.args.self.now) (right c.args.self.now) c.args.asked.now.range c.in-Meets.ensures

pub returns-in-Behind : goal.returns-in-Behind
unfolding node_of
returns-in-Behind c = c.in-Behind.ensures
