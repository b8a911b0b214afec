use Rattle.std.proofs.Common.{rules, arith}
use Rattle.lt_deal.proofs.Splits.{parts_split}
use Rattle.lt_deal.proofs.steps.part.Goals as goal

pub split_seat-requires : goal.split_seat-requires
split_seat-requires g c = let sized = c.requires.of.0 in (search rules, omega arith, parts_split _ _ _ c.requires.more.0 c.requires.more.1)
