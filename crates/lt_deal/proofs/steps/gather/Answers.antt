use Rattle.std.proofs.Common.{rules, arith}
use Rattle.lt_deal.proofs.Splits.{parts_joined}
use Rattle.lt_deal.proofs.steps.gather.Goals as goal

pub join_seat-requires : goal.join_seat-requires
join_seat-requires g c = let sized = c.requires.of.0 in (search rules, search rules, search rules, omega arith, parts_joined _ _ _ _ _ c.requires.some.0 c.requires.some.1 c.requires.some.2)
