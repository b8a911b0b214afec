use Rattle.std.proofs.Common.{rules, arith}
use Rattle.lt_deal.proofs.Stocks.{opens_allowed}
use Rattle.lt_deal.proofs.steps.open.Goals as goal

pub load-requires : goal.load-requires
load-requires g c = let sized = c.requires.of.0 in (
  search rules,
  omega arith,
  opens_allowed _ _ _ _ c.requires.bare.0 c.requires.fresh c.requires.bare.1 c.requires.slot,
)
