use Rattle.std.proofs.Common.{rules, arith}
use Rattle.lt_deal.proofs.Stocks.{stocks_allowed}
use Rattle.lt_deal.proofs.steps.stock.Goals as goal

pub load-requires : goal.load-requires
load-requires g c = let sized = c.requires.of.0 in (
  search rules,
  omega arith,
  stocks_allowed _ _ _ c.requires.has.0 _ c.requires.has.1 c.requires.fresh c.requires.filling c.requires.slot,
)
