use Rattle.std.proofs.Common.{rules, arith}
use Rattle.lt_deal.proofs.Gives.{gives_allowed}
use Rattle.lt_deal.proofs.steps.give.Goals as goal

pub load-requires : goal.load-requires
load-requires g c = let sized = c.requires.of.0 in (
  search rules,
  omega arith,
  gives_allowed _ _ _ _ c.requires.has.0 _ c.requires.has.1 c.requires.drew.0 c.requires.drew.1 c.requires.slot c.requires.drew.2 c.requires.out,
)
