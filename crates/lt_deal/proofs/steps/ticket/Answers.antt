use Rattle.std.proofs.Common.{rules, arith}
use Rattle.lt_deal.proofs.Draws.{draws_allowed}
use Rattle.lt_deal.proofs.steps.ticket.Goals as goal

pub fetch_add-requires : goal.fetch_add-requires
fetch_add-requires g c = let sized = c.requires.of.0 in (
  search rules,
  omega arith,
  draws_allowed _ _ _ _ c.requires.bare.0 c.requires.bare.1 c.requires.bare.2 c.requires.few,
)
