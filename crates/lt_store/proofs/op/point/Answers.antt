use Rattle.std.proofs.Common.{refl}
use Rattle.lt_ranges.proofs.KeyLaws.{le_itself}
use Rattle.lt_store.proofs.op.point.Goals as goal

pub unreachable-requires : goal.unreachable-requires
unreachable-requires c = c.in-Err.ensures.refused.0 refl (le_itself c.args.key.now)
