use Rattle.std.proofs.Common.{arith, refl}
use Rattle.lt_program.proofs.playing.play_cut.Goals as goal

pub returns-in_default-clause-only : goal.returns-in_default-clause-only
returns-in_default-clause-only g c = (4, omega arith, refl)
