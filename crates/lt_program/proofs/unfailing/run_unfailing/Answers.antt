use Rattle.std.proofs.Common.{arith, refl}
use Rattle.lt_program.proofs.unfailing.run_unfailing.Goals as goal

pub returns-clause-stores : goal.returns-clause-stores
returns-clause-stores g c = λ script asked spelled.
    ((c.run.ensures.complete (λ rose. omega (arith, rose)) (λ rose. omega (arith, rose))).stores asked).spelled c.args.source.now script refl spelled
