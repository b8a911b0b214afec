use Rattle.std.proofs.Common.{refl, rules, ap}
use Rattle.lt_seq.specs.declared.fault.Fault.TheVariants.{OutOfMemory}
use Rattle.lt_seq.specs.SeqPass.{plain}
use Rattle.lt_seq.proofs.YardLaws.{refused}
use Rattle.lt_seq.proofs.seq_calls.free.Goals as goal

pub returns-in_err-place-clause-answer : goal.returns-in_err-place-clause-answer
returns-in_err-place-clause-answer c =
    refused (plain c.args.pass.now.plan) c.args.pass.now.view c.args.pass.now.view _ _ _ c.in_err-place.field-0.0 (search rules) refl c.place.ensures.sound c.in_err-place.ensures.err

pub returns-in_err-free-clause-answer : goal.returns-in_err-free-clause-answer
returns-in_err-free-clause-answer c =
    refused (plain c.args.pass.now.plan) c.args.pass.now.view c.free.new.self.view _ _ _ OutOfMemory (search rules) (ap (λ p. p.view) c.in_err-free.ensures.err) c.place.ensures.sound tt
