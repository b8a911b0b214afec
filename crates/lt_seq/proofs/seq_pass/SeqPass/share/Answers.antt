use Rattle.std.proofs.Common.{arith, rules, ap}
use Rattle.lt_seq.proofs.seq_pass.SeqPass.share.Goals as goal

pub returns-clause-note : goal.returns-clause-note
returns-clause-note c = record { rights_are = search rules; front = (c.args.self.now.view.front, search rules); whole = λ two. absurd (omega (arith, two, c.self.invariant.passes, ap (λ p. p.plan.passes) c.self.view_is)) }
