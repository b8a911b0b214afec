use Rattle.std.proofs.Common.{◌<◌, refl, rules, ap, arith}
use Rattle.lt_seq.specs.declared.fault.Fault.TheVariants.{OutOfMemory}
use Rattle.lt_seq.specs.SeqPass.{plain}
use Rattle.lt_seq.specs.Table.{used}
use Rattle.lt_seq.specs.History.{after}
use Rattle.lt_seq.proofs.YardLaws.{ask_refused, asked_at_once}
use Rattle.lt_seq.proofs.seq_calls.ask_below.Goals as goal

pub returns-in_err-place-clause-answer : goal.returns-in_err-place-clause-answer
returns-in_err-place-clause-answer c = λ joins whole all.
    ask_refused (plain c.args.pass.now.plan) _ joins c.args.pass.now.view c.args.pass.now.view _ _ _ c.in_err-place.field-0.0 (search rules) refl c.place.ensures.sound c.in_err-place.ensures.err

pub returns-in_err-ask-clause-answer : goal.returns-in_err-ask-clause-answer
returns-in_err-ask-clause-answer c = λ joins whole all.
    ask_refused (plain c.args.pass.now.plan) _ joins c.args.pass.now.view c.ask.new.self.view _ _ _ OutOfMemory (search rules) (ap (λ p. p.view) c.in_err-ask.ensures.err) c.place.ensures.sound tt

pub returns-clause-answer : goal.returns-clause-answer
returns-clause-answer c = λ joins whole all.
    let below : used (after (plain c.args.pass.now.plan) c.args.pass.now.view.front) < c.args.bar = omega (arith, ap (λ look. look.used) c.look-look.ensures.seen, c.if-look-bar.false) in
    asked_at_once (plain c.args.pass.now.plan) _ joins c.args.pass.now.view c.ask.new.self.view _ _ _ whole c.in_ok-ask.ensures.ok (search rules) c.in_ok-place.ensures.room below
