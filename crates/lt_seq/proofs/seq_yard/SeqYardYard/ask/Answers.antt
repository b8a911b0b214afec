use Rattle.std.proofs.Common.{◌≡◌, [], rules, refl, ap, subst, arith}
use Rattle.lt_seq.specs.SeqPass.{plain}
use Rattle.lt_seq.specs.declared.event.Deed.TheVariants.{Ask}
use Rattle.lt_seq.specs.declared.event.Reply.TheVariants.{Granted}
use Rattle.lt_seq.specs.Yard.{bar_for, AskAnswered}
use Rattle.lt_seq.proofs.YardLaws.{ask_answers_of}
use Rattle.lt_seq.proofs.seq_yard.SeqYardYard.ask.Goals as goal

pub returns-then-look-bar-clause-answer : goal.returns-then-look-bar-clause-answer
returns-then-look-bar-clause-answer c =
    let plan : c.args.pass.now.plan ≡ c.args.self.now = ap (λ o. o.setting.plan) c.requires.of in
    ask_answers_of (plain c.args.self.now) _ c.args.pass.now.view c.args.pass.now.view c.ask_below.new.pass.view c.args.txn _ c.ask_below.result [] (omega arith) refl
    (subst (λ plan. AskAnswered (plain plan) (bar_for (plain c.args.self.now) c.args.big) [] c.args.pass.now.view c.ask_below.new.pass.view c.args.txn (Ask c.args.tree c.args.range.now Granted) c.ask_below.result) plan
    (subst (λ bar. AskAnswered (plain c.args.pass.now.plan) bar [] c.args.pass.now.view c.ask_below.new.pass.view c.args.txn (Ask c.args.tree c.args.range.now Granted) c.ask_below.result) (search rules)
    (c.ask_below.ensures.answer [] tt (λ full. absurd (omega (arith, full, c.if-look-bar.true, ap (λ look. look.used) c.look-look.ensures.seen))))))

pub join_and_ask-requires-clause-all : goal.join_and_ask-requires-clause-all
join_and_ask-requires-clause-all c = c.look-look.ensures.all c.requires.right
