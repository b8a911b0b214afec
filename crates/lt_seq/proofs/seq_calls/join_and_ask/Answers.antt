use Rattle.std.proofs.Common.{◌≡◌, Err, ◌∙◌, length, sym, ap, subst, rules, arith}
use Rattle.lt_seq.specs.declared.event.Deed.TheVariants.{Ask}
use Rattle.lt_seq.specs.declared.event.Reply.TheVariants.{Granted}
use Rattle.lt_seq.specs.SeqPass.{plain}
use Rattle.lt_seq.specs.SeqCalls.{JoinsStop}
use Rattle.lt_seq.specs.Yard.{AskAnswers, AskAnswered}
use Rattle.lt_seq.proofs.YardLaws.{all_joined, ask_answers_of, asks_midway}
use Rattle.lt_seq.proofs.seq_calls.join_and_ask.Goals as goal

pub returns-in_err-join_all-clause-answer : goal.returns-in_err-join_all-clause-answer
returns-in_err-join_all-clause-answer c =
    let same : c.from_residual.result ≡ Err c.in_err-join_all.field-0.0 = search rules in
    let stop = subst (λ trees. JoinsStop (plain c.args.pass.now.plan) c.args.bar c.args.pass.now.view c.join_all.new.pass.view c.args.txn trees c.in_err-join_all.field-0.0) c.requires.trees c.in_err-join_all.ensures.err in
    subst (AskAnswers (plain c.args.pass.now.plan) c.args.bar c.args.pass.now.view c.join_all.new.pass.view c.args.txn (Ask c.args.tree c.args.range.now Granted)) (sym same)
    (asks_midway (plain c.args.pass.now.plan) c.args.bar c.args.pass.now.view c.join_all.new.pass.view c.args.txn (Ask c.args.tree c.args.range.now Granted) c.in_err-join_all.field-0.0 stop)

pub returns-clause-answer : goal.returns-clause-answer
returns-clause-answer c =
    let has = c.in_ok-join_all.ensures.ok in
    let all : length has.joins ≡ c.args.pass.now.plan.trees = has.count ∙ c.requires.trees in
    let all_now : length has.joins ≡ c.join_all.new.pass.plan.trees = all ∙ sym (ap (λ plan. plan.trees) c.join_all.ensures.plan) in
    ask_answers_of (plain c.args.pass.now.plan) c.args.bar c.args.pass.now.view c.join_all.new.pass.view c.ask_below.new.pass.view c.args.txn _ c.ask_below.result has.joins (omega (arith, all)) has.chain
    (subst (λ plan. AskAnswered (plain plan) c.args.bar has.joins c.join_all.new.pass.view c.ask_below.new.pass.view c.args.txn (Ask c.args.tree c.args.range.now Granted) c.ask_below.result) c.join_all.ensures.plan
    (c.ask_below.ensures.answer has.joins (all_joined (plain c.join_all.new.pass.plan) has.joins all_now) (λ full. all_now)))
