use Rattle.std.proofs.Common.{sym, ap, rules}
use Rattle.lt_seq.specs.declared.event.Deed.TheVariants.{Ask}
use Rattle.lt_seq.specs.declared.event.Reply.TheVariants.{Granted}
use Rattle.lt_rows.specs.declared.row_plan.RowPlan.{RowPlan}
use Rattle.lt_manager.specs.Views.{view_of}
use Rattle.lt_manager.proofs.JoinedLaws.{joins_then_ask, joins_stop}
use Rattle.lt_manager.proofs.manager_pass.ManagerPass.join_and_ask.Goals as goal

pub returns-in_err-join_all-clause-answer : goal.returns-in_err-join_all-clause-answer
returns-in_err-join_all-clause-answer c =
    let deed = Ask c.args.tree c.args.range.now Granted in
    let trees = sym (ap (λ (k : RowPlan). k.trees) c.requires.of.1) in
    joins_stop c.args.self.now (view_of c.join_all.new.self) c.args.txn c.args.bar c.args.table.now.rows.plan.trees deed trees
    c.requires.full c.in_err-join_all.field-0.0 c.from_residual.result (search rules) c.in_err-join_all.ensures.err

pub returns-clause-answer : goal.returns-clause-answer
returns-clause-answer c =
    let deed = Ask c.args.tree c.args.range.now Granted in
    let trees = sym (ap (λ (k : RowPlan). k.trees) c.requires.of.1) in
    joins_then_ask c.args.self.now (view_of c.ask_below.new.self) c.args.txn c.args.bar c.args.table.now.rows.plan.trees deed trees
    c.requires.full c.join_all.new.self c.ask_below.result c.join_all.ensures.of.1.0 c.in_ok-join_all.ensures.ok c.ask_below.ensures.answer
