use Rattle.std.proofs.Common.{arith, ◌≤◌}
use Rattle.lt_rows.specs.declared.view.View.{View}
use Rattle.lt_rows.specs.Handles.{knows}
use Rattle.lt_locktree.specs.declared.asking.Asking.{Asking}
use Rattle.lt_locktree.specs.Calls.{sees}
use Rattle.lt_locktree.proofs.JoinCalls.{joins_if_ok, leaves_if_err}
use Rattle.lt_locktree.proofs.locktree.Locktree.escalate.Goals as goal

pub returns-clause-made : goal.returns-clause-made
returns-clause-made c =
    let v : View = sees c.args.pass.now in
    let a : Asking = record { pass = c.number.result; txn = c.args.txn; tree = c.args.tree; range = c.whole.result } in
    let number = c.number.ensures in
    let below : v.mark ≤ v.plan.passes = omega arith in
    joins_if_ok c.replace_with.result v (knows c.replace_with.new.dest) a number.0 below c.replace_with.ensures.1.0

pub returns-clause-left : goal.returns-clause-left
returns-clause-left c =
    let answers = c.replace_with.ensures in
    leaves_if_err c.replace_with.result (sees c.args.pass.now) (knows c.replace_with.new.dest) answers.1.1.0 answers.1.1.1
