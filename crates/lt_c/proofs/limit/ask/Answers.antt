use Rattle.std.proofs.Common.{rules, ◌≡◌, ℕ, ap, sym, subst, arith}
use Rattle.lt_rows.specs.declared.row_plan.RowPlan.{RowPlan}
use Rattle.lt_rows.specs.declared.view.View.{View}
use Rattle.lt_locktree.specs.Calls.{sees}
use Rattle.lt_c.specs.Limit.{AreJoined, AskAnswered}
use Rattle.lt_c.proofs.limit.ask.Goals as goal

pub returns-clause-answer : goal.returns-clause-answer
returns-clause-answer c =
    let v : View = sees c.args.pass.now in
    let behind : View = sees c.loop-next.pass in
    let w : View = sees c.ask_at_last.new.pass in
    let joins : ℕ = c.plan-2.result.now.trees in
    let trees : ℕ = c.args.table.now.rows.plan.trees in
    let joins_are : joins ≡ trees = ap (λ (k : RowPlan). k.trees) c.plan-2.ensures in
    let own : v.plan.trees ≡ trees = ap (λ (k : RowPlan). k.trees) c.requires.of.1 in
    let all : c.loop-next.next ≡ joins = search rules in
    record {
      behind = behind;
      most = omega (arith, joins_are, own);
      are_joined = subst (AreJoined v behind c.args.txn) all c.loop-next.invariant.joined;
      answer =
          subst (λ (n : ℕ). AskAnswered behind w n c.args.txn c.args.tree c.args.range.now c.ask_at_last.result) (sym joins_are)
          c.ask_at_last.ensures.answer;
    }
