use Rattle.std.proofs.Common.{◌≡◌, ◌<◌, ℕ, Result, Err, IfErr, subst, rules, sym, ap, arith}
use Rattle.lt_seq.specs.declared.fault.Fault.{Fault}
use Rattle.lt_rows.specs.declared.row_plan.RowPlan.{RowPlan}
use Rattle.lt_manager.specs.Views.{view_of}
use Rattle.lt_manager.specs.Behind.{StopsBehind}
use Rattle.lt_manager.proofs.JoinedLaws.{stays_then, joined_first, joined_next, stops_first, stops_next}
use Rattle.lt_manager.proofs.manager_pass.ManagerPass.join_all.Goals as goal

pub returns-in_err-join_at-clause-err : goal.returns-in_err-join_at-clause-err
returns-in_err-join_at-clause-err c =
    let trees : ℕ = c.args.table.now.rows.plan.trees in
    let new = view_of c.join_at.new.self in
    let fault = c.in_err-join_at.field-0.0 in
    let is : c.from_residual.result ≡ Err fault = search rules in
    subst (λ (r : Result (Unit {0}) Fault). IfErr r (StopsBehind c.args.self.now new c.args.txn trees)) (sym is)
    (stops_first c.args.self.now new c.args.txn trees fault c.requires.trees c.in_err-join_at.ensures.answer)

pub loop-tree-init : goal.loop-tree-init
loop-tree-init c = record {
  of = c.join_at.ensures.of;
  first = omega arith;
  joined = joined_first c.args.self.now (view_of c.join_at.new.self) c.args.txn c.in_ok-join_at.field-0 c.in_ok-join_at.ensures.answer;
}

pub returns-in_err-join-clause-err : goal.returns-in_err-join-clause-err
returns-in_err-join-clause-err c =
    let trees : ℕ = c.args.table.now.rows.plan.trees in
    let new = view_of c.join.new.self in
    let fault = c.in_err-join.field-0.0 in
    let is : c.from_residual-in_err-join.result ≡ Err fault = search rules in
    let few : c.loop-tree.tree < trees = omega (arith, c.loop-tree-test.true, ap (λ (k : RowPlan). k.trees) c.plan.ensures) in
    subst (λ (r : Result (Unit {0}) Fault). IfErr r (StopsBehind c.args.self.now new c.args.txn trees)) (sym is)
    (stops_next c.args.self.now new c.args.txn c.loop-tree.self c.loop-tree.tree c.loop-tree.invariant.of.1.0 c.loop-tree.invariant.joined
    trees fault few c.in_err-join.ensures.answer)

pub loop-tree-preserved : goal.loop-tree-preserved
loop-tree-preserved c =
    let was = c.loop-tree.invariant in
    record {
      of = stays_then c.args.table.now c.args.self.now.pass c.loop-tree.self.pass c.join.new.self.pass was.of c.join.ensures.of;
      first = omega arith;
      joined =
          joined_next c.args.self.now (view_of c.join.new.self) c.args.txn c.loop-tree.self c.loop-tree.tree was.of.1.0 was.joined
          c.in_ok-join.field-0 was.first c.in_ok-join.ensures.answer;
    }
