use Rattle.std.proofs.Common.{rules, IfOk}
use Rattle.lt_seq.specs.declared.event.Deed.TheVariants.{Join}
use Rattle.lt_manager.proofs.JoinedLaws.{stays_then}
use Rattle.lt_manager.proofs.AgainLaws.{goes_on_behind}
use Rattle.lt_manager.proofs.manager_pass.ManagerPass.join.Goals as goal

pub loop-preserved : goal.loop-preserved
loop-preserved c =
    let was = c.loop.invariant in
    let now = c.join_once-answer.new.self in
    let refused : IfOk c.join_once-answer.result (λ _. ⊥) = search rules in
    record {
      of = stays_then c.args.table.now c.args.self.now.pass c.loop.self.pass now.pass was.of c.join_once-answer.ensures.of;
      on =
          goes_on_behind c.args.self.now c.loop.self now was.of.1.0 c.args.txn (Join c.args.tree 0 0) c.join_once-answer.result refused was.on
          c.join_once-answer.ensures.answer;
    }
