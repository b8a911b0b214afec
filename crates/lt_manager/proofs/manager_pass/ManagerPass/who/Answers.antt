use Rattle.std.proofs.Common.{rules, IfOk, []}
use Rattle.lt_seq.specs.declared.event.Deed.TheVariants.{Who}
use Rattle.lt_manager.proofs.JoinedLaws.{stays_then}
use Rattle.lt_manager.proofs.AgainLaws.{goes_on_behind}
use Rattle.lt_manager.proofs.manager_pass.ManagerPass.who.Goals as goal

pub loop-preserved : goal.loop-preserved
loop-preserved c =
    let was = c.loop.invariant in
    let now = c.who_once-answer.new.self in
    let refused : IfOk c.who_once-answer.result (λ _. ⊥) = search rules in
    record {
      of = stays_then c.args.table.now c.args.self.now.pass c.loop.self.pass now.pass was.of c.who_once-answer.ensures.of;
      on =
          goes_on_behind c.args.self.now c.loop.self now was.of.1.0 c.args.txn (Who c.args.tree c.args.range.now c.args.as_txn []) c.who_once-answer.result refused was.on
          c.who_once-answer.ensures.answer;
    }
