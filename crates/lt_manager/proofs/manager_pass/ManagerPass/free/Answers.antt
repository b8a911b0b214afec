use Rattle.std.proofs.Common.{rules, IfOk}
use Rattle.lt_seq.specs.declared.event.Deed.TheVariants.{Free}
use Rattle.lt_manager.proofs.JoinedLaws.{stays_then}
use Rattle.lt_manager.proofs.AgainLaws.{goes_on_behind}
use Rattle.lt_manager.proofs.manager_pass.ManagerPass.free.Goals as goal

pub loop-preserved : goal.loop-preserved
loop-preserved c =
    let was = c.loop.invariant in
    let now = c.free_once-answer.new.self in
    let refused : IfOk c.free_once-answer.result (λ _. ⊥) = search rules in
    record {
      of = stays_then c.args.table.now c.args.self.now.pass c.loop.self.pass now.pass was.of c.free_once-answer.ensures.of;
      on =
          goes_on_behind c.args.self.now c.loop.self now was.of.1.0 c.args.txn (Free c.args.tree c.args.range.now c.args.first 0) c.free_once-answer.result refused was.on
          c.free_once-answer.ensures.answer;
    }
