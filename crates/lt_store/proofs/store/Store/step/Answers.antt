use Rattle.std.proofs.Common.{◌+◌}
use Rattle.lt_store.specs.Stepping.{view_of}
use Rattle.lt_store.proofs.SerialLaws.{serial}
use Rattle.lt_store.proofs.NumberedLaws.{still_numbered}
use Rattle.lt_store.proofs.store.Store.step.Goals as goal

pub invariant_of-result : goal.invariant_of-result
invariant_of-result g c =
    let is = c.self.invariant in
    let steps = c.self.inside.steps in
    let limit = (g.Y.Yard.setting c.self.inside.yard).plan.limit in
    let old = view_of limit (g.Y.Pass.Pass.view c.self.inside.pass).front c.self.inside.book steps in
    let new = view_of limit (g.Y.Pass.Pass.view c.step.new.pass).front c.step.new.book (steps + 1) in
    record {
      of = c.step.ensures.of;
      setting_is = is.setting_is;
      table = c.in_ok-answer.ensures.table;
      store = c.in_ok-answer.ensures.store;
      numbered = still_numbered old new c.args.order.txn c.requires.txn is.numbered c.args.order.op
          c.in_ok-answer.answer c.in_ok-answer.ensures.steps;
    }

pub returns-clause-serial : goal.returns-clause-serial
returns-clause-serial g c =
    let limit = (g.Y.Yard.setting c.self.inside.yard).plan.limit in
    serial limit (g.Y.Pass.Pass.view c.step.new.pass).front c.step.new.book (c.self.inside.steps + 1) c.in_ok-answer.ensures.store.is_book
