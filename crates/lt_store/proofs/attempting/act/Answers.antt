use Rattle.std.proofs.Common.{◌+◌, arith, ap, length, List}
use Rattle.lt_seq.specs.declared.event.Event.{Event}
use Rattle.lt_store.specs.declared.locks.Asked.TheVariants.{Granted, Held, OutOfLocks}
use Rattle.lt_store.specs.declared.answer.Answer.TheVariants.{OutOfLocks as OutOfLocksAnswer}
use Rattle.lt_store.specs.Ranges.{range_of}
use Rattle.lt_store.specs.Stepping.{view_of}
use Rattle.lt_store.proofs.TableLaws.{length-first}
use Rattle.lt_store.proofs.GivingLaws.{undo_at, room_at, stopped_store, stopped_view}
use Rattle.lt_store.proofs.AttemptLaws.{asked_so, acted_store, acted_view, waited_store, waited_view, stops_so}
use Rattle.lt_store.proofs.attempting.act.Goals as goal

pub give_up-requires-clause-undo : goal.give_up-requires-clause-undo
give_up-requires-clause-undo g c = λ κs within.
    let limit = (g.Y.Yard.setting c.args.yard.now).plan.limit in
    let front = (g.Y.Pass.Pass.view c.args.pass.now).front in
    undo_at limit front c.args.book.now c.begin.new.self c.args._steps c.args.txn c.in_ok-place.place c.requires.store
    c.in_ok-place.ensures.begun c.in_ok-place.ensures.book

pub give_up-requires-clause-room : goal.give_up-requires-clause-room
give_up-requires-clause-room g c = λ κs within.
    let limit = (g.Y.Yard.setting c.args.yard.now).plan.limit in
    let front = (g.Y.Pass.Pass.view c.args.pass.now).front in
    let asked = (g.Y.Pass.Pass.view c.ask.new.pass).front in
    let came = asked_so limit c.args.txn c.range-range.result (range_of c.args.op.now) front asked c.in_ok-ask.field-0
    (OutOfLocks c.in-OutOfLocks.at c.in-OutOfLocks.used)
    c.in_ok-ask.ensures.asked c.range-range.ensures c.in-OutOfLocks.is in
    room_at limit front c.args.book.now c.begin.new.self c.args._steps c.args.txn c.in_ok-place.place c.requires.store
    c.in_ok-place.ensures.begun c.in_ok-place.ensures.book asked
    (omega (arith, length-first limit c.args.txn front, ap (λ (es : List Event). length es) came.front)) c.requires.few

pub returns-in_ok-answer-in-Granted-clause-store : goal.returns-in_ok-answer-in-Granted-clause-store
returns-in_ok-answer-in-Granted-clause-store g c =
    let limit = (g.Y.Yard.setting c.args.yard.now).plan.limit in
    let front = (g.Y.Pass.Pass.view c.args.pass.now).front in
    let asked = (g.Y.Pass.Pass.view c.ask.new.pass).front in
    let came = asked_so limit c.args.txn c.range-range.result (range_of c.args.op.now) front asked c.in_ok-ask.field-0
    Granted c.in_ok-ask.ensures.asked c.range-range.ensures c.in-Granted.is in
    acted_store limit front c.args.book.now c.begin.new.self c.args._steps c.args.txn c.in_ok-place.place c.requires.store
    c.in_ok-place.ensures.begun c.in_ok-place.ensures.book c.args.op.now
    asked came c.perform.new.self c.in_ok-answer-in-Granted.ensures.book
    c.in_ok-ask.ensures.table.sound.legal

pub returns-in_ok-answer-in-Granted-clause-steps : goal.returns-in_ok-answer-in-Granted-clause-steps
returns-in_ok-answer-in-Granted-clause-steps g c =
    let limit = (g.Y.Yard.setting c.args.yard.now).plan.limit in
    let front = (g.Y.Pass.Pass.view c.args.pass.now).front in
    let asked = (g.Y.Pass.Pass.view c.ask.new.pass).front in
    let came = asked_so limit c.args.txn c.range-range.result (range_of c.args.op.now) front asked c.in_ok-ask.field-0
    Granted c.in_ok-ask.ensures.asked c.range-range.ensures c.in-Granted.is in
    acted_view limit front c.args.book.now c.begin.new.self c.args._steps c.args.txn c.in_ok-place.place c.requires.store
    c.in_ok-place.ensures.begun c.in_ok-place.ensures.book c.args.op.now
    asked came c.perform.new.self c.in_ok-answer-in-Granted.ensures.book
    c.in_ok-answer-in-Granted.answer
    c.in_ok-answer-in-Granted.ensures.answer

pub returns-in-Held-clause-store : goal.returns-in-Held-clause-store
returns-in-Held-clause-store g c =
    let limit = (g.Y.Yard.setting c.args.yard.now).plan.limit in
    let front = (g.Y.Pass.Pass.view c.args.pass.now).front in
    let asked = (g.Y.Pass.Pass.view c.ask.new.pass).front in
    let came = asked_so limit c.args.txn c.range-range.result (range_of c.args.op.now) front asked c.in_ok-ask.field-0
    (Held c.in-Held.owners) c.in_ok-ask.ensures.asked c.range-range.ensures c.in-Held.is in
    waited_store limit front c.args.book.now c.begin.new.self c.args._steps c.args.txn c.in_ok-place.place c.requires.store
    c.in_ok-place.ensures.begun c.in_ok-place.ensures.book c.args.op.now
    asked c.in-Held.owners came c.in_ok-ask.ensures.table.sound.legal

pub returns-in-Held-clause-steps : goal.returns-in-Held-clause-steps
returns-in-Held-clause-steps g c =
    let limit = (g.Y.Yard.setting c.args.yard.now).plan.limit in
    let front = (g.Y.Pass.Pass.view c.args.pass.now).front in
    let asked = (g.Y.Pass.Pass.view c.ask.new.pass).front in
    let came = asked_so limit c.args.txn c.range-range.result (range_of c.args.op.now) front asked c.in_ok-ask.field-0
    (Held c.in-Held.owners) c.in_ok-ask.ensures.asked c.range-range.ensures c.in-Held.is in
    waited_view limit front c.args.book.now c.begin.new.self c.args._steps c.args.txn c.in_ok-place.place c.requires.store
    c.in_ok-place.ensures.begun c.in_ok-place.ensures.book c.args.op.now
    asked c.in-Held.owners came

pub returns-in_ok-add_gone-in-OutOfLocks-clause-store : goal.returns-in_ok-add_gone-in-OutOfLocks-clause-store
returns-in_ok-add_gone-in-OutOfLocks-clause-store g c =
    let limit = (g.Y.Yard.setting c.args.yard.now).plan.limit in
    let front = (g.Y.Pass.Pass.view c.args.pass.now).front in
    let asked = (g.Y.Pass.Pass.view c.ask.new.pass).front in
    let came = asked_so limit c.args.txn c.range-range.result (range_of c.args.op.now) front asked c.in_ok-ask.field-0
    (OutOfLocks c.in-OutOfLocks.at c.in-OutOfLocks.used)
    c.in_ok-ask.ensures.asked c.range-range.ensures c.in-OutOfLocks.is in
    stopped_store limit front c.args.book.now c.begin.new.self c.args._steps c.args.txn c.in_ok-place.place c.requires.store
    c.in_ok-place.ensures.begun c.in_ok-place.ensures.book asked
    (g.Y.Pass.Pass.view c.give_up.new.pass).front c.give_up.new.book c.add_gone.new.self
    c.in-OutOfLocks.at c.in-OutOfLocks.used came
    c.in_ok-give_up-in-OutOfLocks.ensures.freed c.in_ok-give_up-in-OutOfLocks.ensures.book
    c.in_ok-add_gone-in-OutOfLocks.ensures c.in_ok-give_up-in-OutOfLocks.ensures.table.sound.legal

pub returns-in_ok-add_gone-in-OutOfLocks-clause-steps : goal.returns-in_ok-add_gone-in-OutOfLocks-clause-steps
returns-in_ok-add_gone-in-OutOfLocks-clause-steps g c =
    let limit = (g.Y.Yard.setting c.args.yard.now).plan.limit in
    let front = (g.Y.Pass.Pass.view c.args.pass.now).front in
    let asked = (g.Y.Pass.Pass.view c.ask.new.pass).front in
    let came = asked_so limit c.args.txn c.range-range.result (range_of c.args.op.now) front asked c.in_ok-ask.field-0
    (OutOfLocks c.in-OutOfLocks.at c.in-OutOfLocks.used)
    c.in_ok-ask.ensures.asked c.range-range.ensures c.in-OutOfLocks.is in
    stops_so limit c.args.txn front asked c.in-OutOfLocks.at c.in-OutOfLocks.used (view_of limit front c.args.book.now c.args._steps)
    (view_of limit (g.Y.Pass.Pass.view c.give_up.new.pass).front c.add_gone.new.self (c.args._steps + 1)) c.args.op.now
    (OutOfLocksAnswer c.in-OutOfLocks.at c.in-OutOfLocks.used) came
    (stopped_view limit front c.args.book.now c.begin.new.self c.args._steps c.args.txn c.in_ok-place.place c.requires.store
    c.in_ok-place.ensures.begun c.in_ok-place.ensures.book asked
    (g.Y.Pass.Pass.view c.give_up.new.pass).front c.give_up.new.book c.add_gone.new.self
    c.in-OutOfLocks.at c.in-OutOfLocks.used came
    c.in_ok-give_up-in-OutOfLocks.ensures.freed c.in_ok-give_up-in-OutOfLocks.ensures.book
    c.in_ok-add_gone-in-OutOfLocks.ensures)
