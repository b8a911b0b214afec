use Rattle.std.proofs.Common.{arith}
use Rattle.lt_store.proofs.GivingLaws.{undo_at, room_at, aborted_store, aborted_view}
use Rattle.lt_store.proofs.stepping.abort.Goals as goal

pub give_up-requires-clause-undo : goal.give_up-requires-clause-undo
give_up-requires-clause-undo g c = λ κs within.
    let limit = (g.Y.Yard.setting c.args.yard.now).plan.limit in
    let front = (g.Y.Pass.Pass.view c.args.pass.now).front in
    undo_at limit front c.args.book.now c.begin.new.self c.args._steps c.args.txn c.in_ok-place.place c.requires.store
    c.in_ok-place.ensures.begun c.in_ok-place.ensures.book

pub give_up-requires-clause-room : goal.give_up-requires-clause-room
give_up-requires-clause-room g c = λ κs within.
    let limit = (g.Y.Yard.setting c.args.yard.now).plan.limit in
    let front = (g.Y.Pass.Pass.view c.args.pass.now).front in
    room_at limit front c.args.book.now c.begin.new.self c.args._steps c.args.txn c.in_ok-place.place c.requires.store
    c.in_ok-place.ensures.begun c.in_ok-place.ensures.book front (omega arith) c.requires.few

pub returns-clause-store : goal.returns-clause-store
returns-clause-store g c =
    let limit = (g.Y.Yard.setting c.args.yard.now).plan.limit in
    let front = (g.Y.Pass.Pass.view c.args.pass.now).front in
    aborted_store limit front c.args.book.now c.begin.new.self c.args._steps c.args.txn c.in_ok-place.place c.requires.store
    c.in_ok-place.ensures.begun c.in_ok-place.ensures.book (g.Y.Pass.Pass.view c.give_up.new.pass).front c.give_up.new.book
    c.add_ended.new.self c.in_ok-give_up.ensures.freed c.in_ok-give_up.ensures.book c.in_ok-add_ended.ensures
    c.in_ok-give_up.ensures.table.sound.legal

pub returns-clause-steps : goal.returns-clause-steps
returns-clause-steps g c =
    let limit = (g.Y.Yard.setting c.args.yard.now).plan.limit in
    let front = (g.Y.Pass.Pass.view c.args.pass.now).front in
    aborted_view limit front c.args.book.now c.begin.new.self c.args._steps c.args.txn c.in_ok-place.place c.requires.store
    c.in_ok-place.ensures.begun c.in_ok-place.ensures.book (g.Y.Pass.Pass.view c.give_up.new.pass).front c.give_up.new.book
    c.add_ended.new.self c.in_ok-give_up.ensures.freed c.in_ok-give_up.ensures.book c.in_ok-add_ended.ensures
