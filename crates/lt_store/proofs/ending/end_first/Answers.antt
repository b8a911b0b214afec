use Rattle.std.proofs.Common.{ap, drop}
use Rattle.lt_store.specs.Book.{BookView}
use Rattle.lt_store.specs.Acting.{fresh}
use Rattle.lt_store.proofs.EndLaws.{at_first, book_left, freed_of, can_undo, room_to_free, first_numbered}
use Rattle.lt_store.proofs.EndLaws.{live_left, ended_store, left_numbered}
use Rattle.lt_store.proofs.ending.end_first.Goals as goal

pub undo-open-requires-clause-there : goal.undo-open-requires-clause-there
undo-open-requires-clause-there g c = λ d.
    let book = c.args.book.now in
    let limit = (g.Y.Yard.setting c.args.yard.now).plan.limit in
    let front = (g.Y.Pass.Pass.view c.args.pass.now).front in
    can_undo limit front book c.args._steps c.requires.standing.store c.requires.live d

pub free_all-requires-clause-txn : goal.free_all-requires-clause-txn
free_all-requires-clause-txn g c = λ κs within.
    let book = c.args.book.now in
    let limit = (g.Y.Yard.setting c.args.yard.now).plan.limit in
    let front = (g.Y.Pass.Pass.view c.args.pass.now).front in
    let a = c.undo-open.result in
    let is = at_first book.live a c.requires.live c.undo-open.ensures.acts in
    first_numbered limit front book c.args._steps c.requires.standing.store a (drop 1 book.live) is c.requires.standing.numbered
    c.txn.result c.txn.ensures

pub free_all-requires-clause-room : goal.free_all-requires-clause-room
free_all-requires-clause-room g c = λ κs within.
    let book = c.args.book.now in
    let limit = (g.Y.Yard.setting c.args.yard.now).plan.limit in
    let front = (g.Y.Pass.Pass.view c.args.pass.now).front in
    let a = c.undo-open.result in
    let is = at_first book.live a c.requires.live c.undo-open.ensures.acts in
    room_to_free limit front book c.args._steps c.requires.standing.store a (drop 1 book.live) is
    c.done.result.now c.done.ensures c.requires.few

pub returns-clause-standing : goal.returns-clause-standing
returns-clause-standing g c =
    let book = c.args.book.now in
    let limit = (g.Y.Yard.setting c.args.yard.now).plan.limit in
    let front = (g.Y.Pass.Pass.view c.args.pass.now).front in
    let new = (g.Y.Pass.Pass.view c.free_all.new.pass).front in
    let a = c.undo-open.result in
    let b = c.undo-open.new.self in
    let store = c.requires.standing.store in
    let is = at_first book.live a c.requires.live c.undo-open.ensures.acts in
    let b_is = book_left book b a c.undo-open.ensures.acts c.undo-open.ensures.book in
    let freed = freed_of limit c.txn.result c.done.result.now front new a c.in_ok-free_all.ensures.freed c.txn.ensures c.done.ensures in
    record {
      of = c.free_all.ensures.of;
      setting_is = c.requires.standing.setting_is;
      table = c.in_ok-free_all.ensures.table;
      store = ended_store limit front book c.args._steps store a (drop 1 book.live) is b b_is new freed
          c.in_ok-free_all.ensures.table.sound.legal;
      numbered = left_numbered limit front book c.args._steps store a (drop 1 book.live) is b b_is c.requires.standing.numbered;
    }

pub returns-clause-live : goal.returns-clause-live
returns-clause-live g c =
    let book = c.args.book.now in
    let limit = (g.Y.Yard.setting c.args.yard.now).plan.limit in
    let front = (g.Y.Pass.Pass.view c.args.pass.now).front in
    let a = c.undo-open.result in
    let is = at_first book.live a c.requires.live c.undo-open.ensures.acts in
    live_left limit front book c.args._steps c.requires.standing.store a (drop 1 book.live) is c.undo-open.new.self
    (book_left book c.undo-open.new.self a c.undo-open.ensures.acts c.undo-open.ensures.book)

pub returns-clause-commits : goal.returns-clause-commits
returns-clause-commits g c = ap (λ (v : BookView). v.commits) (c.undo-open.ensures.book (fresh 0))
