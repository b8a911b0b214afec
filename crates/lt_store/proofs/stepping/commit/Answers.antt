use Rattle.std.proofs.Common.{sym, ap, ◌∙◌, [], List, ◌++◌, ◌∷◌}
use Rattle.std.specs.List.{remove}
use Rattle.lt_store.specs.declared.done.Done.{Done}
use Rattle.lt_store.specs.Book.{Acts, BookView}
use Rattle.lt_store.specs.Acting.{fresh}
use Rattle.lt_store.proofs.MiddleLaws.{begun_at}
use Rattle.lt_store.proofs.WholeLaws.{room_for, committed_store, committed_view}
use Rattle.lt_store.proofs.stepping.commit.Goals as goal

pub free_all-requires-clause-room : goal.free_all-requires-clause-room
free_all-requires-clause-room g c = λ κs within.
    let has = c.in_ok-place.ensures.begun in
    let limit = (g.Y.Yard.setting c.args.yard.now).plan.limit in
    let front = (g.Y.Pass.Pass.view c.args.pass.now).front in
    let at = begun_at c.args.book.now.live c.begin.new.self.live c.args.txn c.in_ok-place.place has (fresh c.args.txn) in
    room_for limit front c.args.book.now c.begin.new.self c.args._steps c.args.txn c.in_ok-place.place c.requires.store has c.in_ok-place.ensures.book
    c.done.result.now (c.done.ensures (fresh c.args.txn) ∙ ap (λ (a : Acts). a.done) at) c.requires.few

pub returns-clause-store : goal.returns-clause-store
returns-clause-store g c =
    let has = c.in_ok-place.ensures.begun in
    let limit = (g.Y.Yard.setting c.args.yard.now).plan.limit in
    let front = (g.Y.Pass.Pass.view c.args.pass.now).front in
    let b1 = c.begin.new.self in
    let at = begun_at c.args.book.now.live c.begin.new.self.live c.args.txn c.in_ok-place.place has (fresh c.args.txn) in
    committed_store limit front c.args.book.now c.begin.new.self c.args._steps c.args.txn c.in_ok-place.place c.requires.store has c.in_ok-place.ensures.book
    (g.Y.Pass.Pass.view c.free_all.new.pass).front c.commit.new.self c.add_ended.new.self c.done.result.now (c.done.ensures (fresh c.args.txn) ∙ ap (λ (a : Acts). a.done) at)
    c.in_ok-free_all.ensures.freed c.in_ok-free_all.ensures.table.sound.legal
    (c.in_ok-commit.ensures (fresh c.args.txn) ∙ ap (λ (a : Acts). (let r : BookView = record b1 { commits = b1.commits ++ a.done ∷ []; live = remove b1.live c.in_ok-place.place } in r)) at)
    c.in_ok-add_ended.ensures

pub returns-clause-steps : goal.returns-clause-steps
returns-clause-steps g c =
    let has = c.in_ok-place.ensures.begun in
    let limit = (g.Y.Yard.setting c.args.yard.now).plan.limit in
    let front = (g.Y.Pass.Pass.view c.args.pass.now).front in
    let b1 = c.begin.new.self in
    let at = begun_at c.args.book.now.live c.begin.new.self.live c.args.txn c.in_ok-place.place has (fresh c.args.txn) in
    committed_view limit front c.args.book.now c.begin.new.self c.args._steps c.args.txn c.in_ok-place.place c.requires.store has c.in_ok-place.ensures.book
    (g.Y.Pass.Pass.view c.free_all.new.pass).front c.commit.new.self c.add_ended.new.self c.done.result.now (c.done.ensures (fresh c.args.txn) ∙ ap (λ (a : Acts). a.done) at)
    c.in_ok-free_all.ensures.freed c.in_ok-free_all.ensures.table.sound.legal
    (c.in_ok-commit.ensures (fresh c.args.txn) ∙ ap (λ (a : Acts). (let r : BookView = record b1 { commits = b1.commits ++ a.done ∷ []; live = remove b1.live c.in_ok-place.place } in r)) at)
    c.in_ok-add_ended.ensures
