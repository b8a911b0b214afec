use Rattle.lt_locktree.proofs.NewPasses.{of_new, last_of}
use Rattle.lt_locktree.proofs.test_calls.two_passes.Goals as goal

pub share-note-requires-clause-of : goal.share-note-requires-clause-of
share-note-requires-clause-of c =
    let t = c.in_ok-table.table in
    let all = of_new t c.in_ok-table.passes.items c.in_ok-table.ensures.passes in
    let but_last = last_of t c.in_ok-table.passes.items c.pop.new.self.items c.in-Some.last c.in-Some.ensures.items all in
    (last_of t c.pop.new.self.items c.pop-2.new.self.items c.in-Some-pop.first c.in-Some-pop.ensures.items but_last.0).1

pub learn-requires : goal.learn-requires
learn-requires c =
    let t = c.in_ok-table.table in
    let all = of_new t c.in_ok-table.passes.items c.in_ok-table.ensures.passes in
    let but_last = last_of t c.in_ok-table.passes.items c.pop.new.self.items c.in-Some.last c.in-Some.ensures.items all in
    record { of = (but_last.1, c.share-note.ensures.note.0) }
