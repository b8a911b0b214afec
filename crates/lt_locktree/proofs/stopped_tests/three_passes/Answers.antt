use Rattle.lt_locktree.proofs.NewPasses.{of_new, last_of}
use Rattle.lt_locktree.proofs.stopped_tests.three_passes.Goals as goal

pub share-note-requires-clause-of : goal.share-note-requires-clause-of
share-note-requires-clause-of c =
    let t = c.in_ok-table.table in
    let all = of_new t c.in_ok-table.passes.items c.in_ok-table.ensures.passes in
    let but_three = last_of t c.in_ok-table.passes.items c.pop.new.self.items c.in-Some.three c.in-Some.ensures.items all in
    let but_two = last_of t c.pop.new.self.items c.pop-2.new.self.items c.in-Some-pop.two c.in-Some-pop.ensures.items but_three.0 in
    (last_of t c.pop-2.new.self.items c.pop-3.new.self.items c.in-Some-pop-2.one c.in-Some-pop-2.ensures.items but_two.0).1

pub learn-requires : goal.learn-requires
learn-requires c =
    let t = c.in_ok-table.table in
    let all = of_new t c.in_ok-table.passes.items c.in_ok-table.ensures.passes in
    let but_three = last_of t c.in_ok-table.passes.items c.pop.new.self.items c.in-Some.three c.in-Some.ensures.items all in
    let but_two = last_of t c.pop.new.self.items c.pop-2.new.self.items c.in-Some-pop.two c.in-Some-pop.ensures.items but_three.0 in
    record { of = (but_two.1, c.share-note.ensures.note.0) }

pub learn-requires-2 : goal.learn-requires-2
learn-requires-2 c =
    let t = c.in_ok-table.table in
    let all = of_new t c.in_ok-table.passes.items c.in_ok-table.ensures.passes in
    let but_three = last_of t c.in_ok-table.passes.items c.pop.new.self.items c.in-Some.three c.in-Some.ensures.items all in
    record { of = (but_three.1, c.share-note-2.ensures.note.0) }
