use Rattle.lt_locktree.proofs.NewPasses.{of_new, last_of}
use Rattle.lt_locktree.proofs.tests.one_pass_cut.Goals as goal

pub returns-in-Some : goal.returns-in-Some
returns-in-Some c =
    let t = c.in_ok-table.table in
    let all = of_new t c.in_ok-table.passes.items c.in_ok-table.ensures.passes in
    let last = last_of t c.in_ok-table.passes.items c.pop.new.self.items c.in-Some.pass c.in-Some.ensures.items all in
    record { of = (last.1, c.in_ok-table.ensures.table) }
