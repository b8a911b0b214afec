use Rattle.std.proofs.Common.{arith, ◌∷◌, ◌-◌, ◌+◌}
use Rattle.lt_waits.specs.Steps.{steps_in, route}
use Rattle.lt_waits.proofs.WalkLaws.{route_more}
use Rattle.lt_waits.proofs.search.walk_by.Goals as goal

pub loop-made-preserved : goal.loop-made-preserved
loop-made-preserved c =
    let end = c.in-Some.first.now.left in
    let f = steps_in c.args.steps.now in
    let walk = c.loop-made.walk.items in
    let more = route_more f walk (c.args.txn ∷ route end f c.args.txn) c.loop-made.at (end - c.loop-made._made) (end - (c.loop-made._made + 1)) (omega arith) c.loop-made.invariant in
    rw c.in_ok-push.ensures.items (rw c.next_from-at.ensures more)
