use Rattle.std.proofs.Common.{◌<◌, length, get_or, refl, arith, vec_len}
use Rattle.lt_crew.specs.declared.worker.Worker.{Worker}
use Rattle.lt_crew.specs.DealRounds.{GetsSeat}
use Rattle.lt_crew.proofs.PairLaws.{up_to_more, up_to_all}
use Rattle.lt_crew.proofs.SeatLaws.{popped_len, popped}
use Rattle.lt_crew.proofs.dealing.seat_all.Goals as goal

pub loop-worker-preserved : goal.loop-worker-preserved
loop-worker-preserved g c =
    let left = c.loop-worker.left.items in
    let rest = c.pop.new.self.items in
    let low : 0 < length left = omega (arith, c.loop-worker-test.true, c.loop-worker.invariant.count, c.requires) in
    let fewer = popped_len (vec_len c.loop-worker.left) left rest c.pop.result (omega arith) low c.pop.ensures.items c.pop.ensures.value in
    let was = get_or c.loop-worker.workers c.loop-worker.worker-index c.worker-item.result in
    let now : Worker g.row.P.Denot = record { pass = was.pass; seat = c.pop.result; short = was.short } in
    record {
      count = omega (arith, fewer, c.loop-worker.invariant.count);
      each = λ deal stock blank.
          let so_far = c.loop-worker.invariant.each deal stock blank in
          let one = popped deal stock (vec_len c.loop-worker.left) left rest c.pop.result (omega arith) low c.pop.ensures.items c.pop.ensures.value
          so_far.0 in (
            one.0,
            up_to_more (GetsSeat deal stock) c.loop-worker.worker-index c.args.workers.now c.loop-worker.workers c.worker-item.result now so_far.1
                (omega (arith, c.loop-worker-test.true, so_far.1.len)) c.worker-item.is (record { pass = refl; memory = refl; seat = one.1 }),
          );
    }

pub returns : goal.returns
returns g c = λ deal stock blank.
    up_to_all (GetsSeat deal stock) c.loop-worker.worker-index c.args.workers.now c.loop-worker.workers
    (c.loop-worker.invariant.each deal stock blank).1 (omega (arith, c.loop-worker-test.false))
