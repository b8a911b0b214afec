use Rattle.std.proofs.Common.{◌∷◌, [], length, get_or, refl, sym, ap, ◌∙◌, arith, length-append}
use Rattle.lt_crew.specs.declared.worker.Worker.{Worker}
use Rattle.lt_crew.specs.DealRounds.{KeepsPass}
use Rattle.lt_crew.proofs.PairLaws.{up_to_more}
use Rattle.lt_crew.proofs.SeatLaws.{seats_more}
use Rattle.lt_crew.proofs.dealing.take_seats.Goals as goal

pub loop-worker-preserved : goal.loop-worker-preserved
loop-worker-preserved g c =
    let so_far = c.loop-worker.invariant in
    let was = get_or c.loop-worker.workers c.loop-worker.worker-index c.worker-item.result in
    let now : Worker g.row.P.Denot = record { pass = was.pass; seat = c.take.new.self; short = was.short } in
    record {
      count = ap length c.in_ok-push.ensures.items ∙ length-append c.loop-worker.seats.items (c.in-Some.seat ∷ []) ∙ omega (arith, so_far.count);
      each = seats_more c.loop-worker.worker-index c.args.workers.now c.loop-worker.workers c.loop-worker.seats.items c.push.new.self.items c.in-Some.seat
          c.worker-item.result so_far.count c.in_ok-push.ensures.items (omega (arith, c.loop-worker-test.true, so_far.keeps.len)) so_far.each so_far.keeps
          (sym c.take.ensures.value ∙ c.in-Some.is);
      keeps = up_to_more KeepsPass c.loop-worker.worker-index c.args.workers.now c.loop-worker.workers c.worker-item.result now so_far.keeps
          (omega (arith, c.loop-worker-test.true, so_far.keeps.len)) c.worker-item.is (record { pass = refl; memory = refl });
    }
