use Rattle.std.proofs.Common.{refl}
use Rattle.crossbeam_queue.specs.Passes.{view}
use Rattle.lt_live.proofs.LiveLaws.{served_more, numbers_more}
use Rattle.lt_live.proofs.WorkerLaws.{parts_stay, served_first, ticket_first, ticket_more, taken_last}
use Rattle.lt_live.proofs.worker.serve_all.Goals as goal

pub loop-init : goal.loop-init
loop-init g c =
    let worker = c.args.worker.now in
    record {
      of = c.requires.hired.of;
      fit = c.requires.hired.fit;
      right = c.requires.right;
      queue = c.requires.hired.queue;
      parts = c.requires.hired.parts;
      served = served_first (g.Y.Yard.setting c.args.yard.now) c.args.lines.now (g.Y.Pass.Pass.view worker.pass) worker.turns.items
          c.requires.hired.none;
      taken = ticket_first (view worker.ticket) worker.turns.items c.requires.hired.none;
    }

pub returns-in_default-clause-taken : goal.returns-in_default-clause-taken
returns-in_default-clause-taken g c =
    let told = c.in_default.ensures.none in
    λ yes. taken_last (view c.args.worker.now.ticket) _ _ c.loop.worker.turns.items told.0 c.loop.invariant.taken told.1

pub loop-preserved : goal.loop-preserved
loop-preserved g c =
    let setting = g.Y.Yard.setting c.args.yard.now in
    let one = c.if-not-serve_one.ensures.serves refl in
    let told = c.in-Some-take.ensures.taken in
    record {
      of = c.serve_one.ensures.of;
      fit = c.serve_one.ensures.fit;
      right = c.if-not-serve_one.ensures.right refl;
      queue = c.take.ensures.queue;
      parts = parts_stay _ (view c.loop.worker.ticket) _ told.0 c.loop.invariant.parts;
      served = served_more setting c.args.lines.now _ _ _ _ _ _ c.loop.invariant.served one;
      taken = ticket_more _ _ (view c.args.worker.now.ticket) _ _ _ told.0 c.loop.invariant.taken
          (numbers_more setting c.args.lines.now _ _ _ _ _ one);
    }
