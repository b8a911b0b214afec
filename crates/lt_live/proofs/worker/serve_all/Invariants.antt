use Rattle.std.proofs.Common.{◌≡◌, ◌≤◌, ◌<◌, ◌++◌, map}
use Rattle.crossbeam_queue.specs.Passes.{view, IsPassOf}
use Rattle.lt_seq.specs.Yard.{origin_of}
use Rattle.lt_runner.specs.TurnView.{Seat}
use Rattle.lt_live.specs.Deals.{hand}
use Rattle.lt_live.specs.House.{IsPassFit}
use Rattle.lt_live.specs.Live.{HasServed}
use Rattle.lt_live.proofs.worker.serve_all.Given as goal

abbrev pub invariant-loop : goal.invariant-loop
invariant-loop g l =
    let seen = g.Y.Pass.Pass.view in
    let setting = g.Y.Yard.setting l.yard in
    let first = view l.fn.worker.ticket in
    record {
      of : g.Y.Pass.Pass.origin l.worker.pass ≡ origin_of (g.Y.Yard.identity l.yard) setting;
      fit : IsPassFit setting (seen l.worker.pass);
      right : 1 ≤ (seen l.worker.pass).rights;
      queue : IsPassOf l.queue l.worker.ticket;
      parts : 0 < (view l.worker.ticket).parts;
      served : HasServed setting l.lines (seen l.fn.worker.pass) (seen l.worker.pass) l.worker.turns.items;
      taken : view l.worker.ticket ≡ hand first.parts first.put (first.taken ++ map (λ (t : Seat). t.turn.txn) l.worker.turns.items);
    }
