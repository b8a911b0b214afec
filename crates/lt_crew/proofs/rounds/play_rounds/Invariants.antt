use Rattle.std.proofs.Common.{◌≡◌, ◌≤◌, [], length}
use Rattle.lt_seq.specs.Yard.{origin_of}
use Rattle.lt_runner.specs.CrewCost.{sum_of}
use Rattle.lt_runner.specs.Notes.{HasOwnNotes}
use Rattle.lt_runner.specs.Retries.{AllWaitersListed}
use Rattle.lt_runner.specs.Work.{steps}
use Rattle.lt_crew.specs.Caller.{AsksStay}
use Rattle.lt_crew.specs.Idle.{AreIdle}
use Rattle.lt_crew.specs.RunCrew.{bound_on}
use Rattle.lt_crew.specs.Workers.{IsCaller}
use Rattle.lt_crew.proofs.rounds.play_rounds.Given as goal

abbrev pub invariant-loop-alloc : goal.invariant-loop-alloc
invariant-loop-alloc g l =
    let origin = g.Y.Pass.Pass.origin in
    let view = g.Y.Pass.Pass.view in
    let setting = g.Y.Yard.setting l.yard in
    let place = origin_of (g.Y.Yard.identity l.yard) setting in
    record {
      of : origin l.me ≡ place;
      caller : IsCaller setting (length l.workers) (view l.me);
      noted : HasOwnNotes setting (view l.me);
      idle : AreIdle origin view place (view l.me).front l.workers;
      stays : AsksStay setting (view l.fn.me).front (view l.me).front [] l.registry l.fn.turns.items l.turns.items;
      count : length l.turns.items ≡ length l.fn.turns.items;
      listed : AllWaitersListed l.turns.items;
      bound : bound_on setting (view l.me).front l.turns.items ≤ bound_on setting (view l.fn.me).front l.fn.turns.items;
    }

abbrev pub decreases-loop-alloc : goal.decreases-loop-alloc
decreases-loop-alloc g l = sum_of steps l.turns.items
