use Rattle.std.proofs.Common.{◌≡◌, ◌-◌, length}
use Rattle.lt_seq.specs.Yard.{origin_of}
use Rattle.lt_runner.specs.PlaysOn.{IsReady}
use Rattle.lt_deal.specs.Handles.{knows, IsSeatOf, Rests}
use Rattle.lt_crew.specs.Drawing.{IsDrawn}
use Rattle.lt_crew.proofs.drawing.play_drawn.Given as goal

abbrev pub invariant-loop : goal.invariant-loop
invariant-loop g l =
    let view = g.Y.Pass.Pass.view in
    let setting = g.Y.Yard.setting l.yard in
    record {
      of : g.Y.Pass.Pass.origin l.pass ≡ origin_of (g.Y.Yard.identity l.yard) setting;
      ready : IsReady setting (view l.pass);
      seat : IsSeatOf l.deal l.seat × Rests l.seat;
      early : (knows l.seat).nones ≡ 0;
      drew : IsDrawn setting (knows l.fn.seat).stock (view l.fn.pass) (view l.pass) (knows l.seat);
    }

abbrev pub decreases-loop : goal.decreases-loop
decreases-loop g l = length (knows l.fn.seat).stock - length (knows l.seat).drew
