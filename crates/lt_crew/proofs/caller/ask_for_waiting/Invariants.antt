use Rattle.std.proofs.Common.{◌≡◌, ◌+◌, ◌*◌, length}
use Rattle.lt_seq.specs.Yard.{origin_of}
use Rattle.lt_runner.specs.Notes.{KeepsNotes}
use Rattle.lt_crew.specs.Caller.{IsAlone, AsksStay}
use Rattle.lt_crew.specs.CallersTurn.{ArePaid, IsAnsweredNow}
use Rattle.lt_crew.specs.Workers.{UpTo}
use Rattle.lt_crew.proofs.HeldAgainLaws.{SettlesSoFar}
use Rattle.lt_crew.proofs.caller.ask_for_waiting.Given as goal

abbrev pub invariant-loop-place : goal.invariant-loop-place
invariant-loop-place g l =
    let view = g.Y.Pass.Pass.view in
    let setting = g.Y.Yard.setting l.yard in
    record {
      of : g.Y.Pass.Pass.origin l.pass ≡ origin_of (g.Y.Yard.identity l.yard) setting;
      alone : IsAlone setting (view l.pass);
      noted : KeepsNotes setting (view l.fn.pass) (view l.pass);
      crew : AsksStay setting (view l.fn.pass).front (view l.pass).front l.fn.registry l.registry l.fn.turns l.turns;
      settles : SettlesSoFar setting l.place l.fn.turns l.turns (view l.fn.pass).front (view l.pass).front;
      asked : UpTo IsAnsweredNow l.place l.fn.turns l.turns;
      paid : ArePaid setting (view l.fn.pass) (view l.pass) l.fn.turns l.turns (l.place * (setting.plan.trees + 1 + length l.fn.turns));
    }
