use Rattle.std.proofs.Common.{◌≡◌, ◌≤◌, [], length}
use Rattle.lt_seq.specs.Yard.{origin_of}
use Rattle.lt_runner.specs.PlaysOn.{IsFit, IsReady, PlaysOn}
use Rattle.lt_runner.specs.Work.{Spends}
use Rattle.lt_runner.specs.Notes.{KeepsNotes}
use Rattle.lt_crew.specs.Crew.{IsStuck}
use Rattle.lt_crew.proofs.StillLaws.{IsWithin}
use Rattle.lt_crew.proofs.play.play_lines.Given as goal

abbrev pub invariant-loop-line : goal.invariant-loop-line
invariant-loop-line g l =
    let view = g.Y.Pass.Pass.view in
    let setting = g.Y.Yard.setting l.yard in
    record {
      of : g.Y.Pass.Pass.origin l.pass ≡ origin_of (g.Y.Yard.identity l.yard) setting;
      ready : IsReady setting (view l.pass);
      noted : KeepsNotes setting (view l.fn.pass) (view l.pass);
      fit : IsFit setting l.turn;
      plays : PlaysOn setting [] (view l.fn.pass) (view l.pass) l.fn.turn l.turn;
      spends : Spends setting (view l.fn.pass) (view l.pass) l.fn.turn l.turn;
      lines : length l.turn.turn.lines ≤ length l.fn.turn.turn.lines;
      stuck : IsStuck l.fn.turn → l.turn ≡ l.fn.turn;
      within : IsWithin (length l.fn.turn.turn.lines) l._line l.turn;
    }
