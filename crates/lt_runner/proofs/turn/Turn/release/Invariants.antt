use Rattle.std.proofs.Common.{◌≡◌, ◌+◌, [], length, false}
use Rattle.lt_seq.specs.Yard.{origin_of}
use Rattle.lt_runner.specs.Notes.{KeepsNotes}
use Rattle.lt_runner.specs.PlaysOn.{IsReady, IsFit, PlaysOn}
use Rattle.lt_runner.specs.Work.{Spends}
use Rattle.lt_runner.specs.PlaysAlone.{MayPlayAtOnce, with_frees}
use Rattle.lt_runner.proofs.turn.Turn.release.Given as goal

-- it was played so far, and as many frees are left as turns of the loop
abbrev pub invariant-loop-free : goal.invariant-loop-free
invariant-loop-free g l =
    let view = g.Y.Pass.Pass.view in
    let setting = g.Y.Yard.setting l.yard in
    record {
      of : g.Y.Pass.Pass.origin l.pass ≡ origin_of (g.Y.Yard.identity l.yard) setting;
      ready : IsReady setting (view l.pass);
      fit : IsFit setting l.self;
      turn : l.self.turn ≡ record l.fn.self.turn { releases = l.self.turn.releases };
      left : length l.self.turn.releases + l._free ≡ length l.fn.self.turn.releases;
      plays : PlaysOn setting [] (view l.fn.pass) (view l.pass) l.fn.self l.self;
      free : l.fn.self.busy ≡ false → l.self.busy ≡ false;
      listed : l.self.listed ≡ l.fn.self.listed;
      noted : KeepsNotes setting (view l.fn.pass) (view l.pass);
      spends : Spends setting (view l.fn.pass) (view l.pass) l.fn.self l.self;
      alone : MayPlayAtOnce setting (view l.fn.pass) l.fn.self.turn → MayPlayAtOnce setting (view l.pass) l.self.turn
          × (with_frees setting l.self.turn.txn l.self.turn.releases (view l.pass).front ≡ with_frees setting l.fn.self.turn.txn l.fn.self.turn.releases (view l.fn.pass).front);
    }
