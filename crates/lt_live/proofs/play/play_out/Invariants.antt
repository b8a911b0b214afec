use Rattle.std.proofs.Common.{◌≡◌, ◌≤◌}
use Rattle.lt_seq.specs.Yard.{origin_of}
use Rattle.lt_live.specs.Going.{IsUnheld, MayGoOn}
use Rattle.lt_live.specs.House.{IsPassFit}
use Rattle.lt_live.specs.Live.{PlaysHere}
use Rattle.lt_live.proofs.play.play_out.Given as goal

abbrev pub invariant-loop : goal.invariant-loop
invariant-loop g l =
    let view = g.Y.Pass.Pass.view in
    let setting = g.Y.Yard.setting l.yard in
    record {
      of : g.Y.Pass.Pass.origin l.pass ≡ origin_of (g.Y.Yard.identity l.yard) setting;
      fit : IsPassFit setting (view l.pass);
      right : 1 ≤ (view l.pass).rights;
      may : MayGoOn setting l.turn;
      unheld : IsUnheld l.turn;
      plays : PlaysHere setting (view l.fn.pass) (view l.pass) l.fn.turn l.turn;
    }
