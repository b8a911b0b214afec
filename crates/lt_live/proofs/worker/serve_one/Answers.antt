use Rattle.std.proofs.Common.{refl}
use Rattle.lt_live.proofs.GoingLaws.{opened_goes}
use Rattle.lt_live.proofs.WorkerLaws.{kept_one}
use Rattle.lt_live.proofs.worker.serve_one.Goals as goal

pub play_out-requires-clause-may : goal.play_out-requires-clause-may
play_out-requires-clause-may g c κs within =
    opened_goes (g.Y.Yard.setting c.args.yard.now) c.args.trees c.args.txn c.args.lines.now c.in-Ok.turn c.requires.trees c.in-Ok.ensures
    c.requires.deeds c.requires.txn

pub returns-clause-serves : goal.returns-clause-serves
returns-clause-serves g c =
    let view = g.Y.Pass.Pass.view in
    λ yes. kept_one (g.Y.Yard.setting c.args.yard.now) c.args.lines.now (view c.args.pass.now) (view c.play_out.new.pass) c.args.turns.now.items
    c.keep.new.turns.items c.args.trees c.args.txn c.in-Ok.turn c.play_out.new.turn (c.if-not-keep.ensures refl) c.requires.trees c.in-Ok.ensures
    (c.if-not-play_out.ensures.plays refl) (c.if-not-play_out.ensures.over refl)
