use Rattle.std.proofs.lemmas.Result.{on_ok_weaker}
use Rattle.lt_live.proofs.LiveLaws.{plays_itself, plays_hears, hears_plays}
use Rattle.lt_live.proofs.alone.play_in_house.Goals as goal

pub returns-then-not-has_room-clause-plays : goal.returns-then-not-has_room-clause-plays
returns-then-not-has_room-clause-plays g c =
    let setting = g.Y.Yard.setting c.args.yard.now in
    plays_hears setting _ _ _ _ _ (plays_itself setting (g.Y.Pass.Pass.view c.args.pass.now) c.args.turn.now) c.has_room.ensures.hears

pub returns-clause-plays : goal.returns-clause-plays
returns-clause-plays g c =
    on_ok_weaker _ (λ plays. hears_plays (g.Y.Yard.setting c.args.yard.now) _ _ _ _ _ c.has_room.ensures.hears plays) c.play_once.ensures.plays
