use Rattle.lt_live.proofs.LiveLaws.{plays_more}
use Rattle.lt_live.proofs.play.play_line.Goals as goal

pub returns-in-Ok-false-clause-plays : goal.returns-in-Ok-false-clause-plays
returns-in-Ok-false-clause-plays g c =
    λ yes. plays_more (g.Y.Yard.setting c.args.yard.now) _ _ _ _ _ _ c.in-Ok-false.ensures.plays (c.play_alone.ensures.plays yes)
