use Rattle.lt_live.proofs.LiveLaws.{plays_itself, plays_hears, plays_more}
use Rattle.lt_live.proofs.alone.play_alone.Goals as goal

pub loop-init : goal.loop-init
loop-init g c =
    let setting = g.Y.Yard.setting c.args.yard.now in
    record {
      of = c.gather-house.ensures.of;
      fit = c.gather-house.ensures.fit;
      all = c.gather-house.ensures.all;
      may = c.requires.may;
      plays = plays_hears setting _ _ _ _ _
          (plays_hears setting _ _ _ _ _ (plays_itself setting _ c.args.turn.now) c.give_way-house.ensures.hears) c.gather-house.ensures.hears;
    }

pub returns-then-went-clause-plays : goal.returns-then-went-clause-plays
returns-then-went-clause-plays g c =
    let setting = g.Y.Yard.setting c.args.yard.now in
    λ yes. plays_hears setting _ _ _ _ _ (plays_more setting _ _ _ _ _ _ c.loop.invariant.plays c.in-Ok.ensures.plays)
    c.leave-in-loop.ensures.hears

pub loop-preserved : goal.loop-preserved
loop-preserved g c =
    let setting = g.Y.Yard.setting c.args.yard.now in
    record {
      of = c.gather-house-in-loop.ensures.of;
      fit = c.gather-house-in-loop.ensures.fit;
      all = c.gather-house-in-loop.ensures.all;
      may = c.in-Ok.ensures.may;
      plays = plays_hears setting _ _ _ _ _
          (plays_hears setting _ _ _ _ _
          (plays_hears setting _ _ _ _ _ (plays_more setting _ _ _ _ _ _ c.loop.invariant.plays c.in-Ok.ensures.plays)
          c.leave-in-loop.ensures.hears)
          c.sleep-house.ensures.hears)
          c.gather-house-in-loop.ensures.hears;
    }
