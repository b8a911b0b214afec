use Rattle.std.proofs.Common.{refl}
use Rattle.lt_live.proofs.LiveLaws.{plays_itself, plays_hears, plays_more}
use Rattle.lt_live.proofs.play.play_out.Goals as goal

pub loop-init : goal.loop-init
loop-init g c = record {
  of = c.requires.of;
  fit = c.requires.fit;
  right = c.requires.right;
  may = c.requires.may;
  unheld = c.requires.unheld;
  plays = plays_itself (g.Y.Yard.setting c.args.yard.now) _ c.args.turn.now;
}

pub loop-preserved : goal.loop-preserved
loop-preserved g c =
    let setting = g.Y.Yard.setting c.args.yard.now in
    record {
      of = c.play_line.ensures.of;
      fit = c.play_line.ensures.fit;
      right = c.if-not-play_line.ensures.right refl;
      may = c.if-not-play_line.ensures.may refl;
      unheld = c.if-not-play_line.ensures.unheld refl;
      plays = plays_more setting _ _ _ _ _ _ (plays_hears setting _ _ _ _ _ c.loop.invariant.plays c.may_play.ensures.hears)
          (c.if-not-play_line.ensures.plays refl);
    }
