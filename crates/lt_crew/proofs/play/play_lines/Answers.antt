use Rattle.std.proofs.Common.{rules, [], inr, length, refl, arith}
use Rattle.lt_runner.proofs.PlaysOnLaws.{plays_not, plays_then, ready_still}
use Rattle.lt_runner.proofs.NoteLaws.{keeps_notes_itself, keeps_notes_then}
use Rattle.lt_runner.proofs.SpendLaws.{spends_nothing, spends_then}
use Rattle.lt_crew.proofs.StillLaws.{within_more, not_stuck_first}
use Rattle.lt_crew.proofs.play.play_lines.Goals as goal

pub loop-line-init : goal.loop-line-init
loop-line-init g c = record {
  of = search rules;
  ready = search rules;
  noted = keeps_notes_itself (g.Y.Yard.setting c.args.yard.now) (g.Y.Pass.Pass.view c.args.pass.now) (g.Y.Pass.Pass.view c.args.pass.now) refl;
  fit = search rules;
  plays = plays_not (g.Y.Yard.setting c.args.yard.now) [] (g.Y.Pass.Pass.view c.args.pass.now) c.args.turn.now c.requires.ready.sound;
  spends = spends_nothing (g.Y.Yard.setting c.args.yard.now) (g.Y.Pass.Pass.view c.args.pass.now) c.args.turn.now;
  lines = omega arith;
  stuck = λ e. refl;
  within = inr (omega arith);
}

pub loop-line-preserved : goal.loop-line-preserved
loop-line-preserved g c =
    let setting = g.Y.Yard.setting c.args.yard.now in
    let next = c.in-Some.ensures.some in
    record {
      of = search rules;
      ready = ready_still setting [] _ _ _ _ c.loop-line.invariant.ready c.in_ok-play_once.ensures.plays;
      noted = keeps_notes_then setting _ _ _ c.loop-line.invariant.noted c.in_ok-play_once.ensures.noted;
      fit = search rules;
      plays = plays_then setting [] _ _ _ _ _ _ c.loop-line.invariant.plays c.in_ok-play_once.ensures.plays;
      spends = spends_then setting _ _ _ _ _ _ c.loop-line.invariant.spends c.in_ok-play_once.ensures.spends;
      lines = omega (arith, c.loop-line.invariant.lines, c.in_ok-play_once.ensures.on.lines);
      stuck = not_stuck_first c.args.turn.now c.loop-line.turn c.play_once.new.turn
          (c.may_go.ensures.goes (search rules)) c.loop-line.invariant.stuck;
      within = within_more (length c.args.turn.now.turn.lines) c.loop-line._line c.loop-line.turn c.play_once.new.turn next.0 next.1
          (c.may_go.ensures.goes (search rules)) next.2 c.loop-line.invariant.fit.over
          c.loop-line.invariant.within c.in_ok-play_once.ensures.on;
    }
