use Rattle.std.proofs.Common.{◌≡◌, ◌<◌, List, [], Err, false, length, refl, sym, ap, subst, ◌∙◌, arith}
use Rattle.lt_runner.specs.declared.release.Release.{Release}
use Rattle.lt_runner.specs.TurnView.{Turn, Seat}
use Rattle.lt_runner.specs.Turn.{rest_of_release}
use Rattle.lt_runner.specs.PlaysOn.{IsFit, PlaysOn, UnlessShort}
use Rattle.lt_runner.proofs.PlaysOnLaws.{plays_not, plays_then, ready_still, unless_then, length_rest}
use Rattle.lt_runner.specs.Work.{Spends}
use Rattle.lt_runner.specs.PlaysAlone.{IsCaused, IsFreedAtOnce}
use Rattle.lt_runner.proofs.NoteLaws.{keeps_notes_itself, keeps_notes_then}
use Rattle.lt_runner.proofs.PlayMoveLaws.{is_caused_since, with_rest, may_still}
use Rattle.lt_runner.proofs.SpendLaws.{spends_nothing, spends_then}
use Rattle.lt_runner.proofs.turn.Turn.release.Goals as goal

pub loop-free-init : goal.loop-free-init
loop-free-init g c =
    let setting = g.Y.Yard.setting c.args.yard.now in
    record {
      of = c.requires.of;
      ready = c.requires.ready;
      fit = c.requires.fit;
      turn = refl;
      left = omega arith;
      plays = plays_not setting [] (g.Y.Pass.Pass.view c.args.pass.now) c.args.self.now c.requires.ready.sound;
      free = λ e. e;
      listed = refl;
      noted = keeps_notes_itself setting (g.Y.Pass.Pass.view c.args.pass.now) (g.Y.Pass.Pass.view c.args.pass.now) refl;
      spends = spends_nothing setting (g.Y.Pass.Pass.view c.args.pass.now) c.args.self.now;
      alone = λ may. (may, refl);
    }

pub returns-in-Err-clause-plays : goal.returns-in-Err-clause-plays
returns-in-Err-clause-plays g c =
    let setting = g.Y.Yard.setting c.args.yard.now in
    let view = g.Y.Pass.Pass.view in
    let i = c.loop-free.invariant in
    let fault = c.in-Err.fault in
    let was = c.args.self.now in
    let between = c.loop-free.self in
    let is = c.free.new.self in
    let old = view c.args.pass.now in
    let before = view c.loop-free.pass in
    let new = view c.free.new.pass in
    unless_then (Err fault) (λ (p : PlaysOn setting [] before new between is). plays_then setting [] old before new was between is i.plays p)
    (subst (λ r. UnlessShort r (PlaysOn setting [] before new between is)) c.in-Err.is c.free.ensures.plays)

pub loop-free-preserved : goal.loop-free-preserved
loop-free-preserved g c =
    let setting = g.Y.Yard.setting c.args.yard.now in
    let view = g.Y.Pass.Pass.view in
    let i = c.loop-free.invariant in
    let moved = c.in-Ok.field-0 in
    let was = c.args.self.now in
    let between = c.loop-free.self in
    let is = c.free.new.self in
    let old = view c.args.pass.now in
    let before = view c.loop-free.pass in
    let new = view c.free.new.pass in
    let rest = rest_of_release between.turn.releases in
    let plays : PlaysOn setting [] before new between is = subst (λ r. UnlessShort r (PlaysOn setting [] before new between is)) c.in-Ok.is c.free.ensures.plays in
    let freed : is ≡ record between { turn = record between.turn { releases = rest }; busy = false } = c.in-Ok.ensures.freed in
    let turn_is : is.turn ≡ record was.turn { releases = rest } = ap (λ (s : Seat). s.turn) freed ∙ ap (λ (t : Turn). record t { releases = rest }) i.turn in
    let releases_are : is.turn.releases ≡ rest = ap (λ (t : Turn). t.releases) turn_is in
    let some : 0 < length between.turn.releases = omega (arith, i.left, c.loop-free-test.true, c.frees_left-free-end.ensures) in
    let long = length_rest between.turn.releases some in
    record {
      of = c.free.ensures.of;
      ready = ready_still setting [] before new between is i.ready plays;
      fit = subst (λ r. UnlessShort r (IsFit setting is)) c.in-Ok.is c.free.ensures.fit;
      turn = turn_is ∙ ap (λ (rs : List Release). record was.turn { releases = rs }) (sym releases_are);
      left = omega (arith, i.left, long, ap length releases_are);
      plays = plays_then setting [] old before new was between is i.plays plays;
      free = λ e. ap (λ (s : Seat). s.busy) freed;
      listed = ap (λ (s : Seat). s.listed) freed ∙ i.listed;
      noted = keeps_notes_then setting old before new i.noted c.free.ensures.noted;
      spends = spends_then setting old before new was between is i.spends
          (subst (λ r. UnlessShort r (Spends setting before new between is)) c.in-Ok.is c.free.ensures.spends);
      alone = λ may.
          let some = c.in-Some.ensures.some in
          let here = i.alone may in
          let front = subst (IsFreedAtOnce setting before new between.turn c.in-Some.release) c.in-Ok.is (c.free.ensures.alone here.0) in
          let own : is.turn.txn ≡ between.turn.txn = ap (λ (s : Seat). s.turn.txn) freed in (
            may_still setting before new between.turn is.turn c.in-Some.release some.0 some.1 releases_are plays.goes plays.rights _ front here.0,
            with_rest setting before new between.turn is.turn c.in-Some.release some.0 some.1 releases_are own front ∙ here.1,
          );
    }

pub returns-in-Err-clause-caused : goal.returns-in-Err-clause-caused
returns-in-Err-clause-caused g c =
    let setting = g.Y.Yard.setting c.args.yard.now in
    let view = g.Y.Pass.Pass.view in
    let i = c.loop-free.invariant in
    let fault = c.in-Err.fault in
    let before = view c.loop-free.pass in
    let new = view c.free.new.pass in
    is_caused_since setting (view c.args.pass.now) before new fault i.plays.goes i.plays.rights (subst (IsCaused setting before new) c.in-Err.is c.free.ensures.caused)

pub returns-in-Err-clause-noted : goal.returns-in-Err-clause-noted
returns-in-Err-clause-noted g c =
    let setting = g.Y.Yard.setting c.args.yard.now in
    let view = g.Y.Pass.Pass.view in
    keeps_notes_then setting (view c.args.pass.now) (view c.loop-free.pass) (view c.free.new.pass) c.loop-free.invariant.noted c.free.ensures.noted

pub returns-in-Err-clause-spends : goal.returns-in-Err-clause-spends
returns-in-Err-clause-spends g c =
    let setting = g.Y.Yard.setting c.args.yard.now in
    let view = g.Y.Pass.Pass.view in
    let i = c.loop-free.invariant in
    let fault = c.in-Err.fault in
    let was = c.args.self.now in
    let between = c.loop-free.self in
    let is = c.free.new.self in
    let old = view c.args.pass.now in
    let before = view c.loop-free.pass in
    let new = view c.free.new.pass in
    unless_then (Err fault) (λ (s : Spends setting before new between is). spends_then setting old before new was between is i.spends s)
    (subst (λ r. UnlessShort r (Spends setting before new between is)) c.in-Err.is c.free.ensures.spends)
