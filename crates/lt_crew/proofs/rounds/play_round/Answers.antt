use Rattle.std.proofs.Common.{length, arith, sym, ap, subst}
use Rattle.std.proofs.lemmas.List.{with_items_is}
use Rattle.lt_seq.specs.Yard.{origin_of, PassView}
use Rattle.lt_crew.specs.Idle.{AreIdle}
use Rattle.lt_crew.specs.RunCrew.{ComesNearer}
use Rattle.lt_crew.proofs.ComesLaws.{comes_by}
use Rattle.lt_crew.proofs.IdleLaws.{told_idle}
use Rattle.lt_crew.proofs.rounds.play_round.Goals as goal

pub returns-clause-idle : goal.returns-clause-idle
returns-clause-idle g c =
    let origin = g.Y.Pass.Pass.origin in
    let view = g.Y.Pass.Pass.view in
    let place = origin_of (g.Y.Yard.identity c.args.yard.now) (g.Y.Yard.setting c.args.yard.now) in
    subst (λ (p : PassView). AreIdle origin view place p.front c.tell.new.workers) (sym c.tell.ensures.me)
    (told_idle origin view place (view c.deal_round.new.me).front (view c.callers_turn.new.pass).front c.deal_round.new.workers
    c.tell.new.workers c.in_ok-callers_turn.ensures.noted.front
    (record {
      resting = c.in_ok-turns.ensures.resting;
      numbers = c.in_ok-turns.ensures.numbers;
      noted = c.in_ok-turns.ensures.workers_noted;
    }) c.tell.ensures.workers)

pub returns-clause-comes : goal.returns-clause-comes
returns-clause-comes g c =
    let view = g.Y.Pass.Pass.view in
    let setting = g.Y.Yard.setting c.args.yard.now in
    let dealt = c.in_ok-turns.turns in
    let turned = c.callers_turn.new.turns in
    let whole = with_items_is dealt turned (omega (arith, c.in_ok-callers_turn.ensures.turned.0, ap length c.deref_mut.ensures.value, dealt.ok)) in
    subst (ComesNearer setting (view c.args.me.now).front (view c.tell.new.me).front c.args.registry.now c.callers_turn.new.registry
    c.args.turns.items) (sym whole)
    (subst (λ (p : PassView). ComesNearer setting (view c.args.me.now).front p.front c.args.registry.now c.callers_turn.new.registry
    c.args.turns.items turned) (sym c.tell.ensures.me)
    (comes_by setting (view c.args.me.now) (view c.deal_round.new.me) (view c.callers_turn.new.pass) c.args.registry.now
    c.callers_turn.new.registry c.args.turns.items dealt.items c.deref_mut.result.now turned c.deref_mut.ensures.value c.requires.crew c.requires.listed c.requires.left
    c.in_ok-turns.ensures.dealt c.in_ok-callers_turn.ensures.crew c.in_ok-callers_turn.ensures.turned c.in_ok-callers_turn.ensures.settles
    c.in_ok-callers_turn.ensures.paid))
