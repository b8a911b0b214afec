use Rattle.std.proofs.Common.{◌∙◌, ◌∷◌, List, length, map, arith, refl, sym, ap, subst}
use Rattle.std.proofs.lemmas.List.{with_items_is}
use Rattle.lt_seq.specs.Yard.{origin_of, PassView}
use Rattle.lt_crew.specs.declared.worker.Worker.{Worker}
use Rattle.lt_crew.specs.Idle.{AreIdle}
use Rattle.lt_crew.specs.Workers.{IsCaller}
use Rattle.lt_crew.proofs.PassesLaws.{parted, parted_caller, parted_idle, all_of}
use Rattle.lt_crew.proofs.PlayedCrewLaws.{played_crew}
use Rattle.lt_crew.proofs.playing.play_crew.Goals as goal

pub play_rounds-requires-clause-caller : goal.play_rounds-requires-clause-caller
play_rounds-requires-clause-caller g c κs within =
    let origin = g.Y.Pass.Pass.origin in
    let view = g.Y.Pass.Pass.view in
    let setting = g.Y.Yard.setting c.args.yard.now in
    let place = origin_of (g.Y.Yard.identity c.args.yard.now) setting in
    let me = c.remove-me.result in
    let workers = c.in_ok-workers.workers.items in
    let parts = parted origin view place c.args.passes.items setting.plan.passes me c.remove-me.new.self.items workers refl c.requires.of
    c.requires.passes c.requires.several c.remove-me.ensures.value c.remove-me.ensures.by_index.2 c.in_ok-workers.ensures in
    subst (λ (ws : List (Worker g.row.Y-Pass.Denot)). IsCaller setting (length ws) (view me)) (sym c.deref_mut.ensures.value)
    (parted_caller origin view place me workers c.requires.plan c.requires.several parts)

pub play_rounds-requires-clause-idle : goal.play_rounds-requires-clause-idle
play_rounds-requires-clause-idle g c κs within =
    let origin = g.Y.Pass.Pass.origin in
    let view = g.Y.Pass.Pass.view in
    let setting = g.Y.Yard.setting c.args.yard.now in
    let place = origin_of (g.Y.Yard.identity c.args.yard.now) setting in
    let me = c.remove-me.result in
    let workers = c.in_ok-workers.workers.items in
    let parts = parted origin view place c.args.passes.items setting.plan.passes me c.remove-me.new.self.items workers refl c.requires.of
    c.requires.passes c.requires.several c.remove-me.ensures.value c.remove-me.ensures.by_index.2 c.in_ok-workers.ensures in
    subst (AreIdle origin view place (view me).front) (sym c.deref_mut.ensures.value) (parted_idle origin view place me workers parts)

pub take_all_notes-requires-clause-of : goal.take_all_notes-requires-clause-of
take_all_notes-requires-clause-of g c κs within =
    let origin = g.Y.Pass.Pass.origin in
    let view = g.Y.Pass.Pass.view in
    let place = origin_of (g.Y.Yard.identity c.args.yard.now) (g.Y.Yard.setting c.args.yard.now) in
    let me = c.play_rounds.new.me in
    let workers = c.play_rounds.new.workers in
    let whole = with_items_is c.in_ok-workers.workers workers
    (omega (arith, c.play_rounds.auto.workers, ap length c.deref_mut.ensures.value, c.in_ok-workers.workers.ok)) in
    all_of origin view place me workers c.deref_mut-2.result.now c.in_ok-turns.ensures.of c.in_ok-turns.ensures.idle
    (c.deref_mut-2.ensures.value ∙ c.in_ok-all.ensures
    ∙ ap (λ (ws : List (Worker g.row.Y-Pass.Denot)). me ∷ map (λ w. w.pass) ws) whole)

pub returns : goal.returns
returns g c =
    let origin = g.Y.Pass.Pass.origin in
    let view = g.Y.Pass.Pass.view in
    let setting = g.Y.Yard.setting c.args.yard.now in
    let place = origin_of (g.Y.Yard.identity c.args.yard.now) setting in
    let parts = parted origin view place c.args.passes.items setting.plan.passes c.remove-me.result c.remove-me.new.self.items
    c.in_ok-workers.workers.items refl c.requires.of c.requires.passes c.requires.several c.remove-me.ensures.value
    c.remove-me.ensures.by_index.2 c.in_ok-workers.ensures in
    let me = c.play_rounds.new.me in
    let workers = c.play_rounds.new.workers in
    let whole = with_items_is c.in_ok-workers.workers workers
    (omega (arith, c.play_rounds.auto.workers, ap length c.deref_mut.ensures.value, c.in_ok-workers.workers.ok)) in
    let new = c.take_all_notes.new.passes in
    let emptied = c.in_ok-notes.ensures.passes in
    let put = with_items_is c.in_ok-all.all new
    (omega (arith, emptied.0, ap length c.deref_mut-2.ensures.value, c.in_ok-all.all.ok)) in
    played_crew origin view place c.args.turns.items _ (view c.remove-me.result).front me workers c.deref_mut-2.result.now new
    c.in_ok-turns.ensures.caller c.in_ok-turns.ensures.noted c.in_ok-turns.ensures.idle
    (ap (λ (p : PassView). p.front) parts.first) c.in_ok-turns.ensures.crew c.in_ok-turns.ensures.over c.in_ok-turns.ensures.few
    (c.deref_mut-2.ensures.value ∙ c.in_ok-all.ensures
    ∙ ap (λ (ws : List (Worker g.row.Y-Pass.Denot)). me ∷ map (λ w. w.pass) ws) whole)
    emptied put c.in_ok-notes.ensures.all c.in_ok-notes.ensures.order
