use Rattle.std.proofs.Common.{◌≡◌, ◌∙◌, List, length, arith, sym, ap, subst, false}
use Rattle.std.specs.List.{All}
use Rattle.std.proofs.lemmas.List.{with_items_is}
use Rattle.crossbeam_queue.specs.Passes.{IsPassOf}
use Rattle.lt_seq.specs.Yard.{origin_of}
use Rattle.lt_live.specs.declared.queue.Hand.{Hand}
use Rattle.lt_live.specs.declared.worker.Worker.{Worker}
use Rattle.lt_live.specs.Ends.{AreDone}
use Rattle.lt_live.specs.Workers.{EachPair, IsHired, HasWorked}
use Rattle.lt_live.proofs.EndsLaws.{opened_split, opened_ready, all_hired, all_done}
use Rattle.lt_live.proofs.live.play_in_house.Goals as goal

pub open_house-requires-clause-of : goal.open_house-requires-clause-of
open_house-requires-clause-of g c κs within =
    let origin = g.Y.Pass.Pass.origin in
    let seen = g.Y.Pass.Pass.view in
    let place = origin_of (g.Y.Yard.identity c.args.yard.now) (g.Y.Yard.setting c.args.yard.now) in
    (opened_split origin seen place c.args.passes.items c.remove-first.result c.remove-first.new.self.items
    c.requires.plan c.requires.of c.requires.passes c.remove-first.ensures.value c.remove-first.ensures.by_index.2).first_idle.of

pub open_house-requires-clause-fit : goal.open_house-requires-clause-fit
open_house-requires-clause-fit g c κs within =
    let origin = g.Y.Pass.Pass.origin in
    let seen = g.Y.Pass.Pass.view in
    let place = origin_of (g.Y.Yard.identity c.args.yard.now) (g.Y.Yard.setting c.args.yard.now) in
    (opened_split origin seen place c.args.passes.items c.remove-first.result c.remove-first.new.self.items
    c.requires.plan c.requires.of c.requires.passes c.remove-first.ensures.value c.remove-first.ensures.by_index.2).first_idle.fit

pub hire_all-requires-clause-parts : goal.hire_all-requires-clause-parts
hire_all-requires-clause-parts g c =
    let origin = g.Y.Pass.Pass.origin in
    let seen = g.Y.Pass.Pass.view in
    let place = origin_of (g.Y.Yard.identity c.args.yard.now) (g.Y.Yard.setting c.args.yard.now) in
    let split = opened_split origin seen place c.args.passes.items c.remove-first.result c.remove-first.new.self.items
    c.requires.plan c.requires.of c.requires.passes c.remove-first.ensures.value c.remove-first.ensures.by_index.2 in
    omega (arith, ap length c.in_ok-passes.ensures, split.count, c.requires.plan.passes_most, c.requires.whole)

pub side_by_side-requires-clause-some : goal.side_by_side-requires-clause-some
side_by_side-requires-clause-some g c κs within =
    let origin = g.Y.Pass.Pass.origin in
    let seen = g.Y.Pass.Pass.view in
    let place = origin_of (g.Y.Yard.identity c.args.yard.now) (g.Y.Yard.setting c.args.yard.now) in
    let ready = opened_ready origin seen place c.args.passes.items c.remove-first.result c.open_house.new.first c.remove-first.new.self.items
    c.in_ok-passes.passes.items c.in_ok-workers.workers.items c.requires.plan c.requires.of c.requires.passes c.remove-first.ensures.value
    c.remove-first.ensures.by_index.2 c.in_ok-shared.ensures.of c.in_ok-shared.ensures.fit c.in_ok-shared.ensures.hears
    c.in_ok-passes.ensures c.in_ok-workers.ensures.passes in
    omega (arith, ap length c.deref_mut.ensures.value, ready.count, c.requires.plan.passes)

pub side_by_side-requires-clause-hired : goal.side_by_side-requires-clause-hired
side_by_side-requires-clause-hired g c κs within =
    let origin = g.Y.Pass.Pass.origin in
    let seen = g.Y.Pass.Pass.view in
    let place = origin_of (g.Y.Yard.identity c.args.yard.now) (g.Y.Yard.setting c.args.yard.now) in
    let ready = opened_ready origin seen place c.args.passes.items c.remove-first.result c.open_house.new.first c.remove-first.new.self.items
    c.in_ok-passes.passes.items c.in_ok-workers.workers.items c.requires.plan c.requires.of c.requires.passes c.remove-first.ensures.value
    c.remove-first.ensures.by_index.2 c.in_ok-shared.ensures.of c.in_ok-shared.ensures.fit c.in_ok-shared.ensures.hears
    c.in_ok-passes.ensures c.in_ok-workers.ensures.passes in
    subst (All (IsHired origin seen place (IsPassOf c.args.queue.now))) (sym c.deref_mut.ensures.value)
    (all_hired origin seen place (IsPassOf c.args.queue.now) c.in_ok-workers.workers.items 0 ready.idle c.in_ok-workers.ensures.fresh)

pub end_all-requires-clause-some : goal.end_all-requires-clause-some
end_all-requires-clause-some g c κs within =
    let origin = g.Y.Pass.Pass.origin in
    let seen = g.Y.Pass.Pass.view in
    let place = origin_of (g.Y.Yard.identity c.args.yard.now) (g.Y.Yard.setting c.args.yard.now) in
    let ready = opened_ready origin seen place c.args.passes.items c.remove-first.result c.open_house.new.first c.remove-first.new.self.items
    c.in_ok-passes.passes.items c.in_ok-workers.workers.items c.requires.plan c.requires.of c.requires.passes c.remove-first.ensures.value
    c.remove-first.ensures.by_index.2 c.in_ok-shared.ensures.of c.in_ok-shared.ensures.fit c.in_ok-shared.ensures.hears
    c.in_ok-passes.ensures c.in_ok-workers.ensures.passes in
    let len : length c.side_by_side.new.workers ≡ length c.in_ok-workers.workers.items =
    (c.side_by_side.ensures).0 ∙ ap length c.deref_mut.ensures.value in
    let is = with_items_is c.in_ok-workers.workers c.side_by_side.new.workers (omega (arith, len, c.in_ok-workers.workers.ok)) in
    omega (arith, ap length is, len, ready.count, c.requires.plan.passes)

pub end_all-requires-clause-count : goal.end_all-requires-clause-count
end_all-requires-clause-count g c κs within =
    let origin = g.Y.Pass.Pass.origin in
    let seen = g.Y.Pass.Pass.view in
    let place = origin_of (g.Y.Yard.identity c.args.yard.now) (g.Y.Yard.setting c.args.yard.now) in
    let ready = opened_ready origin seen place c.args.passes.items c.remove-first.result c.open_house.new.first c.remove-first.new.self.items
    c.in_ok-passes.passes.items c.in_ok-workers.workers.items c.requires.plan c.requires.of c.requires.passes c.remove-first.ensures.value
    c.remove-first.ensures.by_index.2 c.in_ok-shared.ensures.of c.in_ok-shared.ensures.fit c.in_ok-shared.ensures.hears
    c.in_ok-passes.ensures c.in_ok-workers.ensures.passes in
    let len : length c.side_by_side.new.workers ≡ length c.in_ok-workers.workers.items =
    (c.side_by_side.ensures).0 ∙ ap length c.deref_mut.ensures.value in
    let is = with_items_is c.in_ok-workers.workers c.side_by_side.new.workers (omega (arith, len, c.in_ok-workers.workers.ok)) in
    ap length is ∙ len ∙ ready.count

pub end_all-requires-clause-parts : goal.end_all-requires-clause-parts
end_all-requires-clause-parts g c κs within =
    let origin = g.Y.Pass.Pass.origin in
    let seen = g.Y.Pass.Pass.view in
    let place = origin_of (g.Y.Yard.identity c.args.yard.now) (g.Y.Yard.setting c.args.yard.now) in
    let ready = opened_ready origin seen place c.args.passes.items c.remove-first.result c.open_house.new.first c.remove-first.new.self.items
    c.in_ok-passes.passes.items c.in_ok-workers.workers.items c.requires.plan c.requires.of c.requires.passes c.remove-first.ensures.value
    c.remove-first.ensures.by_index.2 c.in_ok-shared.ensures.of c.in_ok-shared.ensures.fit c.in_ok-shared.ensures.hears
    c.in_ok-passes.ensures c.in_ok-workers.ensures.passes in
    let parts = ap (λ (h : Hand). h.parts) c.in_ok-workers.ensures.ticket in
    omega (arith, parts, ready.all, c.requires.plan.passes_most, c.requires.whole)

pub end_all-requires-clause-whole : goal.end_all-requires-clause-whole
end_all-requires-clause-whole g c κs within =
    let origin = g.Y.Pass.Pass.origin in
    let seen = g.Y.Pass.Pass.view in
    let place = origin_of (g.Y.Yard.identity c.args.yard.now) (g.Y.Yard.setting c.args.yard.now) in
    let ready = opened_ready origin seen place c.args.passes.items c.remove-first.result c.open_house.new.first c.remove-first.new.self.items
    c.in_ok-passes.passes.items c.in_ok-workers.workers.items c.requires.plan c.requires.of c.requires.passes c.remove-first.ensures.value
    c.remove-first.ensures.by_index.2 c.in_ok-shared.ensures.of c.in_ok-shared.ensures.fit c.in_ok-shared.ensures.hears
    c.in_ok-passes.ensures c.in_ok-workers.ensures.passes in
    let len : length c.side_by_side.new.workers ≡ length c.in_ok-workers.workers.items =
    (c.side_by_side.ensures).0 ∙ ap length c.deref_mut.ensures.value in
    let is = with_items_is c.in_ok-workers.workers c.side_by_side.new.workers (omega (arith, len, c.in_ok-workers.workers.ok)) in
    let parts = ap (λ (h : Hand). h.parts) c.in_ok-workers.ensures.ticket in
    omega (arith, parts, ap length is, len, ready.count, ready.all, c.requires.plan.passes_most, c.requires.whole)

pub end_all-requires-clause-done : goal.end_all-requires-clause-done
end_all-requires-clause-done g c κs within =
    let origin = g.Y.Pass.Pass.origin in
    let seen = g.Y.Pass.Pass.view in
    let place = origin_of (g.Y.Yard.identity c.args.yard.now) (g.Y.Yard.setting c.args.yard.now) in
    let ready = opened_ready origin seen place c.args.passes.items c.remove-first.result c.open_house.new.first c.remove-first.new.self.items
    c.in_ok-passes.passes.items c.in_ok-workers.workers.items c.requires.plan c.requires.of c.requires.passes c.remove-first.ensures.value
    c.remove-first.ensures.by_index.2 c.in_ok-shared.ensures.of c.in_ok-shared.ensures.fit c.in_ok-shared.ensures.hears
    c.in_ok-passes.ensures c.in_ok-workers.ensures.passes in
    let len : length c.side_by_side.new.workers ≡ length c.in_ok-workers.workers.items =
    (c.side_by_side.ensures).0 ∙ ap length c.deref_mut.ensures.value in
    let is = with_items_is c.in_ok-workers.workers c.side_by_side.new.workers (omega (arith, len, c.in_ok-workers.workers.ok)) in
    let goes = subst (All (λ (w : Worker g.row.Y-Pass.Denot). w.stopped ≡ false)) (c.deref.ensures.value ∙ is)
    (c.any_stopped.ensures c.if-any_stopped.false) in
    let has_worked = HasWorked origin seen place (IsPassOf c.args.queue.now) c.args.lines.now in
    subst (AreDone origin seen place (IsPassOf c.args.queue.now) c.args.lines.now 0) (sym is)
    (all_done origin seen place (IsPassOf c.args.queue.now) c.args.lines.now c.in_ok-workers.workers.items c.side_by_side.new.workers 0 ready.idle
    c.in_ok-workers.ensures.fresh
    (subst (λ (ws : List (Worker g.row.Y-Pass.Denot)). EachPair has_worked ws c.side_by_side.new.workers)
    c.deref_mut.ensures.value c.side_by_side.ensures) goes)
