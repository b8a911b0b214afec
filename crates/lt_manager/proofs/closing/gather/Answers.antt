use Rattle.std.proofs.Common.{◌≡◌, ◌∷◌, [], map, ap, ◌∙◌, rules}
use Rattle.std.proofs.lemmas.List.{nil_from_length, map-append}
use Rattle.lt_seq.specs.Passes.{front_of_first}
use Rattle.lt_manager.specs.Views.{view_of}
use Rattle.lt_manager.proofs.CloseLaws.{gathered_first, gathered_next, gathered_more, gathered_calls, gathered_lists}
use Rattle.lt_manager.proofs.closing.gather.Goals as goal

pub loop-other-preserved : goal.loop-other-preserved
loop-other-preserved c =
    let at = c.loop-other in
    let inside = c.other.inside in
    gathered_more c.args.table.now c.args.passes.items at.other-iterator.rest.items c.next-in-loop-other.new.self.rest.items
    (front_of_first (map view_of c.args.passes.items)) at.first c.meet.new.first (map (λ v. v.items) at.lists.items)
    (map (λ v. v.items) c.push-in-loop-other.new.self.items) c.in-Some-other.other
    record { pass = inside.pass; mine = inside.mine.items; notes = inside.notes.items }
    at.invariant c.in-Some-other.ensures.steps.0 c.other.view_is c.other.invariant c.meet.ensures.other c.meet.ensures.first.0
    c.meet.ensures.first.1
    (ap (map (λ v. v.items)) c.in_ok-push-2.ensures.items ∙ map-append (λ v. v.items) at.lists.items (inside.mine ∷ []))

pub returns-clause-calls : goal.returns-clause-calls
returns-clause-calls c =
    gathered_calls c.args.table.now c.args.passes.items c.loop-other.other-iterator.rest.items
    (front_of_first (map view_of c.args.passes.items))
    c.loop-other.first (map (λ v. v.items) c.loop-other.lists.items) c.loop-other.invariant
    (nil_from_length _ (search (rules, c.in-None.ensures.steps.0)))

pub returns-clause-lists : goal.returns-clause-lists
returns-clause-lists c =
    gathered_lists c.args.table.now c.args.passes.items c.loop-other.other-iterator.rest.items
    (front_of_first (map view_of c.args.passes.items))
    c.loop-other.first (map (λ v. v.items) c.loop-other.lists.items) c.loop-other.invariant
    (nil_from_length _ (search (rules, c.in-None.ensures.steps.0)))

pub loop-other-init : goal.loop-other-init
loop-other-init c =
    let inside = c.first.inside in
    let next : c.args.passes.items ≡ c.in-Some.first ∷ c.into_iter-other-iterator.result.rest.items = search rules in
    let lists : map (λ v. v.items) c.push.new.self.items ≡ inside.mine.items ∷ [] = search rules in
    gathered_first c.args.table.now c.args.passes.items c.into_iter-other-iterator.result.rest.items c.in-Some.first
    record { pass = inside.pass; mine = inside.mine.items; notes = inside.notes.items } (map (λ v. v.items) c.push.new.self.items)
    next c.requires.of c.requires.first c.first.view_is c.first.invariant lists

pub meet-requires-clause-other : goal.meet-requires-clause-other
meet-requires-clause-other c =
    let at = c.loop-other in
    let inside = c.other.inside in
    gathered_next c.args.table.now c.args.passes.items at.other-iterator.rest.items c.next-in-loop-other.new.self.rest.items
    (front_of_first (map view_of c.args.passes.items)) at.first at.first (map (λ v. v.items) at.lists.items)
    (map (λ v. v.items) at.lists.items) c.in-Some-other.other
    record { pass = inside.pass; mine = inside.mine.items; notes = inside.notes.items }
    at.invariant c.in-Some-other.ensures.steps.0 c.other.view_is
