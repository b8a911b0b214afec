use Rattle.std.proofs.Common.{◌≡◌, ◌∷◌, ◌++◌, [], sym, ◌∙◌, subst, rules}
use Rattle.std.proofs.lemmas.List.{nil_from_length}
use Rattle.lt_manager.specs.Views.{IsKept}
use Rattle.lt_manager.proofs.BuildLaws.{AreMade, made_none, made_sound, made_more, made_of, made_views}
use Rattle.lt_manager.proofs.building.bare_passes.Goals as goal

pub loop-pass-init : goal.loop-pass-init
loop-pass-init c =
    let rest : c.into_iter-pass-iterator.result.rest.items ≡ c.args.passes.items = search rules in
    let none : c.new-made.result.items ≡ [] = search rules in
    subst (AreMade c.args._table.now c.args.passes.items c.into_iter-pass-iterator.result.rest.items) (sym none)
    (subst (λ l. AreMade c.args._table.now c.args.passes.items l []) (sym rest)
    (made_none c.args._table.now c.args.passes.items c.requires))

pub invariant_of-push : goal.invariant_of-push
invariant_of-push c =
    let mine : c.new.result.items ≡ [] = search rules in
    let notes : c.new-in-loop-pass.result.items ≡ [] = search rules in
    subst IsKept (λ i. record { pass = c.in-Some.pass; mine = sym mine i; notes = sym notes i })
    (made_sound c.args._table.now c.args.passes.items c.loop-pass.pass-iterator.rest.items c.next.new.self.rest.items c.loop-pass.made.items
    c.in-Some.pass c.loop-pass.invariant c.in-Some.ensures.steps.0)

pub loop-pass-preserved : goal.loop-pass-preserved
loop-pass-preserved c =
    let mine : c.new.result.items ≡ [] = search rules in
    let notes : c.new-in-loop-pass.result.items ≡ [] = search rules in
    made_more c.args._table.now c.args.passes.items c.loop-pass.pass-iterator.rest.items c.next.new.self.rest.items c.loop-pass.made.items
    c.in-Some.pass c.loop-pass.invariant c.in-Some.ensures.steps.0 c.push.new.self.items
    (c.in_ok-push.ensures.items ∙ λ i. c.loop-pass.made.items ++ record { pass = c.in-Some.pass; mine = mine i; notes = notes i } ∷ [])

pub returns-clause-of : goal.returns-clause-of
returns-clause-of c =
    made_of c.args._table.now c.args.passes.items c.loop-pass.pass-iterator.rest.items c.loop-pass.made.items c.requires
    c.loop-pass.invariant
    (nil_from_length _ (search (rules, c.in-None.ensures.steps.0)))

pub returns-clause-passes : goal.returns-clause-passes
returns-clause-passes c =
    made_views c.args._table.now c.args.passes.items c.loop-pass.pass-iterator.rest.items c.loop-pass.made.items c.requires
    c.loop-pass.invariant
    (nil_from_length _ (search (rules, c.in-None.ensures.steps.0)))
