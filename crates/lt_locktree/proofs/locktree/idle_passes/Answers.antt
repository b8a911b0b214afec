use Rattle.std.proofs.Common.{◌≡◌, ◌++◌, [], map, ap, sym, ◌∙◌, subst, rules}
use Rattle.std.specs.List.{All}
use Rattle.std.proofs.lemmas.List.{append-nil, nil_from_length}
use Rattle.std.proofs.lemmas.List.Elements.{All-head, All-rest}
use Rattle.lt_locktree.proofs.OpeningLaws.{IsIdle, new_idle, rest_moves}
use Rattle.lt_locktree.proofs.locktree.idle_passes.Goals as goal

pub loop-pass-init : goal.loop-pass-init
loop-pass-init c = (search rules, subst (All IsIdle) (search rules) (new_idle c.args._table.now c.args.rows.items c.requires))

pub invariant_of-push : goal.invariant_of-push
invariant_of-push c =
    let one = All-head IsIdle c.in-Some.pass c.next.new.self.rest.items (subst (All IsIdle) c.in-Some.ensures.steps.0 c.loop-pass.invariant.1) in
    record { idle = one.0; below = one.1 }

pub loop-pass-preserved : goal.loop-pass-preserved
loop-pass-preserved c =
    let i = c.loop-pass.invariant in
    let steps = c.in-Some.ensures.steps.0 in (
      rest_moves c.loop-pass.passes.items _ c.push.new.self.items _ _ c.in_ok-push.ensures.items steps ∙ i.0,
      All-rest IsIdle c.in-Some.pass c.next.new.self.rest.items _ steps i.1,
    )

pub returns : goal.returns
returns c =
    let none : c.loop-pass.pass-iterator.rest.items ≡ [] = nil_from_length _ (search (rules, c.in-None.ensures.steps.0)) in
    sym (append-nil (map (λ p. p.pass) c.loop-pass.passes.items)) ∙ (ap (λ l. map (λ p. p.pass) c.loop-pass.passes.items ++ l) (sym none) ∙ c.loop-pass.invariant.0)
