use Rattle.std.proofs.Common.{◌≡◌, ◌∷◌, ◌++◌, [], Vec, Global, List, length, drop, ap, ◌∙◌, subst}
use Rattle.std.specs.Prelude.{reverse, slice_index}
use Rattle.std.proofs.lemmas.Result.{IfOk-weaker}
use Rattle.lt_forest.specs.declared.part.PartRow.{PartRow}
use Rattle.lt_rows.specs.declared.image.RowImage.{RowImage}
use Rattle.lt_locktree.specs.EndedBuffers.{rows_with, PlansGiven}
use Rattle.lt_locktree.specs.EndingPlans.{PlansTree}
use Rattle.lt_locktree.specs.EndingRows.{stood_in}
use Rattle.lt_locktree.specs.Given.{Chains, given_to}
use Rattle.lt_locktree.proofs.PairsPlanned.{rest_is, plans_given}
use Rattle.lt_locktree.proofs.buffer_plan.plan_given.Goals as goal

pub returns : goal.returns
returns c =
    let a = c.args.asking.now in
    let pool : RowImage = c.args.pool.now in
    let over_is : c.in_ok-over.over.items ≡ rows_with a.range (drop (length c.args.pairs.now) c.args.rows.now) =
    c.in_ok-over.ensures ∙ ap (rows_with a.range) (rest_is c.args.rows.now (length c.args.pairs.now)) in
    let chains : Chains [] c.chain.new.images.items c.in_ok-link.link (reverse c.in_ok-over.over.items) (slice_index pool.words 17) =
    subst (λ (x : List RowImage × List PartRow). Chains x.0 c.chain.new.images.items c.in_ok-link.link (reverse x.1)
    (slice_index pool.words 17))
    (λ j. (c.new-given.ensures.items j, c.deref.ensures.value j)) c.in_ok-link.ensures in
    let images : c.extend_from_slice.new.self.items ≡ given_to pool c.in_ok-link.link ∷ c.chain.new.images.items =
    c.in_ok-extend_from_slice.ensures.items
    ∙ ((λ j. c.in_ok-push.ensures.items j ++ c.deref-2.ensures.value j)
    ∙ (λ j. (c.new-images.ensures.items j ++ c.with_link.ensures j ∷ []) ++ c.chain.new.images.items)) in
    IfOk-weaker c.plan_pairs.result
    (λ (plan : Vec RowImage Global). PlansTree a.tree a.range c.args.anchor.now c.args.score c.extend_from_slice.new.self.items plan.items
    (stood_in c.args.rows.now c.args.pairs.now))
    (λ (plan : Vec RowImage Global). PlansGiven a.tree a.range c.args.anchor.now pool c.args.score c.args.rows.now c.args.pairs.now
    plan.items)
    (λ plan h. plans_given a.tree a.range c.args.anchor.now pool c.args.score c.args.rows.now c.args.pairs.now c.in_ok-over.over.items
    c.chain.new.images.items c.extend_from_slice.new.self.items plan.items c.in_ok-link.link over_is chains images h)
    c.plan_pairs.ensures
