use Rattle.std.proofs.Common.{◌<◌, ◌++◌, ℕ, List, length, sym, subst}
use Rattle.lt_rows.specs.declared.row_plan.RowPlan.{RowPlan}
use Rattle.lt_rows.specs.declared.image.RowImage.{RowImage}
use Rattle.lt_rows.specs.declared.view.View.{View}
use Rattle.lt_rows.specs.Handles.{knows}
use Rattle.lt_locktree.specs.EndedBuffers.{HoldsEnds, LaysPairs, PlansEnd, spare_rows}
use Rattle.lt_locktree.proofs.EndedBuffers.{ends_on, small_ends}
use Rattle.lt_locktree.proofs.PairsLaid.{lays_pairs}
use Rattle.lt_locktree.proofs.PairsPlanned.{AllSmall}
use Rattle.lt_locktree.proofs.buffer_end.end_buffer.Goals as goal
use Rattle.lt_locktree.proofs.buffer_end.end_buffer.Goals.{In-Ok}

held : (c : In-Ok) → HoldsEnds (knows c.take_ends.new.pass) c.args.asking.now.tree c.args.chain.items (length c.args.pairs.now) c.in-Ok.ends
held c =
    subst (λ (rows : List ℕ). HoldsEnds (knows c.take_ends.new.pass) c.args.asking.now.tree rows (length c.args.pairs.now) c.in-Ok.ends)
    c.deref.ensures.value c.in-Ok.ensures.held

pub plan_end-requires-clause-small : goal.plan_end-requires-clause-small
plan_end-requires-clause-small c =
    subst (λ (rows : List ℕ). AllSmall (spare_rows c.in-Ok.ends.spare ++ rows)) (sym c.deref-2.ensures.value)
    (small_ends c.take_ends.new.pass c.args.asking.now.tree c.args.chain.items (length c.args.pairs.now) c.in-Ok.ends
    (held (goal.at.plan_end-requires-clause-small c).In-Ok))

pub commit_end-requires-clause-lays : goal.commit_end-requires-clause-lays
commit_end-requires-clause-lays c =
    let a = c.args.asking.now in
    let v : View = knows c.take_ends.new.pass in
    let lt = subst (λ (p : RowPlan). a.tree < p.trees) (sym c.in-Ok.ensures.of.0.1) c.requires.tree in
    subst (λ (plan : List RowImage). LaysPairs v plan a.tree c.args.score c.args.chain.items c.args.pairs.now)
    (sym c.deref-in-Ok-plan_end.ensures.value)
    (lays_pairs v a.tree c.args.score a.range c.args.chain.items c.args.pairs.now c.in-Ok-plan_end.plan.items c.in-Ok.ends lt
    (held (goal.at.commit_end-requires-clause-lays c).In-Ok)
    (subst (λ (rows : List ℕ). PlansEnd a.tree a.range c.args.score rows c.args.pairs.now c.in-Ok.ends.anchor c.in-Ok.ends.spare
    c.in-Ok-plan_end.plan.items)
    c.deref-2.ensures.value c.in-Ok-plan_end.ensures))

pub commit_end-requires-clause-ends : goal.commit_end-requires-clause-ends
commit_end-requires-clause-ends c =
    let e = c.requires.ends in (
      e.0,
      e.1,
      ends_on (knows c.args.pass.now) (knows c.take_ends.new.pass) c.args.asking.now.tree e.0 e.1 c.args.chain.items c.args.score
          c.args.pairs.now
          c.args.event.now c.requires.chain.backs c.in-Ok.ensures.kept c.in-Ok.ensures.only e.2,
    )
