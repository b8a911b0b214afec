use Rattle.std.proofs.Common.{◌≡◌, ◌+◌, [], length, refl, sym, ◌∙◌, subst, arith}
use Rattle.lt_forest.specs.declared.part.Part.{Part}
use Rattle.lt_rows.specs.Handles.{knows}
use Rattle.lt_tree.proofs.ViewLaws.{rows_same, rows_on}
use Rattle.lt_locktree.proofs.GrownServed.{hangs_between}
use Rattle.lt_locktree.proofs.leaving.leave_widened.Goals as goal

pub loop-left-init : goal.loop-left-init
loop-left-init c = ((refl, refl), rows_same (knows c.args.locked.now.pass), (refl, refl, refl, refl, refl), c.requires.locked, c.requires.closed)

pub leave_out-requires : goal.leave_out-requires
leave_out-requires c =
    let s = c.loop-left.locked in
    let i = c.loop-left.invariant in
    record {
      hangs_between = subst (λ (p : Part). length p.hangs.items ≡ length p.rows.items + 1) (sym c.part.ensures)
          (hangs_between s.pass s.table.now.plan s.tree s.asked s.held s.part.rows.items s.part.hangs.items [] i.3 i.4 s.of.0.1 s.of.2);
    }

pub widen-requires-clause-locked : goal.widen-requires-clause-locked
widen-requires-clause-locked c = c.loop-left.invariant.3

pub loop-left-smaller : goal.loop-left-smaller
loop-left-smaller c = let w = c.in-Ok.ensures.wider in omega arith

pub loop-left-preserved : goal.loop-left-preserved
loop-left-preserved c =
    let i = c.loop-left.invariant in
    let k = c.widen.ensures.kept in (
      (c.widen.ensures.same.0.0 ∙ i.0.0, c.widen.ensures.same.0.1 ∙ i.0.1),
      rows_on (knows c.args.locked.now.pass) (knows c.loop-left.locked.pass) (knows c.widen.new.self.pass) i.1 c.widen.ensures.same.1,
      (k.0 ∙ i.2.0, k.1 ∙ i.2.1, k.2 ∙ i.2.2, k.3 ∙ i.2.3, k.4 ∙ i.2.4),
      c.widen.ensures.locked,
      c.widen.ensures.closed i.4,
    )

pub returns-in-Ok-Left-clause-same : goal.returns-in-Ok-Left-clause-same
returns-in-Ok-Left-clause-same c = let i = c.loop-left.invariant in (i.0, i.1)

pub returns-in-Ok-Left-clause-kept : goal.returns-in-Ok-Left-clause-kept
returns-in-Ok-Left-clause-kept c = c.loop-left.invariant.2

pub returns-in-Ok-Left-clause-locked : goal.returns-in-Ok-Left-clause-locked
returns-in-Ok-Left-clause-locked c = c.loop-left.invariant.3

pub returns-in-Ok-Left-clause-closed : goal.returns-in-Ok-Left-clause-closed
returns-in-Ok-Left-clause-closed c = c.loop-left.invariant.4
