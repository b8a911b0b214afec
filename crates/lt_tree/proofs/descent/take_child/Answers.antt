use Rattle.std.proofs.Common.{◌<◌, ℕ, ◌+◌, ◌-◌, refl, sym, ap, ◌∙◌, subst, arith}
use Rattle.lt_rows.specs.declared.row_plan.RowPlan.{RowPlan}
use Rattle.lt_rows.specs.declared.view.View.{View}
use Rattle.lt_rows.specs.Views.{rows_of, row_at, words_of}
use Rattle.lt_rows.specs.Handles.{knows}
use Rattle.lt_tree.specs.States.{image_at}
use Rattle.lt_tree.proofs.ViewLaws.{seized_row, rows_seized}
use Rattle.lt_tree.proofs.SeenLaws.{seen_met, seen_rows, seen_on}
use Rattle.lt_tree.proofs.DownLaws.{further, child_free}
use Rattle.lt_tree.proofs.StepLaws.{took_child, path_taken, taken_free}
use Rattle.lt_tree.proofs.PathLaws.{path_pair, pair_path}
use Rattle.lt_tree.proofs.ShowsLaws.{stays_same}
use Rattle.lt_tree.proofs.HeldImages.{here_seized, path_image, stays_now, stays_before}
use Rattle.lt_tree.proofs.descent.take_child.Goals as goal

pub overflow_cast-row : goal.overflow_cast-row
overflow_cast-row c =
    let few = c.args.table.now.sized.0.3 in
    let t = subst (λ (p : RowPlan). c.args.tree < p.trees) (sym c.requires.of.1) c.requires.tree in
    let f : c.args.link - 1 < rows_of c.args.table.now.plan =
    subst (λ (p : RowPlan). c.args.link - 1 < rows_of p) c.requires.of.1 (further _ _ _ _ _ _ _ c.requires.descends.1 t c.requires.some).1 in
    omega arith

pub seize-requires-clause-row : goal.seize-requires-clause-row
seize-requires-clause-row c =
    let t = subst (λ (p : RowPlan). c.args.tree < p.trees) (sym c.requires.of.1) c.requires.tree in (
      subst (λ (p : RowPlan). c.args.link - 1 < rows_of p) c.requires.of.1 (further _ _ _ _ _ _ _ c.requires.descends.1 t c.requires.some).1,
      child_free _ _ _ _ _ _ _ c.requires.descends.1 t c.requires.some,
    )

pub returns-in-HeldBy-clause-sees : goal.returns-in-HeldBy-clause-sees
returns-in-HeldBy-clause-sees c = seen_met (knows c.args.pass.now) (knows c.seize.new.pass) c.in-HeldBy.ensures.seized.0

pub is_level-level-requires-clause-here : goal.is_level-level-requires-clause-here
is_level-level-requires-clause-here c =
    let t = subst (λ (p : RowPlan). c.args.tree < p.trees) (sym c.requires.of.1) c.requires.tree in
    here_seized (knows c.args.pass.now) (knows c.seize.new.pass) c.args.tree c.args.asked.now (image_at (knows c.args.pass.now) c.args.here)
    c.args.link c.args.steps c.requires.descends.0 c.requires.descends.1 t c.requires.some c.in-Taken.ensures.seized

pub is_level-level-requires-clause-row : goal.is_level-level-requires-clause-row
is_level-level-requires-clause-row c =
    let s = seized_row (c.args.link - 1) (knows c.args.pass.now) (knows c.seize.new.pass) c.in-Taken.ensures.seized in
    (s.0, s.1)

pub returns-then-level-clause-sees : goal.returns-then-level-clause-sees
returns-then-level-clause-sees c =
    let l = c.is_level-level.ensures in
    let x : View = knows c.is_level-level.new.pass in
    let t = took_child {w = x} {child = image_at x (c.args.link - 1)} c.args.table.now.plan c.requires.tree c.requires.of.1 c.requires.descends.1
    c.requires.some c.in-Taken.ensures.seized l.same refl (ap (λ (u : View). words_of (row_at u (c.args.link - 1))) l.same) l.teaches in
    seen_rows (knows c.args.pass.now) x (rows_seized (c.args.link - 1) (knows c.args.pass.now) x t.seizes)

pub returns-then-level-clause-path : goal.returns-then-level-clause-path
returns-then-level-clause-path c above d =
    let l = c.is_level-level.ensures in
    let x : View = knows c.is_level-level.new.pass in
    path_image x c.args.tree c.args.asked.now (image_at (knows c.args.pass.now) c.args.here) (image_at x (c.args.link - 1)) c.args.steps above
    (path_taken (took_child {w = x} {child = image_at x (c.args.link - 1)} c.args.table.now.plan c.requires.tree c.requires.of.1 d
    c.requires.some c.in-Taken.ensures.seized l.same refl (ap (λ (u : View). words_of (row_at u (c.args.link - 1))) l.same) l.teaches))

pub returns-then-level-clause-stays : goal.returns-then-level-clause-stays
returns-then-level-clause-stays c =
    let l = c.is_level-level.ensures in
    let x : View = knows c.is_level-level.new.pass in
    let p = path_taken (took_child {w = x} {child = image_at x (c.args.link - 1)} c.args.table.now.plan c.requires.tree c.requires.of.1 c.requires.descends.1
    c.requires.some c.in-Taken.ensures.seized l.same refl (ap (λ (u : View). words_of (row_at u (c.args.link - 1))) l.same) l.teaches) in
    stays_now x c.args.tree (image_at (knows c.args.pass.now) c.args.here) p.has (stays_same c.args.tree (image_at (knows c.args.pass.now) c.args.here))

pub returns-then-level-clause-free : goal.returns-then-level-clause-free
returns-then-level-clause-free c =
    let l = c.is_level-level.ensures in
    let x : View = knows c.is_level-level.new.pass in
    taken_free (took_child {w = x} {child = image_at x (c.args.link - 1)} c.args.table.now.plan c.requires.tree c.requires.of.1 c.requires.descends.1
    c.requires.some c.in-Taken.ensures.seized l.same refl (ap (λ (u : View). words_of (row_at u (c.args.link - 1))) l.same) l.teaches)

pub level_out-requires-clause-pair : goal.level_out-requires-clause-pair
level_out-requires-clause-pair c =
    let l = c.is_level-level.ensures in
    let x : View = knows c.is_level-level.new.pass in
    let some = c.if-steps-eq0.false in
    path_pair x c.args.tree c.args.asked.now (image_at x c.args.here) (image_at x (c.args.link - 1)) c.args.steps c.requires.descends.0
    (omega arith)
    (path_image x c.args.tree c.args.asked.now (image_at (knows c.args.pass.now) c.args.here) (image_at x (c.args.link - 1)) c.args.steps c.requires.descends.0
    (path_taken (took_child {w = x} {child = image_at x (c.args.link - 1)} c.args.table.now.plan c.requires.tree c.requires.of.1 c.requires.descends.1
    c.requires.some c.in-Taken.ensures.seized l.same refl (ap (λ (u : View). words_of (row_at u (c.args.link - 1))) l.same) l.teaches)))

pub returns-clause-sees : goal.returns-clause-sees
returns-clause-sees c =
    let l = c.is_level-level.ensures in
    let x : View = knows c.is_level-level.new.pass in
    let t = took_child {w = x} {child = image_at x (c.args.link - 1)} c.args.table.now.plan c.requires.tree c.requires.of.1 c.requires.descends.1
    c.requires.some c.in-Taken.ensures.seized l.same refl (ap (λ (u : View). words_of (row_at u (c.args.link - 1))) l.same) l.teaches in
    seen_on (knows c.args.pass.now) x (knows c.level_out.new.pass)
    (seen_rows (knows c.args.pass.now) x (rows_seized (c.args.link - 1) (knows c.args.pass.now) x t.seizes)) c.level_out.ensures.sees

pub returns-clause-path : goal.returns-clause-path
returns-clause-path c above d =
    let some = c.if-steps-eq0.false in
    let more : 0 < c.args.steps = omega arith in
    let u : View = knows c.level_out.new.pass in
    pair_path u c.args.tree c.args.asked.now (image_at u c.args.here) (image_at u c.level_out.result) c.args.steps above
    more (d.first more) c.level_out.ensures.pair

pub returns-clause-stays : goal.returns-clause-stays
returns-clause-stays c =
    let l = c.is_level-level.ensures in
    let x : View = knows c.is_level-level.new.pass in
    let p = path_taken (took_child {w = x} {child = image_at x (c.args.link - 1)} c.args.table.now.plan c.requires.tree c.requires.of.1 c.requires.descends.1
    c.requires.some c.in-Taken.ensures.seized l.same refl (ap (λ (u : View). words_of (row_at u (c.args.link - 1))) l.same) l.teaches) in
    stays_before x c.args.tree (image_at (knows c.args.pass.now) c.args.here) (image_at (knows c.level_out.new.pass) c.args.here) p.has c.level_out.ensures.stays

pub returns-clause-free : goal.returns-clause-free
returns-clause-free c =
    let l = c.is_level-level.ensures in
    let x : View = knows c.is_level-level.new.pass in
    let t = took_child {w = x} {child = image_at x (c.args.link - 1)} c.args.table.now.plan c.requires.tree c.requires.of.1 c.requires.descends.1
    c.requires.some c.in-Taken.ensures.seized l.same refl (ap (λ (u : View). words_of (row_at u (c.args.link - 1))) l.same) l.teaches in
    ap (λ (n : ℕ). n + 1) c.level_out.ensures.free ∙ taken_free t
