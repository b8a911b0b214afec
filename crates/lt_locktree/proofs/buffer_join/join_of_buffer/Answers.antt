use Rattle.std.proofs.Common.{arith, ℕ, ◌+◌, ◌≡◌, ◌<◌, ◌≤◌, List, length, refl, sym, ap, ◌∙◌, subst}
use Rattle.lt_ranges.specs.declared.key.Key.{Key}
use Rattle.lt_seq.specs.declared.event.Event.{Event}
use Rattle.lt_seq.specs.declared.event.Pair.{Pair}
use Rattle.lt_rows.specs.declared.row_plan.RowPlan.{RowPlan}
use Rattle.lt_seq.specs.History.{after}
use Rattle.lt_seq.specs.Pairs.{joined}
use Rattle.lt_rows.specs.Plan.{setting_of}
use Rattle.lt_seq.specs.Table.{tree_at, held_in}
use Rattle.lt_rows.specs.declared.view.View.{View}
use Rattle.lt_rows.specs.Handles.{knows}
use Rattle.lt_tree.proofs.ViewLaws.{rows_on, rows_plan}
use Rattle.lt_locktree.specs.declared.asking.Asking.{Asking}
use Rattle.lt_locktree.specs.Ends.{EndsAs}
use Rattle.lt_locktree.specs.Makes.{Makes}
use Rattle.lt_locktree.proofs.BufferJoins.{join_ends, join_few, stood_before, taken_shows}
use Rattle.lt_locktree.proofs.JoinNotes.{noted}
use Rattle.lt_locktree.proofs.buffer_join.join_of_buffer.Goals as goal

pub end_buffer-requires-clause-room : goal.end_buffer-requires-clause-room
end_buffer-requires-clause-room c =
    let b = c.requires.buffer in
    let t = c.in_ok-taken.taken in
    let few : length c.deref-2.result.now ≤ length t.rows.items =
    join_few (knows c.args.pass.now) (knows c.take_buffer.new.pass) c.args.asking.now.tree t.rows.items t.pairs.items c.in_ok-taken.ensures.taken
    b.0 b.1 b.2 c.as_slice.result.now c.deref-2.result.now (c.deref-2.ensures.value ∙ c.join_pairs-counts.ensures.pairs) in
    omega arith

pub end_buffer-requires-clause-licensed : goal.end_buffer-requires-clause-licensed
end_buffer-requires-clause-licensed c more =
    let b = c.requires.buffer in
    let t = c.in_ok-taken.taken in
    let few : length c.deref-2.result.now ≤ length t.rows.items =
    join_few (knows c.args.pass.now) (knows c.take_buffer.new.pass) c.args.asking.now.tree t.rows.items t.pairs.items c.in_ok-taken.ensures.taken
    b.0 b.1 b.2 c.as_slice.result.now c.deref-2.result.now (c.deref-2.ensures.value ∙ c.join_pairs-counts.ensures.pairs) in
    absurd (omega arith)

pub end_buffer-requires-clause-ends : goal.end_buffer-requires-clause-ends
end_buffer-requires-clause-ends c =
    let v : View = knows c.args.pass.now in
    let w : View = knows c.take_buffer.new.pass in
    let a : Asking = c.args.asking.now in
    let b = c.requires.buffer in
    let t = c.in_ok-taken.taken in
    let counts = c.join_pairs-counts in
    let q = c.take_buffer.new.pass in
    let marks_are : c.as_slice.result.now ≡ w.plan.marks =
    c.as_slice.ensures ∙ ap (λ (p : RowPlan). p.marks) (c.plan.ensures ∙ sym c.in_ok-taken.ensures.of.0.1) in
    let now : joined c.as_slice.result.now t.pairs.items ≡ joined w.plan.marks t.pairs.items =
    ap (λ (ms : List Key). joined ms t.pairs.items) marks_are in
    let own : a.pass + 1 ≡ w.mark =
    ap (λ (n : ℕ). n + 1) (c.requires.asking.0.0 ∙ sym c.in_ok-taken.ensures.of.1.0) ∙ sym q.numbered.0 in (
      b.0,
      b.1,
      subst (λ (e : Event). EndsAs w a.tree b.0 b.1 t.rows.items 0 c.deref-2.result.now e) (sym c.join_event-event.ensures)
          (join_ends v w a.tree t.rows.items t.pairs.items c.in_ok-taken.ensures.taken b.0 b.1 b.2 a c.deref-2.result.now counts.result.before
          counts.result.after own refl (c.deref-2.ensures.value ∙ counts.ensures.pairs ∙ now)
          counts.ensures.before (counts.ensures.after ∙ ap (λ (ps : List Pair). length ps) now)),
    )

pub returns-clause-made : goal.returns-clause-made
returns-clause-made c =
    let v : View = knows c.args.pass.now in
    let w : View = knows c.take_buffer.new.pass in
    let x : View = knows c.end_buffer.new.pass in
    let a : Asking = c.args.asking.now in
    let b = c.requires.buffer in
    let t = c.in_ok-taken.taken in
    let k = c.in_ok-place.ensures.kept in
    let u : View = k.0 in
    let counts = c.join_pairs-counts in
    let pairs : List Pair = t.pairs.items in
    let lt : a.tree < w.plan.trees = subst (λ (p : RowPlan). a.tree < p.trees) (sym c.in_ok-taken.ensures.of.0.1) c.requires.asking.1 in
    let plan_is = rows_plan w u k.2 in
    let marks_are : c.as_slice.result.now ≡ v.plan.marks =
    c.as_slice.ensures ∙ ap (λ (p : RowPlan). p.marks) (c.plan.ensures ∙ sym c.requires.of.1) in
    let now : joined c.as_slice.result.now pairs ≡ joined v.plan.marks pairs = ap (λ (ms : List Key). joined ms pairs) marks_are in
    let held : c.in-Ok.held ≡ held_in a.tree (joined v.plan.marks pairs) =
    c.in-Ok.ensures ∙ ap (λ (ps : List Pair). held_in a.tree ps) (c.deref.ensures.value ∙ counts.ensures.pairs ∙ now) in
    noted v u x a k.1
    (record { place = c.in_ok-place.place; tree = a.tree; before = counts.result.before; after = counts.result.after; pairs = c.in-Ok.held })
    pairs (rows_on v w u c.in_ok-taken.ensures.only k.2)
    (λ log stood. taken_shows v w a.tree t.rows.items pairs c.in_ok-taken.ensures.taken b.0 b.1 b.2 log lt (stood_before w u log k.2 k.3 stood)
    ∙ ap (λ (p : RowPlan). (tree_at (after (setting_of p) log) a.tree).pairs) (sym plan_is))
    (subst (λ (e : Event). Makes u x k.1 e c.in_ok-place.place) c.join_event-event.ensures k.4)
    refl counts.ensures.before (counts.ensures.after ∙ ap (λ (ps : List Pair). length ps) now) held
