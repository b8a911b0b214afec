use Rattle.std.proofs.Common.{rules, arith, ◌≡◌, ◌≤◌, inl, inr, Bool, false, length, refl, sym, ap, ◌∙◌, subst}
use Rattle.lt_ranges.specs.Interval.{IsInterval}
use Rattle.lt_seq.specs.declared.event.Event.{Event}
use Rattle.lt_seq.specs.declared.event.Mode.TheVariants.{Tree as TreeMode, Buffer}
use Rattle.lt_seq.specs.Table.{drops_all, raised}
use Rattle.lt_rows.specs.declared.view.View.{View}
use Rattle.lt_rows.specs.Handles.{knows}
use Rattle.lt_locktree.specs.Ends.{EndsAs}
use Rattle.lt_locktree.specs.TakenBuffers.{ShowsBufferOf}
use Rattle.lt_locktree.proofs.EndedAs.{own_event, free_ends, freed_fit}
use Rattle.lt_locktree.proofs.FreedBuffers.{drops_part}
use Rattle.lt_locktree.proofs.buffer_free.free_of_buffer.Goals as goal
use Rattle.lt_locktree.proofs.buffer_free.free_of_buffer.Goals.{then-first, else-first}
use Rattle.lt_locktree.proofs.buffer_free.free_of_buffer.Goals.{else-owner-asking-via-then-owner-asking+else-is_whole}
use Rattle.lt_locktree.proofs.buffer_free.free_of_buffer.Goals.{else-owner-asking-via-else-owner-asking}

-- the view in which the chain is taken shows the buffer too
shows : (c : goal.After-event-1) → ShowsBufferOf (knows c.owner_of-owner.new.pass) c.args.asking.now.tree c.owner_of-owner.result
shows c =
    subst (λ (v : View). ShowsBufferOf v c.args.asking.now.tree c.owner_of-owner.result) (sym c.owner_of-owner.ensures.same)
    c.owner_of-owner.ensures.owner

fits : (c : goal.After-event-1) → length c.deref.result.now ≤ length c.in_ok-taken.taken.rows.items
fits c =
    let b = shows c in
    let t = c.in_ok-taken.taken in
    freed_fit (knows c.owner_of-owner.new.pass) (knows c.take_buffer.new.pass) c.args.asking.now.tree t.rows.items t.pairs.items
    c.in_ok-taken.ensures.taken c.in_ok-taken.ensures.only c.owner_of-owner.result b.0 b.1 c.args.asking.now.txn c.args.asking.now.range
    c.deref.result.now (c.deref.ensures.value ∙ c.free-count.ensures.pairs)

pub end_buffer-requires-clause-room : goal.end_buffer-requires-clause-room
end_buffer-requires-clause-room c = let few = fits c in omega arith

pub end_buffer-requires-clause-licensed : goal.end_buffer-requires-clause-licensed
end_buffer-requires-clause-licensed c more = absurd (let few = fits c in omega arith)

part : (c : goal.After-event-1)
    → drops_all c.args.asking.now.txn c.args.asking.now.range (Buffer c.owner_of-owner.result (shows c).0) ≡ false
part c =
    let a = c.args.asking.now in
    drops_part c.owner_of-owner.result a.txn (shows c).0 a.range
    (elim c.else-owner-asking.branch [
      | else-owner-asking-via-then-owner-asking+else-is_whole w ↦ inr (sym w.is_whole.ensures ∙ w.if-is_whole.false)
      | else-owner-asking-via-else-owner-asking w ↦ inl w.if-owner-asking.false
    ])

score : (c : goal.After-event-1) → raised c.args.first (TreeMode 0) ≡ TreeMode c.if-first.score
score c = elim c.if-first.branch [
  | then-first w ↦ ap (λ (b : Bool). raised b (TreeMode 0)) w.if-first.true ∙ ap TreeMode (sym w.score-is)
  | else-first w ↦ ap (λ (b : Bool). raised b (TreeMode 0)) w.if-first.false ∙ ap TreeMode (sym w.score-is)
]

pub end_buffer-requires-clause-ends : goal.end_buffer-requires-clause-ends
end_buffer-requires-clause-ends c =
    let a = c.args.asking.now in
    let b = shows c in
    let t = c.in_ok-taken.taken in
    let w = knows c.take_buffer.new.pass in
    let interval : IsInterval c.args.asking.now.range = search rules in (
      c.owner_of-owner.result,
      b.0,
      subst (λ (e : Event). EndsAs w a.tree c.owner_of-owner.result b.0 t.rows.items c.if-first.score c.deref.result.now e)
          (sym c.free_event-event.ensures)
          (free_ends (knows c.owner_of-owner.new.pass) w a.tree t.rows.items t.pairs.items c.in_ok-taken.ensures.taken
          c.in_ok-taken.ensures.only c.owner_of-owner.result b.0 b.1 a
          (own_event c.args.pass.now c.take_buffer.new.pass a c.requires.asking.0.0
          (c.in_ok-taken.ensures.of.1.0 ∙ c.owner_of-owner.ensures.of.1.0)) refl interval c.args.first c.free-count.result c.if-first.score
          c.deref.result.now (part c) (c.deref.ensures.value ∙ c.free-count.ensures.pairs) c.free-count.ensures.count (score c)),
    )
