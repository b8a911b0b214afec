use Rattle.std.proofs.Common.{rules, arith, ◌≤◌, length, List, refl, sym, ap, ◌∙◌, subst}
use Rattle.lt_ranges.specs.Interval.{IsInterval}
use Rattle.lt_seq.specs.declared.event.Event.{Event}
use Rattle.lt_seq.specs.declared.event.Pair.{Pair}
use Rattle.lt_seq.specs.Pairs.{others}
use Rattle.lt_rows.specs.Handles.{knows}
use Rattle.lt_locktree.specs.Ends.{EndsAs}
use Rattle.lt_locktree.proofs.EndedAs.{own_event, who_ends, fewer_fit}
use Rattle.lt_locktree.proofs.buffer_who.ask_other.Goals as goal

fits : (c : goal.After-event-1) → length c.deref-2.result.now ≤ length c.in_ok-taken.taken.rows.items
fits c =
    let b = c.requires.buffer.0 in
    let t = c.in_ok-taken.taken in
    let same = ap length c.deref-2.ensures.value in
    fewer_fit (knows c.args.pass.now) (knows c.take_buffer.new.pass) c.args.asking.now.tree t.rows.items t.pairs.items
    c.in_ok-taken.ensures.taken c.in_ok-taken.ensures.only c.args._owner b.0 b.1 c.deref-2.result.now (omega (arith, same))

pub end_buffer-requires-clause-room : goal.end_buffer-requires-clause-room
end_buffer-requires-clause-room c = let few = fits c in omega arith

pub end_buffer-requires-clause-licensed : goal.end_buffer-requires-clause-licensed
end_buffer-requires-clause-licensed c more = absurd (let few = fits c in omega arith)

pub end_buffer-requires-clause-ends : goal.end_buffer-requires-clause-ends
end_buffer-requires-clause-ends c =
    let a = c.args.asking.now in
    let b = c.requires.buffer.0 in
    let t = c.in_ok-taken.taken in
    let w = knows c.take_buffer.new.pass in
    let interval : IsInterval c.args.asking.now.range = search rules in (
      c.args._owner,
      b.0,
      subst (λ (e : Event). EndsAs w a.tree c.args._owner b.0 t.rows.items 0 c.deref-2.result.now e) (sym c.who_event-event.ensures)
          (who_ends (knows c.args.pass.now) w a.tree t.rows.items t.pairs.items c.in_ok-taken.ensures.taken c.in_ok-taken.ensures.only
          c.args._owner b.0 b.1 a (own_event c.args.pass.now c.take_buffer.new.pass a c.requires.asking.0.0 c.in_ok-taken.ensures.of.1.0)
          refl interval c.args.as_txn c.in-Ok.naming.owners c.deref-2.result.now c.requires.buffer.1
          (c.in-Ok.ensures.owners ∙ ap (λ (xs : List Pair). others c.args.as_txn a.range xs) c.deref.ensures.value)
          c.deref-2.ensures.value),
    )
