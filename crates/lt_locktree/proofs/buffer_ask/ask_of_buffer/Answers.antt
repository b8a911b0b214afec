use Rattle.std.proofs.Common.{rules, refl, sym, ◌∙◌, subst}
use Rattle.lt_ranges.specs.Interval.{IsInterval}
use Rattle.lt_seq.specs.declared.event.Event.{Event}
use Rattle.lt_rows.specs.Handles.{knows}
use Rattle.lt_locktree.specs.Ends.{EndsAs}
use Rattle.lt_locktree.proofs.EndedAs.{own_event, ask_ends, ask_few}
use Rattle.lt_locktree.proofs.buffer_ask.ask_of_buffer.Goals as goal

pub end_buffer-requires-clause-room : goal.end_buffer-requires-clause-room
end_buffer-requires-clause-room c =
    let a = c.args.asking.now in
    let b = c.requires.buffer in
    let t = c.in_ok-taken.taken in
    ask_few (knows c.args.pass.now) (knows c.take_buffer.new.pass) a.tree t.rows.items t.pairs.items c.in_ok-taken.ensures.taken
    c.in_ok-taken.ensures.only b.0 b.1 b.2 a.txn a.range c.deref.result.now (c.deref.ensures.value ∙ c.in-Ok.ensures.pairs)

pub end_buffer-requires-clause-ends : goal.end_buffer-requires-clause-ends
end_buffer-requires-clause-ends c =
    let a = c.args.asking.now in
    let b = c.requires.buffer in
    let t = c.in_ok-taken.taken in
    let w = knows c.take_buffer.new.pass in
    let interval : IsInterval c.args.asking.now.range = search rules in (
      b.0,
      b.1,
      subst (λ (e : Event). EndsAs w a.tree b.0 b.1 t.rows.items 0 c.deref.result.now e) (sym c.ask_event-event.ensures)
          (ask_ends (knows c.args.pass.now) w a.tree t.rows.items t.pairs.items c.in_ok-taken.ensures.taken c.in_ok-taken.ensures.only
          b.0 b.1 b.2 a (own_event c.args.pass.now c.take_buffer.new.pass a c.requires.asking.0.0 c.in_ok-taken.ensures.of.1.0) refl
          interval c.in-Ok.replies.reply c.deref.result.now b.3 c.in-Ok.ensures.reply (c.deref.ensures.value ∙ c.in-Ok.ensures.pairs)),
    )
