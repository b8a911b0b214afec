use Rattle.std.proofs.Common.{rules, ◌≡◌, length}
use Rattle.lt_ranges.specs.Interval.{IsInterval}
use Rattle.lt_rows.specs.Handles.{knows}
use Rattle.lt_locktree.proofs.FreedBuffers.{frees_whole}
use Rattle.lt_locktree.proofs.buffer_free.free_whole.Goals as goal

pub drop_all-requires-clause-event : goal.drop_all-requires-clause-event
drop_all-requires-clause-event c =
    let a = c.args.asking.now in
    let t = c.args.taken.now in
    let interval : IsInterval c.args.asking.now.range = search rules in
    let count : c.len-count.result ≡ length c.args.taken.now.pairs.items = search rules in
    frees_whole (knows c.args.pass.now) c.args.pass.now.number a c.args.first c.len-count.result t.rows.items c.deref.result.now
    t.pairs.items c.free_event-event.result c.requires.asking.0.0 c.requires.buffer c.requires.pairs count c.deref.ensures.value
    c.requires.whole interval c.free_event-event.ensures
