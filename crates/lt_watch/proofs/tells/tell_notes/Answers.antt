use Rattle.std.proofs.Common.{◌<◌, length, sym, arith}
use Rattle.lt_watch.proofs.TellingLaws.{told_none, told_next}
use Rattle.lt_watch.proofs.tells.tell_notes.Goals as goal

pub loop-note-init : goal.loop-note-init
loop-note-init g c = sym (told_none (g.T.Tells.logs c.args.watch.now))

pub loop-note-preserved : goal.loop-note-preserved
loop-note-preserved g c =
    let here : c.loop-note.note-index < length c.args.notes.now = omega (arith, c.loop-note.auto.note-index-end, c.loop-note-test.true) in
    told_next c.args.notes.now c.loop-note.note-index c.note-item.result _ _ _ here c.note-item.is c.loop-note.invariant c.tell.ensures.logs
