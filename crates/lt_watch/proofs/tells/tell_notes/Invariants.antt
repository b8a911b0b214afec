use Rattle.std.proofs.Common.{◌≡◌, map, take}
use Rattle.lt_watch.specs.Tellings.{after_notes}
use Rattle.lt_watch.proofs.tells.tell_notes.Given as goal

abbrev pub invariant-loop-note : goal.invariant-loop-note
invariant-loop-note g l = g.T.Tells.logs l.watch ≡ map (after_notes (take l.note-index l.notes)) (g.T.Tells.logs l.fn.watch)
