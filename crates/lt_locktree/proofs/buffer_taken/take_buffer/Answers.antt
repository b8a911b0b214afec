use Rattle.std.proofs.Common.{List, map, ap, ◌∙◌}
use Rattle.lt_seq.specs.declared.event.Held.{Held}
use Rattle.lt_rows.specs.Handles.{knows}
use Rattle.lt_locktree.specs.EndingRows.{held_pair}
use Rattle.lt_locktree.proofs.TakenBuffers.{has_taken}
use Rattle.lt_locktree.proofs.buffer_taken.take_buffer.Goals as goal

pub returns-in-Ok-clause-taken : goal.returns-in-Ok-clause-taken
returns-in-Ok-clause-taken c =
    let read = c.in_ok-rows.field-0 in
    has_taken (knows c.args.pass.now) (knows c.to_pairs.new.pass) c.args.tree read.rows.items read.pairs.items c.in-Ok.pairs.items
    c.requires.anchor c.in_ok-rows.ensures.kept c.in_ok-rows.ensures.chain c.in_ok-rows.ensures.pairs
    (c.in-Ok.ensures ∙ ap (λ (l : List Held). map held_pair l) c.deref.ensures.value)
