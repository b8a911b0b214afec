use Rattle.std.proofs.Common.{arith, refl}
use Rattle.lt_program.proofs.StatusLaws.{only_status, plays, refuses, breaks, completes, untold, told_or_not, short_told}
use Rattle.lt_program.proofs.playing.play.Goals as goal

pub returns-in-Ok-answer_to-clause-only : goal.returns-in-Ok-answer_to-clause-only
returns-in-Ok-answer_to-clause-only g c = only_status c.deliver.result c.in-Ok-answer_to.answer c.deliver.ensures.status

pub returns-in-Ok-answer_to-clause-done : goal.returns-in-Ok-answer_to-clause-done
returns-in-Ok-answer_to-clause-done g c = λ done.
    plays _ _ _ _ _ c.deliver.result c.in-Ok.bytes.items (record { bytes_read = c.in-Ok.ensures.bytes; read = c.in-Ok.ensures.rest }) _ _
    c.in-Ok-answer_to.answer (rw c.deref.ensures.value at c.in-Ok-answer_to.ensures.answer) (λ short. c.in-Ok.ensures.end (omega arith))
    c.deliver.ensures.status c.deliver.ensures.all done

pub returns-in-Ok-answer_to-clause-refused : goal.returns-in-Ok-answer_to-clause-refused
returns-in-Ok-answer_to-clause-refused g c = λ done.
    refuses _ _ _ _ _ c.deliver.result c.in-Ok.bytes.items (record { bytes_read = c.in-Ok.ensures.bytes; read = c.in-Ok.ensures.rest }) _ _
    c.in-Ok-answer_to.answer (rw c.deref.ensures.value at c.in-Ok-answer_to.ensures.answer) c.deliver.ensures.status
    c.deliver.ensures.all done

pub returns-in-Ok-answer_to-clause-part : goal.returns-in-Ok-answer_to-clause-part
returns-in-Ok-answer_to-clause-part g c = λ done.
    breaks _ _ _ _ _ c.deliver.result c.in-Ok.bytes.items (record { bytes_read = c.in-Ok.ensures.bytes; read = c.in-Ok.ensures.rest }) _ _
    c.in-Ok-answer_to.answer (rw c.deref.ensures.value at c.in-Ok-answer_to.ensures.answer) (c.deliver.ensures.part done)

pub returns-in-Ok-answer_to-clause-complete : goal.returns-in-Ok-answer_to-clause-complete
returns-in-Ok-answer_to-clause-complete g c = λ no_read no_write.
    completes _ _ _ c.deliver.result c.in-Ok.bytes.items (record { bytes_read = c.in-Ok.ensures.bytes; read = c.in-Ok.ensures.rest }) _ _
    c.in-Ok-answer_to.answer (rw c.deref.ensures.value at c.in-Ok-answer_to.ensures.answer) c.deliver.ensures.status
    (λ five. no_write (c.deliver.ensures.failed five))

pub returns-in-Ok-answer_to-clause-untold : goal.returns-in-Ok-answer_to-clause-untold
returns-in-Ok-answer_to-clause-untold g c =
    untold _ _ _ c.deliver.result c.in-Ok.bytes.items (record { bytes_read = c.in-Ok.ensures.bytes; read = c.in-Ok.ensures.rest }) _ _
    c.in-Ok-answer_to.answer (rw c.deref.ensures.value at c.in-Ok-answer_to.ensures.answer) c.deliver.ensures.status

pub returns-in-Ok-answer_to-clause-told_or_not : goal.returns-in-Ok-answer_to-clause-told_or_not
returns-in-Ok-answer_to-clause-told_or_not g c = λ e.
    told_or_not _ _ _ c.deliver.result c.in-Ok.bytes.items (record { bytes_read = c.in-Ok.ensures.bytes; read = c.in-Ok.ensures.rest }) _ _
    c.in-Ok-answer_to.answer (rw c.deref.ensures.value at c.in-Ok-answer_to.ensures.answer)

pub returns-clause-told_or_not : goal.returns-clause-told_or_not
returns-clause-told_or_not g c = λ e.
    short_told _ _ _ 6 c.in-Ok.bytes.items (record { bytes_read = c.in-Ok.ensures.bytes; read = c.in-Ok.ensures.rest }) _ _
    (rw c.deref.ensures.value at c.in-Err.ensures.short)

pub returns-clause-only : goal.returns-clause-only
returns-clause-only g c = (4, omega arith, refl)
