use Rattle.std.proofs.Common.{arith}
use Rattle.lt_program.proofs.StatusLaws.{only_status}
use Rattle.lt_program.proofs.StoringLaws.{stores, script_refuses, script_breaks, script_completes}
use Rattle.lt_program.proofs.storing.store.Goals as goal

pub returns-in-Ok-answer_to_script-clause-only : goal.returns-in-Ok-answer_to_script-clause-only
returns-in-Ok-answer_to_script-clause-only g c = only_status c.deliver.result c.in-Ok-answer_to_script.answer c.deliver.ensures.status

pub returns-in-Ok-answer_to_script-clause-done : goal.returns-in-Ok-answer_to_script-clause-done
returns-in-Ok-answer_to_script-clause-done g c = λ done.
    stores _ _ _ _ c.deliver.result c.in-Ok.bytes.items (record { bytes_read = c.in-Ok.ensures.bytes; read = c.in-Ok.ensures.rest })
    c.in-Ok-answer_to_script.answer (rw c.deref.ensures.value at c.in-Ok-answer_to_script.ensures) (λ short. c.in-Ok.ensures.end (omega arith))
    c.deliver.ensures.status c.deliver.ensures.all done

pub returns-in-Ok-answer_to_script-clause-refused : goal.returns-in-Ok-answer_to_script-clause-refused
returns-in-Ok-answer_to_script-clause-refused g c = λ done.
    script_refuses _ _ _ _ c.deliver.result c.in-Ok.bytes.items (record { bytes_read = c.in-Ok.ensures.bytes; read = c.in-Ok.ensures.rest })
    c.in-Ok-answer_to_script.answer (rw c.deref.ensures.value at c.in-Ok-answer_to_script.ensures) c.deliver.ensures.status
    c.deliver.ensures.all done

pub returns-in-Ok-answer_to_script-clause-part : goal.returns-in-Ok-answer_to_script-clause-part
returns-in-Ok-answer_to_script-clause-part g c = λ done.
    script_breaks _ _ _ _ c.deliver.result c.in-Ok.bytes.items (record { bytes_read = c.in-Ok.ensures.bytes; read = c.in-Ok.ensures.rest })
    c.in-Ok-answer_to_script.answer (rw c.deref.ensures.value at c.in-Ok-answer_to_script.ensures) (c.deliver.ensures.part done)

pub returns-in-Ok-answer_to_script-clause-complete : goal.returns-in-Ok-answer_to_script-clause-complete
returns-in-Ok-answer_to_script-clause-complete g c = λ no_read no_write.
    script_completes _ _ c.deliver.result c.in-Ok.bytes.items (record { bytes_read = c.in-Ok.ensures.bytes; read = c.in-Ok.ensures.rest })
    c.in-Ok-answer_to_script.answer (rw c.deref.ensures.value at c.in-Ok-answer_to_script.ensures) c.deliver.ensures.status
    (λ five. no_write (c.deliver.ensures.failed five))
