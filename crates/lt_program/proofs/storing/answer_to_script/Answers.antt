use Rattle.lt_program.proofs.StoringLaws.{refusal_answers_script}
use Rattle.lt_program.proofs.storing.answer_to_script.Goals as goal

pub returns-in-Err : goal.returns-in-Err
returns-in-Err c = refusal_answers_script _ c.in-Err.fault c.refused.result c.in-Err.ensures.refused c.refused.ensures
