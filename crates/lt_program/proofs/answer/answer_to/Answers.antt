use Rattle.lt_program.proofs.StatusLaws.{refusal_answers}
use Rattle.lt_program.proofs.answer.answer_to.Goals as goal

pub returns-in-Err-clause-answer : goal.returns-in-Err-clause-answer
returns-in-Err-clause-answer g c = refusal_answers _ _ c.in-Err.fault c.refused.result _ c.in-Err.ensures.refused c.refused.ensures
