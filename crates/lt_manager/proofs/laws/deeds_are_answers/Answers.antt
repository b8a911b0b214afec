use Rattle.lt_manager.proofs.EventLaws.{happens, left_off}
use Rattle.lt_manager.proofs.laws.deeds_are_answers.Goals as goal

pub returns-clause-happens : goal.returns-clause-happens
returns-clause-happens c u w old mine notes notes' txn place deed one pass watches room made are =
    happens u w old mine notes one pass watches room txn place deed made notes' are

pub returns-clause-left : goal.returns-clause-left
returns-clause-left c u w old mine notes fault one pass watches room leaves =
    left_off u w old mine notes one pass watches room fault leaves
