use Rattle.lt_locktree.proofs.DeedLaws.{who_commits, held_ask_commits}
use Rattle.lt_locktree.proofs.laws.questions_are_answered.Goals as goal

pub returns-clause-who : goal.returns-clause-who
returns-clause-who c = who_commits

pub returns-clause-held : goal.returns-clause-held
returns-clause-held c = held_ask_commits
