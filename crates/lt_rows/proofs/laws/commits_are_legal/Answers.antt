use Rattle.lt_rows.proofs.LessonLaws.{commit_is_legal}
use Rattle.lt_rows.proofs.laws.commits_are_legal.Goals as goal

pub returns : goal.returns
returns c = commit_is_legal
