use Rattle.lt_locktree.proofs.FreedParts.{free_commits, none_freed_commits}
use Rattle.lt_locktree.proofs.laws.frees_are_made.Goals as goal

pub returns-clause-freed : goal.returns-clause-freed
returns-clause-freed c = free_commits

pub returns-clause-none : goal.returns-clause-none
returns-clause-none c = none_freed_commits
