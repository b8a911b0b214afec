use Rattle.lt_locktree.proofs.JoinedParts.{join_commits}
use Rattle.lt_locktree.proofs.JoinNotes.{whole_tree_has_rows}
use Rattle.lt_locktree.proofs.NoneJoined.{none_joined_commits}
use Rattle.lt_locktree.proofs.laws.joins_are_made.Goals as goal

pub returns-clause-joined : goal.returns-clause-joined
returns-clause-joined c = join_commits

pub returns-clause-none : goal.returns-clause-none
returns-clause-none c = none_joined_commits

pub returns-clause-noted : goal.returns-clause-noted
returns-clause-noted c = whole_tree_has_rows
