use Rattle.lt_locktree.proofs.CallLaws.{deed_is_made, deed_is_refused}
use Rattle.lt_locktree.proofs.laws.deeds_are_answers.Goals as goal

pub returns : goal.returns
returns c = record { made = deed_is_made; refused = deed_is_refused }
