use Rattle.lt_locktree.proofs.CallLaws.{one_call, next_event}
use Rattle.lt_locktree.proofs.laws.deeds_are_calls.Goals as goal

pub returns : goal.returns
returns c = record { call = one_call; next = next_event }
