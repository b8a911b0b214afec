use Rattle.lt_requests.proofs.RegistryLaws.{registered_ascend, ascend-with_wish, wish_put}
use Rattle.lt_requests.proofs.StartLaws.{out_again}
use Rattle.lt_requests.proofs.laws.registered_wishes.Goals as goal

pub returns : goal.returns
returns c = record { ascend = registered_ascend; more = ascend-with_wish; found = wish_put; left = out_again }
