use Rattle.lt_deal.proofs.Opens.{opens_rule}
use Rattle.lt_deal.proofs.deal.Deal.build.Goals as goal

pub vacant-requires : goal.vacant-requires
vacant-requires g c = opens_rule c.args.workers _
