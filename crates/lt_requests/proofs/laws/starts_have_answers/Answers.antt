use Rattle.lt_requests.proofs.DoneLaws.{start_answers}
use Rattle.lt_requests.proofs.laws.starts_have_answers.Goals as goal

pub returns : goal.returns
returns c = start_answers
