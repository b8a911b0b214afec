use Rattle.lt_crew.proofs.NearerLaws.{crews_come_nearer}
use Rattle.lt_crew.proofs.laws.crews_come_nearer.Goals as goal

pub returns : goal.returns
returns c = crews_come_nearer
