use Rattle.lt_forest.proofs.PublicLaws.{part_is_laid_again}
use Rattle.lt_forest.proofs.laws.part_laid_again.Goals as goal

pub returns : goal.returns
returns c = part_is_laid_again
