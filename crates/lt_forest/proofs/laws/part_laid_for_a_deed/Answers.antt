use Rattle.lt_forest.proofs.PublicLaws.{part_is_laid_for_deed}
use Rattle.lt_forest.proofs.laws.part_laid_for_a_deed.Goals as goal

pub returns : goal.returns
returns c = part_is_laid_for_deed
