use Rattle.lt_forest.proofs.PublicLaws.{top_row_stays}
use Rattle.lt_forest.proofs.laws.top_rows.Goals as goal

pub returns : goal.returns
returns c = top_row_stays
