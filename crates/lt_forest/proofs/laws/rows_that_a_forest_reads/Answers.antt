use Rattle.lt_forest.proofs.PublicLaws.{forest_reads_its_rows}
use Rattle.lt_forest.proofs.laws.rows_that_a_forest_reads.Goals as goal

pub returns : goal.returns
returns c = forest_reads_its_rows
