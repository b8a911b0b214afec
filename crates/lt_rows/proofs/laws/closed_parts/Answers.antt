use Rattle.lt_rows.proofs.RuleLaws.{closed_part_has_all_rows}
use Rattle.lt_rows.proofs.laws.closed_parts.Goals as goal

pub returns : goal.returns
returns c = closed_part_has_all_rows
