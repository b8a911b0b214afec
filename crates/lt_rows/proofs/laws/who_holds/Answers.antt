use Rattle.lt_rows.proofs.RuleLaws.{one_holds, all_rights_are_alone, gapped_row_is_of_its_tree}
use Rattle.lt_rows.proofs.laws.who_holds.Goals as goal

pub returns : goal.returns
returns c = record {
  one = one_holds;
  alone = all_rights_are_alone;
  gapped = gapped_row_is_of_its_tree;
}
