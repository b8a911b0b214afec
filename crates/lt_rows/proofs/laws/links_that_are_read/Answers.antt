use Rattle.lt_rows.proofs.LessonLaws.{anchor_is_linked, gapped_row_is_linked, part_row_is_linked, links_name_further_rows, no_row_is_named_twice, none_leads_back_to_itself}
use Rattle.lt_rows.proofs.laws.links_that_are_read.Goals as goal

pub returns : goal.returns
returns c = record {
  anchors = anchor_is_linked;
  gapped = gapped_row_is_linked;
  parts = part_row_is_linked;
  further = links_name_further_rows;
  once = no_row_is_named_twice;
  back = none_leads_back_to_itself;
}
