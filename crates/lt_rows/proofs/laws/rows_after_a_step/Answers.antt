use Rattle.lt_rows.proofs.StepLaws.{taken_row_is_held, written_row_is_stored, put_row_is_gone, gathering_is_kept}
use Rattle.lt_rows.proofs.laws.rows_after_a_step.Goals as goal

pub returns : goal.returns
returns c = record {
  taken = taken_row_is_held;
  written = written_row_is_stored;
  gone = put_row_is_gone;
  gathering = gathering_is_kept;
}
