use Rattle.lt_rows.proofs.RuleLaws.{limit_is_kept}
use Rattle.lt_rows.proofs.LessonLaws.{licensed_finds_vacant}
use Rattle.lt_rows.proofs.laws.licences.Goals as goal

pub returns : goal.returns
returns c = record {
  kept = limit_is_kept;
  vacant = licensed_finds_vacant;
}
