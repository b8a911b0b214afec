use Rattle.lt_forest.proofs.PublicLaws.{plan_begins, plan_appends, plan_ends_buffer, plan_drops_buffer}
use Rattle.lt_forest.proofs.laws.plans_for_buffers.Goals as goal

pub returns : goal.returns
returns c = record {
  begins = plan_begins;
  appends = plan_appends;
  ends = plan_ends_buffer;
  dropped = plan_drops_buffer;
}
