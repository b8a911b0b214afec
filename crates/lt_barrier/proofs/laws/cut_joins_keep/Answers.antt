use Rattle.lt_seq.proofs.JoinLaws.{joins, joined_none}
use Rattle.lt_barrier.proofs.CrossingLaws.{crosses_none}
use Rattle.lt_barrier.proofs.laws.cut_joins_keep.Goals as goal

pub returns : goal.returns
returns c = record { joins = joins; others = joined_none; crosses = crosses_none }
