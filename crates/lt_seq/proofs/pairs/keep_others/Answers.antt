use Rattle.std.proofs.Common.{arith}
use Rattle.std.proofs.lemmas.List.Filters.{FiltersInPlace-more_set, FiltersInPlace-more_no}
use Rattle.std.proofs.lemmas.Bool.Decides.{nat_tests}
use Rattle.lt_seq.proofs.pairs.keep_others.Goals as goal

pub loop-i-preserved : goal.loop-i-preserved
loop-i-preserved c = elim c.if-pair-txn.branch [
  | goal.then-pair-txn w ↦ rw (w.met-is, w.kept-is) (FiltersInPlace-more_set c.loop-i.invariant (omega arith) (grind (arith, nat_tests)) c.index-met-i.is)
  | goal.else-pair-txn w ↦ rw (w.met-is, w.kept-is) (FiltersInPlace-more_no c.loop-i.invariant (omega arith) (grind (arith, nat_tests)) c.index-met-i.is)
]
