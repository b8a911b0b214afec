use Rattle.std.proofs.Common.{◌==◌, not}
use Rattle.std.proofs.lemmas.List.Filters.{FiltersInPlace}
use Rattle.lt_seq.proofs.pairs.keep_others.Given as goal

abbrev pub invariant-loop-i : goal.invariant-loop-i
invariant-loop-i l = FiltersInPlace (λ p. not (p.owner == l.txn)) l.initial.met l.met l.kept l.i
