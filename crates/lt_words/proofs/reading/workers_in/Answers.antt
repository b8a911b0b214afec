use Rattle.std.proofs.Common.{rules}
use Rattle.lt_words.proofs.ReadingLaws.{if_none, no_workers}
use Rattle.lt_words.proofs.reading.workers_in.Goals as goal

pub returns-in_err-number_in-clause-none : goal.returns-in_err-number_in-clause-none
returns-in_err-number_in-clause-none c = if_none _ (no_workers _ _ (search rules) c.in_err-number_in.ensures.none)
