use Rattle.std.proofs.Common.{rules}
use Rattle.lt_words.proofs.ReadingLaws.{if_none, no_seed, no_txns, no_lines}
use Rattle.lt_words.proofs.reading.recipe_in.Goals as goal

pub returns-in_err-seed-clause-none : goal.returns-in_err-seed-clause-none
returns-in_err-seed-clause-none c = if_none _ (no_seed _ c.in_err-seed.ensures.none)

pub returns-in_err-txns-clause-none : goal.returns-in_err-txns-clause-none
returns-in_err-txns-clause-none c = if_none _ (no_txns _ c.in_err-txns.ensures.none)

pub returns-in_err-lines-clause-none : goal.returns-in_err-lines-clause-none
returns-in_err-lines-clause-none c = if_none _ (no_lines _ _ (search rules) c.in_err-lines.ensures.none)
