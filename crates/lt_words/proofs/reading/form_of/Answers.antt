use Rattle.lt_words.proofs.ReadingLaws.{if_none, no_crew, no_live, no_cut, no_cut_at, no_make, no_sum}
use Rattle.lt_words.proofs.reading.form_of.Goals as goal

pub returns-in_err-workers_in-in-crew-clause-none : goal.returns-in_err-workers_in-in-crew-clause-none
returns-in_err-workers_in-in-crew-clause-none c = if_none _ (no_crew c.args.name.now _ c.in-crew.is c.in_err-workers_in-in-crew.ensures.none)

pub returns-in_err-workers_in-in-live-clause-none : goal.returns-in_err-workers_in-in-live-clause-none
returns-in_err-workers_in-in-live-clause-none c = if_none _ (no_live c.args.name.now _ c.in-live.is c.in_err-workers_in-in-live.ensures.none)

pub returns-in_err-recipe_in-in-make-clause-none : goal.returns-in_err-recipe_in-in-make-clause-none
returns-in_err-recipe_in-in-make-clause-none c = if_none _ (no_make c.args.name.now _ c.in-make.is c.in_err-recipe_in-in-make.ensures.none)

pub returns-in_err-recipe_in-in-sum-clause-none : goal.returns-in_err-recipe_in-in-sum-clause-none
returns-in_err-recipe_in-in-sum-clause-none c = if_none _ (no_sum c.args.name.now _ c.in-sum.is c.in_err-recipe_in-in-sum.ensures.none)

pub returns-in_err-workers_in-in-cut-clause-none : goal.returns-in_err-workers_in-in-cut-clause-none
returns-in_err-workers_in-in-cut-clause-none c = if_none _ (no_cut c.args.name.now _ c.in-cut.is c.in_err-workers_in-in-cut.ensures.none)

pub returns-in_err-mark_in-in-cut-clause-none : goal.returns-in_err-mark_in-in-cut-clause-none
returns-in_err-mark_in-in-cut-clause-none c = if_none _ (no_cut_at c.args.name.now _ c.in-cut.is c.in_err-mark_in-in-cut.ensures.none)
