use Rattle.std.proofs.Common.{arith, refl}
use Rattle.lt_program.proofs.StatusLaws.{only_played, only_given, nothing_owed, sum_breaks, cut_tells, found_form, none_found}
use Rattle.lt_program.proofs.running.run.Goals as goal

pub returns-in_default-found-clause-complete : goal.returns-in_default-found-clause-complete
returns-in_default-found-clause-complete g c = λ no_read no_write.
    nothing_owed _ _ 2 (none_found _ _ c.in_default-found.is c.in-Ok.ensures.none)

pub returns-in-Make-clause-only : goal.returns-in-Make-clause-only
returns-in-Make-clause-only g c = only_given c.give.result c.give.ensures.only

pub returns-in-Sum-clause-only : goal.returns-in-Sum-clause-only
returns-in-Sum-clause-only g c = only_given c.give-in-Sum.result c.give-in-Sum.ensures.only

pub returns-in-Sum-clause-part : goal.returns-in-Sum-clause-part
returns-in-Sum-clause-part g c = λ five.
    sum_breaks _ _ _ _ _ _ _ _ c.in-Some.command c.in-Sum.recipe c.sum_text.result c.in-Sum.is
    (found_form _ _ _ c.in-Some.is c.in-Ok.ensures.some) c.sum_text.ensures
    (c.give-in-Sum.ensures.some five) (c.give-in-Sum.ensures.there (λ six. omega arith))

pub returns-in-Serial-clause-only : goal.returns-in-Serial-clause-only
returns-in-Serial-clause-only g c = only_played c.play.result c.play.ensures.only

pub returns-in-Crew-clause-only : goal.returns-in-Crew-clause-only
returns-in-Crew-clause-only g c = only_played c.play-in-Crew.result c.play-in-Crew.ensures.only

pub returns-in-Live-clause-only : goal.returns-in-Live-clause-only
returns-in-Live-clause-only g c = only_played c.play-in-Live.result c.play-in-Live.ensures.only

pub returns-in-Store-clause-only : goal.returns-in-Store-clause-only
returns-in-Store-clause-only g c = only_played c.store.result c.store.ensures.only

pub returns-in-Cut-clause-only : goal.returns-in-Cut-clause-only
returns-in-Cut-clause-only g c = only_played c.play_cut.result c.play_cut.ensures.only

pub returns-in-Cut-clause-told_or_not : goal.returns-in-Cut-clause-told_or_not
returns-in-Cut-clause-told_or_not g c = λ e.
    cut_tells _ _ _ c.in-Some.command c.in-Cut.workers c.in-Cut.mark _ _ _ c.in-Cut.is
    (found_form _ _ _ c.in-Some.is c.in-Ok.ensures.some) refl (c.play_cut.ensures.told_or_not e)
