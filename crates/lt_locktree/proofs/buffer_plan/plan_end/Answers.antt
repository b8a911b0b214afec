use Rattle.lt_locktree.proofs.PairsPlanned.{small_chain, small_more}
use Rattle.lt_locktree.proofs.buffer_plan.plan_end.Goals as goal

pub plan_given-requires-clause-small : goal.plan_given-requires-clause-small
plan_given-requires-clause-small c = small_chain c.args.rows.now c.in-Anchor.pool c.args.ends.now.spare c.in-Anchor.is c.requires.small

pub plan_taken-requires-clause-small : goal.plan_taken-requires-clause-small
plan_taken-requires-clause-small c =
    small_more c.args.rows.now c.in-First.pool c.in-First.first c.args.ends.now.spare c.in-First.is c.requires.small
