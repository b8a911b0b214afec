use Rattle.std.proofs.Common.{◌∷◌}
use Rattle.lt_forest.specs.Parts.{numbers}
use Rattle.lt_rows.specs.Handles.{knows}
use Rattle.lt_tree.specs.Pools.{pool_rows}
use Rattle.lt_tree.proofs.PuttingLaws.{keeps_front, backs_rest}
use Rattle.lt_tree.proofs.put.put_held.Goals as goal

pub put_pool-requires-clause-keeps : goal.put_pool-requires-clause-keeps
put_pool-requires-clause-keeps c =
    keeps_front (knows c.args.pass.now) (pool_rows (knows c.args.pass.now).plan.trees c.args.pool)
    (c.args.held ∷ numbers c.args.rows.items) c.requires.backs.keeps

pub put_part-requires-clause-backs : goal.put_part-requires-clause-backs
put_part-requires-clause-backs c =
    backs_rest (knows c.args.pass.now) (knows c.put_pool.new.pass) (pool_rows (knows c.args.pass.now).plan.trees c.args.pool)
    (c.args.held ∷ numbers c.args.rows.items) c.requires.backs c.put_pool.ensures.put
