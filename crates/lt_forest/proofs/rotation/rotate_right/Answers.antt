use Rattle.lt_forest.proofs.RotationLaws.{turns_right}
use Rattle.lt_forest.proofs.rotation.rotate_right.Goals as goal

pub returns-clause-turned : goal.returns-clause-turned
returns-clause-turned c = turns_right c.args.top c.args.low c.requires.link
