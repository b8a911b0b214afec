use Rattle.lt_forest.proofs.RotationLaws.{turns_left}
use Rattle.lt_forest.proofs.rotation.rotate_left.Goals as goal

pub returns-clause-turned : goal.returns-clause-turned
returns-clause-turned c = turns_left c.args.top c.args.low c.requires.link
