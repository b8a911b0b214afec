use Rattle.std.proofs.Common.{◌∙◌}
use Rattle.lt_rows.specs.Handles.{knows}
use Rattle.lt_tree.proofs.HeldImages.{pair_images}
use Rattle.lt_tree.proofs.leveling.level_out.Goals as goal

pub returns-clause-pair : goal.returns-clause-pair
returns-clause-pair c =
    pair_images (knows c.turn_below.new.pass) c.args.tree c.args.asked.now c.turn_below.result.0 c.turn_below.result.1 c.args.here
    (c.turn_below.ensures.stays.0 ∙ c.load_row-above.ensures.words.0) c.turn_below.ensures.pair
