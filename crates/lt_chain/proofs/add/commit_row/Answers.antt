use Rattle.std.proofs.Common.{[], ◌∷◌, sym}
use Rattle.lt_rows.specs.Handles.{knows}
use Rattle.lt_tree.proofs.ViewLaws.{rows_same, keeps_same}
use Rattle.lt_chain.proofs.ImageLaws.{all_planned, apart, held_after, none_after}
use Rattle.lt_chain.proofs.AddLaws.{adds_commit}
use Rattle.lt_chain.proofs.add.commit_row.Goals as goal

pub commit-place-requires-clause-held : goal.commit-place-requires-clause-held
commit-place-requires-clause-held c =
    let plan = c.requires.adds.1 in
    all_planned c.args.table.now.plan (knows c.args.pass.now) c.args._tree c.args.loaded.now c.args.images.now c.requires.tree c.requires.held.0 plan.anchor_row plan.pool_row plan.row_is

pub commit-place-requires-clause-lawful : goal.commit-place-requires-clause-lawful
commit-place-requires-clause-lawful c =
    adds_commit c.args.table.now.plan (knows c.args.pass.now) c.args._tree c.args._count c.args.event.now c.args.pass.now.number c.requires.adds.0 c.args.loaded.now c.args.images.now
    c.requires.tree c.requires.held.0 c.requires.first c.requires.adds.1 c.requires.may (sym c.args.pass.now.numbered.0) c.requires.fresh.2

pub give_back_three-requires-clause-rows : goal.give_back_three-requires-clause-rows
give_back_three-requires-clause-rows c =
    let plan = c.requires.adds.1 in
    held_after c.args.table.now.plan (knows c.args.pass.now) c.args._tree c.args.loaded.now c.args.images.now c.requires.tree c.requires.held.0 plan.anchor_row plan.pool_row plan.row_is
    (knows c.commit-place.new.pass) _ c.commit-place.ensures.made.2

pub give_back_three-requires-clause-apart : goal.give_back_three-requires-clause-apart
give_back_three-requires-clause-apart c =
    let plan = c.requires.adds.1 in
    apart c.args.table.now.plan (knows c.args.pass.now) c.args._tree c.args.loaded.now c.args.images.now c.requires.tree c.requires.held.0 plan.anchor_row plan.pool_row plan.row_is

pub returns-clause-made : goal.returns-clause-made
returns-clause-made c =
    let plan = c.requires.adds.1 in
    record {
      full = knows c.args.pass.now;
      made = knows c.commit-place.new.pass;
      plan = c.args.images.now.anchor ∷ c.args.images.now.pool ∷ c.args.images.now.row ∷ [];
      takes = rows_same (knows c.args.pass.now);
      keeps = keeps_same (knows c.args.pass.now);
      commits = c.commit-place.ensures.made;
      puts = c.give_back_three.ensures.only;
      none = none_after c.args.table.now.plan (knows c.args.pass.now) c.args._tree c.args.loaded.now c.args.images.now c.requires.tree c.requires.held.0 plan.anchor_row plan.pool_row plan.row_is
          (knows c.commit-place.new.pass) (knows c.give_back_three.new.pass) _ c.commit-place.ensures.made.2 c.requires.held.1 c.give_back_three.ensures.gone c.give_back_three.ensures.others;
    }
