use Rattle.std.proofs.Common.{[], ◌∷◌, sym, subst, ℤ, w64, FitsSigned}
use Rattle.std.proofs.lemmas.Int.{to_z-of_z}
use Rattle.lt_rows.specs.Lawful.{IsCommit}
use Rattle.lt_rows.specs.Handles.{knows}
use Rattle.lt_tree.proofs.ViewLaws.{rows_same, keeps_same, held_on}
use Rattle.lt_chain.proofs.ImageLaws.{all_planned, apart, held_after}
use Rattle.lt_chain.proofs.HandingLaws.{drops_commit, front_backs}
use Rattle.lt_chain.proofs.drop.commit_drop.Goals as goal

pub commit-place-requires-clause-held : goal.commit-place-requires-clause-held
commit-place-requires-clause-held c =
    let d = c.requires.drops in
    all_planned c.args.table.now.plan (knows c.args.pass.now) c.args._tree c.args.loaded.now c.args.images.now c.requires.tree c.requires.held d.anchor_row d.pool_row d.row_is

pub commit-place-requires-clause-lawful : goal.commit-place-requires-clause-lawful
commit-place-requires-clause-lawful c =
    let fits : FitsSigned w64 c.fewer.result = record { sfits = c.fewer.type_inv } in
    subst (λ (z : ℤ). IsCommit c.args.table.now.plan (knows c.args.pass.now) c.args.event.now (c.args.images.now.anchor ∷ c.args.images.now.pool ∷ c.args.images.now.row ∷ []) z)
    (sym (to_z-of_z w64 c.fewer.result fits))
    (drops_commit c.args.table.now.plan (knows c.args.pass.now) c.args._tree c.args.rows.now c.args.loaded.now c.args.images.now c.requires.tree c.requires.held c.requires.backs c.requires.last c.requires.drops
    c.args.pass.now.number c.args.event.now c.requires.buffer c.requires.event c.fewer.result c.fewer.ensures (sym c.args.pass.now.numbered.0))

pub give_back_three-requires-clause-rows : goal.give_back_three-requires-clause-rows
give_back_three-requires-clause-rows c =
    let d = c.requires.drops in
    held_after c.args.table.now.plan (knows c.args.pass.now) c.args._tree c.args.loaded.now c.args.images.now c.requires.tree c.requires.held d.anchor_row d.pool_row d.row_is
    (knows c.commit-place.new.pass) _ c.commit-place.ensures.made.2

pub give_back_three-requires-clause-apart : goal.give_back_three-requires-clause-apart
give_back_three-requires-clause-apart c =
    let d = c.requires.drops in
    apart c.args.table.now.plan (knows c.args.pass.now) c.args._tree c.args.loaded.now c.args.images.now c.requires.tree c.requires.held d.anchor_row d.pool_row d.row_is

pub put_rows-requires-clause-backs : goal.put_rows-requires-clause-backs
put_rows-requires-clause-backs c =
    front_backs c.args.table.now.plan (knows c.args.pass.now) c.args._tree c.args.rows.now c.args.loaded.now c.args.images.now c.requires.tree c.requires.held c.requires.backs c.requires.last c.requires.drops
    (knows c.commit-place.new.pass) (knows c.give_back_three.new.pass) _ c.commit-place.ensures.made.2 c.give_back_three.ensures.gone c.give_back_three.ensures.others

pub returns-clause-made : goal.returns-clause-made
returns-clause-made c = record {
  full = knows c.args.pass.now;
  made = knows c.commit-place.new.pass;
  plan = c.args.images.now.anchor ∷ c.args.images.now.pool ∷ c.args.images.now.row ∷ [];
  takes = rows_same (knows c.args.pass.now);
  keeps = keeps_same (knows c.args.pass.now);
  commits = c.commit-place.ensures.made;
  puts = held_on (knows c.commit-place.new.pass) (knows c.give_back_three.new.pass) (knows c.put_rows.new.pass) c.give_back_three.ensures.only c.put_rows.ensures.only;
  none = c.put_rows.ensures.none;
}
