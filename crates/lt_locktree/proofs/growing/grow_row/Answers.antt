use Rattle.std.proofs.Common.{◌≡◌, ℕ, ◌+◌, ◌-◌, ◌^◌, ◌<◌, ◌++◌, ◌∷◌, [], List, length, take, drop, rules, refl, sym, ap, ◌∙◌, subst, eq-eqb, arith}
use Rattle.std.specs.Prelude.{pos, All, nat_eq}
use Rattle.lt_ranges.specs.Interval.{IsInterval}
use Rattle.lt_seq.specs.declared.event.Deed.TheVariants.{Ask}
use Rattle.lt_seq.specs.declared.event.Reply.TheVariants.{Granted}
use Rattle.lt_forest.specs.declared.part.Part.{Part}
use Rattle.lt_forest.specs.declared.part.PartRow.{PartRow}
use Rattle.lt_forest.specs.Counts.{one_if}
use Rattle.lt_rows.specs.declared.image.RowImage.{RowImage}
use Rattle.lt_rows.specs.declared.view.View.{View}
use Rattle.lt_rows.specs.Handles.{knows}
use Rattle.lt_rows.specs.Lawful.{IsCommit}
use Rattle.lt_rows.specs.Views.{AllHeld, IsHeld, row_at, words_of}
use Rattle.lt_rows.proofs.Planned.{held_row}
use Rattle.lt_tree.specs.Pools.{pool_rows}
use Rattle.lt_locktree.specs.LawsOfGrants.{merged_row}
use Rattle.lt_locktree.specs.PlannedParts.{IsAt, PlansRows, IsLoaded}
use Rattle.lt_locktree.proofs.GrownServed.{hangs_between, rows_small, grown_all}
use Rattle.lt_locktree.proofs.growing.grow_row.Goals as goal

pub image-stays-requires : goal.image-stays-requires
image-stays-requires c =
    let here = c.args.locked.held in
    let o : one_if (nat_eq here here) ≡ 1 = ap one_if (eq-eqb here here refl) in
    record {
      held = subst (IsHeld (knows c.args.locked.pass)) (sym c.held-held.ensures)
          (held_row (knows c.args.locked.pass) here (c.requires.locked.held_rows here (omega arith)));
    }

pub plan_grown-requires-clause-hangs_between : goal.plan_grown-requires-clause-hangs_between
plan_grown-requires-clause-hangs_between c =
    let locked = c.args.locked in
    subst (λ (p : Part). length p.hangs.items ≡ length p.rows.items + 1) (sym (c.part.ensures ∙ c.image-stays.ensures.kept.4))
    (hangs_between locked.pass locked.table.now.plan locked.tree locked.asked locked.held locked.part.rows.items locked.part.hangs.items
    (pool_rows (knows locked.pass).plan.trees locked.pool) c.requires.locked c.requires.closed locked.of.0.1 locked.of.2)

pub plan_grown-requires-clause-small : goal.plan_grown-requires-clause-small
plan_grown-requires-clause-small c =
    let locked = c.args.locked in
    subst (λ (p : Part). All (λ (r : PartRow). r.row < 2 ^ 32 - 1) p.rows.items) (sym (c.part.ensures ∙ c.image-stays.ensures.kept.4))
    (rows_small locked.pass locked.table.now.plan locked.tree locked.asked locked.held locked.part.rows.items locked.part.hangs.items
    (pool_rows (knows locked.pass).plan.trees locked.pool) c.requires.locked c.requires.closed locked.of.0.1 locked.of.2)

served : (c : goal.After-event-1) → AllHeld (knows c.args.locked.pass).held c.in-Ok.plan.items
    × IsCommit (knows c.args.locked.pass).plan (knows c.args.locked.pass)
    record { pass = c.args.asking.now.pass; txn = c.args.asking.now.txn; deed = Ask c.args.asking.now.tree c.args.asking.now.range Granted }
    c.in-Ok.plan.items (pos 0)
served c =
    let locked = c.args.locked in
    let a = c.args.asking.now in
    let stays : RowImage = c.image-stays.result in
    let interval : IsInterval a.range = search rules in
    let long : length stays.words ≡ 21 = search rules in
    let loaded : IsLoaded (knows locked.pass) locked.held stays =
    record {
      row = c.image-stays.ensures.words.0 ∙ c.held-held.ensures;
      words = c.image-stays.ensures.words.1 ∙ ap (λ (n : ℕ). words_of (row_at (knows locked.pass) n)) c.held-held.ensures;
      long = long;
    } in
    grown_all locked.pass locked.table.now.plan locked.tree locked.asked locked.held locked.part.rows.items locked.part.hangs.items
    (pool_rows (knows locked.pass).plan.trees locked.pool) c.requires.locked c.requires.closed locked.of.0.1 locked.of.2 a c.requires.asking interval
    locked.pass.numbered.0 stays loaded c.args.at c.requires.own c.requires.between c.in-Ok.plan.items
    (subst (λ (p : Part). (r : PartRow) × IsAt p.rows.items c.args.at r
    × PlansRows a.tree a.range stays [] c.in-Ok.plan.items
    (take c.args.at p.rows.items ++ merged_row a.txn a.range r [] ∷ drop (c.args.at + 1) p.rows.items) p.hangs.items)
    (c.part.ensures ∙ c.image-stays.ensures.kept.4) c.in-Ok.ensures)

pub finish-pass-requires-clause-held : goal.finish-pass-requires-clause-held
finish-pass-requires-clause-held c =
    subst (λ (x : View × List RowImage). AllHeld x.0.held x.1)
    (λ j. (sym c.image-stays.ensures.same.1 j, sym c.deref.ensures.value j)) (served c).0

pub finish-pass-requires-clause-lawful : goal.finish-pass-requires-clause-lawful
finish-pass-requires-clause-lawful c =
    subst (λ (x : View × List RowImage). IsCommit x.0.plan x.0
    record { pass = c.args.asking.now.pass; txn = c.args.asking.now.txn; deed = Ask c.args.asking.now.tree c.args.asking.now.range Granted } x.1 (pos 0))
    (λ j. (sym c.image-stays.ensures.same.1 j, sym c.deref.ensures.value j)) (served c).1
