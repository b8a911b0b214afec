use Rattle.std.proofs.Common.{rules, ◌≡◌, ℕ, ◌+◌, ◌-◌, ◌^◌, ◌<◌, ◌≤◌, true, List, length, take, drop, refl, sym, ap, ◌∙◌, subst, eq-eqb, arith, All, ℤ, pos, ◌+ℤ◌, w64, FitsSigned}
use Rattle.std.specs.Prelude.{nat_eq}
use Rattle.std.specs.List.{AllWithin}
use Rattle.std.proofs.lemmas.Int.{to_z-of_z}
use Rattle.lt_ranges.specs.Interval.{Interval, IsInterval}
use Rattle.lt_seq.specs.declared.event.Deed.TheVariants.{Ask}
use Rattle.lt_seq.specs.declared.event.Reply.TheVariants.{Granted}
use Rattle.lt_seq.specs.Pairs.{is_own}
use Rattle.lt_forest.specs.declared.part.Part.{Part}
use Rattle.lt_forest.specs.declared.part.PartRow.{PartRow}
use Rattle.lt_forest.specs.Counts.{one_if, times}
use Rattle.lt_forest.specs.Parts.{row_pair}
use Rattle.lt_rows.specs.declared.image.RowImage.{RowImage}
use Rattle.lt_rows.specs.declared.view.View.{View}
use Rattle.lt_rows.specs.Handles.{knows}
use Rattle.lt_rows.specs.Lawful.{IsCommit}
use Rattle.lt_rows.specs.Views.{AllHeld, IsHeld, row_at, words_of}
use Rattle.lt_rows.proofs.Planned.{held_row}
use Rattle.lt_tree.specs.declared.pool.PoolRows.{PoolRows}
use Rattle.lt_tree.specs.Gathers.{IsClosed}
use Rattle.lt_tree.specs.Pools.{pool_rows}
use Rattle.lt_locktree.specs.LawsOfGrants.{StandsBetween}
use Rattle.lt_locktree.specs.Makes.{IsOf}
use Rattle.lt_locktree.specs.Mergings.{PlansMerged}
use Rattle.lt_locktree.specs.PlannedParts.{IsLoaded}
use Rattle.lt_locktree.proofs.FreeServed.{anchor_in}
use Rattle.lt_locktree.proofs.GrownServed.{hangs_between, rows_small}
use Rattle.lt_locktree.proofs.MergedServed.{merged_all}
use Rattle.lt_locktree.proofs.merging.merge_rows.Goals as goal

pub image-stays-requires : goal.image-stays-requires
image-stays-requires c =
    let s = c.pool.new.self in
    let o : one_if (nat_eq s.held s.held) ≡ 1 = ap one_if (eq-eqb s.held s.held refl) in
    record {
      held = subst (IsHeld (knows s.pass)) (sym c.held-here.ensures)
          (held_row (knows s.pass) s.held (c.pool.ensures.locked.held_rows s.held (omega arith)));
    }

same_part : (c : goal.After-part) → c.part.result.now ≡ c.args.locked.part
same_part c = c.part.ensures ∙ (c.image-pool.ensures.kept.4 ∙ (c.image-stays.ensures.kept.4 ∙ c.pool.ensures.kept.4))

pub plan_merged-requires-clause-hangs_between : goal.plan_merged-requires-clause-hangs_between
plan_merged-requires-clause-hangs_between c =
    let s = c.args.locked in
    subst (λ (p : Part). length p.hangs.items ≡ length p.rows.items + 1) (sym (same_part c))
    (hangs_between s.pass s.table.now.plan s.tree s.asked s.held s.part.rows.items s.part.hangs.items
    (pool_rows (knows s.pass).plan.trees s.pool) c.requires.locked c.requires.closed s.of.0.1 s.of.2)

pub plan_merged-requires-clause-small : goal.plan_merged-requires-clause-small
plan_merged-requires-clause-small c =
    let s = c.args.locked in
    subst (λ (p : Part). All (λ (r : PartRow). r.row < 2 ^ 32 - 1) p.rows.items) (sym (same_part c))
    (rows_small s.pass s.table.now.plan s.tree s.asked s.held s.part.rows.items s.part.hangs.items
    (pool_rows (knows s.pass).plan.trees s.pool) c.requires.locked c.requires.closed s.of.0.1 s.of.2)

served : (c : goal.After-fewer) (change : ℤ) → change +ℤ pos (c.args.met.end - c.args.met.start - 1) ≡ pos 0
    → AllHeld (knows c.pool.new.self.pass).held c.in-Ok.plan.items
    × IsCommit (knows c.pool.new.self.pass).plan (knows c.pool.new.self.pass)
    record { pass = c.args.asking.now.pass; txn = c.args.asking.now.txn; deed = Ask c.args.asking.now.tree c.args.asking.now.range Granted }
    c.in-Ok.plan.items change
served c change counts =
    let s = c.pool.new.self in
    let v : View = knows s.pass in
    let a = c.args.asking.now in
    let start = c.args.met.start in
    let end = c.args.met.end in
    let kept = c.pool.ensures.kept in
    let stays : RowImage = c.image-stays.result in
    let pool : RowImage = c.image-pool.result in
    let interval : IsInterval a.range = search rules in
    let stays_long : length stays.words ≡ 21 = search rules in
    let pool_long : length pool.words ≡ 21 = search rules in
    let same : knows c.image-stays.new.self.pass ≡ v = c.image-stays.ensures.same.1 in
    let anchor_is : c.pool_row-anchor.result ≡ v.plan.trees = c.pool_row-anchor.ensures ∙ ap (λ (u : View). u.plan.trees) same in
    let closed : IsClosed s.asked s.part.rows.items s.part.hangs.items =
    subst (λ (x : Interval × Part). IsClosed x.0 x.1.rows.items x.1.hangs.items) (λ j. (sym kept.2 j, sym kept.4 j)) c.requires.closed in
    let of : IsOf s.pass s.tree s.asked a =
    (c.requires.asking.0 ∙ sym c.pool.ensures.same.0.0, c.requires.asking.1 ∙ sym kept.1, c.requires.asking.2 ∙ sym kept.2) in
    let loaded : IsLoaded v s.held stays =
    record {
      row = c.image-stays.ensures.words.0 ∙ c.held-here.ensures;
      words = c.image-stays.ensures.words.1 ∙ ap (λ (n : ℕ). words_of (row_at v n)) c.held-here.ensures;
      long = stays_long;
    } in
    let pool_loaded : IsLoaded v v.plan.trees pool =
    record {
      row = c.image-pool.ensures.words.0 ∙ anchor_is;
      words = c.image-pool.ensures.words.1 ∙ (λ j. words_of (row_at (same j) (anchor_is j)));
      long = pool_long;
    } in
    let back : c.args.locked.part ≡ s.part = sym kept.4 in
    merged_all s.pass s.table.now.plan s.tree s.asked s.held s.part (pool_rows v.plan.trees s.pool) c.pool.ensures.locked
    closed s.of.0.1 s.of.2 a of interval s.pass.numbered.0
    (subst (λ (p : PoolRows). 0 < times v.plan.trees (pool_rows v.plan.trees p)) (sym c.in_default.ensures.pool)
    (anchor_in v.plan.trees c.args.locked.pool))
    stays pool loaded pool_loaded start end c.requires.some
    (subst (λ (p : Part). end ≤ length p.rows.items) back c.requires.within)
    (subst (λ (p : Part). StandsBetween a.range (take start p.rows.items) (drop end p.rows.items)) back c.requires.between)
    (subst (λ (p : Part). AllWithin (λ r. is_own a.txn a.range (row_pair r) ≡ true) p.rows.items start end) back c.requires.own)
    c.in-Ok.plan.items
    (subst (λ (p : Part). PlansMerged a stays pool p start end c.in-Ok.plan.items)
    (c.part.ensures ∙ (c.image-pool.ensures.kept.4 ∙ c.image-stays.ensures.kept.4)) c.in-Ok.ensures) change counts

same_view : (c : goal.After-fewer) → knows c.image-pool.new.self.pass ≡ knows c.pool.new.self.pass
same_view c = c.image-pool.ensures.same.1 ∙ c.image-stays.ensures.same.1

pub finish-pass-requires-clause-held : goal.finish-pass-requires-clause-held
finish-pass-requires-clause-held c =
    subst (λ (x : View × List RowImage). AllHeld x.0.held x.1)
    (λ j. (sym (same_view c) j, sym c.deref.ensures.value j)) (served c c.fewer.result c.fewer.ensures).0

pub finish-pass-requires-clause-lawful : goal.finish-pass-requires-clause-lawful
finish-pass-requires-clause-lawful c =
    let fits : FitsSigned w64 c.fewer.result = record { sfits = c.fewer.type_inv } in
    subst (λ (x : (View × List RowImage) × ℤ). IsCommit x.0.0.plan x.0.0
    record { pass = c.args.asking.now.pass; txn = c.args.asking.now.txn; deed = Ask c.args.asking.now.tree c.args.asking.now.range Granted }
    x.0.1 x.1)
    (λ j. ((sym (same_view c) j, sym c.deref.ensures.value j), sym (to_z-of_z w64 c.fewer.result fits) j))
    (served c c.fewer.result c.fewer.ensures).1
