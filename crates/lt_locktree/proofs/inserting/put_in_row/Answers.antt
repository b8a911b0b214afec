use Rattle.std.proofs.Common.{◌≡◌, ℕ, ◌+◌, ◌-◌, ◌^◌, ◌<◌, ◌≤◌, ◌++◌, ◌∷◌, [], List, length, take, drop, rules, refl, sym, ap, ◌∙◌, subst, eq-eqb, arith}
use Rattle.std.specs.Prelude.{pos, All, nat_eq}
use Rattle.lt_ranges.specs.Interval.{Interval, IsInterval}
use Rattle.lt_seq.specs.declared.event.Deed.TheVariants.{Ask}
use Rattle.lt_seq.specs.declared.event.Reply.TheVariants.{Granted}
use Rattle.lt_forest.specs.declared.part.Part.{Part}
use Rattle.lt_forest.specs.declared.part.PartRow.{PartRow}
use Rattle.lt_forest.specs.Counts.{one_if}
use Rattle.lt_rows.specs.declared.image.RowImage.{RowImage}
use Rattle.lt_rows.specs.declared.view.View.{View}
use Rattle.lt_rows.specs.Handles.{knows}
use Rattle.lt_rows.specs.Lawful.{IsCommit}
use Rattle.lt_rows.specs.Views.{AllHeld, IsHeld, row_at, words_of}
use Rattle.lt_rows.proofs.Planned.{held_row}
use Rattle.lt_tree.specs.declared.pool.PoolRows.{PoolRows}
use Rattle.lt_tree.specs.Gathers.{IsLockedWith, IsClosed}
use Rattle.lt_tree.specs.Pools.{pool_rows}
use Rattle.lt_locktree.specs.LawsOfGrants.{StandsBetween, NoBufferBegins, new_row}
use Rattle.lt_locktree.specs.LawsOfPlans.{taken_from}
use Rattle.lt_locktree.specs.Makes.{IsOf}
use Rattle.lt_locktree.specs.PlannedParts.{PlansRows, IsLoaded}
use Rattle.lt_locktree.proofs.GrownServed.{hangs_between, rows_small}
use Rattle.lt_locktree.proofs.PutInServed.{buffer_kept, put_in_all}
use Rattle.lt_locktree.proofs.inserting.put_in_row.Goals as goal

pub image-stays-requires : goal.image-stays-requires
image-stays-requires c =
    let s = c.vacant.new.self in
    let o : one_if (nat_eq s.held s.held) ≡ 1 = ap one_if (eq-eqb s.held s.held refl) in
    record {
      held = subst (IsHeld (knows s.pass)) (sym c.held-here.ensures)
          (held_row (knows s.pass) s.held (c.vacant.ensures.locked.held_rows s.held (omega arith)));
    }

same_part : (c : goal.After-part) → c.part.result.now ≡ c.args.locked.part
same_part c =
    c.part.ensures ∙ (c.image-vacant.ensures.kept.4 ∙ (c.image-pool.ensures.kept.4 ∙ (c.image-stays.ensures.kept.4 ∙ c.vacant.ensures.kept.4)))

pub plan_put_in-requires-clause-hangs_between : goal.plan_put_in-requires-clause-hangs_between
plan_put_in-requires-clause-hangs_between c =
    let s = c.args.locked in
    subst (λ (p : Part). length p.hangs.items ≡ length p.rows.items + 1) (sym (same_part c))
    (hangs_between s.pass s.table.now.plan s.tree s.asked s.held s.part.rows.items s.part.hangs.items
    (pool_rows (knows s.pass).plan.trees s.pool) c.requires.locked c.requires.closed s.of.0.1 s.of.2)

pub plan_put_in-requires-clause-small : goal.plan_put_in-requires-clause-small
plan_put_in-requires-clause-small c =
    let s = c.args.locked in
    subst (λ (p : Part). All (λ (r : PartRow). r.row < 2 ^ 32 - 1) p.rows.items) (sym (same_part c))
    (rows_small s.pass s.table.now.plan s.tree s.asked s.held s.part.rows.items s.part.hangs.items
    (pool_rows (knows s.pass).plan.trees s.pool) c.requires.locked c.requires.closed s.of.0.1 s.of.2)

served : (c : goal.After-event-2-1) → AllHeld (knows c.vacant.new.self.pass).held c.in-Ok-plan_put_in.plan.items
    × IsCommit (knows c.vacant.new.self.pass).plan (knows c.vacant.new.self.pass)
    record { pass = c.args.asking.now.pass; txn = c.args.asking.now.txn; deed = Ask c.args.asking.now.tree c.args.asking.now.range Granted }
    c.in-Ok-plan_put_in.plan.items (pos 1)
served c =
    let s = c.vacant.new.self in
    let v : View = knows s.pass in
    let a = c.args.asking.now in
    let old = c.args.locked in
    let kept = c.vacant.ensures.kept in
    let row : ℕ = c.in-Ok.row in
    let stays : RowImage = c.image-stays.result in
    let pool : RowImage = c.image-pool.result in
    let vacant : RowImage = c.image-vacant.result in
    let interval : IsInterval a.range = search rules in
    let stays_long : length stays.words ≡ 21 = search rules in
    let pool_long : length pool.words ≡ 21 = search rules in
    let vacant_long : length vacant.words ≡ 21 = search rules in
    let same : knows c.image-stays.new.self.pass ≡ v = c.image-stays.ensures.same.1 in
    let same_2 : knows c.image-pool.new.self.pass ≡ v = c.image-pool.ensures.same.1 ∙ same in
    let anchor_is : c.pool_row-anchor.result ≡ v.plan.trees = c.pool_row-anchor.ensures ∙ ap (λ (u : View). u.plan.trees) same in
    let loaded : IsLoaded v s.held stays =
    record {
      row = c.image-stays.ensures.words.0 ∙ c.held-here.ensures;
      words = c.image-stays.ensures.words.1 ∙ ap (λ (n : ℕ). words_of (row_at v n)) c.held-here.ensures;
      long = stays_long;
    } in
    let pool_loaded : IsLoaded v v.plan.trees pool =
    record {
      row = c.image-pool.ensures.words.0 ∙ anchor_is;
      words = c.image-pool.ensures.words.1 ∙ (λ j. words_of (row_at (same j) (anchor_is j)));
      long = pool_long;
    } in
    let row_loaded : IsLoaded v row vacant =
    record {
      row = c.image-vacant.ensures.words.0;
      words = c.image-vacant.ensures.words.1 ∙ (λ j. words_of (row_at (same_2 j) row));
      long = vacant_long;
    } in
    let first = c.in-Ok.ensures.first in
    let part_is : c.part.result.now ≡ old.part =
    c.part.ensures ∙ (c.image-vacant.ensures.kept.4 ∙ (c.image-pool.ensures.kept.4 ∙ (c.image-stays.ensures.kept.4 ∙ kept.4))) in
    let locked : IsLockedWith v s.tree s.asked s.held s.part.rows.items s.part.hangs.items (row ∷ v.plan.trees ∷ []) =
    subst (λ (p : PoolRows). IsLockedWith v s.tree s.asked s.held s.part.rows.items s.part.hangs.items (pool_rows v.plan.trees p)) first.0
    c.vacant.ensures.locked in
    let closed : IsClosed s.asked s.part.rows.items s.part.hangs.items =
    subst (λ (x : Interval × Part). IsClosed x.0 x.1.rows.items x.1.hangs.items) (λ j. (sym kept.2 j, sym kept.4 j)) c.requires.closed in
    let of : IsOf s.pass s.tree s.asked a =
    (c.requires.asking.0 ∙ sym c.vacant.ensures.same.0.0, c.requires.asking.1 ∙ sym kept.1, c.requires.asking.2 ∙ sym kept.2) in
    let o : one_if (nat_eq old.held old.held) ≡ 1 = ap one_if (eq-eqb old.held old.held refl) in
    let here_held : IsHeld (knows old.pass) old.held = held_row (knows old.pass) old.held (c.requires.locked.held_rows old.held (omega arith)) in
    let unbuffered : NoBufferBegins v s.tree s.held a.txn s.part.rows.items =
    subst (λ (x : (ℕ × ℕ) × Part). NoBufferBegins v x.0.0 x.0.1 a.txn x.1.rows.items) (λ j. ((sym kept.1 j, sym kept.3 j), sym kept.4 j))
    (buffer_kept (knows old.pass) v old.tree old.held a.txn old.part.rows.items here_held
    c.vacant.ensures.rows c.vacant.ensures.same.1 c.requires.unbuffered) in
    put_in_all s.pass s.table.now.plan s.tree s.asked s.held s.part.rows.items s.part.hangs.items row locked closed s.of.0.1 s.of.2 a of interval
    s.pass.numbered.0 first.1 (ap (λ (u : View). u.licensed) c.vacant.ensures.same.1.0 ∙ c.requires.licensed)
    stays pool vacant loaded pool_loaded row_loaded
    c.args.at (subst (λ (p : Part). c.args.at ≤ length p.rows.items) (sym kept.4) c.requires.at)
    (subst (λ (p : Part). StandsBetween a.range (take c.args.at p.rows.items) (drop c.args.at p.rows.items)) (sym kept.4) c.requires.between)
    unbuffered c.in-Ok-plan_put_in.plan.items
    (subst (λ (p : Part). PlansRows a.tree a.range stays (taken_from pool vacant ∷ []) c.in-Ok-plan_put_in.plan.items
    (take c.args.at p.rows.items ++ new_row a.txn a.range vacant.row ∷ drop c.args.at p.rows.items)
    (take c.args.at p.hangs.items ++ 0 ∷ 0 ∷ drop (c.args.at + 1) p.hangs.items)) (part_is ∙ sym kept.4) c.in-Ok-plan_put_in.ensures)

same_view : (c : goal.After-event-2-1) → knows c.image-vacant.new.self.pass ≡ knows c.vacant.new.self.pass
same_view c = c.image-vacant.ensures.same.1 ∙ (c.image-pool.ensures.same.1 ∙ c.image-stays.ensures.same.1)

pub finish-pass-requires-clause-held : goal.finish-pass-requires-clause-held
finish-pass-requires-clause-held c =
    subst (λ (x : View × List RowImage). AllHeld x.0.held x.1)
    (λ j. (sym (same_view c) j, sym c.deref.ensures.value j)) (served c).0

pub finish-pass-requires-clause-lawful : goal.finish-pass-requires-clause-lawful
finish-pass-requires-clause-lawful c =
    subst (λ (x : View × List RowImage). IsCommit x.0.plan x.0
    record { pass = c.args.asking.now.pass; txn = c.args.asking.now.txn; deed = Ask c.args.asking.now.tree c.args.asking.now.range Granted }
    x.1 (pos 1))
    (λ j. (sym (same_view c) j, sym c.deref.ensures.value j)) (served c).1
