use Rattle.std.proofs.Common.{rules, ◌≡◌, ℕ, ◌<◌, List, map, length, replicate, ◌+◌, refl, sym, ap, ◌∙◌, subst, eq-eqb, arith, ℤ, pos, ◌+ℤ◌, w64, FitsSigned}
use Rattle.std.specs.Prelude.{nat_eq}
use Rattle.std.proofs.lemmas.Int.{to_z-of_z}
use Rattle.std.proofs.lemmas.List.{length-map}
use Rattle.lt_ranges.specs.declared.key.Key.{Key}
use Rattle.lt_ranges.specs.Interval.{Interval, whole}
use Rattle.lt_seq.specs.declared.event.Event.{Event}
use Rattle.lt_seq.specs.declared.event.Pair.{Pair}
use Rattle.lt_seq.specs.declared.event.Deed.TheVariants.{Join}
use Rattle.lt_rows.specs.declared.row_plan.RowPlan.{RowPlan}
use Rattle.lt_seq.specs.History.{after as after_log}
use Rattle.lt_seq.specs.Pairs.{joined}
use Rattle.lt_rows.specs.Plan.{setting_of}
use Rattle.lt_seq.specs.Table.{tree_at, held_in}
use Rattle.lt_forest.specs.declared.part.PartRow.{PartRow}
use Rattle.lt_forest.specs.declared.part.Part.{Part}
use Rattle.lt_forest.specs.Counts.{one_if, times}
use Rattle.lt_forest.specs.Parts.{row_pair}
use Rattle.lt_rows.specs.declared.image.RowImage.{RowImage}
use Rattle.lt_rows.specs.declared.view.View.{View}
use Rattle.lt_rows.specs.Handles.{knows}
use Rattle.lt_rows.specs.Lawful.{IsCommit}
use Rattle.lt_rows.specs.Views.{AllHeld, IsHeld, row_at, words_of}
use Rattle.lt_rows.proofs.Planned.{held_row}
use Rattle.lt_tree.specs.declared.pool.PoolRows.{PoolRows}
use Rattle.lt_tree.specs.Gathers.{IsClosed, IsLockedWith}
use Rattle.lt_tree.specs.Pools.{pool_rows}
use Rattle.lt_tree.proofs.ViewLaws.{rows_plan}
use Rattle.lt_locktree.specs.Rejoined.{IsRejoinedPart}
use Rattle.lt_locktree.specs.declared.asking.Asking.{Asking}
use Rattle.lt_locktree.specs.Deeds.{asked_event}
use Rattle.lt_locktree.specs.Makes.{IsOf, Makes}
use Rattle.lt_locktree.specs.PlannedParts.{IsLoaded}
use Rattle.lt_locktree.proofs.FreeServed.{anchor_in}
use Rattle.lt_locktree.proofs.JoinNotes.{whole_tree_has_rows, noted}
use Rattle.lt_locktree.proofs.JoinServed.{join_all, joined_small, rows_before}
use Rattle.lt_locktree.proofs.rejoining.join_rows.Goals as goal
use Rattle.lt_locktree.proofs.rejoining.join_rows.Goals.{After-fewer}

pub image-stays-requires : goal.image-stays-requires
image-stays-requires c =
    let s = c.pool.new.self in
    let o : one_if (nat_eq s.held s.held) ≡ 1 = ap one_if (eq-eqb s.held s.held refl) in
    record {
      held = subst (IsHeld (knows s.pass)) (sym c.held-here.ensures)
          (held_row (knows s.pass) s.held (c.pool.ensures.locked.held_rows s.held (omega arith)));
    }

served : (c : After-fewer) (change : ℤ) → change +ℤ pos (length c.args.left.now.gone.items) ≡ pos 0
    → AllHeld (knows c.pool.new.self.pass).held c.in-Ok-plan_freed.plan.items
    × IsCommit (knows c.pool.new.self.pass).plan (knows c.pool.new.self.pass)
    (asked_event c.args.asking.now (Join c.args.asking.now.tree (length c.args.left.now.part.rows.items + length c.args.left.now.gone.items)
    (length c.args.left.now.part.rows.items)))
    c.in-Ok-plan_freed.plan.items change
served c change counts =
    let s = c.pool.new.self in
    let v : View = knows s.pass in
    let a = c.args.asking.now in
    let kept = c.pool.ensures.kept in
    let stays : RowImage = c.image-stays.result in
    let pool : RowImage = c.image-pool.result in
    let stays_long : length stays.words ≡ 21 = search rules in
    let pool_long : length pool.words ≡ 21 = search rules in
    let plan_is : (knows c.args.locked.pass).plan.marks ≡ v.plan.marks =
    ap (λ (k : RowPlan). k.marks) (sym (rows_plan (knows c.args.locked.pass) v c.pool.ensures.same.1)) in
    let same : knows c.image-stays.new.self.pass ≡ v = c.image-stays.ensures.same.1 in
    let anchor_is : c.pool_row-anchor.result ≡ v.plan.trees = c.pool_row-anchor.ensures ∙ ap (λ (u : View). u.plan.trees) same in
    let asked : s.asked ≡ whole = kept.2 ∙ c.requires.anchor.1 in
    let bare : s.part.hangs.items ≡ replicate (length s.part.rows.items + 1) 0 =
    subst (λ (p : Part). p.hangs.items ≡ replicate (length p.rows.items + 1) 0) (sym kept.4) c.requires.bare in
    let closed : IsClosed whole s.part.rows.items (replicate (length s.part.rows.items + 1) 0) =
    subst (λ (x : Interval × List ℕ). IsClosed x.0 s.part.rows.items x.1) (λ j. (asked j, bare j))
    (subst (λ (x : Interval × Part). IsClosed x.0 x.1.rows.items x.1.hangs.items) (λ j. (sym kept.2 j, sym kept.4 j)) c.requires.closed) in
    let of : IsOf s.pass s.tree whole a =
    (c.requires.asking.0 ∙ sym c.pool.ensures.same.0.0, c.requires.asking.1 ∙ sym kept.1, c.requires.asking.2 ∙ c.requires.anchor.1) in
    let top : s.held ≡ s.tree = kept.3 ∙ c.requires.anchor.0 ∙ sym kept.1 in
    let loaded : IsLoaded v s.held stays =
    record {
      row = c.image-stays.ensures.words.0 ∙ c.held-here.ensures;
      words = c.image-stays.ensures.words.1 ∙ ap (λ (n : ℕ). words_of (row_at v n)) c.held-here.ensures;
      long = stays_long;
    } in
    let pool_loaded : IsLoaded v v.plan.trees pool =
    record {
      row = c.image-pool.ensures.words.0 ∙ anchor_is;
      words = c.image-pool.ensures.words.1 ∙ (λ j. words_of (row_at (same j) (anchor_is j)));
      long = pool_long;
    } in
    join_all s.pass s.table.now.plan s.tree s.held s.part.rows.items (pool_rows v.plan.trees s.pool)
    (subst (λ (x : Interval × List ℕ). IsLockedWith v s.tree x.0 s.held s.part.rows.items x.1 (pool_rows v.plan.trees s.pool)) (λ j. (asked j, bare j))
    c.pool.ensures.locked)
    closed s.of.0.1 s.of.2 a of s.pass.numbered.0
    (subst (λ (p : PoolRows). 0 < times v.plan.trees (pool_rows v.plan.trees p)) (sym c.in_default-pool.ensures.pool)
    (anchor_in v.plan.trees c.args.locked.pool))
    top stays pool loaded pool_loaded c.args.left.now
    (subst (λ (x : Part × List Key). IsRejoinedPart x.1 x.0.rows.items c.args.left.now) (λ j. (sym kept.4 j, plan_is j)) c.requires.left)
    c.in-Ok-plan_freed.plan.items c.in-Ok-plan_freed.ensures change counts

pub plan_freed-requires-clause-small : goal.plan_freed-requires-clause-small
plan_freed-requires-clause-small c =
    let s = c.args.locked in
    joined_small s.pass s.table.now.plan s.tree s.held s.asked s.part.rows.items s.part.hangs.items (pool_rows (knows s.pass).plan.trees s.pool)
    c.requires.locked c.requires.closed s.of.0.1 s.of.2 (knows s.pass).plan.marks c.args.left.now c.requires.left

same_view : (c : After-fewer) → knows c.image-pool.new.self.pass ≡ knows c.pool.new.self.pass
same_view c = c.image-pool.ensures.same.1 ∙ c.image-stays.ensures.same.1

count_is : (c : After-fewer) → c.len-count.result ≡ length c.args.left.now.gone.items
count_is c = c.len-count.ensures ∙ (search rules)

kept_is : (c : After-fewer) → c.len-kept.result ≡ length c.args.left.now.part.rows.items
kept_is c = c.len-kept.ensures ∙ (search rules)

event_is : (c : After-fewer) → c.join_event-event.result
    ≡ asked_event c.args.asking.now (Join c.args.asking.now.tree (length c.args.left.now.part.rows.items + length c.args.left.now.gone.items)
    (length c.args.left.now.part.rows.items))
event_is c =
    c.join_event-event.ensures ∙ (λ j. asked_event c.args.asking.now (Join c.args.asking.now.tree (kept_is c j + count_is c j) (kept_is c j)))

pub finish-pass-requires-clause-held : goal.finish-pass-requires-clause-held
finish-pass-requires-clause-held c =
    subst (λ (x : View × List RowImage). AllHeld x.0.held x.1)
    (λ j. (sym (same_view c) j, sym c.deref-2.ensures.value j))
    (served c c.fewer.result (ap (λ (n : ℕ). c.fewer.result +ℤ pos n) (sym (count_is c)) ∙ c.fewer.ensures)).0

pub finish-pass-requires-clause-lawful : goal.finish-pass-requires-clause-lawful
finish-pass-requires-clause-lawful c =
    let fits : FitsSigned w64 c.fewer.result = record { sfits = c.fewer.type_inv } in
    subst (λ (x : (View × List RowImage) × (ℤ × Event)). IsCommit x.0.0.plan x.0.0 x.1.1 x.0.1 x.1.0)
    (λ j. ((sym (same_view c) j, sym c.deref-2.ensures.value j), (sym (to_z-of_z w64 c.fewer.result fits) j, sym (event_is c) j)))
    (served c c.fewer.result (ap (λ (n : ℕ). c.fewer.result +ℤ pos n) (sym (count_is c)) ∙ c.fewer.ensures)).1

pub returns-clause-made : goal.returns-clause-made
returns-clause-made c =
    let s = c.pool.new.self in
    let v : View = knows c.args.locked.pass in
    let u : View = knows s.pass in
    let w : View = knows c.finish-pass.result.0 in
    let a : Asking = c.args.asking.now in
    let kept = c.pool.ensures.kept in
    let left = c.requires.left in
    let plan : List RowImage = c.deref-2.result.now in
    let gone : ℕ = c.len-count.result in
    let stay : ℕ = c.len-kept.result in
    let old : List PartRow = c.args.locked.part.rows.items in
    let rows : List PartRow = s.part.rows.items in
    let pairs : List Pair = map row_pair rows in
    let rows_is : rows ≡ old = ap (λ (p : Part). p.rows.items) kept.4 in
    let asked : s.asked ≡ whole = kept.2 ∙ c.requires.anchor.1 in
    let top : s.held ≡ s.tree = kept.3 ∙ c.requires.anchor.0 ∙ sym kept.1 in
    let tree : a.tree ≡ s.tree = c.requires.asking.1 ∙ sym kept.1 in
    let lt : s.tree < u.plan.trees = subst (λ (k : RowPlan). s.tree < k.trees) (sym s.of.0.1) s.of.2 in
    let closed : IsClosed s.asked rows s.part.hangs.items =
    subst (λ (x : Interval × Part). IsClosed x.0 x.1.rows.items x.1.hangs.items) (λ j. (sym kept.2 j, sym kept.4 j)) c.requires.closed in
    let joined_is : map row_pair c.args.left.now.part.rows.items ≡ joined v.plan.marks pairs =
    left.pairs ∙ ap (λ (rs : List PartRow). joined v.plan.marks (map row_pair rs)) (sym rows_is) in
    let same : knows c.image-pool.new.self.pass ≡ u = c.image-pool.ensures.same.1 ∙ c.image-stays.ensures.same.1 in
    let gone_is : gone ≡ length c.args.left.now.gone.items = c.len-count.ensures ∙ (search rules) in
    let stay_is : stay ≡ length c.args.left.now.part.rows.items = c.len-kept.ensures ∙ (search rules) in
    let before : stay + gone ≡ length pairs =
    (λ j. stay_is j + gone_is j)
    ∙ (rows_before v.plan.marks old c.args.left.now left
    ∙ (ap (λ (rs : List PartRow). length rs) (sym rows_is) ∙ sym (length-map rows row_pair))) in
    let after : stay ≡ length (joined v.plan.marks pairs) =
    stay_is ∙ (sym (length-map c.args.left.now.part.rows.items row_pair) ∙ ap (λ (ps : List Pair). length ps) joined_is) in
    let listed : c.in-Ok.pairs ≡ held_in a.tree (map row_pair c.args.left.now.part.rows.items) = search rules in
    noted v u w a plan (record { place = c.finish-pass.result.1; tree = a.tree; before = stay + gone; after = stay; pairs = c.in-Ok.pairs }) pairs
    c.pool.ensures.same.1
    (λ log stood. subst (λ (t : ℕ). pairs ≡ (tree_at (after_log (setting_of u.plan) log) t).pairs) (sym tree)
    (whole_tree_has_rows u s.tree s.asked s.held rows s.part.hangs.items (pool_rows u.plan.trees s.pool) log c.pool.ensures.locked closed asked lt top
    stood))
    (subst (λ (x : View × Event). Makes x.0 w plan x.1 c.finish-pass.result.1) (λ j. (same j, c.join_event-event.ensures j)) c.finish-pass.ensures.made)
    refl before after (listed ∙ ap (λ (ps : List Pair). held_in a.tree ps) joined_is)
