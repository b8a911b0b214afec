use Rattle.std.proofs.Common.{rules, refl, ◌≡◌, ℕ, ◌<◌, List, [], length, map, ap, sym, subst, ◌∙◌}
use Rattle.std.specs.Prelude.{pos}
use Rattle.std.proofs.lemmas.List.{length-map}
use Rattle.lt_seq.specs.declared.event.Event.{Event}
use Rattle.lt_seq.specs.declared.event.Pair.{Pair}
use Rattle.lt_seq.specs.declared.event.Deed.TheVariants.{Join}
use Rattle.lt_rows.specs.declared.row_plan.RowPlan.{RowPlan}
use Rattle.lt_seq.specs.History.{after}
use Rattle.lt_rows.specs.Plan.{setting_of}
use Rattle.lt_seq.specs.Table.{tree_at, held_in}
use Rattle.lt_forest.specs.declared.part.PartRow.{PartRow}
use Rattle.lt_forest.specs.Parts.{row_pair}
use Rattle.lt_rows.specs.declared.view.View.{View}
use Rattle.lt_rows.specs.Handles.{knows}
use Rattle.lt_rows.specs.Lawful.{IsCommit}
use Rattle.lt_tree.specs.Pools.{pool_rows}
use Rattle.lt_tree.proofs.ViewLaws.{rows_same}
use Rattle.lt_locktree.specs.declared.asking.Asking.{Asking}
use Rattle.lt_locktree.specs.Deeds.{asked_event}
use Rattle.lt_locktree.specs.Makes.{Makes}
use Rattle.lt_locktree.proofs.JoinNotes.{whole_tree_has_rows, noted}
use Rattle.lt_locktree.proofs.NoneJoined.{none_joined_served}
use Rattle.lt_locktree.proofs.rejoining.join_none.Goals as goal

pub finish-pass-requires-clause-lawful : goal.finish-pass-requires-clause-lawful
finish-pass-requires-clause-lawful c =
    let s = c.args.locked in
    let a : Asking = c.args.asking.now in
    let count : c.len-count.result ≡ length s.part.rows.items = c.len-count.ensures ∙ (search rules) in
    let event_is = c.join_event-event.ensures ∙ ap (λ (n : ℕ). asked_event a (Join a.tree n n)) count in
    subst (λ (e : Event). IsCommit (knows s.pass).plan (knows s.pass) e [] (pos 0)) (sym event_is)
    (none_joined_served s.pass s.table.now.plan s.tree s.asked s.held s.part.rows.items s.part.hangs.items (pool_rows (knows s.pass).plan.trees s.pool)
    c.requires.locked c.requires.closed s.of.0.1 s.of.2 a c.requires.asking s.pass.numbered.0 c.requires.anchor.0 c.requires.anchor.1
    c.requires.bare c.requires.none)

pub returns-clause-made : goal.returns-clause-made
returns-clause-made c =
    let s = c.args.locked in
    let v : View = knows s.pass in
    let w : View = knows c.finish-pass.result.0 in
    let a : Asking = c.args.asking.now in
    let of = c.requires.asking in
    let n : ℕ = c.len-count.result in
    let rows : List PartRow = s.part.rows.items in
    let pairs : List Pair = map row_pair rows in
    let lt : s.tree < v.plan.trees = subst (λ (k : RowPlan). s.tree < k.trees) (sym s.of.0.1) s.of.2 in
    let count : n ≡ length pairs = c.len-count.ensures ∙ ((search rules) ∙ sym (length-map rows row_pair)) in
    let held : c.in-Ok.pairs ≡ held_in a.tree pairs = search rules in
    noted v v w a [] (record { place = c.finish-pass.result.1; tree = a.tree; before = n; after = n; pairs = c.in-Ok.pairs }) pairs (rows_same v)
    (λ log stood. subst (λ (t : ℕ). pairs ≡ (tree_at (after (setting_of v.plan) log) t).pairs) (sym of.1)
    (whole_tree_has_rows v s.tree s.asked s.held rows s.part.hangs.items (pool_rows v.plan.trees s.pool) log c.requires.locked c.requires.closed
    c.requires.anchor.1 lt c.requires.anchor.0 stood))
    (subst (λ (e : Event). Makes v w [] e c.finish-pass.result.1) c.join_event-event.ensures c.finish-pass.ensures.made)
    refl count (count ∙ ap (λ (ps : List Pair). length ps) (sym c.requires.none))
    (held ∙ ap (λ (ps : List Pair). held_in a.tree ps) (sym c.requires.none))
