use Rattle.std.proofs.Common.{◌≡◌, ◌+◌, ◌-◌, ◌<◌, List, true, map, drop, sym, ap, ◌∙◌, subst, arith}
use Rattle.std.specs.List.{AllWithin}
use Rattle.lt_rows.specs.declared.row_plan.RowPlan.{RowPlan}
use Rattle.lt_seq.specs.Pairs.{IsLawful, is_own, others}
use Rattle.lt_forest.specs.declared.part.Part.{Part}
use Rattle.lt_forest.specs.declared.part.PartRow.{PartRow}
use Rattle.lt_forest.specs.Parts.{row_pair}
use Rattle.lt_rows.specs.Handles.{knows}
use Rattle.lt_tree.specs.Pools.{pool_rows}
use Rattle.lt_locktree.specs.Splits.{IsSplit}
use Rattle.lt_locktree.proofs.GrantedRuns.{rows_lawful}
use Rattle.lt_locktree.proofs.MergedRows.{read_at}
use Rattle.lt_locktree.proofs.granting.grant_ask.Goals as goal

rows_are : (c : goal.After-deref) → c.deref.result.now ≡ c.args.locked.part.rows.items
rows_are c = c.deref.ensures.value ∙ ap (λ (p : Part). p.rows.items) c.part.ensures

pub overlapping-met-requires : goal.overlapping-met-requires
overlapping-met-requires c =
    let s = c.args.locked in
    let here : s.tree < (knows s.pass).plan.trees = subst (λ (p : RowPlan). s.tree < p.trees) (sym s.of.0.1) s.of.2 in
    subst (λ (rs : List PartRow). IsLawful (map row_pair rs)) (sym (rows_are c))
    (rows_lawful (knows s.pass) s.tree s.asked s.held s.part.rows.items s.part.hangs.items (pool_rows (knows s.pass).plan.trees s.pool)
    c.requires.locked c.requires.closed here)

pub grow_row-requires-clause-own : goal.grow_row-requires-clause-own
grow_row-requires-clause-own c r is =
    let a = c.args.asking.now in
    let rows : List PartRow = c.args.locked.part.rows.items in
    let same : c.deref.result.now ≡ rows = c.deref.ensures.value ∙ ap (λ (p : Part). p.rows.items) c.part.ensures in
    let start = c.overlapping-met.result.start in
    let end = c.overlapping-met.result.end in
    let split : IsSplit a.range rows start end =
    subst (λ (rs : List PartRow). IsSplit a.range rs start end) same c.overlapping-met.ensures.split in
    let within = split.within in
    let one : end - start ≡ 1 = c.in-1.is in
    let own : AllWithin (λ r. is_own a.txn a.range (row_pair r) ≡ true) rows start end =
    subst (λ (rs : List PartRow). AllWithin (λ r. is_own a.txn a.range (row_pair r) ≡ true) rs start end) same
    (c.overlapping-met.ensures.own a.txn (ap (λ (rs : List PartRow). others a.txn a.range (map row_pair rs)) same ∙ c.requires.alone)) in
    subst (λ (x : PartRow). is_own a.txn a.range (row_pair x) ≡ true)
    (sym (read_at rows start r (drop (start + 1) rows) (omega (arith, one, within)) is)) (own start r (omega arith) (omega (arith, one)))
