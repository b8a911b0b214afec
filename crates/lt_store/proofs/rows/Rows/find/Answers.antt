use Rattle.std.proofs.Common.{sym, subst, ap, ◌∙◌, Some, List}
use Rattle.std.proofs.lemmas.List.{get_or_default}
use Rattle.lt_store.specs.declared.row.StoreRow.{StoreRow}
use Rattle.lt_store.specs.Places.{IsAt, IsGap}
use Rattle.lt_store.proofs.PlaceLaws.{find_at, find_gap}
use Rattle.lt_store.proofs.rows.Rows.find.Goals as goal

pub returns-in-Ok : goal.returns-in-Ok
returns-in-Ok c =
    let at = subst (λ (l : List StoreRow). IsAt l c.args.key.now c.in-Ok.place) c.deref.ensures.value c.in-Ok.ensures.found in
    let found = find_at c.self.inside.list.items c.args.key.now c.in-Ok.place c.index.result.now at in
    ap (λ (r : StoreRow). Some r.value) c.index.ensures ∙ sym (rw (← c.self.view_is) found)

pub returns-in-Err : goal.returns-in-Err
returns-in-Err c =
    let gap = subst (λ (l : List StoreRow). IsGap l c.args.key.now c.in-Err.field-0) c.deref.ensures.value c.in-Err.ensures.missed in
    sym (rw (← c.self.view_is) (find_gap c.self.inside.list.items c.args.key.now c.in-Err.field-0 gap))
