use Rattle.std.proofs.Common.{sym, subst, ap, ◌∙◌, List}
use Rattle.lt_store.specs.declared.row.StoreRow.{StoreRow}
use Rattle.lt_store.specs.Rows.{AreAscending, put}
use Rattle.lt_store.specs.Places.{IsAt, IsGap}
use Rattle.lt_store.proofs.PlaceLaws.{put_at, put_gap, ascends_put}
use Rattle.lt_store.proofs.rows.Rows.put.Goals as goal

pub invariant_of-self : goal.invariant_of-self
invariant_of-self c =
    let at = subst (λ (l : List StoreRow). IsAt l c.args.key.now c.in-Ok.place) c.deref.ensures.value c.in-Ok.ensures.found in
    subst AreAscending (put_at c.self.inside.list.items c.args.key.now c.args.value c.in-Ok.place at)
    (ascends_put c.self.inside.list.items c.args.key.now c.args.value c.self.invariant)

pub invariant_of-self-in-Err : goal.invariant_of-self-in-Err
invariant_of-self-in-Err c =
    let gap = subst (λ (l : List StoreRow). IsGap l c.args.key.now c.in-Err.place) c.deref.ensures.value c.in-Err.ensures.missed in
    subst AreAscending (put_gap c.self.inside.list.items c.args.key.now c.args.value c.in-Err.place gap ∙ sym c.in_ok-insert-in-Err.ensures.items)
    (ascends_put c.self.inside.list.items c.args.key.now c.args.value c.self.invariant)

pub returns-in-Ok : goal.returns-in-Ok
returns-in-Ok c =
    let at = subst (λ (l : List StoreRow). IsAt l c.args.key.now c.in-Ok.place) c.deref.ensures.value c.in-Ok.ensures.found in
    sym (put_at c.self.inside.list.items c.args.key.now c.args.value c.in-Ok.place at) ∙ ap (λ (l : List StoreRow). put l c.args.key.now c.args.value) c.self.view_is

pub returns-in_ok-insert-in-Err : goal.returns-in_ok-insert-in-Err
returns-in_ok-insert-in-Err c =
    let gap = subst (λ (l : List StoreRow). IsGap l c.args.key.now c.in-Err.place) c.deref.ensures.value c.in-Err.ensures.missed in
    c.in_ok-insert-in-Err.ensures.items ∙ sym (put_gap c.self.inside.list.items c.args.key.now c.args.value c.in-Err.place gap)
    ∙ ap (λ (l : List StoreRow). put l c.args.key.now c.args.value) c.self.view_is
