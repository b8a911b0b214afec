use Rattle.std.proofs.Common.{sym, subst, ap, ◌∙◌, List, ℕ, Option}
use Rattle.lt_store.specs.declared.row.StoreRow.{StoreRow}
use Rattle.lt_store.specs.Rows.{AreAscending, put, removed, find, restored}
use Rattle.lt_store.specs.Places.{IsAt, IsGap}
use Rattle.lt_store.proofs.PlaceLaws.{put_at, removed_at, find_gap, ascends_put, ascends_removed}
use Rattle.lt_store.proofs.rows.Rows.restore.Goals as goal

pub invariant_of-self : goal.invariant_of-self
invariant_of-self c =
    let at = subst (λ (l : List StoreRow). IsAt l c.args.key.now c.in-Ok.place) c.deref.ensures.value c.in-Ok.ensures.found in
    subst AreAscending (put_at c.self.inside.list.items c.args.key.now c.in-Some.value c.in-Ok.place at)
    (ascends_put c.self.inside.list.items c.args.key.now c.in-Some.value c.self.invariant)

pub invariant_of-self-in-None : goal.invariant_of-self-in-None
invariant_of-self-in-None c =
    let at = subst (λ (l : List StoreRow). IsAt l c.args.key.now c.in-Ok.place) c.deref.ensures.value c.in-Ok.ensures.found in
    subst AreAscending (removed_at c.self.inside.list.items c.args.key.now c.in-Ok.place at ∙ sym c.remove-row.ensures.items)
    (ascends_removed c.self.inside.list.items c.args.key.now c.self.invariant)

pub unreachable-requires : goal.unreachable-requires
unreachable-requires c =
    let gap = subst (λ (l : List StoreRow). IsGap l c.args.key.now c.in-Err.field-0) c.deref.ensures.value c.in-Err.ensures.missed in
    c.requires (ap (λ (l : List StoreRow). find l c.args.key.now) (sym c.self.view_is) ∙ find_gap c.self.inside.list.items c.args.key.now c.in-Err.field-0 gap)

pub returns-in-Some : goal.returns-in-Some
returns-in-Some c =
    let at = subst (λ (l : List StoreRow). IsAt l c.args.key.now c.in-Ok.place) c.deref.ensures.value c.in-Ok.ensures.found in
    sym (put_at c.self.inside.list.items c.args.key.now c.in-Some.value c.in-Ok.place at) ∙ ap (λ (l : List StoreRow). put l c.args.key.now c.in-Some.value) c.self.view_is
    ∙ ap (λ (o : Option ℕ). restored c.args.self.now c.args.key.now o) (sym c.in-Some.is)

pub returns-in-None : goal.returns-in-None
returns-in-None c =
    let at = subst (λ (l : List StoreRow). IsAt l c.args.key.now c.in-Ok.place) c.deref.ensures.value c.in-Ok.ensures.found in
    c.remove-row.ensures.items ∙ sym (removed_at c.self.inside.list.items c.args.key.now c.in-Ok.place at)
    ∙ ap (λ (l : List StoreRow). removed l c.args.key.now) c.self.view_is
    ∙ ap (λ (o : Option ℕ). restored c.args.self.now c.args.key.now o) (sym c.in-None.is)
