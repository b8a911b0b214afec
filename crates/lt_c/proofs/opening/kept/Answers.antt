use Rattle.std.proofs.Common.{[], ◌∷◌, length, Box, IfSome, sym, ap, subst, arith, length-append}
use Rattle.std.specs.Global.{Global}
use Rattle.std.specs.List.{All}
use Rattle.std.specs.declared.option.Option.{Option}
use Rattle.std.proofs.lemmas.List.Elements.{All-head, All-rest, All-push}
use Rattle.lt_locktree.specs.declared.locktree.Locktree.{Locktree}
use Rattle.lt_c.specs.declared.handle.Handle.{Handle}
use Rattle.lt_c.specs.Handles.{IsOn}
use Rattle.lt_c.specs.Opened.{IsOpenOn}
use Rattle.lt_c.proofs.opening.kept.Goals as goal

pub loop-handle-preserved : goal.loop-handle-preserved
loop-handle-preserved c =
    let t : Locktree = c.args._table.now in
    let steps = c.in-Some.ensures.steps.0 in
    let was = c.loop-handle.invariant in
    let on : IsOn t c.in-Some.handle.value =
    All-head (λ (b : Box Handle Global). IsOn t b.value) c.in-Some.handle c.next.new.self.rest.items
    (subst (All (λ (b : Box Handle Global). IsOn t b.value)) steps was.rest) in
    let one : IsOpenOn t c.opened.result =
    (c.opened.ensures.open, subst (λ (o : Option Handle). IfSome o (IsOn t)) (sym c.opened.ensures.same) on) in
    record {
      rest = All-rest (λ (b : Box Handle Global). IsOn t b.value) c.in-Some.handle c.next.new.self.rest.items _ steps was.rest;
      kept =
          subst (All (IsOpenOn t)) (sym c.push_reserved.ensures.items)
          (All-push (IsOpenOn t) c.loop-handle.kept.items c.opened.result was.kept one);
      count =
          omega (
            arith,
            ap length steps,
            ap length c.push_reserved.ensures.items,
            length-append c.loop-handle.kept.items (c.opened.result ∷ []),
            was.count,
          );
      room = omega (arith, c.push_reserved.ensures.capacity, was.room);
    }
