use Rattle.std.proofs.Common.{[], ◌∷◌, length, Box, sym, ap, ◌∙◌, subst, arith, length-append}
use Rattle.std.specs.Arc.{arc_value}
use Rattle.std.specs.Global.{Global}
use Rattle.std.specs.List.{All}
use Rattle.std.proofs.lemmas.List.Elements.{All-head, All-rest, All-push}
use Rattle.lt_locktree.specs.declared.locktree.Locktree.{Locktree}
use Rattle.lt_locktree.specs.Calls.{IsOfTable}
use Rattle.lt_c.specs.declared.handle.Handle.{Handle}
use Rattle.lt_c.specs.Handles.{IsOn}
use Rattle.lt_c.specs.Sharing.{MayCall}
use Rattle.lt_c.proofs.opening.boxed.Goals as goal

pub invariant_of-handle : goal.invariant_of-handle
invariant_of-handle c =
    let t : Locktree = arc_value c.args.table.now in
    let may : MayCall t c.in-Some.pass =
    All-head (MayCall t) c.in-Some.pass c.next.new.self.rest.items
    (subst (All (MayCall t)) c.in-Some.ensures.steps.0 c.loop-pass.invariant.rest) in
    record { of = subst (λ (k : Locktree). IsOfTable k c.in-Some.pass) (sym c.in_ok-try_clone.ensures) may.0; right = may.1 }

pub loop-pass-preserved : goal.loop-pass-preserved
loop-pass-preserved c =
    let t : Locktree = arc_value c.args.table.now in
    let steps = c.in-Some.ensures.steps.0 in
    let was = c.loop-pass.invariant in
    let on : IsOn t c.in_ok-new.field-0.value = ap (λ (h : Handle). arc_value h.table) c.in_ok-new.ensures.ok ∙ c.in_ok-try_clone.ensures in
    record {
      rest = All-rest (MayCall t) c.in-Some.pass c.next.new.self.rest.items _ steps was.rest;
      made =
          subst (All (λ (b : Box Handle Global). IsOn t b.value)) (sym c.in_ok-push.ensures.items)
          (All-push (λ (b : Box Handle Global). IsOn t b.value) c.loop-pass.made.items c.in_ok-new.field-0 was.made on);
      count =
          omega (
            arith,
            ap length steps,
            ap length c.in_ok-push.ensures.items,
            length-append c.loop-pass.made.items (c.in_ok-new.field-0 ∷ []),
            was.count,
          );
    }
