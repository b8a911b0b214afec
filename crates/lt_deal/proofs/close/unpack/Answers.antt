use Rattle.std.proofs.Common.{rules, arith, ◌≡◌, ◌++◌, ◌∷◌, [], ap, sym, ◌∙◌}
use Rattle.std.specs.Mem.Slots.{slots_items, slots_filled}
use Rattle.std.specs.Prelude.{Some}
use mathlib.Core.Option.{some, some-injective}
use lib.ListN.{get_elem?}
use Rattle.lt_deal.proofs.Lists.{at_len}
use Rattle.lt_deal.proofs.Closes.{emptied, one_more}
use Rattle.lt_deal.proofs.close.unpack.Goals as goal

pub unreachable-requires : goal.unreachable-requires
unreachable-requires g c =
    let h = c.requires.has c.loop-k.k (omega arith) in
    c.in_default.not-Some h.0 (some-injective _ _ (sym c.take.ensures.value ∙ ap (λ l. get_elem? l c.loop-k.k) c.loop-k.invariant.1.0 ∙ h.1))

pub loop-k-preserved : goal.loop-k-preserved
loop-k-preserved g c =
    let i = c.loop-k.invariant in
    let pushed : c.push.new.self.items ≡ c.loop-k.items.items ++ c.in-Some.item ∷ [] = search rules in
    let here : get_elem? (slots_items c.args.closed.slots) c.loop-k.k ≡ some (Some c.in-Some.item) =
    ap (λ l. get_elem? l c.loop-k.k) (sym i.1.0) ∙ c.take.ensures.value ∙ ap some c.in-Some.is in (
      (search rules, emptied (slots_filled c.loop-k.closed.slots) (slots_filled c.take.new.self.slots) c.loop-k.k c.take.ensures.others.1 i.0.1),
      (search rules, search rules),
      (search rules, search rules),
      one_more (slots_items c.args.closed.slots) c.loop-k.items.items c.push.new.self.items c.loop-k.k c.in-Some.item pushed i.2.0 here i.3,
    )

pub returns-clause-items : goal.returns-clause-items
returns-clause-items g c k x e =
    let i = c.loop-k.invariant in
    let low = at_len (slots_items c.args.closed.slots) k (Some x) e in
    i.3 k x (omega arith) e
