use Rattle.std.proofs.Common.{arith, ◌+◌, vec_len, eqb-true, sym, subst, refl, ◌≡◌}
use Rattle.std.specs.Prelude.{ℕ, None}
use Rattle.lt_waits.specs.Steps.{steps_in, IsSearch, IsHere}
use Rattle.lt_waits.proofs.LayerLaws.{search_begins, here_begins, waiting_at_most, search_goes_on, here_goes_on, search_ends}
use Rattle.lt_waits.proofs.search.all_steps.Goals as goal

pub loop-alloc-init : goal.loop-alloc-init
loop-alloc-init c =
    let none : (next : ℕ) → steps_in c.new-steps.result next ≡ None = λ next. rw c.new-steps.ensures.empty refl in
    record {
      search = subst (λ l. IsSearch c.args.by_holder.now c.args.txn 0 (steps_in c.new-steps.result) l) (sym c.in_ok-layer.ensures.items) (search_begins _ _ _ none);
      here = here_begins _ _ _;
      few = omega (arith, waiting_at_most c.args.by_holder.now (steps_in c.new-steps.result), c.in_ok-layer.ensures.len);
    }

pub next_layer-requires-clause-search : goal.next_layer-requires-clause-search
next_layer-requires-clause-search c = search_goes_on _ _ _ _ _ c.loop-alloc.invariant.search c.loop-alloc.invariant.here

pub next_layer-requires-clause-here : goal.next_layer-requires-clause-here
next_layer-requires-clause-here c = subst (λ l. IsHere c.args.by_holder.now c.args.txn (c.loop-alloc.left + 1) (steps_in c.loop-alloc.steps) l) (sym c.deref.ensures.value) (here_goes_on _ _ _ _ _ c.loop-alloc.invariant.search)

pub returns : goal.returns
returns c = search_ends _ _ _ _ _ c.loop-alloc.invariant.search c.loop-alloc.invariant.here (omega (arith, eqb-true (vec_len c.loop-alloc.layer) 0 (sym c.loop-alloc-test.ensures)))
