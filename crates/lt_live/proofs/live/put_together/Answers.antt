use Rattle.std.proofs.Common.{◌∷◌, ◌∙◌, List, length, arith, rules, sym, ap, subst}
use Rattle.std.proofs.lemmas.List.{with_items_is}
use Rattle.std.proofs.lemmas.List.Sorted.{IsNonDecreasingBy-from_sort_by_key}
use Rattle.std.specs.List.{flat_map}
use Rattle.std.specs.List.Sorted.{IsPermutation}
use Rattle.lt_seq.specs.Yard.{origin_of}
use Rattle.lt_runner.specs.TurnView.{Seat}
use Rattle.lt_live.specs.Ends.{IsEmptied}
use Rattle.lt_live.specs.Workers.{EachPair}
use Rattle.lt_live.proofs.live.put_together.Goals as goal

pub returns : goal.returns
returns g c =
    let origin = g.Y.Pass.Pass.origin in
    let view = g.Y.Pass.Pass.view in
    let place = origin_of (g.Y.Yard.identity c.args.yard.now) (g.Y.Yard.setting c.args.yard.now) in
    let all = c.args.first.pass ∷ c.args.others.items in
    let new = c.take_all_notes.new.passes in
    let emptied = c.in_ok-notes.ensures.passes in
    let was = c.deref_mut.ensures.value ∙ c.in_ok-passes.ensures in
    let put = with_items_is c.in_ok-passes.passes new
    (omega (arith, emptied.0, ap length c.deref_mut.ensures.value, c.in_ok-passes.passes.ok)) in
    record {
      passes_are = subst (EachPair (IsEmptied origin view place) all) (sym put)
          (subst (λ (ps : List g.row.Y-Pass.Denot). EachPair (IsEmptied origin view place) ps new) was emptied);
      put = subst (λ (ts : List Seat). IsPermutation ts c.sort_by_key.new.self.items) c.in_ok-append.ensures.items
          c.in_ok-sort_by_key.ensures.permutation;
      order = IsNonDecreasingBy-from_sort_by_key (λ seat. seat.turn.txn) _ c.in_ok-sort_by_key.ensures.sorted (λ a r q k. search rules);
      notes = subst (λ (ps : List g.row.Y-Pass.Denot). IsPermutation (flat_map (λ p. (view p).notes) ps) c.in_ok-notes.notes.items) was
          c.in_ok-notes.ensures.all;
      notes_order = c.in_ok-notes.ensures.order;
    }
