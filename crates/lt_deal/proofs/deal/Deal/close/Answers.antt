use Rattle.std.proofs.Common.{arith, ◌≡◌, ℕ, ◌∷◌, List, length, ap, sym, subst, ◌∙◌, map}
use Rattle.std.specs.Mem.Slots.{slots_items}
use Rattle.lt_deal.specs.Closings.{IsClosed, stock_of, drew_of, gave_of, nones_of}
use Rattle.lt_deal.proofs.Closes.{all_home, closes, split_first, all_returned}
use Rattle.lt_deal.proofs.deal.Deal.close.Goals as goal

pub unpack-requires-clause-has : goal.unpack-requires-clause-has
unpack-requires-clause-has g c k low =
    let seats = c.args.seats.items in
    let first = c.remove-place.result in
    let sized = c.args.self.sized in
    let few = c.args.self.few in
    let many = c.requires.all in
    let split : seats ≡ first ∷ c.remove-place.new.self.items = split_first seats first c.remove-place.new.self.items (omega arith) c.remove-place.ensures.value c.remove-place.ensures.items in
    let long = ap length split in
    let one = first.single.0 in
    let parts = c.join.ensures.parts in
    let drew = c.join.ensures.drew ∙ ap drew_of (sym split) in
    let gave = c.join.ensures.gave ∙ ap gave_of (sym split) in
    let stock = ap length (c.join.ensures.of.2 ∙ ap stock_of (sym split)) in
    let counts = c.close_with.ensures.counts in
    all_home c.args.self.table.shared.key _ (slots_items c.close_with.result.slots) _ c.join.new.place.me.0 (omega arith) (omega arith)
    (ap (λ l. map (λ z. z.0) l) gave ∙ all_returned c.args.self.table.shared.table_id seats c.requires.returned ∙ sym drew)
    c.close_with.ensures.values.2 k (omega arith)

pub returns : goal.returns
returns g c =
    let seats = c.args.seats.items in
    let first = c.remove-place.result in
    let sized = c.args.self.sized in
    let few = c.args.self.few in
    let many = c.requires.all in
    let split : seats ≡ first ∷ c.remove-place.new.self.items = split_first seats first c.remove-place.new.self.items (omega arith) c.remove-place.ensures.value c.remove-place.ensures.items in
    let long = ap length split in
    let one = first.single.0 in
    let parts = c.join.ensures.parts in
    let drew = c.join.ensures.drew ∙ ap drew_of (sym split) in
    let gave = c.join.ensures.gave ∙ ap gave_of (sym split) in
    let nones = c.join.ensures.nones ∙ ap nones_of (sym split) in
    let stock = c.join.ensures.of.2 ∙ ap stock_of (sym split) in
    let stock_long = ap length stock in
    let counts = c.close_with.ensures.counts in
    let count = c.unpack.ensures.count in
    let closed = closes c.args.self.table.shared.key _ (slots_items c.close_with.result.slots) c.unpack.new.items.items _ c.join.new.place.me.0 (omega arith) (omega arith)
    c.close_with.ensures.values.2 (omega arith) c.unpack.ensures.items in
    subst (λ (z : List g.row.T.Denot × List ℕ × List (ℕ × g.row.T.Denot) × ℕ). IsClosed z.0 z.1 z.2 z.3 c.unpack.new.items.items) (λ i. (stock i, drew i, gave i, nones i)) closed
