use Rattle.std.proofs.Common.{rules, arith, ◌≡◌, ◌++◌, ◌∷◌, ap, sym, ◌∙◌}
use Rattle.std.proofs.lemmas.List.{append_assoc}
use Rattle.lt_deal.specs.Closings.{HasReturned, drew_of, gave_of}
use Rattle.lt_deal.proofs.Closes.{all_tail}
use Rattle.lt_deal.proofs.close.join.Goals as goal

pub loop-other-preserved : goal.loop-other-preserved
loop-other-preserved g c =
    let i = c.loop-other.invariant in
    let step : c.loop-other.other-iterator.rest.items ≡ c.in-Some.other ∷ c.next.new.self.rest.items = search rules in
    let told = ap (λ m. m.0) c.gather.ensures.of.1 in
    let parts = ap (λ v. v.parts) told in
    let nones = ap (λ v. v.nones) told in
    let theirs = c.in-Some.other.place.me.0 in
    let old = c.loop-other.place.me.0 in
    let rest = c.next.new.self.rest.items in
    let one = c.in-Some.other.single.0 in (
      (search rules, search rules, search rules, omega arith),
      search rules,
      ap (λ v. v.drew ++ drew_of rest) told ∙ append_assoc old.drew theirs.drew (drew_of rest) ∙ ap (λ l. old.drew ++ drew_of l) (sym step) ∙ i.2,
      ap (λ v. v.gave ++ gave_of rest) told ∙ append_assoc old.gave theirs.gave (gave_of rest) ∙ ap (λ l. old.gave ++ gave_of l) (sym step) ∙ i.3,
      search rules,
      all_tail (HasReturned c.args.words.now.table_id) c.in-Some.other c.loop-other.other-iterator.rest.items rest step i.5,
    )
