use Rattle.std.proofs.Common.{◌≡◌, ◌∙◌, IfOk, map, ap, rules}
use Rattle.std.specs.List.{filter}
use Rattle.std.proofs.lemmas.List.Filters.{dedup_is}
use Rattle.std.proofs.lemmas.Iterator.{YieldsList-from_slice, YieldsList-from_map, items_from_collect}
use Rattle.std.proofs.lemmas.Iterator.Consumers.{YieldsList-at, YieldsList-from_filter}
use Rattle.lt_ranges.specs.Numbers.{ascending}
use Rattle.lt_seq.proofs.NumbersLaws.{ascending_sorted}
use Rattle.lt_forest.specs.declared.part.PartRow.{PartRow}
use Rattle.lt_locktree.proofs.OwnersLaws.{names_other, owners_named}
use Rattle.lt_locktree.proofs.owners.owners_of.Goals as goal

pub returns : goal.returns
returns c =
    let rows = c.args.rows.now in
    let keep = names_other c.args.txn c.args.range.now in
    let collected : IfOk c.collect.result (λ v. v.items ≡ map (λ r. r.owner) (filter keep rows)) =
    items_from_collect _ c.collect.ensures.ran
    (YieldsList-from_map _ (λ (r : PartRow). r.owner)
    (YieldsList-at c.map.ensures.source (YieldsList-from_filter _ keep
    (YieldsList-at c.filter.ensures.source (YieldsList-from_slice rows (search rules))) c.filter.ensures.closure (λ x b q k. search rules)))
    c.map.ensures.closure (λ x r q k. search rules)) in
    let here : c.in_ok-owners.owners.items ≡ map (λ r. r.owner) (filter keep rows) = search rules in
    let kept : c.of.result ≡ c.dedup.new.self.items = search rules in
    kept
    ∙ dedup_is _ _ _ c.dedup.ensures.filtered
    ∙ ascending_sorted _ _ c.sort_unstable.ensures.permutation c.sort_unstable.ensures.sorted
    ∙ ap ascending (here ∙ owners_named c.args.txn c.args.range.now rows)
