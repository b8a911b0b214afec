use Rattle.std.proofs.Common.{◌≡◌, List, sym, ap, subst, ◌∙◌, rules}
use Rattle.lt_ranges.specs.declared.key.Key.{Key}
use Rattle.lt_seq.specs.declared.event.Held.{Held}
use Rattle.lt_seq.specs.Pairs.{IsLawful, joined}
use Rattle.lt_seq.specs.Table.{held_in}
use Rattle.lt_barrier.specs.HeldRanges.{pairs_of, tree_of, AreOfOneTree}
use Rattle.lt_barrier.proofs.HeldRuns.{dedup_held}
use Rattle.lt_barrier.proofs.cut_joins.join_cut.Goals as goal

pub returns : goal.returns
returns g c =
    let marks : List Key = (goal.Barrier-dyn g c.args.barrier.now).marks c.args.barrier.now.1 in
    let copy : c.in_ok-left.left.items ≡ c.args.pairs.now = c.in_ok-left.ensures.items in
    dedup_held _ marks _ c.in_ok-left.left.items c.dedup_by.new.self.items c.dedup_by.ensures.filtered
    (λ next last b f' next' last' k. (search rules, record { are = search rules; stays = search rules; taken = search rules }))
    (subst AreOfOneTree (sym copy) c.requires.tree) (subst (λ (xs : List Held). IsLawful (pairs_of xs)) (sym copy) c.requires.lawful)
    ∙ ap (λ (xs : List Held). held_in (tree_of xs) (joined marks (pairs_of xs))) copy
