use Rattle.std.proofs.Common.{rules, ◌≡◌, ◌-◌, ◌^◌, ◌<◌, ◌++◌, ◌∷◌, [], List, All, sym, ◌∙◌, subst}
use Rattle.std.specs.Prelude.{reverse, slice_index}
use Rattle.lt_forest.specs.declared.part.PartRow.{PartRow}
use Rattle.lt_rows.specs.declared.image.RowImage.{RowImage}
use Rattle.lt_locktree.specs.Given.{Chains, given_to}
use Rattle.lt_locktree.specs.Mergings.{IsMerged, run_of}
use Rattle.lt_locktree.specs.PlannedParts.{PlansRows}
use Rattle.lt_locktree.proofs.MergedRows.{merged_small, plans_merged}
use Rattle.lt_locktree.proofs.merging.plan_merged.Goals as goal

pub plan_rows-requires-clause-small : goal.plan_rows-requires-clause-small
plan_rows-requires-clause-small c =
    let rows : List PartRow = c.args.part.now.rows.items in
    let merged : IsMerged c.args.asking.now c.args.part.now c.args.met.start c.args.met.end c.in_ok-new.new = c.in_ok-new.ensures in
    let is : c.deref-2.result.now ≡ c.in_ok-new.new.rows.items = search rules in
    subst (All (λ (x : PartRow). x.row < 2 ^ 32 - 1)) (sym (is ∙ merged.2))
    (merged_small c.args.asking.now rows c.args.met.start c.args.met.end merged.0 merged.1 c.requires.small)

pub returns : goal.returns
returns c =
    let a = c.args.asking.now in
    let rows : List PartRow = c.args.part.now.rows.items in
    let start = c.args.met.start in
    let end = c.args.met.end in
    let pool : RowImage = c.args.pool.now in
    let merged : IsMerged a c.args.part.now start end c.in_ok-new.new = c.in_ok-new.ensures in
    let chains : Chains [] c.chain.new.images.items c.in_ok-link.link (reverse (run_of rows start end)) (slice_index pool.words 17) = search rules in
    let plans : PlansRows a.tree a.range c.args.stays.now (c.chain.new.images.items ++ given_to pool c.in_ok-link.link ∷ [])
    c.plan_rows.new.images.items c.in_ok-new.new.rows.items c.in_ok-new.new.hangs.items = search rules in
    plans_merged a c.args.part.now c.in_ok-new.new start end c.args.stays.now pool c.chain.new.images.items c.plan_rows.new.images.items
    c.in_ok-link.link merged chains plans
