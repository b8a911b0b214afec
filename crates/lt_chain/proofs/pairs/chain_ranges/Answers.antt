use Rattle.std.proofs.Common.{get_or, sym, ap, ◌∙◌, subst}
use Rattle.lt_rows.specs.declared.view.View.{View}
use Rattle.lt_rows.specs.Views.{IsHeld, row_at, words_of}
use Rattle.lt_rows.specs.Handles.{knows}
use Rattle.lt_chain.proofs.PairLaws.{row_held, ranges_on, ranges_end}
use Rattle.lt_chain.proofs.pairs.chain_ranges.Goals as goal

pub load_row-image-requires-clause-row : goal.load_row-image-requires-clause-row
load_row-image-requires-clause-row c =
    let i = c.loop-row.invariant in
    subst (λ (u : View). IsHeld u (get_or c.args.rows.now c.loop-row.row-index 0)) (sym i.2)
    (row_held (knows c.args.pass.now) c.requires.backs.0 c.args.rows.now c.requires.backs.1 c.loop-row.row-index c.loop-row-test.true)

pub loop-row-preserved : goal.loop-row-preserved
loop-row-preserved c =
    let i = c.loop-row.invariant in
    let load = c.load_row-image.ensures in (
      load.of.0,
      (load.of.1.0 ∙ i.1.0, load.of.1.1 ∙ i.1.1),
      load.same ∙ i.2,
      ranges_on (knows c.args.pass.now) c.requires.backs.0 c.args.rows.now c.requires.backs.1 c.loop-row.row-index
          c.load_row-image.result.words c.range.result c.loop-row.ranges.items c.push.new.self.items c.loop-row-test.true
          (load.words.1 ∙ ap (λ (u : View). words_of (row_at u (get_or c.args.rows.now c.loop-row.row-index 0))) i.2)
          c.range.ensures c.in_ok-push.ensures.items i.3,
    )

pub returns-clause-ranges : goal.returns-clause-ranges
returns-clause-ranges c =
    ranges_end (knows c.args.pass.now) c.requires.backs.0 c.args.rows.now c.requires.backs.1 c.loop-row.row-index c.loop-row.ranges.items
    c.loop-row-test.false c.loop-row.invariant.3
