use Rattle.std.proofs.Common.{◌+◌, List, [], drop, get_or, refl, ◌∙◌, subst, arith}
use Rattle.std.proofs.lemmas.List.{drop_more, drop_all}
use Rattle.lt_rows.specs.declared.image.RowImage.{RowImage}
use Rattle.lt_rows.specs.declared.view.View.{View}
use Rattle.lt_rows.specs.Handles.{knows}
use Rattle.lt_tree.specs.Writings.{WritesSome, KeepRanges}
use Rattle.lt_tree.proofs.WritingLaws.{writes_none, first_held, writes_one, writes_all}
use Rattle.lt_tree.proofs.RangeLaws.{others_kept}
use Rattle.lt_tree.proofs.settling.write_all_links.Goals as goal

pub loop-image-init : goal.loop-image-init
loop-image-init c = (c.requires.of, (refl, refl), writes_none (knows c.args.pass.now) c.args.plan.now c.requires.held, c.requires.ranges)

pub write_links-requires-clause-of : goal.write_links-requires-clause-of
write_links-requires-clause-of c = c.loop-image.invariant.0

pub write_links-requires-clause-row : goal.write_links-requires-clause-row
write_links-requires-clause-row c =
    let v : View = knows c.args.pass.now in
    let w : View = knows c.loop-image.pass in
    let plan : List RowImage = c.args.plan.now in
    let i = c.loop-image.image-index in
    first_held v w plan (get_or plan i record { row = 0; words = [] }) (drop (i + 1) plan)
    (subst (WritesSome v w plan) (drop_more plan i record { row = 0; words = [] } c.loop-image-test.true) c.loop-image.invariant.2)

pub write_links-requires-clause-range : goal.write_links-requires-clause-range
write_links-requires-clause-range c =
    let w : View = knows c.loop-image.pass in
    let plan : List RowImage = c.args.plan.now in
    (subst (KeepRanges w) (drop_more plan c.loop-image.image-index record { row = 0; words = [] } c.loop-image-test.true) c.loop-image.invariant.3).0

pub loop-image-preserved : goal.loop-image-preserved
loop-image-preserved c =
    let v : View = knows c.args.pass.now in
    let w : View = knows c.loop-image.pass in
    let plan : List RowImage = c.args.plan.now in
    let i = c.loop-image.image-index in
    let o = c.write_links.ensures.of in
    let s = c.loop-image.invariant.1 in (
      o.0,
      (o.1.0 ∙ s.0, o.1.1 ∙ s.1),
      writes_one v w plan (get_or plan i record { row = 0; words = [] }) (drop (i + 1) plan)
          (subst (WritesSome v w plan) (drop_more plan i record { row = 0; words = [] } c.loop-image-test.true) c.loop-image.invariant.2)
          (knows c.write_links.new.pass) c.write_links.ensures.words,
      others_kept w (knows c.write_links.new.pass) (get_or plan i record { row = 0; words = [] })
          (first_held v w plan (get_or plan i record { row = 0; words = [] }) (drop (i + 1) plan)
          (subst (WritesSome v w plan) (drop_more plan i record { row = 0; words = [] } c.loop-image-test.true) c.loop-image.invariant.2))
          c.write_links.ensures.words
          (subst (KeepRanges w) (drop_more plan i record { row = 0; words = [] } c.loop-image-test.true) c.loop-image.invariant.3).0
          (drop (i + 1) plan)
          (subst (KeepRanges w) (drop_more plan i record { row = 0; words = [] } c.loop-image-test.true) c.loop-image.invariant.3).1,
    )

pub returns-clause-of : goal.returns-clause-of
returns-clause-of c = (c.loop-image.invariant.0, c.loop-image.invariant.1)

pub returns-clause-written : goal.returns-clause-written
returns-clause-written c =
    let plan : List RowImage = c.args.plan.now in
    let i = c.loop-image.image-index in
    let no = c.loop-image-test.false in
    writes_all (knows c.args.pass.now) (knows c.loop-image.pass) plan (drop i plan) (drop_all i plan (omega arith)) c.loop-image.invariant.2
