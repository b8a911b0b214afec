use Rattle.std.proofs.Common.{sym, subst, ◌∙◌}
use Rattle.lt_rows.specs.Handles.{knows}
use Rattle.lt_rows.specs.declared.view.View.{View}
use Rattle.lt_rows.specs.Teaching.{Teaches}
use Rattle.lt_tree.specs.States.{SeesOn}
use Rattle.lt_tree.proofs.ViewLaws.{prepared_loaded}
use Rattle.lt_tree.proofs.SeenLaws.{seen_rows, seen_then}
use Rattle.lt_tree.proofs.ShowsLaws.{anchor_shows}
use Rattle.lt_tree.proofs.prepare.Prepared.acquire.Goals as goal

pub descend-requires-clause-prepared : goal.descend-requires-clause-prepared
descend-requires-clause-prepared c =
    let l = c.load_row-anchor.ensures in (
      prepared_loaded (knows c.args.self.pass) (knows c.load_row-anchor.new.pass) c.args.self.tree c.args.self.image c.load_row-anchor.result
          c.args.self.prepared.2 l.same l.words.0 l.words.1,
      subst Teaches (sym l.same) l.teaches,
    )

pub returns-in_default-clause-only : goal.returns-in_default-clause-only
returns-in_default-clause-only c = seen_rows (knows c.args.self.pass) (knows c.cancel.result) c.cancel.ensures.only

pub returns-in-Ok-gather_below-clause-same : goal.returns-in-Ok-gather_below-clause-same
returns-in-Ok-gather_below-clause-same c =
    let l = c.load_row-anchor.ensures in
    let d = c.in-Ok-descend.ensures in
    let g = c.in-Ok-gather_below.ensures in (
      (g.of.1.0 ∙ (d.of.1.0 ∙ l.of.1.0), g.of.1.1 ∙ (d.of.1.1 ∙ l.of.1.1)),
      seen_then (knows c.args.self.pass) (knows c.descend.new.pass) (knows c.gather_below.new.pass)
          (subst (λ (v : View). SeesOn v (knows c.descend.new.pass)) l.same d.only) g.only,
    )

pub returns-in-Err-gather_below-clause-only : goal.returns-in-Err-gather_below-clause-only
returns-in-Err-gather_below-clause-only c =
    seen_then (knows c.args.self.pass) (knows c.descend.new.pass) (knows c.gather_below.new.pass)
    (subst (λ (v : View). SeesOn v (knows c.descend.new.pass)) c.load_row-anchor.ensures.same c.in-Ok-descend.ensures.only)
    c.in-Err-gather_below.ensures.only

pub returns-in-Ok-gather_below-clause-anchor : goal.returns-in-Ok-gather_below-clause-anchor
returns-in-Ok-gather_below-clause-anchor c is =
    let l = c.load_row-anchor.ensures in
    let d = c.in-Ok-descend.ensures in
    anchor_shows (knows c.args.self.pass) (knows c.descend.new.pass) (knows c.gather_below.new.pass) c.args.self.tree c.args.self.image
    c.load_row-anchor.result c.in-Ok-descend.stop.here c.args.self.prepared.2.0 l.words.1 (λ e. d.anchor (e ∙ sym l.words.0)) d.stays.has
    c.in-Ok-gather_below.ensures.kept is
