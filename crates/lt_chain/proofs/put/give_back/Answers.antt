use Rattle.std.proofs.Common.{refl, sym, ap, ◌∙◌, get_or-set_same}
use Rattle.std.specs.Prelude.{None}
use Rattle.lt_rows.specs.declared.view.View.{View}
use Rattle.lt_rows.specs.Views.{row_at}
use Rattle.lt_rows.specs.Handles.{knows}
use Rattle.lt_rows.proofs.Loops.{held_inside}
use Rattle.lt_rows.proofs.Views.{wrote, row_else}
use Rattle.lt_chain.proofs.put.give_back.Goals as goal

pub put-requires-clause-settled : goal.put-requires-clause-settled
put-requires-clause-settled c =
    let h = c.requires.row in
    let image = c.args.image.now in
    let w = wrote (knows c.args.pass.now) (knows c.write_row.new.pass) image.row image.words h.0.words h.0.image (h.0, h.1, refl, refl) c.write_row.ensures.words in
    (w.0, w.1, w.2 ∙ sym (w.3 ∙ h.2))

pub returns-clause-gone : goal.returns-clause-gone
returns-clause-gone c =
    let h = c.requires.row in
    let image = c.args.image.now in
    let u : View = knows c.write_row.new.pass in
    let w = wrote (knows c.args.pass.now) (knows c.write_row.new.pass) image.row image.words h.0.words h.0.image (h.0, h.1, refl, refl) c.write_row.ensures.words in
    ap (λ (v : View). row_at v image.row) c.put.ensures.given ∙ get_or-set_same u.held image.row None None (held_inside u image.row w.0 w.1)

pub returns-clause-others : goal.returns-clause-others
returns-clause-others c r ne =
    let image = c.args.image.now in
    row_else (knows c.write_row.new.pass) (knows c.put.new.pass) image.row r _ ne c.put.ensures.given ∙ row_else (knows c.args.pass.now) (knows c.write_row.new.pass) image.row r _ ne c.write_row.ensures.words
