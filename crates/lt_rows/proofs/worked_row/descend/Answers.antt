use Rattle.std.proofs.Common.{arith, ◌≢◌, ℕ, ◌-◌, ◌<◌, sym, ap, ◌∙◌, subst}
use Rattle.std.specs.Prelude.{slice_index, None}
use Rattle.lt_rows.specs.declared.view.View.{View}
use Rattle.lt_rows.specs.Views.{row_at, words_of, rows_of}
use Rattle.lt_rows.specs.Teaching.{Teaches}
use Rattle.lt_rows.specs.Handles.{knows}
use Rattle.lt_rows.proofs.Opens.{some_rows}
use Rattle.lt_rows.proofs.Views.{Kept, kept_held, kept_same, kept_on, took, took_else, link_read, row_else}
use Rattle.lt_rows.proofs.OnlyRow.{goes_down, only_on}
use Rattle.lt_rows.proofs.worked_row.descend.Goals as goal

pub take-requires-clause-row : goal.take-requires-clause-row
take-requires-clause-row c =
    let lt = c.requires.tree in
    let limit = c.args.table.now.sized.0.1.limit in
    let s = some_rows c.args.table.now.plan (omega arith) in
    ((omega arith), c.requires.none c.args.tree)

pub load_row-anchor-requires-clause-row : goal.load_row-anchor-requires-clause-row
load_row-anchor-requires-clause-row c =
    let one = c.in-Taken.ensures.tried in
    kept_held (knows c.take.new.pass) c.args.tree one.0 (took c.args.tree (knows c.args.pass.now) (knows c.take.new.pass) one)

pub overflow_cast-top : goal.overflow_cast-top
overflow_cast-top c =
    let few = c.args.table.now.sized.0.3 in
    let lt = c.requires.tree in
    let one = c.in-Taken.ensures.tried in
    let v1 : View = knows c.take.new.pass in
    let top = link_read c.args.table.now.plan v1 c.args.tree one.0 c.load_row-anchor.result.words (omega arith) c.in-Taken.ensures.of.0.1 c.load_row-anchor.ensures.teaches (took c.args.tree (knows c.args.pass.now) v1 one) c.load_row-anchor.ensures.words.1 c.if-anchor-eq0.false in
    let inside : slice_index c.load_row-anchor.result.words 17 - 1 < rows_of c.args.table.now.plan = top.1 in
    omega arith

pub take-requires-2-clause-row : goal.take-requires-2-clause-row
take-requires-2-clause-row c =
    let lt = c.requires.tree in
    let one = c.in-Taken.ensures.tried in
    let v0 : View = knows c.args.pass.now in
    let v1 : View = knows c.take.new.pass in
    let top = link_read c.args.table.now.plan v1 c.args.tree one.0 c.load_row-anchor.result.words (omega arith) c.in-Taken.ensures.of.0.1 c.load_row-anchor.ensures.teaches (took c.args.tree v0 v1 one) c.load_row-anchor.ensures.words.1 c.if-anchor-eq0.false in
    let q : ℕ = slice_index c.load_row-anchor.result.words 17 - 1 in
    let more : c.args.table.now.plan.trees < slice_index c.load_row-anchor.result.words 17 - 1 = top.0 in
    (top.1, ap (λ (v : View). row_at v q) c.load_row-anchor.ensures.same ∙ (took_else c.args.tree v0 v1 one q (λ e. omega arith) ∙ c.requires.none q))

pub put-requires-clause-settled : goal.put-requires-clause-settled
put-requires-clause-settled c =
    let lt = c.requires.tree in
    let one = c.in-Taken.ensures.tried in
    let two = c.in-Taken-take.ensures.tried in
    let v1 : View = knows c.take.new.pass in
    let v2 : View = knows c.load_row-anchor.new.pass in
    let v3 : View = knows c.take-2.new.pass in
    let kept1 : Kept v1 c.args.tree one.0 = took c.args.tree (knows c.args.pass.now) v1 one in
    let top = link_read c.args.table.now.plan v1 c.args.tree one.0 c.load_row-anchor.result.words (omega arith) c.in-Taken.ensures.of.0.1 c.load_row-anchor.ensures.teaches kept1 c.load_row-anchor.ensures.words.1 c.if-anchor-eq0.false in
    let q : ℕ = slice_index c.load_row-anchor.result.words 17 - 1 in
    let more : c.args.table.now.plan.trees < slice_index c.load_row-anchor.result.words 17 - 1 = top.0 in
    let kept2 : Kept v2 c.args.tree one.0 = kept_same v1 v2 c.args.tree one.0 c.load_row-anchor.ensures.same kept1 in
    let kept3 : Kept v3 c.args.tree one.0 = kept_on q v2 v3 two c.args.tree one.0 (λ e. omega arith) kept2 in
    (kept3.0, kept3.1, kept3.2 ∙ sym kept3.3)

pub load_row-row-requires-clause-row : goal.load_row-row-requires-clause-row
load_row-row-requires-clause-row c =
    let lt = c.requires.tree in
    let one = c.in-Taken.ensures.tried in
    let two = c.in-Taken-take.ensures.tried in
    let v1 : View = knows c.take.new.pass in
    let v2 : View = knows c.load_row-anchor.new.pass in
    let v3 : View = knows c.take-2.new.pass in
    let v4 : View = knows c.put.new.pass in
    let top = link_read c.args.table.now.plan v1 c.args.tree one.0 c.load_row-anchor.result.words (omega arith) c.in-Taken.ensures.of.0.1 c.load_row-anchor.ensures.teaches (took c.args.tree (knows c.args.pass.now) v1 one) c.load_row-anchor.ensures.words.1 c.if-anchor-eq0.false in
    let q : ℕ = slice_index c.load_row-anchor.result.words 17 - 1 in
    let more : c.args.table.now.plan.trees < slice_index c.load_row-anchor.result.words 17 - 1 = top.0 in
    let kept = took q v2 v3 two in
    (kept.0, row_else v3 v4 c.args.tree q None (λ e. omega arith) c.put.ensures.given ∙ kept.1)

pub returns-clause-front : goal.returns-clause-front
returns-clause-front c =
    ap (λ (v : View). v.front) c.load_row-row.ensures.same ∙ (ap (λ (v : View). v.front) c.put.ensures.given
    ∙ (ap (λ (v : View). v.front) c.in-Taken-take.ensures.tried.3 ∙ (ap (λ (v : View). v.front) c.load_row-anchor.ensures.same ∙ ap (λ (v : View). v.front) c.in-Taken.ensures.tried.3)))

pub returns-clause-held : goal.returns-clause-held
returns-clause-held c =
    let lt = c.requires.tree in
    let k = c.args.table.now.plan in
    let one = c.in-Taken.ensures.tried in
    let two = c.in-Taken-take.ensures.tried in
    let v0 : View = knows c.args.pass.now in
    let v1 : View = knows c.take.new.pass in
    let v2 : View = knows c.load_row-anchor.new.pass in
    let v3 : View = knows c.take-2.new.pass in
    let v4 : View = knows c.put.new.pass in
    let v5 : View = knows c.load_row-row.new.pass in
    let same = c.load_row-anchor.ensures.same in
    let kept1 : Kept v1 c.args.tree one.0 = took c.args.tree v0 v1 one in
    let top = link_read c.args.table.now.plan v1 c.args.tree one.0 c.load_row-anchor.result.words (omega arith) c.in-Taken.ensures.of.0.1 c.load_row-anchor.ensures.teaches kept1 c.load_row-anchor.ensures.words.1 c.if-anchor-eq0.false in
    let q : ℕ = slice_index c.load_row-anchor.result.words 17 - 1 in
    let some : slice_index c.load_row-anchor.result.words 17 ≢ 0 = c.if-anchor-eq0.false in
    only_on k v4 v5 c.args.tree c.load_row-row.result (ap (λ (v : View). v.held) c.load_row-row.ensures.same)
    (goes_down k v2 v3 v4 c.args.tree q one.0 c.load_row-anchor.result c.load_row-row.result lt top.0 c.load_row-anchor.ensures.of.0.1
    (subst Teaches (sym same) c.load_row-anchor.ensures.teaches)
    (kept_same v1 v2 c.args.tree one.0 same kept1)
    (λ r ne. ap (λ (v : View). row_at v r) same ∙ (took_else c.args.tree v0 v1 one r ne ∙ c.requires.none r))
    (c.load_row-anchor.ensures.words.1 ∙ ap (λ (v : View). words_of (row_at v c.args.tree)) (sym same))
    c.if-anchor-ne0.false (omega arith) two c.put.ensures.given c.load_row-row.ensures.words.0 c.load_row-row.ensures.words.1 c.if-row-ne0.false c.if-row-ne0-2.false)
