use Rattle.std.proofs.Common.{arith, ◌≡◌, ◌≢◌, ℕ, ◌-◌, ◌<◌, sym, ap, ◌∙◌, subst}
use Rattle.std.specs.Prelude.{slice_index}
use Rattle.lt_rows.specs.declared.view.View.{View}
use Rattle.lt_rows.specs.Views.{IsHeld, row_at, words_of, rows_of}
use Rattle.lt_rows.specs.Handles.{knows}
use Rattle.lt_rows.proofs.Opens.{some_rows}
use Rattle.lt_rows.proofs.Views.{Kept, kept_held, kept_words, kept_same, took, took_else, kept_on, link_read, has_row}
use Rattle.lt_rows.proofs.worked_free.gather_top.Goals as goal

pub take-requires-clause-row : goal.take-requires-clause-row
take-requires-clause-row c =
    let lt = c.requires.tree in
    let limit = c.args.table.now.sized.0.1.limit in
    let s = some_rows c.args.table.now.plan (omega arith) in
    ((omega arith), c.requires.none c.args.tree)

pub take-requires-2-clause-row : goal.take-requires-2-clause-row
take-requires-2-clause-row c =
    let lt = c.requires.tree in
    let limit = c.args.table.now.sized.0.1.limit in
    let s = some_rows c.args.table.now.plan (omega arith) in
    let trees : ℕ = c.args.table.now.plan.trees in
    ((omega arith), took_else c.args.tree (knows c.args.pass.now) (knows c.take.new.pass) c.in-Taken.ensures.tried trees (λ e. omega arith) ∙ c.requires.none trees)

pub load_row-anchor-requires-clause-row : goal.load_row-anchor-requires-clause-row
load_row-anchor-requires-clause-row c =
    let lt = c.requires.tree in
    let limit = c.args.table.now.sized.0.1.limit in
    let s = some_rows c.args.table.now.plan (omega arith) in
    let trees : ℕ = c.args.table.now.plan.trees in
    let one = c.in-Taken.ensures.tried in
    kept_held (knows c.take-2.new.pass) c.args.tree one.0 (kept_on trees (knows c.take.new.pass) (knows c.take-2.new.pass) c.in-Taken-take.ensures.tried c.args.tree one.0 (λ e. omega arith) (took c.args.tree (knows c.args.pass.now) (knows c.take.new.pass) one))

pub load_row-pool-requires-clause-row : goal.load_row-pool-requires-clause-row
load_row-pool-requires-clause-row c =
    let limit = c.args.table.now.sized.0.1.limit in
    let s = some_rows c.args.table.now.plan (omega arith) in
    let trees : ℕ = c.args.table.now.plan.trees in
    let two = c.in-Taken-take.ensures.tried in
    subst (λ (v : View). IsHeld v trees) (sym c.load_row-anchor.ensures.same) (kept_held (knows c.take-2.new.pass) trees two.0 (took trees (knows c.take.new.pass) (knows c.take-2.new.pass) two))

pub overflow_cast-top : goal.overflow_cast-top
overflow_cast-top c =
    let k = c.args.table.now.plan in
    let limit = c.args.table.now.sized.0.1.limit in
    let few = c.args.table.now.sized.0.3 in
    let s = some_rows c.args.table.now.plan (omega arith) in
    let lt = c.requires.tree in
    let one = c.in-Taken.ensures.tried in
    let two = c.in-Taken-take.ensures.tried in
    let v1 : View = knows c.take.new.pass in
    let v2 : View = knows c.take-2.new.pass in
    let v3 : View = knows c.load_row-anchor.new.pass in
    let a2 : Kept v2 c.args.tree one.0 = kept_on k.trees v1 v2 two c.args.tree one.0 (λ e. omega arith) (took c.args.tree (knows c.args.pass.now) v1 one) in
    let p3 : Kept v3 k.trees two.0 = kept_same v2 v3 k.trees two.0 c.load_row-anchor.ensures.same (took k.trees v1 v2 two) in
    let first = link_read k v3 c.args.tree one.0 c.load_row-anchor.result.words (omega arith) c.load_row-anchor.ensures.of.0.1 c.load_row-pool.ensures.teaches (kept_same v2 v3 c.args.tree one.0 c.load_row-anchor.ensures.same a2) (c.load_row-anchor.ensures.words.1 ∙ ap (λ (v : View). words_of (row_at v c.args.tree)) (sym c.load_row-anchor.ensures.same)) c.if-anchor-eq0.false in
    let further : c.args.table.now.plan.trees < slice_index c.load_row-anchor.result.words 17 - 1 = first.0 in
    let inside : slice_index c.load_row-anchor.result.words 17 - 1 < rows_of c.args.table.now.plan = first.1 in
    omega arith

pub take-requires-3-clause-row : goal.take-requires-3-clause-row
take-requires-3-clause-row c =
    let k = c.args.table.now.plan in
    let limit = c.args.table.now.sized.0.1.limit in
    let few = c.args.table.now.sized.0.3 in
    let s = some_rows c.args.table.now.plan (omega arith) in
    let lt = c.requires.tree in
    let one = c.in-Taken.ensures.tried in
    let two = c.in-Taken-take.ensures.tried in
    let v1 : View = knows c.take.new.pass in
    let v2 : View = knows c.take-2.new.pass in
    let v3 : View = knows c.load_row-anchor.new.pass in
    let a2 : Kept v2 c.args.tree one.0 = kept_on k.trees v1 v2 two c.args.tree one.0 (λ e. omega arith) (took c.args.tree (knows c.args.pass.now) v1 one) in
    let p3 : Kept v3 k.trees two.0 = kept_same v2 v3 k.trees two.0 c.load_row-anchor.ensures.same (took k.trees v1 v2 two) in
    let first = link_read k v3 c.args.tree one.0 c.load_row-anchor.result.words (omega arith) c.load_row-anchor.ensures.of.0.1 c.load_row-pool.ensures.teaches (kept_same v2 v3 c.args.tree one.0 c.load_row-anchor.ensures.same a2) (c.load_row-anchor.ensures.words.1 ∙ ap (λ (v : View). words_of (row_at v c.args.tree)) (sym c.load_row-anchor.ensures.same)) c.if-anchor-eq0.false in
    let further : c.args.table.now.plan.trees < slice_index c.load_row-anchor.result.words 17 - 1 = first.0 in
    let inside : slice_index c.load_row-anchor.result.words 17 - 1 < rows_of c.args.table.now.plan = first.1 in
    let q : ℕ = slice_index c.load_row-anchor.result.words 17 - 1 in
    (inside, ap (λ (v : View). row_at v q) (c.load_row-pool.ensures.same ∙ c.load_row-anchor.ensures.same) ∙ (took_else k.trees v1 v2 two q (λ e. omega arith) ∙ (took_else c.args.tree (knows c.args.pass.now) v1 one q (λ e. omega arith) ∙ c.requires.none q)))

pub load_row-row-requires-clause-row : goal.load_row-row-requires-clause-row
load_row-row-requires-clause-row c =
    let k = c.args.table.now.plan in
    let limit = c.args.table.now.sized.0.1.limit in
    let few = c.args.table.now.sized.0.3 in
    let s = some_rows c.args.table.now.plan (omega arith) in
    let lt = c.requires.tree in
    let one = c.in-Taken.ensures.tried in
    let two = c.in-Taken-take.ensures.tried in
    let v1 : View = knows c.take.new.pass in
    let v2 : View = knows c.take-2.new.pass in
    let v3 : View = knows c.load_row-anchor.new.pass in
    let a2 : Kept v2 c.args.tree one.0 = kept_on k.trees v1 v2 two c.args.tree one.0 (λ e. omega arith) (took c.args.tree (knows c.args.pass.now) v1 one) in
    let p3 : Kept v3 k.trees two.0 = kept_same v2 v3 k.trees two.0 c.load_row-anchor.ensures.same (took k.trees v1 v2 two) in
    let first = link_read k v3 c.args.tree one.0 c.load_row-anchor.result.words (omega arith) c.load_row-anchor.ensures.of.0.1 c.load_row-pool.ensures.teaches (kept_same v2 v3 c.args.tree one.0 c.load_row-anchor.ensures.same a2) (c.load_row-anchor.ensures.words.1 ∙ ap (λ (v : View). words_of (row_at v c.args.tree)) (sym c.load_row-anchor.ensures.same)) c.if-anchor-eq0.false in
    let further : c.args.table.now.plan.trees < slice_index c.load_row-anchor.result.words 17 - 1 = first.0 in
    let inside : slice_index c.load_row-anchor.result.words 17 - 1 < rows_of c.args.table.now.plan = first.1 in
    let q : ℕ = slice_index c.load_row-anchor.result.words 17 - 1 in
    let three = c.in-Taken-take-2.ensures.tried in
    kept_held (knows c.take-3.new.pass) q three.0 (took q (knows c.load_row-pool.new.pass) (knows c.take-3.new.pass) three)

pub returns-clause-held : goal.returns-clause-held
returns-clause-held c =
    let k = c.args.table.now.plan in
    let limit = c.args.table.now.sized.0.1.limit in
    let few = c.args.table.now.sized.0.3 in
    let s = some_rows c.args.table.now.plan (omega arith) in
    let lt = c.requires.tree in
    let one = c.in-Taken.ensures.tried in
    let two = c.in-Taken-take.ensures.tried in
    let v1 : View = knows c.take.new.pass in
    let v2 : View = knows c.take-2.new.pass in
    let v3 : View = knows c.load_row-anchor.new.pass in
    let a2 : Kept v2 c.args.tree one.0 = kept_on k.trees v1 v2 two c.args.tree one.0 (λ e. omega arith) (took c.args.tree (knows c.args.pass.now) v1 one) in
    let p3 : Kept v3 k.trees two.0 = kept_same v2 v3 k.trees two.0 c.load_row-anchor.ensures.same (took k.trees v1 v2 two) in
    let first = link_read k v3 c.args.tree one.0 c.load_row-anchor.result.words (omega arith) c.load_row-anchor.ensures.of.0.1 c.load_row-pool.ensures.teaches (kept_same v2 v3 c.args.tree one.0 c.load_row-anchor.ensures.same a2) (c.load_row-anchor.ensures.words.1 ∙ ap (λ (v : View). words_of (row_at v c.args.tree)) (sym c.load_row-anchor.ensures.same)) c.if-anchor-eq0.false in
    let further : c.args.table.now.plan.trees < slice_index c.load_row-anchor.result.words 17 - 1 = first.0 in
    let inside : slice_index c.load_row-anchor.result.words 17 - 1 < rows_of c.args.table.now.plan = first.1 in
    let q : ℕ = slice_index c.load_row-anchor.result.words 17 - 1 in
    let three = c.in-Taken-take-2.ensures.tried in
    let v4 : View = knows c.load_row-pool.new.pass in
    let v5 : View = knows c.take-3.new.pass in
    let v6 : View = knows c.load_row-row.new.pass in
    let a3 : Kept v3 c.args.tree one.0 = kept_same v2 v3 c.args.tree one.0 c.load_row-anchor.ensures.same a2 in
    let a4 : Kept v4 c.args.tree one.0 = kept_same v3 v4 c.args.tree one.0 c.load_row-pool.ensures.same a3 in
    let p4 : Kept v4 k.trees two.0 = kept_same v3 v4 k.trees two.0 c.load_row-pool.ensures.same p3 in
    let a5 : Kept v5 c.args.tree one.0 = kept_on q v4 v5 three c.args.tree one.0 (λ e. omega arith) a4 in
    let p5 : Kept v5 k.trees two.0 = kept_on q v4 v5 three k.trees two.0 (λ e. omega arith) p4 in
    let q5 : Kept v5 q three.0 = took q v4 v5 three in
    let same = c.load_row-row.ensures.same in
    record {
      anchor = has_row v6 c.load_row-anchor.result c.args.tree one.0 (kept_same v5 v6 c.args.tree one.0 same a5) c.load_row-anchor.ensures.words.0 (c.load_row-anchor.ensures.words.1 ∙ kept_words v2 c.args.tree one.0 a2);
      pool = has_row v6 c.load_row-pool.result k.trees two.0 (kept_same v5 v6 k.trees two.0 same p5) c.load_row-pool.ensures.words.0 (c.load_row-pool.ensures.words.1 ∙ kept_words v3 k.trees two.0 p3);
      row = has_row v6 c.load_row-row.result q three.0 (kept_same v5 v6 q three.0 same q5) c.load_row-row.ensures.words.0 (c.load_row-row.ensures.words.1 ∙ kept_words v5 q three.0 q5);
      anchor_row = c.load_row-anchor.ensures.words.0;
      pool_row = c.load_row-pool.ensures.words.0;
      further = subst (λ (n : ℕ). k.trees < n) (sym c.load_row-row.ensures.words.0) further;
      inside = subst (λ (n : ℕ). n < rows_of k) (sym c.load_row-row.ensures.words.0) inside;
      others = λ r na np nx.
          ap (λ (v : View). row_at v r) same
          ∙ (took_else q v4 v5 three r (λ e. nx (e ∙ sym c.load_row-row.ensures.words.0))
          ∙ (ap (λ (v : View). row_at v r) (c.load_row-pool.ensures.same ∙ c.load_row-anchor.ensures.same)
          ∙ (took_else k.trees v1 v2 two r (λ e. np (e ∙ sym c.load_row-pool.ensures.words.0))
          ∙ (took_else c.args.tree (knows c.args.pass.now) v1 one r (λ e. na (e ∙ sym c.load_row-anchor.ensures.words.0)) ∙ c.requires.none r))));
    }

pub returns-clause-top : goal.returns-clause-top
returns-clause-top c =
    let row : c.load_row-row.result.row ≡ slice_index c.load_row-anchor.result.words 17 - 1 = c.load_row-row.ensures.words.0 in
    let some : slice_index c.load_row-anchor.result.words 17 ≢ 0 = c.if-anchor-eq0.false in
    omega arith
