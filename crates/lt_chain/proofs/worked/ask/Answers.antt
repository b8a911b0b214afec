use Rattle.std.proofs.Common.{arith, [], ◌∷◌, refl, sym, ap, ◌∙◌}
use Rattle.lt_forest.proofs.SameRows.{one_here}
use Rattle.lt_rows.specs.declared.view.View.{View}
use Rattle.lt_rows.specs.Views.{row_at, words_of}
use Rattle.lt_rows.specs.Handles.{knows}
use Rattle.lt_tree.specs.Puttings.{Backs}
use Rattle.lt_tree.proofs.ViewLaws.{tree_row}
use Rattle.lt_chain.proofs.HoldingLaws.{backs_held, backs_may_put, backs_taken, backs_same}
use Rattle.lt_chain.proofs.WorkedLaws.{none_backs, backs_rows, begins_there, appends_there}
use Rattle.lt_chain.proofs.worked.ask.Goals as goal

pub seize-requires-clause-row : goal.seize-requires-clause-row
seize-requires-clause-row c =
    (tree_row c.args.table.now.plan c.args.tree c.requires.tree, c.requires.none c.args.tree)

pub load_row-anchor-requires-clause-row : goal.load_row-anchor-requires-clause-row
load_row-anchor-requires-clause-row c =
    let b1 : Backs (knows c.seize.new.pass) (c.args.tree ∷ []) = backs_taken c.args.tree (knows c.args.pass.now) (knows c.seize.new.pass) [] c.in-Taken.ensures.seized refl (none_backs (knows c.args.pass.now) c.requires.none) in
    let one = one_here c.args.tree in
    let b2 : Backs (knows c.look-look.new.pass) (c.args.tree ∷ []) = backs_rows (knows c.seize.new.pass) (knows c.look-look.new.pass) (c.args.tree ∷ []) (λ q. ap (λ (v : View). row_at v q) c.look-look.ensures.looks.view) b1 in
    backs_held (knows c.look-look.new.pass) (c.args.tree ∷ []) b2 c.args.tree (omega arith)

pub put-requires-clause-settled : goal.put-requires-clause-settled
put-requires-clause-settled c =
    let b1 : Backs (knows c.seize.new.pass) (c.args.tree ∷ []) = backs_taken c.args.tree (knows c.args.pass.now) (knows c.seize.new.pass) [] c.in-Taken.ensures.seized refl (none_backs (knows c.args.pass.now) c.requires.none) in
    let one = one_here c.args.tree in
    let b2 : Backs (knows c.look-look.new.pass) (c.args.tree ∷ []) = backs_rows (knows c.seize.new.pass) (knows c.look-look.new.pass) (c.args.tree ∷ []) (λ q. ap (λ (v : View). row_at v q) c.look-look.ensures.looks.view) b1 in
    let b3 : Backs (knows c.load_row-anchor.new.pass) (c.args.tree ∷ []) = backs_same (knows c.look-look.new.pass) (knows c.load_row-anchor.new.pass) (c.args.tree ∷ []) c.load_row-anchor.ensures.same b2 in
    let words = c.load_row-anchor.ensures.words.1 ∙ ap (λ (v : View). words_of (row_at v c.args.tree)) (sym c.load_row-anchor.ensures.same) in
    backs_may_put (knows c.load_row-anchor.new.pass) (c.args.tree ∷ []) b3 c.args.tree (omega arith)

pub begin-requires-clause-anchor : goal.begin-requires-clause-anchor
begin-requires-clause-anchor c =
    let b1 : Backs (knows c.seize.new.pass) (c.args.tree ∷ []) = backs_taken c.args.tree (knows c.args.pass.now) (knows c.seize.new.pass) [] c.in-Taken.ensures.seized refl (none_backs (knows c.args.pass.now) c.requires.none) in
    let one = one_here c.args.tree in
    let b2 : Backs (knows c.look-look.new.pass) (c.args.tree ∷ []) = backs_rows (knows c.seize.new.pass) (knows c.look-look.new.pass) (c.args.tree ∷ []) (λ q. ap (λ (v : View). row_at v q) c.look-look.ensures.looks.view) b1 in
    let b3 : Backs (knows c.load_row-anchor.new.pass) (c.args.tree ∷ []) = backs_same (knows c.look-look.new.pass) (knows c.load_row-anchor.new.pass) (c.args.tree ∷ []) c.load_row-anchor.ensures.same b2 in
    let words = c.load_row-anchor.ensures.words.1 ∙ ap (λ (v : View). words_of (row_at v c.args.tree)) (sym c.load_row-anchor.ensures.same) in
    b3

pub begin-requires-clause-begins : goal.begin-requires-clause-begins
begin-requires-clause-begins c =
    let b1 : Backs (knows c.seize.new.pass) (c.args.tree ∷ []) = backs_taken c.args.tree (knows c.args.pass.now) (knows c.seize.new.pass) [] c.in-Taken.ensures.seized refl (none_backs (knows c.args.pass.now) c.requires.none) in
    let one = one_here c.args.tree in
    let b2 : Backs (knows c.look-look.new.pass) (c.args.tree ∷ []) = backs_rows (knows c.seize.new.pass) (knows c.look-look.new.pass) (c.args.tree ∷ []) (λ q. ap (λ (v : View). row_at v q) c.look-look.ensures.looks.view) b1 in
    let b3 : Backs (knows c.load_row-anchor.new.pass) (c.args.tree ∷ []) = backs_same (knows c.look-look.new.pass) (knows c.load_row-anchor.new.pass) (c.args.tree ∷ []) c.load_row-anchor.ensures.same b2 in
    let words = c.load_row-anchor.ensures.words.1 ∙ ap (λ (v : View). words_of (row_at v c.args.tree)) (sym c.load_row-anchor.ensures.same) in
    let r = c.in-Empty.ensures in
    begins_there c.args.table.now.plan c.plan-2.result.now (knows c.load_row-anchor.new.pass) c.args.tree c.load_row-anchor.result.words c.plan-2.ensures b3 words r.0 r.1 r.2 r.3

pub begin-requires-clause-event : goal.begin-requires-clause-event
begin-requires-clause-event c =
    record {
      range = c.args.range.now;
      pass_is = c.number.ensures;
      txn = c.requires.txn;
      question = c.buffered.ensures.ordered;
      deed = c.buffered.ensures.deed;
    }

pub append-requires-clause-anchor : goal.append-requires-clause-anchor
append-requires-clause-anchor c =
    let b1 : Backs (knows c.seize.new.pass) (c.args.tree ∷ []) = backs_taken c.args.tree (knows c.args.pass.now) (knows c.seize.new.pass) [] c.in-Taken.ensures.seized refl (none_backs (knows c.args.pass.now) c.requires.none) in
    let one = one_here c.args.tree in
    let b2 : Backs (knows c.look-look.new.pass) (c.args.tree ∷ []) = backs_rows (knows c.seize.new.pass) (knows c.look-look.new.pass) (c.args.tree ∷ []) (λ q. ap (λ (v : View). row_at v q) c.look-look.ensures.looks.view) b1 in
    let b3 : Backs (knows c.load_row-anchor.new.pass) (c.args.tree ∷ []) = backs_same (knows c.look-look.new.pass) (knows c.load_row-anchor.new.pass) (c.args.tree ∷ []) c.load_row-anchor.ensures.same b2 in
    let words = c.load_row-anchor.ensures.words.1 ∙ ap (λ (v : View). words_of (row_at v c.args.tree)) (sym c.load_row-anchor.ensures.same) in
    b3

pub append-requires-clause-appends : goal.append-requires-clause-appends
append-requires-clause-appends c =
    let b1 : Backs (knows c.seize.new.pass) (c.args.tree ∷ []) = backs_taken c.args.tree (knows c.args.pass.now) (knows c.seize.new.pass) [] c.in-Taken.ensures.seized refl (none_backs (knows c.args.pass.now) c.requires.none) in
    let one = one_here c.args.tree in
    let b2 : Backs (knows c.look-look.new.pass) (c.args.tree ∷ []) = backs_rows (knows c.seize.new.pass) (knows c.look-look.new.pass) (c.args.tree ∷ []) (λ q. ap (λ (v : View). row_at v q) c.look-look.ensures.looks.view) b1 in
    let b3 : Backs (knows c.load_row-anchor.new.pass) (c.args.tree ∷ []) = backs_same (knows c.look-look.new.pass) (knows c.load_row-anchor.new.pass) (c.args.tree ∷ []) c.load_row-anchor.ensures.same b2 in
    let words = c.load_row-anchor.ensures.words.1 ∙ ap (λ (v : View). words_of (row_at v c.args.tree)) (sym c.load_row-anchor.ensures.same) in
    let r = c.in-Own.ensures in
    (_, appends_there c.args.table.now.plan c.plan-2.result.now (knows c.load_row-anchor.new.pass) c.args.tree c.args.txn c.load_row-anchor.result.words c.plan-2.ensures c.requires.txn b3 words r.0 r.1)

pub append-requires-clause-event : goal.append-requires-clause-event
append-requires-clause-event c =
    record {
      range = c.args.range.now;
      pass_is = c.number.ensures;
      txn = c.requires.txn;
      question = c.buffered.ensures.ordered;
      deed = c.buffered.ensures.deed;
    }

pub put-requires-in-Closed-clause-settled : goal.put-requires-in-Closed-clause-settled
put-requires-in-Closed-clause-settled c =
    let b1 : Backs (knows c.seize.new.pass) (c.args.tree ∷ []) = backs_taken c.args.tree (knows c.args.pass.now) (knows c.seize.new.pass) [] c.in-Taken.ensures.seized refl (none_backs (knows c.args.pass.now) c.requires.none) in
    let one = one_here c.args.tree in
    let b2 : Backs (knows c.look-look.new.pass) (c.args.tree ∷ []) = backs_rows (knows c.seize.new.pass) (knows c.look-look.new.pass) (c.args.tree ∷ []) (λ q. ap (λ (v : View). row_at v q) c.look-look.ensures.looks.view) b1 in
    let b3 : Backs (knows c.load_row-anchor.new.pass) (c.args.tree ∷ []) = backs_same (knows c.look-look.new.pass) (knows c.load_row-anchor.new.pass) (c.args.tree ∷ []) c.load_row-anchor.ensures.same b2 in
    let words = c.load_row-anchor.ensures.words.1 ∙ ap (λ (v : View). words_of (row_at v c.args.tree)) (sym c.load_row-anchor.ensures.same) in
    backs_may_put (knows c.load_row-anchor.new.pass) (c.args.tree ∷ []) b3 c.args.tree (omega arith)
