use Rattle.std.proofs.Common.{rules, arith, ◌≡◌, ℕ, [], ◌∷◌, length, List, refl, sym, ap, ◌∙◌, subst, true}
use Rattle.std.specs.Prelude.{slice_index}
use Rattle.lt_seq.specs.declared.event.Deed.TheVariants.{Free}
use Rattle.lt_forest.proofs.SameRows.{one_here}
use Rattle.lt_rows.specs.declared.view.View.{View}
use Rattle.lt_rows.specs.Views.{row_at, words_of}
use Rattle.lt_rows.specs.Handles.{knows}
use Rattle.lt_tree.specs.Puttings.{Backs}
use Rattle.lt_tree.proofs.ViewLaws.{tree_row}
use Rattle.lt_chain.specs.Chains.{HoldsChain, FreesAll}
use Rattle.lt_chain.proofs.HoldingLaws.{backs_held, backs_may_put, backs_taken, backs_same}
use Rattle.lt_chain.proofs.WorkedLaws.{none_backs, buffer_there, chain_looked, frees_there}
use Rattle.lt_chain.proofs.worked.free_whole.Goals as goal

pub seize-requires-clause-row : goal.seize-requires-clause-row
seize-requires-clause-row c =
    (tree_row c.args.table.now.plan c.args.tree c.requires.tree, c.requires.none c.args.tree)

pub load_row-anchor-requires-clause-row : goal.load_row-anchor-requires-clause-row
load_row-anchor-requires-clause-row c =
    let b1 : Backs (knows c.seize.new.pass) (c.args.tree ∷ []) = backs_taken c.args.tree (knows c.args.pass.now) (knows c.seize.new.pass) [] c.in-Taken.ensures.seized refl (none_backs (knows c.args.pass.now) c.requires.none) in
    let one = one_here c.args.tree in
    backs_held (knows c.seize.new.pass) (c.args.tree ∷ []) b1 c.args.tree (omega arith)

pub put-requires-clause-settled : goal.put-requires-clause-settled
put-requires-clause-settled c =
    let b1 : Backs (knows c.seize.new.pass) (c.args.tree ∷ []) = backs_taken c.args.tree (knows c.args.pass.now) (knows c.seize.new.pass) [] c.in-Taken.ensures.seized refl (none_backs (knows c.args.pass.now) c.requires.none) in
    let one = one_here c.args.tree in
    let b3 : Backs (knows c.load_row-anchor.new.pass) (c.args.tree ∷ []) = backs_same (knows c.seize.new.pass) (knows c.load_row-anchor.new.pass) (c.args.tree ∷ []) c.load_row-anchor.ensures.same b1 in
    let words = c.load_row-anchor.ensures.words.1 ∙ ap (λ (v : View). words_of (row_at v c.args.tree)) (sym c.load_row-anchor.ensures.same) in
    backs_may_put (knows c.load_row-anchor.new.pass) (c.args.tree ∷ []) b3 c.args.tree (omega arith)

pub to_pairs-requires-clause-anchor : goal.to_pairs-requires-clause-anchor
to_pairs-requires-clause-anchor c =
    let b1 : Backs (knows c.seize.new.pass) (c.args.tree ∷ []) = backs_taken c.args.tree (knows c.args.pass.now) (knows c.seize.new.pass) [] c.in-Taken.ensures.seized refl (none_backs (knows c.args.pass.now) c.requires.none) in
    let one = one_here c.args.tree in
    let b3 : Backs (knows c.load_row-anchor.new.pass) (c.args.tree ∷ []) = backs_same (knows c.seize.new.pass) (knows c.load_row-anchor.new.pass) (c.args.tree ∷ []) c.load_row-anchor.ensures.same b1 in
    let words = c.load_row-anchor.ensures.words.1 ∙ ap (λ (v : View). words_of (row_at v c.args.tree)) (sym c.load_row-anchor.ensures.same) in
    b3

pub to_pairs-requires-clause-buffer : goal.to_pairs-requires-clause-buffer
to_pairs-requires-clause-buffer c =
    let b1 : Backs (knows c.seize.new.pass) (c.args.tree ∷ []) = backs_taken c.args.tree (knows c.args.pass.now) (knows c.seize.new.pass) [] c.in-Taken.ensures.seized refl (none_backs (knows c.args.pass.now) c.requires.none) in
    let one = one_here c.args.tree in
    let b3 : Backs (knows c.load_row-anchor.new.pass) (c.args.tree ∷ []) = backs_same (knows c.seize.new.pass) (knows c.load_row-anchor.new.pass) (c.args.tree ∷ []) c.load_row-anchor.ensures.same b1 in
    let words = c.load_row-anchor.ensures.words.1 ∙ ap (λ (v : View). words_of (row_at v c.args.tree)) (sym c.load_row-anchor.ensures.same) in
    buffer_there (knows c.load_row-anchor.new.pass) c.args.tree c.load_row-anchor.result.words b3 words c.if-anchor-eq0.false

pub drop_all-requires-clause-chain : goal.drop_all-requires-clause-chain
drop_all-requires-clause-chain c =
    subst (λ (l : List ℕ). HoldsChain (knows c.look-look.new.pass) c.args.tree l) (sym c.deref.ensures.value)
    (chain_looked (knows c.to_pairs.new.pass) (knows c.look-look.new.pass) c.args.tree c.in-Ok.read.rows.items (ap (λ (v : View). v.held) c.look-look.ensures.looks.view) c.in-Ok.ensures.chain)

pub drop_all-requires-clause-event : goal.drop_all-requires-clause-event
drop_all-requires-clause-event c =
    let b1 : Backs (knows c.seize.new.pass) (c.args.tree ∷ []) = backs_taken c.args.tree (knows c.args.pass.now) (knows c.seize.new.pass) [] c.in-Taken.ensures.seized refl (none_backs (knows c.args.pass.now) c.requires.none) in
    let one = one_here c.args.tree in
    let b3 : Backs (knows c.load_row-anchor.new.pass) (c.args.tree ∷ []) = backs_same (knows c.seize.new.pass) (knows c.load_row-anchor.new.pass) (c.args.tree ∷ []) c.load_row-anchor.ensures.same b1 in
    let words = c.load_row-anchor.ensures.words.1 ∙ ap (λ (v : View). words_of (row_at v c.args.tree)) (sym c.load_row-anchor.ensures.same) in
    let count : c.len.result ≡ length c.in-Ok.read.pairs.items = search rules in
    let number : c.number.result ≡ c.look-look.new.pass.number = c.number.ensures in
    subst (λ (x : ℕ × List ℕ). FreesAll x.0 c.args.tree (knows c.look-look.new.pass) x.1 (record { pass = c.number.result; txn = slice_index c.load_row-anchor.result.words 0; deed = Free c.args.tree c.whole.result true c.len.result }))
    (λ j. (number j, sym c.deref.ensures.value j))
    (frees_there c.number.result c.args.tree c.len.result (knows c.load_row-anchor.new.pass) (knows c.to_pairs.new.pass) (knows c.look-look.new.pass) c.in-Ok.read.rows.items c.load_row-anchor.result.words c.in-Ok.read.pairs.items c.whole.result
    b3 words c.in-Ok.ensures.kept (ap (λ (v : View). v.held) c.look-look.ensures.looks.view) c.in-Ok.ensures.pairs.granted count c.whole.ensures)

pub put_chain-requires-clause-backs : goal.put_chain-requires-clause-backs
put_chain-requires-clause-backs c =
    (chain_looked (knows c.to_pairs.new.pass) (knows c.look-look.new.pass) c.args.tree c.in-Ok.read.rows.items (ap (λ (v : View). v.held) c.look-look.ensures.looks.view) c.in-Ok.ensures.chain).backs
