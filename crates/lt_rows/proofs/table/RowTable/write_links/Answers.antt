use Rattle.std.proofs.Common.{rules, arith, ◌≡◌, ◌<◌, length, ap, sym, ◌∙◌, refl, ℕ, List, set, length-set}
use Rattle.lt_rows.specs.declared.view.View.{View}
use Rattle.lt_rows.specs.Views.{row_at, words_of, with_row, written}
use Rattle.lt_rows.specs.Handles.{knows}
use Rattle.lt_rows.proofs.Loops.{row_below, words_more, all_words, written_none, written_held, written_words, written_more}
use Rattle.lt_rows.proofs.table.RowTable.write_links.Goals as goal

pub loop-i-init : goal.loop-i-init
loop-i-init c = let v : View = c.args.pass.now.place.me.0 in record {
  of = search rules;
  far = (words_of (row_at v c.args.image.now.row), (λ h. let no : ⊥ = omega arith in absurd no), written_none v c.args.image.now.row c.requires.row, λ k less. sym (c.requires.range k less));
}

pub renew_word-requires-clause-row : goal.renew_word-requires-clause-row
renew_word-requires-clause-row c =
    let far = c.loop-i.invariant.far in
    let less = row_below (knows c.args.pass.now) c.args.image.now.row c.requires.row.0 c.args.self.now.table.shared.key c.args.pass.now.wide (c.requires.of.1 ∙ sym c.args.self.now.sized.1) c.requires.row.1 in
    (less, omega arith, written_held _ _ _ far.0 c.requires.row far.2)

pub loop-i-preserved : goal.loop-i-preserved
loop-i-preserved c = let far = c.loop-i.invariant.far in
    let long : length far.0 ≡ 21 = ap length (sym (written_words _ _ _ far.0 c.requires.row far.2)) ∙ c.renew_word.ensures.long in
    let inside : c.loop-i.i < length far.0 = omega arith in
    record {
      of = search rules;
      far = (set far.0 c.loop-i.i _, (λ _. length-set far.0 c.loop-i.i _ ∙ long), written_more _ _ _ _ far.0 _ _ c.requires.row far.2 c.renew_word.ensures.word, words_more far.0 _ _ _ inside refl far.3);
    }

pub returns-clause-words : goal.returns-clause-words
returns-clause-words c = let far = c.loop-i.invariant.far in
    let all = all_words far.0 c.args.image.now.words c.loop-i.i (far.1 (omega arith)) (search rules) (omega arith) far.3 in let v : View = c.args.pass.now.place.me.0 in far.2 ∙ ap (λ (ws : List ℕ). with_row v c.args.image.now.row (written (row_at v c.args.image.now.row) ws)) all
