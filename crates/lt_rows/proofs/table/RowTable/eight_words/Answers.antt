use Rattle.std.proofs.Common.{rules, arith, ◌≡◌, ◌<◌, ◌+◌, length, subst, sym, ap, ◌∙◌, get_or, take, length-set}
use Rattle.std.proofs.lemmas.List.{take_all}
use Rattle.lt_rows.specs.declared.view.View.{View}
use Rattle.lt_rows.specs.Views.{IsHeld, row_at, words_of}
use Rattle.lt_rows.specs.Handles.{knows}
use Rattle.lt_rows.proofs.CopiedSoFar.{one_more_copied, all_copied}
use Rattle.lt_rows.proofs.table.RowTable.eight_words.Goals as goal

pub word-requires-clause-row : goal.word-requires-clause-row
word-requires-clause-row c = subst (λ (u : View). IsHeld u c.args.row) (sym c.loop-i.invariant.same) c.requires.row

pub loop-i-preserved : goal.loop-i-preserved
loop-i-preserved c =
    let v : View = knows c.args.pass.now in
    let same = c.loop-i.invariant.same in
    let inside = c.requires.inside in
    let test = c.loop-i-test.true in
    let wide = c.loop-i.invariant.wide in
    let long : length (words_of (row_at v c.args.row)) ≡ 21 = subst (λ (u : View). length (words_of (row_at u c.args.row)) ≡ 21) same c.word.ensures.long in
    let word : c.word.result ≡ get_or (words_of (row_at v c.args.row)) (c.args.at + c.loop-i.i) 0 =
    c.word.ensures.word ∙ ap (λ (u : View). get_or (words_of (row_at u c.args.row)) (c.args.at + c.loop-i.i) 0) same in
    record {
      of = search rules;
      same = c.word.ensures.same ∙ same;
      wide = length-set c.loop-i.words c.loop-i.i _ ∙ wide;
      words = one_more_copied (words_of (row_at v c.args.row)) c.loop-i.words c.args.at c.loop-i.i c.word.result c.loop-i.invariant.words
          (omega arith) (omega arith) word;
    }

pub returns-clause-words : goal.returns-clause-words
returns-clause-words c = let wide = c.loop-i.invariant.wide in all_copied _ c.loop-i.words c.loop-i.i 8 c.loop-i.invariant.words wide (omega arith)
