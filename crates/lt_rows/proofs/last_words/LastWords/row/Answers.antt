use Rattle.std.proofs.Common.{◌+◌, ◌*◌, length-set, ◌∙◌, arith, sym}
use Rattle.lt_rows.specs.LastWords.{words_in}
use Rattle.lt_rows.proofs.Closes.{elem_get}
use Rattle.lt_rows.proofs.CopiedSoFar.{elem_below, one_more_copied}
use Rattle.lt_rows.proofs.last_words.LastWords.row.Goals as goal

pub loop-j-preserved : goal.loop-j-preserved
loop-j-preserved c =
    let words = words_in c.args.self.now in
    let place = 22 * c.args.row + 1 + c.loop-j.j in
    let long = c.loop-j.invariant.0 in (
      length-set c.loop-j.words c.loop-j.j c.word.result ∙ long,
      one_more_copied words c.loop-j.words (22 * c.args.row + 1) c.loop-j.j c.word.result c.loop-j.invariant.1 (omega arith)
          (elem_below words place c.word.result c.word.ensures)
          (sym (elem_get words place c.word.result c.word.ensures)),
    )
