use Rattle.std.proofs.Common.{inl, inr, ap, ◌∙◌}
use Rattle.std.specs.Prelude.{slice_index}
use Rattle.lt_rows.specs.declared.view.View.{View}
use Rattle.lt_rows.specs.Nodes.{node_of}
use Rattle.lt_rows.specs.Views.{row_at, words_of}
use Rattle.lt_tree.proofs.descent.next_link.Goals as goal

pub returns-in-Before-clause-link : goal.returns-in-Before-clause-link
unfolding node_of
returns-in-Before-clause-link c = inr (
  c.in-Before.ensures.side,
  c.word.ensures.word ∙ ap (λ (v : View). slice_index (words_of (row_at v c.args.row)) 18) c.compare.ensures.same,
)

pub returns-in-Behind-clause-link : goal.returns-in-Behind-clause-link
unfolding node_of
returns-in-Behind-clause-link c = inl (
  c.in-Behind.ensures.side,
  c.word-in-Behind.ensures.word ∙ ap (λ (v : View). slice_index (words_of (row_at v c.args.row)) 17) c.compare.ensures.same,
)
