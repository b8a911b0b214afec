use Rattle.std.proofs.Common.{ℕ, List, set, get_or, get_or-set_other, ap, ◌∙◌, arith}
use Rattle.lt_rows.specs.Nodes.{node_of}
use Rattle.lt_tree.proofs.ImageLaws.{estimate_set}
use Rattle.lt_tree.proofs.estimates.re_estimate.Goals as goal
use Rattle.lt_tree.proofs.estimates.re_estimate.Goals.{in-Left, in-Right}

pub returns-clause-node : goal.returns-clause-node
returns-clause-node c = elim c.match-side.branch [
  | in-Left w ↦ ap (λ (i : ℕ). node_of (set c.args.image.now.words i c.args.depth)) w.at-is ∙ estimate_set c.args.image.now.words 19 c.args.depth (omega arith)
  | in-Right w ↦ ap (λ (i : ℕ). node_of (set c.args.image.now.words i c.args.depth)) w.at-is ∙ estimate_set c.args.image.now.words 20 c.args.depth (omega arith)
]

pub returns-clause-range : goal.returns-clause-range
returns-clause-range c k less =
    let ws : List ℕ = c.args.image.now.words in
    elim c.match-side.branch [
      | in-Left w ↦ ap (λ (i : ℕ). get_or (set ws i c.args.depth) k 0) w.at-is ∙ get_or-set_other ws 19 k c.args.depth 0 (λ e. omega (arith, less))
      | in-Right w ↦ ap (λ (i : ℕ). get_or (set ws i c.args.depth) k 0) w.at-is ∙ get_or-set_other ws 20 k c.args.depth 0 (λ e. omega (arith, less))
    ]
