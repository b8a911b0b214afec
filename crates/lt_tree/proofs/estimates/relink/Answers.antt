use Rattle.std.proofs.Common.{rules, ◌≡◌, ℕ, List, length, set, get_or, get_or-set_other, sym, ap, ◌∙◌, arith}
use Rattle.lt_rows.specs.Nodes.{node_of, mode_of}
use Rattle.lt_tree.specs.declared.estimates.Side.{Side}
use Rattle.lt_tree.specs.Turnings.{with_link}
use Rattle.lt_tree.proofs.ImageLaws.{left_set, right_set, mode_set}
use Rattle.lt_tree.proofs.estimates.relink.Goals as goal
use Rattle.lt_tree.proofs.estimates.relink.Goals.{in-Left, in-Right}

pub returns-clause-node : goal.returns-clause-node
returns-clause-node c =
    let ws : List ℕ = c.args.image.words in
    let link : ℕ = c.from.result in
    let same : link ≡ c.args.link = search rules in
    let long : length ws ≡ 21 = search rules in
    elim c.match-side.branch [
      | in-Left w ↦ ap (λ (i : ℕ). node_of (set ws i link)) w.at-is ∙ (left_set ws link long
          ∙ (ap (λ (l : ℕ). record (node_of ws) { left = l }) same ∙ ap (λ (s : Side). with_link s c.args.link (node_of ws)) (sym w.in-Left.is)))
      | in-Right w ↦ ap (λ (i : ℕ). node_of (set ws i link)) w.at-is ∙ (right_set ws link long ∙ (ap (λ (l : ℕ). record (node_of ws) { right = l }) same ∙ ap (λ (s : Side). with_link s c.args.link (node_of ws)) (sym w.in-Right.is)))
    ]

pub returns-clause-mode : goal.returns-clause-mode
returns-clause-mode c =
    let ws : List ℕ = c.args.image.words in
    elim c.match-side.branch [
      | in-Left w ↦ ap (λ (i : ℕ). mode_of (set ws i c.from.result)) w.at-is ∙ mode_set ws 17 c.from.result (omega arith) (omega arith)
      | in-Right w ↦ ap (λ (i : ℕ). mode_of (set ws i c.from.result)) w.at-is ∙ mode_set ws 18 c.from.result (omega arith) (omega arith)
    ]

pub returns-clause-range : goal.returns-clause-range
returns-clause-range c k less =
    let ws : List ℕ = c.args.image.words in
    elim c.match-side.branch [
      | in-Left w ↦ ap (λ (i : ℕ). get_or (set ws i c.from.result) k 0) w.at-is ∙ get_or-set_other ws 17 k c.from.result 0 (λ e. omega (arith, less))
      | in-Right w ↦ ap (λ (i : ℕ). get_or (set ws i c.from.result) k 0) w.at-is ∙ get_or-set_other ws 18 k c.from.result 0 (λ e. omega (arith, less))
    ]
