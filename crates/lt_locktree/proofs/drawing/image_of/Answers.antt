use Rattle.std.proofs.Common.{◌≡◌, length, refl, ap, ◌∙◌, subst, rules}
use Rattle.lt_ranges.specs.Packing.{IsValid, packed}
use Rattle.lt_locktree.specs.Drawn.{node_with}
use Rattle.lt_locktree.proofs.DrawingLaws.{image_node}
use Rattle.lt_locktree.proofs.drawing.image_of.Goals as goal

pub returns : goal.returns
returns c =
    let row = c.args.row.now in
    let low_long : length c.pack-low.result ≡ 8 = search rules in
    let high_long : length c.pack-high.result ≡ 8 = search rules in
    record {
      row = refl;
      node = image_node row c.pack-low.result c.pack-high.result c.from.result c.from-2.result c.left.ensures.ordered
          (c.pack-low.ensures.value ∙ ap packed c.left.ensures.value) (c.pack-high.ensures.value ∙ ap packed c.right.ensures.value)
          (subst IsValid c.left.ensures.value c.pack-low.ensures.valid) (subst IsValid c.right.ensures.value c.pack-high.ensures.valid)
          low_long high_long
          ∙ (λ j. node_with row (c.from.ensures j) (c.from-2.ensures j));
    }
