-- The gaps that the rows of a new part get, read off a plan's images.
use Rattle.std.proofs.Common.{◌≡◌, inl, inr, ℕ, ◌+◌, ◌<◌, [], ◌∷◌, subst, arith}
use Rattle.std.specs.Prelude.{Some, None}
use Rattle.lt_forest.specs.Counts.{times}
use Rattle.lt_forest.specs.Bounds.{Bound, Gap}
use Rattle.lt_forest.specs.Trees.{Node, Nodes, in_order, left_end, right_end}
use Rattle.lt_forest.specs.Cuts.{Cut, end, held, Shows, bare, HasCutGap}
use Rattle.lt_forest.specs.Plans.{Top, from_anchor, from_row, HasPartGap}
use Rattle.lt_forest.proofs.BoundLaws.{greater_same, less_same}
use Rattle.lt_forest.proofs.SameRows.{AgreeOn, on_left, on_right, on_here}

-- rows that hold the same give the same gaps
on_cut_gap : (v c : Nodes) (cut : Cut) (x y : Bound) (q : ℕ) (g : Gap) → AgreeOn v c (in_order (bare cut))
    → HasCutGap v cut x y q g → HasCutGap c cut x y q g
on_cut_gap v c (end l) x y q g same h = h
on_cut_gap v c (held a r b) x y q g same h =
    let low = on_left v c (in_order (bare a)) (r ∷ in_order (bare b)) same in
    let rest = on_right v c (in_order (bare a)) (r ∷ in_order (bare b)) same in
    let high = on_right v c (r ∷ []) (in_order (bare b)) rest in
    let here : v r ≡ c r = on_here v c r (in_order (bare b)) rest in
    elim h [
      | inl m ↦ inl m
      | inr m ↦ elim m [
        | inl l ↦ inr (inl (subst (λ (n : Node). HasCutGap c a x (Some n.range.left) q g) here
            (on_cut_gap v c a x (left_end v r) q g low l)))
        | inr l ↦ inr (inr (subst (λ (n : Node). HasCutGap c b (Some n.range.right) y q g) here
            (on_cut_gap v c b (right_end v r) y q g high l)))
      ]
    ]

pub on_part_gap : (v c : Nodes) (top : Top) (cut : Cut) (q : ℕ) (g : Gap) → AgreeOn v c (in_order (bare cut))
    → HasPartGap top cut v q g → HasPartGap top cut c q g
on_part_gap v c from_anchor cut q g same h = on_cut_gap v c cut None None q g same h
on_part_gap v c (from_row r k) cut q g same h = on_cut_gap v c cut k.0 k.1 q g same h

-- the row from which a part hangs
pub top_gap : (d : Nodes) (h : ℕ) (g : Gap) (new : Cut) → Shows d (h + 1) new → 0 < times h (in_order (bare new))
    → HasPartGap (from_row h g) new d h g
top_gap d h g (end l) shows some = absurd (omega (arith, some))
top_gap d h g (held a r b) shows some = inl ((let e = shows.0 in omega arith), (greater_same g.0, less_same g.1))
