-- A search tree's pairs are a lawful list, and a tree whose pairs are lawful is in order.
use Rattle.std.proofs.Common.{◌≡◌, ◌⊎◌, inl, inr, ℕ, [], ◌∷◌, ◌++◌, map, true, not, refl, sym, ◌∙◌, subst}
use Rattle.lt_ranges.specs.declared.key.Key.{Key}
use Rattle.lt_ranges.specs.Key.{key_le}
use Rattle.lt_ranges.specs.Interval.{Interval, IsInterval, before}
use Rattle.lt_ranges.proofs.IntervalLaws.{before_trans, before-overlap, overlap_back}
use Rattle.lt_seq.specs.declared.event.Pair.{Pair}
use Rattle.lt_seq.specs.Pairs.{IsLawful}
use Rattle.lt_seq.proofs.PairsLaws.{IsClear}
use Rattle.lt_forest.specs.Pairs.{Has}
use Rattle.lt_forest.specs.Bounds.{Bound, IsAbove, IsBelow, IsInside}
use Rattle.lt_forest.specs.Trees.{Tree, leaf, node, Nodes, pair_of, left_end, right_end, in_order, pairs_in, IsOrdered}
use Rattle.lt_forest.specs.Paths.{Path, here, leftward, rightward, plug, front, back, lower, upper}
use Rattle.lt_forest.proofs.BoundLaws.{above_more, below_less, le_lt, lt_le, lt_is}
use Rattle.lt_forest.proofs.PairLists.{map_app, has_left, has_right, has_either, after_by, clear_by, lawful_left, lawful_right, lawful_cross, lawful_app}

pub pairs_in-node : (c : Nodes) (a b : Tree) (r : ℕ) → pairs_in c (node a r b) ≡ pairs_in c a ++ pair_of c r ∷ pairs_in c b
pairs_in-node c a b r = map_app (pair_of c) (in_order a) (r ∷ in_order b)

pub has_node : (c : Nodes) (a b : Tree) (r : ℕ) (p : Pair) → Has p (pairs_in c (node a r b))
    → Has p (pairs_in c a) ⊎ ((p ≡ pair_of c r) ⊎ Has p (pairs_in c b))
has_node c a b r p h = has_either p (pairs_in c a) (pair_of c r ∷ pairs_in c b) (subst (Has p) (pairs_in-node c a b r) h)

pub node_has : (c : Nodes) (a b : Tree) (r : ℕ) (p : Pair)
    → Has p (pairs_in c a) ⊎ ((p ≡ pair_of c r) ⊎ Has p (pairs_in c b)) → Has p (pairs_in c (node a r b))
node_has c a b r p h = subst (Has p) (sym (pairs_in-node c a b r)) (elim h [
  | inl k ↦ has_left p (pairs_in c a) (pair_of c r ∷ pairs_in c b) k
  | inr k ↦ has_right p (pairs_in c a) (pair_of c r ∷ pairs_in c b) k
])

-- each pair lies within the bounds
pub all_inside : (c : Nodes) (t : Tree) (x y : Bound) (p : Pair) → IsOrdered c t x y → Has p (pairs_in c t)
    → IsInterval p.range × IsInside x y p.range
all_inside c leaf x y p o h = absurd h
all_inside c (node a r b) x y p o h =
    let here : Key = (c r).range.left in
    let there : Key = (c r).range.right in
    elim (has_node c a b r p h) [
      | inl k ↦
          let i = all_inside c a x (left_end c r) p o.3 k in
          let below : key_le p.range.right there ≡ true = lt_is p.range.right there (lt_le p.range.right here there i.1.1 o.0) in
          (i.0, (i.1.0, below_less y p.range.right there o.2 below))
      | inr k ↦ elim k [
        | inl e ↦ subst (λ (q : Pair). IsInterval q.range × IsInside x y q.range) (sym e) (o.0, (o.1, o.2))
        | inr l ↦
            let i = all_inside c b (right_end c r) y p o.4 l in
            let above : key_le here p.range.left ≡ true = lt_is here p.range.left (le_lt here there p.range.left o.0 i.1.0) in
            (i.0, (above_more x here p.range.left o.1 above, i.1.1))
      ]
    ]

pub ordered_lawful : (c : Nodes) (t : Tree) (x y : Bound) → IsOrdered c t x y → IsLawful (pairs_in c t)
ordered_lawful c leaf x y o = tt
ordered_lawful c (node a r b) x y o =
    let low : (p : Pair) → Has p (pairs_in c a) → before p.range (c r).range ≡ true =
    λ p h. (all_inside c a x (left_end c r) p o.3 h).1.1 in
    let high : (p : Pair) → Has p (pairs_in c b) → before (c r).range p.range ≡ true =
    λ p h. (all_inside c b (right_end c r) y p o.4 h).1.0 in
    subst IsLawful (sym (pairs_in-node c a b r)) (lawful_app (pairs_in c a) (pair_of c r ∷ pairs_in c b)
    (ordered_lawful c a x (left_end c r) o.3)
    (o.0, after_by (c r).range (pairs_in c b) high, ordered_lawful c b (right_end c r) y o.4)
    (λ p q h k. elim k [
      | inl e ↦ subst (λ (z : Pair). before p.range z.range ≡ true) (sym e) (low p h)
      | inr l ↦ before_trans p.range (c r).range q.range (low p h) o.0 (high q l)
    ]))

pub lawful_ordered : (c : Nodes) (t : Tree) (x y : Bound) → IsLawful (pairs_in c t)
    → ((p : Pair) → Has p (pairs_in c t) → IsInside x y p.range) → IsOrdered c t x y
lawful_ordered c leaf x y lawful inside = tt
lawful_ordered c (node a r b) x y lawful inside =
    let l : IsLawful (pairs_in c a ++ pair_of c r ∷ pairs_in c b) = subst IsLawful (pairs_in-node c a b r) lawful in
    let u = lawful_right (pairs_in c a) (pair_of c r ∷ pairs_in c b) l in
    let i = inside (pair_of c r) (node_has c a b r (pair_of c r) (inr (inl refl))) in (
      u.0,
      i.0,
      i.1,
      lawful_ordered c a x (left_end c r) (lawful_left (pairs_in c a) (pair_of c r ∷ pairs_in c b) l) (λ p h. (
        (inside p (node_has c a b r p (inl h))).0,
        lawful_cross p (pair_of c r) (pairs_in c a) (pair_of c r ∷ pairs_in c b) l h (inl refl),
      )),
      lawful_ordered c b (right_end c r) y u.2 (λ p h. (
        lawful_cross (pair_of c r) p (pair_of c r ∷ []) (pairs_in c b) u (inl refl) h,
        (inside p (node_has c a b r p (inr (inr h)))).1,
      )),
    )

-- What lies within the bounds of a place overlaps nothing before it or behind it.

front_before : (c : Nodes) (w : Path) (t : Tree) (x y : Bound) (k : Key) → IsOrdered c (plug w t) x y → IsAbove (lower c w x) k
    → ((p : Pair) → Has p (map (pair_of c) (front w)) → not (key_le k p.range.right) ≡ true) × IsAbove x k
front_before c here t x y k o above = ((λ p h. absurd h), above)
front_before c (leftward w r b) t x y k o above = front_before c w t x (left_end c r) k o.3 above
front_before c (rightward a r w) t x y k o above =
    let rest = front_before c w t (right_end c r) y k o.4 above in
    let le : key_le (c r).range.left k ≡ true = lt_is (c r).range.left k (le_lt (c r).range.left (c r).range.right k o.0 rest.1) in (
      (λ p h. elim (has_either p (pairs_in c a) (pair_of c r ∷ map (pair_of c) (front w))
          (subst (Has p) (map_app (pair_of c) (in_order a) (r ∷ front w)) h)) [
            | inl m ↦ lt_le p.range.right (c r).range.left k (all_inside c a x (left_end c r) p o.3 m).1.1 le
            | inr m ↦ elim m [
              | inl e ↦ subst (λ (q : Pair). not (key_le k q.range.right) ≡ true) (sym e) rest.1
              | inr l ↦ rest.0 p l
            ]
          ]),
      above_more x (c r).range.left k o.1 le,
    )

back_behind : (c : Nodes) (w : Path) (t : Tree) (x y : Bound) (k : Key) → IsOrdered c (plug w t) x y → IsBelow (upper c w y) k
    → ((p : Pair) → Has p (map (pair_of c) (back w)) → not (key_le p.range.left k) ≡ true) × IsBelow y k
back_behind c here t x y k o below = ((λ p h. absurd h), below)
back_behind c (rightward a r w) t x y k o below = back_behind c w t (right_end c r) y k o.4 below
back_behind c (leftward w r b) t x y k o below =
    let rest = back_behind c w t x (left_end c r) k o.3 below in
    let le : key_le k (c r).range.right ≡ true = lt_is k (c r).range.right (lt_le k (c r).range.left (c r).range.right rest.1 o.0) in (
      (λ p h. elim (has_either p (map (pair_of c) (back w)) (pair_of c r ∷ pairs_in c b)
          (subst (Has p) (map_app (pair_of c) (back w) (r ∷ in_order b)) h)) [
            | inl m ↦ rest.0 p m
            | inr m ↦ elim m [
              | inl e ↦ subst (λ (q : Pair). not (key_le q.range.left k) ≡ true) (sym e) rest.1
              | inr l ↦ le_lt k (c r).range.right p.range.left le (all_inside c b (right_end c r) y p o.4 l).1.0
            ]
          ]),
      below_less y k (c r).range.right o.2 le,
    )

pub beside_clear : (c : Nodes) (w : Path) (t : Tree) (x y : Bound) (range : Interval) → IsOrdered c (plug w t) x y
    → IsInside (lower c w x) (upper c w y) range
    → IsClear range (map (pair_of c) (front w)) × IsClear range (map (pair_of c) (back w))
beside_clear c w t x y range o inside = (
  clear_by range (map (pair_of c) (front w)) (λ p h.
      before-overlap p.range range ((front_before c w t x y range.left o inside.0).0 p h)),
  clear_by range (map (pair_of c) (back w)) (λ p h.
      overlap_back p.range range ∙ before-overlap range p.range ((back_behind c w t x y range.right o inside.1).0 p h)),
)
