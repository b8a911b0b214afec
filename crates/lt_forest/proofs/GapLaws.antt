-- The gaps of rows: each row has one, and a child's is its parent's, cut at the parent's range.
use Rattle.std.proofs.Common.{◌≡◌, inl, inr, ℕ, ◌+◌, ◌<◌, ◌≤◌, List, ◌∷◌, refl, sym, ap, ◌∙◌, subst, arith, ne_eqb}
use Rattle.std.specs.Prelude.{nat_eq, None}
use mathlib.Core.Logic.{dite}
use native.Mathlib.Decide.{ℕ_discrete}
use Rattle.lt_seq.specs.declared.event.Mode.{Mode}
use Rattle.lt_seq.specs.declared.event.Mode.TheVariants.{Tree as TreeMode, Buffer}
use Rattle.lt_seq.specs.Table.{TreeState, tree_at}
use Rattle.lt_forest.specs.Counts.{one_if, times}
use Rattle.lt_forest.specs.Bounds.{Bound, Gap, Within}
use Rattle.lt_forest.specs.Trees.{Tree, leaf, node, Nodes, left_end, right_end, LeadsTo, in_order, IsGap, HasGap}
use Rattle.lt_forest.specs.Forest.{Forest, Growth, search_tree, chain, rows_at, IsTree, Represents, IsForest, GapIn, IsPlaced}
use Rattle.lt_forest.proofs.BoundLaws.{greater_same, less_same}
use Rattle.lt_forest.proofs.SameRows.{times-++, one_equal}
use Rattle.lt_forest.proofs.ForestLaws.{TreeAt, as_tree, at_most}
use Rattle.lt_forest.proofs.Chains.{total_has}

-- a row that stands in a tree has a gap

pub gap_there : (c : Nodes) (t : Tree) (x y : Bound) (q : ℕ) → 0 < times q (in_order t) → (g : Gap) × IsGap c t x y q g
gap_there c leaf x y q some = absurd (omega (arith, some))
gap_there c (node a r b) x y q some = dite (ℕ_discrete q r)
    (λ e. ((x, y), inl (e, refl)))
    (λ ne. dite (ℕ_discrete (times q (in_order a)) 0)
    (λ none.
    let s = times-++ q (in_order a) (r ∷ in_order b) in
    let o : one_if (nat_eq r q) ≡ 0 = ap one_if (ne_eqb r q (λ e. ne (sym e))) in
    let k = gap_there c b (right_end c r) y q (omega arith) in
    (k.0, inr (inr k.1)))
    (λ there. let k = gap_there c a x (left_end c r) q (omega arith) in (k.0, inr (inl k.1))))

pub gap_stands : (c : Nodes) (t : Tree) (x y : Bound) (q : ℕ) (g : Gap) → IsGap c t x y q g → 0 < times q (in_order t)
gap_stands c leaf x y q g h = absurd h
gap_stands c (node a r b) x y q g h =
    let s = times-++ q (in_order a) (r ∷ in_order b) in
    elim h [
      | inl m ↦ let o = one_equal q r m.0 in omega arith
      | inr m ↦ elim m [
        | inl l ↦ let i = gap_stands c a x (left_end c r) q g l in omega arith
        | inr l ↦ let i = gap_stands c b (right_end c r) y q g l in omega arith
      ]
    ]

-- and only one, where it stands once
pub gap_one : (c : Nodes) (t : Tree) (x y : Bound) (q : ℕ) (g k : Gap) → times q (in_order t) ≤ 1
    → IsGap c t x y q g → IsGap c t x y q k → g ≡ k
gap_one c leaf x y q g k one h i = absurd h
gap_one c (node a r b) x y q g k one h i =
    let s = times-++ q (in_order a) (r ∷ in_order b) in
    elim h [
      | inl m ↦ let o = one_equal q r m.0 in elim i [
        | inl n ↦ m.1 ∙ sym n.1
        | inr n ↦ elim n [
          | inl l ↦ let j = gap_stands c a x (left_end c r) q k l in absurd (omega arith)
          | inr l ↦ let j = gap_stands c b (right_end c r) y q k l in absurd (omega arith)
        ]
      ]
      | inr m ↦ elim m [
        | inl l ↦ let j = gap_stands c a x (left_end c r) q g l in elim i [
          | inl n ↦ let o = one_equal q r n.0 in absurd (omega arith)
          | inr n ↦ elim n [
            | inl u ↦ gap_one c a x (left_end c r) q g k (omega arith) l u
            | inr u ↦ let z = gap_stands c b (right_end c r) y q k u in absurd (omega arith)
          ]
        ]
        | inr l ↦ let j = gap_stands c b (right_end c r) y q g l in elim i [
          | inl n ↦ let o = one_equal q r n.0 in absurd (omega arith)
          | inr n ↦ elim n [
            | inl u ↦ let z = gap_stands c a x (left_end c r) q k u in absurd (omega arith)
            | inr u ↦ gap_one c b (right_end c r) y q g k (omega arith) l u
          ]
        ]
      ]
    ]

-- what lies within a gap, and what a row has within its gap

pub is_has : (c : Nodes) (t : Tree) (x y : Bound) (q : ℕ) (g k : Gap) → IsGap c t x y q k → Within g k.0 k.1 → HasGap c t x y q g
is_has c leaf x y q g k h w = absurd h
is_has c (node a r b) x y q g k h w = elim h [
  | inl m ↦ inl (m.0, subst (λ (j : Gap). Within g j.0 j.1) m.1 w)
  | inr m ↦ elim m [
    | inl l ↦ inr (inl (is_has c a x (left_end c r) q g k l w))
    | inr l ↦ inr (inr (is_has c b (right_end c r) y q g k l w))
  ]
]

pub has_is : (c : Nodes) (t : Tree) (x y : Bound) (q : ℕ) (g : Gap) → HasGap c t x y q g
    → (k : Gap) × IsGap c t x y q k × Within g k.0 k.1
has_is c leaf x y q g h = absurd h
has_is c (node a r b) x y q g h = elim h [
  | inl m ↦ ((x, y), inl (m.0, refl), m.1)
  | inr m ↦ elim m [
    | inl l ↦ let k = has_is c a x (left_end c r) q g l in (k.0, inr (inl k.1), k.2)
    | inr l ↦ let k = has_is c b (right_end c r) y q g l in (k.0, inr (inr k.1), k.2)
  ]
]

pub has_stands : (c : Nodes) (t : Tree) (x y : Bound) (q : ℕ) (g : Gap) → HasGap c t x y q g → 0 < times q (in_order t)
has_stands c t x y q g h = let k = has_is c t x y q g h in gap_stands c t x y q k.0 k.1

pub gap_in_stands : (c : Nodes) (growth : Growth) (q : ℕ) (g : Gap) → GapIn c growth q g → 0 < times q (rows_at growth)
gap_in_stands c (search_tree t) q g h = has_stands c t None None q g h
gap_in_stands c (chain rows) q g h = absurd h

-- the gaps of the row to which a link leads

pub top_gap : (c : Nodes) (t : Tree) (link : ℕ) (x y : Bound) (r : ℕ) → LeadsTo c link t → link ≡ r + 1 → IsGap c t x y r (x, y)
top_gap c leaf link x y r leads is = absurd (let z : link ≡ 0 = leads in omega arith)
top_gap c (node a m b) link x y r leads is = inl ((let e = leads.0 in omega arith), refl)

pub gap_left : (c : Nodes) (t : Tree) (link : ℕ) (x y : Bound) (p r : ℕ) (g : Gap) → LeadsTo c link t → IsGap c t x y p g
    → (c p).left ≡ r + 1 → IsGap c t x y r (g.0, left_end c p)
gap_left c leaf link x y p r g leads h is = absurd h
gap_left c (node a m b) link x y p r g leads h is = elim h [
  | inl w ↦ inr (inl (subst (λ (j : Bound). IsGap c a x (left_end c m) r (j, left_end c p)) (sym (ap (λ (j : Gap). j.0) w.1))
      (subst (λ (n : ℕ). IsGap c a x (left_end c n) r (x, left_end c p)) w.0
      (top_gap c a (c p).left x (left_end c p) r (subst (λ (n : ℕ). LeadsTo c (c n).left a) (sym w.0) leads.1) is))))
  | inr w ↦ inr (elim w [
    | inl l ↦ inl (gap_left c a (c m).left x (left_end c m) p r g leads.1 l is)
    | inr l ↦ inr (gap_left c b (c m).right (right_end c m) y p r g leads.2 l is)
  ])
]

pub gap_right : (c : Nodes) (t : Tree) (link : ℕ) (x y : Bound) (p r : ℕ) (g : Gap) → LeadsTo c link t → IsGap c t x y p g
    → (c p).right ≡ r + 1 → IsGap c t x y r (right_end c p, g.1)
gap_right c leaf link x y p r g leads h is = absurd h
gap_right c (node a m b) link x y p r g leads h is = elim h [
  | inl w ↦ inr (inr (subst (λ (j : Bound). IsGap c b (right_end c m) y r (right_end c p, j)) (sym (ap (λ (j : Gap). j.1) w.1))
      (subst (λ (n : ℕ). IsGap c b (right_end c n) y r (right_end c p, y)) w.0
      (top_gap c b (c p).right (right_end c p) y r (subst (λ (n : ℕ). LeadsTo c (c n).right b) (sym w.0) leads.2) is))))
  | inr w ↦ inr (elim w [
    | inl l ↦ inl (gap_right c a (c m).left x (left_end c m) p r g leads.1 l is)
    | inr l ↦ inr (gap_right c b (c m).right (right_end c m) y p r g leads.2 l is)
  ])
]

-- the same of gaps that were seen

pub seen_left : (c : Nodes) (t : Tree) (link : ℕ) (x y : Bound) (p r : ℕ) (g : Gap) → LeadsTo c link t → HasGap c t x y p g
    → (c p).left ≡ r + 1 → HasGap c t x y r (g.0, left_end c p)
seen_left c t link x y p r g leads h is =
    let k = has_is c t x y p g h in
    is_has c t x y r (g.0, left_end c p) (k.0.0, left_end c p) (gap_left c t link x y p r k.0 leads k.1 is)
    (k.2.0, less_same (left_end c p))

pub seen_right : (c : Nodes) (t : Tree) (link : ℕ) (x y : Bound) (p r : ℕ) (g : Gap) → LeadsTo c link t → HasGap c t x y p g
    → (c p).right ≡ r + 1 → HasGap c t x y r (right_end c p, g.1)
seen_right c t link x y p r g leads h is =
    let k = has_is c t x y p g h in
    is_has c t x y r (right_end c p, g.1) (right_end c p, k.0.1) (gap_right c t link x y p r k.0 leads k.1 is)
    (greater_same (right_end c p), k.2.1)

-- and over a forest

module _ {trees rows : ℕ} {c : Nodes} {mode : ℕ → Mode} {state : List TreeState} {f : Forest}
    (forest : IsForest trees rows c mode state f) where
  pub row_gap : (t : ℕ) (x : Tree) (q : ℕ) → t < trees → f.tree t ≡ search_tree x → 0 < times q (in_order x)
      → (g : Gap) × IsGap c x None None q g × ((k : Gap) → IsGap c x None None q k → k ≡ g)
  row_gap t x q lt is some =
      let g = gap_there c x None None q some in
      let h = total_has (λ s. times q (rows_at (f.tree s))) trees t lt in
      let e : times q (rows_at (f.tree t)) ≡ times q (in_order x) = ap (λ (y : Growth). times q (rows_at y)) is in
      let m = at_most forest q in
      (g.0, g.1, λ k i. gap_one c x None None q k g.0 (omega arith) i g.1)

  pub top_placed : (t r score : ℕ) → t < trees → mode t ≡ TreeMode score → (c t).left ≡ r + 1
      → IsPlaced trees c mode f t r (None, None) score
  top_placed t r score lt is link =
      let k = as_tree c (c t).left (f.tree t) (tree_at state t).pairs (mode t) (subst IsTree (sym is) tt) (forest.grown t lt) in
      record {
        tree = lt;
        gap = subst (λ (x : Growth). GapIn c x r (None, None)) (sym k.is)
            (is_has c k.tree None None r (None, None) (None, None) (top_gap c k.tree (c t).left None None r k.leads link) (tt, tt));
        full = λ e. is ∙ ap TreeMode e;
      }

  -- a tree with a seen gap is in Tree mode
  pub placed_tree : (t p : ℕ) (g : Gap) → t < trees → GapIn c (f.tree t) p g → IsTree (mode t)
  placed_tree t p g lt h = by_growth (f.tree t) (mode t) (forest.grown t lt) h
    where
      by_growth : (y : Growth) (m : Mode) → Represents c (c t).left y (tree_at state t).pairs m → GapIn c y p g → IsTree m
      by_growth (search_tree x) (TreeMode s) grown gap = tt
      by_growth (search_tree x) (Buffer txn count) grown gap = grown
      by_growth (chain rs) m grown gap = absurd gap

  its_tree : (t p : ℕ) (g : Gap) → t < trees → GapIn c (f.tree t) p g → TreeAt c (c t).left (f.tree t) (tree_at state t).pairs
  its_tree t p g lt h = as_tree c (c t).left (f.tree t) (tree_at state t).pairs (mode t) (placed_tree t p g lt h) (forest.grown t lt)

  pub left_placed : (t p r : ℕ) (g : Gap) (score : ℕ) → IsPlaced trees c mode f t p g score → (c p).left ≡ r + 1
      → IsPlaced trees c mode f t r (g.0, left_end c p) score
  left_placed t p r g score seen is =
      let k = its_tree t p g seen.tree seen.gap in
      record {
        tree = seen.tree;
        gap = subst (λ (x : Growth). GapIn c x r (g.0, left_end c p)) (sym k.is)
            (seen_left c k.tree (c t).left None None p r g k.leads (subst (λ (x : Growth). GapIn c x p g) k.is seen.gap) is);
        full = seen.full;
      }

  pub right_placed : (t p r : ℕ) (g : Gap) (score : ℕ) → IsPlaced trees c mode f t p g score → (c p).right ≡ r + 1
      → IsPlaced trees c mode f t r (right_end c p, g.1) score
  right_placed t p r g score seen is =
      let k = its_tree t p g seen.tree seen.gap in
      record {
        tree = seen.tree;
        gap = subst (λ (x : Growth). GapIn c x r (right_end c p, g.1)) (sym k.is)
            (seen_right c k.tree (c t).left None None p r g k.leads (subst (λ (x : Growth). GapIn c x p g) k.is seen.gap) is);
        full = seen.full;
      }
