-- Laws of search trees: their order and gaps, and a subtree put in another's place.
use Rattle.std.proofs.Common.{◌≡◌, ◌⊎◌, inl, inr, ℕ, ◌+◌, List, ◌∷◌, ◌++◌, refl, sym, ap, ◌∙◌, subst, append_assoc, append-nil}
use Rattle.std.specs.Prelude.{Some}
use Rattle.lt_ranges.specs.Interval.{IsInterval}
use Rattle.lt_forest.specs.Bounds.{Bound, Gap, IsAbove, IsBelow, NoGreater, NoLess, Within}
use Rattle.lt_forest.specs.Trees.{Node, Tree, leaf, node, Nodes, pair_of, left_end, right_end, LeadsTo, in_order, pairs_in, IsOrdered, HasGap}
use Rattle.lt_forest.specs.Paths.{Path, here, leftward, rightward, plug, front, back, lower, upper}
use Rattle.lt_forest.proofs.BoundLaws.{above_wider, below_wider, greater_trans, less_trans, greater_same, less_same}
use Rattle.lt_forest.proofs.PairLists.{map_app}

-- the rows of the tree hold the same
abbrev pub Agree : Nodes → Nodes → Tree → Type 0
Agree c d leaf = Unit {0}
Agree c d (node a r b) = (c r ≡ d r) × Agree c d a × Agree c d b

-- and so do those above the end of a path and beside it
abbrev pub AgreePath : Nodes → Nodes → Path → Type 0
AgreePath c d here = Unit {0}
AgreePath c d (leftward w r b) = (c r ≡ d r) × Agree c d b × AgreePath c d w
AgreePath c d (rightward a r w) = (c r ≡ d r) × Agree c d a × AgreePath c d w

-- the link that leads to the place
abbrev pub last_link : Nodes → Path → ℕ → ℕ
last_link c here link = link
last_link c (leftward w r b) link = last_link c w (c r).left
last_link c (rightward a r w) link = last_link c w (c r).right

-- what looser bounds and the same contents leave

pub ordered_stays : (c d : Nodes) (t : Tree) (x y u v : Bound) → Agree c d t → NoGreater u x → NoLess v y
    → IsOrdered c t x y → IsOrdered d t u v
ordered_stays c d leaf x y u v same lo hi o = tt
ordered_stays c d (node a r b) x y u v same lo hi o =
    subst (λ (n : Node). IsInterval n.range × IsAbove u n.range.left × IsBelow v n.range.right
    × IsOrdered d a u (Some n.range.left) × IsOrdered d b (Some n.range.right) v) same.0 (
      o.0,
      above_wider u x (c r).range.left lo o.1,
      below_wider v y (c r).range.right hi o.2,
      ordered_stays c d a x (left_end c r) u (left_end c r) same.1 lo (less_same (left_end c r)) o.3,
      ordered_stays c d b (right_end c r) y (right_end c r) v same.2 (greater_same (right_end c r)) hi o.4,
    )

pub gap_stays : (c d : Nodes) (t : Tree) (x y u v : Bound) (q : ℕ) (g : Gap) → Agree c d t → NoGreater u x → NoLess v y
    → HasGap c t x y q g → HasGap d t u v q g
gap_stays c d leaf x y u v q g same lo hi h = absurd h
gap_stays c d (node a r b) x y u v q g same lo hi h =
    subst (λ (n : Node). ((q ≡ r) × Within g u v)
    ⊎ (HasGap d a u (Some n.range.left) q g ⊎ HasGap d b (Some n.range.right) v q g)) same.0 (elim h [
      | inl m ↦ inl (m.0, (greater_trans u x g.0 lo m.1.0, less_trans v y g.1 hi m.1.1))
      | inr m ↦ inr (elim m [
        | inl l ↦ inl (gap_stays c d a x (left_end c r) u (left_end c r) q g same.1 lo (less_same (left_end c r)) l)
        | inr l ↦ inr (gap_stays c d b (right_end c r) y (right_end c r) v q g same.2 (greater_same (right_end c r)) hi l)
      ])
    ])

pub leads_stays : (c d : Nodes) (link : ℕ) (t : Tree) → Agree c d t → LeadsTo c link t → LeadsTo d link t
leads_stays c d link leaf same leads = leads
leads_stays c d link (node a r b) same leads =
    subst (λ (n : Node). (link ≡ r + 1) × LeadsTo d n.left a × LeadsTo d n.right b) same.0
    (leads.0, leads_stays c d (c r).left a same.1 leads.1, leads_stays c d (c r).right b same.2 leads.2)

pub pairs_stay : (c d : Nodes) (t : Tree) → Agree c d t → pairs_in c t ≡ pairs_in d t
pairs_stay c d leaf same = refl
pairs_stay c d (node a r b) same =
    map_app (pair_of c) (in_order a) (r ∷ in_order b)
    ∙ (λ i. pairs_stay c d a same.1 i ++ record { owner = (same.0 i).owner; range = (same.0 i).range } ∷ pairs_stay c d b same.2 i)
    ∙ sym (map_app (pair_of d) (in_order a) (r ∷ in_order b))

-- a row with a gap stands at the end of a path, and the gap lies within the bounds there
pub record FoundAt (c : Nodes) (t : Tree) (x y : Bound) (h : ℕ) (g : Gap) : Type 0 where
  pub path : Path
  pub left : Tree
  pub right : Tree
  pub is : t ≡ plug path (node left h right)
  pub within : Within g (lower c path x) (upper c path y)

pub found : (c : Nodes) (t : Tree) (x y : Bound) (h : ℕ) (g : Gap) → HasGap c t x y h g → FoundAt c t x y h g
found c leaf x y h g has = absurd has
found c (node a r b) x y h g has = elim has [
  | inl m ↦ record {
    path = here;
    left = a;
    right = b;
    is = ap (λ (n : ℕ). node a n b) (sym m.0);
    within = m.1;
  }
  | inr m ↦ elim m [
    | inl l ↦ let k = found c a x (left_end c r) h g l in record {
      path = leftward k.path r b;
      left = k.left;
      right = k.right;
      is = ap (λ (t : Tree). node t r b) k.is;
      within = k.within;
    }
    | inr l ↦ let k = found c b (right_end c r) y h g l in record {
      path = rightward a r k.path;
      left = k.left;
      right = k.right;
      is = ap (λ (t : Tree). node a r t) k.is;
      within = k.within;
    }
  ]
]

-- what is at the end of a path

pub inner_ordered : (c : Nodes) (w : Path) (t : Tree) (x y : Bound) → IsOrdered c (plug w t) x y
    → IsOrdered c t (lower c w x) (upper c w y)
inner_ordered c here t x y o = o
inner_ordered c (leftward w r b) t x y o = inner_ordered c w t x (left_end c r) o.3
inner_ordered c (rightward a r w) t x y o = inner_ordered c w t (right_end c r) y o.4

pub inner_leads : (c : Nodes) (w : Path) (t : Tree) (link : ℕ) → LeadsTo c link (plug w t) → LeadsTo c (last_link c w link) t
inner_leads c here t link leads = leads
inner_leads c (leftward w r b) t link leads = inner_leads c w t (c r).left leads.1
inner_leads c (rightward a r w) t link leads = inner_leads c w t (c r).right leads.2

-- and another tree in its place

pub plug_ordered : (c d : Nodes) (w : Path) (t new : Tree) (x y : Bound) → AgreePath c d w → IsOrdered c (plug w t) x y
    → IsOrdered d new (lower c w x) (upper c w y) → IsOrdered d (plug w new) x y
plug_ordered c d here t new x y same o n = n
plug_ordered c d (leftward w r b) t new x y same o n =
    subst (λ (n : Node). IsInterval n.range × IsAbove x n.range.left × IsBelow y n.range.right
    × IsOrdered d (plug w new) x (Some n.range.left) × IsOrdered d b (Some n.range.right) y) same.0 (
      o.0,
      o.1,
      o.2,
      plug_ordered c d w t new x (left_end c r) same.2 o.3 n,
      ordered_stays c d b (right_end c r) y (right_end c r) y same.1 (greater_same (right_end c r)) (less_same y) o.4,
    )
plug_ordered c d (rightward a r w) t new x y same o n =
    subst (λ (n : Node). IsInterval n.range × IsAbove x n.range.left × IsBelow y n.range.right
    × IsOrdered d a x (Some n.range.left) × IsOrdered d (plug w new) (Some n.range.right) y) same.0 (
      o.0,
      o.1,
      o.2,
      ordered_stays c d a x (left_end c r) x (left_end c r) same.1 (greater_same x) (less_same (left_end c r)) o.3,
      plug_ordered c d w t new (right_end c r) y same.2 o.4 n,
    )

pub plug_leads : (c d : Nodes) (w : Path) (t new : Tree) (link : ℕ) → AgreePath c d w → LeadsTo c link (plug w t)
    → LeadsTo d (last_link c w link) new → LeadsTo d link (plug w new)
plug_leads c d here t new link same g n = n
plug_leads c d (leftward w r b) t new link same g n =
    subst (λ (n : Node). (link ≡ r + 1) × LeadsTo d n.left (plug w new) × LeadsTo d n.right b) same.0
    (g.0, plug_leads c d w t new (c r).left same.2 g.1 n, leads_stays c d (c r).right b same.1 g.2)
plug_leads c d (rightward a r w) t new link same g n =
    subst (λ (n : Node). (link ≡ r + 1) × LeadsTo d n.left a × LeadsTo d n.right (plug w new)) same.0
    (g.0, leads_stays c d (c r).left a same.1 g.1, plug_leads c d w t new (c r).right same.2 g.2 n)

pub plug_gap : (c d : Nodes) (w : Path) (t new : Tree) (x y : Bound) (q : ℕ) (g : Gap) → AgreePath c d w
    → (HasGap c t (lower c w x) (upper c w y) q g → HasGap d new (lower c w x) (upper c w y) q g)
    → HasGap c (plug w t) x y q g → HasGap d (plug w new) x y q g
plug_gap c d here t new x y q g same stays has = stays has
plug_gap c d (leftward w r b) t new x y q g same stays has =
    subst (λ (n : Node). ((q ≡ r) × Within g x y)
    ⊎ (HasGap d (plug w new) x (Some n.range.left) q g ⊎ HasGap d b (Some n.range.right) y q g)) same.0 (elim has [
      | inl m ↦ inl m
      | inr m ↦ inr (elim m [
        | inl l ↦ inl (plug_gap c d w t new x (left_end c r) q g same.2 stays l)
        | inr l ↦ inr (gap_stays c d b (right_end c r) y (right_end c r) y q g same.1 (greater_same (right_end c r)) (less_same y) l)
      ])
    ])
plug_gap c d (rightward a r w) t new x y q g same stays has =
    subst (λ (n : Node). ((q ≡ r) × Within g x y)
    ⊎ (HasGap d a x (Some n.range.left) q g ⊎ HasGap d (plug w new) (Some n.range.right) y q g)) same.0 (elim has [
      | inl m ↦ inl m
      | inr m ↦ inr (elim m [
        | inl l ↦ inl (gap_stays c d a x (left_end c r) x (left_end c r) q g same.1 (greater_same x) (less_same (left_end c r)) l)
        | inr l ↦ inr (plug_gap c d w t new (right_end c r) y q g same.2 stays l)
      ])
    ])

pub path_gap : (c d : Nodes) (w : Path) (new : Tree) (x y : Bound) (q : ℕ) (g : Gap) → AgreePath c d w
    → HasGap d new (lower c w x) (upper c w y) q g → HasGap d (plug w new) x y q g
path_gap c d here new x y q g same has = has
path_gap c d (leftward w r b) new x y q g same has =
    inr (inl (subst (λ (n : Node). HasGap d (plug w new) x (Some n.range.left) q g) same.0
    (path_gap c d w new x (left_end c r) q g same.2 has)))
path_gap c d (rightward a r w) new x y q g same has =
    inr (inr (subst (λ (n : Node). HasGap d (plug w new) (Some n.range.right) y q g) same.0
    (path_gap c d w new (right_end c r) y q g same.2 has)))

-- the rows before the place, those at it, and those behind
pub in_order-plug : (w : Path) (t : Tree) → in_order (plug w t) ≡ front w ++ (in_order t ++ back w)
in_order-plug here t = sym (append-nil (in_order t))
in_order-plug (leftward w r b) t =
    ap (λ (l : List ℕ). l ++ r ∷ in_order b) (in_order-plug w t)
    ∙ (append_assoc (front w) (in_order t ++ back w) (r ∷ in_order b)
    ∙ ap (λ (l : List ℕ). front w ++ l) (append_assoc (in_order t) (back w) (r ∷ in_order b)))
in_order-plug (rightward a r w) t =
    ap (λ (l : List ℕ). in_order a ++ r ∷ l) (in_order-plug w t)
    ∙ sym (append_assoc (in_order a) (r ∷ front w) (in_order t ++ back w))
