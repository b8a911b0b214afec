-- What the links of a forest say: each is 0 or names a further row, no row is named by two, and none leads back.
use Rattle.std.proofs.Common.{◌≡◌, ◌≢◌, ◌⊎◌, inl, inr, ℕ, ◌+◌, ◌-◌, ◌<◌, ◌≤◌, List, [], ◌∷◌, ◌++◌, map, refl, sym, ap, ◌∙◌, subst, arith, eq-eqb, ne_eqb}
use Rattle.std.specs.Prelude.{nat_eq}
use mathlib.Core.Logic.{dite}
use native.Mathlib.Decide.{ℕ_discrete}
use Rattle.lt_seq.specs.declared.event.Mode.{Mode}
use Rattle.lt_seq.specs.declared.event.Mode.TheVariants.{Tree as TreeMode, Buffer}
use Rattle.lt_seq.specs.Table.{TreeState, tree_at}
use Rattle.lt_forest.specs.Counts.{one_if, times}
use Rattle.lt_forest.specs.Bounds.{Gap}
use Rattle.lt_forest.specs.Trees.{Tree, leaf, node, Nodes, LeadsTo, in_order}
use Rattle.lt_forest.specs.Forest.{Forest, Growth, search_tree, chain, rows_at, IsChain, Represents, stands, IsForest, IsPlaced}
use Rattle.lt_forest.specs.Links.{Slot, left_of, right_of, link_in, IsLinkOf, IsAnchorLink, IsLink}
use Rattle.lt_forest.proofs.SameRows.{times-++}
use Rattle.lt_forest.proofs.Chains.{total_has, total_two}
use Rattle.lt_forest.proofs.ForestLaws.{at_most, one_place}
use Rattle.lt_forest.proofs.GapLaws.{gap_in_stands}

-- the links below a slot, its own among them

abbrev slots_below : Slot → Tree → List Slot
slots_below s leaf = s ∷ []
slots_below s (node a r b) = s ∷ (slots_below (left_of r) a ++ slots_below (right_of r) b)

abbrev slots_along : Slot → List ℕ → List Slot
slots_along s [] = s ∷ []
slots_along s (r ∷ rows) = s ∷ slots_along (left_of r) rows

abbrev slots_at : Slot → Growth → List Slot
slots_at s (search_tree t) = slots_below s t
slots_at s (chain rows) = slots_along s rows

abbrev HasSlot : Slot → List Slot → Type 0
HasSlot s [] = ⊥
HasSlot s (x ∷ xs) = (s ≡ x) ⊎ HasSlot s xs

slot_left : (s : Slot) (xs ys : List Slot) → HasSlot s xs → HasSlot s (xs ++ ys)
slot_left s [] ys h = absurd h
slot_left s (x ∷ xs) ys h = elim h [ inl e ↦ inl e | inr k ↦ inr (slot_left s xs ys k) ]

slot_right : (s : Slot) (xs ys : List Slot) → HasSlot s ys → HasSlot s (xs ++ ys)
slot_right s [] ys h = h
slot_right s (x ∷ xs) ys h = inr (slot_right s xs ys h)

top_slot : (s : Slot) (g : Growth) → HasSlot s (slots_at s g)
top_slot s (search_tree leaf) = inl refl
top_slot s (search_tree (node a r b)) = inl refl
top_slot s (chain []) = inl refl
top_slot s (chain (r ∷ rows)) = inl refl

-- the followed links of a tree's rows are among them

left_slot : (s : Slot) (t : Tree) (r : ℕ) → 0 < times r (in_order t) → HasSlot (left_of r) (slots_below s t)
left_slot s leaf r some = absurd (omega (arith, some))
left_slot s (node a m b) r some = dite (ℕ_discrete m r)
    (λ e. inr (slot_left (left_of r) (slots_below (left_of m) a) (slots_below (right_of m) b)
    (subst (λ (n : ℕ). HasSlot (left_of n) (slots_below (left_of m) a)) e (top_slot (left_of m) (search_tree a)))))
    (λ ne. dite (ℕ_discrete (times r (in_order a)) 0)
    (λ none.
    let s = times-++ r (in_order a) (m ∷ in_order b) in
    let o : one_if (nat_eq m r) ≡ 0 = ap one_if (ne_eqb m r ne) in
    inr (slot_right (left_of r) (slots_below (left_of m) a) (slots_below (right_of m) b) (left_slot (right_of m) b r (omega arith))))
    (λ there. inr (slot_left (left_of r) (slots_below (left_of m) a) (slots_below (right_of m) b) (left_slot (left_of m) a r (omega arith)))))

right_slot : (s : Slot) (t : Tree) (r : ℕ) → 0 < times r (in_order t) → HasSlot (right_of r) (slots_below s t)
right_slot s leaf r some = absurd (omega (arith, some))
right_slot s (node a m b) r some = dite (ℕ_discrete m r)
    (λ e. inr (slot_right (right_of r) (slots_below (left_of m) a) (slots_below (right_of m) b)
    (subst (λ (n : ℕ). HasSlot (right_of n) (slots_below (right_of m) b)) e (top_slot (right_of m) (search_tree b)))))
    (λ ne. dite (ℕ_discrete (times r (in_order a)) 0)
    (λ none.
    let s = times-++ r (in_order a) (m ∷ in_order b) in
    let o : one_if (nat_eq m r) ≡ 0 = ap one_if (ne_eqb m r ne) in
    inr (slot_right (right_of r) (slots_below (left_of m) a) (slots_below (right_of m) b) (right_slot (right_of m) b r (omega arith))))
    (λ there. inr (slot_left (right_of r) (slots_below (left_of m) a) (slots_below (right_of m) b) (right_slot (left_of m) a r (omega arith)))))

chain_slot : (s : Slot) (rows : List ℕ) (r : ℕ) → 0 < times r rows → HasSlot (left_of r) (slots_along s rows)
chain_slot s [] r some = absurd (omega (arith, some))
chain_slot s (m ∷ rows) r some = dite (ℕ_discrete m r)
    (λ e. inr (subst (λ (n : ℕ). HasSlot (left_of n) (slots_along (left_of m) rows)) e (top_slot (left_of m) (chain rows))))
    (λ ne. let o : one_if (nat_eq m r) ≡ 0 = ap one_if (ne_eqb m r ne) in inr (chain_slot (left_of m) rows r (omega arith)))

link_slot : (s : Slot) (g : Growth) (l : Slot) → IsLinkOf g l → HasSlot l (slots_at s g)
link_slot s (search_tree t) (left_of r) h = left_slot s t r h
link_slot s (search_tree t) (right_of r) h = right_slot s t r h
link_slot s (chain rows) (left_of r) h = chain_slot s rows r h
link_slot s (chain rows) (right_of r) h = absurd h

-- how many of the links name a row: as many as it stands there

abbrev values : Nodes → List Slot → List ℕ
values c slots = map (link_in c) slots

values-++ : (c : Nodes) (q : ℕ) (xs ys : List Slot) → times q (values c (xs ++ ys)) ≡ times q (values c xs) + times q (values c ys)
values-++ c q [] ys = omega arith
values-++ c q (x ∷ xs) ys = let t = values-++ c q xs ys in omega arith

names_zero : (r l : ℕ) → l ≡ 0 → one_if (nat_eq l (r + 1)) ≡ 0
names_zero r l e = ap one_if (ne_eqb l (r + 1) (λ h. omega arith))

names_next : (r m l : ℕ) → l ≡ m + 1 → one_if (nat_eq l (r + 1)) ≡ one_if (nat_eq m r)
names_next r m l e = dite (ℕ_discrete m r)
    (λ same. ap one_if (eq-eqb l (r + 1) (omega arith)) ∙ sym (ap one_if (eq-eqb m r same)))
    (λ ne. ap one_if (ne_eqb l (r + 1) (λ h. ne (omega arith))) ∙ sym (ap one_if (ne_eqb m r ne)))

named_below : (c : Nodes) (s : Slot) (t : Tree) (r : ℕ) → LeadsTo c (link_in c s) t
    → times (r + 1) (values c (slots_below s t)) ≡ times r (in_order t)
named_below c s leaf r leads = let z = names_zero r (link_in c s) leads in omega arith
named_below c s (node a m b) r leads =
    let n = names_next r m (link_in c s) leads.0 in
    let x = named_below c (left_of m) a r leads.1 in
    let y = named_below c (right_of m) b r leads.2 in
    let v = values-++ c (r + 1) (slots_below (left_of m) a) (slots_below (right_of m) b) in
    let w = times-++ r (in_order a) (m ∷ in_order b) in
    omega arith

named_along : (c : Nodes) (s : Slot) (rows : List ℕ) (r : ℕ) → IsChain c (link_in c s) rows
    → times (r + 1) (values c (slots_along s rows)) ≡ times r rows
named_along c s [] r leads = let z = names_zero r (link_in c s) leads in omega arith
named_along c s (m ∷ rows) r leads =
    let n = names_next r m (link_in c s) leads.0 in
    let x = named_along c (left_of m) rows r leads.1 in
    omega arith

pub named_once : (c : Nodes) (q : ℕ) (s : Slot) (xs : List Slot) → HasSlot s xs → link_in c s ≡ q → 1 ≤ times q (values c xs)
named_once c q s [] h is = absurd h
named_once c q s (x ∷ xs) h is = elim h [
  | inl e ↦ let o : one_if (nat_eq (link_in c x) q) ≡ 1 = ap one_if (eq-eqb (link_in c x) q (ap (link_in c) (sym e) ∙ is)) in omega arith
  | inr k ↦ let i = named_once c q s xs k is in omega arith
]

named_twice : (c : Nodes) (q : ℕ) (s l : Slot) (xs : List Slot) → s ≢ l → HasSlot s xs → HasSlot l xs
    → link_in c s ≡ q → link_in c l ≡ q → 2 ≤ times q (values c xs)
named_twice c q s l [] ne h k is js = absurd h
named_twice c q s l (x ∷ xs) ne h k is js = elim h [
  | inl e ↦
      let o : one_if (nat_eq (link_in c x) q) ≡ 1 = ap one_if (eq-eqb (link_in c x) q (ap (link_in c) (sym e) ∙ is)) in
      elim k [
        | inl e' ↦ absurd (ne (e ∙ sym e'))
        | inr k' ↦ let i = named_once c q l xs k' js in omega arith
      ]
  | inr h' ↦ elim k [
    | inl e' ↦
        let o : one_if (nat_eq (link_in c x) q) ≡ 1 = ap one_if (eq-eqb (link_in c x) q (ap (link_in c) (sym e') ∙ js)) in
        let i = named_once c q s xs h' is in
        omega arith
    | inr k' ↦ let i = named_twice c q s l xs ne h' k' is js in omega arith
  ]
]

-- over a forest

abbrev InTree : ℕ → Forest → Slot → Type 0
InTree trees f s = (t : ℕ) × (t < trees) × HasSlot s (slots_at (left_of t) (f.tree t))

abbrev InPool : ℕ → Forest → Slot → Type 0
InPool trees f s = HasSlot s (slots_along (left_of trees) f.pool)

place_of : (trees : ℕ) (f : Forest) (s : Slot) → IsLink trees f s → InTree trees f s ⊎ InPool trees f s
place_of trees f s h = elim h [
  | inl k ↦ anchor s k
  | inr k ↦ elim k [
    | inl m ↦ inl (m.0, m.1, link_slot (left_of m.0) (f.tree m.0) s m.2)
    | inr m ↦ inr (link_slot (left_of trees) (chain f.pool) s m)
  ]
]
  where
    anchor : (s : Slot) → IsAnchorLink trees s → InTree trees f s ⊎ InPool trees f s
    anchor (right_of r) k = absurd k
    anchor (left_of r) k = dite (ℕ_discrete r trees)
        (λ e. inr (subst (λ (n : ℕ). HasSlot (left_of n) (slots_along (left_of trees) f.pool)) (sym e) (top_slot (left_of trees) (chain f.pool))))
        (λ ne. inl (r, omega arith, top_slot (left_of r) (f.tree r)))

module _ {trees rows : ℕ} {c : Nodes} {mode : ℕ → Mode} {state : List TreeState} {f : Forest}
    (forest : IsForest trees rows c mode state f) where
  named_in_tree : (t r : ℕ) → t < trees → times (r + 1) (values c (slots_at (left_of t) (f.tree t))) ≡ times r (rows_at (f.tree t))
  named_in_tree t r lt = by_growth (f.tree t) (mode t) (forest.grown t lt)
    where
      by_growth : (g : Growth) (m : Mode) → Represents c (c t).left g (tree_at state t).pairs m
          → times (r + 1) (values c (slots_at (left_of t) g)) ≡ times r (rows_at g)
      by_growth (search_tree x) (TreeMode score) grown = named_below c (left_of t) x r grown.0
      by_growth (search_tree x) (Buffer txn count) grown = absurd grown
      by_growth (chain rs) (TreeMode score) grown = absurd grown
      by_growth (chain rs) (Buffer txn count) grown = named_along c (left_of t) rs r grown.0

  named_in_pool : (r : ℕ) → times (r + 1) (values c (slots_along (left_of trees) f.pool)) ≡ times r f.pool
  named_in_pool r = named_along c (left_of trees) f.pool r forest.vacant

  -- a link that names a row shows that it stands in the forest
  pub link_stands : (s : Slot) (r : ℕ) → IsLink trees f s → link_in c s ≡ r + 1 → 0 < stands trees f r
  link_stands s r link is = elim (place_of trees f s link) [
    | inl k ↦
        let o = named_once c (r + 1) s (slots_at (left_of k.0) (f.tree k.0)) k.2 is in
        let e = named_in_tree k.0 r k.1 in
        let h = total_has (λ t. times r (rows_at (f.tree t))) trees k.0 k.1 in
        omega arith
    | inr k ↦
        let o = named_once c (r + 1) s (slots_along (left_of trees) f.pool) k is in
        let e = named_in_pool r in
        omega arith
  ]

  -- each link is 0 or names a further row
  pub link_names : (s : Slot) → IsLink trees f s
      → (link_in c s ≡ 0) ⊎ ((r : ℕ) × (link_in c s ≡ r + 1) × (trees < r) × (r < rows))
  link_names s link = dite (ℕ_discrete (link_in c s) 0)
      (λ e. inl e)
      (λ ne.
      let r : ℕ = link_in c s - 1 in
      let is : link_in c s ≡ link_in c s - 1 + 1 = omega arith in
      let o = forest.further (link_in c s - 1) (link_stands s (link_in c s - 1) link is) in
      inr (link_in c s - 1, is, o.0, o.1))

  -- no row is named by two of them
  pub links_apart : (s l : Slot) (r : ℕ) → IsLink trees f s → IsLink trees f l → s ≢ l
      → link_in c s ≡ r + 1 → link_in c l ≡ r + 1 → ⊥
  links_apart s l r one two ne is js =
      let m = at_most forest r in
      elim (place_of trees f s one) [
        | inl h ↦ elim (place_of trees f l two) [
          | inl k ↦ dite (ℕ_discrete h.0 k.0)
              (λ e.
              let there : HasSlot s (slots_at (left_of k.0) (f.tree k.0)) = subst (λ (t : ℕ). HasSlot s (slots_at (left_of t) (f.tree t))) e h.2 in
              let o = named_twice c (r + 1) s l (slots_at (left_of k.0) (f.tree k.0)) ne there k.2 is js in
              let e = named_in_tree k.0 r k.1 in
              let z = total_has (λ t. times r (rows_at (f.tree t))) trees k.0 k.1 in
              omega arith)
              (λ differ.
              let o = named_once c (r + 1) s (slots_at (left_of h.0) (f.tree h.0)) h.2 is in
              let p = named_once c (r + 1) l (slots_at (left_of k.0) (f.tree k.0)) k.2 js in
              let e = named_in_tree h.0 r h.1 in
              let e' = named_in_tree k.0 r k.1 in
              let z = total_two (λ t. times r (rows_at (f.tree t))) trees h.0 k.0 differ h.1 k.1 in
              omega arith)
          | inr k ↦
              let o = named_once c (r + 1) s (slots_at (left_of h.0) (f.tree h.0)) h.2 is in
              let p = named_once c (r + 1) l (slots_along (left_of trees) f.pool) k js in
              let e = named_in_tree h.0 r h.1 in
              let e' = named_in_pool r in
              let z = total_has (λ t. times r (rows_at (f.tree t))) trees h.0 h.1 in
              omega arith
        ]
        | inr h ↦ elim (place_of trees f l two) [
          | inl k ↦
              let o = named_once c (r + 1) s (slots_along (left_of trees) f.pool) h is in
              let p = named_once c (r + 1) l (slots_at (left_of k.0) (f.tree k.0)) k.2 js in
              let e = named_in_tree k.0 r k.1 in
              let e' = named_in_pool r in
              let z = total_has (λ t. times r (rows_at (f.tree t))) trees k.0 k.1 in
              omega arith
          | inr k ↦
              let o = named_twice c (r + 1) s l (slots_along (left_of trees) f.pool) ne h k is js in
              let e' = named_in_pool r in
              omega arith
        ]
      ]

  -- the pool's anchor names no row that has a gap
  pub pool_apart : (t q : ℕ) (g : Gap) (score : ℕ) → IsPlaced trees c mode f t q g score → (c trees).left ≡ q + 1 → ⊥
  pool_apart t q g score seen is =
      let o = named_once c (q + 1) (left_of trees) (slots_along (left_of trees) f.pool) (top_slot (left_of trees) (chain f.pool)) is in
      let e = named_in_pool q in
      let p = one_place forest t seen.tree q in
      let h = gap_in_stands c (f.tree t) q g seen.gap in
      omega arith
