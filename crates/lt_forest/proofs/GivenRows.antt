-- What names the rows that a plan gives to the pool.
use Rattle.std.proofs.Common.{◌≡◌, ◌⊎◌, inl, inr, ℕ, ◌+◌, ◌<◌, List, [], ◌∷◌, refl, sym, ap, subst, arith, ne_eqb}
use Rattle.std.specs.Prelude.{nat_eq}
use mathlib.Core.Logic.{dite}
use native.Mathlib.Decide.{ℕ_discrete}
use Rattle.lt_seq.specs.declared.event.Mode.{Mode}
use Rattle.lt_seq.specs.declared.event.Mode.TheVariants.{Buffer}
use Rattle.lt_seq.specs.Sound.{AllSound}
use Rattle.lt_seq.specs.Table.{TreeState}
use Rattle.lt_forest.specs.Counts.{one_if, times}
use Rattle.lt_forest.specs.Trees.{Nodes}
use Rattle.lt_forest.specs.Cuts.{Cut, IsRow}
use Rattle.lt_forest.specs.Forest.{Forest, IsTree, IsChain, IsForest}
use Rattle.lt_forest.specs.Plans.{Top, from_anchor, from_row, top_link, IsSeen, IsPart, Lays}
use Rattle.lt_forest.specs.Links.{Slot, left_of, right_of, row_with, link_in, IsLink}
use Rattle.lt_forest.specs.Views.{IsView, Agrees, AllHeld, TopHeld, PlanLays}
use Rattle.lt_forest.proofs.SameRows.{one_here}
use Rattle.lt_forest.proofs.FurtherRows.{chain_run}
use Rattle.lt_forest.proofs.NamedOnce.{links_apart}
use Rattle.lt_forest.proofs.NoWayBack.{part_links, run_links}
use Rattle.lt_forest.proofs.NamedInCuts.{names_in}
use Rattle.lt_forest.proofs.PlanLaws.{top_not_given}
use Rattle.lt_forest.proofs.PlansInView.{true_part, true_lays}
use Rattle.lt_forest.proofs.BuffersInView.{true_chain}

-- two links that name one row stand on one row
one_row : {trees rows : ℕ} {c : Nodes} {mode : ℕ → Mode} {state : List TreeState} {f : Forest} → IsForest trees rows c mode state f
    → (s l : Slot) (q : ℕ) → IsLink trees f s → IsLink trees f l → link_in c s ≡ q + 1 → link_in c l ≡ q + 1 → row_with l ≡ row_with s
one_row forest s l q one two is is' = dite (ℕ_discrete (row_with l) (row_with s))
    (λ e. e)
    (λ ne. absurd (links_apart forest s l q one two (λ e. ne (ap row_with (sym e))) is is'))

module _ {trees rows t : ℕ} {c d : Nodes} {mode : ℕ → Mode} {state : List TreeState} {f : Forest} {top : Top} {cut new : Cut}
    {taken given : List ℕ} (part : IsPart trees rows c mode state f t top cut) (lays : Lays trees t top c d cut new taken given)
    (q : ℕ) (l : Slot) (in_cut : IsRow q cut) (goes : 0 < times q given) (link : IsLink trees f l) (is : link_in c l ≡ q + 1) where
  part_link : (s : Slot) → IsRow (row_with s) cut → IsLink trees f s
  part_link (left_of p) some = inr (inl (t, part.tree, (part_links part p some).0))
  part_link (right_of p) some = inr (inl (t, part.tree, (part_links part p some).1))

  by_top : (at : Top) → at ≡ top → top_link at (c t) ≡ q + 1 → (top ≡ from_anchor) × (row_with l ≡ t)
  by_top from_anchor same first =
      (sym same, one_row part.forest (left_of t) l q (inl (let z = part.tree in omega arith)) link first is)
  by_top (from_row h g) same first = absurd (given_top h g same (let e : h + 1 ≡ q + 1 = first in omega arith))
    where
      given_top : (h : ℕ) (g : _) → from_row h g ≡ top → h ≡ q → ⊥
      given_top h g same e =
          let none : times h given ≡ 0 = top_not_given
          (subst (λ (x : Top). IsPart trees rows c mode state f t x cut) (sym same) part)
          (subst (λ (x : Top). Lays trees t x c d cut new taken given) (sym same) lays) in
          let n = ap (λ (m : ℕ). times m given) e in
          omega (arith, goes)

  pub given_named : IsRow (row_with l) cut ⊎ ((top ≡ from_anchor) × (row_with l ≡ t))
  given_named = elim (names_in c (top_link top (c t)) cut q part.shows in_cut) [
    | inl first ↦ inr (by_top top refl first)
    | inr n ↦ inl (subst (λ (m : ℕ). IsRow m cut) (sym (one_row part.forest n.0 l q (part_link n.0 n.1) link n.2 is)) n.1)
  ]

-- buffers

chain_named : (c : Nodes) (link : ℕ) (rows : List ℕ) (q : ℕ) → IsChain c link rows → 0 < times q rows
    → (link ≡ q + 1) ⊎ ((r : ℕ) × (0 < times r rows) × ((c r).left ≡ q + 1))
chain_named c link [] q leads some = absurd (omega (arith, some))
chain_named c link (m ∷ rows) q leads some = dite (ℕ_discrete m q)
    (λ e. inl (let n = leads.0 in omega arith))
    (λ ne.
    let z : one_if (nat_eq m q) ≡ 0 = ap one_if (ne_eqb m q ne) in
    elim (chain_named c (c m).left rows q leads.1 (omega arith)) [
      | inl e ↦ inr (m, (let o = one_here m in omega arith), e)
      | inr n ↦ inr (n.0, (let s = n.1 in omega arith), n.2)
    ])

module _ {trees rows : ℕ} {c : Nodes} {mode : ℕ → Mode} {state : List TreeState} {f : Forest}
    (forest : IsForest trees rows c mode state f) (t owner count : ℕ) (olds : List ℕ) (tree : t < trees)
    (was : mode t ≡ Buffer owner count) (leads : IsChain c (c t).left olds) where
  pub buffer_named : (q : ℕ) (l : Slot) → 0 < times q olds → IsLink trees f l → link_in c l ≡ q + 1
      → (row_with l ≡ t) ⊎ (0 < times (row_with l) olds)
  buffer_named q l some link is = elim (chain_named c (c t).left olds q leads some) [
    | inl first ↦ inl (one_row forest (left_of t) l q (inl (omega (arith, tree))) link first is)
    | inr n ↦
        let own : IsLink trees f (left_of n.0) =
        inr (inl (t, tree, run_links forest t owner count 0 n.0 olds tree was (chain_run c (c t).left olds leads) n.1)) in
        inr (subst (λ (m : ℕ). 0 < times m olds) (sym (one_row forest (left_of n.0) l q own link n.2 is)) n.1)
  ]

-- in a pass's view

pub given_held : {has : ℕ → Type 0} {planned : List ℕ} {v v' : Nodes} {trees rows t : ℕ} {c d : Nodes} {mode : ℕ → Mode}
    {state : List TreeState} {f : Forest} {top : Top} {cut new : Cut} {taken given : List ℕ}
    → IsForest trees rows c mode state f → AllSound state → t < trees → IsTree (mode t) → IsSeen c (f.tree t) top
    → IsView has planned v v' c d → PlanLays has planned trees t top v v' cut new taken given
    → (q : ℕ) (l : Slot) → IsRow q cut → 0 < times q given → IsLink trees f l → link_in c l ≡ q + 1 → has (row_with l)
given_held {has = has} {t = t} {top = top} forest sound tree tree_mode seen view plan q l in_cut goes link is =
    elim (given_named (true_part view.before plan.part forest sound tree tree_mode seen) (true_lays view plan) q l in_cut goes link is) [
      | inl own ↦ plan.part.rows (row_with l) own
      | inr at ↦ subst has (sym at.1) (subst (TopHeld has t) at.0 plan.part.top_held)
    ]

pub buffer_held : {has : ℕ → Type 0} {v c : Nodes} {trees rows : ℕ} {mode : ℕ → Mode} {state : List TreeState} {f : Forest}
    → IsForest trees rows c mode state f → Agrees has v c → (t owner count : ℕ) (olds : List ℕ) → AllHeld has (t ∷ olds) → t < trees
    → mode t ≡ Buffer owner count → IsChain v (v t).left olds
    → (q : ℕ) (l : Slot) → 0 < times q olds → IsLink trees f l → link_in c l ≡ q + 1 → has (row_with l)
buffer_held {has = has} forest agrees t owner count olds all tree was shows q l some link is =
    elim (buffer_named forest t owner count olds tree was (true_chain t olds agrees all shows) q l some link is) [
      | inl at ↦ subst has (sym at) (all t (let o = one_here t in omega arith))
      | inr own ↦ all (row_with l) (omega arith)
    ]
