-- No row of a forest leads back to itself, and whose links are followed.
use Rattle.std.proofs.Common.{◌≡◌, ℕ, ◌+◌, ◌<◌, ◌≤◌, List, [], ◌∷◌, ◌++◌, refl, sym, ap, ◌∙◌, subst, arith, ne_eqb}
use Rattle.std.specs.Prelude.{nat_eq, None}
use mathlib.Core.Logic.{dite}
use native.Mathlib.Decide.{ℕ_discrete}
use Rattle.lt_seq.specs.declared.event.Mode.{Mode}
use Rattle.lt_seq.specs.declared.event.Mode.TheVariants.{Tree as TreeMode, Buffer}
use Rattle.lt_seq.specs.Table.{TreeState, tree_at}
use Rattle.lt_forest.specs.Counts.{one_if, times}
use Rattle.lt_forest.specs.Bounds.{Gap}
use Rattle.lt_forest.specs.Trees.{Tree, leaf, node, Nodes, LeadsTo, in_order, HasGap}
use Rattle.lt_forest.specs.Paths.{front, back}
use Rattle.lt_forest.specs.Cuts.{Cut, bare}
use Rattle.lt_forest.specs.Forest.{Forest, Growth, search_tree, chain, rows_at, IsChain, IsRun, Represents, IsForest, GapIn, IsPlaced}
use Rattle.lt_forest.specs.Plans.{Top, IsPart}
use Rattle.lt_forest.specs.Links.{Slot, left_of, right_of, row_with, link_in, IsLinkOf, Leads, by_link, and_on}
use Rattle.lt_forest.proofs.BoundLaws.{greater_same, less_same}
use Rattle.lt_forest.proofs.TreeLaws.{last_link, found, inner_leads, in_order-plug}
use Rattle.lt_forest.proofs.SameRows.{times-++, one_here, one_equal}
use Rattle.lt_forest.proofs.Chains.{cut_chain}
use Rattle.lt_forest.proofs.ForestLaws.{at_most, one_place, as_chain}
use Rattle.lt_forest.proofs.PartLaws.{known, part_stands}
use Rattle.lt_forest.proofs.GapLaws.{gap_there, is_has, has_stands}

-- search trees

-- the link names the top row of its tree
names_top : (c : Nodes) (link : ℕ) (t : Tree) (r : ℕ) → LeadsTo c link t → link ≡ r + 1 → 0 < times r (in_order t)
names_top c link leaf r leads is = absurd (let z : link ≡ 0 = leads in omega arith)
names_top c link (node a m b) r leads is =
    let o = one_equal r m (let e = leads.0 in omega arith) in
    let s = times-++ r (in_order a) (m ∷ in_order b) in
    omega arith

-- a row of a tree leads to rows of that tree
row_names : (c : Nodes) (link : ℕ) (t : Tree) (m r : ℕ) (s : Slot) → LeadsTo c link t → 0 < times m (in_order t) → row_with s ≡ m
    → link_in c s ≡ r + 1 → 0 < times r (in_order t)
row_names c link leaf m r s leads some with_row is = absurd (omega (arith, some))
row_names c link (node a n b) m r s leads some with_row is =
    let w = times-++ r (in_order a) (n ∷ in_order b) in
    let u = times-++ m (in_order a) (n ∷ in_order b) in
    dite (ℕ_discrete n m)
    (λ e. own s (with_row ∙ sym e) is)
    (λ ne. dite (ℕ_discrete (times m (in_order a)) 0)
    (λ none.
    let o : one_if (nat_eq n m) ≡ 0 = ap one_if (ne_eqb n m ne) in
    let i = row_names c (c n).right b m r s leads.2 (omega arith) with_row is in
    omega arith)
    (λ there. let i = row_names c (c n).left a m r s leads.1 (omega arith) with_row is in omega arith))
  where
    own : (s : Slot) → row_with s ≡ n → link_in c s ≡ r + 1 → 0 < times r (in_order (node a n b))
    own (left_of q) e is =
        let w = times-++ r (in_order a) (n ∷ in_order b) in
        let i = names_top c (c n).left a r leads.1 (ap (λ (k : ℕ). (c k).left) (sym e) ∙ is) in
        omega arith
    own (right_of q) e is =
        let w = times-++ r (in_order a) (n ∷ in_order b) in
        let i = names_top c (c n).right b r leads.2 (ap (λ (k : ℕ). (c k).right) (sym e) ∙ is) in
        omega arith

-- what a row leads to stands below it
leads_below : (c : Nodes) (P : Slot → Type 0) (a b : Tree) (q r : ℕ) → LeadsTo c (c q).left a → LeadsTo c (c q).right b → Leads c P q r
    → 0 < times r (in_order a) + times r (in_order b)
leads_below c P a b q r low high (by_link s x p is) = first s low high is
  where
    first : (s : Slot) → LeadsTo c (c (row_with s)).left a → LeadsTo c (c (row_with s)).right b → link_in c s ≡ r + 1
        → 0 < times r (in_order a) + times r (in_order b)
    first (left_of m) low high is = let i = names_top c (c m).left a r low is in omega arith
    first (right_of m) low high is = let i = names_top c (c m).right b r high is in omega arith
leads_below c P a b q r low high (and_on s x before p is) =
    let i = leads_below c P a b q (row_with s) low high before in
    dite (ℕ_discrete (times (row_with s) (in_order a)) 0)
    (λ none. let j = row_names c (c q).right b (row_with s) r s high (omega arith) refl is in omega arith)
    (λ there. let j = row_names c (c q).left a (row_with s) r s low (omega arith) refl is in omega arith)

-- the row from which a way begins has a link of its own there
leads_from : (c : Nodes) (P : Slot → Type 0) (q r : ℕ) → Leads c P q r → (s : Slot) × (row_with s ≡ q) × P s
leads_from c P q r (by_link s x p is) = (s, refl, p)
leads_from c P q r (and_on s x before p is) = leads_from c P q (row_with s) before

row_stands : (g : Growth) (s : Slot) → IsLinkOf g s → 0 < times (row_with s) (rows_at g)
row_stands (search_tree t) (left_of r) h = h
row_stands (search_tree t) (right_of r) h = h
row_stands (chain rows) (left_of r) h = h
row_stands (chain rows) (right_of r) h = absurd h

tree_apart : (c : Nodes) (link : ℕ) (t : Tree) (q : ℕ) → LeadsTo c link t → times q (in_order t) ≤ 1
    → Leads c (IsLinkOf (search_tree t)) q q → ⊥
tree_apart c link t q leads one way =
    let from = leads_from c (IsLinkOf (search_tree t)) q q way in
    let there : 0 < times q (in_order t) =
    subst (λ (n : ℕ). 0 < times n (in_order t)) from.1 (row_stands (search_tree t) from.0 from.2) in
    let gap = gap_there c t None None q there in
    let has : HasGap c t None None q gap.0 = is_has c t None None q gap.0 gap.0 gap.1 (greater_same gap.0.0, less_same gap.0.1) in
    let at = found c t None None q gap.0 has in
    let inner : LeadsTo c (last_link c at.path link) (node at.left q at.right) =
    inner_leads c at.path (node at.left q at.right) link (subst (LeadsTo c link) at.is leads) in
    let below = leads_below c (IsLinkOf (search_tree t)) at.left at.right q q inner.1 inner.2 way in
    let e = ap (λ (x : Tree). times q (in_order x)) at.is in
    let e1 = ap (times q) (in_order-plug at.path (node at.left q at.right)) in
    let e2 = times-++ q (front at.path) (in_order (node at.left q at.right) ++ back at.path) in
    let e3 = times-++ q (in_order (node at.left q at.right)) (back at.path) in
    let e4 = times-++ q (in_order at.left) (q ∷ in_order at.right) in
    let o = one_here q in
    omega arith

-- chains

-- a chain from one of its rows on
record ChainFrom (c : Nodes) (rows : List ℕ) (q : ℕ) : Type 0 where
  pub ahead : List ℕ
  pub behind : List ℕ
  pub is : rows ≡ ahead ++ q ∷ behind
  pub on : IsChain c (c q).left behind

chain_from : (c : Nodes) (link : ℕ) (rows : List ℕ) (q : ℕ) → IsChain c link rows → 0 < times q rows → ChainFrom c rows q
chain_from c link [] q leads some = absurd (omega (arith, some))
chain_from c link (r ∷ rows) q leads some = dite (ℕ_discrete r q)
    (λ e. record {
      ahead = [];
      behind = rows;
      is = ap (λ (n : ℕ). n ∷ rows) e;
      on = subst (λ (n : ℕ). IsChain c (c n).left rows) e leads.1;
    })
    (λ ne.
    let o : one_if (nat_eq r q) ≡ 0 = ap one_if (ne_eqb r q ne) in
    let k = chain_from c (c r).left rows q leads.1 (omega arith) in
    record { ahead = r ∷ k.ahead; behind = k.behind; is = ap (λ (l : List ℕ). r ∷ l) k.is; on = k.on })

names_first : (c : Nodes) (link : ℕ) (rows : List ℕ) (r : ℕ) → IsChain c link rows → link ≡ r + 1 → 0 < times r rows
names_first c link [] r leads is = absurd (let z : link ≡ 0 = leads in omega arith)
names_first c link (m ∷ rows) r leads is = let o = one_equal r m (let e = leads.0 in omega arith) in omega arith

next_names : (c : Nodes) (link : ℕ) (rows : List ℕ) (m r : ℕ) → IsChain c link rows → 0 < times m rows → (c m).left ≡ r + 1
    → 0 < times r rows
next_names c link rows m r leads some is =
    let k = chain_from c link rows m leads some in
    let i = names_first c (c m).left k.behind r k.on is in
    let e = ap (times r) k.is in
    let s = times-++ r k.ahead (m ∷ k.behind) in
    omega arith

leads_behind : (c : Nodes) (rows behind : List ℕ) (q r : ℕ) → IsChain c (c q).left behind → Leads c (IsLinkOf (chain rows)) q r
    → 0 < times r behind
leads_behind c rows behind q r on (by_link s x p is) = first s on p is
  where
    first : (s : Slot) → IsChain c (c (row_with s)).left behind → IsLinkOf (chain rows) s → link_in c s ≡ r + 1 → 0 < times r behind
    first (left_of m) on p is = names_first c (c m).left behind r on is
    first (right_of m) on p is = absurd p
leads_behind c rows behind q r on (and_on s x before p is) = further s (leads_behind c rows behind q (row_with s) on before) p is
  where
    further : (s : Slot) → 0 < times (row_with s) behind → IsLinkOf (chain rows) s → link_in c s ≡ r + 1 → 0 < times r behind
    further (left_of m) there p is = next_names c (c q).left behind m r on there is
    further (right_of m) there p is = absurd p

chain_apart : (c : Nodes) (link : ℕ) (rows : List ℕ) (q : ℕ) → IsChain c link rows → times q rows ≤ 1
    → Leads c (IsLinkOf (chain rows)) q q → ⊥
chain_apart c link rows q leads one way =
    let from = leads_from c (IsLinkOf (chain rows)) q q way in
    let there : 0 < times q rows = subst (λ (n : ℕ). 0 < times n rows) from.1 (row_stands (chain rows) from.0 from.2) in
    let k = chain_from c link rows q leads there in
    let i = leads_behind c rows k.behind q q k.on way in
    let e = ap (times q) k.is in
    let s = times-++ q k.ahead (q ∷ k.behind) in
    let o = one_here q in
    omega arith

-- over a forest

module _ {trees rows : ℕ} {c : Nodes} {mode : ℕ → Mode} {state : List TreeState} {f : Forest}
    (forest : IsForest trees rows c mode state f) where
  -- no row of a tree leads back to itself, and none of the pool
  pub none_back : (t q : ℕ) → t < trees → Leads c (IsLinkOf (f.tree t)) q q → ⊥
  none_back t q lt way = by_growth (f.tree t) (mode t) (forest.grown t lt) (let m = one_place forest t lt q in omega arith) way
    where
      by_growth : (g : Growth) (m : Mode) → Represents c (c t).left g (tree_at state t).pairs m → times q (rows_at g) ≤ 1
          → Leads c (IsLinkOf g) q q → ⊥
      by_growth (search_tree x) (TreeMode score) grown one way = tree_apart c (c t).left x q grown.0 one way
      by_growth (search_tree x) (Buffer txn count) grown one way = absurd grown
      by_growth (chain rs) (TreeMode score) grown one way = absurd grown
      by_growth (chain rs) (Buffer txn count) grown one way = chain_apart c (c t).left rs q grown.0 one way

  pub pool_none_back : (q : ℕ) → Leads c (IsLinkOf (chain f.pool)) q q → ⊥
  pool_none_back q way = chain_apart c (c trees).left f.pool q forest.vacant (let m = at_most forest q in omega arith) way

  -- both links of a row with a gap are followed
  pub placed_links : (t q : ℕ) (g : Gap) (score : ℕ) → IsPlaced trees c mode f t q g score
      → IsLinkOf (f.tree t) (left_of q) × IsLinkOf (f.tree t) (right_of q)
  placed_links t q g score seen = by_growth (f.tree t) seen.gap
    where
      by_growth : (x : Growth) → GapIn c x q g → IsLinkOf x (left_of q) × IsLinkOf x (right_of q)
      by_growth (search_tree x) h = let s = has_stands c x None None q g h in (s, s)
      by_growth (chain rs) h = absurd h

  -- and so is the link of a row to which an anchor leads in Buffer mode, or the pool's
  pub run_links : (t owner count last q : ℕ) (run : List ℕ) → t < trees → mode t ≡ Buffer owner count → IsRun c (c t).left run last
      → 0 < times q run → IsLinkOf (f.tree t) (left_of q)
  run_links t owner count last q run lt is runs some =
      let k = as_chain c (c t).left (f.tree t) (tree_at state t).pairs (mode t) owner count is (forest.grown t lt) in
      let b = cut_chain c (c t).left run k.rows last k.leads runs in
      let e = ap (times q) b.is in
      let s = times-++ q run b.rest in
      let there : 0 < times q k.rows = omega arith in
      subst (λ (g : Growth). IsLinkOf g (left_of q)) (sym k.is) there

  pub pool_links : (last q : ℕ) (run : List ℕ) → IsRun c (c trees).left run last → 0 < times q run
      → IsLinkOf (chain f.pool) (left_of q)
  pool_links last q run runs some =
      let b = cut_chain c (c trees).left run f.pool last forest.vacant runs in
      let e = ap (times q) b.is in
      let s = times-++ q run b.rest in
      omega arith

-- and those of each row of a part
pub part_links : {trees rows t : ℕ} {c : Nodes} {mode : ℕ → Mode} {state : List TreeState} {f : Forest} {top : Top} {cut : Cut}
    → IsPart trees rows c mode state f t top cut → (q : ℕ) → 0 < times q (in_order (bare cut))
    → IsLinkOf (f.tree t) (left_of q) × IsLinkOf (f.tree t) (right_of q)
part_links {t = t} {f = f} part q some =
    let there : 0 < times q (in_order (known part).tree) =
    subst (λ (g : Growth). 0 < times q (rows_at g)) (known part).is (part_stands part q some) in
    subst (λ (g : Growth). IsLinkOf g (left_of q) × IsLinkOf g (right_of q)) (sym (known part).is) (there, there)
