-- What a forest tells of its table: how many rows are in use, and what whole trees and chains show.
use Rattle.std.proofs.Common.{◌≡◌, ℕ, zero, suc, ◌+◌, ◌<◌, List, [], ◌∷◌, length, get_or, refl, sym, ap, ◌∙◌, subst, arith}
use Rattle.std.specs.Prelude.{sum_by, None}
use Rattle.std.proofs.lemmas.List.Sums.{sum_by-cons}
use Rattle.lt_ranges.specs.Interval.{whole}
use Rattle.lt_seq.specs.declared.event.Pair.{Pair}
use Rattle.lt_seq.specs.declared.event.Mode.{Mode}
use Rattle.lt_seq.specs.declared.event.Mode.TheVariants.{Tree as TreeMode, Buffer}
use Rattle.lt_seq.specs.Pairs.{IsLawful}
use Rattle.lt_seq.specs.Sound.{AllSound}
use Rattle.lt_seq.specs.Table.{TreeState, fresh, tree_at, rows_in, used}
use Rattle.lt_forest.specs.Counts.{total}
use Rattle.lt_forest.specs.Trees.{Tree, leaf, node, Nodes, pair_of, LeadsTo, in_order, pairs_in, IsOrdered}
use Rattle.lt_forest.specs.Cuts.{Cut, bare}
use Rattle.lt_forest.specs.Forest.{Forest, Growth, search_tree, chain, rows_at, IsTree, IsChain, AllOf, folded, Represents, IsForest}
use Rattle.lt_forest.specs.Plans.{from_anchor, IsPart, IsClosedFor}
use Rattle.lt_forest.proofs.BoundLaws.{over_whole}
use Rattle.lt_forest.proofs.PairLists.{one_list}
use Rattle.lt_forest.proofs.LawfulTrees.{lawful_ordered}
use Rattle.lt_forest.proofs.Chains.{total_same, chain_one}
use Rattle.lt_forest.proofs.ForestLaws.{as_tree, as_chain}
use Rattle.lt_forest.proofs.PartLaws.{map_long, part_lawful, part_has, part_has_all}

total_front : (f : ℕ → ℕ) (n : ℕ) → total f (suc n) ≡ f 0 + total (λ i. f (suc i)) n
total_front f zero = omega arith
total_front f (suc n) = let r = total_front f n in omega arith

sum_total : (rows : TreeState → ℕ) (state : List TreeState)
    → sum_by rows state ≡ total (λ i. rows (get_or state i fresh)) (length state)
sum_total rows [] = refl
sum_total rows (s ∷ state) =
    let z : sum_by rows (s ∷ state) ≡ rows s + sum_by rows state = sum_by-cons rows s state in
    let a = total_front (λ i. rows (get_or (s ∷ state) i fresh)) (length state) in
    let b = sum_total rows state in
    omega arith

-- a tree has as many rows in use as stand below its anchor
grown_rows : (c : Nodes) (link : ℕ) (g : Growth) (pairs : List Pair) (mode : Mode) → Represents c link g pairs mode
    → rows_in pairs mode ≡ length (rows_at g)
grown_rows c link (search_tree t) pairs (TreeMode s) h =
    ap (λ (l : List Pair). length l) (sym h.1) ∙ map_long (pair_of c) (in_order t)
grown_rows c link (search_tree t) pairs (Buffer txn count) h = absurd h
grown_rows c link (chain rows) pairs (TreeMode s) h = absurd h
grown_rows c link (chain rows) pairs (Buffer txn count) h = h.3

module _ {trees rows : ℕ} {c : Nodes} {mode : ℕ → Mode} {state : List TreeState} {f : Forest}
    (forest : IsForest trees rows c mode state f) where
  -- used rows, vacant ones and anchors are all the rows
  pub rows_add_up : used state + length f.pool + trees + 1 ≡ rows
  rows_add_up =
      let shown : ℕ → ℕ = λ t. rows_in (tree_at state t).pairs (tree_at state t).mode in
      let stand : ℕ → ℕ = λ t. length (rows_at (f.tree t)) in
      let a : used state ≡ total shown (length state) = sum_total (λ t. rows_in t.pairs t.mode) state in
      let b : total shown trees ≡ total stand trees = total_same shown stand trees (λ t lt.
      ap (rows_in (tree_at state t).pairs) (sym (forest.modes t lt))
      ∙ grown_rows c (c t).left (f.tree t) (tree_at state t).pairs (mode t) (forest.grown t lt)) in
      let e : total shown (length state) ≡ total shown trees = ap (total shown) forest.size in
      let m = forest.many in
      omega arith

  first_of : (link : ℕ) (pool : List ℕ) → IsChain c link pool → 0 < length pool → (q : ℕ) × (link ≡ q + 1)
  first_of link [] leads some = absurd (omega (arith, some))
  first_of link (q ∷ pool) leads some = (q, leads.0)

  -- so where not all are in use, the pool's anchor leads to a row
  pub vacant_there : used state + trees + 1 < rows → (q : ℕ) × ((c trees).left ≡ q + 1)
  vacant_there room = let a = rows_add_up in first_of (c trees).left f.pool forest.vacant (omega arith)

  -- a tree without a top row has no pairs
  pub no_pairs : (t : ℕ) → t < trees → IsTree (mode t) → (c t).left ≡ 0 → (tree_at state t).pairs ≡ []
  no_pairs t lt tree_mode none =
      let k = as_tree c (c t).left (f.tree t) (tree_at state t).pairs (mode t) tree_mode (forest.grown t lt) in
      sym k.pairs_are ∙ empty k.tree k.leads
    where
      empty : (x : Tree) → LeadsTo c (c t).left x → pairs_in c x ≡ []
      empty leaf leads = refl
      empty (node a r b) leads = absurd (let e = leads.0 in omega arith)

  -- a search tree is in order
  pub in_order_tree : AllSound state → (t : ℕ) (x : Tree) → t < trees → f.tree t ≡ search_tree x → IsOrdered c x None None
  in_order_tree sound t x lt is =
      by_mode (mode t) (subst (λ (g : Growth). Represents c (c t).left g (tree_at state t).pairs (mode t)) is (forest.grown t lt))
    where
      by_mode : (m : Mode) → Represents c (c t).left (search_tree x) (tree_at state t).pairs m → IsOrdered c x None None
      by_mode (TreeMode score) grown =
          lawful_ordered c x None None (subst IsLawful (sym grown.1) (sound t).lawful) (λ p h. (tt, tt))
      by_mode (Buffer txn count) grown = absurd grown

  -- a chain that is held whole shows its buffer
  pub chain_shows : (t owner count : ℕ) (rs : List ℕ) → t < trees → mode t ≡ Buffer owner count → IsChain c (c t).left rs
      → (folded owner c rs ≡ (tree_at state t).pairs) × AllOf owner c rs × (count ≡ length rs)
  chain_shows t owner count rs lt is leads =
      let k = as_chain c (c t).left (f.tree t) (tree_at state t).pairs (mode t) owner count is (forest.grown t lt) in
      let same : k.rows ≡ rs = chain_one c (c t).left k.rows rs k.leads leads in (
        subst (λ (l : List ℕ). folded owner c l ≡ (tree_at state t).pairs) same k.pairs_are,
        subst (λ (l : List ℕ). AllOf owner c l) same k.owned,
        k.count_is ∙ ap (λ (l : List ℕ). length l) same,
      )

-- so the rows in use change as the pool does
pub used_moves : {trees rows : ℕ} {c d : Nodes} {mode mode' : ℕ → Mode} {state after : List TreeState} {f next : Forest}
    (gone come : ℕ) → IsForest trees rows c mode state f → IsForest trees rows d mode' after next
    → length next.pool + come ≡ length f.pool + gone → used after + gone ≡ used state + come
used_moves gone come forest forest' pools = let a = rows_add_up forest in let b = rows_add_up forest' in omega (arith, pools)

-- the part below the anchor that is closed for the whole range shows all the tree's pairs
pub whole_shows : {trees rows t : ℕ} {c : Nodes} {mode : ℕ → Mode} {state : List TreeState} {f : Forest} {cut : Cut}
    → IsPart trees rows c mode state f t from_anchor cut → IsClosedFor whole from_anchor c cut
    → pairs_in c (bare cut) ≡ (tree_at state t).pairs
whole_shows {t = t} {c = c} {state = state} {cut = cut} part closed =
    one_list (pairs_in c (bare cut)) (tree_at state t).pairs (part_lawful part) (part.sound t).lawful
    (λ p h. part_has part p h)
    (λ p h. part_has_all part closed p h (over_whole p.range))
