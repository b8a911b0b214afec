-- A forest in which the growth below one anchor is replaced: the other trees and the rest of the pool stay.
use Rattle.std.proofs.Common.{◌≡◌, ◌≢◌, ℕ, ◌+◌, ◌<◌, ◌≤◌, List, ◌∷◌, length, length-set, Bool, set, refl, sym, ap, ◌∙◌, subst, arith, eq-eqb, ne_eqb, get_or-set_same, get_or-set_other}
use Rattle.std.specs.Prelude.{None, nat_eq, if◌then◌else◌}
use mathlib.Core.Logic.{dite}
use native.Mathlib.Decide.{ℕ_discrete}
use Rattle.lt_seq.specs.declared.event.Pair.{Pair}
use Rattle.lt_seq.specs.declared.event.Mode.{Mode}
use Rattle.lt_seq.specs.declared.event.Mode.TheVariants.{Tree as TreeMode, Buffer}
use Rattle.lt_seq.specs.Table.{TreeState, fresh, tree_at}
use Rattle.lt_forest.specs.Counts.{one_if, times, total}
use Rattle.lt_forest.specs.Bounds.{Gap}
use Rattle.lt_forest.specs.Trees.{Node, Tree, Nodes, LeadsTo, pairs_in}
use Rattle.lt_forest.specs.Forest.{Forest, Growth, search_tree, chain, rows_at, IsTree, IsChain, AllOf, folded, Represents, stands, IsForest, GapIn, IsPlaced, ChangesOnly, KeepsModes}
use Rattle.lt_forest.proofs.TreeLaws.{gap_stays, leads_stays, pairs_stay}
use Rattle.lt_forest.proofs.SameRows.{AgreeOn, on_tree}
use Rattle.lt_forest.proofs.Chains.{total_has, total_two, total_change, on_chain, on_owner, on_folded}

-- the forest with another growth below one anchor
abbrev pub put : (ℕ → Growth) → ℕ → Growth → ℕ → Growth
put tree t new s = if nat_eq s t then new else tree s

pub none_else : (q r : ℕ) → q ≢ r → one_if (nat_eq r q) ≡ 0
none_else q r ne = ap one_if (ne_eqb r q (λ e. ne (sym e)))

-- what a change of few rows leaves
pub changes_else : (c d : Nodes) (t trees q : ℕ) (moved : List ℕ) → ChangesOnly (t ∷ trees ∷ moved) c d → q ≢ t → q ≢ trees
    → times q moved ≡ 0 → c q ≡ d q
changes_else c d t trees q moved only nt np none =
    only q (let a = none_else q t nt in let b = none_else q trees np in omega arith)

pub put_here : (f : ℕ → Growth) (t : ℕ) (x : Growth) → put f t x t ≡ x
put_here f t x = ap (λ (b : Bool). if b then x else f t) (eq-eqb t t refl)

pub put_else : (f : ℕ → Growth) (t s : ℕ) (x : Growth) → s ≢ t → put f t x s ≡ f s
put_else f t s x ne = ap (λ (b : Bool). if b then x else f s) (ne_eqb s t ne)

-- what a growth represents in Tree mode

pub record TreeAt (c : Nodes) (link : ℕ) (g : Growth) (pairs : List Pair) : Type 0 where
  pub tree : Tree
  pub is : g ≡ search_tree tree
  pub leads : LeadsTo c link tree
  pub pairs_are : pairs_in c tree ≡ pairs

pub as_tree : (c : Nodes) (link : ℕ) (g : Growth) (pairs : List Pair) (mode : Mode) → IsTree mode → Represents c link g pairs mode
    → TreeAt c link g pairs
as_tree c link (search_tree x) pairs (TreeMode s) is h = record { tree = x; is = refl; leads = h.0; pairs_are = h.1 }
as_tree c link (search_tree x) pairs (Buffer txn count) is h = absurd h
as_tree c link (chain rows) pairs (TreeMode s) is h = absurd h
as_tree c link (chain rows) pairs (Buffer txn count) is h = absurd is

pub tree_represents : (c : Nodes) (link : ℕ) (x : Tree) (pairs : List Pair) (mode : Mode) → IsTree mode → LeadsTo c link x
    → pairs_in c x ≡ pairs → Represents c link (search_tree x) pairs mode
tree_represents c link x pairs (TreeMode s) is leads same = (leads, same)
tree_represents c link x pairs (Buffer txn count) is leads same = absurd is

-- and in Buffer mode

pub record ChainAt (c : Nodes) (link : ℕ) (g : Growth) (pairs : List Pair) (txn count : ℕ) : Type 0 where
  pub rows : List ℕ
  pub is : g ≡ chain rows
  pub leads : IsChain c link rows
  pub owned : AllOf txn c rows
  pub pairs_are : folded txn c rows ≡ pairs
  pub count_is : count ≡ length rows

pub as_chain : (c : Nodes) (link : ℕ) (g : Growth) (pairs : List Pair) (mode : Mode) (txn count : ℕ) → mode ≡ Buffer txn count
    → Represents c link g pairs mode → ChainAt c link g pairs txn count
as_chain c link (search_tree x) pairs (TreeMode s) txn count is h = absurd (subst IsTree is tt)
as_chain c link (search_tree x) pairs (Buffer owner n) txn count is h = absurd h
as_chain c link (chain rows) pairs (TreeMode s) txn count is h = absurd h
as_chain c link (chain rows) pairs (Buffer owner n) txn count is h =
    let owner_is : owner ≡ txn = ap txn_of is in
    let count_is : n ≡ count = ap count_of is in
    record {
      rows = rows;
      is = refl;
      leads = h.0;
      owned = subst (λ (x : ℕ). AllOf x c rows) owner_is h.1;
      pairs_are = subst (λ (x : ℕ). folded x c rows ≡ pairs) owner_is h.2;
      count_is = sym count_is ∙ h.3;
    }
  where
    txn_of : Mode → ℕ
    txn_of (TreeMode s) = 0
    txn_of (Buffer o m) = o

    count_of : Mode → ℕ
    count_of (TreeMode s) = 0
    count_of (Buffer o m) = m

-- what a growth represents while its rows stay
pub represents_stay : (c d : Nodes) (link : ℕ) (g : Growth) (pairs : List Pair) (mode : Mode) → AgreeOn c d (rows_at g)
    → Represents c link g pairs mode → Represents d link g pairs mode
represents_stay c d link (search_tree t) pairs (TreeMode score) same h =
    (leads_stays c d link t (on_tree c d t same) h.0, sym (pairs_stay c d t (on_tree c d t same)) ∙ h.1)
represents_stay c d link (search_tree t) pairs (Buffer txn count) same h = absurd h
represents_stay c d link (chain rows) pairs (TreeMode score) same h = absurd h
represents_stay c d link (chain rows) pairs (Buffer txn count) same h =
    (on_chain c d link rows same h.0, on_owner c d txn rows same h.1, sym (on_folded c d txn rows same) ∙ h.2, h.3)

pub gap_in_stays : (c d : Nodes) (g : Growth) (q : ℕ) (gap : Gap) → AgreeOn c d (rows_at g) → GapIn c g q gap → GapIn d g q gap
gap_in_stays c d (search_tree t) q gap same h = gap_stays c d t None None None None q gap (on_tree c d t same) tt tt h
gap_in_stays c d (chain rows) q gap same h = absurd h

module _ {trees rows : ℕ} {c : Nodes} {mode : ℕ → Mode} {state : List TreeState} {f : Forest}
    (forest : IsForest trees rows c mode state f) where
  -- each row stands at most once
  pub at_most : (q : ℕ) → stands trees f q ≤ 1
  at_most q = dite (ℕ_discrete (stands trees f q) 0)
      (λ e. omega (arith, e))
      (λ ne. let o = forest.further q (omega arith) in let e = forest.once q o.0 o.1 in omega arith)

  pub one_place : (t : ℕ) → t < trees → (q : ℕ) → times q (rows_at (f.tree t)) + times q f.pool ≤ 1
  one_place t lt q =
      let m = at_most q in let h = total_has (λ s. times q (rows_at (f.tree s))) trees t lt in omega arith

-- only these rows, a tree's anchor and the pool's may change, and they stand in the tree or in the pool
pub record Moves (trees t : ℕ) (c d : Nodes) (f : Forest) (moved : List ℕ) : Type 0 where
  pub tree : t < trees
  pub only : ChangesOnly (t ∷ trees ∷ moved) c d
  pub stand : (q : ℕ) → times q moved ≤ times q (rows_at (f.tree t)) + times q f.pool

module _ {trees rows t : ℕ} {c d : Nodes} {mode : ℕ → Mode} {state : List TreeState} {f : Forest} {moved : List ℕ}
    (forest : IsForest trees rows c mode state f) (moves : Moves trees t c d f moved) where
  abbrev stands_in : ℕ → ℕ → ℕ
  stands_in q s = times q (rows_at (f.tree s))

  -- a row of the tree or of the pool that isn't of these holds what it held
  pub off : (q : ℕ) → 0 < times q (rows_at (f.tree t)) + times q f.pool → times q moved ≡ 0 → c q ≡ d q
  off q some none_moved =
      let h = total_has (stands_in q) trees t moves.tree in
      let o = (forest.further q (omega arith)).0 in
      let lt = moves.tree in
      changes_else c d t trees q moved moves.only (λ e. omega arith) (λ e. omega arith) none_moved

  pub elsewhere : (s : ℕ) → s < trees → s ≢ t → AgreeOn c d (rows_at (f.tree s))
  elsewhere s lt' ne q some =
      let m = at_most forest q in
      let h = total_two (stands_in q) trees s t ne lt' moves.tree in
      let z = moves.stand q in
      let o = (forest.further q (omega arith)).0 in
      let lt = moves.tree in
      changes_else c d t trees q moved moves.only (λ e. omega arith) (λ e. omega arith) (omega arith)

  -- and so does another tree's anchor
  pub anchors : (s : ℕ) → s < trees → s ≢ t → c s ≡ d s
  anchors s lt' ne =
      let h = total_has (stands_in s) trees t moves.tree in
      let z = moves.stand s in
      let none_here : stands trees f s ≡ 0 = dite (ℕ_discrete (stands trees f s) 0)
      (λ e. e)
      (λ some. let o = (forest.further s (omega arith)).0 in absurd (omega arith)) in
      changes_else c d t trees s moved moves.only ne (λ e. omega arith) (omega arith)

-- a growth below the anchor, and a pool, of the rows that stood in the two before
pub record Regrows (trees t : ℕ) (c d : Nodes) (mode mode' : ℕ → Mode) (f : Forest) (after : TreeState) (moved : List ℕ)
    (growth : Growth) (pool : List ℕ) : Type 0 where
  pub moves : Moves trees t c d f moved
  pub other_modes : KeepsModes trees t mode mode'
  pub mode_is : mode' t ≡ after.mode
  pub grown : Represents d (d t).left growth after.pairs (mode' t)
  pub vacant : IsChain d (d trees).left pool
  pub same : (q : ℕ) → times q (rows_at growth) + times q pool ≡ times q (rows_at (f.tree t)) + times q f.pool
  pub long : length (rows_at growth) + length pool ≡ length (rows_at (f.tree t)) + length f.pool

-- the forest with these
abbrev pub regrown : Forest → ℕ → Growth → List ℕ → Forest
regrown f t growth pool = record { tree = put f.tree t growth; pool = pool }

module _ {trees rows t : ℕ} {c d : Nodes} {mode mode' : ℕ → Mode} {state : List TreeState} {f : Forest} {after : TreeState}
    {moved : List ℕ}
    {growth : Growth} {pool : List ℕ} (forest : IsForest trees rows c mode state f)
    (grows : Regrows trees t c d mode mode' f after moved growth pool) where
  stands_same : (q : ℕ) → stands trees (regrown f t growth pool) q ≡ stands trees f q
  stands_same q =
      let old : ℕ → ℕ = λ s. times q (rows_at (f.tree s)) in
      let new : ℕ → ℕ = λ s. times q (rows_at (put f.tree t growth s)) in
      let stays : (j : ℕ) → j ≢ t → old j ≡ new j =
      λ j ne. ap (λ (x : Growth). times q (rows_at x)) (sym (put_else f.tree t j growth ne)) in
      let a : total new trees + old t ≡ total old trees + times q (rows_at growth) =
      total_change old new trees t grows.moves.tree stays
      ∙ ap (λ (x : Growth). total old trees + times q (rows_at x)) (put_here f.tree t growth) in
      let b = grows.same q in
      let h = total_has old trees t grows.moves.tree in
      omega arith

  long_same : total (λ s. length (rows_at (put f.tree t growth s))) trees + length pool
      ≡ total (λ s. length (rows_at (f.tree s))) trees + length f.pool
  long_same =
      let old : ℕ → ℕ = λ s. length (rows_at (f.tree s)) in
      let new : ℕ → ℕ = λ s. length (rows_at (put f.tree t growth s)) in
      let stays : (j : ℕ) → j ≢ t → old j ≡ new j =
      λ j ne. ap (λ (x : Growth). length (rows_at x)) (sym (put_else f.tree t j growth ne)) in
      let a : total new trees + old t ≡ total old trees + length (rows_at growth) =
      total_change old new trees t grows.moves.tree stays
      ∙ ap (λ (x : Growth). total old trees + length (rows_at x)) (put_here f.tree t growth) in
      let h = total_has old trees t grows.moves.tree in
      omega (arith, grows.long)

  now_here : tree_at (set state t after) t ≡ after
  now_here = get_or-set_same state t after fresh (omega (arith, forest.size, grows.moves.tree))

  now_else : (s : ℕ) → s ≢ t → tree_at (set state t after) s ≡ tree_at state s
  now_else s ne = get_or-set_other state t s after fresh ne

  new_grown : (s : ℕ) → s < trees
      → Represents d (d s).left (put f.tree t growth s) (tree_at (set state t after) s).pairs (mode' s)
  new_grown s lt' = dite (ℕ_discrete s t)
      (λ e. subst (λ (n : ℕ). Represents d (d n).left (put f.tree t growth n) (tree_at (set state t after) n).pairs (mode' n)) (sym e)
      (subst (λ (x : Growth). Represents d (d t).left x (tree_at (set state t after) t).pairs (mode' t)) (sym (put_here f.tree t growth))
      (subst (λ (x : TreeState). Represents d (d t).left growth x.pairs (mode' t)) (sym now_here) grows.grown)))
      (λ ne. subst (λ (x : Growth). Represents d (d s).left x (tree_at (set state t after) s).pairs (mode' s))
      (sym (put_else f.tree t s growth ne))
      (subst (λ (x : TreeState). Represents d (d s).left (f.tree s) x.pairs (mode' s)) (sym (now_else s ne))
      (subst (λ (m : Mode). Represents d (d s).left (f.tree s) (tree_at state s).pairs m) (grows.other_modes s lt' ne)
      (subst (λ (n : Node). Represents d n.left (f.tree s) (tree_at state s).pairs (mode s)) (anchors forest grows.moves s lt' ne)
      (represents_stay c d (c s).left (f.tree s) (tree_at state s).pairs (mode s)
      (elsewhere forest grows.moves s lt' ne) (forest.grown s lt'))))))

  new_modes : (s : ℕ) → s < trees → mode' s ≡ (tree_at (set state t after) s).mode
  new_modes s lt' = dite (ℕ_discrete s t)
      (λ e. subst (λ (n : ℕ). mode' n ≡ (tree_at (set state t after) n).mode) (sym e)
      (grows.mode_is ∙ ap (λ (x : TreeState). x.mode) (sym now_here)))
      (λ ne. sym (grows.other_modes s lt' ne) ∙ (forest.modes s lt' ∙ ap (λ (x : TreeState). x.mode) (sym (now_else s ne))))

  pub regrown_forest : IsForest trees rows d mode' (set state t after) (regrown f t growth pool)
  regrown_forest = record {
    size = length-set state t after ∙ forest.size;
    grown = new_grown;
    modes = new_modes;
    vacant = grows.vacant;
    once = λ r lo hi. stands_same r ∙ forest.once r lo hi;
    further = λ r some. forest.further r (subst (λ (n : ℕ). 0 < n) (stands_same r) some);
    many = let a = long_same in let b = forest.many in omega arith;
  }

  -- the gaps that were seen stay, where they do in the tree itself
  pub others_placed : (s q : ℕ) (g : Gap) (score : ℕ)
      → (s ≡ t → GapIn c (f.tree t) q g → GapIn d growth q g × (mode t ≡ TreeMode 100 → mode' t ≡ TreeMode 100))
      → IsPlaced trees c mode f s q g score → IsPlaced trees d mode' (regrown f t growth pool) s q g score
  others_placed s q g score here_too placed = dite (ℕ_discrete s t)
      (λ e.
      let h = here_too e (subst (λ (n : ℕ). GapIn c (f.tree n) q g) e placed.gap) in
      record {
        tree = placed.tree;
        gap = subst (λ (n : ℕ). GapIn d (put f.tree t growth n) q g) (sym e)
            (subst (λ (x : Growth). GapIn d x q g) (sym (put_here f.tree t growth)) h.0);
        full = λ full. subst (λ (n : ℕ). mode' n ≡ TreeMode 100) (sym e)
            (h.1 (subst (λ (n : ℕ). mode n ≡ TreeMode 100) e (placed.full full)));
      })
      (λ ne. record {
        tree = placed.tree;
        gap = subst (λ (x : Growth). GapIn d x q g) (sym (put_else f.tree t s growth ne))
            (gap_in_stays c d (f.tree s) q g (elsewhere forest grows.moves s placed.tree ne) placed.gap);
        full = λ full. sym (grows.other_modes s placed.tree ne) ∙ placed.full full;
      })
