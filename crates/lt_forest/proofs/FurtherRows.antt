-- Which rows of a forest are further rows, and that it reads no others but its anchors.
use Rattle.std.proofs.Common.{◌≡◌, ℕ, ◌<◌, ◌≤◌, List, [], ◌∷◌, sym, ap, ◌∙◌, subst, arith}
use mathlib.Core.Logic.{dite}
use native.Mathlib.Decide.{ℕ_discrete}
use Rattle.lt_seq.specs.declared.event.Mode.{Mode}
use Rattle.lt_seq.specs.declared.event.Mode.TheVariants.{Buffer}
use Rattle.lt_seq.specs.Table.{TreeState, tree_at}
use Rattle.lt_forest.specs.Counts.{times}
use Rattle.lt_forest.specs.Trees.{Nodes, in_order}
use Rattle.lt_forest.specs.Cuts.{Cut, bare}
use Rattle.lt_forest.specs.Forest.{Forest, Growth, rows_at, IsChain, IsRun, Represents, IsForest}
use Rattle.lt_forest.specs.Plans.{Top, IsPart}
use Rattle.lt_forest.proofs.SameRows.{times-++}
use Rattle.lt_forest.proofs.Chains.{total_has, cut_chain, on_chain}
use Rattle.lt_forest.proofs.ForestLaws.{as_chain, represents_stay}
use Rattle.lt_forest.proofs.PartLaws.{part_stands}

-- a chain is a run to its end
pub chain_run : (c : Nodes) (link : ℕ) (rows : List ℕ) → IsChain c link rows → IsRun c link rows 0
chain_run c link [] leads = leads
chain_run c link (r ∷ rows) leads = (leads.0, chain_run c (c r).left rows leads.1)

module _ {trees rows : ℕ} {c : Nodes} {mode : ℕ → Mode} {state : List TreeState} {f : Forest}
    (forest : IsForest trees rows c mode state f) where
  pub in_tree_further : (t q : ℕ) → t < trees → 0 < times q (rows_at (f.tree t)) → (trees < q) × (q < rows)
  in_tree_further t q lt some =
      let h = total_has (λ s. times q (rows_at (f.tree s))) trees t lt in forest.further q (omega arith)

  pub in_pool_further : (q : ℕ) → 0 < times q f.pool → (trees < q) × (q < rows)
  in_pool_further q some = forest.further q (omega arith)

  pub run_further : (t owner count last q : ℕ) (run : List ℕ) → t < trees → mode t ≡ Buffer owner count
      → IsRun c (c t).left run last → 0 < times q run → (trees < q) × (q < rows)
  run_further t owner count last q run lt is runs some =
      let k = as_chain c (c t).left (f.tree t) (tree_at state t).pairs (mode t) owner count is (forest.grown t lt) in
      let b = cut_chain c (c t).left run k.rows last k.leads runs in
      let e : times q (rows_at (f.tree t)) ≡ times q k.rows = ap (λ (g : Growth). times q (rows_at g)) k.is in
      let a = ap (times q) b.is in
      let s = times-++ q run b.rest in
      in_tree_further t q lt (omega arith)

  pub taken_further : (last q : ℕ) (run : List ℕ) → IsRun c (c trees).left run last → 0 < times q run → (trees < q) × (q < rows)
  taken_further last q run runs some =
      let b = cut_chain c (c trees).left run f.pool last forest.vacant runs in
      let a = ap (times q) b.is in
      let s = times-++ q run b.rest in
      in_pool_further q (omega arith)

  -- a forest reads no rows but those of its table
  pub forest_same : {d : Nodes} {mode' : ℕ → Mode} → ((r : ℕ) → r < rows → c r ≡ d r) → ((t : ℕ) → t < trees → mode t ≡ mode' t)
      → IsForest trees rows d mode' state f
  forest_same {d} {mode'} same modes_same =
      let all : trees < rows = (let m = forest.many in omega arith) in
      record {
        size = forest.size;
        grown = λ t lt.
            let link : (c t).left ≡ (d t).left = ap (λ n. n.left) (same t (omega arith)) in
            subst (λ (m : Mode). Represents d (d t).left (f.tree t) (tree_at state t).pairs m) (modes_same t lt)
            (subst (λ (l : ℕ). Represents d l (f.tree t) (tree_at state t).pairs (mode t)) link
            (represents_stay c d (c t).left (f.tree t) (tree_at state t).pairs (mode t)
            (λ q some. same q (in_tree_further t q lt some).1) (forest.grown t lt)));
        modes = λ t lt. sym (modes_same t lt) ∙ forest.modes t lt;
        vacant = subst (λ (l : ℕ). IsChain d l f.pool) (ap (λ n. n.left) (same trees all))
            (on_chain c d (c trees).left f.pool (λ q some. same q (in_pool_further q some).1) forest.vacant);
        once = forest.once;
        further = forest.further;
        many = forest.many;
      }

pub part_further : {trees rows t : ℕ} {c : Nodes} {mode : ℕ → Mode} {state : List TreeState} {f : Forest} {top : Top} {cut : Cut}
    → IsPart trees rows c mode state f t top cut → (q : ℕ) → 0 < times q (in_order (bare cut)) → (trees < q) × (q < rows)
part_further {t = t} part q some = in_tree_further part.forest t q part.tree (part_stands part q some)

-- lists of further rows and of few others

pub none_of : (xs : List ℕ) (s bound : ℕ) → s ≤ bound → ((q : ℕ) → 0 < times q xs → bound < q) → times s xs ≡ 0
none_of xs s bound le greater = dite (ℕ_discrete (times s xs) 0)
    (λ e. e)
    (λ ne. absurd (let g = greater s (omega arith) in omega arith))

same_of : (a s : ℕ) → 0 < times s (a ∷ []) → s ≡ a
same_of a s some = grind arith

pub other_one : (a s : ℕ) → (s ≡ a → ⊥) → times s (a ∷ []) ≡ 0
other_one a s ne = dite (ℕ_discrete (times s (a ∷ [])) 0) (λ e. e) (λ some. absurd (ne (same_of a s (omega arith))))
