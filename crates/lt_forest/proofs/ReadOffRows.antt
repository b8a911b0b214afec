-- What a pass reads off its rows is true of the forest: gaps, links, pairs and chains.
use Rattle.std.proofs.Common.{◌≡◌, ◌≢◌, ◌⊎◌, ℕ, ◌+◌, ◌<◌, List, [], ◌∷◌, length, true, sym, ap, ◌∙◌, subst, arith}
use Rattle.std.specs.Prelude.{None, Some}
use Rattle.lt_ranges.specs.Interval.{Interval, overlap, whole}
use Rattle.lt_seq.specs.declared.event.Pair.{Pair}
use Rattle.lt_seq.specs.declared.event.Mode.{Mode}
use Rattle.lt_seq.specs.declared.event.Mode.TheVariants.{Tree as TreeMode, Buffer}
use Rattle.lt_seq.specs.Sound.{AllSound}
use Rattle.lt_seq.specs.Table.{TreeState, tree_at, used}
use Rattle.lt_forest.specs.Counts.{times}
use Rattle.lt_forest.specs.Bounds.{Gap}
use Rattle.lt_forest.specs.Pairs.{Has}
use Rattle.lt_forest.specs.Trees.{Node, Nodes, left_end, right_end, pairs_in}
use Rattle.lt_forest.specs.Cuts.{Cut, bare}
use Rattle.lt_forest.specs.Forest.{Forest, chain, IsTree, IsChain, IsRun, AllOf, folded, IsForest, IsPlaced}
use Rattle.lt_forest.specs.Plans.{Top, from_anchor, IsSeen, IsClosedFor}
use Rattle.lt_forest.specs.Links.{Slot, left_of, right_of, row_with, link_in, IsLinkOf, IsLink, Leads, by_link, and_on}
use Rattle.lt_forest.specs.Views.{Agrees, AllHeld, HoldsPart}
use Rattle.lt_forest.proofs.Chains.{on_folded, on_owner, on_run}
use Rattle.lt_forest.proofs.SameRows.{one_here, on_right}
use Rattle.lt_forest.proofs.FurtherRows.{run_further, taken_further}
use Rattle.lt_forest.proofs.PartLaws.{part_has, part_has_all}
use Rattle.lt_forest.proofs.StateLaws.{no_pairs, vacant_there, chain_shows, whole_shows}
use Rattle.lt_forest.proofs.GapLaws.{top_placed, left_placed, right_placed}
use Rattle.lt_forest.proofs.NamedOnce.{link_names, links_apart, pool_apart}
use Rattle.lt_forest.proofs.NoWayBack.{none_back, pool_none_back}
use Rattle.lt_forest.proofs.PlansInView.{held_same, true_part, true_pairs, true_closed}
use Rattle.lt_forest.proofs.BuffersInView.{chain_same, true_chain}

module _ {has : ℕ → Type 0} {v c : Nodes} {trees rows : ℕ} {mode : ℕ → Mode} {state : List TreeState} {f : Forest}
    (forest : IsForest trees rows c mode state f) (agrees : Agrees has v c) where
  pub top_read : (t r score : ℕ) → has t → t < trees → mode t ≡ TreeMode score → (v t).left ≡ r + 1
      → IsPlaced trees c mode f t r (None, None) score
  top_read t r score held lt is link =
      top_placed forest t r score lt is (ap (λ (n : Node). n.left) (sym (agrees t held)) ∙ link)

  pub left_read : (t p r : ℕ) (g : Gap) (score : ℕ) → has p → IsPlaced trees c mode f t p g score → (v p).left ≡ r + 1
      → IsPlaced trees c mode f t r (g.0, left_end v p) score
  left_read t p r g score held seen link =
      subst (λ (n : Node). IsPlaced trees c mode f t r (g.0, Some n.range.left) score) (sym (agrees p held))
      (left_placed forest t p r g score seen (ap (λ (n : Node). n.left) (sym (agrees p held)) ∙ link))

  pub right_read : (t p r : ℕ) (g : Gap) (score : ℕ) → has p → IsPlaced trees c mode f t p g score → (v p).right ≡ r + 1
      → IsPlaced trees c mode f t r (right_end v p, g.1) score
  right_read t p r g score held seen link =
      subst (λ (n : Node). IsPlaced trees c mode f t r (Some n.range.right, g.1) score) (sym (agrees p held))
      (right_placed forest t p r g score seen (ap (λ (n : Node). n.right) (sym (agrees p held)) ∙ link))

  pub same_link : (s : Slot) → has (row_with s) → link_in v s ≡ link_in c s
  same_link (left_of r) held = ap (λ (n : Node). n.left) (agrees r held)
  same_link (right_of r) held = ap (λ (n : Node). n.right) (agrees r held)

  pub read_names : (s : Slot) → has (row_with s) → IsLink trees f s
      → (link_in v s ≡ 0) ⊎ ((r : ℕ) × (link_in v s ≡ r + 1) × (trees < r) × (r < rows))
  read_names s held link =
      subst (λ (l : ℕ). (l ≡ 0) ⊎ ((r : ℕ) × (l ≡ r + 1) × (trees < r) × (r < rows))) (sym (same_link s held)) (link_names forest s link)

  pub read_apart : (s l : Slot) (r : ℕ) → has (row_with s) → has (row_with l) → IsLink trees f s → IsLink trees f l → s ≢ l
      → link_in v s ≡ r + 1 → link_in v l ≡ r + 1 → ⊥
  read_apart s l r held held' one two ne is js =
      links_apart forest s l r one two ne (sym (same_link s held) ∙ is) (sym (same_link l held') ∙ js)

  -- a way along held rows is one of the forest
  true_way : (P : Slot → Type 0) (q r : ℕ) → Leads v (λ s. has (row_with s) × P s) q r → Leads c P q r
  true_way P q r (by_link s x p is) = by_link s x p.1 (sym (same_link s p.0) ∙ is)
  true_way P q r (and_on s x before p is) = and_on s x (true_way P q (row_with s) before) p.1 (sym (same_link s p.0) ∙ is)

  pub read_back : (t q : ℕ) → t < trees → Leads v (λ s. has (row_with s) × IsLinkOf (f.tree t) s) q q → ⊥
  read_back t q lt way = none_back forest t q lt (true_way (IsLinkOf (f.tree t)) q q way)

  pub read_pool_back : (q : ℕ) → Leads v (λ s. has (row_with s) × IsLinkOf (chain f.pool) s) q q → ⊥
  read_pool_back q way = pool_none_back forest q (true_way (IsLinkOf (chain f.pool)) q q way)

  pub read_empty : (t : ℕ) → has t → t < trees → IsTree (mode t) → (v t).left ≡ 0 → (tree_at state t).pairs ≡ []
  read_empty t held lt tree_mode none =
      no_pairs forest t lt tree_mode (ap (λ (n : Node). n.left) (sym (agrees t held)) ∙ none)

  -- runs along held rows
  true_run : (h last : ℕ) (run : List ℕ) → AllHeld has (h ∷ run) → IsRun v (v h).left run last → IsRun c (c h).left run last
  true_run h last run held runs =
      subst (λ (n : Node). IsRun c n.left run last) (agrees h (held h (let o = one_here h in omega arith)))
      (on_run v c (v h).left run last (on_right v c (h ∷ []) run (held_same has v c (h ∷ run) agrees held)) runs)

  pub read_run_further : (t owner count last q : ℕ) (run : List ℕ) → AllHeld has (t ∷ run) → t < trees
      → mode t ≡ Buffer owner count → IsRun v (v t).left run last → 0 < times q run → (trees < q) × (q < rows)
  read_run_further t owner count last q run held lt is runs =
      run_further forest t owner count last q run lt is (true_run t last run held runs)

  pub read_pool_further : (last q : ℕ) (run : List ℕ) → AllHeld has (trees ∷ run) → IsRun v (v trees).left run last
      → 0 < times q run → (trees < q) × (q < rows)
  read_pool_further last q run held runs = taken_further forest last q run (true_run trees last run held runs)

  pub read_pool_apart : (t q : ℕ) (g : Gap) (score : ℕ) → has trees → IsPlaced trees c mode f t q g score → (v trees).left ≡ q + 1 → ⊥
  read_pool_apart t q g score held seen is =
      pool_apart forest t q g score seen (ap (λ (n : Node). n.left) (sym (agrees trees held)) ∙ is)

  pub read_vacant : has trees → used state + trees + 1 < rows → (q : ℕ) × ((v trees).left ≡ q + 1)
  read_vacant held room =
      let k = vacant_there forest room in
      (k.0, ap (λ (n : Node). n.left) (agrees trees held) ∙ k.1)

  pub read_chain : (t owner count : ℕ) (run : List ℕ) → AllHeld has (t ∷ run) → t < trees → mode t ≡ Buffer owner count
      → IsChain v (v t).left run
      → (folded owner v run ≡ (tree_at state t).pairs) × AllOf owner v run × (count ≡ length run)
  read_chain t owner count run held lt is shows =
      let k = chain_shows forest t owner count run lt is (true_chain t run agrees held shows) in
      let same = chain_same t run agrees held in (
        on_folded v c owner run same ∙ k.0,
        on_owner c v owner run (λ q some. sym (same q some)) k.1,
        k.2,
      )

module _ {has : ℕ → Type 0} {v c : Nodes} {trees rows t : ℕ} {mode : ℕ → Mode} {state : List TreeState} {f : Forest}
    {top : Top} {cut : Cut}
    (forest : IsForest trees rows c mode state f) (sound : AllSound state) (tree : t < trees) (tree_mode : IsTree (mode t))
    (seen : IsSeen c (f.tree t) top) (agrees : Agrees has v c) (part : HoldsPart has t top v cut) where
  pub read_has : (p : Pair) → Has p (pairs_in v (bare cut)) → Has p (tree_at state t).pairs
  read_has p h = part_has (true_part agrees part forest sound tree tree_mode seen) p (subst (Has p) (true_pairs agrees part) h)

  pub read_has_all : (range : Interval) → IsClosedFor range top v cut → (p : Pair) → Has p (tree_at state t).pairs
      → overlap p.range range ≡ true → Has p (pairs_in v (bare cut))
  read_has_all range closed p h over =
      subst (Has p) (sym (true_pairs agrees part))
      (part_has_all (true_part agrees part forest sound tree tree_mode seen) (true_closed agrees part closed) p h over)

pub read_whole : {has : ℕ → Type 0} {v c : Nodes} {trees rows t : ℕ} {mode : ℕ → Mode} {state : List TreeState} {f : Forest} {cut : Cut}
    → IsForest trees rows c mode state f → AllSound state → t < trees → IsTree (mode t) → (agrees : Agrees has v c)
    → HoldsPart has t from_anchor v cut → IsClosedFor whole from_anchor v cut → pairs_in v (bare cut) ≡ (tree_at state t).pairs
read_whole forest sound tree tree_mode agrees part closed =
    true_pairs agrees part ∙ whole_shows (true_part agrees part forest sound tree tree_mode tt) (true_closed agrees part closed)
