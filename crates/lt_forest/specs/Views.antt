-- What a pass knows: the rows that it holds, as v shows them, and a plan, whose images v' shows in their place. For rows
-- that it doesn't hold both say nothing.
use Rattle.std.specs.Prelude.{◌≡◌, ◌⊎◌, ℕ, ◌<◌, List, [], ◌∷◌, ◌++◌, None, Bool, IsTrue}
use Rattle.lt_seq.specs.declared.event.Mode.{Mode}
use Rattle.lt_seq.specs.declared.event.Mode.TheVariants.{Tree as TreeMode}
use Rattle.lt_seq.specs.declared.event.Deed.{Deed}
use Rattle.lt_seq.specs.Table.{Setting, tree_of}
use Rattle.lt_forest.specs.Counts.{times}
use Rattle.lt_forest.specs.Trees.{Nodes, in_order}
use Rattle.lt_forest.specs.Cuts.{Cut, Shows, bare, ends, Looser}
use Rattle.lt_forest.specs.Forest.{ChangesOnly}
use Rattle.lt_forest.specs.Buffers.{Ends, Drops}
use Rattle.lt_forest.specs.Plans.{Top, from_anchor, from_row, top_link, MovesPool, SameRows, ShowsDeed}

-- the rows that a test finds
abbrev pub IsIn : (ℕ → Bool) → ℕ → Type 0
IsIn test r = IsTrue (test r)

-- the rows with this property hold what the view shows
abbrev pub Agrees : (ℕ → Type 0) → Nodes → Nodes → Type 0
Agrees has v c = (r : ℕ) → has r → v r ≡ c r

-- what the view says is true: of the rows held before the plan and after it, and only rows of the plan change
pub record IsView (has : ℕ → Type 0) (planned : List ℕ) (v v' c d : Nodes) : Type 0 where
  pub before : Agrees has v c
  pub after : Agrees has v' d
  pub stays : ChangesOnly planned c d

-- all these rows are held
abbrev pub AllHeld : (ℕ → Type 0) → List ℕ → Type 0
AllHeld has rows = (r : ℕ) → 0 < times r rows → has r

-- the plan has no rows but these
abbrev pub PlansOnly : List ℕ → List ℕ → Type 0
PlansOnly rows planned = (r : ℕ) → times r rows ≡ 0 → times r planned ≡ 0

-- where the part hangs from the anchor, that is held
abbrev pub TopHeld : (ℕ → Type 0) → ℕ → Top → Type 0
TopHeld has t from_anchor = has t
TopHeld has t (from_row h g) = Unit {0}

-- and else it isn't in the plan, or it is held and its link stays
abbrev pub TopStays : (ℕ → Type 0) → List ℕ → ℕ → Top → Nodes → Nodes → Type 0
TopStays has planned t from_anchor v v' = Unit {0}
TopStays has planned t (from_row h g) v v' = (times t planned ≡ 0) ⊎ (has t × ((v t).left ≡ (v' t).left))

-- each anchor that isn't in the plan keeps its mode
abbrev pub PlansModes : ℕ → List ℕ → (ℕ → Mode) → (ℕ → Mode) → Type 0
PlansModes trees planned mode mode' = (t : ℕ) → t < trees → times t planned ≡ 0 → mode t ≡ mode' t

-- the anchor's mode stays, which is so where it isn't in the plan of a part that hangs from a row
abbrev pub SameMode : List ℕ → ℕ → Top → Mode → Mode → Type 0
SameMode planned t from_anchor before after = before ≡ after
SameMode planned t (from_row h g) before after = (before ≡ after) ⊎ (times t planned ≡ 0)

-- the pass holds the part
pub record HoldsPart (has : ℕ → Type 0) (t : ℕ) (top : Top) (v : Nodes) (cut : Cut) : Type 0 where
  pub top_held : TopHeld has t top
  pub shows : Shows v (top_link top (v t)) cut
  pub rows : AllHeld has (in_order (bare cut))

-- the pool has no part in the plan; or its anchor is held, with the rows taken and given
pub data PoolPlan (has : ℕ → Type 0) (planned : List ℕ) (trees : ℕ) (v v' : Nodes) (taken given : List ℕ) : Type 0 where
  no_pool : taken ≡ [] → given ≡ [] → times trees planned ≡ 0 → PoolPlan has planned trees v v' taken given
  from_pool : has trees → AllHeld has taken → AllHeld has given → MovesPool trees v v' taken given
      → PoolPlan has planned trees v v' taken given

-- the plan lays the part anew, as the pass sees it
pub record PlanLays (has : ℕ → Type 0) (planned : List ℕ) (trees t : ℕ) (top : Top) (v v' : Nodes) (cut new : Cut)
    (taken given : List ℕ) : Type 0 where
  pub part : HoldsPart has t top v cut
  pub shows : Shows v' (top_link top (v' t)) new
  pub new_held : AllHeld has (in_order (bare new))
  pub loose : Looser (ends v cut None None) (ends v' new None None)
  pub pool : PoolPlan has planned trees v v' taken given
  pub rows : SameRows cut new taken given
  pub link : TopStays has planned t top v v'
  pub others : PlansOnly (t ∷ trees ∷ in_order (bare cut) ++ taken) planned

-- What the plan shows of a deed. With the anchor held the tree's mode is known. From a row on the anchor may be held too; where
-- it isn't in the plan, the tree stays in Tree mode, with any score that the one read with the row's gap allows.
abbrev pub PlanShows : List ℕ → Setting → ℕ → Deed → Top → ℕ → Nodes → Nodes → Cut → Cut → Mode → Mode → Type 0
PlanShows planned setting txn deed from_anchor score v v' cut new before after =
    ShowsDeed setting txn deed v v' cut new before after
PlanShows planned setting txn deed (from_row h g) score v v' cut new before after =
    ShowsDeed setting txn deed v v' cut new before after
    ⊎ ((times (tree_of deed) planned ≡ 0)
    × ((s : ℕ) → (score ≡ 100 → s ≡ 100) → ShowsDeed setting txn deed v v' cut new (TreeMode s) (TreeMode s)))

-- the pass holds these rows, and its plan has no others
pub record PlansThese (has : ℕ → Type 0) (planned rows : List ℕ) : Type 0 where
  pub held : AllHeld has rows
  pub only : PlansOnly rows planned

-- The plan ends a buffer, as the pass sees it: it holds the anchor, all rows of the chain and those of the new tree.
pub record PlanEnds (has : ℕ → Type 0) (planned : List ℕ) (setting : Setting) (trees txn owner count : ℕ) (deed : Deed) (t : ℕ)
    (v v' : Nodes) (before after : Mode) (olds : List ℕ) (new : Cut) (taken given : List ℕ) : Type 0 where
  pub ends : Ends setting txn owner count deed t v v' before after olds new taken given
  pub chain_held : AllHeld has (t ∷ olds)
  pub new_held : AllHeld has (in_order (bare new))
  pub pool : PoolPlan has planned trees v v' taken given
  pub only : PlansOnly (t ∷ trees ∷ olds ++ taken) planned

-- The plan drops a buffer whole, as the pass sees it: it holds the anchor, the pool's anchor and all rows of the chain.
pub record PlanDrops (has : ℕ → Type 0) (planned : List ℕ) (trees t owner count : ℕ) (v v' : Nodes) (before after : Mode)
    (front : List ℕ) (last : ℕ) : Type 0 where
  pub drops : Drops trees t owner count v v' before after front last
  pub chain_held : AllHeld has (t ∷ trees ∷ front ++ last ∷ [])
  pub only : PlansOnly (t ∷ trees ∷ last ∷ []) planned
