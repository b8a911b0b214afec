-- A buffer's chain that a pass takes, and what it reads there.
use Rattle.std.specs.Prelude.{◌≡◌, ℕ, Bool, true, List, [], ◌∷◌, length}
use Rattle.lt_ranges.specs.Interval.{Interval, IsInterval}
use Rattle.lt_seq.specs.declared.event.Event.{Event}
use Rattle.lt_seq.specs.declared.event.Deed.TheVariants.{Free}
use Rattle.lt_seq.specs.declared.event.Held.{Held}
use Rattle.lt_seq.specs.declared.event.Pair.{Pair}
use Rattle.lt_seq.specs.declared.event.Mode.TheVariants.{Buffer}
use Rattle.lt_seq.specs.History.{IsFront, after}
use Rattle.lt_seq.specs.Pairs.{granted}
use Rattle.lt_rows.specs.Plan.{setting_of}
use Rattle.lt_seq.specs.Table.{held_in, tree_at, is_whole}
use Rattle.lt_forest.specs.Forest.{IsChain, IsRun, folded}
use Rattle.lt_rows.specs.declared.view.View.{View}
use Rattle.lt_rows.specs.Nodes.{mode_of}
use Rattle.lt_rows.specs.Views.{images}
use Rattle.lt_rows.specs.Rule.{Stood}
use Rattle.lt_rows.specs.Woods.{woods}
use Rattle.lt_rows.specs.Lawful.{shown}
use Rattle.lt_rows.specs.Teaching.{Teaches}
use Rattle.lt_tree.specs.Puttings.{Backs}

-- the anchor shows a buffer
abbrev pub ShowsBuffer : View → ℕ → Type 0
ShowsBuffer v tree = (owner : ℕ) × (count : ℕ) × (mode_of (images v tree) ≡ Buffer owner count)

-- and its chain has these rows, from the first to the last
pub record ShowsChain (v : View) (tree : ℕ) (rows : List ℕ) : Type 0 where
  pub buffer : ShowsBuffer v tree
  pub chain : IsChain (shown v []) (shown v [] tree).left rows

-- The pass gathers, and holds the tree's anchor and all rows of its buffer's chain, and no other row.
pub record HoldsChain (v : View) (tree : ℕ) (rows : List ℕ) : Type 0 where
  pub backs : Backs v (tree ∷ rows)
  pub shows : ShowsChain v tree rows

-- this pass's free of the whole range in this tree by the buffer's transaction, with the number of its pairs
pub record FreesAll (pass tree : ℕ) (v : View) (rows : List ℕ) (e : Event) : Type 0 where
  pub range : Interval
  pub first : Bool
  pub pass_is : e.pass ≡ pass
  pub owner : e.txn ≡ (shown v [] tree).owner
  pub question : IsInterval range
  pub whole : is_whole range ≡ true
  pub deed : e.deed ≡ Free tree range first (length (folded (shown v [] tree).owner (shown v []) rows))

-- what asks for these ranges grant to the transaction, the last of them first
abbrev pub all_granted : ℕ → List Interval → List Pair
all_granted txn [] = []
all_granted txn (r ∷ rs) = granted txn r (all_granted txn rs)

-- These are the pairs that the rows grant to the buffer's transaction, and the tree's pairs after some history, of which the
-- pass has seen a front.
pub record ReadsPairs (v : View) (tree : ℕ) (rows : List ℕ) (pairs : List Held) : Type 0 where
  pub granted : pairs ≡ held_in tree (folded (shown v [] tree).owner (shown v []) rows)
  pub log : List Event
  pub seen : IsFront v.front log
  pub stood : Stood (woods v.plan) v log
  pub of_tree : pairs ≡ held_in tree (tree_at (after (setting_of v.plan) log) tree).pairs

-- on its way along the chain: these rows are taken, and the link leads on
pub record Walks (v : View) (tree owner count : ℕ) (rows : List ℕ) (link : ℕ) : Type 0 where
  pub backs : Backs v (tree ∷ rows)
  pub mode : mode_of (images v tree) ≡ Buffer owner count
  pub run : IsRun (shown v []) (shown v [] tree).left rows link
  pub teaches : Teaches v
