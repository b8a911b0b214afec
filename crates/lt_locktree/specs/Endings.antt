-- An event that ends a buffer: the pairs after it are laid out as a tree.
use Rattle.std.specs.Prelude.{◌≡◌, ◌≢◌, ℕ, ℤ, pos, ◌+ℤ◌, ◌+◌, ◌<◌, List, [], ◌∷◌, ◌++◌, map, length, Bool, true, false}
use Rattle.lt_ranges.specs.Interval.{Interval, IsInterval}
use Rattle.lt_seq.specs.declared.event.Pair.{Pair}
use Rattle.lt_seq.specs.declared.event.Event.{Event}
use Rattle.lt_seq.specs.declared.event.Mode.TheVariants.{Tree as TreeMode, Buffer}
use Rattle.lt_seq.specs.declared.event.Deed.TheVariants.{Ask, Free, Who, Join}
use Rattle.lt_seq.specs.declared.event.Reply.TheVariants.{Granted, HeldBy}
use Rattle.lt_seq.specs.History.{IsQuestion}
use Rattle.lt_seq.specs.Pairs.{others, granted, freed, count_freed, joined}
use Rattle.lt_rows.specs.Plan.{setting_of}
use Rattle.lt_seq.specs.Table.{tree_of, tree_after, replied, is_buffered, drops_all, raised}
use Rattle.lt_forest.specs.declared.part.PartRow.{PartRow}
use Rattle.lt_forest.specs.Counts.{times}
use Rattle.lt_forest.specs.Cuts.{Cut, Shows, links}
use Rattle.lt_forest.specs.Forest.{IsChain, IsTree, folded}
use Rattle.lt_forest.specs.Parts.{rows_of, row_pair, numbers}
use Rattle.lt_forest.specs.Buffers.{buffered_state}
use Rattle.lt_forest.specs.Views.{IsIn, AllHeld, PlansOnly, PoolPlan}
use Rattle.lt_rows.specs.declared.image.RowImage.{RowImage}
use Rattle.lt_rows.specs.declared.view.View.{View}
use Rattle.lt_rows.specs.Nodes.{mode_of}
use Rattle.lt_rows.specs.Views.{has, images, planned_rows}
use Rattle.lt_chain.specs.Chains.{HoldsChain}
use Rattle.lt_rows.specs.Lawful.{shown, shown_after, mode_after, IsCommit}

-- the tree's anchor, which shows the buffer of this owner, and all rows of its chain are held
pub record HoldsBuffer (v : View) (tree owner count : ℕ) (olds : List ℕ) : Type 0 where
  pub mode : mode_of (images v tree) ≡ Buffer owner count
  pub chain : IsChain (shown v []) (shown v [] tree).left olds
  pub held : AllHeld (IsIn (has v)) (tree ∷ olds)

-- the chain that a pass took holds its buffer
abbrev pub ChainHoldsBuffer : Type 0
ChainHoldsBuffer =
    (v : View) (tree : ℕ) (rows : List ℕ) (h : HoldsChain v tree rows)
    → HoldsBuffer v tree h.shows.buffer.0 h.shows.buffer.1 rows

-- The buffer's pairs, in key order.
abbrev pub buffered_pairs : View → ℕ → List ℕ → List Pair
buffered_pairs v owner olds = folded owner (shown v []) olds

-- below the anchor the plan's images show a whole tree of these rows, in key order
pub record LaysTree (v : View) (plan : List RowImage) (tree : ℕ) (rows : List PartRow) : Type 0 where
  pub new : Cut
  pub shows : Shows (shown_after v plan) (shown_after v plan tree).left new
  pub no_hangs : links new ≡ []
  pub rows_are : rows_of (shown_after v plan) new ≡ rows

-- these rows stand where the buffer's rows did: some are taken from the pool, and some are given to it
pub record TakeOver (olds : List ℕ) (rows : List PartRow) (taken given : List ℕ) : Type 0 where
  pub each : (q : ℕ) → times q (numbers rows) + times q given ≡ times q olds + times q taken
  pub all : length rows + length given ≡ length olds + length taken

-- A plan that lays out the pairs that the sequential table has after the event is one that a commit takes.
abbrev pub LaidBufferCommits : Type 0
LaidBufferCommits =
    (v : View) (owner count : ℕ) (olds taken given : List ℕ) (rows : List PartRow) (plan : List RowImage) (e : Event) (change : ℤ)
    → HoldsBuffer v (tree_of e.deed) owner count olds → tree_of e.deed < v.plan.trees → IsQuestion e.deed
    → LaysTree v plan (tree_of e.deed) rows → TakeOver olds rows taken given
    → PoolPlan (IsIn (has v)) (planned_rows plan) v.plan.trees (shown v plan) (shown_after v plan) taken given
    → PlansOnly (tree_of e.deed ∷ v.plan.trees ∷ olds ++ taken) (planned_rows plan)
    → map row_pair rows ≡ (tree_after (setting_of v.plan) e.txn e.deed (buffered_state owner count (shown v []) olds)).pairs
    → IsTree (mode_after v plan (tree_of e.deed))
    → mode_after v plan (tree_of e.deed) ≡ (tree_after (setting_of v.plan) e.txn e.deed (buffered_state owner count (shown v []) olds)).mode
    → replied (setting_of v.plan) e.txn e.deed (buffered_state owner count (shown v []) olds) ≡ e.deed
    → e.pass + 1 ≡ v.mark → change +ℤ pos (length olds) ≡ pos (length rows) → (length olds < length rows → v.licensed ≡ true)
    → IsCommit v.plan v e plan change

-- Someone asks who holds against another than the owner: the pairs stay, and the score begins at 0.
abbrev pub WhoEndsBuffer : Type 0
WhoEndsBuffer =
    (v : View) (tree owner count : ℕ) (asked : Interval) (named : ℕ) (olds given : List ℕ) (rows : List PartRow)
    (plan : List RowImage) (e : Event) (change : ℤ)
    → HoldsBuffer v tree owner count olds → tree < v.plan.trees → IsInterval asked → owner ≢ named
    → LaysTree v plan tree rows → TakeOver olds rows [] given
    → PoolPlan (IsIn (has v)) (planned_rows plan) v.plan.trees (shown v plan) (shown_after v plan) [] given
    → PlansOnly (tree ∷ v.plan.trees ∷ olds ++ []) (planned_rows plan)
    → map row_pair rows ≡ buffered_pairs v owner olds → mode_after v plan tree ≡ TreeMode 0
    → e.deed ≡ Who tree asked named (others named asked (map row_pair rows))
    → e.pass + 1 ≡ v.mark → change +ℤ pos (length olds) ≡ pos (length rows)
    → IsCommit v.plan v e plan change

-- Someone asks who holds against the owner: the anchor alone is held, nobody stands in the way, and nothing changes.
abbrev pub OwnWhoKeepsBuffer : Type 0
OwnWhoKeepsBuffer =
    (v : View) (tree owner count : ℕ) (asked : Interval) (e : Event)
    → IsIn (has v) tree → mode_of (images v tree) ≡ Buffer owner count → tree < v.plan.trees → IsInterval asked
    → e.deed ≡ Who tree asked owner [] → e.pass + 1 ≡ v.mark
    → IsCommit v.plan v e [] (pos 0)

-- An ask is held by others than its transaction. It is of another than the owner, or the buffer is full.
abbrev pub HeldAskEndsBuffer : Type 0
HeldAskEndsBuffer =
    (v : View) (tree owner count : ℕ) (asked : Interval) (holder : ℕ) (holders : List ℕ) (olds given : List ℕ) (rows : List PartRow)
    (plan : List RowImage) (e : Event) (change : ℤ)
    → HoldsBuffer v tree owner count olds → tree < v.plan.trees → IsInterval asked
    → is_buffered v.plan.buffer e.txn (buffered_pairs v owner olds) (Buffer owner count) ≡ false
    → LaysTree v plan tree rows → TakeOver olds rows [] given
    → PoolPlan (IsIn (has v)) (planned_rows plan) v.plan.trees (shown v plan) (shown_after v plan) [] given
    → PlansOnly (tree ∷ v.plan.trees ∷ olds ++ []) (planned_rows plan)
    → map row_pair rows ≡ buffered_pairs v owner olds → mode_after v plan tree ≡ TreeMode 0
    → others e.txn asked (map row_pair rows) ≡ holder ∷ holders → e.deed ≡ Ask tree asked (HeldBy (holder ∷ holders))
    → e.pass + 1 ≡ v.mark → change +ℤ pos (length olds) ≡ pos (length rows)
    → IsCommit v.plan v e plan change

-- An ask of which nobody else's row overlaps is granted. Where the rows grow by one, the pass is licensed.
abbrev pub GrantedAskEndsBuffer : Type 0
GrantedAskEndsBuffer =
    (v : View) (tree owner count : ℕ) (asked : Interval) (olds taken given : List ℕ) (rows : List PartRow)
    (plan : List RowImage) (e : Event) (change : ℤ)
    → HoldsBuffer v tree owner count olds → tree < v.plan.trees → IsInterval asked
    → is_buffered v.plan.buffer e.txn (buffered_pairs v owner olds) (Buffer owner count) ≡ false
    → LaysTree v plan tree rows → TakeOver olds rows taken given
    → PoolPlan (IsIn (has v)) (planned_rows plan) v.plan.trees (shown v plan) (shown_after v plan) taken given
    → PlansOnly (tree ∷ v.plan.trees ∷ olds ++ taken) (planned_rows plan)
    → map row_pair rows ≡ granted e.txn asked (buffered_pairs v owner olds) → mode_after v plan tree ≡ TreeMode 0
    → others e.txn asked (buffered_pairs v owner olds) ≡ [] → e.deed ≡ Ask tree asked Granted
    → e.pass + 1 ≡ v.mark → change +ℤ pos (length olds) ≡ pos (length rows) → (length olds < length rows → v.licensed ≡ true)
    → IsCommit v.plan v e plan change

-- A free that isn't the drop of the whole buffer: what the transaction holds inside goes, and a release's first one raises the score.
abbrev pub FreeEndsBuffer : Type 0
FreeEndsBuffer =
    (v : View) (tree owner count : ℕ) (asked : Interval) (first : Bool) (olds taken given : List ℕ) (rows : List PartRow)
    (plan : List RowImage) (e : Event) (change : ℤ)
    → HoldsBuffer v tree owner count olds → tree < v.plan.trees → IsInterval asked
    → drops_all e.txn asked (Buffer owner count) ≡ false
    → LaysTree v plan tree rows → TakeOver olds rows taken given
    → PoolPlan (IsIn (has v)) (planned_rows plan) v.plan.trees (shown v plan) (shown_after v plan) taken given
    → PlansOnly (tree ∷ v.plan.trees ∷ olds ++ taken) (planned_rows plan)
    → map row_pair rows ≡ freed e.txn asked (buffered_pairs v owner olds) → mode_after v plan tree ≡ raised first (TreeMode 0)
    → e.deed ≡ Free tree asked first (count_freed e.txn asked (buffered_pairs v owner olds))
    → e.pass + 1 ≡ v.mark → change +ℤ pos (length olds) ≡ pos (length rows) → (length olds < length rows → v.licensed ≡ true)
    → IsCommit v.plan v e plan change

-- A join of the whole tree.
abbrev pub JoinEndsBuffer : Type 0
JoinEndsBuffer =
    (v : View) (tree owner count : ℕ) (olds taken given : List ℕ) (rows : List PartRow) (plan : List RowImage) (e : Event) (change : ℤ)
    → HoldsBuffer v tree owner count olds → tree < v.plan.trees
    → LaysTree v plan tree rows → TakeOver olds rows taken given
    → PoolPlan (IsIn (has v)) (planned_rows plan) v.plan.trees (shown v plan) (shown_after v plan) taken given
    → PlansOnly (tree ∷ v.plan.trees ∷ olds ++ taken) (planned_rows plan)
    → map row_pair rows ≡ joined (setting_of v.plan).marks (buffered_pairs v owner olds) → mode_after v plan tree ≡ TreeMode 0
    → e.deed ≡ Join tree (length (buffered_pairs v owner olds)) (length rows)
    → e.pass + 1 ≡ v.mark → change +ℤ pos (length olds) ≡ pos (length rows) → (length olds < length rows → v.licensed ≡ true)
    → IsCommit v.plan v e plan change
