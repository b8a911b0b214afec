-- What a pass reads off its own rows of the state after a history, by what a step taught it.
use Rattle.std.specs.Prelude.{◌≡◌, ◌≢◌, ◌⊎◌, ℕ, ℤ, ◌+◌, ◌<◌, ◌≤◌, List, [], ◌∷◌, ◌++◌, length, true, Some}
use Rattle.lt_ranges.specs.Interval.{Interval, IsInterval, overlap, whole}
use Rattle.lt_seq.specs.declared.event.Event.{Event}
use Rattle.lt_seq.specs.declared.event.Pair.{Pair}
use Rattle.lt_seq.specs.declared.event.Mode.TheVariants.{Tree as TreeMode, Buffer}
use Rattle.lt_seq.specs.History.{after, IsLegal}
use Rattle.lt_rows.specs.Plan.{setting_of}
use Rattle.lt_seq.specs.Table.{tree_at}
use Rattle.lt_forest.specs.Pairs.{Has}
use Rattle.lt_forest.specs.Trees.{pairs_in}
use Rattle.lt_forest.specs.Cuts.{Cut, bare, IsRow}
use Rattle.lt_forest.specs.Forest.{IsChain, AllOf, folded}
use Rattle.lt_forest.specs.Plans.{Top, from_anchor, IsClosedFor}
use Rattle.lt_forest.specs.Links.{Slot, left_of, right_of, row_with, link_in, IsLinkOf, IsLink, Leads}
use Rattle.lt_forest.specs.Views.{IsIn, AllHeld, HoldsPart}
use Rattle.lt_rows.specs.declared.view.SeenGap.{SeenGap}
use Rattle.lt_rows.specs.declared.view.Row.{Row}
use Rattle.lt_rows.specs.declared.view.View.{View}
use Rattle.lt_rows.specs.declared.image.RowImage.{RowImage}
use Rattle.lt_rows.specs.Nodes.{node_of, mode_of}
use Rattle.lt_rows.specs.Views.{Holds, has, images, rows_of}
use Rattle.lt_rows.specs.Rule.{Stood}
use Rattle.lt_rows.specs.Woods.{woods}
use Rattle.lt_rows.specs.Lawful.{shown, KnowsTop, IsCommit}

-- the history is legal
abbrev pub HistoryIsLegal : Type 0
HistoryIsLegal = (v : View) (log : List Event) → Stood (woods v.plan) v log → IsLegal (setting_of v.plan) log

-- An event that a pass may commit is the next of a legal history.
abbrev pub CommitIsLegal : Type 0
CommitIsLegal =
    (v : View) (rest : List Event) (e : Event) (plan : List RowImage) (change : ℤ) → Stood (woods v.plan) v (v.front ++ rest)
    → v.mark ≤ v.plan.passes → IsCommit v.plan v e plan change → IsLegal (setting_of v.plan) ((v.front ++ rest) ++ e ∷ [])

-- A held anchor shows its tree's mode, and with no link in Tree mode that the tree has no pairs.
abbrev pub AnchorShowsMode : Type 0
AnchorShowsMode =
    (v : View) (log : List Event) (t : ℕ) → Stood (woods v.plan) v log → t < v.plan.trees → IsIn (has v) t
    → mode_of (images v t) ≡ (tree_at (after (setting_of v.plan) log) t).mode

abbrev pub NoLinkShowsNoPairs : Type 0
NoLinkShowsNoPairs =
    (v : View) (log : List Event) (t score : ℕ) → Stood (woods v.plan) v log → t < v.plan.trees → IsIn (has v) t
    → mode_of (images v t) ≡ TreeMode score → (shown v [] t).left ≡ 0 → (tree_at (after (setting_of v.plan) log) t).pairs ≡ []

-- The links of the anchors, of rows with a seen gap and of rows of a part are followed.
abbrev pub AnchorIsLinked : Type 0
AnchorIsLinked =
    (v : View) (log : List Event) (t : ℕ) (st : Stood (woods v.plan) v log) → t ≤ v.plan.trees → IsLink v.plan.trees st.forest (left_of t)

abbrev pub GappedRowIsLinked : Type 0
GappedRowIsLinked =
    (v : View) (log : List Event) (r : ℕ) (row : Row) (g : SeenGap) (st : Stood (woods v.plan) v log) → Holds v r row → row.gap ≡ Some g
    → IsLink v.plan.trees st.forest (left_of r) × IsLink v.plan.trees st.forest (right_of r)

abbrev pub PartRowIsLinked : Type 0
PartRowIsLinked =
    (v : View) (log : List Event) (t : ℕ) (top : Top) (score : ℕ) (cut : Cut) (q : ℕ) (st : Stood (woods v.plan) v log)
    → t < v.plan.trees → KnowsTop v t top score → HoldsPart (IsIn (has v)) t top (shown v []) cut → IsRow q cut
    → IsLink v.plan.trees st.forest (left_of q) × IsLink v.plan.trees st.forest (right_of q)

-- Each such link of a held row is 0 or names a further row, no row is named by two, and none leads back.
abbrev pub LinksNameFurtherRows : Type 0
LinksNameFurtherRows =
    (v : View) (log : List Event) (s : Slot) (st : Stood (woods v.plan) v log)
    → IsIn (has v) (row_with s) → IsLink v.plan.trees st.forest s
    → (link_in (shown v []) s ≡ 0)
    ⊎ ((r : ℕ) × (link_in (shown v []) s ≡ r + 1) × (v.plan.trees < r) × (r < rows_of v.plan))

abbrev pub NoRowIsNamedTwice : Type 0
NoRowIsNamedTwice =
    (v : View) (log : List Event) (s l : Slot) (r : ℕ) (st : Stood (woods v.plan) v log)
    → IsIn (has v) (row_with s) → IsIn (has v) (row_with l) → IsLink v.plan.trees st.forest s → IsLink v.plan.trees st.forest l
    → s ≢ l → link_in (shown v []) s ≡ r + 1 → link_in (shown v []) l ≡ r + 1 → ⊥

abbrev pub NoneLeadsBackToItself : Type 0
NoneLeadsBackToItself =
    (v : View) (log : List Event) (t q : ℕ) (st : Stood (woods v.plan) v log) → t < v.plan.trees
    → Leads (shown v []) (λ s. IsIn (has v) (row_with s) × IsLinkOf (st.forest.tree t) s) q q → ⊥

-- The pool's anchor names no row with a seen gap, and where the pass is licensed it names one.
abbrev pub PoolNamesNoGappedRow : Type 0
PoolNamesNoGappedRow =
    (v : View) (log : List Event) (r : ℕ) (row : Row) (g : SeenGap) → Stood (woods v.plan) v log
    → IsIn (has v) v.plan.trees → Holds v r row → row.gap ≡ Some g → (shown v [] v.plan.trees).left ≡ r + 1 → ⊥

abbrev pub LicensedFindsVacant : Type 0
LicensedFindsVacant =
    (v : View) (log : List Event) → Stood (woods v.plan) v log → v.licensed ≡ true → IsIn (has v) v.plan.trees
    → (q : ℕ) × ((shown v [] v.plan.trees).left ≡ q + 1)

-- A row with a seen gap shows a range.
abbrev pub GappedRowShowsRange : Type 0
GappedRowShowsRange =
    (v : View) (log : List Event) (r : ℕ) (row : Row) (g : SeenGap) → Stood (woods v.plan) v log → Holds v r row → row.gap ≡ Some g
    → IsInterval (node_of row.image).range

-- A part shows pairs of its tree, a closed one all that overlap its range, and the anchor's for the whole range all.
abbrev pub PartShowsPairsOfTree : Type 0
PartShowsPairsOfTree =
    (v : View) (log : List Event) (t : ℕ) (top : Top) (score : ℕ) (cut : Cut) (p : Pair) → Stood (woods v.plan) v log
    → t < v.plan.trees → KnowsTop v t top score → HoldsPart (IsIn (has v)) t top (shown v []) cut
    → Has p (pairs_in (shown v []) (bare cut)) → Has p (tree_at (after (setting_of v.plan) log) t).pairs

abbrev pub ClosedPartShowsAll : Type 0
ClosedPartShowsAll =
    (v : View) (log : List Event) (t : ℕ) (top : Top) (score : ℕ) (cut : Cut) (range : Interval) (p : Pair) → Stood (woods v.plan) v log
    → t < v.plan.trees → KnowsTop v t top score → HoldsPart (IsIn (has v)) t top (shown v []) cut → IsClosedFor range top (shown v []) cut
    → Has p (tree_at (after (setting_of v.plan) log) t).pairs → overlap p.range range ≡ true → Has p (pairs_in (shown v []) (bare cut))

abbrev pub WholePartShowsTree : Type 0
WholePartShowsTree =
    (v : View) (log : List Event) (t score : ℕ) (cut : Cut) → Stood (woods v.plan) v log
    → t < v.plan.trees → KnowsTop v t from_anchor score → HoldsPart (IsIn (has v)) t from_anchor (shown v []) cut
    → IsClosedFor whole from_anchor (shown v []) cut → pairs_in (shown v []) (bare cut) ≡ (tree_at (after (setting_of v.plan) log) t).pairs

-- A chain that is held whole with its anchor shows the buffer's pairs.
abbrev pub WholeChainShowsBuffer : Type 0
WholeChainShowsBuffer =
    (v : View) (log : List Event) (t owner count : ℕ) (chain : List ℕ) → Stood (woods v.plan) v log
    → AllHeld (IsIn (has v)) (t ∷ chain) → t < v.plan.trees → mode_of (images v t) ≡ Buffer owner count
    → IsChain (shown v []) (shown v [] t).left chain
    → (folded owner (shown v []) chain ≡ (tree_at (after (setting_of v.plan) log) t).pairs) × AllOf owner (shown v []) chain × (count ≡ length chain)
