-- What holds between any two steps, of the table's words and of what its seats know.
use Rattle.std.specs.Prelude.{◌≡◌, ◌≢◌, ℕ, ℤ, ◌+◌, ◌<◌, ◌++◌, ◌∷◌, [], true, Some, List}
use mathlib.Core.Option.{some}
use lib.ListN.{get_elem?}
use Rattle.lt_ranges.specs.Interval.{Interval, overlap}
use Rattle.lt_seq.specs.declared.event.Event.{Event}
use Rattle.lt_seq.specs.declared.event.Pair.{Pair}
use Rattle.lt_seq.specs.declared.event.Mode.TheVariants.{Tree as TreeMode}
use Rattle.lt_rows.specs.declared.row_plan.RowPlan.{RowPlan}
use Rattle.lt_seq.specs.History.{after}
use Rattle.lt_rows.specs.Plan.{setting_of}
use Rattle.lt_seq.specs.Table.{tree_at}
use Rattle.lt_forest.specs.Counts.{times}
use Rattle.lt_forest.specs.Pairs.{Has}
use Rattle.lt_forest.specs.Trees.{pairs_in, pair_of}
use Rattle.lt_forest.specs.Cuts.{Cut, bare, IsRow}
use Rattle.lt_forest.specs.Plans.{Top, IsClosedFor}
use Rattle.lt_forest.specs.Links.{Slot, row_with, link_in, IsLink}
use Rattle.lt_forest.specs.Views.{IsIn, HoldsPart}
use Rattle.lt_rows.specs.declared.image.RowImage.{RowImage}
use Rattle.lt_rows.specs.declared.view.SeenGap.{SeenGap}
use Rattle.lt_rows.specs.declared.view.Row.{Row}
use Rattle.lt_rows.specs.declared.view.View.{View}
use Rattle.lt_rows.specs.Nodes.{nodes}
use Rattle.lt_rows.specs.Views.{Holds, has, used_after}
use Rattle.lt_rows.specs.Rule.{Table, Rows, total, weight}
use Rattle.lt_rows.specs.Woods.{woods}
use Rattle.lt_rows.specs.Lawful.{shown, KnowsTop, How, in_tree, begins_buffer, adds_to_buffer, ends_buffer, drops_buffer, asks_owner, IsCommit}

-- No two seats hold one row.
abbrev pub OneHolds : Type 0
OneHolds =
    (k : RowPlan) (s : Table) (i j : ℕ) (v u : View) (r : ℕ) (a b : Row)
    → Rows (woods k) k s → get_elem? s.views i ≡ some v → get_elem? s.views j ≡ some u → Holds v r a → Holds u r b → i ≡ j

-- A pass that has all the rights has seen the whole history, and no other seat holds a row.
abbrev pub AllRightsAreAlone : Type 0
AllRightsAreAlone =
    (k : RowPlan) (s : Table) (i : ℕ) (v : View) (rule : Rows (woods k) k s)
    → get_elem? s.views i ≡ some v → v.rights ≡ k.passes
    → (v.front ≡ rule.log) × ((j : ℕ) (u : View) (r : ℕ) (row : Row) → get_elem? s.views j ≡ some u → Holds u r row → j ≡ i)

-- A held row with a seen gap is a row of its tree, which is in Tree mode; a score of 100 that was read with the gap is the tree's.
abbrev pub GappedRowIsOfItsTree : Type 0
GappedRowIsOfItsTree =
    (k : RowPlan) (s : Table) (i : ℕ) (v : View) (r : ℕ) (row : Row) (g : SeenGap) (rule : Rows (woods k) k s)
    → get_elem? s.views i ≡ some v → Holds v r row → row.gap ≡ Some g
    → (g.tree < k.trees) × Has (pair_of (nodes rule.contents) r) (tree_at (after (setting_of k) rule.log) g.tree).pairs
    × (g.score ≡ 100 → (tree_at (after (setting_of k) rule.log) g.tree).mode ≡ TreeMode 100)

-- A closed part that a seat holds has every row of its tree that overlaps the range.
abbrev pub ClosedPartHasAllRows : Type 0
ClosedPartHasAllRows =
    (k : RowPlan) (s : Table) (i : ℕ) (v : View) (t : ℕ) (top : Top) (score : ℕ) (cut : Cut) (range : Interval) (p : Pair)
    (rule : Rows (woods k) k s)
    → get_elem? s.views i ≡ some v → v.plan ≡ k → t < k.trees → KnowsTop v t top score
    → HoldsPart (IsIn (has v)) t top (shown v []) cut → IsClosedFor range top (shown v []) cut
    → Has p (tree_at (after (setting_of k) rule.log) t).pairs → overlap p.range range ≡ true → Has p (pairs_in (shown v []) (bare cut))

-- Used rows and licensed seats are fewer than the limit and the passes, so there are vacant rows for all who may take one.
abbrev pub LimitIsKept : Type 0
LimitIsKept =
    (k : RowPlan) (s : Table) (rule : Rows (woods k) k s)
    → used_after k rule.log + total (λ v. weight v.licensed) s.views < k.limit + k.passes

module _ {k : RowPlan} {v : View} {e : Event} {plan : List RowImage} where
  -- rows of a tree or a chain that the commit gives to the pool
  abbrev pub IsGiven : How k v e plan → ℕ → Type 0
  IsGiven (in_tree w) q = IsRow q w.cut × (0 < times q w.given)
  IsGiven (begins_buffer w) q = ⊥
  IsGiven (adds_to_buffer w) q = ⊥
  IsGiven (ends_buffer w) q = (0 < times q w.olds) × (0 < times q w.given)
  IsGiven (drops_buffer w) q = 0 < times q (w.front ++ w.last ∷ [])
  IsGiven (asks_owner w) q = ⊥

  -- vacant rows that it puts into a tree or a chain
  abbrev pub IsTaken : How k v e plan → ℕ → Type 0
  IsTaken (in_tree w) q = 0 < times q w.taken
  IsTaken (begins_buffer w) q = q ≡ w.vacant
  IsTaken (adds_to_buffer w) q = q ≡ w.vacant
  IsTaken (ends_buffer w) q = 0 < times q w.taken
  IsTaken (drops_buffer w) q = ⊥
  IsTaken (asks_owner w) q = ⊥

-- No row is given to the pool that another seat holds, or to which a row leads that another seat holds.
abbrev pub NoneIsGivenAgain : Type 0
NoneIsGivenAgain =
    (k : RowPlan) (s : Table) (i j : ℕ) (v u : View) (e : Event) (plan : List RowImage) (change : ℤ) (q : ℕ)
    (rule : Rows (woods k) k s) (commit : IsCommit k v e plan change)
    → get_elem? s.views i ≡ some v → get_elem? s.views j ≡ some u → j ≢ i → IsGiven commit.how q
    → ((row : Row) → Holds u q row → ⊥)
    × ((l : Slot) (row : Row) → Holds u (row_with l) row → IsLink k.trees rule.forest l → link_in (nodes rule.contents) l ≡ q + 1 → ⊥)

-- A vacant row is put into a tree or a chain by a pass that holds it and the pool's anchor.
abbrev pub TakenIsHeld : Type 0
TakenIsHeld =
    (k : RowPlan) (v : View) (e : Event) (plan : List RowImage) (change : ℤ) (q : ℕ) (commit : IsCommit k v e plan change)
    → IsTaken commit.how q → IsIn (has v) q × IsIn (has v) k.trees
