-- The end of a table.
use Rattle.std.specs.Prelude.{◌≡◌, ℕ, List, [], ◌∷◌, length}
use Rattle.lt_rows.specs.declared.row_plan.RowPlan.{RowPlan}
use Rattle.lt_seq.specs.declared.event.Event.{Event}
use Rattle.lt_seq.specs.History.{after}
use Rattle.lt_rows.specs.Plan.{setting_of}
use Rattle.lt_seq.specs.Passes.{held_from}
use Rattle.lt_rows.specs.declared.view.Row.{Row}
use Rattle.lt_rows.specs.declared.table.RowTable.{RowTable}
use Rattle.lt_rows.specs.declared.pass.RowPass.{RowPass}
use Rattle.lt_rows.specs.declared.close.RowsLeft.{RowsLeft}
use Rattle.lt_rows.specs.Views.{Holds, used_after}
use Rattle.lt_rows.specs.Handles.{knows, IsPassOf}

-- the pass has all the rights, and holds no row
pub record HasAll (t : RowTable) (p : RowPass) : Type 0 where
  pub of : IsPassOf t p
  pub all : p.rights ≡ t.plan.passes
  pub none : (r : ℕ) (row : Row) → Holds (knows p) r row → ⊥

abbrev pub FirstHasAll : RowTable → List RowPass → Type 0
FirstHasAll t [] = ⊥
FirstHasAll t (p ∷ passes) = HasAll t p

abbrev pub front_of_first : List RowPass → List Event
front_of_first [] = []
front_of_first (p ∷ passes) = (knows p).front

-- what is answered where a table is closed after these events
pub record IsLeft (plan : RowPlan) (events : List Event) (rest : RowsLeft) : Type 0 where
  pub places : rest.places ≡ length events
  pub used : rest.used ≡ used_after plan events
  pub left : rest.left.items ≡ held_from 0 (after (setting_of plan) events)
