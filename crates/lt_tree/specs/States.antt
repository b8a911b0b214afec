-- What the states of a search say of the pass's view.
use Rattle.std.specs.Prelude.{◌≡◌, ◌≢◌, ℕ, ◌+◌, ◌<◌, ◌≤◌, List, [], ◌++◌, None}
use Rattle.lt_seq.specs.declared.event.Event.{Event}
use Rattle.lt_seq.specs.History.{IsLegal}
use Rattle.lt_rows.specs.Plan.{setting_of}
use Rattle.lt_seq.specs.declared.fault.Fault.{Fault}
use Rattle.lt_seq.specs.declared.fault.Fault.TheVariants.{Busy, OutOfMemory, HistoryFull, OutOfLocks}
use Rattle.lt_forest.specs.Views.{IsIn}
use Rattle.lt_rows.specs.declared.view.View.{View}
use Rattle.lt_rows.specs.declared.image.RowImage.{RowImage}
use Rattle.lt_rows.specs.declared.take.Take.{Take}
use Rattle.lt_rows.specs.declared.take.Take.TheVariants.{Taken, HeldBy}
use Rattle.lt_rows.specs.Views.{IsHeld, row_at, has, words_of, images}
use Rattle.lt_rows.specs.Rule.{IsOfOthers}
use Rattle.lt_rows.specs.Handles.{Tries}

-- the view holds no row
abbrev pub HoldsNone : View → Type 0
HoldsNone v = (r : ℕ) → row_at v r ≡ None

-- it holds no row but this
abbrev pub HoldsOnly : View → ℕ → Type 0
HoldsOnly v r = (q : ℕ) → IsHeld v q → q ≡ r

-- only what it met may differ
abbrev pub OnlyMet : View → View → Type 0
OnlyMet v w = (w ≡ record v { met = w.met; met_row = w.met_row; met_mark = w.met_mark }) × (v.met ≤ w.met)

-- only what it holds may differ
abbrev pub OnlyHeld : View → View → Type 0
OnlyHeld v w = w ≡ record v { held = w.held }

-- only what it holds and what it met may differ: it has looked and committed nothing meanwhile
abbrev pub OnlyRows : View → View → Type 0
OnlyRows v w = (w ≡ record v { held = w.held; met = w.met; met_row = w.met_row; met_mark = w.met_mark }) × (v.met ≤ w.met)

-- Only what it holds, what it met, and what it has seen of others' events may differ: it has committed nothing meanwhile.
pub record SeesOn (v w : View) : Type 0 where
  pub rest : List Event
  pub view : w ≡ record v {
    held = w.held;
    front = v.front ++ rest;
    all = w.all;
    learned = w.learned;
    met = w.met;
    met_row = w.met_row;
    met_mark = w.met_mark;
  }
  pub own : IsOfOthers v rest
  -- with all the rights nothing was new to it
  pub alone : v.rights ≡ v.plan.passes → rest ≡ []
  pub legal : IsLegal (setting_of v.plan) v.front → IsLegal (setting_of v.plan) w.front
  pub met : v.met ≤ w.met

-- the rows that it held it still holds as they were
abbrev pub KeepsRows : View → View → Type 0
KeepsRows v w = (q : ℕ) → IsHeld v q → row_at w q ≡ row_at v q

-- at most this row is held otherwise than before
abbrev pub HoldsElse : ℕ → View → View → Type 0
HoldsElse r v w = (q : ℕ) → q ≢ r → row_at w q ≡ row_at v q

-- the same rows are held, each as it was
abbrev pub HoldsSame : View → View → Type 0
HoldsSame v w = (q : ℕ) → row_at w q ≡ row_at v q

-- several tries to take a row; all fail only where others were met, which never comes to a pass with all the rights
abbrev pub Seizes : ℕ → View → View → Take → Type 0
Seizes row v w Taken = (u : View) × OnlyMet v u × Tries row u w Taken
Seizes row v w (HeldBy p) =
    OnlyMet v w × (v.met < w.met) × (w.met_row ≡ row) × (w.met_mark ≡ p + 1) × (v.rights < v.plan.passes)

-- it holds the row, of which these are the words, and they count
abbrev pub HasWords : View → ℕ → List ℕ → Type 0
HasWords v r ws = IsIn (has v) r × (words_of (row_at v r) ≡ ws) × (images v r ≡ ws)

-- a row that it holds, with its words
abbrev pub image_at : View → ℕ → RowImage
image_at v r = record { row = r; words = words_of (row_at v r) }

-- it holds the tree's anchor alone, with these words
abbrev pub IsPrepared : View → ℕ → RowImage → Type 0
IsPrepared v tree anchor = HasWords v tree anchor.words × (anchor.row ≡ tree) × HoldsOnly v tree

-- Why a search gave up: want of memory, or a row was met that another pass holds. It names the row and the pass that were met
-- last. This never comes to a pass with all the rights.
abbrev pub IsRefused : View → View → Fault → Type 0
IsRefused v w OutOfMemory = Unit {0}
IsRefused v w (Busy row holder) =
    (v.met < w.met) × (w.met_row ≡ row) × (w.met_mark ≡ holder + 1) × (v.rights < v.plan.passes)
IsRefused v w (HistoryFull place) = ⊥
IsRefused v w (OutOfLocks place used) = ⊥

-- this row was met
abbrev pub IsBusyAt : ℕ → Fault → Type 0
IsBusyAt row OutOfMemory = ⊥
IsBusyAt row (Busy r holder) = r ≡ row
IsBusyAt row (HistoryFull place) = ⊥
IsBusyAt row (OutOfLocks place used) = ⊥
