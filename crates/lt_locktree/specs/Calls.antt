-- What the calls of a lock table of trees promise, by what a pass sees before and after.
use Rattle.std.specs.Prelude.{◌≡◌, ℕ, ◌+◌, ◌-◌, ◌≤◌, List, [], ◌∷◌, ◌++◌, length}
use Rattle.lt_seq.specs.declared.event.Deed.{Deed}
use Rattle.lt_seq.specs.declared.event.Deed.TheVariants.{Join}
use Rattle.lt_seq.specs.declared.event.Event.{Event}
use Rattle.lt_seq.specs.declared.event.JoinNote.{JoinNote}
use Rattle.lt_seq.specs.declared.fault.Fault.{Fault}
use Rattle.lt_seq.specs.History.{IsLegal}
use Rattle.lt_rows.specs.Plan.{setting_of}
use Rattle.lt_seq.specs.Yard.{note_after}
use Rattle.lt_rows.specs.declared.view.View.{View}
use Rattle.lt_rows.specs.Handles.{knows, IsPassOf}
use Rattle.lt_rows.specs.Rule.{IsOfOthers}
use Rattle.lt_tree.specs.States.{IsRefused}
use Rattle.lt_locktree.specs.declared.locktree.Locktree.{Locktree}
use Rattle.lt_locktree.specs.declared.tree_pass.TreePass.{TreePass}

abbrev pub sees : TreePass → View
sees p = knows p.pass

-- the pass was made for this table
abbrev pub IsOfTable : Locktree → TreePass → Type 0
IsOfTable t p = IsPassOf t.rows p.pass

-- the pass keeps its number and its rights
abbrev pub IsSame : View → View → Type 0
IsSame v w = (w.plan ≡ v.plan) × (w.mark ≡ v.mark) × (w.numbers ≡ v.numbers) × (w.rights ≡ v.rights)

-- and it is still of this table
abbrev pub StaysOf : Locktree → TreePass → TreePass → Type 0
StaysOf t p q = IsOfTable t q × IsSame (sees p) (sees q)

-- it has all the rights of this table
abbrev pub ClosesIt : Locktree → TreePass → Type 0
ClosesIt t p = IsOfTable t p × ((sees p).rights ≡ t.rows.plan.passes)

abbrev pub FirstClosesIt : Locktree → List TreePass → Type 0
FirstClosesIt t [] = ⊥
FirstClosesIt t (p ∷ passes) = ClosesIt t p

abbrev pub front_of_first : List TreePass → List Event
front_of_first [] = []
front_of_first (p ∷ passes) = (sees p).front

-- The deeds.

-- the event of a pass with this view
abbrev pub event_of : View → ℕ → Deed → Event
event_of v txn deed = record { pass = v.mark - 1; txn = txn; deed = deed }

-- A deed with one event: behind all that was new to the pass stands the event, and the history with it is legal.
pub record Makes (v w : View) (txn : ℕ) (deed : Deed) (place : ℕ) : Type 0 where
  pub rest : List Event
  pub alone : v.rights ≡ v.plan.passes → rest ≡ []
  pub own : IsOfOthers v rest
  pub place_is : place ≡ v.plan.first + length (v.front ++ rest)
  pub front : w.front ≡ (v.front ++ rest) ++ event_of v txn deed ∷ []
  pub legal : IsLegal (setting_of v.plan) w.front
  pub same : IsSame v w
  pub met : v.met ≤ w.met

-- A join, and its note: the pairs are the tree's behind it.
pub record Joins (v w : View) (txn tree : ℕ) (note : JoinNote) : Type 0 where
  pub made : Makes v w txn (Join tree note.before note.after) note.place
  pub note_is : note ≡ note_after (setting_of v.plan) (v.front ++ made.rest) tree

-- A deed that made no event, for this cause. The pass may have seen more of the history, which is legal where it was.
pub record Leaves (v w : View) (fault : Fault) : Type 0 where
  pub rest : List Event
  pub alone : v.rights ≡ v.plan.passes → rest ≡ []
  pub own : IsOfOthers v rest
  pub front : w.front ≡ v.front ++ rest
  pub legal : IsLegal (setting_of v.plan) v.front → IsLegal (setting_of v.plan) w.front
  pub same : IsSame v w
  pub met : v.met ≤ w.met
  pub cause : IsRefused v w fault
