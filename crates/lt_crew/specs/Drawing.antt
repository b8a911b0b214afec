-- Transactions that a pass draws from a deal, plays and gives back.
use Rattle.std.specs.Prelude.{◌≡◌, ℕ, ◌<◌, ◌≤◌, Bool, true, false, List, [], ◌∷◌, ◌++◌, length, map, slice_index_or, Option, None, Some}
use Rattle.std.specs.List.{All, AllByRecursion}
use Rattle.lt_seq.specs.Table.{Setting}
use Rattle.lt_seq.specs.Yard.{PassView}
use Rattle.lt_runner.specs.TurnView.{Seat}
use Rattle.lt_runner.specs.Seats.{opening_seat}
use Rattle.lt_runner.specs.PlaysOn.{PlaysOn, IsFit}
use Rattle.lt_runner.specs.Work.{Spends}
use Rattle.lt_runner.specs.Notes.{KeepsNotes}
use Rattle.lt_deal.specs.declared.view.View.{View}
use Rattle.lt_deal.specs.declared.seat.DealSeat.{DealSeat}
use Rattle.lt_deal.specs.declared.deal.Deal.{Deal}
use Rattle.lt_deal.specs.Rule.{times, Gave, spent}
use Rattle.lt_deal.specs.Handles.{knows, IsSeatOf, Rests}
use Rattle.lt_crew.specs.Crew.{PlaysAll, SpendsAll, IsPlayedOut}
use Rattle.lt_crew.specs.Workers.{EachPair}

-- what stands for an index that no transaction has
abbrev pub nobody : Seat
nobody = opening_seat 0 0 []

-- the transactions at these indexes
abbrev pub drawn : List Seat → List ℕ → List Seat
drawn stock indexes = map (λ k. slice_index_or stock k nobody) indexes

-- the indexes, and the transactions, that were given back
abbrev pub indexes_of : List (ℕ × Seat) → List ℕ
indexes_of gave = map (λ (g : ℕ × Seat). g.0) gave

abbrev pub given : List (ℕ × Seat) → List Seat
given gave = map (λ (g : ℕ × Seat). g.1) gave

-- what a seat of a deal of these knows that gave back each that it drew, and drew none twice
pub record IsUsed (stock : List Seat) (v : View Seat) : Type 0 where
  pub stocked : v.stock ≡ stock
  pub returned : indexes_of v.gave ≡ v.drew
  pub inside : AllByRecursion (λ k. k < length stock) v.drew
  pub once : (k : ℕ) → times k v.drew ≤ 1

-- a pass played all these as far as it can
pub record PlaysOut (setting : Setting) (old new : PassView) (were are : List Seat) : Type 0 where
  pub plays : PlaysAll setting [] old new were are
  pub spends : SpendsAll setting old new were are
  pub fit : All (IsFit setting) are
  pub out : EachPair IsPlayedOut were are

-- a pass played all that its seat drew
pub record IsDrawn (setting : Setting) (stock : List Seat) (old new : PassView) (v : View Seat) : Type 0 where
  pub used : IsUsed stock v
  pub noted : KeepsNotes setting old new
  pub plays : PlaysOut setting old new (drawn stock v.drew) (given v.gave)

-- a pass played one that its seat drew
pub record DrewOne (setting : Setting) (old new : PassView) (was is : View Seat) : Type 0 where
  pub index : ℕ
  pub item : Seat
  pub turn : Seat
  pub inside : index < length was.stock
  pub at : item ≡ slice_index_or was.stock index nobody
  pub new_one : (y : Seat) → Gave was.gave index y → ⊥
  pub knows_is : is ≡ record was { drew = was.drew ++ index ∷ []; gave = was.gave ++ (index, turn) ∷ [] }
  pub noted : KeepsNotes setting old new
  pub plays : PlaysOn setting [] old new item turn
  pub spends : Spends setting old new item turn
  pub fit : IsFit setting turn
  pub out : IsPlayedOut item turn

-- by whether one was left
abbrev pub DrawsOn : Bool → Setting → PassView → PassView → View Seat → View Seat → Type 0
DrawsOn true setting old new was is = DrewOne setting old new was is
DrawsOn false setting old new was is = (new ≡ old) × (is ≡ record was { nones = 1 })

-- what a worker's seat knows, where it has one
abbrev pub known : Option (DealSeat Seat) → View Seat
known None = spent
known (Some seat) = knows seat

-- it has a seat of this deal, which holds none
abbrev pub HasSeat : Deal Seat → Option (DealSeat Seat) → Type 0
HasSeat deal None = ⊥
HasSeat deal (Some seat) = IsSeatOf deal seat × Rests seat
