-- A seat before the first draw.
use Rattle.std.specs.Prelude.{◌≡◌, ℕ, ◌<◌, List, []}
use Rattle.atomic_table.specs.Seated.{TableId}
use Rattle.lt_deal.specs.declared.seat.DealSeat.{DealSeat}
use Rattle.lt_deal.specs.declared.view.View.{View}

-- a seat that stands for all of them, before any draw
pub record IsFresh {T : Type 0} (workers : ℕ) (v : View T) : Type 0 where
  pub all : v.parts ≡ workers
  pub some_part : 0 < workers
  pub drew : v.drew ≡ []
  pub gave : v.gave ≡ []
  pub nones : v.nones ≡ 0

-- a seat of so many parts before the first draw
abbrev pub waiting : {T : Type 0} → ℕ → List T → View T
waiting n stock = record { parts = n; stock = stock; filling = 0; drew = []; gave = []; nones = 0 }

-- a seat of this table that knows the stock, and has drawn nothing
abbrev pub IsNewSeat : {T : Type 0} → TableId → List T → DealSeat T → Type 0
IsNewSeat z stock s = (s.place.table_id ≡ z) × (s.place.me ≡ (waiting 1 stock, []))
