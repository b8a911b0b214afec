-- A crew's passes, which are parted for the rounds and put together behind them.
use Rattle.std.specs.Prelude.{◌≡◌, ◌≤◌, List, [], map, length, false}
use Rattle.std.specs.List.{All, AllByRecursion}
use Rattle.lt_seq.specs.History.{IsLegal}
use Rattle.lt_seq.specs.Passes.{AreAll, front_of_first}
use Rattle.lt_seq.specs.Yard.{PassView, Origin}
use Rattle.lt_runner.specs.TurnView.{Seat}
use Rattle.lt_runner.specs.Notes.{notes_in}
use Rattle.lt_runner.specs.Played.{IsOver}
use Rattle.lt_crew.specs.declared.worker.Worker.{Worker}
use Rattle.lt_crew.specs.declared.playing.Played.{Played}
use Rattle.lt_crew.specs.RunCrew.{LeadsTo, bound_on}

-- each of these workers has one of the passes, and found memory
pub record ArePassesOf {P : Type 0} (passes : List P) (workers : List (Worker P)) : Type 0 where
  pub own : map (λ w. w.pass) workers ≡ passes
  pub memory : All (λ w. w.short ≡ false) workers

module _ {P : Type 0} (origin : P → Origin) (view : P → PassView) (place : Origin) where
  -- a pass whose notes were taken
  pub record IsEmptied (old new : P) : Type 0 where
    pub of : origin new ≡ place
    pub pass : view new ≡ record (view old) { notes = [] }

  -- what rounds leave, from the opening on to the end of all transactions
  pub record IsPlayedCrew (turns : List Seat) (played : Played P) : Type 0 where
    pub of : AllByRecursion (λ p. origin p ≡ place) played.passes.items
    pub all : AreAll place.setting (map view played.passes.items)
    pub legal : IsLegal place.setting (front_of_first (map view played.passes.items))
    pub leads : LeadsTo place.setting [] (front_of_first (map view played.passes.items)) turns played.turns.items
    pub over : AllByRecursion IsOver played.turns.items
    pub few : length (front_of_first (map view played.passes.items)) ≤ bound_on place.setting [] turns
    pub notes : played.notes.items ≡ notes_in place.setting (front_of_first (map view played.passes.items))
