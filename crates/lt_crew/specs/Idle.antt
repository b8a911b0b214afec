-- The workers of a crew between two rounds.
use Rattle.std.specs.Prelude.{List}
use Rattle.std.specs.List.{All}
use Rattle.lt_seq.specs.declared.event.Event.{Event}
use Rattle.lt_seq.specs.Yard.{PassView, Origin}
use Rattle.lt_runner.specs.Notes.{HasOwnNotes}
use Rattle.lt_crew.specs.declared.worker.Worker.{Worker}
use Rattle.lt_crew.specs.Workers.{IsResting, AreNumbered}

-- They have seen the history, their passes are numbered from 1, and each pass has the notes of its own joins.
pub record AreIdle {P : Type 0} (origin : P → Origin) (view : P → PassView) (place : Origin) (history : List Event)
    (workers : List (Worker P)) : Type 0 where
  pub resting : All (IsResting origin view place history) workers
  pub numbers : AreNumbered view workers
  pub noted : All (λ w. HasOwnNotes place.setting (view w.pass)) workers
