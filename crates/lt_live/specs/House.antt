-- What a pass hears from others, and what is known of it at every moment of a run.
use Rattle.std.specs.Prelude.{◌≡◌, ◌<◌, ◌≤◌}
use Rattle.lt_seq.specs.Table.{Setting}
use Rattle.lt_seq.specs.History.{IsFront}
use Rattle.lt_seq.specs.Yard.{PassView, IsPlan, IsSound}
use Rattle.lt_runner.specs.Notes.{HasOwnNotes}

-- what is known of a pass at every moment of a run
pub record IsPassFit (setting : Setting) (pass : PassView) : Type 0 where
  pub plan : IsPlan setting.plan
  pub number : pass.number < setting.plan.passes
  pub most : pass.rights ≤ setting.plan.passes
  pub sound : IsSound setting pass
  -- the notes of its own joins were not taken yet
  pub noted : HasOwnNotes setting pass

-- A pass that heard from others: its rights and its front alone may differ, and it has seen no less.
pub record Hears (old new : PassView) : Type 0 where
  pub number : new.number ≡ old.number
  pub mine : new.mine ≡ old.mine
  pub notes : new.notes ≡ old.notes
  pub front : IsFront old.front new.front
