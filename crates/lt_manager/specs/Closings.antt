-- What the passes of a table that is closed have seen.
use Rattle.std.specs.Prelude.{◌≡◌, List, ◌++◌}
use Rattle.lt_seq.specs.declared.event.Event.{Event}
use Rattle.lt_seq.specs.History.{IsFront, calls_from}
use Rattle.lt_seq.specs.Table.{Setting}
use Rattle.lt_seq.specs.Yard.{PassView}
use Rattle.lt_rows.specs.declared.view.View.{View}
use Rattle.lt_rows.specs.Rule.{IsOfOthers}

-- what the pass had not seen of this history, others made
abbrev pub MissesOthers : List Event → View → Type 0
MissesOthers events v = (rest : List Event) × (events ≡ v.front ++ rest) × IsOfOthers v rest

-- it has seen a front of the history, and has the receipts of its own events
pub record HasItsCalls (setting : Setting) (events : List Event) (pass : PassView) : Type 0 where
  pub front : IsFront pass.front events
  pub mine : pass.mine ≡ calls_from setting.plan.first pass.number events
