-- A handle: a share of the table, and a pass of it.
use Rattle.std.specs.Prelude.{◌≡◌}
use Rattle.std.specs.Arc.{arc_value}
use Rattle.lt_rows.specs.declared.view.View.{View}
use Rattle.lt_locktree.specs.declared.locktree.Locktree.{Locktree}
use Rattle.lt_locktree.specs.Calls.{sees}
use Rattle.lt_c.specs.declared.answer.LtAnswer.{LtAnswer}
use Rattle.lt_c.specs.declared.handle.Handle.{Handle}
use Rattle.lt_c.specs.Told.{counted}

-- a handle behind a call: it is of the same table, and has counted the answer
pub record Keeps (old new : Handle) (answer : LtAnswer) : Type 0 where
  pub table : arc_value new.table ≡ arc_value old.table
  pub counts : new.counts ≡ counted old.counts answer

-- it is of this table
abbrev pub IsOn : Locktree → Handle → Type 0
IsOn t h = arc_value h.table ≡ t

abbrev pub view_in : Handle → View
view_in h = sees h.pass
