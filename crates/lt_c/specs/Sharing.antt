-- The passes of a new table, with the rights spread.
use Rattle.std.specs.Prelude.{◌<◌}
use Rattle.lt_locktree.specs.declared.locktree.Locktree.{Locktree}
use Rattle.lt_locktree.specs.declared.tree_pass.TreePass.{TreePass}
use Rattle.lt_locktree.specs.Calls.{sees, IsOfTable}

-- a pass of the table that has a right
abbrev pub MayCall : Locktree → TreePass → Type 0
MayCall t p = IsOfTable t p × (0 < (sees p).rights)
