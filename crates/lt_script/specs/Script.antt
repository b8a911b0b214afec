-- Scripts as contracts see them.
use Rattle.std.specs.Prelude.{ℕ, List}
use Rattle.lt_store.specs.declared.op.Move.{Move}

pub record ScriptView : Type 0 where
  pub limit : ℕ
  pub moves : List Move
