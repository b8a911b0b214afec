use Rattle.std.proofs.Common.{◌≡◌, ◌+◌, length, Box}
use Rattle.std.specs.Arc.{arc_value}
use Rattle.std.specs.Global.{Global}
use Rattle.std.specs.List.{All}
use Rattle.lt_c.specs.declared.handle.Handle.{Handle}
use Rattle.lt_c.specs.Handles.{IsOn}
use Rattle.lt_c.specs.Sharing.{MayCall}
use Rattle.lt_c.proofs.opening.boxed.Given as goal

-- the rest may call, and the others are handles of the table
abbrev pub invariant-loop-pass : goal.invariant-loop-pass
invariant-loop-pass l = record {
  rest : All (MayCall (arc_value l.table)) l.pass-iterator.rest.items;
  made : All (λ (b : Box Handle Global). IsOn (arc_value l.table) b.value) l.made.items;
  count : length l.made.items + length l.pass-iterator.rest.items ≡ length l.fn.passes.items;
}
