use Rattle.std.proofs.Common.{◌≡◌, ◌+◌, ◌≤◌, length, Box}
use Rattle.std.specs.Global.{Global}
use Rattle.std.specs.List.{All}
use Rattle.std.specs.Vec.{vec_capacity}
use Rattle.lt_c.specs.declared.handle.Handle.{Handle}
use Rattle.lt_c.specs.Handles.{IsOn}
use Rattle.lt_c.specs.Opened.{IsOpenOn}
use Rattle.lt_c.proofs.opening.kept.Given as goal

-- there is room for the rest
abbrev pub invariant-loop-handle : goal.invariant-loop-handle
invariant-loop-handle l = record {
  rest : All (λ (b : Box Handle Global). IsOn l._table b.value) l.handle-iterator.rest.items;
  kept : All (IsOpenOn l._table) l.kept.items;
  count : length l.kept.items + length l.handle-iterator.rest.items ≡ length l.fn.handles.items;
  room : length l.fn.handles.items ≤ vec_capacity l.kept;
}
