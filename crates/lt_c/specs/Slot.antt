-- What the pointer that C keeps owns: a box with the handle, or nothing.
use base.Fml.{Fml, ftrue}
use base.Stored.{Coded}
use denote.RawPtr.{Ptr}
use Rattle.std.specs.Coded.{coded_option}
use Rattle.std.specs.Box.Ownership.{box_owns}
use Rattle.std.specs.Global.{Global}
use Rattle.std.specs.declared.option.Option.{Option}
use Rattle.std.specs.declared.option.Option.TheVariants.{None, Some}
use Rattle.std_heap.specs.contracts.GlobalAllocator.TheImpl.{ghosts}
use Rattle.lt_c.specs.contracts.handle.Handle.{the_row}

abbrev pub slot_owns : Global → Ptr → Option the_row.Denot → Fml
slot_owns alloc p None = ftrue
slot_owns alloc p (Some v) = box_owns (ghosts.dealloc_token alloc) the_row p v

abbrev pub slot_coded : Coded (Option the_row.Denot)
slot_coded = coded_option the_row.coded
