use mir.Raw.{raw}
use denote.Memory.{lone}
use base.Shift.{Keyless}
use denote.RawPtr.{Ptr}
use denote.Struct.Struct.{exits_of}
use denote.Struct.Owning.{shape, fields, to}
use denote.Param.Send.{IsSend, AllSend, owning_send, struct_send, sendable}
use Rattle.std.proofs.Crossing as heap
use Rattle.std_alloc.proofs.SendSync.{quiet, lies}
use Rattle.std_heap.proofs.Global.TheSendSync as handle
use Rattle.std.specs.Global.{Global}
use Rattle.std.specs.declared.option.Option.{Option}
use Rattle.std.specs.declared.option.Option.TheVariants.{None, Some}
use Rattle.lt_c.specs.contracts.handle.Handle as Table
use Rattle.lt_c.proofs.handle.Handle.TheSendSync.{the_send as table}
use Rattle.lt_c.specs.contracts.slot.Slot.{the_row, the_type}
use Rattle.lt_c.specs.Slot.{slot_owns}

crosses : (a : Global) (p : Ptr) (h : Option Table.the_row.Denot) → Keyless (slot_owns a p h)
crosses a p None = tt
crosses a p (Some v) = (lies Table.the_row table p v, heap.frees.frees a (raw (lone Table.the_row.mir)) p)

pub send : IsSend the_row
send =
    let all : AllSend (fields the_type) = (search sendable, (handle.the_field_send, tt)) in
    owning_send the_type all (λ d. crosses d.alloc d.ptr d.held)
    (λ k. quiet (to the_type) (exits_of k (fields the_type)) ((struct_send (shape the_type) all).leaving k))
