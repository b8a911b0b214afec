-- The seal and its parts own what a box at the same types owns.
use mir.Syntax.{impl, tnil, dnil}
use mathlib.Core.List.{[]}
use Rattle.std.proofs.Common.{◌≡◌, ◌≢◌, refl}
use Rattle.std.specs.declared.option.Option.{Option}
use Rattle.std.specs.declared.option.Option.TheVariants.{None, Some}
use denote.Signature.{Slot as Param, plain}
use Rattle.std_alloc.proofs.BoxSteps.Form.{Bx}
use Rattle.std_heap.specs.contracts.Global as Heap
use Rattle.std_heap.specs.contracts.GlobalAllocator.TheImpl.{ghosts, dict}
use Rattle.std_heap.proofs.Global.TheLaws as heap
use Rattle.lt_c.specs.contracts.handle.Handle as Table
use Rattle.lt_c.proofs.handle.Handle.TheLaws as table
use Rattle.lt_c.specs.contracts.slot.parts.Parts as Parts
use Rattle.lt_c.specs.contracts.slot.Slot as Slot

abbrev pub E : Bx
E = record { row = Table.the_row; laws = table.the_row_laws; al = record { row = Heap.the_row; laws = heap.the_row_laws; g = ghosts; d = dict; drops = impl [] tnil dnil } }

abbrev pub FromParts : Param 0
FromParts = plain (λ _. Parts.the_row Table.the_row Heap.the_row ghosts)

abbrev pub FromSlot : Param 0
FromSlot = plain (λ _. Slot.the_row)

pub some_of : {X : Type 0} → (h : Option X) → h ≢ None → (x : X) × (h ≡ Some x)
some_of None full = absurd (full refl)
some_of (Some x) full = (x, refl)
