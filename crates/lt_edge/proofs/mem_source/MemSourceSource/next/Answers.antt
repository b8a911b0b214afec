use Rattle.std.proofs.Common.{ap, sym, ◌∙◌, arith}
use Rattle.lt_edge.proofs.ByteLemmas.{reads_piece, reads_none}
use Rattle.lt_edge.specs.Memory.{SourceState}
use Rattle.lt_edge.proofs.mem_source.MemSourceSource.next.Goals as goal

pub returns-clause-bytes : goal.returns-clause-bytes
returns-clause-bytes c = (
  ap (λ (s : SourceState). s.left) (sym c.self.view_is)
      ∙ reads_piece _ _ c.self.inside.bytes.items _ _ (omega (arith, c.next_len-n.ensures)) (rw c.deref-2.ensures.value at c.copy_from_slice.ensures.after),
  λ none room. reads_none _ _ c.self.inside.piece _ _ c.self.inside.bytes.items (omega arith) (rw c.len.ensures at c.next_len-n.ensures) c.requires none,
)
