use Rattle.std.proofs.Common.{arith}
use Rattle.std.proofs.lemmas.List.{length-take}
use Rattle.lt_edge.proofs.ByteLemmas.{loses_piece, on_any_err}
use Rattle.lt_edge.proofs.reading.read_all.Goals as goal

pub returns-in_err-extend_from_slice-clause-lost : goal.returns-in_err-extend_from_slice-clause-lost
returns-in_err-extend_from_slice-clause-lost g c =
    on_any_err c.from_residual.result (loses_piece _ _ _ c.pieces.all.items _ c.in-Ok.n c.args.limit c.pieces.invariant.0 c.in-Ok.ensures.bytes.0 (omega (arith, c.in-Ok.ensures.bound, length-take c.min-room.result c.pieces.buf)))
