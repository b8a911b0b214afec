use Rattle.std.proofs.Common.{◌≡◌, ◌-◌, length, min, max, refl, sym, ◌∙◌, arith}
use Rattle.lt_edge.proofs.ByteLemmas.{reads_piece, reads_none}
use Rattle.lt_edge.proofs.no_fail_source.NoFailSourceSource.next.Goals as goal

pub returns-clause-bytes : goal.returns-clause-bytes
returns-clause-bytes c =
    let items = c.self.inside.bytes.items in
    let at = c.self.inside.at in
    let n = c.min-n.result in
    let size = length items in
    let room = length c.args.buf.now in (
      sym c.self.view_is ∙ reads_piece at n items _ _ (omega (arith, c.min-n.ensures)) (rw c.deref.ensures.value at c.copy_from_slice.ensures.after),
      λ none here. (let least : n ≡ min (max size 1) (min room (size - at)) = omega (arith, c.min-n.ensures, c.len.ensures) in
          reads_none at n size room size items refl least c.requires none),
    )
