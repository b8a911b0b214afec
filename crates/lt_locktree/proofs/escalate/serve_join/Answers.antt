use Rattle.std.proofs.Common.{subst}
use Rattle.lt_rows.specs.Handles.{knows}
use Rattle.lt_chain.specs.Buffers.{HoldsAnchor}
use Rattle.lt_chain.specs.Chains.{ShowsBuffer}
use Rattle.lt_locktree.proofs.PreparedAnchors.{anchor_there, buffer_there}
use Rattle.lt_locktree.proofs.escalate.serve_join.Goals as goal

pub join_of_buffer-note-requires-clause-anchor : goal.join_of_buffer-note-requires-clause-anchor
join_of_buffer-note-requires-clause-anchor c =
    let p = c.in-Ok.prepared in
    let w = knows c.into_pass-pass.result in
    subst (HoldsAnchor w) c.in-Ok.ensures.same.1 (anchor_there w p.tree p.image c.into_pass-pass.ensures.only)

pub join_of_buffer-note-requires-clause-buffer : goal.join_of_buffer-note-requires-clause-buffer
join_of_buffer-note-requires-clause-buffer c =
    let p = c.in-Ok.prepared in
    let w = knows c.into_pass-pass.result in
    subst (ShowsBuffer w) c.in-Ok.ensures.same.1
    (buffer_there w p.tree p.image c.anchor.result c.into_pass-pass.ensures.only c.anchor.ensures.mode c.if-anchor-eq0.false)
