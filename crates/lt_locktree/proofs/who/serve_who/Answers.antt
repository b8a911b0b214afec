use Rattle.std.proofs.Common.{◌≡◌, ℕ, subst}
use Rattle.lt_seq.specs.declared.event.Deed.TheVariants.{Who}
use Rattle.lt_rows.specs.declared.view.View.{View}
use Rattle.lt_rows.specs.Handles.{knows}
use Rattle.lt_tree.specs.States.{OnlyRows}
use Rattle.lt_tree.proofs.SeenLaws.{seen_rows}
use Rattle.lt_chain.specs.Buffers.{HoldsAnchor}
use Rattle.lt_locktree.specs.declared.answers.Named.{Named}
use Rattle.lt_chain.specs.Chains.{ShowsBuffer}
use Rattle.lt_locktree.proofs.AnchorsShown.{anchor_held, buffer_shown}
use Rattle.lt_locktree.proofs.ReachedDeeds.{handed_on, copied_rows, copied_on, left_rows, left_on}
use Rattle.lt_locktree.proofs.who.serve_who.Goals as goal

pub who_of_buffer-named-requires-clause-anchor : goal.who_of_buffer-named-requires-clause-anchor
who_of_buffer-named-requires-clause-anchor c =
    let v : View = knows c.into_pass-pass.result in
    subst (HoldsAnchor v) c.in-Ok.ensures.same.1 (anchor_held v c.in-Ok.prepared.tree c.in-Ok.prepared.image c.into_pass-pass.ensures.only)

pub who_of_buffer-named-requires-clause-buffer : goal.who_of_buffer-named-requires-clause-buffer
who_of_buffer-named-requires-clause-buffer c =
    let v : View = knows c.into_pass-pass.result in
    let p = c.in-Ok.prepared in
    subst (ShowsBuffer v) c.in-Ok.ensures.same.1
    (buffer_shown v p.tree p.image c.anchor-anchor.result c.into_pass-pass.ensures.only c.anchor-anchor.ensures.mode c.if-anchor-eq0.false)

pub returns-in-Err-clause-only : goal.returns-in-Err-clause-only
returns-in-Err-clause-only c = seen_rows (knows c.args.pass) (knows c.in-Err.pass) c.in-Err.ensures.only

pub returns-then-anchor-eq0-clause-made : goal.returns-then-anchor-eq0-clause-made
returns-then-anchor-eq0-clause-made c =
    let a = c.args.call.2.now in
    copied_on c.who_in_tree.result.1 (knows c.args.pass) (knows c.in-Ok.prepared.pass) (knows c.who_in_tree.result.0) a
    (λ (x : Named). Who a.tree a.range c.args.call.3 x.owners) (λ (x : Named). x.place) (λ (x : Named). x.copy ≡ x.owners)
    c.in-Ok.ensures.ready.1 c.who_in_tree.ensures.made

pub returns-then-anchor-eq0-clause-only : goal.returns-then-anchor-eq0-clause-only
returns-then-anchor-eq0-clause-only c =
    left_on c.who_in_tree.result.1 (knows c.args.pass) (knows c.in-Ok.prepared.pass) (knows c.who_in_tree.result.0)
    c.in-Ok.ensures.ready.1 c.who_in_tree.ensures.only

pub returns-clause-made : goal.returns-clause-made
returns-clause-made c =
    let a = c.args.call.2.now in
    let v : View = knows c.args.pass in
    let u : View = knows c.into_pass-pass.result in
    let only : OnlyRows v u =
    handed_on v (knows c.in-Ok.prepared.pass) u c.in-Ok.ensures.ready.1 c.into_pass-pass.ensures.same in
    copied_rows c.who_of_buffer-named.result v u (knows c.who_of_buffer-named.new.pass) a
    (λ (x : Named). Who a.tree a.range c.args.call.3 x.owners) (λ (x : Named). x.place) (λ (x : Named). x.copy ≡ x.owners)
    only c.who_of_buffer-named.ensures.made

pub returns-clause-only : goal.returns-clause-only
returns-clause-only c =
    let v : View = knows c.args.pass in
    let u : View = knows c.into_pass-pass.result in
    let only : OnlyRows v u =
    handed_on v (knows c.in-Ok.prepared.pass) u c.in-Ok.ensures.ready.1 c.into_pass-pass.ensures.same in
    left_rows c.who_of_buffer-named.result v u (knows c.who_of_buffer-named.new.pass) only c.who_of_buffer-named.ensures.only
