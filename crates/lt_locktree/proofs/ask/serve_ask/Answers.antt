use Rattle.std.proofs.Common.{◌≡◌, ap, subst}
use Rattle.lt_seq.specs.declared.event.Deed.TheVariants.{Ask}
use Rattle.lt_rows.specs.declared.view.View.{View}
use Rattle.lt_rows.specs.Handles.{knows}
use Rattle.lt_tree.specs.States.{OnlyRows}
use Rattle.lt_tree.proofs.SeenLaws.{seen_rows}
use Rattle.lt_chain.specs.Buffers.{HoldsAnchor, MayAppend}
use Rattle.lt_locktree.specs.declared.answers.Asked.{Asked}
use Rattle.lt_locktree.proofs.AnchorsShown.{anchor_held, may_append}
use Rattle.lt_locktree.proofs.ReachedDeeds.{handed_on, copied_rows, copied_on, left_rows, left_on}
use Rattle.lt_locktree.proofs.ask.serve_ask.Goals as goal

pub begin_buffer-asked-requires-clause-anchor : goal.begin_buffer-asked-requires-clause-anchor
begin_buffer-asked-requires-clause-anchor c =
    let v : View = knows c.into_pass-pass.result in
    subst (HoldsAnchor v) c.in-Ok.ensures.same.1 (anchor_held v c.in-Ok.prepared.tree c.in-Ok.prepared.image c.into_pass-pass.ensures.only)

pub add_to_buffer-asked-requires-clause-anchor : goal.add_to_buffer-asked-requires-clause-anchor
add_to_buffer-asked-requires-clause-anchor c =
    let v : View = knows c.into_pass-pass-in-Own.result in
    subst (HoldsAnchor v) c.in-Ok.ensures.same.1 (anchor_held v c.in-Ok.prepared.tree c.in-Ok.prepared.image c.into_pass-pass-in-Own.ensures.only)

pub add_to_buffer-asked-requires-clause-appends : goal.add_to_buffer-asked-requires-clause-appends
add_to_buffer-asked-requires-clause-appends c =
    let v : View = knows c.into_pass-pass-in-Own.result in
    let a = c.args.call.2.now in
    let plan = c.args.call.1.now.plan in
    let p = c.in-Ok.prepared in (
      c.anchor.result.buffered,
      subst (λ t. MayAppend plan v t a.txn c.anchor.result.buffered) c.in-Ok.ensures.same.1
          (may_append v p.tree p.image c.anchor.result c.into_pass-pass-in-Own.ensures.only c.anchor.ensures.mode plan c.plan.result.now.buffer a.txn
          (ap (λ k. k.buffer) c.plan.ensures) c.in-Own.ensures),
    )

pub ask_of_buffer-asked-requires-clause-anchor : goal.ask_of_buffer-asked-requires-clause-anchor
ask_of_buffer-asked-requires-clause-anchor c =
    let v : View = knows c.into_pass-pass-in-Ending.result in
    subst (HoldsAnchor v) c.in-Ok.ensures.same.1 (anchor_held v c.in-Ok.prepared.tree c.in-Ok.prepared.image c.into_pass-pass-in-Ending.ensures.only)

pub returns-in-Err-clause-only : goal.returns-in-Err-clause-only
returns-in-Err-clause-only c = seen_rows (knows c.args.pass) (knows c.in-Err.pass) c.in-Err.ensures.only

pub returns-in-Tree-clause-made : goal.returns-in-Tree-clause-made
returns-in-Tree-clause-made c =
    let a = c.args.call.2.now in
    copied_on c.ask_tree.result.1 (knows c.args.pass) (knows c.in-Ok.prepared.pass) (knows c.ask_tree.result.0) a
    (λ (x : Asked). Ask a.tree a.range x.reply) (λ (x : Asked). x.place) (λ (x : Asked). x.copy ≡ x.reply)
    c.in-Ok.ensures.ready.1 c.ask_tree.ensures.made

pub returns-in-Tree-clause-only : goal.returns-in-Tree-clause-only
returns-in-Tree-clause-only c =
    left_on c.ask_tree.result.1 (knows c.args.pass) (knows c.in-Ok.prepared.pass) (knows c.ask_tree.result.0)
    c.in-Ok.ensures.ready.1 c.ask_tree.ensures.only

pub returns-in-Beginning-clause-made : goal.returns-in-Beginning-clause-made
returns-in-Beginning-clause-made c =
    let a = c.args.call.2.now in
    let u : View = knows c.into_pass-pass.result in
    let only : OnlyRows (knows c.args.pass) u =
    handed_on (knows c.args.pass) (knows c.in-Ok.prepared.pass) u c.in-Ok.ensures.ready.1 c.into_pass-pass.ensures.same in
    copied_rows c.begin_buffer-asked.result (knows c.args.pass) u (knows c.begin_buffer-asked.new.pass) a
    (λ (x : Asked). Ask a.tree a.range x.reply) (λ (x : Asked). x.place) (λ (x : Asked). x.copy ≡ x.reply)
    only c.begin_buffer-asked.ensures.made

pub returns-in-Beginning-clause-only : goal.returns-in-Beginning-clause-only
returns-in-Beginning-clause-only c =
    let u : View = knows c.into_pass-pass.result in
    let only : OnlyRows (knows c.args.pass) u =
    handed_on (knows c.args.pass) (knows c.in-Ok.prepared.pass) u c.in-Ok.ensures.ready.1 c.into_pass-pass.ensures.same in
    left_rows c.begin_buffer-asked.result (knows c.args.pass) u (knows c.begin_buffer-asked.new.pass) only c.begin_buffer-asked.ensures.only

pub returns-in-Own-clause-made : goal.returns-in-Own-clause-made
returns-in-Own-clause-made c =
    let a = c.args.call.2.now in
    let u : View = knows c.into_pass-pass-in-Own.result in
    let only : OnlyRows (knows c.args.pass) u =
    handed_on (knows c.args.pass) (knows c.in-Ok.prepared.pass) u c.in-Ok.ensures.ready.1 c.into_pass-pass-in-Own.ensures.same in
    copied_rows c.add_to_buffer-asked.result (knows c.args.pass) u (knows c.add_to_buffer-asked.new.pass) a
    (λ (x : Asked). Ask a.tree a.range x.reply) (λ (x : Asked). x.place) (λ (x : Asked). x.copy ≡ x.reply)
    only c.add_to_buffer-asked.ensures.made

pub returns-in-Own-clause-only : goal.returns-in-Own-clause-only
returns-in-Own-clause-only c =
    let u : View = knows c.into_pass-pass-in-Own.result in
    let only : OnlyRows (knows c.args.pass) u =
    handed_on (knows c.args.pass) (knows c.in-Ok.prepared.pass) u c.in-Ok.ensures.ready.1 c.into_pass-pass-in-Own.ensures.same in
    left_rows c.add_to_buffer-asked.result (knows c.args.pass) u (knows c.add_to_buffer-asked.new.pass) only
    c.add_to_buffer-asked.ensures.only

pub returns-in-Ending-clause-made : goal.returns-in-Ending-clause-made
returns-in-Ending-clause-made c =
    let a = c.args.call.2.now in
    let u : View = knows c.into_pass-pass-in-Ending.result in
    let only : OnlyRows (knows c.args.pass) u =
    handed_on (knows c.args.pass) (knows c.in-Ok.prepared.pass) u c.in-Ok.ensures.ready.1 c.into_pass-pass-in-Ending.ensures.same in
    copied_rows c.ask_of_buffer-asked.result (knows c.args.pass) u (knows c.ask_of_buffer-asked.new.pass) a
    (λ (x : Asked). Ask a.tree a.range x.reply) (λ (x : Asked). x.place) (λ (x : Asked). x.copy ≡ x.reply)
    only c.ask_of_buffer-asked.ensures.made

pub returns-in-Ending-clause-only : goal.returns-in-Ending-clause-only
returns-in-Ending-clause-only c =
    let u : View = knows c.into_pass-pass-in-Ending.result in
    let only : OnlyRows (knows c.args.pass) u =
    handed_on (knows c.args.pass) (knows c.in-Ok.prepared.pass) u c.in-Ok.ensures.ready.1 c.into_pass-pass-in-Ending.ensures.same in
    left_rows c.ask_of_buffer-asked.result (knows c.args.pass) u (knows c.ask_of_buffer-asked.new.pass) only
    c.ask_of_buffer-asked.ensures.only
