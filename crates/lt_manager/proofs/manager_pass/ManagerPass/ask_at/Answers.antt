use Rattle.std.proofs.Common.{◌≡◌, ◌<◌, List, [], ◌∷◌, ◌++◌, ◌∙◌, Ok, Err, refl, sym, ap, subst, rules}
use Rattle.lt_seq.specs.declared.event.Deed.{Deed}
use Rattle.lt_seq.specs.declared.event.Deed.TheVariants.{Ask}
use Rattle.lt_seq.specs.declared.event.Reply.{Reply}
use Rattle.lt_seq.specs.declared.event.Reply.TheVariants.{Granted}
use Rattle.lt_seq.specs.declared.event.Receipt.{Receipt}
use Rattle.lt_seq.specs.declared.fault.Fault.TheVariants.{OutOfMemory}
use Rattle.lt_rows.specs.Plan.{setting_of}
use Rattle.lt_seq.specs.Yard.{IsSound, place_after, places_end}
use Rattle.lt_locktree.specs.Calls.{sees, event_of}
use Rattle.lt_manager.specs.Views.{Kept, view_of, view_with}
use Rattle.lt_manager.proofs.BehindLaws.{behind_of, behind_same, behind_left, behind_left_sound, behind_made, behind_made_sound}
use Rattle.lt_manager.proofs.ReceiptLaws.{receipt_is, receipt_kept}
use Rattle.lt_manager.proofs.manager_pass.ManagerPass.ask_at.Goals as goal

-- the place, from the pass to its parts
roomy : (p k : Kept) → k ≡ p → place_after (setting_of (sees p.pass).plan) (sees p.pass).front < places_end
    → place_after (setting_of (sees k.pass).plan) (sees k.pass).front < places_end
roomy p k is room = subst (λ (x : Kept). place_after (setting_of (sees x.pass).plan) (sees x.pass).front < places_end) (sym is) room

-- want of memory before the event
pub returns-in_err-reserve-clause-answer : goal.returns-in_err-reserve-clause-answer
returns-in_err-reserve-clause-answer c =
    let inside = c.self.inside in
    let k : Kept = record { pass = inside.pass; mine = inside.mine.items; notes = inside.notes.items } in
    let deed = Ask c.args.tree c.args.range.now Granted in
    behind_of k c.args.self.now c.self.view_is (view_of k) (view_with (sees inside.pass) c.reserve.new.self.items inside.notes.items)
    (λ i. view_with (sees inside.pass) (c.reserve.ensures.items i) inside.notes.items)
    c.args.txn deed (Err OutOfMemory) c.from_residual.result (search rules) (behind_same k c.args.txn deed)

-- the ask made no event
pub invariant_of-self-in_err-place : goal.invariant_of-self-in_err-place
invariant_of-self-in_err-place c =
    let inside = c.self.inside in
    let k : Kept = record { pass = inside.pass; mine = inside.mine.items; notes = inside.notes.items } in
    let w = sees c.ask.new.pass in
    subst (λ (mine : List Receipt). IsSound (setting_of w.plan) (view_with w mine inside.notes.items)) (sym c.reserve.ensures.items)
    (behind_left_sound k w (roomy c.args.self.now k c.self.view_is c.requires.room)
    c.in_err-place.field-0.0 c.self.invariant c.in_err-place.ensures.left)

pub returns-in_err-place-clause-answer : goal.returns-in_err-place-clause-answer
returns-in_err-place-clause-answer c =
    let inside = c.self.inside in
    let k : Kept = record { pass = inside.pass; mine = inside.mine.items; notes = inside.notes.items } in
    let w = sees c.ask.new.pass in
    let deed = Ask c.args.tree c.args.range.now Granted in
    behind_of k c.args.self.now c.self.view_is (view_with w k.mine k.notes) (view_with w c.reserve.new.self.items k.notes)
    (λ i. view_with w (c.reserve.ensures.items i) k.notes)
    c.args.txn deed (Err c.in_err-place.field-0.0) c.from_residual-in_err-place.result (search rules)
    (behind_left k w (roomy c.args.self.now k c.self.view_is c.requires.room)
    c.in_err-place.field-0.0 c.args.txn deed c.in_err-place.ensures.left)

-- or it made one
made_receipt : goal.After-receipt-2 → Receipt
made_receipt c = record {
  place = c.in_ok-place.field-0.place;
  event = event_of (sees c.self.inside.pass) c.args.txn (Ask c.args.tree c.args.range.now c.in_ok-place.field-0.reply);
}

kept_receipt : (c : goal.After-receipt-2) → c.push_reserved.new.self.items ≡ c.self.inside.mine.items ++ made_receipt c ∷ []
unfolding made_receipt
kept_receipt c =
    let asked = c.in_ok-place.field-0 in
    receipt_kept (sees c.self.inside.pass) c.number-pass.result asked.place c.args.txn (Ask c.args.tree c.args.range.now asked.reply)
    c.receipt.result c.number-pass.ensures.0 c.receipt.ensures
    c.push_reserved.new.self.items c.reserve.new.self.items c.self.inside.mine.items c.push_reserved.ensures.items c.reserve.ensures.items

answered_receipt : (c : goal.After-receipt-2) → c.receipt-2.result ≡ made_receipt c
unfolding made_receipt
answered_receipt c =
    let asked = c.in_ok-place.field-0 in
    let copy : asked.copy ≡ asked.reply = c.in_ok-place.ensures.made.1 in
    let deed = λ (r : Reply). Ask c.args.tree c.args.range.now r in
    receipt_is (sees c.self.inside.pass) c.number-pass.result asked.place c.args.txn (deed asked.reply)
    c.receipt-2.result c.number-pass.ensures.0 (c.receipt-2.ensures
    ∙ λ i. record { place = asked.place; event = record { pass = c.number-pass.result; txn = c.args.txn; deed = deed (copy i) } })

pub invariant_of-self-2 : goal.invariant_of-self-2
unfolding made_receipt
invariant_of-self-2 c =
    let inside = c.self.inside in
    let k : Kept = record { pass = inside.pass; mine = inside.mine.items; notes = inside.notes.items } in
    let w = sees c.ask.new.pass in
    let asked = c.in_ok-place.field-0 in
    subst (λ (mine : List Receipt). IsSound (setting_of w.plan) (view_with w mine inside.notes.items)) (sym (kept_receipt c))
    (behind_made_sound k w (roomy c.args.self.now k c.self.view_is c.requires.room) c.args.txn asked.place
    (Ask c.args.tree c.args.range.now asked.reply) c.in_ok-place.ensures.made.0 inside.notes.items c.self.invariant)

pub returns-clause-answer : goal.returns-clause-answer
unfolding made_receipt
returns-clause-answer c =
    let inside = c.self.inside in
    let k : Kept = record { pass = inside.pass; mine = inside.mine.items; notes = inside.notes.items } in
    let w = sees c.ask.new.pass in
    let asked = c.in_ok-place.field-0 in
    let deed : Deed = Ask c.args.tree c.args.range.now asked.reply in
    behind_of k c.args.self.now c.self.view_is (view_with w (k.mine ++ made_receipt c ∷ []) k.notes)
    (view_with w c.push_reserved.new.self.items k.notes) (λ i. view_with w (kept_receipt c i) k.notes)
    c.args.txn (Ask c.args.tree c.args.range.now Granted) (Ok (made_receipt c)) (Ok c.receipt-2.result) (ap Ok (answered_receipt c))
    (behind_made k w (roomy c.args.self.now k c.self.view_is c.requires.room)
    c.args.txn asked.place deed c.in_ok-place.ensures.made.0 k.notes refl)
