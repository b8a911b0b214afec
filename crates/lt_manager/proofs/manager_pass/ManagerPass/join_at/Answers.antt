use Rattle.std.proofs.Common.{rules, ◌<◌, ◌≡◌, ◌∙◌, List, [], ◌∷◌, ◌++◌, Ok, Err, sym, ap, subst}
use Rattle.lt_seq.specs.declared.event.Deed.{Deed}
use Rattle.lt_seq.specs.declared.event.Deed.TheVariants.{Join}
use Rattle.lt_seq.specs.declared.event.Receipt.{Receipt}
use Rattle.lt_seq.specs.declared.fault.Fault.TheVariants.{OutOfMemory}
use Rattle.lt_seq.specs.Questions.{question}
use Rattle.lt_rows.specs.Plan.{setting_of}
use Rattle.lt_seq.specs.Yard.{IsSound, place_after, places_end, noted}
use Rattle.lt_locktree.specs.Calls.{sees, event_of}
use Rattle.lt_manager.specs.Views.{Kept, view_of, view_with}
use Rattle.lt_manager.proofs.BehindLaws.{behind_of, behind_same, behind_left, behind_left_sound, behind_made, behind_made_sound}
use Rattle.lt_manager.proofs.ReceiptLaws.{receipt_is, receipt_kept}
use Rattle.lt_manager.proofs.manager_pass.ManagerPass.join_at.Goals as goal

-- want of memory before the event
pub returns-in_err-reserve-clause-answer : goal.returns-in_err-reserve-clause-answer
returns-in_err-reserve-clause-answer c =
    let inside = c.self.inside in
    let k : Kept = record { pass = inside.pass; mine = inside.mine.items; notes = inside.notes.items } in
    let now : Kept = record { pass = inside.pass; mine = c.reserve.new.self.items; notes = inside.notes.items } in
    behind_of k c.args.self.now c.self.view_is (view_of k) (view_of now)
    (λ i. view_with (sees inside.pass) (c.reserve.ensures.items i) inside.notes.items)
    c.args.txn (Join c.args.tree 0 0) (Err OutOfMemory) c.from_residual.result (search rules)
    (behind_same k c.args.txn (Join c.args.tree 0 0))

pub returns-in_err-reserve-2-clause-answer : goal.returns-in_err-reserve-2-clause-answer
returns-in_err-reserve-2-clause-answer c =
    let inside = c.self.inside in
    let k : Kept = record { pass = inside.pass; mine = inside.mine.items; notes = inside.notes.items } in
    let now : Kept = record { pass = inside.pass; mine = c.reserve.new.self.items; notes = c.reserve-2.new.self.items } in
    behind_of k c.args.self.now c.self.view_is (view_of k) (view_of now)
    (λ i. view_with (sees inside.pass) (c.reserve.ensures.items i) (c.reserve-2.ensures.items i))
    c.args.txn (Join c.args.tree 0 0) (Err OutOfMemory) c.from_residual-in_err-reserve-2.result (search rules)
    (behind_same k c.args.txn (Join c.args.tree 0 0))

-- the join made no event
pub invariant_of-self-in_err-note : goal.invariant_of-self-in_err-note
invariant_of-self-in_err-note c =
    let inside = c.self.inside in
    let k : Kept = record { pass = inside.pass; mine = inside.mine.items; notes = inside.notes.items } in
    let w = sees c.escalate.new.pass in
    subst (λ (x : Kept). IsSound (setting_of w.plan) (view_with w x.mine x.notes))
    (λ i. record { pass = inside.pass; mine = sym c.reserve.ensures.items i; notes = sym c.reserve-2.ensures.items i })
    (behind_left_sound k w (subst (λ (x : Kept). place_after (setting_of (sees x.pass).plan) (sees x.pass).front < places_end)
    (sym c.self.view_is) c.requires.room)
    c.in_err-note.field-0.0 c.self.invariant c.in_err-note.ensures.left)

pub returns-in_err-note-clause-answer : goal.returns-in_err-note-clause-answer
returns-in_err-note-clause-answer c =
    let inside = c.self.inside in
    let k : Kept = record { pass = inside.pass; mine = inside.mine.items; notes = inside.notes.items } in
    let w = sees c.escalate.new.pass in
    let deed = Join c.args.tree 0 0 in
    behind_of k c.args.self.now c.self.view_is (view_with w k.mine k.notes)
    (view_with w c.reserve.new.self.items c.reserve-2.new.self.items)
    (λ i. view_with w (c.reserve.ensures.items i) (c.reserve-2.ensures.items i))
    c.args.txn deed (Err c.in_err-note.field-0.0) c.from_residual-in_err-note.result (search rules)
    (behind_left k w (subst (λ (x : Kept). place_after (setting_of (sees x.pass).plan) (sees x.pass).front < places_end)
    (sym c.self.view_is) c.requires.room)
    c.in_err-note.field-0.0 c.args.txn deed c.in_err-note.ensures.left)

-- or it made one
made_receipt : goal.After-receipt-2 → Receipt
made_receipt c = record {
  place = c.in_ok-note.note.place;
  event = event_of (sees c.self.inside.pass) c.args.txn (Join c.args.tree c.in_ok-note.note.before c.in_ok-note.note.after);
}

kept_receipt : (c : goal.After-receipt-2) → c.push_reserved-2.new.self.items ≡ c.self.inside.mine.items ++ made_receipt c ∷ []
unfolding made_receipt
kept_receipt c =
    receipt_kept (sees c.self.inside.pass) c.number-pass.result c.in_ok-note.note.place c.args.txn
    (Join c.args.tree c.in_ok-note.note.before c.in_ok-note.note.after) c.receipt.result c.number-pass.ensures.0 c.receipt.ensures
    c.push_reserved-2.new.self.items c.reserve.new.self.items c.self.inside.mine.items c.push_reserved-2.ensures.items
    c.reserve.ensures.items

pub invariant_of-self-2 : goal.invariant_of-self-2
unfolding made_receipt
invariant_of-self-2 c =
    let inside = c.self.inside in
    let k : Kept = record { pass = inside.pass; mine = inside.mine.items; notes = inside.notes.items } in
    let w = sees c.escalate.new.pass in
    let note = c.in_ok-note.note in
    subst (λ (mine : List Receipt). IsSound (setting_of w.plan) (view_with w mine c.push_reserved.new.self.items)) (sym (kept_receipt c))
    (behind_made_sound k w (subst (λ (x : Kept). place_after (setting_of (sees x.pass).plan) (sees x.pass).front < places_end)
    (sym c.self.view_is) c.requires.room)
    c.args.txn note.place (Join c.args.tree note.before note.after) c.in_ok-note.ensures.made.made c.push_reserved.new.self.items
    c.self.invariant)

pub returns-clause-answer : goal.returns-clause-answer
unfolding made_receipt
returns-clause-answer c =
    let inside = c.self.inside in
    let k : Kept = record { pass = inside.pass; mine = inside.mine.items; notes = inside.notes.items } in
    let w = sees c.escalate.new.pass in
    let note = c.in_ok-note.note in
    let deed : Deed = Join c.args.tree note.before note.after in
    let joins = c.in_ok-note.ensures.made in
    let is = receipt_is (sees inside.pass) c.number-pass.result note.place c.args.txn deed c.receipt-2.result c.number-pass.ensures.0
    c.receipt-2.ensures in
    let notes : c.push_reserved.new.self.items ≡ noted (setting_of (sees inside.pass).plan) ((sees inside.pass).front ++ joins.made.rest)
    (question deed) inside.notes.items =
    c.push_reserved.ensures.items ∙ λ i. c.reserve-2.ensures.items i ++ joins.note_is i ∷ [] in
    behind_of k c.args.self.now c.self.view_is (view_with w (k.mine ++ made_receipt c ∷ []) c.push_reserved.new.self.items)
    (view_with w c.push_reserved-2.new.self.items c.push_reserved.new.self.items)
    (λ i. view_with w (kept_receipt c i) c.push_reserved.new.self.items)
    c.args.txn (question deed) (Ok (made_receipt c)) (Ok c.receipt-2.result) (ap Ok is)
    (behind_made k w (subst (λ (x : Kept). place_after (setting_of (sees x.pass).plan) (sees x.pass).front < places_end)
    (sym c.self.view_is) c.requires.room)
    c.args.txn note.place deed joins.made c.push_reserved.new.self.items notes)
