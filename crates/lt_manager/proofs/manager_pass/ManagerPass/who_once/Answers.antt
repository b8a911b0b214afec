use Rattle.std.proofs.Common.{rules, ◌≡◌, ◌∙◌, sym, ap, subst, [], ◌∷◌, ◌++◌, Ok, Err}
use Rattle.lt_seq.specs.declared.event.Deed.{Deed}
use Rattle.lt_seq.specs.declared.event.Deed.TheVariants.{Who}
use Rattle.lt_rows.specs.Plan.{setting_of}
use Rattle.lt_seq.specs.Questions.{question}
use Rattle.lt_seq.specs.Yard.{Answers, IsSound}
use Rattle.lt_seq.proofs.YardLaws.{answers_of}
use Rattle.lt_locktree.specs.Calls.{sees, event_of}
use Rattle.lt_manager.specs.Views.{Kept, view_of, view_with}
use Rattle.lt_manager.proofs.EventLaws.{fault_there, call_left, call_left_sound, call_made, call_sound}
use Rattle.lt_manager.proofs.ReceiptLaws.{receipt_is, receipt_kept}
use Rattle.lt_manager.proofs.manager_pass.ManagerPass.who_once.Goals as goal

pub returns-in_err-look_for_place-clause-answer : goal.returns-in_err-look_for_place-clause-answer
returns-in_err-look_for_place-clause-answer c =
    let fault = c.in_err-look_for_place.field-0.0 in
    let same : c.from_residual.result ≡ Err fault = search rules in
    let setting = setting_of (sees c.args.self.now.pass).plan in
    let old = view_of c.args.self.now in
    let new = view_of c.look_for_place.new.self in
    let deed = Who c.args.tree c.args.range.now c.args.as_txn [] in
    subst (Answers setting old new c.args.txn deed) (sym same)
    (answers_of setting old new c.args.txn deed (Err fault)
    (fault_there setting old new fault c.look_for_place.ensures.watches c.in_err-look_for_place.ensures.err))

pub invariant_of-self-in_err-place : goal.invariant_of-self-in_err-place
invariant_of-self-in_err-place c =
    let inside = c.self.inside in
    let kept : Kept = record { pass = inside.pass; mine = inside.mine.items; notes = inside.notes.items } in
    subst (λ mine. IsSound (setting_of (sees c.who.new.pass).plan) (view_with (sees c.who.new.pass) mine inside.notes.items))
    (sym c.reserve.ensures.items)
    (call_left_sound c.args.self.now c.look_for_place.new.self kept (sees c.who.new.pass) c.self.view_is c.look_for_place.ensures.of.1.0
    c.look_for_place.ensures.watches c.in_ok-look_for_place.ensures.room c.args.txn c.in_err-place.field-0.0 c.in_err-place.ensures.left)

pub returns-in_err-place-clause-answer : goal.returns-in_err-place-clause-answer
returns-in_err-place-clause-answer c =
    let fault = c.in_err-place.field-0.0 in
    let same : c.from_residual-in_err-place.result ≡ Err fault = search rules in
    let inside = c.self.inside in
    let kept : Kept = record { pass = inside.pass; mine = inside.mine.items; notes = inside.notes.items } in
    let left : Kept = record { pass = c.who.new.pass; mine = c.reserve.new.self.items; notes = inside.notes.items } in
    let deed = Who c.args.tree c.args.range.now c.args.as_txn [] in
    subst (Answers (setting_of (sees c.args.self.now.pass).plan) (view_of c.args.self.now) (view_of left) c.args.txn deed) (sym same)
    (call_left c.args.self.now c.look_for_place.new.self kept (sees c.who.new.pass) c.self.view_is c.look_for_place.ensures.of.1.0
    c.look_for_place.ensures.watches c.in_ok-look_for_place.ensures.room c.args.txn fault deed c.reserve.new.self.items
    c.reserve.ensures.items
    c.in_err-place.ensures.left)

kept_receipt : (c : goal.After-receipt-2) → c.push_reserved.new.self.items
    ≡ c.self.inside.mine.items ++ record {
      place = c.in_ok-place.field-0.place;
      event = event_of (sees c.self.inside.pass) c.args.txn
          (Who c.args.tree c.args.range.now c.args.as_txn c.in_ok-place.field-0.owners);
    } ∷ []
kept_receipt c =
    receipt_kept (sees c.self.inside.pass) c.number-pass.result c.in_ok-place.field-0.place c.args.txn
    (Who c.args.tree c.args.range.now c.args.as_txn c.in_ok-place.field-0.owners) c.receipt.result c.number-pass.ensures.0 c.receipt.ensures
    c.push_reserved.new.self.items c.reserve.new.self.items c.self.inside.mine.items c.push_reserved.ensures.items c.reserve.ensures.items

pub invariant_of-self-2 : goal.invariant_of-self-2
invariant_of-self-2 c =
    let inside = c.self.inside in
    let kept : Kept = record { pass = inside.pass; mine = inside.mine.items; notes = inside.notes.items } in
    call_sound c.args.self.now c.look_for_place.new.self kept (sees c.who.new.pass) c.self.view_is c.look_for_place.ensures.of.1.0
    c.look_for_place.ensures.watches c.in_ok-look_for_place.ensures.room c.args.txn c.in_ok-place.field-0.place
    (Who c.args.tree c.args.range.now c.args.as_txn c.in_ok-place.field-0.owners) c.in_ok-place.ensures.made.0
    c.push_reserved.new.self.items
    inside.notes.items (kept_receipt c)

pub returns-clause-answer : goal.returns-clause-answer
returns-clause-answer c =
    let inside = c.self.inside in
    let kept : Kept = record { pass = inside.pass; mine = inside.mine.items; notes = inside.notes.items } in
    let now : Kept = record { pass = c.who.new.pass; mine = c.push_reserved.new.self.items; notes = inside.notes.items } in
    let deed : Deed = Who c.args.tree c.args.range.now c.args.as_txn c.in_ok-place.field-0.owners in
    let is = receipt_is (sees inside.pass) c.number-pass.result c.in_ok-place.field-0.place c.args.txn deed c.receipt-2.result
    c.number-pass.ensures.0
    (c.receipt-2.ensures
    ∙ ap (λ owners. record {
      place = c.in_ok-place.field-0.place;
      event = record { pass = c.number-pass.result; txn = c.args.txn; deed = Who c.args.tree c.args.range.now c.args.as_txn owners };
    })
    c.in_ok-place.ensures.made.1) in
    subst (λ r. Answers (setting_of (sees c.args.self.now.pass).plan) (view_of c.args.self.now) (view_of now) c.args.txn (question deed) (Ok r))
    (sym is)
    (call_made c.args.self.now c.look_for_place.new.self kept (sees c.who.new.pass) c.self.view_is c.look_for_place.ensures.of.1.0
    c.look_for_place.ensures.watches c.in_ok-look_for_place.ensures.room c.args.txn c.in_ok-place.field-0.place deed
    c.in_ok-place.ensures.made.0
    c.push_reserved.new.self.items inside.notes.items (kept_receipt c)
    (ap (λ (k : Kept). k.notes) c.self.view_is ∙ c.look_for_place.ensures.watches.notes))
