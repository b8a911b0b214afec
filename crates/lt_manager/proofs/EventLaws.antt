-- What the deeds of a pass come to in the words of a yard.
use Rattle.std.proofs.Common.{◌≡◌, ℕ, ◌-◌, ◌<◌, ◌≤◌, List, [], ◌∷◌, ◌++◌, refl, sym, ap, ◌∙◌, subst, arith, append-nil, append_assoc, Ok, Err}
use Rattle.lt_seq.specs.declared.event.Deed.{Deed}
use Rattle.lt_seq.specs.declared.event.Deed.TheVariants.{Ask, Free, Who, Join}
use Rattle.lt_seq.specs.declared.event.Event.{Event}
use Rattle.lt_seq.specs.declared.event.Receipt.{Receipt}
use Rattle.lt_seq.specs.declared.event.JoinNote.{JoinNote}
use Rattle.lt_seq.specs.declared.fault.Fault.{Fault}
use Rattle.lt_rows.specs.declared.row_plan.RowPlan.{RowPlan}
use Rattle.lt_seq.specs.declared.fault.Fault.TheVariants.{OutOfMemory, Busy, HistoryFull, OutOfLocks}
use Rattle.lt_seq.specs.Table.{Setting, TreeState, tree_at, tree_of, replied}
use Rattle.lt_seq.specs.History.{after, calls_from, IsLegal}
use Rattle.lt_seq.specs.Questions.{question}
use Rattle.lt_rows.specs.Plan.{setting_of}
use Rattle.lt_seq.specs.Yard.{PassView, IsSound, Watches, Happens, FaultAt, Answers, Caused, noted, place_after, event_after, places_end}
use Rattle.lt_seq.proofs.HistoryLaws.{front_itself}
use Rattle.lt_seq.proofs.YardLaws.{front_then, answers_of}
use Rattle.lt_rows.specs.declared.view.View.{View}
use Rattle.lt_tree.specs.States.{IsRefused}
use Rattle.lt_locktree.specs.Calls.{Makes, Leaves, event_of, sees}
use Rattle.lt_locktree.proofs.CallLaws.{one_call, next_event}
use Rattle.lt_manager.specs.Views.{Kept, view_with, view_of}
use Rattle.lt_manager.proofs.WatchLaws.{sound_on}

-- a call that ends with what its last look showed
pub fault_there : (setting : Setting) (old new : PassView) (fault : Fault) → Watches setting old new → Caused setting old new fault new.front
    → FaultAt setting old new (Caused setting old new fault)
fault_there setting old new fault watches cause = record {
  seen = new.front;
  looked = watches.goes.front;
  waited = front_itself new.front;
  alone_seen = watches.alone;
  cause = cause;
  watches = watches;
}

same_tree : (deed : Deed) → tree_of (question deed) ≡ tree_of deed
same_tree (Ask tree range reply) = refl
same_tree (Free tree range first count) = refl
same_tree (Who tree range named owners) = refl
same_tree (Join tree n m) = refl

same_replies : (setting : Setting) (txn : ℕ) (deed : Deed) (t : TreeState) → replied setting txn deed t ≡ replied setting txn (question deed) t
same_replies setting txn (Ask tree range reply) t = refl
same_replies setting txn (Free tree range first count) t = refl
same_replies setting txn (Who tree range named owners) t = refl
same_replies setting txn (Join tree n m) t = refl

-- a pass looked, and saw what is in u
module _ (u w : View) (old : PassView) (mine : List Receipt) (notes : List JoinNote) (one : u.numbers ≡ 1) (pass : 1 ≤ u.mark)
    (watches : Watches (setting_of u.plan) old (view_with u mine notes)) (room : place_after (setting_of u.plan) u.front < places_end) where
  module _ (txn place : ℕ) (deed : Deed) (made : Makes u w txn deed place) (notes' : List JoinNote) where
    abbrev receipt : Receipt
    receipt = record { place = place; event = event_of u txn deed }

    abbrev before : List Event
    before = u.front ++ made.rest

    pub sound_more : IsSound (setting_of u.plan) (view_with w (mine ++ receipt ∷ []) notes')
    sound_more = record {
      legal = made.legal;
      mine =
          ap (λ (l : List Receipt). l ++ receipt ∷ []) watches.goes.sound.mine
          ∙ (sym (one_call u w txn deed place made one pass) ∙ ap (λ (m : ℕ). calls_from u.plan.first (m - 1) w.front) (sym made.same.1));
    }

    pub event_is : receipt.event ≡ event_after (setting_of u.plan) before old.number txn (question deed)
    event_is =
        let replies = (next_event u w txn deed place made).replies in
        let there = λ (t : ℕ). tree_at (after (setting_of u.plan) before) t in
        let deed_is : deed ≡ replied (setting_of u.plan) txn (question deed) (there (tree_of (question deed))) =
        replies ∙ (same_replies (setting_of u.plan) txn deed (there (tree_of deed)) ∙ ap (λ (t : ℕ). replied (setting_of u.plan) txn (question deed) (there t)) (sym (same_tree deed))) in
        λ i. record { pass = watches.goes.number i; txn = txn; deed = deed_is i }

    -- and then it made its event
    unfoldable pub happens : notes' ≡ noted (setting_of u.plan) before (question deed) old.notes
        → Happens (setting_of u.plan) old (view_with w (mine ++ receipt ∷ []) notes') txn (question deed) receipt
    happens are = record {
      seen = u.front;
      before = before;
      looked = watches.goes.front;
      waited = (made.rest, refl);
      room = room;
      event = event_is;
      place = made.place_is;
      front = made.front;
      mine = ap (λ (l : List Receipt). l ++ receipt ∷ []) watches.mine;
      notes = are;
      rights = made.same.3 ∙ watches.rights;
      alone_seen = watches.alone;
      alone = λ all. ap (λ (l : List Event). u.front ++ l) (made.alone (watches.rights ∙ all)) ∙ (append-nil u.front ∙ watches.alone all);
      goes = record {
        number = ap (λ (m : ℕ). m - 1) made.same.1 ∙ watches.goes.number;
        met = omega (arith, watches.goes.met, made.met);
        front = front_then old.front u.front w.front watches.goes.front (made.rest ++ receipt.event ∷ [], made.front ∙ append_assoc u.front made.rest (receipt.event ∷ []));
        sound = sound_more;
      };
    }

  -- or it made none
  module _ (fault : Fault) (leaves : Leaves u w fault) where
    pub sound_left : IsSound (setting_of w.plan) (view_with w mine notes)
    sound_left =
        sound_on u w leaves.rest mine notes one pass leaves.same.0 leaves.same.1 leaves.front leaves.own
        (subst (IsLegal (setting_of u.plan)) leaves.front (leaves.legal watches.goes.sound.legal)) watches.goes.sound

    pub cause_is : (fault : Fault) → IsRefused u w fault → Caused (setting_of u.plan) old (view_with w mine notes) fault u.front
    cause_is OutOfMemory cause = tt
    cause_is (Busy row holder) cause = record {
      room = room;
      rose = grind (arith, watches.goes.met, cause.0);
      row_is = sym cause.1;
      holder_is = omega (arith, cause.2);
      others = λ all. omega (arith, watches.rights, cause.3, all);
    }
    cause_is (HistoryFull place) cause = absurd cause
    cause_is (OutOfLocks place used) cause = absurd cause

    unfoldable pub left_off : FaultAt (setting_of u.plan) old (view_with w mine notes) (Caused (setting_of u.plan) old (view_with w mine notes) fault)
    left_off = record {
      seen = u.front;
      looked = watches.goes.front;
      waited = (leaves.rest, leaves.front);
      alone_seen = watches.alone;
      cause = cause_is fault leaves.cause;
      watches = record {
        goes = record {
          number = ap (λ (m : ℕ). m - 1) leaves.same.1 ∙ watches.goes.number;
          met = omega (arith, watches.goes.met, leaves.met);
          front = front_then old.front u.front w.front watches.goes.front (leaves.rest, leaves.front);
          sound = subst (λ k. IsSound (setting_of k) (view_with w mine notes)) leaves.same.0 sound_left;
        };
        rights = leaves.same.3 ∙ watches.rights;
        mine = watches.mine;
        notes = watches.notes;
        alone = λ all. leaves.front ∙ (ap (λ (l : List Event). u.front ++ l) (leaves.alone (watches.rights ∙ all)) ∙ (append-nil u.front ∙ watches.alone all));
      };
    }

-- The same of a pass that is kept with its receipts: old before the call, k1 behind its look.
module _ (old k1 k : Kept) (w : View) (is : k ≡ k1) (plan : (sees k1.pass).plan ≡ (sees old.pass).plan)
    (watches : Watches (setting_of (sees old.pass).plan) (view_of old) (view_of k1))
    (room : place_after (setting_of (sees old.pass).plan) (sees k1.pass).front < places_end) (txn : ℕ) where
  plan_is : (sees k.pass).plan ≡ (sees old.pass).plan
  plan_is = ap (λ (x : Kept). (sees x.pass).plan) is ∙ plan

  pass_is : 1 ≤ (sees k.pass).mark
  pass_is = omega (arith, k.pass.pass.numbered.0)

  watched : Watches (setting_of (sees k.pass).plan) (view_of old) (view_of k)
  watched =
      subst (λ (p : RowPlan). Watches (setting_of p) (view_of old) (view_of k)) (sym plan_is)
      (subst (λ (x : Kept). Watches (setting_of (sees old.pass).plan) (view_of old) (view_of x)) (sym is) watches)

  roomy : place_after (setting_of (sees k.pass).plan) (sees k.pass).front < places_end
  roomy =
      subst (λ (p : RowPlan). place_after (setting_of p) (sees k.pass).front < places_end) (sym plan_is)
      (subst (λ (x : Kept). place_after (setting_of (sees old.pass).plan) (sees x.pass).front < places_end) (sym is) room)

  pub call_left_sound : (fault : Fault) → Leaves (sees k.pass) w fault → IsSound (setting_of w.plan) (view_with w k.mine k.notes)
  call_left_sound fault leaves = sound_left (sees k.pass) w (view_of old) k.mine k.notes k.pass.pass.numbered.1 pass_is watched roomy fault leaves

  pub call_left : (fault : Fault) (deed : Deed) (mine : List Receipt) → mine ≡ k.mine → Leaves (sees k.pass) w fault
      → Answers (setting_of (sees old.pass).plan) (view_of old) (view_with w mine k.notes) txn deed (Err fault)
  call_left fault deed mine same leaves =
      subst (λ (m : List Receipt). Answers (setting_of (sees old.pass).plan) (view_of old) (view_with w m k.notes) txn deed (Err fault)) (sym same)
      (subst (λ (p : RowPlan). Answers (setting_of p) (view_of old) (view_with w k.mine k.notes) txn deed (Err fault)) plan_is
      (answers_of (setting_of (sees k.pass).plan) (view_of old) (view_with w k.mine k.notes) txn deed (Err fault)
      (left_off (sees k.pass) w (view_of old) k.mine k.notes k.pass.pass.numbered.1 pass_is watched roomy fault leaves)))

  module _ (place : ℕ) (deed : Deed) (made : Makes (sees k.pass) w txn deed place) (mine : List Receipt) (notes : List JoinNote)
      (mine_is : mine ≡ k.mine ++ record { place = place; event = event_of (sees k.pass) txn deed } ∷ []) where
    pub call_sound : IsSound (setting_of w.plan) (view_with w mine notes)
    call_sound =
        subst (λ (m : List Receipt). IsSound (setting_of w.plan) (view_with w m notes)) (sym mine_is)
        (subst (λ (p : RowPlan). IsSound (setting_of p) (view_with w (k.mine ++ record { place = place; event = event_of (sees k.pass) txn deed } ∷ []) notes)) (sym made.same.0)
        (sound_more (sees k.pass) w (view_of old) k.mine k.notes k.pass.pass.numbered.1 pass_is watched roomy txn place deed made notes))

    pub call_made : notes ≡ noted (setting_of (sees k.pass).plan) ((sees k.pass).front ++ made.rest) (question deed) old.notes
        → Answers (setting_of (sees old.pass).plan) (view_of old) (view_with w mine notes) txn (question deed) (Ok (record { place = place; event = event_of (sees k.pass) txn deed }))
    call_made are =
        let receipt : Receipt = record { place = place; event = event_of (sees k.pass) txn deed } in
        subst (λ (m : List Receipt). Answers (setting_of (sees old.pass).plan) (view_of old) (view_with w m notes) txn (question deed) (Ok receipt)) (sym mine_is)
        (subst (λ (p : RowPlan). Answers (setting_of p) (view_of old) (view_with w (k.mine ++ receipt ∷ []) notes) txn (question deed) (Ok receipt)) plan_is
        (answers_of (setting_of (sees k.pass).plan) (view_of old) (view_with w (k.mine ++ receipt ∷ []) notes) txn (question deed) (Ok receipt)
        (happens (sees k.pass) w (view_of old) k.mine k.notes k.pass.pass.numbered.1 pass_is watched roomy txn place deed made notes are)))
