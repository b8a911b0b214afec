-- What a deed answers behind a look that its caller made.
use Rattle.std.proofs.Common.{◌≡◌, ℕ, ◌<◌, ◌≤◌, List, [], ◌∷◌, ◌++◌, Result, Ok, Err, refl, sym, ap, subst, ◌∙◌, arith}
use Rattle.lt_seq.specs.declared.event.Deed.{Deed}
use Rattle.lt_seq.specs.declared.event.Event.{Event}
use Rattle.lt_seq.specs.declared.event.Receipt.{Receipt}
use Rattle.lt_seq.specs.declared.event.JoinNote.{JoinNote}
use Rattle.lt_seq.specs.declared.fault.Fault.{Fault}
use Rattle.lt_seq.specs.declared.fault.Fault.TheVariants.{OutOfMemory}
use Rattle.lt_seq.specs.Questions.{question}
use Rattle.lt_rows.specs.Plan.{setting_of}
use Rattle.lt_seq.specs.Table.{Setting}
use Rattle.lt_seq.specs.Yard.{PassView, IsSound, Watches, Answers, Answered, noted, place_after, places_end}
use Rattle.lt_seq.proofs.HistoryLaws.{front_itself}
use Rattle.lt_seq.proofs.YardLaws.{watches_same, answers_of}
use Rattle.lt_rows.specs.declared.view.View.{View}
use Rattle.lt_locktree.specs.Calls.{Makes, Leaves, event_of, sees}
use Rattle.lt_manager.specs.Views.{Kept, IsKept, view_with, view_of}
use Rattle.lt_manager.specs.Answers.{AnsweredBehind}
use Rattle.lt_manager.proofs.EventLaws.{happens, left_off, sound_left, sound_more}

-- the pass looked before, whatever it had seen earlier
abbrev pub IsBehind : Kept → PassView → ℕ → Deed → Result Receipt Fault → Type 0
IsBehind k new txn deed result =
    (old : PassView) → Watches (setting_of (sees k.pass).plan) old (view_of k)
    → AnsweredBehind (setting_of (sees k.pass).plan) (sees k.pass).front old new txn deed result

-- the same of the pass as it is kept
pub behind_of : (k k0 : Kept) → k ≡ k0 → (new now : PassView) → now ≡ new → (txn : ℕ) (deed : Deed) (result answered : Result Receipt Fault)
    → answered ≡ result → IsBehind k new txn deed result → IsBehind k0 now txn deed answered
behind_of k k0 is new now same txn deed result answered told behind =
    subst (λ (x : Kept). IsBehind x now txn deed answered) is
    (subst (λ (p : PassView). IsBehind k p txn deed answered) (sym same)
    (subst (IsBehind k new txn deed) (sym told) behind))

-- want of memory, and nothing has changed
pub behind_same : (k : Kept) (txn : ℕ) (deed : Deed) → IsBehind k (view_of k) txn deed (Err OutOfMemory)
behind_same k txn deed old watches = (
  record {
    seen = (sees k.pass).front;
    looked = watches.goes.front;
    waited = front_itself (sees k.pass).front;
    alone_seen = watches.alone;
    cause = tt;
    watches = watches;
  },
  refl,
)

module _ (k : Kept) (w : View) where
  pass_is : 1 ≤ (sees k.pass).mark
  pass_is = omega (arith, k.pass.pass.numbered.0)

  -- a pass watches itself
  itself : IsKept k → Watches (setting_of (sees k.pass).plan) (view_of k) (view_of k)
  itself sound = watches_same (setting_of (sees k.pass).plan) (view_of k) (view_of k) refl sound

  module _ (room : place_after (setting_of (sees k.pass).plan) (sees k.pass).front < places_end) where
    pub behind_left_sound : (fault : Fault) → IsKept k → Leaves (sees k.pass) w fault → IsSound (setting_of w.plan) (view_with w k.mine k.notes)
    behind_left_sound fault sound leaves =
        sound_left (sees k.pass) w (view_of k) k.mine k.notes k.pass.pass.numbered.1 pass_is (itself sound) room fault leaves

    pub behind_left : (fault : Fault) (txn : ℕ) (deed : Deed) → Leaves (sees k.pass) w fault
        → IsBehind k (view_with w k.mine k.notes) txn deed (Err fault)
    unfolding left_off
    behind_left fault txn deed leaves old watches =
        (left_off (sees k.pass) w old k.mine k.notes k.pass.pass.numbered.1 pass_is watches room fault leaves, refl)

    module _ (txn place : ℕ) (deed : Deed) (made : Makes (sees k.pass) w txn deed place) (notes : List JoinNote) where
      pub behind_made_sound : IsKept k
          → IsSound (setting_of w.plan) (view_with w (k.mine ++ record { place = place; event = event_of (sees k.pass) txn deed } ∷ []) notes)
      behind_made_sound sound =
          let mine = k.mine ++ record { place = place; event = event_of (sees k.pass) txn deed } ∷ [] in
          subst (λ p. IsSound (setting_of p) (view_with w mine notes)) (sym made.same.0)
          (sound_more (sees k.pass) w (view_of k) k.mine k.notes k.pass.pass.numbered.1 pass_is
          (itself sound) room txn place deed made notes)

      pub behind_made : notes ≡ noted (setting_of (sees k.pass).plan) ((sees k.pass).front ++ made.rest) (question deed) k.notes
          → IsBehind k (view_with w (k.mine ++ record { place = place; event = event_of (sees k.pass) txn deed } ∷ []) notes) txn
          (question deed)
          (Ok (record { place = place; event = event_of (sees k.pass) txn deed }))
      unfolding happens
      behind_made are old watches =
          let kept = are ∙ ap (noted (setting_of (sees k.pass).plan) ((sees k.pass).front ++ made.rest) (question deed)) watches.notes in
          (happens (sees k.pass) w old k.mine k.notes k.pass.pass.numbered.1 pass_is watches room txn place deed made notes kept, refl)

-- what it answers is a yard's answer
answered_at : (setting : Setting) (seen : List Event) (old new : PassView) (txn : ℕ) (deed : Deed) (result : Result Receipt Fault)
    → AnsweredBehind setting seen old new txn deed result → Answered setting old new txn deed result
answered_at setting seen old new txn deed (Ok receipt) made = made.0
answered_at setting seen old new txn deed (Err fault) left = left.0

-- a look, and then a deed behind it
pub looked_then : (old k : Kept) → (sees k.pass).plan ≡ (sees old.pass).plan
    → Watches (setting_of (sees old.pass).plan) (view_of old) (view_of k)
    → (new : PassView) (txn : ℕ) (deed : Deed) (result : Result Receipt Fault) → IsBehind k new txn deed result
    → Answers (setting_of (sees old.pass).plan) (view_of old) new txn deed result
looked_then old k plan watches new txn deed result behind =
    let there : AnsweredBehind (setting_of (sees k.pass).plan) (sees k.pass).front (view_of old) new txn deed result =
    behind (view_of old) (subst (λ p. Watches (setting_of p) (view_of old) (view_of k)) (sym plan) watches) in
    answers_of (setting_of (sees old.pass).plan) (view_of old) new txn deed result
    (subst (λ p. Answered (setting_of p) (view_of old) new txn deed result) plan
    (answered_at (setting_of (sees k.pass).plan) (sees k.pass).front (view_of old) new txn deed result there))
