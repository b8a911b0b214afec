-- The notes of a pass's own joins.
use Rattle.std.proofs.Common.{◌≡◌, ℕ, ◌+◌, ◌≤◌, List, [], ◌∷◌, ◌++◌, ◌==◌, Bool, true, false, if◌then◌else◌, length, refl, sym, ap, ◌∙◌}
use Rattle.std.proofs.Common.{subst, arith}
use Rattle.std.proofs.Common.{append-nil, append_assoc, length-append}
use Rattle.std.proofs.lemmas.Bool.Decides.{nat_tests}
use Rattle.lt_seq.specs.declared.event.Deed.{Deed}
use Rattle.lt_seq.specs.declared.event.Event.{Event}
use Rattle.lt_seq.specs.declared.event.Receipt.{Receipt}
use Rattle.lt_seq.specs.declared.event.JoinNote.{JoinNote}
use Rattle.lt_seq.specs.Table.{Setting}
use Rattle.lt_seq.specs.History.{IsFront, calls_from}
use Rattle.lt_seq.specs.Yard.{PassView, IsSound, noted}
use Rattle.lt_seq.proofs.HistoryLaws.{calls-append}
use Rattle.lt_runner.specs.Notes.{own_behind, notes_of, HasOwnNotes}
use Rattle.lt_runner.proofs.ChoiceLaws.{on_true}

-- events behind others
own_append : (setting : Setting) (pass : ℕ) (before xs es : List Event) (notes : List JoinNote) →
    own_behind setting pass before (xs ++ es) notes ≡ own_behind setting pass (before ++ xs) es (own_behind setting pass before xs notes)
own_append setting pass before [] es notes = ap (λ (b : List Event). own_behind setting pass b es notes) (sym (append-nil before))
own_append setting pass before (x ∷ xs) es notes =
    let kept = if x.pass == pass then noted setting before x.deed notes else notes in
    own_append setting pass (before ++ x ∷ []) xs es kept
    ∙ ap (λ (b : List Event). own_behind setting pass b es (own_behind setting pass (before ++ x ∷ []) xs kept)) (append_assoc before (x ∷ []) xs)

-- one event more, of the pass's own
pub own_more : (setting : Setting) (pass : ℕ) (es : List Event) (e : Event) → (e.pass == pass) ≡ true →
    notes_of setting pass (es ++ e ∷ []) ≡ noted setting es e.deed (notes_of setting pass es)
own_more setting pass es e own =
    own_append setting pass [] es (e ∷ []) []
    ∙ on_true (e.pass == pass) (noted setting es e.deed (notes_of setting pass es)) (notes_of setting pass es) own

-- events of others leave none
none_own : (setting : Setting) (pass place : ℕ) (before es : List Event) (notes : List JoinNote) → length (calls_from place pass es) ≤ 0 →
    own_behind setting pass before es notes ≡ notes
none_own setting pass place before [] notes none = refl
none_own setting pass place before (e ∷ es) notes none = by_test (e.pass == pass) none (none_own setting pass (place + 1) (before ++ e ∷ []) es notes)
  where
    by_test : (b : Bool) →
        length (if b then record { place = place; event = e } ∷ calls_from (place + 1) pass es else calls_from (place + 1) pass es) ≤ 0 →
        (length (calls_from (place + 1) pass es) ≤ 0 → own_behind setting pass (before ++ e ∷ []) es notes ≡ notes) →
        own_behind setting pass (before ++ e ∷ []) es (if b then noted setting before e.deed notes else notes) ≡ notes
    by_test true some rest = absurd (omega (arith, some))
    by_test false some rest = rest some

-- a pass that made no event more has no note more
pub notes_still : (setting : Setting) (pass : ℕ) (old new : List Event) → IsFront old new →
    length (calls_from setting.plan.first pass new) ≤ length (calls_from setting.plan.first pass old) →
    notes_of setting pass new ≡ notes_of setting pass old
notes_still setting pass old new (more, is) few =
    let calls = ap (calls_from setting.plan.first pass) is ∙ calls-append setting.plan.first pass old more in
    let none : length (calls_from (setting.plan.first + length old) pass more) ≤ 0 =
    omega (
      arith,
      few,
      ap length calls,
      length-append (calls_from setting.plan.first pass old) (calls_from (setting.plan.first + length old) pass more),
    ) in
    ap (notes_of setting pass) is ∙ own_append setting pass [] old more []
    ∙ none_own setting pass (setting.plan.first + length old) old more (notes_of setting pass old) none

-- so it is between two moments of a pass
pub own_notes_still : (setting : Setting) (old new : PassView) → IsSound setting old → IsSound setting new → IsFront old.front new.front →
    new.number ≡ old.number → new.mine ≡ old.mine → new.notes ≡ old.notes → HasOwnNotes setting old → HasOwnNotes setting new
own_notes_still setting old new was is front number mine notes had =
    let same : calls_from setting.plan.first old.number new.front ≡ calls_from setting.plan.first old.number old.front =
    ap (λ (n : ℕ). calls_from setting.plan.first n new.front) (sym number) ∙ sym is.mine ∙ mine ∙ was.mine in
    notes ∙ had ∙ sym (notes_still setting old.number old.front new.front front (omega (arith, ap length same)))
    ∙ ap (λ (n : ℕ). notes_of setting n new.front) (sym number)

-- the pass's first event behind what it had seen: those between are of others
pub notes_before : (setting : Setting) (pass : ℕ) (old before : List Event) (receipt : Receipt) → IsFront old before →
    calls_from setting.plan.first pass (before ++ receipt.event ∷ []) ≡ calls_from setting.plan.first pass old ++ receipt ∷ [] →
    (receipt.event.pass == pass) ≡ true → notes_of setting pass before ≡ notes_of setting pass old
notes_before setting pass old before receipt front calls own =
    let all = calls-append setting.plan.first pass before (receipt.event ∷ []) in
    let place = setting.plan.first + length before in
    let last : calls_from place pass (receipt.event ∷ []) ≡ record { place = place; event = receipt.event } ∷ [] =
    on_true (receipt.event.pass == pass) (record { place = place; event = receipt.event } ∷ []) [] own in
    notes_still setting pass old before front (omega (
      arith,
      ap length all,
      ap length calls,
      ap length last,
      length-append (calls_from setting.plan.first pass before) (calls_from place pass (receipt.event ∷ [])),
      length-append (calls_from setting.plan.first pass old) (receipt ∷ []),
    ))
