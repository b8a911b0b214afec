-- What a crew leaves where all its transactions have ended.
use Rattle.std.proofs.Common.{◌≡◌, ◌∙◌, ◌∷◌, [], ◌≤◌, List, length, map, sym, ap, subst}
use Rattle.std.specs.List.{AllByRecursion, flat_map}
use Rattle.std.specs.List.Sorted.{IsPermutation, IsNonDecreasingBy}
use Rattle.lt_seq.specs.declared.event.Event.{Event}
use Rattle.lt_seq.specs.declared.event.JoinNote.{JoinNote}
use Rattle.lt_seq.specs.History.{IsLegal}
use Rattle.lt_seq.specs.Yard.{PassView, Origin}
use Rattle.lt_runner.specs.TurnView.{Seat}
use Rattle.lt_runner.specs.Notes.{HasOwnNotes, notes_in}
use Rattle.lt_runner.specs.Played.{IsOver}
use Rattle.lt_crew.specs.declared.worker.Worker.{Worker}
use Rattle.lt_crew.specs.declared.playing.Played.{Played}
use Rattle.lt_crew.specs.Idle.{AreIdle}
use Rattle.lt_crew.specs.Passes.{IsEmptied, IsPlayedCrew}
use Rattle.lt_crew.specs.RunCrew.{LeadsTo, bound_on}
use Rattle.lt_crew.specs.Workers.{EachPair, IsCaller}
use Rattle.lt_crew.proofs.NotedLaws.{merged_notes}
use Rattle.lt_crew.proofs.PassesLaws.{AreBack, are_back, notes_are}

module _ {P : Type 0} (origin : P → Origin) (view : P → PassView) (place : Origin) where
  pub played_crew : (turns : List Seat) (played : Played P) (first : List Event) (me : P) (workers : List (Worker P)) (passes new : List P) →
      IsCaller place.setting (length workers) (view me) → HasOwnNotes place.setting (view me) → AreIdle origin view place (view me).front workers →
      first ≡ [] → LeadsTo place.setting first (view me).front turns played.turns.items → AllByRecursion IsOver played.turns.items →
      length (view me).front ≤ bound_on place.setting first turns → passes ≡ me ∷ map (λ w. w.pass) workers →
      EachPair (IsEmptied origin view place) passes new → played.passes.items ≡ new →
      IsPermutation (flat_map (λ p. (view p).notes) passes) played.notes.items → IsNonDecreasingBy (λ note. note.place) played.notes.items →
      IsPlayedCrew origin view place turns played
  played_crew turns played first me workers passes new caller noted idle none leads over few is emptied put all order =
      let setting = place.setting in
      let history = (view me).front in
      let back : AreBack origin view place me played.passes.items =
      subst (AreBack origin view place me) (sym put) (are_back origin view place me workers passes new caller idle is emptied) in
      let notes = merged_notes setting history played.notes.items caller.sound.legal
      (subst (λ (ns : List JoinNote). IsPermutation ns played.notes.items) (notes_are origin view place me workers passes caller noted idle is)
      all) order in
      record {
        of = back.of;
        all = back.all;
        legal = subst (IsLegal setting) (sym back.front) caller.sound.legal;
        leads = subst (λ (es : List Event). LeadsTo setting [] es turns played.turns.items) (sym back.front)
            (subst (λ (es : List Event). LeadsTo setting es history turns played.turns.items) none leads);
        over = over;
        few = subst (λ (es : List Event). length es ≤ bound_on setting [] turns) (sym back.front)
            (subst (λ (es : List Event). length history ≤ bound_on setting es turns) none few);
        notes = notes ∙ ap (notes_in setting) (sym back.front);
      }
