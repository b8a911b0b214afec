-- Workers that rest while none has a transaction.
use Rattle.std.proofs.Common.{ℕ, ◌<◌, List, length, get_or, sym, ap, subst, ◌∙◌, arith}
use Rattle.lt_seq.specs.declared.event.Event.{Event}
use Rattle.lt_seq.specs.History.{IsFront}
use Rattle.lt_seq.specs.Yard.{PassView, Origin}
use Rattle.lt_runner.specs.Notes.{HasOwnNotes}
use Rattle.lt_runner.proofs.OwnNoteLaws.{own_notes_still}
use Rattle.lt_crew.specs.declared.worker.Worker.{Worker}
use Rattle.lt_crew.specs.Workers.{EachPair, IsResting, IsTold}
use Rattle.lt_crew.specs.Idle.{AreIdle}

module _ {P : Type 0} (origin : P → Origin) (view : P → PassView) (place : Origin) where
  told_rests : (mid history : List Event) (old new : Worker P) → IsResting origin view place mid old → IsTold origin view place history old new →
      IsResting origin view place history new
  told_rests mid history old new rests told =
      record {
        of = told.of;
        none = ap (λ (p : PassView). p.rights) told.pass ∙ rests.none;
        seen = ap (λ (p : PassView). p.front) told.pass;
        sound = told.sound;
        memory = told.memory ∙ rests.memory;
      }

  told_noted : (mid history : List Event) (old new : Worker P) → IsFront mid history → IsResting origin view place mid old →
      IsTold origin view place history old new → HasOwnNotes place.setting (view old.pass) → HasOwnNotes place.setting (view new.pass)
  told_noted mid history old new on rests told noted =
      own_notes_still place.setting (view old.pass) (view new.pass) rests.sound told.sound
      (subst (λ (es : List Event). IsFront es (view new.pass).front) (sym rests.seen)
      (subst (IsFront mid) (sym (ap (λ (p : PassView). p.front) told.pass)) on))
      (ap (λ (p : PassView). p.number) told.pass) (ap (λ (p : PassView). p.mine) told.pass) (ap (λ (p : PassView). p.notes) told.pass) noted

  -- they are told what the caller has seen
  pub told_idle : (mid history : List Event) (old new : List (Worker P)) → IsFront mid history → AreIdle origin view place mid old →
      EachPair (IsTold origin view place history) old new → AreIdle origin view place history new
  told_idle mid history old new on idle told = record {
    resting = λ k d inside. told_rests mid history (get_or old k d) (get_or new k d) (idle.resting k d (at k inside)) (told.1 k d (at k inside));
    numbers = λ k d inside. ap (λ (p : PassView). p.number) (told.1 k d (at k inside)).pass ∙ idle.numbers k d (at k inside);
    noted = λ k d inside.
        told_noted mid history (get_or old k d) (get_or new k d) on (idle.resting k d (at k inside)) (told.1 k d (at k inside))
        (idle.noted k d (at k inside));
  }
    where
      at : (k : ℕ) → k < length new → k < length old
      at k inside = omega (arith, inside, told.0)
