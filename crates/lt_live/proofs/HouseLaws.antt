-- What a pass hears, again and again, and who is registered in the house.
use Rattle.std.proofs.Common.{◌≡◌, ◌+◌, ◌≤◌, ◌<◌, ℕ, List, [], ◌∷◌, Bool, true, false, not, ◌==◌, ◌||◌, if◌then◌else◌}
use Rattle.std.proofs.Common.{inl, inr, refl, sym, ap, subst, ◌∙◌}
use Rattle.lt_seq.specs.declared.event.Event.{Event}
use Rattle.lt_seq.specs.Table.{Setting}
use Rattle.lt_seq.specs.History.{IsFront}
use Rattle.lt_seq.specs.Yard.{PassView, NoteView, IsSound, IsLonger, Learns, Watches}
use Rattle.lt_seq.proofs.HistoryLaws.{front_on, front_itself}
use Rattle.lt_requests.specs.declared.wish.Wish.{Wish}
use Rattle.lt_requests.specs.Registered.{is_registered, without}
use Rattle.lt_runner.specs.Notes.{KeepsNotes}
use Rattle.lt_runner.proofs.OwnNoteLaws.{own_notes_still}
use Rattle.lt_live.specs.House.{IsPassFit, Hears}

pub hears_itself : (pass : PassView) → Hears pass pass
hears_itself pass = record { number = refl; mine = refl; notes = refl; front = front_itself pass.front }

pub hears_on : (a b c : PassView) → Hears a b → Hears b c → Hears a c
hears_on a b c ab bc = record {
  number = bc.number ∙ ab.number;
  mine = bc.mine ∙ ab.mine;
  notes = bc.notes ∙ ab.notes;
  front = front_on a.front b.front c.front ab.front bc.front;
}

-- What is known of a pass stays known.

longer_front : (one two longer : List Event) → IsLonger one two longer → IsFront one longer
longer_front one two longer (inl is) = subst (IsFront one) (sym is.0) (front_itself one)
longer_front one two longer (inr is) = subst (IsFront one) (sym is.0) is.1

pub fit_behind : (setting : Setting) (old new : PassView) → new.rights ≤ setting.plan.passes → IsSound setting new → Hears old new →
    IsPassFit setting old → IsPassFit setting new
fit_behind setting old new most sound hears fit = record {
  plan = fit.plan;
  number = subst (λ (n : ℕ). n < setting.plan.passes) (sym hears.number) fit.number;
  most = most;
  sound = sound;
  noted = own_notes_still setting old new fit.sound sound hears.front hears.number hears.mine hears.notes fit.noted;
}

pub learns_hear : (setting : Setting) (old new : PassView) (note : NoteView) → Learns setting old note new → Hears old new
learns_hear setting old new note learns = record {
  number = ap (λ (p : PassView). p.number) learns.same;
  mine = ap (λ (p : PassView). p.mine) learns.same;
  notes = ap (λ (p : PassView). p.notes) learns.same;
  front = longer_front old.front note.front new.front learns.longer;
}

-- one that learns of a note whose rights fit
pub learns_fit : (setting : Setting) (old new : PassView) (note : NoteView) → old.rights + note.rights ≤ setting.plan.passes →
    Learns setting old note new → IsPassFit setting old → IsPassFit setting new
learns_fit setting old new note fits learns fit =
    fit_behind setting old new (subst (λ (n : ℕ). n ≤ setting.plan.passes) (sym (ap (λ (p : PassView). p.rights) learns.same)) fits)
    learns.sound (learns_hear setting old new note learns) fit

pub watches_hear : (setting : Setting) (old new : PassView) → Watches setting old new → Hears old new
watches_hear setting old new watches =
    record { number = watches.goes.number; mine = watches.mine; notes = watches.notes; front = watches.goes.front }

-- one that looks
pub watches_fit : (setting : Setting) (old new : PassView) → Watches setting old new → IsPassFit setting old → IsPassFit setting new
watches_fit setting old new watches fit =
    fit_behind setting old new (subst (λ (n : ℕ). n ≤ setting.plan.passes) (sym watches.rights) fit.most) watches.goes.sound
    (watches_hear setting old new watches) fit

-- one that makes calls
pub keeps_fit : (setting : Setting) (old new : PassView) → KeepsNotes setting old new → IsPassFit setting old → IsPassFit setting new
keeps_fit setting old new keeps fit = record {
  plan = fit.plan;
  number = subst (λ (n : ℕ). n < setting.plan.passes) (sym keeps.number) fit.number;
  most = subst (λ (n : ℕ). n ≤ setting.plan.passes) (sym keeps.rights) fit.most;
  sound = keeps.sound fit.sound;
  noted = keeps.own fit.sound fit.noted;
}

-- One that was taken out of the registry is not registered.
pub is_out : (txn : ℕ) (ws : List Wish) → is_registered txn (without txn ws) ≡ false
is_out txn [] = refl
is_out txn (w ∷ ws) = by_test (w.txn == txn) refl (is_out txn ws)
  where
    by_test : (b : Bool) → (w.txn == txn) ≡ b → is_registered txn (without txn ws) ≡ false →
        is_registered txn (if not b then w ∷ without txn ws else without txn ws) ≡ false
    by_test true e rest = rest
    by_test false e rest = ap (λ (b : Bool). b || is_registered txn (without txn ws)) e ∙ rest
