-- Workers' passes.
use Rattle.std.proofs.Common.{◌≡◌, ℕ, ◌+◌, ◌<◌, ◌≤◌, List, [], ◌++◌, length, get_or, set, sym, ap, subst, ◌∙◌, inl, inr, arith, append-nil}
use Rattle.std.proofs.lemmas.List.{nil_from_length, length-append}
use Rattle.lt_seq.specs.declared.event.Event.{Event}
use Rattle.lt_seq.specs.Table.{Setting}
use Rattle.lt_seq.specs.History.{IsFront}
use Rattle.lt_seq.specs.Yard.{PassView, NoteView, Origin, IsLonger, Shares, Learns}
use Rattle.lt_seq.proofs.HistoryLaws.{front_on, front_itself}
use Rattle.lt_crew.specs.declared.worker.Worker.{Worker}
use Rattle.lt_crew.specs.Workers.{UpTo, AllBelow, IsTold, IsSeenBy, HasTaken}
use Rattle.lt_crew.proofs.PairLaws.{below_set, below_weaker}

-- two fronts of each other are one
pub front_both : (a b : List Event) → IsFront a b → IsFront b a → a ≡ b
front_both a b p q =
    let one = ap length p.1 in
    let two = ap length q.1 in
    let none : p.0 ≡ [] = nil_from_length p.0 (omega (arith, one, two, length-append a p.0, length-append b q.0)) in
    sym (p.1 ∙ ap (λ z. a ++ z) none ∙ append-nil a)

-- who learns of a front that goes on as its own has that front
longer_told : (own told longer : List Event) → IsFront own told → IsLonger own told longer → longer ≡ told
longer_told own told longer p (inl h) = h.0 ∙ front_both own told p h.1
longer_told own told longer p (inr h) = h.0

-- and who learns of less keeps its own
pub longer_front : (own told longer : List Event) → IsLonger own told longer → IsFront own longer × IsFront told longer
longer_front own told longer (inl h) = (subst (IsFront own) (sym h.0) (front_itself own), subst (IsFront told) (sym h.0) h.1)
longer_front own told longer (inr h) = (subst (IsFront own) (sym h.0) h.1, subst (IsFront told) (sym h.0) (front_itself told))

module _ {P : Type 0} (origin : P → Origin) (view : P → PassView) (place : Origin) where
  pub told_is : (history : List Event) (old new : Worker P) (note : NoteView) (giver : PassView) → 2 ≤ place.setting.plan.passes →
      giver.front ≡ history → Shares place.setting giver 0 note → IsFront (view old.pass).front history → (view old.pass).rights ≡ 0 →
      Learns place.setting (view old.pass) note (view new.pass) → origin new.pass ≡ place → new.short ≡ old.short →
      IsTold origin view place history old new
  told_is history old new note giver several has shares seen none learns of memory =
      let told : note.front ≡ history = shares.whole several ∙ has in
      let front : (view new.pass).front ≡ history = longer_told (view old.pass).front note.front (view new.pass).front
      (subst (IsFront (view old.pass).front) (sym told) seen) learns.longer ∙ told in
      let rights : (view old.pass).rights + note.rights ≡ (view old.pass).rights = omega (arith, shares.rights_are) in
      record {
        of = of;
        pass = learns.same ∙ (λ i. record (view old.pass) { rights = rights i; front = front i });
        sound = learns.sound;
        memory = memory;
      }

-- one right more is taken back
pub taken_more : (setting : Setting) (old mid new : PassView) (count : ℕ) (front : List Event) → HasTaken setting old mid count →
    Learns setting mid (record { rights = 1; front = front }) new → HasTaken setting old new (count + 1)
taken_more setting old mid new count front taken learns =
    let sum : (old.rights + count) + 1 ≡ old.rights + (count + 1) = omega arith in
    record {
      same = learns.same ∙ (λ i. record (taken.same i) { rights = (taken.same i).rights + 1; front = new.front })
          ∙ (λ i. record old { rights = sum i; front = new.front });
      front = front_on old.front mid.front new.front taken.front (longer_front mid.front front new.front learns.longer).0;
      sound = learns.sound;
    }

module _ {P : Type 0} (view : P → PassView) where
  pub seen_more : (one two : List Event) (i : ℕ) (xs : List (Worker P)) (x : Worker P) → AllBelow (IsSeenBy view one) i xs → IsFront one two →
      IsFront (view x.pass).front two → AllBelow (IsSeenBy view two) (i + 1) (set xs i x)
  seen_more one two i xs x below grows own =
      below_set (IsSeenBy view two) i xs x
      (below_weaker (IsSeenBy view one) (IsSeenBy view two) i xs (λ w s. front_on (view w.pass).front one two s grows) below) own

  -- a worker that was not told yet has been seen
  pub seen_at : (history now : List Event) (i : ℕ) (d : Worker P) (old cur : List (Worker P)) (R : Worker P → Worker P → Type 0) →
      UpTo R i old cur → i < length cur → now ≡ history →
      ((k : ℕ) (e : Worker P) → k < length old → IsSeenBy view history (get_or old k e)) → IsFront (view (get_or cur i d).pass).front now
  seen_at history now i d old cur R upto inside same seen =
      subst (λ (es : List Event). IsFront (view (get_or cur i d).pass).front es) (sym same)
      (subst (IsSeenBy view history) (sym (upto.rest i d (omega arith))) (seen i d (omega (arith, inside, upto.len))))
