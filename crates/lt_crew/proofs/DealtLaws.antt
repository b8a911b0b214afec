-- A round in which the workers play what they draw.
use Rattle.std.proofs.Common.{◌≡◌, ℕ, zero, suc, ◌+◌, ◌<◌, ◌≤◌, List, [], ◌∷◌, false, length, get_or, refl, sym, ap, subst, ◌∙◌, arith}
use Rattle.std.specs.List.{All}
use Rattle.std.specs.Prelude.{Option, Some}
use Rattle.lt_seq.specs.declared.event.Event.{Event}
use Rattle.lt_seq.specs.Table.{Setting}
use Rattle.lt_seq.specs.History.{IsLegal, IsFront, calls_from}
use Rattle.lt_seq.specs.Yard.{PassView, Origin, IsSound}
use Rattle.lt_runner.specs.TurnView.{Seat}
use Rattle.lt_runner.specs.PlaysOn.{IsFit}
use Rattle.lt_deal.specs.declared.deal.Deal.{Deal}
use Rattle.lt_deal.specs.declared.seat.DealSeat.{DealSeat}
use Rattle.lt_crew.specs.declared.worker.Worker.{Worker}
use Rattle.lt_crew.specs.Crew.{work_all, work_of, IsPlayedOut, Worked, IsRound, AreApart, numbers_in}
use Rattle.lt_crew.specs.Workers.{EachPair, IsTold, IsLent, IsTaken, IsResting, AreNumbered, IsSeenBy}
use Rattle.lt_crew.specs.RoundsCrew.{ArePlayedOut}
use Rattle.lt_crew.specs.Drawing.{IsDrawn, PlaysOut, known, HasSeat}
use Rattle.lt_crew.specs.DealRounds.{KeepsPass, AreSeatsOf, HasWorked, HasPlayed, HavePlayed}
use Rattle.lt_crew.proofs.RoundLaws.{worked_by, worked_none}
use Rattle.lt_crew.proofs.SumLaws.{spent_by}

-- a list that has a place has an element
pub element : {X : Type 0} (xs : List X) (k : ℕ) → k < length xs → X
element [] k h = absurd (omega arith)
element (x ∷ xs) k h = x

abbrev PassIsOut : Setting → List Seat → List Seat → Type 0
PassIsOut setting were are = EachPair IsPlayedOut were are × All (IsFit setting) are

module _ {P : Type 0} (origin : P → Origin) (view : P → PassView) (place : Origin) (deal : Deal Seat) where
  played_is : (history : List Event) (a b k c d : Worker P) (seat : DealSeat Seat) → HasWorked origin view place deal a b → b.short ≡ false →
      b.seat ≡ Some seat → KeepsPass b k → IsTaken view k c → IsSeenBy view history c → IsTold origin view place history c d →
      HasPlayed origin view place deal history a d seat
  played_is history a b k c d seat worked memory has keeps taken seen told =
      let kept : view k.pass ≡ view b.pass = ap view keeps.pass in
      record {
        of = told.of;
        between = view b.pass;
        plays = subst (λ (o : Option (DealSeat Seat)). IsDrawn place.setting (known a.seat).stock (view a.pass) (view b.pass) (known o)) has
            (worked.plays memory);
        ended = subst (λ (o : Option (DealSeat Seat)). (known o).nones ≡ 1) has (worked.ended memory);
        home = subst (HasSeat deal) has worked.seat;
        seen = subst (λ (p : PassView). IsFront p.front history) (taken.pass ∙ (λ i. record (kept i) { rights = 0 })) seen;
        pass = told.pass ∙ (λ i. record (taken.pass i) { front = history }) ∙ (λ i. record (kept i) { rights = 0; front = history });
        sound = told.sound;
        memory = told.memory ∙ taken.memory ∙ keeps.memory ∙ memory;
      }

  pub all_played : (history now : List Event) (a b k c d : List (Worker P)) (seats : List (DealSeat Seat)) → EachPair (HasWorked origin view place deal) a b →
      All (λ w. w.short ≡ false) b → AreSeatsOf b seats → EachPair KeepsPass b k → EachPair (IsTaken view) k c → All (IsSeenBy view history) c →
      EachPair (IsTold origin view place history) c d → now ≡ history → HavePlayed origin view place deal now a d seats
  all_played history now a b k c d seats worked memory are keeps taken seen told same = record {
    workers = told.0 ∙ taken.0 ∙ keeps.0 ∙ worked.0;
    seated = are.count ∙ worked.0;
    each = λ i e s h.
        let in_b : i < length b = omega (arith, h, worked.0) in
        let in_k : i < length k = omega (arith, in_b, keeps.0) in
        let in_c : i < length c = omega (arith, in_k, taken.0) in
        subst (λ (es : List Event). HasPlayed origin view place deal es (get_or a i e) (get_or d i e) (get_or seats i s)) (sym same)
        (played_is history (get_or a i e) (get_or b i e) (get_or k i e) (get_or c i e) (get_or d i e) (get_or seats i s) (worked.1 i e h)
        (memory i e in_b) (are.each i e s in_b) (keeps.1 i e in_b) (taken.1 i e in_k) (seen i e in_c) (told.1 i e in_c));
  }

  -- The round. Each worker was resting, got a right, played these, and was told the history.
  pub record Part (history : List Event) (lent new : Worker P) (were are : List Seat) : Type 0 where
    pub of : origin new.pass ≡ place
    pub between : PassView
    pub plays : PlaysOut place.setting (view lent.pass) between were are
    pub seen : IsFront between.front history
    pub pass : view new.pass ≡ record between { rights = 0; front = history }
    pub sound : IsSound place.setting (view new.pass)
    pub memory : new.short ≡ false

  -- what a lent worker did in the round
  worked_at : (before history : List Event) (old lent new : Worker P) (were are : List Seat) → IsResting origin view place before old →
      IsLent origin view place before old lent → Part history lent new were are →
      Worked place.setting [] before history (view old.pass).number were are
  worked_at before history old lent new were are resting is_lent part =
      let number : (view lent.pass).number ≡ (view old.pass).number = ap (λ (p : PassView). p.number) is_lent.pass in
      let front : (view lent.pass).front ≡ before = ap (λ (p : PassView). p.front) is_lent.pass ∙ resting.seen in
      subst (λ (n : ℕ). Worked place.setting [] before history n were are) number
      (worked_by place.setting [] before history (view lent.pass) part.between (view new.pass) were are part.plays.plays front is_lent.sound
      part.seen (ap (λ (p : PassView). p.front) part.pass) (ap (λ (p : PassView). p.number) part.pass ∙ part.plays.plays.goes.number)
      (ap (λ (p : PassView). p.mine) part.pass) part.sound)

  module _ (before history : List Event) (old lent new : List (Worker P)) (were are : ℕ → List Seat)
      (resting : All (IsResting origin view place before) old) (lends : EachPair (IsLent origin view place before) old lent)
      (count : length new ≡ length old)
      (parts : (k : ℕ) (d : Worker P) → k < length old → Part history (get_or lent k d) (get_or new k d) (were (suc k)) (are (suc k)))
      (numbers : AreNumbered view old) (none : (were 0 ≡ []) × (are 0 ≡ [])) where
    pub numbers_still : AreNumbered view new
    numbers_still k d h =
        let within : k < length old = omega (arith, h, count) in
        let p = parts k d within in
        ap (λ (q : PassView). q.number) p.pass ∙ p.plays.plays.goes.number ∙ ap (λ (q : PassView). q.number) (lends.1 k d within).pass
        ∙ numbers k d within

    pub resting_still : All (IsResting origin view place history) new
    resting_still k d h =
        let p = parts k d (omega (arith, h, count)) in
        record {
          of = p.of;
          none = ap (λ (q : PassView). q.rights) p.pass;
          seen = ap (λ (q : PassView). q.front) p.pass;
          sound = p.sound;
          memory = p.memory;
        }

    out_of : (pass : ℕ) → pass < length old + 1 → PassIsOut place.setting (were pass) (are pass)
    out_of zero inside = subst (PassIsOut place.setting (were 0)) (sym none.1)
        (subst (λ (l : List Seat). PassIsOut place.setting l []) (sym none.0)
        ((refl, λ i d h. absurd (omega arith)), λ i d h. absurd (omega arith)))
    out_of (suc k) inside =
        let h : k < length old = omega (arith, inside) in
        let p = parts k (element old k h) h in
        (p.plays.out, p.plays.fit)

    -- each pass played all as far as it can
    pub passes_out : place.setting.plan.passes ≡ length old + 1 → ArePlayedOut place.setting were are
    passes_out passes = record {
      out = λ pass inside. (out_of pass (omega (arith, inside, passes))).0;
      fit = λ pass inside. (out_of pass (omega (arith, inside, passes))).1;
    }

    module _ (me now : PassView) (mine : now.mine ≡ me.mine) (zeroth : me.number ≡ 0) (same : now.number ≡ me.number) (began : me.front ≡ before)
        (ended : now.front ≡ history) (sound : IsSound place.setting me) (sound_now : IsSound place.setting now)
        (passes : place.setting.plan.passes ≡ length old + 1) where
      idle : calls_from place.setting.plan.first 0 history ≡ calls_from place.setting.plan.first 0 before
      idle =
          ap (calls_from place.setting.plan.first 0) (sym ended)
          ∙ ap (λ n. calls_from place.setting.plan.first n now.front) (sym (same ∙ zeroth))
          ∙ sym sound_now.mine ∙ mine ∙ sound.mine
          ∙ ap (λ n. calls_from place.setting.plan.first n me.front) zeroth ∙ ap (calls_from place.setting.plan.first 0) began

      worked_pass : (pass : ℕ) → pass < place.setting.plan.passes → Worked place.setting [] before history pass (were pass) (are pass)
      worked_pass zero inside =
          subst (Worked place.setting [] before history 0 (were 0)) (sym none.1)
          (subst (λ (l : List Seat). Worked place.setting [] before history 0 l []) (sym none.0)
          (worked_none place.setting [] before history 0 idle))
      worked_pass (suc k) inside =
          let h : k < length old = omega (arith, inside, passes) in
          let d = element old k h in
          let number : (view (get_or old k d).pass).number ≡ suc k = numbers k d h ∙ omega arith in
          subst (λ (n : ℕ). Worked place.setting [] before history n (were (suc k)) (are (suc k))) number
          (worked_at before history (get_or old k d) (get_or lent k d) (get_or new k d) (were (suc k)) (are (suc k)) (resting k d h)
          (lends.1 k d h) (parts k d h))

      pub round_is : AreApart (λ pass. numbers_in (were pass)) → IsFront before history → IsRound place.setting [] before history were are
      round_is apart front = record {
        legal = subst (IsLegal place.setting) ended sound_now.legal;
        front = front;
        apart = apart;
        worked = worked_pass;
      }

      -- what one pass made
      spent_at : (pass : ℕ) → pass < place.setting.plan.passes →
          length (calls_from place.setting.plan.first pass history) + work_all place.setting (are pass)
          ≤ length (calls_from place.setting.plan.first pass before) + work_all place.setting (were pass)
      spent_at zero inside = omega (arith, ap length idle, ap (work_all place.setting) none.0, ap (work_all place.setting) none.1)
      spent_at (suc k) inside =
          let h : k < length old = omega (arith, inside, passes) in
          let d = element old k h in
          let w = get_or old k d in
          let l = lends.1 k d h in
          let p = parts k d h in
          let r = resting k d h in
          let first = place.setting.plan.first in
          let number : (view w.pass).number ≡ suc k = numbers k d h ∙ omega arith in
          let lent_number : (view (get_or lent k d).pass).number ≡ (view w.pass).number = ap (λ (q : PassView). q.number) l.pass in
          let new_number : (view (get_or new k d).pass).number ≡ suc k =
          ap (λ (q : PassView). q.number) p.pass ∙ p.plays.plays.goes.number ∙ lent_number ∙ number in
          let was : (view (get_or lent k d).pass).mine ≡ calls_from first (suc k) before =
          ap (λ (q : PassView). q.mine) l.pass ∙ r.sound.mine ∙ ap (λ n. calls_from first n (view w.pass).front) number
          ∙ ap (calls_from first (suc k)) r.seen in
          let is : p.between.mine ≡ calls_from first (suc k) history =
          sym (ap (λ (q : PassView). q.mine) p.pass) ∙ p.sound.mine ∙ ap (λ n. calls_from first n (view (get_or new k d).pass).front) new_number
          ∙ ap (calls_from first (suc k)) (ap (λ (q : PassView). q.front) p.pass) in
          omega (arith, p.plays.spends, ap length was, ap length is)

      -- no more events than the work that was done
      pub spent_in : length history + work_of place.setting are ≤ length before + work_of place.setting were
      spent_in = spent_by place.setting before history were are (subst (IsLegal place.setting) began sound.legal)
          (subst (IsLegal place.setting) ended sound_now.legal) spent_at
