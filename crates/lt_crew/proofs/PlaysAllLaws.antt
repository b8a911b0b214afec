-- A pass that plays several transactions.
use Rattle.std.proofs.Common.{◌≡◌, ◌≢◌, ◌⊎◌, ℕ, ◌<◌, ◌≤◌, List, [], ◌∷◌, ◌++◌, true, IsTrue, length, get_or, set, refl, sym, ap, subst, ◌∙◌, inl, inr, arith, append_assoc, append-nil, length-append}
use Rattle.std.specs.List.{AllByRecursion}
use Rattle.std.proofs.lemmas.Bool.{cases_eq}
use Rattle.std.proofs.lemmas.List.{length-set, get_or-set_same, get_or-set_other, get_or_default}
use Rattle.lt_ranges.specs.Numbers.{is_in}
use Rattle.lt_seq.specs.declared.event.Event.{Event}
use Rattle.lt_seq.specs.declared.event.Receipt.{Receipt}
use Rattle.lt_seq.specs.Table.{Setting}
use Rattle.lt_seq.specs.History.{IsFront}
use Rattle.lt_seq.specs.Yard.{PassView, Goes, IsSound, place_after}
use Rattle.lt_seq.proofs.HistoryLaws.{front_itself}
use Rattle.lt_seq.proofs.YardLaws.{goes_then}
use Rattle.lt_runner.specs.TurnView.{Seat}
use Rattle.lt_runner.specs.Plays.{Stage}
use Rattle.lt_runner.specs.Played.{Search, Fits, IsAtLine, HasCome}
use Rattle.lt_runner.specs.PlaysOn.{PlaysOn}
use Rattle.lt_runner.proofs.ComeLaws.{come_on}
use Rattle.lt_crew.specs.Crew.{own_in, numbers_in, AreDistinct, PlaysAll}
use Rattle.lt_crew.proofs.OwnLaws.{own_all, own_none, own_in-append, dealt_append, dealt_own, is_in_numbers}

front_place : (setting : Setting) (a b : List Event) → IsFront a b → place_after setting a ≤ place_after setting b
front_place setting a b (more, is) = omega (arith, ap length is, length-append a more)

-- what fits at a front fits at what goes on from it
before_later : (txn low high : ℕ) (searches : List Search) → low ≤ high → AllByRecursion (λ s. s.txn ≢ txn → s.place < low) searches →
    AllByRecursion (λ s. s.txn ≢ txn → s.place < high) searches
before_later txn low high [] le before = tt
before_later txn low high (s ∷ ss) le before = ((λ other. let k = before.0 other in omega (arith, le, k)), before_later txn low high ss le before.1)

pub fits_later : (setting : Setting) (searches found : List Search) (a b : List Event) (txn : ℕ) → IsFront a b →
    Fits searches found (place_after setting a) txn → Fits searches found (place_after setting b) txn
fits_later setting searches found a b txn front fits =
    record {
      before = before_later txn (place_after setting a) (place_after setting b) searches
          (front_place setting a b front) fits.before;
      among = fits.among;
    }

goes_itself : (setting : Setting) (pass : PassView) → IsSound setting pass → Goes setting pass pass
goes_itself setting pass sound = record { number = refl; met = omega arith; front = front_itself pass.front; sound = sound }

-- before the first
pub plays_none : (setting : Setting) (found : List Search) (pass : PassView) (seats : List Seat) → IsSound setting pass →
    PlaysAll setting found pass pass seats seats
plays_none setting found pass seats sound = record {
  made = [];
  goes = goes_itself setting pass sound;
  rights = refl;
  mine = sym (append-nil pass.mine);
  own = tt;
  count = refl;
  txns = λ i d inside. refl;
  comes = λ i d inside opening receipts searches start fits come. let s = get_or seats i d in
      subst (λ (rs : List Receipt). HasCome true setting searches pass.front opening s rs) (sym (append-nil receipts)) come;
}

-- one of them plays on
pub plays_more : (setting : Setting) (found : List Search) (old pass new : PassView) (were seats : List Seat) (i : ℕ) (was is : Seat) →
    AreDistinct were → PlaysAll setting found old pass were seats →
    i < length seats → was ≡ get_or seats i was → PlaysOn setting found pass new was is → PlaysAll setting found old new were (set seats i is)
plays_more setting found old pass new were seats i was is distinct so_far inside at next = record {
  made = so_far.made ++ next.made;
  goes = goes_then setting old pass new so_far.goes next.goes;
  rights = next.rights ∙ so_far.rights;
  mine = next.mine ∙ ap (λ rs. rs ++ next.made) so_far.mine ∙ append_assoc old.mine so_far.made next.made;
  own = dealt_append (numbers_in were) so_far.made next.made so_far.own
      (dealt_own (numbers_in were) was.turn.txn next.made
      (subst (λ (n : ℕ). IsTrue (is_in n (numbers_in were))) (sym (number_then was)) (is_in_numbers were i was there)) next.own);
  count = length-set seats i is ∙ so_far.count;
  txns = λ k d within. txn_at k d within (cases_eq k i);
  comes = λ k d within opening receipts searches start fits come. comes_at k d within (cases_eq k i) opening receipts searches start fits come;
}
  where
    there : i < length were
    there = omega (arith, inside, so_far.count)

    number_then : (d : Seat) → was.turn.txn ≡ (get_or were i d).turn.txn
    number_then d = ap (λ (s : Seat). s.turn.txn) (at ∙ get_or_default seats i was d inside) ∙ so_far.txns i d there

    txn_at : (k : ℕ) (d : Seat) → k < length were → (k ≡ i) ⊎ (k ≢ i) → (get_or (set seats i is) k d).turn.txn ≡ (get_or were k d).turn.txn
    txn_at k d within (inl same) =
        ap (λ (n : ℕ). (get_or (set seats i is) n d).turn.txn) same ∙ ap (λ (s : Seat). s.turn.txn) (get_or-set_same seats i is d inside)
        ∙ next.txn ∙ number_then d
        ∙ ap (λ (n : ℕ). (get_or were n d).turn.txn) (sym same)
    txn_at k d within (inr differs) = ap (λ (s : Seat). s.turn.txn) (get_or-set_other seats i k is d differs) ∙ so_far.txns k d within

    comes_at : (k : ℕ) (d : Seat) → k < length were → (k ≡ i) ⊎ (k ≢ i) → (opening : Stage) (receipts : List Receipt) (searches : List Search) →
        IsAtLine opening → Fits searches found (place_after setting old.front) opening.turn.txn →
        (let past_seat = get_or were k d in let now = get_or (set seats i is) k d in
        HasCome true setting searches old.front opening past_seat receipts →
        HasCome true setting searches new.front opening now (receipts ++ own_in past_seat.turn.txn (so_far.made ++ next.made)))
    comes_at k d within (inl same) opening receipts searches start fits come =
        let past_seat = get_or were k d in
        let now = get_or (set seats i is) k d in
        let before : HasCome true setting searches pass.front opening (get_or seats k d)
        (receipts ++ own_in past_seat.turn.txn so_far.made) = so_far.comes k d within opening receipts searches start fits come in
        let here : get_or seats k d ≡ was = ap (λ (n : ℕ). get_or seats n d) same ∙ get_or_default seats i d was inside ∙ sym at in
        let later : HasCome true setting searches new.front opening is ((receipts ++ own_in past_seat.turn.txn so_far.made) ++ next.made) =
        next.comes opening (receipts ++ own_in past_seat.turn.txn so_far.made) searches start
        (fits_later setting searches found old.front pass.front opening.turn.txn so_far.goes.front fits)
        (subst (λ (s : Seat). HasCome true setting searches pass.front opening s (receipts ++ own_in past_seat.turn.txn so_far.made)) here before) in
        let mine : own_in past_seat.turn.txn next.made ≡ next.made =
        own_all past_seat.turn.txn next.made
        (subst (λ (n : ℕ). AllByRecursion (λ (r : Receipt). r.event.txn ≡ n) next.made)
        (number_then d ∙ ap (λ (n : ℕ). (get_or were n d).turn.txn) (sym same)) next.own) in
        let whole : (receipts ++ own_in past_seat.turn.txn so_far.made) ++ next.made ≡ receipts ++ own_in past_seat.turn.txn
        (so_far.made ++ next.made) =
        append_assoc receipts (own_in past_seat.turn.txn so_far.made) next.made
        ∙ ap (λ rs. receipts ++ rs)
        (ap (λ rs. own_in past_seat.turn.txn so_far.made ++ rs) (sym mine) ∙ sym (own_in-append past_seat.turn.txn so_far.made next.made)) in
        let placed : is ≡ now = sym (ap (λ (n : ℕ). get_or (set seats i is) n d) same ∙ get_or-set_same seats i is d inside) in
        subst (λ (s : Seat). HasCome true setting searches new.front opening s
        (receipts ++ own_in past_seat.turn.txn (so_far.made ++ next.made))) placed
        (subst (λ (rs : List Receipt). HasCome true setting searches new.front opening is rs) whole later)
    comes_at k d within (inr differs) opening receipts searches start fits come =
        let past_seat = get_or were k d in
        let s = get_or seats k d in
        let before : HasCome true setting searches pass.front opening s
        (receipts ++ own_in past_seat.turn.txn so_far.made) = so_far.comes k d within opening receipts searches start fits come in
        let far : past_seat.turn.txn ≢ was.turn.txn = λ same. differs (distinct k i d within there (same ∙ number_then d)) in
        let none : own_in past_seat.turn.txn (so_far.made ++ next.made) ≡ own_in past_seat.turn.txn so_far.made =
        own_in-append past_seat.turn.txn so_far.made next.made
        ∙ ap (λ rs. own_in past_seat.turn.txn so_far.made ++ rs) (own_none past_seat.turn.txn was.turn.txn next.made next.own far)
        ∙ append-nil (own_in past_seat.turn.txn so_far.made) in
        subst (λ (x : Seat). HasCome true setting searches new.front opening x (receipts ++ own_in past_seat.turn.txn (so_far.made ++ next.made)))
        (sym (get_or-set_other seats i k is d differs))
        (subst (λ (rs : List Receipt). HasCome true setting searches new.front opening s (receipts ++ rs)) (sym none)
        (come_on true setting searches pass.front new.front opening s (receipts ++ own_in past_seat.turn.txn so_far.made) next.goes.front before))
