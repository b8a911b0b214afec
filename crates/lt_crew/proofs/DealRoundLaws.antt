-- What the workers' seats and the deal's end tell of a round.
use Rattle.std.proofs.Common.{◌≡◌, ℕ, zero, suc, ◌<◌, ◌≤◌, List, [], ◌∷◌, ◌++◌, length, map, get_or, refl, sym, ap, subst, ◌∙◌, arith}
use mathlib.Core.Option.{some, some-ne-none}
use lib.ListN.{get_elem?}
use Rattle.std.specs.Prelude.{Option, None, Some}
use Rattle.std.specs.List.{All, AllByRecursion}
use Rattle.std.proofs.lemmas.List.{get_or-map, length-map}
use Rattle.lt_seq.specs.declared.event.Event.{Event}
use Rattle.lt_seq.specs.History.{IsFront}
use Rattle.lt_seq.specs.Yard.{PassView, Origin, IsSound, IsPlan}
use Rattle.lt_runner.specs.TurnView.{Seat}
use Rattle.lt_runner.specs.PlaysOn.{IsFit}
use Rattle.lt_runner.specs.Notes.{HasOwnNotes}
use Rattle.lt_runner.proofs.OwnNoteLaws.{own_notes_still}
use Rattle.lt_deal.specs.declared.deal.Deal.{Deal}
use Rattle.lt_deal.specs.declared.seat.DealSeat.{DealSeat}
use Rattle.lt_deal.specs.declared.view.View.{View}
use Rattle.lt_deal.specs.Rule.{times, Gave}
use Rattle.lt_deal.specs.Handles.{knows}
use Rattle.lt_deal.specs.Fresh.{waiting}
use Rattle.lt_deal.specs.Closings.{IsClosed, HasReturned, stock_of, drew_of, gave_of, nones_of}
use Rattle.lt_crew.specs.declared.worker.Worker.{Worker}
use Rattle.lt_crew.specs.Crew.{AreDistinct}
use Rattle.lt_crew.specs.Workers.{EachPair, IsLent, IsResting, AreNumbered, IsCaller, HasTaken}
use Rattle.lt_crew.specs.Drawing.{IsUsed, PlaysOut, drawn, given, known, HasSeat}
use Rattle.lt_crew.specs.DealRounds.{IsNewIn, GetsSeat, IsSeated, HasPlayed, HavePlayed, IsDealtRound}
use Rattle.lt_crew.proofs.TimesLaws.{flat, cut_at, flat_all}
use Rattle.lt_crew.proofs.CutLaws.{given_back, work_cut, cut_among, cut_apart, cut_moved, cut_dealt}
use Rattle.lt_crew.proofs.RoundsCrewLaws.{rounds_stay_crew}
use Rattle.lt_crew.proofs.DealtLaws.{element, Part, numbers_still, resting_still, passes_out, round_is, spent_in}

pub all_fit : (P : Seat → Type 0) (xs : List Seat) → AllByRecursion P xs → All P xs
all_fit P [] all k d low = absurd (omega arith)
all_fit P (x ∷ xs) all zero d low = all.0
all_fit P (x ∷ xs) all (suc k) d low = all_fit P xs all.1 k d (omega arith)

-- Seats.

pub new_seat : (deal : Deal Seat) (stock : List Seat) (o : Option (DealSeat Seat)) → length stock ≡ deal.count → IsNewIn deal stock o →
    HasSeat deal o × (known o ≡ waiting 1 stock)
new_seat deal stock None count blank = absurd blank
new_seat deal stock (Some seat) count blank = (
  ((blank.0, ap (λ m. length m.0.stock) blank.1 ∙ count), ap (λ m. m.1) blank.1),
  ap (λ m. m.0) blank.1,
)

abbrev pub cut_of : List (DealSeat Seat) → List (List ℕ)
cut_of seats = map (λ (s : DealSeat Seat). (knows s).drew) seats

drew_flat : (seats : List (DealSeat Seat)) → drew_of seats ≡ flat (cut_of seats)
drew_flat [] = refl
drew_flat (s ∷ seats) = ap (λ (l : List ℕ). (knows s).drew ++ l) (drew_flat seats)

stock_first : (seats : List (DealSeat Seat)) (e : DealSeat Seat) → 0 < length seats → stock_of seats ≡ (knows (get_or seats 0 e)).stock
stock_first [] e some_seat = absurd (omega arith)
stock_first (s ∷ seats) e some_seat = refl

nones_first : (seats : List (DealSeat Seat)) (e : DealSeat Seat) → 0 < length seats → (knows (get_or seats 0 e)).nones ≡ 1 → 0 < nones_of seats
nones_first [] e some_seat one = absurd (omega arith)
nones_first (s ∷ seats) e some_seat one = omega (arith, one)

gave_left : (xs ys : List (ℕ × Seat)) (i : ℕ) (x : Seat) → Gave xs i x → Gave (xs ++ ys) i x
gave_left xs ys i x (at, is) = (at, left xs at is)
  where
    left : (zs : List (ℕ × Seat)) (k : ℕ) → get_elem? zs k ≡ some (i, x) → get_elem? (zs ++ ys) k ≡ some (i, x)
    left [] k e = absurd (some-ne-none (i, x) (sym e))
    left (z ∷ zs) zero e = e
    left (z ∷ zs) (suc k) e = left zs k e

gave_right : (xs ys : List (ℕ × Seat)) (i : ℕ) (x : Seat) → Gave ys i x → Gave (xs ++ ys) i x
gave_right [] ys i x there = there
gave_right (z ∷ xs) ys i x there = let r = gave_right xs ys i x there in (suc r.0, r.1)

gave_among : (seats : List (DealSeat Seat)) (k : ℕ) (e : DealSeat Seat) (i : ℕ) (x : Seat) → k < length seats → Gave (knows (get_or seats k e)).gave i x →
    Gave (gave_of seats) i x
gave_among [] k e i x low there = absurd (omega arith)
gave_among (s ∷ seats) zero e i x low there = gave_left (knows s).gave (gave_of seats) i x there
gave_among (s ∷ seats) (suc k) e i x low there = gave_right (knows s).gave (gave_of seats) i x (gave_among seats k e i x (omega arith) there)

module _ {P : Type 0} (origin : P → Origin) (view : P → PassView) (place : Origin) (deal : Deal Seat) where
  -- A worker that was lent a right and got a seat.
  pub lent_seated : (before : List Event) (turns : List Seat) (old lent seated : List (Worker P)) → EachPair (IsLent origin view place before) old lent →
      EachPair (GetsSeat deal turns) lent seated → EachPair (IsLent origin view place before) old seated
  lent_seated before turns old lent seated lends gets = (
    gets.0 ∙ lends.0,
    λ k d low.
        let l = lends.1 k d low in
        let s = gets.1 k d (omega (arith, low, lends.0)) in
        record {
          of = ap origin s.pass ∙ l.of;
          pass = ap view s.pass ∙ l.pass;
          sound = subst (λ (p : P). IsSound place.setting (view p)) (sym s.pass) l.sound;
          memory = s.memory ∙ l.memory;
        },
  )

  pub all_seated : (before : List Event) (turns : List Seat) (old lent seated : List (Worker P)) → EachPair (IsLent origin view place before) old lent →
      EachPair (GetsSeat deal turns) lent seated → All (IsResting origin view place before) old → length turns ≡ deal.count → IsPlan place.setting.plan →
      All (IsFit place.setting) turns → AreDistinct turns → All (IsSeated origin view place deal) seated
  all_seated before turns old lent seated lends gets resting count plan fit distinct k d low =
      let in_old : k < length old = omega (arith, low, gets.0, lends.0) in
      let l = (lent_seated before turns old lent seated lends gets).1 k d in_old in
      let s = gets.1 k d (omega (arith, in_old, lends.0)) in
      let new_one = new_seat deal turns (get_or seated k d).seat count s.seat in
      let stock : (known (get_or seated k d).seat).stock ≡ turns = ap (λ (v : View Seat). v.stock) new_one.1 in
      record {
        of = l.of;
        ready = record { plan = plan; right = omega (arith, ap (λ (p : PassView). p.rights) l.pass); sound = l.sound };
        memory = l.memory ∙ (resting k d in_old).memory;
        seat = new_one.0;
        blank = new_one.1 ∙ ap (waiting 1) (sym stock);
        fit = subst (All (IsFit place.setting)) (sym stock) fit;
        distinct = subst AreDistinct (sym stock) distinct;
      }

  -- what their seats know
  pub seated_stock : (turns : List Seat) (lent seated : List (Worker P)) → EachPair (GetsSeat deal turns) lent seated → length turns ≡ deal.count →
      (k : ℕ) (d : Worker P) → k < length seated → (known (get_or seated k d).seat).stock ≡ turns
  seated_stock turns lent seated gets count k d low =
      ap (λ (v : View Seat). v.stock) (new_seat deal turns (get_or seated k d).seat count (gets.1 k d (omega (arith, low, gets.0))).seat).1

  module _ (history : List Event) (turns : List Seat) (seated new : List (Worker P)) (seats : List (DealSeat Seat))
      (plays : HavePlayed origin view place deal history seated new seats)
      (stocked : (k : ℕ) (d : Worker P) → k < length seated → (known (get_or seated k d).seat).stock ≡ turns) (several : 0 < length seated) where
    seat_used : (k : ℕ) (e : DealSeat Seat) → k < length seated → IsUsed turns (knows (get_or seats k e))
    seat_used k e low =
        let d = element seated k low in
        subst (λ (l : List Seat). IsUsed l (knows (get_or seats k e))) (stocked k d low) (plays.each k d e low).plays.used

    -- what the deal's end asks for
    pub stock_is : stock_of seats ≡ turns
    stock_is =
        let e = element seats 0 (omega (arith, several, plays.seated)) in
        stock_first seats e (omega (arith, several, plays.seated)) ∙ (seat_used 0 e several).stocked

    pub stock_long : length (stock_of seats) ≡ deal.count
    stock_long =
        let e = element seats 0 (omega (arith, several, plays.seated)) in
        ap length (stock_first seats e (omega (arith, several, plays.seated))) ∙ (plays.each 0 (element seated 0 several) e several).home.0.1

    pub all_returned : All (HasReturned deal.table.shared.table_id) seats
    all_returned k e low =
        let h : k < length seated = omega (arith, low, plays.seated) in
        let p = plays.each k (element seated k h) e h in
        (p.home.0.0, p.home.1, p.plays.used.returned)

    some_none : 0 < nones_of seats
    some_none =
        let e = element seats 0 (omega (arith, several, plays.seated)) in
        nones_first seats e (omega (arith, several, plays.seated)) (plays.each 0 (element seated 0 several) e several).ended

    cut_at_seat : (k : ℕ) (e : DealSeat Seat) → k < length seated → get_or (cut_of seats) k [] ≡ (knows (get_or seats k e)).drew
    cut_at_seat k e low = get_or-map (λ (s : DealSeat Seat). (knows s).drew) seats k e [] (omega (arith, low, plays.seated))

    cut_long : length (cut_of seats) ≡ length seated
    cut_long = length-map seats (λ (s : DealSeat Seat). (knows s).drew) ∙ plays.seated

    module _ (result : List Seat) (closed : IsClosed (stock_of seats) (drew_of seats) (gave_of seats) (nones_of seats) result) where
      count : length result ≡ length turns
      count = closed.count ∙ ap length stock_is

      inside : AllByRecursion (λ k. k < length turns) (flat (cut_of seats))
      inside = flat_all (λ k. k < length turns) (cut_of seats)
          (λ a low.
          let h : a < length seated = omega (arith, low, cut_long) in
          let e = element seats a (omega (arith, h, plays.seated)) in
          subst (AllByRecursion (λ k. k < length turns)) (sym (cut_at_seat a e h)) (seat_used a e h).inside)

      once : (k : ℕ) → times k (flat (cut_of seats)) ≤ 1
      once k = subst (λ (l : List ℕ). times k l ≤ 1) (drew_flat seats) (closed.once k)

      all : (k : ℕ) → k < length turns → times k (flat (cut_of seats)) ≡ 1
      all k low = subst (λ (l : List ℕ). times k l ≡ 1) (drew_flat seats) (closed.all some_none k (omega (arith, low, ap length stock_is)))

      gave_is : (k : ℕ) (e : DealSeat Seat) → k < length seated → given (knows (get_or seats k e)).gave ≡ drawn result (get_or (cut_of seats) k [])
      gave_is k e low =
          given_back result (knows (get_or seats k e)).gave
          (λ i x there. closed.back i x (gave_among seats k e i x (omega (arith, low, plays.seated)) there))
          ∙ ap (drawn result) ((seat_used k e low).returned ∙ sym (cut_at_seat k e low))

      part : (k : ℕ) (d : Worker P) → k < length seated →
          Part origin view place deal history (get_or seated k d) (get_or new k d) (drawn turns (get_or (cut_of seats) k []))
          (drawn result (get_or (cut_of seats) k []))
      part k d low =
          let e = element seats k (omega (arith, low, plays.seated)) in
          let p = plays.each k d e low in
          let was : drawn (known (get_or seated k d).seat).stock (knows (get_or seats k e)).drew ≡ drawn turns (get_or (cut_of seats) k []) =
          ap (λ (l : List Seat). drawn l (knows (get_or seats k e)).drew) (stocked k d low) ∙ ap (drawn turns) (sym (cut_at_seat k e low)) in
          record {
            of = p.of;
            between = p.between;
            plays = subst (PlaysOut place.setting (view (get_or seated k d).pass) p.between (drawn turns (get_or (cut_of seats) k []))) (gave_is k e low)
                (subst (λ (l : List Seat). PlaysOut place.setting (view (get_or seated k d).pass) p.between l (given (knows (get_or seats k e)).gave)) was
                p.plays.plays);
            seen = p.seen;
            pass = p.pass;
            sound = p.sound;
            memory = p.memory;
          }

      module _ (old : List (Worker P)) (me now : PassView) (lends : EachPair (IsLent origin view place me.front) old seated)
          (resting : All (IsResting origin view place me.front) old) (numbers : AreNumbered view old) (caller : IsCaller place.setting (length old) me)
          (ended : now.front ≡ history) (mine : now.mine ≡ me.mine) (number : now.number ≡ me.number) (front : IsFront me.front history)
          (sound : IsSound place.setting now) (distinct : AreDistinct turns) where
        parts : (k : ℕ) (d : Worker P) → k < length old →
            Part origin view place deal history (get_or seated k d) (get_or new k d) (drawn turns (get_or (cut_of seats) k []))
            (drawn result (get_or (cut_of seats) k []))
        parts k d low = part k d (omega (arith, low, lends.0))

        pub numbers_in_order : AreNumbered view new
        numbers_in_order = numbers_still origin view place deal me.front history old seated new (λ pass. drawn turns (cut_at (cut_of seats) pass))
            (λ pass. drawn result (cut_at (cut_of seats) pass)) resting lends (plays.workers ∙ lends.0) parts numbers (refl, refl)

        pub all_resting : All (IsResting origin view place history) new
        all_resting = resting_still origin view place deal me.front history old seated new (λ pass. drawn turns (cut_at (cut_of seats) pass))
            (λ pass. drawn result (cut_at (cut_of seats) pass)) resting lends (plays.workers ∙ lends.0) parts numbers (refl, refl)

        passes : place.setting.plan.passes ≡ suc (length (cut_of seats))
        passes = omega (arith, caller.passes, cut_long, lends.0)

        pub dealt_round : IsDealtRound place.setting me.front history turns result
        dealt_round =
            let were : ℕ → List Seat = λ pass. drawn turns (cut_at (cut_of seats) pass) in
            let are : ℕ → List Seat = λ pass. drawn result (cut_at (cut_of seats) pass) in
            let cut = cut_of seats in
            let round = round_is origin view place deal me.front history old seated new were are resting lends (plays.workers ∙ lends.0) parts numbers
            (refl, refl) me now mine caller.number number refl ended caller.sound sound caller.passes
            (cut_apart place.setting cut turns result distinct count inside once all passes) front in
            let out = passes_out origin view place deal me.front history old seated new were are resting lends (plays.workers ∙ lends.0) parts numbers
            (refl, refl) caller.passes in
            let among = cut_among place.setting cut turns result distinct count inside once all passes in
            let moved = cut_moved place.setting cut turns result distinct count inside once all passes in
            let spent = spent_in origin view place deal me.front history old seated new were are resting lends (plays.workers ∙ lends.0) parts numbers
            (refl, refl) me now mine caller.number number refl ended caller.sound sound caller.passes in
            let work_were = work_cut place.setting cut turns inside all passes in
            let work_are = work_cut place.setting cut result
            (subst (λ (n : ℕ). AllByRecursion (λ k. k < n) (flat cut)) (sym count) inside)
            (λ k low. all k (omega (arith, low, count))) passes in
            record {
              count = count;
              crew = rounds_stay_crew place.setting me.front history were are round out turns result among moved;
              were = were;
              are = are;
              round = round;
              out = out;
              among = among;
              moved = moved;
              dealt = cut_dealt place.setting cut turns result distinct count inside once all passes;
              spent = omega (arith, spent, work_were, work_are);
            }

  -- the end of a round
  pub record RoundEnds (me now : PassView) (turns result : List Seat) (new : List (Worker P)) : Type 0 where
    pub resting : All (IsResting origin view place now.front) new
    pub numbers : AreNumbered view new
    pub dealt : IsDealtRound place.setting me.front now.front turns result
    pub noted : HasOwnNotes place.setting now
    pub workers_noted : All (λ w. HasOwnNotes place.setting (view w.pass)) new

  -- a worker that was lent a right, played and was told the history has the notes of its own joins still
  played_noted : (before history : List Event) (old lent new : Worker P) (seat : DealSeat Seat) → IsResting origin view place before old →
      IsLent origin view place before old lent → HasPlayed origin view place deal history lent new seat →
      HasOwnNotes place.setting (view old.pass) → HasOwnNotes place.setting (view new.pass)
  played_noted before history old lent new seat rests lends plays noted =
      let setting = place.setting in
      let kept = plays.plays.noted in
      let begun : HasOwnNotes setting (view lent.pass) = subst (HasOwnNotes setting) (sym lends.pass) noted in
      own_notes_still setting plays.between (view new.pass) (kept.sound lends.sound) plays.sound
      (subst (IsFront plays.between.front) (sym (ap (λ (p : PassView). p.front) plays.pass)) plays.seen)
      (ap (λ (p : PassView). p.number) plays.pass) (ap (λ (p : PassView). p.mine) plays.pass) (ap (λ (p : PassView). p.notes) plays.pass)
      (kept.own lends.sound begun)

  pub round_ends : (turns result : List Seat) (old lent seated new : List (Worker P)) (seats : List (DealSeat Seat)) (me between now : PassView)
      (rights count : ℕ) → EachPair (IsLent origin view place me.front) old lent → EachPair (GetsSeat deal turns) lent seated →
      All (IsResting origin view place me.front) old → AreNumbered view old → IsCaller place.setting (length old) me → length turns ≡ deal.count →
      HavePlayed origin view place deal now.front seated new seats → between ≡ record me { rights = rights } →
      HasTaken place.setting between now count → AreDistinct turns → HasOwnNotes place.setting me →
      All (λ w. HasOwnNotes place.setting (view w.pass)) old →
      IsClosed (stock_of seats) (drew_of seats) (gave_of seats) (nones_of seats) result → RoundEnds me now turns result new
  round_ends turns result old lent seated new seats me between now rights count lends gets resting numbers caller long plays same taken distinct
      noted workers_noted closed =
      let stocked = seated_stock turns lent seated gets long in
      let seats_lent = lent_seated me.front turns old lent seated lends gets in
      let several : 0 < length seated = omega (arith, caller.some, lends.0, gets.0) in
      let mine : now.mine ≡ me.mine = ap (λ (p : PassView). p.mine) taken.same ∙ ap (λ (p : PassView). p.mine) same in
      let number : now.number ≡ me.number = ap (λ (p : PassView). p.number) taken.same ∙ ap (λ (p : PassView). p.number) same in
      let front : IsFront me.front now.front = subst (λ (p : PassView). IsFront p.front now.front) same taken.front in
      record {
        resting = all_resting now.front turns seated new seats plays stocked several result closed old me now seats_lent resting numbers caller refl mine
            number front taken.sound distinct;
        numbers = numbers_in_order now.front turns seated new seats plays stocked several result closed old me now seats_lent resting numbers caller refl
            mine number front taken.sound distinct;
        dealt = dealt_round now.front turns seated new seats plays stocked several result closed old me now seats_lent resting numbers caller refl mine
            number front taken.sound distinct;
        noted = own_notes_still place.setting me now caller.sound taken.sound front number mine
            (ap (λ (p : PassView). p.notes) taken.same ∙ ap (λ (p : PassView). p.notes) same) noted;
        workers_noted = λ k d low.
            let h : k < length seated = omega (arith, low, plays.workers) in
            let o : k < length old = omega (arith, h, seats_lent.0) in
            let e = element seats k (omega (arith, h, plays.seated)) in
            played_noted me.front now.front (get_or old k d) (get_or seated k d) (get_or new k d) (get_or seats k e) (resting k d o)
            (seats_lent.1 k d o) (plays.each k d e h) (workers_noted k d o);
      }
