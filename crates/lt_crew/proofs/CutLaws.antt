-- The transactions of a deal, cut into those that each pass drew.
use Rattle.std.proofs.Common.{◌≡◌, ℕ, zero, suc, ◌<◌, ◌≤◌, List, [], ◌∷◌, IsTrue, length, get_or, refl, sym, ap, subst, ◌∙◌, arith}
use mathlib.Core.Option.{some}
use lib.ListN.{get_elem?}
use Rattle.std.specs.List.{AllByRecursion}
use Rattle.std.proofs.lemmas.Bool.{false≢true}
use Rattle.std.proofs.lemmas.List.{get_or_default}
use Rattle.lt_ranges.specs.Numbers.{is_in}
use Rattle.lt_seq.specs.Table.{Setting}
use Rattle.lt_runner.specs.TurnView.{Seat}
use Rattle.lt_runner.specs.Work.{work}
use Rattle.lt_runner.specs.CrewCost.{sum_of}
use Rattle.lt_deal.specs.Rule.{times, Gave}
use Rattle.lt_crew.specs.Crew.{numbers_in, AreDistinct, AreApart, work_all, work_of, sum_to}
use Rattle.lt_crew.specs.Rounds.{IsMoved, played, AreMoved}
use Rattle.lt_crew.specs.RoundsCrew.{AreAmong}
use Rattle.lt_crew.specs.Drawing.{nobody, drawn, given, indexes_of}
use Rattle.lt_crew.proofs.OwnLaws.{is_in_numbers}
use Rattle.lt_crew.proofs.SumLaws.{sum_same}
use Rattle.lt_crew.proofs.TimesLaws.{flat, cut_at, over, over_all, sum_shift, sum_passes, all_at, part_all, times_here, place_of, flat_apart, flat_place}
use Rattle.lt_crew.proofs.DrawnLaws.{drawn_at, drawn_len, in_drawn, elem_get}

moved_each : (setting : Setting) (were are : ℕ → List Seat) (old new : List Seat) → length new ≡ length old →
    ((i : ℕ) (d : Seat) → i < length old → IsMoved setting were are (get_or old i d) (get_or new i d)) → AreMoved setting were are old new
moved_each setting were are [] [] count each = tt
moved_each setting were are [] (is ∷ later) count each = absurd (omega (arith, count))
moved_each setting were are (was ∷ before) [] count each = absurd (omega (arith, count))
moved_each setting were are (was ∷ before) (is ∷ later) count each =
    (each 0 was (omega arith), moved_each setting were are before later (omega (arith, count)) (λ i d inside. each (suc i) d (omega (arith, inside))))

work_drawn : (setting : Setting) (stock : List Seat) (ds : List ℕ) →
    work_all setting (drawn stock ds) ≡ over (λ k. work setting (get_or stock k nobody)) ds
work_drawn setting stock [] = refl
work_drawn setting stock (k ∷ ds) = omega (arith, work_drawn setting stock ds)

work_stock : (setting : Setting) (stock : List Seat) →
    sum_to (λ k. work setting (get_or stock k nobody)) (length stock) ≡ sum_of (work setting) stock
work_stock setting [] = refl
work_stock setting (s ∷ stock) =
    omega (arith, sum_shift (λ k. work setting (get_or (s ∷ stock) k nobody)) (length stock), work_stock setting stock)

-- what was given back, where it stands at its index in the end
pub given_back : (result : List Seat) (gave : List (ℕ × Seat)) → ((i : ℕ) (x : Seat) → Gave gave i x → get_elem? result i ≡ some x) →
    given gave ≡ drawn result (indexes_of gave)
given_back result [] back = refl
given_back result ((i, x) ∷ gave) back =
    let here : x ≡ get_or result i nobody = sym (elem_get result i x nobody (back i x (0, refl))) in
    let rest = given_back result gave (λ k y there. back k y (suc there.0, there.1)) in
    λ j. here j ∷ rest j

module _ (setting : Setting) (cut : List (List ℕ)) where
  -- all that is left of the transactions that were cut so
  pub work_cut : (stock : List Seat) → AllByRecursion (λ k. k < length stock) (flat cut) → ((k : ℕ) → k < length stock →
      times k (flat cut) ≡ 1) →
      setting.plan.passes ≡ suc (length cut) → work_of setting (λ pass. drawn stock (cut_at cut pass)) ≡ sum_of (work setting) stock
  work_cut stock inside all passes =
      sum_same (λ pass. work_all setting (drawn stock (cut_at cut pass))) (λ pass. over (λ k. work setting (get_or stock k nobody)) (cut_at cut pass))
      setting.plan.passes (λ pass low. work_drawn setting stock (cut_at cut pass))
      ∙ ap (sum_to (λ pass. over (λ k. work setting (get_or stock k nobody)) (cut_at cut pass))) passes
      ∙ sum_passes (λ k. work setting (get_or stock k nobody)) cut
      ∙ over_all (λ k. work setting (get_or stock k nobody)) (flat cut) (length stock) inside all
      ∙ work_stock setting stock

  module _ (turns result : List Seat) (distinct : AreDistinct turns) (count : length result ≡ length turns)
      (inside : AllByRecursion (λ k. k < length turns) (flat cut)) (once : (k : ℕ) → times k (flat cut) ≤ 1)
      (all : (k : ℕ) → k < length turns → times k (flat cut) ≡ 1) (passes : setting.plan.passes ≡ suc (length cut)) where
    in_cut : (pass : ℕ) → AllByRecursion (λ k. k < length turns) (cut_at cut pass)
    in_cut zero = tt
    in_cut (suc a) = part_all (λ k. k < length turns) cut inside a

    -- what was drawn is among them
    pub cut_among : AreAmong turns (λ pass. drawn turns (cut_at cut pass))
    cut_among pass txn there =
        let r = in_drawn turns (cut_at cut pass) txn there in
        subst (λ (n : ℕ). IsTrue (is_in n (numbers_in turns))) r.2
        (is_in_numbers turns (get_or (cut_at cut pass) r.0 0) nobody (all_at (λ k. k < length turns) (cut_at cut pass) (in_cut pass) r.0 0 r.1))

    -- none was drawn by two
    pub cut_apart : AreApart (λ pass. numbers_in (drawn turns (cut_at cut pass)))
    cut_apart txn zero q in_p in_q = absurd (false≢true in_p)
    cut_apart txn (suc a) zero in_p in_q = absurd (false≢true in_q)
    cut_apart txn (suc a) (suc b) in_p in_q =
        let p = in_drawn turns (get_or cut a []) txn in_p in
        let q = in_drawn turns (get_or cut b []) txn in_q in
        let i : ℕ = get_or (get_or cut a []) p.0 0 in
        let same : get_or (get_or cut b []) q.0 0 ≡ get_or (get_or cut a []) p.0 0 =
        distinct (get_or (get_or cut b []) q.0 0) (get_or (get_or cut a []) p.0 0) nobody
        (all_at (λ k. k < length turns) (get_or cut b []) (in_cut (suc b)) q.0 0 q.1)
        (all_at (λ k. k < length turns) (get_or cut a []) (in_cut (suc a)) p.0 0 p.1) (q.2 ∙ sym p.2) in
        ap suc (flat_apart cut once i a b (times_here (get_or cut a []) p.0 0 p.1)
        (subst (λ (n : ℕ). 0 < times n (get_or cut b [])) same (times_here (get_or cut b []) q.0 0 q.1)))

    -- where each was drawn
    cut_place : (i : ℕ) → i < length turns →
        (a : ℕ) × (j : ℕ) × (a < length cut) × (j < length (get_or cut a [])) × ((d : ℕ) → get_or (get_or cut a []) j d ≡ i)
    cut_place i low =
        let r = flat_place i cut (let one = all i low in omega (arith, one)) in
        let p = place_of i (get_or cut r.0 []) r.2 in
        (r.0, p.0, r.1, p.1, p.2)

    stands_at : (stock : List Seat) (a j i : ℕ) (d e : Seat) → i < length stock → j < length (get_or cut a []) →
        ((d : ℕ) → get_or (get_or cut a []) j d ≡ i) → get_or (drawn stock (get_or cut a [])) j e ≡ get_or stock i d
    stands_at stock a j i d e low there at =
        drawn_at stock (get_or cut a []) j e there ∙ ap (λ (n : ℕ). get_or stock n nobody) (at 0) ∙ get_or_default stock i nobody d low

    pub cut_moved : AreMoved setting (λ pass. drawn turns (cut_at cut pass)) (λ pass. drawn result (cut_at cut pass)) turns result
    cut_moved =
        moved_each setting (λ pass. drawn turns (cut_at cut pass)) (λ pass. drawn result (cut_at cut pass)) turns result count
        (λ i d low. one i d low (cut_place i low))
      where
        one : (i : ℕ) (d : Seat) → i < length turns →
            (a : ℕ) × (j : ℕ) × (a < length cut) × (j < length (get_or cut a [])) × ((d : ℕ) → get_or (get_or cut a []) j d ≡ i) →
            IsMoved setting (λ pass. drawn turns (cut_at cut pass)) (λ pass. drawn result (cut_at cut pass)) (get_or turns i d) (get_or result i d)
        one i d low (a, j, in_cut, there, at) =
            played (suc a) j (omega (arith, in_cut, passes)) (omega (arith, there, drawn_len turns (get_or cut a [])))
            (sym (stands_at turns a j i d (get_or turns i d) low there at))
            (sym (stands_at result a j i d (get_or turns i d) (omega (arith, low, count)) there at))

    pub cut_dealt : (i : ℕ) (d : Seat) → i < length turns →
        (pass : ℕ) × IsTrue (is_in (get_or turns i d).turn.txn (numbers_in (drawn turns (cut_at cut pass))))
    cut_dealt i d low =
        let r = cut_place i low in
        let a = r.0 in
        let j = r.1 in (
          suc a,
          subst (λ (s : Seat). IsTrue (is_in s.turn.txn (numbers_in (drawn turns (get_or cut a [])))))
              (stands_at turns a j i d d low r.3 r.4)
              (is_in_numbers (drawn turns (get_or cut a [])) j d (let there = r.3 in omega (arith, there, drawn_len turns (get_or cut a [])))),
        )
