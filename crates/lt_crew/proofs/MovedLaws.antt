-- Where the transactions are behind a round.
use Rattle.std.proofs.Common.{◌≡◌, ◌≢◌, ℕ, zero, suc, ◌<◌, List, [], ◌∷◌, Bool, true, false, ◌==◌, ◌||◌, IsTrue, length, get_or, set, refl, sym, ap, ◌∙◌, arith}
use Rattle.std.proofs.lemmas.List.{get_or_default}
use Rattle.lt_ranges.specs.Numbers.{is_in}
use Rattle.lt_seq.specs.Table.{Setting}
use Rattle.lt_runner.specs.TurnView.{Seat}
use Rattle.lt_runner.specs.Seats.{opening_seat}
use Rattle.lt_crew.specs.Crew.{numbers_in, only}
use Rattle.lt_crew.specs.Rounds.{IsMoved, played, stayed, AreMoved, seat_at, CallerMovesOne, DealtAreMoved}
use Rattle.lt_crew.proofs.OwnLaws.{eq_of}

-- the one that the caller alone plays
pub only_there : (was : Seat) (pass txn : ℕ) → IsTrue (is_in txn (numbers_in (only was pass))) → txn ≡ was.turn.txn
only_there was zero txn there = by_test (was.turn.txn == txn) refl there
  where
    by_test : (b : Bool) → (was.turn.txn == txn) ≡ b → IsTrue (b || false) → txn ≡ was.turn.txn
    by_test true e there = sym (eq_of was.turn.txn txn e)
    by_test false e there = cc
only_there was (suc pass) txn there = cc

stayed_one : (setting : Setting) (was is s : Seat) → s.turn.txn ≢ was.turn.txn → IsMoved setting (only was) (only is) s s
stayed_one setting was is s differs = stayed refl (λ pass there. differs (only_there was pass s.turn.txn there))

stayed_all : (setting : Setting) (was is : Seat) (seats : List Seat) →
    ((k : ℕ) (d : Seat) → k < length seats → (get_or seats k d).turn.txn ≢ was.turn.txn) →
    AreMoved setting (only was) (only is) seats seats
stayed_all setting was is [] others = tt
stayed_all setting was is (s ∷ ss) others =
    (stayed_one setting was is s (others 0 s (omega arith)), stayed_all setting was is ss (λ k d inside. others (suc k) d (omega (arith, inside))))

one_moved : (setting : Setting) (was is : Seat) → 0 < setting.plan.passes → (seats : List Seat) (index : ℕ) → index < length seats →
    was ≡ get_or seats index was →
    ((k : ℕ) (d : Seat) → k < length seats → k ≢ index → (get_or seats k d).turn.txn ≢ was.turn.txn) →
    AreMoved setting (only was) (only is) seats (set seats index is)
one_moved setting was is some [] index inside at others = absurd (omega (arith, inside))
one_moved setting was is some (s ∷ ss) zero inside at others =
    (played 0 0 some (omega arith) (sym at) refl, stayed_all setting was is ss (λ k d there. others (suc k) d (omega (arith, there)) (omega arith)))
one_moved setting was is some (s ∷ ss) (suc i) inside at others = (
  stayed_one setting was is s (others 0 s (omega arith) (omega arith)),
  one_moved setting was is some ss i (omega (arith, inside)) at
      (λ k d there differs. others (suc k) d (omega (arith, there)) (omega (arith, differs))),
)

pub caller_moves_one : CallerMovesOne
caller_moves_one setting seats index was is some distinct inside at =
    one_moved setting was is some seats index inside at
    (λ k d there differs same. differs
    (distinct k index d there inside (same ∙ ap (λ (s : Seat). s.turn.txn) (at ∙ get_or_default seats index was d inside))))

pub dealt_are_moved : DealtAreMoved
dealt_are_moved setting found before history were are [] round dealt = tt
dealt_are_moved setting found before history were are (at ∷ places) round dealt =
    let here = dealt.0 in
    let count = (round.worked at.pass here.pass).count in (
      played at.pass at.index here.pass here.index (get_or_default (were at.pass) at.index (opening_seat 0 0 []) (seat_at were at) here.index)
          (get_or_default (are at.pass) at.index (opening_seat 0 0 []) (seat_at were at) (omega (arith, here.index, count))),
      dealt_are_moved setting found before history were are places round dealt.1,
    )
