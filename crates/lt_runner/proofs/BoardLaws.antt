-- Where a transaction is on a board.
use Rattle.std.proofs.Common.{◌≡◌, ℕ, ◌<◌, ◌≤◌, List, [], None, false, length, get_or, Err, sym, ap, subst, ◌∙◌, inl, inr, arith}
use Rattle.std.specs.Ordering.{nat_cmp, ordering_index}
use Rattle.std.specs.declared.cmp.Ordering.TheVariants.{Equal}
use Rattle.std.specs.List.{HoldsAt}
use Rattle.std.specs.List.Sorted.{IsStrictlySortedBy, IsNonDecreasingBy, IsBinarySearchResult}
use Rattle.std.proofs.lemmas.Bool.Decides.{nat_tests}
use Rattle.std.proofs.lemmas.Bool.{cases_lt}
use Rattle.std.proofs.lemmas.Cmp.{ranked}
use Rattle.std.proofs.lemmas.List.{get_or-map, length-map}
use Rattle.std.proofs.lemmas.Map.Keys.{below_from_sorted}
use Rattle.lt_seq.specs.Table.{Setting}
use Rattle.lt_runner.specs.TurnView.{Turn, Seat}
use Rattle.lt_runner.specs.Seats.{idle}
use Rattle.lt_runner.specs.Board.{BoardView, IsOn, turns_of, numbers_on, turn_on}
use Rattle.lt_runner.proofs.PlaceLaws.{is_in_at}
use Rattle.lt_runner.proofs.TurnsLaws.{turn_of_at}

-- a seat's number
pub number_at : (board : BoardView) (i : ℕ) (d : Seat) → i < length board.seats →
    get_or (numbers_on board) i 0 ≡ (get_or board.seats i d).turn.txn
number_at board i d inside =
    let wide = length-map board.seats (λ (s : Seat). s.turn) in
    let here = get_or-map (λ (s : Seat). s.turn) board.seats i d d.turn inside in
    get_or-map (λ (t : Turn). t.txn) (turns_of board.seats) i d.turn 0 (omega (arith, wide)) ∙ ap (λ (t : Turn). t.txn) here

pub width : (board : BoardView) → length (numbers_on board) ≡ length board.seats
width board = length-map (turns_of board.seats) (λ (t : Turn). t.txn) ∙ length-map board.seats (λ (s : Seat). s.turn)

-- the comparisons with a number rise along the seats
comparisons_rise : (board : BoardView) (txn : ℕ) → IsStrictlySortedBy nat_cmp (numbers_on board) →
    IsNonDecreasingBy (λ seat. ordering_index (nat_cmp seat.turn.txn txn)) board.seats
comparisons_rise board txn sorted i j d le inside =
    let below = below_from_sorted (numbers_on board) i j 0 sorted in
    let same = λ (e : i ≡ j). ap (λ k. (get_or board.seats k d).turn.txn) e in
    let wide = width board in
    let left = number_at board i d in
    let right = number_at board j d in
    let rises : (get_or board.seats i d).turn.txn ≤ (get_or board.seats j d).turn.txn = grind (arith, below, same, left, right, wide) in
    grind (arith, nat_tests)

-- a search finds the transaction
pub seat_found : (board : BoardView) (seats : List Seat) (txn place : ℕ) → seats ≡ board.seats →
    HoldsAt (λ seat. nat_cmp seat.turn.txn txn ≡ Equal) seats place →
    HoldsAt (λ seat. seat.turn.txn ≡ txn) board.seats place
seat_found board seats txn place same equal d =
    ap (λ (ss : List Seat). (get_or ss place d).turn.txn) (sym same) ∙ ranked _ txn _ (sym (equal d))

none_missed : (board : BoardView) (txn place : ℕ) → IsOn txn board →
    IsBinarySearchResult (λ seat. nat_cmp seat.turn.txn txn) board.seats (Err place) → ⊥
none_missed board txn place on parted =
    let parts = parted (comparisons_rise board txn on.sorted) in
    let at = is_in_at txn (numbers_on board) on.number in
    let d : Seat = idle (record { txn = 0; lines = []; waits = false; recorded = []; outcome = None; releases = []; big = false }) in
    let inside : at.0 < length board.seats = omega (arith, at.1, width board) in
    let here : (get_or board.seats at.0 d).turn.txn ≡ txn = sym (number_at board at.0 d inside) ∙ at.2 in
    elim (cases_lt at.0 place) [
      | inl before ↦ let less = ranked _ txn _ (sym (parts.0 at.0 d (omega arith) before)) in omega (arith, less, here)
      | inr behind ↦ let more = ranked _ txn _ (sym (parts.1 at.0 d behind inside)) in omega (arith, more, here)
    ]

-- and misses none that is there
pub seat_missed : (board : BoardView) (seats : List Seat) (txn place : ℕ) → seats ≡ board.seats → IsOn txn board →
    IsBinarySearchResult (λ seat. nat_cmp seat.turn.txn txn) seats (Err place) → ⊥
seat_missed board seats txn place same on parted =
    none_missed board txn place on (subst (λ (ss : List Seat). IsBinarySearchResult (λ (seat : Seat). nat_cmp seat.turn.txn txn) ss (Err place)) same parted)

-- its turn is there
pub turn_at : (setting : Setting) (txn : ℕ) (board : BoardView) (place : ℕ) (d : Seat) → IsStrictlySortedBy nat_cmp (numbers_on board) →
    place < length board.seats →
    (get_or board.seats place d).turn.txn ≡ txn → (get_or board.seats place d).turn ≡ turn_on setting txn board
turn_at setting txn board place d sorted inside is =
    let wide = length-map board.seats (λ (s : Seat). s.turn) in
    let here = get_or-map (λ (s : Seat). s.turn) board.seats place d d.turn inside in
    sym (turn_of_at setting txn (turns_of board.seats) place d.turn sorted (omega (arith, wide)) (ap (λ (t : Turn). t.txn) here ∙ is) ∙ here)

-- the turn of a seat of the board as the code holds it
pub seat_turn : (inner board : BoardView) (place : ℕ) (seat : Seat) (turn : Turn) → inner ≡ board → seat ≡ get_or inner.seats place seat →
    ((d : Seat) → (get_or board.seats place d).turn ≡ turn) → seat.turn ≡ turn
seat_turn inner board place seat turn same is found = ap (λ (s : Seat). s.turn) (is ∙ ap (λ (b : BoardView). get_or b.seats place seat) same) ∙ found seat

-- some setting: a turn that is there is the same in each
abbrev pub any_setting : Setting
any_setting = record { plan = record { trees = 0; limit = 0; buffer = 0; passes = 0; first = 0 }; marks = [] }
