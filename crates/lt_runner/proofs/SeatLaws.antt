-- One seat of a board that is put in its place.
use Rattle.std.proofs.Common.{◌≡◌, ℕ, zero, suc, ◌<◌, List, [], ◌∷◌, map, Bool, length, get_or, slice_set, nat_cmp, refl, sym, ap, subst, ◌∙◌, arith}
use Rattle.std.specs.List.{AllByRecursion}
use Rattle.std.specs.List.Sorted.{IsStrictlySortedBy}
use Rattle.std.proofs.lemmas.List.{get_or-map, length-map}
use Rattle.lt_seq.specs.declared.event.Event.{Event}
use Rattle.lt_seq.specs.Table.{Setting}
use Rattle.lt_requests.specs.declared.wish.Wish.{Wish}
use Rattle.lt_runner.specs.TurnView.{Turn, Seat}
use Rattle.lt_runner.specs.Serial.{Game, with_turn, wishes_in}
use Rattle.lt_runner.specs.Steps.{IsSteady, IsInOrder}
use Rattle.lt_runner.specs.Board.{BoardView, IsBoard, IsCalm, Shows, turns_of, game_on}
use Rattle.lt_runner.proofs.TurnsLaws.{with_turn_at}
use Rattle.lt_runner.proofs.MoveLaws.{in_order_with}

map_set : (seats : List Seat) (place : ℕ) (seat : Seat) → turns_of (slice_set seats place seat) ≡ slice_set (turns_of seats) place seat.turn
map_set [] place seat = refl
map_set (s ∷ ss) zero seat = refl
map_set (s ∷ ss) (suc place) seat = ap (λ (ts : List Turn). s.turn ∷ ts) (map_set ss place seat)

-- the turns with one put in its place
pub turns_put : (seats : List Seat) (place : ℕ) (d seat : Seat) → IsStrictlySortedBy nat_cmp (map (λ turn. turn.txn) (turns_of seats)) →
    place < length seats →
    (get_or seats place d).turn.txn ≡ seat.turn.txn → turns_of (slice_set seats place seat) ≡ with_turn seat.turn (turns_of seats)
turns_put seats place d seat sorted inside same =
    let wide = length-map seats (λ (s : Seat). s.turn) in
    let here = get_or-map (λ (s : Seat). s.turn) seats place d d.turn inside in
    map_set seats place seat ∙ sym (with_turn_at seat.turn (turns_of seats) place d.turn sorted (omega (arith, wide)) (ap (λ (t : Turn). t.txn) here ∙ same))

calm_put : (seats : List Seat) (place : ℕ) (seat : Seat) → AllByRecursion IsCalm seats → IsCalm seat →
    AllByRecursion IsCalm (slice_set seats place seat)
calm_put [] place seat all one = tt
calm_put (s ∷ ss) zero seat all one = (one, all.1)
calm_put (s ∷ ss) (suc place) seat all one = (all.0, calm_put ss place seat all.1 one)

-- what is put in: in place of the one with its number, and this is registered then
pub record IsPut (setting : Setting) (board : BoardView) (place : ℕ) (seat : Seat) (registry : List Wish) : Type 0 where
  pub inside : place < length board.seats
  pub number : (d : Seat) → (get_or board.seats place d).turn.txn ≡ seat.turn.txn
  pub steady : IsSteady setting seat.turn
  pub calm : IsCalm seat
  pub waiting : registry ≡ wishes_in (with_turn seat.turn (turns_of board.seats))

abbrev pub board_put : BoardView → ℕ → Seat → List Wish → Bool → BoardView
board_put board place seat registry released = record { seats = slice_set board.seats place seat; registry = registry; released = released }

-- the board with it shows the game with its turn
pub shows_put : (setting : Setting) (txns : List ℕ) (events new_events : List Event) (board : BoardView) (place : ℕ) (seat : Seat) (registry : List Wish) (released : Bool) →
    IsBoard setting txns events board → IsPut setting board place seat registry →
    Shows setting txns new_events (board_put board place seat registry released) (record { events = new_events; turns = with_turn seat.turn (turns_of board.seats); released = released })
shows_put setting txns events new_events board place seat registry released stands put =
    let turns = turns_put board.seats place seat seat (subst (IsStrictlySortedBy nat_cmp) (sym stands.order.numbers) stands.order.sorted) put.inside (put.number seat) in
    let order = in_order_with setting txns new_events released (game_on events board) seat.turn stands.order put.steady in
    record {
      stands = record {
        order = subst (λ (ts : List Turn). IsInOrder setting txns (record { events = new_events; turns = ts; released = released })) (sym turns) order;
        numbered = stands.numbered;
        calm = calm_put board.seats place seat stands.calm put.calm;
        waiting = put.waiting ∙ ap wishes_in (sym turns);
      };
      game_is = ap (λ (ts : List Turn). (let g : Game = record { events = new_events; turns = ts; released = released } in g)) turns;
    }
