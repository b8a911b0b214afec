-- Retries that are held again are the plain scheduler's, so a pass of them settles one.
use Rattle.std.proofs.Common.{◌≡◌, ◌⊎◌, inl, inr, ℕ, ◌<◌, List, [], ◌∷◌, ◌++◌, map}
use Rattle.std.proofs.Common.{Bool, true, false, ◌==◌, ◌&&◌, not, if◌then◌else◌, Some, None, is_some, is_none, Ok}
use Rattle.std.proofs.Common.{length, nat_cmp, refl, sym, ap, subst, ◌∙◌, arith}
use Rattle.std.specs.List.{AllByRecursion, cons_option}
use Rattle.std.proofs.lemmas.List.Sums.{fold-append}
use Rattle.lt_seq.proofs.NumbersLaws.{increasing_from}
use Rattle.std.specs.List.Sorted.{IsStrictlySortedBy}
use Rattle.std.proofs.lemmas.Bool.Decides.{nat_tests}
use Rattle.lt_ranges.specs.Numbers.{is_in}
use Rattle.lt_seq.specs.declared.event.Event.{Event}
use Rattle.lt_seq.specs.Table.{Setting}
use Rattle.lt_seq.specs.History.{IsLegal}
use Rattle.lt_seq.specs.Yard.{PassView}
use Rattle.lt_trace.specs.declared.line.Line.{Line}
use Rattle.lt_requests.specs.declared.wish.Wish.{Wish}
use Rattle.lt_requests.specs.declared.started.Started.TheVariants.{Waits}
use Rattle.lt_requests.specs.Registered.{Ascend}
use Rattle.lt_requests.specs.Started.{IsStarted}
use Rattle.lt_runner.specs.TurnView.{Turn, Seat}
use Rattle.lt_runner.specs.Turn.{Move, turn_after}
use Rattle.lt_runner.specs.Attempt.{bar_of}
use Rattle.lt_runner.specs.Plays.{next_wish}
use Rattle.lt_runner.specs.Serial.{Game, game_at, turn_of, with_turn, is_waiting, is_ready, wishes_in}
use Rattle.lt_runner.specs.Serial.{line_move, does, settles, plays_line, plays_next, plays_on, retried}
use Rattle.lt_runner.specs.Steps.{IsSteady, IsInOrder}
use Rattle.lt_runner.specs.Settles.{OwnersWait}
use Rattle.lt_runner.specs.StartsAlone.{MayStartAtOnce, IsLockMove}
use Rattle.lt_runner.specs.Board.{turns_of, seat_so}
use Rattle.lt_runner.specs.Listed.{IsRegistryOf, listed_in}
use Rattle.lt_runner.specs.Retries.{AreHeldAgain, AllWaitersListed}
use Rattle.lt_runner.proofs.ChoiceLaws.{on_true, on_false}
use Rattle.lt_runner.proofs.SteadyLaws.{turn_has}
use Rattle.lt_runner.proofs.WishLaws.{IsPlaced, all_placed}
use Rattle.lt_runner.proofs.AskLaws.{wishes_rise}
use Rattle.lt_runner.proofs.LockMoveLaws.{HasLock, has_lock}
use Rattle.lt_runner.proofs.StartedLaws.{started_at_once}
use Rattle.lt_runner.proofs.SettlesLaws.{settles_one}

-- a turn put in its own place
with_same : (setting : Setting) (turn : Turn) (turns us : List Turn) → turn_of setting turn.txn turns ≡ turn →
    AllByRecursion (IsPlaced setting turns) us → with_turn turn us ≡ us
with_same setting turn turns [] there placed = refl
with_same setting turn turns (u ∷ us) there placed = by_test (u.txn == turn.txn) refl (with_same setting turn turns us there placed.1)
  where
    by_test : (b : Bool) → (u.txn == turn.txn) ≡ b → with_turn turn us ≡ us → (if b then turn else u) ∷ with_turn turn us ≡ u ∷ us
    by_test true e rest =
        let number : u.txn ≡ turn.txn = grind (arith, nat_tests) in
        let same : turn ≡ u = sym there ∙ ap (λ (n : ℕ). turn_of setting n turns) (sym number) ∙ placed.0.there in
        ap (λ (t : Turn). t ∷ with_turn turn us) same ∙ ap (λ (ts : List Turn). u ∷ ts) rest
    by_test false e rest = ap (λ (ts : List Turn). u ∷ ts) rest

waits_still : (turn : Turn) → turn.waits ≡ true → record turn { waits = true } ≡ turn
waits_still turn held = ap (λ (w : Bool). (let t : Turn = record turn { waits = w } in t)) (sym held)

not_ready : (turn : Turn) → turn.waits ≡ true → is_ready turn ≡ false
not_ready turn held = ap (λ (w : Bool). is_none turn.outcome && not w) held ∙ by_none (is_none turn.outcome)
  where
    by_none : (b : Bool) → (b && not true) ≡ false
    by_none true = refl
    by_none false = refl

-- one that waits has not ended
pub goes_on : (setting : Setting) (turn : Turn) → IsSteady setting turn → turn.waits ≡ true → is_some turn.outcome ≡ false
goes_on setting turn steady held = by_outcome (is_some turn.outcome) refl
  where
    by_outcome : (b : Bool) → is_some turn.outcome ≡ b → is_some turn.outcome ≡ false
    by_outcome true e = absurd (let k : true ≡ false = sym held ∙ steady.still e in cc)
    by_outcome false e = e

pub retries_are_held : (setting : Setting) (bar : ℕ) (turns : List Turn) (turn : Turn) (wish : Wish) (others registry before left : List Wish)
    (old new : PassView) (owners : List ℕ) →
    IsInOrder setting (map (λ t. t.txn) turns) (game_at old.front turns false) → is_in turn.txn (map (λ t. t.txn) turns) ≡ true →
    turn_of setting turn.txn turns ≡ turn → turn.waits ≡ true →
    next_wish turn.txn turn.lines ≡ Some wish → registry ≡ wishes_in turns → Ascend registry → bar ≡ bar_of setting turn →
    MayStartAtOnce setting old registry →
    IsStarted setting bar wish others registry before old new left (Ok (Waits owners)) →
    retried setting (game_at old.front turns false) turn.txn ≡ game_at new.front turns false
retries_are_held setting bar turns turn wish others registry before left old new owners order number there held next all ascend same may is =
    on_true (is_waiting (turn_of setting turn.txn turns)) _ game (ap is_waiting there ∙ held)
    ∙ ap (λ (g : Game). plays_on setting turn.txn (turn_of setting turn.txn g.turns).lines g) played
    ∙ ap (λ (t : Turn). plays_on setting turn.txn t.lines later) there
    ∙ ap (λ (ls : List Line). plays_on setting turn.txn ls later) at.next
    ∙ on_false (is_ready (turn_of setting turn.txn turns)) _ later (ap is_ready there ∙ not_ready turn held)
  where
    game : Game
    game = game_at old.front turns false

    later : Game
    later = game_at new.front turns false

    at : HasLock turn.txn wish turn.lines
    at = has_lock turn.txn wish turn.lines next

    sorted : IsStrictlySortedBy nat_cmp (map (λ t. t.txn) turns)
    sorted = order.sorted

    placed : AllByRecursion (IsPlaced setting turns) turns
    placed = all_placed setting turns sorted

    same_turns : with_turn turn turns ≡ turns
    same_turns = with_same setting turn turns turns there placed

    made : IsLockMove setting turns turn wish old.front new.front (record turn { waits = true })
    made = started_at_once setting bar turns turn at.line at.rest wish others registry before old new left (Ok (Waits owners)) same may
        (record {
          lines_are = at.next;
          lock = at.lock;
          own = at.own;
          all = all ∙ ap wishes_in (sym (ap (λ (t : Turn). with_turn t turns) (waits_still turn held) ∙ same_turns));
          ascend = ascend;
        }) is

    move_is : line_move setting game turn at.line.deed ≡ made.move
    move_is = ap (line_move setting game turn) at.lock ∙ made.move_is

    turn_is : turn_after turn made.move ≡ turn
    turn_is = sym made.turn_is ∙ waits_still turn held

    does_is : does setting turn (line_move setting game turn at.line.deed) game ≡ later
    does_is =
        ap (λ (m : Move). does setting turn m game) move_is
        ∙ ap (λ (es : List Event). game_at es (with_turn (turn_after turn made.move) turns) false) (sym made.front)
        ∙ ap (λ (t : Turn). game_at new.front (with_turn t turns) false) turn_is
        ∙ ap (λ (ts : List Turn). game_at new.front ts false) same_turns

    steady : IsSteady setting turn
    steady = turn_has (IsSteady setting) setting (map (λ t. t.txn) turns) game turn
        (record { order = order; number = number; there = there }) order.steady

    goes : is_some turn.outcome ≡ false
    goes = goes_on setting turn steady held

    played : plays_next setting turn.txn game ≡ later
    played =
        ap (λ (t : Turn). plays_line setting turn.txn t.lines game) there
        ∙ ap (λ (ls : List Line). plays_line setting turn.txn ls game) at.next
        ∙ ap (λ (t : Turn). (let g = does setting t (line_move setting game t at.line.deed) game in settles setting
        (turn_of setting turn.txn g.turns) g)) there
        ∙ ap (λ (g : Game). settles setting (turn_of setting turn.txn g.turns) g) does_is
        ∙ ap (λ (t : Turn). settles setting t later) there
        ∙ on_false (is_some turn.outcome) _ later goes

pub retries_settle_one : (setting : Setting) (turns : List Turn) (from now : List Event) (txn : ℕ) → 0 < setting.plan.passes →
    IsInOrder setting (map (λ t. t.txn) turns) (game_at from turns false) → IsLegal setting from → OwnersWait setting (game_at from turns false) →
    is_in txn (map (λ t. t.txn) turns) ≡ true → is_waiting (turn_of setting txn turns) ≡ true →
    AreHeldAgain setting turns (map (λ t. t.txn) turns) from now → ⊥
retries_settle_one setting turns from now txn passes order legal owners number held again =
    let settled = settles_one setting (map (λ t. t.txn) turns) (game_at from turns false) txn passes order legal owners number held in
    let past : length (turn_of setting settled.txn turns).lines < length (turn_of setting settled.txn turns).lines =
    subst (λ (g : Game). length (turn_of setting settled.txn g.turns).lines < length
    (turn_of setting settled.txn turns).lines) again settled.past_it in
    omega (arith, past)

pub retries_go_on : (setting : Setting) (turns : List Turn) (done : List ℕ) (txn : ℕ) (from mid now : List Event) →
    AreHeldAgain setting turns done from mid →
    (retried setting (game_at mid turns false) txn ≡ game_at now turns false) ⊎ ((is_waiting (turn_of setting txn turns) ≡ false) × (now ≡ mid)) →
    AreHeldAgain setting turns (done ++ txn ∷ []) from now
retries_go_on setting turns done txn from mid now so_far one =
    fold-append (retried setting) (game_at from turns false) done (txn ∷ []) ∙ ap (λ (g : Game). retried setting g txn) so_far ∙ by_case one
  where
    by_case : (retried setting (game_at mid turns false) txn ≡ game_at now turns false) ⊎
        ((is_waiting (turn_of setting txn turns) ≡ false) × (now ≡ mid)) →
        retried setting (game_at mid turns false) txn ≡ game_at now turns false
    by_case (inl held) = held
    by_case (inr (quiet, same)) =
        on_false (is_waiting (turn_of setting txn turns)) _ (game_at mid turns false) quiet
        ∙ ap (λ (es : List Event). game_at es turns false) (sym same)

listed_same : (seats : List Seat) → AllWaitersListed seats → listed_in seats ≡ wishes_in (turns_of seats)
listed_same [] all = refl
listed_same (s ∷ ss) all =
    ap (λ (b : Bool). cons_option (if b then next_wish s.turn.txn s.turn.lines else None) (listed_in ss)) all.0
    ∙ ap (cons_option (if s.turn.waits then next_wish s.turn.txn s.turn.lines else None)) (listed_same ss all.1)

pub numbers_same : (seats : List Seat) → map (λ (t : Turn). t.txn) (turns_of seats) ≡ map (λ (s : Seat). s.turn.txn) seats
numbers_same [] = refl
numbers_same (s ∷ ss) = ap (λ (ns : List ℕ). s.turn.txn ∷ ns) (numbers_same ss)

pub listed_are_waiters : (registry : List Wish) (seats : List Seat) → IsRegistryOf registry seats → AllWaitersListed seats →
    (registry ≡ wishes_in (turns_of seats)) × Ascend registry
listed_are_waiters registry seats is all =
    let same = is.all ∙ listed_same seats all in (
      same,
      subst Ascend (sym same) (increasing_from _ (wishes_rise (turns_of seats)
          (subst (IsStrictlySortedBy nat_cmp) (sym (numbers_same seats)) is.sorted))),
    )

pub held_seats_stay : (seat : Seat) (owners : List ℕ) → seat.turn.waits ≡ true → seat.busy ≡ false → seat.listed ≡ seat.turn.waits →
    seat_so seat.turn (Ok (Waits owners)) ≡ seat
held_seats_stay seat owners held free listed =
    λ j. record { turn = waits_still seat.turn held j; busy = sym free j; listed = sym (listed ∙ held) j }
