-- A line's move leaves no deadlock among those that waited clear before and the transaction itself.
use Rattle.std.proofs.Common.{◌≡◌, ◌≢◌, ◌⊎◌, inl, inr, ℕ, List, [], ◌∷◌, Bool, true, false, ◌==◌, ◌||◌, if◌then◌else◌, Option, Some, None, is_some, nat_cmp, refl, sym, ap, subst, ◌∙◌, arith, eq-eqb}
use Rattle.std.specs.List.{AllByRecursion}
use Rattle.std.specs.List.Sorted.{IsStrictlySortedBy}
use Rattle.std.proofs.lemmas.Bool.Decides.{nat_tests}
use Rattle.lt_ranges.specs.Numbers.{is_in}
use Rattle.lt_seq.specs.declared.event.Event.{Event}
use Rattle.lt_seq.specs.Table.{Setting}
use Rattle.lt_seq.specs.History.{after, IsLegal}
use Rattle.lt_trace.specs.declared.line.Line.{Line}
use Rattle.lt_requests.specs.declared.wish.Wish.{Wish}
use Rattle.lt_requests.specs.Circles.{holders, IsWaitWay}
use Rattle.lt_runner.specs.TurnView.{Turn}
use Rattle.lt_runner.specs.Turn.{Move, receipts_in, turn_after}
use Rattle.lt_runner.specs.Plays.{next_wish, wish_in, opening_turn}
use Rattle.lt_runner.specs.Serial.{Game, turn_of, with_turn, wishes_in, line_move, does}
use Rattle.lt_runner.specs.Steps.{IsAtLine}
use Rattle.lt_runner.specs.Clear.{wish_at, IsHeldBy, WaitsNow, IsWay, IsLong, AreClear, AndOne}
use Rattle.lt_runner.proofs.ChoiceLaws.{on_false}
use Rattle.lt_runner.proofs.SteadyLaws.{numbers, turn_of_other, numbers_with, after_txn}
use Rattle.lt_runner.proofs.MoveLaws.{turn_after_does}
use Rattle.lt_runner.proofs.WishLaws.{wish_of, wish_there, wishes_at}
use Rattle.lt_runner.proofs.WayLaws.{circle_by, circle_at, none_of}
use Rattle.lt_runner.proofs.BlockedLaws.{Grow}
use Rattle.lt_runner.proofs.GrowLaws.{PairsAt, grow_events, holder_stays, holder_new}
use Rattle.lt_runner.proofs.CaughtLaws.{IsCaught, line_own, caught}

pub all_by : (P Q : ℕ → Type 0) (ns : List ℕ) → ((n : ℕ) → P n → Q n) → AllByRecursion P ns → AllByRecursion Q ns
all_by P Q [] each all = tt
all_by P Q (n ∷ ns) each all = (each n all.0, all_by P Q ns each all.1)

eq_of : (a b : ℕ) → (a == b) ≡ true → a ≡ b
eq_of a b e = grind (arith, nat_tests)

differ : (a b : ℕ) → (a == b) ≡ false → a ≢ b
differ a b e same = let k : false ≡ true = sym e ∙ eq-eqb a b same in cc

pub not_both : {X : Type 0} (o : Option Wish) (w : Wish) → o ≡ None → o ≡ Some w → X
not_both o w none some = absurd (let k : None ≡ Some w = sym none ∙ some in cc)

-- fewer are clear where more are
pub less_clear : (setting : Setting) (Of Than : ℕ → Type 0) (game : Game) → ((n : ℕ) → Than n → Of n) → AreClear setting Of game →
    AreClear setting Than game
less_clear setting Of Than game fewer clear = record {
  blocked = λ txn w than is. clear.blocked txn w (fewer txn than) is;
  no_circle = λ txn way all circle. clear.no_circle txn way (all_by Than Of way fewer all) circle;
}

-- of a game with the same events and wishes too
pub same_clear : (setting : Setting) (Of : ℕ → Type 0) (old new : Game) → old.events ≡ new.events →
    ((n : ℕ) → wish_at setting n new ≡ wish_at setting n old) →
    AreClear setting Of old → AreClear setting Of new
same_clear setting Of old new events wishes clear = record {
  blocked = λ txn w of is. by_old w (clear.blocked txn w of (sym (wishes txn) ∙ is));
  no_circle = λ txn way all circle. clear.no_circle txn way all (circle_by Of (WaitsNow setting new) (WaitsNow setting old) txn way (λ a b of_a of_b step. by_new a b step) all circle);
}
  where
    by_old : (w : Wish) → ((holder : ℕ) × IsHeldBy setting old w holder) → (holder : ℕ) × IsHeldBy setting new w holder
    by_old w (holder, held) = (holder, subst (λ (es : List Event). is_in holder (holders (after setting es) w) ≡ true) events held)

    by_new : (a b : ℕ) → WaitsNow setting new a b → WaitsNow setting old a b
    by_new a b (w, is, held) = (w, sym (wishes a) ∙ is, subst (λ (es : List Event). is_in b (holders (after setting es) w) ≡ true) (sym events) held)

-- none has a step from one that does not wait
pub no_step : (setting : Setting) (game : Game) (txn : ℕ) (way : List ℕ) → wish_at setting txn game ≡ None →
    IsLong (WaitsNow setting game) txn way txn → ⊥
no_step setting game txn [] none circle = circle
no_step setting game txn (n ∷ ns) none ((w, is, held), rest) = not_both (wish_at setting txn game) w none is

-- one more is, that does not wait
pub idle_clear : (setting : Setting) (Of : ℕ → Type 0) (game : Game) (txn : ℕ) → wish_at setting txn game ≡ None →
    AreClear setting Of game → AreClear setting (AndOne txn Of) game
idle_clear setting Of game txn none clear = record { blocked = blocks; no_circle = λ n way all circle. by_in n way (is_in txn way) refl all circle }
  where
    blocks : (n : ℕ) (w : Wish) → AndOne txn Of n → wish_at setting n game ≡ Some w → (holder : ℕ) × IsHeldBy setting game w holder
    blocks n w (inl same) is = not_both (wish_at setting n game) w (ap (λ (k : ℕ). wish_at setting k game) same ∙ none) is
    blocks n w (inr of) is = clear.blocked n w of is

    by_in : (n : ℕ) (way : List ℕ) (b : Bool) → is_in txn way ≡ b → AllByRecursion (AndOne txn Of) way →
        IsLong (WaitsNow setting game) n way n → ⊥
    by_in n way true e all circle = let (round, long) = circle_at (WaitsNow setting game) n txn way e circle in no_step setting game txn round none long
    by_in n way false e all circle = clear.no_circle n way (all_by (λ k. (k ≢ txn) × Of k) Of way (λ k both. both.1) (none_of Of txn way e all)) circle

-- The wishes that are registered.

pub absent_turn : (setting : Setting) (txn : ℕ) (turns : List Turn) → is_in txn (numbers turns) ≡ false →
    turn_of setting txn turns ≡ opening_turn setting txn []
absent_turn setting txn [] none = refl
absent_turn setting txn (t ∷ ts) none = by_test (t.txn == txn) none (absent_turn setting txn ts)
  where
    by_test : (b : Bool) → (b || is_in txn (numbers ts)) ≡ false →
        (is_in txn (numbers ts) ≡ false → turn_of setting txn ts ≡ opening_turn setting txn []) →
        (if b then t else turn_of setting txn ts) ≡ opening_turn setting txn []
    by_test true h later = absurd (let k : true ≡ false = h in cc)
    by_test false h later = later h

wish_found : (setting : Setting) (txn : ℕ) (turns : List Turn) (w : Wish) → IsStrictlySortedBy nat_cmp (numbers turns) →
    wish_of (turn_of setting txn turns) ≡ Some w →
    wish_in txn (wishes_in turns) ≡ Some w
wish_found setting txn turns w sorted is = by_test (is_in txn (numbers turns)) refl
  where
    by_test : (b : Bool) → is_in txn (numbers turns) ≡ b → wish_in txn (wishes_in turns) ≡ Some w
    by_test true e = wish_there setting txn turns sorted e ∙ is
    by_test false e = not_both (wish_of (turn_of setting txn turns)) w (ap wish_of (absent_turn setting txn turns e)) is

registered_way : (setting : Setting) (game : Game) (wishes : List Wish) (from to : ℕ) (way : List ℕ) →
    ((n : ℕ) (w : Wish) → wish_at setting n game ≡ Some w → wish_in n wishes ≡ Some w) →
    IsWay (WaitsNow setting game) from way to → IsWaitWay (after setting game.events) wishes from way to
registered_way setting game wishes from to [] found along = along
registered_way setting game wishes from to (n ∷ ns) found ((w, is, held), rest) = ((w, found from w is, held), registered_way setting game wishes n to ns found rest)

-- The move.

free_wish : (turn : Turn) → turn.waits ≡ false → wish_of turn ≡ None
free_wish turn free = on_false turn.waits (next_wish turn.txn turn.lines) None free

same_wish : (v w : Wish) → Some v ≡ Some w → v ≡ w
same_wish v w e = cc

pub moved_clear : (setting : Setting) (txns : List ℕ) (Of : ℕ → Type 0) (game : Game) (turn : Turn) (line : Line) (lines : List Line) →
    IsAtLine setting txns game turn line lines → (let move = line_move setting game turn line.deed in
    IsLegal setting (does setting turn move game).events → is_some (turn_after turn move).outcome ≡ false →
    AreClear setting Of game → AreClear setting (AndOne turn.txn Of) (does setting turn move game))
moved_clear setting txns Of game turn line lines at legal goes clear = record { blocked = blocks; no_circle = λ n way all circle. by_in n way (is_in turn.txn way) refl all circle }
  where
    move : Move
    move = line_move setting game turn line.deed

    next : Game
    next = does setting turn move game

    sorted : IsStrictlySortedBy nat_cmp (numbers game.turns)
    sorted = subst (IsStrictlySortedBy nat_cmp) (sym at.of_game.order.numbers) at.of_game.order.sorted

    number : is_in turn.txn (numbers game.turns) ≡ true
    number = ap (is_in turn.txn) at.of_game.order.numbers ∙ at.of_game.number

    own_turn : turn_of setting turn.txn next.turns ≡ turn_after turn move
    own_turn = turn_after_does setting txns game turn move at.of_game

    others : (n : ℕ) → n ≢ turn.txn → wish_at setting n next ≡ wish_at setting n game
    others n differs = ap wish_of (turn_of_other setting n (turn_after turn move) game.turns (λ same. differs (same ∙ after_txn turn move)))

    grow : (tree : ℕ) → Grow turn.txn (PairsAt (after setting game.events) tree) (PairsAt (after setting next.events) tree)
    grow tree = grow_events setting turn.txn game.events (receipts_in move) tree (line_own setting game turn line.deed) legal

    waits_now : (w : Wish) → wish_at setting turn.txn next ≡ Some w → IsCaught setting game turn move
    waits_now w is = by_test (turn_after turn move).waits refl
      where
        by_test : (b : Bool) → (turn_after turn move).waits ≡ b → IsCaught setting game turn move
        by_test true e = caught setting game turn line lines sorted number at.next goes e
        by_test false e = not_both (wish_at setting turn.txn next) w (ap wish_of own_turn ∙ free_wish (turn_after turn move) e) is

    own_blocks : (w : Wish) → wish_at setting turn.txn next ≡ Some w → (holder : ℕ) × IsHeldBy setting next w holder
    own_blocks w is =
        let c = waits_now w is in
        let same : c.wish ≡ w = same_wish c.wish w (sym c.next ∙ ap wish_of (sym c.same) ∙ ap wish_of (sym own_turn) ∙ is) in
        subst (λ (v : Wish). (holder : ℕ) × IsHeldBy setting next v holder) same c.blocked

    blocks_by : (n : ℕ) (w : Wish) (b : Bool) → (n == turn.txn) ≡ b → AndOne turn.txn Of n → wish_at setting n next ≡ Some w →
        (holder : ℕ) × IsHeldBy setting next w holder
    blocks_by n w true e one is = own_blocks w (ap (λ (k : ℕ). wish_at setting k next) (sym (eq_of n turn.txn e)) ∙ is)
    blocks_by n w false e (inl same) is = absurd (differ n turn.txn e same)
    blocks_by n w false e (inr of) is =
        let (holder, held) = clear.blocked n w of (sym (others n (differ n turn.txn e)) ∙ is) in
        (holder, holder_stays turn.txn holder (after setting game.events) (after setting next.events) w (grow w.tree) held)

    blocks : (n : ℕ) (w : Wish) → AndOne turn.txn Of n → wish_at setting n next ≡ Some w → (holder : ℕ) × IsHeldBy setting next w holder
    blocks n w one is = blocks_by n w (n == turn.txn) refl one is

    -- a circle through the transaction is one that its search would have found
    through : (round : List ℕ) → IsLong (WaitsNow setting next) turn.txn round turn.txn → ⊥
    through [] circle = circle
    through (n ∷ ns) circle =
        let (w, is, held) = circle.0 in
        let c = waits_now w is in
        let still : IsStrictlySortedBy nat_cmp (numbers next.turns) = subst (IsStrictlySortedBy nat_cmp) (sym (numbers_with (turn_after turn move) game.turns)) sorted in
        c.no_circle (n ∷ ns) (registered_way setting next (wishes_at turn game.turns) turn.txn turn.txn (n ∷ ns)
        (λ k v e. subst (λ (t : Turn). wish_in k (wishes_in (with_turn t game.turns)) ≡ Some v) c.same (wish_found setting k next.turns v still e)) circle)

    -- a step between others was there before
    step_before : (a b : ℕ) → (a ≢ turn.txn) × Of a → (b ≢ turn.txn) × Of b → WaitsNow setting next a b → WaitsNow setting game a b
    step_before a b of_a of_b (w, is, held) =
        let was : wish_at setting a game ≡ Some w = sym (others a of_a.0) ∙ is in
        let (first, some) = clear.blocked a w of_a.1 was in
        by_holder was (holder_new turn.txn first b (after setting game.events) (after setting next.events) w (grow w.tree) some held)
      where
        by_holder : wish_at setting a game ≡ Some w → IsHeldBy setting game w b ⊎ (b ≡ turn.txn) → WaitsNow setting game a b
        by_holder was (inl there) = (w, was, there)
        by_holder was (inr same) = absurd (of_b.0 same)

    by_in : (n : ℕ) (way : List ℕ) (b : Bool) → is_in turn.txn way ≡ b → AllByRecursion (AndOne turn.txn Of) way →
        IsLong (WaitsNow setting next) n way n → ⊥
    by_in n way true e all circle = let (round, long) = circle_at (WaitsNow setting next) n turn.txn way e circle in through round long
    by_in n way false e all circle =
        let apart = none_of Of turn.txn way e all in
        clear.no_circle n way (all_by (λ k. (k ≢ turn.txn) × Of k) Of way (λ k both. both.1) apart)
        (circle_by (λ k. (k ≢ turn.txn) × Of k) (WaitsNow setting next) (WaitsNow setting game) n way step_before apart circle)
