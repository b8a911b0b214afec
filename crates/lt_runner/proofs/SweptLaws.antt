-- Behind a sweep, and so between two steps, no deadlock is among those that wait.
use Rattle.std.proofs.Common.{◌≡◌, ◌⊎◌, inl, inr, ℕ, List, [], ◌∷◌, ◌++◌, Bool, true, false, ◌==◌, ◌||◌, if◌then◌else◌, None, is_some, refl, sym, ap, subst, ◌∙◌, arith, eq-eqb}
use Rattle.std.specs.List.{AllByRecursion, fold}
use Rattle.std.proofs.lemmas.Bool.Decides.{nat_tests}
use Rattle.lt_ranges.specs.Numbers.{is_in}
use Rattle.lt_seq.specs.Table.{Setting}
use Rattle.lt_seq.specs.History.{IsLegal}
use Rattle.lt_trace.specs.declared.line.Line.{Line}
use Rattle.lt_runner.specs.TurnView.{Turn}
use Rattle.lt_runner.specs.Turn.{Move, turn_after}
use Rattle.lt_runner.specs.Plays.{next_wish}
use Rattle.lt_runner.specs.Played.{IsAtLock}
use Rattle.lt_runner.specs.Serial.{Game, turn_of, is_waiting, is_ready, line_move, does, gives_back, plays_line, plays_next, plays_on, retried, swept, swept_if_released, settled, added}
use Rattle.lt_runner.specs.Steps.{IsFitLine, IsSteady, IsTurnOf, IsAtLine, KeepsMoves, takes}
use Rattle.lt_runner.specs.Clear.{wish_at, WaitsNow, IsLong, AreClear, IsClear, AndOne}
use Rattle.lt_runner.proofs.ChoiceLaws.{on_false}
use Rattle.lt_runner.proofs.SteadyLaws.{turn_of_txn, turn_of_with, turn_of_other, turn_has, ready_goes, waits_goes, steady_taking}
use Rattle.lt_runner.proofs.MoveLaws.{Holds, AnyOne, AreOf, are_of, keeps_of, the_turn, turn_after_does, in_order_with, holds_next, holds_retried, holds_swept_if, holds_marks}
use Rattle.lt_runner.proofs.WishLaws.{wish_of}
use Rattle.lt_runner.proofs.ClearLaws.{less_clear, same_clear, idle_clear, moved_clear}

-- a property that moves keep, of games whose events are legal
pub record Legally (setting : Setting) (txns : List ℕ) (P : Game → Type 0) : Type 0 where
  pub keeps : KeepsMoves setting txns P
  pub legal : (game : Game) → P game → IsLegal setting game.events

free_wish : (turn : Turn) → is_waiting turn ≡ false → wish_of turn ≡ None
free_wish turn free = on_false (is_waiting turn) (next_wish turn.txn turn.lines) None free

-- one line
clear_line : (setting : Setting) (txns : List ℕ) (P : Game → Type 0) (Of : ℕ → Type 0) (txn : ℕ) (line : Line) (lines : List Line) (game : Game) → Legally setting txns P →
    is_in txn txns ≡ true → Holds setting txns P game → is_some (turn_of setting txn game.turns).outcome ≡ false →
    (turn_of setting txn game.turns).lines ≡ line ∷ lines →
    IsClear setting Of game → IsClear setting (AndOne txn Of) (plays_line setting txn (line ∷ lines) game)
clear_line setting txns P Of txn line lines game by number holds goes same clear = by_outcome (is_some last.outcome) refl
  where
    turn : Turn
    turn = turn_of setting txn game.turns

    move : Move
    move = line_move setting game turn line.deed

    next : Game
    next = does setting turn move game

    last : Turn
    last = turn_of setting txn next.turns

    own : turn.txn ≡ txn
    own = turn_of_txn setting txn game.turns (ap (is_in txn) holds.order.numbers ∙ number)

    at : IsAtLine setting txns game turn line lines
    at = record { of_game = the_turn setting txns txn game number holds.order; goes = goes; next = same }

    there : last ≡ turn_after turn move
    there = ap (λ (n : ℕ). turn_of setting n next.turns) (sym own) ∙ turn_after_does setting txns game turn move at.of_game

    by_outcome : (b : Bool) → is_some last.outcome ≡ b →
        IsClear setting (AndOne txn Of) (if b then record (gives_back setting last.txn last.releases next) { released = true } else next)
    by_outcome true ended free = absurd (let k : true ≡ false = free in cc)
    by_outcome false onward free =
        subst (λ (n : ℕ). AreClear setting (AndOne n Of) next) own
        (moved_clear setting txns Of game turn line lines at (by.legal next (by.keeps.plays game turn line lines at holds.is))
        (ap (λ (t : Turn). is_some t.outcome) (sym there) ∙ onward) (clear free))

no_line : (setting : Setting) (turn : Turn) → IsSteady setting turn → turn.lines ≡ [] → is_waiting turn ≡ false
no_line setting turn steady none = by_waiting turn.waits refl
  where
    by_waiting : (b : Bool) → turn.waits ≡ b → b ≡ false
    by_waiting true e = absurd (subst IsAtLock none (steady.held e))
    by_waiting false e = refl

clear_next : (setting : Setting) (txns : List ℕ) (P : Game → Type 0) (Of : ℕ → Type 0) (txn : ℕ) (game : Game) → Legally setting txns P →
    is_in txn txns ≡ true → Holds setting txns P game → is_some (turn_of setting txn game.turns).outcome ≡ false →
    IsClear setting Of game → IsClear setting (AndOne txn Of) (plays_next setting txn game)
clear_next setting txns P Of txn game by number holds goes clear = by_lines turn.lines refl
  where
    turn : Turn
    turn = turn_of setting txn game.turns

    by_lines : (lines : List Line) → turn.lines ≡ lines → IsClear setting (AndOne txn Of) (plays_line setting txn lines game)
    by_lines [] none = λ free.
        idle_clear setting Of game txn
        (free_wish turn (no_line setting turn (turn_has (IsSteady setting) setting txns game turn (the_turn setting txns txn game number holds.order) holds.order.steady) none)) (clear free)
    by_lines (line ∷ lines) same = clear_line setting txns P Of txn line lines game by number holds goes same clear

clear_on : (setting : Setting) (txns : List ℕ) (P : Game → Type 0) (Of : ℕ → Type 0) (txn : ℕ) (lines : List Line) (game : Game) →
    Legally setting txns P →
    is_in txn txns ≡ true → Holds setting txns P game → IsClear setting Of game → IsClear setting Of (plays_on setting txn lines game)
clear_on setting txns P Of txn [] game by number holds clear = clear
clear_on setting txns P Of txn (line ∷ lines) game by number holds clear =
    by_test (is_ready (turn_of setting txn game.turns)) refl (λ h c. clear_on setting txns P Of txn lines (plays_next setting txn game) by number h c)
  where
    by_test : (b : Bool) → is_ready (turn_of setting txn game.turns) ≡ b →
        (Holds setting txns P (plays_next setting txn game) → IsClear setting Of (plays_next setting txn game) → IsClear setting Of (plays_on setting txn lines (plays_next setting txn game))) →
        IsClear setting Of (if b then plays_on setting txn lines (plays_next setting txn game) else game)
    by_test true ready on =
        let goes = ready_goes (turn_of setting txn game.turns) ready in
        on (holds_next setting txns AnyOne P txn game (keeps_of setting txns P by.keeps) tt number holds goes)
        (λ free. less_clear setting (AndOne txn Of) Of (plays_next setting txn game) (λ n of. inr of) (clear_next setting txns P Of txn game by number holds goes clear free))
    by_test false waiting on = clear

clear_retried : (setting : Setting) (txns : List ℕ) (P : Game → Type 0) (Of : ℕ → Type 0) (txn : ℕ) (game : Game) → Legally setting txns P →
    is_in txn txns ≡ true → Holds setting txns P game → IsClear setting Of game → IsClear setting (AndOne txn Of) (retried setting game txn)
clear_retried setting txns P Of txn game by number holds clear = by_test (is_waiting turn) refl
  where
    turn : Turn
    turn = turn_of setting txn game.turns

    by_test : (b : Bool) → is_waiting turn ≡ b →
        IsClear setting (AndOne txn Of) (if b then (let next = plays_next setting txn game in plays_on setting txn (turn_of setting txn next.turns).lines next) else game)
    by_test true held =
        let goes = waits_goes setting turn (turn_has (IsSteady setting) setting txns game turn (the_turn setting txns txn game number holds.order) holds.order.steady) held in
        clear_on setting txns P (AndOne txn Of) txn (turn_of setting txn (plays_next setting txn game).turns).lines (plays_next setting txn game) by number
        (holds_next setting txns AnyOne P txn game (keeps_of setting txns P by.keeps) tt number holds goes) (clear_next setting txns P Of txn game by number holds goes clear)
    by_test false free = λ unreleased. idle_clear setting Of game txn (free_wish turn free) (clear unreleased)

-- Sweeps.

eq_of : (a b : ℕ) → (a == b) ≡ true → a ≡ b
eq_of a b e = grind (arith, nat_tests)

clear_round : (setting : Setting) (txns left : List ℕ) (P : Game → Type 0) (Of Than : ℕ → Type 0) (game : Game) → Legally setting txns P →
    AreOf txns left → Holds setting txns P game →
    ((n : ℕ) → Than n → (is_in n left ≡ true) ⊎ Of n) → IsClear setting Of game → IsClear setting Than (fold (retried setting) game left)
clear_round setting txns [] P Of Than game by all holds more clear = λ free. less_clear setting Of Than game (λ n than. none n (more n than)) (clear free)
  where
    none : (n : ℕ) → (is_in n [] ≡ true) ⊎ Of n → Of n
    none n (inl there) = absurd (let k : false ≡ true = there in cc)
    none n (inr of) = of
clear_round setting txns (txn ∷ left) P Of Than game by all holds more clear =
    clear_round setting txns left P (AndOne txn Of) Than (retried setting game txn) by all.1
    (holds_retried setting txns AnyOne P game txn (keeps_of setting txns P by.keeps) tt all.0 holds) (λ n than. shift n (more n than))
    (clear_retried setting txns P Of txn game by all.0 holds clear)
  where
    shift : (n : ℕ) → (is_in n (txn ∷ left) ≡ true) ⊎ Of n → (is_in n left ≡ true) ⊎ AndOne txn Of n
    shift n (inr of) = inr (inr of)
    shift n (inl there) = by_test (txn == n) refl there
      where
        by_test : (b : Bool) → (txn == n) ≡ b → (b || is_in n left) ≡ true → (is_in n left ≡ true) ⊎ AndOne txn Of n
        by_test true e h = inr (inl (sym (eq_of txn n e)))
        by_test false e h = inl h

-- those of these transactions
abbrev pub IsOne : List ℕ → ℕ → Type 0
IsOne txns n = is_in n txns ≡ true

NoOne : ℕ → Type 0
NoOne n = ⊥

none_clear : (setting : Setting) (game : Game) → AreClear setting NoOne game
unfolding NoOne
none_clear setting game = record { blocked = λ txn w of is. absurd of; no_circle = no_way }
  where
    no_way : (txn : ℕ) (way : List ℕ) → AllByRecursion NoOne way → IsLong (WaitsNow setting game) txn way txn → ⊥
    no_way txn [] all circle = circle
    no_way txn (n ∷ ns) all circle = all.0

pub clear_swept : (setting : Setting) (txns : List ℕ) (P : Game → Type 0) (game : Game) → Legally setting txns P → Holds setting txns P game →
    IsClear setting (IsOne txns) (swept setting txns game)
clear_swept setting txns P game by holds =
    clear_round setting txns txns P NoOne (IsOne txns) (record game { released = false }) by (are_of txns)
    (holds_marks setting txns AnyOne P game false (keeps_of setting txns P by.keeps) holds) (λ n than. inl than) (λ free. none_clear setting (record game { released = false }))

clear_swept_if : (setting : Setting) (txns : List ℕ) (P : Game → Type 0) (game : Game) → Legally setting txns P → Holds setting txns P game →
    IsClear setting (IsOne txns) game → IsClear setting (IsOne txns) (swept_if_released setting txns game)
unfolding swept_if_released
clear_swept_if setting txns P game by holds clear = by_test game.released
  where
    by_test : (b : Bool) → IsClear setting (IsOne txns) (if b then swept setting txns game else game)
    by_test true = clear_swept setting txns P game by holds
    by_test false = clear

clear_rounds : (setting : Setting) (txns left : List ℕ) (P : Game → Type 0) (game : Game) → Legally setting txns P → Holds setting txns P game →
    IsClear setting (IsOne txns) game → IsClear setting (IsOne txns) (fold (λ g (txn : ℕ). swept_if_released setting txns g) game left)
clear_rounds setting txns [] P game by holds clear = clear
clear_rounds setting txns (txn ∷ left) P game by holds clear =
    clear_rounds setting txns left P (swept_if_released setting txns game) by (holds_swept_if setting txns P game by.keeps holds) (clear_swept_if setting txns P game by holds clear)

pub clear_settled : (setting : Setting) (txns : List ℕ) (P : Game → Type 0) (game : Game) → Legally setting txns P → Holds setting txns P game →
    IsClear setting (IsOne txns) game → IsClear setting (IsOne txns) (settled setting txns game)
clear_settled setting txns P game by holds clear = clear_rounds setting txns txns P game by holds clear

-- A line that is added changes no wish.

wish_more : (txn : ℕ) (lines : List Line) (line : Line) → IsAtLock lines → next_wish txn (lines ++ line ∷ []) ≡ next_wish txn lines
wish_more txn [] line lock = absurd lock
wish_more txn (l ∷ ls) line lock = refl

wish_taking : (setting : Setting) (turn : Turn) (line : Line) → IsSteady setting turn →
    wish_of (record turn { lines = turn.lines ++ line ∷ [] }) ≡ wish_of turn
wish_taking setting turn line steady = by_waiting turn.waits refl
  where
    by_waiting : (b : Bool) → turn.waits ≡ b →
        (if b then next_wish turn.txn (turn.lines ++ line ∷ []) else None) ≡ (if b then next_wish turn.txn turn.lines else None)
    by_waiting true e = wish_more turn.txn turn.lines line (steady.held e)
    by_waiting false e = refl

clear_takes : (setting : Setting) (txns : List ℕ) (game : Game) (turn : Turn) (line : Line) → IsTurnOf setting txns game turn →
    IsClear setting (IsOne txns) game → IsClear setting (IsOne txns) (takes turn line game)
clear_takes setting txns game turn line of_game clear free = same_clear setting (IsOne txns) game (takes turn line game) refl (λ n. by_number n (n == turn.txn) refl) (clear free)
  where
    new : Turn
    new = record turn { lines = turn.lines ++ line ∷ [] }

    by_number : (n : ℕ) (b : Bool) → (n == turn.txn) ≡ b → wish_at setting n (takes turn line game) ≡ wish_at setting n game
    by_number n true e =
        ap (λ (k : ℕ). wish_at setting k (takes turn line game)) (eq_of n turn.txn e)
        ∙ ap wish_of (turn_of_with setting new game.turns (ap (is_in turn.txn) of_game.order.numbers ∙ of_game.number))
        ∙ wish_taking setting turn line (turn_has (IsSteady setting) setting txns game turn of_game of_game.order.steady)
        ∙ ap wish_of (sym of_game.there) ∙ ap (λ (k : ℕ). wish_at setting k game) (sym (eq_of n turn.txn e))
    by_number n false e = ap wish_of (turn_of_other setting n new game.turns (λ same. absurd (let k : false ≡ true = sym e ∙ eq-eqb n turn.txn same in cc)))

pub clear_added : (setting : Setting) (txns : List ℕ) (P : Game → Type 0) (game : Game) (turn : Turn) (line : Line) → Legally setting txns P →
    IsTurnOf setting txns game turn → IsFitLine setting turn.txn line → (is_some turn.outcome ≡ false → P (takes turn line game)) →
    IsClear setting (IsOne txns) game → IsClear setting (IsOne txns) (added setting line turn game)
clear_added setting txns P game turn line by of_game fits taken clear = by_outcome (is_some turn.outcome) refl
  where
    new : Turn
    new = record turn { lines = turn.lines ++ line ∷ [] }

    next : Game
    next = takes turn line game

    there : turn_of setting turn.txn next.turns ≡ new
    there = turn_of_with setting new game.turns (ap (is_in turn.txn) of_game.order.numbers ∙ of_game.number)

    next_clear : IsClear setting (IsOne txns) next
    next_clear = clear_takes setting txns game turn line of_game clear

    by_waiting : (b : Bool) → is_some turn.outcome ≡ false → IsClear setting (IsOne txns) (if b then next else plays_next setting turn.txn next)
    by_waiting true goes = next_clear
    by_waiting false goes =
        let steady = turn_has (IsSteady setting) setting txns game turn of_game of_game.order.steady in
        let holds : Holds setting txns P next =
        record { order = in_order_with setting txns game.events game.released game new of_game.order (steady_taking setting turn line goes fits steady); is = taken goes } in
        λ free. less_clear setting (AndOne turn.txn (IsOne txns)) (IsOne txns) (plays_next setting turn.txn next) (λ n of. inr of)
        (clear_next setting txns P (IsOne txns) turn.txn next by of_game.number holds (ap (λ (t : Turn). is_some t.outcome) there ∙ goes) next_clear free)

    by_outcome : (b : Bool) → is_some turn.outcome ≡ b →
        IsClear setting (IsOne txns) (if b then game else if is_waiting turn then next else plays_next setting turn.txn next)
    by_outcome true ended = clear
    by_outcome false goes = by_waiting (is_waiting turn) goes
