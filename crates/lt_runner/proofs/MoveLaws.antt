-- What each move of the plain scheduler keeps, a sweep keeps.
use Rattle.std.proofs.Common.{◌≡◌, ℕ, List, [], ◌∷◌, Bool, true, false, ◌==◌, ◌||◌, if◌then◌else◌, is_some, refl, sym, ap, subst, ◌∙◌, eq-eqb}
use Rattle.std.specs.List.{AllByRecursion, fold}
use Rattle.lt_ranges.specs.Numbers.{is_in}
use Rattle.lt_seq.specs.declared.event.Deed.TheVariants.{Free}
use Rattle.lt_seq.specs.declared.event.Event.{Event}
use Rattle.lt_seq.specs.Table.{Setting}
use Rattle.lt_seq.specs.Questions.{receipt_after}
use Rattle.lt_trace.specs.declared.line.Line.{Line}
use Rattle.lt_runner.specs.declared.release.Release.{Release}
use Rattle.lt_runner.specs.TurnView.{Turn}
use Rattle.lt_runner.specs.Turn.{Move, frees, turn_after, rest_of_release}
use Rattle.lt_runner.specs.Serial.{Game, turn_of, with_turn, is_waiting, is_ready, line_move, does, gives_back, settles, plays_line, plays_next, plays_on, retried, swept, swept_if_released, settled}
use Rattle.lt_runner.specs.Steps.{IsSteady, IsInOrder, IsTurnOf, IsAtLine, IsOwing, KeepsMoves}
use Rattle.lt_runner.proofs.SteadyLaws.{numbers, turn_of_txn, turn_of_with, numbers_with, all_with, turn_has, steady_after, steady_freed, after_txn, ready_goes, waits_goes}

-- Games stay in order.

pub in_order_with : (setting : Setting) (txns : List ℕ) (events : List Event) (released : Bool) (game : Game) (new : Turn) → IsInOrder setting txns game → IsSteady setting new →
    IsInOrder setting txns (record { events = events; turns = with_turn new game.turns; released = released })
in_order_with setting txns events released game new order steady = record {
  sorted = order.sorted;
  numbers = numbers_with new game.turns ∙ order.numbers;
  steady = all_with (IsSteady setting) (IsSteady setting) new game.turns order.steady steady (λ t differs s. s);
}

pub turn_after_does : (setting : Setting) (txns : List ℕ) (game : Game) (turn : Turn) (move : Move) → IsTurnOf setting txns game turn →
    turn_of setting turn.txn (does setting turn move game).turns ≡ turn_after turn move
turn_after_does setting txns game turn move of_game =
    let new = turn_after turn move in
    let same = after_txn turn move in
    ap (λ (n : ℕ). turn_of setting n (with_turn new game.turns)) (sym same)
    ∙ turn_of_with setting new game.turns (ap (λ (n : ℕ). is_in n (numbers game.turns)) same ∙ ap (is_in turn.txn) of_game.order.numbers ∙ of_game.number)

-- the turn with a number
pub the_turn : (setting : Setting) (txns : List ℕ) (txn : ℕ) (game : Game) → is_in txn txns ≡ true → IsInOrder setting txns game → IsTurnOf setting txns game (turn_of setting txn game.turns)
the_turn setting txns txn game number order =
    let same = turn_of_txn setting txn game.turns (ap (is_in txn) order.numbers ∙ number) in
    record {
      order = order;
      number = ap (λ (n : ℕ). is_in n txns) same ∙ number;
      there = ap (λ (n : ℕ). turn_of setting n game.turns) same;
    }

-- Moves keep it.

-- A property that the moves of some transactions keep.
pub record KeepsOf (setting : Setting) (txns : List ℕ) (M : ℕ → Type 0) (P : Game → Type 0) : Type 0 where
  pub plays : (game : Game) (turn : Turn) (line : Line) (lines : List Line) → IsAtLine setting txns game turn line lines → M turn.txn →
      P game → P (does setting turn (line_move setting game turn line.deed) game)
  pub gives : (game : Game) (turn : Turn) (r : Release) (rs : List Release) → IsOwing setting txns game turn r rs → M turn.txn →
      P game → P (does setting turn (frees (receipt_after setting game.events 0 turn.txn (Free r.tree r.range r.first 0))) game)
  pub marks : (game : Game) (released : Bool) → P game → P (record game { released = released })

abbrev pub AnyOne : ℕ → Type 0
AnyOne txn = Unit {0}

pub keeps_of : (setting : Setting) (txns : List ℕ) (P : Game → Type 0) → KeepsMoves setting txns P → KeepsOf setting txns AnyOne P
keeps_of setting txns P keeps = record {
  plays = λ game turn line lines at m is. keeps.plays game turn line lines at is;
  gives = λ game turn r rs at m is. keeps.gives game turn r rs at is;
  marks = keeps.marks;
}

pub record Holds (setting : Setting) (txns : List ℕ) (P : Game → Type 0) (game : Game) : Type 0 where
  pub order : IsInOrder setting txns game
  pub is : P game

pub holds_plays : (setting : Setting) (txns : List ℕ) (M : ℕ → Type 0) (P : Game → Type 0) (game : Game) (turn : Turn) (line : Line) (lines : List Line) →
    KeepsOf setting txns M P → IsAtLine setting txns game turn line lines → M turn.txn → P game →
    Holds setting txns P (does setting turn (line_move setting game turn line.deed) game)
holds_plays setting txns M P game turn line lines keeps at m is = record {
  order = in_order_with setting txns _ game.released game _ at.of_game.order
      (steady_after setting turn _ at.goes (turn_has (IsSteady setting) setting txns game turn at.of_game at.of_game.order.steady));
  is = keeps.plays game turn line lines at m is;
}

holds_gives : (setting : Setting) (txns : List ℕ) (M : ℕ → Type 0) (P : Game → Type 0) (game : Game) (turn : Turn) (r : Release) (rs : List Release) →
    KeepsOf setting txns M P → IsOwing setting txns game turn r rs → M turn.txn → P game →
    Holds setting txns P (does setting turn (frees (receipt_after setting game.events 0 turn.txn (Free r.tree r.range r.first 0))) game)
holds_gives setting txns M P game turn r rs keeps at m is = record {
  order = in_order_with setting txns _ game.released game _ at.of_game.order (steady_freed setting turn (turn_has (IsSteady setting) setting txns game turn at.of_game at.of_game.order.steady));
  is = keeps.gives game turn r rs at m is;
}

pub holds_marks : (setting : Setting) (txns : List ℕ) (M : ℕ → Type 0) (P : Game → Type 0) (game : Game) (released : Bool) → KeepsOf setting txns M P →
    Holds setting txns P game → Holds setting txns P (record game { released = released })
holds_marks setting txns M P game released keeps holds = record {
  order = record { sorted = holds.order.sorted; numbers = holds.order.numbers; steady = holds.order.steady };
  is = keeps.marks game released holds.is;
}

-- a release
pub holds_back : (setting : Setting) (txns : List ℕ) (M : ℕ → Type 0) (P : Game → Type 0) (txn : ℕ) (rs : List Release) (game : Game) → KeepsOf setting txns M P → M txn →
    is_in txn txns ≡ true → Holds setting txns P game →
    is_some (turn_of setting txn game.turns).outcome ≡ true → (turn_of setting txn game.turns).releases ≡ rs → Holds setting txns P (gives_back setting txn rs game)
holds_back setting txns M P txn [] game keeps m number holds ended owed = holds
holds_back setting txns M P txn (r ∷ rs) game keeps m number holds ended owed =
    let turn = turn_of setting txn game.turns in
    let of_game = the_turn setting txns txn game number holds.order in
    let same = turn_of_txn setting txn game.turns (ap (is_in txn) holds.order.numbers ∙ number) in
    let move = λ (n : ℕ). frees (receipt_after setting game.events 0 n (Free r.tree r.range r.first 0)) in
    let next = does setting turn (move txn) game in
    let there : turn_of setting txn next.turns ≡ record turn { releases = rest_of_release turn.releases } =
    ap (λ (n : ℕ). turn_of setting n next.turns) (sym same) ∙ turn_after_does setting txns game turn (move txn) of_game in
    let h : Holds setting txns P next = subst (λ (n : ℕ). Holds setting txns P (does setting turn (move n) game)) same
    (holds_gives setting txns M P game turn r rs keeps (record { of_game = of_game; ended = ended; next = owed }) (subst M (sym same) m) holds.is) in
    holds_back setting txns M P txn rs next keeps m number h (ap (λ (t : Turn). is_some t.outcome) there ∙ ended)
    (ap (λ (t : Turn). t.releases) there ∙ ap rest_of_release owed)

pub holds_settles : (setting : Setting) (txns : List ℕ) (M : ℕ → Type 0) (P : Game → Type 0) (txn : ℕ) (game : Game) → KeepsOf setting txns M P → M txn →
    is_in txn txns ≡ true → Holds setting txns P game → Holds setting txns P (settles setting (turn_of setting txn game.turns) game)
holds_settles setting txns M P txn game keeps m number holds = by_outcome (is_some turn.outcome) refl
  where
    turn : Turn
    turn = turn_of setting txn game.turns

    by_outcome : (b : Bool) → is_some turn.outcome ≡ b → Holds setting txns P (if b then record (gives_back setting turn.txn turn.releases game) { released = true } else game)
    by_outcome true ended =
        let of_game = the_turn setting txns txn game number holds.order in
        holds_marks setting txns M P (gives_back setting turn.txn turn.releases game) true keeps
        (holds_back setting txns M P turn.txn turn.releases game keeps
        (subst M (sym (turn_of_txn setting txn game.turns (ap (is_in txn) holds.order.numbers ∙ number))) m) of_game.number holds
        (ap (λ (t : Turn). is_some t.outcome) of_game.there ∙ ended) (ap (λ (t : Turn). t.releases) of_game.there))
    by_outcome false goes = holds

pub holds_line : (setting : Setting) (txns : List ℕ) (M : ℕ → Type 0) (P : Game → Type 0) (txn : ℕ) (lines : List Line) (game : Game) → KeepsOf setting txns M P → M txn →
    is_in txn txns ≡ true → Holds setting txns P game →
    is_some (turn_of setting txn game.turns).outcome ≡ false → (turn_of setting txn game.turns).lines ≡ lines → Holds setting txns P (plays_line setting txn lines game)
holds_line setting txns M P txn [] game keeps m number holds goes same = holds
holds_line setting txns M P txn (line ∷ lines) game keeps m number holds goes same =
    let turn = turn_of setting txn game.turns in
    holds_settles setting txns M P txn (does setting turn (line_move setting game turn line.deed) game) keeps m number
    (holds_plays setting txns M P game turn line lines keeps (record { of_game = the_turn setting txns txn game number holds.order; goes = goes; next = same })
    (subst M (sym (turn_of_txn setting txn game.turns (ap (is_in txn) holds.order.numbers ∙ number))) m) holds.is)

pub holds_next : (setting : Setting) (txns : List ℕ) (M : ℕ → Type 0) (P : Game → Type 0) (txn : ℕ) (game : Game) → KeepsOf setting txns M P → M txn →
    is_in txn txns ≡ true → Holds setting txns P game →
    is_some (turn_of setting txn game.turns).outcome ≡ false → Holds setting txns P (plays_next setting txn game)
holds_next setting txns M P txn game keeps m number holds goes = holds_line setting txns M P txn (turn_of setting txn game.turns).lines game keeps m number holds goes refl

pub holds_on : (setting : Setting) (txns : List ℕ) (M : ℕ → Type 0) (P : Game → Type 0) (txn : ℕ) (lines : List Line) (game : Game) → KeepsOf setting txns M P → M txn →
    is_in txn txns ≡ true → Holds setting txns P game → Holds setting txns P (plays_on setting txn lines game)
holds_on setting txns M P txn [] game keeps m number holds = holds
holds_on setting txns M P txn (line ∷ lines) game keeps m number holds =
    by_test (is_ready (turn_of setting txn game.turns)) refl (λ h. holds_on setting txns M P txn lines (plays_next setting txn game) keeps m number h)
  where
    by_test : (b : Bool) → is_ready (turn_of setting txn game.turns) ≡ b →
        (Holds setting txns P (plays_next setting txn game) → Holds setting txns P (plays_on setting txn lines (plays_next setting txn game))) →
        Holds setting txns P (if b then plays_on setting txn lines (plays_next setting txn game) else game)
    by_test true ready on = on (holds_next setting txns M P txn game keeps m number holds (ready_goes (turn_of setting txn game.turns) ready))
    by_test false waiting on = holds

pub holds_retried : (setting : Setting) (txns : List ℕ) (M : ℕ → Type 0) (P : Game → Type 0) (game : Game) (txn : ℕ) → KeepsOf setting txns M P → M txn →
    is_in txn txns ≡ true → Holds setting txns P game → Holds setting txns P (retried setting game txn)
holds_retried setting txns M P game txn keeps m number holds = by_test (is_waiting turn) refl
  where
    turn : Turn
    turn = turn_of setting txn game.turns

    by_test : (b : Bool) → is_waiting turn ≡ b → Holds setting txns P (if b then (let next = plays_next setting txn game in plays_on setting txn (turn_of setting txn next.turns).lines next) else game)
    by_test true held =
        let steady = turn_has (IsSteady setting) setting txns game turn (the_turn setting txns txn game number holds.order) holds.order.steady in
        holds_on setting txns M P txn _ (plays_next setting txn game) keeps m number (holds_next setting txns M P txn game keeps m number holds (waits_goes setting turn steady held))
    by_test false held = holds

-- the numbers are of the transactions
abbrev pub AreOf : List ℕ → List ℕ → Type 0
AreOf txns ns = AllByRecursion (λ n. is_in n txns ≡ true) ns

are_more : (n : ℕ) (txns ns : List ℕ) → AreOf txns ns → AreOf (n ∷ txns) ns
are_more n txns [] all = tt
are_more n txns (m ∷ ms) all = (by_test (n == m) all.0, are_more n txns ms all.1)
  where
    by_test : (b : Bool) → is_in m txns ≡ true → (b || is_in m txns) ≡ true
    by_test true e = refl
    by_test false e = e

pub are_of : (txns : List ℕ) → AreOf txns txns
are_of [] = tt
are_of (n ∷ ns) = (by_test (n == n) (eq-eqb n n refl), are_more n ns ns (are_of ns))
  where
    by_test : (b : Bool) → b ≡ true → (b || is_in n ns) ≡ true
    by_test true e = refl
    by_test false e = cc

pub holds_round : (setting : Setting) (txns : List ℕ) (P : Game → Type 0) (left : List ℕ) (game : Game) → KeepsMoves setting txns P → AreOf txns left →
    Holds setting txns P game → Holds setting txns P (fold (retried setting) game left)
holds_round setting txns P [] game keeps all holds = holds
holds_round setting txns P (txn ∷ left) game keeps all holds =
    holds_round setting txns P left (retried setting game txn) keeps all.1 (holds_retried setting txns AnyOne P game txn (keeps_of setting txns P keeps) tt all.0 holds)

pub holds_swept : (setting : Setting) (txns : List ℕ) (P : Game → Type 0) (game : Game) → KeepsMoves setting txns P → Holds setting txns P game → Holds setting txns P (swept setting txns game)
holds_swept setting txns P game keeps holds =
    holds_round setting txns P txns (record game { released = false }) keeps (are_of txns) (holds_marks setting txns AnyOne P game false (keeps_of setting txns P keeps) holds)

pub holds_swept_if : (setting : Setting) (txns : List ℕ) (P : Game → Type 0) (game : Game) → KeepsMoves setting txns P → Holds setting txns P game →
    Holds setting txns P (swept_if_released setting txns game)
unfolding swept_if_released
holds_swept_if setting txns P game keeps holds = by_test game.released
  where
    by_test : (b : Bool) → Holds setting txns P (if b then swept setting txns game else game)
    by_test true = holds_swept setting txns P game keeps holds
    by_test false = holds

holds_rounds : (setting : Setting) (txns : List ℕ) (P : Game → Type 0) (left : List ℕ) (game : Game) → KeepsMoves setting txns P → Holds setting txns P game →
    Holds setting txns P (fold (λ game (txn : ℕ). swept_if_released setting txns game) game left)
holds_rounds setting txns P [] game keeps holds = holds
holds_rounds setting txns P (txn ∷ left) game keeps holds = holds_rounds setting txns P left (swept_if_released setting txns game) keeps (holds_swept_if setting txns P game keeps holds)

pub holds_settled : (setting : Setting) (txns : List ℕ) (P : Game → Type 0) (game : Game) → KeepsMoves setting txns P → Holds setting txns P game → Holds setting txns P (settled setting txns game)
holds_settled setting txns P game keeps holds = holds_rounds setting txns P txns game keeps holds
