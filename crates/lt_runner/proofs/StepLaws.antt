-- What each step of the plain scheduler keeps, its whole run keeps.
use Rattle.std.proofs.Common.{◌≡◌, ℕ, zero, suc, ◌<◌, List, [], ◌∷◌, ◌++◌, map, Bool, true, false, ◌==◌, ◌||◌, if◌then◌else◌, Option, Some, None, is_some, length, replicate, nat_cmp}
use Rattle.std.proofs.Common.{refl, sym, ap, subst, ◌∙◌, arith, eq-eqb}
use Rattle.std.specs.List.{AllByRecursion, fold, find}
use Rattle.std.specs.List.Sorted.{IsStrictlySortedBy}
use Rattle.std.specs.declared.cmp.Ordering.TheVariants.{Less}
use Rattle.std.proofs.lemmas.Bool.Decides.{nat_tests}
use Rattle.std.proofs.lemmas.Cmp.{ranked}
use Rattle.lt_ranges.specs.Numbers.{is_in}
use Rattle.lt_seq.specs.Table.{Setting}
use Rattle.lt_trace.specs.declared.line.Line.{Line}
use Rattle.lt_runner.specs.TurnView.{Turn}
use Rattle.lt_runner.specs.Turn.{nothing_recorded}
use Rattle.lt_runner.specs.Plays.{end_of, opening_turn}
use Rattle.lt_runner.specs.Serial.{Game, turn_of, is_waiting, is_ready, plays_next, added, takes_line, ends_first, ends_one, opening_game, played}
use Rattle.lt_runner.specs.Steps.{IsFitLine, AreRanges, IsSteady, IsInOrder, IsTurnOf, IsTaking, KeepsMoves, takes, KeepsSteps, IsFit}
use Rattle.lt_runner.proofs.ChoiceLaws.{on_true, on_false}
pub use Rattle.lt_runner.proofs.SteadyLaws.{numbers, turn_of_txn, turn_of_with, turn_of_other, numbers_with, all_with, at_turn, turn_has, fit_from, steady_after, after_txn, ready_goes}
pub use Rattle.lt_runner.proofs.MoveLaws.{turn_after_does, the_turn, Holds, are_of, holds_swept, holds_settled}
use Rattle.lt_runner.proofs.IdleLaws.{AreAtRest, rest_added, rest_settled, rest_swept}
use Rattle.lt_runner.proofs.SteadyLaws.{never, steady_taking}
use Rattle.lt_runner.proofs.MoveLaws.{AnyOne, keeps_of, in_order_with, holds_next}

-- Steps keep it.

-- the line that a transaction takes is played at once where it is ready
pub holds_added : (setting : Setting) (txns : List ℕ) (P : Game → Type 0) (game : Game) (turn : Turn) (line : Line) → KeepsMoves setting txns P →
    IsTurnOf setting txns game turn → IsFitLine setting turn.txn line →
    (is_some turn.outcome ≡ false → P (takes turn line game)) → (is_some turn.outcome ≡ true → P game) → Holds setting txns P (added setting line turn game)
holds_added setting txns P game turn line keeps of_game fits takes_it passes = by_outcome (is_some turn.outcome) refl
  where
    next : Game
    next = takes turn line game

    steady : IsSteady setting turn
    steady = turn_has (IsSteady setting) setting txns game turn of_game of_game.order.steady

    taken : is_some turn.outcome ≡ false → Holds setting txns P next
    taken goes = record { order = in_order_with setting txns game.events game.released game _ of_game.order (steady_taking setting turn line goes fits steady); is = takes_it goes }

    there : turn_of setting turn.txn next.turns ≡ record turn { lines = turn.lines ++ line ∷ [] }
    there = turn_of_with setting (record turn { lines = turn.lines ++ line ∷ [] }) game.turns (ap (is_in turn.txn) of_game.order.numbers ∙ of_game.number)

    by_waiting : (b : Bool) → is_some turn.outcome ≡ false → Holds setting txns P (if b then next else plays_next setting turn.txn next)
    by_waiting true goes = taken goes
    by_waiting false goes = holds_next setting txns AnyOne P turn.txn next (keeps_of setting txns P keeps) tt of_game.number (taken goes) (ap (λ (t : Turn). is_some t.outcome) there ∙ goes)

    by_outcome : (b : Bool) → is_some turn.outcome ≡ b → Holds setting txns P (if b then game else if is_waiting turn then next else plays_next setting turn.txn next)
    by_outcome true ended = record { order = of_game.order; is = passes ended }
    by_outcome false goes = by_waiting (is_waiting turn) goes

pub holds_taken : (setting : Setting) (txns : List ℕ) (P : List Line → Game → Type 0) (line : Line) (left : List Line) (game : Game) → KeepsSteps setting txns P → IsFit setting txns line →
    Holds setting txns (P (line ∷ left)) game → Holds setting txns (P left) (takes_line setting txns game line)
holds_taken setting txns P line left game keeps fit holds =
    let turn = turn_of setting line.txn game.turns in
    let of_game = the_turn setting txns line.txn game fit.number holds.order in
    let own : line.txn ≡ turn.txn = sym (turn_of_txn setting line.txn game.turns (ap (is_in line.txn) holds.order.numbers ∙ fit.number)) in
    let fits : IsFitLine setting turn.txn line = record { own = own; deed = fit.deed } in
    holds_settled setting txns (P left) (added setting line turn game) (keeps.moves left)
    (holds_added setting txns (P left) game turn line (keeps.moves left) of_game fits
    (λ goes. keeps.adds game turn line left (record { of_game = of_game; goes = goes; fits = fits }) holds.is)
    (λ ended. keeps.passes game turn line left (record { of_game = of_game; ended = ended; fits = fits }) holds.is))

-- A game between two steps.
pub record HoldsBetween (setting : Setting) (txns : List ℕ) (P : Game → Type 0) (game : Game) : Type 0 where
  pub holds : Holds setting txns P game
  pub at_rest : AreAtRest setting txns game

pub rest_taken : (setting : Setting) (txns : List ℕ) (line : Line) (game : Game) → IsFit setting txns line → AreAtRest setting txns game → AreAtRest setting txns (takes_line setting txns game line)
rest_taken setting txns line game fit at_rest =
    let turn = turn_of setting line.txn game.turns in
    let of_game = the_turn setting txns line.txn game fit.number at_rest.order in
    let own : line.txn ≡ turn.txn = sym (turn_of_txn setting line.txn game.turns (ap (is_in line.txn) at_rest.order.numbers ∙ fit.number)) in
    rest_settled setting txns (added setting line turn game) (rest_added setting txns game turn line of_game (record { own = own; deed = fit.deed }) at_rest)

pub holds_all_taken : (setting : Setting) (txns : List ℕ) (P : List Line → Game → Type 0) (lines : List Line) (game : Game) → KeepsSteps setting txns P → AllByRecursion (IsFit setting txns) lines →
    HoldsBetween setting txns (P lines) game → HoldsBetween setting txns (P []) (fold (takes_line setting txns) game lines)
holds_all_taken setting txns P [] game keeps fit between = between
holds_all_taken setting txns P (line ∷ lines) game keeps fit between =
    holds_all_taken setting txns P lines (takes_line setting txns game line) keeps fit.1
    (record { holds = holds_taken setting txns P line lines game keeps fit.0 between.holds; at_rest = rest_taken setting txns line game fit.0 between.at_rest })

or_here : (b c : Bool) → b ≡ true → (b || c) ≡ true
or_here true c e = refl
or_here false c e = cc

or_later : (b c : Bool) → c ≡ true → (b || c) ≡ true
or_later true c e = refl
or_later false c e = e

-- the first of ascending numbers is none of the others
first_apart : (n m : ℕ) (ns : List ℕ) → AllByRecursion (λ k. nat_cmp n k ≡ Less) ns → is_in m ns ≡ true → (n == m) ≡ false
first_apart n m [] above there = cc
first_apart n m (k ∷ ks) above there = by_test (k == m) refl there (first_apart n m ks above.1)
  where
    by_test : (b : Bool) → (k == m) ≡ b → (b || is_in m ks) ≡ true → (is_in m ks ≡ true → (n == m) ≡ false) → (n == m) ≡ false
    by_test true e h later = let less : n < k = ranked n k _ (sym above.0) in let same : k ≡ m = grind (arith, nat_tests) in grind (arith, nat_tests)
    by_test false e h later = later h

pub record IsFound (setting : Setting) (turns : List Turn) (turn : Turn) : Type 0 where
  pub number : is_in turn.txn (numbers turns) ≡ true
  pub there : turn_of setting turn.txn turns ≡ turn
  pub ready : is_ready turn ≡ true

-- the first that is ready is one of the turns
pub found_ready : (setting : Setting) (turns : List Turn) (turn : Turn) → IsStrictlySortedBy nat_cmp (numbers turns) → find is_ready turns ≡ Some turn → IsFound setting turns turn
unfolding IsStrictlySortedBy
found_ready setting [] turn sorted found = absurd cc
found_ready setting (t ∷ ts) turn sorted found = by_test (is_ready t) refl found (found_ready setting ts turn sorted.1)
  where
    by_test : (b : Bool) → is_ready t ≡ b → (if b then Some t else find is_ready ts) ≡ Some turn → (find is_ready ts ≡ Some turn → IsFound setting ts turn) → IsFound setting (t ∷ ts) turn
    by_test true e h later =
        let same : t ≡ turn = cc in
        let number = eq-eqb t.txn turn.txn (ap (λ (u : Turn). u.txn) same) in
        record { number = or_here (t.txn == turn.txn) _ number; there = on_true (t.txn == turn.txn) t _ number ∙ same; ready = sym (ap is_ready same) ∙ e }
    by_test false e h later =
        let l = later h in
        record {
          number = or_later (t.txn == turn.txn) _ l.number;
          there = on_false (t.txn == turn.txn) t _ (first_apart t.txn turn.txn (numbers ts) sorted.0 l.number) ∙ l.there;
          ready = l.ready;
        }

-- behind the last line one more is ended, where one is ready
pub holds_ends_one : (setting : Setting) (txns : List ℕ) (P : List Line → Game → Type 0) (game : Game) → KeepsSteps setting txns P →
    HoldsBetween setting txns (P []) game → HoldsBetween setting txns (P []) (ends_one setting txns game)
holds_ends_one setting txns P game keeps between =
    let first = by_found (find is_ready game.turns) refl in
    record {
      holds = holds_settled setting txns (P []) (ends_first setting txns (find is_ready game.turns) game) (keeps.moves []) first.holds;
      at_rest = rest_settled setting txns (ends_first setting txns (find is_ready game.turns) game) first.at_rest;
    }
  where
    order : IsInOrder setting txns game
    order = between.at_rest.order

    by_found : (found : Option Turn) → find is_ready game.turns ≡ found → HoldsBetween setting txns (P []) (ends_first setting txns found game)
    by_found None none = record { holds = holds_swept setting txns (P []) game (keeps.moves []) between.holds; at_rest = rest_swept setting txns game between.at_rest }
    by_found (Some turn) some =
        let found = found_ready setting game.turns turn (subst (IsStrictlySortedBy nat_cmp) (sym order.numbers) order.sorted) some in
        let of_game : IsTurnOf setting txns game turn = record { order = order; number = sym (ap (is_in turn.txn) order.numbers) ∙ found.number; there = found.there } in
        let goes = ready_goes turn found.ready in
        let fits : IsFitLine setting turn.txn (end_of turn.txn) = record { own = refl; deed = tt } in
        let empty : turn.lines ≡ [] = ap (λ (t : Turn). t.lines) (sym found.there) ∙ (between.at_rest.rest turn.txn of_game.number).rests (ap is_ready found.there ∙ found.ready) in
        record {
          holds = holds_added setting txns (P []) game turn (end_of turn.txn) (keeps.moves []) of_game fits
              (λ goes. keeps.ends game turn (record { of_game = of_game; ready = found.ready; empty = empty }) between.holds.is)
              (λ ended. never (is_some turn.outcome) goes ended);
          at_rest = rest_added setting txns game turn (end_of turn.txn) of_game fits between.at_rest;
        }

pub holds_all_ended : (setting : Setting) (txns : List ℕ) (P : List Line → Game → Type 0) (left : List ℕ) (game : Game) → KeepsSteps setting txns P → HoldsBetween setting txns (P []) game →
    HoldsBetween setting txns (P []) (fold (λ game (txn : ℕ). ends_one setting txns game) game left)
holds_all_ended setting txns P [] game keeps between = between
holds_all_ended setting txns P (txn ∷ left) game keeps between = holds_all_ended setting txns P left (ends_one setting txns game) keeps (holds_ends_one setting txns P game keeps between)

-- The whole run.

length_nothing : (count : ℕ) → length (replicate count nothing_recorded) ≡ count
length_nothing zero = refl
length_nothing (suc n) = let k = length_nothing n in omega arith

ranges_nothing : (count : ℕ) → AllByRecursion AreRanges (replicate count nothing_recorded)
ranges_nothing zero = tt
ranges_nothing (suc n) = (tt, ranges_nothing n)

opening_steady : (setting : Setting) (txns : List ℕ) → AllByRecursion (IsSteady setting) (map (λ txn. opening_turn setting txn []) txns)
opening_steady setting [] = tt
opening_steady setting (txn ∷ txns) = (
  record {
    lines = tt;
    recorded = length_nothing setting.plan.trees;
    ranges = ranges_nothing setting.plan.trees;
    releases = tt;
    held = λ e. never false refl e;
    over = λ e. refl;
    still = λ e. refl;
    none_owed = λ e. refl;
  },
  opening_steady setting txns,
)

opening_numbers : (setting : Setting) (txns : List ℕ) → numbers (map (λ txn. opening_turn setting txn []) txns) ≡ txns
opening_numbers setting [] = refl
opening_numbers setting (txn ∷ txns) = ap (λ (ns : List ℕ). txn ∷ ns) (opening_numbers setting txns)

pub opening_in_order : (setting : Setting) (txns : List ℕ) → IsStrictlySortedBy nat_cmp txns → IsInOrder setting txns (opening_game setting txns)
opening_in_order setting txns sorted = record { sorted = sorted; numbers = opening_numbers setting txns; steady = opening_steady setting txns }

abbrev IsFresh : Turn → Type 0
IsFresh turn = (turn.lines ≡ []) × (turn.releases ≡ [])

all_fresh : (setting : Setting) (txns : List ℕ) → AllByRecursion IsFresh (map (λ txn. opening_turn setting txn []) txns)
all_fresh setting [] = tt
all_fresh setting (txn ∷ txns) = ((refl, refl), all_fresh setting txns)

pub opening_at_rest : (setting : Setting) (txns : List ℕ) → IsStrictlySortedBy nat_cmp txns → AreAtRest setting txns (opening_game setting txns)
opening_at_rest setting txns sorted = record {
  order = opening_in_order setting txns sorted;
  rest = λ txn there. record {
    rests = λ ready. (at_turn IsFresh setting txn (map (λ n. opening_turn setting n []) txns) (ap (is_in txn) (opening_numbers setting txns) ∙ there) (all_fresh setting txns)).0;
    owes = λ over. (at_turn IsFresh setting txn (map (λ n. opening_turn setting n []) txns) (ap (is_in txn) (opening_numbers setting txns) ∙ there) (all_fresh setting txns)).1;
  };
}

-- what each step keeps, and the first game has, the last one has
pub holds_played : (setting : Setting) (txns : List ℕ) (P : List Line → Game → Type 0) (lines : List Line) → KeepsSteps setting txns P → IsStrictlySortedBy nat_cmp txns →
    AllByRecursion (IsFit setting txns) lines →
    P lines (opening_game setting txns) → HoldsBetween setting txns (P []) (played setting txns lines)
holds_played setting txns P lines keeps sorted fit first =
    holds_all_ended setting txns P txns _ keeps
    (holds_all_taken setting txns P lines (opening_game setting txns) keeps fit
    (record { holds = record { order = opening_in_order setting txns sorted; is = first }; at_rest = opening_at_rest setting txns sorted }))

-- one that does not speak of the lines that are to come
pub steps_alone : (setting : Setting) (txns : List ℕ) (P : Game → Type 0) → KeepsMoves setting txns P →
    ((game : Game) (turn : Turn) (line : Line) → IsTaking setting txns game turn line → P game → P (takes turn line game)) → KeepsSteps setting txns (λ left game. P game)
steps_alone setting txns P keeps taking = record {
  moves = λ left. keeps;
  adds = λ game turn line left at is. taking game turn line at is;
  passes = λ game turn line left at is. is;
  ends = λ game turn at is. taking game turn (end_of turn.txn) (record { of_game = at.of_game; goes = ready_goes turn at.ready; fits = record { own = refl; deed = tt } }) is;
}
