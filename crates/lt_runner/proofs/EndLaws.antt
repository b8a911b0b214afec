-- Where each game between two steps in which none is ready is one in which all have ended, the run plays all to their end.
use Rattle.std.proofs.Common.{◌≡◌, ℕ, suc, ◌+◌, ◌≤◌, List, [], ◌∷◌, ◌++◌, map, Bool, true, false, ◌==◌, ◌||◌, not, ◌&&◌, if◌then◌else◌, Option, Some, None, is_some, is_none, length}
use Rattle.std.proofs.Common.{nat_cmp, refl, sym, ap, subst, ◌∙◌, arith, eq-eqb}
use Rattle.std.specs.List.{AllByRecursion, fold, find}
use Rattle.std.specs.List.Sorted.{IsStrictlySortedBy}
use Rattle.std.proofs.lemmas.Bool.Decides.{nat_tests}
use Rattle.lt_ranges.specs.Numbers.{is_in}
use Rattle.lt_seq.specs.Table.{Setting}
use Rattle.lt_trace.specs.declared.line.Line.{Line}
use Rattle.lt_trace.specs.declared.line.LineDeed.{LineDeed}
use Rattle.lt_trace.specs.declared.line.LineDeed.TheVariants.{End}
use Rattle.lt_runner.specs.TurnView.{Turn}
use Rattle.lt_runner.specs.Turn.{turn_after, ended_at}
use Rattle.lt_runner.specs.Plays.{end_of}
use Rattle.lt_runner.specs.Played.{IsOver}
use Rattle.lt_runner.specs.Serial.{Game, turn_of, is_waiting, is_ready, line_move, does, plays_line, added, takes_line, ends_first, ends_one, opening_game, played}
use Rattle.lt_runner.specs.Steps.{IsSteady, IsFit, IsInOrder, IsTurnOf, IsAtLine, KeepsMoves, KeepsSteps, takes}
use Rattle.lt_runner.proofs.ChoiceLaws.{on_true, on_false}
use Rattle.lt_runner.proofs.SteadyLaws.{turn_of_txn, turn_of_with, turn_of_other, turn_has, ready_goes, never, steady_taking}
use Rattle.lt_runner.proofs.MoveLaws.{AnyOne, are_of, the_turn, turn_after_does, in_order_with, holds_plays, holds_settles, holds_settled}
use Rattle.lt_runner.proofs.IdleLaws.{AreAtRest, keeps_nothing, keeps_ended, rest_added}
use Rattle.lt_runner.proofs.StepLaws.{found_ready, holds_ends_one}
use Rattle.lt_runner.proofs.WishLaws.{IsPlaced, all_placed}
use Rattle.lt_runner.proofs.AttemptLaws.{seat_at}

abbrev pub has_ended : Setting → ℕ → Game → Bool
has_ended setting txn game = is_some (turn_of setting txn game.turns).outcome

-- A property of games between two steps, and the lines that are still to come, which each step keeps: where it holds behind all lines
-- and none is ready, all have ended.
pub record NeverStuck (setting : Setting) (txns : List ℕ) (I : List Line → Game → Type 0) : Type 0 where
  pub at_rest : (left : List Line) (game : Game) → I left game → AreAtRest setting txns game
  pub takes_one : (line : Line) (left : List Line) (game : Game) → IsFit setting txns line → I (line ∷ left) game → I left (takes_line setting txns game line)
  pub ends_next : (game : Game) → I [] game → I [] (ends_one setting txns game)
  pub over : (game : Game) → I [] game → find is_ready game.turns ≡ None → (txn : ℕ) → is_in txn txns ≡ true → has_ended setting txn game ≡ true

-- One that has ended stays so.

ended_moves : (setting : Setting) (txns : List ℕ) (txn : ℕ) → KeepsMoves setting txns (λ game. has_ended setting txn game ≡ true)
ended_moves setting txns txn =
    let keeps = keeps_ended setting txns txn in
    record {
      plays = λ game turn line lines at is. keeps.plays game turn line lines at tt is;
      gives = λ game turn r rs at is. keeps.gives game turn r rs at tt is;
      marks = keeps.marks;
    }

eq_of : (a b : ℕ) → (a == b) ≡ true → a ≡ b
eq_of a b e = grind (arith, nat_tests)

pub ended_takes : (setting : Setting) (txns : List ℕ) (txn : ℕ) (game : Game) (turn : Turn) (line : Line) → IsTurnOf setting txns game turn → is_some turn.outcome ≡ false →
    has_ended setting txn game ≡ true → has_ended setting txn (takes turn line game) ≡ true
ended_takes setting txns txn game turn line of_game goes is = by_test (txn == turn.txn) refl
  where
    new : Turn
    new = record turn { lines = turn.lines ++ line ∷ [] }

    by_test : (b : Bool) → (txn == turn.txn) ≡ b → has_ended setting txn (takes turn line game) ≡ true
    by_test true e = never (is_some turn.outcome) goes (sym (ap (λ (t : Turn). is_some t.outcome) (ap (λ (n : ℕ). turn_of setting n game.turns) (eq_of txn turn.txn e) ∙ of_game.there)) ∙ is)
    by_test false e = ap (λ (t : Turn). is_some t.outcome) (turn_of_other setting txn new game.turns (λ same. absurd (let k : false ≡ true = sym e ∙ eq-eqb txn turn.txn same in cc))) ∙ is

ended_steps : (setting : Setting) (txns : List ℕ) (txn : ℕ) → KeepsSteps setting txns (λ left game. has_ended setting txn game ≡ true)
ended_steps setting txns txn = record {
  moves = λ left. ended_moves setting txns txn;
  adds = λ game turn line left at is. ended_takes setting txns txn game turn line at.of_game at.goes is;
  passes = λ game turn line left at is. is;
  ends = λ game turn at is. ended_takes setting txns txn game turn (end_of turn.txn) at.of_game (ready_goes turn at.ready) is;
}

ended_stays : (setting : Setting) (txns : List ℕ) (txn : ℕ) (game : Game) → AreAtRest setting txns game → has_ended setting txn game ≡ true → has_ended setting txn (ends_one setting txns game) ≡ true
ended_stays setting txns txn game at_rest is =
    (holds_ends_one setting txns (λ left g. has_ended setting txn g ≡ true) game (ended_steps setting txns txn)
    (record { holds = record { order = at_rest.order; is = is }; at_rest = at_rest })).holds.is

-- The one that is ended.

abbrev IsAtEnd : List Line → Type 0
IsAtEnd [] = ⊥
IsAtEnd (line ∷ lines) = line.deed ≡ End

ends_it : (line : Line) (lines : List Line) (turn : Turn) → line.deed ≡ End → is_some (ended_at (line ∷ lines) turn).outcome ≡ true
ends_it line lines turn last = subst (λ (d : LineDeed). is_some (ended_at (record line { deed = d } ∷ lines) turn).outcome ≡ true) (sym last) refl

ended_line : (setting : Setting) (txns : List ℕ) (txn : ℕ) (lines : List Line) (game : Game) → is_in txn txns ≡ true → IsInOrder setting txns game →
    is_some (turn_of setting txn game.turns).outcome ≡ false → (turn_of setting txn game.turns).lines ≡ lines → IsAtEnd lines →
    has_ended setting txn (plays_line setting txn lines game) ≡ true
ended_line setting txns txn [] game number order goes same last = absurd last
ended_line setting txns txn (line ∷ lines) game number order goes same last =
    let turn = turn_of setting txn game.turns in
    let move = line_move setting game turn line.deed in
    let next = does setting turn move game in
    let of_game = the_turn setting txns txn game number order in
    let own = turn_of_txn setting txn game.turns (ap (is_in txn) order.numbers ∙ number) in
    let at : IsAtLine setting txns game turn line lines = record { of_game = of_game; goes = goes; next = same } in
    let there : turn_of setting txn next.turns ≡ turn_after turn move = ap (λ (n : ℕ). turn_of setting n next.turns) (sym own) ∙ turn_after_does setting txns game turn move of_game in
    let over : is_some (turn_after turn move).outcome ≡ true =
    ap (λ (d : LineDeed). is_some (turn_after turn (line_move setting game turn d)).outcome) last ∙ ap (λ (ls : List Line). is_some (ended_at ls turn).outcome) same ∙ ends_it line lines turn last in
    (holds_settles setting txns AnyOne (λ g. has_ended setting txn g ≡ true) txn next (keeps_ended setting txns txn) tt number
    (record { order = (holds_plays setting txns AnyOne (λ g. Unit {0}) game turn line lines (keeps_nothing setting txns) at tt tt).order; is = ap (λ (t : Turn). is_some t.outcome) there ∙ over })).is

pub ready_free : (turn : Turn) → is_ready turn ≡ true → turn.waits ≡ false
ready_free turn ready = by_tests (is_none turn.outcome) turn.waits ready
  where
    by_tests : (a b : Bool) → (a && not b) ≡ true → b ≡ false
    by_tests true true e = cc
    by_tests true false e = refl
    by_tests false b e = cc

ended_added : (setting : Setting) (txns : List ℕ) (game : Game) (turn : Turn) → IsTurnOf setting txns game turn → is_ready turn ≡ true → turn.lines ≡ [] →
    has_ended setting turn.txn (added setting (end_of turn.txn) turn game) ≡ true
ended_added setting txns game turn of_game ready empty =
    subst (λ (g : Game). has_ended setting turn.txn g ≡ true) (sym (on_false (is_some turn.outcome) game _ goes ∙ on_false (is_waiting turn) next _ (ready_free turn ready)))
    (ended_line setting txns turn.txn (turn_of setting turn.txn next.turns).lines next of_game.number order (ap (λ (t : Turn). is_some t.outcome) there ∙ goes) refl
    (subst IsAtEnd (sym (ap (λ (t : Turn). t.lines) there ∙ ap (λ (ls : List Line). ls ++ end_of turn.txn ∷ []) empty)) refl))
  where
    goes : is_some turn.outcome ≡ false
    goes = ready_goes turn ready

    new : Turn
    new = record turn { lines = turn.lines ++ end_of turn.txn ∷ [] }

    next : Game
    next = takes turn (end_of turn.txn) game

    there : turn_of setting turn.txn next.turns ≡ new
    there = turn_of_with setting new game.turns (ap (is_in turn.txn) of_game.order.numbers ∙ of_game.number)

    order : IsInOrder setting txns next
    order = in_order_with setting txns game.events game.released game new of_game.order
        (steady_taking setting turn (end_of turn.txn) goes (record { own = refl; deed = tt }) (turn_has (IsSteady setting) setting txns game turn of_game of_game.order.steady))

-- what a round does where one is ready: that one has ended then
record IsEnded (setting : Setting) (txns : List ℕ) (game : Game) (turn : Turn) : Type 0 where
  number : is_in turn.txn txns ≡ true
  before : has_ended setting turn.txn game ≡ false
  after : has_ended setting turn.txn (ends_one setting txns game) ≡ true

first_order : (setting : Setting) (txns : List ℕ) (game : Game) (turn : Turn) → IsTurnOf setting txns game turn → AreAtRest setting txns game →
    find is_ready game.turns ≡ Some turn → IsInOrder setting txns (ends_first setting txns (find is_ready game.turns) game)
first_order setting txns game turn of_game at_rest some =
    subst (λ (o : Option Turn). IsInOrder setting txns (ends_first setting txns o game)) (sym some)
    (rest_added setting txns game turn (end_of turn.txn) of_game (record { own = refl; deed = tt }) at_rest).order

ended_one : (setting : Setting) (txns : List ℕ) (game : Game) (turn : Turn) → AreAtRest setting txns game → find is_ready game.turns ≡ Some turn → IsEnded setting txns game turn
ended_one setting txns game turn at_rest some =
    let order = at_rest.order in
    let found = found_ready setting game.turns turn (subst (IsStrictlySortedBy nat_cmp) (sym order.numbers) order.sorted) some in
    let of_game : IsTurnOf setting txns game turn = record { order = order; number = sym (ap (is_in turn.txn) order.numbers) ∙ found.number; there = found.there } in
    let empty : turn.lines ≡ [] = ap (λ (t : Turn). t.lines) (sym found.there) ∙ (at_rest.rest turn.txn of_game.number).rests (ap is_ready found.there ∙ found.ready) in
    let first : has_ended setting turn.txn (ends_first setting txns (find is_ready game.turns) game) ≡ true =
    ap (λ (o : Option Turn). has_ended setting turn.txn (ends_first setting txns o game)) some ∙ ended_added setting txns game turn of_game found.ready empty in
    record {
      number = of_game.number;
      before = ap (λ (t : Turn). is_some t.outcome) found.there ∙ ready_goes turn found.ready;
      after = (holds_settled setting txns (λ g. has_ended setting turn.txn g ≡ true) (ends_first setting txns (find is_ready game.turns) game) (ended_moves setting txns turn.txn)
          (record { order = first_order setting txns game turn of_game at_rest some; is = first })).is;
    }

-- Fewer are left in each round.

pub open_in : Setting → Game → List ℕ → ℕ
open_in setting game [] = 0
open_in setting game (n ∷ ns) = if has_ended setting n game then open_in setting game ns else 1 + open_in setting game ns

pub open_few : (setting : Setting) (game : Game) (ns : List ℕ) → open_in setting game ns ≤ length ns
unfolding open_in
open_few setting game [] = omega arith
open_few setting game (n ∷ ns) = by_test (has_ended setting n game) (open_few setting game ns)
  where
    by_test : (b : Bool) → open_in setting game ns ≤ length ns → (if b then open_in setting game ns else 1 + open_in setting game ns) ≤ suc (length ns)
    by_test true few = omega (arith, few)
    by_test false few = omega (arith, few)

-- those that had ended have
abbrev pub AreStill : Setting → Game → Game → List ℕ → Type 0
AreStill setting old new ns = AllByRecursion (λ n. has_ended setting n old ≡ true → has_ended setting n new ≡ true) ns

pub open_less : (setting : Setting) (old new : Game) (ns : List ℕ) → AreStill setting old new ns → open_in setting new ns ≤ open_in setting old ns
unfolding open_in
open_less setting old new [] still = omega arith
open_less setting old new (n ∷ ns) still = by_tests (has_ended setting n old) (has_ended setting n new) still.0 (open_less setting old new ns still.1)
  where
    by_tests : (a b : Bool) → (a ≡ true → b ≡ true) → open_in setting new ns ≤ open_in setting old ns →
        (if b then open_in setting new ns else 1 + open_in setting new ns) ≤ (if a then open_in setting old ns else 1 + open_in setting old ns)
    by_tests true true h rest = rest
    by_tests true false h rest = absurd (let k : false ≡ true = h refl in cc)
    by_tests false true h rest = omega (arith, rest)
    by_tests false false h rest = omega (arith, rest)

pub open_fewer : (setting : Setting) (old new : Game) (m : ℕ) (ns : List ℕ) → AreStill setting old new ns → is_in m ns ≡ true → has_ended setting m old ≡ false →
    has_ended setting m new ≡ true → 1 + open_in setting new ns ≤ open_in setting old ns
unfolding open_in
open_fewer setting old new m [] still there before behind_it = absurd (let k : false ≡ true = there in cc)
open_fewer setting old new m (n ∷ ns) still there before behind_it = by_number (n == m) refl there (open_fewer setting old new m ns still.1)
  where
    by_tests : (a b : Bool) → (a ≡ true → b ≡ true) → 1 + open_in setting new ns ≤ open_in setting old ns →
        1 + (if b then open_in setting new ns else 1 + open_in setting new ns) ≤ (if a then open_in setting old ns else 1 + open_in setting old ns)
    by_tests true true h rest = rest
    by_tests true false h rest = absurd (let k : false ≡ true = h refl in cc)
    by_tests false true h rest = omega (arith, rest)
    by_tests false false h rest = omega (arith, rest)

    here : (a b : Bool) → a ≡ false → b ≡ true → open_in setting new ns ≤ open_in setting old ns →
        1 + (if b then open_in setting new ns else 1 + open_in setting new ns) ≤ (if a then open_in setting old ns else 1 + open_in setting old ns)
    here true b h k rest = absurd (let x : true ≡ false = h in cc)
    here false true h k rest = omega (arith, rest)
    here false false h k rest = absurd (let x : false ≡ true = k in cc)

    by_number : (b : Bool) → (n == m) ≡ b → (b || is_in m ns) ≡ true →
        (is_in m ns ≡ true → has_ended setting m old ≡ false → has_ended setting m new ≡ true → 1 + open_in setting new ns ≤ open_in setting old ns) →
        1 + (if has_ended setting n new then open_in setting new ns else 1 + open_in setting new ns) ≤ (if has_ended setting n old then open_in setting old ns else 1 + open_in setting old ns)
    by_number true e h later =
        let same = eq_of n m e in
        here (has_ended setting n old) (has_ended setting n new) (ap (λ (k : ℕ). has_ended setting k old) same ∙ before)
        (ap (λ (k : ℕ). has_ended setting k new) same ∙ behind_it) (open_less setting old new ns still.1)
    by_number false e h later = by_tests (has_ended setting n old) (has_ended setting n new) still.0 (later h before behind_it)

open_none : (setting : Setting) (game : Game) (ns : List ℕ) → AllByRecursion (λ n. has_ended setting n game ≡ true) ns → open_in setting game ns ≡ 0
unfolding open_in
open_none setting game [] all = refl
open_none setting game (n ∷ ns) all = on_true (has_ended setting n game) _ _ all.0 ∙ open_none setting game ns all.1

none_open : (setting : Setting) (game : Game) (ns : List ℕ) → open_in setting game ns ≤ 0 → AllByRecursion (λ n. has_ended setting n game ≡ true) ns
unfolding open_in
none_open setting game [] none = tt
none_open setting game (n ∷ ns) none = by_test (has_ended setting n game) refl none (none_open setting game ns)
  where
    by_test : (b : Bool) → has_ended setting n game ≡ b → (if b then open_in setting game ns else 1 + open_in setting game ns) ≤ 0 →
        (open_in setting game ns ≤ 0 → AllByRecursion (λ k. has_ended setting k game ≡ true) ns) → AllByRecursion (λ k. has_ended setting k game ≡ true) (n ∷ ns)
    by_test true e h later = (e, later h)
    by_test false e h later = absurd (omega (arith, h))

all_still : (setting : Setting) (txns ns : List ℕ) (game : Game) → AreAtRest setting txns game → AreStill setting game (ends_one setting txns game) ns
all_still setting txns [] game at_rest = tt
all_still setting txns (n ∷ ns) game at_rest = ((λ is. ended_stays setting txns n game at_rest is), all_still setting txns ns game at_rest)

all_ended : (setting : Setting) (game : Game) (ns txns : List ℕ) → AllByRecursion (λ n. is_in n txns ≡ true) ns →
    ((n : ℕ) → is_in n txns ≡ true → has_ended setting n game ≡ true) → AllByRecursion (λ n. has_ended setting n game ≡ true) ns
all_ended setting game [] txns of_them all = tt
all_ended setting game (n ∷ ns) txns of_them all = (all n of_them.0, all_ended setting game ns txns of_them.1 all)

ends_all : (setting : Setting) (txns : List ℕ) (I : List Line → Game → Type 0) (left : List ℕ) (game : Game) → NeverStuck setting txns I → I [] game →
    open_in setting game txns ≤ length left →
    AllByRecursion (λ n. has_ended setting n (fold (λ g (txn : ℕ). ends_one setting txns g) game left) ≡ true) txns
ends_all setting txns I [] game never is few = none_open setting game txns few
ends_all setting txns I (txn ∷ left) game never is few =
    ends_all setting txns I left (ends_one setting txns game) never (never.ends_next game is) (by_found (find is_ready game.turns) refl)
  where
    at_rest : AreAtRest setting txns game
    at_rest = never.at_rest [] game is

    still : AreStill setting game (ends_one setting txns game) txns
    still = all_still setting txns txns game at_rest

    by_found : (found : Option Turn) → find is_ready game.turns ≡ found → open_in setting (ends_one setting txns game) txns ≤ length left
    by_found None none =
        let done = open_none setting game txns (all_ended setting game txns txns (are_of txns) (never.over game is none)) in
        omega (arith, done, open_less setting game (ends_one setting txns game) txns still)
    by_found (Some turn) some =
        let it = ended_one setting txns game turn at_rest some in
        let k = open_fewer setting game (ends_one setting txns game) turn.txn txns still it.number it.before it.after in
        omega (arith, k, few)

-- Each step keeps it.

takes_all : (setting : Setting) (txns : List ℕ) (I : List Line → Game → Type 0) (lines : List Line) (game : Game) → NeverStuck setting txns I → AllByRecursion (IsFit setting txns) lines →
    I lines game → I [] (fold (takes_line setting txns) game lines)
takes_all setting txns I [] game never fit is = is
takes_all setting txns I (line ∷ lines) game never fit is = takes_all setting txns I lines (takes_line setting txns game line) never fit.1 (never.takes_one line lines game fit.0 is)

ends_each : (setting : Setting) (txns : List ℕ) (I : List Line → Game → Type 0) (left : List ℕ) (game : Game) → NeverStuck setting txns I → I [] game →
    I [] (fold (λ g (txn : ℕ). ends_one setting txns g) game left)
ends_each setting txns I [] game never is = is
ends_each setting txns I (txn ∷ left) game never is = ends_each setting txns I left (ends_one setting txns game) never (never.ends_next game is)

-- All of them, at the end of the run.

abbrev is_over_at : Setting → Game → ℕ → Type 0
is_over_at setting game n = has_ended setting n game ≡ true

in_all : (setting : Setting) (game : Game) (n : ℕ) (ns : List ℕ) → AllByRecursion (λ k. has_ended setting k game ≡ true) ns → is_in n ns ≡ true → has_ended setting n game ≡ true
in_all setting game n [] all there = absurd (let k : false ≡ true = there in cc)
in_all setting game n (m ∷ ms) all there = by_test (m == n) refl there (in_all setting game n ms all.1)
  where
    by_test : (b : Bool) → (m == n) ≡ b → (b || is_in n ms) ≡ true → (is_in n ms ≡ true → has_ended setting n game ≡ true) → has_ended setting n game ≡ true
    by_test true e h later = subst (is_over_at setting game) (eq_of m n e) all.0
    by_test false e h later = later h

seats_over : (setting : Setting) (txns : List ℕ) (game : Game) (turns : List Turn) → AreAtRest setting txns game →
    AllByRecursion (λ n. has_ended setting n game ≡ true) txns → AllByRecursion (IsPlaced setting game.turns) turns → AllByRecursion (λ t. IsOver (seat_at t)) turns
seats_over setting txns game [] at_rest ended placed = tt
seats_over setting txns game (t ∷ ts) at_rest ended placed =
    let there = placed.0.there in
    let number : is_in t.txn txns ≡ true = sym (ap (is_in t.txn) at_rest.order.numbers) ∙ placed.0.number in
    let over : is_some t.outcome ≡ true = ap (λ (u : Turn). is_some u.outcome) (sym there) ∙ in_all setting game t.txn txns ended number in
    ((over, ap (λ (u : Turn). u.releases) (sym there) ∙ (at_rest.rest t.txn number).owes (ap (λ (u : Turn). is_some u.outcome) there ∙ over)), seats_over setting txns game ts at_rest ended placed.1)

-- a run that never gets stuck plays all to their end
pub record PlaysOut (setting : Setting) (txns : List ℕ) (game : Game) : Type 0 where
  pub numbers_are : map (λ t. t.txn) game.turns ≡ txns
  pub over : AllByRecursion (λ t. IsOver (seat_at t)) game.turns

pub plays_out : (setting : Setting) (txns : List ℕ) (I : List Line → Game → Type 0) (lines : List Line) → NeverStuck setting txns I → IsStrictlySortedBy nat_cmp txns →
    AllByRecursion (IsFit setting txns) lines → I lines (opening_game setting txns) → PlaysOut setting txns (played setting txns lines)
plays_out setting txns I lines never sorted fit first =
    let half = fold (takes_line setting txns) (opening_game setting txns) lines in
    let middle = takes_all setting txns I lines (opening_game setting txns) never fit first in
    let at_rest = never.at_rest [] (played setting txns lines) (ends_each setting txns I txns half never middle) in
    let ended = ends_all setting txns I txns half never middle (open_few setting half txns) in
    let game = played setting txns lines in
    let placed = all_placed setting game.turns (subst (IsStrictlySortedBy nat_cmp) (sym at_rest.order.numbers) sorted) in
    record { numbers_are = at_rest.order.numbers; over = seats_over setting txns game game.turns at_rest ended placed }
