-- The plain scheduler's turns: each by its number, and each steady between two steps.
use Rattle.std.proofs.Common.{◌≡◌, ◌≢◌, ℕ, zero, suc, ◌+◌, ◌<◌, ◌≤◌, List, [], ◌∷◌, ◌++◌, map, Bool, true, false, ◌==◌, ◌&&◌, ◌||◌, not, if◌then◌else◌, Option, Some, None, is_some}
use Rattle.std.proofs.Common.{is_none, length, get_or, slice_set, refl, sym, ap, subst, ◌∙◌, arith, eq-eqb}
use Rattle.std.specs.List.{AllByRecursion}
use Rattle.std.proofs.lemmas.Bool.Decides.{nat_tests}
use Rattle.std.proofs.lemmas.List.{length-set}
use Rattle.lt_ranges.specs.Interval.{Interval, IsInterval, whole}
use Rattle.lt_ranges.specs.Key.{key_le}
use Rattle.lt_ranges.specs.Numbers.{is_in}
use Rattle.lt_seq.specs.declared.event.Reply.{Reply}
use Rattle.lt_seq.specs.declared.event.Reply.TheVariants.{Granted, Buffered, HeldBy}
use Rattle.lt_seq.specs.Table.{Setting}
use Rattle.lt_trace.specs.declared.line.Line.{Line}
use Rattle.lt_trace.specs.declared.line.LineDeed.{LineDeed}
use Rattle.lt_trace.specs.declared.line.LineDeed.TheVariants.{Try, Lock, End, Abort, Escalate, Big}
use Rattle.lt_requests.specs.declared.cycle.Edge.{Edge}
use Rattle.lt_history.specs.declared.outcome.Outcome.{Outcome}
use Rattle.lt_history.specs.declared.outcome.Outcome.TheVariants.{Done, Aborted, Deadlock, OutOfLocks}
use Rattle.lt_runner.specs.declared.release.Release.{Release}
use Rattle.lt_runner.specs.TurnView.{Turn, Recorded}
use Rattle.lt_runner.specs.Turn.{Move, leaves, asks, waits, stops, escalates, grows, ends, frees, turn_after, releases_by, releases_in, releases_from, nothing_recorded, past}
use Rattle.lt_runner.specs.Turn.{granted_to, ending, answered_by, walked, locked_by, asked_at, ended_at, reply_in, rest_of, rest_of_release}
use Rattle.lt_runner.specs.Serial.{Game, turn_of, with_turn, is_ready}
use Rattle.lt_runner.specs.Played.{IsAtLock}
use Rattle.lt_runner.specs.Steps.{IsFitDeed, IsFitLine, IsFitRelease, AreRanges, IsSteady, IsTurnOf}
use Rattle.lt_runner.proofs.ChoiceLaws.{on_true, on_false}

-- Turns by their numbers.

abbrev pub numbers : List Turn → List ℕ
numbers turns = map (λ turn. turn.txn) turns

pub turn_of_txn : (setting : Setting) (txn : ℕ) (turns : List Turn) → is_in txn (numbers turns) ≡ true → (turn_of setting txn turns).txn ≡ txn
turn_of_txn setting txn [] there = cc
turn_of_txn setting txn (t ∷ ts) there = by_test (t.txn == txn) refl there (turn_of_txn setting txn ts)
  where
    by_test : (b : Bool) → (t.txn == txn) ≡ b → (b || is_in txn (numbers ts)) ≡ true → (is_in txn (numbers ts) ≡ true → (turn_of setting txn ts).txn ≡ txn) →
        (if b then t else turn_of setting txn ts).txn ≡ txn
    by_test true e h later = grind (arith, nat_tests)
    by_test false e h later = later h

-- a turn that was put in is there
pub turn_of_with : (setting : Setting) (new : Turn) (turns : List Turn) → is_in new.txn (numbers turns) ≡ true → turn_of setting new.txn (with_turn new turns) ≡ new
turn_of_with setting new [] there = cc
turn_of_with setting new (t ∷ ts) there = by_test (t.txn == new.txn) refl there (turn_of_with setting new ts)
  where
    by_test : (b : Bool) → (t.txn == new.txn) ≡ b → (b || is_in new.txn (numbers ts)) ≡ true → (is_in new.txn (numbers ts) ≡ true → turn_of setting new.txn (with_turn new ts) ≡ new) →
        (if (if b then new else t).txn == new.txn then (if b then new else t) else turn_of setting new.txn (with_turn new ts)) ≡ new
    by_test true e h later = on_true (new.txn == new.txn) new _ (eq-eqb new.txn new.txn refl)
    by_test false e h later = on_false (t.txn == new.txn) t _ e ∙ later h

pub numbers_with : (new : Turn) (turns : List Turn) → numbers (with_turn new turns) ≡ numbers turns
numbers_with new [] = refl
numbers_with new (t ∷ ts) =
    let here = by_test (t.txn == new.txn) refl in
    let rest = numbers_with new ts in
    λ j. here j ∷ rest j
  where
    by_test : (b : Bool) → (t.txn == new.txn) ≡ b → (if b then new else t).txn ≡ t.txn
    by_test true e = grind (arith, nat_tests)
    by_test false e = refl

-- and the others stay
pub turn_of_other : (setting : Setting) (other : ℕ) (new : Turn) (turns : List Turn) → other ≢ new.txn → turn_of setting other (with_turn new turns) ≡ turn_of setting other turns
turn_of_other setting other new [] differs = refl
turn_of_other setting other new (t ∷ ts) differs = by_test (t.txn == new.txn) refl (turn_of_other setting other new ts differs)
  where
    differ : (a b : ℕ) (c : Bool) → (a ≡ b → ⊥) → (a == b) ≡ c → (a == b) ≡ false
    differ a b true d e = absurd (d (let same : a ≡ b = grind (arith, nat_tests) in same))
    differ a b false d e = e

    by_test : (b : Bool) → (t.txn == new.txn) ≡ b → turn_of setting other (with_turn new ts) ≡ turn_of setting other ts →
        (if (if b then new else t).txn == other then (if b then new else t) else turn_of setting other (with_turn new ts)) ≡ (if t.txn == other then t else turn_of setting other ts)
    by_test true e rest =
        on_false (new.txn == other) new _ (differ new.txn other _ (λ same. differs (sym same)) refl) ∙ rest
        ∙ sym (on_false (t.txn == other) t _ (differ t.txn other _ (λ same. differs (let own : t.txn ≡ new.txn = grind (arith, nat_tests) in sym same ∙ own)) refl))
    by_test false e rest = ap (λ (u : Turn). if t.txn == other then t else u) rest

-- what all turns have, with one put in
pub all_with : (P Q : Turn → Type 0) (new : Turn) (turns : List Turn) → AllByRecursion P turns → Q new → ((t : Turn) → t.txn ≢ new.txn → P t → Q t) → AllByRecursion Q (with_turn new turns)
all_with P Q new [] all one others = tt
all_with P Q new (t ∷ ts) all one others = (by_test (t.txn == new.txn) refl, all_with P Q new ts all.1 one others)
  where
    by_test : (b : Bool) → (t.txn == new.txn) ≡ b → Q (if b then new else t)
    by_test true e = one
    by_test false e = others t (λ (same : t.txn ≡ new.txn). absurd (let k : false ≡ true = sym e ∙ eq-eqb t.txn new.txn same in cc)) all.0

-- what all turns have, the one with this number has
pub at_turn : (P : Turn → Type 0) (setting : Setting) (txn : ℕ) (turns : List Turn) → is_in txn (numbers turns) ≡ true → AllByRecursion P turns → P (turn_of setting txn turns)
at_turn P setting txn [] there all = absurd (let k : false ≡ true = there in cc)
at_turn P setting txn (t ∷ ts) there all = by_test (t.txn == txn) there (λ h. at_turn P setting txn ts h all.1)
  where
    by_test : (b : Bool) → (b || is_in txn (numbers ts)) ≡ true → (is_in txn (numbers ts) ≡ true → P (turn_of setting txn ts)) → P (if b then t else turn_of setting txn ts)
    by_test true h later = all.0
    by_test false h later = later h

pub turn_has : (P : Turn → Type 0) (setting : Setting) (txns : List ℕ) (game : Game) (turn : Turn) → IsTurnOf setting txns game turn → AllByRecursion P game.turns → P turn
turn_has P setting txns game turn of_game all =
    subst P of_game.there (at_turn P setting turn.txn game.turns (ap (is_in turn.txn) of_game.order.numbers ∙ of_game.number) all)

-- Turns stay steady.

all_rest : (P : Line → Type 0) (lines : List Line) → AllByRecursion P lines → AllByRecursion P (rest_of lines)
all_rest P [] all = tt
all_rest P (line ∷ lines) all = all.1

pub all_push : {X : Type 0} (P : X → Type 0) (xs : List X) (x : X) → AllByRecursion P xs → P x → AllByRecursion P (xs ++ x ∷ [])
all_push P [] x all one = (one, tt)
all_push P (y ∷ ys) x all one = (all.0, all_push P ys x all.1 one)

all_both : {X : Type 0} (P : X → Type 0) (xs ys : List X) → AllByRecursion P xs → AllByRecursion P ys → AllByRecursion P (xs ++ ys)
all_both P [] ys all rest = rest
all_both P (x ∷ xs) ys all rest = (all.0, all_both P xs ys all.1 rest)

pub never : {X : Type 0} (b : Bool) → b ≡ false → b ≡ true → X
never b no_b yes_b = absurd (let k : false ≡ true = sym no_b ∙ yes_b in cc)

whole_ordered : IsInterval whole
unfolding key_le
whole_ordered = refl

fit_by : (setting : Setting) (tree : ℕ) (first : Bool) (ranges : List Interval) → tree < setting.plan.trees → AllByRecursion IsInterval ranges →
    AllByRecursion (IsFitRelease setting) (releases_by tree first ranges)
fit_by setting tree first [] inside all = tt
fit_by setting tree first (r ∷ rs) inside all = ((inside, all.0), fit_by setting tree false rs inside all.1)

fit_in : (setting : Setting) (tree : ℕ) (r : Recorded) → tree < setting.plan.trees → AreRanges r → AllByRecursion (IsFitRelease setting) (releases_in tree r)
fit_in setting tree r inside ranges = by_buffer r.buffered
  where
    by_buffer : (b : Bool) → AllByRecursion (IsFitRelease setting) (if b then record { tree = tree; range = whole; first = true } ∷ [] else releases_by tree true r.ranges)
    by_buffer true = ((inside, whole_ordered), tt)
    by_buffer false = fit_by setting tree true r.ranges inside ranges

pub fit_from : (setting : Setting) (tree : ℕ) (rs : List Recorded) → tree + length rs ≤ setting.plan.trees → AllByRecursion AreRanges rs → AllByRecursion (IsFitRelease setting) (releases_from tree rs)
fit_from setting tree [] inside all = tt
fit_from setting tree (r ∷ rs) inside all =
    all_both (IsFitRelease setting) (releases_in tree r) (releases_from (tree + 1) rs) (fit_in setting tree r (omega arith) all.0) (fit_from setting (tree + 1) rs (omega arith) all.1)

ranges_at : (rs : List Recorded) (tree : ℕ) → AllByRecursion AreRanges rs → AreRanges (get_or rs tree nothing_recorded)
ranges_at [] tree all = tt
ranges_at (r ∷ rs) zero all = all.0
ranges_at (r ∷ rs) (suc tree) all = ranges_at rs tree all.1

ranges_set : (rs : List Recorded) (tree : ℕ) (r : Recorded) → AllByRecursion AreRanges rs → AreRanges r → AllByRecursion AreRanges (slice_set rs tree r)
ranges_set [] tree r all one = tt
ranges_set (x ∷ xs) zero r all one = (one, all.1)
ranges_set (x ∷ xs) (suc tree) r all one = (all.0, ranges_set xs tree r all.1 one)

steady_past : (setting : Setting) (turn : Turn) → is_some turn.outcome ≡ false → IsSteady setting turn → IsSteady setting (past turn)
steady_past setting turn goes steady = record {
  lines = all_rest (IsFitLine setting turn.txn) turn.lines steady.lines;
  recorded = steady.recorded;
  ranges = steady.ranges;
  releases = steady.releases;
  held = λ e. never false refl e;
  over = λ e. never (is_some turn.outcome) goes e;
  still = λ e. refl;
  none_owed = steady.none_owed;
}

steady_granted : (setting : Setting) (tree : ℕ) (range : Interval) (buffered : Bool) (turn : Turn) → IsInterval range → is_some turn.outcome ≡ false →
    IsSteady setting turn → IsSteady setting (granted_to tree range buffered turn)
steady_granted setting tree range buffered turn one goes steady =
    let next = steady_past setting turn goes steady in
    record {
      lines = next.lines;
      recorded = length-set turn.recorded tree _ ∙ steady.recorded;
      ranges = ranges_set turn.recorded tree _ steady.ranges (all_push IsInterval _ range (ranges_at turn.recorded tree steady.ranges) one);
      releases = next.releases;
      held = next.held;
      over = next.over;
      still = next.still;
      none_owed = next.none_owed;
    }

steady_ending : (setting : Setting) (outcome : Outcome) (turn : Turn) → IsSteady setting turn → IsSteady setting (ending outcome turn)
steady_ending setting outcome turn steady = record {
  lines = tt;
  recorded = steady.recorded;
  ranges = steady.ranges;
  releases = fit_from setting 0 turn.recorded (omega (arith, steady.recorded)) steady.ranges;
  held = λ e. never false refl e;
  over = λ e. refl;
  still = λ e. refl;
  none_owed = λ e. never true e refl;
}

steady_walked : (setting : Setting) (walk : Option (List Edge)) (turn : Turn) → IsAtLock turn.lines → is_some turn.outcome ≡ false → IsSteady setting turn → IsSteady setting (walked walk turn)
steady_walked setting None turn lock goes steady = record {
  lines = steady.lines;
  recorded = steady.recorded;
  ranges = steady.ranges;
  releases = steady.releases;
  held = λ e. lock;
  over = λ e. never (is_some turn.outcome) goes e;
  still = λ e. never (is_some turn.outcome) goes e;
  none_owed = steady.none_owed;
}
steady_walked setting (Some walk) turn lock goes steady = steady_ending setting (Deadlock walk) turn steady

steady_answered : (setting : Setting) (tree : ℕ) (range : Interval) (reply : Reply) (turn : Turn) → IsInterval range → is_some turn.outcome ≡ false →
    IsSteady setting turn → IsSteady setting (answered_by tree range reply turn)
steady_answered setting tree range Granted turn one goes steady = steady_granted setting tree range false turn one goes steady
steady_answered setting tree range Buffered turn one goes steady = steady_granted setting tree range true turn one goes steady
steady_answered setting tree range (HeldBy owners) turn one goes steady = steady_past setting turn goes steady

steady_locked : (setting : Setting) (tree : ℕ) (range : Interval) (reply : Reply) (walk : Option (List Edge)) (turn : Turn) → IsInterval range → IsAtLock turn.lines →
    is_some turn.outcome ≡ false → IsSteady setting turn → IsSteady setting (locked_by tree range reply walk turn)
steady_locked setting tree range Granted walk turn one lock goes steady = steady_granted setting tree range false turn one goes steady
steady_locked setting tree range Buffered walk turn one lock goes steady = steady_granted setting tree range true turn one goes steady
steady_locked setting tree range (HeldBy owners) walk turn one lock goes steady = steady_walked setting walk turn lock goes steady

steady_asked : (setting : Setting) (lines : List Line) (reply : Reply) (walk : Option (List Edge)) (turn : Turn) → turn.lines ≡ lines → is_some turn.outcome ≡ false →
    IsSteady setting turn → IsSteady setting (asked_at lines reply walk turn)
steady_asked setting [] reply walk turn same goes steady = steady
steady_asked setting (line ∷ lines) reply walk turn same goes steady =
    by_deed line.deed (let all : AllByRecursion (IsFitLine setting turn.txn) (line ∷ lines) = subst (AllByRecursion (IsFitLine setting turn.txn)) same steady.lines in all.0.deed) same
  where
    by_deed : (deed : LineDeed) → IsFitDeed setting deed → turn.lines ≡ record line { deed = deed } ∷ lines → IsSteady setting (asked_at (record line { deed = deed } ∷ lines) reply walk turn)
    by_deed (Try tree range) fit is = steady_answered setting tree range reply turn fit.1 goes steady
    by_deed (Lock tree range) fit is = steady_locked setting tree range reply walk turn fit.1 (subst IsAtLock (sym is) refl) goes steady
    by_deed End fit is = steady
    by_deed Abort fit is = steady
    by_deed (Escalate tree) fit is = steady
    by_deed Big fit is = steady

steady_ended : (setting : Setting) (lines : List Line) (turn : Turn) → IsSteady setting turn → IsSteady setting (ended_at lines turn)
steady_ended setting [] turn steady = steady
steady_ended setting (line ∷ lines) turn steady = by_deed line.deed
  where
    by_deed : (deed : LineDeed) → IsSteady setting (ended_at (record line { deed = deed } ∷ lines) turn)
    by_deed (Try tree range) = steady
    by_deed (Lock tree range) = steady
    by_deed End = steady_ending setting Done turn steady
    by_deed Abort = steady_ending setting Aborted turn steady
    by_deed (Escalate tree) = steady
    by_deed Big = steady

pub steady_freed : (setting : Setting) (turn : Turn) → IsSteady setting turn → IsSteady setting (record turn { releases = rest_of_release turn.releases })
steady_freed setting turn steady = record {
  lines = steady.lines;
  recorded = steady.recorded;
  ranges = steady.ranges;
  releases = by_releases turn.releases steady.releases;
  held = steady.held;
  over = steady.over;
  still = steady.still;
  none_owed = λ goes. ap rest_of_release (steady.none_owed goes);
}
  where
    by_releases : (rs : List Release) → AllByRecursion (IsFitRelease setting) rs → AllByRecursion (IsFitRelease setting) (rest_of_release rs)
    by_releases [] all = tt
    by_releases (r ∷ rs) all = all.1

steady_grown : (setting : Setting) (turn : Turn) → IsSteady setting turn → IsSteady setting (record turn { big = true })
steady_grown setting turn steady = record {
  lines = steady.lines;
  recorded = steady.recorded;
  ranges = steady.ranges;
  releases = steady.releases;
  held = steady.held;
  over = steady.over;
  still = steady.still;
  none_owed = steady.none_owed;
}

-- a move of a turn that goes on
pub steady_after : (setting : Setting) (turn : Turn) (move : Move) → is_some turn.outcome ≡ false → IsSteady setting turn → IsSteady setting (turn_after turn move)
steady_after setting turn (leaves joins) goes steady = steady
steady_after setting turn (asks joins ask) goes steady = steady_asked setting turn.lines (reply_in ask.event.deed) None turn refl goes steady
steady_after setting turn (waits joins ask wishes search) goes steady = steady_asked setting turn.lines (reply_in ask.event.deed) _ turn refl goes steady
steady_after setting turn (stops joins place rows) goes steady = steady_ending setting (OutOfLocks place rows) turn steady
steady_after setting turn (escalates join) goes steady = steady_past setting turn goes steady
steady_after setting turn grows goes steady = steady_grown setting (past turn) (steady_past setting turn goes steady)
steady_after setting turn ends goes steady = steady_ended setting turn.lines turn steady
steady_after setting turn (frees free) goes steady = steady_freed setting turn steady

at_lock_more : (lines : List Line) (line : Line) → IsAtLock lines → IsAtLock (lines ++ line ∷ [])
at_lock_more [] line lock = absurd lock
at_lock_more (l ∷ ls) line lock = lock

pub steady_taking : (setting : Setting) (turn : Turn) (line : Line) → is_some turn.outcome ≡ false → IsFitLine setting turn.txn line → IsSteady setting turn →
    IsSteady setting (record turn { lines = turn.lines ++ line ∷ [] })
steady_taking setting turn line goes fit steady = record {
  lines = all_push (IsFitLine setting turn.txn) turn.lines line steady.lines fit;
  recorded = steady.recorded;
  ranges = steady.ranges;
  releases = steady.releases;
  held = λ e. at_lock_more turn.lines line (steady.held e);
  over = λ e. never (is_some turn.outcome) goes e;
  still = steady.still;
  none_owed = steady.none_owed;
}

-- A move keeps its transaction.

answered_txn : (tree : ℕ) (range : Interval) (reply : Reply) (turn : Turn) → (answered_by tree range reply turn).txn ≡ turn.txn
answered_txn tree range Granted turn = refl
answered_txn tree range Buffered turn = refl
answered_txn tree range (HeldBy owners) turn = refl

walked_txn : (walk : Option (List Edge)) (turn : Turn) → (walked walk turn).txn ≡ turn.txn
walked_txn None turn = refl
walked_txn (Some walk) turn = refl

locked_txn : (tree : ℕ) (range : Interval) (reply : Reply) (walk : Option (List Edge)) (turn : Turn) → (locked_by tree range reply walk turn).txn ≡ turn.txn
locked_txn tree range Granted walk turn = refl
locked_txn tree range Buffered walk turn = refl
locked_txn tree range (HeldBy owners) walk turn = walked_txn walk turn

asked_txn : (lines : List Line) (reply : Reply) (walk : Option (List Edge)) (turn : Turn) → (asked_at lines reply walk turn).txn ≡ turn.txn
asked_txn [] reply walk turn = refl
asked_txn (line ∷ lines) reply walk turn = by_deed line.deed
  where
    by_deed : (deed : LineDeed) → (asked_at (record line { deed = deed } ∷ lines) reply walk turn).txn ≡ turn.txn
    by_deed (Try tree range) = answered_txn tree range reply turn
    by_deed (Lock tree range) = locked_txn tree range reply walk turn
    by_deed End = refl
    by_deed Abort = refl
    by_deed (Escalate tree) = refl
    by_deed Big = refl

ended_txn : (lines : List Line) (turn : Turn) → (ended_at lines turn).txn ≡ turn.txn
ended_txn [] turn = refl
ended_txn (line ∷ lines) turn = by_deed line.deed
  where
    by_deed : (deed : LineDeed) → (ended_at (record line { deed = deed } ∷ lines) turn).txn ≡ turn.txn
    by_deed (Try tree range) = refl
    by_deed (Lock tree range) = refl
    by_deed End = refl
    by_deed Abort = refl
    by_deed (Escalate tree) = refl
    by_deed Big = refl

pub after_txn : (turn : Turn) (move : Move) → (turn_after turn move).txn ≡ turn.txn
after_txn turn (leaves joins) = refl
after_txn turn (asks joins ask) = asked_txn turn.lines (reply_in ask.event.deed) None turn
after_txn turn (waits joins ask wishes search) = asked_txn turn.lines (reply_in ask.event.deed) _ turn
after_txn turn (stops joins place rows) = refl
after_txn turn (escalates join) = refl
after_txn turn grows = refl
after_txn turn ends = ended_txn turn.lines turn
after_txn turn (frees free) = refl

-- One that is ready goes on, and one that waits.

pub ready_goes : (turn : Turn) → is_ready turn ≡ true → is_some turn.outcome ≡ false
ready_goes turn ready = by_outcome turn.outcome ready
  where
    by_outcome : (outcome : Option Outcome) → (is_none outcome && not turn.waits) ≡ true → is_some outcome ≡ false
    by_outcome None e = refl
    by_outcome (Some outcome) e = cc

pub waits_goes : (setting : Setting) (turn : Turn) → IsSteady setting turn → turn.waits ≡ true → is_some turn.outcome ≡ false
waits_goes setting turn steady held = by_outcome (is_some turn.outcome) refl
  where
    by_outcome : (b : Bool) → is_some turn.outcome ≡ b → b ≡ false
    by_outcome true e = never turn.waits (steady.still e) held
    by_outcome false e = refl
