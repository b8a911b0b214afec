-- Nothing is left of one that has ended, once its release is over.
use Rattle.std.proofs.Common.{◌≡◌, ◌≢◌, ℕ, ◌<◌, List, [], ◌∷◌, map, Bool, true, false, ◌==◌, if◌then◌else◌, is_some, refl, sym, ap, subst, ◌∙◌, arith}
use Rattle.std.specs.List.{AllByRecursion}
use Rattle.lt_ranges.specs.Interval.{Interval}
use Rattle.lt_ranges.specs.Numbers.{is_in}
use Rattle.lt_seq.specs.declared.event.Pair.{Pair}
use Rattle.lt_seq.specs.Table.{Setting, tree_at}
use Rattle.lt_seq.specs.History.{after, IsLegal}
use Rattle.lt_trace.specs.declared.line.Line.{Line}
use Rattle.lt_trace.specs.Trace.{TraceView}
use Rattle.lt_trace.specs.Grammar.{IsTrace, txns_of}
use Rattle.lt_runner.specs.declared.release.Release.{Release}
use Rattle.lt_runner.specs.TurnView.{Turn}
use Rattle.lt_runner.specs.Turn.{nothing_recorded}
use Rattle.lt_runner.specs.Plays.{end_of}
use Rattle.lt_runner.specs.Serial.{Game, turn_of, settles, setting_of, game_of, opening_game, played}
use Rattle.lt_runner.specs.Steps.{IsInOrder, KeepsMoves, KeepsSteps}
use Rattle.lt_runner.specs.Due.{ranges_in, due_in, OverlapsOne, AreDue, due_at, AllAreDue}
use Rattle.lt_runner.specs.Nothing.{HoldsNothing, ReleasesLeaveNothing, RunsLeaveNothing}
use Rattle.lt_runner.proofs.ChoiceLaws.{on_true}
use Rattle.lt_runner.proofs.MoveLaws.{Holds, AnyOne, keeps_of, holds_settles}
use Rattle.lt_runner.proofs.IdleLaws.{AreAtRest, keeps_ended, owes_settles}
use Rattle.lt_runner.specs.Played.{IsOver}
use Rattle.lt_runner.proofs.SteadyLaws.{at_turn, never}
use Rattle.lt_runner.proofs.StepLaws.{holds_played, steps_alone}
use Rattle.lt_runner.proofs.AttemptLaws.{seat_at}
use Rattle.lt_runner.proofs.StuckLaws.{IsToGive, giver_goes}
use Rattle.lt_runner.proofs.HeadlineLaws.{played_out}
use Rattle.lt_runner.proofs.OrderLaws.{ascending_sorted}
use Rattle.lt_runner.proofs.FitLaws.{fit_of_trace}
use Rattle.lt_runner.proofs.LegalLaws.{legal_keeps}
use Rattle.lt_runner.proofs.DueGameLaws.{due_plays, due_gives, due_takes, due_opening}

-- Legal events, and each pair to be given back.
record IsDueGame (setting : Setting) (game : Game) : Type 0 where
  legal : IsLegal setting game.events
  due : AllAreDue setting game

due_moves : (setting : Setting) (txns : List ℕ) → 0 < setting.plan.passes → KeepsMoves setting txns (IsDueGame setting)
due_moves setting txns pass =
    let legally = legal_keeps setting txns pass in
    record {
      plays = λ game turn line lines at is.
          let legal = legally.plays game turn line lines at is.legal in
          record { legal = legal; due = due_plays setting txns game turn line lines at legal is.due };
      gives = λ game turn r rs at is. record { legal = legally.gives game turn r rs at is.legal; due = due_gives setting txns game turn r rs at is.legal is.due };
      marks = λ game released is. record { legal = is.legal; due = is.due };
    }

-- one that owes no free owes nothing
none_due : (turn : Turn) (tree : ℕ) → is_some turn.outcome ≡ true → turn.releases ≡ [] → due_in tree turn ≡ []
none_due turn tree ended none = on_true (is_some turn.outcome) (ranges_in tree turn.releases) _ ended ∙ ap (ranges_in tree) none

none_owned : (setting : Setting) (game : Game) (txn tree : ℕ) (pairs : List Pair) → due_at setting game tree txn ≡ [] → AreDue (due_at setting game tree) pairs →
    AllByRecursion (λ p. p.owner ≢ txn) pairs
none_owned setting game txn tree [] none due = tt
none_owned setting game txn tree (p ∷ ps) none due = (
  λ same. subst (OverlapsOne p.range) (ap (due_at setting game tree) same ∙ none) due.0,
  none_owned setting game txn tree ps none due.1,
)

pub holds_nothing : (setting : Setting) (game : Game) (txn : ℕ) → AllAreDue setting game → is_some (turn_of setting txn game.turns).outcome ≡ true →
    (turn_of setting txn game.turns).releases ≡ [] → HoldsNothing setting txn game
holds_nothing setting game txn due ended none tree =
    none_owned setting game txn tree (tree_at (after setting game.events) tree).pairs (none_due (turn_of setting txn game.turns) tree ended none) (due tree)

pub releases_leave_nothing : (setting : Setting) (txns : List ℕ) (game : Game) (txn : ℕ) → 0 < setting.plan.passes → IsInOrder setting txns game → IsLegal setting game.events → AllAreDue setting game →
    is_in txn txns ≡ true → is_some (turn_of setting txn game.turns).outcome ≡ true → HoldsNothing setting txn (settles setting (turn_of setting txn game.turns) game)
releases_leave_nothing setting txns game txn pass order legal due number ended =
    let last = settles setting (turn_of setting txn game.turns) game in
    let holds = holds_settles setting txns AnyOne (IsDueGame setting) txn game (keeps_of setting txns (IsDueGame setting) (due_moves setting txns pass)) tt number
    (record { order = order; is = record { legal = legal; due = due } }) in
    let over = (holds_settles setting txns AnyOne (λ g. is_some (turn_of setting txn g.turns).outcome ≡ true) txn game (keeps_ended setting txns txn) tt number
    (record { order = order; is = ended })).is in
    holds_nothing setting last txn holds.is.due over (owes_settles setting txns txn game number order over)

-- The run.

due_steps : (setting : Setting) (txns : List ℕ) → 0 < setting.plan.passes → KeepsSteps setting txns (λ left. IsDueGame setting)
due_steps setting txns pass =
    steps_alone setting txns (IsDueGame setting) (due_moves setting txns pass)
    (λ game turn line at is. record { legal = is.legal; due = due_takes setting txns game turn line at.of_game is.due })

-- where nobody is to give back anything, nothing is held
none_held : (Due : ℕ → List Interval) (pairs : List Pair) → ((owner : ℕ) → IsToGive owner (Due owner) → ⊥) → AreDue Due pairs → pairs ≡ []
none_held Due [] none due = refl
none_held Due (p ∷ ps) none due = absurd (none p.owner (record { range = p.range; some = due.0 }))

outcomes_over : (turns : List Turn) → AllByRecursion (λ t. IsOver (seat_at t)) turns → AllByRecursion (λ t. is_some t.outcome ≡ true) turns
outcomes_over [] over = tt
outcomes_over (t ∷ ts) over = (over.0.0, outcomes_over ts over.1)

pub runs_leave_nothing : (trace : TraceView) (first : ℕ) → IsTrace trace → (tree : ℕ) → (tree_at (after (setting_of trace 1 first) (game_of trace first).events) tree).pairs ≡ []
runs_leave_nothing trace first is_trace tree =
    let setting = setting_of trace 1 first in
    let lines = trace.lines in
    let txns = txns_of lines in
    let game = game_of trace first in
    let fit = fit_of_trace trace first is_trace in
    let sorted = ascending_sorted (map (λ (line : Line). line.txn) lines) in
    let between = holds_played setting txns (λ left. IsDueGame setting) lines (due_steps setting txns (omega arith)) sorted fit
    (record { legal = tt; due = due_opening setting txns }) in
    let out = played_out trace first fit in
    none_held (due_at setting game tree) (tree_at (after setting game.events) tree).pairs
    (λ owner gives.
    let goes = giver_goes setting txns game tree owner between.at_rest gives in
    let inside = ap (is_in owner) out.numbers_are ∙ goes.0 in
    never (is_some (turn_of setting owner game.turns).outcome) goes.1 (at_turn (λ t. is_some t.outcome ≡ true) setting owner game.turns inside (outcomes_over game.turns out.over)))
    (between.holds.is.due tree)
