-- What the plain scheduler writes is the text of a run.
use Rattle.std.proofs.Common.{ℕ, List, false, map, length, sym, ap, arith}
use Rattle.std.specs.List.{AllByRecursion}
use Rattle.lt_seq.specs.Table.{Setting, used}
use Rattle.lt_seq.specs.History.{after}
use Rattle.lt_seq.specs.Questions.{all_receipts}
use Rattle.lt_seq.proofs.LocksLaws.{keeps_locks}
use Rattle.lt_trace.specs.declared.line.Line.{Line}
use Rattle.lt_trace.specs.Trace.{TraceView}
use Rattle.lt_trace.specs.Grammar.{IsTrace, txns_of}
use Rattle.lt_history.specs.declared.outcome.Ended.{Ended}
use Rattle.lt_history.specs.Text.{text}
use Rattle.lt_runner.specs.Due.{AllAreDue}
use Rattle.lt_runner.specs.Plays.{end_of}
use Rattle.lt_runner.specs.Serial.{Game, setting_of, game_of, serial, ran_text}
use Rattle.lt_runner.specs.Run.{IsRunText}
use Rattle.lt_runner.specs.Steps.{IsFit, KeepsSteps}
use Rattle.lt_runner.proofs.OrderLaws.{ascending_sorted}
use Rattle.lt_runner.proofs.StepLaws.{holds_played}
use Rattle.lt_runner.proofs.WholeLaws.{Runs, runs_keeps, runs_out, opening_runs}
use Rattle.lt_runner.proofs.FitLaws.{fit_of_trace}
use Rattle.lt_runner.proofs.EndLaws.{PlaysOut, plays_out}
use Rattle.lt_runner.proofs.DueGameLaws.{due_plays, due_gives, due_takes, due_opening}
use Rattle.lt_runner.proofs.StuckLaws.{IsBetween, KeepsDue, never_stuck, opening_between}

-- All transactions are half played in a run, and what is held is to be given back.
record RunsDue (setting : Setting) (txns : List ℕ) (lines left : List Line) (game : Game) : Type 0 where
  runs : Runs setting txns lines left game
  due : AllAreDue setting game

runs_due_keeps : (setting : Setting) (txns : List ℕ) (lines : List Line) → KeepsSteps setting txns (Runs setting txns lines) →
    KeepsSteps setting txns (RunsDue setting txns lines)
runs_due_keeps setting txns lines keeps = record {
  moves = λ left. record {
    plays = λ game turn line rest at is.
        let runs = (keeps.moves left).plays game turn line rest at is.runs in
        record { runs = runs; due = due_plays setting txns game turn line rest at runs.legal is.due };
    gives = λ game turn r rs at is. record { runs = (keeps.moves left).gives game turn r rs at is.runs; due = due_gives setting txns game turn r rs at is.runs.legal is.due };
    marks = λ game released is. record { runs = (keeps.moves left).marks game released is.runs; due = is.due };
  };
  adds = λ game turn line left at is. record { runs = keeps.adds game turn line left at is.runs; due = due_takes setting txns game turn line at.of_game is.due };
  passes = λ game turn line left at is. record { runs = keeps.passes game turn line left at is.runs; due = is.due };
  ends = λ game turn at is. record { runs = keeps.ends game turn at is.runs; due = due_takes setting txns game turn (end_of turn.txn) at.of_game is.due };
}

keeps_due : (setting : Setting) (txns : List ℕ) (lines : List Line) → KeepsSteps setting txns (Runs setting txns lines) →
    KeepsDue setting txns (RunsDue setting txns lines)
keeps_due setting txns lines keeps = record {
  keeps = runs_due_keeps setting txns lines keeps;
  legal = λ left game is. is.runs.legal;
  due = λ left game is. is.due;
}

-- All transactions are played to their ends.
pub played_out : (trace : TraceView) (first : ℕ) → AllByRecursion (IsFit (setting_of trace 1 first) (txns_of trace.lines)) trace.lines →
    PlaysOut (setting_of trace 1 first) (txns_of trace.lines) (game_of trace first)
played_out trace first fit =
    let setting = setting_of trace 1 first in
    let lines = trace.lines in
    let txns = txns_of lines in
    let sorted = ascending_sorted (map (λ (line : Line). line.txn) lines) in
    let keeps = runs_keeps setting txns lines (omega arith) in
    let start = opening_runs setting txns lines in
    plays_out setting txns (IsBetween setting txns (RunsDue setting txns lines)) lines
    (never_stuck setting txns (RunsDue setting txns lines) (keeps_due setting txns lines keeps)) sorted fit
    (opening_between setting txns (RunsDue setting txns lines) lines sorted (record { runs = start; due = due_opening setting txns }))

-- Of lines of any form that fit.
pub text_of_run : (trace : TraceView) (first : ℕ) → (let setting = setting_of trace 1 first in let txns = txns_of trace.lines in
    AllByRecursion (IsFit setting txns) trace.lines → IsRunText false setting trace.lines (ran_text (serial trace first)))
text_of_run trace first fit =
    let setting = setting_of trace 1 first in
    let lines = trace.lines in
    let txns = txns_of lines in
    let game = game_of trace first in
    let sorted = ascending_sorted (map (λ (line : Line). line.txn) lines) in
    let keeps = runs_keeps setting txns lines (omega arith) in
    let start = opening_runs setting txns lines in
    let runs = holds_played setting txns (Runs setting txns lines) lines keeps sorted fit start in
    let out = played_out trace first fit in
    let run = runs_out setting lines game out.numbers_are out.over runs.holds.is in (
      game.events,
      run.0,
      run.1,
      keeps_locks setting game.events runs.holds.is.legal,
      ap (λ (outcomes : List Ended). text (all_receipts first game.events) outcomes (length game.events) (used (after setting game.events))) (sym run.2),
    )

-- of a trace
pub serial_text : (trace : TraceView) (first : ℕ) → IsTrace trace →
    IsRunText false (setting_of trace 1 first) trace.lines (ran_text (serial trace first))
serial_text trace first is_trace = text_of_run trace first (fit_of_trace trace first is_trace)
