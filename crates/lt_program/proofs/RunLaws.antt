-- Runs by crews and by threads that wait, and the texts of runs.
use Rattle.std.proofs.Common.{◌≡◌, ◌∙◌, ◌+◌, ◌∷◌, ℕ, List, [], Result, Ok, Err, IfOk, ap, refl, sym, subst}
use Rattle.lt_ranges.specs.declared.key.Key.{Key}
use Rattle.lt_seq.specs.declared.event.Event.{Event}
use Rattle.lt_seq.specs.Table.{Setting}
use Rattle.lt_seq.specs.Questions.{all_receipts, events_of}
use Rattle.lt_trace.specs.declared.line.Line.{Line}
use Rattle.lt_trace.specs.Trace.{TraceView}
use Rattle.lt_trace.specs.Grammar.{IsTrace}
use Rattle.lt_history.specs.Text.{text}
use Rattle.lt_watch.specs.Tellings.{Log}
use Rattle.lt_runner.specs.declared.transcript.Transcript.{Transcript}
use Rattle.lt_runner.specs.Serial.{Ran, ran_text, setting_of}
use Rattle.lt_runner.specs.Notes.{notes_in}
use Rattle.lt_runner.specs.Transcript.{Tells}
use Rattle.lt_runner.proofs.HeadlineLaws.{serial_text}
use Rattle.lt_crew.specs.RunCrew.{TellsCrewRun, ran_by, notes_told, setting_with}
use Rattle.lt_live.specs.RunLive.{TellsLiveRun, ran_by as ran_by_threads, notes_told as notes_told_by}
use Rattle.lt_program.specs.Runs.{IsTextOfRun, IsRunByCrew, HasTold, HasPlayed, transcript_text}
use Rattle.lt_program.specs.Playings.{Playing, serial, crew, live, cut, playing_of}
use Rattle.lt_program.specs.declared.player.Player.{Player}
use Rattle.lt_program.specs.declared.player.Player.TheVariants as players

-- the transcript of a run has its text
told_text : (ran : Ran) (transcript : Transcript) → Tells ran transcript → transcript_text transcript ≡ ran_text ran
told_text ran transcript tells = λ i. text (tells.receipts i) (tells.outcomes i) (tells.places i) (tells.used i)

events_again : (place : ℕ) (events : List Event) → events_of (all_receipts place events) ≡ events
events_again place [] = refl
events_again place (e ∷ es) = ap (λ (all : List Event). e ∷ all) (events_again (place + 1) es)

-- The run of a crew, on the table that is played on so, is told by the transcript.
crew_run : (setting : Setting) (lines : List Line) (transcript : Transcript) → setting.plan.first ≡ 0 → TellsCrewRun setting lines transcript
    → IsRunByCrew setting lines (transcript_text transcript) (notes_told setting transcript)
crew_run setting lines transcript first (history, plays, run, tells) = record {
  history = history;
  plays = plays;
  run = run;
  text_is = told_text (ran_by setting history plays) transcript tells;
  notes_are = ap (notes_in setting) (ap events_of tells.receipts ∙ events_again setting.plan.first history);
}

-- what a crew's run answers is a run by that player
pub crew_answers : {E : Type 0} (player : Player) (marks : List Key) (workers : ℕ) (trace : TraceView) (result : Result Transcript E)
    (before after : List Log) → player ≡ players.Crew workers
    → IfOk result (TellsCrewRun (setting_of trace (workers + 1) 0) trace.lines)
    → IfOk result (λ transcript. HasTold (notes_told (setting_of trace (workers + 1) 0) transcript) before after)
    → IfOk result (λ transcript. HasPlayed (playing_of player marks) trace (transcript_text transcript) before after)
crew_answers player marks workers trace (Ok transcript) before after same tells told =
    let setting = setting_of trace (workers + 1) 0 in
    subst (λ (p : Player). HasPlayed (playing_of p marks) trace (transcript_text transcript) before after) (sym same)
    (record { notes = notes_told setting transcript; run = crew_run setting trace.lines transcript refl tells; told = told })
crew_answers player marks workers trace (Err e) before after same tells told = tt

-- and so is what one answers over a table with marks
pub cut_answers : {E : Type 0} (player : Player) (marks : List Key) (workers : ℕ) (trace : TraceView) (result : Result Transcript E)
    (before after : List Log) → player ≡ players.Cut workers
    → IfOk result (TellsCrewRun (setting_with trace (workers + 1) 0 marks) trace.lines)
    → IfOk result (λ transcript. HasTold (notes_told (setting_with trace (workers + 1) 0 marks) transcript) before after)
    → IfOk result (λ transcript. HasPlayed (playing_of player marks) trace (transcript_text transcript) before after)
cut_answers player marks workers trace (Ok transcript) before after same tells told =
    let setting = setting_with trace (workers + 1) 0 marks in
    subst (λ (p : Player). HasPlayed (playing_of p marks) trace (transcript_text transcript) before after) (sym same)
    (record { notes = notes_told setting transcript; run = crew_run setting trace.lines transcript refl tells; told = told })
cut_answers player marks workers trace (Err e) before after same tells told = tt

live_played : (threads : ℕ) (trace : TraceView) (transcript : Transcript) (before after : List Log)
    → TellsLiveRun trace threads 0 transcript → HasTold (notes_told_by trace threads 0 transcript) before after
    → HasPlayed (live threads) trace (transcript_text transcript) before after
live_played threads trace transcript before after (history, plays, run, tells) told = record {
  notes = notes_told_by trace threads 0 transcript;
  run = record {
    history = history;
    plays = plays;
    run = run;
    text_is = told_text (ran_by_threads trace threads 0 history plays) transcript tells;
    notes_are = ap (notes_in (setting_of trace threads 0)) (ap events_of tells.receipts ∙ events_again 0 history);
  };
  told = told;
}

-- and what threads that wait answer
pub live_answers : {E : Type 0} (player : Player) (marks : List Key) (threads : ℕ) (trace : TraceView) (result : Result Transcript E)
    (before after : List Log) → player ≡ players.Live threads → IfOk result (TellsLiveRun trace threads 0)
    → IfOk result (λ transcript. HasTold (notes_told_by trace threads 0 transcript) before after)
    → IfOk result (λ transcript. HasPlayed (playing_of player marks) trace (transcript_text transcript) before after)
live_answers player marks threads trace (Ok transcript) before after same tells told =
    subst (λ (p : Player). HasPlayed (playing_of p marks) trace (transcript_text transcript) before after) (sym same)
    (live_played threads trace transcript before after tells told)
live_answers player marks threads trace (Err e) before after same tells told = tt

-- The text of a run is that of a run.
pub text_of_run : (playing : Playing) (trace : TraceView) (written : List ℕ) (before after : List Log) → IsTrace trace
    → HasPlayed playing trace written before after → IsTextOfRun playing trace written
text_of_run serial trace written before after good played =
    subst (IsTextOfRun serial trace) (sym played.run.text_is) (serial_text trace 0 good)
text_of_run (crew workers) trace written before after good played =
    let run = played.run in (run.history, run.plays, run.run.run, run.run.locks, run.text_is)
text_of_run (live threads) trace written before after good played =
    let run = played.run in (run.history, run.plays, run.run.all, run.run.locks, run.text_is)
text_of_run (cut workers marks) trace written before after good played =
    let run = played.run in (run.history, run.plays, run.run.run, run.run.locks, run.text_is)
