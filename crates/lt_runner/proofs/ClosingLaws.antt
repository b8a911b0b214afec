-- What is left at the end of a run.
use Rattle.std.specs.Global.{Vec}
use Rattle.std.proofs.Common.{◌≡◌, ℕ, ◌+◌, List, [], ◌∷◌, ◌++◌, Bool, true, ◌==◌, Option, Some, None, is_some, option_map, slice_set, get_or, map, length, ◌≤◌, refl, sym, ap, subst, ◌∙◌, arith}
use Rattle.std.specs.List.{AllByRecursion, filter_map, cons_option}
use Rattle.std.proofs.lemmas.Bool.Decides.{nat_tests}
use Rattle.std.proofs.lemmas.List.{length-append, length-map}
use Rattle.lt_seq.specs.declared.event.Event.{Event}
use Rattle.lt_seq.specs.declared.event.Receipt.{Receipt}
use Rattle.lt_seq.specs.Table.{Setting, TreeState, opening, step, used}
use Rattle.lt_trace.specs.Trace.{TraceView}
use Rattle.lt_trace.specs.declared.line.Line.{Line}
use Rattle.lt_trace.specs.Grammar.{txns_of, IsTrace}
use Rattle.lt_seq.specs.History.{IsLegalFrom, IsLegal, calls_from, after}
use Rattle.lt_seq.specs.declared.yard.Closed.{Closed}
use Rattle.lt_seq.specs.Passes.{IsRest, numbers_from, opening_passes, front_of_first}
use Rattle.lt_seq.specs.Yard.{PassView}
use Rattle.lt_seq.specs.Questions.{all_receipts}
use Rattle.lt_history.specs.declared.outcome.Outcome.{Outcome}
use Rattle.lt_history.specs.declared.outcome.Ended.{Ended}
use Rattle.lt_runner.specs.TurnView.{Turn}
use Rattle.lt_runner.specs.Serial.{Game, game_at, ended_in, played, setting_of, game_of, serial, most_events}
use Rattle.lt_runner.specs.Notes.{notes_in, run_notes}
use Rattle.lt_runner.specs.Board.{BoardView, Shows, game_on}
use Rattle.lt_runner.proofs.FitLaws.{fit_of_trace}
use Rattle.lt_runner.proofs.FewLaws.{few_events}
use Rattle.lt_runner.proofs.HeadlineLaws.{played_out}
use Rattle.lt_runner.proofs.WholeRunLaws.{ended_turns}
use Rattle.lt_runner.specs.Transcript.{Tells}
use Rattle.lt_runner.specs.Played.{IsOver}
use Rattle.lt_runner.proofs.AttemptLaws.{seat_at}
use Rattle.lt_runner.proofs.ChoiceLaws.{on_true}

-- the only pass made each call
calls_all : (setting : Setting) (place : ℕ) (trees : List TreeState) (events : List Event) → setting.plan.passes ≡ 1 →
    IsLegalFrom setting trees events → calls_from place 0 events ≡ all_receipts place events
calls_all setting place trees [] one legal = refl
calls_all setting place trees (e ∷ es) one legal =
    let own : (e.pass == 0) ≡ true = let low = legal.0.pass in grind (arith, nat_tests) in
    on_true (e.pass == 0) _ _ own ∙ ap (λ rs. record { place = place; event = e } ∷ rs) (calls_all setting (place + 1) (step setting trees e) es one legal.1)

-- the last of a list of one
last_of_one : {X Y : Type 0} (f : X → Y) (front : List X) (x : X) (y : Y) → map f (front ++ x ∷ []) ≡ y ∷ [] → f x ≡ y
last_of_one f [] x y e = cc
last_of_one f (z ∷ zs) x y e = absurd (omega (arith, ap length e, length-map (zs ++ x ∷ []) f, length-append zs (x ∷ [])))

-- a turn that has ended has an outcome
pub numbers_ended : (turns : List Turn) → AllByRecursion (λ t. IsOver (seat_at t)) turns →
    map (λ (ended : Ended). ended.txn) (filter_map ended_in turns) ≡ map (λ t. t.txn) turns
numbers_ended [] all = refl
numbers_ended (t ∷ ts) all = by_outcome t.outcome all.0.0 (numbers_ended ts all.1)
  where
    by_outcome : (outcome : Option Outcome) → is_some outcome ≡ true →
        map (λ (ended : Ended). ended.txn) (filter_map ended_in ts) ≡ map (λ t. t.txn) ts →
        map (λ (ended : Ended). ended.txn) (cons_option (option_map (λ (o : Outcome). record { txn = t.txn; outcome = o }) outcome) (filter_map ended_in ts)) ≡ t.txn ∷ map (λ u. u.txn) ts
    by_outcome None e rest = cc
    by_outcome (Some outcome) e rest = ap (λ ns. t.txn ∷ ns) rest

-- What the closed table tells.

-- the only pass, once it has played
pub only_pass : {P : Type 0} (view : P → PassView) (passes : List P) (new mid : P) (count : ℕ) → map view passes ≡ opening_passes count →
    count ≡ 1 → mid ≡ get_or (slice_set passes 0 new) 0 mid → mid ≡ new
only_pass view [] new mid count is one at = let e : [] ≡ opening_passes 1 = is ∙ ap opening_passes one in cc
only_pass view (p ∷ ps) new mid count is one at = at

-- its history, once its notes were taken too
pub only_front : {P : Type 0} (view : P → PassView) (passes : List P) (new last : P) (count : ℕ) → map view passes ≡ opening_passes count →
    count ≡ 1 → view last ≡ record (view new) { notes = [] } → front_of_first (map view (slice_set (slice_set passes 0 new) 0 last)) ≡ (view new).front
only_front view [] new last count is one same = let e : [] ≡ opening_passes 1 = is ∙ ap opening_passes one in cc
only_front view (p ∷ ps) new last count is one same = ap (λ (v : PassView). v.front) same

-- its receipts are all
pub receipts_are : (setting : Setting) (events : List Event) (passes : List PassView) (closed : Closed) (front : List (Vec Receipt)) (receipts : Vec Receipt) →
    setting.plan.passes ≡ 1 → IsLegal setting events → IsRest setting events passes closed →
    closed.lists.items ≡ front ++ receipts ∷ [] → receipts.items ≡ all_receipts setting.plan.first events
receipts_are setting events passes closed front receipts one legal rest is =
    let lists : map (λ (v : Vec Receipt). v.items) (front ++ receipts ∷ []) ≡ calls_from setting.plan.first 0 events ∷ [] =
    ap (map (λ (v : Vec Receipt). v.items)) (sym is) ∙ rest.lists ∙ ap (λ n. map (λ pass. calls_from setting.plan.first pass events) (numbers_from 0 n)) one in
    last_of_one (λ (v : Vec Receipt). v.items) front receipts (calls_from setting.plan.first 0 events) lists
    ∙ calls_all setting setting.plan.first (opening setting) events one legal

-- so that the transcript tells what the scheduler does
tells_here : (trace : TraceView) (first : ℕ) (events : List Event) (turns : List Turn) (released : Bool) (passes : List PassView) (closed : Closed) (outcomes : Vec Ended) (front : List (Vec Receipt)) (receipts : Vec Receipt) →
    IsLegal (setting_of trace 1 first) events → game_at events turns released ≡ game_of trace first → IsRest (setting_of trace 1 first) events passes closed →
    closed.lists.items ≡ front ++ receipts ∷ [] → outcomes.items ≡ filter_map ended_in turns →
    Tells (serial trace first) (record { receipts = receipts; outcomes = outcomes; places = closed.places; used = closed.used })
tells_here trace first events turns released passes closed outcomes front receipts legal game rest lists ends =
    let setting = setting_of trace 1 first in
    let happened : events ≡ (game_of trace first).events = ap (λ (g : Game). g.events) game in
    record {
      receipts = receipts_are setting events passes closed front receipts refl legal rest lists ∙ ap (all_receipts first) happened;
      outcomes = ends ∙ ap (λ (g : Game). filter_map ended_in g.turns) game;
      places = rest.places ∙ ap length happened;
      used = rest.used ∙ ap (λ es. used (after setting es)) happened;
    }

pub tells : (trace : TraceView) (first : ℕ) (setting : Setting) (events : List Event) (turns : List Turn) (released : Bool) (passes : List PassView) (closed : Closed) (outcomes : Vec Ended) (front : List (Vec Receipt)) (receipts : Vec Receipt) →
    setting ≡ setting_of trace 1 first → IsLegal setting events → game_at events turns released ≡ played setting (txns_of trace.lines) trace.lines → IsRest setting events passes closed →
    closed.lists.items ≡ front ++ receipts ∷ [] → outcomes.items ≡ filter_map ended_in turns →
    Tells (serial trace first) (record { receipts = receipts; outcomes = outcomes; places = closed.places; used = closed.used })
tells trace first setting events turns released passes closed outcomes front receipts same legal game rest lists ends =
    let P = λ (s : Setting). IsLegal s events → game_at events turns released ≡ played s (txns_of trace.lines) trace.lines → IsRest s events passes closed →
    Tells (serial trace first) (record { receipts = receipts; outcomes = outcomes; places = closed.places; used = closed.used }) in
    subst P (sym same) (λ l g r. tells_here trace first events turns released passes closed outcomes front receipts l g r lists ends) legal game rest

-- What the last board tells.

pub record IsClosing (trace : TraceView) (first : ℕ) (events : List Event) (board : BoardView) : Type 0 where
  pub game_is : game_on events board ≡ game_of trace first

pub closing : (trace : TraceView) (first : ℕ) (setting : Setting) (txns : List ℕ) (lines : List Line) (events : List Event) (board : BoardView) →
    setting ≡ setting_of trace 1 first → lines ≡ trace.lines →
    Shows setting (txns_of lines) events board (played setting (txns_of lines) lines) → IsClosing trace first events board
closing trace first setting txns lines events board same all shows =
    record { game_is = shows.game_is ∙ ap (λ (s : Setting). played s (txns_of lines) lines) same ∙ ap (λ (ls : List Line). played (setting_of trace 1 first) (txns_of ls) ls) all }

-- each of them has ended
pub numbers_told : (trace : TraceView) (first : ℕ) (events : List Event) (board : BoardView) (outcomes : Vec Ended) → IsTrace trace →
    IsClosing trace first events board →
    outcomes.items ≡ filter_map (λ seat. ended_in seat.turn) board.seats → map (λ (ended : Ended). ended.txn) outcomes.items ≡ txns_of trace.lines
numbers_told trace first events board outcomes is_trace at ends =
    let out = played_out trace first (fit_of_trace trace first is_trace) in
    ap (map (λ (ended : Ended). ended.txn)) (ends ∙ ended_turns board.seats ∙ ap (λ (g : Game). filter_map ended_in g.turns) at.game_is)
    ∙ numbers_ended (game_of trace first).turns out.over ∙ out.numbers_are

-- and there are few events
pub few_told : (trace : TraceView) (first places : ℕ) (events : List Event) (board : BoardView) → IsTrace trace →
    IsClosing trace first events board → places ≡ length events → places ≤ most_events trace
few_told trace first places events board is_trace at same =
    let few = few_events trace first (fit_of_trace trace first is_trace) in
    omega (arith, few, same, ap (λ (g : Game). length g.events) at.game_is)

-- and its notes are those of the run
pub run_notes_are : (trace : TraceView) (first : ℕ) (setting : Setting) (pass : PassView) (board : BoardView) → setting ≡ setting_of trace 1 first →
    pass.notes ≡ notes_in setting pass.front → IsClosing trace first pass.front board → pass.notes ≡ run_notes trace first
run_notes_are trace first setting pass board same noted at =
    noted ∙ ap (λ (s : Setting). notes_in s pass.front) same ∙ ap (λ (g : Game). notes_in (setting_of trace 1 first) g.events) at.game_is
