-- A crew whose transactions have all ended: what its passes and its transactions tell is a run of the trace.
use Rattle.std.proofs.Common.{◌≡◌, ℕ, ◌+◌, ◌*◌, ◌≤◌, List, [], ◌∷◌, Bool, true, false, ◌==◌, if◌then◌else◌, map, length, refl, sym, ap}
use Rattle.std.proofs.Common.{subst, ◌∙◌, arith, inr}
use Rattle.std.specs.Global.{Vec}
use Rattle.std.specs.List.{AllByRecursion, filter_map, flat_map}
use Rattle.std.specs.List.Sorted.{IsPermutation, IsNonDecreasingBy}
use Rattle.std.proofs.lemmas.Bool.{false≢true}
use Rattle.std.proofs.lemmas.List.Folds.{flat_map-map}
use Rattle.lt_ranges.specs.declared.key.Key.{Key}
use Rattle.lt_seq.specs.declared.event.Event.{Event}
use Rattle.lt_seq.specs.declared.event.Pair.{Pair}
use Rattle.lt_seq.specs.declared.event.Receipt.{Receipt}
use Rattle.lt_seq.specs.declared.yard.Closed.{Closed}
use Rattle.lt_seq.specs.Table.{Setting, tree_at}
use Rattle.lt_seq.specs.History.{after, IsLegal}
use Rattle.lt_seq.specs.Passes.{IsRest}
use Rattle.lt_seq.specs.Questions.{all_receipts, events_of}
use Rattle.lt_seq.specs.Yard.{PassView}
use Rattle.lt_seq.proofs.LocksLaws.{keeps_locks}
use Rattle.lt_trace.specs.declared.line.Line.{Line}
use Rattle.lt_trace.specs.Grammar.{txns_of, IsTrace}
use Rattle.lt_trace.specs.Trace.{TraceView}
use Rattle.lt_history.specs.declared.outcome.Ended.{Ended}
use Rattle.lt_history.proofs.MergeLaws.{merged_is_history}
use Rattle.lt_runner.specs.declared.transcript.Transcript.{Transcript}
use Rattle.lt_runner.specs.TurnView.{Seat}
use Rattle.lt_runner.specs.Board.{turns_of}
use Rattle.lt_runner.specs.CrewCost.{seats_of, sum_of, pass_cost}
use Rattle.lt_runner.specs.Notes.{notes_in}
use Rattle.lt_runner.specs.Played.{IsOver, AllStand}
use Rattle.lt_runner.specs.Run.{Play, IsRun, ended_as}
use Rattle.lt_runner.specs.Settles.{OwnersWait}
use Rattle.lt_runner.specs.Steps.{IsInOrder}
use Rattle.lt_runner.specs.Serial.{game_at, setting_of, turn_of, is_waiting, ended_in, most_events}
use Rattle.lt_runner.specs.Standing.{IsStanding, AllWaitOrAreOver, AreFitDeeds}
use Rattle.lt_runner.specs.Work.{work, steps}
use Rattle.lt_runner.proofs.CrewCostLaws.{crews_make_few}
use Rattle.lt_runner.proofs.OrderLaws.{ascending_sorted}
use Rattle.lt_runner.proofs.TraceRoomLaws.{numbered_txns}
use Rattle.lt_runner.proofs.WaitingOwnLaws.{waiting_own_all}
use Rattle.lt_runner.proofs.WholeRunLaws.{ended_turns}
use Rattle.lt_crew.specs.Caller.{IsCrew}
use Rattle.lt_crew.specs.RunCrew.{setting_with, LeadsTo, IsCrewRun, TellsCrewRun, bound_on, notes_told}
use Rattle.lt_crew.proofs.ComesLaws.{crew_stands}
use Rattle.lt_crew.proofs.CrewRunLaws.{rounds_stand, rounds_are_a_run}
use Rattle.lt_crew.proofs.OpeningCrewLaws.{fit_deeds, opening_crew, seats_count}

-- No pair is left.

all_rest : (seats : List Seat) → AllByRecursion IsOver seats → AllWaitOrAreOver seats
all_rest [] over = tt
all_rest (s ∷ ss) over = (inr over.0, all_rest ss over.1)

none_waits : (setting : Setting) (owner : ℕ) (seats : List Seat) → AllByRecursion (λ s. IsStanding setting s.turn) seats →
    AllByRecursion IsOver seats → is_waiting (turn_of setting owner (turns_of seats)) ≡ false
none_waits setting owner [] stand over = refl
none_waits setting owner (s ∷ ss) stand over = by_test (s.turn.txn == owner) (none_waits setting owner ss stand.1 over.1)
  where
    by_test : (b : Bool) → is_waiting (turn_of setting owner (turns_of ss)) ≡ false →
        is_waiting (if b then s.turn else turn_of setting owner (turns_of ss)) ≡ false
    by_test true rest = stand.0.steady.still over.0.0
    by_test false rest = rest

none_held : (Waits : ℕ → Bool) (pairs : List Pair) → ((owner : ℕ) → Waits owner ≡ false) → AllByRecursion (λ p. Waits p.owner ≡ true) pairs → pairs ≡ []
none_held Waits [] none all = refl
none_held Waits (p ∷ ps) none all = absurd (false≢true (sym (none p.owner) ∙ all.0))

-- The run.

-- what all transactions came to
pub record IsEndedCrew (trace : TraceView) (passes first : ℕ) (marks : List Key) (history : List Event) (seats : List Seat) : Type 0 where
  pub plays : List Play
  pub run : IsCrewRun (setting_with trace passes first marks) trace.lines history plays
  pub outcomes : map ended_as plays ≡ filter_map ended_in (turns_of seats)

pub ended_crew : (trace : TraceView) (passes first : ℕ) (marks : List Key) (history : List Event) (seats : List Seat) → IsTrace trace →
    LeadsTo (setting_with trace passes first marks) [] history (seats_of trace) seats → AllByRecursion IsOver seats →
    IsEndedCrew trace passes first marks history seats
ended_crew trace passes first marks history seats is_trace leads over =
    record { plays = out.0; run = record { run = out.1; locks = keeps_locks setting history stand.legal; nothing = nothing }; outcomes = out.2 }
  where
    setting : Setting
    setting = setting_with trace passes first marks

    deeds : AreFitDeeds setting trace.lines
    deeds = fit_deeds trace passes first marks is_trace

    crew : IsCrew setting trace.lines history leads.0 seats
    crew = leads.1 trace.lines deeds (opening_crew setting trace.lines deeds (numbered_txns trace is_trace))

    stand : AllStand true setting crew.searches trace.lines history seats
    stand = rounds_stand setting trace.lines crew.searches history seats crew.rounds

    out : (plays : List Play) × IsRun true setting trace.lines history plays × (map ended_as plays ≡ filter_map ended_in (turns_of seats))
    out = rounds_are_a_run setting trace.lines crew.searches history seats crew.rounds over

    owned : IsInOrder setting (map (λ t. t.txn) (turns_of seats)) (game_at history (turns_of seats) false)
        × OwnersWait setting (game_at history (turns_of seats) false)
    owned = waiting_own_all setting crew.searches trace.lines history seats deeds (ascending_sorted (map (λ (line : Line). line.txn) trace.lines))
        stand (all_rest seats over)

    nothing : (tree : ℕ) → (tree_at (after setting history) tree).pairs ≡ []
    nothing tree = none_held (λ owner. is_waiting (turn_of setting owner (turns_of seats))) (tree_at (after setting history) tree).pairs
        (λ owner. none_waits setting owner seats (crew_stands setting trace.lines history leads.0 seats deeds crew) over) (owned.1 tree)

-- The transcript.

events_again : (place : ℕ) (events : List Event) → events_of (all_receipts place events) ≡ events
events_again place [] = refl
events_again place (e ∷ es) = ap (λ (all : List Event). e ∷ all) (events_again (place + 1) es)

numbers_again : (plays : List Play) → map (λ (ended : Ended). ended.txn) (map ended_as plays) ≡ map (λ (play : Play). play.txn) plays
numbers_again [] = refl
numbers_again (p ∷ ps) = ap (λ (ns : List ℕ). p.txn ∷ ns) (numbers_again ps)

-- the receipts of all passes are those of the history
pub merged_receipts : (setting : Setting) (history : List Event) (passes : List PassView) (closed : Closed) (merged : List Receipt) →
    IsLegal setting history → IsRest setting history passes closed →
    IsPermutation (flat_map (λ (list : Vec Receipt). list.items) closed.lists.items) merged → IsNonDecreasingBy (λ r. r.place) merged →
    merged ≡ all_receipts setting.plan.first history
merged_receipts setting history passes closed merged legal rest all order =
    merged_is_history setting history merged legal
    (subst (λ (rs : List Receipt). IsPermutation rs merged)
    (sym (ap (flat_map (λ (list : List Receipt). list)) (sym rest.lists)
    ∙ flat_map-map (λ (list : List Receipt). list) (λ (list : Vec Receipt). list.items) closed.lists.items)) all) order

-- what is told of a crew's run
pub record IsToldCrew (trace : TraceView) (passes first : ℕ) (marks : List Key) (history : List Event) (transcript : Transcript) : Type 0 where
  pub run : TellsCrewRun (setting_with trace passes first marks) trace.lines transcript
  pub numbers : map (λ (ended : Ended). ended.txn) transcript.outcomes.items ≡ txns_of trace.lines
  pub few : transcript.places ≤ most_events trace
  pub notes : notes_told (setting_with trace passes first marks) transcript ≡ notes_in (setting_with trace passes first marks) history

told_here : (trace : TraceView) (passes first : ℕ) (marks : List Key) (history : List Event) (seats : List Seat) (views : List PassView) (closed : Closed)
    (receipts : Vec Receipt) (outcomes : Vec Ended) → IsTrace trace → IsLegal (setting_with trace passes first marks) history →
    LeadsTo (setting_with trace passes first marks) [] history (seats_of trace) seats → AllByRecursion IsOver seats →
    length history ≤ bound_on (setting_with trace passes first marks) [] (seats_of trace) → IsRest (setting_with trace passes first marks) history views closed →
    IsPermutation (flat_map (λ (list : Vec Receipt). list.items) closed.lists.items) receipts.items →
    IsNonDecreasingBy (λ r. r.place) receipts.items → outcomes.items ≡ filter_map (λ seat. ended_in seat.turn) seats →
    IsToldCrew trace passes first marks history (record { receipts = receipts; outcomes = outcomes; places = closed.places; used = closed.used })
told_here trace passes first marks history seats views closed receipts outcomes is_trace legal leads over few rest all order ends =
    let setting = setting_with trace passes first marks in
    let ended = ended_crew trace passes first marks history seats is_trace leads over in
    let told = merged_receipts setting history views closed receipts.items legal rest all order in
    let outs : outcomes.items ≡ map ended_as ended.plays = ends ∙ ended_turns seats ∙ sym ended.outcomes in
    record {
      run = (history, ended.plays, ended.run, record { receipts = told; outcomes = outs; places = rest.places; used = rest.used });
      numbers = ap (map (λ (e : Ended). e.txn)) outs ∙ numbers_again ended.plays ∙ ended.run.run.all.txns;
      few = bound_is (length history) (sum_of (work setting) (seats_of trace)) (sum_of steps (seats_of trace))
          (pass_cost trace.trees (length (seats_of trace))) (pass_cost trace.trees (length (txns_of trace.lines))) (most_events trace)
          closed.places rest.places few (ap (pass_cost trace.trees) (seats_count trace.trees trace.lines (txns_of trace.lines)))
          (crews_make_few trace passes first);
      notes = ap (notes_in setting) (ap events_of told ∙ events_again first history);
    }
  where
    bound_is : (made works stepped one_cost cost most places : ℕ) → places ≡ made → made ≤ 0 + works + stepped * one_cost → one_cost ≡ cost →
        works + stepped * cost ≤ most → places ≤ most
    bound_is made works stepped one_cost cost most places is few same low = omega (arith, is, few, ap (λ (k : ℕ). stepped * k) same, low)

pub told_crew : (trace : TraceView) (passes first : ℕ) (marks : List Key) (setting : Setting) (seats_then : List Seat) (history : List Event) (seats : List Seat)
    (views : List PassView) (closed : Closed) (receipts : Vec Receipt) (outcomes : Vec Ended) →
    setting ≡ setting_with trace passes first marks → seats_then ≡ seats_of trace → IsTrace trace → IsLegal setting history →
    LeadsTo setting [] history seats_then seats → AllByRecursion IsOver seats →
    length history ≤ bound_on setting [] seats_then → IsRest setting history views closed →
    IsPermutation (flat_map (λ (list : Vec Receipt). list.items) closed.lists.items) receipts.items →
    IsNonDecreasingBy (λ r. r.place) receipts.items → outcomes.items ≡ filter_map (λ seat. ended_in seat.turn) seats →
    IsToldCrew trace passes first marks history (record { receipts = receipts; outcomes = outcomes; places = closed.places; used = closed.used })
told_crew trace passes first marks setting seats_then history seats views closed receipts outcomes same is is_trace legal leads over few rest all order ends =
    told_here trace passes first marks history seats views closed receipts outcomes is_trace
    (subst (λ (s : Setting). IsLegal s history) same legal)
    (subst (λ (s : Setting). LeadsTo s [] history (seats_of trace) seats) same
    (subst (λ (ss : List Seat). LeadsTo setting [] history ss seats) is leads)) over
    (subst (λ (s : Setting). length history ≤ bound_on s [] (seats_of trace)) same
    (subst (λ (ss : List Seat). length history ≤ bound_on setting [] ss) is few))
    (subst (λ (s : Setting). IsRest s history views closed) same rest) all order ends
