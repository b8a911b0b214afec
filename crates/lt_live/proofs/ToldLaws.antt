-- What the passes and the transactions of all workers tell is a run of the trace.
use Rattle.std.proofs.Common.{◌≡◌, ℕ, ◌+◌, List, [], ◌∷◌, map, refl, ap, subst, ◌∙◌}
use Rattle.std.specs.Global.{Vec}
use Rattle.std.specs.List.{filter_map, flat_map}
use Rattle.std.specs.List.Sorted.{IsPermutation, IsNonDecreasingBy}
use Rattle.lt_seq.specs.declared.event.Event.{Event}
use Rattle.lt_seq.specs.declared.event.Receipt.{Receipt}
use Rattle.lt_seq.specs.declared.yard.Closed.{Closed}
use Rattle.lt_seq.specs.Table.{Setting}
use Rattle.lt_seq.specs.Passes.{IsRest}
use Rattle.lt_seq.specs.Questions.{all_receipts, events_of}
use Rattle.lt_seq.specs.Yard.{PassView}
use Rattle.lt_seq.proofs.LocksLaws.{keeps_locks}
use Rattle.lt_trace.specs.Grammar.{IsTrace}
use Rattle.lt_trace.specs.Trace.{TraceView}
use Rattle.lt_history.specs.declared.outcome.Ended.{Ended}
use Rattle.lt_runner.specs.TurnView.{Seat}
use Rattle.lt_runner.specs.Notes.{notes_in}
use Rattle.lt_runner.specs.Run.{Play, ended_as}
use Rattle.lt_runner.specs.Serial.{ended_in, setting_of}
use Rattle.lt_crew.proofs.EndedCrewLaws.{merged_receipts}
use Rattle.lt_live.specs.Live.{AllWorked}
use Rattle.lt_live.specs.RunLive.{IsToldLive, ToldLive}
use Rattle.lt_live.proofs.CloseLaws.{worked_is_live}
use Rattle.lt_live.proofs.NothingLaws.{live_leaves_nothing}

events_again : (place : ℕ) (events : List Event) → events_of (all_receipts place events) ≡ events
events_again place [] = refl
events_again place (e ∷ es) = ap (λ (all : List Event). e ∷ all) (events_again (place + 1) es)

numbers_again : (plays : List Play) → map (λ (ended : Ended). ended.txn) (map ended_as plays) ≡ map (λ (play : Play). play.txn) plays
numbers_again [] = refl
numbers_again (p ∷ ps) = ap (λ (ns : List ℕ). p.txn ∷ ns) (numbers_again ps)

told_here : (trace : TraceView) (passes first : ℕ) (history : List Event) (worked left : List PassView) (turns : List (List Seat))
    (seats : List Seat) (closed : Closed) (receipts : Vec Receipt) (outcomes : Vec Ended) → IsTrace trace →
    AllWorked (setting_of trace passes first) trace.lines history worked turns → IsRest (setting_of trace passes first) history left closed →
    IsPermutation (flat_map (λ (list : Vec Receipt). list.items) closed.lists.items) receipts.items →
    IsNonDecreasingBy (λ r. r.place) receipts.items →
    IsPermutation (flat_map (λ (ts : List Seat). ts) turns) seats → IsNonDecreasingBy (λ s. s.turn.txn) seats →
    outcomes.items ≡ filter_map (λ seat. ended_in seat.turn) seats →
    IsToldLive trace passes first history (record { receipts = receipts; outcomes = outcomes; places = closed.places; used = closed.used })
told_here trace passes first history worked left turns seats closed receipts outcomes is_trace all rest moved order whole sorted ends =
    let setting = setting_of trace passes first in
    let live = worked_is_live setting trace.lines history worked turns seats all whole sorted in
    let told = merged_receipts setting history left closed receipts.items all.legal rest moved order in
    let outs : outcomes.items ≡ map ended_as live.0 = ends ∙ live.2 in
    record {
      run = (
        history,
        live.0,
        record {
          all = live.1;
          locks = keeps_locks setting history all.legal;
          nothing = live_leaves_nothing trace passes first history live.0 is_trace live.1;
        },
        record { receipts = told; outcomes = outs; places = rest.places; used = rest.used },
      );
      numbers = ap (map (λ (e : Ended). e.txn)) outs ∙ numbers_again live.0 ∙ live.1.txns;
      notes = ap (notes_in setting) (ap events_of told ∙ events_again first history);
    }

pub told_live : ToldLive
told_live trace passes first setting history worked left turns seats closed receipts outcomes same is_trace all rest moved order whole sorted ends =
    told_here trace passes first history worked left turns seats closed receipts outcomes is_trace
    (subst (λ (s : Setting). AllWorked s trace.lines history worked turns) same all)
    (subst (λ (s : Setting). IsRest s history left closed) same rest) moved order whole sorted ends
