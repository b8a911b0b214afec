-- Where all workers have worked, what they did is one history in which each transaction of the trace is played to its end.
use Rattle.std.proofs.Common.{◌≡◌, List, [], ◌∷◌, true, Option, Some, None, is_some, option_map, map, refl, sym, ap, ◌∙◌}
use Rattle.std.specs.List.{AllByRecursion, filter_map, flat_map, cons_option}
use Rattle.std.specs.List.Sorted.{IsNonDecreasingBy}
use Rattle.std.proofs.lemmas.Bool.{false≢true}
use Rattle.lt_seq.specs.declared.event.Event.{Event}
use Rattle.lt_seq.specs.Table.{Setting}
use Rattle.lt_trace.specs.declared.line.Line.{Line}
use Rattle.lt_history.specs.declared.outcome.Outcome.{Outcome}
use Rattle.lt_history.specs.declared.outcome.Ended.{Ended}
use Rattle.lt_runner.specs.TurnView.{Turn, Seat}
use Rattle.lt_runner.specs.Plays.{Plays}
use Rattle.lt_runner.specs.Run.{Play, AreAllPlayed, ended_as}
use Rattle.lt_runner.specs.Serial.{ended_in}
use Rattle.lt_live.specs.Live.{WorkedIsLive}
use Rattle.lt_live.proofs.EndedLaws.{HasEnded, AllEnded, all_ended, ended_moved}
use Rattle.lt_live.proofs.TimesLaws.{txns_in_order}

-- the plays of transactions that have ended
record PlaysOf (setting : Setting) (lines : List Line) (history : List Event) (seats : List Seat) : Type 0 where
  plays : List Play
  txns : map (λ (play : Play). play.txn) plays ≡ map (λ (s : Seat). s.turn.txn) seats
  played : AllByRecursion (λ play. Plays true setting lines history play.txn play.outcome play.moves) plays
  outcomes : filter_map (λ (s : Seat). ended_in s.turn) seats ≡ map ended_as plays

plays_of : (setting : Setting) (lines : List Line) (history : List Event) (seats : List Seat) →
    AllByRecursion (HasEnded setting lines history) seats → PlaysOf setting lines history seats
plays_of setting lines history [] all = record { plays = []; txns = refl; played = tt; outcomes = refl }
plays_of setting lines history (s ∷ ss) all = by_outcome s.turn.outcome refl all.0.over.0 (plays_of setting lines history ss all.1)
  where
    by_outcome : (outcome : Option Outcome) → s.turn.outcome ≡ outcome → is_some s.turn.outcome ≡ true → PlaysOf setting lines history ss →
        PlaysOf setting lines history (s ∷ ss)
    by_outcome None is done rest = absurd (false≢true (sym (ap is_some is) ∙ done))
    by_outcome (Some outcome) is done rest =
        let come = all.0.stands in
        let play : Play = record { txn = s.turn.txn; moves = come.moves; outcome = outcome } in
        record {
          plays = play ∷ rest.plays;
          txns = ap (λ ns. s.turn.txn ∷ ns) rest.txns;
          played = (
            record {
              played = come.played;
              outcome = ap (λ (t : Turn). t.outcome) come.here ∙ is;
              released = ap (λ (t : Turn). t.releases) come.here ∙ all.0.over.1;
              events = come.made;
            },
            rest.played,
          );
          outcomes = ap (λ (o : Option Outcome). cons_option (option_map (λ (x : Outcome). record { txn = s.turn.txn; outcome = x }) o)
              (filter_map (λ (u : Seat). ended_in u.turn) ss)) is
              ∙ ap (λ (es : List Ended). ended_as play ∷ es) rest.outcomes;
        }

-- plays of the trace's transactions, by their numbers
pub ended_is_live : (setting : Setting) (lines : List Line) (history : List Event) (seats : List Seat) → AllEnded setting lines history seats →
    IsNonDecreasingBy (λ s. s.turn.txn) seats →
    (plays : List Play) × AreAllPlayed true setting lines history plays × (filter_map (λ s. ended_in s.turn) seats ≡ map ended_as plays)
ended_is_live setting lines history seats all order =
    let made = plays_of setting lines history seats all.ended in (
      made.plays,
      record {
        legal = all.legal;
        txns = made.txns ∙ txns_in_order (λ (s : Seat). s.turn.txn) seats lines order all.numbers;
        played = made.played;
        others = all.own;
      },
      made.outcomes,
    )

pub worked_is_live : WorkedIsLive
worked_is_live setting lines history passes turns seats worked moved order =
    ended_is_live setting lines history seats
    (ended_moved setting lines history (flat_map (λ (ts : List Seat). ts) turns) seats moved
    (all_ended setting lines history passes turns worked)) order
