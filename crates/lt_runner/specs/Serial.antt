-- The plain scheduler: one pass plays all transactions.
use Rattle.std.specs.Prelude.{ℕ, ◌+◌, ◌*◌, List, [], ◌∷◌, ◌++◌, map, fold, length, Option, Some}
use Rattle.std.specs.Prelude.{None, Bool, true, false, ◌&&◌, ◌==◌, not, nat_lt, if◌then◌else◌, is_some, is_none, option_map}
use Rattle.std.specs.List.{filter_map, find}
use Rattle.lt_seq.specs.declared.event.Deed.{Deed}
use Rattle.lt_seq.specs.declared.event.Deed.TheVariants.{Ask, Free, Join}
use Rattle.lt_seq.specs.declared.event.Reply.TheVariants.{Granted}
use Rattle.lt_seq.specs.declared.event.Event.{Event}
use Rattle.lt_seq.specs.declared.event.Receipt.{Receipt}
use Rattle.lt_seq.specs.declared.plan.YardPlan.{YardPlan}
use Rattle.lt_seq.specs.Table.{Setting, used}
use Rattle.lt_seq.specs.History.{after}
use Rattle.lt_seq.specs.Yard.{place_after}
use Rattle.lt_seq.specs.Questions.{receipt_after, events_of, named_by, all_receipts}
use Rattle.lt_trace.specs.declared.line.Line.{Line}
use Rattle.lt_trace.specs.declared.line.LineDeed.{LineDeed}
use Rattle.lt_trace.specs.declared.line.LineDeed.TheVariants.{Try, Lock, End, Abort, Escalate, Big}
use Rattle.lt_trace.specs.Trace.{TraceView}
use Rattle.lt_trace.specs.Grammar.{txns_of}
use Rattle.lt_requests.specs.declared.wish.Wish.{Wish}
use Rattle.lt_requests.specs.Search.{searched, wishes_of}
use Rattle.lt_history.specs.declared.outcome.Ended.{Ended}
use Rattle.lt_history.specs.Text.{text}
use Rattle.lt_runner.specs.declared.release.Release.{Release}
use Rattle.lt_runner.specs.TurnView.{Turn}
use Rattle.lt_runner.specs.Turn.{Move, asks, waits, stops, escalates, grows, ends, frees, receipts_in, turn_after, reply_in}
use Rattle.lt_seq.specs.Passes.{numbers_from}
use Rattle.lt_runner.specs.Attempt.{bar_of}
use Rattle.lt_runner.specs.Plays.{is_held, next_wish, end_of, opening_turn}

-- all that the scheduler keeps
pub record Game : Type 0 where
  pub events : List Event
  -- the turns of all transactions, ascending
  pub turns : List Turn
  -- whether a transaction was released since the last sweep began
  pub released : Bool

abbrev pub game_at : List Event → List Turn → Bool → Game
game_at events turns released = record { events = events; turns = turns; released = released }

abbrev pub turn_of : Setting → ℕ → List Turn → Turn
turn_of setting txn [] = opening_turn setting txn []
turn_of setting txn (turn ∷ turns) = if turn.txn == txn then turn else turn_of setting txn turns

abbrev pub with_turn : Turn → List Turn → List Turn
with_turn new turns = map (λ turn. if turn.txn == new.txn then new else turn) turns

abbrev pub is_waiting : Turn → Bool
is_waiting turn = turn.waits

abbrev pub is_ready : Turn → Bool
is_ready turn = is_none turn.outcome && not (is_waiting turn)

abbrev pub wishes_in : List Turn → List Wish
wishes_in turns = filter_map (λ turn. if is_waiting turn then next_wish turn.txn turn.lines else None) turns

-- The next move at a line.

-- the ask, and the search behind it where it is held at a lock line
abbrev pub ask_move : Setting → List Turn → Turn → Bool → List Event → List Receipt → Receipt → Move
ask_move setting turns turn locks events joins ask =
    if locks && is_held (reply_in ask.event.deed)
    then (let wishes = wishes_in (with_turn (record turn { waits = true }) turns) in
    waits joins ask wishes (searched setting turn.txn wishes wishes (events ++ ask.event ∷ []) [] (wishes_of (named_by (reply_in ask.event.deed)) wishes)))
    else asks joins ask

-- the joins of these trees, one behind another
abbrev pub joins_of : Setting → ℕ → List ℕ → List Event → List Receipt
joins_of setting txn [] events = []
joins_of setting txn (tree ∷ trees) events =
    let r = receipt_after setting events 0 txn (Join tree 0 0) in
    r ∷ joins_of setting txn trees (events ++ r.event ∷ [])

-- behind the joins of all trees it asks where there is room now, and is out of locks otherwise
abbrev pub behind_joins : Setting → List Turn → Turn → Bool → Deed → List Event → List Receipt → Move
behind_joins setting turns turn locks deed events joins =
    if nat_lt (used (after setting events)) (bar_of setting turn)
    then ask_move setting turns turn locks events joins (receipt_after setting events 0 turn.txn deed)
    else stops joins (place_after setting events) (used (after setting events))

-- An attempt asks where there is room, and otherwise joins first, in all trees.
abbrev pub attempt : Setting → List Turn → Turn → Bool → Deed → List Event → Move
attempt setting turns turn locks deed events =
    if nat_lt (used (after setting events)) (bar_of setting turn)
    then ask_move setting turns turn locks events [] (receipt_after setting events 0 turn.txn deed)
    else (let joins = joins_of setting turn.txn (numbers_from 0 setting.plan.trees) events in
    behind_joins setting turns turn locks deed (events ++ events_of joins) joins)

abbrev pub line_move : Setting → Game → Turn → LineDeed → Move
line_move setting game turn (Try tree range) = attempt setting game.turns turn false (Ask tree range Granted) game.events
line_move setting game turn (Lock tree range) = attempt setting game.turns turn true (Ask tree range Granted) game.events
line_move setting game turn End = ends
line_move setting game turn Abort = ends
line_move setting game turn Big = grows
line_move setting game turn (Escalate tree) = escalates (receipt_after setting game.events 0 turn.txn (Join tree 0 0))

abbrev pub does : Setting → Turn → Move → Game → Game
does setting turn move game =
    record game { events = game.events ++ events_of (receipts_in move); turns = with_turn (turn_after turn move) game.turns }

-- the release, one free after another
abbrev pub gives_back : Setting → ℕ → List Release → Game → Game
gives_back setting txn [] game = game
gives_back setting txn (r ∷ rs) game =
    gives_back setting txn rs
    (does setting (turn_of setting txn game.turns) (frees (receipt_after setting game.events 0 txn (Free r.tree r.range r.first 0))) game)

-- a transaction that has ended is released at once
abbrev pub settles : Setting → Turn → Game → Game
settles setting turn game =
    if is_some turn.outcome then record (gives_back setting turn.txn turn.releases game) { released = true } else game

-- one line
abbrev pub plays_line : Setting → ℕ → List Line → Game → Game
plays_line setting txn [] game = game
plays_line setting txn (line ∷ lines) game =
    let turn = turn_of setting txn game.turns in
    let next = does setting turn (line_move setting game turn line.deed) game in
    settles setting (turn_of setting txn next.turns) next

abbrev pub plays_next : Setting → ℕ → Game → Game
plays_next setting txn game = plays_line setting txn (turn_of setting txn game.turns).lines game

-- these lines, until it waits or has ended
abbrev pub plays_on : Setting → ℕ → List Line → Game → Game
plays_on setting txn [] game = game
plays_on setting txn (line ∷ lines) game =
    if is_ready (turn_of setting txn game.turns) then plays_on setting txn lines (plays_next setting txn game) else game

-- A sweep: each one that waits asks again, in ascending order, and one that is granted goes on with its lines.

abbrev pub retried : Setting → Game → ℕ → Game
retried setting game txn =
    if is_waiting (turn_of setting txn game.turns)
    then (let next = plays_next setting txn game in plays_on setting txn (turn_of setting txn next.turns).lines next)
    else game

abbrev pub swept : Setting → List ℕ → Game → Game
swept setting txns game = fold (retried setting) (record game { released = false }) txns

-- a sweep, where a transaction was released since the last one began
unfoldable pub swept_if_released : Setting → List ℕ → Game → Game
swept_if_released setting txns game = if game.released then swept setting txns game else game

-- Sweeps while one was released. Each is released once, so there are no more sweeps than transactions.
abbrev pub settled : Setting → List ℕ → Game → Game
settled setting txns game = fold (λ game txn. swept_if_released setting txns game) game txns

-- The three steps.

-- a line is added, and played at once where its transaction is ready
abbrev pub added : Setting → Line → Turn → Game → Game
added setting line turn game =
    let next = record game { turns = with_turn (record turn { lines = turn.lines ++ line ∷ [] }) game.turns } in
    if is_some turn.outcome then game
    else if is_waiting turn then next
    else plays_next setting turn.txn next

abbrev pub takes_line : Setting → List ℕ → Game → Line → Game
takes_line setting txns game line =
    settled setting txns (added setting line (turn_of setting line.txn game.turns) game)

-- behind the last line the least that is ready is ended; where all that are left wait, they ask again
abbrev pub ends_first : Setting → List ℕ → Option Turn → Game → Game
ends_first setting txns None game = swept setting txns game
ends_first setting txns (Some turn) game = added setting (end_of turn.txn) turn game

abbrev pub ends_one : Setting → List ℕ → Game → Game
ends_one setting txns game = settled setting txns (ends_first setting txns (find is_ready game.turns) game)

abbrev pub opening_game : Setting → List ℕ → Game
opening_game setting txns = record { events = []; turns = map (λ txn. opening_turn setting txn []) txns; released = false }

-- each time one ends, so as often as there are transactions
abbrev pub played : Setting → List ℕ → List Line → Game
played setting txns lines =
    fold (λ game txn. ends_one setting txns game) (fold (takes_line setting txns) (opening_game setting txns) lines) txns

-- What it leaves.

pub record Ran : Type 0 where
  pub receipts : List Receipt
  pub outcomes : List Ended
  pub places : ℕ
  pub used : ℕ

abbrev pub ended_in : Turn → Option Ended
ended_in turn = option_map (λ outcome. record { txn = turn.txn; outcome = outcome }) turn.outcome

abbrev pub ran : Setting → Game → Ran
ran setting game = record {
  receipts = all_receipts setting.plan.first game.events;
  outcomes = filter_map ended_in game.turns;
  places = length game.events;
  used = used (after setting game.events);
}

abbrev pub plan_of : TraceView → ℕ → ℕ → YardPlan
plan_of trace passes first = record { trees = trace.trees; limit = trace.limit; buffer = trace.buffer; passes = passes; first = first }

abbrev pub setting_of : TraceView → ℕ → ℕ → Setting
setting_of trace passes first = record { plan = plan_of trace passes first; marks = [] }

abbrev pub game_of : TraceView → ℕ → Game
game_of trace first = played (setting_of trace 1 first) (txns_of trace.lines) trace.lines

abbrev pub serial : TraceView → ℕ → Ran
serial trace first = ran (setting_of trace 1 first) (game_of trace first)

abbrev pub ran_text : Ran → List ℕ
ran_text run = text run.receipts run.outcomes run.places run.used

-- the most events that a run may make, by its lines, transactions and trees
abbrev pub most_of : ℕ → ℕ → ℕ → ℕ
most_of lines txns trees = (2 * lines + 2 * txns + 2) * (txns + 1) * (2 * trees + txns + 4)

abbrev pub most_events : TraceView → ℕ
most_events trace = most_of (length trace.lines) (length (txns_of trace.lines)) trace.trees
