-- Whole runs: one legal history in which each transaction is played to its end.
use Rattle.std.specs.Prelude.{◌≡◌, ◌≢◌, ℕ, ◌<◌, List, [], ◌∷◌, map, length, Some, IfSome, Bool, true, nat_lt, nat_le, IsTrue, if◌then◌else◌}
use Rattle.std.specs.List.{AllByRecursion, list_all}
use Rattle.lt_ranges.specs.Numbers.{is_in}
use Rattle.lt_seq.specs.declared.event.Event.{Event}
use Rattle.lt_seq.specs.Table.{Setting, used}
use Rattle.lt_seq.specs.History.{after, IsLegal}
use Rattle.lt_seq.specs.Questions.{all_receipts}
use Rattle.lt_seq.specs.KeepsLocks.{KeepsLocks}
use Rattle.lt_trace.specs.declared.line.Line.{Line}
use Rattle.lt_trace.specs.Grammar.{txns_of}
use Rattle.lt_requests.specs.declared.wish.Wish.{Wish}
use Rattle.lt_history.specs.declared.outcome.Outcome.{Outcome}
use Rattle.lt_history.specs.declared.outcome.Ended.{Ended}
use Rattle.lt_history.specs.Text.{text}
use Rattle.lt_runner.specs.Turn.{Move, leaves, asks, waits, stops, escalates, grows, ends, frees}
use Rattle.lt_runner.specs.Plays.{Plays, lines_for, stage_after_all, opening_stage, Stage, wish_in, next_wish}

-- A transaction, how it was played, and how it ended.
pub record Play : Type 0 where
  pub txn : ℕ
  pub moves : List Move
  pub outcome : Outcome

abbrev pub ended_as : Play → Ended
ended_as play = record { txn = play.txn; outcome = play.outcome }

-- Who is registered when a search begins.

-- all of a move came before the place
abbrev pub is_before : ℕ → Move → Bool
is_before place (stops joins at used_rows) = nat_le at place
is_before place (leaves joins) = list_all (λ r. nat_lt r.place place) joins
is_before place (asks joins ask) = nat_lt ask.place place
is_before place (waits joins ask wishes search) = list_all (λ r. nat_lt r.place place) (ask ∷ search)
is_before place (escalates join) = nat_lt join.place place
is_before place grows = true
is_before place ends = true
is_before place (frees free) = nat_lt free.place place

-- where an attempt was held before the place but its search is not over, the transaction waits already
abbrev pub begun : ℕ → Move → List Move
begun place (stops joins at used_rows) = []
begun place (leaves joins) = []
begun place (asks joins ask) = []
begun place (waits joins ask wishes search) = if nat_lt ask.place place then asks joins ask ∷ [] else []
begun place (escalates join) = []
begun place grows = []
begun place ends = []
begun place (frees free) = []

-- what was done before the place
abbrev pub moves_before : ℕ → List Move → List Move
moves_before place [] = []
moves_before place (move ∷ moves) = if is_before place move then move ∷ moves_before place moves else begun place move

-- the stage at a place
abbrev pub stage_at : Setting → List Line → Play → ℕ → Stage
stage_at setting lines play place =
    stage_after_all (opening_stage setting play.txn (lines_for play.txn lines)) (moves_before place play.moves)

-- A transaction that is registered waits for this wish. One that was held at its line is registered; in a crew's run one that
-- was held there twice, since the first search may be left to the caller.
pub record IsListedRightly (crew : Bool) (stage : Stage) (wishes : List Wish) : Type 0 where
  pub waits : IfSome (wish_in stage.turn.txn wishes) (λ wish. IsTrue stage.turn.waits × (next_wish stage.turn.txn stage.turn.lines ≡ Some wish))
  pub listed : (if crew then 1 else 0) < stage.past.held → wish_in stage.turn.txn wishes ≡ next_wish stage.turn.txn stage.turn.lines

-- among the others, at this search
abbrev pub IsSearchedRightly : Bool → Setting → List Line → List Play → ℕ → Move → Type 0
IsSearchedRightly crew setting lines plays txn (waits joins ask wishes search) =
    AllByRecursion (λ other. other.txn ≢ txn → IsListedRightly crew (stage_at setting lines other ask.place) wishes) plays
IsSearchedRightly crew setting lines plays txn (leaves joins) = Unit {0}
IsSearchedRightly crew setting lines plays txn (asks joins ask) = Unit {0}
IsSearchedRightly crew setting lines plays txn (stops joins place used_rows) = Unit {0}
IsSearchedRightly crew setting lines plays txn (escalates join) = Unit {0}
IsSearchedRightly crew setting lines plays txn grows = Unit {0}
IsSearchedRightly crew setting lines plays txn ends = Unit {0}
IsSearchedRightly crew setting lines plays txn (frees free) = Unit {0}

-- One history of all transactions.
pub record AreAllPlayed (crew : Bool) (setting : Setting) (lines : List Line) (history : List Event) (plays : List Play) : Type 0 where
  -- each reply is the table's
  pub legal : IsLegal setting history
  -- each transaction of the trace is played to its end, and no other has an event
  pub txns : map (λ play. play.txn) plays ≡ txns_of lines
  pub played : AllByRecursion (λ play. Plays crew setting lines history play.txn play.outcome play.moves) plays
  pub others : AllByRecursion (λ e. IsTrue (is_in e.txn (txns_of lines))) history

-- One history of all transactions, with each search among those that waited.
pub record IsRun (crew : Bool) (setting : Setting) (lines : List Line) (history : List Event) (plays : List Play) : Type 0 where
  pub all : AreAllPlayed crew setting lines history plays
  pub searches : AllByRecursion (λ play. AllByRecursion (IsSearchedRightly crew setting lines plays play.txn) play.moves) plays

-- the text of a run
abbrev pub run_text : Setting → List Event → List Play → List ℕ
run_text setting history plays =
    text (all_receipts setting.plan.first history) (map ended_as plays) (length history) (used (after setting history))

-- The bytes are the text of such a run.
abbrev pub IsRunText : Bool → Setting → List Line → List ℕ → Type 0
IsRunText crew setting lines bytes =
    (history : List Event) × (plays : List Play) × IsRun crew setting lines history plays × KeepsLocks setting history
    × (bytes ≡ run_text setting history plays)
