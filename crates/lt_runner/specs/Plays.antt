-- Plays: how a transaction may go from its first line to the end of its release, in a history.
use Rattle.std.specs.Prelude.{◌≡◌, ℕ, ◌+◌, ◌≤◌, List, [], ◌∷◌, ◌++◌, map, filter, fold, Option}
use Rattle.std.specs.Prelude.{Some, None, Bool, true, false, ◌&&◌, ◌==◌, not, if◌then◌else◌, replicate, ◌||◌, IsTrue}
use Rattle.lt_ranges.specs.Numbers.{ascending}
use Rattle.lt_trace.specs.Grammar.{is_last}
use Rattle.std.specs.List.{flat_map, list_any, find}
use Rattle.lt_seq.specs.declared.event.Deed.{Deed}
use Rattle.lt_seq.specs.declared.event.Deed.TheVariants.{Ask, Free, Join}
use Rattle.lt_seq.specs.declared.event.Reply.{Reply}
use Rattle.lt_seq.specs.declared.event.Reply.TheVariants.{Granted, Buffered, HeldBy}
use Rattle.lt_seq.specs.declared.event.Event.{Event}
use Rattle.lt_seq.specs.Table.{Setting}
use Rattle.lt_seq.specs.Questions.{question, named_by, receipts_of}
use Rattle.lt_trace.specs.declared.line.Line.{Line}
use Rattle.lt_trace.specs.declared.line.LineDeed.{LineDeed}
use Rattle.lt_trace.specs.declared.line.LineDeed.TheVariants.{Try, Lock, End, Abort, Escalate, Big}
use Rattle.lt_requests.specs.declared.wish.Wish.{Wish}
use Rattle.lt_requests.specs.Search.{IsSearch, wishes_of}
use Rattle.lt_runner.specs.declared.release.Release.{Release}
use Rattle.lt_runner.specs.TurnView.{Turn}
use Rattle.lt_history.specs.declared.outcome.Outcome.{Outcome}
use Rattle.lt_runner.specs.Turn.{Move, leaves, asks, waits, stops, escalates, grows, ends, frees, receipts_in, turn_after, reply_in, nothing_recorded}
use Rattle.lt_runner.specs.Attempt.{behind, bar_of, IsAttempt, IsStop, IsLeft}

-- What is known of a transaction besides: the first place behind all that it did, how often its next line was held, and whether a
-- busy ask has left joins at it.
pub record Past : Type 0 where
  pub since : ℕ
  pub held : ℕ
  pub left : Bool

-- the place behind a move; one that is out of locks ends at its last look
abbrev pub behind_move : ℕ → Move → ℕ
behind_move since (stops joins place used_rows) = place
behind_move since (leaves joins) = behind since joins
behind_move since (asks joins ask) = ask.place + 1
behind_move since (waits joins ask wishes search) = behind (ask.place + 1) search
behind_move since (escalates join) = join.place + 1
behind_move since grows = since
behind_move since ends = since
behind_move since (frees free) = free.place + 1

abbrev pub is_leaving : Move → Bool
is_leaving (leaves joins) = true
is_leaving (asks joins ask) = false
is_leaving (waits joins ask wishes search) = false
is_leaving (stops joins place used_rows) = false
is_leaving (escalates join) = false
is_leaving grows = false
is_leaving ends = false
is_leaving (frees free) = false

pub record Stage : Type 0 where
  pub turn : Turn
  pub past : Past

abbrev pub stage_after : Stage → Move → Stage
stage_after stage move =
    let turn = turn_after stage.turn move in
    record {
      turn = turn;
      past = record {
        since = behind_move stage.past.since move;
        held = (if turn.waits then stage.past.held + 1 else 0);
        left = is_leaving move;
      };
    }

-- what a line asks the table, but for its release
abbrev pub line_question : LineDeed → Option Deed
line_question (Try tree range) = Some (Ask tree range Granted)
line_question (Lock tree range) = Some (Ask tree range Granted)
line_question End = None
line_question Abort = None
line_question (Escalate tree) = Some (Join tree 0 0)
line_question Big = None

abbrev pub is_lock : LineDeed → Bool
is_lock (Try tree range) = false
is_lock (Lock tree range) = true
is_lock End = false
is_lock Abort = false
is_lock (Escalate tree) = false
is_lock Big = false

abbrev pub is_held : Reply → Bool
is_held Granted = false
is_held Buffered = false
is_held (HeldBy owners) = true

-- a lock line that is held is followed by a search; in a crew's run the first time it may not be
abbrev pub NeedsNoSearch : Bool → Past → LineDeed → Reply → Type 0
NeedsNoSearch crew past deed reply =
    IsTrue (not (is_lock deed && is_held reply) || (crew && past.held == 0))

abbrev pub is_ask : LineDeed → Bool
is_ask (Try tree range) = true
is_ask (Lock tree range) = true
is_ask End = false
is_ask Abort = false
is_ask (Escalate tree) = false
is_ask Big = false

abbrev pub is_big : LineDeed → Bool
is_big (Try tree range) = false
is_big (Lock tree range) = false
is_big End = false
is_big Abort = false
is_big (Escalate tree) = false
is_big Big = true

-- what the next line waits for
abbrev pub wish_for : ℕ → LineDeed → Option Wish
wish_for txn (Try tree range) = None
wish_for txn (Lock tree range) = Some (record { txn = txn; tree = tree; range = range })
wish_for txn End = None
wish_for txn Abort = None
wish_for txn (Escalate tree) = None
wish_for txn Big = None

-- what a turn with these lines left waits for
abbrev pub next_wish : ℕ → List Line → Option Wish
next_wish txn [] = None
next_wish txn (line ∷ lines) = wish_for txn line.deed

abbrev pub wish_in : ℕ → List Wish → Option Wish
wish_in txn wishes = find (λ w. w.txn == txn) wishes

-- wishes ascend by transaction, and the transaction's own is among them
abbrev pub AreWishes : List Wish → ℕ → LineDeed → Type 0
AreWishes wishes txn deed = (ascending (map (λ w. w.txn) wishes) ≡ map (λ w. w.txn) wishes) × (wish_in txn wishes ≡ wish_for txn deed)

-- The move may come at this line. In a crew's run a busy ask may leave joins, once before a line's first attempt.
abbrev pub MayDo : Bool → Setting → List Event → Stage → LineDeed → Move → Type 0
MayDo crew setting history stage deed (leaves joins) =
    IsTrue (crew && stage.past.held == 0 && not stage.past.left) × IsTrue (is_ask deed)
    × IsLeft setting history (bar_of setting stage.turn) stage.past.since joins
MayDo crew setting history stage deed (asks joins ask) =
    IsAttempt setting history (bar_of setting stage.turn) stage.past.since joins ask.place
    × IsTrue (is_ask deed) × (line_question deed ≡ Some (question ask.event.deed))
    × NeedsNoSearch crew stage.past deed (reply_in ask.event.deed)
MayDo crew setting history stage deed (waits joins ask wishes search) =
    IsAttempt setting history (bar_of setting stage.turn) stage.past.since joins ask.place
    × IsTrue (is_ask deed) × (line_question deed ≡ Some (question ask.event.deed))
    × IsTrue (is_lock deed && is_held (reply_in ask.event.deed))
    × AreWishes wishes stage.turn.txn deed
    × IsSearch stage.turn.txn wishes [] (wishes_of (named_by (reply_in ask.event.deed)) wishes) search
MayDo crew setting history stage deed (stops joins place used_rows) =
    IsStop setting history (bar_of setting stage.turn) stage.past.since joins place used_rows × IsTrue (is_ask deed)
MayDo crew setting history stage deed (escalates join) = IsTrue (not (is_ask deed)) × (line_question deed ≡ Some (question join.event.deed))
MayDo crew setting history stage deed grows = IsTrue (is_big deed)
MayDo crew setting history stage deed ends = IsTrue (is_last deed)
MayDo crew setting history stage deed (frees free) = ⊥

-- the free may come next in the release
abbrev pub MayFree : ℕ → List Release → Move → Type 0
MayFree since [] move = ⊥
MayFree since (r ∷ rs) (frees free) = (since ≤ free.place) × (question free.event.deed ≡ Free r.tree r.range r.first 0)
MayFree since (r ∷ rs) (leaves joins) = ⊥
MayFree since (r ∷ rs) (asks joins ask) = ⊥
MayFree since (r ∷ rs) (waits joins ask wishes search) = ⊥
MayFree since (r ∷ rs) (stops joins place used_rows) = ⊥
MayFree since (r ∷ rs) (escalates join) = ⊥
MayFree since (r ∷ rs) grows = ⊥
MayFree since (r ∷ rs) ends = ⊥

-- behind the last line comes the release
abbrev pub IsMove : Bool → Setting → List Event → Stage → List Line → Move → Type 0
IsMove crew setting history stage [] move = MayFree stage.past.since stage.turn.releases move
IsMove crew setting history stage (line ∷ lines) move = MayDo crew setting history stage line.deed move

-- Plays.

abbrev pub ArePlayed : Bool → Setting → List Event → Stage → List Move → Type 0
ArePlayed crew setting history stage [] = Unit {0}
ArePlayed crew setting history stage (move ∷ moves) =
    IsMove crew setting history stage stage.turn.lines move × ArePlayed crew setting history (stage_after stage move) moves

abbrev pub stage_after_all : Stage → List Move → Stage
stage_after_all stage moves = fold stage_after stage moves

-- a transaction's lines, with an end where there is none
abbrev pub end_of : ℕ → Line
end_of txn = record { txn = txn; number = 0; deed = End }

-- whether the last line of a transaction is among these
abbrev pub has_last : List Line → Bool
has_last lines = list_any (λ line. is_last line.deed) lines

abbrev pub with_end : ℕ → List Line → List Line
with_end txn lines = if has_last lines then lines else lines ++ end_of txn ∷ []

-- the transaction's own of these lines
abbrev pub own_of : ℕ → List Line → List Line
own_of txn lines = filter (λ line. line.txn == txn) lines

abbrev pub lines_for : ℕ → List Line → List Line
lines_for txn lines = with_end txn (own_of txn lines)

abbrev pub opening_turn : Setting → ℕ → List Line → Turn
opening_turn setting txn lines =
    record { txn = txn; lines = lines; waits = false; recorded = replicate setting.plan.trees nothing_recorded; outcome = None; releases = []; big = false }

abbrev pub opening_stage : Setting → ℕ → List Line → Stage
opening_stage setting txn lines =
    record { turn = opening_turn setting txn lines; past = record { since = setting.plan.first; held = 0; left = false } }

-- The moves play the transaction's lines to their end and release it. They are all its events of the history, and this is its outcome.
pub record Plays (crew : Bool) (setting : Setting) (lines : List Line) (history : List Event) (txn : ℕ)
    (ended : Outcome) (moves : List Move) : Type 0 where
  pub played : ArePlayed crew setting history (opening_stage setting txn (lines_for txn lines)) moves
  pub outcome : (stage_after_all (opening_stage setting txn (lines_for txn lines)) moves).turn.outcome ≡ Some ended
  pub released : (stage_after_all (opening_stage setting txn (lines_for txn lines)) moves).turn.releases ≡ []
  pub events : flat_map receipts_in moves ≡ receipts_of setting.plan.first txn history
