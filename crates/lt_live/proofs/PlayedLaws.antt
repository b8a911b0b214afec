-- A transaction that was played to its end stands there, with searches of its own alone.
use Rattle.std.proofs.Common.{◌≡◌, ℕ, ◌+◌, ◌<◌, ◌≤◌, List, [], ◌∷◌, ◌++◌, true, is_some}
use Rattle.std.proofs.Common.{refl, sym, ap, subst, arith}
use Rattle.std.specs.List.{AllByRecursion, flat_map}
use Rattle.std.proofs.lemmas.Bool.{false≢true}
use Rattle.std.proofs.lemmas.List.Elements.{Contains-append_right}
use Rattle.lt_seq.specs.declared.event.Event.{Event}
use Rattle.lt_seq.specs.declared.event.Receipt.{Receipt}
use Rattle.lt_seq.specs.Table.{Setting}
use Rattle.lt_seq.specs.Yard.{place_after}
use Rattle.lt_seq.specs.Questions.{receipts_of}
use Rattle.lt_trace.specs.declared.line.Line.{Line}
use Rattle.lt_history.specs.declared.outcome.Outcome.{Outcome}
use Rattle.lt_runner.specs.declared.release.Release.{Release}
use Rattle.lt_runner.specs.TurnView.{Seat}
use Rattle.lt_runner.specs.Turn.{Move, leaves, asks, waits, stops, escalates, grows, ends, frees, receipts_in}
use Rattle.lt_runner.specs.Attempt.{behind}
use Rattle.lt_runner.specs.Plays.{Plays, Stage, IsMove, MayFree, ArePlayed, behind_move, stage_after, stage_after_all, opening_stage, lines_for}
use Rattle.lt_runner.specs.Played.{Search, AreInside, IsInside, IsAmong, HasCome, Stands, IsOver}
use Rattle.lt_runner.specs.Run.{IsListedRightly, moves_before}
use Rattle.lt_runner.proofs.ListedLaws.{receipts_within}
use Rattle.lt_runner.proofs.SearchLaws.{at_line, at_line_opening, all_txn}
use Rattle.lt_live.specs.Live.{AreOwn}
use Rattle.lt_live.proofs.LiveLaws.{own_append, none_other}

-- Where it stands: it is over.
pub record StandsOver (setting : Setting) (lines : List Line) (history : List Event) (txn : ℕ) : Type 0 where
  pub seat : Seat
  pub searches : List Search
  pub txn_is : seat.turn.txn ≡ txn
  pub stands : Stands true setting searches lines history seat
  pub over : IsOver seat

-- Its searches.

abbrev search_in : ℕ → Move → List Search
search_in txn (leaves joins) = []
search_in txn (asks joins ask) = []
search_in txn (waits joins ask wishes search) = record { txn = txn; place = ask.place; wishes = wishes } ∷ []
search_in txn (stops joins place used_rows) = []
search_in txn (escalates join) = []
search_in txn grows = []
search_in txn ends = []
search_in txn (frees free) = []

abbrev searches_in : ℕ → List Move → List Search
searches_in txn [] = []
searches_in txn (move ∷ moves) = search_in txn move ++ searches_in txn moves

own_search : (txn : ℕ) (move : Move) → AreOwn txn (search_in txn move)
own_search txn (leaves joins) = tt
own_search txn (asks joins ask) = tt
own_search txn (waits joins ask wishes search) = (refl, tt)
own_search txn (stops joins place used_rows) = tt
own_search txn (escalates join) = tt
own_search txn grows = tt
own_search txn ends = tt
own_search txn (frees free) = tt

own_searches : (txn : ℕ) (moves : List Move) → AreOwn txn (searches_in txn moves)
own_searches txn [] = tt
own_searches txn (m ∷ ms) = own_append txn (search_in txn m) (searches_in txn ms) (own_search txn m) (own_searches txn ms)

search_there : (txn : ℕ) (move : Move) (more : List Search) → IsAmong (search_in txn move ++ more) txn move
search_there txn (leaves joins) more = tt
search_there txn (asks joins ask) more = tt
search_there txn (waits joins ask wishes search) more = (0, omega arith, refl)
search_there txn (stops joins place used_rows) more = tt
search_there txn (escalates join) more = tt
search_there txn grows more = tt
search_there txn ends more = tt
search_there txn (frees free) more = tt

among_behind : (before searches : List Search) (txn : ℕ) (move : Move) → IsAmong searches txn move → IsAmong (before ++ searches) txn move
among_behind before searches txn (leaves joins) among = tt
among_behind before searches txn (asks joins ask) among = tt
among_behind before searches txn (waits joins ask wishes search) among = Contains-append_right before searches _ among
among_behind before searches txn (stops joins place used_rows) among = tt
among_behind before searches txn (escalates join) among = tt
among_behind before searches txn grows among = tt
among_behind before searches txn ends among = tt
among_behind before searches txn (frees free) among = tt

all_behind : (before searches : List Search) (txn : ℕ) (moves : List Move) → AllByRecursion (IsAmong searches txn) moves →
    AllByRecursion (IsAmong (before ++ searches) txn) moves
all_behind before searches txn [] all = tt
all_behind before searches txn (m ∷ ms) all = (among_behind before searches txn m all.0, all_behind before searches txn ms all.1)

all_there : (txn : ℕ) (moves : List Move) → AllByRecursion (IsAmong (searches_in txn moves) txn) moves
all_there txn [] = tt
all_there txn (m ∷ ms) =
    (search_there txn m (searches_in txn ms), all_behind (search_in txn m) (searches_in txn ms) txn ms (all_there txn ms))

-- Places.

abbrev AreBelow : ℕ → List Receipt → Type 0
AreBelow end receipts = AllByRecursion (λ r. r.place < end) receipts

below_left : (end : ℕ) (xs ys : List Receipt) → AreBelow end (xs ++ ys) → AreBelow end xs
below_left end [] ys all = tt
below_left end (x ∷ xs) ys all = (all.0, below_left end xs ys all.1)

below_right : (end : ℕ) (xs ys : List Receipt) → AreBelow end (xs ++ ys) → AreBelow end ys
below_right end [] ys all = all
below_right end (x ∷ xs) ys all = below_right end xs ys all.1

module _ (setting : Setting) (history : List Event) where
  abbrev AreHere : List Receipt → Type 0
  AreHere receipts = AreBelow (place_after setting history) receipts

  inside_list : (receipts : List Receipt) → AreHere receipts → AreInside setting history receipts
  inside_list [] here = tt
  inside_list (r ∷ rs) here = (omega (arith, here.0), inside_list rs here.1)

  inside_move : (move : Move) → AreHere (receipts_in move) → IsInside setting history move
  inside_move (leaves joins) here = inside_list joins here
  inside_move (asks joins ask) here = (
    omega (arith, (below_right (place_after setting history) joins (ask ∷ []) here).0),
    inside_list joins (below_left (place_after setting history) joins (ask ∷ []) here),
  )
  inside_move (waits joins ask wishes search) here = (
    omega (arith, (below_right (place_after setting history) joins (ask ∷ search) here).0),
    inside_list joins (below_left (place_after setting history) joins (ask ∷ search) here),
  )
  inside_move (stops joins place used_rows) here = inside_list joins here
  inside_move (escalates join) here = tt
  inside_move grows here = tt
  inside_move ends here = tt
  inside_move (frees free) here = tt

  inside_all : (moves : List Move) → AreHere (flat_map receipts_in moves) → AllByRecursion (IsInside setting history) moves
  inside_all [] here = tt
  inside_all (m ∷ ms) here = (
    inside_move m (below_left (place_after setting history) (receipts_in m) (flat_map receipts_in ms) here),
    inside_all ms (below_right (place_after setting history) (receipts_in m) (flat_map receipts_in ms) here),
  )

  behind_here : (since : ℕ) (receipts : List Receipt) → since ≤ place_after setting history → AreHere receipts →
      behind since receipts ≤ place_after setting history
  behind_here since [] low here = low
  behind_here since (r ∷ rs) low here = behind_here (r.place + 1) rs (omega (arith, here.0)) here.1

  -- one that is out of locks ends at its last look
  stop_high : (stage : Stage) (lines : List Line) (joins : List Receipt) (place used_rows : ℕ) →
      IsMove true setting history stage lines (stops joins place used_rows) → place ≤ place_after setting history
  stop_high stage [] joins place used_rows may = by_releases stage.turn.releases may
    where
      by_releases : (rs : List Release) → MayFree stage.past.since rs (stops joins place used_rows) → place ≤ place_after setting history
      by_releases [] free = absurd free
      by_releases (r ∷ rs) free = absurd free
  stop_high stage (line ∷ lines) joins place used_rows may = may.0.high

  behind_one : (stage : Stage) (move : Move) → stage.past.since ≤ place_after setting history → AreHere (receipts_in move) →
      IsMove true setting history stage stage.turn.lines move → behind_move stage.past.since move ≤ place_after setting history
  behind_one stage (leaves joins) low here may = behind_here stage.past.since joins low here
  behind_one stage (asks joins ask) low here may = omega (arith, (below_right (place_after setting history) joins (ask ∷ []) here).0)
  behind_one stage (waits joins ask wishes search) low here may =
      let from = below_right (place_after setting history) joins (ask ∷ search) here in
      behind_here (ask.place + 1) search (omega (arith, from.0)) from.1
  behind_one stage (stops joins place used_rows) low here may = stop_high stage stage.turn.lines joins place used_rows may
  behind_one stage (escalates join) low here may = omega (arith, here.0)
  behind_one stage grows low here may = low
  behind_one stage ends low here may = low
  behind_one stage (frees free) low here may = omega (arith, here.0)

  behind_all : (stage : Stage) (moves : List Move) → stage.past.since ≤ place_after setting history → AreHere (flat_map receipts_in moves) →
      ArePlayed true setting history stage moves → (stage_after_all stage moves).past.since ≤ place_after setting history
  behind_all stage [] low here played = low
  behind_all stage (m ∷ ms) low here played =
      behind_all (stage_after stage m) ms
      (behind_one stage m low (below_left (place_after setting history) (receipts_in m) (flat_map receipts_in ms) here) played.0)
      (below_right (place_after setting history) (receipts_in m) (flat_map receipts_in ms) here) played.1

  pub plays_stand : (lines : List Line) (txn : ℕ) (ended : Outcome) (moves : List Move) → Plays true setting lines history txn ended moves →
      StandsOver setting lines history txn
  plays_stand lines txn ended moves plays = record {
    seat = seat;
    searches = searches_in txn moves;
    txn_is = txn_is;
    stands = subst (λ (n : ℕ). HasCome true setting (searches_in txn moves) history (opening_stage setting n (lines_for n lines)) seat
        (receipts_of setting.plan.first n history)) (sym txn_is) come;
    over = (ap is_some plays.outcome, plays.released);
  }
    where
      stage : Stage
      stage = opening_stage setting txn (lines_for txn lines)

      seat : Seat
      seat = record { turn = (stage_after_all stage moves).turn; busy = true; listed = true }

      txn_is : (stage_after_all stage moves).turn.txn ≡ txn
      txn_is = all_txn stage moves

      here : AreHere (flat_map receipts_in moves)
      here = subst AreHere (sym plays.events) (receipts_within setting.plan.first txn history)

      come : HasCome true setting (searches_in txn moves) history stage seat (receipts_of setting.plan.first txn history)
      come = record {
        moves = moves;
        played = plays.played;
        inside = inside_all moves here;
        listed = none_other (λ s. IsListedRightly true (stage_after_all stage (moves_before s.place moves)) s.wishes) txn (searches_in txn moves)
            (own_searches txn moves);
        own = all_there txn moves;
        here = refl;
        past = record {
          seen = behind_all stage moves (omega arith) here plays.played;
          held = (at_line stage moves (at_line_opening setting txn (lines_for txn lines))).held;
          left = λ e. absurd (false≢true (sym e));
          once = λ e. absurd (false≢true (sym e));
        };
        made = plays.events;
      }
