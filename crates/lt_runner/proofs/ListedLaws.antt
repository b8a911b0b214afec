-- A search more, of one transaction: the others are listed rightly in it where they are now.
use Rattle.std.proofs.Common.{◌≡◌, ◌≢◌, Contains, ℕ, zero, suc, ◌+◌, ◌<◌, ◌≤◌, List, [], ◌∷◌, ◌++◌, Bool, true, false, ◌==◌, ◌&&◌, nat_lt, nat_le, if◌then◌else◌, length, refl, sym}
use Rattle.std.proofs.Common.{ap, subst, ◌∙◌, arith}
use Rattle.std.specs.List.{AllByRecursion, list_all, flat_map}
use Rattle.std.proofs.lemmas.Bool.Decides.{nat_tests}
use Rattle.lt_seq.specs.declared.event.Event.{Event}
use Rattle.lt_seq.specs.declared.event.Receipt.{Receipt}
use Rattle.lt_seq.specs.Table.{Setting}
use Rattle.lt_seq.specs.Questions.{receipts_of}
use Rattle.lt_seq.specs.Yard.{place_after}
use Rattle.lt_trace.specs.declared.line.Line.{Line}
use Rattle.lt_runner.specs.declared.release.Release.{Release}
use Rattle.lt_runner.specs.TurnView.{Turn, Seat}
use Rattle.lt_runner.specs.Turn.{Move, leaves, asks, waits, stops, escalates, grows, ends, frees, receipts_in}
use Rattle.lt_runner.specs.Plays.{Past, Stage, stage_after, stage_after_all, IsMove, MayFree, ArePlayed}
use Rattle.lt_runner.specs.Run.{is_before, begun, moves_before, IsListedRightly}
use Rattle.lt_runner.specs.Played.{Search, AreListed, IsAmong, IsPastAt, HasCome}

-- all of a transaction's receipts are within the history
pub receipts_within : (place txn : ℕ) (events : List Event) → AllByRecursion (λ r. r.place < place + length events) (receipts_of place txn events)
receipts_within place txn [] = tt
receipts_within place txn (e ∷ es) = by_test (e.txn == txn) (wider (receipts_of (place + 1) txn es) (receipts_within (place + 1) txn es))
  where
    wider : (rs : List Receipt) → AllByRecursion (λ r. r.place < (place + 1) + length es) rs → AllByRecursion (λ r. r.place < place + suc (length es)) rs
    wider [] all = tt
    wider (r ∷ rs) all = (omega (arith, all.0), wider rs all.1)

    by_test : (b : Bool) → AllByRecursion (λ r. r.place < place + suc (length es)) (receipts_of (place + 1) txn es) →
        AllByRecursion (λ r. r.place < place + suc (length es)) (if b then record { place = place; event = e } ∷ receipts_of (place + 1) txn es else receipts_of (place + 1) txn es)
    by_test true rest = (omega arith, rest)
    by_test false rest = rest

split_all : (P : Receipt → Type 0) (xs ys : List Receipt) → AllByRecursion P (xs ++ ys) → AllByRecursion P xs × AllByRecursion P ys
split_all P [] ys all = (tt, all)
split_all P (x ∷ xs) ys all = let rest = split_all P xs ys all.1 in ((all.0, rest.0), rest.1)

below : (n place : ℕ) → n < place → nat_lt n place ≡ true
below n place less = grind (arith, nat_tests)

within : (n place : ℕ) → n ≤ place → nat_le n place ≡ true
within n place le = grind (arith, nat_tests)

all_below : (place : ℕ) (rs : List Receipt) → AllByRecursion (λ r. r.place < place) rs → list_all (λ (r : Receipt). nat_lt r.place place) rs ≡ true
all_below place [] all = refl
all_below place (r ∷ rs) all = ap (λ (b : Bool). b && list_all (λ (s : Receipt). nat_lt s.place place) rs) (below r.place place all.0) ∙ all_below place rs all.1

no_stop : (since : ℕ) (rs : List Release) (joins : List Receipt) (p rows : ℕ) → MayFree since rs (stops joins p rows) → ⊥
no_stop since [] joins p rows may = may
no_stop since (r ∷ rs) joins p rows may = may

-- a move of the history is before each place behind it
move_before : (crew : Bool) (setting : Setting) (history : List Event) (stage : Stage) (lines : List Line) (move : Move) (place : ℕ) →
    IsMove crew setting history stage lines move → AllByRecursion (λ r. r.place < place) (receipts_in move) →
    place_after setting history ≤ place → is_before place move ≡ true
move_before crew setting history stage lines (leaves joins) place may all le = all_below place joins all
move_before crew setting history stage lines (asks joins ask) place may all le = below ask.place place (split_all (λ r. r.place < place) joins (ask ∷ []) all).1.0
move_before crew setting history stage lines (waits joins ask wishes found) place may all le = all_below place (ask ∷ found) (split_all (λ r. r.place < place) joins (ask ∷ found) all).1
move_before crew setting history stage [] (stops joins p rows) place may all le = absurd (no_stop stage.past.since stage.turn.releases joins p rows may)
move_before crew setting history stage (line ∷ lines) (stops joins p rows) place may all le = let high = may.0.high in within p place (omega (arith, le, high))
move_before crew setting history stage lines (escalates join) place may all le = below join.place place all.0
move_before crew setting history stage lines grows place may all le = refl
move_before crew setting history stage lines ends place may all le = refl
move_before crew setting history stage lines (frees free) place may all le = below free.place place all.0

all_before : (crew : Bool) (setting : Setting) (history : List Event) (stage : Stage) (moves : List Move) (place : ℕ) → ArePlayed crew setting history stage moves →
    AllByRecursion (λ r. r.place < place) (flat_map receipts_in moves) →
    place_after setting history ≤ place → moves_before place moves ≡ moves
all_before crew setting history stage [] place played all le = refl
all_before crew setting history stage (m ∷ ms) place played all le =
    let parts = split_all (λ r. r.place < place) (receipts_in m) (flat_map receipts_in ms) all in
    ap (λ (b : Bool). if b then m ∷ moves_before place ms else begun place m) (move_before crew setting history stage stage.turn.lines m place played.0 parts.0 le)
    ∙ ap (λ (l : List Move). m ∷ l) (all_before crew setting history (stage_after stage m) ms place played.1 parts.1 le)

listed_one : (crew : Bool) (searches : List Search) (s : Search) (opening : Stage) (moves : List Move) → AreListed crew searches opening moves →
    (s.txn ≢ opening.turn.txn → IsListedRightly crew (stage_after_all opening (moves_before s.place moves)) s.wishes) → AreListed crew (searches ++ s ∷ []) opening moves
listed_one crew [] s opening moves listed one = (one, tt)
listed_one crew (x ∷ xs) s opening moves listed one = (listed.0, listed_one crew xs s opening moves listed.1 one)

pub contains_more : (xs ys : List Search) (s : Search) → Contains xs s → Contains (xs ++ ys) s
contains_more [] ys s (k, inside, is) = absurd (omega (arith, inside))
contains_more (x ∷ xs) ys s (zero, inside, is) = (zero, omega arith, is)
contains_more (x ∷ xs) ys s (suc k, inside, is) = let (j, there, same) = contains_more xs ys s (k, omega (arith, inside), is) in (suc j, omega (arith, there), same)

among_more : (searches more : List Search) (txn : ℕ) (move : Move) → IsAmong searches txn move → IsAmong (searches ++ more) txn move
among_more searches more txn (leaves joins) among = tt
among_more searches more txn (asks joins ask) among = tt
among_more searches more txn (waits joins ask wishes found) among = contains_more searches more _ among
among_more searches more txn (stops joins place rows) among = tt
among_more searches more txn (escalates join) among = tt
among_more searches more txn grows among = tt
among_more searches more txn ends among = tt
among_more searches more txn (frees free) among = tt

all_among : (searches more : List Search) (txn : ℕ) (moves : List Move) → AllByRecursion (IsAmong searches txn) moves → AllByRecursion (IsAmong (searches ++ more) txn) moves
all_among searches more txn [] all = tt
all_among searches more txn (m ∷ ms) all = (among_more searches more txn m all.0, all_among searches more txn ms all.1)

-- where a search begins, behind all of the history, each other transaction need be listed as it is now
pub search_more : (crew : Bool) (setting : Setting) (searches : List Search) (s : Search) (history : List Event) (opening : Stage) (seat : Seat)
    (receipts : List Receipt) → place_after setting history ≤ s.place →
    AllByRecursion (λ r. r.place < place_after setting history) receipts →
    (s.txn ≢ opening.turn.txn → (past : Past) → IsPastAt crew setting history seat past → IsListedRightly crew (record { turn = seat.turn; past = past }) s.wishes) →
    HasCome crew setting searches history opening seat receipts → HasCome crew setting (searches ++ s ∷ []) history opening seat receipts
search_more crew setting searches s history opening seat receipts le inside rightly come = record {
  moves = come.moves;
  played = come.played;
  inside = come.inside;
  listed = listed_one crew searches s opening come.moves come.listed (λ other.
      let all : AllByRecursion (λ r. r.place < place_after setting history) (flat_map receipts_in come.moves) =
      subst (AllByRecursion (λ (r : Receipt). r.place < place_after setting history)) (sym come.made) inside in
      subst (λ (ms : List Move). IsListedRightly crew (stage_after_all opening ms) s.wishes)
      (sym (all_before crew setting history opening come.moves s.place come.played (wider (flat_map receipts_in come.moves) all) le))
      (subst (λ (t : Turn). IsListedRightly crew (record { turn = t; past = (stage_after_all opening come.moves).past }) s.wishes) (sym come.here)
      (rightly other (stage_after_all opening come.moves).past come.past)));
  own = all_among searches (s ∷ []) opening.turn.txn come.moves come.own;
  here = come.here;
  past = come.past;
  made = come.made;
}
  where
    wider : (rs : List Receipt) → AllByRecursion (λ r. r.place < place_after setting history) rs → AllByRecursion (λ r. r.place < s.place) rs
    wider [] all = tt
    wider (r ∷ rs) all = (omega (arith, all.0, le), wider rs all.1)
