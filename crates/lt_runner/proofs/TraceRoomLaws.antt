-- A trace may be played on a board: its lines fit, its transactions have numbers, and there are places for its run.
use Rattle.std.proofs.Common.{◌≡◌, ℕ, ◌+◌, ◌*◌, ◌^◌, ◌<◌, ◌≤◌, List, [], ◌∷◌, ◌++◌, map, Bool, true, false, ◌==◌, ◌&&◌, not, nat_lt, nat_le, cond, if◌then◌else◌, Option, Some, None, length, refl, sym, ap, subst, ◌∙◌, arith, append_assoc, append-nil}
use Rattle.std.specs.List.{AllByRecursion, fold}
use Rattle.std.specs.Option.{option_or}
use Rattle.std.proofs.lemmas.Bool.Decides.{nat_tests}
use Rattle.std.proofs.lemmas.Nat.{mul-le}
use Rattle.lt_ranges.specs.Numbers.{with_number}
use Rattle.lt_seq.specs.declared.event.Event.{Event}
use Rattle.lt_seq.specs.Table.{Setting}
use Rattle.lt_trace.specs.declared.line.Line.{Line}
use Rattle.lt_trace.specs.declared.fault.TraceFault.{TraceFault}
use Rattle.lt_trace.specs.declared.fault.TraceFault.TheVariants as fault
use Rattle.lt_trace.specs.Trace.{TraceView}
use Rattle.lt_trace.specs.Grammar.{txns_of, IsTrace, IsBody, AreFaultless, has_begun, has_ended, most_txns, fault_of_deed, fault_of_turn, trees_in, whole}
use Rattle.lt_trace.proofs.TxnLaws.{txns_more}
use Rattle.lt_runner.specs.Seats.{opening_seat}
use Rattle.lt_runner.specs.Serial.{setting_of, game_of, most_of, opening_game, played}
use Rattle.lt_runner.specs.Steps.{IsFit}
use Rattle.lt_runner.specs.Board.{BoardView, Shows, HasRoom, game_on, numbers_on}
use Rattle.lt_runner.proofs.FitLaws.{fit_of_trace}
use Rattle.lt_runner.proofs.FewLaws.{few_events}
use Rattle.lt_runner.proofs.OrderLaws.{ascending_sorted}
use Rattle.lt_runner.proofs.TraceLaws.{few_lines}
use Rattle.lt_runner.proofs.WholeRunLaws.{opening_shows}

-- There are few transactions.

none_second : (a b : Option TraceFault) → option_or a b ≡ None → b ≡ None
none_second None b e = e
none_second (Some f) b e = absurd cc

one_more : (number : ℕ) (before : List Line) (line : Line) → fault_of_turn number before line.txn ≡ None → length (txns_of before) ≤ 1024 →
    length (txns_of (before ++ line ∷ [])) ≤ 1024
one_more number before line none few =
    let more = txns_more before line in
    by_end (has_ended line.txn before) (has_begun line.txn before) (nat_le most_txns (length (txns_of before))) refl none more
  where
    by_end : (a b d : Bool) → nat_le most_txns (length (txns_of before)) ≡ d →
        (if a then Some (fault.AfterEnd number) else if not b && d then Some (fault.TooManyTxns number) else None) ≡ None →
        length (txns_of (before ++ line ∷ [])) ≡ length (txns_of before) + cond b 0 1 → length (txns_of (before ++ line ∷ [])) ≤ 1024
    by_end true b d is e more = absurd cc
    by_end false true d is e more = omega (arith, more, few)
    by_end false false true is e more = absurd cc
    by_end false false false is e more = let low : length (txns_of before) < 1024 = grind (arith, nat_tests) in omega (arith, more, low)

few_after : (header : List ℕ) (before lines : List Line) → AreFaultless header before lines → length (txns_of before) ≤ 1024 →
    length (txns_of (before ++ lines)) ≤ 1024
few_after header before [] all few = subst (λ (ls : List Line). length (txns_of ls) ≤ 1024) (sym (append-nil before)) few
few_after header before (line ∷ lines) all few =
    let none = none_second (fault_of_deed line.number (trees_in header) line.deed) (fault_of_turn line.number before line.txn) all.0.says in
    subst (λ (ls : List Line). length (txns_of ls) ≤ 1024) (append_assoc before (line ∷ []) lines)
    (few_after header (before ++ line ∷ []) lines all.1 (one_more line.number before line none few))

few_in : (header : List ℕ) (lines : List Line) → IsBody header lines → length (txns_of lines) ≤ 1024
few_in header [] body = omega arith
few_in header (line ∷ lines) body = few_after header [] (line ∷ lines) body.1 (omega arith)

pub few_txns : (trace : TraceView) → IsTrace trace → length (txns_of trace.lines) ≤ 1024
few_txns trace is_trace = few_in (whole trace).header trace.lines is_trace.body

-- They have numbers.

all_with : (n : ℕ) (ns : List ℕ) → 1 ≤ n → AllByRecursion (λ m. 1 ≤ m) ns → AllByRecursion (λ m. 1 ≤ m) (with_number n ns)
all_with n [] one all = (one, tt)
all_with n (m ∷ ms) one all = by_tests (nat_lt n m) (n == m) (all_with n ms one all.1)
  where
    by_tests : (a b : Bool) → AllByRecursion (λ k. 1 ≤ k) (with_number n ms) →
        AllByRecursion (λ k. 1 ≤ k) (if a then n ∷ m ∷ ms else if b then m ∷ ms else m ∷ with_number n ms)
    by_tests true b rest = (one, all)
    by_tests false true rest = all
    by_tests false false rest = (all.0, rest)

all_in : (ns : List ℕ) (lines : List Line) → AllByRecursion (λ m. 1 ≤ m) ns → AllByRecursion (λ (l : Line). 1 ≤ l.txn) lines →
    AllByRecursion (λ m. 1 ≤ m) (fold (λ list n. with_number n list) ns (map (λ (l : Line). l.txn) lines))
all_in ns [] all some = all
all_in ns (line ∷ lines) all some = all_in (with_number line.txn ns) lines (all_with line.txn ns some.0 all) some.1

least_after : (header : List ℕ) (before lines : List Line) → AreFaultless header before lines →
    AllByRecursion (λ (l : Line). 1 ≤ l.txn) lines
least_after header before [] all = tt
least_after header before (line ∷ lines) all = (all.0.form.least, least_after header (before ++ line ∷ []) lines all.1)

least_in : (header : List ℕ) (lines : List Line) → IsBody header lines → AllByRecursion (λ (l : Line). 1 ≤ l.txn) lines
least_in header [] body = tt
least_in header (line ∷ lines) body = least_after header [] (line ∷ lines) body.1

pub numbered_txns : (trace : TraceView) → IsTrace trace → AllByRecursion (λ n. 1 ≤ n) (txns_of trace.lines)
numbered_txns trace is_trace = all_in [] trace.lines tt (least_in (whole trace).header trace.lines is_trace.body)

-- There is room.

pub most_is_low : (lines txns trees : ℕ) → lines ≤ 65536 → txns ≤ 1024 → trees ≤ 16 → most_of lines txns trees ≤ 144637053000
most_is_low lines txns trees few_l few_x few_t =
    let one = mul-le (2 * lines + 2 * txns + 2) (txns + 1) 133122 1025 (omega arith) (omega arith) in
    let two = mul-le ((2 * lines + 2 * txns + 2) * (txns + 1)) (2 * trees + txns + 4) (133122 * 1025) 1060 one (omega arith) in
    two

pub room_of_trace : (trace : TraceView) (first : ℕ) → IsTrace trace → first ≤ 2 ^ 38 →
    HasRoom (setting_of trace 1 first) (txns_of trace.lines) (game_of trace first)
room_of_trace trace first is_trace low =
    let header = is_trace.header in
    let trees : trace.trees ≤ 16 = omega arith in
    let txns = few_txns trace is_trace in
    let most = most_is_low (length trace.lines) (length (txns_of trace.lines)) trace.trees (few_lines trace is_trace) txns trees in
    let few = few_events trace first (fit_of_trace trace first is_trace) in
    record { places = omega (arith, most, few, txns, trees, low) }

-- All that a board asks.
pub record IsPlayable (setting : Setting) (lines : List Line) : Type 0 where
  pub fits : AllByRecursion (IsFit setting (txns_of lines)) lines
  pub numbered : AllByRecursion (λ n. 1 ≤ n) (txns_of lines)
  pub room : HasRoom setting (txns_of lines) (played setting (txns_of lines) lines)

pub playable : (trace : TraceView) (first : ℕ) (setting : Setting) (lines : List Line) → setting ≡ setting_of trace 1 first →
    lines ≡ trace.lines → IsTrace trace → first ≤ 2 ^ 38 → IsPlayable setting lines
playable trace first setting lines same all is_trace low =
    subst (λ (s : Setting). IsPlayable s lines) (sym same) (subst (IsPlayable (setting_of trace 1 first)) (sym all) (record {
      fits = fit_of_trace trace first is_trace;
      numbered = numbered_txns trace is_trace;
      room = room_of_trace trace first is_trace low;
    }))

-- The first board.

pub start_shows : (setting : Setting) (lines : List Line) (keys : List ℕ) (trees : ℕ) (events : List Event) (board : BoardView) →
    keys ≡ txns_of lines → trees ≡ setting.plan.trees → events ≡ [] →
    AllByRecursion (λ n. 1 ≤ n) (txns_of lines) → board ≡ record { seats = map (λ txn. opening_seat trees txn []) keys; registry = []; released = false } →
    Shows setting (txns_of lines) events board (opening_game setting (txns_of lines))
start_shows setting lines keys trees events board same wide fresh numbered is =
    let first : BoardView = record { seats = map (λ txn. opening_seat setting.plan.trees txn []) (txns_of lines); registry = []; released = false } in
    let here : board ≡ first =
    is ∙ ap (λ (ns : List ℕ). (let b : BoardView = record { seats = map (λ txn. opening_seat trees txn []) ns; registry = []; released = false } in b)) same
    ∙ ap (λ (n : ℕ). (let b : BoardView = record { seats = map (λ txn. opening_seat n txn []) (txns_of lines); registry = []; released = false } in b)) wide in
    subst (λ (es : List Event). Shows setting (txns_of lines) es board (opening_game setting (txns_of lines))) (sym fresh)
    (opening_shows setting (txns_of lines) board (ascending_sorted (map (λ (l : Line). l.txn) lines)) numbered here)

pub start_fresh : (setting : Setting) (txns : List ℕ) (events : List Event) (board : BoardView) →
    Shows setting txns events board (opening_game setting txns) →
    game_on events board ≡ opening_game setting (numbers_on board)
start_fresh setting txns events board shows = shows.game_is ∙ ap (opening_game setting) (sym shows.stands.order.numbers)

pub start_fits : (setting : Setting) (txns : List ℕ) (events : List Event) (board : BoardView) (lines : List Line) →
    Shows setting txns events board (opening_game setting txns) →
    AllByRecursion (IsFit setting txns) lines → AllByRecursion (IsFit setting (numbers_on board)) lines
start_fits setting txns events board lines shows fits = subst (λ (ns : List ℕ). AllByRecursion (IsFit setting ns) lines) (sym shows.stands.order.numbers) fits

pub start_room : (setting : Setting) (txns : List ℕ) (events : List Event) (board : BoardView) (lines : List Line) →
    Shows setting txns events board (opening_game setting txns) →
    HasRoom setting txns (played setting txns lines) → HasRoom setting (numbers_on board) (played setting (numbers_on board) lines)
start_room setting txns events board lines shows room = subst (λ (ns : List ℕ). HasRoom setting ns (played setting ns lines)) (sym shows.stands.order.numbers) room

pub all_played : (setting : Setting) (txns : List ℕ) (events new_events : List Event) (board new : BoardView) (lines : List Line) →
    Shows setting txns events board (opening_game setting txns) →
    Shows setting (numbers_on board) new_events new (played setting (numbers_on board) lines) → Shows setting txns new_events new (played setting txns lines)
all_played setting txns events new_events board new lines shows last =
    subst (λ (ns : List ℕ). Shows setting ns new_events new (played setting ns lines)) shows.stands.order.numbers last
