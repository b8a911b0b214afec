-- A turn of the plain scheduler is what its transaction has come to, with the lines of the trace that are still to come behind its own.
use Rattle.std.proofs.Common.{◌≡◌, ◌≢◌, ℕ, ◌+◌, ◌≤◌, List, [], ◌∷◌, ◌++◌, Bool, true, false, ◌==◌, ◌||◌, not, if◌then◌else◌, Option, Some, None, IfSome, is_some, IsTrue, length, ◌⊎◌}
use Rattle.std.proofs.Common.{inl, inr, refl, sym, ap, subst, ◌∙◌, arith, append-nil, append_assoc, eq-eqb}
use Rattle.std.specs.List.{list_any, filter}
use Rattle.std.proofs.lemmas.Bool.Decides.{nat_tests}
use Rattle.lt_ranges.specs.Interval.{Interval}
use Rattle.lt_seq.specs.declared.event.Reply.{Reply}
use Rattle.lt_seq.specs.declared.event.Reply.TheVariants.{Granted, Buffered, HeldBy}
use Rattle.lt_seq.specs.declared.event.Event.{Event}
use Rattle.lt_seq.specs.declared.event.Receipt.{Receipt}
use Rattle.lt_seq.specs.Table.{Setting}
use Rattle.lt_seq.specs.Yard.{place_after}
use Rattle.lt_seq.specs.Questions.{question, receipts_of, events_of}
use Rattle.lt_trace.specs.declared.line.Line.{Line}
use Rattle.lt_trace.specs.declared.line.LineDeed.{LineDeed}
use Rattle.lt_trace.specs.declared.line.LineDeed.TheVariants.{Try, Lock, End, Abort, Escalate, Big}
use Rattle.lt_trace.specs.Grammar.{is_last}
use Rattle.lt_requests.specs.declared.wish.Wish.{Wish}
use Rattle.lt_requests.specs.declared.cycle.Edge.{Edge}
use Rattle.lt_history.specs.declared.outcome.Outcome.{Outcome}
use Rattle.lt_runner.specs.TurnView.{Turn}
use Rattle.lt_runner.specs.Turn.{Move, leaves, asks, waits, stops, escalates, grows, ends, frees, turn_after, asked_at, answered_by, locked_by, reply_in}
use Rattle.lt_runner.specs.Plays.{Past, Stage, MayDo, is_ask, is_big, line_question, opening_stage, lines_for, end_of, with_end, next_wish, wish_in}
use Rattle.lt_runner.specs.Run.{IsListedRightly}
use Rattle.lt_runner.specs.Played.{HasCome, MovesBy, Search, IsAmong, Fits, IsAtLock}
use Rattle.lt_runner.specs.Steps.{IsSteady}
use Rattle.lt_runner.proofs.ChoiceLaws.{on_true, on_false}
use Rattle.lt_runner.proofs.CallLaws.{AreCalls, AreOwn, receipts_of_calls, none_of_calls, receipts_of-append}
use Rattle.lt_runner.proofs.ComeLaws.{come_stays, come_more}
use Rattle.lt_runner.proofs.SearchLaws.{at_line_opening}
use Rattle.lt_runner.proofs.ListedLaws.{search_more, receipts_within}
use Rattle.lt_runner.proofs.WishLaws.{wish_of}
use Rattle.lt_runner.proofs.AttemptLaws.{seat_at, at_lines}

-- The lines that are left.

abbrev pub to_come : ℕ → List Line → List Line
to_come txn left = filter (λ line. line.txn == txn) left

-- the turn with the lines that are left, where it goes on
abbrev pub in_play : List Line → Turn → Turn
in_play left turn = if is_some turn.outcome then turn else record turn { lines = with_end turn.txn (turn.lines ++ to_come turn.txn left) }

-- what is left behind a line
abbrev pub lines_behind : ℕ → LineDeed → List Line → List Line
lines_behind txn deed lines = if is_last deed then lines else with_end txn lines

pub with_end_behind : (txn : ℕ) (line : Line) (lines : List Line) → with_end txn (line ∷ lines) ≡ line ∷ lines_behind txn line.deed lines
with_end_behind txn line lines = by_tests (is_last line.deed) (list_any (λ (l : Line). is_last l.deed) lines)
  where
    by_tests : (last any : Bool) → (if last || any then line ∷ lines else line ∷ lines ++ end_of txn ∷ []) ≡ line ∷ (if last then lines else if any then lines else lines ++ end_of txn ∷ [])
    by_tests true any = refl
    by_tests false true = refl
    by_tests false false = refl

false_true : {X : Type 0} → false ≡ true → X
false_true e = absurd cc

answered_in_play : (left : List Line) (turn : Turn) (line : Line) (lines : List Line) (tree : ℕ) (range : Interval) (reply : Reply) →
    answered_by tree range reply (at_lines turn (line ∷ with_end turn.txn (lines ++ to_come turn.txn left))) ≡ in_play left (answered_by tree range reply (at_lines turn (line ∷ lines)))
answered_in_play left turn line lines tree range Granted = refl
answered_in_play left turn line lines tree range Buffered = refl
answered_in_play left turn line lines tree range (HeldBy owners) = refl

locked_in_play : (left : List Line) (turn : Turn) (line : Line) (lines : List Line) (tree : ℕ) (range : Interval) (reply : Reply) (walk : Option (List Edge)) → is_last line.deed ≡ false →
    locked_by tree range reply walk (at_lines turn (line ∷ with_end turn.txn (lines ++ to_come turn.txn left))) ≡ in_play left (locked_by tree range reply walk (at_lines turn (line ∷ lines)))
locked_in_play left turn line lines tree range Granted walk goes = refl
locked_in_play left turn line lines tree range Buffered walk goes = refl
locked_in_play left turn line lines tree range (HeldBy owners) None goes =
    let rest = lines ++ to_come turn.txn left in
    let same : with_end turn.txn (line ∷ rest) ≡ line ∷ with_end turn.txn rest =
    with_end_behind turn.txn line rest ∙ ap (λ (ls : List Line). line ∷ ls) (on_false (is_last line.deed) rest (with_end turn.txn rest) goes) in
    ap (λ (ls : List Line). record (at_lines turn ls) { waits = true }) (sym same)
locked_in_play left turn line lines tree range (HeldBy owners) (Some walk) goes = refl

asked_in_play : (left : List Line) (turn : Turn) (line : Line) (lines : List Line) (reply : Reply) (walk : Option (List Edge)) (deed : LineDeed) → is_ask deed ≡ true →
    asked_at (record line { deed = deed } ∷ lines_behind turn.txn deed (lines ++ to_come turn.txn left)) reply walk
    (at_lines turn (record line { deed = deed } ∷ lines_behind turn.txn deed (lines ++ to_come turn.txn left)))
    ≡ in_play left (asked_at (record line { deed = deed } ∷ lines) reply walk (at_lines turn (record line { deed = deed } ∷ lines)))
asked_in_play left turn line lines reply walk (Try tree range) asking = answered_in_play left turn (record line { deed = Try tree range }) lines tree range reply
asked_in_play left turn line lines reply walk (Lock tree range) asking = locked_in_play left turn (record line { deed = Lock tree range }) lines tree range reply walk refl
asked_in_play left turn line lines reply walk End asking = false_true asking
asked_in_play left turn line lines reply walk Abort asking = false_true asking
asked_in_play left turn line lines reply walk (Escalate tree) asking = false_true asking
asked_in_play left turn line lines reply walk Big asking = false_true asking

-- a move does the same to the turn and to the turn with all its lines
after_in_play : (setting : Setting) (history : List Event) (past : Past) (old : Turn) (left : List Line) (turn : Turn) (line : Line) (lines : List Line) (deed : LineDeed)
    (move : Move) → MayDo false setting history (record { turn = old; past = past }) deed move →
    turn_after (at_lines turn (record line { deed = deed } ∷ lines_behind turn.txn deed (lines ++ to_come turn.txn left))) move
    ≡ in_play left (turn_after (at_lines turn (record line { deed = deed } ∷ lines)) move)
after_in_play setting history past old left turn line lines deed (leaves joins) may = false_true may.0
after_in_play setting history past old left turn line lines deed (asks joins ask) may = asked_in_play left turn line lines (reply_in ask.event.deed) None deed may.1
after_in_play setting history past old left turn line lines deed (waits joins ask wishes found) may = asked_in_play left turn line lines (reply_in ask.event.deed) _ deed may.1
after_in_play setting history past old left turn line lines deed (stops joins place rows) may = refl
after_in_play setting history past old left turn line lines deed (escalates join) may = by_deed deed may.0 may.1
  where
    by_deed : (d : LineDeed) → not (is_ask d) ≡ true → line_question d ≡ Some (question join.event.deed) →
        turn_after (at_lines turn (record line { deed = d } ∷ lines_behind turn.txn d (lines ++ to_come turn.txn left))) (escalates join)
        ≡ in_play left (turn_after (at_lines turn (record line { deed = d } ∷ lines)) (escalates join))
    by_deed (Try tree range) e q = false_true e
    by_deed (Lock tree range) e q = false_true e
    by_deed End e q = absurd cc
    by_deed Abort e q = absurd cc
    by_deed (Escalate tree) e q = refl
    by_deed Big e q = absurd cc
after_in_play setting history past old left turn line lines deed grows may = by_deed deed may
  where
    by_deed : (d : LineDeed) → is_big d ≡ true → turn_after (at_lines turn (record line { deed = d } ∷ lines_behind turn.txn d (lines ++ to_come turn.txn left))) grows
        ≡ in_play left (turn_after (at_lines turn (record line { deed = d } ∷ lines)) grows)
    by_deed (Try tree range) e = false_true e
    by_deed (Lock tree range) e = false_true e
    by_deed End e = false_true e
    by_deed Abort e = false_true e
    by_deed (Escalate tree) e = false_true e
    by_deed Big e = refl
after_in_play setting history past old left turn line lines deed ends may = by_deed deed may
  where
    by_deed : (d : LineDeed) → is_last d ≡ true → turn_after (at_lines turn (record line { deed = d } ∷ lines_behind turn.txn d (lines ++ to_come turn.txn left))) ends
        ≡ in_play left (turn_after (at_lines turn (record line { deed = d } ∷ lines)) ends)
    by_deed (Try tree range) e = false_true e
    by_deed (Lock tree range) e = false_true e
    by_deed End e = refl
    by_deed Abort e = refl
    by_deed (Escalate tree) e = false_true e
    by_deed Big e = false_true e
after_in_play setting history past old left turn line lines deed (frees free) may = absurd may

-- a turn that goes on
none_of : (o : Option Outcome) → is_some o ≡ false → o ≡ None
none_of None e = refl
none_of (Some o) e = false_true (sym e)

pub open_is : (turn : Turn) (lines : List Line) → is_some turn.outcome ≡ false → turn.lines ≡ lines → turn ≡ at_lines turn lines
open_is turn lines goes same = ap (λ (ls : List Line). record turn { lines = ls }) same ∙ ap (λ (o : Option Outcome). record turn { lines = lines; outcome = o }) (none_of turn.outcome goes)

pub in_play_open : (left : List Line) (turn : Turn) (line : Line) (lines : List Line) → is_some turn.outcome ≡ false → turn.lines ≡ line ∷ lines →
    in_play left turn ≡ at_lines turn (line ∷ lines_behind turn.txn line.deed (lines ++ to_come turn.txn left))
in_play_open left turn line lines goes same =
    ap (in_play left) (open_is turn (line ∷ lines) goes same) ∙ ap (at_lines turn) (with_end_behind turn.txn line (lines ++ to_come turn.txn left))

pub in_play_over : (left : List Line) (turn : Turn) → is_some turn.outcome ≡ true → in_play left turn ≡ turn
in_play_over left turn ended = on_true (is_some turn.outcome) turn _ ended

pub in_play_after : (setting : Setting) (history : List Event) (past : Past) (old : Turn) (left : List Line) (turn : Turn) (line : Line) (lines : List Line)
    (move : Move) → is_some turn.outcome ≡ false → turn.lines ≡ line ∷ lines →
    MayDo false setting history (record { turn = old; past = past }) line.deed move →
    turn_after (at_lines turn (line ∷ lines_behind turn.txn line.deed (lines ++ to_come turn.txn left))) move ≡ in_play left (turn_after turn move)
in_play_after setting history past old left turn line lines move goes same may =
    after_in_play setting history past old left turn line lines line.deed move may ∙ ap (λ (t : Turn). in_play left (turn_after t move)) (sym (open_is turn (line ∷ lines) goes same))

in_play_txn : (left : List Line) (turn : Turn) → (in_play left turn).txn ≡ turn.txn
in_play_txn left turn = by_test (is_some turn.outcome)
  where
    by_test : (b : Bool) → (if b then turn else record turn { lines = with_end turn.txn (turn.lines ++ to_come turn.txn left) }).txn ≡ turn.txn
    by_test true = refl
    by_test false = refl

-- it waits for the same
wish_in_play : (setting : Setting) (left : List Line) (turn : Turn) → IsSteady setting turn → wish_of (in_play left turn) ≡ wish_of turn
wish_in_play setting left turn steady = by_outcome (is_some turn.outcome) refl
  where
    at_lock : (lines : List Line) → IsAtLock lines → next_wish turn.txn (with_end turn.txn (lines ++ to_come turn.txn left)) ≡ next_wish turn.txn lines
    at_lock [] lock = absurd lock
    at_lock (line ∷ lines) lock = ap (next_wish turn.txn) (with_end_behind turn.txn line (lines ++ to_come turn.txn left))

    by_waiting : (b : Bool) → turn.waits ≡ b → (if b then next_wish turn.txn (with_end turn.txn (turn.lines ++ to_come turn.txn left)) else None) ≡ (if b then next_wish turn.txn turn.lines else None)
    by_waiting true held = at_lock turn.lines (steady.held held)
    by_waiting false held = refl

    by_outcome : (b : Bool) → is_some turn.outcome ≡ b → wish_of (if b then turn else record turn { lines = with_end turn.txn (turn.lines ++ to_come turn.txn left) }) ≡ wish_of turn
    by_outcome true ended = refl
    by_outcome false goes = by_waiting turn.waits refl

-- What it has come to.

pub record Comes (setting : Setting) (lines left : List Line) (searches : List Search) (events : List Event) (turn : Turn) : Type 0 where
  pub come : HasCome false setting searches events (opening_stage setting turn.txn (lines_for turn.txn lines)) (seat_at (in_play left turn)) (receipts_of setting.plan.first turn.txn events)

-- another is listed as it is now
rightly : (stage : Stage) (wishes : List Wish) (waiting : Bool) → stage.turn.waits ≡ waiting → wish_in stage.turn.txn wishes ≡ (if waiting then next_wish stage.turn.txn stage.turn.lines else None) →
    (stage.turn.waits ≡ false → stage.past.held ≡ 0) → IsListedRightly false stage wishes
rightly stage wishes true waiting same held = record {
  waits = by_wish (wish_in stage.turn.txn wishes) refl;
  listed = λ h. same;
}
  where
    by_wish : (o : Option Wish) → wish_in stage.turn.txn wishes ≡ o → IfSome o (λ wish. IsTrue stage.turn.waits × (next_wish stage.turn.txn stage.turn.lines ≡ Some wish))
    by_wish None e = tt
    by_wish (Some wish) e = (waiting, sym same ∙ e)
rightly stage wishes false waiting same held = record {
  waits = subst (λ (o : Option Wish). IfSome o (λ wish. IsTrue stage.turn.waits × (next_wish stage.turn.txn stage.turn.lines ≡ Some wish))) (sym same) tt;
  listed = λ h. absurd (omega (arith, h, held waiting));
}

-- a search of this transaction begins, behind all of the history
pub comes_searched : (setting : Setting) (lines left : List Line) (searches : List Search) (s : Search) (events : List Event) (turn : Turn) →
    place_after setting events ≤ s.place → IsSteady setting turn →
    (s.txn ≢ turn.txn → wish_in turn.txn s.wishes ≡ wish_of turn) → Comes setting lines left searches events turn → Comes setting lines left (searches ++ s ∷ []) events turn
comes_searched setting lines left searches s events turn le steady wish comes = record {
  come = search_more false setting searches s events (opening_stage setting turn.txn (lines_for turn.txn lines)) (seat_at (in_play left turn))
      (receipts_of setting.plan.first turn.txn events) le (receipts_within setting.plan.first turn.txn events)
      (λ other past fits. rightly (record { turn = in_play left turn; past = past }) s.wishes (in_play left turn).waits refl
      (ap (λ (n : ℕ). wish_in n s.wishes) (in_play_txn left turn) ∙ wish other ∙ sym (wish_in_play setting left turn steady)) fits.held) comes.come;
}

-- others act
pub comes_stays : (setting : Setting) (lines left : List Line) (searches : List Search) (events more : List Event) (turn : Turn) (other : ℕ) → AreOwn other more → turn.txn ≢ other →
    Comes setting lines left searches events turn → Comes setting lines left searches (events ++ more) turn
comes_stays setting lines left searches events more turn other own differs comes =
    let first = setting.plan.first in
    let same : receipts_of first turn.txn (events ++ more) ≡ receipts_of first turn.txn events =
    receipts_of-append first turn.txn events more ∙ ap (λ (rs : List Receipt). receipts_of first turn.txn events ++ rs)
    (none_of_calls (first + length events) turn.txn other more own differs) ∙ append-nil (receipts_of first turn.txn events) in
    record {
      come = subst (λ (rs : List Receipt). HasCome false setting searches (events ++ more) (opening_stage setting turn.txn (lines_for turn.txn lines)) (seat_at (in_play left turn)) rs) (sym same)
          (come_stays false setting searches events more (opening_stage setting turn.txn (lines_for turn.txn lines)) (seat_at (in_play left turn)) (receipts_of first turn.txn events) comes.come);
    }

-- a move of its own
pub comes_moved : (setting : Setting) (lines left : List Line) (searches found : List Search) (events : List Event) (turn new : Turn) (made : List Receipt)
    (move : Move) → Fits searches found (place_after setting events) turn.txn → IsAmong found turn.txn move →
    new.txn ≡ turn.txn → AreCalls setting turn.txn events made → MovesBy false setting events (events ++ events_of made) (seat_at (in_play left turn)) (seat_at (in_play left new)) made move →
    Comes setting lines left searches events turn → Comes setting lines left searches (events ++ events_of made) new
comes_moved setting lines left searches found events turn new made move fits among same calls moves comes =
    let first = setting.plan.first in
    let opening = opening_stage setting turn.txn (lines_for turn.txn lines) in
    let grown : receipts_of first turn.txn events ++ made ≡ receipts_of first turn.txn (events ++ events_of made) =
    ap (λ (rs : List Receipt). receipts_of first turn.txn events ++ rs) (sym (receipts_of_calls setting turn.txn events (first + length events) made calls refl))
    ∙ sym (receipts_of-append first turn.txn events (events_of made)) in
    record {
      come = subst (λ (n : ℕ). HasCome false setting searches (events ++ events_of made) (opening_stage setting n (lines_for n lines)) (seat_at (in_play left new))
          (receipts_of first n (events ++ events_of made))) (sym same)
          (subst (λ (rs : List Receipt). HasCome false setting searches (events ++ events_of made) opening (seat_at (in_play left new)) rs) grown
          (come_more false setting searches found events (events_of made) opening (seat_at (in_play left turn)) (seat_at (in_play left new))
          (receipts_of first turn.txn events) made move (at_line_opening setting turn.txn (lines_for turn.txn lines)) fits among comes.come moves));
    }

-- the same turn with its lines told apart otherwise
pub comes_same : (setting : Setting) (lines left later : List Line) (searches : List Search) (events : List Event) (turn new : Turn) → new.txn ≡ turn.txn → in_play left turn ≡ in_play later new →
    Comes setting lines left searches events turn → Comes setting lines later searches events new
comes_same setting lines left later searches events turn new same lines_same comes = record {
  come = subst (λ (n : ℕ). HasCome false setting searches events (opening_stage setting n (lines_for n lines)) (seat_at (in_play later new)) (receipts_of setting.plan.first n events)) (sym same)
      (subst (λ (t : Turn). HasCome false setting searches events (opening_stage setting turn.txn (lines_for turn.txn lines)) (seat_at t)
      (receipts_of setting.plan.first turn.txn events)) lines_same comes.come);
}

-- Lines move from those to come to the turn's own.

to_come_other : (txn : ℕ) (line : Line) (left : List Line) → line.txn ≢ txn → to_come txn (line ∷ left) ≡ to_come txn left
to_come_other txn line left differs = on_false (line.txn == txn) _ _ (by_test (line.txn == txn) refl)
  where
    by_test : (b : Bool) → (line.txn == txn) ≡ b → (line.txn == txn) ≡ false
    by_test true e = absurd (differs (let same : line.txn ≡ txn = grind (arith, nat_tests) in same))
    by_test false e = e

pub play_other : (line : Line) (left : List Line) (turn : Turn) → line.txn ≢ turn.txn → in_play (line ∷ left) turn ≡ in_play left turn
play_other line left turn differs = ap (λ (ls : List Line). if is_some turn.outcome then turn else record turn { lines = with_end turn.txn (turn.lines ++ ls) })
    (to_come_other turn.txn line left differs)

pub play_taken : (line : Line) (left : List Line) (turn : Turn) → line.txn ≡ turn.txn →
    in_play (line ∷ left) turn ≡ in_play left (record turn { lines = turn.lines ++ line ∷ [] }) ⊎ (is_some turn.outcome ≡ true)
play_taken line left turn own = by_outcome (is_some turn.outcome) refl
  where
    lines_same : turn.lines ++ to_come turn.txn (line ∷ left) ≡ (turn.lines ++ line ∷ []) ++ to_come turn.txn left
    lines_same = ap (λ (ls : List Line). turn.lines ++ ls)
        (on_true (line.txn == turn.txn) (line ∷ to_come turn.txn left) (to_come turn.txn left) (eq-eqb line.txn turn.txn own))
        ∙ sym (append_assoc turn.lines (line ∷ []) (to_come turn.txn left))

    by_outcome : (b : Bool) → is_some turn.outcome ≡ b → in_play (line ∷ left) turn ≡ in_play left (record turn { lines = turn.lines ++ line ∷ [] }) ⊎ (is_some turn.outcome ≡ true)
    by_outcome true ended = inr ended
    by_outcome false goes = inl (
        on_false (is_some turn.outcome) turn _ goes
        ∙ ap (λ (ls : List Line). record turn { lines = with_end turn.txn ls }) lines_same
        ∙ sym (on_false (is_some turn.outcome) (record turn { lines = turn.lines ++ line ∷ [] }) _ goes)
        )

-- the end line of a transaction that had none
pub play_ended : (turn : Turn) → turn.lines ≡ [] → is_some turn.outcome ≡ false → in_play [] turn ≡ in_play [] (record turn { lines = turn.lines ++ end_of turn.txn ∷ [] })
play_ended turn none goes =
    ap (in_play []) (open_is turn [] goes none) ∙ ap (λ (t : Turn). in_play [] (record t { lines = t.lines ++ end_of turn.txn ∷ [] })) (sym (open_is turn [] goes none))
