-- At a lock line a turn waits on, or is past the line behind its move; no move adds a line; and what one that waits holds is held by one that waits.
use Rattle.std.proofs.Common.{◌≡◌, ◌⊎◌, inl, inr, ℕ, suc, ◌<◌, ◌≤◌, List, [], ◌∷◌, ◌++◌, Bool, true, false, ◌==◌, if◌then◌else◌, Option, Some, None, length, refl, sym, ap, subst, ◌∙◌, arith, eq-eqb}
use Rattle.std.specs.List.{AllByRecursion}
use Rattle.std.proofs.lemmas.Bool.Decides.{nat_tests}
use Rattle.lt_ranges.specs.Interval.{Interval, whole}
use Rattle.lt_seq.specs.declared.event.Deed.TheVariants.{Ask, Free}
use Rattle.lt_seq.specs.declared.event.Reply.{Reply}
use Rattle.lt_seq.specs.declared.event.Reply.TheVariants.{Granted, Buffered, HeldBy}
use Rattle.lt_seq.specs.declared.event.Event.{Event}
use Rattle.lt_seq.specs.declared.event.Pair.{Pair}
use Rattle.lt_seq.specs.declared.event.Receipt.{Receipt}
use Rattle.lt_seq.specs.Table.{Setting}
use Rattle.lt_seq.specs.Passes.{numbers_from}
use Rattle.lt_seq.specs.Questions.{receipt_after, named_by}
use Rattle.lt_trace.specs.declared.line.Line.{Line}
use Rattle.lt_trace.specs.declared.line.LineDeed.{LineDeed}
use Rattle.lt_trace.specs.declared.line.LineDeed.TheVariants.{Try, Lock, End, Abort, Escalate, Big}
use Rattle.lt_requests.specs.declared.cycle.Edge.{Edge}
use Rattle.lt_requests.specs.declared.wish.Wish.{Wish}
use Rattle.lt_requests.specs.Search.{searched, wishes_of}
use Rattle.lt_runner.specs.TurnView.{Turn}
use Rattle.lt_runner.specs.Turn.{Move, leaves, asks, waits, stops, escalates, grows, ends, frees, receipts_in, turn_after, answered_by, walked, locked_by, asked_at, ended_at, rest_of, reply_in}
use Rattle.lt_runner.specs.Plays.{is_held}
use Rattle.lt_runner.specs.Serial.{Game, turn_of, is_waiting, line_move, does}
use Rattle.lt_runner.specs.Steps.{KeepsMoves}
use Rattle.lt_runner.specs.Due.{OverlapsOne, AreDue, IsDueReply, IsDueDeed}
use Rattle.lt_runner.proofs.ChoiceLaws.{on_true}
use Rattle.lt_runner.proofs.SteadyLaws.{turn_of_other, after_txn}
use Rattle.lt_runner.proofs.MoveLaws.{turn_after_does}
use Rattle.lt_runner.proofs.WishLaws.{wishes_at}
use Rattle.lt_runner.proofs.CaughtLaws.{ask_of, all_append, attempt_by, locked_after}
use Rattle.lt_runner.proofs.DueTurnLaws.{overlaps_whole}
use Rattle.lt_runner.proofs.DueGameLaws.{AllDue, AlwaysDue, joins_due, searched_due}

-- No move adds a line.

rest_fewer : (lines : List Line) → length (rest_of lines) ≤ length lines
rest_fewer [] = omega arith
rest_fewer (line ∷ lines) = omega arith

answered_fewer : (tree : ℕ) (range : Interval) (reply : Reply) (turn : Turn) →
    length (answered_by tree range reply turn).lines ≤ length turn.lines
answered_fewer tree range Granted turn = rest_fewer turn.lines
answered_fewer tree range Buffered turn = rest_fewer turn.lines
answered_fewer tree range (HeldBy owners) turn = rest_fewer turn.lines

walked_fewer : (walk : Option (List Edge)) (turn : Turn) → length (walked walk turn).lines ≤ length turn.lines
walked_fewer None turn = omega arith
walked_fewer (Some walk) turn = omega arith

locked_fewer : (tree : ℕ) (range : Interval) (reply : Reply) (walk : Option (List Edge)) (turn : Turn) →
    length (locked_by tree range reply walk turn).lines ≤ length turn.lines
locked_fewer tree range Granted walk turn = rest_fewer turn.lines
locked_fewer tree range Buffered walk turn = rest_fewer turn.lines
locked_fewer tree range (HeldBy owners) walk turn = walked_fewer walk turn

asked_fewer : (lines : List Line) (reply : Reply) (walk : Option (List Edge)) (turn : Turn) →
    length (asked_at lines reply walk turn).lines ≤ length turn.lines
asked_fewer [] reply walk turn = omega arith
asked_fewer (line ∷ lines) reply walk turn = by_deed line.deed
  where
    by_deed : (deed : LineDeed) → length (asked_at (record line { deed = deed } ∷ lines) reply walk turn).lines ≤ length turn.lines
    by_deed (Try tree range) = answered_fewer tree range reply turn
    by_deed (Lock tree range) = locked_fewer tree range reply walk turn
    by_deed End = omega arith
    by_deed Abort = omega arith
    by_deed (Escalate tree) = omega arith
    by_deed Big = omega arith

ended_fewer : (lines : List Line) (turn : Turn) → length (ended_at lines turn).lines ≤ length turn.lines
ended_fewer [] turn = omega arith
ended_fewer (line ∷ lines) turn = by_deed line.deed
  where
    by_deed : (deed : LineDeed) → length (ended_at (record line { deed = deed } ∷ lines) turn).lines ≤ length turn.lines
    by_deed (Try tree range) = omega arith
    by_deed (Lock tree range) = omega arith
    by_deed End = omega arith
    by_deed Abort = omega arith
    by_deed (Escalate tree) = omega arith
    by_deed Big = omega arith

after_fewer : (turn : Turn) (move : Move) → length (turn_after turn move).lines ≤ length turn.lines
after_fewer turn (leaves joins) = omega arith
after_fewer turn (asks joins ask) = asked_fewer turn.lines (reply_in ask.event.deed) None turn
after_fewer turn (waits joins ask wishes search_found) = asked_fewer turn.lines (reply_in ask.event.deed) _ turn
after_fewer turn (stops joins place rows) = omega arith
after_fewer turn (escalates join) = rest_fewer turn.lines
after_fewer turn grows = rest_fewer turn.lines
after_fewer turn ends = ended_fewer turn.lines turn
after_fewer turn (frees free) = omega arith

eq_of : (a b : ℕ) → (a == b) ≡ true → a ≡ b
eq_of a b e = grind (arith, nat_tests)

-- it has fewer lines left than so many
abbrev pub HasFewer : Setting → ℕ → ℕ → Game → Type 0
HasFewer setting txn count game = length (turn_of setting txn game.turns).lines < count

pub keeps_fewer : (setting : Setting) (txns : List ℕ) (txn count : ℕ) → KeepsMoves setting txns (HasFewer setting txn count)
keeps_fewer setting txns txn count = record {
  plays = λ game turn line lines at few. by_number game turn (line_move setting game turn line.deed) at.of_game.there
      (turn_after_does setting txns game turn (line_move setting game turn line.deed) at.of_game) (txn == turn.txn) refl few;
  gives = λ game turn r rs at few. by_number game turn (frees (receipt_after setting game.events 0 turn.txn (Free r.tree r.range r.first 0))) at.of_game.there
      (turn_after_does setting txns game turn (frees (receipt_after setting game.events 0 turn.txn (Free r.tree r.range r.first 0))) at.of_game) (txn == turn.txn) refl few;
  marks = λ game released few. few;
}
  where
    by_number : (game : Game) (turn : Turn) (move : Move) → turn_of setting turn.txn game.turns ≡ turn →
        turn_of setting turn.txn (does setting turn move game).turns ≡ turn_after turn move →
        (b : Bool) → (txn == turn.txn) ≡ b → HasFewer setting txn count game → HasFewer setting txn count (does setting turn move game)
    by_number game turn move there behind true e few =
        let same = eq_of txn turn.txn e in
        let was : length turn.lines < count = subst (λ (t : Turn). length t.lines < count) there (subst (λ (n : ℕ). HasFewer setting n count game) same few) in
        let is : length (turn_after turn move).lines < count = omega (arith, was, after_fewer turn move) in
        subst (λ (n : ℕ). HasFewer setting n count (does setting turn move game)) (sym same) (subst (λ (t : Turn). length t.lines < count) (sym behind) is)
    by_number game turn move there behind false e few =
        subst (λ (t : Turn). length t.lines < count)
        (sym (turn_of_other setting txn (turn_after turn move) game.turns (λ same. absurd (let k : false ≡ true = sym e ∙ eq-eqb txn turn.txn (same ∙ after_txn turn move) in cc)))) few

-- At a lock line a turn waits on, or is past it.
abbrev pub WaitsOrPast : Turn → Turn → Type 0
WaitsOrPast old new = (new ≡ record old { waits = true }) ⊎ (length new.lines < length old.lines)

none_less : (line : Line) (lines all : List Line) → all ≡ line ∷ lines → 0 < length all
none_less line lines all is = let e : length all ≡ suc (length lines) = ap length is in omega (arith, e)

rest_less : (line : Line) (lines all : List Line) → all ≡ line ∷ lines → length (rest_of all) < length all
rest_less line lines all is = subst (λ (ls : List Line). length (rest_of ls) < length ls) (sym is) (omega arith)

walked_past : (walk : Option (List Edge)) (turn : Turn) (line : Line) (lines : List Line) → turn.lines ≡ line ∷ lines →
    WaitsOrPast turn (walked walk turn)
walked_past None turn line lines next = inl refl
walked_past (Some walk) turn line lines next = inr (none_less line lines turn.lines next)

locked_past : (tree : ℕ) (range : Interval) (reply : Reply) (walk : Option (List Edge)) (turn : Turn) (line : Line) (lines : List Line) →
    turn.lines ≡ line ∷ lines →
    WaitsOrPast turn (locked_by tree range reply walk turn)
locked_past tree range Granted walk turn line lines next = inr (rest_less line lines turn.lines next)
locked_past tree range Buffered walk turn line lines next = inr (rest_less line lines turn.lines next)
locked_past tree range (HeldBy owners) walk turn line lines next = walked_past walk turn line lines next

pub lock_past : (setting : Setting) (game : Game) (turn : Turn) (line : Line) (lines : List Line) (tree : ℕ) (range : Interval) →
    turn.lines ≡ line ∷ lines → line.deed ≡ Lock tree range →
    WaitsOrPast turn (turn_after turn (line_move setting game turn (Lock tree range)))
lock_past setting game turn line lines tree range next locks =
    attempt_by (λ m. WaitsOrPast turn (turn_after turn m)) (λ joins. Unit {0}) setting game.turns turn true (Ask tree range Granted) game.events tt tt
    (λ joins mid none is. by_held (is_held (reply_in (ask_of setting mid turn.txn tree range).event.deed)) joins (ask_of setting mid turn.txn tree range) (wishes_at turn game.turns) _)
    (λ joins place rows none. inr (none_less line lines turn.lines next))
  where
    asked : (reply : Reply) (walk : Option (List Edge)) → WaitsOrPast turn (asked_at turn.lines reply walk turn)
    asked reply walk = subst (WaitsOrPast turn) (sym (locked_after line lines tree range reply walk turn next locks)) (locked_past tree range reply walk turn line lines next)

    by_held : (b : Bool) (joins : List Receipt) (ask : Receipt) (wishes : List Wish) (found : List Receipt) →
        WaitsOrPast turn (turn_after turn (if b then waits joins ask wishes found else asks joins ask))
    by_held true joins ask wishes found = asked (reply_in ask.event.deed) _
    by_held false joins ask wishes found = asked (reply_in ask.event.deed) None

-- The owners wait: each pair overlaps the whole, which its owner has where it waits.

abbrev pub waiting_due : Setting → Game → ℕ → ℕ → List Interval
waiting_due setting game tree owner = if is_waiting (turn_of setting owner game.turns) then whole ∷ [] else []

pub owners_due : (setting : Setting) (game : Game) (tree : ℕ) (pairs : List Pair) →
    AllByRecursion (λ p. is_waiting (turn_of setting p.owner game.turns) ≡ true) pairs →
    AreDue (waiting_due setting game tree) pairs
owners_due setting game tree [] all = tt
owners_due setting game tree (p ∷ ps) all = (
  subst (OverlapsOne p.range) (sym (on_true (is_waiting (turn_of setting p.owner game.turns)) (whole ∷ []) [] all.0)) (inl (overlaps_whole p.range)),
  owners_due setting game tree ps all.1,
)

pub due_waits : (setting : Setting) (game : Game) (tree owner : ℕ) (range : Interval) →
    OverlapsOne range (waiting_due setting game tree owner) → is_waiting (turn_of setting owner game.turns) ≡ true
due_waits setting game tree owner range some = by_test (is_waiting (turn_of setting owner game.turns)) some
  where
    by_test : (b : Bool) → OverlapsOne range (if b then whole ∷ [] else []) → b ≡ true
    by_test true h = refl
    by_test false h = absurd h

reply_due : (reply : Reply) (range : Interval) (ranges : List Interval) → OverlapsOne range ranges → IsDueReply reply range ranges
reply_due Granted range ranges some = some
reply_due Buffered range ranges some = some
reply_due (HeldBy owners) range ranges some = tt

-- whatever one that waits is granted
pub waiting_receipts : (setting : Setting) (old game : Game) (turn : Turn) (tree : ℕ) (range : Interval) →
    is_waiting (turn_of setting turn.txn old.turns) ≡ true →
    AllDue (waiting_due setting old) (receipts_in (line_move setting game turn (Lock tree range)))
waiting_receipts setting old game turn tree range held =
    attempt_by (λ m. AllDue (waiting_due setting old) (receipts_in m)) AlwaysDue setting game.turns turn true (Ask tree range Granted) game.events (λ D. tt)
    (joins_due setting turn.txn (numbers_from 0 setting.plan.trees) game.events)
    (λ joins mid always is. by_held joins mid always (is_held (reply_in (ask_of setting mid turn.txn tree range).event.deed)))
    (λ joins place rows always. always (waiting_due setting old))
  where
    one : (k : ℕ) → OverlapsOne range (waiting_due setting old k turn.txn)
    one k = subst (OverlapsOne range) (sym (on_true (is_waiting (turn_of setting turn.txn old.turns)) (whole ∷ []) [] held)) (inl (overlaps_whole range))

    by_held : (joins : List Receipt) (mid : List Event) → AlwaysDue joins → (b : Bool) →
        (let ask = ask_of setting mid turn.txn tree range in let wishes = wishes_at turn game.turns in
        AllDue (waiting_due setting old) (receipts_in (if b then waits joins ask wishes (searched setting turn.txn wishes wishes (mid ++ ask.event ∷ []) []
        (wishes_of (named_by (reply_in ask.event.deed)) wishes)) else asks joins ask)))
    by_held joins mid always true =
        let ask = ask_of setting mid turn.txn tree range in
        let wishes = wishes_at turn game.turns in
        all_append (λ r. IsDueDeed (waiting_due setting old) r.event.txn r.event.deed) joins _ (always (waiting_due setting old)) (
          reply_due (reply_in ask.event.deed) range (waiting_due setting old tree turn.txn) (one tree),
          searched_due setting turn.txn wishes wishes (mid ++ ask.event ∷ []) [] (wishes_of (named_by (reply_in ask.event.deed)) wishes) (waiting_due setting old),
        )
    by_held joins mid always false =
        let ask = ask_of setting mid turn.txn tree range in
        all_append (λ r. IsDueDeed (waiting_due setting old) r.event.txn r.event.deed) joins (ask ∷ []) (always (waiting_due setting old))
        (reply_due (reply_in ask.event.deed) range (waiting_due setting old tree turn.txn) (one tree), tt)
