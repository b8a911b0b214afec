-- What is due behind a transaction's moves at its lines, whatever others do between them.
use Rattle.std.proofs.Common.{◌≡◌, ℕ, ◌+◌, ◌<◌, List, [], ◌∷◌, ◌++◌, Bool}
use Rattle.std.proofs.Common.{true, false, ◌==◌, not, inl, if◌then◌else◌, IsTrue, Option, Some, None, is_some}
use Rattle.std.proofs.Common.{length, refl, sym, ap, subst}
use Rattle.std.proofs.Common.{arith, eq-eqb, append_assoc, get_or-set_same, get_or-set_other}
use Rattle.std.specs.List.{AllByRecursion}
use Rattle.lt_ranges.specs.Interval.{Interval, overlap, whole}
use Rattle.lt_seq.specs.declared.event.Deed.{Deed}
use Rattle.lt_seq.specs.declared.event.Deed.TheVariants.{Ask, Free, Who, Join}
use Rattle.lt_seq.specs.declared.event.Reply.{Reply}
use Rattle.lt_seq.specs.declared.event.Reply.TheVariants.{Granted, Buffered, HeldBy}
use Rattle.lt_seq.specs.declared.event.Event.{Event}
use Rattle.lt_seq.specs.declared.event.Receipt.{Receipt}
use Rattle.lt_seq.specs.Table.{Setting, TreeState, fresh, tree_at, tree_of, after_free, step, opening}
use Rattle.lt_seq.specs.History.{after, IsLegal, IsLegalFrom, IsNext}
use Rattle.lt_seq.specs.Questions.{question, named_in}
use Rattle.lt_seq.proofs.HistoryLaws.{after_more}
use Rattle.lt_seq.proofs.LawfulLaws.{lawful_history}
use Rattle.lt_trace.specs.declared.line.Line.{Line}
use Rattle.lt_trace.specs.declared.line.LineDeed.{LineDeed}
use Rattle.lt_trace.specs.declared.line.LineDeed.TheVariants.{Try, Lock, End, Abort, Escalate, Big}
use Rattle.lt_requests.specs.declared.wish.Wish.{Wish}
use Rattle.lt_requests.specs.declared.cycle.Edge.{Edge}
use Rattle.lt_requests.specs.Search.{IsSearch, question_for, new_wishes, wishes_of, edges_in}
use Rattle.lt_requests.specs.Walks.{cycle_of}
use Rattle.lt_runner.specs.TurnView.{Turn}
use Rattle.lt_runner.specs.Turn.{Move, leaves, asks, waits, stops, escalates, grows}
use Rattle.lt_runner.specs.Turn.{ends, frees, receipts_in, turn_after, reply_in, asked_at}
use Rattle.lt_runner.specs.Attempt.{AreOfTrees, AreJoins, IsAttempt}
use Rattle.lt_runner.specs.Plays.{Stage, MayDo}
use Rattle.lt_runner.specs.Plays.{line_question, is_ask}
use Rattle.lt_runner.specs.Steps.{IsSteady, IsFitDeed, IsFitLine}
use Rattle.lt_runner.specs.Due.{due_in, OverlapsOne, AreDue, IsDueReply, IsDueDeed}
use Rattle.lt_runner.proofs.ChoiceLaws.{on_true, on_false}
use Rattle.lt_runner.proofs.GrowLaws.{PairsAt}
use Rattle.lt_runner.proofs.DueLaws.{due_more, due_events, legal_next}
use Rattle.lt_runner.proofs.DueTurnLaws.{IsLineMove, due_answered, due_locked, overlaps_whole}
use Rattle.lt_runner.proofs.DueGameLaws.{eq_of, differ, after_free_due, not_overlapping}
use Rattle.lt_runner.proofs.StandingLaws.{line_goes}

-- What is to be given back: by one transaction these, by any other anything.
abbrev pub due_of : ℕ → Turn → ℕ → ℕ → List Interval
due_of txn turn tree owner = if owner == txn then due_in tree turn else whole ∷ []

pub own_due : (txn : ℕ) (turn : Turn) (tree owner : ℕ) → owner ≡ txn → due_of txn turn tree owner ≡ due_in tree turn
own_due txn turn tree owner same = on_true (owner == txn) (due_in tree turn) (whole ∷ []) (eq-eqb owner txn same)

other_due : (txn : ℕ) (turn : Turn) (tree owner : ℕ) → (owner == txn) ≡ false → due_of txn turn tree owner ≡ whole ∷ []
other_due txn turn tree owner apart = on_false (owner == txn) (due_in tree turn) (whole ∷ []) apart

-- where its own gives more
more_of : (txn : ℕ) (old new : Turn) → ((tree : ℕ) (range : Interval) → OverlapsOne range (due_in tree old) → OverlapsOne range (due_in tree new)) →
    (tree owner : ℕ) (range : Interval) → OverlapsOne range (due_of txn old tree owner) → OverlapsOne range (due_of txn new tree owner)
more_of txn old new more tree owner range = by_test (owner == txn)
  where
    by_test : (b : Bool) → OverlapsOne range (if b then due_in tree old else whole ∷ []) →
        OverlapsOne range (if b then due_in tree new else whole ∷ [])
    by_test true some = more tree range some
    by_test false some = some

-- A state of the walk: pairs are due behind these events.
abbrev pub DueBehind : Setting → ℕ → Turn → List Event → Type 0
DueBehind setting txn turn events = (tree : ℕ) → AreDue (due_of txn turn tree) (PairsAt (after setting events) tree)

pub due_grows : (setting : Setting) (txn : ℕ) (old new : Turn) (events : List Event) →
    ((tree : ℕ) (range : Interval) → OverlapsOne range (due_in tree old) → OverlapsOne range (due_in tree new)) →
    DueBehind setting txn old events → DueBehind setting txn new events
due_grows setting txn old new events more due tree = due_more (due_of txn old tree) (due_of txn new tree) (PairsAt (after setting events) tree)
    (λ owner range. more_of txn old new more tree owner range) (due tree)

pub legal_front : (setting : Setting) (before : List Event) (e : Event) (behind : List Event) → IsLegal setting (before ++ e ∷ behind) →
    IsLegal setting (before ++ e ∷ [])
legal_front setting before e behind legal = legal_first (before ++ e ∷ []) behind
    (subst (IsLegal setting) (sym (append_assoc before (e ∷ []) behind)) legal)
  where
    go : (trees : List TreeState) (xs ys : List Event) → IsLegalFrom setting trees (xs ++ ys) → IsLegalFrom setting trees xs
    go trees [] ys l = tt
    go trees (x ∷ xs) ys l = (l.0, go (step setting trees x) xs ys l.1)

    legal_first : (xs ys : List Event) → IsLegal setting (xs ++ ys) → IsLegal setting xs
    legal_first xs ys l = go (opening setting) xs ys l

-- an event that is no free
pub due_event : (setting : Setting) (txn : ℕ) (turn : Turn) (before : List Event) (e : Event) → IsLegal setting (before ++ e ∷ []) →
    IsDueDeed (due_of txn turn) e.txn e.deed →
    DueBehind setting txn turn before → DueBehind setting txn turn (before ++ e ∷ [])
due_event setting txn turn before e legal one due = due_events setting (due_of txn turn) before (record { place = 0; event = e } ∷ []) legal
    (one, tt) due

-- a free, by whom ever
pub due_free : (setting : Setting) (Old New : ℕ → ℕ → List Interval) (before : List Event) (pass txn tree : ℕ) (range : Interval) (first : Bool)
    (count : ℕ) →
    (let e : Event = record { pass = pass; txn = txn; deed = Free tree range first count } in IsLegal setting (before ++ e ∷ []) →
    ((k owner : ℕ) (r : Interval) → (k ≡ tree → owner ≡ txn → overlap r range ≡ false) → OverlapsOne r (Old k owner) → OverlapsOne r (New k owner)) →
    ((k : ℕ) → AreDue (Old k) (PairsAt (after setting before) k)) → (k : ℕ) → AreDue (New k) (PairsAt (after setting (before ++ e ∷ [])) k))
due_free setting Old New before pass txn tree range first count legal each due k =
    subst (λ (trees : List TreeState). AreDue (New k) (PairsAt trees k)) (sym (after_more setting before e)) (by_tree (k == tree) refl)
  where
    e : Event
    e = record { pass = pass; txn = txn; deed = Free tree range first count }

    trees_now : List TreeState
    trees_now = after setting before

    now : TreeState
    now = after_free txn range first (tree_at trees_now tree)

    next : IsLegal setting before × IsNext setting trees_now e
    next = legal_next setting before e [] legal

    inside : tree < length trees_now
    inside = let lawful = lawful_history setting before next.0 in omega (arith, next.1.tree, lawful.count)

    by_tree : (b : Bool) → (k == tree) ≡ b → AreDue (New k) (PairsAt (step setting trees_now e) k)
    by_tree true same =
        subst (λ (j : ℕ). AreDue (New j) (PairsAt (step setting trees_now e) j)) (sym (eq_of k tree same))
        (subst (λ (t : TreeState). AreDue (New tree) t.pairs) (sym (get_or-set_same trees_now tree now fresh inside))
        (after_free_due (Old tree) (New tree) txn range first (tree_at trees_now tree)
        (λ p apart. each tree p.owner p.range (λ is own. not_overlapping txn range p apart own)) (due tree)))
    by_tree false apart =
        subst (λ (t : TreeState). AreDue (New k) t.pairs) (sym (get_or-set_other trees_now tree k now fresh (differ k tree apart)))
        (due_more (Old k) (New k) (PairsAt trees_now k) (λ owner r. each k owner r (λ is own. absurd (differ k tree apart is))) (due k))

-- an event of another
pub due_others : (setting : Setting) (txn : ℕ) (turn : Turn) (before : List Event) (e : Event) → IsLegal setting (before ++ e ∷ []) →
    (e.txn == txn) ≡ false →
    DueBehind setting txn turn before → DueBehind setting txn turn (before ++ e ∷ [])
due_others setting txn turn before e legal apart due = by_deed e.deed refl
  where
    reply_due : (tree : ℕ) (range : Interval) (reply : Reply) → IsDueReply reply range (due_of txn turn tree e.txn)
    reply_due tree range Granted = subst (OverlapsOne range) (sym (other_due txn turn tree e.txn apart)) (inl (overlaps_whole range))
    reply_due tree range Buffered = subst (OverlapsOne range) (sym (other_due txn turn tree e.txn apart)) (inl (overlaps_whole range))
    reply_due tree range (HeldBy owners) = tt

    by_deed : (deed : Deed) → e.deed ≡ deed → DueBehind setting txn turn (before ++ e ∷ [])
    by_deed (Ask tree range reply) is = due_event setting txn turn before e legal
        (subst (IsDueDeed (due_of txn turn) e.txn) (sym is) (reply_due tree range reply)) due
    by_deed (Free tree range first count) is =
        let same : e ≡ record { pass = e.pass; txn = e.txn; deed = Free tree range first count } =
        ap (λ (d : Deed). (let x : Event = record e { deed = d } in x)) is in
        subst (λ (x : Event). DueBehind setting txn turn (before ++ x ∷ [])) (sym same)
        (due_free setting (due_of txn turn) (due_of txn turn) before e.pass e.txn tree range first count
        (subst (λ (x : Event). IsLegal setting (before ++ x ∷ [])) same legal) (λ k owner r some h. h) due)
    by_deed (Who tree range named owners) is = due_event setting txn turn before e legal (subst (IsDueDeed (due_of txn turn) e.txn) (sym is) tt) due
    by_deed (Join tree n m) is = due_event setting txn turn before e legal (subst (IsDueDeed (due_of txn turn) e.txn) (sym is) tt) due

-- Its own moves at a line.

abbrev pub range_in : Deed → Interval
range_in (Ask tree range reply) = range
range_in (Free tree range first count) = range
range_in (Who tree range named owners) = range
range_in (Join tree n m) = whole

ask_due : (Due : ℕ → ℕ → List Interval) (txn tree : ℕ) (range : Interval) (d : Deed) → question d ≡ Ask tree range Granted →
    IsDueReply (reply_in d) range (Due tree txn) → IsDueDeed Due txn d
ask_due Due txn tree range (Ask t r reply) is one =
    subst (λ (k : ℕ). IsDueReply reply r (Due k txn)) (sym (ap tree_of is))
    (subst (λ (i : Interval). IsDueReply reply i (Due tree txn)) (sym (ap range_in is)) one)
ask_due Due txn tree range (Free t r first count) is one = absurd (let k : Free t r first 0 ≡ Ask tree range Granted = is in cc)
ask_due Due txn tree range (Who t r named owners) is one = tt
ask_due Due txn tree range (Join t n m) is one = tt

join_due : (Due : ℕ → ℕ → List Interval) (txn tree : ℕ) (d : Deed) → question d ≡ Join tree 0 0 → IsDueDeed Due txn d
join_due Due txn tree (Ask t r reply) is = absurd (let k : Ask t r Granted ≡ Join tree 0 0 = is in cc)
join_due Due txn tree (Free t r first count) is = absurd (let k : Free t r first 0 ≡ Join tree 0 0 = is in cc)
join_due Due txn tree (Who t r named owners) is = tt
join_due Due txn tree (Join t n m) is = tt

who_due : (Due : ℕ → ℕ → List Interval) (txn : ℕ) (w : Wish) (d : Deed) → question d ≡ question_for w → IsDueDeed Due txn d
who_due Due txn w (Ask t r reply) is = absurd (let k : Ask t r Granted ≡ Who w.tree w.range w.txn [] = is in cc)
who_due Due txn w (Free t r first count) is = absurd (let k : Free t r first 0 ≡ Who w.tree w.range w.txn [] = is in cc)
who_due Due txn w (Who t r named owners) is = tt
who_due Due txn w (Join t n m) is = tt

abbrev pub AreDueOf : (ℕ → ℕ → List Interval) → ℕ → List Receipt → Type 0
AreDueOf Due txn rs = AllByRecursion (λ r. IsDueDeed Due txn r.event.deed) rs

joins_due : (Due : ℕ → ℕ → List Interval) (txn tree : ℕ) (joins : List Receipt) → AreOfTrees tree joins → AreDueOf Due txn joins
joins_due Due txn tree [] are = tt
joins_due Due txn tree (j ∷ js) are = (join_due Due txn tree j.event.deed are.0, joins_due Due txn (tree + 1) js are.1)

attempt_due : (Due : ℕ → ℕ → List Interval) (txn : ℕ) (setting : Setting) (history : List Event) (bar since : ℕ) (joins : List Receipt) (place : ℕ) →
    IsAttempt setting history bar since joins place → AreDueOf Due txn joins
attempt_due Due txn setting history bar since [] place at = tt
attempt_due Due txn setting history bar since (j ∷ js) place at = joins_due Due txn 0 (j ∷ js) at.0.1

made_due : (Due : ℕ → ℕ → List Interval) (txn : ℕ) (setting : Setting) (history : List Event) (bar since : ℕ) (joins : List Receipt) →
    AreJoins setting history bar since joins → AreDueOf Due txn joins
made_due Due txn setting history bar since [] at = tt
made_due Due txn setting history bar since (j ∷ js) at = joins_due Due txn 0 (j ∷ js) at.1

search_due : (Due : ℕ → ℕ → List Interval) (txn : ℕ) (wishes done listed : List Wish) (rs : List Receipt) → IsSearch txn wishes done listed rs →
    AreDueOf Due txn rs
search_due Due txn wishes done [] [] is = tt
search_due Due txn wishes done [] (r ∷ rs) is = absurd is
search_due Due txn wishes done (w ∷ ws) [] is = tt
search_due Due txn wishes done (w ∷ ws) (r ∷ rs) is = (
  who_due Due txn w r.event.deed is.0,
  search_due Due txn wishes (done ++ w ∷ [])
      (ws ++ new_wishes txn (done ++ w ∷ ws) (wishes_of (named_in r.event.deed) wishes)) rs is.1,
)

due_append : (Due : ℕ → ℕ → List Interval) (txn : ℕ) (xs ys : List Receipt) → AreDueOf Due txn xs → AreDueOf Due txn ys → AreDueOf Due txn (xs ++ ys)
due_append Due txn [] ys all rest = rest
due_append Due txn (x ∷ xs) ys all rest = (all.0, due_append Due txn xs ys all.1 rest)

-- its ask at a line, by the turn behind it
asked_due : (setting : Setting) (turn : Turn) (line : Line) (rest : List Line) (d : Deed) (walk : Option (List Edge)) → IsSteady setting turn →
    turn.lines ≡ line ∷ rest → line_question line.deed ≡ Some (question d) →
    IsTrue (is_ask line.deed) → IsDueDeed (due_of turn.txn (asked_at turn.lines (reply_in d) walk turn)) turn.txn d
asked_due setting turn line rest d walk steady next asks_it is_it =
    subst (λ (ls : List Line). IsDueDeed (due_of turn.txn (asked_at ls (reply_in d) walk turn)) turn.txn d) (sym next)
    (by_deed line.deed refl asks_it is_it)
  where
    goes : is_some turn.outcome ≡ false
    goes = line_goes setting turn line rest steady next

    fit : IsFitDeed setting line.deed
    fit = (subst (AllByRecursion (IsFitLine setting turn.txn)) next steady.lines).0.deed

    own : (new : Turn) (tree : ℕ) (range : Interval) → IsDueReply (reply_in d) range (due_in tree new) →
        IsDueReply (reply_in d) range (due_of turn.txn new tree turn.txn)
    own new tree range one = subst (IsDueReply (reply_in d) range) (sym (own_due turn.txn new tree turn.txn refl)) one

    by_deed : (deed : LineDeed) → line.deed ≡ deed → line_question deed ≡ Some (question d) → IsTrue (is_ask deed) →
        IsDueDeed (due_of turn.txn (asked_at (line ∷ rest) (reply_in d) walk turn)) turn.txn d
    by_deed (Try tree range) is q k =
        let fits = subst (IsFitDeed setting) is fit in
        let same : question d ≡ Ask tree range Granted = sym cc in
        let new : Turn = asked_at (record line { deed = Try tree range } ∷ rest) (reply_in d) walk turn in
        subst (λ (x : LineDeed). IsDueDeed (due_of turn.txn (asked_at (record line { deed = x } ∷ rest) (reply_in d) walk turn)) turn.txn d) (sym is)
        (ask_due (due_of turn.txn new) turn.txn tree range d same (own new tree range
        (due_answered tree range (reply_in d) turn goes (omega (arith, fits.0, steady.recorded)) fits.1)))
    by_deed (Lock tree range) is q k =
        let fits = subst (IsFitDeed setting) is fit in
        let same : question d ≡ Ask tree range Granted = sym cc in
        let new : Turn = asked_at (record line { deed = Lock tree range } ∷ rest) (reply_in d) walk turn in
        subst (λ (x : LineDeed). IsDueDeed (due_of turn.txn (asked_at (record line { deed = x } ∷ rest) (reply_in d) walk turn)) turn.txn d) (sym is)
        (ask_due (due_of turn.txn new) turn.txn tree range d same (own new tree range
        (due_locked tree range (reply_in d) walk turn goes (omega (arith, fits.0, steady.recorded)) fits.1)))
    by_deed End is q k = absurd (let x : false ≡ true = k in cc)
    by_deed Abort is q k = absurd (let x : false ≡ true = k in cc)
    by_deed (Escalate tree) is q k = absurd (let x : false ≡ true = k in cc)
    by_deed Big is q k = absurd (let x : false ≡ true = k in cc)

escalated_due : (Due : ℕ → ℕ → List Interval) (txn : ℕ) (deed : LineDeed) (d : Deed) → (is_ask deed ≡ false) →
    line_question deed ≡ Some (question d) → IsDueDeed Due txn d
escalated_due Due txn (Try tree range) d no_ask q = absurd (let x : true ≡ false = no_ask in cc)
escalated_due Due txn (Lock tree range) d no_ask q = absurd (let x : true ≡ false = no_ask in cc)
escalated_due Due txn End d no_ask q = absurd cc
escalated_due Due txn Abort d no_ask q = absurd cc
escalated_due Due txn (Escalate tree) d no_ask q = join_due Due txn tree d (sym cc)
escalated_due Due txn Big d no_ask q = absurd cc

not_true : (b : Bool) → IsTrue (not b) → b ≡ false
not_true true e = absurd (let x : false ≡ true = e in cc)
not_true false e = refl

-- what a move at a line is
pub record IsAtLineMove (stage : Stage) (move : Move) : Type 0 where
  pub line_move : IsLineMove move
  pub goes : is_some stage.turn.outcome ≡ false
  pub due : AreDueOf (due_of stage.turn.txn (turn_after stage.turn move)) stage.turn.txn (receipts_in move)

pub line_due : (setting : Setting) (history : List Event) (stage : Stage) (line : Line) (rest : List Line) (move : Move) →
    IsSteady setting stage.turn → stage.turn.lines ≡ line ∷ rest →
    MayDo true setting history stage line.deed move → IsAtLineMove stage move
line_due setting history stage line rest move steady next may =
    record { line_move = is_line move may; goes = line_goes setting stage.turn line rest steady next; due = by_move move may }
  where
    txn : ℕ
    txn = stage.turn.txn

    is_line : (m : Move) → MayDo true setting history stage line.deed m → IsLineMove m
    is_line (leaves joins) h = tt
    is_line (asks joins ask) h = tt
    is_line (waits joins ask wishes found) h = tt
    is_line (stops joins place rows) h = tt
    is_line (escalates join) h = tt
    is_line grows h = tt
    is_line ends h = tt
    is_line (frees free) h = absurd h

    by_move : (m : Move) → MayDo true setting history stage line.deed m → AreDueOf (due_of txn (turn_after stage.turn m)) txn (receipts_in m)
    by_move (leaves joins) h = made_due (due_of txn (turn_after stage.turn (leaves joins))) txn setting history _ _ joins h.2.0
    by_move (asks joins ask) h =
        let Due = due_of txn (turn_after stage.turn (asks joins ask)) in
        due_append Due txn joins (ask ∷ []) (attempt_due Due txn setting history _ _ joins ask.place h.0)
        (asked_due setting stage.turn line rest ask.event.deed None steady next h.2 h.1, tt)
    by_move (waits joins ask wishes found) h =
        let Due = due_of txn (turn_after stage.turn (waits joins ask wishes found)) in
        due_append Due txn joins (ask ∷ found) (attempt_due Due txn setting history _ _ joins ask.place h.0) (
          asked_due setting stage.turn line rest ask.event.deed (cycle_of (edges_in wishes (ask ∷ found)) txn) steady next h.2 h.1,
          search_due Due txn wishes [] _ found h.5,
        )
    by_move (stops joins place rows) h = made_due (due_of txn (turn_after stage.turn
        (stops joins place rows))) txn setting history _ _ joins h.0.joined
    by_move (escalates join) h = (
      escalated_due (due_of txn (turn_after stage.turn (escalates join))) txn line.deed join.event.deed
          (not_true (is_ask line.deed) h.0) h.1,
      tt,
    )
    by_move grows h = tt
    by_move ends h = tt
    by_move (frees free) h = absurd h
