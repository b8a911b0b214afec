-- In the plain scheduler's games each pair of the table overlaps a range that its owner is still to give back.
use Rattle.std.proofs.Common.{◌≡◌, ◌≢◌, inl, inr, ℕ, zero, suc, ◌<◌, List, [], ◌∷◌, ◌++◌, Bool, true, false, ◌==◌, ◌&&◌, not, if◌then◌else◌, None, is_some, length, replicate, get_or, refl, sym, ap, subst}
use Rattle.std.proofs.Common.{◌∙◌, arith, eq-eqb, get_or-set_same, get_or-set_other}
use Rattle.std.specs.List.{AllByRecursion}
use Rattle.std.proofs.lemmas.Bool.Decides.{nat_tests}
use Rattle.lt_ranges.specs.Interval.{Interval, IsInterval, overlap}
use Rattle.lt_ranges.specs.Numbers.{is_in}
use Rattle.lt_seq.specs.declared.event.Pair.{Pair}
use Rattle.lt_seq.specs.declared.event.Deed.TheVariants.{Ask, Free, Join}
use Rattle.lt_seq.specs.declared.event.Reply.{Reply}
use Rattle.lt_seq.specs.declared.event.Reply.TheVariants.{Granted}
use Rattle.lt_seq.specs.declared.event.Event.{Event}
use Rattle.lt_seq.specs.declared.event.Receipt.{Receipt}
use Rattle.lt_seq.specs.Pairs.{is_own, freed}
use Rattle.lt_seq.specs.Table.{Setting, TreeState, fresh, tree_at, drops_all, ended, raised, after_free, step}
use Rattle.lt_seq.specs.History.{after, IsLegal}
use Rattle.lt_seq.specs.Passes.{numbers_from}
use Rattle.lt_seq.specs.Questions.{receipt_after, named_by, named_in}
use Rattle.lt_seq.proofs.HistoryLaws.{after_more}
use Rattle.lt_seq.proofs.LawfulLaws.{lawful_history}
use Rattle.lt_trace.specs.declared.line.Line.{Line}
use Rattle.lt_trace.specs.declared.line.LineDeed.{LineDeed}
use Rattle.lt_trace.specs.declared.line.LineDeed.TheVariants.{Try, Lock, End, Abort, Escalate, Big}
use Rattle.lt_requests.specs.declared.wish.Wish.{Wish}
use Rattle.lt_requests.specs.Search.{searched, wishes_of, new_wishes, question_for}
use Rattle.lt_runner.specs.declared.release.Release.{Release}
use Rattle.lt_runner.specs.TurnView.{Turn}
use Rattle.lt_runner.specs.Turn.{Move, asks, waits, stops, frees, receipts_in, turn_after, answered_by, locked_by, reply_in, nothing_recorded, rest_of_release}
use Rattle.lt_runner.specs.Plays.{is_held}
use Rattle.lt_runner.specs.Serial.{Game, joins_of, line_move, does, opening_game}
use Rattle.lt_runner.specs.Steps.{IsFitDeed, IsFitLine, IsFitRelease, IsSteady, IsTurnOf, IsAtLine, IsOwing, takes}
use Rattle.lt_runner.specs.Due.{ranges_in, due_in, due_at, OverlapsOne, AreDue, IsDueReply, IsDueDeed, AllAreDue}
use Rattle.lt_runner.proofs.ChoiceLaws.{on_true, on_false}
use Rattle.lt_runner.proofs.SteadyLaws.{turn_of_with, turn_of_other, turn_has, after_txn}
use Rattle.lt_runner.proofs.MoveLaws.{turn_after_does}
use Rattle.lt_runner.proofs.WishLaws.{wishes_at}
use Rattle.lt_runner.proofs.GrowLaws.{PairsAt}
use Rattle.lt_runner.proofs.CaughtLaws.{ask_of, all_append, attempt_by, held_is, tried_after, locked_after}
use Rattle.lt_runner.proofs.DueLaws.{due_more, due_events}
use Rattle.lt_runner.proofs.DueTurnLaws.{IsLineMove, more_after, due_answered, due_locked}

pub eq_of : (a b : ℕ) → (a == b) ≡ true → a ≡ b
eq_of a b e = grind (arith, nat_tests)

pub differ : (a b : ℕ) → (a == b) ≡ false → a ≢ b
differ a b e same = let k : false ≡ true = sym e ∙ eq-eqb a b same in cc

-- The receipts of a line's move: what is granted is to be given back.

abbrev pub AllDue : (ℕ → ℕ → List Interval) → List Receipt → Type 0
AllDue Due rs = AllByRecursion (λ r. IsDueDeed Due r.event.txn r.event.deed) rs

-- whatever is to be given back
abbrev pub AlwaysDue : List Receipt → Type 0
AlwaysDue rs = (Due : ℕ → ℕ → List Interval) → AllDue Due rs

pub joins_due : (setting : Setting) (txn : ℕ) (trees : List ℕ) (events : List Event) → AlwaysDue (joins_of setting txn trees events)
joins_due setting txn [] events Due = tt
joins_due setting txn (tree ∷ trees) events Due = (tt, joins_due setting txn trees (events ++ (receipt_after setting events 0 txn (Join tree 0 0)).event ∷ []) Due)

pub searched_due : (setting : Setting) (txn : ℕ) (wishes steps : List Wish) (events : List Event) (done listed : List Wish) →
    AlwaysDue (searched setting txn wishes steps events done listed)
searched_due setting txn wishes [] events done listed Due = tt
searched_due setting txn wishes (step_now ∷ steps) events done [] Due = tt
searched_due setting txn wishes (step_now ∷ steps) events done (w ∷ ws) Due =
    let r = receipt_after setting events 0 txn (question_for w) in
    (tt, searched_due setting txn wishes steps (events ++ r.event ∷ []) (done ++ w ∷ []) (ws ++ new_wishes txn (done ++ w ∷ ws) (wishes_of (named_in r.event.deed) wishes)) Due)

-- what all transactions are to give back behind the move
abbrev due_behind : Setting → Game → Turn → Move → ℕ → ℕ → List Interval
due_behind setting game turn move = due_at setting (does setting turn move game)

abbrev IsDueMove : Setting → Game → Turn → Move → Type 0
IsDueMove setting game turn move = AllDue (due_behind setting game turn move) (receipts_in move)

asks_due : (setting : Setting) (txns : List ℕ) (game : Game) (turn new : Turn) (joins : List Receipt) (mid : List Event) (tree : ℕ) (range : Interval) → IsTurnOf setting txns game turn →
    AlwaysDue joins → (let ask = ask_of setting mid turn.txn tree range in
    turn_after turn (asks joins ask) ≡ new → IsDueReply (reply_in ask.event.deed) range (due_in tree new) →
    IsDueMove setting game turn (asks joins ask))
asks_due setting txns game turn new joins mid tree range of_game always is one =
    let ask = ask_of setting mid turn.txn tree range in
    let move = asks joins ask in
    let Due = due_behind setting game turn move in
    all_append (λ r. IsDueDeed Due r.event.txn r.event.deed) joins (ask ∷ []) (always Due)
    (subst (λ (t : Turn). IsDueReply (reply_in ask.event.deed) range (due_in tree t)) (sym (turn_after_does setting txns game turn move of_game ∙ is)) one, tt)

line_due : (setting : Setting) (txns : List ℕ) (game : Game) (turn : Turn) (line : Line) (lines : List Line) →
    IsAtLine setting txns game turn line lines →
    IsDueMove setting game turn (line_move setting game turn line.deed)
line_due setting txns game turn line lines at = by_deed line.deed refl fits.0.deed
  where
    steady : IsSteady setting turn
    steady = turn_has (IsSteady setting) setting txns game turn at.of_game at.of_game.order.steady

    fits : AllByRecursion (IsFitLine setting turn.txn) (line ∷ lines)
    fits = subst (AllByRecursion (IsFitLine setting turn.txn)) at.next steady.lines

    inside : (tree : ℕ) → tree < setting.plan.trees → tree < length turn.recorded
    inside tree less = omega (arith, less, steady.recorded)

    all_joins : AlwaysDue (joins_of setting turn.txn (numbers_from 0 setting.plan.trees) game.events)
    all_joins = joins_due setting turn.txn (numbers_from 0 setting.plan.trees) game.events

    by_held : (tree : ℕ) (range : Interval) (joins : List Receipt) (mid : List Event) → AlwaysDue joins → line.deed ≡ Lock tree range →
        tree < setting.plan.trees → IsInterval range → (b : Bool) →
        is_held (reply_in (ask_of setting mid turn.txn tree range).event.deed) ≡ b →
        (let ask = ask_of setting mid turn.txn tree range in let wishes = wishes_at turn game.turns in
        IsDueMove setting game turn (if b then waits joins ask wishes (searched setting turn.txn wishes wishes (mid ++ ask.event ∷ []) [] (wishes_of (named_by (reply_in ask.event.deed)) wishes))
        else asks joins ask))
    by_held tree range joins mid always locks less one true e =
        let ask = ask_of setting mid turn.txn tree range in
        let wishes = wishes_at turn game.turns in
        let found = searched setting turn.txn wishes wishes (mid ++ ask.event ∷ []) [] (wishes_of (named_by (reply_in ask.event.deed)) wishes) in
        let Due = due_behind setting game turn (waits joins ask wishes found) in
        all_append (λ r. IsDueDeed Due r.event.txn r.event.deed) joins (ask ∷ found) (always Due) (
          subst (λ (r : Reply). IsDueReply r range (Due tree turn.txn)) (sym (held_is (reply_in ask.event.deed) e)) tt,
          searched_due setting turn.txn wishes wishes (mid ++ ask.event ∷ []) [] (wishes_of (named_by (reply_in ask.event.deed)) wishes) Due,
        )
    by_held tree range joins mid always locks less one false e =
        let reply = reply_in (ask_of setting mid turn.txn tree range).event.deed in
        asks_due setting txns game turn (locked_by tree range reply None turn) joins mid tree range at.of_game always (locked_after line lines tree range reply None turn at.next locks)
        (due_locked tree range reply None turn at.goes (inside tree less) one)

    by_deed : (deed : LineDeed) → line.deed ≡ deed → IsFitDeed setting deed → IsDueMove setting game turn (line_move setting game turn deed)
    by_deed (Try tree range) e fit =
        attempt_by (IsDueMove setting game turn) AlwaysDue setting game.turns turn false (Ask tree range Granted) game.events (λ Due. tt) all_joins
        (λ joins mid always is. (let reply = reply_in (ask_of setting mid turn.txn tree range).event.deed in
        asks_due setting txns game turn (answered_by tree range reply turn) joins mid tree range at.of_game always (tried_after line lines tree range reply None turn at.next e)
        (due_answered tree range reply turn at.goes (inside tree fit.0) fit.1)))
        (λ joins place rows always. always (due_behind setting game turn (stops joins place rows)))
    by_deed (Lock tree range) e fit =
        attempt_by (IsDueMove setting game turn) AlwaysDue setting game.turns turn true (Ask tree range Granted) game.events (λ Due. tt) all_joins
        (λ joins mid always is. by_held tree range joins mid always e fit.0 fit.1 (is_held (reply_in (ask_of setting mid turn.txn tree range).event.deed)) refl)
        (λ joins place rows always. always (due_behind setting game turn (stops joins place rows)))
    by_deed End e fit = tt
    by_deed Abort e fit = tt
    by_deed (Escalate tree) e fit = (tt, tt)
    by_deed Big e fit = tt

is_line_move : (setting : Setting) (game : Game) (turn : Turn) (deed : LineDeed) → IsLineMove (line_move setting game turn deed)
is_line_move setting game turn (Try tree range) =
    attempt_by IsLineMove (λ joins. Unit {0}) setting game.turns turn false (Ask tree range Granted) game.events tt tt (λ joins mid none is. tt) (λ joins place rows none. tt)
is_line_move setting game turn (Lock tree range) =
    attempt_by IsLineMove (λ joins. Unit {0}) setting game.turns turn true (Ask tree range Granted) game.events tt tt
    (λ joins mid none is. by_held (is_held (reply_in (ask_of setting mid turn.txn tree range).event.deed)) joins (ask_of setting mid turn.txn tree range) (wishes_at turn game.turns) _)
    (λ joins place rows none. tt)
  where
    by_held : (b : Bool) (joins : List Receipt) (ask : Receipt) (wishes : List Wish) (found : List Receipt) →
        IsLineMove (if b then waits joins ask wishes found else asks joins ask)
    by_held true joins ask wishes found = tt
    by_held false joins ask wishes found = tt
is_line_move setting game turn End = tt
is_line_move setting game turn Abort = tt
is_line_move setting game turn (Escalate tree) = tt
is_line_move setting game turn Big = tt

-- where one turn is put in, each other is to give back the same
by_owner : (setting : Setting) (txns : List ℕ) (game : Game) (turn : Turn) (move : Move) (tree owner : ℕ) (P : List Interval → List Interval → Type 0) → IsTurnOf setting txns game turn →
    P (due_in tree turn) (due_in tree (turn_after turn move)) → ((ranges : List Interval) → owner ≢ turn.txn → P ranges ranges) →
    P (due_at setting game tree owner) (due_behind setting game turn move tree owner)
by_owner setting txns game turn move tree owner P of_game own others = by_test (owner == turn.txn) refl
  where
    next : Game
    next = does setting turn move game

    by_test : (b : Bool) → (owner == turn.txn) ≡ b → P (due_at setting game tree owner) (due_at setting next tree owner)
    by_test true e =
        subst (λ (n : ℕ). P (due_at setting game tree n) (due_at setting next tree n)) (sym (eq_of owner turn.txn e))
        (subst (λ (t : Turn). P (due_in tree t) (due_at setting next tree turn.txn)) (sym of_game.there)
        (subst (λ (t : Turn). P (due_in tree turn) (due_in tree t)) (sym (turn_after_does setting txns game turn move of_game)) own))
    by_test false e =
        subst (λ (t : Turn). P (due_at setting game tree owner) (due_in tree t))
        (sym (turn_of_other setting owner (turn_after turn move) game.turns (λ same. differ owner turn.txn e (same ∙ after_txn turn move))))
        (others (due_at setting game tree owner) (differ owner turn.txn e))

due_other : (setting : Setting) (game : Game) (turn : Turn) (move : Move) (tree owner : ℕ) → owner ≢ turn.txn →
    due_behind setting game turn move tree owner ≡ due_at setting game tree owner
due_other setting game turn move tree owner apart = ap (due_in tree) (turn_of_other setting owner (turn_after turn move) game.turns (λ same. apart (same ∙ after_txn turn move)))

pub due_plays : (setting : Setting) (txns : List ℕ) (game : Game) (turn : Turn) (line : Line) (lines : List Line) →
    IsAtLine setting txns game turn line lines →
    (let next = does setting turn (line_move setting game turn line.deed) game in IsLegal setting next.events → AllAreDue setting game → AllAreDue setting next)
due_plays setting txns game turn line lines at legal due =
    let move = line_move setting game turn line.deed in
    due_events setting (due_behind setting game turn move) game.events (receipts_in move) legal (line_due setting txns game turn line lines at)
    (λ k. due_more (due_at setting game k) (due_behind setting game turn move k) (PairsAt (after setting game.events) k)
    (λ owner range. by_owner setting txns game turn move k owner (λ old new. OverlapsOne range old → OverlapsOne range new) at.of_game
    (more_after turn move at.goes (is_line_move setting game turn line.deed) k range) (λ ranges apart some. some)) (due k))

-- A free.

freed_due : (Old New : ℕ → List Interval) (txn : ℕ) (range : Interval) (pairs : List Pair) →
    ((p : Pair) → is_own txn range p ≡ false → OverlapsOne p.range (Old p.owner) → OverlapsOne p.range (New p.owner)) → AreDue Old pairs →
    AreDue New (freed txn range pairs)
freed_due Old New txn range [] each due = tt
freed_due Old New txn range (p ∷ ps) each due = by_test (is_own txn range p) refl (freed_due Old New txn range ps each due.1)
  where
    by_test : (b : Bool) → is_own txn range p ≡ b → AreDue New (freed txn range ps) →
        AreDue New (if not b then p ∷ freed txn range ps else freed txn range ps)
    by_test true e rest = rest
    by_test false e rest = (each p e due.0, rest)

pub after_free_due : (Old New : ℕ → List Interval) (txn : ℕ) (range : Interval) (first : Bool) (t : TreeState) →
    ((p : Pair) → is_own txn range p ≡ false → OverlapsOne p.range (Old p.owner) → OverlapsOne p.range (New p.owner)) → AreDue Old t.pairs →
    AreDue New (after_free txn range first t).pairs
after_free_due Old New txn range first t each due = by_test (drops_all txn range t.mode)
  where
    frees_some : TreeState
    frees_some = record { pairs = freed txn range t.pairs; mode = raised first (ended t.mode) }

    pairs_in : TreeState → List Pair
    pairs_in new = new.pairs

    by_test : (b : Bool) → AreDue New (pairs_in (if b then fresh else frees_some))
    by_test true = tt
    by_test false = freed_due Old New txn range t.pairs each due

pub not_overlapping : (txn : ℕ) (range : Interval) (p : Pair) → is_own txn range p ≡ false → p.owner ≡ txn → overlap p.range range ≡ false
not_overlapping txn range p e own = by_tests (p.owner == txn) (overlap p.range range) (eq-eqb p.owner txn own) e
  where
    by_tests : (a b : Bool) → a ≡ true → (a && b) ≡ false → b ≡ false
    by_tests true b h k = k
    by_tests false b h k = absurd (let x : false ≡ true = h in cc)

pub due_gives : (setting : Setting) (txns : List ℕ) (game : Game) (turn : Turn) (r : Release) (rs : List Release) →
    IsOwing setting txns game turn r rs → IsLegal setting game.events →
    AllAreDue setting game →
    AllAreDue setting (does setting turn (frees (receipt_after setting game.events 0 turn.txn (Free r.tree r.range r.first 0))) game)
due_gives setting txns game turn r rs at legal due tree =
    subst (λ (trees : List TreeState). AreDue (due_behind setting game turn move tree) (PairsAt trees tree)) (sym (after_more setting game.events free.event)) (by_tree (tree == r.tree) refl)
  where
    free : Receipt
    free = receipt_after setting game.events 0 turn.txn (Free r.tree r.range r.first 0)

    move : Move
    move = frees free

    old_due : (k owner : ℕ) → List Interval
    old_due k owner = due_at setting game k owner

    trees_now : List TreeState
    trees_now = after setting game.events

    now : TreeState
    now = after_free turn.txn r.range r.first (tree_at trees_now r.tree)

    steady : IsSteady setting turn
    steady = turn_has (IsSteady setting) setting txns game turn at.of_game at.of_game.order.steady

    fits : AllByRecursion (IsFitRelease setting) (r ∷ rs)
    fits = subst (AllByRecursion (IsFitRelease setting)) at.next steady.releases

    inside : r.tree < length trees_now
    inside = let lawful = lawful_history setting game.events legal in omega (arith, fits.0.0, lawful.count)

    was : (k : ℕ) → due_in k turn ≡ ranges_in k (r ∷ rs)
    was k = on_true (is_some turn.outcome) (ranges_in k turn.releases) (get_or turn.recorded k nothing_recorded).ranges at.ended ∙ ap (ranges_in k) at.next

    is_now : (k : ℕ) → due_in k (turn_after turn move) ≡ ranges_in k rs
    is_now k =
        on_true (is_some turn.outcome) (ranges_in k (rest_of_release turn.releases)) (get_or turn.recorded k nothing_recorded).ranges at.ended
        ∙ ap (λ (l : List Release). ranges_in k (rest_of_release l)) at.next

    elsewhere : (k : ℕ) (range : Interval) → (r.tree == k) ≡ false → OverlapsOne range (due_in k turn) →
        OverlapsOne range (due_in k (turn_after turn move))
    elsewhere k range e some =
        subst (OverlapsOne range) (was k ∙ on_false (r.tree == k) (r.range ∷ ranges_in k rs) (ranges_in k rs) e ∙ sym (is_now k)) some

    front_apart : (range : Interval) (ranges : List Interval) → overlap range r.range ≡ false → OverlapsOne range (r.range ∷ ranges) →
        OverlapsOne range ranges
    front_apart range ranges apart (inl here) = absurd (let k : false ≡ true = sym apart ∙ here in cc)
    front_apart range ranges apart (inr there) = there

    here_too : (range : Interval) → overlap range r.range ≡ false → OverlapsOne range (due_in r.tree turn) →
        OverlapsOne range (due_in r.tree (turn_after turn move))
    here_too range apart some =
        subst (OverlapsOne range) (sym (is_now r.tree))
        (front_apart range (ranges_in r.tree rs) apart
        (subst (OverlapsOne range) (was r.tree ∙ on_true (r.tree == r.tree) (r.range ∷ ranges_in r.tree rs) (ranges_in r.tree rs) (eq-eqb r.tree r.tree refl)) some))

    here_each : (p : Pair) → is_own turn.txn r.range p ≡ false → OverlapsOne p.range (due_at setting game r.tree p.owner) →
        OverlapsOne p.range (due_behind setting game turn move r.tree p.owner)
    here_each p e = by_test (p.owner == turn.txn) refl
      where
        by_test : (b : Bool) → (p.owner == turn.txn) ≡ b → OverlapsOne p.range (due_at setting game r.tree p.owner) →
            OverlapsOne p.range (due_behind setting game turn move r.tree p.owner)
        by_test true h =
            by_owner setting txns game turn move r.tree p.owner (λ old new. OverlapsOne p.range old → OverlapsOne p.range new) at.of_game
            (here_too p.range (not_overlapping turn.txn r.range p e (eq_of p.owner turn.txn h))) (λ ranges apart some. some)
        by_test false h = λ some. subst (OverlapsOne p.range) (sym (due_other setting game turn move r.tree p.owner (differ p.owner turn.txn h))) some

    by_tree : (b : Bool) → (tree == r.tree) ≡ b →
        AreDue (due_behind setting game turn move tree) (PairsAt (step setting trees_now free.event) tree)
    by_tree true e =
        subst (λ (k : ℕ). AreDue (due_behind setting game turn move k) (PairsAt (step setting trees_now free.event) k)) (sym (eq_of tree r.tree e))
        (subst (λ (t : TreeState). AreDue (due_behind setting game turn move r.tree) t.pairs) (sym (get_or-set_same trees_now r.tree now fresh inside))
        (after_free_due (due_at setting game r.tree) (due_behind setting game turn move r.tree) turn.txn r.range r.first (tree_at trees_now r.tree) here_each (due r.tree)))
    by_tree false e =
        subst (λ (t : TreeState). AreDue (due_behind setting game turn move tree) t.pairs) (sym (get_or-set_other trees_now r.tree tree now fresh (differ tree r.tree e)))
        (due_more (due_at setting game tree) (due_behind setting game turn move tree) (PairsAt trees_now tree)
        (λ owner range. by_owner setting txns game turn move tree owner (λ old new. OverlapsOne range old → OverlapsOne range new) at.of_game
        (elsewhere tree range (flipped tree r.tree (r.tree == tree) e refl)) (λ ranges apart some. some)) (due tree))
      where
        flipped : (a b : ℕ) (c : Bool) → (a == b) ≡ false → (b == a) ≡ c → (b == a) ≡ false
        flipped a b true h k = absurd (differ a b h (sym (eq_of b a k)))
        flipped a b false h k = k

-- A line that is taken, and the first game.

pub due_takes : (setting : Setting) (txns : List ℕ) (game : Game) (turn : Turn) (line : Line) → IsTurnOf setting txns game turn →
    AllAreDue setting game → AllAreDue setting (takes turn line game)
due_takes setting txns game turn line of_game due tree =
    due_more (due_at setting game tree) (due_at setting (takes turn line game) tree) (PairsAt (after setting game.events) tree)
    (λ owner range. same owner range (owner == turn.txn) refl) (due tree)
  where
    new : Turn
    new = record turn { lines = turn.lines ++ line ∷ [] }

    same : (owner : ℕ) (range : Interval) (b : Bool) → (owner == turn.txn) ≡ b → OverlapsOne range (due_at setting game tree owner) →
        OverlapsOne range (due_at setting (takes turn line game) tree owner)
    same owner range true e some =
        subst (λ (n : ℕ). OverlapsOne range (due_at setting (takes turn line game) tree n)) (sym (eq_of owner turn.txn e))
        (subst (λ (t : Turn). OverlapsOne range (due_in tree t)) (sym (turn_of_with setting new game.turns (ap (is_in turn.txn) of_game.order.numbers ∙ of_game.number)))
        (subst (λ (t : Turn). OverlapsOne range (due_in tree t)) of_game.there (subst (λ (n : ℕ). OverlapsOne range (due_at setting game tree n)) (eq_of owner turn.txn e) some)))
    same owner range false e some = subst (λ (t : Turn). OverlapsOne range (due_in tree t)) (sym (turn_of_other setting owner new game.turns (differ owner turn.txn e))) some

pub all_fresh : (count tree : ℕ) → get_or (replicate count fresh) tree fresh ≡ fresh
all_fresh zero tree = refl
all_fresh (suc n) zero = refl
all_fresh (suc n) (suc tree) = all_fresh n tree

pub due_opening : (setting : Setting) (txns : List ℕ) → AllAreDue setting (opening_game setting txns)
due_opening setting txns tree = subst (λ (t : TreeState). AreDue (due_at setting (opening_game setting txns) tree) t.pairs) (sym (all_fresh setting.plan.trees tree)) tt
