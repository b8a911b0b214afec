-- Where every pair is owned by one that waits, a sweep grants or ends at least one that waits.
use Rattle.std.proofs.Common.{◌≡◌, ◌⊎◌, inl, inr, ℕ, ◌<◌, List, [], ◌∷◌, Bool, true, false, ◌==◌, ◌&&◌, not, if◌then◌else◌, Some, None, is_some, is_none, length, refl, sym, ap, subst, ◌∙◌, arith, eq-eqb}
use Rattle.std.specs.List.{AllByRecursion, fold}
use Rattle.std.proofs.lemmas.Bool.Decides.{nat_tests}
use Rattle.lt_ranges.specs.Interval.{Interval}
use Rattle.lt_ranges.specs.Numbers.{is_in}
use Rattle.lt_seq.specs.Table.{Setting}
use Rattle.lt_seq.specs.History.{after, IsLegal}
use Rattle.lt_trace.specs.declared.line.Line.{Line}
use Rattle.lt_trace.specs.declared.line.LineDeed.{LineDeed}
use Rattle.lt_trace.specs.declared.line.LineDeed.TheVariants.{Try, Lock, End, Abort, Escalate, Big}
use Rattle.lt_requests.specs.declared.wish.Wish.{Wish}
use Rattle.lt_runner.specs.TurnView.{Turn}
use Rattle.lt_runner.specs.Turn.{Move, receipts_in, turn_after}
use Rattle.lt_runner.specs.Plays.{is_lock, next_wish}
use Rattle.lt_runner.specs.Played.{IsAtLock}
use Rattle.lt_runner.specs.Serial.{Game, turn_of, is_waiting, is_ready, line_move, does, gives_back, settles, plays_line, plays_next, plays_on, retried, swept}
use Rattle.lt_runner.specs.Steps.{IsSteady, IsInOrder, IsAtLine}
use Rattle.lt_runner.specs.Clear.{wish_at}
use Rattle.lt_runner.specs.Due.{AreDue, IsDueDeed}
use Rattle.lt_runner.specs.Settles.{IsSettled, SweepsSettleOne}
use Rattle.lt_runner.proofs.ChoiceLaws.{on_true, on_false}
use Rattle.lt_runner.proofs.SteadyLaws.{at_turn, turn_of_txn, turn_of_other, turn_has, waits_goes, after_txn}
use Rattle.lt_runner.proofs.MoveLaws.{Holds, AnyOne, AreOf, are_of, keeps_of, the_turn, turn_after_does, holds_plays, holds_settles, holds_on, holds_retried, holds_round}
use Rattle.lt_runner.proofs.BlockedLaws.{holder_meets}
use Rattle.lt_runner.proofs.GrowLaws.{PairsAt}
use Rattle.lt_runner.proofs.ClearLaws.{absent_turn}
use Rattle.lt_runner.proofs.SweptLaws.{Legally, IsOne, clear_swept}
use Rattle.lt_runner.proofs.DueLaws.{due_events}
use Rattle.lt_runner.proofs.StuckLaws.{to_give, lock_wish, in_circle}
use Rattle.lt_runner.proofs.LegalLaws.{legal_keeps}
use Rattle.lt_runner.proofs.PastLaws.{HasFewer, keeps_fewer, WaitsOrPast, lock_past, waiting_due, owners_due, due_waits, waiting_receipts}

-- None was granted or ended so far: the turns are as they were, and none holds that does not wait.
record IsUnmoved (setting : Setting) (txns : List ℕ) (old game : Game) : Type 0 where
  order : IsInOrder setting txns game
  legal : IsLegal setting game.events
  turns : (n : ℕ) → turn_of setting n game.turns ≡ turn_of setting n old.turns
  unreleased : game.released ≡ false
  due : (tree : ℕ) → AreDue (waiting_due setting old tree) (PairsAt (after setting game.events) tree)

abbrev Goes : Setting → List ℕ → Game → Game → Type 0
Goes setting txns old game = IsSettled setting txns old game ⊎ IsUnmoved setting txns old game

eq_of : (a b : ℕ) → (a == b) ≡ true → a ≡ b
eq_of a b e = grind (arith, nat_tests)

not_ready : (turn : Turn) → turn.waits ≡ true → is_ready turn ≡ false
not_ready turn held = ap (λ (b : Bool). is_none turn.outcome && not b) held ∙ by_none (is_none turn.outcome)
  where
    by_none : (b : Bool) → (b && false) ≡ false
    by_none true = refl
    by_none false = refl

stays_on : (setting : Setting) (txn : ℕ) (lines : List Line) (game : Game) → is_ready (turn_of setting txn game.turns) ≡ false →
    plays_on setting txn lines game ≡ game
stays_on setting txn [] game still = refl
stays_on setting txn (line ∷ lines) game still = on_false (is_ready (turn_of setting txn game.turns)) (plays_on setting txn lines (plays_next setting txn game)) game still

-- One asks again.
asks_again : (setting : Setting) (txns : List ℕ) (old game : Game) (txn : ℕ) (line : Line) (lines : List Line) (tree : ℕ) (range : Interval) → 0 < setting.plan.passes → is_in txn txns ≡ true →
    IsUnmoved setting txns old game → is_waiting (turn_of setting txn game.turns) ≡ true →
    (turn_of setting txn game.turns).lines ≡ line ∷ lines → line.deed ≡ Lock tree range →
    (let next = plays_line setting txn (line ∷ lines) game in Goes setting txns old (plays_on setting txn (turn_of setting txn next.turns).lines next))
asks_again setting txns old game txn line lines tree range pass number unmoved held same locks = by_turn past
  where
    turn : Turn
    turn = turn_of setting txn game.turns

    move : Move
    move = line_move setting game turn line.deed

    next : Game
    next = does setting turn move game

    last : Turn
    last = turn_of setting txn next.turns

    behind : Game
    behind = settles setting last next

    own : turn.txn ≡ txn
    own = turn_of_txn setting txn game.turns (ap (is_in txn) unmoved.order.numbers ∙ number)

    steady : IsSteady setting turn
    steady = turn_has (IsSteady setting) setting txns game turn (the_turn setting txns txn game number unmoved.order) unmoved.order.steady

    goes : is_some turn.outcome ≡ false
    goes = waits_goes setting turn steady held

    at : IsAtLine setting txns game turn line lines
    at = record { of_game = the_turn setting txns txn game number unmoved.order; goes = goes; next = same }

    there : last ≡ turn_after turn move
    there = ap (λ (n : ℕ). turn_of setting n next.turns) (sym own) ∙ turn_after_does setting txns game turn move at.of_game

    legal_next : Holds setting txns (λ g. IsLegal setting g.events) next
    legal_next = holds_plays setting txns AnyOne (λ g. IsLegal setting g.events) game turn line lines
        (keeps_of setting txns (λ g. IsLegal setting g.events) (legal_keeps setting txns pass)) at tt unmoved.legal

    past : WaitsOrPast turn (turn_after turn move)
    past = subst (λ (d : LineDeed). WaitsOrPast turn (turn_after turn (line_move setting game turn d))) (sym locks) (lock_past setting game turn line lines tree range same locks)

    waited : is_waiting (turn_of setting txn old.turns) ≡ true
    waited = ap is_waiting (sym (unmoved.turns txn)) ∙ held

    -- it waits on
    turn_stays : turn_after turn move ≡ record turn { waits = true } → last ≡ turn
    turn_stays is = there ∙ is ∙ ap (λ (b : Bool). record turn { waits = b }) (sym held)

    each_stays : turn_after turn move ≡ record turn { waits = true } → (n : ℕ) (b : Bool) → (n == txn) ≡ b → turn_of setting n next.turns ≡ turn_of setting n old.turns
    each_stays is n true e =
        ap (λ (k : ℕ). turn_of setting k next.turns) (eq_of n txn e) ∙ turn_stays is ∙ unmoved.turns txn ∙ ap (λ (k : ℕ). turn_of setting k old.turns) (sym (eq_of n txn e))
    each_stays is n false e =
        turn_of_other setting n (turn_after turn move) game.turns
        (λ k. absurd (let x : false ≡ true = sym e ∙ eq-eqb n txn (k ∙ after_txn turn move ∙ own) in cc)) ∙ unmoved.turns n

    next_unmoved : turn_after turn move ≡ record turn { waits = true } → IsUnmoved setting txns old next
    next_unmoved is = record {
      order = legal_next.order;
      legal = legal_next.is;
      turns = λ n. each_stays is n (n == txn) refl;
      unreleased = unmoved.unreleased;
      due = due_events setting (waiting_due setting old) game.events (receipts_in move) legal_next.is
          (subst (λ (d : LineDeed). AllByRecursion (λ r. IsDueDeed (waiting_due setting old) r.event.txn r.event.deed) (receipts_in (line_move setting game turn d))) (sym locks)
          (waiting_receipts setting old game turn tree range (ap (λ (n : ℕ). is_waiting (turn_of setting n old.turns)) own ∙ waited))) unmoved.due;
    }

    no_release : turn_after turn move ≡ record turn { waits = true } → behind ≡ next
    no_release is = on_false (is_some last.outcome) (record (gives_back setting last.txn last.releases next) { released = true }) next (ap (λ (t : Turn). is_some t.outcome) (turn_stays is) ∙ goes)

    stays : turn_after turn move ≡ record turn { waits = true } → plays_on setting txn (turn_of setting txn behind.turns).lines behind ≡ next
    stays is =
        ap (λ (g : Game). plays_on setting txn (turn_of setting txn g.turns).lines g) (no_release is)
        ∙ stays_on setting txn last.lines next (ap is_ready (turn_stays is) ∙ not_ready turn held)

    -- or it is past its line
    by_turn : WaitsOrPast turn (turn_after turn move) →
        Goes setting txns old (plays_on setting txn (turn_of setting txn behind.turns).lines behind)
    by_turn (inl is) = subst (Goes setting txns old) (sym (stays is)) (inr (next_unmoved is))
    by_turn (inr less) =
        let keeps = keeps_of setting txns (HasFewer setting txn (length turn.lines)) (keeps_fewer setting txns txn (length turn.lines)) in
        let first : Holds setting txns (HasFewer setting txn (length turn.lines)) next =
        record { order = legal_next.order; is = subst (λ (t : Turn). length t.lines < length turn.lines) (sym there) less } in
        let second = holds_settles setting txns AnyOne (HasFewer setting txn (length turn.lines)) txn next keeps tt number first in
        let third = holds_on setting txns AnyOne (HasFewer setting txn (length turn.lines)) txn (turn_of setting txn behind.turns).lines behind keeps tt number second in
        inl (record { txn = txn; there = number; waited = waited; past_it = subst (λ (t : Turn). HasFewer setting txn (length t.lines) (plays_on setting txn (turn_of setting txn behind.turns).lines behind)) (unmoved.turns txn) third.is })

one_retried : (setting : Setting) (txns : List ℕ) (old game : Game) (txn : ℕ) → 0 < setting.plan.passes → is_in txn txns ≡ true →
    IsUnmoved setting txns old game →
    Goes setting txns old (retried setting game txn)
one_retried setting txns old game txn pass number unmoved = by_waiting (is_waiting turn) refl
  where
    turn : Turn
    turn = turn_of setting txn game.turns

    steady : IsSteady setting turn
    steady = turn_has (IsSteady setting) setting txns game turn (the_turn setting txns txn game number unmoved.order) unmoved.order.steady

    by_deed : (line : Line) (lines : List Line) (deed : LineDeed) → is_waiting turn ≡ true → turn.lines ≡ line ∷ lines → line.deed ≡ deed →
        is_lock deed ≡ true →
        (let next = plays_line setting txn (line ∷ lines) game in Goes setting txns old (plays_on setting txn (turn_of setting txn next.turns).lines next))
    by_deed line lines (Try tree range) held same is lock = absurd (let k : false ≡ true = lock in cc)
    by_deed line lines (Lock tree range) held same is lock = asks_again setting txns old game txn line lines tree range pass number unmoved held same is
    by_deed line lines End held same is lock = absurd (let k : false ≡ true = lock in cc)
    by_deed line lines Abort held same is lock = absurd (let k : false ≡ true = lock in cc)
    by_deed line lines (Escalate tree) held same is lock = absurd (let k : false ≡ true = lock in cc)
    by_deed line lines Big held same is lock = absurd (let k : false ≡ true = lock in cc)

    by_lines : (lines : List Line) → is_waiting turn ≡ true → turn.lines ≡ lines → IsAtLock lines →
        (let next = plays_line setting txn lines game in Goes setting txns old (plays_on setting txn (turn_of setting txn next.turns).lines next))
    by_lines [] held same lock = absurd lock
    by_lines (line ∷ lines) held same lock = by_deed line lines line.deed held same refl lock

    by_waiting : (b : Bool) → is_waiting turn ≡ b →
        Goes setting txns old (if b then (let next = plays_next setting txn game in plays_on setting txn (turn_of setting txn next.turns).lines next) else game)
    by_waiting true held = by_lines turn.lines held refl (steady.held held)
    by_waiting false free = inr unmoved

-- All of them do.
round_goes : (setting : Setting) (txns left : List ℕ) (old game : Game) → 0 < setting.plan.passes → AreOf txns left →
    IsUnmoved setting txns old game →
    Goes setting txns old (fold (retried setting) game left)
round_goes setting txns [] old game pass all unmoved = inr unmoved
round_goes setting txns (txn ∷ left) old game pass all unmoved =
    on (one_retried setting txns old game txn pass all.0 unmoved) (λ still. round_goes setting txns left old (retried setting game txn) pass all.1 still)
  where
    order : IsInOrder setting txns (retried setting game txn)
    order = (holds_retried setting txns AnyOne (λ g. IsLegal setting g.events) game txn (keeps_of setting txns (λ g. IsLegal setting g.events) (legal_keeps setting txns pass)) tt all.0
        (record { order = unmoved.order; is = unmoved.legal })).order

    on : Goes setting txns old (retried setting game txn) →
        (IsUnmoved setting txns old (retried setting game txn) → Goes setting txns old (fold (retried setting) (retried setting game txn) left)) →
        Goes setting txns old (fold (retried setting) (retried setting game txn) left)
    on (inl is) later =
        let count = length (turn_of setting is.txn old.turns).lines in
        inl (record {
          txn = is.txn;
          there = is.there;
          waited = is.waited;
          past_it = (holds_round setting txns (HasFewer setting is.txn count) left (retried setting game txn) (keeps_fewer setting txns is.txn count) all.1 (record { order = order; is = is.past_it })).is;
        })
    on (inr still) later = later still

pub settles_one : SweepsSettleOne
settles_one setting txns game txn pass order legal owners there waits = on (round_goes setting txns txns game begun pass (are_of txns) unmoved)
  where
    begun : Game
    begun = record game { released = false }

    unmoved : IsUnmoved setting txns game begun
    unmoved = record {
      order = record { sorted = order.sorted; numbers = order.numbers; steady = order.steady };
      legal = legal;
      turns = λ n. refl;
      unreleased = refl;
      due = λ tree. owners_due setting game tree (PairsAt (after setting game.events) tree) (owners tree);
    }

    last : Game
    last = swept setting txns game

    -- one that waits is one of these
    inside : (n : ℕ) → is_waiting (turn_of setting n game.turns) ≡ true → (b : Bool) → is_in n txns ≡ b → is_in n txns ≡ true
    inside n held true e = e
    inside n held false e =
        absurd (let k : true ≡ false = sym held ∙ ap is_waiting (absent_turn setting n game.turns (ap (is_in n) order.numbers ∙ e)) in cc)

    wish : IsUnmoved setting txns game last → (n : ℕ) → IsOne txns n × (is_waiting (turn_of setting n game.turns) ≡ true) →
        (w : Wish) × (wish_at setting n last ≡ Some w)
    wish still n now =
        let turn = turn_of setting n last.turns in
        let held : turn.waits ≡ true = ap is_waiting (still.turns n) ∙ now.1 in
        let steady = at_turn (IsSteady setting) setting n last.turns (ap (is_in n) still.order.numbers ∙ now.0) still.order.steady in
        let (w, is) = lock_wish turn.txn turn.lines (steady.held held) in
        (w, on_true turn.waits (next_wish turn.txn turn.lines) None held ∙ is)

    on : Goes setting txns game last → IsSettled setting txns game last
    on (inl is) = is
    on (inr still) =
        let by : Legally setting txns (λ g. IsLegal setting g.events) = record { keeps = legal_keeps setting txns pass; legal = λ g is. is } in
        let clear = clear_swept setting txns (λ g. IsLegal setting g.events) game by (record { order = order; is = legal }) still.unreleased in
        absurd (in_circle setting txns last (λ n. IsOne txns n × (is_waiting (turn_of setting n game.turns) ≡ true)) txn clear (λ n now. now.0) (wish still)
        (λ w m held.
        (let meets = (holder_meets w.txn m w.range (PairsAt (after setting last.events) w.tree) held).meets in
        let gives = to_give (waiting_due setting game w.tree) m w.range (PairsAt (after setting last.events) w.tree) meets (still.due w.tree) in
        let held_too = due_waits setting game w.tree m gives.range gives.some in
        (inside m held_too (is_in m txns) refl, held_too))) (there, waits))
