-- Between the scheduler's steps, each turn that is ready has played all its lines.
use Rattle.std.proofs.Common.{◌≡◌, ◌≢◌, ℕ, List, [], ◌∷◌, ◌++◌, Bool, true, false, ◌==◌, ◌&&◌, not, if◌then◌else◌, Option, Some, None, is_some, is_none, nat_lt, refl, sym, ap, subst}
use Rattle.std.proofs.Common.{◌∙◌, arith, eq-eqb}
use Rattle.std.specs.List.{fold}
use Rattle.std.proofs.lemmas.Bool.Decides.{nat_tests}
use Rattle.lt_ranges.specs.Interval.{Interval}
use Rattle.lt_ranges.specs.Numbers.{is_in}
use Rattle.lt_seq.specs.declared.event.Deed.{Deed}
use Rattle.lt_seq.specs.declared.event.Deed.TheVariants.{Ask, Free}
use Rattle.lt_seq.specs.declared.event.Reply.{Reply}
use Rattle.lt_seq.specs.declared.event.Reply.TheVariants.{Granted, Buffered, HeldBy}
use Rattle.lt_seq.specs.declared.event.Event.{Event}
use Rattle.lt_seq.specs.declared.event.Receipt.{Receipt}
use Rattle.lt_seq.specs.Table.{Setting, used}
use Rattle.lt_seq.specs.History.{after}
use Rattle.lt_seq.specs.Passes.{numbers_from}
use Rattle.lt_seq.specs.Yard.{place_after}
use Rattle.lt_seq.specs.Questions.{receipt_after, events_of}
use Rattle.lt_trace.specs.declared.line.Line.{Line}
use Rattle.lt_trace.specs.declared.line.LineDeed.{LineDeed}
use Rattle.lt_trace.specs.declared.line.LineDeed.TheVariants.{Try, Lock, End, Abort, Escalate, Big}
use Rattle.lt_trace.specs.Grammar.{is_last}
use Rattle.lt_requests.specs.declared.wish.Wish.{Wish}
use Rattle.lt_requests.specs.declared.cycle.Edge.{Edge}
use Rattle.lt_history.specs.declared.outcome.Outcome.{Outcome}
use Rattle.lt_runner.specs.declared.release.Release.{Release}
use Rattle.lt_runner.specs.TurnView.{Turn}
use Rattle.lt_runner.specs.Turn.{Move, asks, waits, stops, frees, turn_after, answered_by, walked, locked_by, asked_at, ended_at, reply_in, rest_of, rest_of_release}
use Rattle.lt_runner.specs.Attempt.{bar_of}
use Rattle.lt_runner.specs.Plays.{is_held, is_ask}
use Rattle.lt_runner.specs.Serial.{Game, turn_of, is_waiting, is_ready, ask_move, behind_joins, joins_of, attempt, line_move, does, gives_back, settles, plays_line, plays_next}
use Rattle.lt_runner.specs.Serial.{plays_on, retried, swept, swept_if_released, settled, added}
use Rattle.lt_runner.specs.Steps.{IsFitLine, IsSteady, IsInOrder, IsTurnOf, IsAtLine, IsOwing, takes}
use Rattle.lt_runner.proofs.ChoiceLaws.{on_false}
use Rattle.lt_runner.proofs.SteadyLaws.{numbers, turn_of_txn, turn_of_with, turn_of_other, turn_has, after_txn, ready_goes, waits_goes, never, steady_taking, steady_freed}
use Rattle.lt_runner.proofs.MoveLaws.{Holds, KeepsOf, AnyOne, AreOf, are_of, the_turn, turn_after_does, in_order_with, holds_plays, holds_settles, holds_next, holds_retried}

-- one that is ready has these lines left
abbrev pub Rests : Turn → List Line → Type 0
Rests turn lines = is_ready turn ≡ true → turn.lines ≡ lines

abbrev pub RestsAt : Setting → ℕ → List Line → Game → Type 0
RestsAt setting txn lines game = Rests (turn_of setting txn game.turns) lines

-- Behind a move, the next line is done.

not_ready : {X : Type 0} (turn : Turn) → turn.waits ≡ true → is_ready turn ≡ true → X
not_ready turn held ready = absurd (by_outcome turn.outcome (sym (ap (λ (b : Bool). is_none turn.outcome && not b) held) ∙ ready))
  where
    by_outcome : (o : Option Outcome) → (is_none o && false) ≡ true → ⊥
    by_outcome None e = cc
    by_outcome (Some o) e = cc

over_rests : (turn : Turn) (lines : List Line) → is_some turn.outcome ≡ true → Rests turn lines
over_rests turn lines ended ready = never (is_some turn.outcome) (ready_goes turn ready) ended

answered_rests : (tree : ℕ) (range : Interval) (reply : Reply) (turn : Turn) → Rests (answered_by tree range reply turn) (rest_of turn.lines)
answered_rests tree range Granted turn ready = refl
answered_rests tree range Buffered turn ready = refl
answered_rests tree range (HeldBy owners) turn ready = refl

walked_rests : (walk : Option (List Edge)) (turn : Turn) (lines : List Line) → Rests (walked walk turn) lines
walked_rests None turn lines ready = not_ready (walked None turn) refl ready
walked_rests (Some walk) turn lines ready = over_rests (walked (Some walk) turn) lines refl ready

locked_rests : (tree : ℕ) (range : Interval) (reply : Reply) (walk : Option (List Edge)) (turn : Turn) → Rests (locked_by tree range reply walk turn) (rest_of turn.lines)
locked_rests tree range Granted walk turn ready = refl
locked_rests tree range Buffered walk turn ready = refl
locked_rests tree range (HeldBy owners) walk turn ready = walked_rests walk turn (rest_of turn.lines) ready

asked_rests : (line : Line) (lines : List Line) (reply : Reply) (walk : Option (List Edge)) (turn : Turn) → is_ask line.deed ≡ true →
    Rests (asked_at (line ∷ lines) reply walk turn) (rest_of turn.lines)
asked_rests line lines reply walk turn asking = by_deed line.deed asking
  where
    by_deed : (deed : LineDeed) → is_ask deed ≡ true → Rests (asked_at (record line { deed = deed } ∷ lines) reply walk turn) (rest_of turn.lines)
    by_deed (Try tree range) e = answered_rests tree range reply turn
    by_deed (Lock tree range) e = locked_rests tree range reply walk turn
    by_deed End e = absurd cc
    by_deed Abort e = absurd cc
    by_deed (Escalate tree) e = absurd cc
    by_deed Big e = absurd cc

ended_rests : (line : Line) (lines rest : List Line) (turn : Turn) → is_last line.deed ≡ true → Rests (ended_at (line ∷ lines) turn) rest
ended_rests line lines rest turn last = by_deed line.deed last
  where
    by_deed : (deed : LineDeed) → is_last deed ≡ true → Rests (ended_at (record line { deed = deed } ∷ lines) turn) rest
    by_deed (Try tree range) e = absurd cc
    by_deed (Lock tree range) e = absurd cc
    by_deed End e = over_rests (ended_at (record line { deed = End } ∷ lines) turn) rest refl
    by_deed Abort e = over_rests (ended_at (record line { deed = Abort } ∷ lines) turn) rest refl
    by_deed (Escalate tree) e = absurd cc
    by_deed Big e = absurd cc

-- An attempt asks, waits or stops.
attempt_by : (P : Move → Type 0) (setting : Setting) (turns : List Turn) (turn : Turn) (locks : Bool) (deed : Deed) (events : List Event) →
    ((joins : List Receipt) (ask : Receipt) → P (asks joins ask)) →
    ((joins : List Receipt) (ask : Receipt) (wishes : List Wish) (found : List Receipt) → P (waits joins ask wishes found)) →
    ((joins : List Receipt) (place rows : ℕ) → P (stops joins place rows)) → P (attempt setting turns turn locks deed events)
attempt_by P setting turns turn locks deed events on_asks on_waits on_stops = by_room (nat_lt (used (after setting events)) (bar_of setting turn))
  where
    joins : List Receipt
    joins = joins_of setting turn.txn (numbers_from 0 setting.plan.trees) events

    mid : List Event
    mid = events ++ events_of joins

    by_held : (b : Bool) (js : List Receipt) (ask : Receipt) (wishes : List Wish) (found : List Receipt) → P (if b then waits js ask wishes found else asks js ask)
    by_held true js ask wishes found = on_waits js ask wishes found
    by_held false js ask wishes found = on_asks js ask

    by_second : (b : Bool) → P (if b then ask_move setting turns turn locks mid joins (receipt_after setting mid 0 turn.txn deed) else stops joins (place_after setting mid) (used (after setting mid)))
    by_second true = by_held (locks && is_held (reply_in (receipt_after setting mid 0 turn.txn deed).event.deed)) joins (receipt_after setting mid 0 turn.txn deed) _ _
    by_second false = on_stops joins (place_after setting mid) (used (after setting mid))

    by_room : (b : Bool) → P (if b then ask_move setting turns turn locks events [] (receipt_after setting events 0 turn.txn deed) else behind_joins setting turns turn locks deed mid joins)
    by_room true = by_held (locks && is_held (reply_in (receipt_after setting events 0 turn.txn deed).event.deed)) [] (receipt_after setting events 0 turn.txn deed) _ _
    by_room false = by_second (nat_lt (used (after setting mid)) (bar_of setting turn))

move_rests : (setting : Setting) (game : Game) (turn : Turn) (line : Line) (lines : List Line) → turn.lines ≡ line ∷ lines → Rests (turn_after turn (line_move setting game turn line.deed)) lines
move_rests setting game turn line lines next = by_deed line.deed refl
  where
    asked : (reply : Reply) (walk : Option (List Edge)) → is_ask line.deed ≡ true → Rests (asked_at turn.lines reply walk turn) lines
    asked reply walk asking =
        subst (λ (ls : List Line). Rests (asked_at ls reply walk turn) lines) (sym next)
        (subst (λ (ls : List Line). Rests (asked_at (line ∷ lines) reply walk turn) ls) (ap rest_of next) (asked_rests line lines reply walk turn asking))

    tried : (locks : Bool) (deed : Deed) → is_ask line.deed ≡ true → Rests (turn_after turn (attempt setting game.turns turn locks deed game.events)) lines
    tried locks deed asking =
        attempt_by (λ m. Rests (turn_after turn m) lines) setting game.turns turn locks deed game.events (λ joins ask. asked (reply_in ask.event.deed) None asking)
        (λ joins ask wishes found. asked (reply_in ask.event.deed) _ asking) (λ joins place rows. over_rests (turn_after turn (stops joins place rows)) lines refl)

    by_deed : (deed : LineDeed) → line.deed ≡ deed → Rests (turn_after turn (line_move setting game turn deed)) lines
    by_deed (Try tree range) e = tried false (Ask tree range Granted) (ap is_ask e)
    by_deed (Lock tree range) e = tried true (Ask tree range Granted) (ap is_ask e)
    by_deed End e = subst (λ (ls : List Line). Rests (ended_at ls turn) lines) (sym next) (ended_rests line lines lines turn (ap is_last e))
    by_deed Abort e = subst (λ (ls : List Line). Rests (ended_at ls turn) lines) (sym next) (ended_rests line lines lines turn (ap is_last e))
    by_deed (Escalate tree) e = λ ready. ap rest_of next
    by_deed Big e = λ ready. ap rest_of next

-- What moves keep.

pub keeps_nothing : (setting : Setting) (txns : List ℕ) → KeepsOf setting txns AnyOne (λ game. Unit {0})
keeps_nothing setting txns = record { plays = λ game turn line lines at m is. tt; gives = λ game turn r rs at m is. tt; marks = λ game released is. tt }

ordered : (setting : Setting) (txns : List ℕ) (game : Game) → IsInOrder setting txns game → Holds setting txns (λ game. Unit {0}) game
ordered setting txns game order = record { order = order; is = tt }

eq_of : (a b : ℕ) → (a == b) ≡ true → a ≡ b
eq_of a b e = grind (arith, nat_tests)

-- another's turn stays
pub keeps_other : (setting : Setting) (txns : List ℕ) (other : ℕ) (t : Turn) → KeepsOf setting txns (λ txn. other ≢ txn) (λ game. turn_of setting other game.turns ≡ t)
keeps_other setting txns other t = record {
  plays = λ game turn line lines at differs is. turn_of_other setting other (turn_after turn (line_move setting game turn line.deed)) game.turns
      (λ same. differs (same ∙ after_txn turn (line_move setting game turn line.deed))) ∙ is;
  gives = λ game turn r rs at differs is. turn_of_other setting other (turn_after turn (frees (receipt_after setting game.events 0 turn.txn (Free r.tree r.range r.first 0)))) game.turns differs ∙ is;
  marks = λ game released is. is;
}

-- one that has ended stays so
pub keeps_ended : (setting : Setting) (txns : List ℕ) (txn : ℕ) → KeepsOf setting txns AnyOne (λ game. is_some (turn_of setting txn game.turns).outcome ≡ true)
keeps_ended setting txns txn = record {
  plays = λ game turn line lines at m is. at_play game turn line lines at is (txn == turn.txn) refl;
  gives = λ game turn r rs at m is. at_free game turn r rs at is (txn == turn.txn) refl;
  marks = λ game released is. is;
}
  where
    differ : (a b : ℕ) → (a == b) ≡ false → a ≢ b
    differ a b e same = let k : false ≡ true = sym e ∙ eq-eqb a b same in cc

    at_play : (game : Game) (turn : Turn) (line : Line) (lines : List Line) → IsAtLine setting txns game turn line lines →
        is_some (turn_of setting txn game.turns).outcome ≡ true → (b : Bool) → (txn == turn.txn) ≡ b →
        is_some (turn_of setting txn (does setting turn (line_move setting game turn line.deed) game).turns).outcome ≡ true
    at_play game turn line lines at is true e =
        never (is_some turn.outcome) at.goes (sym (ap (λ (t : Turn). is_some t.outcome) (ap (λ (n : ℕ). turn_of setting n game.turns) (eq_of txn turn.txn e) ∙ at.of_game.there)) ∙ is)
    at_play game turn line lines at is false e =
        let new = turn_after turn (line_move setting game turn line.deed) in
        ap (λ (t : Turn). is_some t.outcome) (turn_of_other setting txn new game.turns (λ same. differ txn turn.txn e (same ∙ after_txn turn (line_move setting game turn line.deed)))) ∙ is

    at_free : (game : Game) (turn : Turn) (r : Release) (rs : List Release) → IsOwing setting txns game turn r rs →
        is_some (turn_of setting txn game.turns).outcome ≡ true → (b : Bool) → (txn == turn.txn) ≡ b →
        is_some (turn_of setting txn (does setting turn (frees (receipt_after setting game.events 0 turn.txn (Free r.tree r.range r.first 0))) game).turns).outcome ≡ true
    at_free game turn r rs at is true e =
        let move = frees (receipt_after setting game.events 0 turn.txn (Free r.tree r.range r.first 0)) in
        ap (λ (t : Turn). is_some t.outcome)
        (ap (λ (n : ℕ). turn_of setting n (does setting turn move game).turns) (eq_of txn turn.txn e) ∙ turn_after_does setting txns game turn move at.of_game) ∙ at.ended
    at_free game turn r rs at is false e =
        let new = turn_after turn (frees (receipt_after setting game.events 0 turn.txn (Free r.tree r.range r.first 0))) in
        ap (λ (t : Turn). is_some t.outcome) (turn_of_other setting txn new game.turns (differ txn turn.txn e)) ∙ is

-- The transaction that plays.

rests_settles : (setting : Setting) (txns : List ℕ) (txn : ℕ) (lines : List Line) (game : Game) → is_in txn txns ≡ true → IsInOrder setting txns game →
    RestsAt setting txn lines game → RestsAt setting txn lines (settles setting (turn_of setting txn game.turns) game)
rests_settles setting txns txn lines game number order rests = by_outcome (is_some turn.outcome) refl
  where
    turn : Turn
    turn = turn_of setting txn game.turns

    by_outcome : (b : Bool) → is_some turn.outcome ≡ b → RestsAt setting txn lines (settles setting turn game)
    by_outcome true ended =
        let still = holds_settles setting txns AnyOne (λ g. is_some (turn_of setting txn g.turns).outcome ≡ true) txn game (keeps_ended setting txns txn) tt number
        (record { order = order; is = ended }) in
        over_rests (turn_of setting txn (settles setting turn game).turns) lines still.is
    by_outcome false goes = subst (RestsAt setting txn lines) (sym (on_false (is_some turn.outcome) _ game goes)) rests

rests_line : (setting : Setting) (txns : List ℕ) (txn : ℕ) (lines : List Line) (game : Game) → is_in txn txns ≡ true → IsInOrder setting txns game →
    is_some (turn_of setting txn game.turns).outcome ≡ false → (turn_of setting txn game.turns).lines ≡ lines →
    RestsAt setting txn (rest_of lines) (plays_line setting txn lines game)
rests_line setting txns txn [] game number order goes same = λ ready. same
rests_line setting txns txn (line ∷ lines) game number order goes same =
    let turn = turn_of setting txn game.turns in
    let move = line_move setting game turn line.deed in
    let next = does setting turn move game in
    let of_game = the_turn setting txns txn game number order in
    let own = turn_of_txn setting txn game.turns (ap (is_in txn) order.numbers ∙ number) in
    let at : IsAtLine setting txns game turn line lines = record { of_game = of_game; goes = goes; next = same } in
    let there : turn_of setting txn next.turns ≡ turn_after turn move = ap (λ (n : ℕ). turn_of setting n next.turns) (sym own) ∙ turn_after_does setting txns game turn move of_game in
    rests_settles setting txns txn lines next number (holds_plays setting txns AnyOne (λ g. Unit {0}) game turn line lines (keeps_nothing setting txns) at tt tt).order
    (subst (λ (t : Turn). Rests t lines) (sym there) (move_rests setting game turn line lines same))

rests_on : (setting : Setting) (txns : List ℕ) (txn : ℕ) (lines : List Line) (game : Game) → is_in txn txns ≡ true → IsInOrder setting txns game →
    RestsAt setting txn lines game → RestsAt setting txn [] (plays_on setting txn lines game)
rests_on setting txns txn [] game number order rests = rests
rests_on setting txns txn (line ∷ lines) game number order rests =
    by_test (is_ready (turn_of setting txn game.turns)) refl (λ onward rested. rests_on setting txns txn lines (plays_next setting txn game) number onward rested)
  where
    turn : Turn
    turn = turn_of setting txn game.turns

    by_test : (b : Bool) → is_ready turn ≡ b →
        (IsInOrder setting txns (plays_next setting txn game) → RestsAt setting txn lines (plays_next setting txn game) →
        RestsAt setting txn [] (plays_on setting txn lines (plays_next setting txn game))) →
        RestsAt setting txn [] (if b then plays_on setting txn lines (plays_next setting txn game) else game)
    by_test true ready on =
        let goes = ready_goes turn ready in
        on (holds_next setting txns AnyOne (λ g. Unit {0}) txn game (keeps_nothing setting txns) tt number (ordered setting txns game order) goes).order
        (subst (λ (ls : List Line). RestsAt setting txn ls (plays_next setting txn game)) (ap rest_of (rests ready)) (rests_line setting txns txn turn.lines game number order goes refl))
    by_test false waiting on = λ ready. never (is_ready turn) waiting ready

-- One that has ended owes nothing.

abbrev pub Owes : Turn → Type 0
Owes turn = is_some turn.outcome ≡ true → turn.releases ≡ []

owes_back : (setting : Setting) (txns : List ℕ) (txn : ℕ) (rs : List Release) (game : Game) → is_in txn txns ≡ true → IsInOrder setting txns game → (turn_of setting txn game.turns).releases ≡ rs →
    (turn_of setting txn (gives_back setting txn rs game).turns).releases ≡ []
owes_back setting txns txn [] game number order owed = owed
owes_back setting txns txn (r ∷ rs) game number order owed =
    let turn = turn_of setting txn game.turns in
    let of_game = the_turn setting txns txn game number order in
    let own = turn_of_txn setting txn game.turns (ap (is_in txn) order.numbers ∙ number) in
    let move = frees (receipt_after setting game.events 0 txn (Free r.tree r.range r.first 0)) in
    let next = does setting turn move game in
    let there : turn_of setting txn next.turns ≡ turn_after turn move = ap (λ (n : ℕ). turn_of setting n next.turns) (sym own) ∙ turn_after_does setting txns game turn move of_game in
    owes_back setting txns txn rs next number
    (in_order_with setting txns next.events game.released game (turn_after turn move) order (steady_freed setting turn (turn_has (IsSteady setting) setting txns game turn of_game order.steady)))
    (ap (λ (t : Turn). t.releases) there ∙ ap rest_of_release owed)

pub owes_settles : (setting : Setting) (txns : List ℕ) (txn : ℕ) (game : Game) → is_in txn txns ≡ true → IsInOrder setting txns game →
    Owes (turn_of setting txn (settles setting (turn_of setting txn game.turns) game).turns)
owes_settles setting txns txn game number order = by_outcome (is_some turn.outcome) refl
  where
    turn : Turn
    turn = turn_of setting txn game.turns

    own : turn.txn ≡ txn
    own = turn_of_txn setting txn game.turns (ap (is_in txn) order.numbers ∙ number)

    by_outcome : (b : Bool) → is_some turn.outcome ≡ b → Owes (turn_of setting txn (if b then record (gives_back setting turn.txn turn.releases game) { released = true } else game).turns)
    by_outcome true ended = λ over.
        ap (λ (n : ℕ). (turn_of setting n (gives_back setting turn.txn turn.releases game).turns).releases) (sym own)
        ∙ owes_back setting txns turn.txn turn.releases game (ap (λ (n : ℕ). is_in n txns) own ∙ number) order (ap (λ (n : ℕ). (turn_of setting n game.turns).releases) own)
    by_outcome false goes = λ over. never (is_some turn.outcome) goes over

owes_line : (setting : Setting) (txns : List ℕ) (txn : ℕ) (lines : List Line) (game : Game) → is_in txn txns ≡ true → IsInOrder setting txns game →
    is_some (turn_of setting txn game.turns).outcome ≡ false → (turn_of setting txn game.turns).lines ≡ lines →
    Owes (turn_of setting txn (plays_line setting txn lines game).turns)
owes_line setting txns txn [] game number order goes same = λ over. never (is_some (turn_of setting txn game.turns).outcome) goes over
owes_line setting txns txn (line ∷ lines) game number order goes same =
    let turn = turn_of setting txn game.turns in
    let at : IsAtLine setting txns game turn line lines = record { of_game = the_turn setting txns txn game number order; goes = goes; next = same } in
    owes_settles setting txns txn (does setting turn (line_move setting game turn line.deed) game) number
    (holds_plays setting txns AnyOne (λ g. Unit {0}) game turn line lines (keeps_nothing setting txns) at tt tt).order

owes_on : (setting : Setting) (txns : List ℕ) (txn : ℕ) (lines : List Line) (game : Game) → is_in txn txns ≡ true → IsInOrder setting txns game →
    Owes (turn_of setting txn game.turns) → Owes (turn_of setting txn (plays_on setting txn lines game).turns)
owes_on setting txns txn [] game number order owes = owes
owes_on setting txns txn (line ∷ lines) game number order owes =
    by_test (is_ready (turn_of setting txn game.turns)) refl (λ onward now. owes_on setting txns txn lines (plays_next setting txn game) number onward now)
  where
    turn : Turn
    turn = turn_of setting txn game.turns

    by_test : (b : Bool) → is_ready turn ≡ b →
        (IsInOrder setting txns (plays_next setting txn game) → Owes (turn_of setting txn (plays_next setting txn game).turns) →
        Owes (turn_of setting txn (plays_on setting txn lines (plays_next setting txn game)).turns)) →
        Owes (turn_of setting txn (if b then plays_on setting txn lines (plays_next setting txn game) else game).turns)
    by_test true ready on =
        let goes = ready_goes turn ready in
        on (holds_next setting txns AnyOne (λ g. Unit {0}) txn game (keeps_nothing setting txns) tt number (ordered setting txns game order) goes).order
        (owes_line setting txns txn turn.lines game number order goes refl)
    by_test false waiting on = owes

-- a turn between two steps
pub record IsIdle (turn : Turn) : Type 0 where
  pub rests : Rests turn []
  pub owes : Owes turn

abbrev IdleAt : Setting → ℕ → Game → Type 0
IdleAt setting txn game = IsIdle (turn_of setting txn game.turns)

-- All of them.
pub record AreAtRest (setting : Setting) (txns : List ℕ) (game : Game) : Type 0 where
  pub order : IsInOrder setting txns game
  pub rest : (txn : ℕ) → is_in txn txns ≡ true → IsIdle (turn_of setting txn game.turns)

rest_retried : (setting : Setting) (txns : List ℕ) (game : Game) (txn : ℕ) → is_in txn txns ≡ true → AreAtRest setting txns game → AreAtRest setting txns (retried setting game txn)
rest_retried setting txns game txn number at_rest = record {
  order = (holds_retried setting txns AnyOne (λ g. Unit {0}) game txn (keeps_nothing setting txns) tt number (ordered setting txns game at_rest.order)).order;
  rest = λ other there. by_number other there (other == txn) refl;
}
  where
    turn : Turn
    turn = turn_of setting txn game.turns

    own : (b : Bool) → is_waiting turn ≡ b → IdleAt setting txn (if b then (let next = plays_next setting txn game in plays_on setting txn (turn_of setting txn next.turns).lines next) else game)
    own true held =
        let goes = waits_goes setting turn (turn_has (IsSteady setting) setting txns game turn (the_turn setting txns txn game number at_rest.order) at_rest.order.steady) held in
        let next = holds_next setting txns AnyOne (λ g. Unit {0}) txn game (keeps_nothing setting txns) tt number (ordered setting txns game at_rest.order) goes in
        record {
          rests = rests_on setting txns txn (turn_of setting txn (plays_next setting txn game).turns).lines (plays_next setting txn game) number next.order (λ ready. refl);
          owes = owes_on setting txns txn (turn_of setting txn (plays_next setting txn game).turns).lines (plays_next setting txn game) number next.order
              (owes_line setting txns txn turn.lines game number at_rest.order goes refl);
        }
    own false free = at_rest.rest txn number

    by_number : (other : ℕ) → is_in other txns ≡ true → (b : Bool) → (other == txn) ≡ b → IdleAt setting other (retried setting game txn)
    by_number other there true e = subst (λ (n : ℕ). IdleAt setting n (retried setting game txn)) (sym (eq_of other txn e)) (own (is_waiting turn) refl)
    by_number other there false e =
        let stays = holds_retried setting txns (λ n. other ≢ n) (λ g. turn_of setting other g.turns ≡ turn_of setting other game.turns) game txn
        (keeps_other setting txns other (turn_of setting other game.turns))
        (λ same. absurd (let k : false ≡ true = sym e ∙ eq-eqb other txn same in cc)) number (record { order = at_rest.order; is = refl }) in
        subst IsIdle (sym stays.is) (at_rest.rest other there)

rest_marked : (setting : Setting) (txns : List ℕ) (game : Game) (released : Bool) → AreAtRest setting txns game → AreAtRest setting txns (record game { released = released })
rest_marked setting txns game released at_rest = record { order = record { sorted = at_rest.order.sorted; numbers = at_rest.order.numbers; steady = at_rest.order.steady }; rest = at_rest.rest }

rest_round : (setting : Setting) (txns left : List ℕ) (game : Game) → AreOf txns left → AreAtRest setting txns game → AreAtRest setting txns (fold (retried setting) game left)
rest_round setting txns [] game all at_rest = at_rest
rest_round setting txns (txn ∷ left) game all at_rest = rest_round setting txns left (retried setting game txn) all.1 (rest_retried setting txns game txn all.0 at_rest)

pub rest_swept : (setting : Setting) (txns : List ℕ) (game : Game) → AreAtRest setting txns game → AreAtRest setting txns (swept setting txns game)
rest_swept setting txns game at_rest = rest_round setting txns txns (record game { released = false }) (are_of txns) (rest_marked setting txns game false at_rest)

rest_swept_if : (setting : Setting) (txns : List ℕ) (game : Game) → AreAtRest setting txns game → AreAtRest setting txns (swept_if_released setting txns game)
unfolding swept_if_released
rest_swept_if setting txns game at_rest = by_test game.released
  where
    by_test : (b : Bool) → AreAtRest setting txns (if b then swept setting txns game else game)
    by_test true = rest_swept setting txns game at_rest
    by_test false = at_rest

rest_rounds : (setting : Setting) (txns left : List ℕ) (game : Game) → AreAtRest setting txns game → AreAtRest setting txns (fold (λ game (txn : ℕ). swept_if_released setting txns game) game left)
rest_rounds setting txns [] game at_rest = at_rest
rest_rounds setting txns (txn ∷ left) game at_rest = rest_rounds setting txns left (swept_if_released setting txns game) (rest_swept_if setting txns game at_rest)

pub rest_settled : (setting : Setting) (txns : List ℕ) (game : Game) → AreAtRest setting txns game → AreAtRest setting txns (settled setting txns game)
rest_settled setting txns game at_rest = rest_rounds setting txns txns game at_rest

-- a line is added, and played at once where its transaction is ready
pub rest_added : (setting : Setting) (txns : List ℕ) (game : Game) (turn : Turn) (line : Line) → IsTurnOf setting txns game turn → IsFitLine setting turn.txn line →
    AreAtRest setting txns game → AreAtRest setting txns (added setting line turn game)
rest_added setting txns game turn line of_game fits at_rest = by_outcome (is_some turn.outcome) refl
  where
    new : Turn
    new = record turn { lines = turn.lines ++ line ∷ [] }

    next : Game
    next = takes turn line game

    number : is_in turn.txn (numbers game.turns) ≡ true
    number = ap (is_in turn.txn) of_game.order.numbers ∙ of_game.number

    there : turn_of setting turn.txn next.turns ≡ new
    there = turn_of_with setting new game.turns number

    steady : IsSteady setting turn
    steady = turn_has (IsSteady setting) setting txns game turn of_game of_game.order.steady

    order : is_some turn.outcome ≡ false → IsInOrder setting txns next
    order goes = in_order_with setting txns game.events game.released game new of_game.order (steady_taking setting turn line goes fits steady)

    others : (other : ℕ) → is_in other txns ≡ true → other ≢ turn.txn → IdleAt setting other next
    others other inside differs = subst IsIdle (sym (turn_of_other setting other new game.turns differs)) (at_rest.rest other inside)

    by_number : (P : ℕ → Type 0) (other : ℕ) → P turn.txn → (other ≢ turn.txn → P other) → P other
    by_number P other mine rest = by_test (other == turn.txn) refl
      where
        by_test : (b : Bool) → (other == turn.txn) ≡ b → P other
        by_test true e = subst P (sym (eq_of other turn.txn e)) mine
        by_test false e = rest (λ same. absurd (let k : false ≡ true = sym e ∙ eq-eqb other turn.txn same in cc))

    by_waiting : (b : Bool) → is_waiting turn ≡ b → is_some turn.outcome ≡ false → AreAtRest setting txns (if b then next else plays_next setting turn.txn next)
    by_waiting true held goes = record {
      order = order goes;
      rest = λ other inside. by_number (λ n. IdleAt setting n next) other
          (subst IsIdle (sym there) (record { rests = λ ready. not_ready new held ready; owes = λ over. never (is_some turn.outcome) goes over })) (others other inside);
    }
    by_waiting false free goes =
        let onward = holds_next setting txns AnyOne (λ g. Unit {0}) turn.txn next (keeps_nothing setting txns) tt of_game.number (ordered setting txns next (order goes))
        (ap (λ (t : Turn). is_some t.outcome) there ∙ goes) in
        record {
          order = onward.order;
          rest = λ other inside. by_number (λ n. IdleAt setting n (plays_next setting turn.txn next)) other mine (λ differs.
              let stays = holds_next setting txns (λ n. other ≢ n) (λ g. turn_of setting other g.turns ≡ turn_of setting other next.turns) turn.txn next
              (keeps_other setting txns other (turn_of setting other next.turns)) differs of_game.number
              (record { order = order goes; is = refl }) (ap (λ (t : Turn). is_some t.outcome) there ∙ goes) in
              subst IsIdle (sym stays.is) (others other inside differs));
        }
      where
        ready_now : (o : Option Outcome) → is_some o ≡ false → (is_none o && true) ≡ true
        ready_now None e = refl
        ready_now (Some o) e = absurd cc

        empty : turn.lines ≡ []
        empty = ap (λ (t : Turn). t.lines) (sym of_game.there) ∙ (at_rest.rest turn.txn of_game.number).rests
            (ap is_ready of_game.there ∙ ap (λ (b : Bool). is_none turn.outcome && not b) free ∙ ready_now turn.outcome goes)

        rested : RestsAt setting turn.txn [] (plays_next setting turn.txn next)
        rested = subst (λ (ls : List Line). RestsAt setting turn.txn ls (plays_next setting turn.txn next))
            (ap rest_of (ap (λ (t : Turn). t.lines) there ∙ ap (λ (ls : List Line). ls ++ line ∷ []) empty))
            (rests_line setting txns turn.txn (turn_of setting turn.txn next.turns).lines next of_game.number (order goes) (ap (λ (t : Turn). is_some t.outcome) there ∙ goes) refl)

        mine : IdleAt setting turn.txn (plays_next setting turn.txn next)
        mine = record {
          rests = rested;
          owes = owes_line setting txns turn.txn (turn_of setting turn.txn next.turns).lines next of_game.number (order goes) (ap (λ (t : Turn). is_some t.outcome) there ∙ goes) refl;
        }

    by_outcome : (b : Bool) → is_some turn.outcome ≡ b → AreAtRest setting txns (if b then game else if is_waiting turn then next else plays_next setting turn.txn next)
    by_outcome true ended = at_rest
    by_outcome false goes = by_waiting (is_waiting turn) refl goes
