-- Between two steps of the plain scheduler's run some transaction is ready, or all have ended: those that wait alone would wait in a circle.
use Rattle.std.proofs.Common.{◌≡◌, inl, inr, ℕ, zero, suc, List, [], ◌∷◌, map, Bool, true, false, ◌==◌, ◌&&◌, not, if◌then◌else◌, Option, Some, None, is_some, is_none, replicate, get_or, nat_cmp, refl, sym, ap, subst, ◌∙◌}
use Rattle.std.specs.List.{AllByRecursion, find}
use Rattle.std.specs.List.Sorted.{IsStrictlySortedBy}
use Rattle.lt_ranges.specs.Interval.{Interval}
use Rattle.lt_ranges.specs.Numbers.{is_in}
use Rattle.lt_seq.specs.declared.event.Pair.{Pair}
use Rattle.lt_seq.specs.Table.{Setting}
use Rattle.lt_seq.specs.History.{after, IsLegal}
use Rattle.lt_trace.specs.declared.line.Line.{Line}
use Rattle.lt_trace.specs.declared.line.LineDeed.{LineDeed}
use Rattle.lt_trace.specs.declared.line.LineDeed.TheVariants.{Try, Lock, End, Abort, Escalate, Big}
use Rattle.lt_requests.specs.declared.wish.Wish.{Wish}
use Rattle.lt_history.specs.declared.outcome.Outcome.{Outcome}
use Rattle.lt_runner.specs.TurnView.{Turn, Recorded}
use Rattle.lt_runner.specs.Turn.{nothing_recorded}
use Rattle.lt_runner.specs.Plays.{is_lock, next_wish, end_of, opening_turn}
use Rattle.lt_runner.specs.Played.{IsAtLock}
use Rattle.lt_runner.specs.Serial.{Game, turn_of, is_ready, added, swept, settled, takes_line, ends_first, ends_one, opening_game}
use Rattle.lt_runner.specs.Steps.{IsFitLine, IsSteady, IsInOrder, IsTurnOf, KeepsSteps, takes, IsFit}
use Rattle.lt_runner.specs.Clear.{wish_at, IsHeldBy, WaitsNow, IsWay, IsLong, AreClear, IsClear}
use Rattle.lt_runner.specs.Due.{ranges_in, due_in, due_at, OverlapsOne, AreDue, AllAreDue}
use Rattle.lt_runner.proofs.ChoiceLaws.{on_true, on_false}
use Rattle.lt_runner.proofs.SteadyLaws.{at_turn, never, turn_of_txn, ready_goes}
use Rattle.lt_runner.proofs.MoveLaws.{the_turn, holds_swept}
use Rattle.lt_runner.proofs.IdleLaws.{AreAtRest}
use Rattle.lt_runner.proofs.StepLaws.{HoldsBetween, holds_added, holds_taken, rest_taken, found_ready, holds_ends_one, opening_in_order, opening_at_rest}
use Rattle.lt_runner.proofs.SettledLaws.{unreleased_taken, unreleased_ends}
use Rattle.lt_runner.proofs.EndLaws.{has_ended, NeverStuck}
use Rattle.lt_runner.proofs.WayLaws.{circle_of, circle_by}
use Rattle.lt_runner.proofs.BlockedLaws.{Meets, holder_meets}
use Rattle.lt_runner.proofs.GrowLaws.{PairsAt}
use Rattle.lt_runner.proofs.ClearLaws.{absent_turn, not_both, no_step}
use Rattle.lt_runner.proofs.SweptLaws.{IsOne, Legally, clear_swept, clear_settled, clear_added}

-- it is one of these and has not ended
abbrev pub IsOpen : Setting → List ℕ → Game → ℕ → Type 0
IsOpen setting txns game n = IsOne txns n × (has_ended setting n game ≡ false)

-- Who holds goes on.

-- a range that the owner is to give back
pub record IsToGive (owner : ℕ) (ranges : List Interval) : Type 0 where
  pub range : Interval
  pub some : OverlapsOne range ranges

pub to_give : (Due : ℕ → List Interval) (owner : ℕ) (range : Interval) (pairs : List Pair) → Meets owner range pairs → AreDue Due pairs →
    IsToGive owner (Due owner)
to_give Due owner range [] meets due = absurd meets
to_give Due owner range (p ∷ ps) (inl here) due = record { range = p.range; some = subst (λ (n : ℕ). OverlapsOne p.range (Due n)) here.0 due.0 }
to_give Due owner range (p ∷ ps) (inr there) due = to_give Due owner range ps there due.1

nothing_at : (count k : ℕ) → get_or (replicate count nothing_recorded) k nothing_recorded ≡ nothing_recorded
nothing_at zero k = refl
nothing_at (suc n) zero = refl
nothing_at (suc n) (suc k) = nothing_at n k

none_given : (owner : ℕ) (ranges : List Interval) → ranges ≡ [] → IsToGive owner ranges → ⊥
none_given owner ranges none gives = subst (OverlapsOne gives.range) none gives.some

-- who is to give back something, between two steps, is one of the transactions, and has not ended
pub giver_goes : (setting : Setting) (txns : List ℕ) (game : Game) (tree owner : ℕ) → AreAtRest setting txns game →
    IsToGive owner (due_at setting game tree owner) → IsOpen setting txns game owner
giver_goes setting txns game tree owner at_rest gives = by_number (is_in owner txns) refl
  where
    by_outcome : is_in owner txns ≡ true → (b : Bool) → has_ended setting owner game ≡ b → IsOpen setting txns game owner
    by_outcome there false e = (there, e)
    by_outcome there true e =
        let turn = turn_of setting owner game.turns in
        absurd (none_given owner (due_at setting game tree owner)
        (on_true (is_some turn.outcome) (ranges_in tree turn.releases) (get_or turn.recorded tree nothing_recorded).ranges e
        ∙ ap (ranges_in tree) ((at_rest.rest owner there).owes e)) gives)

    by_number : (b : Bool) → is_in owner txns ≡ b → IsOpen setting txns game owner
    by_number true there = by_outcome there (has_ended setting owner game) refl
    by_number false out =
        absurd (none_given owner (due_at setting game tree owner)
        (ap (due_in tree) (absent_turn setting owner game.turns (ap (is_in owner) at_rest.order.numbers ∙ out))
        ∙ ap (λ (r : Recorded). r.ranges) (nothing_at setting.plan.trees tree)) gives)

holder_goes : (setting : Setting) (txns : List ℕ) (game : Game) (tree owner : ℕ) (range : Interval) → AreAtRest setting txns game →
    AllAreDue setting game →
    Meets owner range (PairsAt (after setting game.events) tree) → IsOpen setting txns game owner
holder_goes setting txns game tree owner range at_rest due meets =
    giver_goes setting txns game tree owner at_rest (to_give (due_at setting game tree) owner range (PairsAt (after setting game.events) tree) meets (due tree))

-- Who goes on and is not ready waits.

none_ready : (turns : List Turn) → find is_ready turns ≡ None → AllByRecursion (λ t. is_ready t ≡ false) turns
none_ready [] none = tt
none_ready (t ∷ ts) none = by_test (is_ready t) refl none (none_ready ts)
  where
    by_test : (b : Bool) → is_ready t ≡ b → (if b then Some t else find is_ready ts) ≡ None →
        (find is_ready ts ≡ None → AllByRecursion (λ u. is_ready u ≡ false) ts) →
        AllByRecursion (λ u. is_ready u ≡ false) (t ∷ ts)
    by_test true e h later = absurd (let k : Some t ≡ None = h in cc)
    by_test false e h later = (e, later h)

waits_by : (turn : Turn) → is_ready turn ≡ false → is_some turn.outcome ≡ false → turn.waits ≡ true
waits_by turn still goes = by_outcome turn.outcome turn.waits still goes
  where
    by_outcome : (o : Option Outcome) (w : Bool) → (is_none o && not w) ≡ false → is_some o ≡ false → w ≡ true
    by_outcome None true e h = refl
    by_outcome None false e h = absurd (let k : true ≡ false = e in cc)
    by_outcome (Some outcome) w e h = absurd (let k : true ≡ false = h in cc)

-- a lock line is a wish
pub lock_wish : (txn : ℕ) (lines : List Line) → IsAtLock lines → (w : Wish) × (next_wish txn lines ≡ Some w)
lock_wish txn [] lock = absurd lock
lock_wish txn (line ∷ lines) lock = by_deed line.deed lock
  where
    by_deed : (deed : LineDeed) → is_lock deed ≡ true → (w : Wish) × (next_wish txn (record line { deed = deed } ∷ lines) ≡ Some w)
    by_deed (Try tree range) e = absurd (let k : false ≡ true = e in cc)
    by_deed (Lock tree range) e = (record { txn = txn; tree = tree; range = range }, refl)
    by_deed End e = absurd (let k : false ≡ true = e in cc)
    by_deed Abort e = absurd (let k : false ≡ true = e in cc)
    by_deed (Escalate tree) e = absurd (let k : false ≡ true = e in cc)
    by_deed Big e = absurd (let k : false ≡ true = e in cc)

waits_for_one : (setting : Setting) (txns : List ℕ) (game : Game) → AreAtRest setting txns game → find is_ready game.turns ≡ None →
    (n : ℕ) → IsOpen setting txns game n →
    (w : Wish) × (wish_at setting n game ≡ Some w)
waits_for_one setting txns game at_rest none n (there, goes) =
    let turn = turn_of setting n game.turns in
    let inside = ap (is_in n) at_rest.order.numbers ∙ there in
    let held = waits_by turn (at_turn (λ t. is_ready t ≡ false) setting n game.turns inside (none_ready game.turns none)) goes in
    let steady = at_turn (IsSteady setting) setting n game.turns inside at_rest.order.steady in
    let wish = lock_wish turn.txn turn.lines (steady.held held) in
    (wish.0, on_true turn.waits (next_wish turn.txn turn.lines) None held ∙ wish.1)

-- The circle.

way_all : (N : ℕ → Type 0) (R : ℕ → ℕ → Type 0) (from to : ℕ) (way : List ℕ) → ((a b : ℕ) → R a b → N b) → IsWay R from way to →
    AllByRecursion N way
way_all N R from to [] each along = tt
way_all N R from to (n ∷ ns) each along = (each from n along.0, way_all N R n to ns each along.1)

long_all : (N : ℕ → Type 0) (R : ℕ → ℕ → Type 0) (from to : ℕ) (way : List ℕ) → ((a b : ℕ) → R a b → N b) → IsLong R from way to →
    AllByRecursion N way
long_all N R from to [] each along = tt
long_all N R from to (n ∷ ns) each along = way_all N R from to (n ∷ ns) each along

-- where each of these waits, and all that it waits for are of them, they wait in a circle
pub in_circle : (setting : Setting) (txns : List ℕ) (game : Game) (W : ℕ → Type 0) (txn : ℕ) → AreClear setting (IsOne txns) game →
    ((n : ℕ) → W n → IsOne txns n) →
    ((n : ℕ) → W n → (w : Wish) × (wish_at setting n game ≡ Some w)) → ((w : Wish) (m : ℕ) → IsHeldBy setting game w m → W m) → W txn → ⊥
in_circle setting txns game W txn clear inside waits holds first =
    let R = λ (a b : ℕ). WaitsNow setting game a b × W b in
    let round = circle_of R W txns txn inside step first in
    let all = long_all (IsOne txns) R round.txn round.txn round.way (λ a b s. inside b s.1) round.round in
    clear.no_circle round.txn round.way all (circle_by (IsOne txns) R (WaitsNow setting game) round.txn round.way (λ a b of_a of_b s. s.0) all round.round)
  where
    step : (n : ℕ) → W n → (m : ℕ) × (WaitsNow setting game n m × W m) × W m
    step n now =
        let (w, is) = waits n now in
        let (m, held) = clear.blocked n w (inside n now) is in
        let on = holds w m held in
        (m, ((w, is, held), on), on)

-- where none is ready all have ended
pub all_over : (setting : Setting) (txns : List ℕ) (game : Game) → AreAtRest setting txns game → AreClear setting (IsOne txns) game →
    AllAreDue setting game →
    find is_ready game.turns ≡ None → (txn : ℕ) → is_in txn txns ≡ true → has_ended setting txn game ≡ true
all_over setting txns game at_rest clear due none txn there = by_ended (has_ended setting txn game) refl
  where
    by_ended : (b : Bool) → has_ended setting txn game ≡ b → has_ended setting txn game ≡ true
    by_ended true e = e
    by_ended false e =
        absurd (in_circle setting txns game (IsOpen setting txns game) txn clear (λ n goes. goes.0) (waits_for_one setting txns game at_rest none)
        (λ w m held. holder_goes setting txns game w.tree m w.range at_rest due (holder_meets w.txn m w.range (PairsAt (after setting game.events) w.tree) held).meets) (there, e))

-- A game between two steps: each pair is to be given back, and no deadlock is among those that wait.
pub record IsBetween (setting : Setting) (txns : List ℕ) (P : List Line → Game → Type 0) (left : List Line) (game : Game) : Type 0 where
  pub between : HoldsBetween setting txns (P left) game
  pub unreleased : game.released ≡ false
  pub clear : IsClear setting (IsOne txns) game

-- a property that each step keeps, of games with legal events in which each pair is to be given back
pub record KeepsDue (setting : Setting) (txns : List ℕ) (P : List Line → Game → Type 0) : Type 0 where
  pub keeps : KeepsSteps setting txns P
  pub legal : (left : List Line) (game : Game) → P left game → IsLegal setting game.events
  pub due : (left : List Line) (game : Game) → P left game → AllAreDue setting game

legally : (setting : Setting) (txns : List ℕ) (P : List Line → Game → Type 0) (left : List Line) → KeepsDue setting txns P →
    Legally setting txns (P left)
legally setting txns P left by = record { keeps = by.keeps.moves left; legal = by.legal left }

between_taken : (setting : Setting) (txns : List ℕ) (P : List Line → Game → Type 0) (line : Line) (left : List Line) (game : Game) →
    KeepsDue setting txns P → IsFit setting txns line →
    IsBetween setting txns P (line ∷ left) game → IsBetween setting txns P left (takes_line setting txns game line)
between_taken setting txns P line left game by fit was =
    let turn = turn_of setting line.txn game.turns in
    let order = was.between.at_rest.order in
    let of_game = the_turn setting txns line.txn game fit.number order in
    let own : line.txn ≡ turn.txn = sym (turn_of_txn setting line.txn game.turns (ap (is_in line.txn) order.numbers ∙ fit.number)) in
    let fits : IsFitLine setting turn.txn line = record { own = own; deed = fit.deed } in
    let holds = holds_added setting txns (P left) game turn line (by.keeps.moves left) of_game fits
    (λ goes. by.keeps.adds game turn line left (record { of_game = of_game; goes = goes; fits = fits }) was.between.holds.is)
    (λ ended. by.keeps.passes game turn line left (record { of_game = of_game; ended = ended; fits = fits }) was.between.holds.is) in
    record {
      between = record {
        holds = holds_taken setting txns P line left game by.keeps fit was.between.holds;
        at_rest = rest_taken setting txns line game fit was.between.at_rest;
      };
      unreleased = unreleased_taken setting txns line game fit was.between.at_rest was.unreleased;
      clear = clear_settled setting txns (P left) (added setting line turn game) (legally setting txns P left by) holds
          (clear_added setting txns (P left) game turn line (legally setting txns P left by) of_game fits
          (λ goes. by.keeps.adds game turn line left (record { of_game = of_game; goes = goes; fits = fits }) was.between.holds.is) was.clear);
    }

between_ends : (setting : Setting) (txns : List ℕ) (P : List Line → Game → Type 0) (game : Game) → KeepsDue setting txns P →
    IsBetween setting txns P [] game → IsBetween setting txns P [] (ends_one setting txns game)
between_ends setting txns P game by was = record {
  between = holds_ends_one setting txns P game by.keeps was.between;
  unreleased = unreleased_ends setting txns game was.between.at_rest was.unreleased;
  clear = by_found (find is_ready game.turns) refl;
}
  where
    order : IsInOrder setting txns game
    order = was.between.at_rest.order

    by_found : (found : Option Turn) → find is_ready game.turns ≡ found →
        IsClear setting (IsOne txns) (settled setting txns (ends_first setting txns found game))
    by_found None none =
        clear_settled setting txns (P []) (swept setting txns game) (legally setting txns P [] by) (holds_swept setting txns (P []) game (by.keeps.moves []) was.between.holds)
        (clear_swept setting txns (P []) game (legally setting txns P [] by) was.between.holds)
    by_found (Some turn) some =
        let found = found_ready setting game.turns turn (subst (IsStrictlySortedBy nat_cmp) (sym order.numbers) order.sorted) some in
        let of_game : IsTurnOf setting txns game turn = record { order = order; number = sym (ap (is_in turn.txn) order.numbers) ∙ found.number; there = found.there } in
        let goes = ready_goes turn found.ready in
        let line = end_of turn.txn in
        let fits : IsFitLine setting turn.txn line = record { own = refl; deed = tt } in
        let empty : turn.lines ≡ [] = ap (λ (t : Turn). t.lines) (sym found.there) ∙ (was.between.at_rest.rest turn.txn of_game.number).rests (ap is_ready found.there ∙ found.ready) in
        let taken : P [] (takes turn line game) = by.keeps.ends game turn (record { of_game = of_game; ready = found.ready; empty = empty }) was.between.holds.is in
        let holds = holds_added setting txns (P []) game turn line (by.keeps.moves []) of_game fits (λ onward. taken) (λ ended. never (is_some turn.outcome) goes ended) in
        clear_settled setting txns (P []) (added setting line turn game) (legally setting txns P [] by) holds
        (clear_added setting txns (P []) game turn line (legally setting txns P [] by) of_game fits (λ onward. taken) was.clear)

pub never_stuck : (setting : Setting) (txns : List ℕ) (P : List Line → Game → Type 0) → KeepsDue setting txns P →
    NeverStuck setting txns (IsBetween setting txns P)
never_stuck setting txns P by = record {
  at_rest = λ left game is. is.between.at_rest;
  takes_one = λ line left game fit is. between_taken setting txns P line left game by fit is;
  ends_next = λ game is. between_ends setting txns P game by is;
  over = λ game is none txn there. all_over setting txns game is.between.at_rest (is.clear is.unreleased) (by.due [] game is.between.holds.is) none txn there;
}

-- Before the first line.

opening_free : (setting : Setting) (ns : List ℕ) (txn : ℕ) → (turn_of setting txn (map (λ n. opening_turn setting n []) ns)).waits ≡ false
opening_free setting [] txn = refl
opening_free setting (n ∷ ns) txn = by_test (n == txn) (opening_free setting ns txn)
  where
    by_test : (b : Bool) → (turn_of setting txn (map (λ k. opening_turn setting k []) ns)).waits ≡ false →
        (if b then opening_turn setting n [] else turn_of setting txn (map (λ k. opening_turn setting k []) ns)).waits ≡ false
    by_test true rest = refl
    by_test false rest = rest

opening_wish : (setting : Setting) (txns : List ℕ) (txn : ℕ) → wish_at setting txn (opening_game setting txns) ≡ None
opening_wish setting txns txn =
    let turn = turn_of setting txn (opening_game setting txns).turns in
    on_false turn.waits (next_wish turn.txn turn.lines) None (opening_free setting txns txn)

opening_clear : (setting : Setting) (txns : List ℕ) → AreClear setting (IsOne txns) (opening_game setting txns)
opening_clear setting txns = record {
  blocked = λ txn w there is. not_both (wish_at setting txn game) w (opening_wish setting txns txn) is;
  no_circle = λ txn way all circle. no_step setting game txn way (opening_wish setting txns txn) circle;
}
  where
    game : Game
    game = opening_game setting txns

pub opening_between : (setting : Setting) (txns : List ℕ) (P : List Line → Game → Type 0) (lines : List Line) → IsStrictlySortedBy nat_cmp txns →
    P lines (opening_game setting txns) → IsBetween setting txns P lines (opening_game setting txns)
opening_between setting txns P lines sorted first = record {
  between = record { holds = record { order = opening_in_order setting txns sorted; is = first }; at_rest = opening_at_rest setting txns sorted };
  unreleased = refl;
  clear = λ free. opening_clear setting txns;
}
