-- What a start and a retry ask of the board.
use Rattle.std.proofs.Common.{◌≡◌, ℕ, suc, ◌+◌, ◌<◌, ◌≤◌, List, [], ◌∷◌, map, Bool, true, false, ◌==◌, ◌&&◌, ◌||◌, nat_lt, if◌then◌else◌, Option, Some, None, length, nat_cmp, Result, refl, sym, ap, subst, ◌∙◌, arith}
use Rattle.std.specs.List.{AllByRecursion, cons_option, list_all}
use Rattle.std.specs.List.Sorted.{IsStrictlySortedBy}
use Rattle.std.proofs.lemmas.Bool.Decides.{nat_tests}
use Rattle.std.proofs.lemmas.List.{length-map}
use Rattle.lt_ranges.specs.Numbers.{is_in}
use Rattle.lt_seq.specs.declared.event.Event.{Event}
use Rattle.lt_seq.specs.declared.fault.Fault.{Fault}
use Rattle.lt_seq.specs.Table.{Setting}
use Rattle.lt_seq.specs.Yard.{Origin, origin_of, PassView, place_after, places_end}
use Rattle.lt_seq.proofs.NumbersLaws.{AllAbove, Rises, increasing_from}
use Rattle.lt_trace.specs.declared.line.Line.{Line}
use Rattle.lt_requests.specs.declared.wish.Wish.{Wish}
use Rattle.lt_requests.specs.declared.started.Started.{Started}
use Rattle.lt_requests.specs.Registered.{Ascend, MayAsk, may_ask, is_registered, wish_of as registered_wish, txns_of}
use Rattle.lt_requests.specs.Started.{IsStarted, Keeps}
use Rattle.lt_runner.specs.TurnView.{Turn}
use Rattle.lt_runner.specs.Attempt.{bar_of}
use Rattle.lt_runner.specs.Notes.{KeepsNotes}
use Rattle.lt_runner.specs.Plays.{next_wish}
use Rattle.lt_runner.specs.Serial.{with_turn, wishes_in}
use Rattle.lt_runner.specs.Steps.{IsSteady, IsFitLine}
use Rattle.lt_runner.specs.StartsAlone.{IsStartedAtOnce}
use Rattle.lt_runner.specs.Board.{BoardView, IsBoard, HasTable, HasRoom, turns_of, game_on, turn_on, moved}
use Rattle.lt_runner.proofs.ChoiceLaws.{on_true, on_false}
use Rattle.lt_runner.proofs.SteadyLaws.{numbers_with}
use Rattle.lt_runner.proofs.WishLaws.{wish_of, wish_of_number, wish_there}
use Rattle.lt_runner.proofs.WaitLaws.{AllOver, over_less}
use Rattle.lt_runner.proofs.SeatMoveLaws.{room_here}
use Rattle.lt_runner.proofs.StartedLaws.{started_at_once}
use Rattle.lt_runner.proofs.LockMoveLaws.{IsLocking, has_lock, lock_fits, txn_is}

-- Who is registered.

absent_from : (txn : ℕ) (ws : List Wish) → registered_wish txn ws ≡ None → is_registered txn ws ≡ false
absent_from txn [] none = refl
absent_from txn (w ∷ ws) none = by_test (w.txn == txn) none (absent_from txn ws)
  where
    by_test : (b : Bool) → (if b then Some w else registered_wish txn ws) ≡ None →
        (registered_wish txn ws ≡ None → is_registered txn ws ≡ false) → (b || is_registered txn ws) ≡ false
    by_test true h rest = absurd cc
    by_test false h rest = rest h

there_in : (txn : ℕ) (wish : Wish) (ws : List Wish) → registered_wish txn ws ≡ Some wish → is_registered txn ws ≡ true
there_in txn wish [] some = absurd cc
there_in txn wish (w ∷ ws) some = by_test (w.txn == txn) some (there_in txn wish ws)
  where
    by_test : (b : Bool) → (if b then Some w else registered_wish txn ws) ≡ Some wish →
        (registered_wish txn ws ≡ Some wish → is_registered txn ws ≡ true) → (b || is_registered txn ws) ≡ true
    by_test true h rest = refl
    by_test false h rest = rest h

wish_on : (setting : Setting) (txns : List ℕ) (txn : ℕ) (events : List Event) (board : BoardView) (registry : List Wish) →
    IsBoard setting txns events board → is_in txn txns ≡ true → registry ≡ board.registry →
    registered_wish txn registry ≡ wish_of (turn_on setting txn board)
wish_on setting txns txn events board registry stands number same =
    ap (registered_wish txn) (same ∙ stands.waiting)
    ∙ wish_there setting txn (turns_of board.seats) (subst (IsStrictlySortedBy nat_cmp) (sym stands.order.numbers) stands.order.sorted) (ap (is_in txn) stands.order.numbers ∙ number)

pub not_registered : (setting : Setting) (txns : List ℕ) (txn : ℕ) (events : List Event) (board : BoardView) (wish : Wish) (registry : List Wish) →
    IsBoard setting txns events board → is_in txn txns ≡ true →
    registry ≡ board.registry → (turn_on setting txn board).waits ≡ false → wish.txn ≡ txn → is_registered wish.txn registry ≡ false
not_registered setting txns txn events board wish registry stands number same quiet own =
    let turn = turn_on setting txn board in
    ap (λ (n : ℕ). is_registered n registry) own
    ∙ absent_from txn registry (wish_on setting txns txn events board registry stands number same ∙ on_false turn.waits (next_wish turn.txn turn.lines) None quiet)

pub registered_is : (setting : Setting) (txns : List ℕ) (txn : ℕ) (events : List Event) (board : BoardView) (wish : Wish) (registry : List Wish) →
    IsBoard setting txns events board → is_in txn txns ≡ true →
    registry ≡ board.registry → (turn_on setting txn board).waits ≡ true → next_wish (turn_on setting txn board).txn (turn_on setting txn board).lines ≡ Some wish → registered_wish txn registry ≡ Some wish
registered_is setting txns txn events board wish registry stands number same held is =
    let turn = turn_on setting txn board in
    wish_on setting txns txn events board registry stands number same ∙ on_true turn.waits (next_wish turn.txn turn.lines) None held ∙ is

pub is_there : (txn : ℕ) (wish : Wish) (registry : List Wish) → registered_wish txn registry ≡ Some wish → is_registered txn registry ≡ true
is_there txn wish registry some = there_in txn wish registry some

-- They may be asked for.

both : (a b : Bool) → a ≡ true → b ≡ true → (a && b) ≡ true
both true b e f = f
both false b e f = absurd (let k : false ≡ true = e in cc)

pub may_be_asked : (setting : Setting) (txn : ℕ) (wish : Wish) (lines : List Line) → AllByRecursion (IsFitLine setting txn) lines →
    1 ≤ txn → next_wish txn lines ≡ Some wish → may_ask setting.plan.trees wish ≡ true
may_be_asked setting txn wish lines fits some is =
    let at = has_lock txn wish lines is in
    let tree = lock_fits setting txn wish at.line at.rest lines at.next at.lock fits in
    let own = at.own in
    let one : 0 < wish.txn = omega (arith, some, own) in
    both (nat_lt 0 wish.txn) (nat_lt wish.tree setting.plan.trees) (grind (arith, nat_tests)) (grind (arith, nat_tests))

may_all : (setting : Setting) (turns : List Turn) → AllByRecursion (IsSteady setting) turns →
    AllByRecursion (λ n. 1 ≤ n) (map (λ t. t.txn) turns) → list_all (may_ask setting.plan.trees) (wishes_in turns) ≡ true
may_all setting [] steady some = refl
may_all setting (t ∷ ts) steady some = by_wish (wish_of t) refl (may_all setting ts steady.1 some.1)
  where
    of_turn : (w : Wish) (b : Bool) → t.waits ≡ b → (if b then next_wish t.txn t.lines else None) ≡ Some w →
        next_wish t.txn t.lines ≡ Some w
    of_turn w true e h = h
    of_turn w false e h = absurd cc

    by_wish : (o : Option Wish) → wish_of t ≡ o → list_all (may_ask setting.plan.trees) (wishes_in ts) ≡ true →
        list_all (may_ask setting.plan.trees) (cons_option o (wishes_in ts)) ≡ true
    by_wish None is rest = rest
    by_wish (Some w) is rest = both (may_ask setting.plan.trees w) _ (may_be_asked setting t.txn w t.lines steady.0.lines some.0 (of_turn w t.waits refl is)) rest

pub may_on : (setting : Setting) (txns : List ℕ) (events : List Event) (board : BoardView) (registry : List Wish) →
    IsBoard setting txns events board → registry ≡ board.registry → MayAsk setting.plan.trees registry
may_on setting txns events board registry stands same =
    ap (list_all (may_ask setting.plan.trees)) (same ∙ stands.waiting)
    ∙ may_all setting (turns_of board.seats) stands.order.steady (subst (AllByRecursion (λ n. 1 ≤ n)) (sym stands.order.numbers) stands.numbered)

-- All that wait ascend, and are no more than the transactions.

over_wishes : (n : ℕ) (turns : List Turn) → AllOver n (map (λ t. t.txn) turns) → AllAbove n (txns_of (wishes_in turns))
over_wishes n [] all = tt
over_wishes n (t ∷ ts) all = by_wish (wish_of t) refl (over_wishes n ts all.1)
  where
    by_wish : (o : Option Wish) → wish_of t ≡ o → AllAbove n (txns_of (wishes_in ts)) → AllAbove n (txns_of (cons_option o (wishes_in ts)))
    by_wish None is rest = rest
    by_wish (Some w) is rest = ((let less = over_less n t.txn all.0 in omega (arith, less, wish_of_number t w is)), rest)

pub wishes_rise : (turns : List Turn) → IsStrictlySortedBy nat_cmp (map (λ t. t.txn) turns) → Rises (txns_of (wishes_in turns))
unfolding IsStrictlySortedBy
wishes_rise [] sorted = tt
wishes_rise (t ∷ ts) sorted = by_wish (wish_of t) refl (wishes_rise ts sorted.1)
  where
    by_wish : (o : Option Wish) → wish_of t ≡ o → Rises (txns_of (wishes_in ts)) → Rises (txns_of (cons_option o (wishes_in ts)))
    by_wish None is rest = rest
    by_wish (Some w) is rest = (subst (λ (n : ℕ). AllAbove n (txns_of (wishes_in ts))) (sym (wish_of_number t w is)) (over_wishes t.txn ts sorted.0), rest)

pub few_wishes : (turns : List Turn) → length (wishes_in turns) ≤ length turns
few_wishes [] = omega arith
few_wishes (t ∷ ts) = by_wish (wish_of t) (few_wishes ts)
  where
    by_wish : (o : Option Wish) → length (wishes_in ts) ≤ length ts → length (cons_option o (wishes_in ts)) ≤ suc (length ts)
    by_wish None rest = omega arith
    by_wish (Some w) rest = omega arith

-- The answer is the scheduler's move.

pub started_is : (setting : Setting) (txns : List ℕ) (txn : ℕ) (board : BoardView) (origin : Origin) (identity : List ℕ) (wish : Wish) (line : Line) (lines : List Line) (bar : ℕ)
    (others wishes before : List Wish) (old new : PassView) (left : List Wish) (started : Result Started Fault) →
    IsLocking setting txns txn old.front board wish line lines → HasTable origin identity setting old → bar ≡ bar_of setting (turn_on setting txn board) →
    wishes ≡ wishes_in (with_turn (record (turn_on setting txn board) { waits = true }) (turns_of board.seats)) → HasRoom setting txns (moved setting txn (game_on old.front board)) →
    IsStarted setting bar wish others wishes before old new left started → IsStartedAtOnce setting (turns_of board.seats) (turn_on setting txn board) wish old.front new.front started
started_is setting txns txn board origin identity wish line lines bar others wishes before old new left started at table bar_is all room is =
    started_at_once setting bar turns turn line lines wish others wishes before old new left started bar_is
    (record { number = table.number; all = table.all; trees = table.plan.trees; places = places })
    (record { lines_are = at.next; lock = at.lock; own = own; all = all; ascend = subst Ascend (sym all) (increasing_from _ (wishes_rise next sorted)) }) is
  where
    turn : Turn
    turn = turn_on setting txn board

    turns : List Turn
    turns = turns_of board.seats

    next : List Turn
    next = with_turn (record turn { waits = true }) turns

    own : wish.txn ≡ turn.txn
    own = at.own ∙ sym (txn_is setting txns txn old.front board at.stands at.number)

    sorted : IsStrictlySortedBy nat_cmp (map (λ t. t.txn) next)
    sorted = subst (IsStrictlySortedBy nat_cmp) (sym (numbers_with (record turn { waits = true }) turns ∙ at.stands.order.numbers)) at.stands.order.sorted

    wide : length next ≡ length txns
    wide = sym (length-map next (λ (t : Turn). t.txn)) ∙ ap length (numbers_with (record turn { waits = true }) turns ∙ at.stands.order.numbers)

    places : place_after setting old.front + setting.plan.trees + 1 + length wishes ≤ places_end
    places = let k = room_here setting txns txn old.front board room in omega (arith, k, few_wishes next, wide, ap (λ (ws : List Wish). length ws) all)

-- The pass acts alone as before, and has the notes of its joins.

pub table_after : (setting : Setting) (before after : Origin) (identity : List ℕ) (old new : PassView) → HasTable before identity setting old →
    after ≡ origin_of identity setting → Keeps setting old new → KeepsNotes setting old new → HasTable after identity setting new
table_after setting before after identity old new table same keeps notes =
    let goes = keeps.goes table.sound in
    record {
      of = same;
      plan = table.plan;
      number = goes.number ∙ table.number;
      right = omega (arith, table.right, keeps.rights);
      all = keeps.rights ∙ table.all;
      sound = goes.sound;
      noted = notes.notes table.all table.noted;
    }
