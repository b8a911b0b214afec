-- A move at a line makes few events, owes few frees more, and leaves fewer lines to try.
use Rattle.std.proofs.Common.{◌≡◌, ℕ, zero, suc, ◌+◌, ◌*◌, ◌≤◌, List, [], ◌∷◌, ◌++◌, Bool, true, false, ◌&&◌, ◌==◌, if◌then◌else◌, Option, Some, None, nat_lt, is_some, length, get_or, slice_set, refl, sym, ap, subst, arith, length-append}
use Rattle.std.specs.List.{filter_map, cons_option}
use Rattle.std.proofs.lemmas.List.{length-map}
use Rattle.lt_ranges.specs.Interval.{Interval, whole}
use Rattle.lt_seq.specs.declared.event.Deed.{Deed}
use Rattle.lt_seq.specs.declared.event.Deed.TheVariants.{Ask}
use Rattle.lt_seq.specs.declared.event.Reply.{Reply}
use Rattle.lt_seq.specs.declared.event.Reply.TheVariants.{Granted, Buffered, HeldBy}
use Rattle.lt_seq.specs.declared.event.Event.{Event}
use Rattle.lt_seq.specs.declared.event.Receipt.{Receipt}
use Rattle.lt_seq.specs.Table.{Setting, used}
use Rattle.lt_seq.specs.History.{after}
use Rattle.lt_seq.specs.Yard.{place_after}
use Rattle.lt_seq.specs.Passes.{numbers_from}
use Rattle.lt_seq.specs.Questions.{receipt_after, events_of, named_by, named_in}
use Rattle.lt_trace.specs.declared.line.Line.{Line}
use Rattle.lt_trace.specs.declared.line.LineDeed.{LineDeed}
use Rattle.lt_trace.specs.declared.line.LineDeed.TheVariants.{Try, Lock, End, Abort, Escalate, Big}
use Rattle.lt_requests.specs.declared.wish.Wish.{Wish}
use Rattle.lt_requests.specs.declared.cycle.Edge.{Edge}
use Rattle.lt_requests.specs.Search.{searched, wishes_of, new_wishes, question_for}
use Rattle.lt_history.specs.declared.outcome.Outcome.{Outcome}
use Rattle.lt_history.specs.declared.outcome.Outcome.TheVariants.{Done, Aborted, Deadlock, OutOfLocks}
use Rattle.lt_runner.specs.TurnView.{Turn, Recorded}
use Rattle.lt_runner.specs.Turn.{Move, asks, waits, stops, receipts_in, turn_after, releases_by, releases_in, releases_from, nothing_recorded, rest_of, past}
use Rattle.lt_runner.specs.Turn.{granted_to, ending, answered_by, walked, locked_by, asked_at, ended_at, reply_in}
use Rattle.lt_runner.specs.Attempt.{bar_of}
use Rattle.lt_runner.specs.Plays.{is_held, next_wish}
use Rattle.lt_runner.specs.Serial.{Game, is_waiting, wishes_in, with_turn, ask_move, joins_of, behind_joins, attempt, line_move}
use Rattle.lt_runner.proofs.ChoiceLaws.{on_false}

-- What a turn may still cost.

-- the frees of what it was granted in a tree, at most
abbrev pub owed_in : Recorded → ℕ
owed_in r = length r.ranges + (if r.buffered then 1 else 0)

abbrev pub may_free : List Recorded → ℕ
may_free [] = 0
may_free (r ∷ rs) = owed_in r + may_free rs

-- the frees that it may still make
abbrev pub frees_of : Turn → ℕ
frees_of turn = if is_some turn.outcome then length turn.releases else may_free turn.recorded

-- how often it may still come on at its lines: twice at each, first when it is tried and then when it is done
abbrev pub tries_of : Turn → ℕ
tries_of turn = if turn.waits then 1 + 2 * length (rest_of turn.lines) else 2 * length turn.lines

-- a move has left this turn at its line, or behind it
pub record IsSmall (old now : Turn) : Type 0 where
  pub frees : frees_of now ≤ frees_of old + 2
  pub tries : tries_of now ≤ 1 + 2 * length (rest_of old.lines)

-- Releases.

length-releases_by : (tree : ℕ) (first : Bool) (ranges : List Interval) → length (releases_by tree first ranges) ≡ length ranges
length-releases_by tree first [] = refl
length-releases_by tree first (r ∷ rs) = ap suc (length-releases_by tree false rs)

few_in : (tree : ℕ) (r : Recorded) → length (releases_in tree r) ≤ owed_in r
few_in tree r = by_buffer r.buffered
  where
    by_buffer : (b : Bool) →
        length (if b then record { tree = tree; range = whole; first = true } ∷ [] else releases_by tree true r.ranges) ≤ length r.ranges + (if b then 1 else 0)
    by_buffer true = omega arith
    by_buffer false = omega (arith, length-releases_by tree true r.ranges)

few_from : (tree : ℕ) (rs : List Recorded) → length (releases_from tree rs) ≤ may_free rs
few_from tree [] = omega arith
few_from tree (r ∷ rs) =
    omega (arith, few_in tree r, few_from (tree + 1) rs, length-append (releases_in tree r) (releases_from (tree + 1) rs))

few_set : (rs : List Recorded) (tree : ℕ) (r : Recorded) → owed_in r ≤ owed_in (get_or rs tree nothing_recorded) + 2 →
    may_free (slice_set rs tree r) ≤ may_free rs + 2
few_set [] tree r few = omega arith
few_set (x ∷ xs) zero r few = let k : owed_in r ≤ owed_in x + 2 = few in omega (arith, k)
few_set (x ∷ xs) (suc tree) r few = let k = few_set xs tree r few in omega (arith, k)

few_more : (ranges : List Interval) (range : Interval) (a b : Bool) →
    length (ranges ++ range ∷ []) + (if b then 1 else 0) ≤ (length ranges + (if a then 1 else 0)) + 2
few_more ranges range a b = by_flags a b (length-append ranges (range ∷ []))
  where
    by_flags : (x y : Bool) → length (ranges ++ range ∷ []) ≡ length ranges + 1 →
        length (ranges ++ range ∷ []) + (if y then 1 else 0) ≤ (length ranges + (if x then 1 else 0)) + 2
    by_flags true true e = omega (arith, e)
    by_flags true false e = omega (arith, e)
    by_flags false true e = omega (arith, e)
    by_flags false false e = omega (arith, e)

-- Turns.

two_more : (n : ℕ) → n ≤ n + 2
two_more n = omega arith

one_more : (n : ℕ) → 2 * n ≤ 1 + 2 * n
one_more n = omega arith

same_least : (n : ℕ) → n ≤ n
same_least n = omega arith

small_past : (turn : Turn) → IsSmall turn (past turn)
small_past turn = record { frees = two_more (frees_of turn); tries = one_more (length (rest_of turn.lines)) }

small_grown : (turn : Turn) → IsSmall turn (record (past turn) { big = true })
small_grown turn = record { frees = two_more (frees_of turn); tries = one_more (length (rest_of turn.lines)) }

small_granted : (tree : ℕ) (range : Interval) (buffered : Bool) (turn : Turn) → IsSmall turn (granted_to tree range buffered turn)
small_granted tree range buffered turn = record { frees = by_outcome (is_some turn.outcome); tries = one_more (length (rest_of turn.lines)) }
  where
    old : Recorded
    old = get_or turn.recorded tree nothing_recorded

    new : Recorded
    new = record { ranges = old.ranges ++ range ∷ []; buffered = buffered }

    by_outcome : (b : Bool) →
        (if b then length turn.releases else may_free (slice_set turn.recorded tree new)) ≤
        (if b then length turn.releases else may_free turn.recorded) + 2
    by_outcome true = two_more (length turn.releases)
    by_outcome false = few_set turn.recorded tree new (few_more old.ranges range old.buffered buffered)

small_ending : (outcome : Outcome) (turn : Turn) → is_some turn.outcome ≡ false → IsSmall turn (ending outcome turn)
small_ending outcome turn goes = record {
  frees = (let few = few_from 0 turn.recorded in let owed : frees_of turn ≡ may_free turn.recorded = on_false (is_some turn.outcome) _ _ goes in
      let k : length (releases_from 0 turn.recorded) ≤ frees_of turn + 2 = omega (arith, few, owed) in k);
  tries = none_left (length (rest_of turn.lines));
}
  where
    none_left : (n : ℕ) → 2 * 0 ≤ 1 + 2 * n
    none_left n = omega arith

small_walked : (walk : Option (List Edge)) (turn : Turn) → is_some turn.outcome ≡ false → IsSmall turn (walked walk turn)
small_walked None turn goes = record { frees = two_more (frees_of turn); tries = same_least (1 + 2 * length (rest_of turn.lines)) }
small_walked (Some walk) turn goes = small_ending (Deadlock walk) turn goes

small_answered : (tree : ℕ) (range : Interval) (reply : Reply) (turn : Turn) → IsSmall turn (answered_by tree range reply turn)
small_answered tree range Granted turn = small_granted tree range false turn
small_answered tree range Buffered turn = small_granted tree range true turn
small_answered tree range (HeldBy owners) turn = small_past turn

small_locked : (tree : ℕ) (range : Interval) (reply : Reply) (walk : Option (List Edge)) (turn : Turn) → is_some turn.outcome ≡ false →
    IsSmall turn (locked_by tree range reply walk turn)
small_locked tree range Granted walk turn goes = small_granted tree range false turn
small_locked tree range Buffered walk turn goes = small_granted tree range true turn
small_locked tree range (HeldBy owners) walk turn goes = small_walked walk turn goes

-- Moves.

few_some : {X Y : Type 0} (f : X → Option Y) (xs : List X) → length (filter_map f xs) ≤ length xs
few_some f [] = omega arith
few_some {X} {Y} f (x ∷ xs) = by_option (f x) (few_some f xs)
  where
    by_option : (o : Option Y) → length (filter_map f xs) ≤ length xs → length (cons_option o (filter_map f xs)) ≤ suc (length xs)
    by_option None few = omega (arith, few)
    by_option (Some y) few = omega (arith, few)

ap_suc : {n m : ℕ} → n ≤ m → suc n ≤ suc m
ap_suc {n} {m} less = omega (arith, less)

-- a search makes no more events than it has wishes to ask for
few_searched : (setting : Setting) (txn : ℕ) (wishes steps : List Wish) (events : List Event) (done listed : List Wish) →
    length (searched setting txn wishes steps events done listed) ≤ length steps
few_searched setting txn wishes [] events done listed = omega arith
few_searched setting txn wishes (step ∷ steps) events done [] = omega arith
few_searched setting txn wishes (step ∷ steps) events done (w ∷ ws) =
    let r = receipt_after setting events 0 txn (question_for w) in
    ap_suc (few_searched setting txn wishes steps (events ++ r.event ∷ []) (done ++ w ∷ [])
    (ws ++ new_wishes txn (done ++ w ∷ ws) (wishes_of (named_in r.event.deed) wishes)))

few_wishes : (new : Turn) (turns : List Turn) → length (wishes_in (with_turn new turns)) ≤ length turns
few_wishes new turns =
    let some = few_some (λ (turn : Turn). if is_waiting turn then next_wish turn.txn turn.lines else None) (with_turn new turns) in
    let all = length-map turns (λ (turn : Turn). if turn.txn == new.txn then new else turn) in
    omega (arith, some, all)

length-joins_of : (setting : Setting) (txn : ℕ) (trees : List ℕ) (events : List Event) →
    length (joins_of setting txn trees events) ≡ length trees
length-joins_of setting txn [] events = refl
length-joins_of setting txn (tree ∷ trees) events = ap suc (length-joins_of setting txn trees _)

length-numbers_from : (n count : ℕ) → length (numbers_from n count) ≡ count
length-numbers_from n zero = refl
length-numbers_from n (suc count) = ap suc (length-numbers_from (n + 1) count)

-- a move of a turn among others: a join of each tree, an ask, and a question for each turn
pub record IsSmallMove (setting : Setting) (turns : List Turn) (turn : Turn) (move : Move) : Type 0 where
  pub events : length (receipts_in move) ≤ setting.plan.trees + 1 + length turns
  pub small : IsSmall turn (turn_after turn move)

-- whatever an ask's reply and its search say
abbrev SmallAsked : Turn → Type 0
SmallAsked turn = (reply : Reply) (walk : Option (List Edge)) → IsSmall turn (asked_at turn.lines reply walk turn)

small_ask : (setting : Setting) (turns : List Turn) (turn : Turn) (locks : Bool) (events : List Event) (joins : List Receipt) (ask : Receipt) →
    length joins ≤ setting.plan.trees → SmallAsked turn →
    IsSmallMove setting turns turn (ask_move setting turns turn locks events joins ask)
small_ask setting turns turn locks events joins ask few asked = by_test (locks && is_held (reply_in ask.event.deed))
  where
    wishes : List Wish
    wishes = wishes_in (with_turn (record turn { waits = true }) turns)

    search : List Receipt
    search = searched setting turn.txn wishes wishes (events ++ ask.event ∷ []) [] (wishes_of (named_by (reply_in ask.event.deed)) wishes)

    by_test : (b : Bool) → IsSmallMove setting turns turn (if b then waits joins ask wishes search else asks joins ask)
    by_test true = record {
      events = (let some = few_searched setting turn.txn wishes wishes (events ++ ask.event ∷ []) [] (wishes_of (named_by (reply_in ask.event.deed)) wishes) in
          let all = few_wishes (record turn { waits = true }) turns in
          let k : length (joins ++ ask ∷ search) ≤ setting.plan.trees + 1 + length turns =
          omega (arith, some, all, few, length-append joins (ask ∷ search)) in k);
      small = asked (reply_in ask.event.deed) _;
    }
    by_test false = record {
      events = (let k : length (joins ++ ask ∷ []) ≤ setting.plan.trees + 1 + length turns = omega (arith, few, length-append joins (ask ∷ [])) in k);
      small = asked (reply_in ask.event.deed) None;
    }

small_attempt : (setting : Setting) (turns : List Turn) (turn : Turn) (locks : Bool) (deed : Deed) (events : List Event) →
    is_some turn.outcome ≡ false → SmallAsked turn →
    IsSmallMove setting turns turn (attempt setting turns turn locks deed events)
small_attempt setting turns turn locks deed events goes asked = by_room (nat_lt (used (after setting events)) (bar_of setting turn))
  where
    joins : List Receipt
    joins = joins_of setting turn.txn (numbers_from 0 setting.plan.trees) events

    mid : List Event
    mid = events ++ events_of joins

    few : length joins ≤ setting.plan.trees
    few = omega (arith, length-joins_of setting turn.txn (numbers_from 0 setting.plan.trees) events, length-numbers_from 0 setting.plan.trees)

    by_second : (b : Bool) → IsSmallMove setting turns turn
        (if b then ask_move setting turns turn locks mid joins (receipt_after setting mid 0 turn.txn deed) else stops joins (place_after setting mid) (used (after setting mid)))
    by_second true = small_ask setting turns turn locks mid joins (receipt_after setting mid 0 turn.txn deed) few asked
    by_second false = record {
      events = (let k : length joins ≤ setting.plan.trees + 1 + length turns = omega (arith, few) in k);
      small = small_ending (OutOfLocks (place_after setting mid) (used (after setting mid))) turn goes;
    }

    by_room : (b : Bool) → IsSmallMove setting turns turn
        (if b then ask_move setting turns turn locks events [] (receipt_after setting events 0 turn.txn deed) else behind_joins setting turns turn locks deed mid joins)
    by_room true = small_ask setting turns turn locks events [] (receipt_after setting events 0 turn.txn deed) (omega arith) asked
    by_room false = by_second (nat_lt (used (after setting mid)) (bar_of setting turn))

-- at a line
pub small_line : (setting : Setting) (game : Game) (turn : Turn) (line : Line) (lines : List Line) → is_some turn.outcome ≡ false →
    turn.lines ≡ line ∷ lines →
    IsSmallMove setting game.turns turn (line_move setting game turn line.deed)
small_line setting game turn line lines goes same = by_deed line.deed same
  where
    none : 0 ≤ setting.plan.trees + 1 + length game.turns
    none = omega arith

    by_deed : (deed : LineDeed) → turn.lines ≡ record line { deed = deed } ∷ lines →
        IsSmallMove setting game.turns turn (line_move setting game turn deed)
    by_deed (Try tree range) is = small_attempt setting game.turns turn false (Ask tree range Granted) game.events goes
        (λ reply walk. subst (λ (ls : List Line). IsSmall turn (asked_at ls reply walk turn)) (sym is) (small_answered tree range reply turn))
    by_deed (Lock tree range) is = small_attempt setting game.turns turn true (Ask tree range Granted) game.events goes
        (λ reply walk. subst (λ (ls : List Line). IsSmall turn (asked_at ls reply walk turn)) (sym is) (small_locked tree range reply walk turn goes))
    by_deed End is =
        record { events = none; small = subst (λ (ls : List Line). IsSmall turn (ended_at ls turn)) (sym is) (small_ending Done turn goes) }
    by_deed Abort is =
        record { events = none; small = subst (λ (ls : List Line). IsSmall turn (ended_at ls turn)) (sym is) (small_ending Aborted turn goes) }
    by_deed Big is = record { events = none; small = small_grown turn }
    by_deed (Escalate tree) is = record {
      events = (let k : 1 ≤ setting.plan.trees + 1 + length game.turns = omega arith in k);
      small = small_past turn;
    }
