-- What the plain scheduler does at a line is a move, whatever the transaction did before.
use Rattle.std.proofs.Common.{◌≡◌, ℕ, zero, suc, ◌+◌, ◌<◌, ◌≤◌, List, [], ◌∷◌, ◌++◌, Bool, true, false, ◌==◌, ◌&&◌, ◌||◌, not, if◌then◌else◌, None, nat_lt, length, refl, sym, ap}
use Rattle.std.proofs.Common.{subst, ◌∙◌, arith, append-nil, append_assoc}
use Rattle.std.specs.List.{AllByRecursion}
use Rattle.std.proofs.lemmas.Bool.Decides.{nat_tests}
use Rattle.std.proofs.lemmas.List.{length-append, map-append}
use Rattle.lt_ranges.specs.Interval.{Interval, IsInterval}
use Rattle.lt_seq.specs.declared.event.Deed.TheVariants.{Ask, Free, Join}
use Rattle.lt_seq.specs.declared.event.Reply.TheVariants.{Granted}
use Rattle.lt_seq.specs.declared.event.Event.{Event}
use Rattle.lt_seq.specs.declared.event.Receipt.{Receipt}
use Rattle.lt_seq.specs.Table.{Setting, used}
use Rattle.lt_seq.specs.History.{after}
use Rattle.lt_seq.specs.Yard.{place_after}
use Rattle.lt_seq.specs.Passes.{numbers_from}
use Rattle.lt_seq.specs.Questions.{receipt_after, events_of, named_by}
use Rattle.lt_trace.specs.declared.line.Line.{Line}
use Rattle.lt_trace.specs.declared.line.LineDeed.{LineDeed}
use Rattle.lt_trace.specs.declared.line.LineDeed.TheVariants.{Try, Lock, End, Abort, Escalate, Big}
use Rattle.lt_requests.specs.Search.{searched, wishes_of}
use Rattle.lt_runner.specs.declared.release.Release.{Release}
use Rattle.lt_runner.specs.TurnView.{Turn, Seat}
use Rattle.lt_runner.specs.Turn.{Move, asks, waits, stops, frees, receipts_in, turn_after, reply_in}
use Rattle.lt_runner.specs.Attempt.{behind, bar_of, used_at, IsFull, AreOfTrees, AreJoins, IsAttempt}
use Rattle.lt_runner.specs.Plays.{Past, behind_move, is_leaving, MayDo, MayFree, IsMove, is_held, is_ask, AreWishes}
use Rattle.lt_runner.specs.Serial.{Game, ask_move, joins_of, behind_joins, attempt, line_move}
use Rattle.lt_runner.specs.Played.{AreInside, IsInside, IsLate, MovesBy}
use Rattle.lt_runner.specs.Steps.{IsFitDeed}
use Rattle.lt_runner.proofs.PlayLaws.{used_here, room_here, full_here, longer}
use Rattle.lt_runner.proofs.CallLaws.{AreCalls, calls_both, calls_inside, behind_calls}
use Rattle.lt_runner.proofs.SearchedLaws.{IsFitWish, searched_is, searched_calls}
use Rattle.lt_runner.proofs.WishLaws.{wishes_at}

-- a transaction with what one pass alone knows of its last call
abbrev pub seat_at : Turn → Seat
seat_at turn = record { turn = turn; busy = false; listed = turn.waits }

-- one that goes on, at these lines
abbrev pub at_lines : Turn → List Line → Turn
at_lines turn lines = record turn { lines = lines; outcome = None }

-- The move may come at this line, behind this history, whatever the transaction did before.
pub record IsDone (setting : Setting) (events : List Event) (old : Turn) (deed : LineDeed) (move : Move) : Type 0 where
  pub may : (past : Past) → past.since ≤ place_after setting events → MayDo false setting (events ++ events_of (receipts_in move)) (record { turn = old; past = past }) deed move
  pub calls : AreCalls setting old.txn events (receipts_in move)
  pub inside : IsInside setting (events ++ events_of (receipts_in move)) move
  pub late : IsLate (place_after setting events) move
  pub seen : (since : ℕ) → since ≤ place_after setting events → behind_move since move ≤ place_after setting (events ++ events_of (receipts_in move))
  pub stays : is_leaving move ≡ false

held_now : (waiting : Bool) (n : ℕ) → waiting ≡ false → (if waiting then n + 1 else 0) ≡ 0
held_now true n e = absurd (let k : false ≡ true = sym e in cc)
held_now false n e = refl

-- so that it is one between the two histories
pub done_moves : (setting : Setting) (events : List Event) (old : Turn) (line : Line) (lines : List Line) (move : Move) → IsDone setting events (at_lines old (line ∷ lines)) line.deed move →
    MovesBy false setting events (events ++ events_of (receipts_in move)) (seat_at (at_lines old (line ∷ lines))) (seat_at (turn_after (at_lines old (line ∷ lines)) move)) (receipts_in move) move
done_moves setting events old line lines move done = record {
  may = λ past fits. done.may past fits.seen;
  turn = refl;
  inside = done.inside;
  late = done.late;
  past = λ past fits. record {
    seen = done.seen past.since fits.seen;
    held = λ e. held_now (turn_after (at_lines old (line ∷ lines)) move).waits past.held e;
    left = λ e. done.stays;
    once = λ e. omega (arith, held_now (turn_after (at_lines old (line ∷ lines)) move).waits past.held e);
  };
  made_by = refl;
}

-- a free of one that has ended
pub free_moves : (setting : Setting) (events : List Event) (old : Turn) (r : Release) (rs : List Release) → old.lines ≡ [] → old.releases ≡ r ∷ rs → r.tree < setting.plan.trees → IsInterval r.range →
    (let free = receipt_after setting events 0 old.txn (Free r.tree r.range r.first 0) in
    MovesBy false setting events (events ++ free.event ∷ []) (seat_at old) (seat_at (turn_after old (frees free))) (free ∷ []) (frees free))
free_moves setting events old r rs none owed inside one =
    let free = receipt_after setting events 0 old.txn (Free r.tree r.range r.first 0) in
    let end : free.place + 1 ≡ place_after setting (events ++ free.event ∷ []) = omega (arith, length-append events (free.event ∷ [])) in
    record {
      may = λ past fits. subst (λ (ls : List Line). IsMove false setting (events ++ free.event ∷ []) (record { turn = old; past = past }) ls (frees free)) (sym none)
          (subst (λ (ps : List Release). MayFree past.since ps (frees free)) (sym owed) (fits.seen, refl));
      turn = refl;
      inside = tt;
      late = omega arith;
      past = λ past fits. record {
        seen = omega arith;
        held = λ e. held_now old.waits past.held e;
        left = λ e. refl;
        once = λ e. omega (arith, held_now old.waits past.held e);
      };
      made_by = refl;
    }

-- Joins.

events_both : (events : List Event) (xs ys : List Receipt) → events ++ events_of (xs ++ ys) ≡ (events ++ events_of xs) ++ events_of ys
events_both events xs ys = ap (λ (es : List Event). events ++ es) (map-append (λ (r : Receipt). r.event) xs ys) ∙ sym (append_assoc events (events_of xs) (events_of ys))

-- the joins of all trees
record AreAllJoins (setting : Setting) (txn : ℕ) (events : List Event) (joins : List Receipt) : Type 0 where
  calls : AreCalls setting txn events joins
  trees : AreOfTrees 0 joins
  all : length joins ≡ setting.plan.trees

join_calls : (setting : Setting) (txn from count : ℕ) (events : List Event) → from + count ≤ setting.plan.trees → AreCalls setting txn events (joins_of setting txn (numbers_from from count) events)
join_calls setting txn from zero events inside = tt
join_calls setting txn from (suc count) events inside =
    let r = receipt_after setting events 0 txn (Join from 0 0) in
    (record { deed = Join from 0 0; is = refl; tree = omega arith; question = tt }, join_calls setting txn (from + 1) count (events ++ r.event ∷ []) (omega arith))

join_trees : (setting : Setting) (txn from count : ℕ) (events : List Event) → AreOfTrees from (joins_of setting txn (numbers_from from count) events)
join_trees setting txn from zero events = tt
join_trees setting txn from (suc count) events = (refl, join_trees setting txn (from + 1) count _)

join_count : (setting : Setting) (txn from count : ℕ) (events : List Event) → length (joins_of setting txn (numbers_from from count) events) ≡ count
join_count setting txn from zero events = refl
join_count setting txn from (suc count) events = ap (λ n. suc n) (join_count setting txn (from + 1) count _)

all_joins : (setting : Setting) (txn : ℕ) (events : List Event) → AreAllJoins setting txn events (joins_of setting txn (numbers_from 0 setting.plan.trees) events)
all_joins setting txn events = record {
  calls = join_calls setting txn 0 setting.plan.trees events (omega arith);
  trees = join_trees setting txn 0 setting.plan.trees events;
  all = join_count setting txn 0 setting.plan.trees events;
}

-- they begin where the rows have reached the bar
joins_full : (setting : Setting) (txn : ℕ) (events more : List Event) (bar since : ℕ) (joins : List Receipt) → 0 < setting.plan.trees →
    AreAllJoins setting txn events joins → since ≤ place_after setting events → bar ≤ used (after setting events) →
    AreJoins setting ((events ++ events_of joins) ++ more) bar since joins
joins_full setting txn events more bar since [] some are low full = absurd (omega (arith, are.all))
joins_full setting txn events more bar since (j ∷ js) some are low full = (
  subst (λ (place : ℕ). IsFull setting ((events ++ events_of (j ∷ js)) ++ more) bar since place) (sym (ap (λ (r : Receipt). r.place) are.calls.0.is))
      (subst (λ (es : List Event). IsFull setting es bar since (place_after setting events)) (sym (append_assoc events (events_of (j ∷ js)) more))
      (full_here setting events (events_of (j ∷ js) ++ more) bar since low full)),
  are.trees,
)

behind_all : (setting : Setting) (txn : ℕ) (events : List Event) (since : ℕ) (joins : List Receipt) → 0 < setting.plan.trees → AreAllJoins setting txn events joins →
    behind since joins ≡ place_after setting (events ++ events_of joins)
behind_all setting txn events since [] some are = absurd (omega (arith, are.all))
behind_all setting txn events since (j ∷ js) some are = behind_calls setting txn events (j ∷ js) (place_after setting events) are.calls refl

attempt_joined : (setting : Setting) (txn : ℕ) (events more : List Event) (bar since : ℕ) (joins : List Receipt) → 0 < setting.plan.trees →
    AreAllJoins setting txn events joins → since ≤ place_after setting events →
    bar ≤ used (after setting events) → used (after setting (events ++ events_of joins)) < bar →
    IsAttempt setting ((events ++ events_of joins) ++ more) bar since joins (place_after setting (events ++ events_of joins))
attempt_joined setting txn events more bar since [] some are low full room = absurd (omega (arith, are.all))
attempt_joined setting txn events more bar since (j ∷ js) some are low full room = (
  joins_full setting txn events more bar since (j ∷ js) some are low full,
  are.all,
  room_here setting (events ++ events_of (j ∷ js)) more bar (behind since (j ∷ js)) (omega (arith, behind_all setting txn events since (j ∷ js) some are)) room,
)

-- An attempt that finds room behind these joins, or behind none.
record FindsRoom (setting : Setting) (old : Turn) (events : List Event) (joins : List Receipt) : Type 0 where
  calls : AreCalls setting old.txn events joins
  attempt : (since : ℕ) (more : List Event) → since ≤ place_after setting events →
      IsAttempt setting ((events ++ events_of joins) ++ more) (bar_of setting old) since joins (place_after setting (events ++ events_of joins))

abbrev ask_behind : Setting → Turn → List Event → List Receipt → ℕ → Interval → Receipt
ask_behind setting old events joins tree range = receipt_after setting (events ++ events_of joins) 0 old.txn (Ask tree range Granted)

-- places behind an attempt's ask and what follows it
record StandsBehind (setting : Setting) (old : Turn) (events : List Event) (joins : List Receipt) (ask : Receipt) (rest : List Receipt) : Type 0 where
  calls : AreCalls setting old.txn events (joins ++ ask ∷ rest)
  place : ask.place ≤ place_after setting (events ++ events_of (joins ++ ask ∷ rest))
  joins_in : AreInside setting (events ++ events_of (joins ++ ask ∷ rest)) joins
  late : place_after setting events ≤ ask.place
  seen : behind (ask.place + 1) rest ≤ place_after setting (events ++ events_of (joins ++ ask ∷ rest))

stands_behind : (setting : Setting) (old : Turn) (events : List Event) (joins : List Receipt) (tree : ℕ) (range : Interval) (rest : List Receipt) →
    tree < setting.plan.trees → IsInterval range → AreCalls setting old.txn events joins →
    (let ask = ask_behind setting old events joins tree range in
    AreCalls setting old.txn ((events ++ events_of joins) ++ ask.event ∷ []) rest → StandsBehind setting old events joins ask rest)
stands_behind setting old events joins tree range rest inside one calls follow =
    let ask = ask_behind setting old events joins tree range in
    let mid = events ++ events_of joins in
    let whole = events ++ events_of (joins ++ ask ∷ rest) in
    let parts : whole ≡ mid ++ events_of (ask ∷ rest) = events_both events joins (ask ∷ rest) in
    let first : AreCalls setting old.txn mid (ask ∷ rest) = (record { deed = Ask tree range Granted; is = refl; tree = inside; question = one }, follow) in
    let far : place_after setting mid ≤ place_after setting whole = omega (arith, ap length parts, length-append mid (events_of (ask ∷ rest))) in
    record {
      calls = calls_both setting old.txn events joins (ask ∷ rest) calls first;
      place = far;
      joins_in = calls_inside setting old.txn events joins (place_after setting whole) calls far;
      late = omega (arith, length-append events (events_of joins));
      seen = omega (
        arith,
        behind_calls setting old.txn (mid ++ ask.event ∷ []) rest (ask.place + 1) follow (omega (arith, length-append mid (ask.event ∷ []))),
        ap length parts,
        ap length (append_assoc mid (ask.event ∷ []) (events_of rest)),
      );
    }

-- the ask alone, or with a search behind it
done_try : (setting : Setting) (turns : List Turn) (old : Turn) (lines : List Line) (events : List Event) (joins : List Receipt) (tree : ℕ) (range : Interval) →
    tree < setting.plan.trees → IsInterval range → FindsRoom setting old events joins →
    IsDone setting events (at_lines old lines) (Try tree range) (ask_move setting turns old false (events ++ events_of joins) joins (ask_behind setting old events joins tree range))
done_try setting turns old lines events joins tree range inside one finds =
    let ask = ask_behind setting old events joins tree range in
    let stands = stands_behind setting old events joins tree range [] inside one finds.calls tt in
    record {
      may = λ past low. (
        subst (λ (es : List Event). IsAttempt setting es (bar_of setting old) past.since joins ask.place) (sym (events_both events joins (ask ∷ [])))
            (finds.attempt past.since (ask.event ∷ []) low),
        refl,
        refl,
        refl,
      );
      calls = stands.calls;
      inside = (stands.place, stands.joins_in);
      late = stands.late;
      seen = λ since low. stands.seen;
      stays = refl;
    }

free_of_search : (deed_held held : Bool) → held ≡ false → (not (true && held) || (false && deed_held)) ≡ true
free_of_search deed_held held e = ap (λ (b : Bool). not (true && b) || (false && deed_held)) e

done_lock : (setting : Setting) (turns : List Turn) (old : Turn) (lines : List Line) (events : List Event) (joins : List Receipt) (tree : ℕ) (range : Interval) →
    tree < setting.plan.trees → IsInterval range → FindsRoom setting old events joins →
    AreWishes (wishes_at old turns) old.txn (Lock tree range) → AllByRecursion (IsFitWish setting) (wishes_at old turns) →
    IsDone setting events (at_lines old lines) (Lock tree range) (ask_move setting turns old true (events ++ events_of joins) joins (ask_behind setting old events joins tree range))
done_lock setting turns old lines events joins tree range inside one finds are fit = by_reply (is_held (reply_in ask.event.deed)) refl
  where
    ask : Receipt
    ask = ask_behind setting old events joins tree range

    found : List Receipt
    found = searched setting old.txn (wishes_at old turns) (wishes_at old turns) ((events ++ events_of joins) ++ ask.event ∷ []) []
        (wishes_of (named_by (reply_in ask.event.deed)) (wishes_at old turns))

    by_reply : (held : Bool) → is_held (reply_in ask.event.deed) ≡ held →
        IsDone setting events (at_lines old lines) (Lock tree range) (if true && held then waits joins ask (wishes_at old turns) found else asks joins ask)
    by_reply true e =
        let stands = stands_behind setting old events joins tree range found inside one finds.calls (searched_calls setting old.txn (wishes_at old turns) _ (named_by (reply_in ask.event.deed)) fit) in
        record {
          may = λ past low. (
            subst (λ (es : List Event). IsAttempt setting es (bar_of setting old) past.since joins ask.place) (sym (events_both events joins (ask ∷ found)))
                (finds.attempt past.since (events_of (ask ∷ found)) low),
            refl,
            refl,
            e,
            are,
            searched_is setting old.txn (wishes_at old turns) _ (named_by (reply_in ask.event.deed)),
          );
          calls = stands.calls;
          inside = (stands.place, stands.joins_in);
          late = stands.late;
          seen = λ since low. stands.seen;
          stays = refl;
        }
    by_reply false e =
        let stands = stands_behind setting old events joins tree range [] inside one finds.calls tt in
        record {
          may = λ past low. (
            subst (λ (es : List Event). IsAttempt setting es (bar_of setting old) past.since joins ask.place) (sym (events_both events joins (ask ∷ [])))
                (finds.attempt past.since (ask.event ∷ []) low),
            refl,
            refl,
            free_of_search (past.held == 0) (is_held (reply_in ask.event.deed)) e,
          );
          calls = stands.calls;
          inside = (stands.place, stands.joins_in);
          late = stands.late;
          seen = λ since low. stands.seen;
          stays = refl;
        }

-- An attempt.

-- there is room at once
finds_room : (setting : Setting) (old : Turn) (events : List Event) → used (after setting events) < bar_of setting old → FindsRoom setting old events []
finds_room setting old events room = record {
  calls = tt;
  attempt = λ since more low. subst (λ (es : List Event). IsAttempt setting (es ++ more) (bar_of setting old) since [] (place_after setting es)) (sym (append-nil events))
      (room_here setting events more (bar_of setting old) since low room);
}

-- or behind the joins of all trees
finds_behind : (setting : Setting) (old : Turn) (events : List Event) (joins : List Receipt) → 0 < setting.plan.trees → AreAllJoins setting old.txn events joins →
    bar_of setting old ≤ used (after setting events) →
    used (after setting (events ++ events_of joins)) < bar_of setting old → FindsRoom setting old events joins
finds_behind setting old events joins some are full room = record {
  calls = are.calls;
  attempt = λ since more low. attempt_joined setting old.txn events more (bar_of setting old) since joins some are low full room;
}

-- or there is none
done_stops : (setting : Setting) (old : Turn) (lines : List Line) (deed : LineDeed) (events : List Event) (joins : List Receipt) → is_ask deed ≡ true →
    0 < setting.plan.trees → AreAllJoins setting old.txn events joins → bar_of setting old ≤ used (after setting events) →
    bar_of setting old ≤ used (after setting (events ++ events_of joins)) →
    IsDone setting events (at_lines old lines) deed (stops joins (place_after setting (events ++ events_of joins)) (used (after setting (events ++ events_of joins))))
done_stops setting old lines deed events joins asking some are full still =
    let mid = events ++ events_of joins in
    record {
      may = λ past low. (
        record {
          joined = subst (λ (es : List Event). AreJoins setting es (bar_of setting old) past.since joins) (append-nil mid)
              (joins_full setting old.txn events [] (bar_of setting old) past.since joins some are low full);
          all = are.all;
          low = omega (arith, behind_all setting old.txn events past.since joins some are);
          high = omega arith;
          shows = sym (ap (λ (es : List Event). used_at setting es (place_after setting mid)) (sym (append-nil mid)) ∙ used_here setting mid []);
          full = still;
        },
        asking,
      );
      calls = are.calls;
      inside = calls_inside setting old.txn events joins (place_after setting mid) are.calls (omega arith);
      late = longer setting events (events_of joins);
      seen = λ since low. omega arith;
      stays = refl;
    }

below_of : (a b : ℕ) → nat_lt a b ≡ true → a < b
below_of a b e = grind (arith, nat_tests)

reached_of : (a b : ℕ) → nat_lt a b ≡ false → b ≤ a
reached_of a b e = grind (arith, nat_tests)

-- at a try line
attempt_try : (setting : Setting) (turns : List Turn) (old : Turn) (lines : List Line) (events : List Event) (tree : ℕ) (range : Interval) → tree < setting.plan.trees → IsInterval range →
    IsDone setting events (at_lines old lines) (Try tree range) (attempt setting turns old false (Ask tree range Granted) events)
attempt_try setting turns old lines events tree range inside one = by_room (nat_lt (used (after setting events)) (bar_of setting old)) refl
  where
    joins : List Receipt
    joins = joins_of setting old.txn (numbers_from 0 setting.plan.trees) events

    mid : List Event
    mid = events ++ events_of joins

    by_second : (b : Bool) → nat_lt (used (after setting mid)) (bar_of setting old) ≡ b → bar_of setting old ≤ used (after setting events) →
        IsDone setting events (at_lines old lines) (Try tree range)
        (if b then ask_move setting turns old false mid joins (receipt_after setting mid 0 old.txn (Ask tree range Granted)) else stops joins (place_after setting mid) (used (after setting mid)))
    by_second true e full =
        done_try setting turns old lines events joins tree range inside one
        (finds_behind setting old events joins (omega (arith, inside)) (all_joins setting old.txn events) full (below_of (used (after setting mid)) (bar_of setting old) e))
    by_second false e full =
        done_stops setting old lines (Try tree range) events joins refl (omega (arith, inside)) (all_joins setting old.txn events) full (reached_of (used (after setting mid)) (bar_of setting old) e)

    by_room : (b : Bool) → nat_lt (used (after setting events)) (bar_of setting old) ≡ b →
        IsDone setting events (at_lines old lines) (Try tree range)
        (if b then ask_move setting turns old false events [] (receipt_after setting events 0 old.txn (Ask tree range Granted)) else behind_joins setting turns old false
        (Ask tree range Granted) mid joins)
    by_room true e =
        subst (λ (es : List Event). IsDone setting events (at_lines old lines) (Try tree range)
        (ask_move setting turns old false es [] (receipt_after setting es 0 old.txn (Ask tree range Granted)))) (append-nil events)
        (done_try setting turns old lines events [] tree range inside one (finds_room setting old events (below_of (used (after setting events)) (bar_of setting old) e)))
    by_room false e = by_second (nat_lt (used (after setting mid)) (bar_of setting old)) refl (reached_of (used (after setting events)) (bar_of setting old) e)

-- at a lock line
attempt_lock : (setting : Setting) (turns : List Turn) (old : Turn) (lines : List Line) (events : List Event) (tree : ℕ) (range : Interval) → tree < setting.plan.trees → IsInterval range →
    AreWishes (wishes_at old turns) old.txn (Lock tree range) → AllByRecursion (IsFitWish setting) (wishes_at old turns) →
    IsDone setting events (at_lines old lines) (Lock tree range) (attempt setting turns old true (Ask tree range Granted) events)
attempt_lock setting turns old lines events tree range inside one are fit = by_room (nat_lt (used (after setting events)) (bar_of setting old)) refl
  where
    joins : List Receipt
    joins = joins_of setting old.txn (numbers_from 0 setting.plan.trees) events

    mid : List Event
    mid = events ++ events_of joins

    by_second : (b : Bool) → nat_lt (used (after setting mid)) (bar_of setting old) ≡ b → bar_of setting old ≤ used (after setting events) →
        IsDone setting events (at_lines old lines) (Lock tree range)
        (if b then ask_move setting turns old true mid joins (receipt_after setting mid 0 old.txn (Ask tree range Granted)) else stops joins (place_after setting mid) (used (after setting mid)))
    by_second true e full =
        done_lock setting turns old lines events joins tree range inside one
        (finds_behind setting old events joins (omega (arith, inside)) (all_joins setting old.txn events) full (below_of (used (after setting mid)) (bar_of setting old) e)) are fit
    by_second false e full =
        done_stops setting old lines (Lock tree range) events joins refl (omega (arith, inside)) (all_joins setting old.txn events) full (reached_of (used (after setting mid)) (bar_of setting old) e)

    by_room : (b : Bool) → nat_lt (used (after setting events)) (bar_of setting old) ≡ b →
        IsDone setting events (at_lines old lines) (Lock tree range)
        (if b then ask_move setting turns old true events [] (receipt_after setting events 0 old.txn (Ask tree range Granted)) else behind_joins setting turns old true
        (Ask tree range Granted) mid joins)
    by_room true e =
        subst (λ (es : List Event). IsDone setting events (at_lines old lines) (Lock tree range)
        (ask_move setting turns old true es [] (receipt_after setting es 0 old.txn (Ask tree range Granted)))) (append-nil events)
        (done_lock setting turns old lines events [] tree range inside one (finds_room setting old events (below_of (used (after setting events)) (bar_of setting old) e)) are fit)
    by_room false e = by_second (nat_lt (used (after setting mid)) (bar_of setting old)) refl (reached_of (used (after setting events)) (bar_of setting old) e)

-- Any line.
pub done_line : (setting : Setting) (game : Game) (old : Turn) (lines : List Line) (deed : LineDeed) → IsFitDeed setting deed →
    AreWishes (wishes_at old game.turns) old.txn deed → AllByRecursion (IsFitWish setting) (wishes_at old game.turns) →
    IsDone setting game.events (at_lines old lines) deed (line_move setting game old deed)
done_line setting game old lines (Try tree range) fit are wishes = attempt_try setting game.turns old lines game.events tree range fit.0 fit.1
done_line setting game old lines (Lock tree range) fit are wishes = attempt_lock setting game.turns old lines game.events tree range fit.0 fit.1 are wishes
done_line setting game old lines End fit are wishes = record {
  may = λ past low. refl;
  calls = tt;
  inside = tt;
  late = tt;
  seen = λ since low. (let k = longer setting game.events [] in omega (arith, k, low));
  stays = refl;
}
done_line setting game old lines Abort fit are wishes = record {
  may = λ past low. refl;
  calls = tt;
  inside = tt;
  late = tt;
  seen = λ since low. (let k = longer setting game.events [] in omega (arith, k, low));
  stays = refl;
}
done_line setting game old lines Big fit are wishes = record {
  may = λ past low. refl;
  calls = tt;
  inside = tt;
  late = tt;
  seen = λ since low. (let k = longer setting game.events [] in omega (arith, k, low));
  stays = refl;
}
done_line setting game old lines (Escalate tree) fit are wishes =
    let join = receipt_after setting game.events 0 old.txn (Join tree 0 0) in
    record {
      may = λ past low. (refl, refl);
      calls = (record { deed = Join tree 0 0; is = refl; tree = fit; question = tt }, tt);
      inside = tt;
      late = omega arith;
      seen = λ since low. omega (arith, length-append game.events (join.event ∷ []));
      stays = refl;
    }
