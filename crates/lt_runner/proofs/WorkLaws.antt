-- What is left to a transaction falls by its events and by its steps.
use Rattle.std.proofs.Common.{◌≡◌, ℕ, zero, suc, ◌+◌, ◌-◌, ◌*◌, ◌<◌, ◌≤◌, List}
use Rattle.std.proofs.Common.{[], ◌∷◌, ◌++◌, Bool, true, false, if◌then◌else◌, IsTrue, is_some, Some, None}
use Rattle.std.proofs.Common.{length, get_or, slice_set, refl, sym, ap, subst, ◌∙◌, arith, length-append}
use Rattle.lt_ranges.specs.Interval.{Interval, whole}
use Rattle.lt_seq.specs.declared.event.Deed.TheVariants.{Ask, Join}
use Rattle.lt_seq.specs.declared.event.Reply.{Reply}
use Rattle.lt_seq.specs.declared.event.Reply.TheVariants.{Granted, Buffered, HeldBy}
use Rattle.lt_seq.specs.declared.event.Receipt.{Receipt}
use Rattle.lt_seq.specs.Table.{Setting}
use Rattle.lt_seq.specs.Yard.{PassView}
use Rattle.lt_trace.specs.declared.line.Line.{Line}
use Rattle.lt_trace.specs.declared.line.LineDeed.{LineDeed}
use Rattle.lt_trace.specs.declared.line.LineDeed.TheVariants.{Try, Lock, End, Abort, Escalate, Big}
use Rattle.lt_history.specs.declared.outcome.Outcome.{Outcome}
use Rattle.lt_runner.specs.declared.release.Release.{Release}
use Rattle.lt_runner.specs.TurnView.{Turn, Recorded, Seat}
use Rattle.lt_runner.specs.Turn.{releases_by, releases_in, releases_from, nothing_recorded, granted_to}
use Rattle.lt_runner.specs.Turn.{asked_at, ending, past, rest_of, rest_of_release}
use Rattle.lt_runner.specs.Plays.{line_question}
use Rattle.lt_runner.specs.PlaysOn.{IsNextAsk}
use Rattle.lt_runner.specs.Seats.{idle}
use Rattle.lt_runner.specs.Work.{lines_work, owed_in, owed, tries_work, work, some_left, steps, Spends}

-- Records.

owed_set : (rs : List Recorded) (tree : ℕ) (r : Recorded) → owed_in r ≤ owed_in (get_or rs tree nothing_recorded) + 2 →
    owed (slice_set rs tree r) ≤ owed rs + 2
owed_set [] tree r more = omega arith
owed_set (x ∷ xs) zero r more = omega (arith, more)
owed_set (x ∷ xs) (suc tree) r more = omega (arith, owed_set xs tree r more)

flag_most : (b : Bool) → (if b then 1 else 0) ≤ 1
flag_most true = omega arith
flag_most false = omega arith

owed_push : (r : Recorded) (range : Interval) (buffered : Bool) → owed_in
    (record { ranges = r.ranges ++ range ∷ []; buffered = buffered }) ≤ owed_in r + 2
owed_push r range buffered = omega (arith, length-append r.ranges (range ∷ []), flag_most buffered)

pub owed_granted : (tree : ℕ) (range : Interval) (buffered : Bool) (turn : Turn) →
    owed (granted_to tree range buffered turn).recorded ≤ owed turn.recorded + 2
owed_granted tree range buffered turn = owed_set turn.recorded tree _ (owed_push (get_or turn.recorded tree nothing_recorded) range buffered)

-- no more frees than are owed
length-by : (tree : ℕ) (first : Bool) (ranges : List Interval) → length (releases_by tree first ranges) ≡ length ranges
length-by tree first [] = refl
length-by tree first (r ∷ rs) = ap suc (length-by tree false rs)

length-in : (tree : ℕ) (r : Recorded) → length (releases_in tree r) ≤ owed_in r
length-in tree r = by_buffer r.buffered
  where
    by_buffer : (b : Bool) →
        length (if b then record { tree = tree; range = whole; first = true } ∷ [] else releases_by tree true r.ranges) ≤ length r.ranges +
        (if b then 1 else 0)
    by_buffer true = omega arith
    by_buffer false = omega (arith, length-by tree true r.ranges)

length-from : (tree : ℕ) (rs : List Recorded) → length (releases_from tree rs) ≤ owed rs
length-from tree [] = omega arith
length-from tree (r ∷ rs) = omega (
  arith,
  length-append (releases_in tree r) (releases_from (tree + 1) rs),
  length-in tree r,
  length-from
      (tree + 1) rs,
)

-- Seats that go on.

abbrev tries : ℕ → Bool → Bool → ℕ
tries trees waits busy = if waits then 0 else trees + 1 + (if busy then 0 else trees)

pub open_work : (setting : Setting) (seat : Seat) → is_some seat.turn.outcome ≡ false →
    work setting seat ≡ lines_work setting.plan.trees seat.turn.lines + owed seat.turn.recorded + tries setting.plan.trees seat.turn.waits seat.busy
open_work setting seat e =
    ap (λ (b : Bool). if b then length seat.turn.releases
    else lines_work setting.plan.trees seat.turn.lines + owed seat.turn.recorded + tries_work setting seat) e

open_steps : (seat : Seat) → is_some seat.turn.outcome ≡ false → steps seat ≡ 2 * length seat.turn.lines - (if seat.turn.waits then 1 else 0)
open_steps seat e = ap (λ (b : Bool). if b then some_left seat.turn.releases else 2 * length seat.turn.lines - (if seat.turn.waits then 1 else 0)) e

most_tries : (trees : ℕ) (busy : Bool) → tries trees false busy ≤ 2 * trees + 1
most_tries trees true = omega arith
most_tries trees false = omega arith

least_tries : (trees : ℕ) (busy : Bool) → trees + 1 ≤ tries trees false busy
least_tries trees true = omega arith
least_tries trees false = omega arith

tries_quiet : (trees : ℕ) (waits busy : Bool) → waits ≡ false → tries trees waits busy ≡ tries trees false busy
tries_quiet trees waits busy e = ap (λ (w : Bool). tries trees w busy) e

some_most : (rs : List Release) → some_left rs ≤ 1
some_most [] = omega arith
some_most (r ∷ rs) = omega arith

-- A seat at a line, before and behind a call. So many events are paid for.
pub record IsPaid (setting : Setting) (was is : Seat) (made : ℕ) : Type 0 where
  pub events : made + work setting is ≤ work setting was
  pub steps : steps is < steps was

-- it has gone past the line, with records of two more frees at most; whether it waited before or not
pub paid_past : (setting : Setting) (seat : Seat) (new : Turn) (line : Line) (rest : List Line) (made : ℕ) → is_some seat.turn.outcome ≡ false →
    seat.turn.lines ≡ line ∷ rest → new.lines ≡ rest →
    new.outcome ≡ seat.turn.outcome → new.waits ≡ false → owed new.recorded ≤ owed seat.turn.recorded + 2 →
    (seat.turn.waits ≡ false → made ≤ setting.plan.trees + 1) → (seat.turn.waits ≡ true → made ≡ 0) → IsPaid setting seat (idle new) made
paid_past setting seat new line rest made goes lines left outcome quiet few most none =
    record { events = by_waits seat.turn.waits refl; steps = by_steps seat.turn.waits refl }
  where
    trees : ℕ
    trees = setting.plan.trees

    still : is_some new.outcome ≡ false
    still = ap is_some outcome ∙ goes

    was : work setting seat ≡ (2 * trees + 3) + lines_work trees rest + owed seat.turn.recorded + tries trees seat.turn.waits seat.busy
    was = open_work setting seat goes
        ∙ ap (λ (ls : List Line). lines_work trees ls + owed seat.turn.recorded + tries trees seat.turn.waits seat.busy) lines

    is : work setting (idle new) ≡ lines_work trees rest + owed new.recorded + tries trees false false
    is = open_work setting (idle new) still ∙ ap (λ (ls : List Line). lines_work trees ls + owed new.recorded + tries trees new.waits false) left
        ∙ ap (λ (w : Bool). lines_work trees rest + owed new.recorded + tries trees w false) quiet

    by_waits : (w : Bool) → seat.turn.waits ≡ w → made + work setting (idle new) ≤ work setting seat
    by_waits true e = omega (arith, was, is, few, none e)
    by_waits false e = omega (arith, was, is, few, most e, tries_quiet trees seat.turn.waits seat.busy e, least_tries trees seat.busy)

    by_steps : (w : Bool) → seat.turn.waits ≡ w → steps (idle new) < steps seat
    by_steps true e =
        omega (
          arith,
          open_steps seat goes,
          ap (λ (w : Bool). 2 * length seat.turn.lines - (if w then 1 else 0)) e,
          ap length lines,
          open_steps (idle new) still,
          ap (λ (w : Bool). 2 * length new.lines - (if w then 1 else 0)) quiet,
          ap length left,
        )
    by_steps false e =
        omega (
          arith,
          open_steps seat goes,
          ap (λ (w : Bool). 2 * length seat.turn.lines - (if w then 1 else 0)) e,
          ap length lines,
          open_steps (idle new) still,
          ap (λ (w : Bool). 2 * length new.lines - (if w then 1 else 0)) quiet,
          ap length left,
        )

-- it has ended there; one that waits has the line of its end besides
pub paid_ended : (setting : Setting) (seat : Seat) (outcome : Outcome) (line : Line) (rest : List Line) (made : ℕ) →
    is_some seat.turn.outcome ≡ false → seat.turn.lines ≡ line ∷ rest →
    (seat.turn.waits ≡ true → 1 ≤ length rest) → made ≤ 2 * setting.plan.trees + 3 → IsPaid setting seat (idle (ending outcome seat.turn)) made
paid_ended setting seat outcome line rest made goes lines more most = record {
  events = omega (arith, open_work setting seat goes, ap (lines_work setting.plan.trees) lines, most, length-from 0 seat.turn.recorded);
  steps = by_steps seat.turn.waits refl;
}
  where
    by_steps : (w : Bool) → seat.turn.waits ≡ w → some_left (releases_from 0 seat.turn.recorded) < steps seat
    by_steps true e = (let k = some_most (releases_from 0 seat.turn.recorded) in
        omega (arith, open_steps seat goes, ap (λ (b : Bool). 2 * length seat.turn.lines - (if b then 1 else 0)) e, ap length lines, k, more e))
    by_steps false e = (let k = some_most (releases_from 0 seat.turn.recorded) in
        omega (arith, open_steps seat goes, ap (λ (b : Bool). 2 * length seat.turn.lines - (if b then 1 else 0)) e, ap length lines, k))

-- it was held there, and waits now
pub paid_held : (setting : Setting) (seat : Seat) (listed : Bool) (line : Line) (rest : List Line) (made : ℕ) → is_some seat.turn.outcome ≡ false →
    seat.turn.lines ≡ line ∷ rest → seat.turn.waits ≡ false →
    made ≤ setting.plan.trees + 1 → IsPaid setting seat (record { turn = record seat.turn { waits = true }; busy = false; listed = listed }) made
paid_held setting seat listed line rest made goes lines quiet most = record {
  events = omega (
    arith,
    open_work setting seat goes,
    open_work setting (record { turn = record seat.turn { waits = true }; busy = false; listed = listed }) goes,
    tries_quiet setting.plan.trees seat.turn.waits seat.busy quiet,
    least_tries setting.plan.trees seat.busy,
    most,
  );
  steps = omega (
    arith,
    open_steps seat goes,
    ap (λ (b : Bool). 2 * length seat.turn.lines - (if b then 1 else 0)) quiet,
    ap length lines,
    open_steps (record { turn = record seat.turn { waits = true }; busy = false; listed = listed }) goes,
  );
}

-- it was refused, with joins or without
pub paid_refused : (setting : Setting) (seat : Seat) (made : ℕ) → is_some seat.turn.outcome ≡ false → seat.turn.waits ≡ false → seat.busy ≡ false →
    made ≤ setting.plan.trees →
    made + work setting (record seat { busy = true }) ≤ work setting seat
paid_refused setting seat made goes quiet free few =
    omega (
      arith,
      open_work setting seat goes,
      open_work setting (record seat { busy = true }) goes,
      tries_quiet setting.plan.trees seat.turn.waits seat.busy quiet,
      tries_quiet setting.plan.trees seat.turn.waits true quiet,
      ap (tries setting.plan.trees false) free,
      few,
    )

-- a refused call without events leaves no more
pub paid_kept : (setting : Setting) (seat : Seat) → work setting (record seat { busy = true }) ≤ work setting seat
paid_kept setting seat = by_outcome (is_some seat.turn.outcome) seat.turn.waits seat.busy
  where
    by_outcome : (over waits busy : Bool) →
        (if over then length seat.turn.releases
        else lines_work setting.plan.trees seat.turn.lines + owed seat.turn.recorded + tries setting.plan.trees waits true)
        ≤ (if over then length seat.turn.releases
        else lines_work setting.plan.trees seat.turn.lines + owed seat.turn.recorded + tries setting.plan.trees waits busy)
    by_outcome true waits busy = omega arith
    by_outcome false true busy = omega arith
    by_outcome false false true = omega arith
    by_outcome false false false = omega arith

-- a free
pub paid_freed : (setting : Setting) (seat : Seat) (r : Release) (rs : List Release) → is_some seat.turn.outcome ≡ true →
    seat.turn.releases ≡ r ∷ rs →
    1 + work setting (record seat { turn = record seat.turn { releases = rest_of_release seat.turn.releases }; busy = false }) ≤ work setting seat
paid_freed setting seat r rs over releases =
    let now : work setting seat ≡ length seat.turn.releases =
    ap (λ (b : Bool). if b then length seat.turn.releases
    else lines_work setting.plan.trees seat.turn.lines + owed seat.turn.recorded + tries_work setting seat) over in
    let left : Seat = record seat { turn = record seat.turn { releases = rest_of_release seat.turn.releases }; busy = false } in
    let later : work setting left ≡ length (rest_of_release seat.turn.releases) =
    ap (λ (b : Bool). if b then length
    (rest_of_release seat.turn.releases)
    else lines_work setting.plan.trees seat.turn.lines + owed seat.turn.recorded + tries_work setting left) over in
    omega (arith, now, later, ap length releases, ap (λ (xs : List Release). length (rest_of_release xs)) releases)

pub steps_freed : (seat : Seat) (r : Release) (rs : List Release) → is_some seat.turn.outcome ≡ true → seat.turn.releases ≡ r ∷ rs →
    steps (record seat { turn = record seat.turn { releases = rest_of_release seat.turn.releases }; busy = false }) ≤ steps seat
steps_freed seat r rs over releases =
    let now : steps seat ≡ some_left seat.turn.releases =
    ap (λ (b : Bool). if b then some_left seat.turn.releases else 2 * length seat.turn.lines - (if seat.turn.waits then 1 else 0)) over in
    let later : steps (record seat { turn = record seat.turn { releases = rest_of_release seat.turn.releases }; busy = false }) ≡ some_left
    (rest_of_release seat.turn.releases) =
    ap (λ (b : Bool). if b then some_left (rest_of_release seat.turn.releases) else 2 * length seat.turn.lines -
    (if seat.turn.waits then 1 else 0)) over in
    let k = some_most (rest_of_release seat.turn.releases) in omega (arith, now, later, ap some_left releases, k)

-- a turn with lines has not ended
pub open_of : (turn : Turn) (line : Line) (rest : List Line) → (IsTrue (is_some turn.outcome) → turn.lines ≡ []) → turn.lines ≡ line ∷ rest →
    is_some turn.outcome ≡ false
open_of turn line rest over lines = by_outcome (is_some turn.outcome) refl
  where
    by_outcome : (b : Bool) → is_some turn.outcome ≡ b → is_some turn.outcome ≡ false
    by_outcome true e = absurd (no_lines (sym lines ∙ over e))
      where
        no_lines : line ∷ rest ≡ [] → ⊥
        no_lines k = cc
    by_outcome false e = e

-- Calls.

quiet_less : {P : Type 0} (b : Bool) → b ≡ false → b ≡ true → P
quiet_less b quiet waits = absurd (let k : false ≡ true = sym quiet ∙ waits in cc)

mine_append : (old new : PassView) (made : List Receipt) → new.mine ≡ old.mine ++ made → length new.mine ≡ length old.mine + length made
mine_append old new made is = ap length is ∙ length-append old.mine made

-- what so many receipts leave
pub spends_paid : (setting : Setting) (old new : PassView) (was is : Seat) (made : List Receipt) → new.mine ≡ old.mine ++ made →
    IsPaid setting was is (length made) → is.listed ≡ false → Spends setting old new was is
spends_paid setting old new was is made mine paid unlisted = record {
  events = omega (arith, mine_append old new made mine, paid.events);
  steps = omega (arith, paid.steps);
  listed = λ e. unlisted;
}

-- one that asked, and was answered
pub paid_asked : (setting : Setting) (seat : Seat) (tree : ℕ) (range : Interval) (line : Line) (rest : List Line) (reply : Reply) (made : ℕ) →
    IsNextAsk seat.turn tree range line rest →
    is_some seat.turn.outcome ≡ false → made ≤ setting.plan.trees + 1 →
    IsPaid setting seat (idle (asked_at seat.turn.lines reply None seat.turn)) made
paid_asked setting seat tree range line rest reply made next goes most =
    subst (λ (ls : List Line). IsPaid setting seat (idle (asked_at ls reply None seat.turn)) made) (sym next.lines)
    (by_deed line.deed refl next.asks_it)
  where
    left : rest_of seat.turn.lines ≡ rest
    left = ap rest_of next.lines

    granted : (t : ℕ) (r : Interval) (buffered : Bool) → IsPaid setting seat (idle (granted_to t r buffered seat.turn)) made
    granted t r buffered =
        paid_past setting seat (granted_to t r buffered seat.turn) line rest made goes next.lines left refl refl (owed_granted t r buffered seat.turn)
        (λ e. most) (quiet_less seat.turn.waits next.goes)

    gone : IsPaid setting seat (idle (past seat.turn)) made
    gone = paid_past setting seat (past seat.turn) line rest made goes next.lines left refl refl (omega arith) (λ e. most)
        (quiet_less seat.turn.waits next.goes)

    held : IsPaid setting seat (idle (record seat.turn { waits = true })) made
    held = paid_held setting seat false line rest made goes next.lines next.goes most

    tried : (t : ℕ) (r : Interval) (reply : Reply) → IsPaid setting seat
        (idle (asked_at (record line { deed = Try t r } ∷ rest) reply None seat.turn)) made
    tried t r Granted = granted t r false
    tried t r Buffered = granted t r true
    tried t r (HeldBy owners) = gone

    locked : (t : ℕ) (r : Interval) (reply : Reply) → IsPaid setting seat
        (idle (asked_at (record line { deed = Lock t r } ∷ rest) reply None seat.turn)) made
    locked t r Granted = granted t r false
    locked t r Buffered = granted t r true
    locked t r (HeldBy owners) = held

    by_deed : (deed : LineDeed) → line.deed ≡ deed → line_question deed ≡ Some (Ask tree range Granted) →
        IsPaid setting seat (idle (asked_at (line ∷ rest) reply None seat.turn)) made
    by_deed (Try t r) is asks = subst (λ (d : LineDeed). IsPaid setting seat
        (idle (asked_at (record line { deed = d } ∷ rest) reply None seat.turn)) made) (sym is) (tried t r reply)
    by_deed (Lock t r) is asks = subst (λ (d : LineDeed). IsPaid setting seat
        (idle (asked_at (record line { deed = d } ∷ rest) reply None seat.turn)) made) (sym is) (locked t r reply)
    by_deed End is asks = absurd cc
    by_deed Abort is asks = absurd cc
    by_deed (Escalate t) is asks = absurd (let k : Join t 0 0 ≡ Ask tree range Granted = cc in cc)
    by_deed Big is asks = absurd cc
