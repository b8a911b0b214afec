-- What a turn is to give back becomes no less by its line's move, and has what the move was granted.
use Rattle.std.proofs.Common.{◌≡◌, ◌⊎◌, inl, inr, ℕ, zero, suc, ◌+◌, ◌<◌, List, [], ◌∷◌, ◌++◌, Bool, true, false, ◌==◌, if◌then◌else◌, Option, Some, None, is_some, length, get_or, slice_set, refl, sym, subst, arith, eq-eqb, get_or-set_same}
use Rattle.lt_ranges.specs.Interval.{Interval, IsInterval, overlap, whole}
use Rattle.lt_ranges.specs.Key.{key_le}
use Rattle.lt_ranges.specs.declared.key.Key.{Key}
use Rattle.lt_ranges.specs.declared.key.Key.TheVariants.{Below, Bytes, After, Above}
use Rattle.lt_ranges.proofs.IntervalLaws.{overlap_itself}
use Rattle.lt_seq.specs.declared.event.Reply.{Reply}
use Rattle.lt_seq.specs.declared.event.Reply.TheVariants.{Granted, Buffered, HeldBy}
use Rattle.lt_trace.specs.declared.line.Line.{Line}
use Rattle.lt_trace.specs.declared.line.LineDeed.{LineDeed}
use Rattle.lt_trace.specs.declared.line.LineDeed.TheVariants.{Try, Lock, End, Abort, Escalate, Big}
use Rattle.lt_requests.specs.declared.cycle.Edge.{Edge}
use Rattle.lt_history.specs.declared.outcome.Outcome.{Outcome}
use Rattle.lt_history.specs.declared.outcome.Outcome.TheVariants.{Done, Aborted, Deadlock, OutOfLocks}
use Rattle.lt_runner.specs.declared.release.Release.{Release}
use Rattle.lt_runner.specs.TurnView.{Turn, Recorded}
use Rattle.lt_runner.specs.Turn.{Move, leaves, asks, waits, stops, escalates, grows, ends, frees, turn_after, releases_by, releases_in, releases_from, nothing_recorded}
use Rattle.lt_runner.specs.Turn.{granted_to, ending, answered_by, walked, locked_by, asked_at, ended_at, reply_in}
use Rattle.lt_runner.specs.Due.{ranges_in, due_in, OverlapsOne, IsDueReply}
use Rattle.lt_runner.proofs.ChoiceLaws.{on_true, on_false}
use Rattle.lt_runner.proofs.GrowLaws.{at_set}

-- one of two lists
one_left : (range : Interval) (xs ys : List Interval) → OverlapsOne range xs → OverlapsOne range (xs ++ ys)
one_left range [] ys some = absurd some
one_left range (x ∷ xs) ys (inl here) = inl here
one_left range (x ∷ xs) ys (inr there) = inr (one_left range xs ys there)

one_last : (range : Interval) (xs : List Interval) (y : Interval) → overlap range y ≡ true → OverlapsOne range (xs ++ y ∷ [])
one_last range [] y over = inl over
one_last range (x ∷ xs) y over = inr (one_last range xs y over)

-- The release.

in_left : (range : Interval) (tree : ℕ) (xs ys : List Release) → OverlapsOne range (ranges_in tree xs) →
    OverlapsOne range (ranges_in tree (xs ++ ys))
in_left range tree [] ys some = absurd some
in_left range tree (x ∷ xs) ys some = by_test (x.tree == tree) some (in_left range tree xs ys)
  where
    by_test : (b : Bool) → OverlapsOne range (if b then x.range ∷ ranges_in tree xs else ranges_in tree xs) →
        (OverlapsOne range (ranges_in tree xs) → OverlapsOne range (ranges_in tree (xs ++ ys))) →
        OverlapsOne range (if b then x.range ∷ ranges_in tree (xs ++ ys) else ranges_in tree (xs ++ ys))
    by_test true (inl here) later = inl here
    by_test true (inr there) later = inr (later there)
    by_test false some later = later some

in_right : (range : Interval) (tree : ℕ) (xs ys : List Release) → OverlapsOne range (ranges_in tree ys) →
    OverlapsOne range (ranges_in tree (xs ++ ys))
in_right range tree [] ys some = some
in_right range tree (x ∷ xs) ys some = by_test (x.tree == tree) (in_right range tree xs ys some)
  where
    by_test : (b : Bool) → OverlapsOne range (ranges_in tree (xs ++ ys)) →
        OverlapsOne range (if b then x.range ∷ ranges_in tree (xs ++ ys) else ranges_in tree (xs ++ ys))
    by_test true later = inr later
    by_test false later = later

pub overlaps_whole : (range : Interval) → overlap range whole ≡ true
unfolding key_le
overlaps_whole range = by_ends range.left range.right
  where
    by_ends : (l r : Key) → overlap (record { left = l; right = r }) whole ≡ true
    by_ends Below Below = refl
    by_ends Below (Bytes b) = refl
    by_ends Below (After b) = refl
    by_ends Below Above = refl
    by_ends (Bytes a) Below = refl
    by_ends (Bytes a) (Bytes b) = refl
    by_ends (Bytes a) (After b) = refl
    by_ends (Bytes a) Above = refl
    by_ends (After a) Below = refl
    by_ends (After a) (Bytes b) = refl
    by_ends (After a) (After b) = refl
    by_ends (After a) Above = refl
    by_ends Above Below = refl
    by_ends Above (Bytes b) = refl
    by_ends Above (After b) = refl
    by_ends Above Above = refl

by_ranges : (range : Interval) (tree : ℕ) (first : Bool) (ranges : List Interval) → OverlapsOne range ranges →
    OverlapsOne range (ranges_in tree (releases_by tree first ranges))
by_ranges range tree first [] some = absurd some
by_ranges range tree first (x ∷ xs) some =
    subst (OverlapsOne range) (sym (on_true (tree == tree) (x ∷ ranges_in tree (releases_by tree false xs)) (ranges_in tree (releases_by tree false xs)) (eq-eqb tree tree refl)))
    (on some (by_ranges range tree false xs))
  where
    on : OverlapsOne range (x ∷ xs) → (OverlapsOne range xs → OverlapsOne range (ranges_in tree (releases_by tree false xs))) →
        OverlapsOne range (x ∷ ranges_in tree (releases_by tree false xs))
    on (inl here) later = inl here
    on (inr there) later = inr (later there)

in_release : (range : Interval) (tree : ℕ) (r : Recorded) → OverlapsOne range r.ranges → OverlapsOne range (ranges_in tree (releases_in tree r))
in_release range tree r some = by_buffer r.buffered
  where
    by_buffer : (b : Bool) →
        OverlapsOne range (ranges_in tree (if b then record { tree = tree; range = whole; first = true } ∷ [] else releases_by tree true r.ranges))
    by_buffer true = subst (OverlapsOne range) (sym (on_true (tree == tree) (whole ∷ []) [] (eq-eqb tree tree refl))) (inl (overlaps_whole range))
    by_buffer false = by_ranges range tree true r.ranges some

in_releases : (range : Interval) (since : ℕ) (rs : List Recorded) (k : ℕ) → OverlapsOne range (get_or rs k nothing_recorded).ranges →
    OverlapsOne range (ranges_in (since + k) (releases_from since rs))
in_releases range since [] k some = absurd some
in_releases range since (r ∷ rs) zero some =
    subst (λ (n : ℕ). OverlapsOne range (ranges_in n (releases_from since (r ∷ rs)))) (let e : since ≡ since + 0 = omega arith in e)
    (in_left range since (releases_in since r) (releases_from (since + 1) rs) (in_release range since r some))
in_releases range since (r ∷ rs) (suc k) some =
    subst (λ (n : ℕ). OverlapsOne range (ranges_in n (releases_from since (r ∷ rs)))) (let e : (since + 1) + k ≡ since + suc k = omega arith in e)
    (in_right range ((since + 1) + k) (releases_in since r) (releases_from (since + 1) rs) (in_releases range (since + 1) rs k some))

-- The turn.

-- the new turn is to give back what the old one was
abbrev pub GivesMore : Turn → Turn → Type 0
GivesMore old new = (tree : ℕ) (range : Interval) → OverlapsOne range (due_in tree old) → OverlapsOne range (due_in tree new)

goes_due : (turn : Turn) (tree : ℕ) → is_some turn.outcome ≡ false → due_in tree turn ≡ (get_or turn.recorded tree nothing_recorded).ranges
goes_due turn tree goes = on_false (is_some turn.outcome) (ranges_in tree turn.releases) (get_or turn.recorded tree nothing_recorded).ranges goes

more_granted : (into : ℕ) (granted_range : Interval) (buffered : Bool) (turn : Turn) → is_some turn.outcome ≡ false →
    GivesMore turn (granted_to into granted_range buffered turn)
more_granted into granted_range buffered turn goes tree range some =
    subst (OverlapsOne range) (sym (goes_due (granted_to into granted_range buffered turn) tree goes))
    (on (at_set turn.recorded into tree new nothing_recorded) (subst (OverlapsOne range) (goes_due turn tree goes) some))
  where
    before : Recorded
    before = get_or turn.recorded into nothing_recorded

    new : Recorded
    new = record { ranges = before.ranges ++ granted_range ∷ []; buffered = buffered }

    on : (get_or (slice_set turn.recorded into new) tree nothing_recorded ≡ get_or turn.recorded tree nothing_recorded)
        ⊎ ((tree ≡ into) × (get_or (slice_set turn.recorded into new) tree nothing_recorded ≡ new)) →
        OverlapsOne range (get_or turn.recorded tree nothing_recorded).ranges →
        OverlapsOne range (get_or (slice_set turn.recorded into new) tree nothing_recorded).ranges
    on (inl same) h = subst (λ (r : Recorded). OverlapsOne range r.ranges) (sym same) h
    on (inr (is, put)) h =
        subst (λ (r : Recorded). OverlapsOne range r.ranges) (sym put)
        (one_left range before.ranges (granted_range ∷ []) (subst (λ (k : ℕ). OverlapsOne range (get_or turn.recorded k nothing_recorded).ranges) is h))

more_ending : (outcome : Outcome) (turn : Turn) → is_some turn.outcome ≡ false → GivesMore turn (ending outcome turn)
more_ending outcome turn goes tree range some =
    subst (λ (n : ℕ). OverlapsOne range (ranges_in n (releases_from 0 turn.recorded))) (let e : 0 + tree ≡ tree = omega arith in e)
    (in_releases range 0 turn.recorded tree (subst (OverlapsOne range) (goes_due turn tree goes) some))

more_answered : (into : ℕ) (granted_range : Interval) (reply : Reply) (turn : Turn) → is_some turn.outcome ≡ false →
    GivesMore turn (answered_by into granted_range reply turn)
more_answered into granted_range Granted turn goes = more_granted into granted_range false turn goes
more_answered into granted_range Buffered turn goes = more_granted into granted_range true turn goes
more_answered into granted_range (HeldBy owners) turn goes = λ tree range some. some

more_walked : (walk : Option (List Edge)) (turn : Turn) → is_some turn.outcome ≡ false → GivesMore turn (walked walk turn)
more_walked None turn goes = λ tree range some. some
more_walked (Some walk) turn goes = more_ending (Deadlock walk) turn goes

more_locked : (into : ℕ) (granted_range : Interval) (reply : Reply) (walk : Option (List Edge)) (turn : Turn) →
    is_some turn.outcome ≡ false → GivesMore turn (locked_by into granted_range reply walk turn)
more_locked into granted_range Granted walk turn goes = more_granted into granted_range false turn goes
more_locked into granted_range Buffered walk turn goes = more_granted into granted_range true turn goes
more_locked into granted_range (HeldBy owners) walk turn goes = more_walked walk turn goes

more_asked : (lines : List Line) (reply : Reply) (walk : Option (List Edge)) (turn : Turn) → is_some turn.outcome ≡ false →
    GivesMore turn (asked_at lines reply walk turn)
more_asked [] reply walk turn goes = λ tree range some. some
more_asked (line ∷ lines) reply walk turn goes = by_deed line.deed
  where
    by_deed : (deed : LineDeed) → GivesMore turn (asked_at (record line { deed = deed } ∷ lines) reply walk turn)
    by_deed (Try tree range) = more_answered tree range reply turn goes
    by_deed (Lock tree range) = more_locked tree range reply walk turn goes
    by_deed End = λ tree range some. some
    by_deed Abort = λ tree range some. some
    by_deed (Escalate k) = λ tree range some. some
    by_deed Big = λ tree range some. some

more_ended : (lines : List Line) (turn : Turn) → is_some turn.outcome ≡ false → GivesMore turn (ended_at lines turn)
more_ended [] turn goes = λ tree range some. some
more_ended (line ∷ lines) turn goes = by_deed line.deed
  where
    by_deed : (deed : LineDeed) → GivesMore turn (ended_at (record line { deed = deed } ∷ lines) turn)
    by_deed (Try k r) = λ tree range some. some
    by_deed (Lock k r) = λ tree range some. some
    by_deed End = more_ending Done turn goes
    by_deed Abort = more_ending Aborted turn goes
    by_deed (Escalate k) = λ tree range some. some
    by_deed Big = λ tree range some. some

-- a move is no free
abbrev pub IsLineMove : Move → Type 0
IsLineMove (leaves joins) = Unit {0}
IsLineMove (asks joins ask) = Unit {0}
IsLineMove (waits joins ask wishes search) = Unit {0}
IsLineMove (stops joins place used_rows) = Unit {0}
IsLineMove (escalates join) = Unit {0}
IsLineMove grows = Unit {0}
IsLineMove ends = Unit {0}
IsLineMove (frees free) = ⊥

pub more_after : (turn : Turn) (move : Move) → is_some turn.outcome ≡ false → IsLineMove move → GivesMore turn (turn_after turn move)
more_after turn (leaves joins) goes no_free = λ tree range some. some
more_after turn (asks joins ask) goes no_free = more_asked turn.lines (reply_in ask.event.deed) None turn goes
more_after turn (waits joins ask wishes search_found) goes no_free = more_asked turn.lines (reply_in ask.event.deed) _ turn goes
more_after turn (stops joins place rows) goes no_free = more_ending (OutOfLocks place rows) turn goes
more_after turn (escalates join) goes no_free = λ tree range some. some
more_after turn grows goes no_free = λ tree range some. some
more_after turn ends goes no_free = more_ended turn.lines turn goes
more_after turn (frees free) goes no_free = absurd no_free

-- What was granted.

due_grant : (tree : ℕ) (range : Interval) (buffered : Bool) (turn : Turn) → is_some turn.outcome ≡ false → tree < length turn.recorded →
    IsInterval range →
    OverlapsOne range (due_in tree (granted_to tree range buffered turn))
due_grant tree range buffered turn goes inside one =
    let before = get_or turn.recorded tree nothing_recorded in
    let new : Recorded = record { ranges = before.ranges ++ range ∷ []; buffered = buffered } in
    subst (OverlapsOne range) (sym (goes_due (granted_to tree range buffered turn) tree goes))
    (subst (λ (r : Recorded). OverlapsOne range r.ranges) (sym (get_or-set_same turn.recorded tree new nothing_recorded inside)) (one_last range before.ranges range (overlap_itself range one)))

pub due_answered : (tree : ℕ) (range : Interval) (reply : Reply) (turn : Turn) → is_some turn.outcome ≡ false →
    tree < length turn.recorded → IsInterval range →
    IsDueReply reply range (due_in tree (answered_by tree range reply turn))
due_answered tree range Granted turn goes inside one = due_grant tree range false turn goes inside one
due_answered tree range Buffered turn goes inside one = due_grant tree range true turn goes inside one
due_answered tree range (HeldBy owners) turn goes inside one = tt

pub due_locked : (tree : ℕ) (range : Interval) (reply : Reply) (walk : Option (List Edge)) (turn : Turn) → is_some turn.outcome ≡ false →
    tree < length turn.recorded → IsInterval range →
    IsDueReply reply range (due_in tree (locked_by tree range reply walk turn))
due_locked tree range Granted walk turn goes inside one = due_grant tree range false turn goes inside one
due_locked tree range Buffered walk turn goes inside one = due_grant tree range true turn goes inside one
due_locked tree range (HeldBy owners) walk turn goes inside one = tt
