-- A search that was right stays right while the others go on.
use Rattle.std.proofs.Common.{◌≡◌, ◌≢◌, ◌⊎◌, ℕ, ◌+◌, ◌<◌, ◌≤◌, List, [], ◌∷◌, ◌++◌, Bool, true, false, ◌&&◌, nat_lt, nat_le, if◌then◌else◌, Option, Some, None, IfSome, IsTrue, refl}
use Rattle.std.proofs.Common.{sym, ap, subst, ◌∙◌, inl, inr, arith}
use Rattle.std.specs.List.{AllByRecursion, list_all}
use Rattle.std.proofs.lemmas.Bool.{false≢true}
use Rattle.std.proofs.lemmas.Bool.Decides.{nat_tests}
use Rattle.lt_ranges.specs.Interval.{Interval}
use Rattle.lt_seq.specs.declared.event.Reply.{Reply}
use Rattle.lt_seq.specs.declared.event.Reply.TheVariants.{Granted, Buffered, HeldBy}
use Rattle.lt_seq.specs.declared.event.Event.{Event}
use Rattle.lt_seq.specs.declared.event.Receipt.{Receipt}
use Rattle.lt_seq.specs.Table.{Setting}
use Rattle.lt_trace.specs.declared.line.Line.{Line}
use Rattle.lt_trace.specs.declared.line.LineDeed.{LineDeed}
use Rattle.lt_trace.specs.declared.line.LineDeed.TheVariants.{Try, Lock, End, Abort, Escalate, Big}
use Rattle.lt_trace.specs.Grammar.{is_last}
use Rattle.lt_requests.specs.declared.wish.Wish.{Wish}
use Rattle.lt_requests.specs.declared.cycle.Edge.{Edge}
use Rattle.lt_runner.specs.TurnView.{Turn}
use Rattle.lt_runner.specs.Turn.{Move, leaves, asks, waits, stops, escalates, grows, ends, frees, turn_after, asked_at, ended_at, answered_by, locked_by, walked, reply_in}
use Rattle.lt_runner.specs.Plays.{Stage, stage_after, stage_after_all, IsMove, is_lock, is_big, next_wish, wish_in, opening_stage}
use Rattle.lt_runner.specs.Run.{is_before, begun, moves_before, IsListedRightly}
use Rattle.lt_runner.specs.Played.{IsAtLock, IsAtLine, IsLate, Search, AreListed}
use Rattle.lt_runner.proofs.StepLaws.{after_txn}

-- Where a transaction waits.

held_now : (waiting : Bool) (n : ℕ) → waiting ≡ false → (if waiting then n + 1 else 0) ≡ 0
held_now true n e = absurd (false≢true (sym e))
held_now false n e = refl

-- a lock line that was held is next still
abbrev Waits : Turn → Type 0
Waits turn = IsTrue turn.waits → IsAtLock turn.lines

answered_waits : (tree : ℕ) (range : Interval) (reply : Reply) (turn : Turn) → Waits (answered_by tree range reply turn)
answered_waits tree range Granted turn w = absurd (false≢true w)
answered_waits tree range Buffered turn w = absurd (false≢true w)
answered_waits tree range (HeldBy owners) turn w = absurd (false≢true w)

walked_waits : (walk : Option (List Edge)) (turn : Turn) → IsAtLock turn.lines → Waits (walked walk turn)
walked_waits None turn lock w = lock
walked_waits (Some edges) turn lock w = absurd (false≢true w)

locked_waits : (tree : ℕ) (range : Interval) (reply : Reply) (walk : Option (List Edge)) (turn : Turn) → IsAtLock turn.lines → Waits (locked_by tree range reply walk turn)
locked_waits tree range Granted walk turn lock w = absurd (false≢true w)
locked_waits tree range Buffered walk turn lock w = absurd (false≢true w)
locked_waits tree range (HeldBy owners) walk turn lock w = walked_waits walk turn lock w

asked_waits : (lines : List Line) (reply : Reply) (walk : Option (List Edge)) (turn : Turn) → turn.lines ≡ lines → Waits turn → Waits (asked_at lines reply walk turn)
asked_waits [] reply walk turn is lock = lock
asked_waits (line ∷ lines) reply walk turn is lock = by_deed line.deed refl
  where
    by_deed : (deed : LineDeed) → line.deed ≡ deed → Waits (asked_at (record line { deed = deed } ∷ lines) reply walk turn)
    by_deed (Try tree range) e = answered_waits tree range reply turn
    by_deed (Lock tree range) e = locked_waits tree range reply walk turn (subst IsAtLock (sym is) (subst (λ (d : LineDeed). IsTrue (is_lock d)) (sym e) refl))
    by_deed End e = lock
    by_deed Abort e = lock
    by_deed (Escalate tree) e = lock
    by_deed Big e = lock

ended_waits : (lines : List Line) (turn : Turn) → Waits turn → Waits (ended_at lines turn)
ended_waits [] turn lock = lock
ended_waits (line ∷ lines) turn lock = by_deed line.deed
  where
    by_deed : (deed : LineDeed) → Waits (ended_at (record line { deed = deed } ∷ lines) turn)
    by_deed (Try tree range) w = lock w
    by_deed (Lock tree range) w = lock w
    by_deed End w = absurd (false≢true w)
    by_deed Abort w = absurd (false≢true w)
    by_deed (Escalate tree) w = lock w
    by_deed Big w = lock w

turn_waits : (turn : Turn) (move : Move) → Waits turn → Waits (turn_after turn move)
turn_waits turn (leaves joins) lock w = lock w
turn_waits turn (asks joins ask) lock w = asked_waits turn.lines (reply_in ask.event.deed) None turn refl lock w
turn_waits turn (waits joins ask wishes found) lock w = asked_waits turn.lines (reply_in ask.event.deed) _ turn refl lock w
turn_waits turn (stops joins place rows) lock w = absurd (false≢true w)
turn_waits turn (escalates join) lock w = absurd (false≢true w)
turn_waits turn grows lock w = absurd (false≢true w)
turn_waits turn ends lock w = ended_waits turn.lines turn lock w
turn_waits turn (frees free) lock w = lock w

pub at_line_more : (stage : Stage) (move : Move) → IsAtLine stage → IsAtLine (stage_after stage move)
at_line_more stage move at = record {
  lock = turn_waits stage.turn move at.lock;
  held = held_now (turn_after stage.turn move).waits stage.past.held;
}

pub at_line : (stage : Stage) (moves : List Move) → IsAtLine stage → IsAtLine (stage_after_all stage moves)
at_line stage [] at = at
at_line stage (m ∷ ms) at = at_line (stage_after stage m) ms (at_line_more stage m at)

pub at_line_opening : (setting : Setting) (txn : ℕ) (lines : List Line) → IsAtLine (opening_stage setting txn lines)
at_line_opening setting txn lines = record { lock = λ w. absurd (false≢true w); held = λ w. refl }

-- Moves before a place.

not_below : (n place from : ℕ) → place < from → from ≤ n → nat_lt n place ≡ true → ⊥
not_below n place from less late e = let k : n < place = grind (arith, nat_tests) in omega (arith, k, less, late)

-- a late attempt has not begun there
begun_late : (move : Move) (place from : ℕ) → place < from → IsLate from move → begun place move ≡ []
begun_late (leaves joins) place from less late = refl
begun_late (asks joins ask) place from less late = refl
begun_late (waits joins ask wishes found) place from less late = by_test (nat_lt ask.place place) refl
  where
    by_test : (b : Bool) → nat_lt ask.place place ≡ b → (if b then asks joins ask ∷ [] else []) ≡ []
    by_test true e = absurd (not_below ask.place place from less late e)
    by_test false e = refl
begun_late (stops joins p rows) place from less late = refl
begun_late (escalates join) place from less late = refl
begun_late grows place from less late = refl
begun_late ends place from less late = refl
begun_late (frees free) place from less late = refl

-- one move more is before the place only where all before it were
before_more : (place : ℕ) (xs : List Move) (x : Move) → begun place x ≡ [] →
    (moves_before place (xs ++ x ∷ []) ≡ moves_before place xs) ⊎ ((moves_before place xs ≡ xs) × (moves_before place (xs ++ x ∷ []) ≡ xs ++ x ∷ []) × (is_before place x ≡ true))
before_more place [] x none = by_test (is_before place x) refl
  where
    by_test : (b : Bool) → is_before place x ≡ b →
        ((if b then x ∷ moves_before place [] else begun place x) ≡ moves_before place []) ⊎
        ((moves_before place [] ≡ []) × ((if b then x ∷ moves_before place [] else begun place x) ≡ x ∷ []) × (is_before place x ≡ true))
    by_test true e = inr (refl, refl, e)
    by_test false e = inl none
before_more place (y ∷ ys) x none = by_test (is_before place y) (before_more place ys x none)
  where
    by_test : (b : Bool) →
        (moves_before place (ys ++ x ∷ []) ≡ moves_before place ys) ⊎ ((moves_before place ys ≡ ys) × (moves_before place (ys ++ x ∷ []) ≡ ys ++ x ∷ []) × (is_before place x ≡ true)) →
        ((if b then y ∷ moves_before place (ys ++ x ∷ []) else begun place y) ≡ (if b then y ∷ moves_before place ys else begun place y))
        ⊎ (((if b then y ∷ moves_before place ys else begun place y) ≡ y ∷ ys) × ((if b then y ∷ moves_before place (ys ++ x ∷ []) else begun place y) ≡ y ∷ ys ++ x ∷ []) × (is_before place x ≡ true))
    by_test true (inl same) = inl (ap (λ (l : List Move). y ∷ l) same)
    by_test true (inr all) = inr (ap (λ (l : List Move). y ∷ l) all.0, ap (λ (l : List Move). y ∷ l) all.1, all.2)
    by_test false rest = inl refl

not_within : (n place from : ℕ) → place < from → from ≤ n → nat_le n place ≡ true → ⊥
not_within n place from less late e = let k : n ≤ place = grind (arith, nat_tests) in omega (arith, k, less, late)

and_first : (a b : Bool) → (a && b) ≡ true → a ≡ true
and_first true b e = refl
and_first false b e = absurd (false≢true e)

-- a late move that is before a place has none, so that its transaction did not wait
goes_on : (crew : Bool) (setting : Setting) (history : List Event) (stage : Stage) (move : Move) (place from : ℕ) → place < from → IsLate from move → is_before place move ≡ true → IsAtLine stage →
    IsMove crew setting history stage stage.turn.lines move → stage.turn.waits ≡ false
goes_on crew setting history stage (leaves []) place from less late before at may = absurd late
goes_on crew setting history stage (leaves (r ∷ rs)) place from less late before at may =
    absurd (not_below r.place place from less late (and_first (nat_lt r.place place) (list_all (λ (s : Receipt). nat_lt s.place place) rs) before))
goes_on crew setting history stage (asks joins ask) place from less late before at may = absurd (not_below ask.place place from less late before)
goes_on crew setting history stage (waits joins ask wishes found) place from less late before at may =
    absurd (not_below ask.place place from less late (and_first (nat_lt ask.place place) (list_all (λ (s : Receipt). nat_lt s.place place) found) before))
goes_on crew setting history stage (stops joins p rows) place from less late before at may = absurd (not_within p place from less late before)
goes_on crew setting history stage (escalates join) place from less late before at may = absurd (not_below join.place place from less late before)
goes_on crew setting history stage (frees free) place from less late before at may = absurd (not_below free.place place from less late before)
goes_on crew setting history stage grows place from less late before at may = by_waits stage.turn.waits refl
  where
    no_big : (lines : List Line) → IsAtLock lines → IsMove crew setting history stage lines grows → ⊥
    no_big [] lock move = lock
    no_big (line ∷ lines) lock move = by_deed line.deed lock move
      where
        by_deed : (deed : LineDeed) → IsTrue (is_lock deed) → IsTrue (is_big deed) → ⊥
        by_deed (Try tree range) l m = false≢true l
        by_deed (Lock tree range) l m = false≢true m
        by_deed End l m = false≢true l
        by_deed Abort l m = false≢true l
        by_deed (Escalate tree) l m = false≢true l
        by_deed Big l m = false≢true l

    by_waits : (b : Bool) → stage.turn.waits ≡ b → stage.turn.waits ≡ false
    by_waits true e = absurd (no_big stage.turn.lines (at.lock e) may)
    by_waits false e = e
goes_on crew setting history stage ends place from less late before at may = by_waits stage.turn.waits refl
  where
    no_end : (lines : List Line) → IsAtLock lines → IsMove crew setting history stage lines ends → ⊥
    no_end [] lock move = lock
    no_end (line ∷ lines) lock move = by_deed line.deed lock move
      where
        by_deed : (deed : LineDeed) → IsTrue (is_lock deed) → IsTrue (is_last deed) → ⊥
        by_deed (Try tree range) l m = false≢true l
        by_deed (Lock tree range) l m = false≢true m
        by_deed End l m = false≢true l
        by_deed Abort l m = false≢true l
        by_deed (Escalate tree) l m = false≢true l
        by_deed Big l m = false≢true l

    by_waits : (b : Bool) → stage.turn.waits ≡ b → stage.turn.waits ≡ false
    by_waits true e = absurd (no_end stage.turn.lines (at.lock e) may)
    by_waits false e = e

-- a late move before a place has no receipt: the turn goes on behind it as before
rests_on : (stage : Stage) (move : Move) (place from : ℕ) → place < from → IsLate from move → is_before place move ≡ true → stage.turn.waits ≡ false → (turn_after stage.turn move).waits ≡ false
rests_on stage (leaves []) place from less late before rests = absurd late
rests_on stage (leaves (r ∷ rs)) place from less late before rests = rests
rests_on stage (asks joins ask) place from less late before rests = absurd (not_below ask.place place from less late before)
rests_on stage (waits joins ask wishes found) place from less late before rests =
    absurd (not_below ask.place place from less late (and_first (nat_lt ask.place place) (list_all (λ (s : Receipt). nat_lt s.place place) found) before))
rests_on stage (stops joins p rows) place from less late before rests = refl
rests_on stage (escalates join) place from less late before rests = refl
rests_on stage grows place from less late before rests = refl
rests_on stage ends place from less late before rests = ended_rests stage.turn.lines stage.turn rests
  where
    ended_rests : (lines : List Line) (turn : Turn) → turn.waits ≡ false → (ended_at lines turn).waits ≡ false
    ended_rests [] turn e = e
    ended_rests (line ∷ lines) turn e = by_deed line.deed
      where
        by_deed : (deed : LineDeed) → (ended_at (record line { deed = deed } ∷ lines) turn).waits ≡ false
        by_deed (Try tree range) = e
        by_deed (Lock tree range) = e
        by_deed End = refl
        by_deed Abort = refl
        by_deed (Escalate tree) = e
        by_deed Big = e
rests_on stage (frees free) place from less late before rests = rests

none_listed : (wish : Option Wish) (waiting : Bool) (A : Wish → Type 0) → waiting ≡ false → IfSome wish (λ w. IsTrue waiting × A w) → wish ≡ None
none_listed None waiting A rests some = refl
none_listed (Some w) waiting A rests some = absurd (false≢true (sym rests ∙ some.0))

all_more : (stage : Stage) (moves : List Move) (move : Move) → stage_after_all stage (moves ++ move ∷ []) ≡ stage_after (stage_after_all stage moves) move
all_more stage [] move = refl
all_more stage (m ∷ ms) move = all_more (stage_after stage m) ms move

-- one that does not wait is listed rightly where it has no wish
free_listed : (crew : Bool) (stage : Stage) (wishes : List Wish) → wish_in stage.turn.txn wishes ≡ None → stage.past.held ≡ 0 → IsListedRightly crew stage wishes
free_listed crew stage wishes none held = record {
  waits = subst (λ (o : Option Wish). IfSome o (λ wish. IsTrue stage.turn.waits × (next_wish stage.turn.txn stage.turn.lines ≡ Some wish))) (sym none) tt;
  listed = λ twice. absurd (omega (arith, held, twice));
}

-- A transaction that was listed rightly at a place is still, when it goes on by a move behind it.
pub listed_more : (crew : Bool) (setting : Setting) (history : List Event) (opening : Stage) (moves : List Move) (move : Move) (place from : ℕ) (wishes : List Wish) →
    place < from → IsLate from move → IsAtLine opening →
    (let stage = stage_after_all opening moves in
    IsMove crew setting history stage stage.turn.lines move → (turn_after stage.turn move).txn ≡ stage.turn.txn →
    IsListedRightly crew (stage_after_all opening (moves_before place moves)) wishes →
    IsListedRightly crew (stage_after_all opening (moves_before place (moves ++ move ∷ []))) wishes)
listed_more crew setting history opening moves move place from wishes less late start may txn listed = by_place (before_more place moves move (begun_late move place from less late))
  where
    stage : Stage
    stage = stage_after_all opening moves

    by_place : (moves_before place (moves ++ move ∷ []) ≡ moves_before place moves)
        ⊎ ((moves_before place moves ≡ moves) × (moves_before place (moves ++ move ∷ []) ≡ moves ++ move ∷ []) × (is_before place move ≡ true)) →
        IsListedRightly crew (stage_after_all opening (moves_before place (moves ++ move ∷ []))) wishes
    by_place (inl same) = subst (λ (ms : List Move). IsListedRightly crew (stage_after_all opening ms) wishes) (sym same) listed
    by_place (inr (all, more, before)) =
        let now : IsListedRightly crew stage wishes = subst (λ (ms : List Move). IsListedRightly crew (stage_after_all opening ms) wishes) all listed in
        let at : IsAtLine stage = at_line opening moves start in
        let rests : stage.turn.waits ≡ false = goes_on crew setting history stage move place from less late before at may in
        let none : wish_in stage.turn.txn wishes ≡ None =
        none_listed (wish_in stage.turn.txn wishes) stage.turn.waits (λ wish. next_wish stage.turn.txn stage.turn.lines ≡ Some wish) rests now.waits in
        let later : IsListedRightly crew (stage_after stage move) wishes =
        free_listed crew (stage_after stage move) wishes (ap (λ (n : ℕ). wish_in n wishes) txn ∙ none)
        (held_now (turn_after stage.turn move).waits stage.past.held (rests_on stage move place from less late before rests)) in
        subst (λ (s : Stage). IsListedRightly crew s wishes) (sym (ap (stage_after_all opening) more ∙ all_more opening moves move)) later

-- In all searches of others.

pub listed_still : (crew : Bool) (setting : Setting) (history : List Event) (opening : Stage) (moves : List Move) (move : Move) (from : ℕ) (searches : List Search) →
    AllByRecursion (λ s. s.txn ≢ opening.turn.txn → s.place < from) searches →
    IsLate from move → IsAtLine opening → IsMove crew setting history (stage_after_all opening moves) (stage_after_all opening moves).turn.lines move →
    AreListed crew searches opening moves → AreListed crew searches opening (moves ++ move ∷ [])
listed_still crew setting history opening moves move from [] before late start may listed = tt
listed_still crew setting history opening moves move from (s ∷ ss) before late start may listed = (
  λ other. listed_more crew setting history opening moves move s.place from s.wishes (before.0 other) late start may (after_txn (stage_after_all opening moves).turn move) (listed.0 other),
  listed_still crew setting history opening moves move from ss before.1 late start may listed.1,
)

pub all_txn : (stage : Stage) (moves : List Move) → (stage_after_all stage moves).turn.txn ≡ stage.turn.txn
all_txn stage [] = refl
all_txn stage (m ∷ ms) = all_txn (stage_after stage m) ms ∙ after_txn stage.turn m
