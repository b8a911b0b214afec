-- Where all transactions wait or are over, each pair is owned by one that waits.
use Rattle.std.proofs.Common.{◌≡◌, ◌⊎◌, ℕ, ◌+◌, List, [], ◌∷◌, ◌++◌, Bool}
use Rattle.std.proofs.Common.{true, false, ◌==◌, ◌||◌, map, nat_cmp, inl, inr, if◌then◌else◌, IsTrue, is_some}
use Rattle.std.proofs.Common.{get_or, refl, sym, ap, subst}
use Rattle.std.proofs.Common.{◌∙◌, append_assoc, append-nil}
use Rattle.std.specs.List.{AllByRecursion}
use Rattle.lt_ranges.specs.Interval.{Interval, whole}
use Rattle.lt_seq.specs.declared.event.Deed.{Deed}
use Rattle.lt_seq.specs.declared.event.Deed.TheVariants.{Ask, Free, Who, Join}
use Rattle.lt_seq.specs.declared.event.Reply.{Reply}
use Rattle.lt_seq.specs.declared.event.Reply.TheVariants.{Granted, Buffered, HeldBy}
use Rattle.lt_seq.specs.declared.event.Event.{Event}
use Rattle.lt_seq.specs.declared.event.Pair.{Pair}
use Rattle.lt_seq.specs.Table.{Setting, TreeState, tree_at}
use Rattle.lt_seq.specs.History.{after, IsLegal}
use Rattle.lt_trace.specs.declared.line.Line.{Line}
use Rattle.lt_trace.specs.Grammar.{txns_of}
use Rattle.lt_ranges.specs.Numbers.{is_in}
use Rattle.std.specs.List.Sorted.{IsStrictlySortedBy}
use Rattle.lt_runner.specs.TurnView.{Turn, Seat}
use Rattle.lt_runner.specs.Turn.{waits}
use Rattle.lt_runner.specs.Turn.{nothing_recorded}
use Rattle.lt_runner.specs.Played.{Search, Stands, IsOver, AllStand}
use Rattle.lt_runner.specs.Steps.{IsSteady, IsInOrder}
use Rattle.lt_runner.specs.Serial.{game_at, turn_of, is_waiting}
use Rattle.lt_runner.specs.Settles.{OwnersWait}
use Rattle.lt_runner.specs.Board.{turns_of}
use Rattle.lt_runner.specs.Due.{ranges_in, due_in, OverlapsOne, AreDue, IsDueReply, IsDueDeed}
use Rattle.lt_runner.specs.Standing.{AreFitDeeds, AllWaitOrAreOver}
use Rattle.lt_runner.proofs.ChoiceLaws.{on_true}
use Rattle.lt_runner.proofs.GrowLaws.{PairsAt}
use Rattle.lt_runner.proofs.DueLaws.{due_events}
use Rattle.lt_runner.proofs.DueTurnLaws.{overlaps_whole}
use Rattle.lt_runner.proofs.DueGameLaws.{eq_of, all_fresh}
use Rattle.lt_runner.proofs.RetriesLaws.{numbers_same}
use Rattle.lt_runner.proofs.StandingLaws.{seats_stand}
use Rattle.lt_runner.proofs.HeldLineLaws.{legal_front, due_free}
use Rattle.lt_runner.proofs.HoldLaws.{seats_own_due}

-- Owners are transactions that had an event.

abbrev Members : List ℕ → ℕ → ℕ → List Interval
Members txns tree owner = if is_in owner txns then whole ∷ [] else []

member_due : (txns : List ℕ) (tree owner : ℕ) (range : Interval) → is_in owner txns ≡ true → OverlapsOne range (Members txns tree owner)
member_due txns tree owner range there = subst (OverlapsOne range) (sym (on_true (is_in owner txns) (whole ∷ []) [] there))
    (inl (overlaps_whole range))

due_member : (txns : List ℕ) (tree owner : ℕ) (range : Interval) → OverlapsOne range (Members txns tree owner) → is_in owner txns ≡ true
due_member txns tree owner range some = by_test (is_in owner txns) some
  where
    by_test : (b : Bool) → OverlapsOne range (if b then whole ∷ [] else []) → b ≡ true
    by_test true h = refl
    by_test false h = absurd h

abbrev MembersBehind : Setting → List ℕ → List Event → Type 0
MembersBehind setting txns events = (tree : ℕ) → AreDue (Members txns tree) (PairsAt (after setting events) tree)

member_event : (setting : Setting) (txns : List ℕ) (before : List Event) (e : Event) → IsLegal setting (before ++ e ∷ []) → is_in e.txn txns ≡ true →
    MembersBehind setting txns before → MembersBehind setting txns (before ++ e ∷ [])
member_event setting txns before e legal there due = by_deed e.deed refl
  where
    reply_due : (tree : ℕ) (range : Interval) (reply : Reply) → IsDueReply reply range (Members txns tree e.txn)
    reply_due tree range Granted = member_due txns tree e.txn range there
    reply_due tree range Buffered = member_due txns tree e.txn range there
    reply_due tree range (HeldBy owners) = tt

    plain : IsDueDeed (Members txns) e.txn e.deed → MembersBehind setting txns (before ++ e ∷ [])
    plain one = due_events setting (Members txns) before (record { place = 0; event = e } ∷ []) legal (one, tt) due

    by_deed : (deed : Deed) → e.deed ≡ deed → MembersBehind setting txns (before ++ e ∷ [])
    by_deed (Ask tree range reply) is = plain (subst (IsDueDeed (Members txns) e.txn) (sym is) (reply_due tree range reply))
    by_deed (Free tree range first count) is =
        let same : e ≡ record { pass = e.pass; txn = e.txn; deed = Free tree range first count } =
        ap (λ (d : Deed). (let x : Event = record e { deed = d } in x)) is in
        subst (λ (x : Event). MembersBehind setting txns (before ++ x ∷ [])) (sym same)
        (due_free setting (Members txns) (Members txns) before e.pass e.txn tree range first count
        (subst (λ (x : Event). IsLegal setting (before ++ x ∷ [])) same legal) (λ k owner r some h. h) due)
    by_deed (Who tree range named owners) is = plain (subst (IsDueDeed (Members txns) e.txn) (sym is) tt)
    by_deed (Join tree n m) is = plain (subst (IsDueDeed (Members txns) e.txn) (sym is) tt)

members_on : (setting : Setting) (txns : List ℕ) (before es : List Event) → IsLegal setting (before ++ es) →
    AllByRecursion (λ e. IsTrue (is_in e.txn txns)) es → MembersBehind setting txns before →
    MembersBehind setting txns (before ++ es)
members_on setting txns before [] legal all due = subst (MembersBehind setting txns) (sym (append-nil before)) due
members_on setting txns before (e ∷ es) legal all due =
    subst (MembersBehind setting txns) (append_assoc before (e ∷ []) es)
    (members_on setting txns (before ++ e ∷ []) es (subst (IsLegal setting) (sym (append_assoc before (e ∷ []) es)) legal) all.1
    (member_event setting txns before e (legal_front setting before e es legal) all.0 due))

-- Where all wait or are over.

all_steady : (setting : Setting) (searches : List Search) (lines : List Line) (history : List Event) (seats : List Seat) → AreFitDeeds setting lines →
    AllByRecursion (Stands true setting searches lines history) seats →
    AllByRecursion (IsSteady setting) (turns_of seats)
all_steady setting searches lines history [] fit stand = tt
all_steady setting searches lines history (s ∷ ss) fit stand = (
  (seats_stand setting searches lines history s fit stand.0).steady,
  all_steady setting searches lines history ss fit stand.1,
)

-- a turn that is found by its number is one of the seats
record IsSeatOf (P : Seat → Type 0) (turn : Turn) : Type 0 where
  seat : Seat
  is : seat.turn ≡ turn
  has : P seat

seat_at : (P : Seat → Type 0) (setting : Setting) (txn : ℕ) (seats : List Seat) → AllByRecursion P seats →
    is_in txn (map (λ seat. seat.turn.txn) seats) ≡ true →
    IsSeatOf P (turn_of setting txn (turns_of seats)) × ((turn_of setting txn (turns_of seats)).txn ≡ txn)
seat_at P setting txn [] all there = absurd (let k : false ≡ true = there in cc)
seat_at P setting txn (s ∷ ss) all there = by_test (s.turn.txn == txn) refl there (seat_at P setting txn ss all.1)
  where
    by_test : (b : Bool) → (s.turn.txn == txn) ≡ b → (b || is_in txn (map (λ seat. seat.turn.txn) ss)) ≡ true →
        (is_in txn (map (λ seat. seat.turn.txn) ss) ≡ true → IsSeatOf P (turn_of setting txn (turns_of ss))
        × ((turn_of setting txn (turns_of ss)).txn ≡ txn)) →
        IsSeatOf P (if b then s.turn else turn_of setting txn (turns_of ss)) × ((if b then s.turn else turn_of setting txn (turns_of ss)).txn ≡ txn)
    by_test true e h rest = (record { seat = s; is = refl; has = all.0 }, eq_of s.turn.txn txn e)
    by_test false e h rest = rest h

over_owns : (turn : Turn) (tree : ℕ) (range : Interval) → is_some turn.outcome ≡ true → turn.releases ≡ [] → OverlapsOne range (due_in tree turn) → ⊥
over_owns turn tree range ended none some =
    subst (OverlapsOne range) (on_true (is_some turn.outcome) (ranges_in tree turn.releases) (get_or turn.recorded tree nothing_recorded).ranges ended
    ∙ ap (ranges_in tree) none) some

abbrev Stood : Setting → List Search → List Line → List Event → Seat → Type 0
Stood setting searches lines history seat = Stands true setting searches lines history seat × ((seat.turn.waits ≡ true) ⊎ IsOver seat)

both_stood : (setting : Setting) (searches : List Search) (lines : List Line) (history : List Event) (seats : List Seat) →
    AllByRecursion (Stands true setting searches lines history) seats → AllWaitOrAreOver seats →
    AllByRecursion (Stood setting searches lines history) seats
both_stood setting searches lines history [] stand over = tt
both_stood setting searches lines history (s ∷ ss) stand over = ((stand.0, over.0), both_stood setting searches lines history ss stand.1 over.1)

pub waiting_own_all : (setting : Setting) (searches : List Search) (lines : List Line) (history : List Event) (seats : List Seat) →
    AreFitDeeds setting lines → IsStrictlySortedBy nat_cmp (txns_of lines) →
    AllStand true setting searches lines history seats → AllWaitOrAreOver seats →
    IsInOrder setting (map (λ t. t.txn) (turns_of seats)) (game_at history (turns_of seats) false)
    × OwnersWait setting (game_at history (turns_of seats) false)
waiting_own_all setting searches lines history seats fit sorted all over = (
  record {
    sorted = subst (IsStrictlySortedBy nat_cmp) (sym (numbers_same seats
        ∙ all.numbers)) sorted;
    numbers = refl;
    steady = all_steady setting searches lines history seats fit all.stand;
  },
  λ tree. wait_each tree (tree_at (after setting history) tree).pairs (members tree) (λ owner there. at_owner owner there tree),
)
  where
    txns : List ℕ
    txns = map (λ (s : Seat). s.turn.txn) seats

    stood : AllByRecursion (Stood setting searches lines history) seats
    stood = both_stood setting searches lines history seats all.stand over

    members : MembersBehind setting txns history
    members = members_on setting txns [] history all.legal (subst (λ (ns : List ℕ). AllByRecursion (λ e. IsTrue (is_in e.txn ns)) history)
        (sym all.numbers) all.own)
        (λ k. subst (λ (t : TreeState). AreDue (Members txns k) t.pairs) (sym (all_fresh setting.plan.trees k)) tt)

    waits_or_owns : (turn : Turn) (seat : Seat) (owner tree : ℕ) → seat.turn ≡ turn → turn.txn ≡ owner → Stood setting searches lines history seat →
        (turn.waits ≡ true) ⊎ AllByRecursion (λ p. p.owner ≡ owner → ⊥) (tree_at (after setting history) tree).pairs
    waits_or_owns turn seat owner tree is own (stands, inl held) = inl (sym (ap (λ (t : Turn). t.waits) is) ∙ held)
    waits_or_owns turn seat owner tree is own (stands, inr gone) =
        inr (none_of (tree_at (after setting history) tree).pairs (seats_own_due setting searches lines history seat fit all.legal stands tree))
      where
        none_of : (pairs : List Pair) → AllByRecursion (λ p. p.owner ≡ seat.turn.txn → OverlapsOne p.range (due_in tree seat.turn)) pairs →
            AllByRecursion (λ p. p.owner ≡ owner → ⊥) pairs
        none_of [] due = tt
        none_of (p ∷ ps) due = (
          (λ same. over_owns seat.turn tree p.range gone.0 gone.1 (due.0 (same ∙ sym own ∙ sym (ap (λ (t : Turn). t.txn) is)))),
          none_of ps due.1,
        )

    at_owner : (owner : ℕ) → is_in owner txns ≡ true → (tree : ℕ) →
        (is_waiting (turn_of setting owner (turns_of seats)) ≡ true) ⊎ AllByRecursion (λ p. p.owner ≡ owner → ⊥)
        (tree_at (after setting history) tree).pairs
    at_owner owner there tree =
        let at = seat_at (Stood setting searches lines history) setting owner seats stood there in
        waits_or_owns (turn_of setting owner (turns_of seats)) at.0.seat owner tree at.0.is at.1 at.0.has

    wait_each : (tree : ℕ) (pairs : List Pair) → AreDue (Members txns tree) pairs →
        ((owner : ℕ) → is_in owner txns ≡ true → (is_waiting (turn_of setting owner (turns_of seats)) ≡ true) ⊎ AllByRecursion
        (λ p. p.owner ≡ owner → ⊥) pairs) →
        AllByRecursion (λ p. is_waiting (turn_of setting p.owner (turns_of seats)) ≡ true) pairs
    wait_each tree [] due each = tt
    wait_each tree (p ∷ ps) due each = (
      waits_here (each p.owner (due_member txns tree p.owner p.range due.0)),
      wait_each tree ps due.1 (λ owner there. behind_it (each owner there)),
    )
      where
        waits_here : (is_waiting (turn_of setting p.owner (turns_of seats)) ≡ true) ⊎ AllByRecursion (λ q. q.owner ≡ p.owner → ⊥) (p ∷ ps) →
            is_waiting (turn_of setting p.owner (turns_of seats)) ≡ true
        waits_here (inl held) = held
        waits_here (inr none) = absurd (none.0 refl)

        behind_it : {A : Type 0} {owner : ℕ} → A ⊎ AllByRecursion (λ q. q.owner ≡ owner → ⊥) (p ∷ ps) →
            A ⊎ AllByRecursion (λ q. q.owner ≡ owner → ⊥) ps
        behind_it (inl held) = inl held
        behind_it (inr none) = inr none.1
