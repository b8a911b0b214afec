-- What a worker took from the queue and played to its end.
use Rattle.std.proofs.Common.{◌≡◌, ℕ, ◌<◌, List, [], ◌∷◌, ◌++◌, map, true, false, Bool, not, IsTrue, refl, sym, ap, subst, ◌∙◌, append_assoc}
use Rattle.std.proofs.lemmas.Bool.{false≢true}
use Rattle.std.proofs.lemmas.List.{append-nil}
use Rattle.lt_seq.specs.Table.{Setting}
use Rattle.lt_seq.specs.Yard.{PassView}
use Rattle.lt_trace.specs.declared.line.Line.{Line}
use Rattle.lt_runner.specs.TurnView.{Seat}
use Rattle.lt_runner.specs.Plays.{lines_for}
use Rattle.lt_runner.specs.Played.{IsOver}
use Rattle.lt_runner.specs.Seats.{opening_seat}
use Rattle.lt_live.specs.declared.queue.Hand.{Hand}
use Rattle.lt_live.specs.Deals.{hand, times}
use Rattle.lt_live.specs.Live.{PlaysHere, HasServed, ServesOne}
use Rattle.lt_live.specs.Workers.{HasTaken}
use Rattle.lt_live.proofs.GoingLaws.{opens_for}
use Rattle.lt_live.proofs.LiveLaws.{serves_one, served_itself}

-- where it begins
pub ticket_first : (first : Hand) (turns : List Seat) → turns ≡ [] →
    first ≡ hand first.parts first.put (first.taken ++ map (λ (t : Seat). t.turn.txn) turns)
ticket_first first turns none =
    ap (hand first.parts first.put)
    (sym (ap (λ (ts : List Seat). first.taken ++ map (λ (t : Seat). t.turn.txn) ts) none ∙ append-nil first.taken))

pub served_first : (setting : Setting) (lines : List Line) (pass : PassView) (turns : List Seat) → turns ≡ [] →
    HasServed setting lines pass pass turns
served_first setting lines pass turns none = subst (HasServed setting lines pass pass) (sym none) (served_itself setting lines pass)

-- one more
pub ticket_more : (new old first : Hand) (ns ms : List ℕ) (txn : ℕ) → new ≡ hand old.parts old.put (old.taken ++ txn ∷ []) →
    old ≡ hand first.parts first.put (first.taken ++ ns) → ms ≡ ns ++ txn ∷ [] → new ≡ hand first.parts first.put (first.taken ++ ms)
ticket_more new old first ns ms txn next here more =
    next ∙ ap (λ (h : Hand). hand h.parts h.put (h.taken ++ txn ∷ [])) here
    ∙ ap (hand first.parts first.put) (append_assoc first.taken ns (txn ∷ []) ∙ ap (λ ks. first.taken ++ ks) (sym more))

pub parts_stay : (new old : Hand) (taken : List ℕ) → new ≡ hand old.parts old.put taken → 0 < old.parts → 0 < new.parts
parts_stay new old taken next some = subst (λ (h : Hand). 0 < h.parts) (sym next) some

-- at the end, of a pass of the queue that knows what was put
taken_all : (old new : Hand) (turns : List Seat) → new ≡ hand old.parts old.put (old.taken ++ map (λ (t : Seat). t.turn.txn) turns) →
    (new.parts ≡ 1024 → (x : ℕ) → times x new.put ≡ times x new.taken) → HasTaken old new turns
taken_all old new turns same all = record { same = same; all = λ whole. all (ap (λ (h : Hand). h.parts) same ∙ whole) }

-- one that it made for so many trees, played to its end and kept
pub kept_one : (setting : Setting) (lines : List Line) (old new : PassView) (were are : List Seat) (trees txn : ℕ) (opened is : Seat) →
    are ≡ were ++ is ∷ [] → trees ≡ setting.plan.trees → opened ≡ opening_seat trees txn (lines_for txn lines) →
    PlaysHere setting old new opened is → IsOver is → ServesOne setting lines old new were are txn
kept_one setting lines old new were are trees txn opened is kept same at plays over =
    subst (λ (seats : List Seat). ServesOne setting lines old new were seats txn) (sym kept)
    (serves_one setting lines old new were txn opened is (opens_for setting trees txn lines opened same at) plays over)

-- At None nothing is left in the queue, and nothing more was taken.
pub taken_last : (first old new : Hand) (turns : List Seat) → new ≡ old →
    old ≡ hand first.parts first.put (first.taken ++ map (λ (t : Seat). t.turn.txn) turns) →
    (old.parts ≡ 1024 → (x : ℕ) → times x old.put ≡ times x old.taken) → HasTaken first new turns
taken_last first old new turns same here all = taken_all first new turns (same ∙ here)
    (λ whole x. subst (λ (h : Hand). times x h.put ≡ times x h.taken) (sym same) (all (ap (λ (h : Hand). h.parts) (sym same) ∙ whole) x))

pub was_true : (b : Bool) → not b ≡ false → IsTrue b
was_true true e = refl
was_true false e = absurd (false≢true (sym e))
