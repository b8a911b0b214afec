-- Transactions that the passes of a crew play side by side.
use Rattle.std.specs.Prelude.{zero, suc, ◌≡◌, ◌⊎◌, ◌==◌, ℕ, ◌<◌, ◌≤◌, ◌+◌, List, []}
use Rattle.std.specs.Prelude.{◌∷◌, ◌++◌, map, filter, length, slice_index_or, is_some, true, false, IsTrue}
use Rattle.std.specs.List.{AllByRecursion}
use Rattle.lt_ranges.specs.Numbers.{is_in}
use Rattle.lt_seq.specs.declared.event.Event.{Event}
use Rattle.lt_seq.specs.declared.event.Receipt.{Receipt}
use Rattle.lt_seq.specs.Table.{Setting}
use Rattle.lt_seq.specs.History.{IsLegal, IsFront, calls_from}
use Rattle.lt_seq.specs.Yard.{PassView, Goes}
use Rattle.lt_runner.specs.TurnView.{Seat}
use Rattle.lt_runner.specs.Played.{Search}
use Rattle.lt_runner.specs.PlaysOn.{Brings}
use Rattle.lt_runner.specs.Work.{work, steps}

-- the receipts of one transaction among these
abbrev pub own_in : ℕ → List Receipt → List Receipt
own_in txn receipts = filter (λ r. r.event.txn == txn) receipts

abbrev pub numbers_in : List Seat → List ℕ
numbers_in seats = map (λ s. s.turn.txn) seats

-- it does not wait, and its last call was not refused
pub record MayGo (seat : Seat) : Type 0 where
  pub goes : seat.turn.waits ≡ false
  pub free : seat.busy ≡ false

-- a worker can't play it on: it waits, or its last call was refused
abbrev pub IsStuck : Seat → Type 0
IsStuck seat = (seat.turn.waits ≡ true) ⊎ (seat.busy ≡ true)

-- no line of it is left, and once it has ended no free of its release
pub record IsDone (seat : Seat) : Type 0 where
  pub lines : seat.turn.lines ≡ []
  pub releases : IsTrue (is_some seat.turn.outcome) → seat.turn.releases ≡ []

-- it was played as far as a worker can
abbrev pub IsStill : Seat → Type 0
IsStill seat = IsStuck seat ⊎ IsDone seat

-- One play brought it on: no line came to it, and it is stuck, or fewer lines are left, or it had ended and has given back all.
pub record IsOn (was is : Seat) : Type 0 where
  pub lines : length is.turn.lines ≤ length was.turn.lines
  pub by : IsStuck is ⊎ ((length is.turn.lines < length was.turn.lines)
      ⊎ (IsTrue (is_some was.turn.outcome) × (is.turn ≡ record was.turn { releases = [] })))

-- A worker played it as far as it can: no line came to it, it took no step back, and one that was stuck is left as it was. Workers
-- register none.
pub record IsPlayedOut (was is : Seat) : Type 0 where
  pub lines : length is.turn.lines ≤ length was.turn.lines
  pub steps : steps is ≤ steps was
  pub listed : was.listed ≡ false → is.listed ≡ false
  pub stuck : IsStuck was → is ≡ was
  pub still : IsStill is

-- no two have one number
abbrev pub AreDistinct : List Seat → Type 0
AreDistinct seats = (j k : ℕ) (d : Seat) → j < length seats → k < length seats
    → (slice_index_or seats j d).turn.txn ≡ (slice_index_or seats k d).turn.txn → j ≡ k

-- the receipts are of these transactions
abbrev pub AreDealt : List ℕ → List Receipt → Type 0
AreDealt txns receipts = AllByRecursion (λ r. IsTrue (is_in r.event.txn txns)) receipts

-- each keeps its number
abbrev pub KeepNumbers : List Seat → List Seat → Type 0
KeepNumbers were are = (i : ℕ) (d : Seat) → i < length were → (slice_index_or are i d).turn.txn ≡ (slice_index_or were i d).turn.txn

-- each is brought on between two histories, by its own among these receipts
abbrev pub BringsEach : Setting → List Search → List Event → List Event → List Seat → List Seat → List Receipt → Type 0
BringsEach setting found old new were are made = (i : ℕ) (d : Seat) → i < length were
    → Brings setting found old new (slice_index_or were i d) (slice_index_or are i d) (own_in (slice_index_or were i d).turn.txn made)

-- A pass plays all these, one after another or in turns: each is brought on by its own among the receipts that the pass adds.
pub record PlaysAll (setting : Setting) (found : List Search) (old new : PassView) (were are : List Seat) : Type 0 where
  pub made : List Receipt
  pub goes : Goes setting old new
  pub rights : new.rights ≡ old.rights
  pub mine : new.mine ≡ old.mine ++ made
  pub own : AreDealt (numbers_in were) made
  pub count : length are ≡ length were
  pub txns : KeepNumbers were are
  pub comes : BringsEach setting found old.front new.front were are made

-- Rounds. The transactions that are dealt to each pass are told by its number.

-- none is dealt to two
abbrev pub AreApart : (ℕ → List ℕ) → Type 0
AreApart dealt = (txn p q : ℕ) → IsTrue (is_in txn (dealt p)) → IsTrue (is_in txn (dealt q)) → p ≡ q

-- What one pass did between two moments, with the transactions that were dealt to it. At the first moment the whole history is known,
-- and the second has all that the pass did.
pub record Worked (setting : Setting) (found : List Search) (before history : List Event) (pass : ℕ) (were are : List Seat) : Type 0 where
  pub made : List Receipt
  pub calls : calls_from setting.plan.first pass history ≡ calls_from setting.plan.first pass before ++ made
  pub own : AreDealt (numbers_in were) made
  pub count : length are ≡ length were
  pub txns : KeepNumbers were are
  pub comes : BringsEach setting found before history were are made

-- A round: each pass worked at its own transactions.
pub record IsRound (setting : Setting) (found : List Search) (before history : List Event) (were are : ℕ → List Seat) : Type 0 where
  pub legal : IsLegal setting history
  pub front : IsFront before history
  pub apart : AreApart (λ pass. numbers_in (were pass))
  pub worked : (pass : ℕ) → pass < setting.plan.passes → Worked setting found before history pass (were pass) (are pass)

-- what is dealt where the caller alone plays, one transaction
abbrev pub only : Seat → ℕ → List Seat
only seat zero = seat ∷ []
only seat (suc pass) = []

-- What is left.

-- how many events all of them may still make but for those of starts and retries
abbrev pub work_all : Setting → List Seat → ℕ
work_all setting [] = 0
work_all setting (s ∷ ss) = work setting s + work_all setting ss

-- the events that a pass made are paid for by what was left of its transactions
abbrev pub SpendsAll : Setting → PassView → PassView → List Seat → List Seat → Type 0
SpendsAll setting old new were are = length new.mine + work_all setting are ≤ length old.mine + work_all setting were

-- the sum over so many passes
abbrev pub sum_to : (ℕ → ℕ) → ℕ → ℕ
sum_to f zero = 0
sum_to f (suc n) = sum_to f n + f n

-- all that is left where the passes have these transactions
abbrev pub work_of : Setting → (ℕ → List Seat) → ℕ
work_of setting seats = sum_to (λ pass. work_all setting (seats pass)) setting.plan.passes
