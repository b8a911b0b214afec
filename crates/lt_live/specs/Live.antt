-- What the threads of a live run do. Each transaction's events are all made by the pass of the thread that took it.
use Rattle.std.specs.Prelude.{◌≡◌, ℕ, List, [], ◌∷◌, ◌++◌, map, true}
use Rattle.std.specs.List.{AllByRecursion, flat_map, filter_map}
use Rattle.std.specs.List.Sorted.{IsNonDecreasingBy, IsPermutation}
use Rattle.lt_seq.specs.declared.event.Event.{Event}
use Rattle.lt_seq.specs.declared.event.Receipt.{Receipt}
use Rattle.lt_seq.specs.Table.{Setting}
use Rattle.lt_seq.specs.History.{IsLegal, IsFront}
use Rattle.lt_seq.specs.Yard.{PassView}
use Rattle.lt_seq.specs.Passes.{lists_of}
use Rattle.lt_trace.specs.declared.line.Line.{Line}
use Rattle.lt_trace.specs.Grammar.{txns_of}
use Rattle.lt_runner.specs.TurnView.{Seat}
use Rattle.lt_runner.specs.Plays.{Stage, opening_stage, lines_for}
use Rattle.lt_runner.specs.Played.{Search, IsAtLine, HasCome, IsOver}
use Rattle.lt_runner.specs.PlaysOn.{PlaysOn}
use Rattle.lt_runner.specs.Run.{Play, AreAllPlayed, ended_as}
use Rattle.lt_runner.specs.Serial.{ended_in}
use Rattle.lt_live.specs.Deals.{times}

-- these are searches of this transaction alone
abbrev pub AreOwn : ℕ → List Search → Type 0
AreOwn txn searches = AllByRecursion (λ s. s.txn ≡ txn) searches

-- Moves have brought the transaction from its opening here, and these are their receipts. Nothing is said of the searches of others.
abbrev pub HasComeHere : Setting → List Event → Stage → Seat → List Receipt → Type 0
HasComeHere setting history opening seat receipts =
    (searches : List Search) × AreOwn opening.turn.txn searches × HasCome true setting searches history opening seat receipts

-- what brings a transaction on, whatever events of others come besides
abbrev pub BringsHere : Setting → List Event → List Event → Seat → Seat → List Receipt → Type 0
BringsHere setting old new was is made =
    (opening : Stage) (receipts : List Receipt) → IsAtLine opening → opening.turn.txn ≡ was.turn.txn
    → HasComeHere setting old opening was receipts → HasComeHere setting new opening is (receipts ++ made)

-- A pass plays a transaction on: the receipts that it adds are the transaction's, and bring it on.
pub record PlaysHere (setting : Setting) (old new : PassView) (was is : Seat) : Type 0 where
  pub made : List Receipt
  pub txn : is.turn.txn ≡ was.turn.txn
  pub number : new.number ≡ old.number
  pub front : IsFront old.front new.front
  pub mine : new.mine ≡ old.mine ++ made
  pub own : AllByRecursion (λ r. r.event.txn ≡ was.turn.txn) made
  pub comes : BringsHere setting old.front new.front was is made

-- A play on, with searches of the transaction alone, is one of these.
abbrev pub PlaysOnAreHere : Type 0
PlaysOnAreHere =
    (setting : Setting) (found : List Search) (old new : PassView) (was is : Seat) → AreOwn was.turn.txn found
    → PlaysOn setting found old new was is → PlaysHere setting old new was is

-- a transaction that was played to its end, with its receipts
pub record Block : Type 0 where
  pub seat : Seat
  pub made : List Receipt

abbrev pub number_of : Block → ℕ
number_of block = block.seat.turn.txn

pub record IsBlock (setting : Setting) (lines : List Line) (history : List Event) (block : Block) : Type 0 where
  pub come : HasComeHere setting history (opening_stage setting block.seat.turn.txn (lines_for block.seat.turn.txn lines)) block.seat block.made
  pub over : IsOver block.seat
  pub own : AllByRecursion (λ r. r.event.txn ≡ block.seat.turn.txn) block.made

-- What a worker has done: it played one transaction after another, each to its end.
pub record HasServed (setting : Setting) (lines : List Line) (old new : PassView) (turns : List Seat) : Type 0 where
  pub blocks : List Block
  pub turns_are : map (λ b. b.seat) blocks ≡ turns
  pub number : new.number ≡ old.number
  pub front : IsFront old.front new.front
  pub mine : new.mine ≡ old.mine ++ flat_map (λ b. b.made) blocks
  pub each : AllByRecursion (IsBlock setting lines new.front) blocks

-- one more transaction was played to its end
pub record ServesOne (setting : Setting) (lines : List Line) (old new : PassView) (were are : List Seat) (txn : ℕ) : Type 0 where
  pub block : Block
  pub txn_is : block.seat.turn.txn ≡ txn
  pub turns_are : are ≡ were ++ block.seat ∷ []
  pub number : new.number ≡ old.number
  pub front : IsFront old.front new.front
  pub mine : new.mine ≡ old.mine ++ block.made
  pub is : IsBlock setting lines new.front block

-- What one pass has done, told of the whole history.
pub record Served (setting : Setting) (lines : List Line) (history : List Event) (pass : PassView) (turns : List Seat) : Type 0 where
  pub blocks : List Block
  pub turns_are : map (λ b. b.seat) blocks ≡ turns
  pub mine : pass.mine ≡ flat_map (λ b. b.made) blocks
  pub each : AllByRecursion (IsBlock setting lines history) blocks

abbrev pub AreServed : Setting → List Line → List Event → List PassView → List (List Seat) → Type 0
AreServed setting lines history [] [] = Unit {0}
AreServed setting lines history [] (ts ∷ tss) = ⊥
AreServed setting lines history (v ∷ vs) [] = ⊥
AreServed setting lines history (v ∷ vs) (ts ∷ tss) = Served setting lines history v ts × AreServed setting lines history vs tss

-- All workers of a run that was closed.
pub record AllWorked (setting : Setting) (lines : List Line) (history : List Event) (passes : List PassView)
    (turns : List (List Seat)) : Type 0 where
  pub legal : IsLegal setting history
  pub served : AreServed setting lines history passes turns
  -- as the table tells at its end
  pub lists : map (λ p. p.mine) passes ≡ lists_of setting history
  -- as the queue tells where nothing is left
  pub taken : (txn : ℕ) → times txn (flat_map (λ ts. map (λ t. t.turn.txn) ts) turns) ≡ times txn (txns_of lines)

-- What they did is one history in which each transaction of the trace is played to its end, and their turns, ascending, tell how each
-- ended.
abbrev pub WorkedIsLive : Type 0
WorkedIsLive =
    (setting : Setting) (lines : List Line) (history : List Event) (passes : List PassView) (turns : List (List Seat)) (seats : List Seat)
    → AllWorked setting lines history passes turns
    → IsPermutation (flat_map (λ ts. ts) turns) seats → IsNonDecreasingBy (λ s. s.turn.txn) seats
    → (plays : List Play) × AreAllPlayed true setting lines history plays
    × (filter_map (λ s. ended_in s.turn) seats ≡ map ended_as plays)
