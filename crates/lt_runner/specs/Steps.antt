-- The steps that the plain scheduler's run is made of, and what holds of its turns between them. For proofs, and for
-- the law of sweeps.
use Rattle.std.specs.Prelude.{◌≡◌, ℕ, ◌<◌, List, [], ◌∷◌, ◌++◌, map, length, is_some, Bool, true, false}
use Rattle.std.specs.List.{AllByRecursion}
use Rattle.std.specs.List.Sorted.{IsStrictlySortedBy}
use Rattle.std.specs.Ordering.{nat_cmp}
use Rattle.lt_ranges.specs.Interval.{IsInterval}
use Rattle.lt_ranges.specs.Numbers.{is_in}
use Rattle.lt_seq.specs.declared.event.Deed.TheVariants.{Free}
use Rattle.lt_seq.specs.Table.{Setting}
use Rattle.lt_seq.specs.Questions.{receipt_after}
use Rattle.lt_trace.specs.declared.line.Line.{Line}
use Rattle.lt_trace.specs.declared.line.LineDeed.{LineDeed}
use Rattle.lt_trace.specs.declared.line.LineDeed.TheVariants.{Try, Lock, End, Abort, Escalate, Big}
use Rattle.lt_runner.specs.declared.release.Release.{Release}
use Rattle.lt_runner.specs.TurnView.{Turn, Recorded}
use Rattle.lt_runner.specs.Turn.{frees}
use Rattle.lt_runner.specs.Plays.{end_of}
use Rattle.lt_runner.specs.Played.{IsAtLock}
use Rattle.lt_runner.specs.Serial.{Game, turn_of, with_turn, is_ready, line_move, does}

-- the trees of the deed are there, and its ranges are ranges
abbrev pub IsFitDeed : Setting → LineDeed → Type 0
IsFitDeed setting (Try tree range) = (tree < setting.plan.trees) × IsInterval range
IsFitDeed setting (Lock tree range) = (tree < setting.plan.trees) × IsInterval range
IsFitDeed setting End = Unit {0}
IsFitDeed setting Abort = Unit {0}
IsFitDeed setting (Escalate tree) = tree < setting.plan.trees
IsFitDeed setting Big = Unit {0}

-- a line of the transaction, which may be played over the table
pub record IsFitLine (setting : Setting) (txn : ℕ) (line : Line) : Type 0 where
  pub own : line.txn ≡ txn
  pub deed : IsFitDeed setting line.deed

abbrev pub IsFitRelease : Setting → Release → Type 0
IsFitRelease setting r = (r.tree < setting.plan.trees) × IsInterval r.range

abbrev pub AreRanges : Recorded → Type 0
AreRanges r = AllByRecursion IsInterval r.ranges

-- A turn between two steps. One that has ended has no line and does not wait, and no other owes a free.
pub record IsSteady (setting : Setting) (turn : Turn) : Type 0 where
  pub lines : AllByRecursion (IsFitLine setting turn.txn) turn.lines
  pub recorded : length turn.recorded ≡ setting.plan.trees
  pub ranges : AllByRecursion AreRanges turn.recorded
  pub releases : AllByRecursion (IsFitRelease setting) turn.releases
  pub held : turn.waits ≡ true → IsAtLock turn.lines
  pub over : is_some turn.outcome ≡ true → turn.lines ≡ []
  pub still : is_some turn.outcome ≡ true → turn.waits ≡ false
  pub none_owed : is_some turn.outcome ≡ false → turn.releases ≡ []

-- the turns are those of these transactions, ascending
pub record IsInOrder (setting : Setting) (txns : List ℕ) (game : Game) : Type 0 where
  pub sorted : IsStrictlySortedBy nat_cmp txns
  pub numbers : map (λ turn. turn.txn) game.turns ≡ txns
  pub steady : AllByRecursion (IsSteady setting) game.turns

-- this is a turn of the game
pub record IsTurnOf (setting : Setting) (txns : List ℕ) (game : Game) (turn : Turn) : Type 0 where
  pub order : IsInOrder setting txns game
  pub number : is_in turn.txn txns ≡ true
  pub there : turn_of setting turn.txn game.turns ≡ turn

-- it is ready or waits, and this is its next line
pub record IsAtLine (setting : Setting) (txns : List ℕ) (game : Game) (turn : Turn) (line : Line) (lines : List Line) : Type 0 where
  pub of_game : IsTurnOf setting txns game turn
  pub goes : is_some turn.outcome ≡ false
  pub next : turn.lines ≡ line ∷ lines

-- it has ended, and this is the next free of its release
pub record IsOwing (setting : Setting) (txns : List ℕ) (game : Game) (turn : Turn) (r : Release) (rs : List Release) : Type 0 where
  pub of_game : IsTurnOf setting txns game turn
  pub ended : is_some turn.outcome ≡ true
  pub next : turn.releases ≡ r ∷ rs

-- it goes on, and takes this line behind its own
pub record IsTaking (setting : Setting) (txns : List ℕ) (game : Game) (turn : Turn) (line : Line) : Type 0 where
  pub of_game : IsTurnOf setting txns game turn
  pub goes : is_some turn.outcome ≡ false
  pub fits : IsFitLine setting turn.txn line

-- it has ended, and a line of it is passed over
pub record IsPassing (setting : Setting) (txns : List ℕ) (game : Game) (turn : Turn) (line : Line) : Type 0 where
  pub of_game : IsTurnOf setting txns game turn
  pub ended : is_some turn.outcome ≡ true
  pub fits : IsFitLine setting turn.txn line

-- the trace is over, and it is the least that is ready: it has played all its lines
pub record IsEnding (setting : Setting) (txns : List ℕ) (game : Game) (turn : Turn) : Type 0 where
  pub of_game : IsTurnOf setting txns game turn
  pub ready : is_ready turn ≡ true
  pub empty : turn.lines ≡ []

-- A property of games that each move keeps, and each free of a release.
pub record KeepsMoves (setting : Setting) (txns : List ℕ) (P : Game → Type 0) : Type 0 where
  pub plays : (game : Game) (turn : Turn) (line : Line) (lines : List Line) → IsAtLine setting txns game turn line lines →
      P game → P (does setting turn (line_move setting game turn line.deed) game)
  pub gives : (game : Game) (turn : Turn) (r : Release) (rs : List Release) → IsOwing setting txns game turn r rs →
      P game → P (does setting turn (frees (receipt_after setting game.events 0 turn.txn (Free r.tree r.range r.first 0))) game)
  pub marks : (game : Game) (released : Bool) → P game → P (record game { released = released })

abbrev pub takes : Turn → Line → Game → Game
takes turn line game = record game { turns = with_turn (record turn { lines = turn.lines ++ line ∷ [] }) game.turns }

-- A property of games and the lines of the trace that are still to come, which each step keeps.
pub record KeepsSteps (setting : Setting) (txns : List ℕ) (P : List Line → Game → Type 0) : Type 0 where
  pub moves : (left : List Line) → KeepsMoves setting txns (P left)
  pub adds : (game : Game) (turn : Turn) (line : Line) (left : List Line) → IsTaking setting txns game turn line →
      P (line ∷ left) game → P left (takes turn line game)
  pub passes : (game : Game) (turn : Turn) (line : Line) (left : List Line) → IsPassing setting txns game turn line →
      P (line ∷ left) game → P left game
  pub ends : (game : Game) (turn : Turn) → IsEnding setting txns game turn → P [] game → P [] (takes turn (end_of turn.txn) game)

-- the line is of one of the transactions, and fits
pub record IsFit (setting : Setting) (txns : List ℕ) (line : Line) : Type 0 where
  pub number : is_in line.txn txns ≡ true
  pub deed : IsFitDeed setting line.deed
