-- What a transaction is still to give back, by its turn, and that nothing else is held. For proofs.
use Rattle.std.specs.Prelude.{◌⊎◌, ◌≡◌, ℕ, List, [], ◌∷◌, ◌==◌, is_some, true, if◌then◌else◌, slice_index_or}
use Rattle.std.specs.List.{AllByRecursion}
use Rattle.lt_ranges.specs.Interval.{Interval, overlap}
use Rattle.lt_seq.specs.declared.event.Pair.{Pair}
use Rattle.lt_seq.specs.declared.event.Reply.{Reply}
use Rattle.lt_seq.specs.declared.event.Reply.TheVariants.{Granted, Buffered, HeldBy}
use Rattle.lt_seq.specs.declared.event.Deed.{Deed}
use Rattle.lt_seq.specs.declared.event.Deed.TheVariants.{Ask, Free, Who, Join}
use Rattle.lt_seq.specs.Table.{Setting, tree_at}
use Rattle.lt_seq.specs.History.{after}
use Rattle.lt_runner.specs.declared.release.Release.{Release}
use Rattle.lt_runner.specs.TurnView.{Turn}
use Rattle.lt_runner.specs.Turn.{nothing_recorded}
use Rattle.lt_runner.specs.Serial.{Game, turn_of}

-- the ranges of the frees in a tree
abbrev pub ranges_in : ℕ → List Release → List Interval
ranges_in tree [] = []
ranges_in tree (r ∷ rs) = if r.tree == tree then r.range ∷ ranges_in tree rs else ranges_in tree rs

-- what a turn is to give back in a tree: what it recorded, and once it has ended what is left of its release
abbrev pub due_in : ℕ → Turn → List Interval
due_in tree turn = if is_some turn.outcome then ranges_in tree turn.releases else (slice_index_or turn.recorded tree nothing_recorded).ranges

-- the range overlaps one of these
abbrev pub OverlapsOne : Interval → List Interval → Type 0
OverlapsOne range [] = ⊥
OverlapsOne range (r ∷ rs) = (overlap range r ≡ true) ⊎ OverlapsOne range rs

-- each pair overlaps one of the ranges that its owner is to give back
abbrev pub AreDue : (ℕ → List Interval) → List Pair → Type 0
AreDue Due pairs = AllByRecursion (λ p. OverlapsOne p.range (Due p.owner)) pairs

-- what is granted is to be given back
abbrev pub IsDueReply : Reply → Interval → List Interval → Type 0
IsDueReply Granted range ranges = OverlapsOne range ranges
IsDueReply Buffered range ranges = OverlapsOne range ranges
IsDueReply (HeldBy owners) range ranges = Unit {0}

-- by an event of the transaction; it is no free
abbrev pub IsDueDeed : (ℕ → ℕ → List Interval) → ℕ → Deed → Type 0
IsDueDeed Due txn (Ask tree range reply) = IsDueReply reply range (Due tree txn)
IsDueDeed Due txn (Free tree range first count) = ⊥
IsDueDeed Due txn (Who tree range named owners) = Unit {0}
IsDueDeed Due txn (Join tree before after_it) = Unit {0}

-- what each transaction of a game is to give back in a tree
abbrev pub due_at : Setting → Game → ℕ → ℕ → List Interval
due_at setting game tree owner = due_in tree (turn_of setting owner game.turns)

-- of all that is held
abbrev pub AllAreDue : Setting → Game → Type 0
AllAreDue setting game = (tree : ℕ) → AreDue (due_at setting game tree) (tree_at (after setting game.events) tree).pairs
