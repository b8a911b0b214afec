-- When an attempt finds room, and when it is out of locks.
use Rattle.std.specs.Prelude.{◌≡◌, ℕ, ◌+◌, ◌-◌, ◌/◌, ◌<◌, ◌≤◌, List, [], ◌∷◌, fold, take, length, if◌then◌else◌}
use Rattle.lt_seq.specs.declared.event.Deed.TheVariants.{Join}
use Rattle.lt_seq.specs.declared.event.Event.{Event}
use Rattle.lt_seq.specs.declared.event.Receipt.{Receipt}
use Rattle.lt_seq.specs.Table.{Setting, used}
use Rattle.lt_seq.specs.History.{after}
use Rattle.lt_seq.specs.Yard.{place_after}
use Rattle.lt_seq.specs.Questions.{question}
use Rattle.lt_runner.specs.TurnView.{Turn}

-- the place behind these receipts
abbrev pub behind : ℕ → List Receipt → ℕ
behind since receipts = fold (λ place r. r.place + 1) since receipts

-- the used rows before the event at this place
abbrev pub used_at : Setting → List Event → ℕ → ℕ
used_at setting history place = used (after setting (take (place - setting.plan.first) history))

-- the used rows at which the transaction is refused: for a big one half of them are left to the others
abbrev pub bar_of : Setting → Turn → ℕ
bar_of setting turn = if turn.big then setting.plan.limit - setting.plan.limit / 2 else setting.plan.limit

-- at some place from one to another there were fewer rows than the bar, or not
abbrev pub HasRoom : Setting → List Event → ℕ → ℕ → ℕ → Type 0
HasRoom setting history bar from to = (place : ℕ) × (from ≤ place) × (place ≤ to) × (used_at setting history place < bar)

abbrev pub IsFull : Setting → List Event → ℕ → ℕ → ℕ → Type 0
IsFull setting history bar from to = (place : ℕ) × (from ≤ place) × (place ≤ to) × (bar ≤ used_at setting history place)

-- the receipts are joins of the trees from this one on
abbrev pub AreOfTrees : ℕ → List Receipt → Type 0
AreOfTrees tree [] = Unit {0}
AreOfTrees tree (join ∷ joins) = (question join.event.deed ≡ Join tree 0 0) × AreOfTrees (tree + 1) joins

-- joins of the trees 0 to k - 1, begun where the rows had reached the bar
abbrev pub AreJoins : Setting → List Event → ℕ → ℕ → List Receipt → Type 0
AreJoins setting history bar since [] = ⊥
AreJoins setting history bar since (join ∷ joins) = IsFull setting history bar since join.place × AreOfTrees 0 (join ∷ joins)

-- There is room before an attempt's ask: at once, or behind the joins of all trees.
abbrev pub IsAttempt : Setting → List Event → ℕ → ℕ → List Receipt → ℕ → Type 0
IsAttempt setting history bar since [] place = HasRoom setting history bar since place
IsAttempt setting history bar since (join ∷ joins) place =
    AreJoins setting history bar since (join ∷ joins) × (length (join ∷ joins) ≡ setting.plan.trees)
    × HasRoom setting history bar (behind since (join ∷ joins)) place

-- or there is none behind these joins, as its look shows
pub record IsStop (setting : Setting) (history : List Event) (bar since : ℕ) (joins : List Receipt) (place used_rows : ℕ) : Type 0 where
  pub joined : AreJoins setting history bar since joins
  pub all : length joins ≡ setting.plan.trees
  pub low : behind since joins ≤ place
  pub high : place ≤ place_after setting history
  pub shows : used_rows ≡ used_at setting history place
  pub full : bar ≤ used_rows

-- the joins that a busy ask leaves
abbrev pub IsLeft : Setting → List Event → ℕ → ℕ → List Receipt → Type 0
IsLeft setting history bar since joins = AreJoins setting history bar since joins × (length joins ≤ setting.plan.trees)
