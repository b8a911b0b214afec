-- What is true of the rows of a forest as a whole, and of the links between them.
use Rattle.std.specs.Prelude.{◌≡◌, ◌≢◌, ◌⊎◌, ℕ, ◌+◌, ◌<◌, List, length, replicate}
use Rattle.lt_seq.specs.declared.event.Mode.{Mode}
use Rattle.lt_seq.specs.declared.event.Mode.TheVariants.{Tree as TreeMode, Buffer}
use Rattle.lt_seq.specs.Table.{TreeState, fresh, used}
use Rattle.lt_forest.specs.Counts.{times}
use Rattle.lt_forest.specs.Bounds.{Gap}
use Rattle.lt_forest.specs.Trees.{Nodes}
use Rattle.lt_forest.specs.Cuts.{Cut, IsRow}
use Rattle.lt_forest.specs.Forest.{Forest, chain, rows_at, IsRun, IsForest, IsPlaced}
use Rattle.lt_forest.specs.Plans.{Top, IsPart}
use Rattle.lt_forest.specs.Links.{Slot, left_of, right_of, link_in, IsLinkOf, IsLink, Leads}
use Rattle.lt_forest.specs.Openings.{IsOpening, opening_forest}

-- rows in use, rows of the pool and anchors are all the rows
abbrev pub RowsAddUp : Type 0
RowsAddUp =
    (trees rows : ℕ) (c : Nodes) (mode : ℕ → Mode) (state : List TreeState) (f : Forest)
    → IsForest trees rows c mode state f → used state + length f.pool + trees + 1 ≡ rows

-- where not all are in use, the pool's anchor leads to a row
abbrev pub VacantIsThere : Type 0
VacantIsThere =
    (trees rows : ℕ) (c : Nodes) (mode : ℕ → Mode) (state : List TreeState) (f : Forest)
    → IsForest trees rows c mode state f → used state + trees + 1 < rows → (q : ℕ) × ((c trees).left ≡ q + 1)

-- The rows of a tree, of the pool, of a run from an anchor in Buffer mode or from the pool's, and of a part are further rows.
abbrev pub TreeRowsAreFurther : Type 0
TreeRowsAreFurther =
    (trees rows : ℕ) (c : Nodes) (mode : ℕ → Mode) (state : List TreeState) (f : Forest) (t q : ℕ)
    → IsForest trees rows c mode state f → t < trees → 0 < times q (rows_at (f.tree t)) → (trees < q) × (q < rows)

abbrev pub PoolRowsAreFurther : Type 0
PoolRowsAreFurther =
    (trees rows : ℕ) (c : Nodes) (mode : ℕ → Mode) (state : List TreeState) (f : Forest) (q : ℕ)
    → IsForest trees rows c mode state f → 0 < times q f.pool → (trees < q) × (q < rows)

abbrev pub RunRowsAreFurther : Type 0
RunRowsAreFurther =
    (trees rows : ℕ) (c : Nodes) (mode : ℕ → Mode) (state : List TreeState) (f : Forest) (t owner count last q : ℕ) (run : List ℕ)
    → IsForest trees rows c mode state f → t < trees → mode t ≡ Buffer owner count → IsRun c (c t).left run last
    → 0 < times q run → (trees < q) × (q < rows)

abbrev pub TakenRowsAreFurther : Type 0
TakenRowsAreFurther =
    (trees rows : ℕ) (c : Nodes) (mode : ℕ → Mode) (state : List TreeState) (f : Forest) (last q : ℕ) (run : List ℕ)
    → IsForest trees rows c mode state f → IsRun c (c trees).left run last → 0 < times q run → (trees < q) × (q < rows)

abbrev pub PartRowsAreFurther : Type 0
PartRowsAreFurther =
    (trees rows : ℕ) (c : Nodes) (mode : ℕ → Mode) (state : List TreeState) (f : Forest) (t : ℕ) (top : Top) (cut : Cut) (q : ℕ)
    → IsPart trees rows c mode state f t top cut → IsRow q cut → (trees < q) × (q < rows)

-- a forest reads its rows and its trees' modes alone
abbrev pub ForestReadsItsRows : Type 0
ForestReadsItsRows =
    (trees rows : ℕ) (c d : Nodes) (mode mode' : ℕ → Mode) (state : List TreeState) (f : Forest)
    → IsForest trees rows c mode state f → ((r : ℕ) → r < rows → c r ≡ d r) → ((t : ℕ) → t < trees → mode t ≡ mode' t)
    → IsForest trees rows d mode' state f

-- at the start no row is in use
abbrev pub OpeningIsForest : Type 0
OpeningIsForest =
    (trees rows : ℕ) (c : Nodes) → IsOpening trees rows c
    → IsForest trees rows c (λ t. TreeMode 100) (replicate trees fresh) (opening_forest trees rows)

-- each link is 0 or names a further row
abbrev pub LinksNameFurther : Type 0
LinksNameFurther =
    (trees rows : ℕ) (c : Nodes) (mode : ℕ → Mode) (state : List TreeState) (f : Forest) (s : Slot)
    → IsForest trees rows c mode state f → IsLink trees f s
    → (link_in c s ≡ 0) ⊎ ((r : ℕ) × (link_in c s ≡ r + 1) × (trees < r) × (r < rows))

-- no row is named by two of them
abbrev pub NoneIsNamedTwice : Type 0
NoneIsNamedTwice =
    (trees rows : ℕ) (c : Nodes) (mode : ℕ → Mode) (state : List TreeState) (f : Forest) (s l : Slot) (r : ℕ)
    → IsForest trees rows c mode state f → IsLink trees f s → IsLink trees f l → s ≢ l
    → link_in c s ≡ r + 1 → link_in c l ≡ r + 1 → ⊥

-- no row of a tree leads back to itself,
abbrev pub NoneLeadsBack : Type 0
NoneLeadsBack =
    (trees rows : ℕ) (c : Nodes) (mode : ℕ → Mode) (state : List TreeState) (f : Forest) (t q : ℕ)
    → IsForest trees rows c mode state f → t < trees → Leads c (IsLinkOf (f.tree t)) q q → ⊥

-- and none of the pool
abbrev pub NoneOfPoolLeadsBack : Type 0
NoneOfPoolLeadsBack =
    (trees rows : ℕ) (c : Nodes) (mode : ℕ → Mode) (state : List TreeState) (f : Forest) (q : ℕ)
    → IsForest trees rows c mode state f → Leads c (IsLinkOf (chain f.pool)) q q → ⊥

-- the pool's anchor names no row with a gap
abbrev pub PoolIsApart : Type 0
PoolIsApart =
    (trees rows : ℕ) (c : Nodes) (mode : ℕ → Mode) (state : List TreeState) (f : Forest) (t q : ℕ) (g : Gap) (score : ℕ)
    → IsForest trees rows c mode state f → IsPlaced trees c mode f t q g score → (c trees).left ≡ q + 1 → ⊥

-- Whose links these are: those of a row with a gap,
abbrev pub GapRowsAreLinked : Type 0
GapRowsAreLinked =
    (trees rows : ℕ) (c : Nodes) (mode : ℕ → Mode) (state : List TreeState) (f : Forest) (t q : ℕ) (g : Gap) (score : ℕ)
    → IsForest trees rows c mode state f → IsPlaced trees c mode f t q g score
    → IsLinkOf (f.tree t) (left_of q) × IsLinkOf (f.tree t) (right_of q)

-- of each row of a part,
abbrev pub PartRowsAreLinked : Type 0
PartRowsAreLinked =
    (trees rows : ℕ) (c : Nodes) (mode : ℕ → Mode) (state : List TreeState) (f : Forest) (t : ℕ) (top : Top) (cut : Cut) (q : ℕ)
    → IsPart trees rows c mode state f t top cut → IsRow q cut
    → IsLinkOf (f.tree t) (left_of q) × IsLinkOf (f.tree t) (right_of q)

-- and the left one of each row along which an anchor leads in Buffer mode, or the pool's anchor
abbrev pub RunRowsAreLinked : Type 0
RunRowsAreLinked =
    (trees rows : ℕ) (c : Nodes) (mode : ℕ → Mode) (state : List TreeState) (f : Forest) (t owner count last q : ℕ) (run : List ℕ)
    → IsForest trees rows c mode state f → t < trees → mode t ≡ Buffer owner count → IsRun c (c t).left run last
    → 0 < times q run → IsLinkOf (f.tree t) (left_of q)

abbrev pub PoolRowsAreLinked : Type 0
PoolRowsAreLinked =
    (trees rows : ℕ) (c : Nodes) (mode : ℕ → Mode) (state : List TreeState) (f : Forest) (last q : ℕ) (run : List ℕ)
    → IsForest trees rows c mode state f → IsRun c (c trees).left run last → 0 < times q run
    → IsLinkOf (chain f.pool) (left_of q)
