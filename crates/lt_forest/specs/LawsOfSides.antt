-- What is true of parts that hang on one side of a held row, without that row and with it, and of layouts. Where a law speaks of
-- any rows, it serves for the true ones and for what a pass shows.
use Rattle.std.specs.Prelude.{◌≡◌, ℕ, ◌<◌, List, [], ◌∷◌, None, Bool}
use Rattle.lt_ranges.specs.Interval.{Interval, IsInterval}
use Rattle.lt_seq.specs.declared.event.Mode.{Mode}
use Rattle.lt_seq.specs.declared.event.Mode.TheVariants.{Tree as TreeMode}
use Rattle.lt_seq.specs.declared.event.Reply.TheVariants.{Granted, HeldBy}
use Rattle.lt_seq.specs.declared.event.Deed.TheVariants.{Ask, Free, Who}
use Rattle.lt_seq.specs.Pairs.{IsLawful, others, freed, count_freed, granted}
use Rattle.lt_seq.specs.Sound.{AllSound}
use Rattle.lt_seq.specs.Table.{Setting, TreeState, raised}
use Rattle.lt_forest.specs.declared.part.Placed.{Placed}
use Rattle.lt_forest.specs.Counts.{times}
use Rattle.lt_forest.specs.Bounds.{Gap}
use Rattle.lt_forest.specs.Trees.{Nodes, in_order, pair_of, pairs_in}
use Rattle.lt_forest.specs.Cuts.{Cut, Shows, bare, ends, Looser, AllAside}
use Rattle.lt_forest.specs.Parts.{rows_of, hangs_of, hanging}
use Rattle.lt_forest.specs.Layouts.{HoldsPlaced, Turns}
use Rattle.lt_forest.specs.Forest.{Forest, IsTree, IsForest}
use Rattle.lt_forest.specs.Plans.{Top, from_anchor, from_row, top_link, IsInGap, IsSeen, IsPart, IsClosedFor, SameRows, ShowsDeed}
use Rattle.lt_forest.specs.Links.{Slot, row_with, link_in}
use Rattle.lt_forest.specs.Views.{IsIn, AllHeld, PlansOnly, TopStays, HoldsPart, PlanLays}
use Rattle.lt_forest.specs.Sides.{far_link, around, IsOnSide, AddsTheRow, StepsOnSide}

-- What hangs on one side of a row with a gap makes a part with that row,
abbrev pub SideIsPart : Type 0
SideIsPart =
    (trees rows : ℕ) (c : Nodes) (mode : ℕ → Mode) (state : List TreeState) (f : Forest) (t : ℕ) (s : Slot) (g : Gap) (part : Cut)
    → IsForest trees rows c mode state f → AllSound state → t < trees → IsTree (mode t)
    → IsSeen c (f.tree t) (from_row (row_with s) g) → Shows c (link_in c s) part
    → IsPart trees rows c mode state f t (from_row (row_with s) g) (around c s part)

-- also as a pass sees it that holds them all.
abbrev pub HeldSideIsPart : Type 0
HeldSideIsPart =
    (has : ℕ → Bool) (v : Nodes) (t : ℕ) (s : Slot) (g : Gap) (part : Cut)
    → IsIn has (row_with s) → AllHeld (IsIn has) (in_order (bare part)) → Shows v (link_in v s) part
    → HoldsPart (IsIn has) t (from_row (row_with s) g) v (around v s part)

-- In key order it has the row more, with the link on its other side.
abbrev pub SideAddsTheRow : Type 0
SideAddsTheRow = (c : Nodes) (s : Slot) (part : Cut) → AddsTheRow c s part

-- Its pairs are lawful where those of the part with the row are.
abbrev pub SideIsLawful : Type 0
SideIsLawful =
    (c : Nodes) (s : Slot) (part : Cut) → IsLawful (pairs_in c (bare (around c s part))) → IsLawful (pairs_in c (bare part))

-- Where all that hangs in the part is aside of a range on this side, the part with the row is closed for it.
abbrev pub SideIsClosed : Type 0
SideIsClosed =
    (c : Nodes) (s : Slot) (g : Gap) (part : Cut) (range : Interval)
    → IsLawful (pairs_in c (bare (around c s part))) → IsInGap (from_row (row_with s) g) range → IsOnSide c s range
    → AllAside range (hanging (rows_of c part) (hangs_of part) None None)
    → IsClosedFor range (from_row (row_with s) g) c (around c s part)

-- Where no bound gets tighter in the part, none does in the part with the row, and rows that are the same stay so.
abbrev pub SideLoosens : Type 0
SideLoosens =
    (c d : Nodes) (s : Slot) (part new : Cut)
    → IsLawful (pairs_in c (bare (around c s part))) → Looser (ends c part None None) (ends d new None None)
    → (c (row_with s)).range ≡ (d (row_with s)).range → far_link c s ≡ far_link d s
    → Looser (ends c (around c s part) None None) (ends d (around d s new) None None)

abbrev pub SideHasSameRows : Type 0
SideHasSameRows =
    (c d : Nodes) (s : Slot) (part new : Cut) (taken given : List ℕ) → SameRows part new taken given
    → SameRows (around c s part) (around d s new) taken given

-- What an ask or a free on this side makes of the part with the row is decided by the part,
abbrev pub SideDecides : Type 0
SideDecides =
    (txn : ℕ) (range : Interval) (c : Nodes) (s : Slot) (part : Cut)
    → IsLawful (pairs_in c (bare (around c s part))) → IsInterval range → IsOnSide c s range → StepsOnSide txn range c s part

-- so the part shows what the deed is: a granted ask, a held one, a free, or a question who holds.
abbrev pub SideShowsGranted : Type 0
SideShowsGranted =
    (setting : Setting) (txn tree score : ℕ) (range : Interval) (c d : Nodes) (s : Slot) (part new : Cut)
    → IsLawful (pairs_in c (bare (around c s part))) → IsInterval range → IsOnSide c s range
    → others txn range (pairs_in c (bare part)) ≡ [] → pairs_in d (bare new) ≡ granted txn range (pairs_in c (bare part))
    → pair_of c (row_with s) ≡ pair_of d (row_with s)
    → ShowsDeed setting txn (Ask tree range Granted) c d (around c s part) (around d s new) (TreeMode score) (TreeMode score)

abbrev pub SideShowsHeld : Type 0
SideShowsHeld =
    (setting : Setting) (txn tree score : ℕ) (range : Interval) (c d : Nodes) (s : Slot) (part new : Cut) (o : ℕ) (os : List ℕ)
    → IsLawful (pairs_in c (bare (around c s part))) → IsInterval range → IsOnSide c s range
    → others txn range (pairs_in c (bare part)) ≡ o ∷ os → pairs_in d (bare new) ≡ pairs_in c (bare part)
    → pair_of c (row_with s) ≡ pair_of d (row_with s)
    → ShowsDeed setting txn (Ask tree range (HeldBy (o ∷ os))) c d (around c s part) (around d s new) (TreeMode score) (TreeMode score)

abbrev pub SideShowsFree : Type 0
SideShowsFree =
    (setting : Setting) (txn tree score : ℕ) (range : Interval) (first : Bool) (c d : Nodes) (s : Slot) (part new : Cut)
    → IsLawful (pairs_in c (bare (around c s part))) → IsInterval range → IsOnSide c s range
    → pairs_in d (bare new) ≡ freed txn range (pairs_in c (bare part)) → pair_of c (row_with s) ≡ pair_of d (row_with s)
    → ShowsDeed setting txn (Free tree range first (count_freed txn range (pairs_in c (bare part)))) c d (around c s part)
    (around d s new) (TreeMode score) (raised first (TreeMode score))

abbrev pub SideShowsWho : Type 0
SideShowsWho =
    (setting : Setting) (txn tree score named : ℕ) (range : Interval) (c d : Nodes) (s : Slot) (part new : Cut)
    → IsLawful (pairs_in c (bare (around c s part))) → IsInterval range → IsOnSide c s range
    → pairs_in d (bare new) ≡ pairs_in c (bare part) → pair_of c (row_with s) ≡ pair_of d (row_with s)
    → ShowsDeed setting txn (Who tree range named (others named range (pairs_in c (bare part)))) c d (around c s part)
    (around d s new) (TreeMode score) (TreeMode score)

-- A plan that leaves the rows and hangs of a part in their order lays it anew with the same pairs: so it serves as a layout.
abbrev pub SameOrderLays : Type 0
SameOrderLays =
    (has : ℕ → Bool) (planned : List ℕ) (trees t : ℕ) (top : Top) (v v' : Nodes) (cut new : Cut)
    → HoldsPart (IsIn has) t top v cut → Shows v' (top_link top (v' t)) new
    → rows_of v' new ≡ rows_of v cut → hangs_of new ≡ hangs_of cut
    → TopStays (IsIn has) planned t top v v' → times trees planned ≡ 0 → PlansOnly (t ∷ trees ∷ in_order (bare cut)) planned
    → PlanLays (IsIn has) planned trees t top v v' cut new [] [] × (pairs_in v' (bare new) ≡ pairs_in v (bare cut))

-- So do two rows that are turned, below the anchor
abbrev pub TurnLaysAtAnchor : Type 0
TurnLaysAtAnchor =
    (has : ℕ → Bool) (planned : List ℕ) (trees t : ℕ) (v v' : Nodes) (old new : List Placed) (old_link new_link : ℕ)
    (turn : Turns old new old_link new_link)
    → IsIn has t → AllHeld (IsIn has) turn.rows → HoldsPlaced v old → HoldsPlaced v' new
    → ((r : ℕ) → 0 < times r turn.rows → pair_of v r ≡ pair_of v' r) → (v t).left ≡ old_link → (v' t).left ≡ new_link
    → times trees planned ≡ 0 → PlansOnly (t ∷ trees ∷ turn.rows) planned
    → PlanLays (IsIn has) planned trees t from_anchor v v' turn.before.cut turn.after.cut [] []
    × (pairs_in v' (bare turn.after.cut) ≡ pairs_in v (bare turn.before.cut))

-- or on one side of a row.
abbrev pub TurnLaysAtRow : Type 0
TurnLaysAtRow =
    (has : ℕ → Bool) (planned : List ℕ) (trees t : ℕ) (s : Slot) (g : Gap) (v v' : Nodes) (old new : List Placed)
    (old_link new_link : ℕ) (turn : Turns old new old_link new_link)
    → IsIn has (row_with s) → AllHeld (IsIn has) turn.rows → HoldsPlaced v old → HoldsPlaced v' new
    → ((r : ℕ) → 0 < times r turn.rows → pair_of v r ≡ pair_of v' r) → link_in v s ≡ old_link → link_in v' s ≡ new_link
    → pair_of v (row_with s) ≡ pair_of v' (row_with s) → far_link v s ≡ far_link v' s
    → TopStays (IsIn has) planned t (from_row (row_with s) g) v v' → times trees planned ≡ 0
    → PlansOnly (t ∷ trees ∷ row_with s ∷ turn.rows) planned
    → PlanLays (IsIn has) planned trees t (from_row (row_with s) g) v v' (around v s turn.before.cut) (around v' s turn.after.cut) [] []
    × (pairs_in v' (bare (around v' s turn.after.cut)) ≡ pairs_in v (bare (around v s turn.before.cut)))
