-- What a search holds, as a commit asks for it.
use Rattle.std.specs.Prelude.{◌≡◌, ℕ, ◌<◌, List, []}
use Rattle.lt_ranges.specs.Interval.{Interval}
use Rattle.lt_forest.specs.declared.part.PartRow.{PartRow}
use Rattle.lt_forest.specs.Plans.{from_anchor, IsClosedFor}
use Rattle.lt_forest.specs.Views.{IsIn, HoldsPart}
use Rattle.lt_rows.specs.declared.view.View.{View}
use Rattle.lt_rows.specs.Views.{has}
use Rattle.lt_rows.specs.Lawful.{shown, KnowsTop}
use Rattle.lt_tree.specs.Gathers.{below_top, around, IsLockedWith, IsClosed}

-- It is a part of its tree, from the anchor or from the row that stays, whose top the pass knows.
abbrev pub LockedIsPart : Type 0
LockedIsPart =
    (v : View) (tree : ℕ) (asked : Interval) (here : ℕ) (rows : List PartRow) (hangs more : List ℕ)
    (l : IsLockedWith v tree asked here rows hangs more)
    → tree < v.plan.trees
    → KnowsTop v tree l.top l.score
    × HoldsPart (IsIn (has v)) tree l.top (shown v []) (around l.place here (shown v [] here) l.sub)

-- Where all that hangs is aside of the range, the part is closed for it.
abbrev pub LockedIsClosed : Type 0
LockedIsClosed =
    (v : View) (tree : ℕ) (asked : Interval) (here : ℕ) (rows : List PartRow) (hangs more : List ℕ)
    (l : IsLockedWith v tree asked here rows hangs more)
    → IsClosed asked rows hangs → IsClosedFor asked l.top (shown v []) (around l.place here (shown v [] here) l.sub)

-- Where the row that stays is the tree's anchor, the part hangs from the anchor.
abbrev pub LockedAnchorIsTop : Type 0
LockedAnchorIsTop =
    (v : View) (tree : ℕ) (asked : Interval) (rows : List PartRow) (hangs more : List ℕ)
    (l : IsLockedWith v tree asked tree rows hangs more)
    → tree < v.plan.trees → (l.place ≡ below_top) × (l.top ≡ from_anchor)
