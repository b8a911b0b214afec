-- Parts of search trees, and plans that lay them anew. Here c is what the rows hold before a plan, and d after it.
use Rattle.std.specs.Prelude.{◌≡◌, ◌⊎◌, ℕ, ◌+◌, ◌<◌, List, ◌∷◌, ◌++◌, length, slice_set, None}
use Rattle.lt_ranges.specs.Interval.{Interval, whole}
use Rattle.lt_seq.specs.declared.event.Pair.{Pair}
use Rattle.lt_seq.specs.declared.event.Mode.{Mode}
use Rattle.lt_seq.specs.declared.event.Deed.{Deed}
use Rattle.lt_seq.specs.declared.event.Deed.TheVariants.{Ask, Free, Who, Join}
use Rattle.lt_seq.specs.Pairs.{IsLawful}
use Rattle.lt_seq.specs.History.{IsQuestion}
use Rattle.lt_seq.specs.Sound.{AllSound}
use Rattle.lt_seq.specs.Table.{Setting, TreeState, tree_at, tree_of, tree_after, replied}
use Rattle.lt_forest.specs.Counts.{times}
use Rattle.lt_forest.specs.Bounds.{Gap, IsInside}
use Rattle.lt_forest.specs.Pairs.{Has}
use Rattle.lt_forest.specs.Trees.{Node, Nodes, in_order, pairs_in}
use Rattle.lt_forest.specs.Cuts.{Cut, Shows, bare, IsRow, HasCutGap, ends, Looser, AllAside}
use Rattle.lt_forest.specs.Forest.{Growth, Forest, IsTree, IsRun, IsForest, GapIn, ChangesOnly, Becomes}

-- from where a part hangs: from its tree's anchor, or from a row of the tree with the gap that was seen for it
pub data Top : Type 0 where
  from_anchor : Top
  from_row : ℕ → Gap → Top

-- the link that leads to the part
abbrev pub top_link : Top → Node → ℕ
top_link from_anchor at = at.left
top_link (from_row h g) at = h + 1

-- the range lies in the seen gap
abbrev pub IsInGap : Top → Interval → Type 0
IsInGap from_anchor range = Unit {0}
IsInGap (from_row h g) range = IsInside g.0 g.1 range

-- the seen gap is a true one
abbrev pub IsSeen : Nodes → Growth → Top → Type 0
IsSeen c growth from_anchor = Unit {0}
IsSeen c growth (from_row h g) = GapIn c growth h g

-- where the part hangs from a row, the anchor's link stays
abbrev pub KeepsLink : Top → Node → Node → Type 0
KeepsLink from_anchor a b = Unit {0}
KeepsLink (from_row h g) a b = a.left ≡ b.left

-- g lies within the gap that the part's own links give to its row q
abbrev pub HasPartGap : Top → Cut → Nodes → ℕ → Gap → Type 0
HasPartGap from_anchor cut c q g = HasCutGap c cut None None q g
HasPartGap (from_row h k) cut c q g = HasCutGap c cut k.0 k.1 q g

-- the tree t of a forest is in Tree mode, and the cut is a part of it
pub record IsPart (trees rows : ℕ) (c : Nodes) (mode : ℕ → Mode) (state : List TreeState) (f : Forest) (t : ℕ) (top : Top)
    (cut : Cut) : Type 0 where
  pub forest : IsForest trees rows c mode state f
  pub sound : AllSound state
  pub tree : t < trees
  pub tree_mode : IsTree (mode t)
  pub seen : IsSeen c (f.tree t) top
  pub shows : Shows c (top_link top (c t)) cut

-- the part is closed for the range: the range lies in the seen gap, and all that hangs is aside
pub record IsClosedFor (range : Interval) (top : Top) (c : Nodes) (cut : Cut) : Type 0 where
  pub in_gap : IsInGap top range
  pub aside : AllAside range (ends c cut None None)

-- rows are taken from the front of the pool's chain, and rows are given there
pub record MovesPool (trees : ℕ) (c d : Nodes) (taken given : List ℕ) : Type 0 where
  pub rest : ℕ
  pub takes : IsRun c (c trees).left taken rest
  pub gives : IsRun d (d trees).left given rest

-- each row stands as often in the new part and among the given rows as in the old part and among the taken ones
pub record SameRows (cut new : Cut) (taken given : List ℕ) : Type 0 where
  pub each : (q : ℕ) → times q (in_order (bare new)) + times q given ≡ times q (in_order (bare cut)) + times q taken
  pub all : length (in_order (bare new)) + length given ≡ length (in_order (bare cut)) + length taken

-- The plan lays the part anew, with rows that it takes from the pool and rows that it gives there. The links that hang stay
-- in their order, between bounds that are no tighter.
pub record Lays (trees t : ℕ) (top : Top) (c d : Nodes) (cut new : Cut) (taken given : List ℕ) : Type 0 where
  pub shows : Shows d (top_link top (d t)) new
  pub loose : Looser (ends c cut None None) (ends d new None None)
  pub pool : MovesPool trees c d taken given
  pub rows : SameRows cut new taken given
  pub link : KeepsLink top (c t) (d t)
  pub others : ChangesOnly (t ∷ trees ∷ in_order (bare cut) ++ taken) c d

-- the range of a deed
abbrev pub range_of : Deed → Interval
range_of (Ask tree range reply) = range
range_of (Free tree range first count) = range
range_of (Who tree range named owners) = range
range_of (Join tree before after) = whole

-- the table after a deed
abbrev pub after_deed : Setting → ℕ → Deed → List TreeState → List TreeState
after_deed setting txn deed state =
    slice_set state (tree_of deed) (tree_after setting txn deed (tree_at state (tree_of deed)))

-- the deed's replies are the table's
abbrev pub IsReplied : Setting → ℕ → Deed → List TreeState → Type 0
IsReplied setting txn deed state = replied setting txn deed (tree_at state (tree_of deed)) ≡ deed

-- what the part shows of its tree
abbrev pub shown_state : Nodes → Cut → Mode → TreeState
shown_state c cut mode = record { pairs = pairs_in c (bare cut); mode = mode }

-- in Tree mode the new part shows what the deed makes of what the old part showed, with the deed's replies
pub record ShowsDeed (setting : Setting) (txn : ℕ) (deed : Deed) (c d : Nodes) (cut new : Cut) (before after : Mode) : Type 0 where
  pub was_tree : IsTree before
  pub is_tree : IsTree after
  pub pairs : pairs_in d (bare new) ≡ (tree_after setting txn deed (shown_state c cut before)).pairs
  pub mode : after ≡ (tree_after setting txn deed (shown_state c cut before)).mode
  pub replies : replied setting txn deed (shown_state c cut before) ≡ deed
  pub question : IsQuestion deed

-- What a plan makes of the whole table: a forest of the table after, in which rows that aren't of the part keep their gaps,
-- and those of the new part have the gaps that its links give them.
pub record Relaid (trees rows : ℕ) (c d : Nodes) (mode mode' : ℕ → Mode) (state after : List TreeState) (f : Forest) (t : ℕ)
    (top : Top) (cut new : Cut) : Type 0 where
  pub becomes : Becomes trees rows c d mode mode' state after f (λ q. IsRow q cut)
      (length (in_order (bare cut))) (length (in_order (bare new)))
  pub gaps : (q : ℕ) (g : Gap) → HasPartGap top new d q g → GapIn d (becomes.next.tree t) q g

-- What a plan makes of the whole table where the part's rows get any ranges that fit: the tree's pairs are those that the new
-- part shows, and of the old ones all that the old part didn't show.
pub record ReplacedPart (trees rows : ℕ) (c d : Nodes) (mode : ℕ → Mode) (state : List TreeState) (f : Forest) (t : ℕ) (top : Top)
    (cut new : Cut) : Type 0 where
  pub pairs : List Pair
  pub lawful : IsLawful pairs
  pub has : (p : Pair) → Has p pairs
      → Has p (pairs_in d (bare new)) ⊎ (Has p (tree_at state t).pairs × (Has p (pairs_in c (bare cut)) → ⊥))
  pub shows : (p : Pair) → Has p (pairs_in d (bare new)) → Has p pairs
  pub keeps : (p : Pair) → Has p (tree_at state t).pairs → Has p (pairs_in c (bare cut)) ⊎ Has p pairs
  pub relaid : Relaid trees rows c d mode mode state (slice_set state t (record { pairs = pairs; mode = mode t })) f t top cut new
