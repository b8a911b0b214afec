-- What a search for a range leaves out overlaps nothing.
use Rattle.std.proofs.Common.{◌≡◌, inl, inr, ℕ, zero, suc, List, [], ◌∷◌, ◌++◌, Bool, true, false, not, refl, arith}
use Rattle.std.specs.Prelude.{None, Some}
use Rattle.lt_ranges.specs.declared.key.Key.{Key}
use Rattle.lt_ranges.specs.Key.{key_le}
use Rattle.lt_ranges.proofs.KeyLaws.{le_trans}
use Rattle.lt_ranges.specs.Interval.{Interval, overlap}
use Rattle.lt_seq.specs.declared.event.Pair.{Pair}
use Rattle.lt_seq.specs.declared.event.Mode.{Mode}
use Rattle.lt_seq.specs.Table.{TreeState, tree_at}
use Rattle.lt_forest.specs.Bounds.{Bound}
use Rattle.lt_forest.specs.Pairs.{Has}
use Rattle.lt_forest.specs.Trees.{Nodes, left_end, right_end, pairs_in, IsOrdered}
use Rattle.lt_forest.specs.Cuts.{Cut, end, held, bare, End, ends, AllAside}
use Rattle.lt_forest.specs.Visits.{IsVisited}
use Rattle.lt_forest.specs.Forest.{Forest}
use Rattle.lt_forest.specs.Plans.{Top, IsInGap, IsPart, IsClosedFor}
use Rattle.lt_forest.proofs.BoundLaws.{lt_is}
use Rattle.lt_forest.proofs.LawfulTrees.{lawful_ordered}
use Rattle.lt_forest.proofs.PartLaws.{part_lawful, part_has_all}

pub aside_app : (range : Interval) (es fs : List End) → AllAside range es → AllAside range fs → AllAside range (es ++ fs)
aside_app range [] fs a b = b
aside_app range (e ∷ es) fs a b = (a.0, aside_app range es fs a.1 b)

-- All ends below a row that begins no later than the range are aside, and all behind one that ends no earlier.

pub all_before : (c : Nodes) (cut : Cut) (x : Bound) (k : Key) (range : Interval) → IsOrdered c (bare cut) x (Some k)
    → key_le k range.left ≡ true → AllAside range (ends c cut x (Some k))
all_before c (end zero) x k range o le = tt
all_before c (end (suc l)) x k range o le = (inl le, tt)
all_before c (held a r b) x k range o le =
    let here : Key = (c r).range.left in
    let there : Key = (c r).range.right in
    let h : key_le here range.left ≡ true = le_trans here k range.left (le_trans here there k o.0 (lt_is there k o.2)) le in
    aside_app range (ends c a x (left_end c r)) (ends c b (right_end c r) (Some k))
    (all_before c a x here range o.3 h) (all_before c b (right_end c r) k range o.4 le)

pub all_behind : (c : Nodes) (cut : Cut) (y : Bound) (k : Key) (range : Interval) → IsOrdered c (bare cut) (Some k) y
    → key_le range.right k ≡ true → AllAside range (ends c cut (Some k) y)
all_behind c (end zero) y k range o le = tt
all_behind c (end (suc l)) y k range o le = (inr le, tt)
all_behind c (held a r b) y k range o le =
    let here : Key = (c r).range.left in
    let there : Key = (c r).range.right in
    let h : key_le range.right there ≡ true = le_trans range.right k there le (le_trans k here there (lt_is k here o.1) o.0) in
    aside_app range (ends c a (Some k) (left_end c r)) (ends c b (right_end c r) y)
    (all_behind c a (left_end c r) k range o.3 le) (all_behind c b y there range o.4 h)

pub by_test : {A : Type 0} (b : Bool) → (b ≡ true → A) → (not b ≡ true → A) → A
by_test true f g = f refl
by_test false f g = g refl

-- where each link that a search follows is 0 or leads to a row shown, all that hangs is aside
visited_at : (c : Nodes) (cut : Cut) (x y : Bound) (range : Interval) → IsOrdered c (bare cut) x y → IsVisited c range cut
    → AllAside range (ends c cut x y)
visited_at c (end zero) x y range o visited = tt
visited_at c (end (suc l)) x y range o visited = absurd (let z : suc l ≡ 0 = visited in omega arith)
visited_at c (held a r b) x y range o visited = aside_app range (ends c a x (left_end c r)) (ends c b (right_end c r) y)
    (by_test (key_le (c r).range.left range.left)
    (λ le. all_before c a x (c r).range.left range o.3 le)
    (λ goes. visited_at c a x (left_end c r) range o.3 (visited.0 goes)))
    (by_test (key_le range.right (c r).range.right)
    (λ le. all_behind c b y (c r).range.right range o.4 le)
    (λ goes. visited_at c b (right_end c r) y range o.4 (visited.1 goes)))

module _ {trees rows t : ℕ} {c : Nodes} {mode : ℕ → Mode} {state : List TreeState} {f : Forest} {top : Top} {cut : Cut}
    (part : IsPart trees rows c mode state f t top cut) where
  pub visited_closed : (range : Interval) → IsInGap top range → IsVisited c range cut → IsClosedFor range top c cut
  visited_closed range in_gap visited = record {
    in_gap = in_gap;
    aside = visited_at c cut None None range
        (lawful_ordered c (bare cut) None None (part_lawful part) (λ p h. (tt, tt))) visited;
  }

  -- so each pair of the tree that overlaps the range is among the rows shown
  pub visited_all : (range : Interval) → IsInGap top range → IsVisited c range cut → (p : Pair) → Has p (tree_at state t).pairs
      → overlap p.range range ≡ true → Has p (pairs_in c (bare cut))
  visited_all range in_gap visited p h over = part_has_all part (visited_closed range in_gap visited) p h over
