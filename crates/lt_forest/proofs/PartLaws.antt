-- A part of a forest: where it stands, and what it shows of its tree.
use Rattle.std.proofs.Common.{◌≡◌, inl, inr, ℕ, suc, ◌+◌, ◌<◌, ◌≤◌, List, [], ◌∷◌, ◌++◌, map, length, true, refl, sym, ap, ◌∙◌, subst, arith}
use Rattle.std.specs.Prelude.{None}
use Rattle.std.specs.List.{filter}
use Rattle.lt_ranges.specs.Interval.{Interval, overlap}
use Rattle.lt_seq.specs.declared.event.Pair.{Pair}
use Rattle.lt_seq.specs.declared.event.Mode.{Mode}
use Rattle.lt_seq.specs.Pairs.{IsLawful}
use Rattle.lt_seq.specs.Table.{TreeState, tree_at}
use Rattle.lt_forest.specs.Counts.{times}
use Rattle.lt_forest.specs.Bounds.{Bound, Gap, IsInside, NoGreater, NoLess}
use Rattle.lt_forest.specs.Pairs.{Has}
use Rattle.lt_forest.specs.Trees.{Tree, node, Nodes, pair_of, left_end, right_end, LeadsTo, in_order, pairs_in}
use Rattle.lt_forest.specs.Paths.{Path, here, plug, front, back, lower, upper}
use Rattle.lt_forest.specs.Cuts.{Cut, end, held, Shows, fill, bare, links, HasCutGap}
use Rattle.lt_forest.specs.Forest.{Forest, Growth, search_tree, rows_at, GapIn}
use Rattle.lt_forest.specs.Plans.{Top, from_anchor, from_row, top_link, IsInGap, IsSeen, KeepsLink, HasPartGap, IsPart, IsClosedFor}
use Rattle.lt_forest.proofs.BoundLaws.{above_wider, below_wider, greater_same, less_same, greater_trans, less_trans}
use Rattle.lt_forest.proofs.TreeLaws.{last_link, AgreePath, found, inner_leads, plug_leads, in_order-plug}
use Rattle.lt_forest.proofs.PairChanges.{FindsSame}
use Rattle.lt_forest.proofs.SameRows.{times-++}
use Rattle.lt_forest.proofs.HangLaws.{hung, times-fill}
use Rattle.lt_forest.proofs.Growing.{grow, height, grow_none, fill_grow}
use Rattle.lt_forest.proofs.TreeParts.{IsPartAt, IsClosedAt, shown_found, shown_lawful, shown_fewer, shown_all, shown_has}
use Rattle.lt_forest.proofs.ForestLaws.{TreeAt, as_tree}

pub map_long : {A : Type 0} (g : ℕ → A) (xs : List ℕ) → length (map g xs) ≡ length xs
map_long g [] = refl
map_long g (x ∷ xs) = ap suc (map_long g xs)

-- the gaps of a cut's rows between looser bounds
cut_wider : (d : Nodes) (cut : Cut) (x y u v : Bound) (q : ℕ) (g : Gap) → NoGreater u x → NoLess v y
    → HasCutGap d cut x y q g → HasCutGap d cut u v q g
cut_wider d (end l) x y u v q g lo hi h = h
cut_wider d (held a r b) x y u v q g lo hi h = elim h [
  | inl m ↦ inl (m.0, (greater_trans u x g.0 lo m.1.0, less_trans v y g.1 hi m.1.1))
  | inr m ↦ inr (elim m [
    | inl l ↦ inl (cut_wider d a x (left_end d r) u (left_end d r) q g lo (less_same (left_end d r)) l)
    | inr l ↦ inr (cut_wider d b (right_end d r) y (right_end d r) v q g (greater_same (right_end d r)) hi l)
  ])
]

-- where a part stands in its tree: only here it matters whether it hangs from the anchor or from a row
pub record Site (c : Nodes) (t : ℕ) (top : Top) (cut : Cut) (tree : Tree) : Type 0 where
  pub path : Path
  pub inner : Tree
  pub is : tree ≡ plug path inner
  pub inside : (range : Interval) → IsInGap top range → IsInside (lower c path None) (upper c path None) range
  pub bounds : (d : Nodes) (new : Cut) (q : ℕ) (g : Gap) → HasPartGap top new d q g
      → HasCutGap d new (lower c path None) (upper c path None) q g
  pub shows : Shows c (last_link c path (c t).left) cut
  pub leads : LeadsTo c (last_link c path (c t).left) inner
  pub back : (d : Nodes) (new : Tree) → KeepsLink top (c t) (d t) → AgreePath c d path
      → LeadsTo d (top_link top (d t)) new → LeadsTo d (d t).left (plug path new)

site : (c : Nodes) (t : ℕ) (top : Top) (cut : Cut) (tree : Tree) → LeadsTo c (c t).left tree → IsSeen c (search_tree tree) top
    → Shows c (top_link top (c t)) cut → Site c t top cut tree
site c t from_anchor cut tree leads seen shows = record {
  path = here;
  inner = tree;
  is = refl;
  inside = λ range i. (tt, tt);
  bounds = λ d new q g b. b;
  shows = shows;
  leads = leads;
  back = λ d new stays same n. n;
}
site c t (from_row h g) cut tree leads seen shows =
    let f = found c tree None None h g seen in
    let whole : LeadsTo c (c t).left (plug f.path (node f.left h f.right)) = subst (LeadsTo c (c t).left) f.is leads in
    let inner : LeadsTo c (last_link c f.path (c t).left) (node f.left h f.right) =
    inner_leads c f.path (node f.left h f.right) (c t).left whole in
    record {
      path = f.path;
      inner = node f.left h f.right;
      is = f.is;
      inside = λ range i. (
        above_wider (lower c f.path None) g.0 range.left f.within.0 i.0,
        below_wider (upper c f.path None) g.1 range.right f.within.1 i.1,
      );
      bounds = λ d new q k b.
          cut_wider d new g.0 g.1 (lower c f.path None) (upper c f.path None) q k f.within.0 f.within.1 b;
      shows = subst (λ (l : ℕ). Shows c l cut) (sym inner.0) shows;
      leads = inner;
      back = λ d new stays same n. subst (λ (l : ℕ). LeadsTo d l (plug f.path new)) stays
          (plug_leads c d f.path (node f.left h f.right) new (c t).left same whole
          (subst (λ (l : ℕ). LeadsTo d l new) (sym inner.0) n));
    }

seen_in : (c : Nodes) (g : Growth) (x : Tree) (top : Top) → g ≡ search_tree x → IsSeen c g top → IsSeen c (search_tree x) top
seen_in c g x from_anchor e seen = tt
seen_in c g x (from_row h gap) e seen = subst (λ (y : Growth). GapIn c y h gap) e seen

module _ {trees rows t : ℕ} {c : Nodes} {mode : ℕ → Mode} {state : List TreeState} {f : Forest} {top : Top} {cut : Cut}
    (part : IsPart trees rows c mode state f t top cut) where
  pub known : TreeAt c (c t).left (f.tree t) (tree_at state t).pairs
  known = as_tree c (c t).left (f.tree t) (tree_at state t).pairs (mode t) part.tree_mode (part.forest.grown t part.tree)

  pub at : Site c t top cut known.tree
  at = site c t top cut known.tree known.leads (seen_in c (f.tree t) known.tree top known.is part.seen) part.shows

  -- what hangs below links
  abbrev pub hanging : ℕ → Tree
  hanging = grow c (height at.inner)

  pub filled : fill hanging cut ≡ at.inner
  filled = fill_grow c (height at.inner) (last_link c at.path (c t).left) cut at.inner at.shows at.leads (omega arith)

  pub whole_is : known.tree ≡ plug at.path (fill hanging cut)
  whole_is = at.is ∙ ap (plug at.path) (sym filled)

  pub placed : IsPartAt c hanging at.path cut
  placed = record {
    empty = grow_none c (height at.inner);
    lawful = subst (λ (x : Tree). IsLawful (pairs_in c x)) whole_is (subst IsLawful (sym known.pairs_are) (part.sound t).lawful);
  }

  pub closed_at : {range : Interval} → IsClosedFor range top c cut → IsClosedAt c at.path cut range
  closed_at {range} closed = record { inside = at.inside range closed.in_gap; aside = closed.aside }

  -- each row of the tree stands before the part, in it, below it or behind it
  pub rows_are : (q : ℕ) → times q (rows_at (f.tree t))
      ≡ times q (front at.path)
      + (times q (in_order (bare cut)) + times q (hung hanging (links cut)) + times q (back at.path))
  rows_are q =
      ap (λ (x : Growth). times q (rows_at x)) known.is
      ∙ (ap (λ (x : Tree). times q (in_order x)) whole_is
      ∙ (ap (times q) (in_order-plug at.path (fill hanging cut))
      ∙ (let a = times-++ q (front at.path) (in_order (fill hanging cut) ++ back at.path) in
      let b = times-++ q (in_order (fill hanging cut)) (back at.path) in
      let e = times-fill hanging placed.empty cut q in
      omega arith)))

  -- a row of the part stands in the tree
  pub part_stands : (q : ℕ) → 0 < times q (in_order (bare cut)) → 0 < times q (rows_at (f.tree t))
  part_stands q some = let r = rows_are q in omega arith

  pub whole_pairs : pairs_in c (plug at.path (fill hanging cut)) ≡ (tree_at state t).pairs
  whole_pairs = ap (pairs_in c) (sym whole_is) ∙ known.pairs_are

  pub part_lawful : IsLawful (pairs_in c (bare cut))
  part_lawful = shown_lawful placed

  pub part_fewer : length (pairs_in c (bare cut)) ≤ length (tree_at state t).pairs
  part_fewer =
      let a = map_long (pair_of c) (in_order (bare cut)) in
      let b = map_long (pair_of c) (in_order (plug at.path (fill hanging cut))) in
      let e = ap (λ (l : List Pair). length l) whole_pairs in
      let m = shown_fewer placed in
      omega arith

  -- in a closed part a test of pairs that overlap the range finds what it finds in the whole list
  pub part_finds : {range : Interval} → IsClosedFor range top c cut → FindsSame range (tree_at state t).pairs (pairs_in c (bare cut))
  part_finds {range} closed = record {
    same = λ g over. ap (filter g) (sym whole_pairs) ∙ shown_found placed range (closed_at closed) g over;
  }

  -- each row shown is one of the tree's pairs, and a closed part shows all that overlap
  pub part_has : (p : Pair) → Has p (pairs_in c (bare cut)) → Has p (tree_at state t).pairs
  part_has p h = subst (Has p) whole_pairs (shown_has placed p h)

  pub part_has_all : {range : Interval} → IsClosedFor range top c cut → (p : Pair) → Has p (tree_at state t).pairs
      → overlap p.range range ≡ true → Has p (pairs_in c (bare cut))
  part_has_all {range} closed p h over = shown_all placed range (closed_at closed) p (subst (Has p) (sym whole_pairs) h) over
