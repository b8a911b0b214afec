-- A part of one search tree: what it shows of the tree, and the tree with the part laid anew.
use Rattle.std.proofs.Common.{◌≡◌, ◌⊎◌, inl, inr, ℕ, ◌+◌, ◌≤◌, List, ◌++◌, map, length, length-append, Bool, true, false, sym, ap, ◌∙◌, subst, arith, append-nil}
use Rattle.std.specs.Prelude.{None}
use Rattle.std.specs.List.{filter}
use Rattle.lt_ranges.specs.Interval.{Interval, overlap}
use Rattle.lt_seq.specs.declared.event.Pair.{Pair}
use Rattle.lt_seq.specs.Pairs.{IsLawful}
use Rattle.lt_forest.specs.Counts.{times}
use Rattle.lt_forest.specs.Bounds.{Bound, Gap, IsInside}
use Rattle.lt_forest.specs.Pairs.{Has}
use Rattle.lt_forest.specs.Trees.{Tree, leaf, Nodes, pair_of, in_order, pairs_in, IsOrdered, HasGap}
use Rattle.lt_forest.specs.Paths.{Path, plug, front, back, lower, upper}
use Rattle.lt_forest.specs.Cuts.{Cut, fill, bare, IsRow, links, ends, AllEnds, Looser, AllAside}
use Rattle.lt_forest.proofs.Changes.{Change}
use Rattle.lt_forest.proofs.PairLists.{map_app, has_left, has_right, has_either, clear_has, filter_app, filter_clear, has_filter, filter_has, one_list, lawful_left, lawful_right, no_two}
use Rattle.lt_forest.proofs.TreeLaws.{AgreePath, inner_ordered, plug_ordered, plug_gap, path_gap, in_order-plug}
use Rattle.lt_forest.proofs.LawfulTrees.{all_inside, ordered_lawful, lawful_ordered, beside_clear}
use Rattle.lt_forest.proofs.SameRows.{times-++, AgreeOn, on_path, on_pairs}
use Rattle.lt_forest.proofs.EndLaws.{looser_at, same_links}
use Rattle.lt_forest.proofs.HangLaws.{hung, hung_pairs, AgreeEnds, times-fill, length-fill, has_fill, fill_has, not_hung, ends_ordered, bare_ordered, fill_ordered, agree_ends, looser_ordered, out_of, into, looser_gap, hung_clear, filter-fill}

-- the rows beside the end of a path, and their pairs
abbrev pub beside : Path → List ℕ
beside w = front w ++ back w

abbrev pub beside_pairs : Nodes → Path → List Pair
beside_pairs c w = map (pair_of c) (beside w)

pairs_in-plug : (c : Nodes) (w : Path) (t : Tree)
    → pairs_in c (plug w t) ≡ map (pair_of c) (front w) ++ (pairs_in c t ++ map (pair_of c) (back w))
pairs_in-plug c w t =
    ap (map (pair_of c)) (in_order-plug w t)
    ∙ (map_app (pair_of c) (front w) (in_order t ++ back w)
    ∙ ap (λ (l : List Pair). map (pair_of c) (front w) ++ l) (map_app (pair_of c) (in_order t) (back w)))

-- a pair of the tree stands at the end of the path or beside it
pub plug_has : (c : Nodes) (w : Path) (t : Tree) (p : Pair)
    → Has p (pairs_in c (plug w t)) → Has p (pairs_in c t) ⊎ Has p (beside_pairs c w)
plug_has c w t p h =
    elim (has_either p (map (pair_of c) (front w)) (pairs_in c t ++ map (pair_of c) (back w)) (subst (Has p) (pairs_in-plug c w t) h)) [
      | inl k ↦ inr (aside (inl k))
      | inr k ↦ elim (has_either p (pairs_in c t) (map (pair_of c) (back w)) k) [ inl m ↦ inl m | inr m ↦ inr (aside (inr m)) ]
    ]
  where
    aside : Has p (map (pair_of c) (front w)) ⊎ Has p (map (pair_of c) (back w)) → Has p (beside_pairs c w)
    aside h = subst (Has p) (sym (map_app (pair_of c) (front w) (back w))) (elim h [
      | inl k ↦ has_left p (map (pair_of c) (front w)) (map (pair_of c) (back w)) k
      | inr k ↦ has_right p (map (pair_of c) (front w)) (map (pair_of c) (back w)) k
    ])

pub has_plug : (c : Nodes) (w : Path) (t : Tree) (p : Pair)
    → Has p (pairs_in c t) ⊎ Has p (beside_pairs c w) → Has p (pairs_in c (plug w t))
has_plug c w t p h =
    let low = map (pair_of c) (front w) in
    let high = map (pair_of c) (back w) in
    subst (Has p) (sym (pairs_in-plug c w t)) (elim h [
      | inl k ↦ has_right p low (pairs_in c t ++ high) (has_left p (pairs_in c t) high k)
      | inr k ↦ elim (has_either p low high (subst (Has p) (map_app (pair_of c) (front w) (back w)) k)) [
        | inl m ↦ has_left p low (pairs_in c t ++ high) m
        | inr m ↦ has_right p low (pairs_in c t ++ high) (has_right p (pairs_in c t) high m)
      ]
    ])

-- any subtree of the same hangs in the place of another
pub replaced_ordered : (c d : Nodes) (H : ℕ → Tree) (w : Path) (cut new : Cut) → H 0 ≡ leaf
    → IsOrdered c (plug w (fill H cut)) None None → AgreeOn c d (beside w) → IsOrdered d (bare new) (lower c w None) (upper c w None)
    → AllEnds (λ e. IsOrdered d (H e.0) e.1 e.2) (ends d new (lower c w None) (upper c w None))
    → IsOrdered d (plug w (fill H new)) None None
replaced_ordered c d H w cut new empty o same shown hangs =
    plug_ordered c d w (fill H cut) (fill H new) None None (on_path c d w same) o
    (fill_ordered H empty d new (lower c w None) (upper c w None) shown hangs)

-- a part of a lawful tree, at the end of a path
pub record IsPartAt (c : Nodes) (H : ℕ → Tree) (w : Path) (cut : Cut) : Type 0 where
  pub empty : H 0 ≡ leaf
  pub lawful : IsLawful (pairs_in c (plug w (fill H cut)))

-- the range lies between the bounds of the place, and all that hangs is aside
pub record IsClosedAt (c : Nodes) (w : Path) (cut : Cut) (range : Interval) : Type 0 where
  pub inside : IsInside (lower c w None) (upper c w None) range
  pub aside : AllAside range (ends c cut None None)

module _ {c : Nodes} {H : ℕ → Tree} {w : Path} {cut : Cut} (part : IsPartAt c H w cut) where
  abbrev x : Bound
  x = lower c w None

  abbrev y : Bound
  y = upper c w None

  ordered : IsOrdered c (plug w (fill H cut)) None None
  ordered = lawful_ordered c (plug w (fill H cut)) None None part.lawful (λ p h. (tt, tt))

  inner : IsOrdered c (fill H cut) (lower c w None) (upper c w None)
  inner = inner_ordered c w (fill H cut) None None ordered

  shown_ordered : IsOrdered c (bare cut) (lower c w None) (upper c w None)
  shown_ordered = bare_ordered H part.empty c cut x y inner

  pub shown_lawful : IsLawful (pairs_in c (bare cut))
  shown_lawful = ordered_lawful c (bare cut) x y shown_ordered

  pub shown_inside : (p : Pair) → Has p (pairs_in c (bare cut)) → IsInside (lower c w None) (upper c w None) p.range
  shown_inside p h = (all_inside c (bare cut) x y p shown_ordered h).1

  pub shown_fewer : length (in_order (bare cut)) ≤ length (in_order (plug w (fill H cut)))
  shown_fewer =
      let a = ap (λ (l : List ℕ). length l) (in_order-plug w (fill H cut)) in
      let b = length-fill H part.empty cut in
      omega (arith, length-append (front w) (in_order (fill H cut) ++ back w), length-append (in_order (fill H cut)) (back w))

  -- each pair shown is one of the tree's
  pub shown_has : (p : Pair) → Has p (pairs_in c (bare cut)) → Has p (pairs_in c (plug w (fill H cut)))
  shown_has p h = has_plug c w (fill H cut) p (inl (fill_has H part.empty c cut p (inl h)))

  -- the tree's pairs are those of the part, of what hangs and of what stands beside

  pub old_has : (p : Pair) → Has p (pairs_in c (plug w (fill H cut)))
      → Has p (pairs_in c (bare cut)) ⊎ (Has p (hung_pairs c H (links cut)) ⊎ Has p (beside_pairs c w))
  old_has p h = elim (plug_has c w (fill H cut) p h) [
    | inl k ↦ elim (has_fill H part.empty c cut p k) [ inl m ↦ inl m | inr m ↦ inr (inl m) ]
    | inr k ↦ inr (inr k)
  ]

  pub has_old : (p : Pair) → Has p (pairs_in c (bare cut)) ⊎ (Has p (hung_pairs c H (links cut)) ⊎ Has p (beside_pairs c w))
      → Has p (pairs_in c (plug w (fill H cut)))
  has_old p h = has_plug c w (fill H cut) p (elim h [
    | inl m ↦ inl (fill_has H part.empty c cut p (inl m))
    | inr k ↦ elim k [ inl m ↦ inl (fill_has H part.empty c cut p (inr m)) | inr m ↦ inr m ]
  ])

  pub shown_apart : (p : Pair) → Has p (pairs_in c (bare cut)) → Has p (hung_pairs c H (links cut)) ⊎ Has p (beside_pairs c w) → ⊥
  shown_apart p h k =
      let low : List Pair = map (pair_of c) (front w) in
      let here : List Pair = pairs_in c (fill H cut) in
      let high : List Pair = map (pair_of c) (back w) in
      let l : IsLawful (low ++ (here ++ high)) = subst IsLawful (pairs_in-plug c w (fill H cut)) part.lawful in
      let u : IsLawful (here ++ high) = lawful_right low (here ++ high) l in
      let is : Has p here = fill_has H part.empty c cut p (inl h) in
      elim k [
        | inl m ↦ not_hung H part.empty c cut p (lawful_left here high u) h m
        | inr m ↦ elim (has_either p low high (subst (Has p) (map_app (pair_of c) (front w) (back w)) m)) [
          | inl n ↦ no_two p low (here ++ high) l n (has_left p here high is)
          | inr n ↦ no_two p here high u is n
        ]
      ]

  -- where the part is closed for the range

  pub beside_apart : (range : Interval) → IsClosedAt c w cut range → (p : Pair) → Has p (beside_pairs c w)
      → overlap p.range range ≡ false
  beside_apart range closed p h =
      let clear = beside_clear c w (fill H cut) None None range ordered closed.inside in
      elim (has_either p (map (pair_of c) (front w)) (map (pair_of c) (back w)) (subst (Has p) (map_app (pair_of c) (front w) (back w)) h)) [
        | inl k ↦ clear_has range p (map (pair_of c) (front w)) clear.0 k
        | inr k ↦ clear_has range p (map (pair_of c) (back w)) clear.1 k
      ]

  pub hung_apart : (range : Interval) → IsClosedAt c w cut range → (p : Pair) → Has p (hung_pairs c H (links cut))
      → overlap p.range range ≡ false
  hung_apart range closed p h = hung_clear H part.empty c cut x y range p inner closed.aside h

  -- a test of pairs that overlap the range finds in the whole tree what it finds in the rows shown
  pub shown_found : (range : Interval) → IsClosedAt c w cut range → (f : Pair → Bool)
      → ((p : Pair) → f p ≡ true → overlap p.range range ≡ true)
      → filter f (pairs_in c (plug w (fill H cut))) ≡ filter f (pairs_in c (bare cut))
  shown_found range closed f over =
      let clear = beside_clear c w (fill H cut) None None range ordered closed.inside in
      let low : List Pair = map (pair_of c) (front w) in
      let high : List Pair = map (pair_of c) (back w) in
      let all : List Pair = pairs_in c (fill H cut) in
      ap (filter f) (pairs_in-plug c w (fill H cut))
      ∙ (filter_app f low (all ++ high)
      ∙ (ap (λ (l : List Pair). l ++ filter f (all ++ high)) (filter_clear f range low over clear.0)
      ∙ (filter_app f all high
      ∙ (ap (λ (l : List Pair). filter f all ++ l) (filter_clear f range high over clear.1)
      ∙ (append-nil (filter f all) ∙ filter-fill H part.empty f c cut range over (hung_apart range closed))))))

  -- so a closed part has each of the tree's pairs that overlap the range
  pub shown_all : (range : Interval) → IsClosedAt c w cut range → (p : Pair) → Has p (pairs_in c (plug w (fill H cut)))
      → overlap p.range range ≡ true → Has p (pairs_in c (bare cut))
  shown_all range closed p h over =
      let f : Pair → Bool = λ q. overlap q.range range in
      (has_filter f p (pairs_in c (bare cut)) (subst (Has p) (shown_found range closed f (λ q e. e))
      (filter_has f p (pairs_in c (plug w (fill H cut))) over h))).0

-- The part laid anew: the hangs keep their order, with looser bounds, what stands beside the part or hangs below it holds what
-- it held, and the new rows' ranges ascend between the bounds of the place.
pub record PartLaid (c d : Nodes) (H : ℕ → Tree) (w : Path) (cut new : Cut) : Type 0 where
  pub loose : Looser (ends c cut None None) (ends d new None None)
  pub beside_same : AgreeOn c d (beside w)
  pub hung_same : AgreeOn c d (hung H (links cut))
  pub new_shown : IsOrdered d (bare new) (lower c w None) (upper c w None)

module _ {c d : Nodes} {H : ℕ → Tree} {w : Path} {cut new : Cut} (part : IsPartAt c H w cut)
    (laid : PartLaid c d H w cut new) where
  path_same : AgreePath c d w
  path_same = on_path c d w laid.beside_same

  looser : Looser (ends c cut (lower c w None) (upper c w None)) (ends d new (lower c w None) (upper c w None))
  looser = looser_at c d cut new (lower c w None) (upper c w None) (shown_ordered part) laid.loose

  ends_same : AgreeEnds c d H (ends c cut (lower c w None) (upper c w None))
  ends_same = agree_ends H part.empty c d cut (lower c w None) (upper c w None) laid.hung_same

  pub new_ordered : IsOrdered d (plug w (fill H new)) None None
  new_ordered =
      let x = lower c w None in
      let y = upper c w None in
      replaced_ordered c d H w cut new part.empty (ordered part) laid.beside_same laid.new_shown
      (looser_ordered H part.empty c d (ends c cut x y) (ends d new x y) looser ends_same (ends_ordered H part.empty c cut x y (inner part)))

  pub new_lawful : IsLawful (pairs_in d (plug w (fill H new)))
  new_lawful = ordered_lawful d (plug w (fill H new)) None None new_ordered

  -- gaps of rows that aren't of the part stay
  pub gaps_stay : (q : ℕ) (g : Gap) → (IsRow q cut → ⊥) → HasGap c (plug w (fill H cut)) None None q g
      → HasGap d (plug w (fill H new)) None None q g
  gaps_stay q g out has =
      let x = lower c w None in
      let y = upper c w None in
      plug_gap c d w (fill H cut) (fill H new) None None q g path_same
      (λ h. into H part.empty d new x y q g
      (looser_gap H part.empty c d (ends c cut x y) (ends d new x y) q g looser ends_same
      (out_of H part.empty c cut x y q g out h)))
      has

  -- and the new part's place keeps the bounds that it had
  pub place_gap : (q : ℕ) (g : Gap) → HasGap d (fill H new) (lower c w None) (upper c w None) q g
      → HasGap d (plug w (fill H new)) None None q g
  place_gap q g has = path_gap c d w (fill H new) None None q g path_same has

  hung_stay : hung_pairs c H (links cut) ≡ hung_pairs d H (links new)
  hung_stay =
      on_pairs c d (hung H (links cut)) laid.hung_same
      ∙ ap (λ (ls : List ℕ). hung_pairs d H ls) (same_links c d cut new None None laid.loose)

  beside_stay : beside_pairs c w ≡ beside_pairs d w
  beside_stay = on_pairs c d (beside w) laid.beside_same

  -- its pairs are those of the new part, of what hangs and of what stands beside, and the last two are as before

  pub new_has : (p : Pair) → Has p (pairs_in d (plug w (fill H new)))
      → Has p (pairs_in d (bare new)) ⊎ (Has p (hung_pairs c H (links cut)) ⊎ Has p (beside_pairs c w))
  new_has p h = elim (plug_has d w (fill H new) p h) [
    | inl k ↦ elim (has_fill H part.empty d new p k) [ inl m ↦ inl m | inr m ↦ inr (inl (subst (Has p) (sym hung_stay) m)) ]
    | inr k ↦ inr (inr (subst (Has p) (sym beside_stay) k))
  ]

  pub has_new : (p : Pair) → Has p (pairs_in d (bare new)) ⊎ (Has p (hung_pairs c H (links cut)) ⊎ Has p (beside_pairs c w))
      → Has p (pairs_in d (plug w (fill H new)))
  has_new p h = has_plug d w (fill H new) p (elim h [
    | inl m ↦ inl (fill_has H part.empty d new p (inl m))
    | inr k ↦ elim k [
      | inl m ↦ inl (fill_has H part.empty d new p (inr (subst (Has p) hung_stay m)))
      | inr m ↦ inr (subst (Has p) beside_stay m)
    ]
  ])

  -- its rows are the old ones but for those of the part

  pub new_times : (q : ℕ)
      → times q (in_order (plug w (fill H new))) + times q (in_order (bare cut))
      ≡ times q (in_order (plug w (fill H cut))) + times q (in_order (bare new))
  new_times q =
      let a = ap (times q) (in_order-plug w (fill H cut)) in
      let b = ap (times q) (in_order-plug w (fill H new)) in
      let a1 = times-++ q (front w) (in_order (fill H cut) ++ back w) in
      let b1 = times-++ q (front w) (in_order (fill H new) ++ back w) in
      let a2 = times-++ q (in_order (fill H cut)) (back w) in
      let b2 = times-++ q (in_order (fill H new)) (back w) in
      let a3 = times-fill H part.empty cut q in
      let b3 = times-fill H part.empty new q in
      let l = ap (λ (ls : List ℕ). times q (hung H ls)) (same_links c d cut new None None laid.loose) in
      omega arith

  pub new_length :
      length (in_order (plug w (fill H new))) + length (in_order (bare cut))
      ≡ length (in_order (plug w (fill H cut))) + length (in_order (bare new))
  new_length =
      let a = ap (λ (l : List ℕ). length l) (in_order-plug w (fill H cut)) in
      let b = ap (λ (l : List ℕ). length l) (in_order-plug w (fill H new)) in
      let a3 = length-fill H part.empty cut in
      let b3 = length-fill H part.empty new in
      let l = ap (λ (ls : List ℕ). length (hung H ls)) (same_links c d cut new None None laid.loose) in
      omega (
        arith,
        length-append (front w) (in_order (fill H cut) ++ back w),
        length-append (front w) (in_order (fill H new) ++ back w),
        length-append (in_order (fill H cut)) (back w),
        length-append (in_order (fill H new)) (back w),
      )

-- Some pairs are added, and some of the rows shown are dropped.
pub record PartChange (c d : Nodes) (H : ℕ → Tree) (w : Path) (cut new : Cut) (added : Pair → Type 0) (dropped : Pair → Bool) : Type 0 where
  pub laid : PartLaid c d H w cut new
  pub hung_kept : (p : Pair) → Has p (hung_pairs c H (links cut)) → dropped p ≡ false
  pub beside_kept : (p : Pair) → Has p (beside_pairs c w) → dropped p ≡ false
  pub change : Change added dropped (pairs_in c (bare cut)) (pairs_in d (bare new))

module _ {c d : Nodes} {H : ℕ → Tree} {w : Path} {cut new : Cut} {added : Pair → Type 0} {dropped : Pair → Bool}
    (part : IsPartAt c H w cut) (changes : PartChange c d H w cut new added dropped) where
  -- the whole tree's pairs are what the change makes of the whole list
  pub new_pairs : (target : List Pair) → Change added dropped (pairs_in c (plug w (fill H cut))) target
      → pairs_in d (plug w (fill H new)) ≡ target
  new_pairs target whole =
      one_list (pairs_in d (plug w (fill H new))) target (new_lawful part changes.laid) whole.lawful to_target from_target
    where
      to_target : (p : Pair) → Has p (pairs_in d (plug w (fill H new))) → Has p target
      to_target p h = elim (new_has part changes.laid p h) [
        | inl m ↦ elim (changes.change.has p m) [
          | inl a ↦ whole.gets p (inl a)
          | inr o ↦ whole.gets p (inr (has_old part p (inl o.0), o.1))
        ]
        | inr m ↦ whole.gets p (inr (
          has_old part p (inr m),
          elim m [ inl k ↦ changes.hung_kept p k | inr k ↦ changes.beside_kept p k ],
        ))
      ]

      from_target : (p : Pair) → Has p target → Has p (pairs_in d (plug w (fill H new)))
      from_target p h = has_new part changes.laid p (elim (whole.has p h) [
        | inl a ↦ inl (changes.change.gets p (inl a))
        | inr o ↦ elim (old_has part p o.0) [ inl m ↦ inl (changes.change.gets p (inr (m, o.1))) | inr m ↦ inr m ]
      ])
