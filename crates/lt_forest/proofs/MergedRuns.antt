-- A run of rows that becomes one, and a row that is put in, read off rows and hangs in key order.
use Rattle.std.proofs.Common.{◌≡◌, inl, inr, ℕ, zero, suc, ◌+◌, List, [], ◌∷◌, ◌++◌, map, length, replicate, true, refl, sym, ap, ◌∙◌, subst, arith, append_assoc, length-append}
use Rattle.std.specs.Prelude.{None, Some}
use Rattle.std.specs.List.{filter, fold}
use Rattle.lt_ranges.specs.declared.key.Key.{Key}
use Rattle.lt_ranges.specs.Key.{key_le, key_max}
use Rattle.lt_ranges.specs.Interval.{Interval, IsInterval, before, hull}
use Rattle.lt_ranges.proofs.KeyLaws.{le_itself, le_trans}
use Rattle.lt_seq.specs.declared.event.Pair.{Pair}
use Rattle.lt_seq.specs.Pairs.{IsLawful, is_own, span}
use Rattle.lt_forest.specs.declared.part.PartRow.{PartRow}
use Rattle.lt_forest.specs.Bounds.{Bound, IsAbove, IsBelow}
use Rattle.lt_forest.specs.Pairs.{Has}
use Rattle.lt_forest.specs.Trees.{Nodes, in_order}
use Rattle.lt_forest.specs.Cuts.{Cut, bare, End, ends, Looser, AllAside}
use Rattle.lt_forest.specs.Parts.{part_row, rows_of, hangs_of, row_pair}
use Rattle.lt_forest.specs.Items.{Item, row, hang_if, items, rows_only, next_row, last_row, first_end, last_end, between, MayMerge}
use Rattle.lt_forest.proofs.BoundLaws.{lt_is}
use Rattle.lt_forest.proofs.PairLists.{after_has, has_filter}
use Rattle.lt_forest.proofs.PartLaws.{map_long}
use Rattle.lt_forest.proofs.MiddleSteps.{fold_least}
use Rattle.lt_forest.proofs.WidenLaws.{length-hangs_of}
use Rattle.lt_forest.proofs.RowsAndHangs.{ends-items, last_row-rows}
use Rattle.lt_forest.proofs.RunLaws.{merge_looser}

-- the span of a run

fold_greatest : (k : Key) (range : Interval) (ms : List Pair) → key_le range.right k ≡ true
    → ((p : Pair) → Has p ms → key_le p.range.right k ≡ true) → key_le (fold (λ r p. hull r p.range) range ms).right k ≡ true
fold_greatest k range [] low all = low
fold_greatest k range (m ∷ ms) low all =
    fold_greatest k (hull range m.range) ms (most range m.range low (all m (inl refl))) (λ p h. all p (inr h))
  where
    most : (a b : Interval) → key_le a.right k ≡ true → key_le b.right k ≡ true → key_le (key_max a.right b.right) k ≡ true
    most a b h i = grind arith

-- the first row begins no later than any other
pub first_least : (r : PartRow) (rows : List PartRow) → IsLawful (map row_pair (r ∷ rows)) → (p : Pair) → Has p (map row_pair (r ∷ rows))
    → key_le r.range.left p.range.left ≡ true
first_least r rows lawful p h = elim h [
  | inl e ↦ subst (λ (q : Pair). key_le r.range.left q.range.left ≡ true) (sym e) (le_itself r.range.left)
  | inr k ↦
      let b : before r.range p.range ≡ true = after_has r.range p (map row_pair rows) lawful.1 k in
      le_trans r.range.left r.range.right p.range.left lawful.0 (lt_is r.range.right p.range.left b)
]

-- and the last one ends no earlier
pub last_greatest : (rows : List PartRow) (x : Bound) (k : Key) → IsLawful (map row_pair rows) → last_end rows x ≡ Some k
    → (p : Pair) → Has p (map row_pair rows) → key_le p.range.right k ≡ true
last_greatest [] x k lawful is p h = absurd h
last_greatest (r ∷ []) x k lawful is p h = elim h [
  | inl e ↦ subst (λ (q : Pair). key_le q.range.right k ≡ true) (sym e)
      (subst (λ (m : Key). key_le r.range.right m ≡ true) (key_is r.range.right k is) (le_itself r.range.right))
  | inr none ↦ absurd none
]
  where
    key_is : (a b : Key) → Some a ≡ Some b → a ≡ b
    key_is a b e = cc
last_greatest (r ∷ q ∷ rows) x k lawful is p h = elim h [
  | inl e ↦
      let next : key_le q.range.right k ≡ true =
      last_greatest (q ∷ rows) (Some r.range.right) k lawful.2 is (row_pair q) (inl refl) in
      let step : key_le r.range.right q.range.left ≡ true = lt_is r.range.right q.range.left lawful.1.0 in
      subst (λ (y : Pair). key_le y.range.right k ≡ true) (sym e)
      (le_trans r.range.right q.range.left k step (le_trans q.range.left q.range.right k lawful.2.0 next))
  | inr m ↦ last_greatest (q ∷ rows) (Some r.range.right) k lawful.2 is p m
]

module _ (txn : ℕ) (range : Interval) (ahead run behind : List PartRow) (one : PartRow) (interval : IsInterval range)
    (lawful : IsLawful (map row_pair run)) (above : IsAbove (last_end ahead None) range.left)
    (below : IsBelow (first_end behind None) range.right) (is : one.range ≡ span txn range (map row_pair run)) where
  first_fits : (rows : List PartRow) → rows ≡ run → (k : Key) → first_end rows None ≡ Some k → key_le k range.left ≡ true
      → key_le k (span txn range (map row_pair run)).left ≡ true
  first_fits [] e k first le = absurd (none_some k first)
    where
      none_some : (k : Key) → None ≡ Some k → ⊥
      none_some k e = cc
  first_fits (r ∷ rows) e k first le =
      fold_least k range (filter (is_own txn range) (map row_pair run)) le
      (λ p h. subst (λ (m : Key). key_le m p.range.left ≡ true) (key_is r.range.left k first)
      (first_least r rows (subst (λ (rs : List PartRow). IsLawful (map row_pair rs)) (sym e) lawful) p
      (subst (λ (rs : List PartRow). Has p (map row_pair rs)) (sym e) (has_filter (is_own txn range) p (map row_pair run) h).0)))
    where
      key_is : (a b : Key) → Some a ≡ Some b → a ≡ b
      key_is a b e = cc

  pub may_merge : MayMerge range (rows_only ahead) run (rows_only behind) one
  may_merge = record {
    range_is = interval;
    above = subst (λ (x : Bound). IsAbove x range.left) (sym (last_row-rows ahead None)) above;
    below = subst (λ (y : Bound). IsBelow y range.right) (sym (next_rows behind)) below;
    first = λ k first le. subst (λ (r : Interval). key_le k r.left ≡ true) (sym is) (first_fits run refl k first le);
    last = λ k last le. subst (λ (r : Interval). key_le r.right k ≡ true) (sym is)
        (fold_greatest k range (filter (is_own txn range) (map row_pair run)) le
        (λ p h. last_greatest run None k lawful last p (has_filter (is_own txn range) p (map row_pair run) h).0));
  }
    where
      next_rows : (rows : List PartRow) → next_row (rows_only rows) None ≡ first_end rows None
      next_rows [] = refl
      next_rows (r ∷ rows) = refl

-- items in two, where rows and hangs split

pub hang_if-++ : (l : ℕ) (xs ys : List Item) → hang_if l xs ++ ys ≡ hang_if l (xs ++ ys)
hang_if-++ zero xs ys = refl
hang_if-++ (suc l) xs ys = refl

items_first : (rows : List PartRow) (l : ℕ) (ls : List ℕ) → items rows (l ∷ ls) ≡ hang_if l (items rows (0 ∷ ls))
items_first [] l ls = refl
items_first (r ∷ rows) l ls = refl

-- one link more than rows stands ahead
pub items_split : (ahead : List PartRow) (r : PartRow) (rest : List PartRow) (ls ms : List ℕ) → length ls ≡ length ahead + 1
    → items (ahead ++ r ∷ rest) (ls ++ ms) ≡ items ahead ls ++ row r ∷ items rest ms
items_split [] r rest [] ms e = absurd (omega (arith, e))
items_split [] r rest (l ∷ []) ms e = sym (hang_if-++ l [] (row r ∷ items rest ms))
items_split [] r rest (l ∷ m ∷ ls) ms e = absurd (omega (arith, e))
items_split (a ∷ ahead) r rest [] ms e = absurd (omega (arith, e))
items_split (a ∷ ahead) r rest (l ∷ ls) ms e =
    ap (λ (is : List Item). hang_if l (row a ∷ is)) (items_split ahead r rest ls ms (omega (arith, e)))
    ∙ sym (hang_if-++ l (row a ∷ items ahead ls) (row r ∷ items rest ms))

-- as many links as rows stand ahead, and the next is 0
items_gap : (ahead behind : List PartRow) (ls ms : List ℕ) → length ls ≡ length ahead
    → items (ahead ++ behind) (ls ++ 0 ∷ ms) ≡ items ahead (ls ++ 0 ∷ []) ++ items behind (0 ∷ ms)
items_gap [] behind [] ms e = refl
items_gap [] behind (l ∷ ls) ms e = absurd (omega (arith, e))
items_gap (a ∷ ahead) behind [] ms e = absurd (omega (arith, e))
items_gap (a ∷ ahead) behind (l ∷ ls) ms e =
    ap (λ (is : List Item). hang_if l (row a ∷ is)) (items_gap ahead behind ls ms (omega (arith, e)))
    ∙ sym (hang_if-++ l (row a ∷ items ahead (ls ++ 0 ∷ [])) (items behind (0 ∷ ms)))

-- between the rows of a run hangs nothing
items_run : (run behind : List PartRow) (ms : List ℕ)
    → items (run ++ behind) (replicate (length run) 0 ++ ms) ≡ rows_only run ++ items behind ms
items_run [] behind ms = refl
items_run (r ∷ run) behind ms = ap (λ (is : List Item). row r ∷ is) (items_run run behind ms)

-- the nearest rows are those of the rows alone

last_hang : (l : ℕ) (is : List Item) (x : Bound) → last_row (hang_if l is) x ≡ last_row is x
last_hang zero is x = refl
last_hang (suc l) is x = refl

last_items : (rows : List PartRow) (ls : List ℕ) (x : Bound) → length ls ≡ length rows + 1
    → last_row (rows_only rows) x ≡ last_row (items rows ls) x
last_items [] [] x e = absurd (omega (arith, e))
last_items [] (l ∷ ls) x e = sym (last_hang l [] x)
last_items (r ∷ rows) [] x e = absurd (omega (arith, e))
last_items (r ∷ rows) (l ∷ ls) x e =
    last_items rows ls (Some r.range.right) (omega (arith, e)) ∙ sym (last_hang l (row r ∷ items rows ls) x)

next_hang : (l : ℕ) (is : List Item) (y : Bound) → next_row (hang_if l is) y ≡ next_row is y
next_hang zero is y = refl
next_hang (suc l) is y = refl

next_items : (rows : List PartRow) (ls : List ℕ) (y : Bound) → length ls ≡ length rows + 1
    → next_row (rows_only rows) y ≡ next_row (items rows ls) y
next_items [] [] y e = absurd (omega (arith, e))
next_items [] (l ∷ ls) y e = sym (next_hang l [] y)
next_items (r ∷ rows) [] y e = absurd (omega (arith, e))
next_items (r ∷ rows) (l ∷ ls) y e = sym (next_hang l (row r ∷ items rows ls) y)

-- the same of items
with_items : (range : Interval) (ahead run behind : List PartRow) (one : PartRow) (is js : List Item)
    → last_row (rows_only ahead) None ≡ last_row is None → next_row (rows_only behind) None ≡ next_row js None
    → MayMerge range (rows_only ahead) run (rows_only behind) one → MayMerge range is run js one
with_items range ahead run behind one is js last next m = record {
  range_is = m.range_is;
  above = subst (λ (x : Bound). IsAbove x range.left) last m.above;
  below = subst (λ (y : Bound). IsBelow y range.right) next m.below;
  first = m.first;
  last = m.last;
}

length-hangs : (c : Nodes) (cut : Cut) → length (hangs_of cut) ≡ length (rows_of c cut) + 1
length-hangs c cut = let a = length-hangs_of cut in let b = map_long (part_row c) (in_order (bare cut)) in omega arith

length-none : (n : ℕ) → length (replicate {A = ℕ} n 0) ≡ n
length-none zero = refl
length-none (suc n) = ap suc (length-none n)

-- cuts with these items have these ends
loosens : (range : Interval) (c d : Nodes) (cut new : Cut) (ahead : List Item) (run : List PartRow) (behind : List Item) (one : PartRow)
    → items (rows_of c cut) (hangs_of cut) ≡ ahead ++ (rows_only run ++ behind)
    → items (rows_of d new) (hangs_of new) ≡ ahead ++ (rows_only (one ∷ []) ++ behind)
    → MayMerge range ahead run behind one → AllAside range (ends c cut None None) → Looser (ends c cut None None) (ends d new None None)
loosens range c d cut new ahead run behind one old_is new_is merge aside =
    let old : ends c cut None None ≡ between (ahead ++ (rows_only run ++ behind)) None None =
    ends-items c cut ∙ ap (λ (is : List Item). between is None None) old_is in
    let new' : ends d new None None ≡ between (ahead ++ (rows_only (one ∷ []) ++ behind)) None None =
    ends-items d new ∙ ap (λ (is : List Item). between is None None) new_is in
    subst (λ (es : List End). Looser es (ends d new None None)) (sym old)
    (subst (Looser (between (ahead ++ (rows_only run ++ behind)) None None)) (sym new')
    (merge_looser merge (subst (AllAside range) old aside)))

pub merged_run : (c d : Nodes) (cut new : Cut) (range : Interval) (ahead : List PartRow) (r : PartRow) (run behind : List PartRow)
    (one : PartRow) (ls ms : List ℕ) → AllAside range (ends c cut None None)
    → MayMerge range (rows_only ahead) (r ∷ run) (rows_only behind) one
    → rows_of c cut ≡ ahead ++ (r ∷ run ++ behind) → hangs_of cut ≡ ls ++ (replicate (length run) 0 ++ ms)
    → length ls ≡ length ahead + 1 → rows_of d new ≡ ahead ++ one ∷ behind → hangs_of new ≡ ls ++ ms
    → Looser (ends c cut None None) (ends d new None None)
merged_run c d cut new range ahead r run behind one ls ms aside merge rows hangs long rows' hangs' =
    let old_is : items (rows_of c cut) (hangs_of cut) ≡ items ahead ls ++ (rows_only (r ∷ run) ++ items behind ms) =
    (λ j. items (rows j) (hangs j))
    ∙ (items_split ahead r (run ++ behind) ls (replicate (length run) 0 ++ ms) long
    ∙ ap (λ (is : List Item). items ahead ls ++ row r ∷ is) (items_run run behind ms)) in
    let new_is : items (rows_of d new) (hangs_of new) ≡ items ahead ls ++ (rows_only (one ∷ []) ++ items behind ms) =
    (λ j. items (rows' j) (hangs' j)) ∙ items_split ahead one behind ls ms long in
    let more : length ms ≡ length behind + 1 =
    (let a = length-hangs c cut in
    let b = ap (λ (l : List PartRow). length l) rows in
    let e = ap (λ (l : List ℕ). length l) hangs in
    let n = length-none (length run) in
    omega (
      arith,
      length-append ls (replicate (length run) 0 ++ ms),
      length-append (replicate (length run) 0) ms,
      length-append ahead (r ∷ run ++ behind),
      length-append run behind,
    )) in
    loosens range c d cut new (items ahead ls) (r ∷ run) (items behind ms) one old_is new_is
    (with_items range ahead (r ∷ run) behind one (items ahead ls) (items behind ms) (last_items ahead ls None long)
    (next_items behind ms None more) merge) aside

pub put_in : (c d : Nodes) (cut new : Cut) (range : Interval) (ahead behind : List PartRow) (one : PartRow) (ls ms : List ℕ)
    → AllAside range (ends c cut None None) → MayMerge range (rows_only ahead) [] (rows_only behind) one
    → rows_of c cut ≡ ahead ++ behind → hangs_of cut ≡ ls ++ 0 ∷ ms → length ls ≡ length ahead
    → rows_of d new ≡ ahead ++ one ∷ behind → hangs_of new ≡ ls ++ 0 ∷ 0 ∷ ms
    → Looser (ends c cut None None) (ends d new None None)
put_in c d cut new range ahead behind one ls ms aside merge rows hangs long rows' hangs' =
    let up : length (ls ++ 0 ∷ []) ≡ length ahead + 1 = omega (arith, long, length-append ls (0 ∷ [])) in
    let old_is : items (rows_of c cut) (hangs_of cut) ≡ items ahead (ls ++ 0 ∷ []) ++ (rows_only [] ++ items behind (0 ∷ ms)) =
    (λ j. items (rows j) (hangs j)) ∙ items_gap ahead behind ls ms long in
    let new_is : items (rows_of d new) (hangs_of new) ≡ items ahead (ls ++ 0 ∷ []) ++ (rows_only (one ∷ []) ++ items behind (0 ∷ ms)) =
    (λ j. items (rows' j) ((hangs' ∙ sym (append_assoc ls (0 ∷ []) (0 ∷ ms))) j))
    ∙ items_split ahead one behind (ls ++ 0 ∷ []) (0 ∷ ms) up in
    let more : length (0 ∷ ms) ≡ length behind + 1 =
    (let a = length-hangs c cut in
    let b = ap (λ (l : List PartRow). length l) rows in
    let e = ap (λ (l : List ℕ). length l) hangs in
    omega (arith, length-append ls (0 ∷ ms), length-append ahead behind)) in
    loosens range c d cut new (items ahead (ls ++ 0 ∷ [])) [] (items behind (0 ∷ ms)) one old_is new_is
    (with_items range ahead [] behind one (items ahead (ls ++ 0 ∷ [])) (items behind (0 ∷ ms)) (last_items ahead (ls ++ 0 ∷ []) None up)
    (next_items behind (0 ∷ ms) None more) merge) aside
