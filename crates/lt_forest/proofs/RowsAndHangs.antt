-- Parts in key order: the links that hang and their bounds, read off the rows and links alone.
use Rattle.std.proofs.Common.{◌≡◌, ℕ, zero, suc, ◌+◌, length, map, List, [], ◌∷◌, ◌++◌, refl, sym, ap, ap₂, ◌∙◌, subst, append_assoc}
use Rattle.std.specs.Prelude.{None, Some}
use Rattle.lt_forest.specs.declared.part.PartRow.{PartRow}
use Rattle.lt_forest.specs.Bounds.{Bound, NoGreater, NoLess}
use Rattle.lt_forest.specs.Trees.{Nodes, pair_of, left_end, right_end, in_order, pairs_in}
use Rattle.lt_forest.specs.Cuts.{Cut, end, held, bare, End, end_if, ends, Looser}
use Rattle.lt_forest.specs.Counts.{times}
use Rattle.lt_forest.specs.Plans.{SameRows}
use Rattle.lt_forest.specs.Parts.{part_row, rows_of, hangs_of, row_pair, numbers, hanging}
use Rattle.lt_seq.specs.declared.event.Pair.{Pair}
use Rattle.lt_forest.specs.Items.{Item, row, hang, items, rows_only, next_row, last_row, first_end, last_end, between}
use Rattle.lt_forest.proofs.BoundLaws.{greater_same, less_same}
use Rattle.lt_forest.proofs.PairLists.{map_app}

pub rows_of-held : (c : Nodes) (a b : Cut) (r : ℕ) → rows_of c (held a r b) ≡ rows_of c a ++ part_row c r ∷ rows_of c b
rows_of-held c a b r = map_app (part_row c) (in_order (bare a)) (r ∷ in_order (bare b))

-- there is one more link than rows: before them, between them and behind them
abbrev pub HangBetween : List PartRow → List ℕ → Type 0
HangBetween [] [] = ⊥
HangBetween [] (l ∷ []) = Unit {0}
HangBetween [] (l ∷ m ∷ ls) = ⊥
HangBetween (r ∷ rows) [] = ⊥
HangBetween (r ∷ rows) (l ∷ ls) = HangBetween rows ls

between_app : (xs ys : List PartRow) (r : PartRow) (ls ms : List ℕ) → HangBetween xs ls → HangBetween ys ms
    → HangBetween (xs ++ r ∷ ys) (ls ++ ms)
between_app [] ys r [] ms e f = absurd e
between_app [] ys r (l ∷ []) ms e f = f
between_app [] ys r (l ∷ m ∷ ls) ms e f = absurd e
between_app (x ∷ xs) ys r [] ms e f = absurd e
between_app (x ∷ xs) ys r (l ∷ ls) ms e f = between_app xs ys r ls ms e f

pub cut_between : (c : Nodes) (cut : Cut) → HangBetween (rows_of c cut) (hangs_of cut)
cut_between c (end l) = tt
cut_between c (held a r b) =
    subst (λ (rs : List PartRow). HangBetween rs (hangs_of a ++ hangs_of b)) (sym (rows_of-held c a b r))
    (between_app (rows_of c a) (rows_of c b) (part_row c r) (hangs_of a) (hangs_of b) (cut_between c a) (cut_between c b))

hanging-++ : (xs ys : List PartRow) (r : PartRow) (ls ms : List ℕ) (x y : Bound) → HangBetween xs ls
    → hanging (xs ++ r ∷ ys) (ls ++ ms) x y ≡ hanging xs ls x (Some r.range.left) ++ hanging ys ms (Some r.range.right) y
hanging-++ [] ys r [] ms x y e = absurd e
hanging-++ [] ys r (l ∷ []) ms x y e = refl
hanging-++ [] ys r (l ∷ m ∷ ls) ms x y e = absurd e
hanging-++ (z ∷ xs) ys r [] ms x y e = absurd e
hanging-++ (z ∷ xs) ys r (l ∷ ls) ms x y e =
    ap (λ (es : List End). end_if l x (Some z.range.left) ++ es) (hanging-++ xs ys r ls ms (Some z.range.right) y e)
    ∙ sym (append_assoc (end_if l x (Some z.range.left)) (hanging xs ls (Some z.range.right) (Some r.range.left))
    (hanging ys ms (Some r.range.right) y))

-- the ends of a cut are those of its rows and links in key order
pub ends-hanging : (c : Nodes) (cut : Cut) (x y : Bound) → ends c cut x y ≡ hanging (rows_of c cut) (hangs_of cut) x y
ends-hanging c (end l) x y = refl
ends-hanging c (held a r b) x y =
    ap₂ (λ (es fs : List End). es ++ fs) (ends-hanging c a x (left_end c r)) (ends-hanging c b (right_end c r) y)
    ∙ (sym (hanging-++ (rows_of c a) (rows_of c b) (part_row c r) (hangs_of a) (hangs_of b) x y (cut_between c a))
    ∙ ap (λ (rs : List PartRow). hanging rs (hangs_of a ++ hangs_of b) x y) (sym (rows_of-held c a b r)))

-- and those of the items
pub hanging-items : (rows : List PartRow) (ls : List ℕ) (x y : Bound) → HangBetween rows ls
    → hanging rows ls x y ≡ between (items rows ls) x y
hanging-items [] [] x y e = absurd e
hanging-items [] (zero ∷ []) x y e = refl
hanging-items [] (suc l ∷ []) x y e = refl
hanging-items [] (l ∷ m ∷ ls) x y e = absurd e
hanging-items (r ∷ rows) [] x y e = absurd e
hanging-items (r ∷ rows) (zero ∷ ls) x y e = hanging-items rows ls (Some r.range.right) y e
hanging-items (r ∷ rows) (suc l ∷ ls) x y e =
    ap (λ (es : List End). (suc l, x, Some r.range.left) ∷ es) (hanging-items rows ls (Some r.range.right) y e)

pub ends-items : (c : Nodes) (cut : Cut) → ends c cut None None ≡ between (items (rows_of c cut) (hangs_of cut)) None None
ends-items c cut = ends-hanging c cut None None ∙ hanging-items (rows_of c cut) (hangs_of cut) None None (cut_between c cut)

-- looser ends

pub looser_same : (es : List End) → Looser es es
looser_same [] = tt
looser_same (e ∷ es) = (refl, greater_same e.1, less_same e.2, looser_same es)

pub looser_app : (es fs hs ks : List End) → Looser es fs → Looser hs ks → Looser (es ++ hs) (fs ++ ks)
looser_app [] [] hs ks a b = b
looser_app [] (f ∷ fs) hs ks a b = absurd a
looser_app (e ∷ es) [] hs ks a b = absurd a
looser_app (e ∷ es) (f ∷ fs) hs ks a b = (a.0, a.1, a.2, looser_app es fs hs ks a.3 b)

-- Cuts that show the same rows and links in key order have the same ends, rows and pairs.

pub order_ends : (c d : Nodes) (cut new : Cut) → rows_of d new ≡ rows_of c cut → hangs_of new ≡ hangs_of cut
    → Looser (ends c cut None None) (ends d new None None)
order_ends c d cut new rows hangs =
    let same : ends c cut None None ≡ ends d new None None =
    ends-hanging c cut None None
    ∙ ((λ i. hanging (sym rows i) (sym hangs i) None None) ∙ sym (ends-hanging d new None None)) in
    subst (λ (es : List End). Looser (ends c cut None None) es) same (looser_same (ends c cut None None))

pub numbers_of : (c : Nodes) (xs : List ℕ) → numbers (map (part_row c) xs) ≡ xs
numbers_of c [] = refl
numbers_of c (x ∷ xs) = ap (λ (l : List ℕ). x ∷ l) (numbers_of c xs)

pub pairs_of : (c : Nodes) (xs : List ℕ) → map row_pair (map (part_row c) xs) ≡ map (pair_of c) xs
pairs_of c [] = refl
pairs_of c (x ∷ xs) = ap (λ (l : List Pair). pair_of c x ∷ l) (pairs_of c xs)

pub order_numbers : (c d : Nodes) (cut new : Cut) → rows_of d new ≡ rows_of c cut → in_order (bare new) ≡ in_order (bare cut)
order_numbers c d cut new rows =
    sym (numbers_of d (in_order (bare new))) ∙ (ap numbers rows ∙ numbers_of c (in_order (bare cut)))

pub order_rows : (c d : Nodes) (cut new : Cut) → rows_of d new ≡ rows_of c cut → SameRows cut new [] []
order_rows c d cut new rows =
    let same = order_numbers c d cut new rows in
    record {
      each = λ q. ap (λ (l : List ℕ). times q l + 0) same;
      all = ap (λ (l : List ℕ). length l + 0) same;
    }

pub order_pairs : (c d : Nodes) (cut new : Cut) → rows_of d new ≡ rows_of c cut → pairs_in d (bare new) ≡ pairs_in c (bare cut)
order_pairs c d cut new rows =
    sym (pairs_of d (in_order (bare new))) ∙ (ap (map row_pair) rows ∙ pairs_of c (in_order (bare cut)))

-- items in two

pub next_row-++ : (is js : List Item) (y : Bound) → next_row (is ++ js) y ≡ next_row is (next_row js y)
next_row-++ [] js y = refl
next_row-++ (row r ∷ is) js y = refl
next_row-++ (hang l ∷ is) js y = next_row-++ is js y

pub between-++ : (is js : List Item) (x y : Bound)
    → between (is ++ js) x y ≡ between is x (next_row js y) ++ between js (last_row is x) y
between-++ [] js x y = refl
between-++ (row r ∷ is) js x y = between-++ is js (Some r.range.right) y
between-++ (hang l ∷ is) js x y =
    ap₂ (λ (v : Bound) (es : List End). (l, x, v) ∷ es) (next_row-++ is js y) (between-++ is js x y)

pub between-rows : (rows : List PartRow) (x y : Bound) → between (rows_only rows) x y ≡ []
between-rows [] x y = refl
between-rows (r ∷ rows) x y = between-rows rows (Some r.range.right) y

pub last_row-rows : (rows : List PartRow) (x : Bound) → last_row (rows_only rows) x ≡ last_end rows x
last_row-rows [] x = refl
last_row-rows (r ∷ rows) x = last_row-rows rows (Some r.range.right)

pub next_row-rows : (rows : List PartRow) (js : List Item) (y : Bound)
    → next_row (rows_only rows ++ js) y ≡ first_end rows (next_row js y)
next_row-rows [] js y = refl
next_row-rows (r ∷ rows) js y = refl

-- looser bounds at both ends of some items
looser_bounds : (is : List Item) (x y u v : Bound) → NoGreater u x → NoLess v y → Looser (between is x y) (between is u v)
looser_bounds [] x y u v lo hi = tt
looser_bounds (row r ∷ is) x y u v lo hi =
    looser_bounds is (Some r.range.right) y (Some r.range.right) v (greater_same (Some r.range.right)) hi
looser_bounds (hang l ∷ is) x y u v lo hi = (refl, lo, upper is, looser_bounds is x y u v lo hi)
  where
    upper : (is : List Item) → NoLess (next_row is v) (next_row is y)
    upper [] = hi
    upper (row r ∷ is) = less_same (Some r.range.left)
    upper (hang l ∷ is) = upper is

-- Only where a link hangs there do the bounds at an end count.

-- a link hangs behind the last row
abbrev pub EndsHanging : List Item → Type 0
EndsHanging [] = ⊥
EndsHanging (row r ∷ []) = ⊥
EndsHanging (row r ∷ i ∷ is) = EndsHanging (i ∷ is)
EndsHanging (hang l ∷ []) = Unit {0}
EndsHanging (hang l ∷ i ∷ is) = EndsHanging (i ∷ is)

-- a link hangs before the first row
abbrev pub BeginsHanging : List Item → Type 0
BeginsHanging [] = ⊥
BeginsHanging (row r ∷ is) = ⊥
BeginsHanging (hang l ∷ is) = Unit {0}

upper_only : (is : List Item) (x y v : Bound) → (EndsHanging is → NoLess v y) → Looser (between is x y) (between is x v)
upper_only [] x y v hi = tt
upper_only (row r ∷ []) x y v hi = tt
upper_only (row r ∷ i ∷ is) x y v hi = upper_only (i ∷ is) (Some r.range.right) y v hi
upper_only (hang l ∷ []) x y v hi = (refl, greater_same x, hi tt, tt)
upper_only (hang l ∷ i ∷ is) x y v hi = (refl, greater_same x, upper i is hi, upper_only (i ∷ is) x y v hi)
  where
    upper : (i : Item) (is : List Item) → (EndsHanging (i ∷ is) → NoLess v y) → NoLess (next_row (i ∷ is) v) (next_row (i ∷ is) y)
    upper (row r) is hi = less_same (Some r.range.left)
    upper (hang l) [] hi = hi tt
    upper (hang l) (i ∷ is) hi = upper i is hi

lower_only : (is : List Item) (x u y : Bound) → (BeginsHanging is → NoGreater u x) → Looser (between is x y) (between is u y)
lower_only [] x u y lo = tt
lower_only (row r ∷ is) x u y lo = looser_same (between is (Some r.range.right) y)
lower_only (hang l ∷ is) x u y lo = looser_bounds (hang l ∷ is) x y u y (lo tt) (less_same y)

-- A run of rows put in another's place leaves what hangs with bounds that are no tighter.

split_at : (before behind : List Item) (rows : List PartRow) (x y : Bound)
    → between (before ++ (rows_only rows ++ behind)) x y
    ≡ between before x (first_end rows (next_row behind y)) ++ between behind (last_end rows (last_row before x)) y
split_at before behind rows x y =
    between-++ before (rows_only rows ++ behind) x y
    ∙ ap₂ (λ (v : Bound) (es : List End). between before x v ++ es) (next_row-rows rows behind y)
    (between-++ (rows_only rows) behind (last_row before x) y
    ∙ ap₂ (λ (u : Bound) (es : List End). es ++ between behind u y) (last_row-rows rows (last_row before x))
    (between-rows rows (last_row before x) (next_row behind y)))

pub replaced_looser : (before behind : List Item) (old new : List PartRow) (x y : Bound)
    → (EndsHanging before → NoLess (first_end new (next_row behind y)) (first_end old (next_row behind y)))
    → (BeginsHanging behind → NoGreater (last_end new (last_row before x)) (last_end old (last_row before x)))
    → Looser (between (before ++ (rows_only old ++ behind)) x y) (between (before ++ (rows_only new ++ behind)) x y)
replaced_looser before behind old new x y hi lo =
    let old_first = first_end old (next_row behind y) in
    let new_first = first_end new (next_row behind y) in
    let old_last = last_end old (last_row before x) in
    let new_last = last_end new (last_row before x) in
    subst (λ (es : List End). Looser es (between (before ++ (rows_only new ++ behind)) x y)) (sym (split_at before behind old x y))
    (subst (Looser (between before x old_first ++ between behind old_last y)) (sym (split_at before behind new x y))
    (looser_app (between before x old_first) (between before x new_first) (between behind old_last y) (between behind new_last y)
    (upper_only before x old_first new_first hi) (lower_only behind old_last new_last y lo)))
