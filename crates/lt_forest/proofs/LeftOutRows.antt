-- Rows left out of a part in key order, one by one.
use Rattle.std.proofs.Common.{◌≡◌, ◌⊎◌, inl, inr, ℕ, zero, suc, ◌+◌, List, [], ◌∷◌, ◌++◌, map, length, Bool, true, false, not, if◌then◌else◌, refl, sym, ap, ap₂, ◌∙◌, subst, arith, append-nil, length-append}
use Rattle.std.specs.Prelude.{None}
use Rattle.std.specs.List.{filter}
use Rattle.lt_ranges.specs.Interval.{Interval}
use Rattle.lt_seq.specs.declared.event.Pair.{Pair}
use Rattle.lt_seq.specs.Pairs.{IsLawful, is_own, freed}
use Rattle.lt_forest.specs.declared.part.PartRow.{PartRow}
use Rattle.lt_forest.specs.Trees.{Nodes, in_order, pairs_in}
use Rattle.lt_forest.specs.Cuts.{Cut, bare, End, ends, Looser}
use Rattle.lt_forest.specs.Parts.{rows_of, hangs_of, row_pair}
use Rattle.lt_forest.specs.Items.{Item, row, hang, hang_if, items, sift, between, LeavesOut}
use Rattle.lt_forest.proofs.RowsAndHangs.{ends-items, pairs_of}
use Rattle.lt_forest.proofs.RunLaws.{sift_looser}
use Rattle.lt_forest.proofs.RowsAscend.{items_ascend}
use Rattle.lt_forest.proofs.MergedRuns.{items_split, hang_if-++}

if_++ : (b : Bool) (i : Item) (xs ys : List Item) → (if b then i ∷ (xs ++ ys) else xs ++ ys) ≡ (if b then i ∷ xs else xs) ++ ys
if_++ true i xs ys = refl
if_++ false i xs ys = refl

sift-++ : (keep : PartRow → Bool) (is js : List Item) → sift keep (is ++ js) ≡ sift keep is ++ sift keep js
sift-++ keep [] js = refl
sift-++ keep (row r ∷ is) js =
    ap (λ (l : List Item). if keep r then row r ∷ l else l) (sift-++ keep is js) ∙ if_++ (keep r) (row r) (sift keep is) (sift keep js)
sift-++ keep (hang l ∷ is) js = ap (λ (x : List Item). hang l ∷ x) (sift-++ keep is js)

sift-hang : (keep : PartRow → Bool) (m : ℕ) → sift keep (hang_if m []) ≡ hang_if m []
sift-hang keep zero = refl
sift-hang keep (suc m) = refl

one_++ : (b : Bool) (x : PartRow) (rest xs more : List PartRow) → rest ≡ xs ++ more
    → (if b then x ∷ rest else rest) ≡ (if b then x ∷ xs else xs) ++ more
one_++ true x rest xs more e = ap (λ (l : List PartRow). x ∷ l) e
one_++ false x rest xs more e = e

filter-++ : (keep : PartRow → Bool) (xs ys : List PartRow) → filter keep (xs ++ ys) ≡ filter keep xs ++ filter keep ys
filter-++ keep [] ys = refl
filter-++ keep (x ∷ xs) ys = one_++ (keep x) x (filter keep (xs ++ ys)) (filter keep xs) (filter keep ys) (filter-++ keep xs ys)

-- the items with one row and link more
items_more : (rows : List PartRow) (hangs : List ℕ) (r : PartRow) (m : ℕ) → length hangs ≡ length rows + 1
    → items (rows ++ r ∷ []) (hangs ++ m ∷ []) ≡ items rows hangs ++ row r ∷ hang_if m []
items_more rows hangs r m e = items_split rows r [] hangs (m ∷ []) e

-- the last link put where it was 0
items_last : (rows : List PartRow) (hs : List ℕ) (m : ℕ) → length hs ≡ length rows
    → items rows (hs ++ m ∷ []) ≡ items rows (hs ++ 0 ∷ []) ++ hang_if m []
items_last [] [] m e = refl
items_last [] (l ∷ hs) m e = absurd (omega (arith, e))
items_last (r ∷ rows) [] m e = absurd (omega (arith, e))
items_last (r ∷ rows) (l ∷ hs) m e =
    ap (λ (is : List Item). hang_if l (row r ∷ is)) (items_last rows hs m (omega (arith, e)))
    ∙ sym (hang_if-++ l (row r ∷ items rows (hs ++ 0 ∷ [])) (hang_if m []))

pub none_left_out : (keep : PartRow → Bool) (l : ℕ) → LeavesOut keep [] (l ∷ []) [] (l ∷ [])
none_left_out keep l = record { long = refl; new_long = refl; new_rows = refl; new_items = sym (sift-hang keep l) }

pub one_kept : (keep : PartRow → Bool) (rows rows' : List PartRow) (hangs hangs' : List ℕ) (r : PartRow) (m : ℕ)
    → LeavesOut keep rows hangs rows' hangs' → keep r ≡ true
    → LeavesOut keep (rows ++ r ∷ []) (hangs ++ m ∷ []) (rows' ++ r ∷ []) (hangs' ++ m ∷ [])
one_kept keep rows rows' hangs hangs' r m k passes =
    let kept : sift keep (row r ∷ hang_if m []) ≡ row r ∷ hang_if m [] =
    ap (λ (b : Bool). if b then row r ∷ sift keep (hang_if m []) else sift keep (hang_if m [])) passes
    ∙ ap (λ (l : List Item). row r ∷ l) (sift-hang keep m) in
    record {
      long = omega (arith, k.long, length-append rows (r ∷ []), length-append hangs (m ∷ []));
      new_long = omega (arith, k.new_long, length-append rows' (r ∷ []), length-append hangs' (m ∷ []));
      new_rows = ap (λ (l : List PartRow). l ++ r ∷ []) k.new_rows
          ∙ (ap (λ (l : List PartRow). filter keep rows ++ l) (sym (ap (λ (b : Bool). if b then r ∷ [] else []) passes))
          ∙ sym (filter-++ keep rows (r ∷ [])));
      new_items = items_more rows' hangs' r m k.new_long
          ∙ (ap₂ (λ (a b : List Item). a ++ b) k.new_items (sym kept)
          ∙ (sym (sift-++ keep (items rows hangs) (row r ∷ hang_if m []))
          ∙ ap (sift keep) (sym (items_more rows hangs r m k.long))));
    }

-- two links side by side of which one is 0
joined_last : (rows : List PartRow) (hs : List ℕ) (l m : ℕ) → length hs ≡ length rows → (l ≡ 0) ⊎ (m ≡ 0)
    → items rows (hs ++ (l + m) ∷ []) ≡ items rows (hs ++ l ∷ []) ++ hang_if m []
joined_last rows hs l m e one = elim one [
  | inl z ↦
      ap (λ (n : ℕ). items rows (hs ++ n ∷ [])) (let s : l + m ≡ m = omega arith in s)
      ∙ (items_last rows hs m e ∙ ap (λ (n : ℕ). items rows (hs ++ n ∷ []) ++ hang_if m []) (sym z))
  | inr z ↦
      ap (λ (n : ℕ). items rows (hs ++ n ∷ [])) (let s : l + m ≡ l = omega arith in s)
      ∙ (sym (append-nil (items rows (hs ++ l ∷ []))) ∙ ap (λ (n : ℕ). items rows (hs ++ l ∷ []) ++ hang_if n []) (sym z))
]

pub one_left_out : (keep : PartRow → Bool) (rows rows' : List PartRow) (hangs hs : List ℕ) (l : ℕ) (r : PartRow) (m : ℕ)
    → LeavesOut keep rows hangs rows' (hs ++ l ∷ []) → keep r ≡ false → (l ≡ 0) ⊎ (m ≡ 0)
    → LeavesOut keep (rows ++ r ∷ []) (hangs ++ m ∷ []) rows' (hs ++ (l + m) ∷ [])
one_left_out keep rows rows' hangs hs l r m k fails one =
    let gone : sift keep (row r ∷ hang_if m []) ≡ hang_if m [] =
    ap (λ (b : Bool). if b then row r ∷ sift keep (hang_if m []) else sift keep (hang_if m [])) fails ∙ sift-hang keep m in
    let short : length hs ≡ length rows' = omega (arith, k.new_long, length-append hs (l ∷ [])) in
    record {
      long = omega (arith, k.long, length-append rows (r ∷ []), length-append hangs (m ∷ []));
      new_long = omega (arith, short, length-append hs ((l + m) ∷ []));
      new_rows = k.new_rows
          ∙ (sym (append-nil (filter keep rows))
          ∙ (ap (λ (x : List PartRow). filter keep rows ++ x) (sym (ap (λ (b : Bool). if b then r ∷ [] else []) fails))
          ∙ sym (filter-++ keep rows (r ∷ []))));
      new_items = joined_last rows' hs l m short one
          ∙ (ap₂ (λ (a b : List Item). a ++ b) k.new_items (sym gone)
          ∙ (sym (sift-++ keep (items rows hangs) (row r ∷ hang_if m []))
          ∙ ap (sift keep) (sym (items_more rows hangs r m k.long))));
    }

-- what a cut with rows left out shows

pub left_out_looser : (keep : PartRow → Bool) (c d : Nodes) (cut new : Cut) → IsLawful (pairs_in c (bare cut))
    → LeavesOut keep (rows_of c cut) (hangs_of cut) (rows_of d new) (hangs_of new) → Looser (ends c cut None None) (ends d new None None)
left_out_looser keep c d cut new lawful k =
    let new_ends : ends d new None None ≡ between (sift keep (items (rows_of c cut) (hangs_of cut))) None None =
    ends-items d new ∙ ap (λ (l : List Item). between l None None) k.new_items in
    subst (λ (es : List End). Looser es (ends d new None None)) (sym (ends-items c cut))
    (subst (Looser (between (items (rows_of c cut) (hangs_of cut)) None None)) (sym new_ends)
    (sift_looser keep (items (rows_of c cut) (hangs_of cut)) (items_ascend c cut lawful)))

one_pair : (b : Bool) (r : PartRow) (rest : List PartRow) (ps : List Pair) → map row_pair rest ≡ ps
    → map row_pair (if b then r ∷ rest else rest) ≡ (if b then row_pair r ∷ ps else ps)
one_pair true r rest ps e = ap (λ (l : List Pair). row_pair r ∷ l) e
one_pair false r rest ps e = e

filter_pairs : (txn : ℕ) (range : Interval) (rows : List PartRow)
    → map row_pair (filter (λ r. not (is_own txn range (row_pair r))) rows) ≡ freed txn range (map row_pair rows)
filter_pairs txn range [] = refl
filter_pairs txn range (r ∷ rows) =
    one_pair (not (is_own txn range (row_pair r))) r (filter (λ q. not (is_own txn range (row_pair q))) rows)
    (freed txn range (map row_pair rows)) (filter_pairs txn range rows)

pub left_out_freed : (txn : ℕ) (range : Interval) (c d : Nodes) (cut new : Cut)
    → LeavesOut (λ r. not (is_own txn range (row_pair r))) (rows_of c cut) (hangs_of cut) (rows_of d new) (hangs_of new)
    → pairs_in d (bare new) ≡ freed txn range (pairs_in c (bare cut))
left_out_freed txn range c d cut new k =
    sym (pairs_of d (in_order (bare new)))
    ∙ (ap (map row_pair) k.new_rows
    ∙ (filter_pairs txn range (rows_of c cut) ∙ ap (freed txn range) (pairs_of c (in_order (bare cut)))))
