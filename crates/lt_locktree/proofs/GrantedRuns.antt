-- An ask that nobody else stands against: own rows become one, or a row is put in.
use Rattle.std.proofs.Common.{◌≡◌, ℕ, ◌+◌, ◌<◌, ◌==◌, ◌&&◌, Bool, true, false, List, [], ◌∷◌, ◌++◌, map, length, length-append, append_assoc, append-nil, suc, replicate, nat_lt, refl, sym, ap, ◌∙◌, subst, arith, eq-eqb, ne_eqb, true≢false}
use Rattle.std.specs.Prelude.{pos, ℤ, ◌+ℤ◌, nat_eq, take, drop, None}
use Rattle.std.proofs.lemmas.List.{length-replicate}
use Rattle.std.proofs.Math.Seq.{take-append_seam, drop-append_seam}
use Rattle.std.proofs.Math.IntN.{+ℤ_assoc}
use mathlib.Core.Logic.{dite}
use native.Mathlib.Decide.{ℕ_discrete}
use Rattle.lt_ranges.specs.Interval.{Interval, overlap}
use Rattle.lt_seq.specs.declared.event.Pair.{Pair}
use Rattle.lt_seq.specs.declared.event.Mode.TheVariants.{Tree as TreeMode}
use Rattle.lt_seq.specs.Pairs.{IsLawful, is_own, others, granted}
use Rattle.lt_seq.specs.Table.{is_buffered}
use Rattle.lt_forest.specs.declared.part.PartRow.{PartRow}
use Rattle.lt_forest.specs.Counts.{times, one_if}
use Rattle.lt_forest.specs.Trees.{Nodes, in_order, pairs_in}
use Rattle.lt_forest.specs.Cuts.{bare, AllAside}
use Rattle.lt_forest.specs.Parts.{hangs_of, row_pair, numbers, hanging}
use Rattle.lt_forest.specs.Plans.{from_anchor, IsClosedFor, SameRows}
use Rattle.lt_forest.specs.Links.{left_of, right_of}
use Rattle.lt_forest.specs.Views.{IsIn, AllHeld, PlansOnly, PoolPlan, no_pool, from_pool}
use Rattle.lt_forest.proofs.SameRows.{times-++}
use Rattle.lt_forest.proofs.PairLists.{map_app, lawful_left, lawful_right}
use Rattle.lt_forest.proofs.RowsAndHangs.{numbers_of}
use Rattle.lt_forest.proofs.PublicLaws.{side_is_lawful, aside_is_closed, rows_show_pairs, overlapping_run_hangs_none, free_place_is_there, span_may_merge, merged_run_loosens, merged_run_keeps_rows, merged_run_is_granted, put_in_loosens, put_in_keeps_rows}
use Rattle.lt_rows.specs.declared.view.View.{View}
use Rattle.lt_rows.specs.declared.image.RowImage.{RowImage}
use Rattle.lt_rows.specs.Views.{has, planned_rows}
use Rattle.lt_rows.specs.Lawful.{shown, shown_after}
use Rattle.lt_tree.specs.Gathers.{Place, below_top, on_left, on_right, around, IsLockedWith, IsClosed}
use Rattle.lt_locktree.specs.LawsOfGrants.{merged_row, new_row, MergedAskCommits, PutInAskCommits}
use Rattle.lt_locktree.proofs.HeldParts.{whole_lawful, sub_pairs}
use Rattle.lt_locktree.proofs.Grants.{grant_commits}

own_overlaps : (txn : ℕ) (range : Interval) (p : Pair) → is_own txn range p ≡ true → overlap p.range range ≡ true
own_overlaps txn range p own = by (p.owner == txn) own
  where
    by : (b : Bool) → (b && overlap p.range range) ≡ true → overlap p.range range ≡ true
    by true e = e
    by false e = absurd (true≢false (sym e))

-- where a list has an element no buffer begins
and_false : (b : Bool) → (b && false) ≡ false
and_false true = refl
and_false false = refl

some_pair : (buffer txn s : ℕ) (ps : List Pair) → 0 < length ps → is_buffered buffer txn ps (TreeMode s) ≡ false
some_pair buffer txn s ps some =
    ap (λ (b : Bool). ((s == 100) && b) && nat_lt 0 buffer) (ne_eqb (length ps) 0 (λ z. omega arith))
    ∙ ap (λ (b : Bool). b && nat_lt 0 buffer) (and_false (s == 100))

-- the hangs that a run leaves, and those that a new row gets

taken_front : (n : ℕ) (xs la ys : List ℕ) → xs ≡ la ++ ys → length la ≡ n → take n xs ≡ la
taken_front n xs la ys e long = ap (take n) e ∙ (ap (λ (m : ℕ). take m (la ++ ys)) (sym long) ∙ take-append_seam la ys)

dropped_front : (n : ℕ) (xs la ys : List ℕ) → xs ≡ la ++ ys → length la ≡ n → drop n xs ≡ ys
dropped_front n xs la ys e long = ap (drop n) e ∙ (ap (λ (m : ℕ). drop m (la ++ ys)) (sym long) ∙ drop-append_seam la ys)

some_middle : (xs : List PartRow) (y : PartRow) (zs : List PartRow) → 0 < length (map row_pair (xs ++ y ∷ zs))
some_middle [] y zs = omega arith
some_middle (x ∷ xs) y zs = omega arith

pub length-numbers : (xs : List PartRow) → length (numbers xs) ≡ length xs
length-numbers [] = refl
length-numbers (x ∷ xs) = ap (λ (n : ℕ). suc n) (length-numbers xs)

module _ (v : View) (tree : ℕ) (asked : Interval) (here : ℕ) (rows : List PartRow) (hangs more : List ℕ)
    (l : IsLockedWith v tree asked here rows hangs more) (closed : IsClosed asked rows hangs) (lt : tree < v.plan.trees) where
  abbrev c : Nodes
  c = shown v []

  pub closed_sub : IsClosedFor asked from_anchor c l.sub
  closed_sub =
      aside_is_closed c from_anchor l.sub asked tt
      (subst (λ (rs : List PartRow). AllAside asked (hanging rs (hangs_of l.sub) None None)) (sym l.rows_are)
      (subst (λ (hs : List ℕ). AllAside asked (hanging rows hs None None)) (sym l.hangs_are) closed))

  pub sub_lawful : IsLawful (pairs_in c (bare l.sub))
  sub_lawful = by l.place (whole_lawful v tree asked here rows hangs more l lt)
    where
      by : (p : Place) → IsLawful (pairs_in c (bare (around p here (c here) l.sub))) → IsLawful (pairs_in c (bare l.sub))
      by below_top h = h
      by on_left h = side_is_lawful c (left_of here) l.sub h
      by on_right h = side_is_lawful c (right_of here) l.sub h

  pub rows_lawful : IsLawful (map row_pair rows)
  rows_lawful = subst IsLawful (sym (sub_pairs v tree asked here rows hangs more l lt)) sub_lawful

  pub numbers_are : in_order (bare l.sub) ≡ numbers rows
  numbers_are = sym (numbers_of c (in_order (bare l.sub))) ∙ ap numbers l.rows_are

  pub sub_held : AllHeld (IsIn (has v)) (in_order (bare l.sub))
  sub_held q some = l.held_rows q (omega arith)

-- of three lists the middle one
lawful_middle : (xs ys zs : List PartRow) → IsLawful (map row_pair (xs ++ (ys ++ zs))) → IsLawful (map row_pair ys)
lawful_middle xs ys zs h =
    lawful_left (map row_pair ys) (map row_pair zs)
    (subst IsLawful (map_app row_pair ys zs)
    (lawful_right (map row_pair xs) (map row_pair (ys ++ zs)) (subst IsLawful (map_app row_pair xs (ys ++ zs)) h)))

-- a change that makes up for the rows that are given
pub counted : (change : ℤ) (n a b k : ℕ) → change +ℤ pos n ≡ pos 0 → a ≡ b + n → change +ℤ pos (a + k) ≡ pos (b + k)
counted change n a b k gone e =
    let split : a + k ≡ n + (b + k) = omega arith in
    ap (λ (m : ℕ). change +ℤ pos m) split
    ∙ (sym (+ℤ_assoc change (pos n) (pos (b + k)))
    ∙ (ap (λ (z : ℤ). z +ℤ pos (b + k)) gone ∙ ap (λ (m : ℕ). pos m) (let z : 0 + (b + k) ≡ b + k = omega arith in z)))

pub merged_ask_commits : MergedAskCommits
merged_ask_commits v tree asked here ahead r run behind hangs more given plan e change l closed lt interval between own laid numbered pool only pass is
    counts =
    let rows : List PartRow = ahead ++ (r ∷ run ++ behind) in
    let c : Nodes = shown v [] in
    let one : PartRow = merged_row e.txn asked r run in
    let lawful = sub_lawful v tree asked here rows hangs more l closed lt in
    let all_lawful = rows_lawful v tree asked here rows hangs more l closed lt in
    let closed_l = closed_sub v tree asked here rows hangs more l closed lt in
    let none = overlapping_run_hangs_none c from_anchor l.sub asked ahead r run behind lawful closed_l l.rows_are
    (λ p h. own_overlaps e.txn asked p (own p h)) in
    let la : List ℕ = none.links_ahead in
    let lb : List ℕ = none.links_behind in
    let zs : List ℕ = replicate (length run) 0 in
    let parts : hangs ≡ la ++ (zs ++ lb) = sym l.hangs_are ∙ none.hangs_are in
    let front : take (length ahead + 1) hangs ≡ la = taken_front (length ahead + 1) hangs la (zs ++ lb) parts none.place in
    let long : length (la ++ zs) ≡ length ahead + 1 + length run =
    length-append la zs ∙ (ap (λ (n : ℕ). length la + n) (length-replicate (length run) 0) ∙ ap (λ (n : ℕ). n + length run) none.place) in
    let back : drop (length ahead + 1 + length run) hangs ≡ lb =
    dropped_front (length ahead + 1 + length run) hangs (la ++ zs) lb (parts ∙ sym (append_assoc la zs lb)) long in
    let new_hangs : hangs_of laid.new ≡ la ++ lb =
    laid.hangs_are ∙ (λ j. front j ++ back j) in
    let may = span_may_merge e.txn asked ahead (r ∷ run) behind one interval (lawful_middle ahead (r ∷ run) behind all_lawful)
    between.0 between.1 refl in
    let loose = merged_run_loosens c (shown_after v plan) from_anchor l.sub laid.new asked ahead r run behind one la lb closed_l may l.rows_are
    none.hangs_are none.place laid.rows_are new_hangs in
    let kept = merged_run_keeps_rows c (shown_after v plan) l.sub laid.new ahead r run behind one l.rows_are laid.rows_are refl in
    let same : SameRows l.sub laid.new [] given =
    record {
      each = λ q. (let s = kept.each q in let n = numbered.each q in omega arith);
      all = (let s = kept.all in let n = length-numbers run in let m = numbered.all in omega arith);
    } in
    let grants = merged_run_is_granted e.txn asked ahead (r ∷ run) behind one interval all_lawful between.0 between.1 own refl refl in
    let mine : map row_pair rows ≡ pairs_in c (bare l.sub) = sub_pairs v tree asked here rows hangs more l lt in
    grant_commits v tree asked here rows hangs more l closed lt interval plan laid.new [] given e.txn laid.shows laid.beside
    (λ q some. sub_held v tree asked here rows hangs more l closed lt q (let s = kept.each q in omega arith))
    loose same pool
    (subst (λ (ns : List ℕ). PlansOnly (here ∷ v.plan.trees ∷ ns) (planned_rows plan))
    (sym (append-nil (in_order (bare l.sub)) ∙ numbers_are v tree asked here rows hangs more l closed lt)) only)
    (ap (others e.txn asked) (sym mine) ∙ grants.0)
    (sym (rows_show_pairs (shown_after v plan) laid.new)
    ∙ (ap (λ (rs : List PartRow). map row_pair rs) laid.rows_are ∙ (sym grants.1 ∙ ap (granted e.txn asked) mine)))
    (λ h s m. some_pair v.plan.buffer e.txn s (pairs_in c (bare l.sub))
    (subst (λ (ps : List Pair). 0 < length ps) mine (some_middle ahead r (run ++ behind))))
    e change pass refl is
    (λ k. counted change (length run) (length (in_order (bare l.sub))) (length (in_order (bare laid.new))) k counts
    (let s = kept.all in let n = length-numbers run in omega arith))
    (λ some. absurd (omega arith))

vacant_held : (v : View) (plan : List RowImage) (vacant : ℕ)
    → PoolPlan (IsIn (has v)) (planned_rows plan) v.plan.trees (shown v plan) (shown_after v plan) (vacant ∷ []) [] → IsIn (has v) vacant
vacant_held v plan vacant (no_pool e f g) = absurd (let n = ap (λ (xs : List ℕ). length xs) e in omega arith)
vacant_held v plan vacant (from_pool anchor taken given moves) =
    taken vacant (let o : one_if (nat_eq vacant vacant) ≡ 1 = ap one_if (eq-eqb vacant vacant refl) in omega arith)

one_more : (a b k : ℕ) → b ≡ a + 1 → 1 + (a + k) ≡ b + k
one_more a b k e = omega arith

pub put_in_ask_commits : PutInAskCommits
put_in_ask_commits v tree asked here ahead behind hangs more vacant plan e l closed lt interval between no_buffer licensed laid pool only pass is =
    let rows : List PartRow = ahead ++ behind in
    let c : Nodes = shown v [] in
    let one : PartRow = new_row e.txn asked vacant in
    let all_lawful = rows_lawful v tree asked here rows hangs more l closed lt in
    let closed_l = closed_sub v tree asked here rows hangs more l closed lt in
    let free = free_place_is_there c from_anchor l.sub asked ahead behind interval closed_l l.rows_are between.0 between.1 in
    let la : List ℕ = free.links_ahead in
    let lb : List ℕ = free.links_behind in
    let parts : hangs ≡ la ++ 0 ∷ lb = sym l.hangs_are ∙ free.hangs_are in
    let front : take (length ahead) hangs ≡ la = taken_front (length ahead) hangs la (0 ∷ lb) parts free.place in
    let long : length (la ++ 0 ∷ []) ≡ length ahead + 1 = length-append la (0 ∷ []) ∙ ap (λ (n : ℕ). n + 1) free.place in
    let back : drop (length ahead + 1) hangs ≡ lb =
    dropped_front (length ahead + 1) hangs (la ++ 0 ∷ []) lb (parts ∙ sym (append_assoc la (0 ∷ []) lb)) long in
    let new_hangs : hangs_of laid.new ≡ la ++ 0 ∷ 0 ∷ lb = laid.hangs_are ∙ (λ j. front j ++ 0 ∷ 0 ∷ back j) in
    let may = span_may_merge e.txn asked ahead [] behind one interval tt between.0 between.1 refl in
    let loose = put_in_loosens c (shown_after v plan) from_anchor l.sub laid.new asked ahead behind one la lb closed_l may l.rows_are
    free.hangs_are free.place laid.rows_are new_hangs in
    let same = put_in_keeps_rows c (shown_after v plan) l.sub laid.new ahead behind one l.rows_are laid.rows_are in
    let grants = merged_run_is_granted e.txn asked ahead [] behind one interval all_lawful between.0 between.1 (λ p h. absurd h) refl refl in
    let mine : map row_pair rows ≡ pairs_in c (bare l.sub) = sub_pairs v tree asked here rows hangs more l lt in
    let numbers_is : in_order (bare l.sub) ≡ numbers rows = numbers_are v tree asked here rows hangs more l closed lt in
    grant_commits v tree asked here rows hangs more l closed lt interval plan laid.new (vacant ∷ []) [] e.txn laid.shows laid.beside
    (λ q some. dite (ℕ_discrete vacant q)
    (λ x. subst (IsIn (has v)) x (vacant_held v plan vacant pool))
    (λ ne. sub_held v tree asked here rows hangs more l closed lt q
    (let s = same.each q in let z : one_if (nat_eq vacant q) ≡ 0 = ap one_if (ne_eqb vacant q ne) in omega arith)))
    loose same pool
    (λ q none. only q
    (let a = times-++ q (in_order (bare l.sub)) (vacant ∷ []) in let b = ap (times q) numbers_is in omega arith))
    (ap (others e.txn asked) (sym mine) ∙ grants.0)
    (sym (rows_show_pairs (shown_after v plan) laid.new)
    ∙ (ap (λ (rs : List PartRow). map row_pair rs) laid.rows_are ∙ (sym grants.1 ∙ ap (granted e.txn asked) mine)))
    (λ h s m. ap (λ (ps : List Pair). is_buffered v.plan.buffer e.txn ps (TreeMode s)) (sym mine) ∙ no_buffer h s m)
    e (pos 1) pass refl is
    (λ k. ap (λ (n : ℕ). pos n) (let s = same.all in one_more (length (in_order (bare l.sub))) (length (in_order (bare laid.new))) k (omega arith)))
    (λ some. licensed)
