-- A part widened by one row: what the call owes.
use Rattle.std.proofs.Common.{◌≡◌, ℕ, zero, suc, ◌+◌, ◌-◌, ◌<◌, ◌≤◌, List, [], ◌∷◌, ◌++◌, length, take, drop, get_or, set, refl, sym, ap, ◌∙◌, subst, arith, eq-eqb, length-append}
use Rattle.std.proofs.lemmas.List.{take-append-drop, length-take-le}
use Rattle.std.specs.Prelude.{Some, None, nat_eq}
use Rattle.lt_ranges.specs.Interval.{Interval}
use Rattle.lt_forest.specs.declared.part.PartRow.{PartRow}
use Rattle.lt_forest.specs.Counts.{one_if, times}
use Rattle.lt_forest.specs.Plans.{Top, from_anchor, from_row}
use Rattle.lt_forest.specs.Trees.{in_order}
use Rattle.lt_forest.specs.Cuts.{bare}
use Rattle.lt_forest.specs.Parts.{part_row}
use Rattle.lt_forest.proofs.SameRows.{times-++}
use Rattle.lt_forest.proofs.WidenLaws.{length-hangs_of}
use Rattle.lt_rows.specs.declared.row_plan.RowPlan.{RowPlan}
use Rattle.lt_rows.specs.declared.view.View.{View}
use Rattle.lt_rows.specs.declared.view.Row.{Row}
use Rattle.lt_rows.specs.declared.take.Take.TheVariants.{Taken}
use Rattle.lt_rows.specs.Nodes.{node_of}
use Rattle.lt_rows.specs.Views.{row_at, words_of, rows_of}
use Rattle.lt_rows.specs.Gaps.{gap_for}
use Rattle.lt_rows.specs.Lawful.{shown, KnowsTop}
use Rattle.lt_rows.specs.Teaching.{Teaches}
use Rattle.lt_rows.specs.Handles.{IsGathering}
use Rattle.lt_tree.specs.States.{OnlyMet, Seizes, KeepsRows, HasWords}
use Rattle.lt_tree.specs.Descents.{free_rows}
use Rattle.lt_tree.specs.Gathers.{IsLocked, IsLockedWith, IsClosed}
use Rattle.lt_tree.proofs.ViewLaws.{seized_else, met_rows, met_gathers, seized_has, has_loaded}
use Rattle.lt_tree.proofs.DownLaws.{free_take}
use Rattle.lt_forest.proofs.PartLaws.{map_long}
use Rattle.lt_tree.proofs.WideningLaws.{names, hang_free, widened, not_there, IsWider}
use Rattle.lt_tree.proofs.ClosedLaws.{still_closed}

pub split_at : (xs : List ℕ) (i x : ℕ) → i < length xs → x ≡ get_or xs i 0 → xs ≡ take i xs ++ x ∷ drop (suc i) xs
split_at [] i x lt e = absurd (omega arith)
split_at (y ∷ xs) zero x lt e = ap (λ (n : ℕ). n ∷ xs) (sym e)
split_at (y ∷ xs) (suc i) x lt e = ap (λ (l : List ℕ). y ∷ l) (split_at xs i x (omega arith) e)

pub stands_at : (xs : List ℕ) (i r : ℕ) → i < length xs → get_or xs i 0 ≡ suc r → 0 < times (suc r) xs
stands_at [] i r lt e = absurd (omega arith)
stands_at (y ∷ xs) zero r lt e = let o : one_if (nat_eq y (suc r)) ≡ 1 = ap one_if (eq-eqb y (suc r) e) in omega arith
stands_at (y ∷ xs) (suc i) r lt e = let s = stands_at xs i r (omega arith) e in omega arith

pub long_hangs : (v : View) (tree : ℕ) (asked : Interval) (here : ℕ) (rows : List PartRow) (hangs : List ℕ) → IsLocked v tree asked here rows hangs → length hangs ≡ length rows + 1
long_hangs v tree asked here rows hangs l =
    let a = ap (λ (xs : List ℕ). length xs) l.hangs_are in let b = ap (λ (xs : List PartRow). length xs) l.rows_are in
    let c = length-hangs_of l.sub in let d = map_long (part_row (shown v [])) (in_order (bare l.sub)) in omega arith

-- each link of a part is small
pub hang_small : (v : View) (tree : ℕ) (asked : Interval) (here : ℕ) (rows : List PartRow) (hangs : List ℕ) → IsLocked v tree asked here rows hangs → tree < v.plan.trees → (x : ℕ) → 0 < times x hangs → x ≤ rows_of v.plan
hang_small v tree asked here rows hangs l lt zero some = omega arith
hang_small v tree asked here rows hangs l lt (suc r) some = let n = names v tree asked here rows hangs l lt r some in let i = n.1 in omega arith

-- only what the view met is another
pub locked_met : (v w : View) (tree : ℕ) (asked : Interval) (here : ℕ) (rows : List PartRow) (hangs : List ℕ)
    {more : List ℕ} → OnlyMet v w → IsLockedWith v tree asked here rows hangs more → IsLockedWith w tree asked here rows hangs more
locked_met v w tree asked here rows hangs {more} m l =
    subst (λ (u : View). IsLockedWith u tree asked here rows hangs more) (sym m.0) (record {
      place = l.place;
      top = l.top;
      score = l.score;
      sub = l.sub;
      knows = on l.top l.knows;
      top_is = l.top_is;
      in_gap = l.in_gap;
      beside = l.beside;
      shows = l.shows;
      held_rows = l.held_rows;
      held_more = record { held = l.held_more.held; once = l.held_more.once; apart = l.held_more.apart };
      held_all = l.held_all;
      rows_are = l.rows_are;
      hangs_are = l.hangs_are;
      teaches = (
        l.teaches.0,
        l.teaches.1,
        record {
          forest = l.teaches.2.forest;
          contents = l.teaches.2.contents;
          shape = l.teaches.2.shape;
          agrees = l.teaches.2.agrees;
          gaps = l.teaches.2.gaps;
          licence = l.teaches.2.licence;
        },
      );
      gathers = subst IsGathering m.0 (met_gathers v w m l.gathers);
    })
  where
    on : (top : Top) → KnowsTop v tree top l.score → KnowsTop (record v { met = w.met; met_row = w.met_row; met_mark = w.met_mark }) tree top l.score
    on from_anchor k = k
    on (from_row h g) k = k

module _ (v : View) (tree : ℕ) (asked : Interval) (here : ℕ) (rows : List PartRow) (hangs : List ℕ) (l : IsLocked v tree asked here rows hangs)
    (lt : tree < v.plan.trees) (at r : ℕ) (inside : at < length hangs) (is : get_or hangs at 0 ≡ suc r) where
  pub hang_row : (r < rows_of v.plan) × (row_at v r ≡ None)
  hang_row =
      let some = stands_at hangs at r inside is in
      ((names v tree asked here rows hangs l lt r some).1, hang_free v tree asked here rows hangs l lt r some)

-- the row that hangs at a place is taken and loaded
pub record TakesHang (v w : View) (tree : ℕ) (asked : Interval) (here : ℕ) (rows : List PartRow) (hangs : List ℕ) (at r : ℕ) (words : List ℕ) : Type 0 where
  pub was : IsLocked v tree asked here rows hangs
  pub in_range : tree < v.plan.trees
  pub inside : at < length hangs
  pub is : get_or hangs at 0 ≡ suc r
  pub seizes : Seizes r v w Taken
  pub teaches : Teaches w
  pub words_is : words ≡ words_of (row_at w r)

pub took_hang : {v x w : View} {tree : ℕ} {asked : Interval} {here : ℕ} {rows : List PartRow} {hangs : List ℕ} {at r : ℕ} {words : List ℕ} (k : RowPlan)
    → tree < k.trees → v.plan ≡ k → IsLocked v tree asked here rows hangs → at < length hangs → get_or hangs at 0 ≡ suc r
    → Seizes r v x Taken → w ≡ x → words ≡ words_of (row_at x r) → Teaches x
    → TakesHang v w tree asked here rows hangs at r words
took_hang {v} {x} {w} {tree} {asked} {here} {rows} {hangs} {at} {r} {words} k lt plan l inside is s same loaded teaches = record {
  was = l;
  in_range = subst (λ (p : RowPlan). tree < p.trees) (sym plan) lt;
  inside = inside;
  is = is;
  seizes = subst (λ (u : View). Seizes r v u Taken) (sym same) s;
  teaches = subst Teaches (sym same) teaches;
  words_is = loaded ∙ ap (λ (u : View). words_of (row_at u r)) (sym same);
}

module _ {v w : View} {tree : ℕ} {asked : Interval} {here : ℕ} {rows : List PartRow} {hangs : List ℕ} {at r : ℕ} {words : List ℕ}
    (t : TakesHang v w tree asked here rows hangs at r words) where
  link : r + 1 ≡ get_or hangs at 0
  link = let e = t.is in omega arith

  wide_row : PartRow
  wide_row = record { row = r; owner = (node_of words).owner; range = (node_of words).range }

  few : at ≤ length rows
  few = let h = long_hangs v tree asked here rows hangs t.was in let i = t.inside in omega arith

  -- the rows and the hangs that the part has then
  abbrev new_rows : List PartRow
  new_rows = take at rows ++ record { row = r; owner = (node_of words).owner; range = (node_of words).range } ∷ drop at rows

  abbrev new_hangs : List ℕ
  new_hangs = take at hangs ++ (node_of words).left ∷ (node_of words).right ∷ drop (suc at) hangs

  wider_at : IsWider v tree asked here rows hangs t.was t.in_range w r (take at hangs) (drop (suc at) hangs)
      (split_at hangs at (r + 1) t.inside link) t.seizes t.teaches words new_rows new_hangs
  wider_at = record {
    ahead = take at rows;
    behind = drop at rows;
    old = sym (take-append-drop at rows);
    place_is = length-take-le at rows few ∙ sym (length-take-le at hangs (let i = t.inside in omega arith));
    new_rows = refl;
    new_hangs = refl;
  }

  row_has : HasWords w r words
  row_has = has_loaded w r t.seizes.2.0 words t.words_is (seized_has r v w t.seizes)

  pub widened_at : IsLocked w tree asked here
      (take at rows ++ record { row = r; owner = (node_of words).owner; range = (node_of words).range } ∷ drop at rows)
      (take at hangs ++ (node_of words).left ∷ (node_of words).right ∷ drop (suc at) hangs)
  widened_at =
      widened v tree asked here rows hangs t.was t.in_range w r (take at hangs) (drop (suc at) hangs)
      (split_at hangs at (r + 1) t.inside link) t.seizes t.teaches words new_rows new_hangs row_has wider_at

  plan_is : w.plan ≡ v.plan
  plan_is = ap (λ (x : View). x.plan) t.seizes.2.3 ∙ ap (λ (x : View). x.plan) t.seizes.1.0

  in_range_then : tree < w.plan.trees
  in_range_then = subst (λ k. tree < k.trees) (sym plan_is) t.in_range

  pub closed_at : IsClosed asked rows hangs → IsClosed asked
      (take at rows ++ record { row = r; owner = (node_of words).owner; range = (node_of words).range } ∷ drop at rows)
      (take at hangs ++ (node_of words).left ∷ (node_of words).right ∷ drop (suc at) hangs)
  closed_at closed =
      still_closed v tree asked here rows hangs t.was t.in_range w r (take at hangs) (drop (suc at) hangs)
      (split_at hangs at (r + 1) t.inside link) t.seizes t.teaches in_range_then words new_rows new_hangs row_has wider_at closed

  pub small_links : ((node_of words).left ≤ rows_of v.plan) × ((node_of words).right ≤ rows_of v.plan)
  small_links =
      let l' = widened_at in
      let left = (node_of words).left in let right = (node_of words).right in
      let lt' : tree < w.plan.trees = subst (λ k. tree < k.trees) (sym plan_is) t.in_range in
      let a = times-++ left (take at hangs) (left ∷ right ∷ drop (suc at) hangs) in
      let b = times-++ right (take at hangs) (left ∷ right ∷ drop (suc at) hangs) in
      let o : one_if (nat_eq left left) ≡ 1 = ap one_if (eq-eqb left left refl) in
      let o' : one_if (nat_eq right right) ≡ 1 = ap one_if (eq-eqb right right refl) in
      let k : rows_of w.plan ≡ rows_of v.plan = ap rows_of plan_is in
      let x = hang_small w tree asked here _ _ l' lt' left (omega arith) in
      let y = hang_small w tree asked here _ _ l' lt' right (omega arith) in
      (omega arith, omega arith)

  pub hang_keeps : KeepsRows v w
  hang_keeps q h =
      let some = stands_at hangs at r t.inside t.is in
      seized_else r v w t.seizes q (not_there v tree asked here rows hangs t.was t.in_range r some q h)

  pub fewer : free_rows w.held + 1 ≡ free_rows v.held
  fewer =
      let same : free_rows t.seizes.0.held ≡ free_rows v.held = ap (λ (x : View). free_rows x.held) t.seizes.1.0 in
      let entry : Row = record { words = t.seizes.2.0; image = t.seizes.2.0; gap = gap_for t.seizes.0 r } in
      let now : free_rows w.held ≡ free_rows (set t.seizes.0.held r (Some (record { words = t.seizes.2.0; image = t.seizes.2.0; gap = gap_for t.seizes.0 r }))) = ap (λ (x : View). free_rows x.held) t.seizes.2.3 in
      let f = free_take t.seizes.0.held r (record { words = t.seizes.2.0; image = t.seizes.2.0; gap = gap_for t.seizes.0 r }) (met_rows v t.seizes.0 r t.seizes.1 ∙ (hang_row v tree asked here rows hangs t.was t.in_range at r t.inside t.is).1) t.seizes.2.2 in
      omega arith

  pub longer : length (take at hangs ++ (node_of words).left ∷ (node_of words).right ∷ drop (suc at) hangs) ≡ length hangs + 1
  longer =
      let e = ap (λ (xs : List ℕ). length xs) (split_at hangs at (r + 1) t.inside link) in
      let a = length-append (take at hangs) ((r + 1) ∷ drop (suc at) hangs) in
      let b = length-append (take at hangs) ((node_of words).left ∷ (node_of words).right ∷ drop (suc at) hangs) in
      omega arith

any_default : (xs : List ℕ) (i a b : ℕ) → i < length xs → get_or xs i a ≡ get_or xs i b
any_default [] i a b lt = absurd (omega arith)
any_default (x ∷ xs) zero a b lt = refl
any_default (x ∷ xs) (suc i) a b lt = any_default xs i a b (omega arith)

pub read_at : (xs ys : List ℕ) (i x : ℕ) → ys ≡ xs → i < length xs → x ≡ get_or ys i x → x ≡ get_or xs i 0
read_at xs ys i x same lt e = e ∙ (ap (λ (l : List ℕ). get_or l i x) same ∙ any_default xs i x 0 lt)

-- the number of the row that hangs at a place, read from a list with more room
pub row_number : (xs ys : List ℕ) (i x : ℕ) → ys ≡ xs → i < length xs → x ≡ get_or ys i x → 0 < get_or xs i 0 → get_or xs i 0 ≡ suc (x - 1)
row_number xs ys i x same lt e more = let r = read_at xs ys i x same lt e in omega arith
