-- The rows of a chain one by one, and their ranges.
use Rattle.std.proofs.Common.{◌≡◌, ℕ, zero, suc, ◌+◌, ◌-◌, ◌<◌, ◌≤◌, List, [], ◌∷◌, ◌++◌, length, map, take, get_or, sym, ap, ◌∙◌, arith}
use Rattle.std.proofs.lemmas.List.{take_all, take_more, map-append}
use Rattle.lt_ranges.specs.Interval.{Interval}
use Rattle.lt_forest.specs.Counts.{times}
use Rattle.lt_forest.proofs.SameRows.{one_here}
use Rattle.lt_rows.specs.declared.view.View.{View}
use Rattle.lt_rows.specs.Nodes.{node_of}
use Rattle.lt_rows.specs.Views.{row_at, words_of, IsHeld}
use Rattle.lt_rows.specs.Lawful.{shown}
use Rattle.lt_tree.specs.Puttings.{Backs}
use Rattle.lt_chain.proofs.HoldingLaws.{backs_held, backs_has}

pub at_stands : (xs : List ℕ) (i : ℕ) → i < length xs → 0 < times (get_or xs i 0) xs
at_stands [] i lt = absurd (omega arith)
at_stands (x ∷ xs) zero lt = let o = one_here x in omega arith
at_stands (x ∷ xs) (suc i) lt = let s = at_stands xs i (omega arith) in omega arith

pub last_of : (xs : List ℕ) (n : ℕ) → 0 < n → n ≤ length xs → take n xs ≡ take (n - 1) xs ++ get_or xs (n - 1) 0 ∷ []
last_of xs n ne le = ap (λ (m : ℕ). take m xs) (let e : n ≡ (n - 1) + 1 = omega arith in e) ∙ take_more xs (n - 1) 0 (omega arith)

-- the range of a row
abbrev pub range_in : View → ℕ → Interval
range_in v q = (shown v [] q).range

module _ (v : View) (tree : ℕ) (rows : List ℕ) (b : Backs v (tree ∷ rows)) where
  pub row_held : (n : ℕ) → n < length rows → IsHeld v (get_or rows n 0)
  row_held n lt = let s = at_stands rows n lt in backs_held v (tree ∷ rows) b (get_or rows n 0) (omega arith)

  -- one row more is loaded
  pub ranges_on : (n : ℕ) (ws : List ℕ) (range : Interval) (ranges more : List Interval) → n < length rows
      → ws ≡ words_of (row_at v (get_or rows n 0)) → range ≡ (node_of ws).range → more ≡ ranges ++ range ∷ []
      → ranges ≡ map (range_in v) (take n rows) → more ≡ map (range_in v) (take (n + 1) rows)
  ranges_on n ws range ranges more lt loaded range_is more_is so_far =
      let s = at_stands rows n lt in
      let h = backs_has v (tree ∷ rows) b (get_or rows n 0) (omega arith) ws loaded in
      let is : range ≡ range_in v (get_or rows n 0) = range_is ∙ ap (λ (l : List ℕ). (node_of l).range) (sym h.2) in
      more_is ∙ ((λ i. so_far i ++ is i ∷ [])
      ∙ (sym (map-append (range_in v) (take n rows) (get_or rows n 0 ∷ [])) ∙ ap (map (range_in v)) (sym (take_more rows n 0 lt))))

  pub ranges_end : (n : ℕ) (ranges : List Interval) → length rows ≤ n → ranges ≡ map (range_in v) (take n rows)
      → ranges ≡ map (range_in v) rows
  ranges_end n ranges all so_far = so_far ∙ ap (map (range_in v)) (take_all n rows all)
