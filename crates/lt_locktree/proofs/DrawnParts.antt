-- What drawn images show.
use Rattle.std.proofs.Common.{◌≡◌, ℕ, inl, List, [], ◌∷◌, ◌++◌, refl, sym, ap, ◌∙◌, subst, arith}
use Rattle.lt_forest.specs.declared.part.PartRow.{PartRow}
use Rattle.lt_forest.specs.Counts.{times}
use Rattle.lt_forest.specs.Trees.{Nodes, Node, in_order}
use Rattle.lt_forest.specs.Cuts.{Cut, end, held, Shows, bare}
use Rattle.lt_forest.specs.Parts.{part_row, rows_of, numbers}
use Rattle.lt_forest.proofs.PairLists.{map_app}
use Rattle.lt_forest.proofs.SameRows.{times-++}
use Rattle.lt_rows.specs.declared.image.RowImage.{RowImage}
use Rattle.lt_rows.specs.Nodes.{node_of}
use Rattle.lt_rows.specs.Views.{planned_rows}
use Rattle.lt_locktree.specs.Drawn.{node_with, IsDrawn}
use Rattle.lt_locktree.specs.PlannedParts.{InPlan}
use Rattle.lt_locktree.proofs.PlannedRows.{in_left, in_right}

-- rows that hold what the images say show the cut, with these rows
module _ (d : Nodes) where
  pub drawn_shows : (images : List RowImage) (rows : List PartRow) (link : ℕ) (cut : Cut)
      → ((p : RowImage) → InPlan p images → d p.row ≡ node_of p.words) → IsDrawn images rows link cut
      → Shows d link cut × (rows_of d cut ≡ rows)
  drawn_shows images rows link (end l) holds drawn = (drawn.2, sym drawn.1)
  drawn_shows images rows link (held a q b) holds (xs, ys, image, images_are, rs, ss, r, rows_are, left, right, is, row_is, link_is, da, db) =
      let all : (p : RowImage) → InPlan p (xs ++ (ys ++ image ∷ [])) → d p.row ≡ node_of p.words =
      λ p h. holds p (subst (λ (l : List RowImage). InPlan p l) (sym images_are) h) in
      let at : d q ≡ node_with r left right =
      ap d (sym (is.row ∙ row_is)) ∙ (all image (in_right image xs (ys ++ image ∷ []) (in_right image ys (image ∷ []) (inl refl))) ∙ is.node) in
      let sa = drawn_shows xs rs left a (λ p h. all p (in_left p xs (ys ++ image ∷ []) h)) da in
      let sb = drawn_shows ys ss right b (λ p h. all p (in_right p xs (ys ++ image ∷ []) (in_left p ys (image ∷ []) h))) db in
      let back : q ≡ r.row = sym row_is in
      let row : part_row d q ≡ r = λ j. record { row = back j; owner = (at j).owner; range = (at j).range } in (
        (link_is, subst (λ (l : ℕ). Shows d l a) (ap (λ (n : Node). n.left) (sym at)) sa.0, subst (λ (l : ℕ). Shows d l b) (ap (λ (n : Node). n.right) (sym at)) sb.0),
        map_app (part_row d) (in_order (bare a)) (q ∷ in_order (bare b)) ∙ ((λ j. sa.1 j ++ row j ∷ sb.1 j) ∙ sym rows_are),
      )

-- and each row has one image
numbers_app : (xs ys : List PartRow) → numbers (xs ++ ys) ≡ numbers xs ++ numbers ys
numbers_app xs ys = map_app (λ (r : PartRow). r.row) xs ys

pub planned_app : (xs ys : List RowImage) → planned_rows (xs ++ ys) ≡ planned_rows xs ++ planned_rows ys
planned_app xs ys = map_app (λ (p : RowImage). p.row) xs ys

pub drawn_times : (images : List RowImage) (rows : List PartRow) (link : ℕ) (cut : Cut) (q : ℕ) → IsDrawn images rows link cut
    → times q (planned_rows images) ≡ times q (numbers rows)
drawn_times images rows link (end l) q drawn =
    ap (λ (xs : List RowImage). times q (planned_rows xs)) drawn.0 ∙ ap (λ (rs : List PartRow). times q (numbers rs)) (sym drawn.1)
drawn_times images rows link (held a k b) q (xs, ys, image, images_are, rs, ss, r, rows_are, left, right, is, row_is, link_is, da, db) =
    let ta = drawn_times xs rs left a q da in
    let tb = drawn_times ys ss right b q db in
    let one : times q (image.row ∷ []) ≡ times q (r.row ∷ []) = ap (λ (n : ℕ). times q (n ∷ [])) is.row in
    let l0 = ap (times q) (planned_app xs (ys ++ image ∷ [])) ∙ times-++ q (planned_rows xs) (planned_rows (ys ++ image ∷ [])) in
    let l1 = ap (times q) (planned_app ys (image ∷ [])) ∙ times-++ q (planned_rows ys) (image.row ∷ []) in
    let r0 = ap (times q) (numbers_app rs (r ∷ ss)) ∙ times-++ q (numbers rs) (r.row ∷ numbers ss) in
    ap (λ (l : List RowImage). times q (planned_rows l)) images_are
    ∙ (omega arith ∙ ap (λ (l : List PartRow). times q (numbers l)) (sym rows_are))
