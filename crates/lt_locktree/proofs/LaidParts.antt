-- The plan of a part's rows shows the part laid anew.
use Rattle.std.proofs.Common.{◌≡◌, ℕ, ◌+◌, ◌<◌, ◌≤◌, inl, Bool, true, false, List, [], ◌∷◌, ◌++◌, refl, sym, ap, ◌∙◌, subst, arith, eq-eqb}
use Rattle.std.specs.Prelude.{nat_eq, not}
use Rattle.lt_ranges.specs.Key.{key_le}
use Rattle.lt_ranges.specs.Interval.{Interval, IsInterval, before}
use Rattle.lt_ranges.proofs.KeyLaws.{le_trans}
use Rattle.lt_forest.specs.declared.part.PartRow.{PartRow}
use Rattle.lt_forest.specs.Counts.{one_if, times}
use Rattle.lt_forest.specs.Trees.{Nodes, Node, in_order}
use Rattle.lt_forest.specs.Cuts.{Shows, bare}
use Rattle.lt_forest.specs.Parts.{rows_of, numbers}
use Rattle.lt_forest.specs.Views.{IsIn}
use Rattle.lt_forest.proofs.SameRows.{times-++}
use Rattle.lt_rows.specs.declared.view.View.{View}
use Rattle.lt_rows.specs.declared.image.RowImage.{RowImage}
use Rattle.lt_rows.specs.Nodes.{node_of, mode_of}
use Rattle.lt_rows.specs.Views.{has, words_of, image_of, images, planned_contents, planned_rows}
use Rattle.lt_rows.specs.Lawful.{shown, shown_after, mode_after}
use Rattle.lt_rows.proofs.Planned.{held_row}
use Rattle.lt_tree.specs.Gathers.{Place, below_top, on_left, on_right, link_at, around, TopIs, Beside, IsLockedWith}
use Rattle.lt_locktree.specs.PlannedParts.{InPlan, hangs_left, relinked, PlansRows, IsLoaded, ShowsRow}
use Rattle.lt_locktree.specs.Relaid.{StaysBeside, LaysPart}
use Rattle.lt_locktree.specs.RelaidRows.{RowStays, LaysRows}
use Rattle.lt_locktree.proofs.HeldParts.{row_further}
use Rattle.lt_locktree.proofs.PlannedRows.{planned_at_row, in_left, in_right}
use Rattle.lt_locktree.proofs.DrawnParts.{drawn_shows, drawn_times, planned_app}
use Rattle.lt_locktree.proofs.Relinks.{left_set, right_set, mode_same, relinked_left, relinked_right, left_as_anchor, left_as_before, right_as_behind}

not_true : (b : Bool) → b ≡ true → not b ≡ false
not_true b e = ap (λ (x : Bool). not x) e

module _ (v : View) (tree : ℕ) (asked : Interval) (here : ℕ) (rows : List PartRow) (hangs more : List ℕ)
    (l : IsLockedWith v tree asked here rows hangs more) (lt : tree < v.plan.trees) (interval : IsInterval asked) where
  -- the words that were loaded are those that count
  pub loaded_at : (q : ℕ) (image : RowImage) → IsIn (has v) q → IsLoaded v q image → images v q ≡ image.words
  loaded_at q image is loaded =
      let found = held_row v q is in
      ap image_of found.1 ∙ (sym (l.gathers q found.0 found.1) ∙ (sym (ap words_of found.1) ∙ sym loaded.words))

  pub loaded_image : (stays : RowImage) → IsLoaded v here stays → images v here ≡ stays.words
  loaded_image stays loaded =
      let o : one_if (nat_eq here here) ≡ 1 = ap one_if (eq-eqb here here refl) in
      loaded_at here stays (l.held_rows here (omega arith)) loaded

  -- and so the row that stays is shown by its image
  pub seen_loaded : (stays : RowImage) → IsLoaded v here stays → ShowsRow v here stays
  seen_loaded stays loaded = record { row = loaded.row; node = ap node_of (loaded_image stays loaded); long = loaded.long }

  module _ (stays : RowImage) (loaded : ShowsRow v here stays) (others plan : List RowImage) (new_rows : List PartRow) (new_hangs : List ℕ)
      (plans : PlansRows tree asked stays others plan new_rows new_hangs)
      (once : (q : ℕ) → times q (planned_rows others) + times q (numbers new_rows) + times q (here ∷ []) ≤ 1) where
    abbrev d : Nodes
    d = shown_after v plan

    abbrev last_one : RowImage
    last_one = relinked tree asked stays plans.link

    abbrev added : List RowImage
    added = plans.draws.added

    plan_is : plan ≡ (others ++ added) ++ last_one ∷ []
    plan_is = plans.plan_is ∙ ap (λ (xs : List RowImage). xs ++ last_one ∷ []) plans.draws.images_are

    pub plan_times : (q : ℕ) → times q (planned_rows plan) ≡ times q (planned_rows others) + times q (numbers new_rows) + times q (here ∷ [])
    plan_times q =
        let a = ap (λ (xs : List RowImage). times q (planned_rows xs)) plan_is in
        let b = ap (times q) (planned_app (others ++ added) (last_one ∷ [])) ∙ times-++ q (planned_rows (others ++ added)) (stays.row ∷ []) in
        let e = ap (times q) (planned_app others added) ∙ times-++ q (planned_rows others) (planned_rows added) in
        let f = drawn_times added new_rows plans.link plans.draws.cut q plans.draws.drawn in
        let g : times q (stays.row ∷ []) ≡ times q (here ∷ []) = ap (λ (n : ℕ). times q (n ∷ [])) loaded.row in
        omega arith

    once_planned : (q : ℕ) → times q (planned_rows plan) ≤ 1
    once_planned q = let a = plan_times q in let b = once q in omega arith

    -- each image of the plan is what counts after it
    pub planned_image : (p : RowImage) → InPlan p plan → planned_contents (images v) plan p.row ≡ p.words
    planned_image p h = planned_at_row (images v) plan p h once_planned

    pub other_planned : (p : RowImage) → InPlan p others → InPlan p plan
    other_planned p h =
        subst (λ (xs : List RowImage). InPlan p xs) (sym plan_is)
        (in_left p (others ++ added) (last_one ∷ []) (in_left p others added h))

    drawn_planned : (p : RowImage) → InPlan p added → d p.row ≡ node_of p.words
    drawn_planned p h =
        ap node_of
        (planned_image p (subst (λ (xs : List RowImage). InPlan p xs) (sym plan_is)
        (in_left p (others ++ added) (last_one ∷ []) (in_right p others added h))))

    here_planned : planned_contents (images v) plan here ≡ last_one.words
    here_planned =
        ap (planned_contents (images v) plan) (sym loaded.row)
        ∙ planned_image last_one (subst (λ (xs : List RowImage). InPlan last_one xs) (sym plan_is)
        (in_right last_one (others ++ added) (last_one ∷ []) (inl refl)))

    was : shown v [] here ≡ node_of stays.words
    was = loaded.node

    now_left : hangs_left tree asked stays ≡ true
        → d here ≡ record { owner = (node_of stays.words).owner; range = (node_of stays.words).range; left = plans.link; right = (node_of stays.words).right }
    now_left e = ap node_of (here_planned ∙ relinked_left tree asked stays plans.link e) ∙ left_set stays.words plans.link loaded.long

    now_right : hangs_left tree asked stays ≡ false
        → d here ≡ record { owner = (node_of stays.words).owner; range = (node_of stays.words).range; left = (node_of stays.words).left; right = plans.link }
    now_right e = ap node_of (here_planned ∙ relinked_right tree asked stays plans.link e) ∙ right_set stays.words plans.link loaded.long

    range_is : (shown v [] here).range ≡ (node_of stays.words).range
    range_is = ap (λ (n : Node). n.range) was

    on_left_side : Beside on_left asked (shown v [] here).range → hangs_left tree asked stays ≡ true
    on_left_side b = left_as_before tree asked stays (subst (λ (r : Interval). before asked r ≡ true) range_is b.0)

    on_right_side : Beside on_right asked (shown v [] here).range → v.plan.trees < here → hangs_left tree asked stays ≡ false
    on_right_side b far =
        let r = (node_of stays.words).range in
        let low : key_le r.left asked.left ≡ true = subst (λ (i : Interval). key_le i.left asked.left ≡ true) range_is b.1 in
        right_as_behind tree asked stays (λ e. let f = loaded.row in omega arith)
        (not_true (key_le r.left asked.right) (le_trans r.left asked.left asked.right low interval))

    new_shows : Shows d plans.link plans.draws.cut × (rows_of d plans.draws.cut ≡ new_rows)
    new_shows = drawn_shows d added new_rows plans.link plans.draws.cut drawn_planned plans.draws.drawn

    link_is : (p : Place) → TopIs p tree here l.top → (p ≡ on_right → v.plan.trees < here) → Beside p asked (shown v [] here).range
        → (link_at p (d here) ≡ plans.link) × RowStays v plan here p
    link_is below_top is far b = (ap (λ (n : Node). n.left) (now_left (left_as_anchor tree asked stays (loaded.row ∙ is.0))), tt)
    link_is on_left is far b =
        let left = on_left_side b in (
          ap (λ (n : Node). n.left) (now_left left),
          (
            ap (λ (n : Node). record { owner = n.owner; range = n.range }) was ∙ sym (ap (λ (n : Node). record { owner = n.owner; range = n.range }) (now_left left)),
            ap (λ (n : Node). n.right) was ∙ sym (ap (λ (n : Node). n.right) (now_left left)),
          ),
        )
    link_is on_right is far b =
        let right = on_right_side b (far refl) in (
          ap (λ (n : Node). n.right) (now_right right),
          (
            ap (λ (n : Node). record { owner = n.owner; range = n.range }) was ∙ sym (ap (λ (n : Node). record { owner = n.owner; range = n.range }) (now_right right)),
            ap (λ (n : Node). n.left) was ∙ sym (ap (λ (n : Node). n.left) (now_right right)),
          ),
        )

    far_right : l.place ≡ on_right → v.plan.trees < here
    far_right e =
        (row_further v tree asked here rows hangs more l lt here
        (subst (λ (p : Place). 0 < times here (in_order (bare (around p here (shown v [] here) l.sub)))) (sym e)
        (let o : one_if (nat_eq here here) ≡ 1 = ap one_if (eq-eqb here here refl) in omega arith))).0

    pub laid_rows : LaysRows v plan l.place here new_rows new_hangs
    laid_rows =
        let at = link_is l.place l.top_is far_right l.beside in
        record {
          new = plans.draws.cut;
          shows = subst (λ (n : ℕ). Shows d n plans.draws.cut) (sym at.0) new_shows.0;
          rows_are = new_shows.1;
          hangs_are = plans.draws.hangs_are;
          beside = at.1;
        }

    -- an anchor that stays gets the mode of its image
    pub anchor_gets : l.place ≡ below_top → mode_after v plan here ≡ mode_of stays.words
    anchor_gets at =
        let is = subst (λ (p : Place). TopIs p tree here l.top) at l.top_is in
        ap mode_of (here_planned ∙ relinked_left tree asked stays plans.link (left_as_anchor tree asked stays (loaded.row ∙ is.0)))
        ∙ mode_same stays.words plans.link

  -- where the image is as loaded, the anchor keeps its mode
  module _ (stays : RowImage) (loaded : IsLoaded v here stays) (others plan : List RowImage) (new_rows : List PartRow) (new_hangs : List ℕ)
      (plans : PlansRows tree asked stays others plan new_rows new_hangs)
      (once : (q : ℕ) → times q (planned_rows others) + times q (numbers new_rows) + times q (here ∷ []) ≤ 1) where
    beside_by : (p : Place) → l.place ≡ p → RowStays v plan here p → StaysBeside v plan here p
    beside_by below_top at b =
        anchor_gets stays (seen_loaded stays loaded) others plan new_rows new_hangs plans once at ∙ ap mode_of (sym (loaded_image stays loaded))
    beside_by on_left at b = b
    beside_by on_right at b = b

    pub laid_part : LaysPart v plan l.place here new_rows new_hangs
    laid_part =
        let laid = laid_rows stays (seen_loaded stays loaded) others plan new_rows new_hangs plans once in
        record {
          new = laid.new;
          shows = laid.shows;
          rows_are = laid.rows_are;
          hangs_are = laid.hangs_are;
          beside = beside_by l.place refl laid.beside;
        }
