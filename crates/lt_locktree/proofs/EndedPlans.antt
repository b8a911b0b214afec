-- A plan of a whole tree's rows and its anchor lays a buffer's pairs out.
use Rattle.std.proofs.Common.{◌≡◌, ℕ, zero, suc, ◌+◌, ◌<◌, ◌≤◌, inl, inr, List, [], ◌∷◌}
use Rattle.std.proofs.Common.{◌++◌, length, set, refl, sym, ap, ◌∙◌, subst, arith, ne_eqb, get_or-set_other, get_or-set_same, length-set}
use Rattle.std.specs.Prelude.{nat_eq, replicate, slice_index}
use Rattle.lt_ranges.specs.Interval.{Interval}
use Rattle.lt_seq.specs.declared.event.Mode.TheVariants.{Tree as TreeMode, Buffer}
use Rattle.lt_forest.specs.declared.part.PartRow.{PartRow}
use Rattle.lt_forest.specs.Counts.{one_if, times}
use Rattle.lt_forest.specs.Forest.{IsRun}
use Rattle.lt_forest.specs.Trees.{Node}
use Rattle.lt_forest.specs.Cuts.{Cut, end, held, Shows, links}
use Rattle.lt_forest.specs.Parts.{hangs_of, numbers}
use Rattle.lt_forest.specs.Views.{IsIn, AllHeld, no_pool, from_pool}
use Rattle.lt_forest.proofs.SameRows.{times-++, one_here}
use Rattle.lt_rows.specs.declared.image.RowImage.{RowImage}
use Rattle.lt_rows.specs.declared.view.View.{View}
use Rattle.lt_rows.specs.Nodes.{node_of, mode_of, mode_by}
use Rattle.lt_rows.specs.Views.{has, words_of, image_of, images, planned_contents, planned_rows}
use Rattle.lt_rows.specs.Lawful.{shown, shown_after, mode_after}
use Rattle.lt_rows.proofs.Planned.{row_held}
use Rattle.lt_rows.proofs.ThreeRows.{is_left, link_left}
use Rattle.lt_tree.specs.Puttings.{Keeps}
use Rattle.lt_chain.proofs.DropLaws.{ended_here, pool_out}
use Rattle.lt_locktree.specs.Endings.{LaysTree}
use Rattle.lt_locktree.specs.EndingPlans.{as_tree, PlansTree, KeptPlanLaysOut, GivenPlanLaysOut, TakenPlanLaysOut}
use Rattle.lt_locktree.specs.Given.{given_to}
use Rattle.lt_locktree.specs.LawsOfPlans.{taken_from}
use Rattle.lt_locktree.specs.PlannedParts.{InPlan, relinked, IsLoaded}
use Rattle.lt_locktree.proofs.DrawnParts.{drawn_shows, drawn_times, planned_app}
use Rattle.lt_locktree.proofs.MergedPlans.{chained_times, chained_run}
use Rattle.lt_locktree.proofs.PlannedRows.{planned_at_row, in_left, in_right}
use Rattle.lt_locktree.proofs.Relinks.{mode_same, relinked_left, left_as_anchor}

-- where all that hangs is 0, nothing does

zeros_only : (n q : ℕ) → times (suc q) (replicate n 0) ≡ 0
zeros_only zero q = refl
zeros_only (suc n) q =
    let z : one_if (nat_eq 0 (suc q)) ≡ 0 = ap one_if (ne_eqb 0 (suc q) (λ e. omega arith)) in
    let t = zeros_only n q in omega arith

no_links : (cut : Cut) → ((q : ℕ) → times (suc q) (hangs_of cut) ≡ 0) → links cut ≡ []
no_links (end zero) none = refl
no_links (end (suc l)) none = absurd (let z = none l in let o = one_here (suc l) in omega arith)
no_links (held a r b) none =
    let left = no_links a (λ q. let z = none q in let t = times-++ (suc q) (hangs_of a) (hangs_of b) in omega arith) in
    let right = no_links b (λ q. let z = none q in let t = times-++ (suc q) (hangs_of a) (hangs_of b) in omega arith) in
    λ j. left j ++ right j

-- the anchor's image has the mode of a tree
tree_mode : (ws : List ℕ) (score : ℕ) → length ws ≡ 21 → mode_of (set (set (set ws 0 0) 19 score) 20 0) ≡ TreeMode score
unfolding mode_of
tree_mode ws score long =
    let xs : List ℕ = set ws 0 0 in
    let ys : List ℕ = set xs 19 score in
    let x : length xs ≡ 21 = length-set ws 0 0 ∙ long in
    let owner = get_or-set_other ys 20 0 0 0 (λ e. omega arith) ∙ (get_or-set_other xs 19 0 score 0 (λ e. omega arith) ∙ get_or-set_same ws 0 0 0 (omega arith)) in
    let is = get_or-set_other ys 20 19 0 0 (λ e. omega arith) ∙ get_or-set_same xs 19 score 0 (omega arith) in
    λ j. mode_by (nat_eq (owner j) 0) (TreeMode (is j)) (Buffer (owner j) (slice_index (set ys 20 0) 20))

as_tree_long : (anchor : RowImage) (score : ℕ) → length anchor.words ≡ 21 → length (as_tree anchor score).words ≡ 21
as_tree_long anchor score long =
    length-set (set (set anchor.words 0 0) 19 score) 20 0 ∙ (length-set (set anchor.words 0 0) 19 score ∙ (length-set anchor.words 0 0 ∙ long))

module _ (v : View) (tree : ℕ) (asked : Interval) (anchor : RowImage) (score : ℕ) (others : List RowImage) (plan : List RowImage)
    (rows : List PartRow) (loaded : IsLoaded v tree anchor) (plans : PlansTree tree asked anchor score others plan rows)
    (once : (q : ℕ) → times q (planned_rows others) + times q (numbers rows) + times q (tree ∷ []) ≤ 1) where
  abbrev stays : RowImage
  stays = as_tree anchor score

  abbrev last_one : RowImage
  last_one = relinked tree asked stays plans.link

  abbrev added : List RowImage
  added = plans.draws.added

  plan_is : plan ≡ (others ++ added) ++ last_one ∷ []
  plan_is = plans.plan_is ∙ ap (λ (xs : List RowImage). xs ++ last_one ∷ []) plans.draws.images_are

  tree_times : (q : ℕ) → times q (planned_rows plan) ≡ times q (planned_rows others) + times q (numbers rows) + times q (tree ∷ [])
  tree_times q =
      let a = ap (λ (xs : List RowImage). times q (planned_rows xs)) plan_is in
      let b = ap (times q) (planned_app (others ++ added) (last_one ∷ [])) ∙ times-++ q (planned_rows (others ++ added)) (anchor.row ∷ []) in
      let e = ap (times q) (planned_app others added) ∙ times-++ q (planned_rows others) (planned_rows added) in
      let f = drawn_times added rows plans.link plans.draws.cut q plans.draws.drawn in
      let g : times q (anchor.row ∷ []) ≡ times q (tree ∷ []) = ap (λ (n : ℕ). times q (n ∷ [])) loaded.row in
      omega arith

  planned_here : (p : RowImage) → InPlan p ((others ++ added) ++ last_one ∷ []) → planned_contents (images v) plan p.row ≡ p.words
  planned_here p h =
      planned_at_row (images v) plan p (subst (λ (xs : List RowImage). InPlan p xs) (sym plan_is) h)
      (λ q. let a = tree_times q in let b = once q in omega arith)

  -- each other image counts
  other_node : (p : RowImage) → InPlan p others → shown_after v plan p.row ≡ node_of p.words
  other_node p h = ap node_of (planned_here p (in_left p (others ++ added) (last_one ∷ []) (in_left p others added h)))

  drawn_node : (p : RowImage) → InPlan p added → shown_after v plan p.row ≡ node_of p.words
  drawn_node p h = ap node_of (planned_here p (in_left p (others ++ added) (last_one ∷ []) (in_right p others added h)))

  -- and the anchor's
  anchor_after : planned_contents (images v) plan tree ≡ set stays.words 17 plans.link
  anchor_after =
      ap (planned_contents (images v) plan) (sym loaded.row)
      ∙ (planned_here last_one (in_right last_one (others ++ added) (last_one ∷ []) (inl refl))
      ∙ relinked_left tree asked stays plans.link (left_as_anchor tree asked stays loaded.row))

  top_link : (shown_after v plan tree).left ≡ plans.link
  top_link = ap (λ (ws : List ℕ). (node_of ws).left) anchor_after ∙ link_left stays.words plans.link (as_tree_long anchor score loaded.long)

  lays_tree : LaysTree v plan tree rows
  lays_tree =
      let shows = drawn_shows (shown_after v plan) added rows plans.link plans.draws.cut drawn_node plans.draws.drawn in
      record {
        new = plans.draws.cut;
        shows = subst (λ (n : ℕ). Shows (shown_after v plan) n plans.draws.cut) (sym top_link) shows.0;
        no_hangs = no_links plans.draws.cut
            (λ q. ap (times (suc q)) plans.draws.hangs_are ∙ zeros_only (length rows + 1) q);
        rows_are = shows.1;
      }

  tree_mode_after : mode_after v plan tree ≡ TreeMode score
  tree_mode_after = ap mode_of anchor_after ∙ (mode_same stays.words plans.link ∙ tree_mode anchor.words score loaded.long)

-- the rows that are kept are held, and the words that were loaded of them are those that count

kept_held : (v : View) (rows : List ℕ) → Keeps v rows → AllHeld (IsIn (has v)) rows
kept_held v rows k q some = let r = k.held q some in row_held v q r.0 r.1

pub loaded_link : (v : View) (rows : List ℕ) (q : ℕ) (image : RowImage) → Keeps v rows → 0 < times q rows → IsLoaded v q image
    → (shown v [] q).left ≡ slice_index image.words 17
loaded_link v rows q image k some loaded =
    let r = k.held q some in
    let words : images v q ≡ image.words =
    ap image_of r.1 ∙ (sym (k.gathers q r.0 r.1) ∙ (sym (ap words_of r.1) ∙ sym loaded.words)) in
    ap (λ (ws : List ℕ). (node_of ws).left) words ∙ is_left image.words

pub kept_plan_lays_out : KeptPlanLaysOut
kept_plan_lays_out v tree asked anchor score olds rows plan h teaches lt loaded over plans =
    let once : (q : ℕ) → 0 + times q (numbers rows) + times q (tree ∷ []) ≤ 1 =
    λ q. let b = h.backs.keeps.once q in let o = over.each q in omega arith in
    let counts = tree_times v tree asked anchor score [] plan rows loaded plans once in
    record {
      lays = lays_tree v tree asked anchor score [] plan rows loaded plans once;
      mode = tree_mode_after v tree asked anchor score [] plan rows loaded plans once;
      pool = no_pool refl refl
          (let c = counts v.plan.trees in let o = over.each v.plan.trees in
          let out = pool_out v.plan tree olds lt (ended_here v tree olds lt h teaches) in omega arith);
      only = λ q none. let c = counts q in let o = over.each q in let t = times-++ q olds [] in omega arith;
    }

pub given_plan_lays_out : GivenPlanLaysOut
given_plan_lays_out v tree asked anchor pool score olds rows over given link plan keeps loaded pool_loaded chained take plans =
    let others : List RowImage = given_to pool link ∷ given in
    let last : ℕ = slice_index pool.words 17 in
    let held = kept_held v (v.plan.trees ∷ tree ∷ olds) keeps in
    let many : (q : ℕ) → times q (planned_rows others) ≡ times q (v.plan.trees ∷ []) + times q (numbers over) =
    λ q. (let e = chained_times given link over last q chained in
    let p : times q (pool.row ∷ []) ≡ times q (v.plan.trees ∷ []) = ap (λ (n : ℕ). times q (n ∷ [])) pool_loaded.row in omega arith) in
    let once : (q : ℕ) → times q (planned_rows others) + times q (numbers rows) + times q (tree ∷ []) ≤ 1 =
    λ q. let b = keeps.once q in let o = take.each q in let m = many q in omega arith in
    let counts = tree_times v tree asked anchor score others plan rows loaded plans once in
    let node = other_node v tree asked anchor score others plan rows loaded plans once in
    let pool_some : 0 < times v.plan.trees (v.plan.trees ∷ tree ∷ olds) = (let o = one_here v.plan.trees in omega arith) in
    let top : (shown_after v plan v.plan.trees).left ≡ link =
    ap (λ (n : ℕ). (shown_after v plan n).left) (sym pool_loaded.row)
    ∙ (ap (λ (n : Node). n.left) (node (given_to pool link) (inl refl)) ∙ link_left pool.words link pool_loaded.long) in
    record {
      lays = lays_tree v tree asked anchor score others plan rows loaded plans once;
      mode = tree_mode_after v tree asked anchor score others plan rows loaded plans once;
      pool = from_pool (held v.plan.trees pool_some)
          (λ q some. absurd (omega arith))
          (λ q some. held q (let o = take.each q in omega arith))
          record {
            rest = last;
            takes = loaded_link v (v.plan.trees ∷ tree ∷ olds) v.plan.trees pool keeps pool_some pool_loaded;
            gives = subst (λ (n : ℕ). IsRun (shown_after v plan) n (numbers over) last) (sym top)
                (chained_run (shown_after v plan) given link over last (λ p h. node p (inr h)) chained);
          };
      only = λ q none. let c = counts q in let o = take.each q in let m = many q in let t = times-++ q olds [] in omega arith;
    }

pub taken_plan_lays_out : TakenPlanLaysOut
taken_plan_lays_out v tree asked anchor pool vacant score olds rows plan keeps first loaded pool_loaded vacant_loaded take plans =
    let others : List RowImage = taken_from pool vacant ∷ [] in
    let all : List ℕ = vacant.row ∷ v.plan.trees ∷ tree ∷ olds in
    let held = kept_held v all keeps in
    let many : (q : ℕ) → times q (planned_rows others) ≡ times q (v.plan.trees ∷ []) =
    λ q. ap (λ (n : ℕ). times q (n ∷ [])) pool_loaded.row in
    let once : (q : ℕ) → times q (planned_rows others) + times q (numbers rows) + times q (tree ∷ []) ≤ 1 =
    λ q. let b = keeps.once q in let o = take.each q in let m = many q in omega arith in
    let counts = tree_times v tree asked anchor score others plan rows loaded plans once in
    let node = other_node v tree asked anchor score others plan rows loaded plans once in
    let pool_some : 0 < times v.plan.trees all = (let o = one_here v.plan.trees in omega arith) in
    let vacant_some : 0 < times vacant.row all = (let o = one_here vacant.row in omega arith) in
    record {
      lays = lays_tree v tree asked anchor score others plan rows loaded plans once;
      mode = tree_mode_after v tree asked anchor score others plan rows loaded plans once;
      pool = from_pool (held v.plan.trees pool_some)
          (λ q some. held q (omega arith))
          (λ q some. absurd (omega arith))
          record {
            rest = slice_index vacant.words 17;
            takes = (
              loaded_link v all v.plan.trees pool keeps pool_some pool_loaded ∙ first,
              loaded_link v all vacant.row vacant keeps vacant_some vacant_loaded,
            );
            gives = ap (λ (n : ℕ). (shown_after v plan n).left) (sym pool_loaded.row)
                ∙ (ap (λ (n : Node). n.left) (node (taken_from pool vacant) (inl refl))
                ∙ link_left pool.words (slice_index vacant.words 17) pool_loaded.long);
          };
      only = λ q none. let c = counts q in let o = take.each q in let m = many q in let t = times-++ q olds (vacant.row ∷ []) in omega arith;
    }
