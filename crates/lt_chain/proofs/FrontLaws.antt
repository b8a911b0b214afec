-- The pool's anchor and its first row, taken.
use Rattle.std.proofs.Common.{◌≡◌, ◌≢◌, ℕ, ◌+◌, ◌-◌, ◌<◌, true, List, [], ◌∷◌, sym, ap, ◌∙◌, subst, arith}
use Rattle.std.specs.Prelude.{slice_index}
use Rattle.lt_forest.specs.Counts.{times}
use Rattle.lt_forest.specs.Views.{IsIn}
use Rattle.lt_forest.proofs.SameRows.{one_here}
use Rattle.lt_rows.specs.declared.row_plan.RowPlan.{RowPlan}
use Rattle.lt_rows.specs.declared.view.View.{View}
use Rattle.lt_rows.specs.declared.take.Take.TheVariants.{Taken}
use Rattle.lt_rows.specs.Nodes.{node_of}
use Rattle.lt_rows.specs.Views.{row_at, rows_of, words_of, images, has}
use Rattle.lt_rows.specs.Teaching.{Teaches}
use Rattle.lt_rows.proofs.Lessons.{vacant}
use Rattle.lt_rows.proofs.Views.{link_read}
use Rattle.lt_tree.specs.States.{Seizes, HasWords}
use Rattle.lt_tree.specs.Puttings.{Backs}
use Rattle.lt_tree.proofs.ViewLaws.{seized_else}
use Rattle.lt_chain.specs.declared.images.Images.{Images}
use Rattle.lt_chain.specs.Images.{HasImages, HoldsThree}
use Rattle.lt_chain.proofs.HoldingLaws.{one_else, backs_out, backs_has, backs_taken}

pub pool_row : (k : RowPlan) → k.trees < rows_of k
unfolding rows_of
pool_row k = omega arith

-- the first vacant row, as a licensed pass reads it off the pool's anchor
pub first_vacant : (k : RowPlan) (v : View) (rows ws : List ℕ) (l : ℕ) → Backs v rows → 0 < times k.trees rows → v.plan ≡ k → v.licensed ≡ true → Teaches v → ws ≡ words_of (row_at v k.trees)
    → l ≡ (node_of ws).left → (l ≢ 0) × (k.trees < l - 1) × (l - 1 < rows_of k)
unfolding node_of
first_vacant k v rows ws l b more plan_is licensed teaches is link_is =
    let h = backs_has v rows b k.trees more ws is in
    let row = b.keeps.held k.trees more in
    let trees : v.plan.trees ≡ k.trees = ap (λ (p : RowPlan). p.trees) plan_is in
    let found = vacant v teaches.0 teaches.2 licensed (subst (λ (t : ℕ). IsIn (has v) t) (sym trees) h.0) in
    let link : slice_index (images v v.plan.trees) 17 ≡ found.0 + 1 = found.1 in
    let same : slice_index (images v v.plan.trees) 17 ≡ slice_index ws 17 = ap (λ (t : ℕ). slice_index (images v t) 17) trees ∙ ap (λ (l : List ℕ). slice_index l 17) h.2 in
    let some : slice_index ws 17 ≢ 0 = (λ z. omega arith) in
    let far = link_read k v k.trees ws ws (omega arith) plan_is teaches (row.0, row.1, sym (is ∙ ap words_of row.1), sym (b.keeps.gathers k.trees row.0 row.1) ∙ sym (is ∙ ap words_of row.1)) is some in
    let more' = far.0 in let less = far.1 in
    (λ z. some (sym link_is ∙ z), omega arith, omega arith)

module _ (k : RowPlan) (tree first : ℕ) (lt : tree < k.trees) (further : k.trees < first) where
  pub pool_apart : times k.trees (tree ∷ []) ≡ 0
  pool_apart = let z = one_else k.trees tree (λ e. omega arith) in omega arith

  pub first_apart : times first (k.trees ∷ tree ∷ []) ≡ 0
  first_apart =
      let z = one_else first tree (λ e. omega arith) in
      let y = one_else first k.trees (λ e. omega arith) in
      omega arith

  abbrev these : List ℕ
  these = first ∷ k.trees ∷ tree ∷ []

  three_taken : (v w : View) → Seizes first v w Taken → Backs v (k.trees ∷ tree ∷ []) → Backs w (first ∷ k.trees ∷ tree ∷ [])
  three_taken v w s b = backs_taken first v w (k.trees ∷ tree ∷ []) s first_apart b

  -- the three rows, as they were loaded
  pub three_held : (v w : View) (i : Images) → Seizes first v w Taken → Backs v (k.trees ∷ tree ∷ [])
      → i.anchor.row ≡ tree → i.pool.row ≡ k.trees → i.row.row ≡ first
      → i.pool.words ≡ words_of (row_at v k.trees) → i.anchor.words ≡ words_of (row_at w tree) → i.row.words ≡ words_of (row_at w first)
      → HasImages k w tree i × HoldsThree w i
  three_held v w i s b anchor_row pool_row row_is pool_words anchor_words row_words =
      let t = three_taken v w s b in
      let a = one_here tree in let p = one_here k.trees in let f = one_here first in
      let pool_same : words_of (row_at v k.trees) ≡ words_of (row_at w k.trees) = ap words_of (sym (seized_else first v w s k.trees (λ e. omega arith))) in (
        record {
          anchor = subst (λ (n : ℕ). HasWords w n i.anchor.words) (sym anchor_row) (backs_has w (first ∷ k.trees ∷ tree ∷ []) t tree (omega arith) i.anchor.words anchor_words);
          pool = subst (λ (n : ℕ). HasWords w n i.pool.words) (sym pool_row) (backs_has w (first ∷ k.trees ∷ tree ∷ []) t k.trees (omega arith) i.pool.words (pool_words ∙ pool_same));
          row = subst (λ (n : ℕ). HasWords w n i.row.words) (sym row_is) (backs_has w (first ∷ k.trees ∷ tree ∷ []) t first (omega arith) i.row.words row_words);
          anchor_row = anchor_row;
          pool_row = pool_row;
          further = subst (λ (n : ℕ). k.trees < n) (sym row_is) further;
        },
        λ q na np nr. backs_out w (first ∷ k.trees ∷ tree ∷ []) t q
            (let x = one_else q first (λ e. nr (e ∙ sym row_is)) in
            let y = one_else q k.trees (λ e. np (e ∙ sym pool_row)) in
            let z = one_else q tree (λ e. na (e ∙ sym anchor_row)) in
            omega arith),
      )
