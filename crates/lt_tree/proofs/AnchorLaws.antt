-- What is read off a tree's anchor.
use Rattle.std.proofs.Common.{◌≡◌, inl, inr, ℕ, ◌<◌, ◌≤◌, Bool, true, false, List, [], get_or, refl, sym, ap, ◌∙◌, arith, true≢false}
use Rattle.std.proofs.Math.Logic.{∥∥₁_elim}
use Rattle.std.proofs.Props.{props}
use Rattle.std.specs.Prelude.{nat_eq}
use borrow.Author.Tests.{eqb-true}
use Rattle.lt_seq.specs.declared.event.Mode.TheVariants.{Tree as TreeMode, Buffer}
use Rattle.lt_forest.specs.Links.{left_of, link_in}
use Rattle.lt_rows.specs.declared.view.View.{View}
use Rattle.lt_rows.specs.declared.image.RowImage.{RowImage}
use Rattle.lt_rows.specs.Nodes.{node_of, mode_of, mode_by}
use Rattle.lt_rows.specs.Views.{rows_of}
use Rattle.lt_rows.specs.Lawful.{shown}
use Rattle.lt_rows.specs.Teaching.{Teaches}
use Rattle.lt_rows.proofs.Lessons.{names_further, of_anchor}
use Rattle.lt_tree.specs.States.{IsPrepared}
use Rattle.lt_tree.specs.Anchors.{ShowsMode}

-- the anchor's link is small
pub small_by : (v : View) (tree : ℕ) (image : RowImage) → IsPrepared v tree image → tree < v.plan.trees → Teaches v → (node_of image.words).left ≤ rows_of v.plan
small_by v tree image p lt t =
    let is : link_in (shown v []) (left_of tree) ≡ (node_of image.words).left = ap (λ (ws : List ℕ). (node_of ws).left) p.0.2 in
    elim (names_further v t.0 t.2 (left_of tree) p.0.0 (of_anchor v t.0 t.2 tree (omega arith))) [
      | inl z ↦ omega arith
      | inr x ↦ let e = x.1 in let less = x.3 in omega arith
    ]

pub top_small : (v : View) (tree : ℕ) (image : RowImage) → IsPrepared v tree image → tree < v.plan.trees → ∥ Teaches v ∥₁ → (node_of image.words).left ≤ rows_of v.plan
top_small v tree image p lt t = ∥∥₁_elim t (Prim.hlevel props) (small_by v tree image p lt)

-- the mode by the words
pub mode_shown : (words : List ℕ) (top txn : ℕ) → txn ≡ (node_of words).owner
    → ShowsMode (mode_of words) (record { top = top; buffer_txn = txn; buffered = get_or words 20 0; score = get_or words 19 0 })
unfolding mode_of node_of
mode_shown words top txn is = by_test (nat_eq (get_or words 0 0) 0) refl
  where
    zero_is : get_or words 0 0 ≡ 0 → nat_eq (get_or words 0 0) 0 ≡ true
    zero_is e = ap (λ (n : ℕ). nat_eq n 0) e

    by_test : (b : Bool) → nat_eq (get_or words 0 0) 0 ≡ b
        → ShowsMode (mode_by b (TreeMode (get_or words 19 0)) (Buffer (get_or words 0 0) (get_or words 20 0)))
        (record { top = top; buffer_txn = txn; buffered = get_or words 20 0; score = get_or words 19 0 })
    by_test true e = inl (is ∙ eqb-true (get_or words 0 0) 0 e, refl)
    by_test false e = inr (
      (λ z. absurd (true≢false (sym (zero_is (sym is ∙ z)) ∙ e))),
      ap (λ (t : ℕ). Buffer t (get_or words 20 0)) (sym is),
    )
