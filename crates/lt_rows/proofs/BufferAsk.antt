-- The plan for one row more in a buffer meets the condition of a commit.
use Rattle.std.proofs.Common.{◌≡◌, inl, inr, ℕ, ◌+◌, ◌<◌, List, [], ◌∷◌, length, refl, sym, ap, ◌∙◌, subst, arith, true, ne_eqb}
use Rattle.std.specs.Prelude.{pos, slice_index}
use Rattle.lt_ranges.specs.Interval.{whole}
use Rattle.lt_rows.specs.declared.row_plan.RowPlan.{RowPlan}
use Rattle.lt_seq.specs.declared.event.Mode.TheVariants.{Tree as TreeMode, Buffer}
use Rattle.lt_seq.specs.declared.event.Deed.{Deed}
use Rattle.lt_seq.specs.Table.{tree_of}
use Rattle.lt_rows.specs.declared.view.View.{View}
use Rattle.lt_rows.specs.declared.image.RowImage.{RowImage}
use Rattle.lt_rows.specs.declared.worked.Three.{Three}
use Rattle.lt_rows.specs.Nodes.{node_of, mode_of, mode_by}
use Rattle.lt_rows.specs.Lawful.{mode_before, mode_after, How, begins_buffer, adds_to_buffer, IsCommit}
use Rattle.lt_rows.specs.Worked.{HasThree, IsFirst, MayBuffer, IsBufferPlan, ask_buffered}
use Rattle.lt_rows.proofs.FirstAsk.{whole_is, mode_tree}
use Rattle.lt_rows.proofs.ThreeRows.{is_left, anchor_image, after_anchor, puts, these}

mode_buffer : (ws : List ℕ) (txn count : ℕ) → 0 < txn → slice_index ws 0 ≡ txn → slice_index ws 20 ≡ count → mode_of ws ≡ Buffer txn count
unfolding mode_of
mode_buffer ws txn count more owner rows =
    ap (λ b. mode_by b (TreeMode (slice_index ws 19)) (Buffer (slice_index ws 0) (slice_index ws 20))) (ne_eqb (slice_index ws 0) 0 (λ e. omega arith)) ∙ (λ j. Buffer (owner j) (rows j))

module _ (k : RowPlan) (v : View) (tree txn count : ℕ) (three : Three) (a p x : RowImage) (more : 0 < txn) (lt : tree < k.trees) (h : HasThree k v tree three) (first : IsFirst three)
    (pool_long : length three.pool.words ≡ 21) (plan : IsBufferPlan three txn count a p x) where
  abbrev images_of : List RowImage
  images_of = a ∷ p ∷ x ∷ []

  anchor_is : mode_before v images_of tree ≡ mode_of three.anchor.words
  anchor_is = ap mode_of (anchor_image k v tree three a p x lt h plan.anchor_row plan.pool_row plan.vacant_row)

  now : mode_after v images_of tree ≡ Buffer txn (count + 1)
  now = ap mode_of (after_anchor k v tree three a p x lt h plan.anchor_row plan.pool_row plan.vacant_row) ∙ mode_buffer a.words txn (count + 1) more plan.owner plan.count_is

  how : (pass : ℕ) (deed : Deed) → deed ≡ ask_buffered tree → MayBuffer k.buffer txn count three.anchor.words → How k v (record { pass = pass; txn = txn; deed = deed }) images_of
  how pass deed is (inl m) = begins_buffer record {
    tree = tree;
    vacant = three.row.row;
    range = whole;
    deed = is;
    question = whole_is;
    these = these k v tree three a p x lt h plan.anchor_row plan.pool_row plan.vacant_row;
    begins = record {
      room = m.3;
      was = anchor_is ∙ (mode_tree three.anchor.words m.0 ∙ ap TreeMode m.2);
      empty = ap (λ (ws : List ℕ). (node_of ws).left) (anchor_image k v tree three a p x lt h plan.anchor_row plan.pool_row plan.vacant_row) ∙ (is_left three.anchor.words ∙ m.1);
      now = now ∙ ap (λ (n : ℕ). Buffer txn (n + 1)) m.4;
      puts = puts k v tree three a p x lt h plan.anchor_row plan.pool_row plan.vacant_row txn first plan.link plan.pool_words pool_long plan.vacant_words;
    };
  }
  how pass deed is (inr m) = adds_to_buffer record {
    tree = tree;
    vacant = three.row.row;
    count = count;
    range = whole;
    deed = is;
    question = whole_is;
    these = these k v tree three a p x lt h plan.anchor_row plan.pool_row plan.vacant_row;
    appends = record {
      room = m.2;
      was = anchor_is ∙ mode_buffer three.anchor.words txn count more m.0 m.1;
      now = now;
      puts = puts k v tree three a p x lt h plan.anchor_row plan.pool_row plan.vacant_row txn first plan.link plan.pool_words pool_long plan.vacant_words;
    };
  }

  pub buffer_ask : (pass : ℕ) (deed : Deed) → pass + 1 ≡ v.mark → deed ≡ ask_buffered tree → v.licensed ≡ true → MayBuffer k.buffer txn count three.anchor.words
      → IsCommit k v (record { pass = pass; txn = txn; deed = deed }) images_of (pos 1)
  unfolding how
  buffer_ask pass deed pass_is is licensed (inl m) = record {
    pass = pass_is;
    tree = subst (λ (n : ℕ). n < k.trees) (sym (ap tree_of is)) lt;
    how = how pass deed is (inl m);
    change_is = refl;
    licence = λ _. licensed;
  }
  buffer_ask pass deed pass_is is licensed (inr m) = record {
    pass = pass_is;
    tree = subst (λ (n : ℕ). n < k.trees) (sym (ap tree_of is)) lt;
    how = how pass deed is (inr m);
    change_is = refl;
    licence = λ _. licensed;
  }
