-- The plan that frees a tree's only row meets the condition of a commit.
use Rattle.std.proofs.Common.{◌≡◌, ℕ, ◌+◌, ◌<◌, false, List, [], ◌∷◌, cond, length, set, refl, sym, ap, ◌∙◌, subst, arith, get_or-set_other, ne_eqb}
use Rattle.std.specs.Prelude.{negsuc, slice_index, nat_eq, not}
use mathlib.Core.Logic.{dite}
use native.Mathlib.Decide.{ℕ_discrete}
use Rattle.lt_ranges.specs.Interval.{Interval, whole}
use Rattle.lt_rows.specs.declared.row_plan.RowPlan.{RowPlan}
use Rattle.lt_seq.specs.declared.event.Pair.{Pair}
use Rattle.lt_seq.specs.declared.event.Mode.{Mode}
use Rattle.lt_seq.specs.declared.event.Mode.TheVariants.{Tree as TreeMode}
use Rattle.lt_seq.specs.declared.event.Deed.{Deed}
use Rattle.lt_seq.specs.declared.event.Deed.TheVariants.{Free}
use Rattle.lt_seq.specs.Pairs.{freed, count_freed}
use Rattle.lt_seq.specs.Table.{TreeState, tree_of}
use Rattle.lt_rows.specs.Plan.{setting_of}
use Rattle.lt_forest.specs.Counts.{one_if, times}
use Rattle.lt_forest.specs.Trees.{Node, pair_of}
use Rattle.lt_forest.specs.Cuts.{end, held}
use Rattle.lt_forest.specs.Plans.{from_anchor, ShowsDeed}
use Rattle.lt_forest.specs.Views.{IsIn, from_pool}
use Rattle.lt_rows.specs.declared.view.View.{View}
use Rattle.lt_rows.specs.declared.image.RowImage.{RowImage}
use Rattle.lt_rows.specs.declared.worked.Three.{Three}
use Rattle.lt_rows.specs.Nodes.{node_of, mode_of}
use Rattle.lt_rows.specs.Views.{has}
use Rattle.lt_rows.specs.Lawful.{shown, shown_after, mode_before, mode_after, InTree, in_tree, IsCommit}
use Rattle.lt_rows.specs.Worked.{HasThree, IsTop, IsOnly, IsFreePlan, free_whole}
use Rattle.lt_rows.proofs.FirstAsk.{whole_is, mode_tree}
use Rattle.lt_rows.proofs.OnlyRow.{own_is, is_owner, is_right}
use Rattle.lt_rows.proofs.ThreeRows.{is_left, link_left, anchor_image, vacant_image, pool_image, after_anchor, after_pool, after_vacant, has_anchor, has_pool, has_vacant, these}

-- the pairs of one owner, after it frees the whole range
none_left : (txn : ℕ) (r : Interval) → freed txn whole (record { owner = txn; range = r } ∷ []) ≡ []
none_left txn r = ap (λ b. cond (not b) (record { owner = txn; range = r } ∷ []) []) (own_is txn r)

one_freed : (txn : ℕ) (r : Interval) → count_freed txn whole (record { owner = txn; range = r } ∷ []) ≡ 1
one_freed txn r = ap (λ b. length {A = Pair} (cond b (record { owner = txn; range = r } ∷ []) [])) (own_is txn r)

module _ (k : RowPlan) (v : View) (tree txn : ℕ) (three : Three) (a p x : RowImage) (lt : tree < k.trees) (h : HasThree k v tree three) (top : IsTop three) (only : IsOnly txn three)
    (long : length three.anchor.words ≡ 21) (pool_long : length three.pool.words ≡ 21) (row_long : length three.row.words ≡ 21) (plan : IsFreePlan three a p x) where
  abbrev q : ℕ
  q = three.row.row

  abbrev images_of : List RowImage
  images_of = a ∷ p ∷ x ∷ []

  abbrev score : ℕ
  score = slice_index three.anchor.words 19

  abbrev range : Interval
  range = (node_of three.row.words).range

  anchor_before : shown v images_of tree ≡ node_of three.anchor.words
  anchor_before = ap node_of (anchor_image k v tree three a p x lt h plan.anchor_row plan.pool_row plan.vacant_row)

  row_before : shown v images_of q ≡ node_of three.row.words
  row_before = ap node_of (vacant_image k v tree three a p x lt h plan.anchor_row plan.pool_row plan.vacant_row)

  mode_was : mode_before v images_of tree ≡ TreeMode score
  mode_was = ap mode_of (anchor_image k v tree three a p x lt h plan.anchor_row plan.pool_row plan.vacant_row) ∙ mode_tree three.anchor.words only.tree_mode

  mode_now : mode_after v images_of tree ≡ TreeMode score
  mode_now =
      let owner : slice_index (set three.anchor.words 17 0) 0 ≡ 0 = get_or-set_other three.anchor.words 17 0 0 0 (λ e. omega arith) ∙ only.tree_mode in
      ap mode_of (after_anchor k v tree three a p x lt h plan.anchor_row plan.pool_row plan.vacant_row ∙ plan.anchor_words) ∙ (mode_tree (set three.anchor.words 17 0) owner ∙ ap TreeMode (get_or-set_other three.anchor.words 17 19 0 0 (λ e. omega arith)))

  none_here : (r : ℕ) → 0 < times r [] → ⊥
  none_here r some = omega arith

  one_row : (r : ℕ) → 0 < times r (q ∷ []) → r ≡ q
  one_row r some = dite (ℕ_discrete r q) (λ e. e) (λ ne. let z : one_if (nat_eq q r) ≡ 0 = ap one_if (ne_eqb q r (λ e. ne (sym e))) in absurd (omega arith))

  row_held : (r : ℕ) → 0 < times r (q ∷ []) → IsIn (has v) r
  row_held r some = subst (IsIn (has v)) (sym (one_row r some)) (has_vacant k v tree three a p x lt h plan.anchor_row plan.pool_row plan.vacant_row)

  old_pair : pair_of (shown v images_of) q ≡ record { owner = txn; range = range }
  old_pair = ap (λ (n : Node). record { owner = n.owner; range = n.range }) row_before ∙ ap (λ (o : ℕ). record { owner = o; range = range }) (is_owner three.row.words ∙ only.owner)

  shows_tree : ShowsDeed (setting_of k) txn (free_whole tree) (shown v images_of) (shown_after v images_of) (held (end 0) q (end 0)) (end 0) (TreeMode score) (TreeMode score)
  shows_tree =
      let state_is : record { pairs = pair_of (shown v images_of) q ∷ []; mode = TreeMode score } ≡ record { pairs = record { owner = txn; range = range } ∷ []; mode = TreeMode score } = ap (λ (y : Pair). record { pairs = y ∷ []; mode = TreeMode score }) old_pair in
      record {
        was_tree = tt;
        is_tree = tt;
        pairs = sym (ap (λ (t : TreeState). freed txn whole t.pairs) state_is ∙ none_left txn range);
        mode = refl;
        replies = ap (λ (t : TreeState). Free tree whole false (count_freed txn whole t.pairs)) state_is ∙ ap (Free tree whole false) (one_freed txn range);
        question = whole_is;
      }

  lays : (pass : ℕ) → InTree k v (record { pass = pass; txn = txn; deed = free_whole tree }) images_of
  lays pass = record {
    top = from_anchor;
    score = score;
    cut = held (end 0) q (end 0);
    new = end 0;
    taken = [];
    given = q ∷ [];
    knows = mode_was;
    lays = record {
      part = record {
        top_held = has_anchor k v tree three a p x lt h plan.anchor_row plan.pool_row plan.vacant_row;
        shows = (
          ap (λ (n : Node). n.left) anchor_before ∙ (is_left three.anchor.words ∙ top),
          ap (λ (n : Node). n.left) row_before ∙ (is_left three.row.words ∙ only.none_left),
          ap (λ (n : Node). n.right) row_before ∙ (is_right three.row.words ∙ only.none_right),
        );
        rows = row_held;
      };
      shows = ap (λ (ws : List ℕ). (node_of ws).left) (after_anchor k v tree three a p x lt h plan.anchor_row plan.pool_row plan.vacant_row ∙ plan.anchor_words) ∙ link_left three.anchor.words 0 long;
      new_held = λ r some. absurd (none_here r some);
      loose = tt;
      pool = from_pool (has_pool k v tree three a p x lt h plan.anchor_row plan.pool_row plan.vacant_row) (λ r some. absurd (none_here r some)) row_held
          record {
            rest = (shown v images_of k.trees).left;
            takes = refl;
            gives = (
              ap (λ (ws : List ℕ). (node_of ws).left) (after_pool k v tree three a p x lt h plan.anchor_row plan.pool_row plan.vacant_row ∙ plan.pool_words) ∙ link_left three.pool.words (q + 1) pool_long,
              ap (λ (ws : List ℕ). (node_of ws).left) (after_vacant k v tree three a p x lt h plan.anchor_row plan.pool_row plan.vacant_row ∙ plan.vacant_words) ∙ (link_left three.row.words (slice_index three.pool.words 17) row_long ∙ (sym (is_left three.pool.words) ∙ ap (λ (ws : List ℕ). (node_of ws).left) (sym (pool_image k v tree three a p x lt h plan.anchor_row plan.pool_row plan.vacant_row)))),
            );
          };
      rows = record { each = λ r. omega arith; all = refl };
      link = tt;
      others = (these k v tree three a p x lt h plan.anchor_row plan.pool_row plan.vacant_row).only;
    };
    closed = record { in_gap = tt; aside = tt };
    shows = subst (λ (m : Mode × Mode). ShowsDeed (setting_of k) txn (free_whole tree) (shown v images_of) (shown_after v images_of) (held (end 0) q (end 0)) (end 0) m.0 m.1) (λ j. (sym mode_was j, sym mode_now j)) shows_tree;
    question = whole_is;
  }

  pub only_free : (pass : ℕ) (deed : Deed) → pass + 1 ≡ v.mark → deed ≡ free_whole tree → IsCommit k v (record { pass = pass; txn = txn; deed = deed }) images_of (negsuc 0)
  unfolding lays
  only_free pass deed pass_is is = record {
    pass = pass_is;
    tree = subst (λ (n : ℕ). n < k.trees) (sym (ap tree_of is)) lt;
    how = in_tree (subst (λ (d : Deed). InTree k v (record { pass = pass; txn = txn; deed = d }) images_of) (sym is) (lays pass));
    change_is = refl;
    licence = λ more. absurd (omega arith);
  }
