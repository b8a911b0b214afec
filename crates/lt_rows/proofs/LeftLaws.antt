-- What is left in the last words of a table.
use Rattle.std.proofs.Common.{◌≡◌, ◌≢◌, ℕ, zero, suc, ◌+◌, ◌<◌, List, [], ◌∷◌, ◌++◌, length, take, refl, sym, ap, ◌∙◌, subst, arith, append_assoc, eq-eqb, ne_eqb, Ok, Err}
use Rattle.std.specs.Prelude.{Result, OnOk, slice_index}
use Rattle.std.proofs.lemmas.List.{append-nil}
use Rattle.lt_rows.specs.declared.row_plan.RowPlan.{RowPlan}
use Rattle.lt_seq.specs.declared.event.Mode.TheVariants.{Tree as TreeMode, Buffer}
use Rattle.lt_seq.specs.declared.event.Held.{Held}
use Rattle.lt_seq.specs.Table.{held_in}
use Rattle.lt_seq.specs.Passes.{held_from}
use Rattle.lt_seq.specs.Table.{TreeState, tree_at}
use Rattle.lt_forest.specs.Counts.{times, one_if}
use Rattle.lt_forest.specs.Trees.{Tree, LeadsTo, pairs_in}
use Rattle.lt_forest.specs.Forest.{Growth, rows_at, IsTree, IsChain, folded, IsForest}
use Rattle.lt_forest.proofs.Chains.{total_has, chain_one}
use Rattle.lt_forest.proofs.ForestLaws.{TreeAt, ChainAt, as_tree, as_chain}
use Rattle.lt_forest.proofs.FurtherRows.{in_tree_further}
use Rattle.atomic_table.specs.Table.{Final, Seen}
use Rattle.lt_seq.specs.History.{after}
use Rattle.lt_rows.specs.Plan.{setting_of}
use Rattle.lt_rows.specs.declared.view.Row.{Row}
use Rattle.lt_rows.specs.declared.view.View.{View}
use Rattle.lt_rows.specs.declared.last_words.LastWords.{LastWords}
use Rattle.lt_rows.specs.Views.{Holds, rows_of}
use Rattle.lt_rows.specs.Rule.{Rows}
use Rattle.lt_rows.specs.Woods.{woods}
use Rattle.lt_rows.proofs.Closes.{left_stands}
use Rattle.lt_rows.specs.Nodes.{node_of, mode_of, mode_by, nodes, modes}
use Rattle.lt_rows.specs.Openings.{row_words}
use Rattle.lt_rows.specs.LastWords.{words_in, nodes_in, AllBelow, AreRows, LeadsToTree, LeadsToChain, IsLastForest}

pub on_ok : {A E : Type 0} {P Q : Type 0} (r : Result A E) → (P → Q) → OnOk r P → OnOk r Q
on_ok (Ok x) f h = f h
on_ok (Err e) f h = tt

-- the mode that an anchor shows, by the owner that stands in it

mode_tree : (row : List ℕ) → (node_of row).owner ≡ 0 → IsTree (mode_of row)
unfolding node_of mode_of
mode_tree row e =
    subst (λ b. IsTree (mode_by b (TreeMode (slice_index row 19)) (Buffer (slice_index row 0) (slice_index row 20)))) (sym (eq-eqb (slice_index row 0) 0 e)) tt

count_of : List ℕ → ℕ
count_of row = slice_index row 20

mode_buffer : (row : List ℕ) → (node_of row).owner ≢ 0 → mode_of row ≡ Buffer (node_of row).owner (count_of row)
unfolding node_of mode_of count_of
mode_buffer row ne = ap (λ b. mode_by b (TreeMode (slice_index row 19)) (Buffer (slice_index row 0) (slice_index row 20))) (ne_eqb (slice_index row 0) 0 ne)

all_below : (n : ℕ) (xs : List ℕ) → ((q : ℕ) → 0 < times q xs → q < n) → AllBelow n xs
all_below n [] h = tt
all_below n (x ∷ xs) h =
    (h x (let same = ap one_if (eq-eqb x x refl) in omega arith), all_below n xs (λ q some. h q (omega arith)))

module _ (plan : RowPlan) (last : LastWords) (state : List TreeState) (end : IsLastForest plan last state) (t : ℕ) (lt : t < plan.trees) where
  anchor : List ℕ
  anchor = row_words (words_in last) t

  grown_rows : (g : Growth) → end.forest.tree t ≡ g → AreRows last.rows (rows_at g)
  grown_rows g is =
      let many = end.stands.many in
      let some = total_has (λ s. length (rows_at (end.forest.tree s))) plan.trees t lt in
      let rows = end.rows_are in
      let are : AreRows last.rows (rows_at (end.forest.tree t)) = record {
        below = all_below last.rows (rows_at (end.forest.tree t)) (λ q h. let k = (in_tree_further end.stands t q lt h).1 in omega arith);
        few = omega arith;
      } in
      subst (λ (x : Growth). AreRows last.rows (rows_at x)) is are

  tree_at_anchor : (nodes_in last t).owner ≡ 0 → TreeAt (nodes_in last) (nodes_in last t).left (end.forest.tree t) (tree_at state t).pairs
  tree_at_anchor none =
      as_tree (nodes_in last) (nodes_in last t).left (end.forest.tree t) (tree_at state t).pairs (modes (row_words (words_in last)) t) (mode_tree (row_words (words_in last) t) none) (end.stands.grown t lt)

  chain_at_anchor : (nodes_in last t).owner ≢ 0
      → ChainAt (nodes_in last) (nodes_in last t).left (end.forest.tree t) (tree_at state t).pairs (nodes_in last t).owner (count_of (row_words (words_in last) t))
  chain_at_anchor some =
      as_chain (nodes_in last) (nodes_in last t).left (end.forest.tree t) (tree_at state t).pairs (modes (row_words (words_in last)) t)
      (nodes_in last t).owner (count_of (row_words (words_in last) t)) (mode_buffer (row_words (words_in last) t) some) (end.stands.grown t lt)

  pub leads_to_tree : (nodes_in last t).owner ≡ 0 → LeadsToTree last (nodes_in last t).left
  leads_to_tree none = let h = tree_at_anchor none in record { tree = h.tree; leads = h.leads; rows = grown_rows _ h.is }

  pub leads_to_chain : (nodes_in last t).owner ≢ 0 → LeadsToChain last (nodes_in last t).left
  leads_to_chain some = let h = chain_at_anchor some in record { chain = h.rows; leads = h.leads; rows = grown_rows _ h.is }

  pub tree_left : (before left : List Held) → (nodes_in last t).owner ≡ 0
      → ((u : Tree) → LeadsTo (nodes_in last) (nodes_in last t).left u → left ≡ before ++ held_in t (pairs_in (nodes_in last) u))
      → left ≡ before ++ held_in t (tree_at state t).pairs
  tree_left before left none adds =
      let h = tree_at_anchor none in
      adds h.tree h.leads ∙ ap (λ pairs. before ++ held_in t pairs) h.pairs_are

  pub chain_left : (rows : List ℕ) → (nodes_in last t).owner ≢ 0 → IsChain (nodes_in last) (nodes_in last t).left rows
      → folded (nodes_in last t).owner (nodes_in last) rows ≡ (tree_at state t).pairs
  chain_left rows some leads =
      let h = chain_at_anchor some in
      ap (folded (nodes_in last t).owner (nodes_in last)) (chain_one (nodes_in last) (nodes_in last t).left rows h.rows leads h.leads) ∙ h.pairs_are

held_more : (n : ℕ) (state : List TreeState) (t : ℕ) → t < length state
    → held_from n (take (suc t) state) ≡ held_from n (take t state) ++ held_in (n + t) (tree_at state t).pairs
held_more n [] t lt = absurd (omega arith)
held_more n (s ∷ ss) zero lt = append-nil (held_in n s.pairs) ∙ ap (λ m. held_in m s.pairs) (let e : n ≡ n + 0 = omega arith in e)
held_more n (s ∷ ss) (suc t) lt =
    ap (λ l. held_in n s.pairs ++ l) (held_more (n + 1) ss t (omega arith))
    ∙ (sym (append_assoc (held_in n s.pairs) (held_from (n + 1) (take t ss)) (held_in (n + 1 + t) (tree_at ss t).pairs))
    ∙ ap (λ m. (held_in n s.pairs ++ held_from (n + 1) (take t ss)) ++ held_in m (tree_at ss t).pairs) (let e : n + 1 + t ≡ n + suc t = omega arith in e))

pub one_more_tree : (state : List TreeState) (t : ℕ) (left more : List Held) → t < length state → left ≡ held_from 0 (take t state)
    → more ≡ left ++ held_in t (tree_at state t).pairs → more ≡ held_from 0 (take (t + 1) state)
one_more_tree state t left more lt is adds =
    adds ∙ (ap (λ l. l ++ held_in t (tree_at state t).pairs) is
    ∙ ((ap (λ m. held_from 0 (take t state) ++ held_in m (tree_at state t).pairs) (let e : t ≡ 0 + t = omega arith in e) ∙ sym (held_more 0 state t lt))
    ∙ ap (λ m. held_from 0 (take m state)) (let e : suc t ≡ t + 1 = omega arith in e)))

-- where a pass had all the rights and no row, the last words are a forest of the table after what it has seen
pub last_forest : (k plan : RowPlan) (last : LastWords) (words : List ℕ) (homes : List (Unit {0})) (id n : ℕ) (v : View) → k ≡ plan → words_in last ≡ words
    → last.rows ≡ rows_of plan → v.rights ≡ n → n ≡ plan.passes → ((r : ℕ) (row : Row) → Holds v r row → ⊥)
    → Final (Seen (Rows (woods k) k) id v) words homes → IsLastForest plan last (after (setting_of plan) v.front)
last_forest k plan last words homes id n v is words_are rows rights all none final =
    let ends = left_stands k words homes id v (rights ∙ (all ∙ ap (λ (y : RowPlan). y.passes) (sym is))) none final in
    subst (λ (y : RowPlan). IsLastForest y last (after (setting_of y) v.front)) is (record {
      rows_are = rows ∙ ap rows_of (sym is);
      forest = ends.0;
      stands = subst (λ (ws : List ℕ). IsForest k.trees (rows_of k) (nodes (row_words ws)) (modes (row_words ws)) (after (setting_of k) v.front) ends.0) (sym words_are) ends.1;
    })
