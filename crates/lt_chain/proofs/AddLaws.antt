-- The plan for one row more in a buffer meets the condition of a commit.
use Rattle.std.proofs.Common.{◌≡◌, inl, inr, ℕ, ◌+◌, ◌<◌, List, [], ◌∷◌, refl, sym, ap, ◌∙◌, subst, arith, ne_eqb}
use Rattle.std.specs.Prelude.{pos, slice_index, Bool, true, false, nat_eq}
use Rattle.lt_rows.specs.declared.row_plan.RowPlan.{RowPlan}
use Rattle.lt_seq.specs.declared.event.Event.{Event}
use Rattle.lt_seq.specs.declared.event.Mode.TheVariants.{Tree as TreeMode, Buffer}
use Rattle.lt_seq.specs.declared.event.Mode.{Mode}
use Rattle.lt_seq.specs.Table.{tree_of}
use Rattle.lt_forest.specs.Trees.{Node}
use Rattle.lt_forest.specs.Forest.{IsTree}
use Rattle.lt_forest.proofs.SameRows.{one_here}
use Rattle.lt_forest.specs.Buffers.{PutsFirst}
use Rattle.lt_rows.specs.declared.view.View.{View}
use Rattle.lt_rows.specs.Nodes.{node_of, mode_of, mode_by}
use Rattle.lt_rows.specs.Views.{row_at, words_of, images, image_of}
use Rattle.lt_rows.specs.Lawful.{shown, shown_after, mode_after, How, begins_buffer, adds_to_buffer, IsCommit}
use Rattle.lt_chain.specs.declared.images.Images.{Images}
use Rattle.lt_chain.specs.Buffers.{MayBegin, MayAppend, AsksBuffered}
use Rattle.lt_chain.specs.Images.{HasImages, IsFirst, AddsRow, MayAdd}
use Rattle.lt_tree.specs.States.{KeepsRows}
use Rattle.lt_tree.specs.Puttings.{Backs}
use Rattle.lt_chain.proofs.HoldingLaws.{backs_held, backs_has}
use Rattle.lt_chain.proofs.ImageLaws.{these, after_anchor, after_row, anchor_link, pool_link, row_link, anchor_link_after, pool_link_after}

pub mode_buffer : (ws : List ℕ) (txn count : ℕ) → 0 < txn → slice_index ws 0 ≡ txn → slice_index ws 20 ≡ count → mode_of ws ≡ Buffer txn count
unfolding mode_of
mode_buffer ws txn count more owner rows =
    ap (λ b. mode_by b (TreeMode (slice_index ws 19)) (Buffer (slice_index ws 0) (slice_index ws 20))) (ne_eqb (slice_index ws 0) 0 (λ e. omega arith)) ∙ (λ j. Buffer (owner j) (rows j))

module _ (k : RowPlan) (v : View) (tree count : ℕ) (e : Event) (pass : ℕ) (ask : AsksBuffered pass tree e) (i n : Images) (lt : tree < k.trees) (h : HasImages k v tree i) (first : IsFirst i)
    (plan : AddsRow i e.txn count ask.range n) where
  now : mode_after v (n.anchor ∷ n.pool ∷ n.row ∷ []) tree ≡ Buffer e.txn (count + 1)
  now = ap mode_of (after_anchor k v tree i n lt h plan.anchor_row plan.pool_row plan.row_is) ∙ mode_buffer n.anchor.words e.txn (count + 1) ask.txn plan.owner plan.count_is

  puts : PutsFirst k.trees tree i.row.row e.txn ask.range (shown v (n.anchor ∷ n.pool ∷ n.row ∷ [])) (shown_after v (n.anchor ∷ n.pool ∷ n.row ∷ []))
  puts =
      let is = ap node_of (after_row k v tree i n lt h plan.anchor_row plan.pool_row plan.row_is) ∙ plan.node in
      record {
        first_vacant = pool_link k v tree i n lt h plan.anchor_row plan.pool_row plan.row_is ∙ first;
        pool_link = pool_link_after k v tree i n lt h plan.anchor_row plan.pool_row plan.row_is
            ∙ (plan.pool_link ∙ sym (row_link k v tree i n lt h plan.anchor_row plan.pool_row plan.row_is));
        top = anchor_link_after k v tree i n lt h plan.anchor_row plan.pool_row plan.row_is ∙ plan.link;
        owner = ap (λ (x : Node). x.owner) is;
        range_is = ap (λ (x : Node). x.range) is;
        next = ap (λ (x : Node). x.left) is ∙ sym (anchor_link k v tree i n lt h plan.anchor_row plan.pool_row plan.row_is);
      }

  how : MayAdd k v tree e.txn count → How k v e (n.anchor ∷ n.pool ∷ n.row ∷ [])
  how (inl m) = begins_buffer record {
    tree = tree;
    vacant = i.row.row;
    range = ask.range;
    deed = ask.deed;
    question = ask.question;
    these = these k v tree i n lt h plan.anchor_row plan.pool_row plan.row_is;
    begins = record {
      room = m.0.room;
      was = m.0.mode;
      empty = m.0.empty;
      now = now ∙ ap (λ (x : ℕ). Buffer e.txn (x + 1)) m.1;
      puts = puts;
    };
  }
  how (inr m) = adds_to_buffer record {
    tree = tree;
    vacant = i.row.row;
    count = count;
    range = ask.range;
    deed = ask.deed;
    question = ask.question;
    these = these k v tree i n lt h plan.anchor_row plan.pool_row plan.row_is;
    appends = record {
      room = m.room;
      was = m.mode;
      now = now;
      puts = puts;
    };
  }

  pub adds_commit : MayAdd k v tree e.txn count → pass + 1 ≡ v.mark → v.licensed ≡ true → IsCommit k v e (n.anchor ∷ n.pool ∷ n.row ∷ []) (pos 1)
  unfolding how
  adds_commit (inl m) mark licensed = record {
    pass = ap (λ (x : ℕ). x + 1) ask.pass_is ∙ mark;
    tree = subst (λ (x : ℕ). x < k.trees) (sym (ap tree_of ask.deed)) lt;
    how = how (inl m);
    change_is = refl;
    licence = λ _. licensed;
  }
  adds_commit (inr m) mark licensed = record {
    pass = ap (λ (x : ℕ). x + 1) ask.pass_is ∙ mark;
    tree = subst (λ (x : ℕ). x < k.trees) (sym (ap tree_of ask.deed)) lt;
    how = how (inr m);
    change_is = refl;
    licence = λ _. licensed;
  }

-- the same for the pass as it was lent

abbrev pub ask_on : (pass pass' tree : ℕ) (e : Event) → pass' ≡ pass → AsksBuffered pass tree e → AsksBuffered pass' tree e
ask_on pass pass' tree e same ask = record { range = ask.range; pass_is = ask.pass_is ∙ sym same; txn = ask.txn; question = ask.question; deed = ask.deed }

begin_by : (k : RowPlan) (v w : View) (tree : ℕ) → images w tree ≡ images v tree → MayBegin k v tree → MayBegin k w tree
begin_by k v w tree e m = record {
  room = m.room;
  mode = ap mode_of e ∙ m.mode;
  empty = ap (λ (ws : List ℕ). (node_of ws).left) e ∙ m.empty;
}

pub may_on : (k : RowPlan) (v w : View) (tree txn count : ℕ) → Backs v (tree ∷ []) → KeepsRows v w → MayAdd k v tree txn count → MayAdd k w tree txn count
may_on k v w tree txn count b keeps (inl m) =
    let o = one_here tree in
    let same : images w tree ≡ images v tree = ap image_of (keeps tree (backs_held v (tree ∷ []) b tree (omega arith))) in
    inl (begin_by k v w tree same m.0, m.1)
may_on k v w tree txn count b keeps (inr m) =
    let o = one_here tree in
    let same : images w tree ≡ images v tree = ap image_of (keeps tree (backs_held v (tree ∷ []) b tree (omega arith))) in
    inr record { room = m.room; mode = ap mode_of same ∙ m.mode }

abbrev count_in : Mode → ℕ
count_in (TreeMode score) = 0
count_in (Buffer txn count) = count

buffer_count : (b : Bool) (score owner rows txn count : ℕ) → mode_by b (TreeMode score) (Buffer owner rows) ≡ Buffer txn count → rows ≡ count
buffer_count true score owner rows txn count e = absurd (subst IsTree e tt)
buffer_count false score owner rows txn count e = ap count_in e

-- the anchor's words count the buffer's rows
pub counted : (ws : List ℕ) (txn count : ℕ) → mode_of ws ≡ Buffer txn count → slice_index ws 20 ≡ count
unfolding mode_of
counted ws txn count e = buffer_count (nat_eq (slice_index ws 0) 0) (slice_index ws 19) (slice_index ws 0) (slice_index ws 20) txn count e

pub may_append : (k : RowPlan) (v : View) (tree txn count : ℕ) (ws : List ℕ) → Backs v (tree ∷ []) → ws ≡ words_of (row_at v tree) → MayAppend k v tree txn count
    → MayAdd k v tree txn (slice_index ws 20)
may_append k v tree txn count ws b loaded m =
    let o = one_here tree in
    let h = backs_has v (tree ∷ []) b tree (omega arith) ws loaded in
    let is : slice_index ws 20 ≡ count = counted ws txn count (ap mode_of (sym h.2) ∙ m.mode) in
    inr record { room = (let r = m.room in omega arith); mode = m.mode ∙ ap (Buffer txn) (sym is) }
