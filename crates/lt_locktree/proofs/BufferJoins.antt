-- A join of a tree with a buffer: what the sequential table makes of it, and its note.
use Rattle.std.proofs.Common.{◌≡◌, ℕ, ◌+◌, ◌<◌, ◌≤◌, List, [], length, sym, ap, ◌∙◌, subst, arith}
use Rattle.lt_ranges.specs.declared.key.Key.{Key}
use Rattle.lt_seq.specs.declared.event.Event.{Event}
use Rattle.lt_seq.specs.declared.event.Pair.{Pair}
use Rattle.lt_seq.specs.declared.event.Deed.TheVariants.{Join}
use Rattle.lt_seq.specs.declared.event.Mode.TheVariants.{Tree as TreeMode, Buffer}
use Rattle.lt_rows.specs.declared.row_plan.RowPlan.{RowPlan}
use Rattle.lt_seq.specs.History.{after}
use Rattle.lt_seq.specs.Pairs.{joined}
use Rattle.lt_rows.specs.Plan.{setting_of}
use Rattle.lt_seq.specs.Table.{tree_at}
use Rattle.lt_rows.specs.declared.view.View.{View}
use Rattle.lt_rows.specs.Lawful.{shown}
use Rattle.lt_rows.specs.Nodes.{mode_of}
use Rattle.lt_rows.specs.Rule.{Stood}
use Rattle.lt_rows.specs.Views.{images, used_after}
use Rattle.lt_rows.specs.Woods.{woods}
use Rattle.lt_rows.proofs.LessonLaws.{whole_chain_shows_buffer}
use Rattle.lt_tree.specs.States.{OnlyRows, KeepsRows}
use Rattle.lt_tree.proofs.ViewLaws.{rows_plan}
use Rattle.lt_locktree.specs.declared.asking.Asking.{Asking}
use Rattle.lt_locktree.specs.Deeds.{asked_event}
use Rattle.lt_locktree.specs.Endings.{HoldsBuffer, buffered_pairs}
use Rattle.lt_locktree.specs.Ends.{EndsAs}
use Rattle.lt_locktree.specs.TakenBuffers.{HasTaken}
use Rattle.lt_locktree.proofs.EndedRows.{chain_is_enough}
use Rattle.lt_locktree.proofs.EndingLaws.{chain_holds_buffer}
use Rattle.lt_locktree.proofs.NoneJoined.{joined_short}

-- what stood with rows that are kept stood with the rows before
pub stood_before : (v w : View) (log : List Event) → OnlyRows v w → KeepsRows v w → Stood (woods w.plan) w log → Stood (woods v.plan) v log
stood_before v w log only keeps there =
    let st : Stood (woods v.plan) w log = subst (λ (k : RowPlan). Stood (woods k) w log) (rows_plan v w only) there in
    record {
      forest = st.forest;
      contents = st.contents;
      shape = st.shape;
      agrees = λ r row held. st.agrees r row (keeps r (row, held) ∙ held);
      gaps = λ r row gap held is. st.gaps r row gap (keeps r (row, held) ∙ held) is;
      licence = λ licensed.
          subst (λ (k : RowPlan). used_after k log + 1 < k.limit + k.passes) (rows_plan v w only)
          (st.licence (ap (λ (x : View). x.licensed) only.0 ∙ licensed));
    }

module _ (v w : View) (tree : ℕ) (olds : List ℕ) (pairs : List Pair) (t : HasTaken v w tree olds pairs)
    (owner count : ℕ) (mode : mode_of (images v tree) ≡ Buffer owner count) where
  pub taken_buffer : HoldsBuffer w tree owner count olds
  taken_buffer =
      let h = chain_holds_buffer w tree olds t.chain in
      record { mode = t.mode_is ∙ mode; chain = h.chain; held = h.held }

  pub join_ends : (a : Asking) (new : List Pair) (n m : ℕ) → a.pass + 1 ≡ w.mark → a.tree ≡ tree → new ≡ joined w.plan.marks pairs
      → n ≡ length pairs → m ≡ length (joined w.plan.marks pairs) → EndsAs w tree owner count olds 0 new (asked_event a (Join a.tree n m))
  join_ends a new n m own at new_is n_is m_is =
      let are : pairs ≡ buffered_pairs w owner olds = t.pairs_are owner count mode in
      let now = ap (λ (ps : List Pair). joined w.plan.marks ps) are in
      let before = n_is ∙ ap (λ (ps : List Pair). length ps) are in
      let behind = m_is ∙ ap (λ (ps : List Pair). length ps) now in
      record {
        holds = taken_buffer;
        own = own;
        tree_is = at;
        question = tt;
        after = λ j. record { pairs = sym (new_is ∙ now) j; mode = TreeMode 0 };
        reply = λ j. Join a.tree (sym before j) (sym behind j);
      }

  -- no more pairs are left than the buffer has rows
  pub join_few : (marks : List Key) (new : List Pair) → new ≡ joined marks pairs → length new ≤ length olds
  join_few marks new new_is =
      let are = ap (λ (ps : List Pair). length ps) (t.pairs_are owner count mode) in
      let less = joined_short marks pairs in
      let enough = chain_is_enough owner (shown w []) olds in
      let is = ap (λ (ps : List Pair). length ps) new_is in
      omega arith

  -- and the buffer's were the tree's behind any history that stood
  pub taken_shows : (log : List Event) → tree < w.plan.trees → Stood (woods w.plan) w log → pairs ≡ (tree_at (after (setting_of w.plan) log) tree).pairs
  taken_shows log lt stood =
      t.pairs_are owner count mode
      ∙ (whole_chain_shows_buffer w log tree owner count olds stood taken_buffer.held lt taken_buffer.mode taken_buffer.chain).0
