-- What the sequential table makes of a buffer that was taken whole, by a deed that ends it.
use Rattle.std.proofs.Common.{◌≡◌, ◌≢◌, ℕ, ◌+◌, ◌≤◌, Bool, false, List, [], ◌∷◌, length, sym, ap, ◌∙◌, arith}
use Rattle.lt_ranges.specs.Interval.{Interval, IsInterval}
use Rattle.lt_rows.specs.declared.row_plan.RowPlan.{RowPlan}
use Rattle.lt_seq.specs.declared.event.Deed.TheVariants.{Ask, Free, Who}
use Rattle.lt_seq.specs.declared.event.Mode.TheVariants.{Tree as TreeMode, Buffer}
use Rattle.lt_seq.specs.declared.event.Pair.{Pair}
use Rattle.lt_seq.specs.declared.event.Reply.{Reply}
use Rattle.lt_seq.specs.Pairs.{others, freed, count_freed}
use Rattle.lt_seq.specs.Table.{pairs_by, reply_by, is_buffered, drops_all, mode_asked, raised}
use Rattle.lt_seq.proofs.TableLaws.{length-freed, length-granted}
use Rattle.lt_rows.specs.declared.pass.RowPass.{RowPass}
use Rattle.lt_rows.specs.declared.view.View.{View}
use Rattle.lt_rows.specs.Handles.{knows}
use Rattle.lt_rows.specs.Lawful.{shown}
use Rattle.lt_rows.specs.Nodes.{mode_of}
use Rattle.lt_rows.specs.Views.{images}
use Rattle.lt_tree.specs.States.{OnlyRows}
use Rattle.lt_tree.proofs.ViewLaws.{rows_plan}
use Rattle.lt_locktree.specs.declared.asking.Asking.{Asking}
use Rattle.lt_locktree.specs.Deeds.{asked_event}
use Rattle.lt_locktree.specs.Endings.{HoldsBuffer, buffered_pairs}
use Rattle.lt_locktree.specs.Ends.{EndsAs}
use Rattle.lt_locktree.specs.TakenBuffers.{HasTaken}
use Rattle.lt_locktree.proofs.BufferedStates.{asked_state, asked_reply, freed_state, freed_number, mode_for_other}
use Rattle.lt_locktree.proofs.EndedRows.{chain_is_enough}
use Rattle.lt_locktree.proofs.EndingLaws.{chain_holds_buffer}

-- the event is of the pass that has taken the rows
pub own_event : (p q : RowPass) (a : Asking) → a.pass ≡ p.number → q.number ≡ p.number → a.pass + 1 ≡ (knows q).mark
own_event p q a is same = ap (λ (n : ℕ). n + 1) (is ∙ sym same) ∙ sym q.numbered.0

-- as many pairs as an ask leaves, the chain's rows and one more are enough for
pub ask_room : (v : View) (owner txn : ℕ) (asked : Interval) (olds os : List ℕ)
    → length (pairs_by os txn asked (buffered_pairs v owner olds)) ≤ length olds + 1
ask_room v owner txn asked olds [] =
    let g = length-granted txn asked (buffered_pairs v owner olds) in let e = chain_is_enough owner (shown v []) olds in omega arith
ask_room v owner txn asked olds (o ∷ os) = let e = chain_is_enough owner (shown v []) olds in omega arith

module _ (v w : View) (tree : ℕ) (olds : List ℕ) (pairs : List Pair) (t : HasTaken v w tree olds pairs) (only : OnlyRows v w)
    (owner count : ℕ) (mode : mode_of (images v tree) ≡ Buffer owner count) where
  pub taken_holds : HoldsBuffer w tree owner count olds
  taken_holds =
      let h = chain_holds_buffer w tree olds t.chain in
      record { mode = t.mode_is ∙ mode; chain = h.chain; held = h.held }

  abbrev ps : List Pair
  ps = buffered_pairs w owner olds

  -- an ask that the buffer doesn't take
  module _ (a : Asking) (own : a.pass + 1 ≡ w.mark) (at : a.tree ≡ tree) (interval : IsInterval a.range) where
    pub ask_ends : (reply : Reply) (new : List Pair) → is_buffered v.plan.buffer a.txn [] (Buffer owner count) ≡ false
        → reply ≡ reply_by (others a.txn a.range pairs) → new ≡ pairs_by (others a.txn a.range pairs) a.txn a.range pairs
        → EndsAs w tree owner count olds 0 new (asked_event a (Ask a.tree a.range reply))
    ask_ends reply new full reply_is new_is =
        let are : pairs ≡ buffered_pairs w owner olds = t.pairs_are owner count mode in
        let full_here : is_buffered w.plan.buffer a.txn ps (Buffer owner count) ≡ false =
        ap (λ (k : RowPlan). is_buffered k.buffer a.txn ps (Buffer owner count)) (rows_plan v w only) ∙ full in
        let new_here : new ≡ pairs_by (others a.txn a.range ps) a.txn a.range ps =
        new_is ∙ ap (λ (xs : List Pair). pairs_by (others a.txn a.range xs) a.txn a.range xs) are in
        let reply_here : reply ≡ reply_by (others a.txn a.range ps) =
        reply_is ∙ ap (λ (xs : List Pair). reply_by (others a.txn a.range xs)) are in
        record {
          holds = taken_holds;
          own = own;
          tree_is = at;
          question = interval;
          after = asked_state owner count a.txn a.range ps w.plan.buffer full_here
              ∙ ap (λ (xs : List Pair). record { pairs = xs; mode = TreeMode 0 }) (sym new_here);
          reply = ap (λ (r : Reply). Ask a.tree a.range r)
              (asked_reply owner count a.txn a.range ps w.plan.buffer full_here ∙ sym reply_here);
        }

  pub ask_few : (txn : ℕ) (asked : Interval) (new : List Pair) → new ≡ pairs_by (others txn asked pairs) txn asked pairs
      → length new ≤ length olds + 1
  ask_few txn asked new new_is =
      let are : pairs ≡ buffered_pairs w owner olds = t.pairs_are owner count mode in
      let long : length new ≡ length (pairs_by (others txn asked ps) txn asked ps) =
      ap length (new_is ∙ ap (λ (xs : List Pair). pairs_by (others txn asked xs) txn asked xs) are) in
      let few = ask_room w owner txn asked olds (others txn asked ps) in omega arith

  -- no more pairs are left than the buffer had
  pub fewer_fit : (new : List Pair) → length new ≤ length pairs → length new ≤ length olds
  fewer_fit new fewer =
      let e = chain_is_enough owner (shown w []) olds in
      let same : length pairs ≡ length (buffered_pairs w owner olds) = ap length (t.pairs_are owner count mode) in omega arith

  pub freed_fit : (txn : ℕ) (asked : Interval) (new : List Pair) → new ≡ freed txn asked pairs → length new ≤ length olds
  freed_fit txn asked new is =
      let less = length-freed txn asked pairs in
      let same = ap length is in
      fewer_fit new (omega arith)

  module _ (a : Asking) (own : a.pass + 1 ≡ w.mark) (at : a.tree ≡ tree) (interval : IsInterval a.range) where
    -- a question as another transaction than the owner
    pub who_ends : (named : ℕ) (owners : List ℕ) (new : List Pair) → owner ≢ named → owners ≡ others named a.range pairs → new ≡ pairs
        → EndsAs w tree owner count olds 0 new (asked_event a (Who a.tree a.range named owners))
    who_ends named owners new other owners_are same =
        let are : pairs ≡ buffered_pairs w owner olds = t.pairs_are owner count mode in
        let ended : mode_asked named (Buffer owner count) ≡ TreeMode 0 = mode_for_other owner count named other in
        record {
          holds = taken_holds;
          own = own;
          tree_is = at;
          question = interval;
          after = λ j. record { pairs = sym (same ∙ are) j; mode = ended j };
          reply = ap (λ (os : List ℕ). Who a.tree a.range named os)
              (sym (owners_are ∙ ap (λ (xs : List Pair). others named a.range xs) are));
        }

    -- a free that isn't the drop of the whole buffer
    pub free_ends : (first : Bool) (n score : ℕ) (new : List Pair) → drops_all a.txn a.range (Buffer owner count) ≡ false
        → new ≡ freed a.txn a.range pairs → n ≡ count_freed a.txn a.range pairs → raised first (TreeMode 0) ≡ TreeMode score
        → EndsAs w tree owner count olds score new (asked_event a (Free a.tree a.range first n))
    free_ends first n score new part new_is n_is score_is =
        let are : pairs ≡ buffered_pairs w owner olds = t.pairs_are owner count mode in
        let new_here : freed a.txn a.range ps ≡ new = sym (new_is ∙ ap (λ (xs : List Pair). freed a.txn a.range xs) are) in
        record {
          holds = taken_holds;
          own = own;
          tree_is = at;
          question = interval;
          after = freed_state owner count a.txn a.range ps first part ∙ (λ j. record { pairs = new_here j; mode = score_is j });
          reply = ap (λ (k : ℕ). Free a.tree a.range first k)
              (freed_number owner count a.txn a.range ps part ∙ sym (n_is ∙ ap (λ (xs : List Pair). count_freed a.txn a.range xs) are));
        }
