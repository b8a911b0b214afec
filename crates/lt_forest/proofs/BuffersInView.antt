-- What a pass holds and plans is true of the forest: plans for buffers.
use Rattle.std.proofs.Common.{◌≡◌, ◌≢◌, ℕ, ◌<◌, List, [], ◌∷◌, ◌++◌, length, Bool, true, refl, sym, ap, ◌∙◌, subst, arith}
use Rattle.lt_ranges.specs.Interval.{Interval}
use Rattle.lt_seq.specs.declared.event.Pair.{Pair}
use Rattle.lt_seq.specs.declared.event.Mode.{Mode}
use Rattle.lt_seq.specs.declared.event.Mode.TheVariants.{Buffer}
use Rattle.lt_seq.specs.declared.event.Reply.TheVariants.{Buffered}
use Rattle.lt_seq.specs.declared.event.Deed.{Deed}
use Rattle.lt_seq.specs.declared.event.Deed.TheVariants.{Ask, Free}
use Rattle.lt_seq.specs.Table.{Setting, TreeState, tree_after, replied, tree_of, is_whole}
use Rattle.lt_forest.specs.Counts.{times}
use Rattle.lt_forest.specs.Plans.{after_deed, IsReplied}
use Rattle.lt_forest.specs.Trees.{Node, Nodes, in_order}
use Rattle.lt_forest.specs.Cuts.{Cut, Shows, bare}
use Rattle.lt_forest.specs.Forest.{NoRow, Forest, IsChain, folded, IsForest, ChangesOnly, KeepsModes, Becomes}
use Rattle.lt_forest.specs.Buffers.{whole_free, PutsFirst, Begins, Appends, Ends, Drops}
use Rattle.lt_forest.specs.Views.{Agrees, IsView, AllHeld, PlansModes, PlansThese, PlanEnds, PlanDrops}
use Rattle.lt_forest.proofs.SameRows.{times-++, one_here, AgreeOn, on_right, on_pairs}
use Rattle.lt_forest.proofs.Chains.{on_chain, on_folded}
use Rattle.lt_forest.proofs.BufferLaws.{begun, begin_replies, appended, append_replies, ended, end_replies, dropped, drop_replies}
use Rattle.lt_forest.proofs.FurtherRows.{chain_run, run_further, taken_further, none_of, other_one}
use Rattle.lt_forest.proofs.PlansInView.{on_cut, held_same, planned_only, true_pool}

-- a row put first

abbrev left : Node → ℕ
left n = n.left

module _ {has : ℕ → Type 0} {planned : List ℕ} {trees t q txn : ℕ} {range : Interval} {v v' c d : Nodes}
    (view : IsView has planned v v' c d)
    (these : PlansThese has planned (t ∷ trees ∷ q ∷ [])) (puts : PutsFirst trees t q txn range v v') where
  at_anchor : has t
  at_anchor = these.held t (let o = one_here t in omega arith)

  at_pool : has trees
  at_pool = these.held trees (let o = one_here trees in omega arith)

  at_row : has q
  at_row = these.held q (let o = one_here q in omega arith)

  true_puts : PutsFirst trees t q txn range c d
  true_puts = record {
    first_vacant = ap left (sym (view.before trees at_pool)) ∙ puts.first_vacant;
    pool_link = ap left (sym (view.after trees at_pool)) ∙ (puts.pool_link ∙ ap left (view.before q at_row));
    top = ap left (sym (view.after t at_anchor)) ∙ puts.top;
    owner = ap (λ (n : Node). n.owner) (sym (view.after q at_row)) ∙ puts.owner;
    range_is = ap (λ (n : Node). n.range) (sym (view.after q at_row)) ∙ puts.range_is;
    next = ap left (sym (view.after q at_row)) ∙ (puts.next ∙ ap left (view.before t at_anchor));
  }

  true_only : ChangesOnly (t ∷ trees ∷ q ∷ []) c d
  true_only = planned_only (t ∷ trees ∷ q ∷ []) planned c d view.stays these.only

module _ {has : ℕ → Type 0} {planned : List ℕ} {trees rows t q txn : ℕ} {range : Interval} {v v' c d : Nodes} {mode : ℕ → Mode}
    {state : List TreeState} {f : Forest} (forest : IsForest trees rows c mode state f) (view : IsView has planned v v' c d)
    (these : PlansThese has planned (t ∷ trees ∷ q ∷ [])) (puts : PutsFirst trees t q txn range v v') where
  first_further : trees < q
  first_further =
      let p = true_puts view these puts in
      (taken_further forest (c q).left q (q ∷ []) (p.first_vacant, refl) (let o = one_here q in omega arith)).0

  -- no other tree's anchor is in the plan
  pub first_apart : (s : ℕ) → s < trees → s ≢ t → times s planned ≡ 0
  first_apart s lt ne =
      let more = first_further in
      let a : times s (t ∷ []) ≡ 0 = other_one t s ne in
      let b : times s (trees ∷ []) ≡ 0 = other_one trees s (λ e. omega arith) in
      let m : times s (q ∷ []) ≡ 0 = other_one q s (λ e. omega arith) in
      these.only s (omega arith)

module _ {has : ℕ → Type 0} {planned : List ℕ} {trees rows t q txn : ℕ} {range : Interval} {v v' c d : Nodes}
    {mode mode' : ℕ → Mode}
    {state : List TreeState} {f : Forest} {setting : Setting} (forest : IsForest trees rows c mode state f) (tree : t < trees)
    (view : IsView has planned v v' c d) (these : PlansThese has planned (t ∷ trees ∷ q ∷ []))
    (begins : Begins setting trees t q txn range v v' (mode t) (mode' t)) (modes : PlansModes trees planned mode mode') where
  true_begins : Begins setting trees t q txn range c d (mode t) (mode' t)
  true_begins = record {
    room = begins.room;
    was = begins.was;
    empty = ap left (sym (view.before t (at_anchor view these begins.puts))) ∙ begins.empty;
    now = begins.now;
    puts = true_puts view these begins.puts;
  }

  begin_modes : KeepsModes trees t mode mode'
  begin_modes s lt ne = modes s lt (first_apart forest view these begins.puts s lt ne)

  pub view_begun : Becomes trees rows c d mode mode' state (after_deed setting txn (Ask t range Buffered) state) f NoRow 0 1
  view_begun = begun forest tree true_begins (true_only view these begins.puts) begin_modes

  pub view_begin_replies : IsReplied setting txn (Ask t range Buffered) state
  view_begin_replies = begin_replies forest tree true_begins (true_only view these begins.puts) begin_modes

module _ {has : ℕ → Type 0} {planned : List ℕ} {trees rows t q txn count : ℕ} {range : Interval} {v v' c d : Nodes}
    {mode mode' : ℕ → Mode}
    {state : List TreeState} {f : Forest} {setting : Setting} (forest : IsForest trees rows c mode state f) (tree : t < trees)
    (view : IsView has planned v v' c d) (these : PlansThese has planned (t ∷ trees ∷ q ∷ []))
    (appends : Appends setting trees t q txn count range v v' (mode t) (mode' t)) (modes : PlansModes trees planned mode mode') where
  true_appends : Appends setting trees t q txn count range c d (mode t) (mode' t)
  true_appends = record {
    room = appends.room;
    was = appends.was;
    now = appends.now;
    puts = true_puts view these appends.puts;
  }

  append_modes : KeepsModes trees t mode mode'
  append_modes s lt ne = modes s lt (first_apart forest view these appends.puts s lt ne)

  pub view_appended : Becomes trees rows c d mode mode' state (after_deed setting txn (Ask t range Buffered) state) f NoRow 0 1
  view_appended = appended forest tree true_appends (true_only view these appends.puts) append_modes

  pub view_append_replies : IsReplied setting txn (Ask t range Buffered) state
  view_append_replies = append_replies forest tree true_appends (true_only view these appends.puts) append_modes

-- a chain that is held with its anchor

module _ {has : ℕ → Type 0} {v c : Nodes} (t : ℕ) (rows : List ℕ) (agrees : Agrees has v c)
    (chain_held : AllHeld has (t ∷ rows)) where
  pub chain_same : AgreeOn v c rows
  chain_same = on_right v c (t ∷ []) rows (held_same has v c (t ∷ rows) agrees chain_held)

  anchor_same : v t ≡ c t
  anchor_same = agrees t (chain_held t (let o = one_here t in omega arith))

  pub true_chain : IsChain v (v t).left rows → IsChain c (c t).left rows
  true_chain shows = on_chain v c (c t).left rows chain_same (subst (λ (n : Node). IsChain v n.left rows) anchor_same shows)

-- a buffer ends

-- no other tree's anchor is in the plan
pub end_apart : {has : ℕ → Type 0} {planned : List ℕ} {trees rows txn owner count t : ℕ} {v v' c d : Nodes} {mode : ℕ → Mode}
    {state : List TreeState} {f : Forest} {setting : Setting} {deed : Deed} {after : Mode} {olds : List ℕ} {new : Cut}
    {taken given : List ℕ} → IsForest trees rows c mode state f → t < trees → IsView has planned v v' c d
    → PlanEnds has planned setting trees txn owner count deed t v v' (mode t) after olds new taken given
    → (s : ℕ) → s < trees → s ≢ t → times s planned ≡ 0
end_apart {trees = trees} {owner = owner} {count = count} {t = t} {c = c} {olds = olds} {taken = taken} forest tree view plan s lt ne =
    let leads = true_chain t olds view.before plan.chain_held plan.ends.shows in
    let pool = true_pool view plan.pool in
    let a : times s (t ∷ []) ≡ 0 = other_one t s ne in
    let b : times s (trees ∷ []) ≡ 0 = other_one trees s (λ e. omega arith) in
    let m : times s olds ≡ 0 = none_of olds s trees (omega arith)
    (λ q some. (run_further forest t owner count 0 q olds tree plan.ends.was (chain_run c (c t).left olds leads) some).0) in
    let n : times s taken ≡ 0 = none_of taken s trees (omega arith) (λ q some. (taken_further forest pool.rest q taken pool.takes some).0) in
    let sum = times-++ s olds taken in
    plan.only s (omega arith)

module _ {has : ℕ → Type 0} {planned : List ℕ} {trees rows txn owner count : ℕ} {v v' c d : Nodes} {mode mode' : ℕ → Mode}
    {state : List TreeState}
    {f : Forest} {setting : Setting} {deed : Deed} {olds : List ℕ} {new : Cut} {taken given : List ℕ}
    (forest : IsForest trees rows c mode state f) (tree : tree_of deed < trees) (view : IsView has planned v v' c d)
    (plan : PlanEnds has planned setting trees txn owner count deed (tree_of deed) v v' (mode (tree_of deed))
    (mode' (tree_of deed)) olds new taken given)
    (modes : PlansModes trees planned mode mode') where
  olds_same : folded owner v olds ≡ folded owner c olds
  olds_same = on_folded v c owner olds (chain_same (tree_of deed) olds view.before plan.chain_held)

  news_same : AgreeOn v' d (in_order (bare new))
  news_same = held_same has v' d (in_order (bare new)) view.after plan.new_held

  abbrev at : List Pair → TreeState
  at pairs = record { pairs = pairs; mode = Buffer owner count }

  new_anchor : v' (tree_of deed) ≡ d (tree_of deed)
  new_anchor = view.after (tree_of deed) (plan.chain_held (tree_of deed) (let o = one_here (tree_of deed) in omega arith))

  true_ends : Ends setting txn owner count deed (tree_of deed) c d (mode (tree_of deed)) (mode' (tree_of deed)) olds new taken given
  true_ends = record {
    was = plan.ends.was;
    is_tree = plan.ends.is_tree;
    shows = true_chain (tree_of deed) olds view.before plan.chain_held plan.ends.shows;
    shows_new = on_cut v' d (d (tree_of deed)).left new news_same (subst (λ (n : Node). Shows v' n.left new) new_anchor plan.ends.shows_new);
    no_hangs = plan.ends.no_hangs;
    each_row = plan.ends.each_row;
    all_rows = plan.ends.all_rows;
    pairs = sym (on_pairs v' d (in_order (bare new)) news_same)
        ∙ (plan.ends.pairs ∙ ap (λ (l : List Pair). (tree_after setting txn deed (at l)).pairs) olds_same);
    mode = plan.ends.mode ∙ ap (λ (l : List Pair). (tree_after setting txn deed (at l)).mode) olds_same;
    replies = ap (λ (l : List Pair). replied setting txn deed (at l)) (sym olds_same) ∙ plan.ends.replies;
  }

  ends_only : ChangesOnly (tree_of deed ∷ trees ∷ olds ++ taken) c d
  ends_only = planned_only (tree_of deed ∷ trees ∷ olds ++ taken) planned c d view.stays plan.only

  end_modes : KeepsModes trees (tree_of deed) mode mode'
  end_modes s lt ne = modes s lt (end_apart forest tree view plan s lt ne)

  pub view_ended : Becomes trees rows c d mode mode' state (after_deed setting txn deed state)
      f NoRow (length olds) (length (in_order (bare new)))
  view_ended = ended forest tree true_ends (true_pool view plan.pool) ends_only end_modes

  pub view_end_replies : IsReplied setting txn deed state
  view_end_replies = end_replies forest tree true_ends (true_pool view plan.pool) ends_only end_modes

-- a buffer is dropped whole

-- no other tree's anchor is in the plan
pub drop_apart : {has : ℕ → Type 0} {planned : List ℕ} {trees rows t owner count last : ℕ} {v v' c d : Nodes} {mode : ℕ → Mode}
    {state : List TreeState} {f : Forest} {after : Mode} {front : List ℕ} → IsForest trees rows c mode state f → t < trees
    → IsView has planned v v' c d → PlanDrops has planned trees t owner count v v' (mode t) after front last
    → (s : ℕ) → s < trees → s ≢ t → times s planned ≡ 0
drop_apart {trees = trees} {t = t} {owner = owner} {count = count} {last = last} {c = c} {front = front} forest tree view plan s lt ne =
    let leads = true_chain t (front ++ last ∷ []) view.before (λ r some. plan.chain_held r (omega arith)) plan.drops.shows in
    let more : trees < last =
    (run_further forest t owner count 0 last (front ++ last ∷ []) tree plan.drops.was (chain_run c (c t).left (front ++ last ∷ []) leads)
    (let o = one_here last in let sum = times-++ last front (last ∷ []) in omega arith)).0 in
    let a : times s (t ∷ []) ≡ 0 = other_one t s ne in
    let b : times s (trees ∷ []) ≡ 0 = other_one trees s (λ e. omega arith) in
    let m : times s (last ∷ []) ≡ 0 = other_one last s (λ e. omega arith) in
    plan.only s (omega arith)

module _ {has : ℕ → Type 0} {planned : List ℕ} {trees rows t owner count last : ℕ} {v v' c d : Nodes} {mode mode' : ℕ → Mode}
    {state : List TreeState} {f : Forest} {front : List ℕ} (forest : IsForest trees rows c mode state f) (tree : t < trees)
    (view : IsView has planned v v' c d)
    (plan : PlanDrops has planned trees t owner count v v' (mode t) (mode' t) front last) (modes : PlansModes trees planned mode mode') where
  abbrev olds : List ℕ
  olds = front ++ last ∷ []

  whole_held : AllHeld has (t ∷ front ++ last ∷ [])
  whole_held r some = plan.chain_held r (omega arith)

  pool_held : has trees
  pool_held = plan.chain_held trees (let o = one_here trees in omega arith)

  last_held : has last
  last_held = plan.chain_held last (let o = one_here last in let a = times-++ last front (last ∷ []) in omega arith)

  true_drops : Drops trees t owner count c d (mode t) (mode' t) front last
  true_drops =
      let left : Node → ℕ = λ n. n.left in
      let anchor : has t = plan.chain_held t (let o = one_here t in omega arith) in
      record {
        was = plan.drops.was;
        now = plan.drops.now;
        shows = true_chain t (front ++ last ∷ []) view.before whole_held plan.drops.shows;
        top = ap left (sym (view.after t anchor)) ∙ plan.drops.top;
        pool_link = ap left (sym (view.after trees pool_held)) ∙ (plan.drops.pool_link ∙ ap left (view.before t anchor));
        joint = ap left (sym (view.after last last_held)) ∙ (plan.drops.joint ∙ ap left (view.before trees pool_held));
      }

  drops_only : ChangesOnly (t ∷ trees ∷ last ∷ []) c d
  drops_only = planned_only (t ∷ trees ∷ last ∷ []) planned c d view.stays plan.only

  drop_modes : KeepsModes trees t mode mode'
  drop_modes s lt ne = modes s lt (drop_apart forest tree view plan s lt ne)

  pairs_same : folded owner v (front ++ last ∷ []) ≡ folded owner c (front ++ last ∷ [])
  pairs_same = on_folded v c owner (front ++ last ∷ []) (chain_same t (front ++ last ∷ []) view.before whole_held)

  module _ (setting : Setting) (range : Interval) (first : Bool) (whole : is_whole range ≡ true) where
    pub view_dropped : Becomes trees rows c d mode mode' state
        (after_deed setting owner (whole_free t range first owner v (front ++ last ∷ [])) state)
        f NoRow (length (front ++ last ∷ [])) 0
    view_dropped = dropped forest tree true_drops drops_only drop_modes setting range first whole

    pub view_drop_replies : IsReplied setting owner (whole_free t range first owner v (front ++ last ∷ [])) state
    view_drop_replies =
        drop_replies forest tree true_drops drops_only drop_modes setting range first whole
        ∙ ap (λ (l : List Pair). Free t range first (length l)) (sym pairs_same)
