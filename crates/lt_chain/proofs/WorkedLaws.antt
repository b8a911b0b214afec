-- What the worked callers know of the rows that they hold.
use Rattle.std.proofs.Common.{◌≡◌, ◌≢◌, ℕ, ◌<◌, List, [], ◌∷◌, length, get_or, refl, sym, ap, ◌∙◌, subst, arith}
use Rattle.std.proofs.lemmas.List.{length-map}
use Rattle.std.specs.Prelude.{Option, None, slice_index, true}
use Rattle.lt_ranges.specs.Interval.{Interval, IsInterval, whole}
use Rattle.lt_ranges.specs.Key.{key_le}
use Rattle.lt_seq.specs.Table.{held_in, is_whole}
use Rattle.lt_seq.specs.declared.event.Deed.TheVariants.{Free}
use Rattle.lt_rows.specs.declared.row_plan.RowPlan.{RowPlan}
use Rattle.lt_seq.specs.declared.event.Held.{Held}
use Rattle.lt_seq.specs.declared.event.Mode.TheVariants.{Tree as TreeMode}
use Rattle.lt_forest.specs.Forest.{folded}
use Rattle.lt_forest.proofs.SameRows.{one_here}
use Rattle.lt_rows.specs.declared.view.View.{View}
use Rattle.lt_rows.specs.declared.view.Row.{Row}
use Rattle.lt_rows.specs.Nodes.{node_of, mode_of}
use Rattle.lt_rows.specs.Views.{row_at, words_of, images, image_of}
use Rattle.lt_rows.specs.Lawful.{shown}
use Rattle.lt_rows.proofs.FirstAsk.{mode_tree, whole_is}
use Rattle.lt_rows.proofs.Frames.{Some-none}
use Rattle.lt_rows.proofs.ThreeRows.{is_left}
use Rattle.lt_tree.specs.States.{HoldsNone, KeepsRows}
use Rattle.lt_tree.specs.Puttings.{Backs}
use Rattle.lt_chain.specs.Buffers.{MayBegin, MayAppend}
use Rattle.lt_chain.specs.Chains.{ShowsBuffer, HoldsChain, FreesAll}
use Rattle.lt_chain.proofs.HoldingLaws.{backs_has, backs_held}
use Rattle.lt_chain.proofs.AddLaws.{mode_buffer}
use Rattle.lt_chain.proofs.DropLaws.{shows_on}

pub none_backs : (v : View) → HoldsNone v → Backs v []
none_backs v none = record {
  keeps = record {
    held = λ q more. absurd (omega arith);
    once = λ q. omega arith;
    gathers = λ q row h. absurd (Some-none row (sym (none q) ∙ h));
  };
  held_all = λ q h. absurd (Some-none h.0 (sym (none q) ∙ h.1));
}

pub backs_rows : (v w : View) (rows : List ℕ) → ((q : ℕ) → row_at w q ≡ row_at v q) → Backs v rows → Backs w rows
backs_rows v w rows same b = record {
  keeps = record {
    held = λ q more. (let h = b.keeps.held q more in (h.0, same q ∙ h.1));
    once = b.keeps.once;
    gathers = λ q row h. b.keeps.gathers q row (sym (same q) ∙ h);
  };
  held_all = λ q h. b.held_all q (h.0, sym (same q) ∙ h.1);
}

anchor_words : (v : View) (tree : ℕ) (ws : List ℕ) → Backs v (tree ∷ []) → ws ≡ words_of (row_at v tree) → images v tree ≡ ws
anchor_words v tree ws b loaded = (backs_has v (tree ∷ []) b tree (let o = one_here tree in omega arith) ws loaded).2

pub begins_there : (k j : RowPlan) (v : View) (tree : ℕ) (ws : List ℕ) → j ≡ k → Backs v (tree ∷ []) → ws ≡ words_of (row_at v tree)
    → slice_index ws 0 ≡ 0 → slice_index ws 17 ≡ 0 → slice_index ws 19 ≡ 100 → 0 < j.buffer → MayBegin k v tree
begins_there k j v tree ws same b loaded owner link score room =
    let is = anchor_words v tree ws b loaded in
    record {
      room = subst (λ (p : RowPlan). 0 < p.buffer) same room;
      mode = ap mode_of is ∙ (mode_tree ws owner ∙ ap TreeMode score);
      empty = ap (λ (l : List ℕ). (node_of l).left) is ∙ (is_left ws ∙ link);
    }

pub appends_there : (k j : RowPlan) (v : View) (tree txn : ℕ) (ws : List ℕ) → j ≡ k → 0 < txn → Backs v (tree ∷ []) → ws ≡ words_of (row_at v tree)
    → slice_index ws 0 ≡ txn → slice_index ws 20 < j.buffer → MayAppend k v tree txn (slice_index ws 20)
appends_there k j v tree txn ws same more b loaded owner room = record {
  room = subst (λ (p : RowPlan). slice_index ws 20 < p.buffer) same room;
  mode = ap mode_of (anchor_words v tree ws b loaded) ∙ mode_buffer ws txn (slice_index ws 20) more owner refl;
}

pub buffer_there : (v : View) (tree : ℕ) (ws : List ℕ) → Backs v (tree ∷ []) → ws ≡ words_of (row_at v tree) → slice_index ws 0 ≢ 0 → ShowsBuffer v tree
buffer_there v tree ws b loaded some =
    (slice_index ws 0, slice_index ws 20, ap mode_of (anchor_words v tree ws b loaded) ∙ mode_buffer ws (slice_index ws 0) (slice_index ws 20) (omega arith) refl refl)

-- a look changes no row

shown_same : (v w : View) → w.held ≡ v.held → (q : ℕ) → shown w [] q ≡ shown v [] q
shown_same v w e q = ap (λ (l : List (Option Row)). node_of (image_of (get_or l q None))) e

pub chain_looked : (v w : View) (tree : ℕ) (rows : List ℕ) → w.held ≡ v.held → HoldsChain v tree rows → HoldsChain w tree rows
chain_looked v w tree rows e h =
    let backs = backs_rows v w (tree ∷ rows) (λ q. ap (λ (l : List (Option Row)). get_or l q None) e) h.backs in
    record {
      backs = backs;
      shows = shows_on v w tree rows h.backs (λ q _. ap (λ (l : List (Option Row)). get_or l q None) e) h.shows;
    }

is_owner : (ws : List ℕ) → (node_of ws).owner ≡ slice_index ws 0
unfolding node_of
is_owner ws = refl

whole_whole : is_whole whole ≡ true
unfolding key_le
whole_whole = refl

pub frees_there : (pass tree n : ℕ) (u v w : View) (rows ws : List ℕ) (pairs : List Held) (range : Interval) → Backs u (tree ∷ []) → ws ≡ words_of (row_at u tree) → KeepsRows u v
    → w.held ≡ v.held → pairs ≡ held_in tree (folded (shown v [] tree).owner (shown v []) rows) → n ≡ length pairs → range ≡ whole
    → FreesAll pass tree w rows (record { pass = pass; txn = slice_index ws 0; deed = Free tree range true n })
frees_there pass tree n u v w rows ws pairs range b loaded keeps same is count range_is =
    let o = one_here tree in
    let image : images w tree ≡ ws = ap (λ (l : List (Option Row)). image_of (get_or l tree None)) same ∙ (ap image_of (keeps tree (backs_held u (tree ∷ []) b tree (omega arith))) ∙ anchor_words u tree ws b loaded) in
    let long : length pairs ≡ length (folded (shown w [] tree).owner (shown w []) rows) =
    ap length is ∙ (length-map (folded (shown v [] tree).owner (shown v []) rows) _
    ∙ ap (λ (l : List (Option Row)). length (folded (node_of (image_of (get_or l tree None))).owner (λ q. node_of (image_of (get_or l q None))) rows)) (sym same)) in
    record {
      range = range;
      first = true;
      pass_is = refl;
      owner = sym (ap (λ (l : List ℕ). (node_of l).owner) image ∙ is_owner ws);
      question = subst IsInterval (sym range_is) whole_is;
      whole = ap is_whole range_is ∙ whole_whole;
      deed = ap (Free tree range true) (count ∙ long);
    }
