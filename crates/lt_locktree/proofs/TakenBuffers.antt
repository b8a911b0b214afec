-- A buffer that a deed takes whole, from what the calls say that take and read it.
use Rattle.std.proofs.Common.{◌≡◌, ℕ, List, [], ◌∷◌, map, sym, ap, ◌∙◌, subst, arith}
use Rattle.lt_seq.specs.declared.event.Held.{Held}
use Rattle.lt_seq.specs.declared.event.Mode.TheVariants.{Buffer}
use Rattle.lt_seq.specs.declared.event.Pair.{Pair}
use Rattle.lt_seq.specs.History.{after}
use Rattle.lt_seq.specs.Pairs.{IsLawful}
use Rattle.lt_rows.specs.Plan.{setting_of}
use Rattle.lt_seq.specs.Table.{tree_at}
use Rattle.lt_seq.proofs.LawfulLaws.{sound_history}
use Rattle.lt_forest.specs.Forest.{folded}
use Rattle.lt_forest.proofs.SameRows.{one_here}
use Rattle.lt_rows.specs.declared.view.View.{View}
use Rattle.lt_rows.specs.Nodes.{node_of, mode_of}
use Rattle.lt_rows.specs.Views.{row_at, words_of, image_of, images}
use Rattle.lt_rows.specs.Lawful.{shown}
use Rattle.lt_tree.specs.States.{KeepsRows}
use Rattle.lt_tree.specs.Puttings.{Backs}
use Rattle.lt_chain.specs.Chains.{ShowsBuffer, HoldsChain, ReadsPairs}
use Rattle.lt_chain.proofs.HoldingLaws.{backs_held, backs_has}
use Rattle.lt_chain.proofs.ReadLaws.{owned}
use Rattle.lt_locktree.specs.EndingRows.{held_pair}
use Rattle.lt_locktree.specs.TakenBuffers.{ShowsBufferOf, HasTaken}
use Rattle.lt_locktree.proofs.EndedRows.{held_pairs_are_read}

-- the anchor's owner is the buffer's
pub shows_owner : (v : View) (tree owner : ℕ) (ws : List ℕ) → Backs v (tree ∷ []) → ShowsBuffer v tree → ws ≡ words_of (row_at v tree)
    → owner ≡ (node_of ws).owner → ShowsBufferOf v tree owner
shows_owner v tree owner ws b buffer loaded is =
    let o = one_here tree in
    let here = backs_has v (tree ∷ []) b tree (omega arith) ws loaded in
    let same : owner ≡ buffer.0 =
    is ∙ (ap (λ (xs : List ℕ). (node_of xs).owner) (sym here.2) ∙ owned (images v tree) buffer.0 buffer.1 buffer.2) in
    (buffer.1, buffer.2 ∙ ap (λ (n : ℕ). Buffer n buffer.1) (sym same))

pub has_taken : (v w : View) (tree : ℕ) (rows : List ℕ) (held : List Held) (pairs : List Pair) → Backs v (tree ∷ []) → KeepsRows v w
    → HoldsChain w tree rows → ReadsPairs w tree rows held → pairs ≡ map held_pair held → HasTaken v w tree rows pairs
has_taken v w tree rows held pairs b keeps chain reads are =
    let o = one_here tree in
    let same : images w tree ≡ images v tree = ap image_of (keeps tree (backs_held v (tree ∷ []) b tree (omega arith))) in
    let granted : List Pair = folded (shown w [] tree).owner (shown w []) rows in
    let stood : List Pair = (tree_at (after (setting_of w.plan) reads.log) tree).pairs in
    record {
      chain = chain;
      mode_is = ap mode_of same;
      pairs_are = λ owner count mode.
          are ∙ (ap (map held_pair) reads.granted ∙ (held_pairs_are_read tree granted
          ∙ ap (λ (n : ℕ). folded n (shown w []) rows) (owned (images w tree) owner count (ap mode_of same ∙ mode))));
      lawful = subst IsLawful (sym (are ∙ (ap (map held_pair) reads.of_tree ∙ held_pairs_are_read tree stood)))
          (sound_history (setting_of w.plan) reads.log reads.stood.shape.legal tree).lawful;
    }
