-- What a pass has read once it has come to the end of a buffer's chain.
use Rattle.std.proofs.Common.{◌≡◌, ℕ, ◌<◌, Bool, true, false, List, [], ◌∷◌, sym, ap, ◌∙◌, subst}
use Rattle.std.specs.Prelude.{nat_eq, slice_index}
use Rattle.lt_seq.specs.declared.event.Mode.{Mode}
use Rattle.lt_seq.specs.declared.event.Mode.TheVariants.{Tree as TreeMode, Buffer}
use Rattle.lt_seq.specs.declared.event.Held.{Held}
use Rattle.lt_seq.specs.declared.event.Pair.{Pair}
use Rattle.lt_seq.specs.Table.{held_in}
use Rattle.lt_forest.specs.Forest.{IsTree, folded}
use Rattle.lt_forest.specs.Views.{IsIn, AllHeld}
use Rattle.lt_rows.specs.declared.view.View.{View}
use Rattle.lt_rows.specs.Nodes.{node_of, mode_of, mode_by}
use Rattle.lt_rows.specs.Views.{images, has}
use Rattle.lt_rows.specs.Lawful.{shown}
use Rattle.lt_rows.proofs.Planned.{row_held}
use Rattle.lt_rows.proofs.LessonLaws.{whole_chain_shows_buffer}
use Rattle.lt_tree.specs.Puttings.{Backs}
use Rattle.lt_chain.specs.Chains.{HoldsChain, ReadsPairs, Walks}
use Rattle.lt_chain.proofs.HoldingLaws.{backs_held}
use Rattle.lt_chain.proofs.WalkLaws.{run_ends}

abbrev owner_in : Mode → ℕ
owner_in (TreeMode score) = 0
owner_in (Buffer txn count) = txn

buffer_owner : (b : Bool) (score owner rows txn count : ℕ) → mode_by b (TreeMode score) (Buffer owner rows) ≡ Buffer txn count → owner ≡ txn
buffer_owner true score owner rows txn count e = absurd (subst IsTree e tt)
buffer_owner false score owner rows txn count e = ap owner_in e

-- the anchor's owner is the buffer's
pub owned : (ws : List ℕ) (txn count : ℕ) → mode_of ws ≡ Buffer txn count → (node_of ws).owner ≡ txn
unfolding mode_of node_of
owned ws txn count e = buffer_owner (nat_eq (slice_index ws 0) 0) (slice_index ws 19) (slice_index ws 0) (slice_index ws 20) txn count e

pub all_held : (v : View) (rows : List ℕ) → Backs v rows → AllHeld (IsIn (has v)) rows
all_held v rows b q some = let h = backs_held v rows b q some in row_held v q h.0 h.1

module _ (v z : View) (tree owner count : ℕ) (rows : List ℕ) (w : Walks v tree owner count rows 0) (lt : tree < v.plan.trees) (same : z ≡ v) where
  pub holds_chain : HoldsChain z tree rows
  holds_chain = subst (λ (x : View). HoldsChain x tree rows) (sym same) record {
    backs = w.backs;
    shows = record {
      buffer = (owner, count, w.mode);
      chain = run_ends (shown v []) (shown v [] tree).left rows w.run;
    };
  }

  pub reads_pairs : (pairs : List Held) → pairs ≡ held_in tree (folded (shown v [] tree).owner (shown v []) rows) → ReadsPairs z tree rows pairs
  reads_pairs pairs is =
      let shows = whole_chain_shows_buffer v w.teaches.0 tree owner count rows w.teaches.2 (all_held v (tree ∷ rows) w.backs) lt w.mode (run_ends (shown v []) (shown v [] tree).left rows w.run) in
      let mine : folded (shown v [] tree).owner (shown v []) rows ≡ folded owner (shown v []) rows = ap (λ (n : ℕ). folded n (shown v []) rows) (owned (images v tree) owner count w.mode) in
      subst (λ (x : View). ReadsPairs x tree rows pairs) (sym same) record {
        granted = is;
        log = w.teaches.0;
        seen = w.teaches.1;
        stood = w.teaches.2;
        of_tree = is ∙ ap (λ (l : List Pair). held_in tree l) (mine ∙ shows.0);
      }
