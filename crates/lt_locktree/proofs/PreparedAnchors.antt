-- What an anchor that is held says of its tree.
use Rattle.std.proofs.Common.{◌≡◌, ◌≢◌, inl, inr, ℕ, ◌≤◌, Bool, true, false, sym, ap, ◌∙◌, subst, arith}
use Rattle.std.specs.Prelude.{nat_eq}
use Rattle.lt_seq.specs.declared.event.Mode.{Mode}
use Rattle.lt_seq.specs.declared.event.Mode.TheVariants.{Buffer}
use Rattle.lt_forest.specs.Counts.{one_if}
use Rattle.lt_forest.specs.Forest.{IsTree}
use Rattle.lt_forest.proofs.SameRows.{one_equal}
use Rattle.lt_rows.specs.declared.image.RowImage.{RowImage}
use Rattle.lt_rows.specs.declared.view.View.{View}
use Rattle.lt_rows.specs.Nodes.{mode_of}
use Rattle.lt_rows.specs.Views.{IsHeld}
use Rattle.lt_rows.proofs.Planned.{held_row}
use Rattle.lt_tree.specs.declared.prepare.Anchor.{Anchor}
use Rattle.lt_tree.specs.States.{IsPrepared}
use Rattle.lt_tree.specs.Anchors.{ShowsMode}
use Rattle.lt_tree.proofs.PuttingLaws.{same_or_other}
use Rattle.lt_tree.proofs.ViewLaws.{only_gathers}
use Rattle.lt_chain.specs.Buffers.{HoldsAnchor}
use Rattle.lt_chain.specs.Chains.{ShowsBuffer}

pub tree_mode : (mode : Mode) (a : Anchor) → ShowsMode mode a → a.buffer_txn ≡ 0 → IsTree mode
tree_mode mode a (inl shows) none = subst IsTree (sym shows.1) tt
tree_mode mode a (inr shows) none = absurd (shows.0 none)

buffer_mode : (mode : Mode) (a : Anchor) → ShowsMode mode a → a.buffer_txn ≢ 0 → mode ≡ Buffer a.buffer_txn a.buffered
buffer_mode mode a (inl shows) some = absurd (some shows.0)
buffer_mode mode a (inr shows) some = shows.1

pub buffer_there : (v : View) (tree : ℕ) (image : RowImage) (a : Anchor) → IsPrepared v tree image → ShowsMode (mode_of image.words) a
    → a.buffer_txn ≢ 0 → ShowsBuffer v tree
buffer_there v tree image a prepared shows some =
    (a.buffer_txn, a.buffered, ap mode_of prepared.0.2 ∙ buffer_mode (mode_of image.words) a shows some)

one_at_most : (b : Bool) → one_if b ≤ 1
one_at_most true = omega arith
one_at_most false = omega arith

pub anchor_there : (v : View) (tree : ℕ) (image : RowImage) → IsPrepared v tree image → HoldsAnchor v tree
anchor_there v tree image prepared = record {
  keeps = record {
    held = λ q some. elim (same_or_other tree q) [
      | inl is ↦ subst (IsHeld v) (sym is) (held_row v tree prepared.0.0)
      | inr other ↦ absurd (let none = other.1 in omega arith)
    ];
    once = λ q. (let most = one_at_most (nat_eq tree q) in omega arith);
    gathers = only_gathers v tree image.words prepared.0 prepared.2;
  };
  held_all = λ q held. (let one = one_equal q tree (prepared.2 q held) in omega arith);
}
