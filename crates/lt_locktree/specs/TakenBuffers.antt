-- A buffer that a deed has taken whole.
use Rattle.std.specs.Prelude.{◌≡◌, ℕ, List}
use Rattle.lt_seq.specs.declared.event.Mode.TheVariants.{Buffer}
use Rattle.lt_seq.specs.declared.event.Pair.{Pair}
use Rattle.lt_seq.specs.Pairs.{IsLawful}
use Rattle.lt_rows.specs.declared.view.View.{View}
use Rattle.lt_rows.specs.Nodes.{mode_of}
use Rattle.lt_rows.specs.Views.{images}
use Rattle.lt_chain.specs.Chains.{HoldsChain}
use Rattle.lt_locktree.specs.Endings.{buffered_pairs}

-- the anchor shows a buffer of this transaction
abbrev pub ShowsBufferOf : View → ℕ → ℕ → Type 0
ShowsBufferOf v tree owner = (count : ℕ) × (mode_of (images v tree) ≡ Buffer owner count)

-- The pass that held the anchor holds all rows of the buffer besides, the anchor shows what it showed, and these are the pairs.
pub record HasTaken (v w : View) (tree : ℕ) (rows : List ℕ) (pairs : List Pair) : Type 0 where
  pub chain : HoldsChain w tree rows
  pub mode_is : mode_of (images w tree) ≡ mode_of (images v tree)
  pub pairs_are : (owner count : ℕ) → mode_of (images v tree) ≡ Buffer owner count → pairs ≡ buffered_pairs w owner rows
  pub lawful : IsLawful pairs
