-- What an anchor shows of what serves an ask.
use Rattle.std.specs.Prelude.{◌≡◌, ◌≢◌, ℕ, ◌<◌, List, [], false}
use Rattle.lt_seq.specs.declared.event.Mode.TheVariants.{Tree as TreeMode, Buffer}
use Rattle.lt_seq.specs.Table.{is_buffered}
use Rattle.lt_rows.specs.Nodes.{node_of, mode_of}
use Rattle.lt_tree.specs.declared.prepare.Anchor.{Anchor}
use Rattle.lt_locktree.specs.declared.serving.Serving.{Serving}
use Rattle.lt_locktree.specs.declared.serving.Serving.TheVariants.{Beginning, Own, Ending, Tree}

abbrev pub Shows : ℕ → ℕ → Anchor → Serving → Type 0
Shows buffer txn a Beginning = (a.buffer_txn ≡ 0) × (a.top ≡ 0) × (a.score ≡ 100) × (0 < buffer)
Shows buffer txn a Own = (a.buffer_txn ≢ 0) × (a.buffer_txn ≡ txn) × (a.buffered < buffer)
Shows buffer txn a Ending = (a.buffer_txn ≢ 0) × (is_buffered buffer txn [] (Buffer a.buffer_txn a.buffered) ≡ false)
Shows buffer txn a Tree = (a.buffer_txn ≡ 0) × (a.top ≡ 0 → a.score ≡ 100 → 0 < buffer → ⊥)

-- no buffer begins in the tree of which the anchor has these words
abbrev pub BeginsNone : ℕ → List ℕ → Type 0
BeginsNone buffer words = (node_of words).left ≡ 0 → mode_of words ≡ TreeMode 100 → 0 < buffer → ⊥
