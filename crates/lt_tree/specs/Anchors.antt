-- What is read off a tree's anchor.
use Rattle.std.specs.Prelude.{◌≡◌, ◌≢◌, ◌⊎◌}
use Rattle.lt_seq.specs.declared.event.Mode.{Mode}
use Rattle.lt_seq.specs.declared.event.Mode.TheVariants.{Tree as TreeMode, Buffer}
use Rattle.lt_tree.specs.declared.prepare.Anchor.{Anchor}

-- the anchor's mode: of a buffer where it names a transaction, and else Tree mode with its score
abbrev pub ShowsMode : Mode → Anchor → Type 0
ShowsMode mode a =
    ((a.buffer_txn ≡ 0) × (mode ≡ TreeMode a.score)) ⊎ ((a.buffer_txn ≢ 0) × (mode ≡ Buffer a.buffer_txn a.buffered))
