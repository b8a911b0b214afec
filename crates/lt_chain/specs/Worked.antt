-- What an anchor shows of a buffer.
use Rattle.std.specs.Prelude.{◌≡◌, ℕ, ◌<◌, slice_index}
use Rattle.lt_rows.specs.declared.image.RowImage.{RowImage}
use Rattle.lt_chain.specs.declared.worked.Room.{Room}
use Rattle.lt_chain.specs.declared.worked.Room.TheVariants.{Empty, Own, Closed}

abbrev pub ShowsRoom : ℕ → ℕ → RowImage → Room → Type 0
ShowsRoom buffer txn anchor Empty =
    (slice_index anchor.words 0 ≡ 0) × (slice_index anchor.words 17 ≡ 0) × (slice_index anchor.words 19 ≡ 100) × (0 < buffer)
ShowsRoom buffer txn anchor Own = (slice_index anchor.words 0 ≡ txn) × (slice_index anchor.words 20 < buffer)
ShowsRoom buffer txn anchor Closed = Unit {0}
