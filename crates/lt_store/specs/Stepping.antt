-- A store by its parts. For proofs.
use Rattle.std.specs.Prelude.{◌≡◌, ℕ, List}
use Rattle.lt_seq.specs.declared.event.Event.{Event}
use Rattle.lt_store.specs.Book.{BookView}
use Rattle.lt_store.specs.Acting.{works}
use Rattle.lt_store.specs.View.{StoreView}

abbrev pub view_of : ℕ → List Event → BookView → ℕ → StoreView
view_of limit front book steps =
    record { limit = limit; front = front; map = book.rows; commits = book.commits; live = works book.live; ended = book.ended; gone = book.gone; steps = steps }
