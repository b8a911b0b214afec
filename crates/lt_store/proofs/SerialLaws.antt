-- A book is serial, as contracts see it.
use Rattle.std.proofs.Common.{◌≡◌, ℕ, List, [], ◌∷◌, map, inl, inr, refl, ap, ◌∙◌}
use Rattle.std.specs.List.{AllByRecursion}
use Rattle.lt_seq.specs.declared.event.Event.{Event}
use Rattle.lt_store.specs.declared.row.StoreRow.{StoreRow}
use Rattle.lt_store.specs.declared.done.Done.{Done}
use Rattle.lt_store.specs.Rerun.{rerun, after_all, AreAnswers}
use Rattle.lt_store.specs.View.{Work}
use Rattle.lt_store.specs.Book.{Acts, BookView, In, dones, IsBook}
use Rattle.lt_store.specs.Acting.{works}
use Rattle.lt_store.specs.Steps.{IsSerial}
use Rattle.lt_store.specs.Stepping.{view_of}

dones_of_works : (live : List Acts) → dones live ≡ map (λ w. w.done) (works live)
dones_of_works [] = refl
dones_of_works (a ∷ as') = ap (λ (l : List (List Done)). a.done ∷ l) (dones_of_works as')

all_answer : (rows : List StoreRow) (live : List Acts) → ((a : Acts) → In live a → AreAnswers rows a.done) →
    AllByRecursion (λ (w : Work). AreAnswers rows w.done) (works live)
all_answer rows [] each = tt
all_answer rows (a ∷ as') each = (each a (inl refl), all_answer rows as' (λ x h. each x (inr h)))

pub serial : (limit : ℕ) (front : List Event) (book : BookView) (steps : ℕ) → IsBook book → IsSerial (view_of limit front book steps)
serial limit front book steps is = record {
  commits = is.commits;
  map_is = is.rows ∙ ap (λ (l : List (List Done)). after_all (rerun book.commits) l) (dones_of_works book.live);
  live = all_answer (rerun book.commits) book.live is.answers;
}
