-- The first live transaction is undone, and gives back what it holds: the store stays one at the same number of steps.
use Rattle.std.proofs.Common.{◌≡◌, ◌≢◌, ℕ, ◌+◌, ◌^◌, ◌<◌, ◌≤◌, List, [], ◌∷◌, length, drop, get_or, true}
use Rattle.std.proofs.Common.{inl, inr, refl, sym, ap, subst, ◌∙◌, arith}
use Rattle.std.specs.List.{remove}
use Rattle.lt_seq.specs.declared.event.Event.{Event}
use Rattle.lt_seq.specs.History.{IsLegal}
use Rattle.lt_store.specs.declared.row.StoreRow.{StoreRow}
use Rattle.lt_store.specs.declared.done.Done.{Done}
use Rattle.lt_store.specs.declared.undo.Undo.{Undo}
use Rattle.lt_store.specs.Rerun.{rerun, after_all, after_ops}
use Rattle.lt_store.specs.Undoing.{undo_of, unwound, CanUnwind}
use Rattle.lt_store.specs.Attempts.{setting_of, all_freed}
use Rattle.lt_store.specs.Book.{Acts, BookView, In, Ascends, dones, count_done}
use Rattle.lt_store.specs.Acting.{works}
use Rattle.lt_store.specs.Store.{IsStore}
use Rattle.lt_store.specs.Standing.{AreNumbered}
use Rattle.lt_store.proofs.RerunLaws.{undo_behind_all, can_unwind}
use Rattle.lt_store.proofs.LiveLaws.{each_clear, others_differ}
use Rattle.lt_store.proofs.BookLaws.{rows_last, aborts}
use Rattle.lt_store.proofs.TableLaws.{frees_plain, length-frees}
use Rattle.lt_store.proofs.StoreLaws.{held_freed}

-- the first of some
first_and_rest : (live : List Acts) → live ≢ [] → (d : Acts) → live ≡ get_or live 0 d ∷ drop 1 live
first_and_rest [] some d = absurd (some refl)
first_and_rest (a ∷ as') some d = refl

pub at_first : (live : List Acts) (a : Acts) → live ≢ [] → ((d : Acts) → a ≡ get_or live 0 d) → live ≡ a ∷ drop 1 live
at_first live a some is = first_and_rest live some a ∙ ap (λ (x : Acts). x ∷ drop 1 live) (sym (is a))

removed_first : (live : List Acts) (a : Acts) (behind : List Acts) → live ≡ a ∷ behind → remove live 0 ≡ behind
removed_first live a behind is = ap (λ (l : List Acts). remove l 0) is

pub book_left : (book b : BookView) (a : Acts) → ((d : Acts) → a ≡ get_or book.live 0 d) →
    ((d : Acts) → b ≡ record book { rows = unwound book.rows (get_or book.live 0 d).undo; live = remove book.live 0 }) →
    b ≡ record book { rows = unwound book.rows a.undo; live = remove book.live 0 }
book_left book b a is left = left a
    ∙ ap (λ (x : Acts). (let r : BookView = record book { rows = unwound book.rows x.undo; live = remove book.live 0 } in r))
    (sym (is a))

pub freed_of : (limit txn : ℕ) (done : List Done) (front new : List Event) (a : Acts) →
    new ≡ all_freed limit txn true done front → txn ≡ a.txn → done ≡ a.done →
    new ≡ all_freed limit a.txn true a.done front
freed_of limit txn done front new a freed txn_is done_is =
    freed ∙ ap (λ (n : ℕ). all_freed limit n true done front) txn_is ∙ ap (λ (l : List Done). all_freed limit a.txn true l front) done_is

module _ (limit : ℕ) (front : List Event) (book : BookView) (steps : ℕ) (is : IsStore limit front book steps)
    (a : Acts) (behind : List Acts) (live : book.live ≡ a ∷ behind) where
  mine : In book.live a
  mine = subst (λ (l : List Acts). In l a) (sym live) (inl refl)

  other : (x : Acts) → In behind x → In book.live x
  other x h = subst (λ (l : List Acts). In l x) (sym live) (inr h)

  differ : (x : Acts) → In behind x → x.txn ≢ a.txn
  differ x h = others_differ [] a behind x (subst Ascends live is.is_book.ascends) h

  -- its puts can be undone
  undoes : CanUnwind book.rows a.undo
  undoes =
      let base = rerun book.commits in
      let others = after_all base (dones behind) in
      let same : undo_of others a.done ≡ undo_of base a.done =
      undo_behind_all base (dones behind) a.done (each_clear behind a.done (λ x h. is.is_book.apart x a (other x h) mine (differ x h))) in
      subst (λ (l : List StoreRow). CanUnwind l a.undo) (sym (rows_last book is.is_book [] a behind live))
      (subst (λ (us : List Undo). CanUnwind (after_ops others a.done) us) (same ∙ sym (is.is_book.undos a mine)) (can_unwind others a.done))

  -- what it has done is paid for
  pub room_to_free : (done : List Done) → done ≡ a.done → steps < 2 ^ 32 → length front + length done ≤ 2 ^ 38
  room_to_free done done_is few = omega (arith, is.room, few, ap count_done live, ap (λ (l : List Done). length l) done_is)

  pub ended : IsLegal (setting_of limit) (all_freed limit a.txn true a.done front) →
      IsStore limit (all_freed limit a.txn true a.done front) (record book { rows = unwound book.rows a.undo; live = behind }) steps
  ended legal = record {
    legal = legal;
    plain = frees_plain limit a.txn true a.done front is.plain;
    is_book = aborts book is.is_book [] a behind live book.ended book.gone;
    held = held_freed limit a.txn a.done front behind is.plain differ (λ x h. is.held x (other x h));
    room = omega (arith, is.room, ap count_done live, length-frees limit a.txn true a.done front);
  }

  -- and it was one of those with a number from 1
  pub first_numbered : AreNumbered (works book.live) → (txn : ℕ) → txn ≡ a.txn → 1 ≤ txn
  first_numbered all txn txn_is = subst (λ (n : ℕ). 1 ≤ n) (sym txn_is)
      (subst (λ (l : List Acts). AreNumbered (works l)) live all).0

  -- by what the calls made
  module _ (b : BookView) (b_is : b ≡ record book { rows = unwound book.rows a.undo; live = remove book.live 0 }) where
    pub live_left : b.live ≡ behind
    live_left = ap (λ (v : BookView). v.live) b_is ∙ removed_first book.live a behind live

    pub ended_store : (new : List Event) → new ≡ all_freed limit a.txn true a.done front → IsLegal (setting_of limit) new →
        IsStore limit new b steps
    ended_store new freed legal =
        subst (λ (es : List Event). IsStore limit es b steps) (sym freed)
        (subst (λ (v : BookView). IsStore limit (all_freed limit a.txn true a.done front) v steps)
        (sym (b_is ∙ ap (λ (l : List Acts). (let r : BookView = record book { rows = unwound book.rows a.undo; live = l } in r))
        (removed_first book.live a behind live)))
        (ended (subst (λ (es : List Event). IsLegal (setting_of limit) es) freed legal)))

    pub left_numbered : AreNumbered (works book.live) → AreNumbered (works b.live)
    left_numbered all = subst (λ (l : List Acts). AreNumbered (works l)) (sym live_left)
        (subst (λ (l : List Acts). AreNumbered (works l)) live all).1

pub can_undo : (limit : ℕ) (front : List Event) (book : BookView) (steps : ℕ) → IsStore limit front book steps →
    book.live ≢ [] → (d : Acts) → CanUnwind book.rows (get_or book.live 0 d).undo
can_undo limit front book steps is some d =
    undoes limit front book steps is (get_or book.live 0 d) (drop 1 book.live) (first_and_rest book.live some d)
