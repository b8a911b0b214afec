-- A step of a transaction that is undone, by what its calls made.
use Rattle.std.proofs.Common.{◌≡◌, ℕ, ◌+◌, ◌^◌, ◌<◌, ◌≤◌, List, ◌++◌, length, get_or, true, refl, sym, ap, subst, ◌∙◌, arith}
use Rattle.std.specs.List.{remove}
use Rattle.lt_ranges.specs.Numbers.{with_number}
use Rattle.lt_seq.specs.declared.event.Event.{Event}
use Rattle.lt_seq.specs.History.{IsLegal}
use Rattle.lt_store.specs.declared.answer.Answer.TheVariants.{Aborted, OutOfLocks}
use Rattle.lt_store.specs.Attempts.{setting_of, tree_after_all, joined_first, used_after, all_freed}
use Rattle.lt_store.specs.Locks.{IsPlain, IsStopped}
use Rattle.lt_store.specs.Undoing.{unwound, CanUnwind}
use Rattle.lt_store.specs.View.{Work, StoreView}
use Rattle.lt_store.specs.Book.{Acts, BookView, AreHeld}
use Rattle.lt_store.specs.Acting.{works, fresh, HasBegun}
use Rattle.lt_store.specs.Store.{IsStore}
use Rattle.lt_store.specs.Steps.{Aborts, Stops}
use Rattle.lt_store.specs.Stepping.{view_of}
use Rattle.lt_store.proofs.BookLaws.{can_undo}
use Rattle.lt_store.proofs.StepLaws.{began, aborted}
use Rattle.lt_store.proofs.StoreLaws.{held_first}
use Rattle.lt_store.proofs.TableLaws.{first_plain, length-first}
use Rattle.lt_store.proofs.MiddleLaws.{begun_at, begun_removed, begun_works, begun_room, works-append}
use Rattle.lt_store.proofs.WholeLaws.{begun_store}

-- the transaction has begun
module _ (limit : ℕ) (front : List Event) (book b1 : BookView) (steps txn place : ℕ) (is : IsStore limit front book steps)
    (has : HasBegun book.live b1.live txn place) (b1_is : b1 ≡ record book { live = b1.live }) where
  store : IsStore limit front b1 steps
  store = begun_store limit front book b1 steps txn place is has b1_is

  pub undo_at : (d : Acts) → CanUnwind b1.rows (get_or b1.live place d).undo
  undo_at d = subst (λ (a : Acts). CanUnwind b1.rows a.undo) (sym (begun_at book.live b1.live txn place has d))
      (can_undo b1 store.is_book has.before has.acts has.behind has.new_is)

  pub room_at : (events : List Event) → length events ≤ length front + 1 → steps < 2 ^ 32 → (d : Acts) →
      length events + length (get_or b1.live place d).done ≤ 2 ^ 38
  room_at events more few d =
      let room = begun_room book.live b1.live txn place has limit b1 steps front refl store in
      omega (arith, room, few, more, ap (λ (a : Acts). length a.done) (begun_at book.live b1.live txn place has d))

  -- its locks are released behind these events, it is undone, and kept among those that have ended or are gone
  module _ (events new : List Event) (b2 b3 : BookView) (end leave : List ℕ → List ℕ)
      (freed : (d : Acts) → new ≡ all_freed limit txn true (get_or b1.live place d).done events)
      (b2_is : (d : Acts) → b2 ≡ record b1 { rows = unwound b1.rows (get_or b1.live place d).undo; live = remove b1.live place })
      (b3_is : b3 ≡ record b2 { ended = end b2.ended; gone = leave b2.gone }) where
    book_is : b3 ≡ record book {
      rows = unwound book.rows has.acts.undo;
      live = has.before ++ has.behind;
      ended = end book.ended;
      gone = leave book.gone;
    }
    book_is =
        b3_is ∙ ap (λ (b : BookView). (let r : BookView = record b { ended = end b.ended; gone = leave b.gone } in r)) (b2_is (fresh txn))
        ∙ ap (λ (a : Acts). (let r : BookView = record b1 {
          rows = unwound b1.rows a.undo;
          live = remove b1.live place;
          ended = end b1.ended;
          gone = leave b1.gone;
        } in r)) (begun_at book.live b1.live txn place has (fresh txn))
        ∙ ap (λ (l : List Acts). (let r : BookView = record b1 {
          rows = unwound b1.rows has.acts.undo;
          live = l;
          ended = end b1.ended;
          gone = leave b1.gone;
        } in r)) (begun_removed book.live b1.live txn place has)
        ∙ ap (λ (b : BookView). (let r : BookView = record b {
          rows = unwound b.rows has.acts.undo;
          live = has.before ++ has.behind;
          ended = end b.ended;
          gone = leave b.gone;
        } in r)) b1_is

    front_is : new ≡ all_freed limit txn true has.acts.done events
    front_is =
        freed (fresh txn)
        ∙ ap (λ (a : Acts). all_freed limit txn true a.done events) (begun_at book.live b1.live txn place has (fresh txn))

    own_front : new ≡ all_freed limit has.acts.txn true has.acts.done events
    own_front = front_is ∙ ap (λ (n : ℕ). all_freed limit n true has.acts.done events) (sym has.own)

    gave_up : IsPlain (tree_after_all limit events).mode → AreHeld (tree_after_all limit events).pairs b1.live →
        length events ≤ length front + 1 → IsLegal (setting_of limit) new → IsStore limit new b3 (steps + 1)
    gave_up plain held more legal =
        subst (λ (es : List Event). IsStore limit es b3 (steps + 1)) (sym own_front)
        (subst (λ (b : BookView). IsStore limit (all_freed limit has.acts.txn true has.acts.done events) b (steps + 1)) (sym book_is)
        (aborted limit front (record book { live = b1.live }) steps (began limit front book steps b1.live txn place is has)
        has.before has.acts has.behind has.new_is (end book.ended) (leave book.gone) events plain
        (subst (λ (l : List Acts). AreHeld (tree_after_all limit events).pairs l) has.new_is held) more
        (subst (λ (es : List Event). IsLegal (setting_of limit) es) own_front legal)))

    view_is : view_of limit new b3 (steps + 1) ≡ record (view_of limit front book steps) {
      front = all_freed limit txn true has.acts.done events;
      map = b3.rows;
      live = works has.before ++ works has.behind;
      ended = end book.ended;
      gone = leave book.gone;
      steps = steps + 1;
    }
    view_is =
        ap (λ (es : List Event). view_of limit es b3 (steps + 1)) front_is
        ∙ ap (λ (b : BookView). (let v : StoreView = record (view_of limit (all_freed limit txn true has.acts.done events) b (steps + 1)) {
          map = b3.rows;
        } in v)) book_is
        ∙ ap (λ (ws : List Work). (let v : StoreView = record (view_of limit front book steps) {
          front = all_freed limit txn true has.acts.done events;
          map = b3.rows;
          live = ws;
          ended = end book.ended;
          gone = leave book.gone;
          steps = steps + 1;
        } in v)) (works-append has.before has.behind)

  -- it aborts
  module _ (new : List Event) (b2 b3 : BookView)
      (freed : (d : Acts) → new ≡ all_freed limit txn true (get_or b1.live place d).done front)
      (b2_is : (d : Acts) → b2 ≡ record b1 { rows = unwound b1.rows (get_or b1.live place d).undo; live = remove b1.live place })
      (b3_is : b3 ≡ record b2 { ended = with_number txn b2.ended }) where
    pub aborted_store : IsLegal (setting_of limit) new → IsStore limit new b3 (steps + 1)
    aborted_store legal = gave_up front new b2 b3 (with_number txn) (λ ns. ns) freed b2_is b3_is store.plain store.held (omega arith) legal

    pub aborted_view : Aborts (view_of limit front book steps) (view_of limit new b3 (steps + 1)) txn Aborted
    aborted_view = record {
      before = works has.before;
      done = has.acts.done;
      behind = works has.behind;
      among = record { works_are = begun_works book.live b1.live txn place has };
      answer_is = refl;
      new_is = view_is front new b2 b3 (with_number txn) (λ ns. ns) freed b2_is b3_is;
    }

  -- it is out of locks
  module _ (at_stop new : List Event) (b2 b3 : BookView) (at used_rows : ℕ) (stopped : IsStopped limit txn front at_stop at used_rows)
      (freed : (d : Acts) → new ≡ all_freed limit txn true (get_or b1.live place d).done at_stop)
      (b2_is : (d : Acts) → b2 ≡ record b1 { rows = unwound b1.rows (get_or b1.live place d).undo; live = remove b1.live place })
      (b3_is : b3 ≡ record b2 { gone = with_number txn b2.gone }) where
    joined : (d : Acts) → new ≡ all_freed limit txn true (get_or b1.live place d).done (joined_first limit txn front)
    joined d = freed d ∙ ap (λ (es : List Event). all_freed limit txn true (get_or b1.live place d).done es) stopped.front

    pub stopped_store : IsLegal (setting_of limit) new → IsStore limit new b3 (steps + 1)
    stopped_store legal = gave_up (joined_first limit txn front) new b2 b3 (λ ns. ns) (with_number txn) joined b2_is b3_is
        (first_plain limit txn front is.plain) (held_first limit txn front b1.live is.legal store.held) (length-first limit txn front) legal

    pub stopped_view : Stops (view_of limit front book steps) (view_of limit new b3 (steps + 1)) txn (OutOfLocks at used_rows)
    stopped_view = record {
      before = works has.before;
      done = has.acts.done;
      behind = works has.behind;
      among = record { works_are = begun_works book.live b1.live txn place has };
      answer_is =
          ap (λ (n : ℕ). OutOfLocks n used_rows) (stopped.place_is ∙ ap (λ (es : List Event). length es) stopped.front)
          ∙ ap (λ (n : ℕ). OutOfLocks (length (joined_first limit txn front)) n)
          (stopped.used_is ∙ ap (λ (es : List Event). used_after limit es) stopped.front);
      new_is = view_is (joined_first limit txn front) new b2 b3 (λ ns. ns) (with_number txn) joined b2_is b3_is;
    }
