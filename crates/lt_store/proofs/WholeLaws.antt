-- A whole step, by what its calls made.
use Rattle.std.proofs.Common.{◌≡◌, ℕ, ◌+◌, ◌*◌, ◌^◌, ◌<◌, ◌≤◌, List, [], ◌∷◌, ◌++◌, length, true, refl, sym, ap, subst, ◌∙◌, arith}
use Rattle.std.specs.List.{remove}
use Rattle.lt_ranges.specs.Numbers.{with_number}
use Rattle.lt_seq.specs.declared.event.Event.{Event}
use Rattle.lt_seq.specs.History.{IsLegal}
use Rattle.lt_store.specs.declared.answer.Answer.TheVariants.{Committed}
use Rattle.lt_store.specs.declared.done.Done.{Done}
use Rattle.lt_store.specs.Attempts.{setting_of, all_freed}
use Rattle.lt_store.specs.View.{Work, StoreView}
use Rattle.lt_store.specs.Book.{Acts, BookView}
use Rattle.lt_store.specs.Acting.{works, HasBegun}
use Rattle.lt_store.specs.Store.{IsStore}
use Rattle.lt_store.specs.Steps.{Commits}
use Rattle.lt_store.specs.Stepping.{view_of}
use Rattle.lt_store.proofs.StepLaws.{began, committed}
use Rattle.lt_store.proofs.MiddleLaws.{begun_removed, begun_works, begun_room, works-append}

-- the transaction has begun
module _ (limit : ℕ) (front : List Event) (book b1 : BookView) (steps txn place : ℕ) (is : IsStore limit front book steps)
    (has : HasBegun book.live b1.live txn place) (b1_is : b1 ≡ record book { live = b1.live }) where
  pub begun_store : IsStore limit front b1 steps
  begun_store = subst (λ (b : BookView). IsStore limit front b steps) (sym b1_is) (began limit front book steps b1.live txn place is has)

  pub room_for : (done : List Done) → done ≡ has.acts.done → steps < 2 ^ 32 → length front + length done ≤ 2 ^ 38
  room_for done done_is few =
      let room = begun_room book.live b1.live txn place has limit b1 steps front refl begun_store in
      omega (arith, room, few, ap (λ (l : List Done). length l) done_is)

  -- it commits
  module _ (new : List Event) (b2 b3 : BookView) (done : List Done) (done_is : done ≡ has.acts.done) (freed : new ≡ all_freed limit txn true done front) (legal : IsLegal (setting_of limit) new)
      (b2_is : b2 ≡ record b1 { commits = b1.commits ++ has.acts.done ∷ []; live = remove b1.live place }) (b3_is : b3 ≡ record b2 { ended = with_number txn b2.ended }) where
    book_is : b3 ≡ record book { commits = book.commits ++ has.acts.done ∷ []; live = has.before ++ has.behind; ended = with_number txn book.ended }
    book_is =
        b3_is ∙ ap (λ (b : BookView). (let r : BookView = record b { ended = with_number txn b.ended } in r)) b2_is
        ∙ ap (λ (l : List Acts). (let r : BookView = record b1 { commits = b1.commits ++ has.acts.done ∷ []; live = l; ended = with_number txn b1.ended } in r))
        (begun_removed book.live b1.live txn place has)
        ∙ ap (λ (b : BookView). (let r : BookView = record b { commits = b.commits ++ has.acts.done ∷ []; live = has.before ++ has.behind; ended = with_number txn b.ended } in r)) b1_is

    front_is : new ≡ all_freed limit txn true has.acts.done front
    front_is = freed ∙ ap (λ (l : List Done). all_freed limit txn true l front) done_is

    own_front : new ≡ all_freed limit has.acts.txn true has.acts.done front
    own_front = front_is ∙ ap (λ (n : ℕ). all_freed limit n true has.acts.done front) (sym has.own)

    pub committed_store : IsStore limit new b3 (steps + 1)
    committed_store =
        subst (λ (es : List Event). IsStore limit es b3 (steps + 1)) (sym own_front)
        (subst (λ (b : BookView). IsStore limit (all_freed limit has.acts.txn true has.acts.done front) b (steps + 1)) (sym book_is)
        (committed limit front (record book { live = b1.live }) steps (began limit front book steps b1.live txn place is has) has.before has.acts has.behind has.new_is (with_number txn book.ended)
        (subst (λ (es : List Event). IsLegal (setting_of limit) es) own_front legal)))

    pub committed_view : Commits (view_of limit front book steps) (view_of limit new b3 (steps + 1)) txn Committed
    committed_view = record {
      before = works has.before;
      done = has.acts.done;
      behind = works has.behind;
      among = record { works_are = begun_works book.live b1.live txn place has };
      answer_is = refl;
      new_is =
          ap (λ (es : List Event). view_of limit es b3 (steps + 1)) front_is
          ∙ ap (λ (b : BookView). view_of limit (all_freed limit txn true has.acts.done front) b (steps + 1)) book_is
          ∙ ap (λ (ws : List Work). (let v : StoreView = record (view_of limit front book steps) {
            front = all_freed limit txn true has.acts.done front;
            commits = book.commits ++ has.acts.done ∷ [];
            live = ws;
            ended = with_number txn book.ended;
            steps = steps + 1;
          } in v)) (works-append has.before has.behind);
    }
