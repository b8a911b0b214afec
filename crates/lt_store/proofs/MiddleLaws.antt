-- One transaction among others, by its place.
use Rattle.std.proofs.Common.{◌≡◌, ℕ, zero, suc, ◌+◌, ◌*◌, ◌<◌, ◌≤◌, List, [], ◌∷◌, ◌++◌, map, length, get_or, set, drop, take, refl, sym, ap, subst, ◌∙◌, arith, true}
use Rattle.std.specs.List.{remove}
use Rattle.lt_seq.specs.declared.event.Event.{Event}
use Rattle.lt_store.specs.View.{Work, begun}
use Rattle.lt_store.specs.Undoing.{CanUnwind}
use Rattle.lt_store.specs.Book.{Acts, BookView, IsBook, dones, count_done}
use Rattle.lt_store.specs.Rerun.{after_all, after_ops, rerun}
use Rattle.lt_store.specs.Acting.{works, HasBegun}
use Rattle.lt_store.specs.Store.{IsStore}
use Rattle.lt_store.proofs.StepLaws.{count_around}

get_middle : (before : List Acts) (a : Acts) (behind : List Acts) (d : Acts) → get_or (before ++ a ∷ behind) (length before) d ≡ a
get_middle [] a behind d = refl
get_middle (x ∷ xs) a behind d = get_middle xs a behind d

set_middle : (before : List Acts) (a b : Acts) (behind : List Acts) → set (before ++ a ∷ behind) (length before) b ≡ before ++ b ∷ behind
set_middle [] a b behind = refl
set_middle (x ∷ xs) a b behind = ap (λ (l : List Acts). x ∷ l) (set_middle xs a b behind)

remove_middle : (before : List Acts) (a : Acts) (behind : List Acts) → remove (before ++ a ∷ behind) (length before) ≡ before ++ behind
remove_middle [] a behind = refl
remove_middle (x ∷ xs) a behind = ap (λ (l : List Acts). x ∷ l) (remove_middle xs a behind)

within_middle : (before : List Acts) (a : Acts) (behind : List Acts) → length before < length (before ++ a ∷ behind)
within_middle [] a behind = omega arith
within_middle (x ∷ xs) a behind = let rest = within_middle xs a behind in omega (arith, rest)

pub works-append : (xs ys : List Acts) → works (xs ++ ys) ≡ works xs ++ works ys
works-append [] ys = refl
works-append (x ∷ xs) ys = ap (λ (l : List Work). (let w : Work = record { txn = x.txn; done = x.done } in w) ∷ l) (works-append xs ys)

-- the transaction that has begun, at its place
module _ (old new : List Acts) (txn place : ℕ) (has : HasBegun old new txn place) where
  pub begun_within : place < length new
  begun_within = subst (λ (l : List Acts). place < length l) (sym has.new_is)
      (subst (λ (n : ℕ). n < length (has.before ++ has.acts ∷ has.behind)) has.place_is (within_middle has.before has.acts has.behind))

  pub begun_at : (d : Acts) → get_or new place d ≡ has.acts
  begun_at d = ap (λ (l : List Acts). get_or l place d) has.new_is
      ∙ ap (λ (n : ℕ). get_or (has.before ++ has.acts ∷ has.behind) n d) (sym has.place_is) ∙ get_middle has.before has.acts has.behind d

  pub begun_set : (b : Acts) → set new place b ≡ has.before ++ b ∷ has.behind
  begun_set b = ap (λ (l : List Acts). set l place b) has.new_is
      ∙ ap (λ (n : ℕ). set (has.before ++ has.acts ∷ has.behind) n b) (sym has.place_is) ∙ set_middle has.before has.acts b has.behind

  pub begun_removed : remove new place ≡ has.before ++ has.behind
  begun_removed = ap (λ (l : List Acts). remove l place) has.new_is
      ∙ ap (λ (n : ℕ). remove (has.before ++ has.acts ∷ has.behind) n) (sym has.place_is) ∙ remove_middle has.before has.acts has.behind

  -- as contracts see it
  pub begun_works : begun txn (works old) ≡ works has.before ++ record { txn = txn; done = has.acts.done } ∷ works has.behind
  begun_works = sym has.begun_is ∙ ap works has.new_is ∙ works-append has.before (has.acts ∷ has.behind)
      ∙ ap (λ (n : ℕ). works has.before ++ (let w : Work = record { txn = n; done = has.acts.done } in w) ∷ works has.behind) has.own

  -- what it has done is paid for
  pub begun_room : (limit : ℕ) (book : BookView) (steps : ℕ) (front : List Event) → book.live ≡ new → IsStore limit front book steps → length front + length has.acts.done ≤ 3 * steps
  begun_room limit book steps front live is =
      let around = count_around has.before has.acts has.behind in
      omega (arith, is.room, ap count_done (live ∙ has.new_is), around)
