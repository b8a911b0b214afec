-- The store stays one at each step.
use Rattle.std.proofs.Common.{◌≡◌, ◌≢◌, ℕ, ◌+◌, ◌*◌, ◌≤◌, List, [], ◌∷◌, ◌++◌, length, true, ◌⊎◌, inl, inr, refl, sym, ap, subst, ◌∙◌, arith, length-append}
use Rattle.lt_ranges.specs.Interval.{Interval}
use Rattle.lt_seq.specs.declared.event.Event.{Event}
use Rattle.lt_seq.specs.declared.event.Deed.TheVariants.{Ask}
use Rattle.lt_seq.specs.declared.event.Reply.TheVariants.{Granted}
use Rattle.lt_seq.specs.Pairs.{others}
use Rattle.lt_seq.specs.History.{IsLegal}
use Rattle.lt_seq.specs.Yard.{event_after}
use Rattle.lt_store.specs.declared.row.StoreRow.{StoreRow}
use Rattle.lt_store.specs.declared.op.Op.{Op}
use Rattle.lt_store.specs.declared.done.Done.{Done}
use Rattle.lt_store.specs.declared.locks.Asked.TheVariants.{Granted as IsGranted}
use Rattle.lt_store.specs.Ranges.{range_of}
use Rattle.lt_store.specs.Rerun.{answer_on, map_after}
use Rattle.lt_store.specs.Undoing.{unwound}
use Rattle.lt_store.specs.Attempts.{setting_of, tree_after_all, with_deed, joined_first, asked, reply_to, all_freed}
use Rattle.lt_store.specs.Locks.{said, IsPlain}
use Rattle.lt_store.specs.Book.{Acts, BookView, In, Ascends, IsBook, AreHeld, HoldsAll, count_done}
use Rattle.lt_store.specs.Acting.{did, done_as, fresh, HasBegun}
use Rattle.lt_store.specs.Store.{IsStore}
use Rattle.lt_store.proofs.BookLaws.{commits, aborts, does, begins}
use Rattle.lt_store.proofs.LiveLaws.{in_others, in_changed, in_middle, count-append, others_differ}
use Rattle.lt_store.proofs.TableLaws.{first_plain, ask_plain, frees_plain, length-frees, length-first}
use Rattle.lt_store.proofs.StoreLaws.{granted_unopposed, puts_meet_none, meets_no_puts, held_first, held_asked, held_freed, held_now}

pub count_around : (before : List Acts) (a : Acts) (behind : List Acts) → count_done (before ++ a ∷ behind) ≡ length a.done + count_done (before ++ behind)
count_around before a behind =
    let one = count-append before (a ∷ behind) in
    let two = count-append before behind in
    omega (arith, one, two)

length-asked : (limit txn : ℕ) (range : Interval) (events : List Event) → length (asked limit txn range events) ≤ length events + 2
length-asked limit txn range events =
    let first = length-first limit txn events in
    omega (arith, first, length-append (joined_first limit txn events) (event_after (setting_of limit) (joined_first limit txn events) 0 txn (Ask 0 range Granted) ∷ []))

-- a step that changes nothing but their number
pub later : (limit : ℕ) (front : List Event) (book : BookView) (steps : ℕ) → IsStore limit front book steps → IsStore limit front book (steps + 1)
later limit front book steps is = record { legal = is.legal; plain = is.plain; is_book = is.is_book; held = is.held; room = omega (arith, is.room) }

-- one begins that was not there
pub began : (limit : ℕ) (front : List Event) (book : BookView) (steps : ℕ) (new : List Acts) (txn place : ℕ) → IsStore limit front book steps → HasBegun book.live new txn place →
    IsStore limit front (record book { live = new }) steps
began limit front book steps new txn place is has = elim has.old_is [
  | inl same ↦ subst (λ (l : List Acts). IsStore limit front (record book { live = l }) steps) (sym same) is
  | inr old ↦ (let l = has.before ++ fresh txn ∷ has.behind in
      let new_is : new ≡ l = has.new_is ∙ ap (λ (a : Acts). has.before ++ a ∷ has.behind) old.1 in
      subst (λ (n : List Acts). IsStore limit front (record book { live = n }) steps) (sym new_is) (record {
        legal = is.legal;
        plain = is.plain;
        is_book = begins book is.is_book has.before has.behind txn old.0 (subst Ascends new_is has.ascends);
        held = λ x there. elim (in_changed has.before (fresh txn) has.behind x there) [
          | inl e ↦ subst (λ (y : Acts). HoldsAll y.txn (tree_after_all limit front).pairs y.done) e tt
          | inr k ↦ is.held x (subst (λ (o : List Acts). In o x) (sym old.0) k)
        ];
        room = omega (arith, is.room, count_around has.before (fresh txn) has.behind, ap count_done old.0);
      }))
]

-- A live transaction, in the middle of others.
module _ (limit : ℕ) (front : List Event) (book : BookView) (steps : ℕ) (is : IsStore limit front book steps) (before : List Acts) (a : Acts) (behind : List Acts) (live : book.live ≡ before ++ a ∷ behind) where
  held_here : AreHeld (tree_after_all limit front).pairs (before ++ a ∷ behind)
  held_here = subst (λ (l : List Acts). AreHeld (tree_after_all limit front).pairs l) live is.held

  ascending : Ascends (before ++ a ∷ behind)
  ascending = subst Ascends live is.is_book.ascends

  other : (x : Acts) → In (before ++ behind) x → x.txn ≢ a.txn
  other x h = others_differ before a behind x ascending h

  counted : count_done book.live ≡ length a.done + count_done (before ++ behind)
  counted = ap count_done live ∙ count_around before a behind

  -- it commits
  pub committed : (ended : List ℕ) → IsLegal (setting_of limit) (all_freed limit a.txn true a.done front) →
      IsStore limit (all_freed limit a.txn true a.done front) (record book { commits = book.commits ++ a.done ∷ []; live = before ++ behind; ended = ended }) (steps + 1)
  committed ended legal = record {
    legal = legal;
    plain = frees_plain limit a.txn true a.done front is.plain;
    is_book = commits book is.is_book before a behind live ended;
    held = held_freed limit a.txn a.done front (before ++ behind) is.plain other (λ x h. held_here x (in_others before a behind x h));
    room = omega (arith, is.room, counted, length-frees limit a.txn true a.done front);
  }

  -- it is undone, behind the joins of an ask or none
  pub aborted : (ended gone : List ℕ) (events : List Event) → IsPlain (tree_after_all limit events).mode → AreHeld (tree_after_all limit events).pairs (before ++ a ∷ behind) → length events ≤ length front + 1 →
      IsLegal (setting_of limit) (all_freed limit a.txn true a.done events) →
      IsStore limit (all_freed limit a.txn true a.done events) (record book { rows = unwound book.rows a.undo; live = before ++ behind; ended = ended; gone = gone }) (steps + 1)
  aborted ended gone events plain held more legal = record {
    legal = legal;
    plain = frees_plain limit a.txn true a.done events plain;
    is_book = aborts book is.is_book before a behind live ended gone;
    held = held_freed limit a.txn a.done events (before ++ behind) plain other (λ x h. held x (in_others before a behind x h));
    room = omega (arith, is.room, counted, length-frees limit a.txn true a.done events);
  }

  -- it is held
  pub waited : (range : Interval) → IsLegal (setting_of limit) (asked limit a.txn range front) → IsStore limit (asked limit a.txn range front) book (steps + 1)
  waited range legal = record {
    legal = legal;
    plain = ask_plain limit a.txn (joined_first limit a.txn front) range;
    is_book = is.is_book;
    held = held_asked limit a.txn range front book.live is.legal is.held;
    room = omega (arith, is.room, length-asked limit a.txn range front);
  }

  -- it is granted the range of an operation, and does it
  pub acted : (op : Op) → IsGranted ≡ said (reply_to limit a.txn (range_of op) front) → IsLegal (setting_of limit) (asked limit a.txn (range_of op) front) →
      IsStore limit (asked limit a.txn (range_of op) front) (record book { rows = map_after book.rows op; live = before ++ did a book.rows op ∷ behind }) (steps + 1)
  acted op granted legal =
      let d = done_as op (answer_on book.rows op) in
      let pairs = (tree_after_all limit (joined_first limit a.txn front)).pairs in
      let none = granted_unopposed limit a.txn (range_of op) front granted in
      let at_ask = held_first limit a.txn front (before ++ a ∷ behind) is.legal held_here in
      record {
        legal = legal;
        plain = ask_plain limit a.txn (joined_first limit a.txn front) (range_of op);
        is_book = does book is.is_book before a behind live d
            (λ x h. puts_meet_none a.txn (range_of op) pairs none x.txn (other x h) op refl x.done (at_ask x (in_others before a behind x h)))
            (λ x h. meets_no_puts a.txn (range_of op) pairs none x.txn (other x h) d refl x.done (at_ask x (in_others before a behind x h)))
            refl;
        held = held_now limit front before a (did a book.rows op) behind d refl refl is.legal none held_here;
        room = omega (arith, is.room, counted, length-asked limit a.txn (range_of op) front, count_around before (did a book.rows op) behind, length-append a.done (d ∷ []));
      }
