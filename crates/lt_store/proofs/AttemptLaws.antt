-- A step of a transaction that was replied, by what its calls made.
use Rattle.std.proofs.Common.{◌≡◌, ℕ, ◌+◌, List, [], ◌∷◌, ◌++◌, get_or, set, Bool, refl, sym, ap, subst, ◌∙◌}
use Rattle.lt_ranges.specs.Interval.{Interval}
use Rattle.lt_seq.specs.declared.event.Event.{Event}
use Rattle.lt_seq.specs.declared.event.Reply.{Reply}
use Rattle.lt_seq.specs.declared.event.Reply.TheVariants.{Granted, Buffered, HeldBy}
use Rattle.lt_seq.specs.History.{IsLegal}
use Rattle.lt_store.specs.declared.op.Op.{Op}
use Rattle.lt_store.specs.declared.answer.Answer.{Answer}
use Rattle.lt_store.specs.declared.answer.Answer.TheVariants.{Held as HeldAnswer}
use Rattle.lt_store.specs.declared.locks.Asked.{Asked}
use Rattle.lt_store.specs.declared.locks.Asked.TheVariants.{Granted as IsGranted, Held}
use Rattle.lt_store.specs.Ranges.{range_of}
use Rattle.lt_store.specs.Rerun.{answer_on, map_after}
use Rattle.lt_store.specs.Attempts.{setting_of, has_room, asked, reply_to}
use Rattle.lt_store.specs.Locks.{IsReply, IsStopped, HasAsked, said}
use Rattle.lt_store.specs.View.{Work, StoreView, begun}
use Rattle.lt_store.specs.Book.{Acts as Live, BookView}
use Rattle.lt_store.specs.Acting.{works, fresh, did, done_as, HasBegun}
use Rattle.lt_store.specs.Store.{IsStore}
use Rattle.lt_store.specs.Steps.{Acts, Waits, Stops, RepliedTo, Attempts}
use Rattle.lt_store.specs.Stepping.{view_of}
use Rattle.lt_store.proofs.StepLaws.{acted, waited}
use Rattle.lt_store.proofs.MiddleLaws.{begun_at, begun_set, begun_works, works-append}
use Rattle.lt_store.proofs.WholeLaws.{begun_store}

-- what came of an ask, by its kind
pub asked_so : (limit txn : ℕ) (range own : Interval) (old new : List Event) (came was : Asked) →
    HasAsked limit txn range old new came → range ≡ own → came ≡ was → HasAsked limit txn own old new was
asked_so limit txn range own old new came was has range_is came_is =
    subst (λ (a : Asked). HasAsked limit txn own old new a) came_is
    (subst (λ (r : Interval). HasAsked limit txn r old new came) range_is has)

-- by what the reply says
module _ (old new : StoreView) (txn : ℕ) (op : Op) (answer : Answer) where
  acts_so : (r : Reply) → IsGranted ≡ said r → Acts old new txn op answer → RepliedTo r old new txn op answer
  acts_so Granted e so = so
  acts_so Buffered e so = so
  acts_so (HeldBy os) e so = absurd (let wrong : ⊥ = cc in wrong)

  waits_so : (owners : List ℕ) (r : Reply) → Held owners ≡ said r → Waits old new txn op owners answer → RepliedTo r old new txn op answer
  waits_so owners Granted e so = absurd (let wrong : ⊥ = cc in wrong)
  waits_so owners Buffered e so = absurd (let wrong : ⊥ = cc in wrong)
  waits_so owners (HeldBy os) e so =
      let same : owners ≡ os = cc in
      subst (λ (l : List ℕ). Waits old new txn op l answer) same so

-- the transaction has begun
module _ (limit : ℕ) (front : List Event) (book b1 : BookView) (steps txn place : ℕ) (is : IsStore limit front book steps)
    (has : HasBegun book.live b1.live txn place) (b1_is : b1 ≡ record book { live = b1.live }) (op : Op) (new : List Event) where
  store : IsStore limit front b1 steps
  store = begun_store limit front book b1 steps txn place is has b1_is

  -- it was granted the range, and has done the operation
  module _ (reply : IsReply limit txn (range_of op) front new IsGranted) (b2 : BookView)
      (b2_is : (d : Live) → b2 ≡ record b1 {
        rows = map_after b1.rows op;
        live = set b1.live place (did (get_or b1.live place d) b1.rows op);
      }) where
    here : b2 ≡ record b1 { rows = map_after b1.rows op; live = has.before ++ did has.acts b1.rows op ∷ has.behind }
    here =
        b2_is (fresh txn)
        ∙ ap (λ (a : Live). (let r : BookView = record b1 {
          rows = map_after b1.rows op;
          live = set b1.live place (did a b1.rows op);
        } in r))
        (begun_at book.live b1.live txn place has (fresh txn))
        ∙ ap (λ (l : List Live). (let r : BookView = record b1 { rows = map_after b1.rows op; live = l } in r))
        (begun_set book.live b1.live txn place has (did has.acts b1.rows op))

    book_is : b2 ≡ record book { rows = map_after book.rows op; live = has.before ++ did has.acts book.rows op ∷ has.behind }
    book_is =
        here ∙ ap (λ (b : BookView). (let r : BookView = record b {
          rows = map_after b.rows op;
          live = has.before ++ did has.acts b.rows op ∷ has.behind;
        } in r)) b1_is

    own_front : new ≡ asked limit has.acts.txn (range_of op) front
    own_front = reply.front ∙ ap (λ (n : ℕ). asked limit n (range_of op) front) (sym has.own)

    pub acted_store : IsLegal (setting_of limit) new → IsStore limit new b2 (steps + 1)
    acted_store legal =
        subst (λ (es : List Event). IsStore limit es b2 (steps + 1)) (sym own_front)
        (subst (λ (b : BookView). IsStore limit (asked limit has.acts.txn (range_of op) front) b (steps + 1)) (sym here)
        (acted limit front b1 steps store has.before has.acts has.behind has.new_is op
        (reply.reply ∙ ap (λ (n : ℕ). said (reply_to limit n (range_of op) front)) (sym has.own))
        (subst (λ (es : List Event). IsLegal (setting_of limit) es) own_front legal)))

    live_is : works (has.before ++ did has.acts book.rows op ∷ has.behind)
        ≡ works has.before ++ record {
          txn = txn;
          done = has.acts.done ++ record { op = op; answer = answer_on book.rows op } ∷ [];
        } ∷ works has.behind
    live_is =
        works-append has.before (did has.acts book.rows op ∷ has.behind)
        ∙ ap (λ (n : ℕ). works has.before ++ (let w : Work = record {
          txn = n;
          done = has.acts.done ++ done_as op (answer_on book.rows op) ∷ [];
        } in w) ∷ works has.behind) has.own

    acts : (answer : Answer) → answer ≡ answer_on b1.rows op →
        Acts (view_of limit front book steps) (view_of limit new b2 (steps + 1)) txn op answer
    acts answer answer_is = record {
      before = works has.before;
      done = has.acts.done;
      behind = works has.behind;
      among = record { works_are = begun_works book.live b1.live txn place has };
      answer_is = answer_is ∙ ap (λ (b : BookView). answer_on b.rows op) b1_is;
      new_is =
          ap (λ (es : List Event). view_of limit es b2 (steps + 1)) reply.front
          ∙ ap (λ (b : BookView). view_of limit (asked limit txn (range_of op) front) b (steps + 1)) book_is
          ∙ ap (λ (ws : List Work). (let v : StoreView = record (view_of limit front book steps) {
            front = asked limit txn (range_of op) front;
            map = map_after book.rows op;
            live = ws;
            steps = steps + 1;
          } in v)) live_is;
    }

    pub acted_view : (answer : Answer) → answer ≡ answer_on b1.rows op →
        Attempts (has_room limit txn front) (view_of limit front book steps) (view_of limit new b2 (steps + 1)) txn op answer
    acted_view answer answer_is =
        subst (λ (b : Bool). Attempts b (view_of limit front book steps) (view_of limit new b2 (steps + 1)) txn op answer) (sym reply.room)
        (acts_so (view_of limit front book steps) (view_of limit new b2 (steps + 1)) txn op answer
        (reply_to limit txn (range_of op) front) reply.reply (acts answer answer_is))

  -- others hold it
  module _ (owners : List ℕ) (reply : IsReply limit txn (range_of op) front new (Held owners)) where
    wait_front : new ≡ asked limit has.acts.txn (range_of op) front
    wait_front = reply.front ∙ ap (λ (n : ℕ). asked limit n (range_of op) front) (sym has.own)

    pub waited_store : IsLegal (setting_of limit) new → IsStore limit new b1 (steps + 1)
    waited_store legal =
        subst (λ (es : List Event). IsStore limit es b1 (steps + 1)) (sym wait_front)
        (waited limit front b1 steps store has.before has.acts has.behind has.new_is (range_of op)
        (subst (λ (es : List Event). IsLegal (setting_of limit) es) wait_front legal))

    waits : Waits (view_of limit front book steps) (view_of limit new b1 (steps + 1)) txn op owners (HeldAnswer owners)
    waits = record {
      answer_is = refl;
      new_is =
          ap (λ (es : List Event). view_of limit es b1 (steps + 1)) reply.front
          ∙ ap (λ (b : BookView). (let v : StoreView = record (view_of limit (asked limit txn (range_of op) front) b (steps + 1)) {
            live = works b1.live;
          } in v)) b1_is
          ∙ ap (λ (ws : List Work). (let v : StoreView = record (view_of limit front book steps) {
            front = asked limit txn (range_of op) front;
            live = ws;
            steps = steps + 1;
          } in v)) has.begun_is;
    }

    pub waited_view :
        Attempts (has_room limit txn front) (view_of limit front book steps) (view_of limit new b1 (steps + 1)) txn op (HeldAnswer owners)
    waited_view =
        subst (λ (b : Bool). Attempts b (view_of limit front book steps) (view_of limit new b1 (steps + 1)) txn op (HeldAnswer owners))
        (sym reply.room)
        (waits_so (view_of limit front book steps) (view_of limit new b1 (steps + 1)) txn op (HeldAnswer owners) owners
        (reply_to limit txn (range_of op) front) reply.reply waits)

-- there was no lock left
pub stops_so : (limit txn : ℕ) (front at_stop : List Event) (at used_rows : ℕ) (old new : StoreView) (op : Op) (answer : Answer) →
    IsStopped limit txn front at_stop at used_rows → Stops old new txn answer → Attempts (has_room limit txn front) old new txn op answer
stops_so limit txn front at_stop at used_rows old new op answer stopped so =
    subst (λ (b : Bool). Attempts b old new txn op answer) (sym stopped.room) so
