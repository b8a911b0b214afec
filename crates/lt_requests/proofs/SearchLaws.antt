-- A search goes on by one question, ends, and is cut short.
use Rattle.std.proofs.Common.{◌≡◌, ℕ, zero, suc, ◌+◌, ◌≤◌, ◌<◌, List, [], ◌∷◌, ◌++◌, map, length, get_or, take, drop, Bool, true, false, cond, not, ◌&&◌, eqb, Option, refl, sym, ap, subst, ◌∙◌, inl, inr, arith, append_assoc, append-nil, drop-cons, add-one}
use Rattle.std.specs.Prelude.{filter}
use Rattle.std.specs.List.{list_all}
use Rattle.std.specs.List.Sorted.{IsStrictlyIncreasing}
use Rattle.std.proofs.lemmas.Bool.{eqb-true}
use Rattle.std.proofs.lemmas.List.{take-append-le, take_more, drop_all}
use Rattle.std.proofs.lemmas.List.Concat.{flat_map-append}
use Rattle.lt_ranges.specs.Numbers.{is_in}
use Rattle.lt_seq.specs.declared.event.Deed.{Deed}
use Rattle.lt_seq.specs.declared.event.Deed.TheVariants.{Who}
use Rattle.lt_seq.specs.declared.event.Event.{Event}
use Rattle.lt_seq.specs.declared.event.Receipt.{Receipt}
use Rattle.lt_seq.specs.declared.fault.Fault.{Fault}
use Rattle.lt_seq.specs.declared.fault.Fault.TheVariants.{OutOfMemory}
use Rattle.lt_seq.specs.Table.{Setting, tree_at}
use Rattle.lt_seq.specs.Pairs.{others}
use Rattle.lt_seq.specs.History.{after}
use Rattle.lt_seq.specs.Yard.{PassView, Happens}
use Rattle.lt_seq.specs.Questions.{question, named_in}
use Rattle.lt_seq.proofs.RefusalLaws.{others_increase}
use Rattle.lt_requests.specs.declared.wish.Wish.{Wish}
use Rattle.lt_requests.specs.declared.cycle.Edge.{Edge}
use Rattle.lt_requests.specs.Registered.{may_ask, MayAsk}
use Rattle.lt_requests.specs.Search.{IsSearch, Reaches, wishes_of, new_wishes, question_for, edges_in, edges_of, waiter_in}
use Rattle.lt_requests.specs.Walks.{cycle_of}
use Rattle.lt_requests.specs.Started.{AreMade, HasSearched, IsCutShort, IsAskedFor, HasNoAnswer, IsGoing}

-- What a question's event says.

asked_deed : (setting : Setting) (old new : PassView) (txn : ℕ) (wish : Wish) (r : Receipt) (happens : Happens setting old new txn (question_for wish) r) → r.event.deed ≡ Who wish.tree wish.range wish.txn (others wish.txn wish.range (tree_at (after setting happens.before) wish.tree).pairs)
asked_deed setting old new txn wish r happens = ap (λ (e : Event). e.deed) happens.event

asks_the : (setting : Setting) (old new : PassView) (txn : ℕ) (wish : Wish) (r : Receipt) → Happens setting old new txn (question_for wish) r → question r.event.deed ≡ question_for wish
asks_the setting old new txn wish r happens = ap question (asked_deed setting old new txn wish r happens)

pub names_ascend : (setting : Setting) (old new : PassView) (txn : ℕ) (wish : Wish) (r : Receipt) → Happens setting old new txn (question_for wish) r → IsStrictlyIncreasing (named_in r.event.deed)
names_ascend setting old new txn wish r happens =
    subst (λ (d : Deed). IsStrictlyIncreasing (named_in d)) (sym (asked_deed setting old new txn wish r happens)) (others_increase wish.txn wish.range (tree_at (after setting happens.before) wish.tree).pairs)

waits_there : (setting : Setting) (old new : PassView) (txn : ℕ) (wish : Wish) (r : Receipt) → Happens setting old new txn (question_for wish) r → waiter_in r r.event.deed ≡ wish.txn
waits_there setting old new txn wish r happens = ap (waiter_in r) (asked_deed setting old new txn wish r happens)

-- Events one behind another.

one_made : (setting : Setting) (old new : PassView) (txn : ℕ) (wish : Wish) (r : Receipt) → Happens setting old new txn (question_for wish) r → Happens setting old new txn (question r.event.deed) r
one_made setting old new txn wish r happens = subst (λ (d : Deed). Happens setting old new txn d r) (sym (asks_the setting old new txn wish r happens)) happens

made_more : (setting : Setting) (old mid new : PassView) (txn : ℕ) (rs : List Receipt) (r : Receipt) → AreMade setting old mid txn rs → Happens setting mid new txn (question r.event.deed) r → AreMade setting old new txn (rs ++ r ∷ [])
made_more setting old mid new txn [] r made happens = record { next = new; happens = subst (λ (p : PassView). Happens setting p new txn (question r.event.deed) r) made happens; others = refl }
made_more setting old mid new txn (x ∷ xs) r made happens = record { next = made.next; happens = made.happens; others = made_more setting made.next mid new txn xs r made.others happens }

-- The lists of a search.

drop-append-le : {A : Type 0} (n : ℕ) (xs ys : List A) → n ≤ length xs → drop n (xs ++ ys) ≡ drop n xs ++ ys
drop-append-le zero xs ys h = refl
drop-append-le (suc n) [] ys h = absurd (omega arith)
drop-append-le (suc n) (x ∷ xs) ys h = drop-append-le n xs ys (omega arith)

parts : {A : Type 0} (n : ℕ) (xs : List A) → take n xs ++ drop n xs ≡ xs
parts zero xs = refl
parts (suc n) [] = refl
parts (suc n) (x ∷ xs) = ap (λ l. x ∷ l) (parts n xs)

drop_at : (listed : List Wish) (next : ℕ) (wish : Wish) → next < length listed → wish ≡ get_or listed next wish → drop next listed ≡ wish ∷ drop (next + 1) listed
drop_at listed next wish below here = rw add-one (subst (λ (w : Wish). drop next listed ≡ w ∷ drop (suc next) listed) (sym here) (drop-cons listed next wish below))

take_at : (listed : List Wish) (next : ℕ) (wish : Wish) → next < length listed → wish ≡ get_or listed next wish → take (next + 1) listed ≡ take next listed ++ wish ∷ []
take_at listed next wish below here = subst (λ (w : Wish). take (next + 1) listed ≡ take next listed ++ w ∷ []) (sym here) (take_more listed next wish below)

-- a question more
reaches_more : (txn : ℕ) (wishes done listed done_now left : List Wish) (rs : List Receipt) (wish : Wish) (rest : List Wish) (r : Receipt) → Reaches txn wishes done listed rs done_now left → left ≡ wish ∷ rest → question r.event.deed ≡ question_for wish →
    Reaches txn wishes done listed (rs ++ r ∷ []) (done_now ++ wish ∷ []) (rest ++ new_wishes txn (done_now ++ wish ∷ rest) (wishes_of (named_in r.event.deed) wishes))
reaches_more txn wishes done listed done_now left [] wish rest r at here asks =
    let first : listed ≡ wish ∷ rest = sym at.1 ∙ here in
    subst (λ l. Reaches txn wishes done l (r ∷ []) (done_now ++ wish ∷ []) (rest ++ new_wishes txn (done_now ++ wish ∷ rest) (wishes_of (named_in r.event.deed) wishes))) (sym first)
    (asks, (ap (λ l. l ++ wish ∷ []) at.0, ap (λ l. rest ++ new_wishes txn (l ++ wish ∷ rest) (wishes_of (named_in r.event.deed) wishes)) at.0))
reaches_more txn wishes done [] done_now left (x ∷ xs) wish rest r at here asks = absurd at
reaches_more txn wishes done (w ∷ ws) done_now left (x ∷ xs) wish rest r at here asks =
    (at.0, reaches_more txn wishes (done ++ w ∷ []) (ws ++ new_wishes txn (done ++ w ∷ ws) (wishes_of (named_in x.event.deed) wishes)) done_now left xs wish rest r at.1 here asks)

-- the lists behind a question of the next one listed
reaches_next : (txn : ℕ) (wishes first listed now : List Wish) (next : ℕ) (rs : List Receipt) (wish : Wish) (r : Receipt) → next < length listed → wish ≡ get_or listed next wish → question r.event.deed ≡ question_for wish → now ≡ listed ++ new_wishes txn listed (wishes_of (named_in r.event.deed) wishes) →
    Reaches txn wishes [] first rs (take next listed) (drop next listed) → Reaches txn wishes [] first (rs ++ r ∷ []) (take (next + 1) now) (drop (next + 1) now)
reaches_next txn wishes first listed now next rs wish r below here asks is at =
    let done = take next listed in
    let rest = drop (next + 1) listed in
    let new = new_wishes txn listed (wishes_of (named_in r.event.deed) wishes) in
    let whole : done ++ wish ∷ rest ≡ listed = ap (λ l. done ++ l) (sym (drop_at listed next wish below here)) ∙ parts next listed in
    let taken : take (next + 1) now ≡ done ++ wish ∷ [] = ap (take (next + 1)) is ∙ take-append-le (next + 1) listed new (omega arith) ∙ take_at listed next wish below here in
    let dropped : drop (next + 1) now ≡ rest ++ new_wishes txn (done ++ wish ∷ rest) (wishes_of (named_in r.event.deed) wishes) =
    ap (drop (next + 1)) is ∙ drop-append-le (next + 1) listed new (omega arith)
    ∙ ap (λ l. rest ++ new_wishes txn l (wishes_of (named_in r.event.deed) wishes)) (sym whole) in
    subst (λ l. Reaches txn wishes [] first (rs ++ r ∷ []) l (drop (next + 1) now)) (sym taken)
    (subst (λ l. Reaches txn wishes [] first (rs ++ r ∷ []) (done ++ wish ∷ []) l) (sym dropped)
    (reaches_more txn wishes [] first done (drop next listed) rs wish rest r at (drop_at listed next wish below here) asks))

-- where none is left it is the whole search
reaches_end : (txn : ℕ) (wishes done listed done_now left : List Wish) (rs : List Receipt) → Reaches txn wishes done listed rs done_now left → left ≡ [] → IsSearch txn wishes done listed rs
reaches_end txn wishes done listed done_now left [] at none = subst (λ l. IsSearch txn wishes done l []) (sym (sym at.1 ∙ none)) tt
reaches_end txn wishes done [] done_now left (r ∷ rs) at none = absurd at
reaches_end txn wishes done (w ∷ ws) done_now left (r ∷ rs) at none =
    (at.0, reaches_end txn wishes (done ++ w ∷ []) (ws ++ new_wishes txn (done ++ w ∷ ws) (wishes_of (named_in r.event.deed) wishes)) done_now left rs at.1 none)

edges_more : (wishes : List Wish) (rs : List Receipt) (r : Receipt) → edges_in wishes (rs ++ r ∷ []) ≡ edges_in wishes rs ++ edges_of (waiter_in r r.event.deed) r.place (wishes_of (named_in r.event.deed) wishes)
edges_more wishes rs r =
    let edges = λ (x : Receipt). edges_of (waiter_in x x.event.deed) x.place (wishes_of (named_in x.event.deed) wishes) in
    flat_map-append edges rs (r ∷ []) ∙ ap (λ l. edges_in wishes rs ++ l) (append-nil (edges r))

pub going_more : (setting : Setting) (txn : ℕ) (wishes first : List Wish) (old mid new : PassView) (listed now : List Wish) (next : ℕ) (begun edges edges_now : List Edge) (wish : Wish) → next < length listed → wish ≡ get_or listed next wish → IsGoing setting txn wishes first old mid listed next begun edges →
    IsAskedFor setting txn wish wishes mid new listed edges now edges_now → IsGoing setting txn wishes first old new now (next + 1) begun edges_now
going_more setting txn wishes first old mid new listed now next begun edges edges_now wish below here going asked =
    let r = asked.receipt in
    record {
      receipts = going.receipts ++ r ∷ [];
      made = made_more setting old mid new txn going.receipts r going.made (one_made setting mid new txn wish r asked.happens);
      reaches = reaches_next txn wishes first listed now next going.receipts wish r below here (asks_the setting mid new txn wish r asked.happens) asked.listed_is going.reaches;
      edges_are = asked.edges_is
          ∙ ap (λ l. l ++ edges_of wish.txn r.place (wishes_of (named_in r.event.deed) wishes)) going.edges_are
          ∙ append_assoc begun (edges_in wishes going.receipts) (edges_of wish.txn r.place (wishes_of (named_in r.event.deed) wishes))
          ∙ ap (λ l. begun ++ l) (ap (λ n. edges_in wishes going.receipts ++ edges_of n r.place (wishes_of (named_in r.event.deed) wishes)) (sym (waits_there setting mid new txn wish r asked.happens)) ∙ sym (edges_more wishes going.receipts r));
    }

pub going_first : (setting : Setting) (txn : ℕ) (wishes first : List Wish) (old : PassView) (listed : List Wish) (begun edges : List Edge) → listed ≡ first → edges ≡ begun → IsGoing setting txn wishes first old old listed 0 begun edges
going_first setting txn wishes first old listed begun edges same drawn = record {
  receipts = [];
  made = refl;
  reaches = (refl, same);
  edges_are = drawn ∙ sym (append-nil begun);
}

pub going_ends : (setting : Setting) (txn : ℕ) (wishes : List Wish) (owners : List ℕ) (place : ℕ) (old new : PassView) (listed : List Wish) (next : ℕ) (edges : List Edge) (found : Option (List Edge)) → IsGoing setting txn wishes (wishes_of owners wishes) old new listed next (edges_of txn place (wishes_of owners wishes)) edges → length listed ≤ next → found ≡ cycle_of edges txn → HasSearched setting txn wishes place owners old new found
going_ends setting txn wishes owners place old new listed next edges found going all is = record {
  receipts = going.receipts;
  made = going.made;
  is_search = reaches_end txn wishes [] (wishes_of owners wishes) (take next listed) (drop next listed) going.receipts going.reaches (drop_all next listed all);
  walk = is ∙ ap (λ l. cycle_of l txn) going.edges_are;
}

pub cut_by : (setting : Setting) (txn : ℕ) (wishes : List Wish) (owners : List ℕ) (old mid new : PassView) (listed : List Wish) (next : ℕ) (begun edges : List Edge) (wish : Wish) (fault : Fault) → next < length listed → wish ≡ get_or listed next wish →
    IsGoing setting txn wishes (wishes_of owners wishes) old mid listed next begun edges → HasNoAnswer setting txn wish mid new fault → IsCutShort setting txn wishes owners old new fault
cut_by setting txn wishes owners old mid new listed next begun edges wish fault below here going (inl short) =
    let r = short.0 in
    let now = listed ++ new_wishes txn listed (wishes_of (named_in r.event.deed) wishes) in
    record {
      receipts = going.receipts ++ r ∷ [];
      last = new;
      made = made_more setting old mid new txn going.receipts r going.made (one_made setting mid new txn wish r short.1);
      done = take (next + 1) now;
      left = drop (next + 1) now;
      reaches = reaches_next txn wishes (wishes_of owners wishes) listed now next going.receipts wish r below here (asks_the setting mid new txn wish r short.1) refl going.reaches;
      failed = inl (refl, short.2);
    }
cut_by setting txn wishes owners old mid new listed next begun edges wish fault below here going (inr answers) = record {
  receipts = going.receipts;
  last = mid;
  made = going.made;
  done = take next listed;
  left = drop next listed;
  reaches = going.reaches;
  failed = inr (wish, drop (next + 1) listed, drop_at listed next wish below here, answers);
}

pub cut_short : (setting : Setting) (txn : ℕ) (wishes : List Wish) (owners : List ℕ) (old new : PassView) (listed : List Wish) (next : ℕ) (begun edges : List Edge) → IsGoing setting txn wishes (wishes_of owners wishes) old new listed next begun edges → IsCutShort setting txn wishes owners old new OutOfMemory
cut_short setting txn wishes owners old new listed next begun edges going = record {
  receipts = going.receipts;
  last = new;
  made = going.made;
  done = take next listed;
  left = drop next listed;
  reaches = going.reaches;
  failed = inl (refl, refl);
}

pub cut_at_once : (setting : Setting) (txn : ℕ) (wishes : List Wish) (owners : List ℕ) (old : PassView) → IsCutShort setting txn wishes owners old old OutOfMemory
cut_at_once setting txn wishes owners old = record { receipts = []; last = old; made = refl; done = []; left = wishes_of owners wishes; reaches = (refl, refl); failed = inl (refl, refl) }

-- Whom the ask named.

out_of : (owners : List ℕ) (txn n : ℕ) → is_in txn owners ≡ false → is_in n owners ≡ true → eqb n txn ≡ false
out_of owners txn n out there = by_test (eqb n txn) refl
  where
    by_test : (b : Bool) → eqb n txn ≡ b → eqb n txn ≡ false
    by_test true e = absurd (let no : false ≡ true → ⊥ = λ h. cc in no (sym out ∙ subst (λ m. is_in m owners ≡ true) (eqb-true n txn e) there))
    by_test false e = e

-- the first to be asked for are all new
pub first_are : (txn : ℕ) (owners : List ℕ) (ws : List Wish) → is_in txn owners ≡ false → new_wishes txn [] (wishes_of owners ws) ≡ wishes_of owners ws
first_are txn owners [] out = refl
first_are txn owners (w ∷ ws) out = by_test (is_in w.txn owners) refl (first_are txn owners ws out)
  where
    by_test : (b : Bool) → is_in w.txn owners ≡ b → new_wishes txn [] (wishes_of owners ws) ≡ wishes_of owners ws → new_wishes txn [] (cond b (w ∷ wishes_of owners ws) (wishes_of owners ws)) ≡ cond b (w ∷ wishes_of owners ws) (wishes_of owners ws)
    by_test true e rest = ap (λ b. cond (not b && true) (w ∷ new_wishes txn [] (wishes_of owners ws)) (new_wishes txn [] (wishes_of owners ws))) (out_of owners txn w.txn out e) ∙ ap (λ l. w ∷ l) rest
    by_test false e rest = rest

-- All that are listed may be asked for.

and_both : (a b : Bool) → (a && b) ≡ true → (a ≡ true) × (b ≡ true)
and_both true b e = (refl, e)
and_both false b e = absurd (let no : false ≡ true → ⊥ = λ h. cc in no e)

pub may_at : (trees : ℕ) (ws : List Wish) (k : ℕ) (d : Wish) → MayAsk trees ws → k < length ws → may_ask trees (get_or ws k d) ≡ true
may_at trees [] k d may below = absurd (omega arith)
may_at trees (w ∷ ws) zero d may below = (and_both (may_ask trees w) (list_all (may_ask trees) ws) may).0
may_at trees (w ∷ ws) (suc k) d may below = may_at trees ws k d (and_both (may_ask trees w) (list_all (may_ask trees) ws) may).1 (omega arith)

pub may_filter : (trees : ℕ) (test : Wish → Bool) (ws : List Wish) → MayAsk trees ws → MayAsk trees (filter test ws)
may_filter trees test [] may = refl
may_filter trees test (w ∷ ws) may = by_test (test w) (may_filter trees test ws (and_both (may_ask trees w) (list_all (may_ask trees) ws) may).1)
  where
    by_test : (b : Bool) → MayAsk trees (filter test ws) → MayAsk trees (cond b (w ∷ filter test ws) (filter test ws))
    by_test true rest = ap (λ b. b && list_all (may_ask trees) (filter test ws)) (and_both (may_ask trees w) (list_all (may_ask trees) ws) may).0 ∙ rest
    by_test false rest = rest

pub may_both : (trees : ℕ) (xs ys : List Wish) → MayAsk trees xs → MayAsk trees ys → MayAsk trees (xs ++ ys)
may_both trees [] ys one two = two
may_both trees (x ∷ xs) ys one two =
    let parts = and_both (may_ask trees x) (list_all (may_ask trees) xs) one in
    ap (λ b. b && list_all (may_ask trees) (xs ++ ys)) parts.0 ∙ may_both trees xs ys parts.1 two

-- those listed by a question may be asked for too
pub may_more : (trees txn : ℕ) (wishes listed now : List Wish) (owners : List ℕ) → MayAsk trees wishes → MayAsk trees listed → now ≡ listed ++ new_wishes txn listed (wishes_of owners wishes) → MayAsk trees now
may_more trees txn wishes listed now owners all some is =
    subst (λ l. MayAsk trees l) (sym is) (may_both trees listed (new_wishes txn listed (wishes_of owners wishes)) some
    (may_filter trees (λ w. not (eqb w.txn txn) && not (is_in w.txn (map (λ l. l.txn) listed))) (wishes_of owners wishes) (may_filter trees (λ w. is_in w.txn owners) wishes all)))

pub may_first : (trees : ℕ) (owners : List ℕ) (wishes listed : List Wish) → MayAsk trees wishes → listed ≡ wishes_of owners wishes → MayAsk trees listed
may_first trees owners wishes listed all is = subst (λ l. MayAsk trees l) (sym is) (may_filter trees (λ w. is_in w.txn owners) wishes all)
