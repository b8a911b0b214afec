-- Whom a search of one pass alone asks for: all that it lists, and all that they wait for and that wait themselves.
use Rattle.std.proofs.Common.{◌≡◌, ℕ, zero, suc, ◌+◌, ◌≤◌, List, [], ◌∷◌, ◌++◌, map, length, Bool, true, false, cond, not, ◌||◌, ◌&&◌, eqb, Some, None, refl, sym, ap, subst, ◌∙◌, ◌⊎◌, inl, inr, arith, append_assoc, length-append}
use Rattle.std.specs.Prelude.{filter, slice_set}
use Rattle.std.specs.List.{AllByRecursion}
use Rattle.std.proofs.lemmas.Bool.{eq-eqb, ne_eqb, eqb-true}
use Rattle.std.proofs.lemmas.List.{map-append}
use Rattle.std.proofs.lemmas.List.Elements.{Contains-append_left, Contains-append_right}
use Rattle.lt_ranges.specs.Numbers.{is_in}
use Rattle.lt_waits.specs.declared.wait.Wait.{Wait}
use Rattle.lt_waits.specs.Walks.{IsEdge}
use Rattle.lt_seq.proofs.NumbersLaws.{AllAbove, Rises}
use Rattle.lt_seq.specs.declared.event.Event.{Event}
use Rattle.lt_seq.specs.declared.event.Pair.{Pair}
use Rattle.lt_seq.specs.declared.event.Receipt.{Receipt}
use Rattle.lt_seq.specs.Pairs.{others}
use Rattle.lt_seq.specs.Table.{Setting, TreeState, tree_at, step}
use Rattle.lt_seq.specs.History.{after}
use Rattle.lt_seq.specs.Questions.{receipt_after}
use Rattle.lt_seq.proofs.HistoryLaws.{after_more}
use Rattle.lt_requests.specs.declared.wish.Wish.{Wish}
use Rattle.lt_requests.specs.declared.cycle.Edge.{Edge}
use Rattle.lt_requests.specs.Registered.{txns_of, Ascend, is_registered, wish_of}
use Rattle.lt_requests.specs.Search.{wishes_of, new_wishes, question_for, searched, edges_in, edges_of}
use Rattle.lt_requests.specs.Questions.{AreKept}
use Rattle.lt_requests.specs.Walks.{waits_of}
use Rattle.lt_requests.specs.Circles.{holders}
use Rattle.lt_requests.proofs.RegistryLaws.{rises_from}
use Rattle.lt_requests.proofs.QuestionLaws.{kept_none, listed_fewer, registered-append}
use Rattle.lt_requests.proofs.DoneLaws.{kept_all, first_new, more_new}

pub false_true : false ≡ true → ⊥
false_true e = cc

or_first : (a b : Bool) → a ≡ true → (a || b) ≡ true
or_first true b e = refl
or_first false b e = absurd (false_true e)

or_second : (a b : Bool) → b ≡ true → (a || b) ≡ true
or_second true b e = refl
or_second false b e = e

or_cases : (a b : Bool) → (a || b) ≡ true → (a ≡ true) ⊎ (b ≡ true)
or_cases true b e = inl refl
or_cases false b e = inr e

-- Who is in a list.

registered_left : (n : ℕ) (xs ys : List Wish) → is_registered n xs ≡ true → is_registered n (xs ++ ys) ≡ true
registered_left n xs ys h = registered-append n xs ys ∙ or_first (is_registered n xs) (is_registered n ys) h

registered_right : (n : ℕ) (xs ys : List Wish) → is_registered n ys ≡ true → is_registered n (xs ++ ys) ≡ true
registered_right n xs ys h = registered-append n xs ys ∙ or_second (is_registered n xs) (is_registered n ys) h

registered_either : (n : ℕ) (xs ys : List Wish) → is_registered n (xs ++ ys) ≡ true →
    (is_registered n xs ≡ true) ⊎ (is_registered n ys ≡ true)
registered_either n xs ys h = or_cases (is_registered n xs) (is_registered n ys) (sym (registered-append n xs ys) ∙ h)

some_wish : (a b : Wish) → Some a ≡ Some b → a ≡ b
some_wish a b e = cc

-- the number of a wish that was found
pub found_own : (n : ℕ) (w : Wish) (ws : List Wish) → wish_of n ws ≡ Some w → w.txn ≡ n
found_own n w [] e = absurd (let no : None ≡ Some w → ⊥ = λ h. cc in no e)
found_own n w (x ∷ xs) e = by_test (eqb x.txn n) refl e (found_own n w xs)
  where
    by_test : (b : Bool) → eqb x.txn n ≡ b → cond b (Some x) (wish_of n xs) ≡ Some w → (wish_of n xs ≡ Some w → w.txn ≡ n) → w.txn ≡ n
    by_test true h k rest = subst (λ (v : Wish). v.txn ≡ n) (some_wish x w k) (eqb-true x.txn n h)
    by_test false h k rest = rest k

-- one that waits and is named is among the wishes of those named
pub named_is_there : (m : ℕ) (v : Wish) (owners : List ℕ) (ws : List Wish) → wish_of m ws ≡ Some v → is_in m owners ≡ true →
    is_registered m (wishes_of owners ws) ≡ true
named_is_there m v owners [] e h = absurd (let no : None ≡ Some v → ⊥ = λ k. cc in no e)
named_is_there m v owners (x ∷ xs) e h = by_test (eqb x.txn m) refl e (named_is_there m v owners xs)
  where
    there : eqb x.txn m ≡ true → is_in x.txn owners ≡ true
    there same = subst (λ n. is_in n owners ≡ true) (sym (eqb-true x.txn m same)) h

    later : (b : Bool) → is_registered m (wishes_of owners xs) ≡ true →
        is_registered m (cond b (x ∷ wishes_of owners xs) (wishes_of owners xs)) ≡ true
    later true rest = or_second (eqb x.txn m) (is_registered m (wishes_of owners xs)) rest
    later false rest = rest

    by_test : (b : Bool) → eqb x.txn m ≡ b → cond b (Some x) (wish_of m xs) ≡ Some v →
        (wish_of m xs ≡ Some v → is_in m owners ≡ true → is_registered m (wishes_of owners xs) ≡ true) →
        is_registered m (wishes_of owners (x ∷ xs)) ≡ true
    by_test true same k rest =
        subst (λ b. is_registered m (cond b (x ∷ wishes_of owners xs) (wishes_of owners xs)) ≡ true) (sym (there same)) (or_first (eqb x.txn m) (is_registered m (wishes_of owners xs)) same)
    by_test false same k rest = later (is_in x.txn owners) (rest k h)

-- it is the one that searches, or listed, or new
new_or_listed : (txn m : ℕ) (listed ws : List Wish) → is_registered m ws ≡ true →
    (m ≡ txn) ⊎ ((is_registered m listed ≡ true) ⊎ (is_registered m (new_wishes txn listed ws) ≡ true))
new_or_listed txn m listed [] h = absurd (false_true h)
new_or_listed txn m listed (x ∷ xs) h = by_test (eqb x.txn m) refl h (new_or_listed txn m listed xs)
  where
    rest_of : List Wish
    rest_of = new_wishes txn listed xs

    here : (a b : Bool) → eqb x.txn txn ≡ a → is_registered x.txn listed ≡ b → eqb x.txn m ≡ true →
        (m ≡ txn) ⊎ ((is_registered m listed ≡ true) ⊎ (is_registered m (cond (not a && not b) (x ∷ rest_of) rest_of) ≡ true))
    here true b one two same = inl (sym (eqb-true x.txn m same) ∙ eqb-true x.txn txn one)
    here false true one two same = inr (inl (subst (λ n. is_registered n listed ≡ true) (eqb-true x.txn m same) two))
    here false false one two same = inr (inr (or_first (eqb x.txn m) (is_registered m rest_of) same))

    later : (b : Bool) → (m ≡ txn) ⊎ ((is_registered m listed ≡ true) ⊎ (is_registered m rest_of ≡ true)) →
        (m ≡ txn) ⊎ ((is_registered m listed ≡ true) ⊎ (is_registered m (cond b (x ∷ rest_of) rest_of) ≡ true))
    later b (inl own) = inl own
    later b (inr (inl old)) = inr (inl old)
    later true (inr (inr new)) = inr (inr (or_second (eqb x.txn m) (is_registered m rest_of) new))
    later false (inr (inr new)) = inr (inr new)

    by_test : (b : Bool) → eqb x.txn m ≡ b → (b || is_registered m xs) ≡ true →
        (is_registered m xs ≡ true → (m ≡ txn) ⊎ ((is_registered m listed ≡ true) ⊎ (is_registered m rest_of ≡ true))) →
        (m ≡ txn) ⊎ ((is_registered m listed ≡ true) ⊎ (is_registered m (new_wishes txn listed (x ∷ xs)) ≡ true))
    by_test true same k rest = here (eqb x.txn txn) (is_registered x.txn listed) refl refl same
    by_test false same k rest = later (not (eqb x.txn txn) && not (is_registered x.txn listed)) (rest k)

-- Each wish is its transaction's.

all_filter : (P : Wish → Type 0) (test : Wish → Bool) (ws : List Wish) → AllByRecursion P ws → AllByRecursion P (filter test ws)
all_filter P test [] all = tt
all_filter P test (w ∷ ws) all = by_test (test w) (all_filter P test ws all.1)
  where
    by_test : (b : Bool) → AllByRecursion P (filter test ws) → AllByRecursion P (cond b (w ∷ filter test ws) (filter test ws))
    by_test true rest = (all.0, rest)
    by_test false rest = rest

all_both : (P : Wish → Type 0) (xs ys : List Wish) → AllByRecursion P xs → AllByRecursion P ys → AllByRecursion P (xs ++ ys)
all_both P [] ys one two = two
all_both P (x ∷ xs) ys one two = (one.0, all_both P xs ys one.1 two)

-- each of these is found by its number
abbrev AreOwn : List Wish → List Wish → Type 0
AreOwn wishes ws = AllByRecursion (λ u. wish_of u.txn wishes ≡ Some u) ws

own_later : (x : Wish) (xs ys : List Wish) → AllAbove x.txn (txns_of ys) → AreOwn xs ys → AreOwn (x ∷ xs) ys
own_later x xs [] above own = tt
own_later x xs (y ∷ ys) above own =
    (ap (λ b. cond b (Some x) (wish_of y.txn xs)) (ne_eqb x.txn y.txn (λ same. omega (arith, above.0, same))) ∙ own.0, own_later x xs ys above.1 own.1)

own_rises : (ws : List Wish) → Rises (txns_of ws) → AreOwn ws ws
own_rises [] rises = tt
own_rises (x ∷ xs) rises =
    (ap (λ b. cond b (Some x) (wish_of x.txn xs)) (eq-eqb x.txn x.txn refl), own_later x xs xs rises.0 (own_rises xs rises.1))

own_named : (wishes : List Wish) (owners : List ℕ) → Ascend wishes → AreOwn wishes (wishes_of owners wishes)
own_named wishes owners ascend =
    all_filter (λ u. wish_of u.txn wishes ≡ Some u) (λ w. is_in w.txn owners) wishes (own_rises wishes (rises_from (txns_of wishes) ascend))

-- What is done and listed, with so many questions left: none is listed twice, so the questions are enough.
pub record IsListing (wishes steps done listed : List Wish) : Type 0 where
  pub asked : List Wish
  pub kept : AreKept wishes (done ++ listed) asked
  pub enough : length wishes ≤ length done + length steps
  pub own : AreOwn wishes listed

pub first_listing : (wishes : List Wish) (owners : List ℕ) → Ascend wishes → IsListing wishes wishes [] (wishes_of owners wishes)
first_listing wishes owners ascend =
    let all = kept_all wishes [] [] (wishes_of owners wishes) (kept_none wishes [] [] refl refl) (first_new wishes owners ascend) in
    record { asked = all.0; kept = all.1; enough = omega arith; own = own_named wishes owners ascend }

next_listing : (txn : ℕ) (wishes steps done : List Wish) (s w : Wish) (ws : List Wish) (owners : List ℕ) → Ascend wishes →
    IsListing wishes (s ∷ steps) done (w ∷ ws) →
    IsListing wishes steps (done ++ w ∷ []) (ws ++ new_wishes txn (done ++ w ∷ ws) (wishes_of owners wishes))
next_listing txn wishes steps done s w ws owners ascend is =
    let new = new_wishes txn (done ++ w ∷ ws) (wishes_of owners wishes) in
    let test = λ (v : Wish). not (eqb v.txn txn) && not (is_in v.txn (map (λ (l : Wish). l.txn) (done ++ w ∷ ws))) in
    let more = kept_all wishes (done ++ w ∷ ws) is.asked new is.kept (more_new txn wishes (done ++ w ∷ ws) owners ascend) in
    let same : (done ++ w ∷ ws) ++ new ≡ (done ++ w ∷ []) ++ (ws ++ new) = append_assoc done (w ∷ ws) new ∙ sym (append_assoc done (w ∷ []) (ws ++ new)) in
    record {
      asked = more.0;
      kept = subst (λ l. AreKept wishes l more.0) same more.1;
      enough = omega (arith, is.enough, length-append done (w ∷ []));
      own = all_both (λ u. wish_of u.txn wishes ≡ Some u) ws new is.own.1 (all_filter (λ u. wish_of u.txn wishes ≡ Some u) test (wishes_of owners wishes) (own_named wishes owners ascend));
    }

-- The search.

abbrev then_asked : Setting → List Event → ℕ → Wish → List Event
then_asked setting events txn w = events ++ (receipt_after setting events 0 txn (question_for w)).event ∷ []

abbrev then_listed : Setting → List Event → ℕ → List Wish → List Wish → Wish → List Wish → List Wish
then_listed setting events txn wishes done w ws = ws ++ new_wishes txn (done ++ w ∷ ws) (wishes_of (holders (after setting events) w) wishes)

-- the wishes that a search asks for
abbrev pub served : Setting → ℕ → List Wish → List Wish → List Event → List Wish → List Wish → List Wish
served setting txn wishes [] events done listed = []
served setting txn wishes (step ∷ steps) events done [] = []
served setting txn wishes (step ∷ steps) events done (w ∷ ws) =
    w ∷ served setting txn wishes steps (then_asked setting events txn w) (done ++ w ∷ []) (then_listed setting events txn wishes done w ws)

-- all that are listed are asked for
pub all_served : (setting : Setting) (txn : ℕ) (wishes steps : List Wish) (events : List Event) (done listed : List Wish) → Ascend wishes →
    IsListing wishes steps done listed →
    (n : ℕ) → is_registered n listed ≡ true → is_registered n (served setting txn wishes steps events done listed) ≡ true
all_served setting txn wishes [] events done [] ascend is n h = absurd (false_true h)
all_served setting txn wishes [] events done (w ∷ ws) ascend is n h =
    absurd (omega (arith, listed_fewer wishes (done ++ w ∷ ws) is.asked is.kept, length-append done (w ∷ ws), is.enough))
all_served setting txn wishes (s ∷ steps) events done [] ascend is n h = absurd (false_true h)
all_served setting txn wishes (s ∷ steps) events done (w ∷ ws) ascend is n h = by_test (eqb w.txn n) h
    (λ k. all_served setting txn wishes steps (then_asked setting events txn w) (done ++ w ∷ []) (then_listed setting events txn wishes done w ws) ascend
    (next_listing txn wishes steps done s w ws (holders (after setting events) w) ascend is) n
    (registered_left n ws (new_wishes txn (done ++ w ∷ ws) (wishes_of (holders (after setting events) w) wishes)) k))
  where
    rest : List Wish
    rest = served setting txn wishes steps (then_asked setting events txn w) (done ++ w ∷ []) (then_listed setting events txn wishes done w ws)

    by_test : (b : Bool) → (b || is_registered n ws) ≡ true → (is_registered n ws ≡ true → is_registered n rest ≡ true) →
        (b || is_registered n rest) ≡ true
    by_test true k behind = refl
    by_test false k behind = behind k

-- A question changes no pairs.

-- the trees have the same pairs
abbrev pub SamePairs : List TreeState → List TreeState → Type 0
SamePairs one other = (i : ℕ) → (tree_at one i).pairs ≡ (tree_at other i).pairs

pub same_pairs_set : (trees : List TreeState) (i : ℕ) (t : TreeState) → t.pairs ≡ (tree_at trees i).pairs →
    SamePairs (slice_set trees i t) trees
same_pairs_set [] i t same j = refl
same_pairs_set (x ∷ xs) zero t same zero = same
same_pairs_set (x ∷ xs) zero t same (suc j) = refl
same_pairs_set (x ∷ xs) (suc i) t same zero = refl
same_pairs_set (x ∷ xs) (suc i) t same (suc j) = same_pairs_set xs i t same j

asked_same : (setting : Setting) (events : List Event) (txn : ℕ) (w : Wish) (base : List TreeState) →
    SamePairs (after setting events) base → SamePairs (after setting (then_asked setting events txn w)) base
asked_same setting events txn w base same i =
    let e : Event = (receipt_after setting events 0 txn (question_for w)).event in
    ap (λ trees. (tree_at trees i).pairs) (after_more setting events e)
    ∙ same_pairs_set (after setting events) w.tree _ refl i
    ∙ same i

pub same_holders : (trees base : List TreeState) (w : Wish) → SamePairs trees base → holders trees w ≡ holders base w
same_holders trees base w same = ap (λ (pairs : List Pair). others w.txn w.range pairs) (same w.tree)

-- whoever is asked for waits for those that hold it. Of these each one that waits too, but for the one that searches, is asked for
pub all_held : (setting : Setting) (txn : ℕ) (wishes steps : List Wish) (events : List Event) (done listed : List Wish) (base : List TreeState) →
    Ascend wishes → IsListing wishes steps done listed → SamePairs (after setting events) base →
    (n m : ℕ) (w v : Wish) → is_registered n (served setting txn wishes steps events done listed) ≡ true → wish_of n wishes ≡ Some w → is_in m (holders base w) ≡ true → wish_of m wishes ≡ Some v →
    (m ≡ txn) ⊎ (is_registered m (done ++ served setting txn wishes steps events done listed) ≡ true)
all_held setting txn wishes [] events done listed base ascend is same n m w v h own held waits = absurd (false_true h)
all_held setting txn wishes (s ∷ steps) events done [] base ascend is same n m w v h own held waits = absurd (false_true h)
all_held setting txn wishes (s ∷ steps) events done (u ∷ us) base ascend is same n m w v h own held waits = by_test (eqb u.txn n) refl h
    (λ k. all_held setting txn wishes steps (then_asked setting events txn u) (done ++ u ∷ []) (then_listed setting events txn wishes done u us) base ascend
    (next_listing txn wishes steps done s u us (holders (after setting events) u) ascend is) (asked_same setting events txn u base same) n m w v k own held waits)
  where
    next : IsListing wishes steps (done ++ u ∷ []) (then_listed setting events txn wishes done u us)
    next = next_listing txn wishes steps done s u us (holders (after setting events) u) ascend is

    new : List Wish
    new = new_wishes txn (done ++ u ∷ us) (wishes_of (holders (after setting events) u) wishes)

    rest : List Wish
    rest = served setting txn wishes steps (then_asked setting events txn u) (done ++ u ∷ []) (then_listed setting events txn wishes done u us)

    among : is_registered m (us ++ new) ≡ true → is_registered m (done ++ u ∷ rest) ≡ true
    among k = registered_right m done (u ∷ rest) (or_second (eqb u.txn m) (is_registered m rest)
        (all_served setting txn wishes steps (then_asked setting events txn u) (done ++ u ∷ []) (then_listed setting events txn wishes done u us) ascend next m k))

    of_list : (is_registered m done ≡ true) ⊎ (is_registered m (u ∷ us) ≡ true) → is_registered m (done ++ u ∷ rest) ≡ true
    of_list (inl old) = registered_left m done (u ∷ rest) old
    of_list (inr now) = elim (or_cases (eqb u.txn m) (is_registered m us) now) [
      | inl here ↦ registered_right m done (u ∷ rest) (or_first (eqb u.txn m) (is_registered m rest) here)
      | inr later ↦ among (registered_left m us new later)
    ]

    first : u ≡ w → (m ≡ txn) ⊎ (is_registered m (done ++ u ∷ rest) ≡ true)
    first it =
        let holds : is_in m (holders (after setting events) u) ≡ true =
        ap (is_in m) (same_holders (after setting events) base u same ∙ ap (holders base) it) ∙ held in
        elim (new_or_listed txn m (done ++ u ∷ us) (wishes_of (holders (after setting events) u) wishes) (named_is_there m v (holders (after setting events) u) wishes waits holds)) [
          | inl one ↦ inl one
          | inr either ↦ elim either [
            | inl old ↦ inr (of_list (registered_either m done (u ∷ us) old))
            | inr fresh ↦ inr (among (registered_right m us new fresh))
          ]
        ]

    further : (m ≡ txn) ⊎ (is_registered m ((done ++ u ∷ []) ++ rest) ≡ true) → (m ≡ txn) ⊎ (is_registered m (done ++ u ∷ rest) ≡ true)
    further (inl one) = inl one
    further (inr later) = inr (subst (λ l. is_registered m l ≡ true) (append_assoc done (u ∷ []) rest) later)

    by_test : (b : Bool) → eqb u.txn n ≡ b → (b || is_registered n rest) ≡ true →
        (is_registered n rest ≡ true → (m ≡ txn) ⊎ (is_registered m ((done ++ u ∷ []) ++ rest) ≡ true)) → (m ≡ txn) ⊎ (is_registered m (done ++ u ∷ rest) ≡ true)
    by_test true e k behind = first (some_wish u w (sym is.own.0 ∙ ap (λ x. wish_of x wishes) (eqb-true u.txn n e) ∙ own))
    by_test false e k behind = further (behind k)

-- Edges.

-- an edge to each of those named that wait
pub drawn : (waiter place m : ℕ) (ws : List Wish) → is_registered m ws ≡ true → IsEdge (waits_of (edges_of waiter place ws)) waiter m
drawn waiter place m [] h = absurd (false_true h)
drawn waiter place m (w ∷ ws) h = by_test (eqb w.txn m) refl h (drawn waiter place m ws)
  where
    by_test : (b : Bool) → eqb w.txn m ≡ b → (b || is_registered m ws) ≡ true →
        (is_registered m ws ≡ true → IsEdge (waits_of (edges_of waiter place ws)) waiter m) →
        IsEdge (waits_of (edges_of waiter place (w ∷ ws))) waiter m
    by_test true e k rest = (0, omega arith, ap (λ x. record { waiter = waiter; holder = x }) (eqb-true w.txn m e))
    by_test false e k rest =
        let it : Wait = record { waiter = waiter; holder = m } in
        Contains-append_right (record { waiter = waiter; holder = w.txn } ∷ []) (waits_of (edges_of waiter place ws)) it (rest k)

pub edge_left : (xs ys : List Edge) (n m : ℕ) → IsEdge (waits_of xs) n m → IsEdge (waits_of (xs ++ ys)) n m
edge_left xs ys n m is =
    let f = λ (e : Edge). (let it : Wait = record { waiter = e.waiter; holder = e.holder } in it) in
    subst (λ l. IsEdge l n m) (sym (map-append f xs ys)) (Contains-append_left (waits_of xs) (waits_of ys) _ is)

pub edge_right : (xs ys : List Edge) (n m : ℕ) → IsEdge (waits_of ys) n m → IsEdge (waits_of (xs ++ ys)) n m
edge_right xs ys n m is =
    let f = λ (e : Edge). (let it : Wait = record { waiter = e.waiter; holder = e.holder } in it) in
    subst (λ l. IsEdge l n m) (sym (map-append f xs ys)) (Contains-append_right (waits_of xs) (waits_of ys) _ is)

-- from each one that is asked for there is an edge to each of those that hold it and wait
pub all_drawn : (setting : Setting) (txn : ℕ) (wishes steps : List Wish) (events : List Event) (done listed : List Wish) (base : List TreeState) →
    Ascend wishes → IsListing wishes steps done listed → SamePairs (after setting events) base →
    (n m : ℕ) (w v : Wish) → is_registered n (served setting txn wishes steps events done listed) ≡ true → wish_of n wishes ≡ Some w → is_in m (holders base w) ≡ true → wish_of m wishes ≡ Some v →
    IsEdge (waits_of (edges_in wishes (searched setting txn wishes steps events done listed))) n m
all_drawn setting txn wishes [] events done listed base ascend is same n m w v h own held waits = absurd (false_true h)
all_drawn setting txn wishes (s ∷ steps) events done [] base ascend is same n m w v h own held waits = absurd (false_true h)
all_drawn setting txn wishes (s ∷ steps) events done (u ∷ us) base ascend is same n m w v h own held waits = by_test (eqb u.txn n) refl h
    (λ k. all_drawn setting txn wishes steps (then_asked setting events txn u) (done ++ u ∷ []) (then_listed setting events txn wishes done u us) base ascend
    (next_listing txn wishes steps done s u us (holders (after setting events) u) ascend is) (asked_same setting events txn u base same) n m w v k own held waits)
  where
    r : Receipt
    r = receipt_after setting events 0 txn (question_for u)

    named : List Wish
    named = wishes_of (holders (after setting events) u) wishes

    behind : List Receipt
    behind = searched setting txn wishes steps (then_asked setting events txn u) (done ++ u ∷ []) (then_listed setting events txn wishes done u us)

    first : u ≡ w → eqb u.txn n ≡ true → IsEdge (waits_of (edges_of u.txn r.place named ++ edges_in wishes behind)) n m
    first it e =
        let holds : is_in m (holders (after setting events) u) ≡ true =
        ap (is_in m) (same_holders (after setting events) base u same ∙ ap (holders base) it) ∙ held in
        subst (λ x. IsEdge (waits_of (edges_of u.txn r.place named ++ edges_in wishes behind)) x m) (eqb-true u.txn n e)
        (edge_left (edges_of u.txn r.place named) (edges_in wishes behind) u.txn m
        (drawn u.txn r.place m named (named_is_there m v (holders (after setting events) u) wishes waits holds)))

    rest : List Wish
    rest = served setting txn wishes steps (then_asked setting events txn u) (done ++ u ∷ []) (then_listed setting events txn wishes done u us)

    by_test : (b : Bool) → eqb u.txn n ≡ b → (b || is_registered n rest) ≡ true →
        (is_registered n rest ≡ true → IsEdge (waits_of (edges_in wishes behind)) n m) →
        IsEdge (waits_of (edges_of u.txn r.place named ++ edges_in wishes behind)) n m
    by_test true e k later = first (some_wish u w (sym is.own.0 ∙ ap (λ x. wish_of x wishes) (eqb-true u.txn n e) ∙ own)) e
    by_test false e k later = edge_right (edges_of u.txn r.place named) (edges_in wishes behind) n m (later k)
