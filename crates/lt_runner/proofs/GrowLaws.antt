-- A join, and each event that is no free, lets the pairs of a tree grow by its own transaction's alone where a range is met.
use Rattle.std.proofs.Common.{◌≡◌, ◌≢◌, ◌⊎◌, inl, inr, ℕ, zero, suc, List, [], ◌∷◌, ◌++◌, Bool, true, false, if◌then◌else◌, refl, sym, ap, subst, ◌∙◌, arith, append-nil, append_assoc, slice_set, get_or}
use Rattle.std.specs.List.{AllByRecursion}
use Rattle.std.proofs.lemmas.Bool.Decides.{nat_tests}
use Rattle.lt_ranges.specs.declared.key.Key.{Key}
use Rattle.lt_ranges.specs.Key.{key_le}
use Rattle.lt_ranges.specs.Interval.{Interval, IsInterval, overlap, before, covers}
use Rattle.lt_ranges.specs.Numbers.{is_in}
use Rattle.lt_ranges.proofs.KeyLaws.{le_itself, le_trans, le_total}
use Rattle.lt_seq.specs.declared.event.Pair.{Pair}
use Rattle.lt_seq.specs.declared.event.Deed.{Deed}
use Rattle.lt_seq.specs.declared.event.Deed.TheVariants.{Ask, Free, Who, Join}
use Rattle.lt_seq.specs.declared.event.Event.{Event}
use Rattle.lt_seq.specs.declared.event.Receipt.{Receipt}
use Rattle.lt_seq.specs.Pairs.{AllAfter, IsLawful, others, granted, are_joined, with_front, joined}
use Rattle.lt_seq.specs.Table.{Setting, TreeState, fresh, opening, tree_at, tree_of, is_buffered, buffered_mode, ended, pairs_by, after_ask, tree_after, step}
use Rattle.lt_seq.specs.History.{after, IsLegalFrom, IsLegal}
use Rattle.lt_seq.specs.Questions.{events_of}
use Rattle.lt_seq.proofs.HistoryLaws.{after_more}
use Rattle.lt_seq.proofs.LawfulLaws.{after-joined, lawful-joined, lawful_history}
use Rattle.lt_requests.specs.declared.wish.Wish.{Wish}
use Rattle.lt_requests.specs.Circles.{holders}
use Rattle.lt_runner.proofs.BlockedLaws.{Meets, holder_meets, meets_holder, Grow, grow_none, grow_on, grow_granted, wider}

-- Two neighbours as one.

abbrev between : Interval → Interval → Interval
between a b = record { left = a.left; right = b.right }

abbrev one : Pair → Pair → Pair
one p q = record { owner = p.owner; range = record { left = p.range.left; right = q.range.right } }

pub cover_first : (a b : Interval) → before a b ≡ true → IsInterval b → covers (between a b) a ≡ true
cover_first a b apart o = grind (arith, le_total, le_itself, le_trans a.right b.left b.right)

cover_second : (a b : Interval) → before a b ≡ true → IsInterval a → covers (between a b) b ≡ true
cover_second a b apart o = grind (arith, le_total, le_itself, le_trans a.left a.right b.left)

same_owner : (marks : List Key) (p q : Pair) → are_joined marks p q ≡ true → p.owner ≡ q.owner
same_owner marks p q e = grind (arith, nat_tests)

left_in : (a b : Interval) → overlap a b ≡ true → key_le a.left b.right ≡ true
left_in a b meets = grind arith

right_in : (a b : Interval) → overlap a b ≡ true → key_le b.left a.right ≡ true
right_in a b meets = grind arith

-- Who meets a range meets it behind a join.

front_keeps : (marks : List Key) (holder : ℕ) (range : Interval) (p : Pair) (qs : List Pair) → IsInterval p.range → AllAfter p.range qs →
    IsLawful qs →
    Meets holder range (p ∷ qs) → Meets holder range (with_front marks p qs)
front_keeps marks holder range p [] o all lawful meets = meets
front_keeps marks holder range p (q ∷ qs) o all lawful meets = by_test (are_joined marks p q) (same_owner marks p q) meets
  where
    by_test : (b : Bool) → (b ≡ true → p.owner ≡ q.owner) → Meets holder range (p ∷ q ∷ qs) →
        Meets holder range (if b then one p q ∷ qs else p ∷ q ∷ qs)
    by_test true same (inl here) = inl (here.0, wider (between p.range q.range) p.range range (cover_first p.range q.range all.0 lawful.0) here.1)
    by_test true same (inr (inl here)) = inl (same refl ∙ here.0, wider (between p.range q.range) q.range range (cover_second p.range q.range all.0 o) here.1)
    by_test true same (inr (inr there)) = inr there
    by_test false same m = m

joined_keeps : (marks : List Key) (holder : ℕ) (range : Interval) (pairs : List Pair) → IsLawful pairs → Meets holder range pairs →
    Meets holder range (joined marks pairs)
joined_keeps marks holder range [] lawful meets = meets
joined_keeps marks holder range (p ∷ ps) lawful meets =
    front_keeps marks holder range p (joined marks ps) lawful.0 (after-joined marks p.range ps lawful.1) (lawful-joined marks ps lawful.2)
    (on meets (λ there. joined_keeps marks holder range ps lawful.2 there))
  where
    on : Meets holder range (p ∷ ps) → (Meets holder range ps → Meets holder range (joined marks ps)) → Meets holder range (p ∷ joined marks ps)
    on (inl here) later = inl here
    on (inr there) later = inr (later there)

-- A range that is met is met by no other behind a join.

-- one of the owner's pairs begins no later than the key
abbrev StartsBy : ℕ → Key → List Pair → Type 0
StartsBy owner key [] = ⊥
StartsBy owner key (p ∷ ps) = ((p.owner ≡ owner) × (key_le p.range.left key ≡ true)) ⊎ StartsBy owner key ps

front_starts : (marks : List Key) (holder : ℕ) (range : Interval) (p : Pair) (qs : List Pair) → Meets holder range (with_front marks p qs) →
    ((p.owner ≡ holder) × (key_le p.range.left range.right ≡ true)) ⊎ Meets holder range qs
front_starts marks holder range p [] (inl here) = inl (here.0, left_in p.range range here.1)
front_starts marks holder range p [] (inr there) = absurd there
front_starts marks holder range p (q ∷ qs) meets = by_test (are_joined marks p q) meets
  where
    by_test : (b : Bool) → Meets holder range (if b then one p q ∷ qs else p ∷ q ∷ qs) →
        ((p.owner ≡ holder) × (key_le p.range.left range.right ≡ true)) ⊎ Meets holder range (q ∷ qs)
    by_test true (inl here) = inl (here.0, left_in (between p.range q.range) range here.1)
    by_test true (inr there) = inr (inr there)
    by_test false (inl here) = inl (here.0, left_in p.range range here.1)
    by_test false (inr there) = inr there

joined_starts : (marks : List Key) (holder : ℕ) (range : Interval) (pairs : List Pair) → Meets holder range (joined marks pairs) →
    StartsBy holder range.right pairs
joined_starts marks holder range [] meets = absurd meets
joined_starts marks holder range (p ∷ ps) meets =
    on (front_starts marks holder range p (joined marks ps) meets) (λ there. joined_starts marks holder range ps there)
  where
    on : ((p.owner ≡ holder) × (key_le p.range.left range.right ≡ true)) ⊎ Meets holder range (joined marks ps) →
        (Meets holder range (joined marks ps) → StartsBy holder range.right ps) → StartsBy holder range.right (p ∷ ps)
    on (inl here) later = inl here
    on (inr there) later = inr (later there)

-- behind a range that reaches the other, what begins within the other meets it
start_meets : (range first b : Interval) → key_le range.left first.right ≡ true → before first b ≡ true → IsInterval b →
    key_le b.left range.right ≡ true → overlap b range ≡ true
start_meets range first b reach apart o starts = grind (arith, le_total, le_trans range.left first.right b.left, le_trans range.left b.left b.right)

starts_meet : (holder : ℕ) (range first : Interval) (pairs : List Pair) → key_le range.left first.right ≡ true → AllAfter first pairs →
    IsLawful pairs →
    StartsBy holder range.right pairs → Meets holder range pairs
starts_meet holder range first [] reach all lawful starts = absurd starts
starts_meet holder range first (p ∷ ps) reach all lawful (inl here) = inl (here.0, start_meets range first p.range reach all.0 lawful.0 here.1)
starts_meet holder range first (p ∷ ps) reach all lawful (inr there) = inr (starts_meet holder range first ps reach all.1 lawful.2 there)

-- what is met behind a range ends no earlier than it does
reach_on : (a b range : Interval) → before a b ≡ true → overlap b range ≡ true → key_le a.right range.right ≡ true
reach_on a b range apart meets = grind (arith, le_total, le_trans a.right b.left range.right)

after_reach : (holder : ℕ) (range a : Interval) (pairs : List Pair) → AllAfter a pairs → Meets holder range pairs →
    key_le a.right range.right ≡ true
after_reach holder range a [] all meets = absurd meets
after_reach holder range a (p ∷ ps) all (inl here) = reach_on a p.range range all.0 here.1
after_reach holder range a (p ∷ ps) all (inr there) = after_reach holder range a ps all.1 there

first_starts : (holder : ℕ) (range : Interval) (q : Pair) (qs : List Pair) → IsLawful (q ∷ qs) → Meets holder range (q ∷ qs) →
    key_le q.range.left range.right ≡ true
first_starts holder range q qs lawful (inl here) = left_in q.range range here.1
first_starts holder range q qs lawful (inr there) = le_trans q.range.left q.range.right range.right lawful.0 (after_reach holder range q.range qs lawful.1 there)

both_meet : (a b : Interval) → key_le a.left b.right ≡ true → key_le b.left a.right ≡ true → overlap a b ≡ true
both_meet a b h k = grind arith

front_back : (marks : List Key) (first holder : ℕ) (range : Interval) (p : Pair) (qs : List Pair) → IsLawful qs →
    overlap p.range range ≡ false → Meets first range qs →
    Meets holder range (with_front marks p qs) → Meets holder range qs
front_back marks first holder range p [] lawful apart some meets = absurd some
front_back marks first holder range p (q ∷ qs) lawful apart some meets = by_test (are_joined marks p q) (same_owner marks p q) meets
  where
    by_test : (b : Bool) → (b ≡ true → p.owner ≡ q.owner) → Meets holder range (if b then one p q ∷ qs else p ∷ q ∷ qs) →
        Meets holder range (q ∷ qs)
    by_test true same (inl here) =
        inl (sym (same refl) ∙ here.0, both_meet q.range range (first_starts first range q qs lawful some) (right_in (between p.range q.range) range here.1))
    by_test true same (inr there) = inr there
    by_test false same (inl here) = absurd (let k : false ≡ true = sym apart ∙ here.1 in cc)
    by_test false same (inr there) = there

joined_gives : (marks : List Key) (first holder : ℕ) (range : Interval) (pairs : List Pair) → IsLawful pairs → Meets first range pairs →
    Meets holder range (joined marks pairs) → Meets holder range pairs
joined_gives marks first holder range [] lawful some meets = absurd some
joined_gives marks first holder range (p ∷ ps) lawful some meets = by_test (overlap p.range range) refl (λ s m. joined_gives marks first holder range ps lawful.2 s m)
  where
    met : overlap p.range range ≡ true →
        ((p.owner ≡ holder) × (key_le p.range.left range.right ≡ true)) ⊎ Meets holder range (joined marks ps) → Meets holder range (p ∷ ps)
    met e (inl here) = inl (here.0, e)
    met e (inr there) = inr (starts_meet holder range p.range ps (right_in p.range range e) lawful.1 lawful.2 (joined_starts marks holder range ps there))

    later_some : overlap p.range range ≡ false → Meets first range (p ∷ ps) → Meets first range ps
    later_some e (inl here) = absurd (let k : false ≡ true = sym e ∙ here.1 in cc)
    later_some e (inr there) = there

    by_test : (b : Bool) → overlap p.range range ≡ b →
        (Meets first range ps → Meets holder range (joined marks ps) → Meets holder range ps) → Meets holder range (p ∷ ps)
    by_test true e later = met e (front_starts marks holder range p (joined marks ps) meets)
    by_test false e later =
        let s = later_some e some in
        inr (later s (front_back marks first holder range p (joined marks ps) (lawful-joined marks ps lawful.2) e (joined_keeps marks first range ps lawful.2 s) meets))

grow_joined : (marks : List Key) (txn : ℕ) (pairs : List Pair) → IsLawful pairs → Grow txn pairs (joined marks pairs)
grow_joined marks txn pairs lawful = record {
  keeps = λ holder range meets. joined_keeps marks holder range pairs lawful meets;
  gives = λ first holder range some meets. inl (joined_gives marks first holder range pairs lawful some meets);
}

-- Events.

abbrev pub IsNoFree : Deed → Type 0
IsNoFree (Ask tree range reply) = Unit {0}
IsNoFree (Free tree range first count) = ⊥
IsNoFree (Who tree range named owners) = Unit {0}
IsNoFree (Join tree before_it after_it) = Unit {0}

grow_asked : (buffer txn : ℕ) (range : Interval) (t : TreeState) → Grow txn t.pairs (after_ask buffer txn range t).pairs
grow_asked buffer txn range t = by_test (is_buffered buffer txn t.pairs t.mode)
  where
    by_others : (owners : List ℕ) → Grow txn t.pairs (pairs_by owners txn range t.pairs)
    by_others [] = grow_granted txn range t.pairs
    by_others (owner ∷ owners) = grow_none txn t.pairs

    buffers : TreeState
    buffers = record { pairs = granted txn range t.pairs; mode = buffered_mode txn t.mode }

    grants : TreeState
    grants = record { pairs = pairs_by (others txn range t.pairs) txn range t.pairs; mode = ended t.mode }

    pairs_in : TreeState → List Pair
    pairs_in new = new.pairs

    by_test : (b : Bool) → Grow txn t.pairs (pairs_in (if b then buffers else grants))
    by_test true = grow_granted txn range t.pairs
    by_test false = by_others (others txn range t.pairs)

grow_tree : (setting : Setting) (txn : ℕ) (deed : Deed) (t : TreeState) → IsNoFree deed → IsLawful t.pairs →
    Grow txn t.pairs (tree_after setting txn deed t).pairs
grow_tree setting txn (Ask tree range reply) t no_free lawful = grow_asked setting.plan.buffer txn range t
grow_tree setting txn (Free tree range first count) t no_free lawful = absurd no_free
grow_tree setting txn (Who tree range named owners) t no_free lawful = grow_none txn t.pairs
grow_tree setting txn (Join tree before_it after_it) t no_free lawful = grow_joined setting.marks txn t.pairs lawful

-- what is at a place of a list where one was put in
pub at_set : {X : Type 0} (xs : List X) (i j : ℕ) (x d : X) →
    (get_or (slice_set xs i x) j d ≡ get_or xs j d) ⊎ ((j ≡ i) × (get_or (slice_set xs i x) j d ≡ x))
at_set [] i j x d = inl refl
at_set (y ∷ ys) zero zero x d = inr (refl, refl)
at_set (y ∷ ys) zero (suc j) x d = inl refl
at_set (y ∷ ys) (suc i) zero x d = inl refl
at_set (y ∷ ys) (suc i) (suc j) x d = on (at_set ys i j x d)
  where
    on : (get_or (slice_set ys i x) j d ≡ get_or ys j d) ⊎ ((j ≡ i) × (get_or (slice_set ys i x) j d ≡ x)) →
        (get_or (slice_set ys i x) j d ≡ get_or ys j d) ⊎ ((suc j ≡ suc i) × (get_or (slice_set ys i x) j d ≡ x))
    on (inl same) = inl same
    on (inr (is, put)) = inr (ap suc is, put)

abbrev pub PairsAt : List TreeState → ℕ → List Pair
PairsAt trees tree = (tree_at trees tree).pairs

grow_step : (setting : Setting) (trees : List TreeState) (e : Event) (tree : ℕ) → IsNoFree e.deed → ((k : ℕ) → IsLawful (PairsAt trees k)) →
    Grow e.txn (PairsAt trees tree) (PairsAt (step setting trees e) tree)
grow_step setting trees e tree no_free lawful = on (at_set trees (tree_of e.deed) tree now fresh)
  where
    now : TreeState
    now = tree_after setting e.txn e.deed (tree_at trees (tree_of e.deed))

    on : (tree_at (slice_set trees (tree_of e.deed) now) tree ≡ tree_at trees tree) ⊎ ((tree ≡ tree_of e.deed) × (tree_at (slice_set trees (tree_of e.deed) now) tree ≡ now)) →
        Grow e.txn (PairsAt trees tree) (PairsAt (step setting trees e) tree)
    on (inl same) = subst (λ (t : TreeState). Grow e.txn (PairsAt trees tree) t.pairs) (sym same) (grow_none e.txn (PairsAt trees tree))
    on (inr (is, put)) =
        subst (λ (t : TreeState). Grow e.txn (PairsAt trees tree) t.pairs) (sym put)
        (subst (λ (k : ℕ). Grow e.txn (PairsAt trees k) now.pairs) (sym is) (grow_tree setting e.txn e.deed (tree_at trees (tree_of e.deed)) no_free (lawful (tree_of e.deed))))

-- a question who holds leaves all pairs
pub who_same : (setting : Setting) (trees : List TreeState) (txn pass tree named k : ℕ) (range : Interval) (owners : List ℕ) →
    PairsAt (step setting trees (record { pass = pass; txn = txn; deed = Who tree range named owners })) k ≡ PairsAt trees k
who_same setting trees txn pass tree named k range owners = on (at_set trees tree k now fresh)
  where
    now : TreeState
    now = tree_after setting txn (Who tree range named owners) (tree_at trees tree)

    on : (tree_at (slice_set trees tree now) k ≡ tree_at trees k) ⊎ ((k ≡ tree) × (tree_at (slice_set trees tree now) k ≡ now)) →
        PairsAt (slice_set trees tree now) k ≡ PairsAt trees k
    on (inl same) = ap (λ (t : TreeState). t.pairs) same
    on (inr (is, put)) = ap (λ (t : TreeState). t.pairs) put ∙ ap (PairsAt trees) (sym is)

-- the first events of a legal history are one
legal_front : (setting : Setting) (xs ys : List Event) → IsLegal setting (xs ++ ys) → IsLegal setting xs
legal_front setting xs ys = go (opening setting) xs
  where
    go : (trees : List TreeState) (es : List Event) → IsLegalFrom setting trees (es ++ ys) → IsLegalFrom setting trees es
    go trees [] legal = tt
    go trees (e ∷ es) legal = (legal.0, go (step setting trees e) es legal.1)

-- the receipt of an event of the transaction that is no free
pub record IsOwn (txn : ℕ) (r : Receipt) : Type 0 where
  pub txn_is : r.event.txn ≡ txn
  pub no_free : IsNoFree r.event.deed

pub grow_events : (setting : Setting) (txn : ℕ) (events : List Event) (rs : List Receipt) (tree : ℕ) → AllByRecursion (IsOwn txn) rs →
    IsLegal setting (events ++ events_of rs) →
    Grow txn (PairsAt (after setting events) tree) (PairsAt (after setting (events ++ events_of rs)) tree)
grow_events setting txn events [] tree own legal =
    subst (λ (es : List Event). Grow txn (PairsAt (after setting events) tree) (PairsAt (after setting es) tree)) (sym (append-nil events)) (grow_none txn (PairsAt (after setting events) tree))
grow_events setting txn events (r ∷ rs) tree own legal =
    let e = r.event in
    let next = events ++ e ∷ [] in
    let same = append_assoc events (e ∷ []) (events_of rs) in
    let lawful = lawful_history setting events (legal_front setting events (e ∷ events_of rs) legal) in
    let first : Grow txn (PairsAt (after setting events) tree) (PairsAt (after setting next) tree) =
    subst (λ (trees : List TreeState). Grow txn (PairsAt (after setting events) tree) (PairsAt trees tree)) (sym (after_more setting events e))
    (subst (λ (n : ℕ). Grow n (PairsAt (after setting events) tree) (PairsAt (step setting (after setting events) e) tree)) own.0.txn_is
    (grow_step setting (after setting events) e tree own.0.no_free (λ k. (lawful.sound k).lawful))) in
    let rest = grow_events setting txn next rs tree own.1 (subst (IsLegal setting) (sym same) legal) in
    subst (λ (es : List Event). Grow txn (PairsAt (after setting events) tree) (PairsAt (after setting es) tree)) same
    (grow_on txn (PairsAt (after setting events) tree) (PairsAt (after setting next) tree) (PairsAt (after setting (next ++ events_of rs)) tree) first rest)

-- Wishes by their holders.

pub holder_stays : (txn holder : ℕ) (old new : List TreeState) (w : Wish) → Grow txn (PairsAt old w.tree) (PairsAt new w.tree) →
    is_in holder (holders old w) ≡ true → is_in holder (holders new w) ≡ true
holder_stays txn holder old new w grow there =
    let is = holder_meets w.txn holder w.range (PairsAt old w.tree) there in
    meets_holder w.txn holder w.range (PairsAt new w.tree) is.apart (grow.keeps holder w.range is.meets)

pub holder_new : (txn first holder : ℕ) (old new : List TreeState) (w : Wish) → Grow txn (PairsAt old w.tree) (PairsAt new w.tree) →
    is_in first (holders old w) ≡ true → is_in holder (holders new w) ≡ true → (is_in holder (holders old w) ≡ true) ⊎ (holder ≡ txn)
holder_new txn first holder old new w grow some there =
    let is = holder_meets w.txn holder w.range (PairsAt new w.tree) there in
    on is.apart (grow.gives first holder w.range (holder_meets w.txn first w.range (PairsAt old w.tree) some).meets is.meets)
  where
    on : holder ≢ w.txn → Meets holder w.range (PairsAt old w.tree) ⊎ (holder ≡ txn) → (is_in holder (holders old w) ≡ true) ⊎ (holder ≡ txn)
    on apart (inl meets) = inl (meets_holder w.txn holder w.range (PairsAt old w.tree) apart meets)
    on apart (inr same) = inr same
