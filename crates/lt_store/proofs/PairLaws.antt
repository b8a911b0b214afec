-- Which keys a transaction holds once ranges were granted, freed and joined.
use Rattle.std.proofs.Common.{◌≡◌, ◌≢◌, ℕ, List, [], ◌∷◌, Bool, true, false, if◌then◌else◌, ◌&&◌, ◌||◌, not, ◌==◌, ◌⊎◌, inl, inr, refl, sym, ap, subst, ◌∙◌, arith}
use Rattle.std.specs.List.{filter, fold, list_any}
use Rattle.std.proofs.lemmas.Bool.Decides.{nat_tests}
use Rattle.lt_ranges.specs.declared.key.Key.{Key}
use Rattle.lt_ranges.specs.Key.{key_le}
use Rattle.lt_ranges.specs.Interval.{Interval, has, overlap, hull, covers}
use Rattle.lt_ranges.proofs.KeyLaws.{le_trans}
use Rattle.lt_ranges.proofs.IntervalLaws.{covers_hull_left, covers_hull_right}
use Rattle.lt_seq.specs.declared.event.Pair.{Pair}
use Rattle.lt_seq.specs.Pairs.{is_own, is_others, others, freed, span, with_pair, granted}
use Rattle.lt_seq.specs.Joins.{holds}
use Rattle.lt_seq.proofs.SpanLaws.{none_left}
use Rattle.lt_store.proofs.RowsLaws.{either, never}

pub and_left : (a b : Bool) → (a && b) ≡ true → a ≡ true
and_left true b e = refl
and_left false b e = e

pub and_right : (a b : Bool) → (a && b) ≡ true → b ≡ true
and_right true b e = e
and_right false b e = cc

pub and_both : (a b : Bool) → a ≡ true → b ≡ true → (a && b) ≡ true
and_both true b e f = f
and_both false b e f = cc

or_left : (a b : Bool) → a ≡ true → (a || b) ≡ true
or_left true b e = refl
or_left false b e = cc

or_right : (a b : Bool) → b ≡ true → (a || b) ≡ true
or_right true b e = refl
or_right false b e = e

or_rest : (a b : Bool) → (a || b) ≡ true → a ≡ false → b ≡ true
or_rest true b e f = cc
or_rest false b e f = e

same_number : (a b : ℕ) → (a == b) ≡ true → a ≡ b
same_number a b e = grind (arith, nat_tests)

other_number : (a b : ℕ) → a ≢ b → (a == b) ≡ false
other_number a b d = elim (either (a == b)) [ inl e ↦ absurd (d (same_number a b e)) | inr e ↦ e ]

-- whether the pair is the owner's and has the key
abbrev pub is_of : ℕ → Key → Pair → Bool
is_of owner key p = p.owner == owner && key_le p.range.left key && key_le key p.range.right

of_owner : (owner : ℕ) (key : Key) (p : Pair) → is_of owner key p ≡ true → (p.owner == owner) ≡ true
of_owner owner key p e = and_left (p.owner == owner) (key_le p.range.left key) (and_left (p.owner == owner && key_le p.range.left key) (key_le key p.range.right) e)

of_left : (owner : ℕ) (key : Key) (p : Pair) → is_of owner key p ≡ true → key_le p.range.left key ≡ true
of_left owner key p e = and_right (p.owner == owner) (key_le p.range.left key) (and_left (p.owner == owner && key_le p.range.left key) (key_le key p.range.right) e)

of_right : (owner : ℕ) (key : Key) (p : Pair) → is_of owner key p ≡ true → key_le key p.range.right ≡ true
of_right owner key p e = and_right (p.owner == owner && key_le p.range.left key) (key_le key p.range.right) e

-- a pair stays in a filter that it passes
filter-keeps : (test pick : Pair → Bool) (ps : List Pair) → ((p : Pair) → test p ≡ true → pick p ≡ true) → list_any test ps ≡ true → list_any test (filter pick ps) ≡ true
filter-keeps test pick [] h e = e
filter-keeps test pick (p ∷ ps) h e = by (filter-keeps test pick ps h) (test p) (pick p) refl refl e
  where
    by : (list_any test ps ≡ true → list_any test (filter pick ps) ≡ true) → (a b : Bool) → test p ≡ a → pick p ≡ b → (a || list_any test ps) ≡ true →
        list_any test (if b then p ∷ filter pick ps else filter pick ps) ≡ true
    by rest true true f g k = or_left (test p) (list_any test (filter pick ps)) f
    by rest true false f g k = never (pick p) (h p f) g
    by rest false true f g k = or_right (test p) (list_any test (filter pick ps)) (rest k)
    by rest false false f g k = rest k

-- or it passes the other one
filter-parts : (test pick : Pair → Bool) (ps : List Pair) → list_any test ps ≡ true →
    (list_any test (filter (λ p. not (pick p)) ps) ≡ true) ⊎ (list_any test (filter pick ps) ≡ true)
filter-parts test pick [] e = inl e
filter-parts test pick (p ∷ ps) e = by (filter-parts test pick ps) (test p) (pick p) refl e
  where
    stay : List Pair
    stay = filter (λ q. not (pick q)) ps

    go : List Pair
    go = filter pick ps

    by : (list_any test ps ≡ true → (list_any test (filter (λ q. not (pick q)) ps) ≡ true) ⊎ (list_any test (filter pick ps) ≡ true)) → (a b : Bool) → test p ≡ a →
        (a || list_any test ps) ≡ true →
        (list_any test (if not b then p ∷ filter (λ q. not (pick q)) ps else filter (λ q. not (pick q)) ps) ≡ true) ⊎ (list_any test (if b then p ∷ filter pick ps else filter pick ps) ≡ true)
    by rest true true f k = inr (or_left (test p) (list_any test (filter pick ps)) f)
    by rest true false f k = inl (or_left (test p) (list_any test (filter (λ q. not (pick q)) ps)) f)
    by rest false true f k = elim (rest k) [ inl x ↦ inl x | inr x ↦ inr (or_right (test p) (list_any test (filter pick ps)) x) ]
    by rest false false f k = elim (rest k) [ inl x ↦ inl (or_right (test p) (list_any test (filter (λ q. not (pick q)) ps)) x) | inr x ↦ inr x ]

with_new : (test : Pair → Bool) (new : Pair) (ps : List Pair) → test new ≡ true → list_any test (with_pair new ps) ≡ true
with_new test new [] e = or_left (test new) false e
with_new test new (p ∷ ps) e = by (with_new test new ps e) (key_le p.range.left new.range.left)
  where
    by : list_any test (with_pair new ps) ≡ true → (b : Bool) → list_any test (if b then p ∷ with_pair new ps else new ∷ p ∷ ps) ≡ true
    by rest true = or_right (test p) (list_any test (with_pair new ps)) rest
    by rest false = or_left (test new) (list_any test (p ∷ ps)) e

with_old : (test : Pair → Bool) (new : Pair) (ps : List Pair) → list_any test ps ≡ true → list_any test (with_pair new ps) ≡ true
with_old test new [] e = cc
with_old test new (p ∷ ps) e = by (with_old test new ps) (key_le p.range.left new.range.left)
  where
    by : (list_any test ps ≡ true → list_any test (with_pair new ps) ≡ true) → (b : Bool) → list_any test (if b then p ∷ with_pair new ps else new ∷ p ∷ ps) ≡ true
    by rest true = elim (either (test p)) [
      | inl f ↦ or_left (test p) (list_any test (with_pair new ps)) f
      | inr f ↦ or_right (test p) (list_any test (with_pair new ps)) (rest (or_rest (test p) (list_any test ps) e f))
    ]
    by rest false = or_right (test new) (list_any test (p ∷ ps)) e

-- a hull has the keys of both
has_by : (r : Interval) (key : Key) → key_le r.left key ≡ true → key_le key r.right ≡ true → has r key ≡ true
has_by r key e f = and_both (key_le r.left key) (key_le key r.right) e f

covered : (a b : Interval) (key : Key) → covers a b ≡ true → key_le b.left key ≡ true → key_le key b.right ≡ true → has a key ≡ true
covered a b key c e f =
    has_by a key
    (le_trans a.left b.left key (and_left (key_le a.left b.left) (key_le b.right a.right) c) e)
    (le_trans key b.right a.right f (and_right (key_le a.left b.left) (key_le b.right a.right) c))

span_has_first : (r : Interval) (ms : List Pair) (key : Key) → has r key ≡ true → has (fold (λ s p. hull s p.range) r ms) key ≡ true
span_has_first r [] key e = e
span_has_first r (m ∷ ms) key e =
    span_has_first (hull r m.range) ms key
    (covered (hull r m.range) r key (covers_hull_left r m.range) (and_left (key_le r.left key) (key_le key r.right) e) (and_right (key_le r.left key) (key_le key r.right) e))

span_has_each : (owner : ℕ) (r : Interval) (ms : List Pair) (key : Key) → list_any (is_of owner key) ms ≡ true → has (fold (λ s p. hull s p.range) r ms) key ≡ true
span_has_each owner r [] key e = cc
span_has_each owner r (m ∷ ms) key e = elim (either (is_of owner key m)) [
  | inl f ↦ span_has_first (hull r m.range) ms key (covered (hull r m.range) m.range key (covers_hull_right r m.range) (of_left owner key m f) (of_right owner key m f))
  | inr f ↦ span_has_each owner (hull r m.range) ms key (or_rest (is_of owner key m) (list_any (is_of owner key) ms) e f)
]

-- pairs that are all the transaction's
owner_is : (owner txn : ℕ) (range : Interval) (key : Key) (ps : List Pair) → list_any (is_of owner key) (filter (is_own txn range) ps) ≡ true → txn ≡ owner
owner_is owner txn range key [] e = cc
owner_is owner txn range key (p ∷ ps) e = by (owner_is owner txn range key ps) (is_own txn range p) refl e
  where
    by : (list_any (is_of owner key) (filter (is_own txn range) ps) ≡ true → txn ≡ owner) → (b : Bool) → is_own txn range p ≡ b →
        list_any (is_of owner key) (if b then p ∷ filter (is_own txn range) ps else filter (is_own txn range) ps) ≡ true → txn ≡ owner
    by rest true f k = elim (either (is_of owner key p)) [
      | inl g ↦ sym (same_number p.owner txn (and_left (p.owner == txn) (overlap p.range range) f)) ∙ same_number p.owner owner (of_owner owner key p g)
      | inr g ↦ rest (or_rest (is_of owner key p) (list_any (is_of owner key) (filter (is_own txn range) ps)) k g)
    ]
    by rest false f k = rest k

itself : (n : ℕ) → (n == n) ≡ true
itself n = grind (arith, nat_tests)

new_has : (txn : ℕ) (r : Interval) (key : Key) → has r key ≡ true → is_of txn key (record { owner = txn; range = r }) ≡ true
new_has txn r key e =
    and_both (txn == txn && key_le r.left key) (key_le key r.right)
    (and_both (txn == txn) (key_le r.left key) (itself txn) (and_left (key_le r.left key) (key_le key r.right) e))
    (and_right (key_le r.left key) (key_le key r.right) e)

-- A grant gives the range's keys, and takes none.
pub grant_gives : (txn : ℕ) (range : Interval) (pairs : List Pair) (key : Key) → has range key ≡ true → holds txn key (granted txn range pairs) ≡ true
grant_gives txn range pairs key e =
    with_new (is_of txn key) (record { owner = txn; range = span txn range pairs }) (freed txn range pairs)
    (new_has txn (span txn range pairs) key (span_has_first range (filter (is_own txn range) pairs) key e))

pub grant_keeps : (txn : ℕ) (range : Interval) (pairs : List Pair) (owner : ℕ) (key : Key) → holds owner key pairs ≡ true → holds owner key (granted txn range pairs) ≡ true
grant_keeps txn range pairs owner key e = elim (filter-parts (is_of owner key) (is_own txn range) pairs e) [
  | inl f ↦ with_old (is_of owner key) (record { owner = txn; range = span txn range pairs }) (freed txn range pairs) f
  | inr f ↦ subst (λ (n : ℕ). holds n key (granted txn range pairs) ≡ true) (owner_is owner txn range key pairs f)
      (with_new (is_of txn key) (record { owner = txn; range = span txn range pairs }) (freed txn range pairs)
      (new_has txn (span txn range pairs) key (span_has_each owner range (filter (is_own txn range) pairs) key f)))
]

-- A free takes no key of another.
pub free_keeps : (txn : ℕ) (range : Interval) (pairs : List Pair) (owner : ℕ) (key : Key) → owner ≢ txn → holds owner key pairs ≡ true → holds owner key (freed txn range pairs) ≡ true
free_keeps txn range pairs owner key differ e =
    filter-keeps (is_of owner key) (λ p. not (is_own txn range p)) pairs
    (λ p f. by p (is_own txn range p) refl (same_number p.owner owner (of_owner owner key p f))) e
  where
    by : (p : Pair) (b : Bool) → is_own txn range p ≡ b → p.owner ≡ owner → not b ≡ true
    by p true g same = absurd (differ (sym same ∙ same_number p.owner txn (and_left (p.owner == txn) (overlap p.range range) g)))
    by p false g same = refl

-- Where no other stands against a range, no other holds a key of it.
front_of : (b : Bool) (p : Pair) (xs : List Pair) → (if b then p ∷ xs else xs) ≡ [] → b ≡ false
front_of true p xs e = cc
front_of false p xs e = refl

rest_of : (b : Bool) (p : Pair) (xs : List Pair) → (if b then p ∷ xs else xs) ≡ [] → xs ≡ []
rest_of true p xs e = cc
rest_of false p xs e = e

none_has : (txn : ℕ) (range : Interval) (owner : ℕ) (key : Key) → owner ≢ txn → has range key ≡ true → (ps : List Pair) → filter (is_others txn range) ps ≡ [] → list_any (is_of owner key) ps ≡ false
none_has txn range owner key differ e [] f = refl
none_has txn range owner key differ e (p ∷ ps) f = by (none_has txn range owner key differ e ps (rest_of (is_others txn range p) p (filter (is_others txn range) ps) f)) (is_of owner key p) refl
  where
    against : is_of owner key p ≡ true → is_others txn range p ≡ true
    against g =
        let mine : (p.owner == txn) ≡ false = other_number p.owner txn (λ (s : p.owner ≡ txn). differ (sym (same_number p.owner owner (of_owner owner key p g)) ∙ s)) in
        and_both (not (p.owner == txn)) (overlap p.range range) (ap not mine)
        (and_both (key_le p.range.left range.right) (key_le range.left p.range.right)
        (le_trans p.range.left key range.right (of_left owner key p g) (and_right (key_le range.left key) (key_le key range.right) e))
        (le_trans range.left key p.range.right (and_left (key_le range.left key) (key_le key range.right) e) (of_right owner key p g)))

    by : list_any (is_of owner key) ps ≡ false → (b : Bool) → is_of owner key p ≡ b → (b || list_any (is_of owner key) ps) ≡ false
    by rest true g = never (is_others txn range p) (against g) (front_of (is_others txn range p) p (filter (is_others txn range) ps) f)
    by rest false g = rest

pub nobody_has : (txn : ℕ) (range : Interval) (pairs : List Pair) (owner : ℕ) (key : Key) → others txn range pairs ≡ [] → owner ≢ txn → holds owner key pairs ≡ true → has range key ≡ false
nobody_has txn range pairs owner key none differ held = elim (either (has range key)) [
  | inl e ↦ never (holds owner key pairs) held (none_has txn range owner key differ e pairs (none_left (filter (is_others txn range) pairs) none))
  | inr e ↦ e
]
