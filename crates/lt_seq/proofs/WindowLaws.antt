-- The pairs of a lawful list that overlap a range stand side by side.
use Rattle.std.proofs.Common.{◌≡◌, ℕ, zero, suc, ◌+◌, ◌-◌, ◌<◌, ◌≤◌, List, [], ◌∷◌, ◌++◌, length, take, drop, get_or, set}
use Rattle.std.proofs.Common.{Bool, true, false, not, ◌==◌, if◌then◌else◌, ◌⊎◌, inl, inr, refl, sym, ap, subst, ◌∙◌, arith}
use Rattle.std.specs.List.{All, AllWithin, between, filter, fold, remove_range}
use borrow.Rule.Slice.PartMut.{put_mid, post_of}
use Rattle.std.proofs.Math.Seq.{take-append-add}
use Rattle.std.proofs.lemmas.Slice.{drop-put_mid}
use Rattle.std.specs.List.Sorted.{IsPartitionedBy, IsPartitionPoint}
use Rattle.std.proofs.Math.Nat.{eq-or-lt_of_le}
use Rattle.std.proofs.lemmas.Bool.{cases_order}
use Rattle.std.proofs.lemmas.List.{get_or-take, get_or-drop, length-take, length-drop, length-take-le, length-append, take_at, append-nil, append_assoc, drop-set-lt, take-append-le, take_more_set}
use Rattle.std.proofs.lemmas.List.Edits.{get_or-between, length-between, split_between}
use Rattle.std.proofs.lemmas.List.Elements.{All-head, All-tail, All-weaker, filter-append}
use Rattle.lt_ranges.specs.declared.key.Key.{Key}
use Rattle.lt_ranges.specs.Key.{key_le}
use Rattle.lt_ranges.specs.Interval.{Interval, IsInterval, overlap, before, hull}
use Rattle.lt_ranges.proofs.KeyLaws.{le_itself, le_trans, le_total}
use Rattle.lt_ranges.proofs.IntervalLaws.{before-overlap, overlap_back, before_hull}
use Rattle.lt_seq.specs.declared.event.Pair.{Pair}
use Rattle.lt_seq.specs.Pairs.{AllAfter, IsLawful, is_own, is_others, others, freed, with_pair, granted}
use Rattle.lt_seq.specs.Window.{IsWindow}
use Rattle.lt_seq.proofs.SpanLaws.{none_left}

-- in a lawful list each pair has a range, and lies before each later one
after_at : (range : Interval) (pairs : List Pair) (j : ℕ) (d : Pair) → AllAfter range pairs → j < length pairs → before range (get_or pairs j d).range ≡ true
after_at range [] j d all h = absurd (omega arith)
after_at range (p ∷ ps) zero d all h = all.0
after_at range (p ∷ ps) (suc j) d all h = after_at range ps j d all.1 (omega arith)

ordered_at : (pairs : List Pair) (j : ℕ) (d : Pair) → IsLawful pairs → j < length pairs → IsInterval (get_or pairs j d).range
ordered_at [] j d lawful h = absurd (omega arith)
ordered_at (p ∷ ps) zero d lawful h = lawful.0
ordered_at (p ∷ ps) (suc j) d lawful h = ordered_at ps j d lawful.2 (omega arith)

before_at : (pairs : List Pair) (i j : ℕ) (d e : Pair) → IsLawful pairs → i < j → j < length pairs → before (get_or pairs i d).range (get_or pairs j e).range ≡ true
before_at [] i j d e lawful lt h = absurd (omega arith)
before_at (p ∷ ps) i zero d e lawful lt h = absurd (omega arith)
before_at (p ∷ ps) zero (suc j) d e lawful lt h = after_at p.range ps j e lawful.1 (omega arith)
before_at (p ∷ ps) (suc i) (suc j) d e lawful lt h = before_at ps i j d e lawful.2 (omega arith) (omega arith)

before_before : (a b r : Interval) → IsInterval b → before a b ≡ true → before b r ≡ true → before a r ≡ true
before_before a b r o h k = grind (arith, le_total, le_trans r.left a.right b.left, le_trans r.left b.left b.right)

begins_before : (a b r : Interval) → IsInterval a → before a b ≡ true → key_le b.left r.right ≡ true → key_le a.left r.right ≡ true
begins_before a b r o h k = grind (arith, le_total, le_trans a.left a.right b.left, le_trans a.left b.left r.right)

-- what the two searches ask of the list
pub partitioned_before : (range : Interval) (pairs : List Pair) → IsLawful pairs → IsPartitionedBy (λ p. before p.range range) pairs
partitioned_before range pairs lawful i j d h k e = elim (eq-or-lt_of_le h) [
  | inl same ↦ subst (λ n. before (get_or pairs n d).range range ≡ true) (sym same) e
  | inr less ↦ before_before (get_or pairs i d).range (get_or pairs j d).range range (ordered_at pairs j d lawful k) (before_at pairs i j d d lawful less k) e
]

pub partitioned_begins : (range : Interval) (pairs : List Pair) → IsLawful pairs → IsPartitionedBy (λ p. key_le p.range.left range.right) pairs
partitioned_begins range pairs lawful i j d h k e = elim (eq-or-lt_of_le h) [
  | inl same ↦ subst (λ n. key_le (get_or pairs n d).range.left range.right ≡ true) (sym same) e
  | inr less ↦ begins_before (get_or pairs i d).range (get_or pairs j d).range range (ordered_at pairs i d lawful (omega arith)) (before_at pairs i j d d lawful less k) e
]

-- what they find
meets : (a r : Interval) → before a r ≡ false → key_le a.left r.right ≡ true → overlap a r ≡ true
meets a r h k = grind arith

behind : (a r : Interval) → key_le a.left r.right ≡ false → before r a ≡ true
behind a r h = grind arith

in_order : (a r : Interval) → IsInterval a → IsInterval r → before a r ≡ true → key_le a.left r.right ≡ false → ⊥
in_order a r o k h e = grind (arith, le_total, le_trans a.left a.right r.left, le_trans a.left r.left r.right)

le_or_lt : (a b : ℕ) → (a ≤ b) ⊎ (b < a)
le_or_lt a b = elim (cases_order a b) [ inl e ↦ inl (omega arith) | inr (inl lt) ↦ inl (omega arith) | inr (inr lt) ↦ inr lt ]

in_order_at : (range : Interval) (pairs : List Pair) (start end : ℕ) → IsInterval range → IsLawful pairs → start ≤ length pairs
    → AllWithin (λ p. before p.range range ≡ true) pairs 0 start
    → AllWithin (λ p. key_le p.range.left range.right ≡ false) pairs end (length pairs)
    → start ≤ end
in_order_at range [] start end o lawful h first second = omega arith
in_order_at range (p ∷ ps) start end o lawful h first second = elim (le_or_lt start end) [
  | inl le ↦ le
  | inr lt ↦ absurd (in_order (get_or (p ∷ ps) end p).range range (ordered_at (p ∷ ps) end p lawful (omega arith)) o (first end p (omega arith) lt) (second end p (omega arith) (omega arith)))
]

pub window_found : (range : Interval) (pairs : List Pair) (start end : ℕ) → IsInterval range → IsLawful pairs → start ≤ length pairs → end ≤ length pairs
    → IsPartitionPoint (λ p. before p.range range ≡ true) (λ p. before p.range range ≡ false) pairs start
    → IsPartitionPoint (λ p. key_le p.range.left range.right ≡ true) (λ p. key_le p.range.left range.right ≡ false) pairs end
    → IsWindow range pairs start end
window_found range pairs start end o lawful h k first second = record {
  ordered = in_order_at range pairs start end o lawful h first.0 second.1;
  within = k;
  front = first.0;
  inside = λ n d low high. meets (get_or pairs n d).range range (first.1 n d low (omega arith)) (second.0 n d (omega arith) high);
  behind = λ n d low high. behind (get_or pairs n d).range range (second.1 n d low high);
}

-- as lists: those in front, those that overlap, and those behind
record Parts (range : Interval) (pairs front inside behind : List Pair) : Type 0 where
  whole : pairs ≡ front ++ (inside ++ behind)
  front_apart : All (λ p. overlap p.range range ≡ false) front
  inside_meets : All (λ p. overlap p.range range ≡ true) inside
  behind_apart : All (λ p. overlap p.range range ≡ false) behind

parts : (range : Interval) (pairs : List Pair) (start end : ℕ) → IsWindow range pairs start end → Parts range pairs (take start pairs) (between start end pairs) (drop end pairs)
parts range pairs start end window = record {
  whole = split_between pairs start end window.ordered;
  front_apart = λ k d h. let lt : k < start = omega (arith, length-take start pairs) in
      rw (get_or-take start pairs k d lt) (before-overlap (get_or pairs k d).range range (window.front k d (omega arith) lt));
  inside_meets = λ k d h. let lt : start + k < end = omega (arith, length-between pairs start end window.within) in
      rw (get_or-between pairs start end k d lt) (window.inside (start + k) d (omega arith) lt);
  behind_apart = λ k d h. let lt : end + k < length pairs = omega (arith, length-drop end pairs) in
      rw (get_or-drop end pairs k d) (overlap_back (get_or pairs (end + k) d).range range ∙ before-overlap range (get_or pairs (end + k) d).range (window.behind (end + k) d (omega arith) lt));
}

-- what a filter keeps of a part where its test is known
filter_none : (test : Pair → Bool) (pairs : List Pair) → All (λ p. test p ≡ false) pairs → filter test pairs ≡ []
filter_none test [] all = refl
filter_none test (p ∷ ps) all =
    let first : test p ≡ false = All-head (λ q. test q ≡ false) p ps all in
    let rest : filter test ps ≡ [] = filter_none test ps (All-tail (λ q. test q ≡ false) p ps all) in
    ap (λ b. if b then p ∷ filter test ps else filter test ps) first ∙ rest

filter_all : (test : Pair → Bool) (pairs : List Pair) → All (λ p. test p ≡ true) pairs → filter test pairs ≡ pairs
filter_all test [] all = refl
filter_all test (p ∷ ps) all =
    let first : test p ≡ true = All-head (λ q. test q ≡ true) p ps all in
    let rest : filter test ps ≡ ps = filter_all test ps (All-tail (λ q. test q ≡ true) p ps all) in
    ap (λ b. if b then p ∷ filter test ps else filter test ps) first ∙ ap (λ l. p ∷ l) rest

filter_same : (test other : Pair → Bool) (pairs : List Pair) → All (λ p. test p ≡ other p) pairs → filter test pairs ≡ filter other pairs
filter_same test other [] all = refl
filter_same test other (p ∷ ps) all =
    let first : test p ≡ other p = All-head (λ q. test q ≡ other q) p ps all in
    let rest : filter test ps ≡ filter other ps = filter_same test other ps (All-tail (λ q. test q ≡ other q) p ps all) in
    (λ i. if first i then p ∷ rest i else rest i)

-- a test that only what overlaps can pass
inside_only : (range : Interval) (test other : Pair → Bool) (pairs front inside behind : List Pair) → Parts range pairs front inside behind
    → ((p : Pair) → overlap p.range range ≡ false → test p ≡ false) → ((p : Pair) → overlap p.range range ≡ true → test p ≡ other p)
    → filter test pairs ≡ filter other inside
inside_only range test other pairs front inside behind parts none same =
    let at_front : filter test front ≡ [] = filter_none test front (All-weaker _ _ none front parts.front_apart) in
    let at_behind : filter test behind ≡ [] = filter_none test behind (All-weaker _ _ none behind parts.behind_apart) in
    let at_inside : filter test inside ≡ filter other inside = filter_same test other inside (All-weaker _ _ same inside parts.inside_meets) in
    ap (filter test) parts.whole ∙ filter-append test front (inside ++ behind) ∙ ap (λ l. filter test front ++ l) (filter-append test inside behind)
    ∙ (λ i. at_front i ++ (at_inside i ++ at_behind i)) ∙ append-nil (filter other inside)

-- a test that all pass that don't overlap
all_outside : (range : Interval) (test other : Pair → Bool) (pairs front inside behind : List Pair) → Parts range pairs front inside behind
    → ((p : Pair) → overlap p.range range ≡ false → test p ≡ true) → ((p : Pair) → overlap p.range range ≡ true → test p ≡ other p)
    → filter test pairs ≡ front ++ (filter other inside ++ behind)
all_outside range test other pairs front inside behind parts all same =
    let at_front : filter test front ≡ front = filter_all test front (All-weaker _ _ all front parts.front_apart) in
    let at_behind : filter test behind ≡ behind = filter_all test behind (All-weaker _ _ all behind parts.behind_apart) in
    let at_inside : filter test inside ≡ filter other inside = filter_same test other inside (All-weaker _ _ same inside parts.inside_meets) in
    ap (filter test) parts.whole ∙ filter-append test front (inside ++ behind) ∙ ap (λ l. filter test front ++ l) (filter-append test inside behind)
    ∙ (λ i. at_front i ++ (at_inside i ++ at_behind i))

-- the others that overlap, those that go, and those that stay
pub others_met : (txn : ℕ) (range : Interval) (pairs : List Pair) (start end : ℕ) → IsWindow range pairs start end
    → filter (is_others txn range) pairs ≡ filter (λ p. not (p.owner == txn)) (between start end pairs)
others_met txn range pairs start end window =
    inside_only range (is_others txn range) (λ p. not (p.owner == txn)) pairs _ _ _ (parts range pairs start end window) (λ p e. grind arith) (λ p e. grind arith)

pub own_met : (txn : ℕ) (range : Interval) (pairs : List Pair) (start end : ℕ) → IsWindow range pairs start end
    → filter (is_own txn range) pairs ≡ filter (λ p. p.owner == txn) (between start end pairs)
own_met txn range pairs start end window =
    inside_only range (is_own txn range) (λ p. p.owner == txn) pairs _ _ _ (parts range pairs start end window) (λ p e. grind arith) (λ p e. grind arith)

pub freed_around : (txn : ℕ) (range : Interval) (pairs : List Pair) (start end : ℕ) → IsWindow range pairs start end
    → freed txn range pairs ≡ take start pairs ++ (filter (λ p. not (p.owner == txn)) (between start end pairs) ++ drop end pairs)
freed_around txn range pairs start end window =
    all_outside range (λ p. not (is_own txn range p)) (λ p. not (p.owner == txn)) pairs _ _ _ (parts range pairs start end window) (λ p e. grind arith) (λ p e. grind arith)

-- nobody else is met, so that all that overlap are the transaction's
no_front : (b : Bool) (p : Pair) (xs : List Pair) → (if not b then p ∷ xs else xs) ≡ [] → b ≡ true
no_front true p xs e = refl
no_front false p xs e = cc

no_rest : (b : Bool) (p : Pair) (xs : List Pair) → (if not b then p ∷ xs else xs) ≡ [] → xs ≡ []
no_rest true p xs e = e
no_rest false p xs e = cc

all_own : (txn : ℕ) (met : List Pair) → filter (λ p. not (p.owner == txn)) met ≡ [] → filter (λ p. p.owner == txn) met ≡ met
all_own txn [] e = refl
all_own txn (p ∷ ps) e =
    let first : (p.owner == txn) ≡ true = no_front (p.owner == txn) p _ e in
    let rest = all_own txn ps (no_rest (p.owner == txn) p _ e) in
    ap (λ b. if b then p ∷ filter (λ q. q.owner == txn) ps else filter (λ q. q.owner == txn) ps) first ∙ ap (λ l. p ∷ l) rest

-- the span of what is met: it begins no later than the range, and lies behind all that each part lies behind
span_begins : (range acc : Interval) (met : List Pair) → key_le acc.left range.left ≡ true → key_le (fold (λ r p. hull r p.range) acc met).left range.left ≡ true
span_begins range acc [] h = h
span_begins range acc (m ∷ ms) h = span_begins range (hull acc m.range) ms (lesser acc m.range range.left h)
  where
    lesser : (a b : Interval) (k : Key) → key_le a.left k ≡ true → key_le (hull a b).left k ≡ true
    lesser a b k e = grind (arith, le_total, le_trans b.left a.left k)

span_behind : (q acc : Interval) (met : List Pair) → before q acc ≡ true → All (λ m. before q m.range ≡ true) met → before q (fold (λ r p. hull r p.range) acc met) ≡ true
span_behind q acc [] h all = h
span_behind q acc (m ∷ ms) h all =
    span_behind q (hull acc m.range) ms (before_hull acc m.range q h (All-head (λ p. before q p.range ≡ true) m ms all)) (All-tail (λ p. before q p.range ≡ true) m ms all)

-- a pair goes between those that begin before it and those that begin behind it
with_pair_after : (new : Pair) (front behind : List Pair) → All (λ p. key_le p.range.left new.range.left ≡ true) front → with_pair new (front ++ behind) ≡ front ++ with_pair new behind
with_pair_after new [] behind all = refl
with_pair_after new (p ∷ ps) behind all =
    let first : key_le p.range.left new.range.left ≡ true = All-head (λ q. key_le q.range.left new.range.left ≡ true) p ps all in
    let rest = with_pair_after new ps behind (All-tail (λ q. key_le q.range.left new.range.left ≡ true) p ps all) in
    ap (λ b. if b then p ∷ with_pair new (ps ++ behind) else new ∷ p ∷ (ps ++ behind)) first ∙ ap (λ l. p ∷ l) rest

with_pair_before : (new : Pair) (behind : List Pair) → All (λ p. key_le p.range.left new.range.left ≡ false) behind → with_pair new behind ≡ new ∷ behind
with_pair_before new [] all = refl
with_pair_before new (p ∷ ps) all =
    let first : key_le p.range.left new.range.left ≡ false = All-head (λ q. key_le q.range.left new.range.left ≡ false) p ps all in
    ap (λ b. if b then p ∷ with_pair new ps else new ∷ p ∷ ps) first

begins_left : (a b : Interval) → IsInterval a → before a b ≡ true → key_le a.left b.left ≡ true
begins_left a b o h = grind (arith, le_total, le_trans a.left a.right b.left)

begins_right : (r a : Interval) (k : Key) → IsInterval r → before r a ≡ true → key_le k r.left ≡ true → key_le a.left k ≡ false
begins_right r a k o h e = grind (arith, le_total, le_trans a.left k r.left, le_trans a.left r.left r.right)

-- what a grant makes where nobody else is met
pub granted_between : (txn : ℕ) (range : Interval) (pairs : List Pair) (start end : ℕ) → IsInterval range → IsLawful pairs → IsWindow range pairs start end → others txn range pairs ≡ []
    → granted txn range pairs ≡ take start pairs ++ (record { owner = txn; range = fold (λ r p. hull r p.range) range (between start end pairs) } ∷ drop end pairs)
granted_between txn range pairs start end o lawful window none =
    let met = between start end pairs in
    let covering : Interval = fold (λ r p. hull r p.range) range met in
    let new : Pair = record { owner = txn; range = covering } in
    let nobody : filter (λ p. not (p.owner == txn)) met ≡ [] = sym (others_met txn range pairs start end window) ∙ none_left _ none in
    let mine : filter (is_own txn range) pairs ≡ met = own_met txn range pairs start end window ∙ all_own txn met nobody in
    let stays : freed txn range pairs ≡ take start pairs ++ drop end pairs =
    freed_around txn range pairs start end window ∙ ap (λ l. take start pairs ++ (l ++ drop end pairs)) nobody in
    let front : All (λ p. key_le p.range.left covering.left ≡ true) (take start pairs) = λ k d h.
    let lt : k < start = omega (arith, length-take start pairs) in
    rw (get_or-take start pairs k d lt)
    (begins_left (get_or pairs k d).range covering (ordered_at pairs k d lawful (omega (arith, window.ordered, window.within)))
    (span_behind (get_or pairs k d).range range met (window.front k d (omega arith) lt)
    (λ j e i. let high : start + j < end = omega (arith, length-between pairs start end window.within) in
    rw (get_or-between pairs start end j e high) (before_at pairs k (start + j) d e lawful (omega arith) (omega (arith, window.within)))))) in
    let behind : All (λ p. key_le p.range.left covering.left ≡ false) (drop end pairs) = λ k d h.
    let lt : end + k < length pairs = omega (arith, length-drop end pairs) in
    rw (get_or-drop end pairs k d)
    (begins_right range (get_or pairs (end + k) d).range covering.left o (window.behind (end + k) d (omega arith) lt) (span_begins range range met (le_itself range.left))) in
    (λ i. with_pair (record { owner = txn; range = fold (λ r p. hull r p.range) range (mine i) }) (stays i))
    ∙ with_pair_after new (take start pairs) (drop end pairs) front
    ∙ ap (λ l. take start pairs ++ l) (with_pair_before new (drop end pairs) behind)

-- the transaction's pairs taken out where they stand
pub removed_inside : (pairs met : List Pair) (start end kept : ℕ) → start ≤ end → end ≤ length pairs → length met ≡ end - start → kept ≤ length met
    → remove_range (put_mid start (end - start) pairs met) (start + kept) end ≡ take start pairs ++ (take kept met ++ drop end pairs)
removed_inside pairs met start end kept h k same le =
    let now = put_mid start (end - start) pairs met in
    let behind : drop end now ≡ drop end pairs = drop-put_mid start (end - start) pairs met end (omega arith) (omega arith) same in
    let front : take (start + kept) now ≡ take start pairs ++ take kept met =
    ap (λ n. take (n + kept) now) (sym (length-take-le start pairs (omega arith)))
    ∙ take-append-add (take start pairs) (met ++ post_of start (end - start) pairs) kept
    ∙ ap (λ l. take start pairs ++ l) (take-append-le kept met (post_of start (end - start) pairs) le) in
    (λ i. front i ++ behind i) ∙ append_assoc (take start pairs) (take kept met) (drop end pairs)

-- a pair put in the place of those that it covers
pub put_over : (pairs : List Pair) (new : Pair) (start end : ℕ) → start < end → end ≤ length pairs
    → remove_range (set pairs start new) (start + 1) end ≡ take start pairs ++ (new ∷ drop end pairs)
put_over pairs new start end lt h =
    let front : take (start + 1) (set pairs start new) ≡ take start pairs ++ new ∷ [] = take_more_set pairs start new (omega arith) in
    let behind : drop end (set pairs start new) ≡ drop end pairs = drop-set-lt end pairs start new lt in
    (λ i. front i ++ behind i) ∙ append_assoc (take start pairs) (new ∷ []) (drop end pairs)

-- a part written through a slice of a vector leaves the vector with it
pub written_back : (pairs met old : List Pair) (start end len : ℕ) → start ≤ end → end ≤ length pairs → length met ≡ end - start → length pairs ≡ len
    → take len (put_mid start (end - start) pairs met ++ drop (length (put_mid start (end - start) pairs met)) old) ≡ put_mid start (end - start) pairs met
written_back pairs met old start end len h k same is =
    take_at (put_mid start (end - start) pairs met) (drop (length (put_mid start (end - start) pairs met)) old) len (simp (length-append, length-take, length-drop) (omega arith))
