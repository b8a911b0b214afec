-- What ranges grant to one transaction is the same in any order: its pairs cover the ranges, and lie within those of each lawful list
-- that covers them.
use Rattle.std.proofs.Common.{◌≡◌, ◌⊎◌, inl, inr, ℕ, ◌+◌, ◌<◌, ◌≤◌, Bool, true, false, not, List}
use Rattle.std.proofs.Common.{[], ◌∷◌, ◌++◌, length, take, get_or, map, refl, sym, ap, ◌∙◌, subst, arith}
use Rattle.std.proofs.lemmas.List.{take_all, take_more}
use Rattle.std.proofs.lemmas.List.Elements.{All-head, All-tail, All-cons, All-weaker}
use Rattle.std.proofs.lemmas.List.Sorted.{All-permutation, IsPermutation-sym, IsPermutation-to_front}
use Rattle.std.specs.List.{All, filter, fold}
use Rattle.std.specs.List.Sorted.{IsPermutation}
use Rattle.lt_ranges.specs.Key.{key_le}
use Rattle.lt_ranges.specs.Interval.{Interval, IsInterval, overlap, before, covers, hull}
use Rattle.lt_ranges.proofs.KeyLaws.{le_itself, le_trans, le_both}
use Rattle.lt_ranges.proofs.IntervalLaws.{covers_hull_left, covers_hull_right, hull_least, overlap_back, before_trans}
use Rattle.lt_seq.specs.declared.event.Pair.{Pair}
use Rattle.lt_seq.specs.Pairs.{AllAfter, IsLawful, is_own, freed, span, with_pair, granted}
use Rattle.lt_seq.specs.Sound.{AllOwn}
use Rattle.lt_seq.proofs.PairsLaws.{chosen}
use Rattle.lt_seq.proofs.SpanLaws.{lawful-granted}
use Rattle.lt_seq.proofs.LawfulLaws.{own-filter, own-with_pair, others_none}
use Rattle.lt_forest.specs.Trees.{Nodes}
use Rattle.lt_forest.specs.Forest.{folded}
use Rattle.lt_chain.specs.Chains.{all_granted}

-- the pair is one of these
abbrev IsOne : Pair → List Pair → Type 0
IsOne p [] = ⊥
IsOne p (q ∷ qs) = (p ≡ q) ⊎ IsOne p qs

-- one of the pairs covers the range
abbrev IsCovered : List Pair → Interval → Type 0
IsCovered pairs range = (p : Pair) × IsOne p pairs × (covers p.range range ≡ true)

-- each of the first is covered by one of the second
abbrev LiesWithin : List Pair → List Pair → Type 0
LiesWithin ps qs = (p : Pair) → IsOne p ps → IsCovered qs p.range

-- the transaction's pairs cover the ranges, and lie within each lawful list that does
pub record IsLeast (txn : ℕ) (ranges : List Interval) (pairs : List Pair) : Type 0 where
  pub intervals : All IsInterval ranges
  pub lawful : IsLawful pairs
  pub own : AllOwn txn pairs
  pub cover : All (IsCovered pairs) ranges
  pub least : (other : List Pair) → IsLawful other → All (IsCovered other) ranges → LiesWithin pairs other

-- of ranges

covers_on : (a b c : Interval) → covers a b ≡ true → covers b c ≡ true → covers a c ≡ true
covers_on a b c h k = grind (arith, le_trans a.left b.left c.left, le_trans c.right b.right a.right)

covers_itself : (a : Interval) → covers a a ≡ true
covers_itself a = grind (arith, le_itself)

covers_over : (a b : Interval) → IsInterval b → covers a b ≡ true → overlap b a ≡ true
covers_over a b o h = grind (arith, le_trans b.left b.right a.right, le_trans a.left b.left b.right)

-- what covers two ranges that overlap does so
covers_meet : (s t r p : Interval) → covers s r ≡ true → covers t p ≡ true → overlap p r ≡ true → overlap s t ≡ true
covers_meet s t r p h k o =
    grind (
      arith,
      le_trans s.left r.left p.right,
      le_trans s.left p.right t.right,
      le_trans t.left p.left r.right,
      le_trans t.left r.right s.right,
    )

not_apart : (a b : Interval) → before a b ≡ true → overlap a b ≡ true → ⊥
not_apart a b h o = grind arith

not_before : (a : Interval) → IsInterval a → before a a ≡ true → ⊥
not_before a o h = grind arith

same_range : (a b : Interval) → covers a b ≡ true → covers b a ≡ true → a ≡ b
same_range a b h k =
    let l : a.left ≡ b.left = le_both a.left b.left (grind arith) (grind arith) in
    let r : a.right ≡ b.right = le_both a.right b.right (grind arith) (grind arith) in
    (λ i. record { left = l i; right = r i })

-- of the pairs of a list

after_one : (range : Interval) (p : Pair) (ps : List Pair) → AllAfter range ps → IsOne p ps → before range p.range ≡ true
after_one range p [] all h = absurd h
after_one range p (q ∷ qs) all (inl e) = subst (λ (x : Pair). before range x.range ≡ true) (sym e) all.0
after_one range p (q ∷ qs) all (inr h) = after_one range p qs all.1 h

interval_one : (p : Pair) (ps : List Pair) → IsLawful ps → IsOne p ps → IsInterval p.range
interval_one p [] lawful h = absurd h
interval_one p (q ∷ qs) lawful (inl e) = subst (λ (x : Pair). IsInterval x.range) (sym e) lawful.0
interval_one p (q ∷ qs) lawful (inr h) = interval_one p qs lawful.2 h

own_one : (txn : ℕ) (p : Pair) (ps : List Pair) → AllOwn txn ps → IsOne p ps → p.owner ≡ txn
own_one txn p [] own h = absurd h
own_one txn p (q ∷ qs) own (inl e) = ap (λ (x : Pair). x.owner) e ∙ own.0
own_one txn p (q ∷ qs) own (inr h) = own_one txn p qs own.1 h

-- two of a lawful list that overlap are the same
one_same : (s t : Pair) (ps : List Pair) → IsLawful ps → IsOne s ps → IsOne t ps → overlap s.range t.range ≡ true → s ≡ t
one_same s t [] lawful h k o = absurd h
one_same s t (p ∷ ps) lawful (inl e) (inl f) o = e ∙ sym f
one_same s t (p ∷ ps) lawful (inl e) (inr k) o =
    let first : before s.range t.range ≡ true =
    subst (λ (x : Pair). before x.range t.range ≡ true) (sym e) (after_one p.range t ps lawful.1 k) in
    absurd (not_apart s.range t.range first o)
one_same s t (p ∷ ps) lawful (inr h) (inl f) o =
    let first : before t.range s.range ≡ true =
    subst (λ (x : Pair). before x.range s.range ≡ true) (sym f) (after_one p.range s ps lawful.1 h) in
    absurd (not_apart t.range s.range first (overlap_back t.range s.range ∙ o))
one_same s t (p ∷ ps) lawful (inr h) (inr k) o = one_same s t ps lawful.2 h k o

kept_one : (test : Pair → Bool) (p : Pair) (ps : List Pair) → IsOne p ps → test p ≡ true → IsOne p (filter test ps)
kept_one test p [] h e = absurd h
kept_one test p (q ∷ qs) (inl same) e =
    chosen (IsOne p) (test q) (q ∷ filter test qs) (filter test qs) (λ _. inl same)
    (λ f. absurd (let g : test p ≡ false = ap test same ∙ f in let t : true ≡ false = sym e ∙ g in cc))
kept_one test p (q ∷ qs) (inr h) e =
    let rest = kept_one test p qs h e in
    chosen (IsOne p) (test q) (q ∷ filter test qs) (filter test qs) (λ _. inr rest) (λ _. rest)

kept_only : (test : Pair → Bool) (p : Pair) (ps : List Pair) → IsOne p (filter test ps) → IsOne p ps × (test p ≡ true)
kept_only test p [] h = absurd h
kept_only test p (q ∷ qs) h =
    chosen (λ l. IsOne p l → IsOne p (q ∷ qs) × (test p ≡ true)) (test q) (q ∷ filter test qs) (filter test qs)
    (λ e k. elim k [ inl same ↦ (inl same, ap test same ∙ e) | inr m ↦ (let r = kept_only test p qs m in (inr r.0, r.1)) ])
    (λ _ k. (let r = kept_only test p qs k in (inr r.0, r.1))) h

new_one : (new : Pair) (ps : List Pair) → IsOne new (with_pair new ps)
new_one new [] = inl refl
new_one new (p ∷ ps) =
    chosen (IsOne new) (key_le p.range.left new.range.left) (p ∷ with_pair new ps) (new ∷ p ∷ ps)
    (λ _. inr (new_one new ps)) (λ _. inl refl)

old_one : (new p : Pair) (ps : List Pair) → IsOne p ps → IsOne p (with_pair new ps)
old_one new p [] h = absurd h
old_one new p (q ∷ qs) (inl e) =
    chosen (IsOne p) (key_le q.range.left new.range.left) (q ∷ with_pair new qs) (new ∷ q ∷ qs)
    (λ _. inl e) (λ _. inr (inl e))
old_one new p (q ∷ qs) (inr h) =
    chosen (IsOne p) (key_le q.range.left new.range.left) (q ∷ with_pair new qs) (new ∷ q ∷ qs)
    (λ _. inr (old_one new p qs h)) (λ _. inr (inr h))

new_or_old : (new p : Pair) (ps : List Pair) → IsOne p (with_pair new ps) → (p ≡ new) ⊎ IsOne p ps
new_or_old new p [] h = h
new_or_old new p (q ∷ qs) h =
    chosen (λ l. IsOne p l → (p ≡ new) ⊎ IsOne p (q ∷ qs)) (key_le q.range.left new.range.left) (q ∷ with_pair new qs) (new ∷ q ∷ qs)
    (λ _ k. elim k [ inl e ↦ inr (inl e) | inr m ↦ elim (new_or_old new p qs m) [ inl e ↦ inl e | inr n ↦ inr (inr n) ] ])
    (λ _ k. k) h

-- the hull covers what it is made of, and lies within what covers that

hull_covers : (range acc : Interval) (ms : List Pair) → covers acc range ≡ true → covers (fold (λ r p. hull r p.range) acc ms) range ≡ true
hull_covers range acc [] h = h
hull_covers range acc (m ∷ ms) h =
    hull_covers range (hull acc m.range) ms (covers_on (hull acc m.range) acc range (covers_hull_left acc m.range) h)

hull_covers_one : (p : Pair) (acc : Interval) (ms : List Pair) → IsOne p ms → covers (fold (λ r p. hull r p.range) acc ms) p.range ≡ true
hull_covers_one p acc [] h = absurd h
hull_covers_one p acc (m ∷ ms) (inl e) =
    hull_covers p.range (hull acc m.range) ms
    (subst (λ (x : Pair). covers (hull acc m.range) x.range ≡ true) (sym e) (covers_hull_right acc m.range))
hull_covers_one p acc (m ∷ ms) (inr h) = hull_covers_one p (hull acc m.range) ms h

hull_within : (s acc : Interval) (ms : List Pair) → covers s acc ≡ true → ((p : Pair) → IsOne p ms → covers s p.range ≡ true)
    → covers s (fold (λ r p. hull r p.range) acc ms) ≡ true
hull_within s acc [] h all = h
hull_within s acc (m ∷ ms) h all =
    hull_within s (hull acc m.range) ms ((hull_least acc m.range).least s h (all m (inl refl))) (λ p k. all p (inr k))

-- one range more

module _ (txn : ℕ) (range : Interval) (pairs : List Pair) where
  abbrev new : Pair
  new = record { owner = txn; range = span txn range pairs }

  -- the pairs that the range joins, and those that stay
  abbrev met : List Pair
  met = filter (is_own txn range) pairs

  abbrev stay : List Pair
  stay = freed txn range pairs

  -- what was covered stays so
  still_covered : (x : Interval) → IsCovered pairs x → IsCovered (granted txn range pairs) x
  still_covered x c = by_test (is_own txn range c.0) refl
    where
      by_test : (b : Bool) → is_own txn range c.0 ≡ b → IsCovered (granted txn range pairs) x
      by_test true e =
          let joined = hull_covers_one c.0 range met (kept_one (is_own txn range) c.0 pairs c.1 e) in
          (new, new_one new stay, covers_on new.range c.0.range x joined c.2)
      by_test false e =
          let kept = kept_one (λ p. not (is_own txn range p)) c.0 pairs c.1 (ap not e) in
          (c.0, old_one new c.0 stay kept, c.2)

  range_covered : IsCovered (granted txn range pairs) range
  range_covered = (new, new_one new stay, hull_covers range range met (covers_itself range))

  module _ (other : List Pair) (lawful : IsLawful other) (s : IsCovered other range) (within : LiesWithin pairs other) where
    -- the pair of the other list that covers the range covers each pair that overlaps the range
    one_covers : (m : Pair) → IsOne m met → covers s.0.range m.range ≡ true
    one_covers m h =
        let k = kept_only (is_own txn range) m pairs h in
        let t = within m k.0 in
        let over : overlap m.range range ≡ true = (let own = k.1 in grind arith) in
        let same : s.0 ≡ t.0 = one_same s.0 t.0 other lawful s.1 t.1 (covers_meet s.0.range t.0.range range m.range s.2 t.2 over) in
        subst (λ (x : Pair). covers x.range m.range ≡ true) (sym same) t.2

    new_within : covers s.0.range new.range ≡ true
    new_within = hull_within s.0.range range met s.2 one_covers

    still_within : LiesWithin (granted txn range pairs) other
    still_within p h = elim (new_or_old new p stay h) [
      | inl e ↦ (s.0, s.1, subst (λ (x : Pair). covers s.0.range x.range ≡ true) (sym e) new_within)
      | inr k ↦ within p (kept_only (λ q. not (is_own txn range q)) p pairs k).0
    ]

pub least_none : (txn : ℕ) → IsLeast txn [] []
least_none txn = record {
  intervals = λ k d h. absurd (omega arith);
  lawful = tt;
  own = tt;
  cover = λ k d h. absurd (omega arith);
  least = λ other lawful all p h. absurd h;
}

least_more : (txn : ℕ) (range : Interval) (ranges : List Interval) (pairs : List Pair) → IsInterval range → IsLeast txn ranges pairs
    → IsLeast txn (range ∷ ranges) (granted txn range pairs)
least_more txn range ranges pairs o l = record {
  intervals = All-cons IsInterval range ranges o l.intervals;
  lawful = lawful-granted txn range pairs o l.lawful (others_none txn range pairs l.own);
  own = own-with_pair txn _ (freed txn range pairs) refl (own-filter (λ p. not (is_own txn range p)) txn pairs l.own);
  cover = All-cons (IsCovered (granted txn range pairs)) range ranges (range_covered txn range pairs)
      (All-weaker (IsCovered pairs) (IsCovered (granted txn range pairs)) (still_covered txn range pairs) ranges l.cover);
  least = λ other lawful all. still_within txn range pairs other lawful (All-head (IsCovered other) range ranges all)
      (l.least other lawful (All-tail (IsCovered other) range ranges all));
}

-- in another order
least_moved : (txn : ℕ) (xs ys : List Interval) (pairs : List Pair) → IsPermutation xs ys → IsLeast txn xs pairs → IsLeast txn ys pairs
least_moved txn xs ys pairs moved l = record {
  intervals = All-permutation IsInterval xs ys moved l.intervals;
  lawful = l.lawful;
  own = l.own;
  cover = All-permutation (IsCovered pairs) xs ys moved l.cover;
  least = λ other lawful all. l.least other lawful (All-permutation (IsCovered other) ys xs (IsPermutation-sym xs ys moved) all);
}

least_granted : (txn : ℕ) (ranges : List Interval) → All IsInterval ranges → IsLeast txn ranges (all_granted txn ranges)
least_granted txn [] o = least_none txn
least_granted txn (r ∷ rs) o =
    least_more txn r rs (all_granted txn rs) (All-head IsInterval r rs o) (least_granted txn rs (All-tail IsInterval r rs o))

-- there is one such list

module _ (txn : ℕ) (ps qs : List Pair) (lawful : IsLawful ps) (own : AllOwn txn ps) (others_own : AllOwn txn qs) (there : LiesWithin ps qs)
    (back : LiesWithin qs ps) where
  in_both : (p : Pair) → IsOne p ps → IsOne p qs
  in_both p h =
      let q = there p h in
      let t = back q.0 q.1 in
      let over : overlap p.range t.0.range ≡ true =
      covers_over t.0.range p.range (interval_one p ps lawful h) (covers_on t.0.range q.0.range p.range t.2 q.2) in
      let same : p ≡ t.0 = one_same p t.0 ps lawful h t.1 over in
      let outer : covers p.range q.0.range ≡ true = subst (λ (x : Pair). covers x.range q.0.range ≡ true) (sym same) t.2 in
      let range : p.range ≡ q.0.range = same_range p.range q.0.range outer q.2 in
      let owner : p.owner ≡ q.0.owner = own_one txn p ps own h ∙ sym (own_one txn q.0 qs others_own q.1) in
      let is : p ≡ q.0 = (λ i. record { owner = owner i; range = range i }) in
      subst (λ (x : Pair). IsOne x qs) (sym is) q.1

same_first : (p q : Pair) (ps qs : List Pair) → IsLawful (p ∷ ps) → IsLawful (q ∷ qs) → IsOne p (q ∷ qs) → IsOne q (p ∷ ps) → p ≡ q
same_first p q ps qs lp lq (inl e) k = e
same_first p q ps qs lp lq (inr h) (inl e) = sym e
same_first p q ps qs lp lq (inr h) (inr k) =
    let there = after_one p.range q ps lp.1 k in
    let back = after_one q.range p qs lq.1 h in
    absurd (not_before p.range lp.0 (before_trans p.range q.range p.range there lq.0 back))

same_later : (x p q : Pair) (ps qs : List Pair) → IsLawful (p ∷ ps) → p ≡ q → IsOne x ps → IsOne x (q ∷ qs) → IsOne x qs
same_later x p q ps qs lp same h (inl e) =
    absurd (not_before p.range lp.0 (subst (λ (y : Pair). before p.range y.range ≡ true) (e ∙ sym same) (after_one p.range x ps lp.1 h)))
same_later x p q ps qs lp same h (inr k) = k

-- lawful lists that have the same pairs are equal
same_list : (ps qs : List Pair) → IsLawful ps → IsLawful qs → ((p : Pair) → IsOne p ps → IsOne p qs)
    → ((q : Pair) → IsOne q qs → IsOne q ps) → ps ≡ qs
same_list [] [] lp lq there back = refl
same_list [] (q ∷ qs) lp lq there back = absurd (back q (inl refl))
same_list (p ∷ ps) [] lp lq there back = absurd (there p (inl refl))
same_list (p ∷ ps) (q ∷ qs) lp lq there back =
    let first : p ≡ q = same_first p q ps qs lp lq (there p (inl refl)) (back q (inl refl)) in
    let rest : ps ≡ qs = same_list ps qs lp.2 lq.2 (λ x h. same_later x p q ps qs lp first h (there x (inr h)))
    (λ x h. same_later x q p qs ps lq (sym first) h (back x (inr h))) in
    (λ i. first i ∷ rest i)

least_once : (txn : ℕ) (ranges : List Interval) (ps qs : List Pair) → IsLeast txn ranges ps → IsLeast txn ranges qs → ps ≡ qs
least_once txn ranges ps qs l m =
    let there = l.least qs m.lawful m.cover in
    let back = m.least ps l.lawful l.cover in
    same_list ps qs l.lawful m.lawful (in_both txn ps qs l.lawful l.own m.own there back)
    (in_both txn qs ps m.lawful m.own l.own back there)

-- the rows of a chain grant what their ranges do
pub folded_ranges : (txn : ℕ) (c : Nodes) (rows : List ℕ) → folded txn c rows ≡ all_granted txn (map (λ q. (c q).range) rows)
folded_ranges txn c [] = refl
folded_ranges txn c (r ∷ rows) = ap (granted txn (c r).range) (folded_ranges txn c rows)

-- granted one after another from a list's front

pub least_goes_on : (txn n : ℕ) (range : Interval) (ranges : List Interval) (pairs : List Pair) → n < length ranges
    → range ≡ get_or ranges n range → IsInterval range → IsLeast txn (take n ranges) pairs
    → IsLeast txn (take (n + 1) ranges) (granted txn range pairs)
least_goes_on txn n range ranges pairs lt is o l =
    let more : take (n + 1) ranges ≡ take n ranges ++ range ∷ [] =
    take_more ranges n range lt ∙ ap (λ (x : Interval). take n ranges ++ x ∷ []) (sym is) in
    subst (λ (xs : List Interval). IsLeast txn xs (granted txn range pairs)) (sym more)
    (least_moved txn (range ∷ take n ranges) (take n ranges ++ range ∷ []) (granted txn range pairs)
    (IsPermutation-sym (take n ranges ++ range ∷ []) (range ∷ take n ranges) (IsPermutation-to_front (take n ranges) range))
    (least_more txn range (take n ranges) pairs o l))

pub least_ends : (txn n : ℕ) (ranges sorted : List Interval) (pairs : List Pair) → IsPermutation ranges sorted → length sorted ≤ n
    → IsLeast txn (take n sorted) pairs → pairs ≡ all_granted txn ranges
least_ends txn n ranges sorted pairs moved all l =
    let whole : IsLeast txn sorted pairs = subst (λ (xs : List Interval). IsLeast txn xs pairs) (take_all n sorted all) l in
    let here : IsLeast txn ranges pairs = least_moved txn sorted ranges pairs (IsPermutation-sym ranges sorted moved) whole in
    least_once txn ranges pairs (all_granted txn ranges) here (least_granted txn ranges here.intervals)
