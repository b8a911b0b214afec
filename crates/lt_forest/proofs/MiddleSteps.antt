-- The steps on a list of which only the middle overlaps the range: what a plan computes from the rows of its part.
use Rattle.std.proofs.Common.{◌≡◌, inl, inr, ℕ, List, [], ◌∷◌, ◌++◌, map, length, Bool, true, false, not, if◌then◌else◌, refl, ap, ap₂, ◌∙◌, arith, append-nil}
use Rattle.std.specs.List.{filter, fold}
use Rattle.lt_ranges.specs.declared.key.Key.{Key}
use Rattle.lt_ranges.specs.Key.{key_le, key_min}
use Rattle.lt_ranges.specs.Numbers.{ascending}
use Rattle.lt_ranges.proofs.KeyLaws.{le_itself, le_trans, le_total}
use Rattle.lt_ranges.specs.Interval.{Interval, IsInterval, overlap, before, hull}
use Rattle.lt_ranges.proofs.IntervalLaws.{before-overlap, overlap_back}
use Rattle.lt_seq.specs.declared.event.Pair.{Pair}
use Rattle.lt_seq.specs.Pairs.{IsLawful, is_own, is_others, others, freed, count_freed, span, with_pair, granted}
use Rattle.lt_seq.proofs.PairsLaws.{IsClear}
use Rattle.lt_forest.specs.Pairs.{Has}
use Rattle.lt_forest.specs.LawsOfOrder.{StepsInTheMiddle}
use Rattle.lt_forest.proofs.BoundLaws.{lt_is, le_lt}
use Rattle.lt_forest.proofs.PairLists.{clear_by, filter_app, filter_clear, has_filter, not_over, differ, lawful_cross, lawful_has, has_left}
use Rattle.lt_forest.proofs.PairChanges.{own_over, others_over}

-- nothing is left out where nothing overlaps

kept_one : (x : Pair) (rest xs : List Pair) (b : Bool) → b ≡ false → rest ≡ xs → (if not b then x ∷ rest else rest) ≡ x ∷ xs
kept_one x rest xs true is e = absurd (differ true refl is)
kept_one x rest xs false is e = ap (λ (l : List Pair). x ∷ l) e

pub freed-clear : (txn : ℕ) (range : Interval) (xs : List Pair) → IsClear range xs → freed txn range xs ≡ xs
freed-clear txn range [] clear = refl
freed-clear txn range (x ∷ xs) clear =
    kept_one x (freed txn range xs) xs (is_own txn range x)
    (not_over (is_own txn range x) (overlap x.range range) (own_over txn range x) clear.0) (freed-clear txn range xs clear.1)

module _ (txn : ℕ) (range : Interval) (xs ys zs : List Pair) (clear_xs : IsClear range xs) (clear_zs : IsClear range zs) where
  -- a test of pairs that overlap
  middle : (f : Pair → Bool) → ((p : Pair) → f p ≡ true → overlap p.range range ≡ true) → filter f (xs ++ (ys ++ zs)) ≡ filter f ys
  middle f over =
      filter_app f xs (ys ++ zs)
      ∙ (ap₂ (λ (l m : List Pair). l ++ m) (filter_clear f range xs over clear_xs) (filter_app f ys zs)
      ∙ (ap (λ (l : List Pair). filter f ys ++ l) (filter_clear f range zs over clear_zs) ∙ append-nil (filter f ys)))

  pub others-middle : others txn range (xs ++ (ys ++ zs)) ≡ others txn range ys
  others-middle = ap (λ (l : List Pair). ascending (map (λ p. p.owner) l)) (middle (is_others txn range) (others_over txn range))

  pub count_freed-middle : count_freed txn range (xs ++ (ys ++ zs)) ≡ count_freed txn range ys
  count_freed-middle = ap (λ (l : List Pair). length l) (middle (is_own txn range) (own_over txn range))

  pub span-middle : span txn range (xs ++ (ys ++ zs)) ≡ span txn range ys
  span-middle = ap (λ (l : List Pair). fold (λ r p. hull r p.range) range l) (middle (is_own txn range) (own_over txn range))

  pub freed-middle : freed txn range (xs ++ (ys ++ zs)) ≡ xs ++ (freed txn range ys ++ zs)
  freed-middle =
      filter_app (λ p. not (is_own txn range p)) xs (ys ++ zs)
      ∙ ap₂ (λ (l m : List Pair). l ++ m) (freed-clear txn range xs clear_xs)
      (filter_app (λ p. not (is_own txn range p)) ys zs
      ∙ ap (λ (l : List Pair). freed txn range ys ++ l) (freed-clear txn range zs clear_zs))

-- a pair put into a list in three

put_on : (p new : Pair) (rest l : List Pair) (b : Bool) → b ≡ true → (if b then p ∷ rest else new ∷ l) ≡ p ∷ rest
put_on p new rest l true is = refl
put_on p new rest l false is = absurd (differ false is refl)

put_here : (p new : Pair) (rest l : List Pair) (b : Bool) → b ≡ false → (if b then p ∷ rest else new ∷ l) ≡ new ∷ l
put_here p new rest l true is = absurd (differ true refl is)
put_here p new rest l false is = refl

pub with_pair-behind : (new : Pair) (xs ys : List Pair) → ((p : Pair) → Has p xs → key_le p.range.left new.range.left ≡ true)
    → with_pair new (xs ++ ys) ≡ xs ++ with_pair new ys
with_pair-behind new [] ys low = refl
with_pair-behind new (x ∷ xs) ys low =
    put_on x new (with_pair new (xs ++ ys)) (x ∷ xs ++ ys) (key_le x.range.left new.range.left) (low x (inl refl))
    ∙ ap (λ (l : List Pair). x ∷ l) (with_pair-behind new xs ys (λ p h. low p (inr h)))

pick_app : (p new : Pair) (rest l zs : List Pair) (b : Bool)
    → (if b then p ∷ (rest ++ zs) else new ∷ (l ++ zs)) ≡ (if b then p ∷ rest else new ∷ l) ++ zs
pick_app p new rest l zs true = refl
pick_app p new rest l zs false = refl

pub with_pair-before : (new : Pair) (ys zs : List Pair) → ((p : Pair) → Has p zs → key_le p.range.left new.range.left ≡ false)
    → with_pair new (ys ++ zs) ≡ with_pair new ys ++ zs
with_pair-before new [] [] high = refl
with_pair-before new [] (z ∷ zs) high =
    put_here z new (with_pair new zs) (z ∷ zs) (key_le z.range.left new.range.left) (high z (inl refl))
with_pair-before new (y ∷ ys) zs high =
    ap (λ (l : List Pair). if key_le y.range.left new.range.left then y ∷ l else new ∷ y ∷ ys ++ zs) (with_pair-before new ys zs high)
    ∙ pick_app y new (with_pair new ys) (y ∷ ys) zs (key_le y.range.left new.range.left)

-- the left end of a hull of many is at least a key that is at most each, and at most the first

pub fold_least : (k : Key) (range : Interval) (ms : List Pair) → key_le k range.left ≡ true
    → ((p : Pair) → Has p ms → key_le k p.range.left ≡ true) → key_le k (fold (λ r p. hull r p.range) range ms).left ≡ true
fold_least k range [] low all = low
fold_least k range (m ∷ ms) low all =
    fold_least k (hull range m.range) ms (least range m.range low (all m (inl refl))) (λ p h. all p (inr h))
  where
    least : (a b : Interval) → key_le k a.left ≡ true → key_le k b.left ≡ true → key_le k (key_min a.left b.left) ≡ true
    least a b h i = grind arith

fold_most : (range : Interval) (ms : List Pair) → key_le (fold (λ r p. hull r p.range) range ms).left range.left ≡ true
fold_most range [] = le_itself range.left
fold_most range (m ∷ ms) =
    le_trans (fold (λ r p. hull r p.range) (hull range m.range) ms).left (hull range m.range).left range.left
    (fold_most (hull range m.range) ms) (least range m.range)
  where
    least : (a b : Interval) → key_le (key_min a.left b.left) a.left ≡ true
    least a b = grind (arith, le_itself, le_total)

module _ (txn : ℕ) (range : Interval) (xs ys zs : List Pair) (lawful : IsLawful (xs ++ (ys ++ zs))) (o : IsInterval range)
    (low : (p : Pair) → Has p xs → before p.range range ≡ true) (high : (p : Pair) → Has p zs → before range p.range ≡ true) where
  clear_low : IsClear range xs
  clear_low = clear_by range xs (λ p h. before-overlap p.range range (low p h))

  clear_high : IsClear range zs
  clear_high = clear_by range zs (λ p h. overlap_back p.range range ∙ before-overlap range p.range (high p h))

  abbrev merged_pair : Pair
  merged_pair = record { owner = txn; range = span txn range ys }

  not_le : (a b : Key) → not (key_le a b) ≡ true → key_le a b ≡ false
  not_le a b h = grind arith

  begins_later : (p : Pair) → Has p xs → key_le p.range.left (span txn range ys).left ≡ true
  begins_later p h =
      let i : IsInterval p.range = lawful_has p (xs ++ (ys ++ zs)) lawful (has_left p xs (ys ++ zs) h) in
      fold_least p.range.left range (filter (is_own txn range) ys)
      (le_trans p.range.left p.range.right range.left i (lt_is p.range.right range.left (low p h)))
      (λ m k.
      let there : Has m (ys ++ zs) = has_left m ys zs (has_filter (is_own txn range) m ys k).0 in
      le_trans p.range.left p.range.right m.range.left i
      (lt_is p.range.right m.range.left (lawful_cross p m xs (ys ++ zs) lawful h there)))

  begins_earlier : (p : Pair) → Has p zs → key_le p.range.left (span txn range ys).left ≡ false
  begins_earlier p h =
      let left : Key = (span txn range ys).left in
      let at : key_le left range.left ≡ true = fold_most range (filter (is_own txn range) ys) in
      not_le p.range.left left (le_lt left range.right p.range.left (le_trans left range.left range.right at o) (high p h))

  -- the merged pair stands among the middle ones
  pub granted-middle : granted txn range (xs ++ (ys ++ zs)) ≡ xs ++ (granted txn range ys ++ zs)
  granted-middle =
      ap₂ (λ (r : Interval) (l : List Pair). with_pair (record { owner = txn; range = r }) l)
      (span-middle txn range xs ys zs clear_low clear_high) (freed-middle txn range xs ys zs clear_low clear_high)
      ∙ (with_pair-behind merged_pair xs (freed txn range ys ++ zs) begins_later
      ∙ ap (λ (l : List Pair). xs ++ l) (with_pair-before merged_pair (freed txn range ys) zs begins_earlier))

  pub middle_decides : StepsInTheMiddle txn range xs ys zs
  middle_decides = record {
    same_others = others-middle txn range xs ys zs clear_low clear_high;
    same_count = count_freed-middle txn range xs ys zs clear_low clear_high;
    new_freed = freed-middle txn range xs ys zs clear_low clear_high;
    new_granted = granted-middle;
  }

-- where all of the middle is the transaction's and overlaps, one pair stays of it

own_gone : (x : Pair) (rest : List Pair) (b : Bool) → b ≡ true → rest ≡ [] → (if not b then x ∷ rest else rest) ≡ []
own_gone x rest true is e = e
own_gone x rest false is e = absurd (differ false is refl)

pub freed-own : (txn : ℕ) (range : Interval) (ys : List Pair) → ((p : Pair) → Has p ys → is_own txn range p ≡ true)
    → freed txn range ys ≡ []
freed-own txn range [] own = refl
freed-own txn range (y ∷ ys) own =
    own_gone y (freed txn range ys) (is_own txn range y) (own y (inl refl)) (freed-own txn range ys (λ p h. own p (inr h)))

pub granted-own : (txn : ℕ) (range : Interval) (ys : List Pair) → ((p : Pair) → Has p ys → is_own txn range p ≡ true)
    → granted txn range ys ≡ record { owner = txn; range = span txn range ys } ∷ []
granted-own txn range ys own = ap (with_pair (record { owner = txn; range = span txn range ys })) (freed-own txn range ys own)
