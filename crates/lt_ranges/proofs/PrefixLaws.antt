-- A prefix endpoint lies above every key that begins with its bytes, and below every other greater key.
use Rattle.std.proofs.Common.{◌≡◌, ℕ, List, [], ◌∷◌, ◌++◌, map, Some, None, Bool, true, false, cond, ◌&&◌, nat_eq, refl, sym, ap, ◌∙◌}
use Rattle.std.specs.declared.cmp.Ordering.{Ordering}
use Rattle.std.specs.declared.cmp.Ordering.TheVariants.{Less, Equal, Greater}
use Rattle.std.specs.Ordering.{nat_cmp, is_le, is_eq, ordering_reverse, ordering_then}
use Rattle.std.specs.Cmp.{nat_eq_equiv, unsigned_ties}
use Rattle.std.specs.Cmp.Lexicographic.{pointwise, slice_cmp, nat_list_cmp_total, texts_ties, bytes_decides}
use Rattle.std.specs.List.{starts_with}
use Rattle.lt_ranges.specs.declared.key.Key.{Key}
use Rattle.lt_ranges.specs.declared.key.Key.TheVariants.{Below, Bytes, After, Above}
use Rattle.lt_ranges.specs.Key.{symbol_cmp, key_le, begins_with}
use Rattle.lt_ranges.specs.KeyOrder.{bytes_cmp, bytes_differ}
use Rattle.lt_ranges.specs.Interval.{has, prefix_range}
use Rattle.lt_ranges.proofs.KeyLaws.{le_trans}
use Rattle.lt_ranges.proofs.KeyParts.{before_end, ends}

-- bytes begin with themselves
starts_itself : (xs : List ℕ) → starts_with nat_eq xs xs ≡ true
starts_itself [] = refl
starts_itself (x ∷ xs) = both (nat_eq_equiv.refl x) (starts_itself xs)
  where
    both : {s t : Bool} → s ≡ true → t ≡ true → (s && t) ≡ true
    both p q = λ i. p i && q i

starts_same : (xs ys : List ℕ) → pointwise nat_eq xs ys ≡ true → starts_with nat_eq xs ys ≡ true
starts_same xs ys e = ap (λ zs. starts_with nat_eq xs zs) (sym ((bytes_decides xs ys).0 e)) ∙ starts_itself xs

not_less : (o : Ordering) → is_le (ordering_reverse o) ≡ true → is_eq o ≡ false → is_le o ≡ false
not_less Less h k = cc
not_less Equal h k = cc
not_less Greater h k = refl

turned_less : (o : Ordering) → is_le o ≡ true → is_eq o ≡ false → is_le (ordering_reverse o) ≡ false
turned_less Less h k = refl
turned_less Equal h k = cc
turned_less Greater h k = cc

chosen : (same front : Bool) (o : Ordering) → front ≡ true → is_le (cond same Equal (cond front Less o)) ≡ true
chosen true front o e = refl
chosen false true o e = refl
chosen false false o e = cc

pub prefix_above : (front : List ℕ) (key : Key) → begins_with front key ≡ true → key_le key (After front) ≡ true
unfolding key_le
prefix_above front Below h = cc
prefix_above front (Bytes xs) h =
    ap is_le (before_end xs front) ∙ ap (λ b. is_le (cond b Less (slice_cmp nat_cmp xs front))) h
prefix_above front (After xs) h = ap is_le (ends xs front) ∙ chosen (pointwise nat_eq xs front) (starts_with nat_eq xs front) _ h
prefix_above front Above h = cc

-- what doesn't begin with the front isn't the front
unlike : (xs front : List ℕ) → starts_with nat_eq xs front ≡ false → pointwise nat_eq xs front ≡ false
unlike xs front h = by (pointwise nat_eq xs front) (starts_same xs front)
  where
    by : (b : Bool) → (b ≡ true → starts_with nat_eq xs front ≡ true) → b ≡ false
    by true f =
        let e : starts_with nat_eq xs front ≡ true = f refl in
        cc
    by false f = refl

pub prefix_below : (front : List ℕ) (key : Key) → begins_with front key ≡ false → key_le (Bytes front) key ≡ true → key_le key (After front) ≡ false
unfolding key_le
prefix_below front Below h k = cc
prefix_below front (Bytes xs) h k =
    let least : is_le (ordering_reverse (slice_cmp nat_cmp xs front)) ≡ true =
    ap is_le (sym (nat_list_cmp_total.antisymm front xs) ∙ bytes_cmp front xs) ∙ k in
    let apart : is_eq (slice_cmp nat_cmp xs front) ≡ false = sym (texts_ties xs front) ∙ unlike xs front h in
    ap is_le (before_end xs front) ∙ ap (λ b. is_le (cond b Less (slice_cmp nat_cmp xs front))) h
    ∙ not_less (slice_cmp nat_cmp xs front) least apart
prefix_below front (After xs) h k =
    let back = slice_cmp symbol_cmp (map Some front) (map Some xs ++ None ∷ []) in
    ap is_le (ends xs front)
    ∙ (λ i. is_le (cond (unlike xs front h i) Equal (cond (h i) Less (ordering_reverse back))))
    ∙ turned_less back k (sym (bytes_differ front xs))
prefix_below front Above h k = refl

-- bytes come no later than those that begin with them
front_step : (o rest : Ordering) (same front : Bool) → same ≡ is_eq o → (same && front) ≡ true → (front ≡ true → is_le rest ≡ true) → is_le (ordering_then o rest) ≡ true
front_step Less rest same front e h f = refl
front_step Equal rest same true e h f = f refl
front_step Equal rest true false e h f = cc
front_step Equal rest false false e h f = cc
front_step Greater rest true front e h f = cc
front_step Greater rest false front e h f = cc

front_first : (front xs : List ℕ) → starts_with nat_eq xs front ≡ true → is_le (slice_cmp nat_cmp front xs) ≡ true
front_first [] [] h = refl
front_first [] (x ∷ xs) h = refl
front_first (y ∷ ys) [] h = cc
front_first (y ∷ ys) (x ∷ xs) h = front_step (nat_cmp y x) (slice_cmp nat_cmp ys xs) (nat_eq y x) (starts_with nat_eq xs ys) (unsigned_ties y x) h (front_first ys xs)

prefix_bytes : (front xs : List ℕ) → starts_with nat_eq xs front ≡ true → key_le (Bytes front) (Bytes xs) ≡ true
unfolding key_le
prefix_bytes front xs h = ap is_le (sym (bytes_cmp front xs)) ∙ front_first front xs h

prefix_first : (front : List ℕ) (key : Key) → begins_with front key ≡ true → key_le (Bytes front) key ≡ true
prefix_first front Below h = cc
prefix_first front (Bytes xs) h = prefix_bytes front xs h
prefix_first front (After xs) h = le_trans (Bytes front) (Bytes xs) (After xs) (prefix_bytes front xs h) (prefix_above xs (Bytes xs) (starts_itself xs))
prefix_first front Above h = cc

-- the range of a prefix has the keys that begin with it, and no others
pub prefix_keys : (front : List ℕ) (key : Key) → has (prefix_range front) key ≡ begins_with front key
prefix_keys front key = by (key_le (Bytes front) key) (key_le key (After front)) (begins_with front key) (prefix_first front key) (prefix_above front key) (prefix_below front key)
  where
    by : (from up_to begins : Bool) → (begins ≡ true → from ≡ true) → (begins ≡ true → up_to ≡ true) → (begins ≡ false → from ≡ true → up_to ≡ false) → (from && up_to) ≡ begins
    by from up_to true f g h = λ i. f refl i && g refl i
    by false up_to false f g h = refl
    by true up_to false f g h = h refl refl
