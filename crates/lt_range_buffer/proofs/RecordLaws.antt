-- Records read back.
use Rattle.std.proofs.Common.{◌≡◌, ℕ, zero, suc, ◌+◌, ◌-◌, ◌≤◌, ◌<◌, List, [], ◌∷◌, ◌++◌, length, take, drop, Bool, true, false, cond, eqb, leb, All, refl, sym, ap, subst, ◌∙◌, arith, append_assoc, append-nil, length-append, Result, Ok, Err, Ordering, Less, Equal, Greater}
use Rattle.std.specs.List.{flat_map}
use Rattle.std.specs.Prelude.{OnOk}
use Rattle.std.specs.Ordering.{eq_by_cmp, is_eq}
use Rattle.std.proofs.Math.Seq.{take-append_seam, drop-append_seam}
use Rattle.std.proofs.lemmas.Bool.Decides.{nat_tests}
use Rattle.std.proofs.lemmas.List.Elements.{All-head, All-tail, All-nil, All-cons, All-push}
use Rattle.std.proofs.lemmas.List.Concat.{flat_map-append}
use Rattle.lt_ranges.specs.declared.key.Key.{Key}
use Rattle.lt_ranges.specs.declared.key.Key.TheVariants.{Below, Bytes, After, Above}
use Rattle.lt_ranges.specs.Key.{key_cmp}
use Rattle.lt_ranges.proofs.KeyLaws.{tied}
use Rattle.lt_ranges.specs.Interval.{Interval, IsInterval}
use Rattle.lt_range_buffer.specs.Records.{own_bytes, code_of, key_record, range_record, bytes_of, IsKey, IsRange, own_len, key_of, first_key, behind_key, first_range, behind_range, ranges_in, AreRecords, HasKey, HasRange}

-- a record at the front of the bytes
record KeyAhead (key : Key) (tail bytes : List ℕ) : Type 0 where
  has : HasKey bytes
  first : first_key bytes ≡ key
  behind : behind_key bytes ≡ tail

key_ahead : (code : ℕ) (own tail : List ℕ) (key : Key) → own_len code ≡ length own → key_of code own ≡ key → length own ≤ 63 → KeyAhead key tail (code ∷ (own ++ tail))
key_ahead code own tail key len is short =
    let fits : own_len code + 1 ≤ length (code ∷ (own ++ tail)) = omega (arith, len, length-append own tail) in
    record {
      has = record { some = omega arith; short = omega (arith, len, short); room = fits };
      first = ap (key_of code) (ap (λ n. take n (own ++ tail)) len ∙ take-append_seam own tail) ∙ is;
      behind = ap (λ n. drop n (own ++ tail)) len ∙ drop-append_seam own tail;
    }

len_of_bytes : (n : ℕ) → n ≤ 63 → own_len (n + 1) ≡ n
len_of_bytes n short = grind (arith, nat_tests)

len_of_after : (n : ℕ) → n ≤ 63 → own_len (254 - n) ≡ n
len_of_after n short = grind (arith, nat_tests)

is_bytes : (n : ℕ) (own : List ℕ) → n ≤ 63 → key_of (n + 1) own ≡ Bytes own
is_bytes n own short = grind (arith, nat_tests)

is_after : (n : ℕ) (own : List ℕ) → n ≤ 63 → key_of (254 - n) own ≡ After own
is_after n own short = grind (arith, nat_tests)

key_back : (key : Key) → IsKey key → (tail : List ℕ) → KeyAhead key tail (key_record key ++ tail)
key_back Below is tail = key_ahead 0 [] tail Below refl refl (omega arith)
key_back (Bytes own) is tail = key_ahead (length own + 1) own tail (Bytes own) (len_of_bytes (length own) is.0) (is_bytes (length own) own is.0) is.0
key_back (After own) is tail = key_ahead (254 - length own) own tail (After own) (len_of_after (length own) is.0) (is_after (length own) own is.0) is.0
key_back Above is tail = key_ahead 255 [] tail Above refl refl (omega arith)

-- a range's record at the front of the bytes
pub record RangeAhead (range : Interval) (tail bytes : List ℕ) : Type 0 where
  pub has : HasRange bytes
  pub first : first_range bytes ≡ range
  pub behind : behind_range bytes ≡ tail

point_ahead : (key : Key) → IsKey key → IsInterval (record { left = key; right = key }) → (tail : List ℕ) → RangeAhead (record { left = key; right = key }) tail (1 ∷ (key_record key ++ tail))
point_ahead key is ordered tail =
    let at = key_back key is tail in
    record {
      has = record { some = omega arith; left = at.has; right = λ no. absurd (no refl); ordered = subst (λ k. IsInterval (record { left = k; right = k })) (sym at.first) ordered };
      first = ap (λ k. record { left = k; right = k }) at.first;
      behind = at.behind;
    }

both_ahead : (left right : Key) → IsKey left → IsKey right → IsInterval (record { left = left; right = right }) → (tail : List ℕ) → RangeAhead (record { left = left; right = right }) tail (2 ∷ (key_record left ++ (key_record right ++ tail)))
both_ahead left right is_left is_right ordered tail =
    let one = key_back left is_left (key_record right ++ tail) in
    let two = key_back right is_right tail in
    let second : first_key (behind_key (key_record left ++ (key_record right ++ tail))) ≡ right = ap first_key one.behind ∙ two.first in
    record {
      has = record {
        some = omega arith;
        left = one.has;
        right = λ no. subst HasKey (sym one.behind) two.has;
        ordered = subst (λ k. IsInterval (record { left = k; right = first_key (behind_key (key_record left ++ (key_record right ++ tail))) })) (sym one.first) (subst (λ k. IsInterval (record { left = left; right = k })) (sym second) ordered);
      };
      first = ap (λ k. record { left = k; right = first_key (behind_key (key_record left ++ (key_record right ++ tail))) }) one.first ∙ ap (λ k. record { left = left; right = k }) second;
      behind = ap behind_key one.behind ∙ two.behind;
    }

is_equal : (o : Ordering) → is_eq o ≡ true → o ≡ Equal
is_equal Less e = cc
is_equal Equal e = refl
is_equal Greater e = cc

-- a range's record read back, whatever stands behind it
pub range_back : (range : Interval) → IsRange range → (tail : List ℕ) → RangeAhead range tail (range_record range ++ tail)
range_back range is tail = by_test (eq_by_cmp key_cmp range.left range.right) refl
  where
    by_test : (b : Bool) → eq_by_cmp key_cmp range.left range.right ≡ b → RangeAhead range tail (cond b (1 ∷ key_record range.left) ((2 ∷ key_record range.left) ++ key_record range.right) ++ tail)
    by_test true e =
        let same : range.left ≡ range.right = tied range.left range.right (is_equal (key_cmp range.left range.right) e) in
        let whole : record { left = range.left; right = range.left } ≡ range = ap (λ k. record { left = range.left; right = k }) same in
        subst (λ r. RangeAhead r tail (1 ∷ (key_record range.left ++ tail))) whole
        (point_ahead range.left is.1 (subst (λ k. IsInterval (record { left = range.left; right = k })) (sym same) is.0) tail)
    by_test false e =
        subst (λ bytes. RangeAhead range tail bytes) (sym (append_assoc (2 ∷ key_record range.left) (key_record range.right) tail))
        (both_ahead range.left range.right is.1 is.2 is.0 tail)

-- all records read back
pub ranges_back : (ranges : List Interval) → All IsRange ranges → ranges_in (length ranges) (bytes_of ranges) ≡ ranges
ranges_back [] each = refl
ranges_back (range ∷ ranges) each =
    let ahead = range_back range (All-head IsRange range ranges each) (bytes_of ranges) in
    ap (λ r. r ∷ ranges_in (length ranges) (behind_range (range_record range ++ bytes_of ranges))) ahead.first
    ∙ ap (λ b. range ∷ ranges_in (length ranges) b) ahead.behind
    ∙ ap (λ rs. range ∷ rs) (ranges_back ranges (All-tail IsRange range ranges each))

pub count_is : (count : ℕ) (bytes : List ℕ) → length (ranges_in count bytes) ≡ count
count_is zero bytes = refl
count_is (suc n) bytes = ap suc (count_is n (behind_range bytes))

one_long : (range : Interval) → 1 ≤ length (range_record range)
one_long range = by_test (eq_by_cmp key_cmp range.left range.right)
  where
    by_test : (b : Bool) → 1 ≤ length (cond b (1 ∷ key_record range.left) ((2 ∷ key_record range.left) ++ key_record range.right))
    by_test true = omega arith
    by_test false = omega arith

count_least : (ranges : List Interval) → length ranges ≤ length (bytes_of ranges)
count_least [] = omega arith
count_least (range ∷ ranges) = omega (arith, count_least ranges, one_long range, length-append (range_record range) (bytes_of ranges))

-- each record has a byte or more
pub count_below : (count : ℕ) (bytes : List ℕ) → AreRecords count bytes → count ≤ length bytes
count_below count bytes recorded = omega (arith, count_is count bytes, count_least (ranges_in count bytes), ap length recorded.are)

pub no_records : AreRecords 0 []
no_records = record { are = refl; each = All-nil IsRange }

pub are_of : (ranges : List Interval) → All IsRange ranges → AreRecords (length ranges) (bytes_of ranges)
are_of ranges each = record {
  are = ap bytes_of (sym (ranges_back ranges each));
  each = subst (λ l. All IsRange l) (sym (ranges_back ranges each)) each;
}

more_bytes : (ranges : List Interval) (range : Interval) → bytes_of (ranges ++ range ∷ []) ≡ bytes_of ranges ++ range_record range
more_bytes ranges range = flat_map-append range_record ranges (range ∷ []) ∙ ap (λ l. bytes_of ranges ++ l) (append-nil (range_record range))

-- one record more
pub record More (count : ℕ) (bytes : List ℕ) (range : Interval) : Type 0 where
  pub are : AreRecords (count + 1) (bytes ++ range_record range)
  pub ranges : ranges_in (count + 1) (bytes ++ range_record range) ≡ ranges_in count bytes ++ range ∷ []

pub more : (count : ℕ) (bytes : List ℕ) (range : Interval) → AreRecords count bytes → IsRange range → More count bytes range
more count bytes range recorded is =
    let ranges = ranges_in count bytes in
    let all = All-push IsRange ranges range recorded.each is in
    let long : length (ranges ++ range ∷ []) ≡ count + 1 = omega (arith, length-append ranges (range ∷ []), count_is count bytes) in
    let same : bytes_of (ranges ++ range ∷ []) ≡ bytes ++ range_record range = more_bytes ranges range ∙ ap (λ b. b ++ range_record range) (sym recorded.are) in
    record {
      are = subst (λ n. AreRecords n (bytes ++ range_record range)) long (subst (λ b. AreRecords (length (ranges ++ range ∷ [])) b) same (are_of (ranges ++ range ∷ []) all));
      ranges = subst (λ n. ranges_in n (bytes ++ range_record range) ≡ ranges ++ range ∷ []) long (subst (λ b. ranges_in (length (ranges ++ range ∷ [])) b ≡ ranges ++ range ∷ []) same (ranges_back (ranges ++ range ∷ []) all));
    }

-- the first of the records
pub record FirstOf (count : ℕ) (bytes : List ℕ) : Type 0 where
  pub has : HasRange bytes
  pub rest : AreRecords count (behind_range bytes)

pub first_of : (count : ℕ) (bytes : List ℕ) → AreRecords (suc count) bytes → FirstOf count bytes
first_of count bytes recorded =
    let range = first_range bytes in
    let behind = ranges_in count (behind_range bytes) in
    let each = All-tail IsRange range behind recorded.each in
    let ahead = range_back range (All-head IsRange range behind recorded.each) (bytes_of behind) in
    let at : behind_range bytes ≡ bytes_of behind = ap behind_range recorded.are ∙ ahead.behind in
    record {
      has = subst HasRange (sym recorded.are) ahead.has;
      rest = record { are = at; each = each };
    }

-- the same at a count that is above 0
pub first_below : (count : ℕ) (bytes : List ℕ) → AreRecords count bytes → (count ≡ 0 → ⊥) → FirstOf (count - 1) bytes
first_below zero bytes recorded some = absurd (some refl)
first_below (suc n) bytes recorded some = subst (λ m. FirstOf m bytes) (let e : n ≡ suc n - 1 = omega arith in e) (first_of n bytes recorded)

pub split_first : (count : ℕ) (bytes : List ℕ) → (count ≡ 0 → ⊥) → ranges_in count bytes ≡ first_range bytes ∷ ranges_in (count - 1) (behind_range bytes)
split_first zero bytes some = absurd (some refl)
split_first (suc n) bytes some = ap (λ m. first_range bytes ∷ ranges_in m (behind_range bytes)) (let e : n ≡ suc n - 1 = omega arith in e)

pub always_ok : {V E : Type 0} (r : Result V E) (P : Type 0) → P → OnOk r P
always_ok (Ok v) P h = h
always_ok (Err e) P h = tt

-- the ends of a point are one key
pub point_is : (range : Interval) → eq_by_cmp key_cmp range.left range.right ≡ true → IsInterval range → IsKey range.left → IsRange range
point_is range same ordered key = (ordered, key, subst IsKey (tied range.left range.right (is_equal (key_cmp range.left range.right) same)) key)
