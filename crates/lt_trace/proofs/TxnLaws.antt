-- Numbers in ascending order, each once, and the transactions of some lines.
use Rattle.std.proofs.Common.{◌≡◌, ℕ, suc, ◌+◌, ◌<◌, ◌≤◌, List, [], ◌∷◌, ◌++◌, ◌||◌, ◌&&◌, Bool, true, false, not, cond, eqb, ltb, nat_le, fold, map, length, sym, ap, ◌∙◌, refl, arith}
use Rattle.std.specs.List.{AllByRecursion}
use Rattle.std.proofs.lemmas.Bool.{eqb-true, eqb-false, eq-eqb}
use Rattle.std.proofs.lemmas.Bool.Decides.{nat_tests}
use Rattle.std.proofs.lemmas.List.{map_push}
use Rattle.std.proofs.lemmas.List.Sums.{fold-append}
use Rattle.lt_ranges.specs.Numbers.{is_in, with_number, ascending}
use Rattle.lt_trace.specs.declared.line.Line.{Line}
use Rattle.lt_trace.specs.Grammar.{most_txns, has_begun, txns_of}

-- each number is less than those behind it
abbrev IsUp : List ℕ → Type 0
IsUp [] = Unit {0}
IsUp (n ∷ ns) = AllByRecursion (λ m. n < m) ns × IsUp ns

chosen : (P : List ℕ → Type 0) (b : Bool) (xs ys : List ℕ) → (b ≡ true → P xs) → (b ≡ false → P ys) → P (cond b xs ys)
chosen P true xs ys x y = x refl
chosen P false xs ys x y = y refl

all_above : (a b : ℕ) (ns : List ℕ) → a < b → AllByRecursion (λ m. b < m) ns → AllByRecursion (λ m. a < m) ns
all_above a b [] h all = tt
all_above a b (n ∷ ns) h all = (omega (arith, all.0), all_above a b ns h all.1)

above_with : (a n : ℕ) (ns : List ℕ) → a < n → AllByRecursion (λ m. a < m) ns → AllByRecursion (λ m. a < m) (with_number n ns)
above_with a n [] h all = (h, tt)
above_with a n (m ∷ ms) h all =
    chosen (AllByRecursion (λ m. a < m)) (ltb n m) (n ∷ m ∷ ms) (cond (eqb n m) (m ∷ ms) (m ∷ with_number n ms))
    (λ _. (h, all))
    (λ _. chosen (AllByRecursion (λ m. a < m)) (eqb n m) (m ∷ ms) (m ∷ with_number n ms) (λ _. all) (λ _. (all.0, above_with a n ms h all.1)))

up_with : (n : ℕ) (ns : List ℕ) → IsUp ns → IsUp (with_number n ns)
up_with n [] up = (tt, tt)
up_with n (m ∷ ms) up =
    let rest = up_with n ms up.1 in
    chosen IsUp (ltb n m) (n ∷ m ∷ ms) (cond (eqb n m) (m ∷ ms) (m ∷ with_number n ms))
    (λ below. let h : n < m = grind (arith, nat_tests) in ((h, all_above n m ms h up.0), up))
    (λ not_below. chosen IsUp (eqb n m) (m ∷ ms) (m ∷ with_number n ms) (λ _. up)
    (λ other. let h : m < n = grind (arith, nat_tests) in (above_with m n ms h up.0, rest)))

or_swap : (a b c : Bool) → (a || (b || c)) ≡ (b || (a || c))
or_swap true true c = refl
or_swap true false c = refl
or_swap false true c = refl
or_swap false false c = refl

or_absorbs : (a c : Bool) → (a || (a || c)) ≡ (a || c)
or_absorbs true c = refl
or_absorbs false c = refl

or-false : (a : Bool) → (a || false) ≡ a
or-false true = refl
or-false false = refl

or_moves : (a b c : Bool) → ((a || b) || c) ≡ (b || (a || c))
or_moves true true c = refl
or_moves true false c = refl
or_moves false true c = refl
or_moves false false c = refl

eqb-other : (a b : ℕ) → (a ≡ b → ⊥) → eqb a b ≡ false
eqb-other a b differ = grind (arith, nat_tests)

-- which numbers stand in the list then
is_in_with : (q n : ℕ) (ns : List ℕ) → is_in q (with_number n ns) ≡ (eqb n q || is_in q ns)
is_in_with q n [] = refl
is_in_with q n (m ∷ ms) =
    by_case (ltb n m) (eqb n m) (λ same. ap (λ k. eqb k q) (eqb-true n m same)) (is_in_with q n ms)
  where
    by_case : (below same : Bool) → (same ≡ true → eqb n q ≡ eqb m q) → is_in q (with_number n ms) ≡ (eqb n q || is_in q ms) → is_in q (cond below (n ∷ m ∷ ms) (cond same (m ∷ ms) (m ∷ with_number n ms))) ≡ (eqb n q || (eqb m q || is_in q ms))
    by_case true same equal rest = refl
    by_case false true equal rest = rw (equal refl) (sym (or_absorbs (eqb m q) (is_in q ms)))
    by_case false false equal rest = ap (λ b. eqb m q || b) rest ∙ or_swap (eqb m q) (eqb n q) (is_in q ms)

none_below : (n : ℕ) (ns : List ℕ) → AllByRecursion (λ m. n < m) ns → is_in n ns ≡ false
none_below n [] all = refl
none_below n (m ∷ ms) all =
    let other : eqb m n ≡ false = let h = all.0 in grind (arith, nat_tests) in
    rw (other, none_below n ms all.1)

-- how many stand there then
length_with : (n : ℕ) (ns : List ℕ) → IsUp ns → length (with_number n ns) ≡ length ns + cond (is_in n ns) 0 1
length_with n [] up = refl
length_with n (m ∷ ms) up =
    by_case (ltb n m) (eqb n m)
    (λ below. let h : n < m = grind (arith, nat_tests) in none_below n (m ∷ ms) (h, all_above n m ms h up.0))
    (λ same. sym (eq-eqb m n (sym (eqb-true n m same))))
    (λ apart. eqb-other m n (λ same. eqb-false n m apart (sym same)))
    (length_with n ms up.1)
  where
    by_case : (below same : Bool) → (below ≡ true → (eqb m n || is_in n ms) ≡ false) → (same ≡ true → true ≡ eqb m n) → (same ≡ false → eqb m n ≡ false) → length (with_number n ms) ≡ length ms + cond (is_in n ms) 0 1
        → length (cond below (n ∷ m ∷ ms) (cond same (m ∷ ms) (m ∷ with_number n ms))) ≡ suc (length ms) + cond (eqb m n || is_in n ms) 0 1
    by_case true same none equal apart rest = rw (none refl) (omega arith)
    by_case false true none equal apart rest = rw (← (equal refl)) (omega arith)
    by_case false false none equal apart rest = rw (apart refl) (omega arith)

-- the transactions of some lines, and of one line more
up_fold : (ns ms : List ℕ) → IsUp ns → IsUp (fold (λ list n. with_number n list) ns ms)
up_fold ns [] up = up
up_fold ns (m ∷ ms) up = up_fold (with_number m ns) ms (up_with m ns up)

is_in_fold : (q : ℕ) (ns ms : List ℕ) → is_in q (fold (λ list n. with_number n list) ns ms) ≡ (is_in q ns || is_in q ms)
is_in_fold q ns [] = sym (or-false (is_in q ns))
is_in_fold q ns (m ∷ ms) = is_in_fold q (with_number m ns) ms ∙ ap (λ b. b || is_in q ms) (is_in_with q m ns) ∙ or_moves (eqb m q) (is_in q ns) (is_in q ms)

txns_push : (lines : List Line) (line : Line) → txns_of (lines ++ line ∷ []) ≡ with_number line.txn (txns_of lines)
txns_push lines line = ap ascending (map_push (λ (l : Line). l.txn) lines line) ∙ fold-append (λ list n. with_number n list) [] (map (λ (l : Line). l.txn) lines) (line.txn ∷ [])

begun_is : (txn : ℕ) (lines : List Line) → is_in txn (map (λ (l : Line). l.txn) lines) ≡ has_begun txn lines
begun_is txn [] = refl
begun_is txn (line ∷ lines) = ap (λ b. eqb line.txn txn || b) (begun_is txn lines)

-- a line adds its transaction, unless it is there
pub txns_more : (lines : List Line) (line : Line) → length (txns_of (lines ++ line ∷ [])) ≡ length (txns_of lines) + cond (has_begun line.txn lines) 0 1
txns_more lines line =
    let ns = map (λ (l : Line). l.txn) lines in
    let there : is_in line.txn (txns_of lines) ≡ has_begun line.txn lines = is_in_fold line.txn [] ns ∙ begun_is line.txn lines in
    ap (length {A = ℕ}) (txns_push lines line) ∙ length_with line.txn (txns_of lines) (up_fold [] ns tt) ∙ ap (λ b. length (txns_of lines) + cond b 0 1) there

-- transactions up to a number are at most so many
abbrev pub IsUpTo : ℕ → Line → Type 0
IsUpTo most line = (1 ≤ line.txn) × (line.txn ≤ most)

abbrev IsWithin : ℕ → ℕ → ℕ → Type 0
IsWithin low most n = (low ≤ n) × (n ≤ most)

raised : (low most n : ℕ) (ns : List ℕ) → AllByRecursion (λ m. n < m) ns → AllByRecursion (IsWithin low most) ns → AllByRecursion (IsWithin (n + 1) most) ns
raised low most n [] up all = tt
raised low most n (m ∷ ms) up all = let above = up.0 in let below = all.0.1 in ((omega arith, below), raised low most n ms up.1 all.1)

up_length : (low most : ℕ) (ns : List ℕ) → low ≤ most + 1 → IsUp ns → AllByRecursion (IsWithin low most) ns → length ns + low ≤ most + 1
up_length low most [] room up all = omega arith
up_length low most (n ∷ ns) room up all =
    let from = all.0.0 in
    let up_to = all.0.1 in
    let rest = up_length (n + 1) most ns (omega arith) up.1 (raised low most n ns up.0 all.1) in
    omega arith

all_with : (P : ℕ → Type 0) (n : ℕ) (ns : List ℕ) → P n → AllByRecursion P ns → AllByRecursion P (with_number n ns)
all_with P n [] one all = (one, tt)
all_with P n (m ∷ ms) one all =
    chosen (AllByRecursion P) (ltb n m) (n ∷ m ∷ ms) (cond (eqb n m) (m ∷ ms) (m ∷ with_number n ms))
    (λ _. (one, all))
    (λ _. chosen (AllByRecursion P) (eqb n m) (m ∷ ms) (m ∷ with_number n ms) (λ _. all) (λ _. (all.0, all_with P n ms one all.1)))

all_fold : (P : ℕ → Type 0) (ns ms : List ℕ) → AllByRecursion P ns → AllByRecursion P ms → AllByRecursion P (fold (λ list n. with_number n list) ns ms)
all_fold P ns [] all more = all
all_fold P ns (m ∷ ms) all more = all_fold P (with_number m ns) ms (all_with P m ns more.0 all) more.1

txns_within : (most : ℕ) (lines : List Line) → AllByRecursion (IsUpTo most) lines → AllByRecursion (IsWithin 1 most) (map (λ (l : Line). l.txn) lines)
txns_within most [] all = tt
txns_within most (line ∷ lines) all = (all.0, txns_within most lines all.1)

few_txns : (most : ℕ) (lines : List Line) → AllByRecursion (IsUpTo most) lines → length (txns_of lines) ≤ most
few_txns most lines all =
    let ns = map (λ (l : Line). l.txn) lines in
    let bound = up_length 1 most (txns_of lines) (omega arith) (up_fold [] ns tt) (all_fold (IsWithin 1 most) [] ns tt (txns_within most lines all)) in
    omega arith

pub all_more : (P : Line → Type 0) (lines : List Line) (line : Line) → AllByRecursion P lines → P line → AllByRecursion P (lines ++ line ∷ [])
all_more P [] line all one = (one, tt)
all_more P (l ∷ ls) line all one = (all.0, all_more P ls line all.1 one)

-- and so a line of one of them begins no transaction too many
pub has_room : (most : ℕ) (lines : List Line) (line : Line) → most ≤ most_txns → AllByRecursion (IsUpTo most) lines → IsUpTo most line
    → (not (has_begun line.txn lines) && nat_le most_txns (length (txns_of lines))) ≡ false
has_room most lines line few all one =
    let bound = few_txns most (lines ++ line ∷ []) (all_more (IsUpTo most) lines line all one) in
    by_case (has_begun line.txn lines) (length (txns_of lines)) (omega (arith, txns_more lines line))
  where
    by_case : (begun : Bool) (n : ℕ) → n + cond begun 0 1 ≤ most_txns → (not begun && nat_le most_txns n) ≡ false
    by_case true n bound = refl
    by_case false n bound = grind (arith, nat_tests)
