-- A sweep asks for those that wait, one after another.
use Rattle.std.proofs.Common.{◌≡◌, ℕ, ◌<◌, ◌≤◌, List, [], ◌∷◌, map, Bool, true, false, ◌==◌, ◌||◌, nat_lt, if◌then◌else◌, Option, Some, None, length, nat_cmp, refl, sym, ap, subst, ◌∙◌, arith}
use Rattle.std.specs.List.{AllByRecursion, cons_option, fold}
use Rattle.std.specs.List.Sorted.{IsStrictlySortedBy}
use Rattle.std.proofs.lemmas.Bool.Decides.{nat_tests}
use Rattle.lt_ranges.specs.Numbers.{is_in}
use Rattle.lt_seq.specs.Table.{Setting}
use Rattle.lt_requests.specs.declared.wish.Wish.{Wish}
use Rattle.lt_requests.specs.Registered.{next_above}
use Rattle.lt_runner.specs.TurnView.{Turn}
use Rattle.lt_runner.specs.Plays.{next_wish}
use Rattle.lt_runner.specs.Serial.{Game, turn_of, is_waiting, wishes_in, retried}
use Rattle.lt_runner.specs.Board.{above}
use Rattle.lt_runner.proofs.ChoiceLaws.{on_true, on_false}
use Rattle.lt_runner.proofs.WishLaws.{wish_of, wish_of_number, IsPlaced}
use Rattle.lt_runner.proofs.WaitLaws.{AllOver, over_less, over_in, next_waits}

abbrev numbers : List Turn → List ℕ
numbers turns = map (λ turn. turn.txn) turns

-- Numbers above another.

pub all_above : (last n : ℕ) (ns : List ℕ) → last ≤ n → AllOver n ns → above last ns ≡ ns
all_above last n [] le all = refl
all_above last n (m ∷ ms) le all =
    let less = over_less n m all.0 in
    on_true (nat_lt last m) _ _ (let k : last < m = omega (arith, less) in grind (arith, nat_tests)) ∙ ap (λ (ks : List ℕ). m ∷ ks) (all_above last n ms le all.1)

above_less : (last n : ℕ) (ns : List ℕ) → last ≤ n → length (above n ns) ≤ length (above last ns)
above_less last n [] le = omega arith
above_less last n (m ∷ ms) le = by_tests (nat_lt n m) (nat_lt last m) refl refl (above_less last n ms le)
  where
    by_tests : (a b : Bool) → nat_lt n m ≡ a → nat_lt last m ≡ b → length (above n ms) ≤ length (above last ms) →
        length (if a then m ∷ above n ms else above n ms) ≤ length (if b then m ∷ above last ms else above last ms)
    by_tests true true e f rest = omega arith
    by_tests true false e f rest = absurd (let x : n < m = grind (arith, nat_tests) in let y : m ≤ last = grind (arith, nat_tests) in omega (arith, x, y))
    by_tests false true e f rest = omega arith
    by_tests false false e f rest = rest

-- fewer are left above a greater one of them
pub above_fewer : (last n : ℕ) (ns : List ℕ) → last < n → is_in n ns ≡ true → length (above n ns) < length (above last ns)
above_fewer last n [] less there = absurd (let k : false ≡ true = there in cc)
above_fewer last n (m ∷ ms) less there = by_number (m == n) refl there (above_fewer last n ms less)
  where
    by_tests : (a b : Bool) → nat_lt n m ≡ a → nat_lt last m ≡ b → length (above n ms) < length (above last ms) →
        length (if a then m ∷ above n ms else above n ms) < length (if b then m ∷ above last ms else above last ms)
    by_tests true true e f rest = omega arith
    by_tests true false e f rest = absurd (let x : n < m = grind (arith, nat_tests) in let y : m ≤ last = grind (arith, nat_tests) in omega (arith, x, y))
    by_tests false true e f rest = omega arith
    by_tests false false e f rest = rest

    here : (a b : Bool) → nat_lt n m ≡ a → nat_lt last m ≡ b → n ≡ m →
        length (if a then m ∷ above n ms else above n ms) < length (if b then m ∷ above last ms else above last ms)
    here true b e f same = absurd (let x : n < m = grind (arith, nat_tests) in omega (arith, x, same))
    here false true e f same = let k = above_less last n ms (omega arith) in omega arith
    here false false e f same = absurd (let y : m ≤ last = grind (arith, nat_tests) in omega (arith, y, same))

    by_number : (b : Bool) → (m == n) ≡ b → (b || is_in n ms) ≡ true → (is_in n ms ≡ true → length (above n ms) < length (above last ms)) →
        length (above n (m ∷ ms)) < length (above last (m ∷ ms))
    by_number true e h later = here (nat_lt n m) (nat_lt last m) refl refl (let same : m ≡ n = grind (arith, nat_tests) in sym same)
    by_number false e h later = by_tests (nat_lt n m) (nat_lt last m) refl refl (later h)

-- One that does not wait stays as it is.

pub retried_still : (setting : Setting) (game : Game) (txn : ℕ) → (turn_of setting txn game.turns).waits ≡ false →
    retried setting game txn ≡ game
retried_still setting game txn quiet = on_false (is_waiting (turn_of setting txn game.turns)) _ game quiet

skipped : (setting : Setting) (game : Game) (last n : ℕ) (ns : List ℕ) → (turn_of setting n game.turns).waits ≡ false →
    fold (retried setting) game (above last (n ∷ ns)) ≡ fold (retried setting) game (above last ns)
skipped setting game last n ns quiet = by_test (nat_lt last n)
  where
    by_test : (b : Bool) →
        fold (retried setting) game (if b then n ∷ above last ns else above last ns) ≡ fold (retried setting) game (above last ns)
    by_test true = ap (λ (g : Game). fold (retried setting) g (above last ns)) (retried_still setting game n quiet)
    by_test false = refl

quiet_at : (t : Turn) → (b : Bool) → t.waits ≡ b → wish_of t ≡ None → next_wish t.txn t.lines ≡ None → t.waits ≡ b
quiet_at t b e f g = e

-- a turn that waits has a lock line next
abbrev pub HasWish : Turn → Type 0
HasWish t = t.waits ≡ true → (w : Wish) × (next_wish t.txn t.lines ≡ Some w)

no_wish : (t : Turn) → HasWish t → wish_of t ≡ None → t.waits ≡ false
no_wish t has none = by_test t.waits refl none
  where
    by_test : (b : Bool) → t.waits ≡ b → (if b then next_wish t.txn t.lines else None) ≡ None → t.waits ≡ false
    by_test true e h = absurd (let some : None ≡ Some (has e).0 = sym h ∙ (has e).1 in cc)
    by_test false e h = e

above_on : (last n : ℕ) (ns : List ℕ) → n ≤ last → above last (n ∷ ns) ≡ above last ns
above_on last n ns le = on_false (nat_lt last n) _ _ (grind (arith, nat_tests))

-- the next one that waits is asked for next
pub sweep_on : (setting : Setting) (game : Game) (last txn : ℕ) (ts : List Turn) → IsStrictlySortedBy nat_cmp (numbers ts) →
    AllByRecursion (IsPlaced setting game.turns) ts →
    AllByRecursion HasWish ts → next_above last (wishes_in ts) ≡ Some txn →
    fold (retried setting) game (above last (numbers ts)) ≡ fold (retried setting) (retried setting game txn) (above txn (numbers ts))
unfolding IsStrictlySortedBy
sweep_on setting game last txn [] sorted placed wishes found = absurd cc
sweep_on setting game last txn (t ∷ ts) sorted placed wishes found = by_wish (wish_of t) refl found (sweep_on setting game last txn ts sorted.1 placed.1 wishes.1)
  where
    there : turn_of setting t.txn game.turns ≡ t
    there = placed.0.there

    later : next_above last (wishes_in ts) ≡ Some txn → above txn (numbers ts) ≡ above txn (t.txn ∷ numbers ts)
    later h =
        let less = over_in t.txn txn (numbers ts) sorted.0 (next_waits setting last txn ts sorted.1 h).number in
        sym (above_on txn t.txn (numbers ts) (omega arith))

    by_test : (b : Bool) (w : Wish) → nat_lt last w.txn ≡ b → wish_of t ≡ Some w →
        (if b then Some w.txn else next_above last (wishes_in ts)) ≡ Some txn →
        (next_above last (wishes_in ts) ≡ Some txn → fold (retried setting) game (above last (numbers ts)) ≡ fold (retried setting) (retried setting game txn) (above txn (numbers ts))) →
        fold (retried setting) game (above last (numbers (t ∷ ts))) ≡ fold (retried setting) (retried setting game txn) (above txn (numbers (t ∷ ts)))
    by_test true w e is h rest =
        let own = wish_of_number t w is in
        let same : w.txn ≡ txn = cc in
        let number : t.txn ≡ txn = sym own ∙ same in
        let less : last < w.txn = grind (arith, nat_tests) in
        let here : nat_lt last t.txn ≡ true = ap (nat_lt last) (sym own) ∙ e in
        let over = subst (λ (n : ℕ). AllOver n (numbers ts)) number sorted.0 in
        ap (fold (retried setting) game) (on_true (nat_lt last t.txn) (t.txn ∷ above last (numbers ts)) (above last (numbers ts)) here)
        ∙ ap (λ (n : ℕ). fold (retried setting) (retried setting game n) (above last (numbers ts))) number
        ∙ ap (fold (retried setting) (retried setting game txn)) (all_above last txn (numbers ts) (omega (arith, less, same)) over ∙ sym (all_above txn txn (numbers ts) (omega arith) over)
        ∙ sym (above_on txn t.txn (numbers ts) (omega (arith, number))))
    by_test false w e is h rest =
        let own = wish_of_number t w is in
        let le : t.txn ≤ last = (let k : w.txn ≤ last = grind (arith, nat_tests) in omega (arith, k, own)) in
        ap (fold (retried setting) game) (above_on last t.txn (numbers ts) le) ∙ rest h
        ∙ ap (fold (retried setting) (retried setting game txn)) (later h)

    by_wish : (o : Option Wish) → wish_of t ≡ o → next_above last (cons_option o (wishes_in ts)) ≡ Some txn →
        (next_above last (wishes_in ts) ≡ Some txn → fold (retried setting) game (above last (numbers ts)) ≡ fold (retried setting) (retried setting game txn) (above txn (numbers ts))) →
        fold (retried setting) game (above last (numbers (t ∷ ts))) ≡ fold (retried setting) (retried setting game txn) (above txn (numbers (t ∷ ts)))
    by_wish None is h rest =
        skipped setting game last t.txn (numbers ts) (ap (λ (u : Turn). u.waits) there ∙ no_wish t wishes.0 is) ∙ rest h
        ∙ ap (fold (retried setting) (retried setting game txn)) (later h)
    by_wish (Some w) is h rest = by_test (nat_lt last w.txn) w refl is h rest

-- and where none is left above the last, the sweep is over
pub sweep_over : (setting : Setting) (game : Game) (last : ℕ) (ts : List Turn) → AllByRecursion (IsPlaced setting game.turns) ts →
    AllByRecursion HasWish ts →
    next_above last (wishes_in ts) ≡ None → fold (retried setting) game (above last (numbers ts)) ≡ game
sweep_over setting game last [] placed wishes none = refl
sweep_over setting game last (t ∷ ts) placed wishes none = by_wish (wish_of t) refl none (sweep_over setting game last ts placed.1 wishes.1)
  where
    by_test : (b : Bool) (w : Wish) → nat_lt last w.txn ≡ b → wish_of t ≡ Some w →
        (if b then Some w.txn else next_above last (wishes_in ts)) ≡ None →
        (next_above last (wishes_in ts) ≡ None → fold (retried setting) game (above last (numbers ts)) ≡ game) → fold (retried setting) game (above last (numbers (t ∷ ts))) ≡ game
    by_test true w e is h rest = absurd cc
    by_test false w e is h rest =
        let own = wish_of_number t w is in
        let le : t.txn ≤ last = (let k : w.txn ≤ last = grind (arith, nat_tests) in omega (arith, k, own)) in
        ap (fold (retried setting) game) (above_on last t.txn (numbers ts) le) ∙ rest h

    by_wish : (o : Option Wish) → wish_of t ≡ o → next_above last (cons_option o (wishes_in ts)) ≡ None →
        (next_above last (wishes_in ts) ≡ None → fold (retried setting) game (above last (numbers ts)) ≡ game) → fold (retried setting) game (above last (numbers (t ∷ ts))) ≡ game
    by_wish None is h rest = skipped setting game last t.txn (numbers ts) (ap (λ (u : Turn). u.waits) placed.0.there ∙ no_wish t wishes.0 is) ∙ rest h
    by_wish (Some w) is h rest = by_test (nat_lt last w.txn) w refl is h rest
