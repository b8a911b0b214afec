-- The wishes of those that wait.
use Rattle.std.proofs.Common.{◌≡◌, ◌≢◌, ℕ, ◌<◌, List, [], ◌∷◌, ◌++◌, map, Bool, true, false, ◌==◌, ◌||◌, if◌then◌else◌, Option, Some, None, nat_cmp, refl, sym, ap, subst, ◌∙◌, arith}
use Rattle.std.proofs.Common.{append-nil, append_assoc, eq-eqb, nat_lt}
use Rattle.std.specs.List.{AllByRecursion, cons_option, fold}
use Rattle.std.specs.List.Sorted.{IsStrictlySortedBy}
use Rattle.std.specs.declared.cmp.Ordering.TheVariants.{Less}
use Rattle.std.proofs.lemmas.Bool.Decides.{nat_tests}
use Rattle.std.proofs.lemmas.Cmp.{ranked}
use Rattle.lt_ranges.specs.Numbers.{is_in, with_number, ascending}
use Rattle.lt_seq.specs.Table.{Setting}
use Rattle.lt_trace.specs.declared.line.Line.{Line}
use Rattle.lt_trace.specs.declared.line.LineDeed.{LineDeed}
use Rattle.lt_trace.specs.declared.line.LineDeed.TheVariants.{Try, Lock, End, Abort, Escalate, Big}
use Rattle.lt_requests.specs.declared.wish.Wish.{Wish}
use Rattle.lt_runner.specs.TurnView.{Turn}
use Rattle.lt_runner.specs.Plays.{wish_for, next_wish, wish_in, AreWishes}
use Rattle.lt_runner.specs.Serial.{turn_of, with_turn, is_waiting, wishes_in}
use Rattle.lt_runner.specs.Steps.{IsFitDeed, IsFitLine}
use Rattle.lt_runner.proofs.ChoiceLaws.{on_true, on_false}
use Rattle.lt_runner.proofs.SteadyLaws.{turn_of_with, turn_of_other, numbers_with}
use Rattle.lt_runner.proofs.SearchedLaws.{IsFitWish}

abbrev numbers : List Turn → List ℕ
numbers turns = map (λ turn. turn.txn) turns

-- what it waits for
abbrev pub wish_of : Turn → Option Wish
wish_of turn = if is_waiting turn then next_wish turn.txn turn.lines else None

-- Turns by their numbers.

abbrev AllAbove : ℕ → List ℕ → Type 0
AllAbove n ns = AllByRecursion (λ m. nat_cmp n m ≡ Less) ns

above_not : (n m : ℕ) (ns : List ℕ) → AllAbove n ns → m ≡ n → is_in m ns ≡ false
above_not n m [] above same = refl
above_not n m (k ∷ ks) above same = by_test (k == m) refl (above_not n m ks above.1 same)
  where
    by_test : (b : Bool) → (k == m) ≡ b → is_in m ks ≡ false → (b || is_in m ks) ≡ false
    by_test true e rest = absurd (let less : n < k = ranked n k _ (sym above.0) in let is : k ≡ m = grind (arith, nat_tests) in omega (arith, less, is, same))
    by_test false e rest = rest

above_there : (n m : ℕ) (ns : List ℕ) → AllAbove n ns → is_in m ns ≡ true → (n == m) ≡ false
above_there n m ns above there = by_test (n == m) refl
  where
    by_test : (b : Bool) → (n == m) ≡ b → (n == m) ≡ false
    by_test true e = absurd (let same : n ≡ m = grind (arith, nat_tests) in let k : false ≡ true = sym (above_not n m ns above (sym same)) ∙ there in cc)
    by_test false e = e

pub record IsPlaced (setting : Setting) (turns : List Turn) (turn : Turn) : Type 0 where
  pub number : is_in turn.txn (numbers turns) ≡ true
  pub there : turn_of setting turn.txn turns ≡ turn

placed_later : (setting : Setting) (t : Turn) (turns us : List Turn) → AllAbove t.txn (numbers turns) → AllByRecursion (IsPlaced setting turns) us → AllByRecursion (IsPlaced setting (t ∷ turns)) us
placed_later setting t turns [] above all = tt
placed_later setting t turns (u ∷ us) above all = (
  record {
    number = by_test (t.txn == u.txn) all.0.number;
    there = on_false (t.txn == u.txn) t _ (above_there t.txn u.txn (numbers turns) above all.0.number) ∙ all.0.there;
  },
  placed_later setting t turns us above all.1,
)
  where
    by_test : (b : Bool) → is_in u.txn (numbers turns) ≡ true → (b || is_in u.txn (numbers turns)) ≡ true
    by_test true e = refl
    by_test false e = e

-- each turn is where its number is
pub all_placed : (setting : Setting) (turns : List Turn) → IsStrictlySortedBy nat_cmp (numbers turns) → AllByRecursion (IsPlaced setting turns) turns
unfolding IsStrictlySortedBy
all_placed setting [] sorted = tt
all_placed setting (t ∷ ts) sorted = (
  record { number = by_test (t.txn == t.txn) (eq-eqb t.txn t.txn refl); there = on_true (t.txn == t.txn) t _ (eq-eqb t.txn t.txn refl) },
  placed_later setting t ts ts sorted.0 (all_placed setting ts sorted.1),
)
  where
    by_test : (b : Bool) → b ≡ true → (b || is_in t.txn (numbers ts)) ≡ true
    by_test true e = refl
    by_test false e = cc

-- Wishes of turns.

wish_number : (txn : ℕ) (lines : List Line) (w : Wish) → next_wish txn lines ≡ Some w → w.txn ≡ txn
wish_number txn [] w e = absurd cc
wish_number txn (line ∷ lines) w e = by_deed line.deed e
  where
    by_deed : (deed : LineDeed) → wish_for txn deed ≡ Some w → w.txn ≡ txn
    by_deed (Try tree range) h = absurd cc
    by_deed (Lock tree range) h = let own : record { txn = txn; tree = tree; range = range } ≡ w = cc in sym (ap (λ (x : Wish). x.txn) own)
    by_deed End h = absurd cc
    by_deed Abort h = absurd cc
    by_deed (Escalate tree) h = absurd cc
    by_deed Big h = absurd cc

pub wish_of_number : (turn : Turn) (w : Wish) → wish_of turn ≡ Some w → w.txn ≡ turn.txn
wish_of_number turn w e = by_test turn.waits e
  where
    by_test : (b : Bool) → (if b then next_wish turn.txn turn.lines else None) ≡ Some w → w.txn ≡ turn.txn
    by_test true h = wish_number turn.txn turn.lines w h
    by_test false h = absurd cc

absent : (txn : ℕ) (turns : List Turn) → is_in txn (numbers turns) ≡ false → wish_in txn (wishes_in turns) ≡ None
absent txn [] none = refl
absent txn (t ∷ ts) none = by_wish (wish_of t) refl (t.txn == txn) refl none (absent txn ts)
  where
    by_wish : (o : Option Wish) → wish_of t ≡ o → (b : Bool) → (t.txn == txn) ≡ b → (b || is_in txn (numbers ts)) ≡ false → (is_in txn (numbers ts) ≡ false → wish_in txn (wishes_in ts) ≡ None) →
        wish_in txn (cons_option o (wishes_in ts)) ≡ None
    by_wish o e true h out later = absurd cc
    by_wish None e false h out later = later out
    by_wish (Some w) e false h out later =
        on_false (w.txn == txn) (Some w) _ (ap (λ (n : ℕ). n == txn) (wish_of_number t w e) ∙ h) ∙ later out

-- one that is there has its own
pub wish_there : (setting : Setting) (txn : ℕ) (turns : List Turn) → IsStrictlySortedBy nat_cmp (numbers turns) → is_in txn (numbers turns) ≡ true →
    wish_in txn (wishes_in turns) ≡ wish_of (turn_of setting txn turns)
unfolding IsStrictlySortedBy
wish_there setting txn [] sorted there = absurd cc
wish_there setting txn (t ∷ ts) sorted there = by_wish (wish_of t) refl (t.txn == txn) refl there (wish_there setting txn ts sorted.1)
  where
    by_wish : (o : Option Wish) → wish_of t ≡ o → (b : Bool) → (t.txn == txn) ≡ b → (b || is_in txn (numbers ts)) ≡ true →
        (is_in txn (numbers ts) ≡ true → wish_in txn (wishes_in ts) ≡ wish_of (turn_of setting txn ts)) →
        wish_in txn (cons_option o (wishes_in ts)) ≡ wish_of (if b then t else turn_of setting txn ts)
    by_wish None e true h yes_in later =
        absent txn ts (above_not t.txn txn (numbers ts) sorted.0 (let same : t.txn ≡ txn = grind (arith, nat_tests) in sym same)) ∙ sym e
    by_wish (Some w) e true h yes_in later = on_true (w.txn == txn) (Some w) _ (ap (λ (n : ℕ). n == txn) (wish_of_number t w e) ∙ h) ∙ sym e
    by_wish None e false h yes_in later = later yes_in
    by_wish (Some w) e false h yes_in later = on_false (w.txn == txn) (Some w) _ (ap (λ (n : ℕ). n == txn) (wish_of_number t w e) ∙ h) ∙ later yes_in

-- They ascend.

above_wishes : (n : ℕ) (turns : List Turn) → AllAbove n (numbers turns) → AllAbove n (map (λ w. w.txn) (wishes_in turns))
above_wishes n [] above = tt
above_wishes n (t ∷ ts) above = by_wish (wish_of t) refl (above_wishes n ts above.1)
  where
    by_wish : (o : Option Wish) → wish_of t ≡ o → AllAbove n (map (λ w. w.txn) (wishes_in ts)) → AllAbove n (map (λ w. w.txn) (cons_option o (wishes_in ts)))
    by_wish None e rest = rest
    by_wish (Some w) e rest = (subst (λ (m : ℕ). nat_cmp n m ≡ Less) (sym (wish_of_number t w e)) above.0, rest)

sorted_wishes : (turns : List Turn) → IsStrictlySortedBy nat_cmp (numbers turns) → IsStrictlySortedBy nat_cmp (map (λ w. w.txn) (wishes_in turns))
unfolding IsStrictlySortedBy
sorted_wishes [] sorted = tt
sorted_wishes (t ∷ ts) sorted = by_wish (wish_of t) refl (sorted_wishes ts sorted.1)
  where
    by_wish : (o : Option Wish) → wish_of t ≡ o → IsStrictlySortedBy nat_cmp (map (λ w. w.txn) (wishes_in ts)) → IsStrictlySortedBy nat_cmp (map (λ w. w.txn) (cons_option o (wishes_in ts)))
    by_wish None e rest = rest
    by_wish (Some w) e rest = (subst (λ (m : ℕ). AllAbove m (map (λ x. x.txn) (wishes_in ts))) (sym (wish_of_number t w e)) (above_wishes t.txn ts sorted.0), rest)

with_last : (n : ℕ) (ns : List ℕ) → AllByRecursion (λ m. m < n) ns → with_number n ns ≡ ns ++ n ∷ []
with_last n [] below = refl
with_last n (m ∷ ms) below =
    on_false (nat_lt n m) _ _ (grind (arith, nat_tests, below.0)) ∙ on_false (n == m) (m ∷ ms) (m ∷ with_number n ms) (grind (arith, nat_tests, below.0))
    ∙ ap (λ (l : List ℕ). m ∷ l) (with_last n ms below.1)

below_first : (n : ℕ) (ns old : List ℕ) → AllByRecursion (λ m. AllAbove m (n ∷ ns)) old → AllByRecursion (λ m. m < n) old
below_first n ns [] all = tt
below_first n ns (m ∷ ms) all = ((let less : m < n = ranked m n _ (sym all.0.0) in less), below_first n ns ms all.1)

above_next : (n : ℕ) (ns old : List ℕ) → AllAbove n ns → AllByRecursion (λ m. AllAbove m (n ∷ ns)) old → AllByRecursion (λ m. AllAbove m ns) (old ++ n ∷ [])
above_next n ns [] above all = (above, tt)
above_next n ns (m ∷ ms) above all = (all.0.1, above_next n ns ms above all.1)

fold_sorted : (old ns : List ℕ) → IsStrictlySortedBy nat_cmp ns → AllByRecursion (λ m. AllAbove m ns) old → fold (λ list n. with_number n list) old ns ≡ old ++ ns
unfolding IsStrictlySortedBy
fold_sorted old [] sorted all = sym (append-nil old)
fold_sorted old (n ∷ ns) sorted all =
    ap (λ (l : List ℕ). fold (λ list (k : ℕ). with_number k list) l ns) (with_last n old (below_first n ns old all))
    ∙ fold_sorted (old ++ n ∷ []) ns sorted.1 (above_next n ns old sorted.0 all) ∙ append_assoc old (n ∷ []) ns

pub ascending_stays : (ns : List ℕ) → IsStrictlySortedBy nat_cmp ns → ascending ns ≡ ns
ascending_stays ns sorted = fold_sorted [] ns sorted tt

-- Those that are registered when a transaction searches: the ones that wait, and itself.

abbrev pub wishes_at : Turn → List Turn → List Wish
wishes_at turn turns = wishes_in (with_turn (record turn { waits = true }) turns)

pub are_wishes : (setting : Setting) (turn : Turn) (turns : List Turn) (line : Line) (lines : List Line) → IsStrictlySortedBy nat_cmp (numbers turns) →
    is_in turn.txn (numbers turns) ≡ true → turn.lines ≡ line ∷ lines →
    AreWishes (wishes_at turn turns) turn.txn line.deed
are_wishes setting turn turns line lines sorted there next =
    let new : Turn = record turn { waits = true } in
    let kept = numbers_with new turns in
    let still : IsStrictlySortedBy nat_cmp (numbers (with_turn new turns)) = subst (IsStrictlySortedBy nat_cmp) (sym kept) sorted in (
      ascending_stays (map (λ w. w.txn) (wishes_at turn turns)) (sorted_wishes (with_turn new turns) still),
      wish_there setting turn.txn (with_turn new turns) still (ap (is_in turn.txn) kept ∙ there) ∙ ap wish_of (turn_of_with setting new turns there) ∙ ap (next_wish turn.txn) next,
    )

-- another is registered where it waits
pub wish_other : (setting : Setting) (turn other : Turn) (turns : List Turn) → IsStrictlySortedBy nat_cmp (numbers turns) → IsPlaced setting turns other →
    other.txn ≢ turn.txn → wish_in other.txn (wishes_at turn turns) ≡ wish_of other
wish_other setting turn other turns sorted placed differs =
    let new : Turn = record turn { waits = true } in
    let kept = numbers_with new turns in
    wish_there setting other.txn (with_turn new turns) (subst (IsStrictlySortedBy nat_cmp) (sym kept) sorted) (ap (is_in other.txn) kept ∙ placed.number)
    ∙ ap wish_of (turn_of_other setting other.txn new turns differs ∙ placed.there)

-- and the table has the trees

fit_wish : (setting : Setting) (txn : ℕ) (lines : List Line) (w : Wish) → AllByRecursion (IsFitLine setting txn) lines → next_wish txn lines ≡ Some w → IsFitWish setting w
fit_wish setting txn [] w all e = absurd cc
fit_wish setting txn (line ∷ lines) w all e = by_deed line.deed all.0.deed e
  where
    by_deed : (deed : LineDeed) → IsFitDeed setting deed → wish_for txn deed ≡ Some w → IsFitWish setting w
    by_deed (Try tree range) fit h = absurd cc
    by_deed (Lock tree range) fit h =
        let own : record { txn = txn; tree = tree; range = range } ≡ w = cc in
        let first : IsFitWish setting (record { txn = txn; tree = tree; range = range }) = record { tree = fit.0; range = fit.1 } in
        subst (IsFitWish setting) own first
    by_deed End fit h = absurd cc
    by_deed Abort fit h = absurd cc
    by_deed (Escalate tree) fit h = absurd cc
    by_deed Big fit h = absurd cc

pub fit_wishes : (setting : Setting) (turns : List Turn) → AllByRecursion (λ turn. AllByRecursion (IsFitLine setting turn.txn) turn.lines) turns → AllByRecursion (IsFitWish setting) (wishes_in turns)
fit_wishes setting [] all = tt
fit_wishes setting (t ∷ ts) all = by_wish (wish_of t) refl (fit_wishes setting ts all.1)
  where
    of_turn : (w : Wish) → wish_of t ≡ Some w → IsFitWish setting w
    of_turn w e = by_test t.waits e
      where
        by_test : (b : Bool) → (if b then next_wish t.txn t.lines else None) ≡ Some w → IsFitWish setting w
        by_test true h = fit_wish setting t.txn t.lines w all.0 h
        by_test false h = absurd cc

    by_wish : (o : Option Wish) → wish_of t ≡ o → AllByRecursion (IsFitWish setting) (wishes_in ts) → AllByRecursion (IsFitWish setting) (cons_option o (wishes_in ts))
    by_wish None e rest = rest
    by_wish (Some w) e rest = (of_turn w e, rest)
