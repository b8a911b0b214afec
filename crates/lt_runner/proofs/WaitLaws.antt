-- Who waits on a board, and who is next to ask again.
use Rattle.std.proofs.Common.{◌≡◌, ◌≢◌, ℕ, ◌<◌, List, [], ◌∷◌, map, Bool, true, false, ◌==◌, ◌||◌, not, nat_lt, if◌then◌else◌, Option, Some, None, nat_cmp, refl, sym, ap, subst, ◌∙◌, arith, eq-eqb}
use Rattle.std.specs.List.{AllByRecursion, cons_option}
use Rattle.std.specs.List.Sorted.{IsStrictlySortedBy}
use Rattle.std.specs.declared.cmp.Ordering.TheVariants.{Less}
use Rattle.std.proofs.lemmas.Bool.Decides.{nat_tests}
use Rattle.std.proofs.lemmas.Cmp.{ranked}
use Rattle.lt_ranges.specs.Numbers.{is_in}
use Rattle.lt_seq.specs.Table.{Setting}
use Rattle.lt_requests.specs.declared.wish.Wish.{Wish}
use Rattle.lt_requests.specs.Registered.{next_above, without, with_wish}
use Rattle.lt_runner.specs.TurnView.{Turn}
use Rattle.lt_runner.specs.Plays.{next_wish}
use Rattle.lt_runner.specs.Serial.{turn_of, with_turn, wishes_in}
use Rattle.lt_runner.proofs.ChoiceLaws.{on_true, on_false}
use Rattle.lt_runner.proofs.WishLaws.{wish_of, wish_of_number, IsPlaced, all_placed}

abbrev numbers : List Turn → List ℕ
numbers turns = map (λ turn. turn.txn) turns

eq_of : (n m : ℕ) → (n == m) ≡ true → n ≡ m
eq_of n m e = grind (arith, nat_tests)

differ : (n m : ℕ) → (n ≡ m → ⊥) → (n == m) ≡ false
differ n m d = by_test (n == m) refl
  where
    by_test : (b : Bool) → (n == m) ≡ b → (n == m) ≡ false
    by_test true e = absurd (d (eq_of n m e))
    by_test false e = e

-- A turn that is put in.

-- one that waits for the same as the old one with its number
wishes_same : (new : Turn) (turns : List Turn) → AllByRecursion (λ t. t.txn ≡ new.txn → wish_of t ≡ wish_of new) turns →
    wishes_in (with_turn new turns) ≡ wishes_in turns
wishes_same new [] all = refl
wishes_same new (t ∷ ts) all = by_test (t.txn == new.txn) refl (wishes_same new ts all.1)
  where
    by_test : (b : Bool) → (t.txn == new.txn) ≡ b → wishes_in (with_turn new ts) ≡ wishes_in ts →
        cons_option (wish_of (if b then new else t)) (wishes_in (with_turn new ts)) ≡ cons_option (wish_of t) (wishes_in ts)
    by_test true e rest =
        ap (λ (o : Option Wish). cons_option o (wishes_in (with_turn new ts))) (sym (all.0 (eq_of t.txn new.txn e))) ∙ ap (cons_option (wish_of t)) rest
    by_test false e rest = ap (cons_option (wish_of t)) rest

same_wish : (setting : Setting) (new : Turn) (turns us : List Turn) → wish_of (turn_of setting new.txn turns) ≡ wish_of new →
    AllByRecursion (IsPlaced setting turns) us →
    AllByRecursion (λ t. t.txn ≡ new.txn → wish_of t ≡ wish_of new) us
same_wish setting new turns [] was placed = tt
same_wish setting new turns (t ∷ ts) was placed =
    ((λ same. ap wish_of (sym placed.0.there) ∙ ap (λ (n : ℕ). wish_of (turn_of setting n turns)) same ∙ was), same_wish setting new turns ts was placed.1)

pub wishes_stay : (setting : Setting) (new : Turn) (turns : List Turn) → IsStrictlySortedBy nat_cmp (numbers turns) →
    wish_of (turn_of setting new.txn turns) ≡ wish_of new →
    wishes_in (with_turn new turns) ≡ wishes_in turns
wishes_stay setting new turns sorted was = wishes_same new turns (same_wish setting new turns turns was (all_placed setting turns sorted))

keep_wish : (txn : ℕ) (o : Option Wish) (ws : List Wish) → ((w : Wish) → o ≡ Some w → w.txn ≡ txn → ⊥) →
    without txn (cons_option o ws) ≡ cons_option o (without txn ws)
keep_wish txn None ws other = refl
keep_wish txn (Some w) ws other = on_true (not (w.txn == txn)) _ _ (ap not (differ w.txn txn (other w refl)))

drop_wish : (txn : ℕ) (o : Option Wish) (ws : List Wish) → ((w : Wish) → o ≡ Some w → w.txn ≡ txn) →
    without txn (cons_option o ws) ≡ without txn ws
drop_wish txn None ws own = refl
drop_wish txn (Some w) ws own = on_false (not (w.txn == txn)) _ _ (ap not (eq-eqb w.txn txn (own w refl)))

-- one that does not wait
pub wishes_leave : (new : Turn) (turns : List Turn) → wish_of new ≡ None →
    wishes_in (with_turn new turns) ≡ without new.txn (wishes_in turns)
wishes_leave new [] none = refl
wishes_leave new (t ∷ ts) none = by_test (t.txn == new.txn) refl (wishes_leave new ts none)
  where
    by_test : (b : Bool) → (t.txn == new.txn) ≡ b → wishes_in (with_turn new ts) ≡ without new.txn (wishes_in ts) →
        cons_option (wish_of (if b then new else t)) (wishes_in (with_turn new ts)) ≡ without new.txn (cons_option (wish_of t) (wishes_in ts))
    by_test true e rest =
        ap (λ (o : Option Wish). cons_option o (wishes_in (with_turn new ts))) none ∙ rest
        ∙ sym (drop_wish new.txn (wish_of t) (wishes_in ts) (λ w is. wish_of_number t w is ∙ eq_of t.txn new.txn e))
    by_test false e rest =
        ap (cons_option (wish_of t)) rest
        ∙ sym (keep_wish new.txn (wish_of t) (wishes_in ts) (λ w is same. absurd (let k : true ≡ false = sym (eq-eqb t.txn new.txn (sym (wish_of_number t w is) ∙ same)) ∙ e in cc)))

abbrev pub AllOver : ℕ → List ℕ → Type 0
AllOver n ns = AllByRecursion (λ m. nat_cmp n m ≡ Less) ns

pub over_less : (n m : ℕ) → nat_cmp n m ≡ Less → n < m
over_less n m e = ranked n m _ (sym e)

pub over_in : (n m : ℕ) (ns : List ℕ) → AllOver n ns → is_in m ns ≡ true → n < m
over_in n m [] all there = absurd (let k : false ≡ true = there in cc)
over_in n m (k ∷ ks) all there = by_test (k == m) refl there (over_in n m ks all.1)
  where
    by_test : (b : Bool) → (k == m) ≡ b → (b || is_in m ks) ≡ true → (is_in m ks ≡ true → n < m) → n < m
    by_test true e h later = let less = over_less n k all.0 in let same = eq_of k m e in omega arith
    by_test false e h later = later h

-- it goes before the wishes of those behind it
wish_first : (wish : Wish) (ts : List Turn) → AllOver wish.txn (numbers ts) → with_wish wish (wishes_in ts) ≡ wish ∷ wishes_in ts
wish_first wish [] all = refl
wish_first wish (t ∷ ts) all = by_wish (wish_of t) refl (wish_first wish ts all.1)
  where
    by_wish : (o : Option Wish) → wish_of t ≡ o → with_wish wish (wishes_in ts) ≡ wish ∷ wishes_in ts →
        with_wish wish (cons_option o (wishes_in ts)) ≡ wish ∷ cons_option o (wishes_in ts)
    by_wish None is rest = rest
    by_wish (Some w) is rest =
        let less = over_less wish.txn t.txn all.0 in
        let own = wish_of_number t w is in
        on_true (nat_lt wish.txn w.txn) _ _ (let below : wish.txn < w.txn = omega arith in grind (arith, nat_tests))

with_over : (new : Turn) (ts : List Turn) → AllOver new.txn (numbers ts) → wishes_in (with_turn new ts) ≡ wishes_in ts
with_over new ts all = wishes_same new ts (apart ts all)
  where
    apart : (us : List Turn) → AllOver new.txn (numbers us) → AllByRecursion (λ t. t.txn ≡ new.txn → wish_of t ≡ wish_of new) us
    apart [] over = tt
    apart (u ∷ us) over = ((λ same. absurd (let less = over_less new.txn u.txn over.0 in omega (arith, same))), apart us over.1)

-- and one that waits now, and did not
pub wishes_come : (setting : Setting) (new : Turn) (wish : Wish) (turns : List Turn) → IsStrictlySortedBy nat_cmp (numbers turns) →
    is_in new.txn (numbers turns) ≡ true →
    wish_of new ≡ Some wish → (turn_of setting new.txn turns).waits ≡ false → wishes_in (with_turn new turns) ≡ with_wish wish (wishes_in turns)
unfolding IsStrictlySortedBy
wishes_come setting new wish [] sorted there waits was = absurd (let k : false ≡ true = there in cc)
wishes_come setting new wish (t ∷ ts) sorted there waits was = by_test (t.txn == new.txn) refl there was (wishes_come setting new wish ts sorted.1)
  where
    own : wish.txn ≡ new.txn
    own = wish_of_number new wish waits

    old : (b : Bool) → t.waits ≡ b → b ≡ false → wish_of t ≡ None
    old true e f = absurd (let k : true ≡ false = f in cc)
    old false e f = on_false t.waits (next_wish t.txn t.lines) None e

    later : new.txn ≢ t.txn → t.txn < new.txn → (o : Option Wish) → wish_of t ≡ o →
        wishes_in (with_turn new ts) ≡ with_wish wish (wishes_in ts) →
        cons_option o (wishes_in (with_turn new ts)) ≡ with_wish wish (cons_option o (wishes_in ts))
    later apart less None is rest = rest
    later apart less (Some w) is rest =
        let here = wish_of_number t w is in
        ap (λ (ws : List Wish). w ∷ ws) rest ∙ sym (on_false (nat_lt wish.txn w.txn) _ _ (let k : w.txn < wish.txn = omega (arith, own, here, less) in grind (arith, nat_tests)))

    by_test : (b : Bool) → (t.txn == new.txn) ≡ b → (b || is_in new.txn (numbers ts)) ≡ true →
        (if b then t else turn_of setting new.txn ts).waits ≡ false →
        (is_in new.txn (numbers ts) ≡ true → wish_of new ≡ Some wish → (turn_of setting new.txn ts).waits ≡ false → wishes_in (with_turn new ts) ≡ with_wish wish (wishes_in ts)) →
        cons_option (wish_of (if b then new else t)) (wishes_in (with_turn new ts)) ≡ with_wish wish (cons_option (wish_of t) (wishes_in ts))
    by_test true e h quiet rest =
        let same = eq_of t.txn new.txn e in
        let over = subst (λ (n : ℕ). AllOver n (numbers ts)) same sorted.0 in
        ap (λ (o : Option Wish). cons_option o (wishes_in (with_turn new ts))) waits
        ∙ ap (λ (ws : List Wish). wish ∷ ws) (with_over new ts over)
        ∙ sym (ap (λ (o : Option Wish). with_wish wish (cons_option o (wishes_in ts))) (old t.waits refl quiet) ∙ wish_first wish ts (subst (λ (n : ℕ). AllOver n (numbers ts)) (sym own) over))
    by_test false e h quiet rest =
        let less = over_in t.txn new.txn (numbers ts) sorted.0 h in
        later (λ same. absurd (omega (arith, same, less))) less (wish_of t) refl (rest h waits quiet)

-- Sweeps.

pub record IsNext (setting : Setting) (last txn : ℕ) (turns : List Turn) : Type 0 where
  pub number : is_in txn (numbers turns) ≡ true
  pub waits : (turn_of setting txn turns).waits ≡ true
  pub behind : last < txn

or_here : (b c : Bool) → b ≡ true → (b || c) ≡ true
or_here true c e = refl
or_here false c e = cc

or_later : (b c : Bool) → c ≡ true → (b || c) ≡ true
or_later true c e = refl
or_later false c e = e

waits_at : (t : Turn) (w : Wish) → wish_of t ≡ Some w → t.waits ≡ true
waits_at t w is = by_test t.waits refl is
  where
    by_test : (b : Bool) → t.waits ≡ b → (if b then next_wish t.txn t.lines else None) ≡ Some w → t.waits ≡ true
    by_test true e h = e
    by_test false e h = absurd cc

-- the next one that waits
pub next_waits : (setting : Setting) (last txn : ℕ) (turns : List Turn) → IsStrictlySortedBy nat_cmp (numbers turns) →
    next_above last (wishes_in turns) ≡ Some txn → IsNext setting last txn turns
unfolding IsStrictlySortedBy
next_waits setting last txn [] sorted found = absurd cc
next_waits setting last txn (t ∷ ts) sorted found = by_wish (wish_of t) refl found (next_waits setting last txn ts sorted.1)
  where
    later : IsNext setting last txn ts → IsNext setting last txn (t ∷ ts)
    later l = record {
      number = or_later (t.txn == txn) _ l.number;
      waits = ap (λ (u : Turn). u.waits) (on_false (t.txn == txn) t _ (differ t.txn txn (λ same. (let less = over_in t.txn txn (numbers ts) sorted.0 l.number in omega (arith, same))))) ∙ l.waits;
      behind = l.behind;
    }

    by_test : (b : Bool) (w : Wish) → nat_lt last w.txn ≡ b → wish_of t ≡ Some w →
        (if b then Some w.txn else next_above last (wishes_in ts)) ≡ Some txn →
        (next_above last (wishes_in ts) ≡ Some txn → IsNext setting last txn ts) → IsNext setting last txn (t ∷ ts)
    by_test true w e is h rest =
        let own = wish_of_number t w is in
        let same : w.txn ≡ txn = cc in
        let number = eq-eqb t.txn txn (sym own ∙ same) in
        record {
          number = or_here (t.txn == txn) _ number;
          waits = ap (λ (u : Turn). u.waits) (on_true (t.txn == txn) t _ number) ∙ waits_at t w is;
          behind = (let less : last < w.txn = grind (arith, nat_tests) in omega (arith, same, less));
        }
    by_test false w e is h rest = later (rest h)

    by_wish : (o : Option Wish) → wish_of t ≡ o → next_above last (cons_option o (wishes_in ts)) ≡ Some txn →
        (next_above last (wishes_in ts) ≡ Some txn → IsNext setting last txn ts) → IsNext setting last txn (t ∷ ts)
    by_wish None is h rest = later (rest h)
    by_wish (Some w) is h rest = by_test (nat_lt last w.txn) w refl is h rest
