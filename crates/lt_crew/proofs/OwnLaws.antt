-- A transaction's receipts, and those of the pass to which it was dealt.
use Rattle.std.proofs.Common.{◌≡◌, ◌≢◌, ℕ, zero, suc, ◌+◌, ◌<◌, List, [], ◌∷◌, ◌++◌, Bool, true, false, ◌==◌, ◌||◌, if◌then◌else◌, IsTrue, length, get_or, refl, sym, ap, subst, ◌∙◌, arith, eq-eqb}
use Rattle.std.specs.List.{AllByRecursion}
use Rattle.std.proofs.lemmas.Bool.{false≢true}
use Rattle.std.proofs.lemmas.Bool.Decides.{nat_tests}
use Rattle.lt_ranges.specs.Numbers.{is_in}
use Rattle.lt_seq.specs.declared.event.Event.{Event}
use Rattle.lt_seq.specs.declared.event.Receipt.{Receipt}
use Rattle.lt_seq.specs.Table.{Setting, TreeState, opening, step}
use Rattle.lt_seq.specs.History.{IsLegal, IsLegalFrom, calls_from}
use Rattle.lt_seq.specs.Questions.{receipts_of}
use Rattle.lt_runner.specs.TurnView.{Seat}
use Rattle.lt_runner.proofs.ChoiceLaws.{on_true, on_false}
use Rattle.lt_crew.specs.Crew.{own_in, numbers_in, AreApart, AreDealt}

-- each event was made by the pass to which its transaction was dealt
abbrev pub EachByItsOwn : (ℕ → List ℕ) → List Event → Type 0
EachByItsOwn dealt events = AllByRecursion (λ e. IsTrue (is_in e.txn (dealt e.pass))) events

pub eq_of : (a b : ℕ) → (a == b) ≡ true → a ≡ b
eq_of a b e = grind (arith, nat_tests)

-- a transaction's receipts are its own among those of the pass to which it was dealt
pub own_receipts : (dealt : ℕ → List ℕ) (place txn pass : ℕ) (events : List Event) → AreApart dealt → EachByItsOwn dealt events →
    IsTrue (is_in txn (dealt pass)) →
    receipts_of place txn events ≡ own_in txn (calls_from place pass events)
own_receipts dealt place txn pass [] apart each there = refl
own_receipts dealt place txn pass (e ∷ es) apart each there =
    by_tests (e.txn == txn) (e.pass == pass) refl refl (own_receipts dealt (place + 1) txn pass es apart each.1 there)
  where
    r : Receipt
    r = record { place = place; event = e }

    by_tests : (a b : Bool) → (e.txn == txn) ≡ a → (e.pass == pass) ≡ b →
        receipts_of (place + 1) txn es ≡ own_in txn (calls_from (place + 1) pass es) →
        (if a then r ∷ receipts_of (place + 1) txn es else receipts_of (place + 1) txn es)
        ≡ own_in txn (if b then r ∷ calls_from (place + 1) pass es else calls_from (place + 1) pass es)
    by_tests true true h k rest = ap (λ rs. r ∷ rs) rest
        ∙ sym (on_true (e.txn == txn) (r ∷ own_in txn (calls_from (place + 1) pass es)) (own_in txn (calls_from (place + 1) pass es)) h)
    by_tests true false h k rest =
        let own : IsTrue (is_in txn (dealt e.pass)) = subst (λ (n : ℕ). IsTrue (is_in n (dealt e.pass))) (eq_of e.txn txn h) each.0 in
        absurd (false≢true (sym k ∙ eq-eqb e.pass pass (apart txn e.pass pass own there)))
    by_tests false true h k rest = rest
        ∙ sym (on_false (e.txn == txn) (r ∷ own_in txn (calls_from (place + 1) pass es)) (own_in txn (calls_from (place + 1) pass es)) h)
    by_tests false false h k rest = rest

-- one that was dealt to no pass has none
pub no_receipts : (dealt : ℕ → List ℕ) (place txn : ℕ) (events : List Event) → EachByItsOwn dealt events →
    ((pass : ℕ) → IsTrue (is_in txn (dealt pass)) → ⊥) → receipts_of place txn events ≡ []
no_receipts dealt place txn [] each none = refl
no_receipts dealt place txn (e ∷ es) each none = by_test (e.txn == txn) refl (no_receipts dealt (place + 1) txn es each.1 none)
  where
    by_test : (a : Bool) → (e.txn == txn) ≡ a → receipts_of (place + 1) txn es ≡ [] →
        (if a then record { place = place; event = e } ∷ receipts_of (place + 1) txn es else receipts_of (place + 1) txn es) ≡ []
    by_test true h rest = absurd (none e.pass (subst (λ (n : ℕ). IsTrue (is_in n (dealt e.pass))) (eq_of e.txn txn h) each.0))
    by_test false h rest = rest

-- where each pass made events of its own transactions alone, each event is of its pass's
pub each_by_own : (passes : ℕ) (dealt : ℕ → List ℕ) (place : ℕ) (events : List Event) → AllByRecursion (λ e. e.pass < passes) events →
    ((pass : ℕ) → pass < passes → AreDealt (dealt pass) (calls_from place pass events)) → EachByItsOwn dealt events
each_by_own passes dealt place [] there each = tt
each_by_own passes dealt place (e ∷ es) there each = (
  first (e.pass == e.pass) (eq-eqb e.pass e.pass refl) (each e.pass there.0),
  each_by_own passes dealt (place + 1) es there.1
      (λ pass inside. later pass (e.pass == pass) (each pass inside)),
)
  where
    r : Receipt
    r = record { place = place; event = e }

    first : (b : Bool) → b ≡ true →
        AreDealt (dealt e.pass) (if b then r ∷ calls_from (place + 1) e.pass es else calls_from (place + 1) e.pass es) →
        IsTrue (is_in e.txn (dealt e.pass))
    first true h all = all.0
    first false h all = absurd (false≢true h)

    later : (pass : ℕ) (b : Bool) → AreDealt (dealt pass) (if b then r ∷ calls_from (place + 1) pass es else calls_from (place + 1) pass es) →
        AreDealt (dealt pass) (calls_from (place + 1) pass es)
    later pass true all = all.1
    later pass false all = all

-- the passes of a legal history are the plan's, also of its end
pub all_passes : (setting : Setting) (es : List Event) (trees : List TreeState) → IsLegalFrom setting trees es →
    AllByRecursion (λ e. e.pass < setting.plan.passes) es
all_passes setting [] trees legal = tt
all_passes setting (e ∷ es) trees legal = (legal.0.pass, all_passes setting es (step setting trees e) legal.1)

skip_passes : (setting : Setting) (es more : List Event) (trees : List TreeState) → IsLegalFrom setting trees (es ++ more) →
    AllByRecursion (λ e. e.pass < setting.plan.passes) more
skip_passes setting [] more trees legal = all_passes setting more trees legal
skip_passes setting (e ∷ es) more trees legal = skip_passes setting es more (step setting trees e) legal.1

pub legal_passes : (setting : Setting) (events more : List Event) → IsLegal setting (events ++ more) →
    AllByRecursion (λ e. e.pass < setting.plan.passes) more
legal_passes setting events more legal = skip_passes setting events more (opening setting) legal

-- Its own among the receipts of several.

-- the receipts of one among its own are all, and among those of another none
pub own_all : (txn : ℕ) (receipts : List Receipt) → AllByRecursion (λ r. r.event.txn ≡ txn) receipts → own_in txn receipts ≡ receipts
own_all txn [] all = refl
own_all txn (r ∷ rs) all = on_true (r.event.txn == txn) (r ∷ own_in txn rs) (own_in txn rs) (eq-eqb r.event.txn txn all.0)
    ∙ ap (λ l. r ∷ l) (own_all txn rs all.1)

neq_of : (a b : ℕ) → a ≢ b → (a == b) ≡ false
neq_of a b differs = by_test (a == b) refl
  where
    by_test : (t : Bool) → (a == b) ≡ t → (a == b) ≡ false
    by_test true h = absurd (differs (eq_of a b h))
    by_test false h = h

pub own_none : (txn other : ℕ) (receipts : List Receipt) → AllByRecursion (λ r. r.event.txn ≡ other) receipts → txn ≢ other → own_in txn receipts ≡ []
own_none txn other [] all differs = refl
own_none txn other (r ∷ rs) all differs =
    on_false (r.event.txn == txn) (r ∷ own_in txn rs) (own_in txn rs) (neq_of r.event.txn txn (λ same. differs (sym same ∙ all.0)))
    ∙ own_none txn other rs all.1 differs

pub own_in-append : (txn : ℕ) (xs ys : List Receipt) → own_in txn (xs ++ ys) ≡ own_in txn xs ++ own_in txn ys
own_in-append txn [] ys = refl
own_in-append txn (x ∷ xs) ys = by_test (x.event.txn == txn) (own_in-append txn xs ys)
  where
    by_test : (b : Bool) → own_in txn (xs ++ ys) ≡ own_in txn xs ++ own_in txn ys →
        (if b then x ∷ own_in txn (xs ++ ys) else own_in txn (xs ++ ys)) ≡ (if b then x ∷ own_in txn xs else own_in txn xs) ++ own_in txn ys
    by_test true rest = ap (λ l. x ∷ l) rest
    by_test false rest = rest

pub dealt_append : (txns : List ℕ) (xs ys : List Receipt) → AreDealt txns xs → AreDealt txns ys → AreDealt txns (xs ++ ys)
dealt_append txns [] ys all rest = rest
dealt_append txns (x ∷ xs) ys all rest = (all.0, dealt_append txns xs ys all.1 rest)

pub dealt_own : (txns : List ℕ) (txn : ℕ) (receipts : List Receipt) → IsTrue (is_in txn txns) → AllByRecursion (λ r. r.event.txn ≡ txn) receipts →
    AreDealt txns receipts
dealt_own txns txn [] there all = tt
dealt_own txns txn (r ∷ rs) there all = (subst (λ (n : ℕ). IsTrue (is_in n txns)) (sym all.0) there, dealt_own txns txn rs there all.1)

pub is_in_numbers : (seats : List Seat) (i : ℕ) (d : Seat) → i < length seats → IsTrue (is_in (get_or seats i d).turn.txn (numbers_in seats))
is_in_numbers [] i d inside = absurd (omega arith)
is_in_numbers (s ∷ ss) zero d inside = or_true (s.turn.txn == s.turn.txn) _ (eq-eqb s.turn.txn s.turn.txn refl)
  where
    or_true : (b c : Bool) → b ≡ true → (b || c) ≡ true
    or_true true c e = refl
    or_true false c e = absurd (false≢true e)
is_in_numbers (s ∷ ss) (suc i) d inside = or_later (s.turn.txn == (get_or ss i d).turn.txn) _ (is_in_numbers ss i d (omega arith))
  where
    or_later : (b c : Bool) → c ≡ true → (b || c) ≡ true
    or_later true c e = refl
    or_later false c e = e

-- what is of none of these has no receipt among theirs
pub own_out : (txns : List ℕ) (txn : ℕ) (receipts : List Receipt) → (IsTrue (is_in txn txns) → ⊥) → AreDealt txns receipts → own_in txn receipts ≡ []
own_out txns txn [] new_one all = refl
own_out txns txn (r ∷ rs) new_one all =
    on_false (r.event.txn == txn) (r ∷ own_in txn rs) (own_in txn rs)
    (neq_of r.event.txn txn (λ same. new_one (subst (λ (n : ℕ). IsTrue (is_in n txns)) same all.0)))
    ∙ own_out txns txn rs new_one all.1

is_in_wider : (n : ℕ) (xs ys : List ℕ) → IsTrue (is_in n xs) → IsTrue (is_in n (xs ++ ys))
is_in_wider n [] ys there = absurd (false≢true there)
is_in_wider n (x ∷ xs) ys there = by_test (x == n) (is_in_wider n xs ys) there
  where
    by_test : (b : Bool) → (IsTrue (is_in n xs) → IsTrue (is_in n (xs ++ ys))) → IsTrue (b || is_in n xs) → IsTrue (b || is_in n (xs ++ ys))
    by_test true later there = refl
    by_test false later there = later there

pub dealt_wider : (txns more : List ℕ) (receipts : List Receipt) → AreDealt txns receipts → AreDealt (txns ++ more) receipts
dealt_wider txns more [] all = tt
dealt_wider txns more (r ∷ rs) all = (is_in_wider r.event.txn txns more all.0, dealt_wider txns more rs all.1)
