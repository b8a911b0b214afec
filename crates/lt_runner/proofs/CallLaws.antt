-- Calls of one pass that is alone: one behind another, each as the table replies.
use Rattle.std.proofs.Common.{◌≡◌, ◌≢◌, ℕ, ◌+◌, ◌<◌, ◌≤◌, List, [], ◌∷◌, ◌++◌, Bool, true, false, ◌==◌, if◌then◌else◌, length, refl, sym, ap, subst, ◌∙◌, arith, append-nil, append_assoc, eq-eqb}
use Rattle.std.specs.List.{AllByRecursion}
use Rattle.std.proofs.lemmas.List.{length-append}
use Rattle.std.proofs.lemmas.Bool.Decides.{nat_tests}
use Rattle.lt_seq.specs.declared.event.Deed.{Deed}
use Rattle.lt_seq.specs.declared.event.Deed.TheVariants.{Ask, Free, Who, Join}
use Rattle.lt_seq.specs.declared.event.Event.{Event}
use Rattle.lt_seq.specs.declared.event.Receipt.{Receipt}
use Rattle.lt_seq.specs.Table.{Setting, tree_of}
use Rattle.lt_seq.specs.History.{after, IsLegal, IsNext, IsQuestion}
use Rattle.lt_seq.specs.Yard.{place_after, event_after}
use Rattle.lt_seq.specs.Questions.{receipt_after, receipts_of, events_of}
use Rattle.lt_seq.proofs.HistoryLaws.{legal_more}
use Rattle.lt_runner.specs.Attempt.{behind}
use Rattle.lt_runner.proofs.ChoiceLaws.{on_true, on_false}

-- the receipt of a call behind these events, at a tree that is there
pub record IsCall (setting : Setting) (txn : ℕ) (events : List Event) (r : Receipt) : Type 0 where
  pub deed : Deed
  pub is : r ≡ receipt_after setting events 0 txn deed
  pub tree : tree_of deed < setting.plan.trees
  pub question : IsQuestion deed

-- one behind another
abbrev pub AreCalls : Setting → ℕ → List Event → List Receipt → Type 0
AreCalls setting txn events [] = Unit {0}
AreCalls setting txn events (r ∷ rs) = IsCall setting txn events r × AreCalls setting txn (events ++ r.event ∷ []) rs

pub calls_both : (setting : Setting) (txn : ℕ) (events : List Event) (xs ys : List Receipt) → AreCalls setting txn events xs →
    AreCalls setting txn (events ++ events_of xs) ys → AreCalls setting txn events (xs ++ ys)
calls_both setting txn events [] ys all rest = subst (λ (es : List Event). AreCalls setting txn es ys) (append-nil events) rest
calls_both setting txn events (x ∷ xs) ys all rest =
    (all.0, calls_both setting txn (events ++ x.event ∷ []) xs ys all.1 (subst (λ (es : List Event). AreCalls setting txn es ys) (sym (append_assoc events (x.event ∷ []) (events_of xs))) rest))

next_of : (setting : Setting) (txn : ℕ) (events : List Event) (deed : Deed) → 0 < setting.plan.passes → tree_of deed < setting.plan.trees → IsQuestion deed →
    IsNext setting (after setting events) (event_after setting events 0 txn deed)
next_of setting txn events (Ask tree range reply) pass inside one = record { pass = pass; tree = inside; question = one; replies = refl }
next_of setting txn events (Free tree range first count) pass inside one = record { pass = pass; tree = inside; question = one; replies = refl }
next_of setting txn events (Who tree range named owners) pass inside one = record { pass = pass; tree = inside; question = one; replies = refl }
next_of setting txn events (Join tree before behind_it) pass inside one = record { pass = pass; tree = inside; question = tt; replies = refl }

pub legal_calls : (setting : Setting) (txn : ℕ) (events : List Event) (rs : List Receipt) → 0 < setting.plan.passes → AreCalls setting txn events rs →
    IsLegal setting events → IsLegal setting (events ++ events_of rs)
legal_calls setting txn events [] pass all legal = subst (IsLegal setting) (sym (append-nil events)) legal
legal_calls setting txn events (r ∷ rs) pass all legal =
    let call = all.0 in
    let next : IsNext setting (after setting events) r.event =
    subst (λ (x : Receipt). IsNext setting (after setting events) x.event) (sym call.is) (next_of setting txn events call.deed pass call.tree call.question) in
    subst (IsLegal setting) (append_assoc events (r.event ∷ []) (events_of rs))
    (legal_calls setting txn (events ++ r.event ∷ []) rs pass all.1 (legal_more setting events r.event legal next))

abbrev pub AreOwn : ℕ → List Event → Type 0
AreOwn txn events = AllByRecursion (λ e. e.txn ≡ txn) events

pub own_calls : (setting : Setting) (txn : ℕ) (events : List Event) (rs : List Receipt) → AreCalls setting txn events rs → AreOwn txn (events_of rs)
own_calls setting txn events [] all = tt
own_calls setting txn events (r ∷ rs) all = (ap (λ (x : Receipt). x.event.txn) all.0.is, own_calls setting txn (events ++ r.event ∷ []) rs all.1)

-- they are the receipts of their events
pub receipts_of_calls : (setting : Setting) (txn : ℕ) (events : List Event) (place : ℕ) (rs : List Receipt) → AreCalls setting txn events rs →
    place ≡ place_after setting events → receipts_of place txn (events_of rs) ≡ rs
receipts_of_calls setting txn events place [] all at = refl
receipts_of_calls setting txn events place (r ∷ rs) all at =
    let own : r.event.txn ≡ txn = ap (λ (x : Receipt). x.event.txn) all.0.is in
    let here : place ≡ r.place = at ∙ sym (ap (λ (x : Receipt). x.place) all.0.is) in
    on_true (r.event.txn == txn) _ _ (eq-eqb r.event.txn txn own)
    ∙ (λ j. record { place = here j; event = r.event } ∷ receipts_of (place + 1) txn (events_of rs))
    ∙ ap (λ (l : List Receipt). r ∷ l) (receipts_of_calls setting txn (events ++ r.event ∷ []) (place + 1) rs all.1 (omega (arith, at, length-append events (r.event ∷ []))))

pub none_of_calls : (place txn other : ℕ) (events : List Event) → AreOwn other events → txn ≢ other → receipts_of place txn events ≡ []
none_of_calls place txn other [] all differs = refl
none_of_calls place txn other (e ∷ es) all differs = on_false (e.txn == txn) _ _ (by_test (e.txn == txn) refl) ∙ none_of_calls (place + 1) txn other es all.1 differs
  where
    by_test : (b : Bool) → (e.txn == txn) ≡ b → (e.txn == txn) ≡ false
    by_test true h = absurd (differs (let same : e.txn ≡ txn = grind (arith, nat_tests) in sym same ∙ all.0))
    by_test false h = h

pub receipts_of-append : (place txn : ℕ) (xs ys : List Event) → receipts_of place txn (xs ++ ys) ≡ receipts_of place txn xs ++ receipts_of (place + length xs) txn ys
receipts_of-append place txn [] ys = ap (λ n. receipts_of n txn ys) (omega arith)
receipts_of-append place txn (x ∷ xs) ys =
    by_test (x.txn == txn) (receipts_of-append (place + 1) txn xs ys ∙ ap (λ n. receipts_of (place + 1) txn xs ++ receipts_of n txn ys) (omega arith))
  where
    by_test : (b : Bool) → receipts_of (place + 1) txn (xs ++ ys) ≡ receipts_of (place + 1) txn xs ++ receipts_of (place + length (x ∷ xs)) txn ys →
        (if b then record { place = place; event = x } ∷ receipts_of (place + 1) txn (xs ++ ys) else receipts_of (place + 1) txn (xs ++ ys))
        ≡ (if b then record { place = place; event = x } ∷ receipts_of (place + 1) txn xs else receipts_of (place + 1) txn xs) ++ receipts_of (place + length (x ∷ xs)) txn ys
    by_test true rest = ap (λ (rs : List Receipt). record { place = place; event = x } ∷ rs) rest
    by_test false rest = rest

-- they came no later than the event behind them
pub calls_inside : (setting : Setting) (txn : ℕ) (events : List Event) (rs : List Receipt) (end : ℕ) → AreCalls setting txn events rs →
    place_after setting (events ++ events_of rs) ≤ end → AllByRecursion (λ r. r.place ≤ end) rs
calls_inside setting txn events [] end all le = tt
calls_inside setting txn events (r ∷ rs) end all le =
    let at : r.place ≡ place_after setting events = ap (λ (x : Receipt). x.place) all.0.is in (
      omega (arith, at, le, length-append events (events_of (r ∷ rs))),
      calls_inside setting txn (events ++ r.event ∷ []) rs end all.1
          (omega (arith, le, ap length (append_assoc events (r.event ∷ []) (events_of rs)))),
    )

-- the place behind them is the place behind their events
pub behind_calls : (setting : Setting) (txn : ℕ) (events : List Event) (rs : List Receipt) (place : ℕ) → AreCalls setting txn events rs →
    place ≡ place_after setting events → behind place rs ≡ place_after setting (events ++ events_of rs)
behind_calls setting txn events [] place all at = at ∙ ap (place_after setting) (sym (append-nil events))
behind_calls setting txn events (r ∷ rs) place all at =
    let here : r.place ≡ place_after setting events = ap (λ (x : Receipt). x.place) all.0.is in
    behind_calls setting txn (events ++ r.event ∷ []) rs (r.place + 1) all.1 (omega (arith, here, length-append events (r.event ∷ [])))
    ∙ ap (place_after setting) (append_assoc events (r.event ∷ []) (events_of rs))
