-- The search of one pass that is alone is a search: no wish is asked for twice, so there are no more questions than wishes.
use Rattle.std.proofs.Common.{◌≡◌, ℕ, suc, ◌+◌, ◌<◌, ◌≤◌, List, [], ◌∷◌, ◌++◌, map, Bool, true, false, ◌==◌, ◌&&◌, ◌||◌, not, cond, if◌then◌else◌, length, refl, sym, ap, subst, ◌∙◌}
use Rattle.std.proofs.Common.{arith, append_assoc, eq-eqb}
use Rattle.std.specs.List.{AllByRecursion, filter}
use Rattle.std.proofs.lemmas.List.{length-append}
use Rattle.lt_ranges.specs.Interval.{IsInterval}
use Rattle.lt_ranges.specs.Numbers.{is_in}
use Rattle.lt_seq.specs.declared.event.Event.{Event}
use Rattle.lt_seq.specs.Table.{Setting}
use Rattle.lt_seq.specs.Questions.{receipt_after, named_in}
use Rattle.lt_requests.specs.declared.wish.Wish.{Wish}
use Rattle.lt_requests.specs.Search.{IsSearch, searched, wishes_of, new_wishes, question_for}
use Rattle.lt_runner.proofs.CallLaws.{AreCalls}

abbrev txns_in : List Wish → List ℕ
txns_in wishes = map (λ w. w.txn) wishes

is_new : List Wish → Wish → Bool
is_new listed w = not (is_in w.txn (txns_in listed))

-- how many of the wishes are not listed
missing : List Wish → List Wish → ℕ
unfolding is_new
missing listed [] = 0
missing listed (w ∷ ws) = if is_new listed w then 1 + missing listed ws else missing listed ws

missing_few : (listed wishes : List Wish) → missing listed wishes ≤ length wishes
unfolding missing
missing_few listed [] = omega arith
missing_few listed (w ∷ ws) = by_test (is_new listed w) (missing_few listed ws)
  where
    by_test : (b : Bool) → missing listed ws ≤ length ws → (if b then 1 + missing listed ws else missing listed ws) ≤ suc (length ws)
    by_test true few = omega (arith, few)
    by_test false few = omega (arith, few)

is_in_before : (n : ℕ) (xs ys : List Wish) → is_in n (txns_in xs) ≡ true → is_in n (txns_in (xs ++ ys)) ≡ true
is_in_before n [] ys there = cc
is_in_before n (x ∷ xs) ys there = by_test (x.txn == n) there (is_in_before n xs ys)
  where
    by_test : (b : Bool) → (b || is_in n (txns_in xs)) ≡ true → (is_in n (txns_in xs) ≡ true → is_in n (txns_in (xs ++ ys)) ≡ true) → (b || is_in n (txns_in (xs ++ ys))) ≡ true
    by_test true h later = refl
    by_test false h later = later h

is_in_behind : (n : ℕ) (xs ys : List Wish) → is_in n (txns_in ys) ≡ true → is_in n (txns_in (xs ++ ys)) ≡ true
is_in_behind n [] ys there = there
is_in_behind n (x ∷ xs) ys there = by_test (x.txn == n) (is_in_behind n xs ys there)
  where
    by_test : (b : Bool) → is_in n (txns_in (xs ++ ys)) ≡ true → (b || is_in n (txns_in (xs ++ ys))) ≡ true
    by_test true h = refl
    by_test false h = h

abbrev AreThere : (Wish → Bool) → List Wish → List Wish → Type 0
AreThere test listed wishes = AllByRecursion (λ w. test w ≡ true → is_in w.txn (txns_in listed) ≡ true) wishes

there_later : (test : Wish → Bool) (x : Wish) (listed wishes : List Wish) → AreThere test listed wishes → AreThere test (x ∷ listed) wishes
there_later test x listed [] all = tt
there_later test x listed (w ∷ ws) all = ((λ passes. by_test (x.txn == w.txn) (all.0 passes)), there_later test x listed ws all.1)
  where
    by_test : (b : Bool) → is_in w.txn (txns_in listed) ≡ true → (b || is_in w.txn (txns_in listed)) ≡ true
    by_test true h = refl
    by_test false h = h

there_filtered : (test : Wish → Bool) (wishes : List Wish) → AreThere test (filter test wishes) wishes
there_filtered test [] = tt
there_filtered test (w ∷ ws) = by_test (test w) refl (there_filtered test ws)
  where
    by_same : (b : Bool) → b ≡ true → (b || is_in w.txn (txns_in (filter test ws))) ≡ true
    by_same true e = refl
    by_same false e = cc

    by_test : (b : Bool) → test w ≡ b → AreThere test (filter test ws) ws → AreThere test (cond b (w ∷ filter test ws) (filter test ws)) (w ∷ ws)
    by_test true e all = ((λ passes. by_same (w.txn == w.txn) (eq-eqb w.txn w.txn refl)), there_later test w (filter test ws) ws all)
    by_test false e all = ((λ passes. let k : false ≡ true = sym e ∙ passes in cc), all)

there_behind : (test : Wish → Bool) (xs ys wishes : List Wish) → AreThere test ys wishes → AreThere test (xs ++ ys) wishes
there_behind test xs ys [] all = tt
there_behind test xs ys (w ∷ ws) all = ((λ passes. is_in_behind w.txn xs ys (all.0 passes)), there_behind test xs ys ws all.1)

-- those that pass a test and are new are fewer where they are listed too
fewer : (test : Wish → Bool) (listed more wishes : List Wish) → ((w : Wish) → test w ≡ true → is_new listed w ≡ true) → AreThere test (listed ++ more) wishes →
    missing (listed ++ more) wishes + length (filter test wishes) ≤ missing listed wishes
unfolding missing is_new
fewer test listed more [] new there = omega arith
fewer test listed more (w ∷ ws) new there =
    by_tests (test w) (is_in w.txn (txns_in listed)) (is_in w.txn (txns_in (listed ++ more))) refl refl refl (fewer test listed more ws new there.1)
  where
    by_tests : (a b c : Bool) → test w ≡ a → is_in w.txn (txns_in listed) ≡ b → is_in w.txn (txns_in (listed ++ more)) ≡ c →
        missing (listed ++ more) ws + length (filter test ws) ≤ missing listed ws →
        (if not c then 1 + missing (listed ++ more) ws else missing (listed ++ more) ws) + length (cond a (w ∷ filter test ws) (filter test ws)) ≤
        (if not b then 1 + missing listed ws else missing listed ws)
    by_tests true true c e h k rest = absurd (let x : false ≡ true = sym (ap not h) ∙ new w e in cc)
    by_tests true false true e h k rest = omega (arith, rest)
    by_tests true false false e h k rest = absurd (let x : false ≡ true = sym k ∙ there.0 e in cc)
    by_tests false true true e h k rest = omega (arith, rest)
    by_tests false true false e h k rest = absurd (let x : false ≡ true = sym k ∙ is_in_before w.txn listed more h in cc)
    by_tests false false true e h k rest = omega (arith, rest)
    by_tests false false false e h k rest = omega (arith, rest)

filter_twice : (f g : Wish → Bool) (wishes : List Wish) → filter f (filter g wishes) ≡ filter (λ w. g w && f w) wishes
filter_twice f g [] = refl
filter_twice f g (w ∷ ws) = by_tests (g w) (f w) refl (filter_twice f g ws)
  where
    by_tests : (a b : Bool) → f w ≡ b → filter f (filter g ws) ≡ filter (λ x. g x && f x) ws →
        filter f (cond a (w ∷ filter g ws) (filter g ws)) ≡ cond (a && b) (w ∷ filter (λ x. g x && f x) ws) (filter (λ x. g x && f x) ws)
    by_tests true true e rest = ap (λ (b : Bool). cond b (w ∷ filter f (filter g ws)) (filter f (filter g ws))) e ∙ ap (λ (l : List Wish). w ∷ l) rest
    by_tests true false e rest = ap (λ (b : Bool). cond b (w ∷ filter f (filter g ws)) (filter f (filter g ws))) e ∙ rest
    by_tests false b e rest = rest

and_both : (a b c : Bool) → (a && (b && c)) ≡ true → c ≡ true
and_both true true c e = e
and_both true false c e = cc
and_both false b c e = cc

-- what a question adds to the list is new
fewer_new : (txn : ℕ) (named : List ℕ) (listed wishes : List Wish) →
    missing (listed ++ new_wishes txn listed (wishes_of named wishes)) wishes + length (new_wishes txn listed (wishes_of named wishes)) ≤ missing listed wishes
unfolding is_new
fewer_new txn named listed wishes =
    let test = λ (w : Wish). is_in w.txn named && (not (w.txn == txn) && not (is_in w.txn (txns_in listed))) in
    let same = filter_twice (λ w. not (w.txn == txn) && not (is_in w.txn (txns_in listed))) (λ w. is_in w.txn named) wishes in
    subst (λ (l : List Wish). missing (listed ++ l) wishes + length l ≤ missing listed wishes) (sym same)
    (fewer test listed (filter test wishes) wishes (λ w e. and_both (is_in w.txn named) (not (w.txn == txn)) (not (is_in w.txn (txns_in listed))) e)
    (there_behind test listed (filter test wishes) wishes (there_filtered test wishes)))

fewer_first : (named : List ℕ) (wishes : List Wish) → length (wishes_of named wishes) + missing (wishes_of named wishes) wishes ≤ length wishes
unfolding is_new
fewer_first named wishes =
    let k = fewer (λ w. is_in w.txn named) [] (wishes_of named wishes) wishes (λ w e. refl) (there_filtered (λ w. is_in w.txn named) wishes) in
    let few = missing_few [] wishes in
    omega (arith, k, few)

search_goes : (setting : Setting) (txn : ℕ) (wishes steps : List Wish) (events : List Event) (done listed : List Wish) → length listed + missing (done ++ listed) wishes ≤ length steps →
    IsSearch txn wishes done listed (searched setting txn wishes steps events done listed)
search_goes setting txn wishes [] events done [] enough = tt
search_goes setting txn wishes (step ∷ steps) events done [] enough = tt
search_goes setting txn wishes [] events done (w ∷ ws) enough = absurd (omega arith)
search_goes setting txn wishes (step ∷ steps) events done (w ∷ ws) enough =
    let r = receipt_after setting events 0 txn (question_for w) in
    let named = named_in r.event.deed in
    let new = new_wishes txn (done ++ w ∷ ws) (wishes_of named wishes) in
    let k = fewer_new txn named (done ++ w ∷ ws) wishes in
    let same : (done ++ w ∷ []) ++ (ws ++ new) ≡ (done ++ w ∷ ws) ++ new = append_assoc done (w ∷ []) (ws ++ new) ∙ sym (append_assoc done (w ∷ ws) new) in (
      refl,
      search_goes setting txn wishes steps (events ++ r.event ∷ []) (done ++ w ∷ []) (ws ++ new)
          (subst (λ (l : List Wish). length (ws ++ new) + missing l wishes ≤ length steps) (sym same) (omega (arith, k, enough, length-append ws new))),
    )

-- the scheduler's search is one
pub searched_is : (setting : Setting) (txn : ℕ) (wishes : List Wish) (events : List Event) (named : List ℕ) →
    IsSearch txn wishes [] (wishes_of named wishes) (searched setting txn wishes wishes events [] (wishes_of named wishes))
searched_is setting txn wishes events named = search_goes setting txn wishes wishes events [] (wishes_of named wishes) (fewer_first named wishes)

-- The table has the tree of the wish.
pub record IsFitWish (setting : Setting) (w : Wish) : Type 0 where
  pub tree : w.tree < setting.plan.trees
  pub range : IsInterval w.range

fit_filter : (setting : Setting) (test : Wish → Bool) (wishes : List Wish) → AllByRecursion (IsFitWish setting) wishes → AllByRecursion (IsFitWish setting) (filter test wishes)
fit_filter setting test [] all = tt
fit_filter setting test (w ∷ ws) all = by_test (test w) (fit_filter setting test ws all.1)
  where
    by_test : (b : Bool) → AllByRecursion (IsFitWish setting) (filter test ws) → AllByRecursion (IsFitWish setting) (cond b (w ∷ filter test ws) (filter test ws))
    by_test true rest = (all.0, rest)
    by_test false rest = rest

fit_both : (setting : Setting) (xs ys : List Wish) → AllByRecursion (IsFitWish setting) xs → AllByRecursion (IsFitWish setting) ys → AllByRecursion (IsFitWish setting) (xs ++ ys)
fit_both setting [] ys all rest = rest
fit_both setting (x ∷ xs) ys all rest = (all.0, fit_both setting xs ys all.1 rest)

calls_go : (setting : Setting) (txn : ℕ) (wishes steps : List Wish) (events : List Event) (done listed : List Wish) → AllByRecursion (IsFitWish setting) wishes →
    AllByRecursion (IsFitWish setting) listed →
    AreCalls setting txn events (searched setting txn wishes steps events done listed)
calls_go setting txn wishes [] events done listed fit all = tt
calls_go setting txn wishes (step ∷ steps) events done [] fit all = tt
calls_go setting txn wishes (step ∷ steps) events done (w ∷ ws) fit all =
    let r = receipt_after setting events 0 txn (question_for w) in
    let named = named_in r.event.deed in (
      record { deed = question_for w; is = refl; tree = all.0.tree; question = all.0.range },
      calls_go setting txn wishes steps (events ++ r.event ∷ []) (done ++ w ∷ []) (ws ++ new_wishes txn (done ++ w ∷ ws) (wishes_of named wishes)) fit
          (fit_both setting ws _ all.1
          (fit_filter setting (λ x. not (x.txn == txn) && not (is_in x.txn (txns_in (done ++ w ∷ ws)))) (wishes_of named wishes)
          (fit_filter setting (λ x. is_in x.txn named) wishes fit))),
    )

pub searched_calls : (setting : Setting) (txn : ℕ) (wishes : List Wish) (events : List Event) (named : List ℕ) → AllByRecursion (IsFitWish setting) wishes →
    AreCalls setting txn events (searched setting txn wishes wishes events [] (wishes_of named wishes))
searched_calls setting txn wishes events named fit = calls_go setting txn wishes wishes events [] (wishes_of named wishes) fit (fit_filter setting (λ w. is_in w.txn named) wishes fit)
