-- What an ask's event says, and what start and retry leave of the registry.
use Rattle.std.proofs.Common.{◌≡◌, ℕ, List, [], ◌∷◌, Bool, true, false, cond, not, ◌||◌, ◌&&◌, eqb, ltb, Some, None, Result, Ok, Err, refl, sym, ap, subst, ◌∙◌}
use Rattle.std.specs.List.{list_any, list_all}
use Rattle.std.specs.List.Sorted.{IsStrictlyIncreasing}
use Rattle.std.proofs.lemmas.Bool.{eq-eqb, eqb-true}
use Rattle.lt_ranges.specs.Numbers.{is_in}
use Rattle.lt_ranges.specs.Interval.{Interval, overlap}
use Rattle.lt_seq.specs.declared.event.Reply.TheVariants.{HeldBy}
use Rattle.lt_seq.specs.declared.event.Event.{Event}
use Rattle.lt_seq.specs.declared.event.Pair.{Pair}
use Rattle.lt_seq.specs.declared.event.Receipt.{Receipt}
use Rattle.lt_seq.specs.Table.{Setting, tree_at, ask_reply}
use Rattle.lt_seq.specs.Pairs.{others, is_others}
use Rattle.lt_seq.specs.History.{after}
use Rattle.lt_seq.specs.Yard.{PassView, AskAnswers}
use Rattle.lt_seq.proofs.RefusalLaws.{refused_by, others_are, others_increase}
use Rattle.lt_requests.proofs.SearchLaws.{may_filter}
use Rattle.lt_requests.specs.declared.wish.Wish.{Wish}
use Rattle.lt_requests.specs.Registered.{is_registered, wish_of, without, with_wish, may_ask, MayAsk}
use Rattle.lt_seq.specs.declared.fault.Fault.{Fault}
use Rattle.lt_requests.specs.declared.started.Started.{Started}
use Rattle.lt_requests.specs.declared.started.Started.TheVariants.{Granted as StartedGranted, Waits, Deadlock}
use Rattle.lt_requests.specs.Started.{deed_for, reply_of, IsSearched, IsStarted}

own_not : (a b : Bool) → (a && (not a && b)) ≡ false
own_not true b = refl
own_not false b = refl

none_own : (txn : ℕ) (range : Interval) (pairs : List Pair) → list_any (λ p. eqb p.owner txn && is_others txn range p) pairs ≡ false
none_own txn range [] = refl
none_own txn range (p ∷ pairs) = ap (λ b. b || list_any (λ q. eqb q.owner txn && is_others txn range q) pairs) (own_not (eqb p.owner txn) (overlap p.range range)) ∙ none_own txn range pairs

not_own : (txn : ℕ) (range : Interval) (pairs : List Pair) → is_in txn (others txn range pairs) ≡ false
not_own txn range pairs = others_are txn range pairs txn ∙ none_own txn range pairs

replied_by : (setting : Setting) (bar : ℕ) (old new : PassView) (wish : Wish) (ask : Receipt) → AskAnswers setting bar old new wish.txn (deed_for wish) (Ok ask) → (owners : List ℕ) → reply_of ask.event.deed ≡ HeldBy owners → (pairs : List Pair) × (owners ≡ others wish.txn wish.range pairs)
replied_by setting bar old new wish ask answers owners is =
    let happens = answers.answer.happens in
    let tree = tree_at (after setting happens.before) wish.tree in
    let said : ask_reply setting.plan.buffer wish.txn wish.range tree ≡ HeldBy owners = sym (ap (λ (e : Event). reply_of e.deed) happens.event) ∙ is in
    (tree.pairs, (refused_by setting.plan.buffer wish.txn wish.range tree owners said).0)

pub owners_ascend : (setting : Setting) (bar : ℕ) (old new : PassView) (wish : Wish) (ask : Receipt) → AskAnswers setting bar old new wish.txn (deed_for wish) (Ok ask) → (owners : List ℕ) → reply_of ask.event.deed ≡ HeldBy owners → IsStrictlyIncreasing owners
owners_ascend setting bar old new wish ask answers owners is =
    let by = replied_by setting bar old new wish ask answers owners is in
    subst IsStrictlyIncreasing (sym by.1) (others_increase wish.txn wish.range by.0)

pub owners_others : (setting : Setting) (bar : ℕ) (old new : PassView) (wish : Wish) (ask : Receipt) → AskAnswers setting bar old new wish.txn (deed_for wish) (Ok ask) → (owners : List ℕ) → reply_of ask.event.deed ≡ HeldBy owners → is_in wish.txn owners ≡ false
owners_others setting bar old new wish ask answers owners is =
    let by = replied_by setting bar old new wish ask answers owners is in
    subst (λ l. is_in wish.txn l ≡ false) (sym by.1) (not_own wish.txn wish.range by.0)

-- The registry.

pub none_registered : (txn : ℕ) (ws : List Wish) → wish_of txn ws ≡ None → is_registered txn ws ≡ false
none_registered txn [] e = refl
none_registered txn (w ∷ ws) e = by_test (eqb w.txn txn) e (none_registered txn ws)
  where
    by_test : (b : Bool) → cond b (Some w) (wish_of txn ws) ≡ None → (wish_of txn ws ≡ None → is_registered txn ws ≡ false) → (b || is_registered txn ws) ≡ false
    by_test true h rest = absurd (let no : Some w ≡ None → ⊥ = λ e. cc in no h)
    by_test false h rest = rest h

without_none : (txn : ℕ) (ws : List Wish) → is_registered txn ws ≡ false → without txn ws ≡ ws
without_none txn [] e = refl
without_none txn (w ∷ ws) e = by_test (eqb w.txn txn) e (without_none txn ws)
  where
    by_test : (b : Bool) → (b || is_registered txn ws) ≡ false → (is_registered txn ws ≡ false → without txn ws ≡ ws) → cond (not b) (w ∷ without txn ws) (without txn ws) ≡ w ∷ ws
    by_test true h rest = absurd (let no : true ≡ false → ⊥ = λ e. cc in no h)
    by_test false h rest = ap (λ l. w ∷ l) (rest h)

none_first : (txn : ℕ) (w : Wish) (ws : List Wish) → is_registered txn (w ∷ ws) ≡ false → (eqb w.txn txn ≡ false) × (is_registered txn ws ≡ false)
none_first txn w ws = by_test (eqb w.txn txn)
  where
    by_test : (b : Bool) → (b || is_registered txn ws) ≡ false → (b ≡ false) × (is_registered txn ws ≡ false)
    by_test true h = absurd (let no : true ≡ false → ⊥ = λ e. cc in no h)
    by_test false h = (refl, h)

-- a wish that was put in is taken out again
pub out_again : (wish : Wish) (ws : List Wish) → is_registered wish.txn ws ≡ false → without wish.txn (with_wish wish ws) ≡ ws
out_again wish [] e = ap (λ b. cond (not b) (wish ∷ []) []) (eq-eqb wish.txn wish.txn refl)
out_again wish (w ∷ ws) e =
    let parts = none_first wish.txn w ws e in
    by_test (ltb wish.txn w.txn) parts.0 (without_none wish.txn (w ∷ ws) e) (out_again wish ws parts.1)
  where
    by_test : (b : Bool) → eqb w.txn wish.txn ≡ false → without wish.txn (w ∷ ws) ≡ w ∷ ws → without wish.txn (with_wish wish ws) ≡ ws → without wish.txn (cond b (wish ∷ w ∷ ws) (w ∷ with_wish wish ws)) ≡ w ∷ ws
    by_test true h all rest = ap (λ b. cond (not b) (wish ∷ without wish.txn (w ∷ ws)) (without wish.txn (w ∷ ws))) (eq-eqb wish.txn wish.txn refl) ∙ all
    by_test false h all rest = ap (λ b. cond (not b) (w ∷ without wish.txn (with_wish wish ws)) (without wish.txn (with_wish wish ws))) h ∙ ap (λ l. w ∷ l) rest

and_both : (a b : Bool) → (a && b) ≡ true → (a ≡ true) × (b ≡ true)
and_both true b e = (refl, e)
and_both false b e = absurd (let no : false ≡ true → ⊥ = λ h. cc in no e)

pub may_with : (trees : ℕ) (wish : Wish) (ws : List Wish) → may_ask trees wish ≡ true → MayAsk trees ws → MayAsk trees (with_wish wish ws)
may_with trees wish [] may all = ap (λ b. b && true) may
may_with trees wish (w ∷ ws) may all = by_test (ltb wish.txn w.txn) (may_with trees wish ws may (and_both (may_ask trees w) (list_all (may_ask trees) ws) all).1)
  where
    by_test : (b : Bool) → MayAsk trees (with_wish wish ws) → MayAsk trees (cond b (wish ∷ w ∷ ws) (w ∷ with_wish wish ws))
    by_test true rest = ap (λ b. b && list_all (may_ask trees) (w ∷ ws)) may ∙ all
    by_test false rest = ap (λ b. b && list_all (may_ask trees) (with_wish wish ws)) (and_both (may_ask trees w) (list_all (may_ask trees) ws) all).0 ∙ rest

-- a registered wish may be asked for
pub may_found : (trees txn : ℕ) (wish : Wish) (ws : List Wish) → MayAsk trees ws → wish_of txn ws ≡ Some wish → (may_ask trees wish ≡ true) × (wish.txn ≡ txn)
may_found trees txn wish [] all e = absurd (let no : None ≡ Some wish → ⊥ = λ h. cc in no e)
may_found trees txn wish (w ∷ ws) all e =
    let parts = and_both (may_ask trees w) (list_all (may_ask trees) ws) all in
    by_test (eqb w.txn txn) refl e (may_found trees txn wish ws parts.1) parts.0
  where
    by_test : (b : Bool) → eqb w.txn txn ≡ b → cond b (Some w) (wish_of txn ws) ≡ Some wish → (wish_of txn ws ≡ Some wish → (may_ask trees wish ≡ true) × (wish.txn ≡ txn)) → may_ask trees w ≡ true → (may_ask trees wish ≡ true) × (wish.txn ≡ txn)
    by_test true h k rest may = (let same : w ≡ wish = cc in (subst (λ v. may_ask trees v ≡ true) same may, subst (λ (v : Wish). v.txn ≡ txn) same (eqb-true w.txn txn h)))
    by_test false h k rest may = rest k

-- Answers.

pub may_after : (setting : Setting) (bar : ℕ) (wish : Wish) (others waiting before : List Wish) (old new : PassView) (after : List Wish) (result : Result Started Fault) → IsStarted setting bar wish others waiting before old new after result → MayAsk setting.plan.trees others → MayAsk setting.plan.trees waiting → MayAsk setting.plan.trees before → MayAsk setting.plan.trees after
may_after setting bar wish others waiting before old new after (Ok (StartedGranted place buffered)) is one two three = subst (MayAsk setting.plan.trees) (sym is.1) one
may_after setting bar wish others waiting before old new after (Ok (Waits owners)) is one two three = subst (MayAsk setting.plan.trees) (sym is.1) two
may_after setting bar wish others waiting before old new after (Ok (Deadlock walk)) is one two three = subst (MayAsk setting.plan.trees) (sym is.1) one
may_after setting bar wish others waiting before old new after (Err fault) is one two three = subst (MayAsk setting.plan.trees) (sym is.1) three

-- what was asked again with the wish in the registry was started
pub started_by : (setting : Setting) (bar : ℕ) (wish : Wish) (others out added waiting before : List Wish) (old new : PassView) (after : List Wish) (started : Started) → added ≡ waiting → out ≡ others → IsStarted setting bar wish out added added old new after (Ok started) → IsStarted setting bar wish others waiting before old new after (Ok started)
started_by setting bar wish others out added waiting before old new after (StartedGranted place buffered) with_it same is = (is.0, is.1 ∙ same)
started_by setting bar wish others out added waiting before old new after (Waits owners) with_it same is = (subst (λ l. IsSearched setting bar wish l old new owners None) with_it is.0, is.1 ∙ with_it)
started_by setting bar wish others out added waiting before old new after (Deadlock walk) with_it same is = (((is.0).0, subst (λ l. IsSearched setting bar wish l old new (is.0).0 (Some walk)) with_it (is.0).1), is.1 ∙ same)

same_wish : (a b : Wish) → Some a ≡ Some b → a ≡ b
same_wish a b e = cc

-- what was found in the registry is the wish
pub retried : (setting : Setting) (bar txn : ℕ) (wish : Wish) (ws : List Wish) (old new : PassView) (after : List Wish) (result : Result Started Fault) → wish_of txn ws ≡ Some wish → wish.txn ≡ txn → IsStarted setting bar wish (without wish.txn ws) ws ws old new after result → (w : Wish) → wish_of txn ws ≡ Some w → IsStarted setting bar w (without txn ws) ws ws old new after result
retried setting bar txn wish ws old new after result found own is w e =
    subst (λ v. IsStarted setting bar v (without txn ws) ws ws old new after result) (same_wish wish w (sym found ∙ e))
    (subst (λ n. IsStarted setting bar wish (without n ws) ws ws old new after result) own is)

pub not_both : {b : Bool} → b ≡ false → b ≡ true → ⊥
not_both e h = (let no : false ≡ true → ⊥ = λ k. cc in no (sym e ∙ h))

pub may_without : (trees txn : ℕ) (ws : List Wish) → MayAsk trees ws → MayAsk trees (without txn ws)
may_without trees txn ws may = may_filter trees (λ w. not (eqb w.txn txn)) ws may
