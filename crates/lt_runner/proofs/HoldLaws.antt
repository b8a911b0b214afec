-- Each pair of a transaction overlaps a range that it is to give back, whatever others do between its moves.
use Rattle.std.proofs.Common.{◌≡◌, ◌⊎◌, ℕ, zero, suc, ◌+◌, ◌≤◌, List, [], ◌∷◌, ◌++◌, Bool}
use Rattle.std.proofs.Common.{true, false, ◌==◌, inl, inr, if◌then◌else◌, is_some}
use Rattle.std.proofs.Common.{length, get_or, refl, sym, ap, subst}
use Rattle.std.proofs.Common.{◌∙◌, arith, eq-eqb, append_assoc, append-nil}
use Rattle.std.specs.List.{AllByRecursion, flat_map}
use Rattle.lt_ranges.specs.Interval.{Interval, overlap, whole}
use Rattle.lt_seq.specs.declared.event.Deed.{Deed}
use Rattle.lt_seq.specs.declared.event.Deed.TheVariants.{Ask, Free, Who, Join}
use Rattle.lt_seq.specs.declared.event.Reply.TheVariants.{Granted}
use Rattle.lt_seq.specs.declared.event.Event.{Event}
use Rattle.lt_seq.specs.declared.event.Pair.{Pair}
use Rattle.lt_seq.specs.declared.event.Receipt.{Receipt}
use Rattle.lt_seq.specs.Table.{Setting, TreeState, tree_at, tree_of}
use Rattle.lt_seq.specs.History.{after, IsLegal}
use Rattle.lt_seq.specs.Questions.{question, receipts_of}
use Rattle.lt_trace.specs.declared.line.Line.{Line}
use Rattle.lt_runner.specs.declared.release.Release.{Release}
use Rattle.lt_runner.specs.TurnView.{Turn, Seat}
use Rattle.lt_runner.specs.Turn.{Move, leaves, asks, waits, stops, escalates, grows}
use Rattle.lt_runner.specs.Turn.{ends, frees, receipts_in, turn_after, rest_of_release, nothing_recorded}
use Rattle.lt_runner.specs.Plays.{Stage, stage_after, stage_after_all, opening_stage}
use Rattle.lt_runner.specs.Plays.{MayFree, IsMove, ArePlayed, lines_for}
use Rattle.lt_runner.specs.Played.{Search, Stands}
use Rattle.lt_runner.specs.Steps.{IsSteady}
use Rattle.lt_runner.specs.Due.{ranges_in, due_in, OverlapsOne, AreDue, IsDueDeed}
use Rattle.lt_runner.specs.Standing.{AreFitDeeds, OwnsDue}
use Rattle.lt_runner.proofs.ChoiceLaws.{on_true, on_false}
use Rattle.lt_runner.proofs.SteadyLaws.{after_txn}
use Rattle.lt_runner.proofs.DueTurnLaws.{more_after}
use Rattle.lt_runner.proofs.DueGameLaws.{eq_of, all_fresh}
use Rattle.lt_runner.proofs.StandingLaws.{free_ended, steady_move, steady_opening}
use Rattle.lt_runner.proofs.HeldLineLaws.{due_of, own_due, DueBehind, due_grows, legal_front, due_event, due_free, due_others, range_in, AreDueOf, IsAtLineMove, line_due}

-- Its frees.

record IsFreeMove (stage : Stage) (move : Move) : Type 0 where
  next : Release
  rest : List Release
  free : Receipt
  move_is : move ≡ frees free
  owed : stage.turn.releases ≡ next ∷ rest
  asked : question free.event.deed ≡ Free next.tree next.range next.first 0

free_of : (stage : Stage) (since : ℕ) (rs : List Release) (move : Move) → MayFree since rs move → stage.turn.releases ≡ rs → IsFreeMove stage move
free_of stage since [] move may owed = absurd may
free_of stage since (r ∷ rs) (frees free) may owed = record { next = r; rest = rs; free = free; move_is = refl; owed = owed; asked = may.1 }
free_of stage since (r ∷ rs) (leaves joins) may owed = absurd may
free_of stage since (r ∷ rs) (asks joins ask) may owed = absurd may
free_of stage since (r ∷ rs) (waits joins ask wishes found) may owed = absurd may
free_of stage since (r ∷ rs) (stops joins place rows) may owed = absurd may
free_of stage since (r ∷ rs) (escalates join) may owed = absurd may
free_of stage since (r ∷ rs) grows may owed = absurd may
free_of stage since (r ∷ rs) ends may owed = absurd may

either : (setting : Setting) (history : List Event) (stage : Stage) (move : Move) → IsMove true setting history stage stage.turn.lines move →
    IsSteady setting stage.turn →
    IsAtLineMove stage move ⊎ IsFreeMove stage move
either setting history stage move may steady = by_lines stage.turn.lines refl may
  where
    by_lines : (lines : List Line) → stage.turn.lines ≡ lines → IsMove true setting history stage lines move →
        IsAtLineMove stage move ⊎ IsFreeMove stage move
    by_lines [] is m = inr (free_of stage stage.past.since stage.turn.releases move m refl)
    by_lines (line ∷ rest) is m = inl (line_due setting history stage line rest move steady is m)

abbrev Freed : Deed → ℕ → Interval → Type 0
Freed d tree range = (first : Bool) × (count : ℕ) × (d ≡ Free tree range first count)

free_deed : (d : Deed) (tree : ℕ) (range : Interval) (first : Bool) → question d ≡ Free tree range first 0 → Freed d tree range
free_deed (Ask t r reply) tree range first is = absurd (let k : Ask t r Granted ≡ Free tree range first 0 = is in cc)
free_deed (Free t r f count) tree range first is = (
  f,
  count,
  ap (λ (k : ℕ). Free k r f count) (ap tree_of is)
      ∙ ap (λ (i : Interval). Free tree i f count) (ap range_in is),
)
free_deed (Who t r named owners) tree range first is = absurd (let k : Who t r named [] ≡ Free tree range first 0 = is in cc)
free_deed (Join t n m) tree range first is = absurd (let k : Join t 0 0 ≡ Free tree range first 0 = is in cc)

-- behind a free what overlapped its range is given back
free_leaves : (setting : Setting) (txn : ℕ) (turn : Turn) (r : Release) (rs : List Release) (who : ℕ) → IsSteady setting turn →
    turn.releases ≡ r ∷ rs → who ≡ txn →
    (k owner : ℕ) (range : Interval) → (k ≡ r.tree → owner ≡ who → overlap range r.range ≡ false) → OverlapsOne range (due_of txn turn k owner) →
    OverlapsOne range (due_of txn (record turn { releases = rest_of_release turn.releases }) k owner)
free_leaves setting txn turn r rs who steady owed same k owner range apart = by_owner (owner == txn) refl
  where
    ended : is_some turn.outcome ≡ true
    ended = free_ended setting turn r rs steady owed

    was : due_in k turn ≡ ranges_in k (r ∷ rs)
    was = on_true (is_some turn.outcome) (ranges_in k turn.releases) (get_or turn.recorded k nothing_recorded).ranges ended ∙ ap (ranges_in k) owed

    is_now : due_in k (record turn { releases = rest_of_release turn.releases }) ≡ ranges_in k rs
    is_now =
        on_true (is_some turn.outcome) (ranges_in k (rest_of_release turn.releases)) (get_or turn.recorded k nothing_recorded).ranges ended
        ∙ ap (λ (l : List Release). ranges_in k (rest_of_release l)) owed

    by_tree : owner ≡ txn → (b : Bool) → (r.tree == k) ≡ b → OverlapsOne range (if b then r.range ∷ ranges_in k rs else ranges_in k rs) →
        OverlapsOne range (ranges_in k rs)
    by_tree own true e (inl here) = absurd (let no : overlap range r.range ≡ false = apart (sym (eq_of r.tree k e))
        (own ∙ sym same) in let x : false ≡ true = sym no ∙ here in cc)
    by_tree own true e (inr there) = there
    by_tree own false e some = some

    by_owner : (b : Bool) → (owner == txn) ≡ b → OverlapsOne range (if b then due_in k turn else whole ∷ []) →
        OverlapsOne range (if b then due_in k (record turn { releases = rest_of_release turn.releases }) else whole ∷ [])
    by_owner true e some = subst (OverlapsOne range) (sym is_now) (by_tree (eq_of owner txn e) (r.tree == k) refl
        (subst (OverlapsOne range) was some))
    by_owner false e some = some

-- The walk along the history.

abbrev first_or : Receipt → List Receipt → Receipt
first_or d [] = d
first_or d (r ∷ rs) = r

abbrev later : List Receipt → List Receipt
later [] = []
later (r ∷ rs) = rs

due_by : (Due : ℕ → ℕ → List Interval) (txn : ℕ) (e : Event) (r : Receipt) (place : ℕ) → e.txn ≡ txn → record { place = place; event = e } ≡ r →
    IsDueDeed Due txn r.event.deed → IsDueDeed Due e.txn e.deed
due_by Due txn e r place own same one = subst (λ (n : ℕ). IsDueDeed Due n e.deed) (sym own)
    (subst (λ (x : Receipt). IsDueDeed Due txn x.event.deed) (sym same) one)

-- so many steps along the history and the moves
abbrev WalksOn : Setting → List Event → ℕ → ℕ → Type 0
WalksOn setting history txn fuel =
    (before es : List Event) (place : ℕ) (stage : Stage) (ps : List Receipt) (ms : List Move) → length es + length ms ≤ fuel →
    IsLegal setting (before ++ es) → ArePlayed true setting history stage ms → IsSteady setting stage.turn → stage.turn.txn ≡ txn →
    AreDueOf (due_of txn stage.turn) txn ps →
    receipts_of place txn es ≡ ps ++ flat_map receipts_in ms → DueBehind setting txn stage.turn before →
    DueBehind setting txn (stage_after_all stage ms).turn (before ++ es)

walk_on : (setting : Setting) (history : List Event) (txn fuel : ℕ) → WalksOn setting history txn fuel → WalksOn setting history txn (suc fuel)
walk_on setting history txn fuel go before [] place stage [] [] few legal played steady own now all due =
    subst (DueBehind setting txn stage.turn) (sym (append-nil before)) due
walk_on setting history txn fuel go before [] place stage (p ∷ ps) ms few legal played steady own now all due =
    absurd (let k : [] ≡ p ∷ (ps ++ flat_map receipts_in ms) = all in cc)
walk_on setting history txn fuel go before [] place stage [] (m ∷ ms) few legal played steady own now all due =
    by_kind (either setting history stage m played.0 steady)
  where
    by_kind : IsAtLineMove stage m ⊎ IsFreeMove stage m → DueBehind setting txn (stage_after_all (stage_after stage m) ms).turn (before ++ [])
    by_kind (inl line) =
        go before [] place (stage_after stage m) (receipts_in m) ms (omega (arith, few)) legal played.1
        (steady_move true setting history stage m played.0 steady) (after_txn stage.turn m ∙ own)
        (subst (λ (n : ℕ). AreDueOf (due_of n (turn_after stage.turn m)) n (receipts_in m)) own line.due) all
        (due_grows setting txn stage.turn (turn_after stage.turn m) before (more_after stage.turn m line.goes line.line_move) due)
    by_kind (inr free) =
        absurd (let k : [] ≡ free.free ∷ flat_map receipts_in ms = all
        ∙ ap (λ (x : Move). receipts_in x ++ flat_map receipts_in ms) free.move_is in cc)
walk_on setting history txn fuel go before (e ∷ es) place stage ps ms few legal played steady own now all due = by_test (e.txn == txn) refl
  where
    legal_one : IsLegal setting (before ++ e ∷ [])
    legal_one = legal_front setting before e es legal

    on : IsLegal setting ((before ++ e ∷ []) ++ es)
    on = subst (IsLegal setting) (sym (append_assoc before (e ∷ []) es)) legal

    back : (turn : Turn) → DueBehind setting txn turn ((before ++ e ∷ []) ++ es) → DueBehind setting txn turn (before ++ e ∷ es)
    back turn = subst (DueBehind setting txn turn) (append_assoc before (e ∷ []) es)

    receipt : Receipt
    receipt = record { place = place; event = e }

    by_own : (qs : List Receipt) (ns : List Move) → (length (e ∷ es) + length ns ≤ suc fuel) → ArePlayed true setting history stage ns →
        AreDueOf (due_of txn stage.turn) txn qs → e.txn ≡ txn →
        receipt ∷ receipts_of (place + 1) txn es ≡ qs ++ flat_map receipts_in ns →
        DueBehind setting txn (stage_after_all stage ns).turn (before ++ e ∷ es)
    by_own (q ∷ qs) ns less moves them mine same =
        let event_due = due_event setting txn stage.turn before e legal_one
        (due_by (due_of txn stage.turn) txn e q place mine (ap (first_or receipt) same) them.0) due in
        back (stage_after_all stage ns).turn
        (go (before ++ e ∷ []) es (place + 1) stage qs ns (omega (arith, less)) on moves steady own them.1 (ap later same) event_due)
    by_own [] [] less moves them mine same = absurd (let k : receipt ∷ receipts_of (place + 1) txn es ≡ [] = same in cc)
    by_own [] (n ∷ ns) less moves them mine same = by_kind (either setting history stage n moves.0 steady)
      where
        by_kind : IsAtLineMove stage n ⊎ IsFreeMove stage n → DueBehind setting txn (stage_after_all (stage_after stage n) ns).turn (before ++ e ∷ es)
        by_kind (inl line) =
            go before (e ∷ es) place (stage_after stage n) (receipts_in n) ns (omega (arith, less)) legal moves.1
            (steady_move true setting history stage n moves.0 steady) (after_txn stage.turn n ∙ own)
            (subst (λ (k : ℕ). AreDueOf (due_of k (turn_after stage.turn n)) k (receipts_in n)) own line.due)
            (on_true (e.txn == txn) (receipt ∷ receipts_of (place + 1) txn es) (receipts_of (place + 1) txn es) (eq-eqb e.txn txn mine) ∙ same)
            (due_grows setting txn stage.turn (turn_after stage.turn n) before (more_after stage.turn n line.goes line.line_move) due)
        by_kind (inr free) =
            let here : receipt ∷ receipts_of (place + 1) txn es ≡ free.free ∷ flat_map receipts_in ns =
            same ∙ ap (λ (x : Move). receipts_in x ++ flat_map receipts_in ns) free.move_is in
            let event_is : e ≡ free.free.event = ap (λ (r : Receipt). r.event) (ap (first_or receipt) here) in
            let freed = free_deed e.deed free.next.tree free.next.range free.next.first (ap (λ (x : Event). question x.deed) event_is ∙ free.asked) in
            let first = freed.0 in
            let count = freed.1 in
            let e_is : e ≡ record { pass = e.pass; txn = e.txn; deed = Free free.next.tree free.next.range first count } =
            ap (λ (d : Deed). (let x : Event = record e { deed = d } in x)) freed.2 in
            let turn_is : turn_after stage.turn n ≡ record stage.turn { releases = rest_of_release stage.turn.releases } =
            ap (turn_after stage.turn) free.move_is in
            let given : DueBehind setting txn (record stage.turn { releases = rest_of_release stage.turn.releases }) (before ++ e ∷ []) =
            subst (λ (x : Event). DueBehind setting txn (record stage.turn { releases = rest_of_release stage.turn.releases }) (before ++ x ∷ []))
            (sym e_is)
            (due_free setting (due_of txn stage.turn)
            (due_of txn
            (record stage.turn { releases = rest_of_release stage.turn.releases })) before e.pass e.txn free.next.tree free.next.range first count
            (subst (λ (x : Event). IsLegal setting (before ++ x ∷ [])) e_is legal_one)
            (free_leaves setting txn stage.turn free.next free.rest e.txn steady free.owed mine) due) in
            back (stage_after_all (stage_after stage n) ns).turn
            (go (before ++ e ∷ []) es (place + 1) (stage_after stage n) [] ns (omega (arith, less)) on moves.1
            (steady_move true setting history stage n moves.0 steady) (after_txn stage.turn n ∙ own)
            tt (ap later here) (subst (λ (t : Turn). DueBehind setting txn t (before ++ e ∷ [])) (sym turn_is) given))

    by_test : (b : Bool) → (e.txn == txn) ≡ b → DueBehind setting txn (stage_after_all stage ms).turn (before ++ e ∷ es)
    by_test true mine =
        by_own ps ms few played now (eq_of e.txn txn mine) (sym (on_true (e.txn == txn) (receipt ∷ receipts_of (place + 1) txn es)
        (receipts_of (place + 1) txn es) mine) ∙ all)
    by_test false apart =
        back (stage_after_all stage ms).turn
        (go (before ++ e ∷ []) es (place + 1) stage ps ms (omega (arith, few)) on played steady own now
        (sym (on_false (e.txn == txn) (receipt ∷ receipts_of (place + 1) txn es) (receipts_of (place + 1) txn es) apart) ∙ all)
        (due_others setting txn stage.turn before e legal_one apart due))

walk : (setting : Setting) (history : List Event) (txn fuel : ℕ) → WalksOn setting history txn fuel
walk setting history txn zero before [] place stage [] [] few legal played steady own now all due =
    subst (DueBehind setting txn stage.turn) (sym (append-nil before)) due
walk setting history txn zero before [] place stage (p ∷ ps) ms few legal played steady own now all due =
    absurd (let k : [] ≡ p ∷ (ps ++ flat_map receipts_in ms) = all in cc)
walk setting history txn zero before [] place stage [] (m ∷ ms) few legal played steady own now all due = absurd (omega (arith, few))
walk setting history txn zero before (e ∷ es) place stage ps ms few legal played steady own now all due = absurd (omega (arith, few))
walk setting history txn (suc fuel) before es place stage ps ms few legal played steady own now all due =
    walk_on setting history txn fuel (walk setting history txn fuel) before es place stage ps ms few legal played steady own now all due

owns_due : (txn : ℕ) (turn : Turn) (tree : ℕ) (pairs : List Pair) → AreDue (due_of txn turn tree) pairs →
    AllByRecursion (λ p. p.owner ≡ txn → OverlapsOne p.range (due_in tree turn)) pairs
owns_due txn turn tree [] due = tt
owns_due txn turn tree (p ∷ ps) due = (
  (λ same. subst (OverlapsOne p.range) (own_due txn turn tree p.owner same) due.0),
  owns_due txn turn tree ps due.1,
)

pub seats_own_due : (setting : Setting) (searches : List Search) (lines : List Line) (history : List Event) (seat : Seat) →
    AreFitDeeds setting lines → IsLegal setting history →
    Stands true setting searches lines history seat → (tree : ℕ) → OwnsDue setting history seat.turn tree
seats_own_due setting searches lines history seat fit legal come tree =
    let txn = seat.turn.txn in
    let stage = opening_stage setting txn (lines_for txn lines) in
    let due = walk setting history txn (length history + length come.moves) [] history setting.plan.first stage [] come.moves
    (omega arith) legal come.played (steady_opening setting txn lines fit) refl tt (sym come.made)
    (λ k. subst (λ (t : TreeState). AreDue (due_of txn stage.turn k) t.pairs) (sym (all_fresh setting.plan.trees k)) tt) tree in
    owns_due txn seat.turn tree (tree_at (after setting history) tree).pairs
    (subst (λ (t : Turn). AreDue (due_of txn t tree) (tree_at (after setting history) tree).pairs) come.here due)
