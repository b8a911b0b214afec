-- Each pair of the table overlaps a range that its owner is to give back: an event that is no free keeps this, where what it grants is to be given back.
use Rattle.std.proofs.Common.{◌≡◌, ◌⊎◌, inl, inr, ℕ, List, [], ◌∷◌, ◌++◌, Bool, true, false, not, if◌then◌else◌, sym, ap, subst, arith, append-nil, append_assoc}
use Rattle.std.specs.List.{AllByRecursion, filter, fold}
use Rattle.lt_ranges.specs.declared.key.Key.{Key}
use Rattle.lt_ranges.specs.Key.{key_le}
use Rattle.lt_ranges.specs.Interval.{Interval, covers, hull}
use Rattle.lt_ranges.proofs.KeyLaws.{le_itself, le_trans}
use Rattle.lt_ranges.proofs.IntervalLaws.{covers_hull_left}
use Rattle.lt_seq.specs.declared.event.Pair.{Pair}
use Rattle.lt_seq.specs.declared.event.Deed.{Deed}
use Rattle.lt_seq.specs.declared.event.Deed.TheVariants.{Ask, Free, Who, Join}
use Rattle.lt_seq.specs.declared.event.Reply.{Reply}
use Rattle.lt_seq.specs.declared.event.Reply.TheVariants.{Granted, Buffered}
use Rattle.lt_seq.specs.declared.event.Event.{Event}
use Rattle.lt_seq.specs.declared.event.Receipt.{Receipt}
use Rattle.lt_seq.specs.Pairs.{AllAfter, IsLawful, is_own, others, freed, span, with_pair, granted, are_joined, with_front, joined}
use Rattle.lt_seq.specs.Table.{Setting, TreeState, fresh, opening, tree_at, tree_of, is_buffered, buffered_mode, ended, reply_by, ask_reply, pairs_by, after_ask, replied, tree_after, step}
use Rattle.lt_seq.specs.History.{after, IsNext, IsLegalFrom, IsLegal}
use Rattle.lt_seq.specs.Questions.{events_of}
use Rattle.lt_seq.proofs.HistoryLaws.{after_more}
use Rattle.lt_seq.proofs.LawfulLaws.{after-joined, lawful-joined, lawful_history}
use Rattle.lt_runner.specs.Turn.{reply_in}
use Rattle.lt_runner.specs.Due.{OverlapsOne, AreDue, IsDueReply, IsDueDeed}
use Rattle.lt_runner.proofs.BlockedLaws.{wider}
use Rattle.lt_runner.proofs.GrowLaws.{cover_first, PairsAt, at_set}

-- Pairs.

pub wider_one : (a b : Interval) (ranges : List Interval) → covers a b ≡ true → OverlapsOne b ranges → OverlapsOne a ranges
wider_one a b [] over some = absurd some
wider_one a b (r ∷ rs) over (inl here) = inl (wider a b r over here)
wider_one a b (r ∷ rs) over (inr there) = inr (wider_one a b rs over there)

-- where more is to be given back
pub due_more : (Old New : ℕ → List Interval) (pairs : List Pair) →
    ((owner : ℕ) (range : Interval) → OverlapsOne range (Old owner) → OverlapsOne range (New owner)) →
    AreDue Old pairs → AreDue New pairs
due_more Old New [] more due = tt
due_more Old New (p ∷ ps) more due = (more p.owner p.range due.0, due_more Old New ps more due.1)

due_filter : (Due : ℕ → List Interval) (test : Pair → Bool) (pairs : List Pair) → AreDue Due pairs → AreDue Due (filter test pairs)
due_filter Due test [] due = tt
due_filter Due test (p ∷ ps) due = by_test (test p) (due_filter Due test ps due.1)
  where
    by_test : (b : Bool) → AreDue Due (filter test ps) → AreDue Due (if b then p ∷ filter test ps else filter test ps)
    by_test true rest = (due.0, rest)
    by_test false rest = rest

due_with : (Due : ℕ → List Interval) (new : Pair) (pairs : List Pair) → OverlapsOne new.range (Due new.owner) → AreDue Due pairs →
    AreDue Due (with_pair new pairs)
due_with Due new [] one due = (one, tt)
due_with Due new (p ∷ ps) one due = by_test (key_le p.range.left new.range.left) (due_with Due new ps one due.1)
  where
    by_test : (b : Bool) → AreDue Due (with_pair new ps) → AreDue Due (if b then p ∷ with_pair new ps else new ∷ p ∷ ps)
    by_test true rest = (due.0, rest)
    by_test false rest = (one, due)

covers_on : (a b c : Interval) → covers a b ≡ true → covers b c ≡ true → covers a c ≡ true
covers_on a b c h k = grind (arith, le_trans a.left b.left c.left, le_trans c.right b.right a.right)

covers_fold : (acc : Interval) (ms : List Pair) → covers (fold (λ r p. hull r p.range) acc ms) acc ≡ true
covers_fold acc [] = grind (arith, le_itself)
covers_fold acc (m ∷ ms) = covers_on (fold (λ r p. hull r p.range) (hull acc m.range) ms) (hull acc m.range) acc (covers_fold (hull acc m.range) ms) (covers_hull_left acc m.range)

due_granted : (Due : ℕ → List Interval) (txn : ℕ) (range : Interval) (pairs : List Pair) → OverlapsOne range (Due txn) → AreDue Due pairs →
    AreDue Due (granted txn range pairs)
due_granted Due txn range pairs one due =
    due_with Due (record { owner = txn; range = span txn range pairs }) (freed txn range pairs)
    (wider_one (span txn range pairs) range (Due txn) (covers_fold range (filter (is_own txn range) pairs)) one) (due_filter Due (λ p. not (is_own txn range p)) pairs due)

due_front : (Due : ℕ → List Interval) (marks : List Key) (p : Pair) (qs : List Pair) → AllAfter p.range qs → IsLawful qs →
    OverlapsOne p.range (Due p.owner) → AreDue Due qs →
    AreDue Due (with_front marks p qs)
due_front Due marks p [] all lawful one due = (one, tt)
due_front Due marks p (q ∷ qs) all lawful one due = by_test (are_joined marks p q)
  where
    by_test : (b : Bool) →
        AreDue Due (if b then record { owner = p.owner; range = record { left = p.range.left; right = q.range.right } } ∷ qs else p ∷ q ∷ qs)
    by_test true = (wider_one (record { left = p.range.left; right = q.range.right }) p.range (Due p.owner) (cover_first p.range q.range all.0 lawful.0) one, due.1)
    by_test false = (one, due)

due_joined : (Due : ℕ → List Interval) (marks : List Key) (pairs : List Pair) → IsLawful pairs → AreDue Due pairs →
    AreDue Due (joined marks pairs)
due_joined Due marks [] lawful due = tt
due_joined Due marks (p ∷ ps) lawful due =
    due_front Due marks p (joined marks ps) (after-joined marks p.range ps lawful.1) (lawful-joined marks ps lawful.2) due.0 (due_joined Due marks ps lawful.2 due.1)

-- Events.

due_asked : (Due : ℕ → List Interval) (buffer txn : ℕ) (range : Interval) (t : TreeState) (reply : Reply) →
    reply ≡ ask_reply buffer txn range t → IsDueReply reply range (Due txn) →
    AreDue Due t.pairs → AreDue Due (after_ask buffer txn range t).pairs
due_asked Due buffer txn range t reply is one due = by_test (is_buffered buffer txn t.pairs t.mode) is
  where
    buffers : TreeState
    buffers = record { pairs = granted txn range t.pairs; mode = buffered_mode txn t.mode }

    grants : TreeState
    grants = record { pairs = pairs_by (others txn range t.pairs) txn range t.pairs; mode = ended t.mode }

    pairs_in : TreeState → List Pair
    pairs_in new = new.pairs

    due_by : (other : Reply) → reply ≡ other → IsDueReply other range (Due txn)
    due_by other same = subst (λ (r : Reply). IsDueReply r range (Due txn)) same one

    by_others : (owners : List ℕ) → reply ≡ reply_by owners → AreDue Due (pairs_by owners txn range t.pairs)
    by_others [] same = due_granted Due txn range t.pairs (due_by Granted same) due
    by_others (owner ∷ owners) same = due

    by_test : (b : Bool) → reply ≡ (if b then Buffered else reply_by (others txn range t.pairs)) →
        AreDue Due (pairs_in (if b then buffers else grants))
    by_test true same = due_granted Due txn range t.pairs (due_by Buffered same) due
    by_test false same = by_others (others txn range t.pairs) same

due_tree : (setting : Setting) (Due : ℕ → ℕ → List Interval) (txn : ℕ) (deed : Deed) (t : TreeState) → deed ≡ replied setting txn deed t →
    IsDueDeed Due txn deed → IsLawful t.pairs →
    AreDue (Due (tree_of deed)) t.pairs → AreDue (Due (tree_of deed)) (tree_after setting txn deed t).pairs
due_tree setting Due txn (Ask tree range reply) t is one lawful due = due_asked (Due tree) setting.plan.buffer txn range t reply (ap reply_in is) one due
due_tree setting Due txn (Free tree range first count) t is one lawful due = absurd one
due_tree setting Due txn (Who tree range named owners) t is one lawful due = due
due_tree setting Due txn (Join tree before_it after_it) t is one lawful due = due_joined (Due tree) setting.marks t.pairs lawful due

due_step : (setting : Setting) (Due : ℕ → ℕ → List Interval) (trees : List TreeState) (e : Event) → IsNext setting trees e →
    IsDueDeed Due e.txn e.deed →
    ((k : ℕ) → IsLawful (PairsAt trees k)) → ((k : ℕ) → AreDue (Due k) (PairsAt trees k)) → (tree : ℕ) →
    AreDue (Due tree) (PairsAt (step setting trees e) tree)
due_step setting Due trees e next one lawful due tree = on (at_set trees (tree_of e.deed) tree now fresh)
  where
    now : TreeState
    now = tree_after setting e.txn e.deed (tree_at trees (tree_of e.deed))

    on : (tree_at (step setting trees e) tree ≡ tree_at trees tree) ⊎ ((tree ≡ tree_of e.deed) × (tree_at (step setting trees e) tree ≡ now)) →
        AreDue (Due tree) (PairsAt (step setting trees e) tree)
    on (inl same) = subst (λ (t : TreeState). AreDue (Due tree) t.pairs) (sym same) (due tree)
    on (inr (is, put)) =
        subst (λ (t : TreeState). AreDue (Due tree) t.pairs) (sym put)
        (subst (λ (k : ℕ). AreDue (Due k) now.pairs) (sym is)
        (due_tree setting Due e.txn e.deed (tree_at trees (tree_of e.deed)) next.replies one (lawful (tree_of e.deed)) (due (tree_of e.deed))))

-- what comes behind a front of a legal history was the next event
pub legal_next : (setting : Setting) (before : List Event) (e : Event) (behind : List Event) → IsLegal setting (before ++ e ∷ behind) →
    IsLegal setting before × IsNext setting (after setting before) e
legal_next setting before e behind = go (opening setting) before
  where
    go : (trees : List TreeState) (es : List Event) → IsLegalFrom setting trees (es ++ e ∷ behind) →
        IsLegalFrom setting trees es × IsNext setting (fold (step setting) trees es) e
    go trees [] legal = (tt, legal.0)
    go trees (x ∷ es) legal = let rest = go (step setting trees x) es legal.1 in ((legal.0, rest.0), rest.1)

pub due_events : (setting : Setting) (Due : ℕ → ℕ → List Interval) (events : List Event) (rs : List Receipt) →
    IsLegal setting (events ++ events_of rs) →
    AllByRecursion (λ r. IsDueDeed Due r.event.txn r.event.deed) rs →
    ((k : ℕ) → AreDue (Due k) (PairsAt (after setting events) k)) → (tree : ℕ) →
    AreDue (Due tree) (PairsAt (after setting (events ++ events_of rs)) tree)
due_events setting Due events [] legal all due tree = subst (λ (es : List Event). AreDue (Due tree) (PairsAt (after setting es) tree)) (sym (append-nil events)) (due tree)
due_events setting Due events (r ∷ rs) legal all due tree =
    let e = r.event in
    let at = legal_next setting events e (events_of rs) legal in
    let lawful = lawful_history setting events at.0 in
    let same = append_assoc events (e ∷ []) (events_of rs) in
    subst (λ (es : List Event). AreDue (Due tree) (PairsAt (after setting es) tree)) same
    (due_events setting Due (events ++ e ∷ []) rs (subst (IsLegal setting) (sym same) legal) all.1
    (λ k. subst (λ (trees : List TreeState). AreDue (Due k) (PairsAt trees k)) (sym (after_more setting events e))
    (due_step setting Due (after setting events) e at.1 all.0 (λ j. (lawful.sound j).lawful) due k)) tree)
