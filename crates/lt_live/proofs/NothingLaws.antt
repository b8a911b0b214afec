-- Where all transactions were played to their ends no tree has a pair.
use Rattle.std.proofs.Common.{◌≡◌, ℕ, zero, suc, List, [], ◌∷◌, Bool, true, false, ◌==◌, ◌||◌, map, get_or, replicate, is_some}
use Rattle.std.proofs.Common.{refl, sym, ap, subst, ◌∙◌}
use Rattle.std.specs.List.{AllByRecursion}
use Rattle.std.proofs.lemmas.Bool.{false≢true}
use Rattle.lt_ranges.specs.Interval.{Interval}
use Rattle.lt_ranges.specs.Numbers.{is_in}
use Rattle.lt_seq.specs.declared.event.Event.{Event}
use Rattle.lt_seq.specs.declared.event.Pair.{Pair}
use Rattle.lt_seq.specs.declared.event.Receipt.{Receipt}
use Rattle.lt_seq.specs.Table.{Setting, tree_at}
use Rattle.lt_seq.specs.History.{after}
use Rattle.lt_seq.specs.Questions.{receipts_of}
use Rattle.lt_trace.specs.declared.line.Line.{Line}
use Rattle.lt_trace.specs.Grammar.{txns_of}
use Rattle.lt_runner.specs.TurnView.{Recorded, Turn}
use Rattle.lt_runner.specs.Turn.{nothing_recorded}
use Rattle.lt_runner.specs.Plays.{Plays, lines_for, opening_stage}
use Rattle.lt_runner.specs.Run.{Play, AreAllPlayed}
use Rattle.lt_runner.specs.Played.{HasCome, Stands}
use Rattle.lt_runner.specs.Due.{ranges_in, due_in, OverlapsOne}
use Rattle.lt_runner.specs.Seats.{opening_seat}
use Rattle.lt_runner.specs.Standing.{AreFitDeeds}
use Rattle.lt_runner.proofs.ChoiceLaws.{on_true}
use Rattle.lt_runner.proofs.HoldLaws.{seats_own_due}
use Rattle.lt_crew.proofs.OpeningCrewLaws.{fit_deeds}
use Rattle.lt_crew.proofs.OwnLaws.{eq_of, no_receipts}
use Rattle.lt_live.specs.RunLive.{LiveLeavesNothing}
use Rattle.lt_live.proofs.LiveLaws.{begun}
use Rattle.lt_live.proofs.PlayedLaws.{StandsOver, plays_stand}

-- no pair of the tree is of this owner
abbrev OwnsNone : ℕ → List Pair → Type 0
OwnsNone owner pairs = AllByRecursion (λ p. p.owner ≡ owner → ⊥) pairs

none_due : (owner : ℕ) (due : List Interval) (pairs : List Pair) → due ≡ [] → AllByRecursion (λ p. p.owner ≡ owner → OverlapsOne p.range due) pairs →
    OwnsNone owner pairs
none_due owner due [] none all = tt
none_due owner due (p ∷ ps) none all =
    ((λ same. subst (OverlapsOne p.range) none (all.0 same)), none_due owner due ps none all.1)

-- One that has ended gives back nothing more.

over_due : (turn : Turn) (tree : ℕ) → is_some turn.outcome ≡ true → turn.releases ≡ [] → due_in tree turn ≡ []
over_due turn tree ended none =
    on_true (is_some turn.outcome) (ranges_in tree turn.releases) (get_or turn.recorded tree nothing_recorded).ranges ended
    ∙ ap (ranges_in tree) none

-- a transaction of the trace has a play
play_of : (setting : Setting) (lines : List Line) (history : List Event) (txn : ℕ) (plays : List Play) →
    AllByRecursion (λ play. Plays true setting lines history play.txn play.outcome play.moves) plays →
    is_in txn (map (λ play. play.txn) plays) ≡ true → StandsOver setting lines history txn
play_of setting lines history txn [] all there = absurd (false≢true there)
play_of setting lines history txn (p ∷ ps) all there =
    by_test (p.txn == txn) refl there (λ later. play_of setting lines history txn ps all.1 later)
  where
    by_test : (b : Bool) → (p.txn == txn) ≡ b → (b || is_in txn (map (λ play. play.txn) ps)) ≡ true →
        (is_in txn (map (λ play. play.txn) ps) ≡ true → StandsOver setting lines history txn) → StandsOver setting lines history txn
    by_test true h here later =
        subst (StandsOver setting lines history) (eq_of p.txn txn h) (plays_stand setting history lines p.txn p.outcome p.moves all.0)
    by_test false h here later = later here

-- One that is not of the trace has no event, and so has come nowhere: it is where it opened, with nothing recorded.

nothing_at : (trees tree : ℕ) → get_or (replicate trees nothing_recorded) tree nothing_recorded ≡ nothing_recorded
nothing_at zero tree = refl
nothing_at (suc trees) zero = refl
nothing_at (suc trees) (suc tree) = nothing_at trees tree

opening_stands : (setting : Setting) (lines : List Line) (history : List Event) (txn : ℕ) →
    receipts_of setting.plan.first txn history ≡ [] →
    Stands true setting [] lines history (opening_seat setting.plan.trees txn (lines_for txn lines))
opening_stands setting lines history txn none =
    subst (λ (rs : List Receipt). HasCome true setting [] history (opening_stage setting txn (lines_for txn lines))
    (opening_seat setting.plan.trees txn (lines_for txn lines)) rs) (sym none) (begun setting history txn (lines_for txn lines))

-- No pair.

module _ (setting : Setting) (lines : List Line) (history : List Event) (plays : List Play) (fit : AreFitDeeds setting lines)
    (all : AreAllPlayed true setting lines history plays) where
  owns_none : (tree txn : ℕ) → OwnsNone txn (tree_at (after setting history) tree).pairs
  owns_none tree txn = by_test (is_in txn (txns_of lines)) refl
    where
      by_test : (b : Bool) → is_in txn (txns_of lines) ≡ b → OwnsNone txn (tree_at (after setting history) tree).pairs
      by_test true there =
          let at = play_of setting lines history txn plays all.played (ap (is_in txn) all.txns ∙ there) in
          subst (λ (n : ℕ). OwnsNone n (tree_at (after setting history) tree).pairs) at.txn_is
          (none_due at.seat.turn.txn (due_in tree at.seat.turn) (tree_at (after setting history) tree).pairs
          (over_due at.seat.turn tree at.over.0 at.over.1)
          (seats_own_due setting at.searches lines history at.seat fit all.legal at.stands tree))
      by_test false apart =
          let seat = opening_seat setting.plan.trees txn (lines_for txn lines) in
          let none = no_receipts (λ pass. txns_of lines) setting.plan.first txn history all.others (λ pass there. false≢true (sym apart ∙ there)) in
          none_due txn (due_in tree seat.turn) (tree_at (after setting history) tree).pairs
          (ap (λ (r : Recorded). r.ranges) (nothing_at setting.plan.trees tree))
          (seats_own_due setting [] lines history seat fit all.legal (opening_stands setting lines history txn none) tree)

  no_pairs : (pairs : List Pair) → ((txn : ℕ) → OwnsNone txn pairs) → pairs ≡ []
  no_pairs [] none = refl
  no_pairs (p ∷ ps) none = absurd ((none p.owner).0 refl)

  all_leave_nothing : (tree : ℕ) → (tree_at (after setting history) tree).pairs ≡ []
  all_leave_nothing tree = no_pairs (tree_at (after setting history) tree).pairs (owns_none tree)

pub live_leaves_nothing : LiveLeavesNothing
live_leaves_nothing trace passes first history plays is_trace all =
    all_leave_nothing _ trace.lines history plays (fit_deeds trace passes first [] is_trace) all
