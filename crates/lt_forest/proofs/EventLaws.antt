-- A plan for an event in Tree mode, and one that changes no pair and no mode, keep the forest.
use Rattle.std.proofs.Common.{◌≡◌, ℕ, ◌+◌, ◌<◌, List, [], Bool, true, false, ◌&&◌, nat_lt, if◌then◌else◌, refl, sym, ap, ◌∙◌, subst}
use Rattle.std.proofs.lemmas.List.{set-get_or}
use Rattle.lt_seq.specs.declared.event.Pair.{Pair}
use Rattle.lt_seq.specs.declared.event.Mode.{Mode}
use Rattle.lt_seq.specs.declared.event.Mode.TheVariants.{Tree as TreeMode, Buffer}
use Rattle.lt_seq.specs.declared.event.Deed.{Deed}
use Rattle.lt_seq.specs.declared.event.Deed.TheVariants.{Ask, Free, Who, Join}
use Rattle.lt_seq.specs.Pairs.{others, granted}
use Rattle.lt_seq.specs.Table.{Setting, TreeState, fresh, tree_at, tree_after, replied, tree_of, is_buffered, pairs_by}
use Rattle.lt_forest.specs.Trees.{Nodes, pairs_in}
use Rattle.lt_forest.specs.Cuts.{Cut, bare}
use Rattle.lt_forest.specs.Forest.{Forest, IsTree, KeepsModes}
use Rattle.lt_forest.specs.Plans.{after_deed, IsReplied, Top, IsPart, IsClosedFor, Lays, range_of, shown_state, ShowsDeed, Relaid}
use Rattle.lt_forest.proofs.Changes.{Change}
use Rattle.lt_forest.proofs.PairChanges.{NoPair, drops_none, no_change}
use Rattle.lt_forest.proofs.DeedChanges.{at_score, DeedChange, deed_changes, not_buffered}
use Rattle.lt_forest.proofs.PartLaws.{part_lawful, part_fewer, part_finds}
use Rattle.lt_forest.proofs.PlanLaws.{same_pairs, in_range, relaid}

pub score_of : (mode : Mode) → IsTree mode → (score : ℕ) × (mode ≡ TreeMode score)
score_of (TreeMode score) is = (score, refl)
score_of (Buffer txn count) is = absurd is

-- a score of 100 stays in Tree mode

full_free : (first : Bool) → TreeMode (if first && nat_lt 100 100 then 100 + 1 else 100) ≡ TreeMode 100
full_free true = refl
full_free false = refl

pub full_stays : (setting : Setting) (txn : ℕ) (deed : Deed) (pairs : List Pair)
    → IsTree (tree_after setting txn deed (at_score pairs 100)).mode
    → (tree_after setting txn deed (at_score pairs 100)).mode ≡ TreeMode 100
full_stays setting txn (Ask tree range reply) pairs is =
    let buffered : Bool = is_buffered setting.plan.buffer txn pairs (TreeMode 100) in
    let into : TreeState = record { pairs = granted txn range pairs; mode = Buffer txn 1 } in
    let else_by : TreeState = at_score (pairs_by (others txn range pairs) txn range pairs) 100 in
    ap (λ (b : Bool). (if b then into else else_by).mode) (not_buffered buffered into else_by txn refl is)
full_stays setting txn (Free tree range first count) pairs is = full_free first
full_stays setting txn (Who tree range named owners) pairs is = refl
full_stays setting txn (Join tree before after) pairs is = refl

-- an event

module _ {trees rows : ℕ} {c d : Nodes} {mode mode' : ℕ → Mode} {state : List TreeState} {f : Forest} {setting : Setting}
    {txn : ℕ} {deed : Deed}
    {top : Top} {cut new : Cut} {taken given : List ℕ} (part : IsPart trees rows c mode state f (tree_of deed) top cut)
    (lays : Lays trees (tree_of deed) top c d cut new taken given) (closed : IsClosedFor (range_of deed) top c cut)
    (shows : ShowsDeed setting txn deed c d cut new (mode (tree_of deed)) (mode' (tree_of deed)))
    (other_modes : KeepsModes trees (tree_of deed) mode mode') where
  abbrev t : ℕ
  t = tree_of deed

  known_score : (score : ℕ) × (mode (tree_of deed) ≡ TreeMode score)
  known_score = score_of (mode t) part.tree_mode

  whole_state : at_score (tree_at state (tree_of deed)).pairs known_score.0 ≡ tree_at state (tree_of deed)
  whole_state i = record { pairs = (tree_at state t).pairs; mode = (sym known_score.1 ∙ part.forest.modes t part.tree) i }

  shown_is : at_score (pairs_in c (bare cut)) known_score.0 ≡ shown_state c cut (mode (tree_of deed))
  shown_is i = record { pairs = pairs_in c (bare cut); mode = sym known_score.1 i }

  change : DeedChange setting txn deed known_score.0 (pairs_in c (bare cut)) (tree_at state (tree_of deed)).pairs
  change = deed_changes setting txn known_score.0 (pairs_in c (bare cut)) (tree_at state t).pairs
      (part_lawful part) (part.sound t).lawful (part_fewer part) deed shows.question (part_finds part closed)
      (subst IsTree (shows.mode ∙ ap (λ (x : TreeState). (tree_after setting txn deed x).mode) (sym shown_is)) shows.is_tree)

  -- the replies are those of the table
  pub deed_replies : IsReplied setting txn deed state
  deed_replies =
      ap (replied setting txn deed) (sym whole_state)
      ∙ (change.replies ∙ (ap (replied setting txn deed) shown_is ∙ shows.replies))

  stays_full : mode (tree_of deed) ≡ TreeMode 100 → mode' (tree_of deed) ≡ TreeMode 100
  stays_full full =
      let at : mode' t ≡ (tree_after setting txn deed (at_score (pairs_in c (bare cut)) 100)).mode =
      shows.mode ∙ (λ i. (tree_after setting txn deed (record { pairs = pairs_in c (bare cut); mode = full i })).mode) in
      at ∙ full_stays setting txn deed (pairs_in c (bare cut)) (subst IsTree at shows.is_tree)

  pub event_relaid : Relaid trees rows c d mode mode' state (after_deed setting txn deed state)
      f (tree_of deed) top cut new
  event_relaid =
      let after : TreeState → TreeState = tree_after setting txn deed in
      relaid part lays (record {
        modes = record {
          is_tree = shows.is_tree;
          mode_is = shows.mode
              ∙ (ap (λ (x : TreeState). (after x).mode) (sym shown_is)
              ∙ (sym change.modes ∙ ap (λ (x : TreeState). (after x).mode) whole_state));
          full = stays_full;
          others = other_modes;
        };
        covered = in_range (range_of deed) closed change.local;
        shown = subst (Change change.added change.dropped (pairs_in c (bare cut)))
            (ap (λ (x : TreeState). (after x).pairs) shown_is ∙ sym shows.pairs) change.shown;
        whole = subst (λ (x : TreeState). Change change.added change.dropped (tree_at state t).pairs (after x).pairs) whole_state change.whole;
      })

-- a change of layout alone

module _ {trees rows t : ℕ} {c d : Nodes} {mode mode' : ℕ → Mode} {state : List TreeState} {f : Forest} {top : Top} {cut new : Cut}
    (part : IsPart trees rows c mode state f t top cut) (lays : Lays trees t top c d cut new [] [])
    (same : pairs_in d (bare new) ≡ pairs_in c (bare cut)) (modes : (s : ℕ) → s < trees → mode s ≡ mode' s) where
  pub layout_relaid : Relaid trees rows c d mode mode' state state f t top cut new
  layout_relaid = subst (λ (s : List TreeState). Relaid trees rows c d mode mode' state s f t top cut new) (set-get_or state t fresh)
      (relaid part lays (record {
        modes = record {
          is_tree = subst IsTree (modes t part.tree) part.tree_mode;
          mode_is = sym (modes t part.tree) ∙ part.forest.modes t part.tree;
          full = λ e. sym (modes t part.tree) ∙ e;
          others = λ s lt ne. modes s lt;
        };
        covered = same_pairs (λ p a. a) (λ p. refl);
        shown = subst (Change NoPair drops_none (pairs_in c (bare cut))) (sym same) (no_change (pairs_in c (bare cut)) (part_lawful part));
        whole = no_change (tree_at state t).pairs (part.sound t).lawful;
      }))
