-- Parts on one side of a held row, without that row and with it.
use Rattle.std.proofs.Common.{◌≡◌, inl, inr, ℕ, ◌+◌, ◌<◌, List, [], ◌∷◌, ◌++◌, length, length-append, true, refl, sym, ap, ◌∙◌, subst, arith, append-nil, ne_eqb}
use Rattle.std.specs.Prelude.{None, Some, nat_eq}
use mathlib.Core.Logic.{dite}
use native.Mathlib.Decide.{ℕ_discrete}
use Rattle.lt_ranges.specs.Interval.{Interval, IsInterval, before}
use Rattle.lt_ranges.proofs.KeyLaws.{le_trans}
use Rattle.lt_seq.specs.declared.event.Pair.{Pair}
use Rattle.lt_seq.specs.declared.event.Mode.{Mode}
use Rattle.lt_seq.specs.Pairs.{IsLawful, others, freed, count_freed, granted}
use Rattle.lt_seq.specs.Sound.{AllSound}
use Rattle.lt_seq.specs.Table.{TreeState}
use Rattle.lt_forest.specs.Counts.{one_if, times}
use Rattle.lt_forest.specs.Bounds.{Gap}
use Rattle.lt_forest.specs.Pairs.{Has}
use Rattle.lt_forest.specs.Trees.{Nodes, left_end, right_end, in_order, pair_of, pairs_in, IsOrdered}
use Rattle.lt_forest.specs.Cuts.{Cut, Shows, bare, end_if, ends, Looser, AllAside}
use Rattle.lt_forest.specs.Parts.{part_row, rows_of, hangs_of, hanging}
use Rattle.lt_forest.specs.Forest.{Forest, IsTree, IsForest}
use Rattle.lt_forest.specs.Plans.{from_row, IsInGap, IsSeen, IsPart, IsClosedFor, SameRows}
use Rattle.lt_forest.specs.Links.{Slot, left_of, right_of, row_with, link_in}
use Rattle.lt_forest.specs.Views.{AllHeld, HoldsPart}
use Rattle.lt_forest.specs.Sides.{far_link, around, IsOnSide, AddsTheRow, StepsOnSide}
use Rattle.lt_forest.proofs.BoundLaws.{lt_is}
use Rattle.lt_forest.proofs.PairLists.{map_app, lawful_left}
use Rattle.lt_forest.proofs.LawfulTrees.{lawful_ordered}
use Rattle.lt_forest.proofs.SameRows.{times-++}
use Rattle.lt_forest.proofs.EndLaws.{looser_at, aside_at}
use Rattle.lt_forest.proofs.RowsAndHangs.{ends-hanging, looser_app, looser_same}
use Rattle.lt_forest.proofs.VisitLaws.{aside_app}
use Rattle.lt_forest.proofs.HangsAside.{end_aside}
use Rattle.lt_forest.proofs.MiddleSteps.{middle_decides}

-- the part with the row is a part

pub shows_around : (c : Nodes) (s : Slot) (part : Cut) → Shows c (link_in c s) part → Shows c (row_with s + 1) (around c s part)
shows_around c (left_of h) part shows = (refl, shows, refl)
shows_around c (right_of h) part shows = (refl, refl, shows)

pub times-around : (c : Nodes) (s : Slot) (part : Cut) (q : ℕ)
    → times q (in_order (bare (around c s part))) ≡ times q (in_order (bare part)) + times q (row_with s ∷ [])
times-around c (left_of h) part q = times-++ q (in_order (bare part)) (h ∷ [])
times-around c (right_of h) part q = omega arith

pub side_part : {trees rows t : ℕ} {c : Nodes} {mode : ℕ → Mode} {state : List TreeState} {f : Forest} (s : Slot) (g : Gap) (part : Cut)
    → IsForest trees rows c mode state f → AllSound state → t < trees → IsTree (mode t)
    → IsSeen c (f.tree t) (from_row (row_with s) g) → Shows c (link_in c s) part
    → IsPart trees rows c mode state f t (from_row (row_with s) g) (around c s part)
side_part {c = c} s g part forest sound tree tree_mode seen shows = record {
  forest = forest;
  sound = sound;
  tree = tree;
  tree_mode = tree_mode;
  seen = seen;
  shows = shows_around c s part shows;
}

pub side_held : {has : ℕ → Type 0} {t : ℕ} {v : Nodes} (s : Slot) (g : Gap) (part : Cut) → has (row_with s)
    → AllHeld has (in_order (bare part)) → Shows v (link_in v s) part → HoldsPart has t (from_row (row_with s) g) v (around v s part)
side_held {has = has} {v = v} s g part row_held all shows = record {
  top_held = tt;
  shows = shows_around v s part shows;
  rows = λ q some. dite (ℕ_discrete (row_with s) q)
      (λ e. subst has e row_held)
      (λ ne.
      let n = times-around v s part q in
      let z : one_if (nat_eq (row_with s) q) ≡ 0 = ap one_if (ne_eqb (row_with s) q ne) in
      all q (omega arith));
}

-- in key order

pub adds_row : (c : Nodes) (s : Slot) (part : Cut) → AddsTheRow c s part
adds_row c (left_of h) part = record {
  rows = map_app (part_row c) (in_order (bare part)) (h ∷ []);
  hangs = refl;
  pairs = map_app (pair_of c) (in_order (bare part)) (h ∷ []);
}
adds_row c (right_of h) part = record { rows = refl; hangs = refl; pairs = refl }

pub side_lawful : (c : Nodes) (s : Slot) (part : Cut) → IsLawful (pairs_in c (bare (around c s part))) → IsLawful (pairs_in c (bare part))
side_lawful c (left_of h) part lawful =
    lawful_left (pairs_in c (bare part)) (pair_of c h ∷ []) (subst IsLawful (adds_row c (left_of h) part).pairs lawful)
side_lawful c (right_of h) part lawful = lawful.2

-- bounds

around_ordered : (c : Nodes) (s : Slot) (part : Cut) → IsLawful (pairs_in c (bare (around c s part)))
    → IsOrdered c (bare (around c s part)) None None
around_ordered c s part lawful = lawful_ordered c (bare (around c s part)) None None lawful (λ p h. (tt, tt))

pub side_closed : (c : Nodes) (s : Slot) (g : Gap) (part : Cut) (range : Interval) → IsLawful (pairs_in c (bare (around c s part)))
    → IsInGap (from_row (row_with s) g) range → IsOnSide c s range → AllAside range (hanging (rows_of c part) (hangs_of part) None None)
    → IsClosedFor range (from_row (row_with s) g) c (around c s part)
side_closed c s g part range lawful in_gap on flat = record {
  in_gap = in_gap;
  aside = by_side s on (around_ordered c s part lawful);
}
  where
    all : AllAside range (ends c part None None)
    all = subst (AllAside range) (sym (ends-hanging c part None None)) flat

    by_side : (s : Slot) → IsOnSide c s range → IsOrdered c (bare (around c s part)) None None
        → AllAside range (ends c (around c s part) None None)
    by_side (left_of h) on o =
        aside_app range (ends c part None (left_end c h)) (end_if (c h).right (right_end c h) None)
        (aside_at c part None (left_end c h) range all)
        (end_aside range (c h).right (right_end c h) None
        (inr (le_trans range.right (c h).range.left (c h).range.right (lt_is range.right (c h).range.left on) o.0)))
    by_side (right_of h) on o =
        aside_app range (end_if (c h).left None (left_end c h)) (ends c part (right_end c h) None)
        (end_aside range (c h).left None (left_end c h)
        (inl (le_trans (c h).range.left (c h).range.right range.left o.0 (lt_is (c h).range.right range.left on))))
        (aside_at c part (right_end c h) None range all)

pub side_looser : (c d : Nodes) (s : Slot) (part new : Cut) → IsLawful (pairs_in c (bare (around c s part)))
    → Looser (ends c part None None) (ends d new None None) → (c (row_with s)).range ≡ (d (row_with s)).range
    → far_link c s ≡ far_link d s → Looser (ends c (around c s part) None None) (ends d (around d s new) None None)
side_looser c d (left_of h) part new lawful loose range far =
    looser_app (ends c part None (left_end c h)) (ends d new None (left_end d h))
    (end_if (c h).right (right_end c h) None) (end_if (d h).right (right_end d h) None)
    (subst (λ (r : Interval). Looser (ends c part None (left_end c h)) (ends d new None (Some r.left))) range
    (looser_at c d part new None (left_end c h) (around_ordered c (left_of h) part lawful).3 loose))
    (subst (λ (x : ℕ × Interval). Looser (end_if (c h).right (right_end c h) None) (end_if x.0 (Some x.1.right) None))
    (λ j. (far j, range j)) (looser_same (end_if (c h).right (right_end c h) None)))
side_looser c d (right_of h) part new lawful loose range far =
    looser_app (end_if (c h).left None (left_end c h)) (end_if (d h).left None (left_end d h))
    (ends c part (right_end c h) None) (ends d new (right_end d h) None)
    (subst (λ (x : ℕ × Interval). Looser (end_if (c h).left None (left_end c h)) (end_if x.0 None (Some x.1.left)))
    (λ j. (far j, range j)) (looser_same (end_if (c h).left None (left_end c h))))
    (subst (λ (r : Interval). Looser (ends c part (right_end c h) None) (ends d new (Some r.right) None)) range
    (looser_at c d part new (right_end c h) None (around_ordered c (right_of h) part lawful).4 loose))

length-around : (c : Nodes) (s : Slot) (part : Cut) → length (in_order (bare (around c s part))) ≡ length (in_order (bare part)) + 1
length-around c (left_of h) part = omega (arith, length-append (in_order (bare part)) (h ∷ []))
length-around c (right_of h) part = omega arith

pub side_rows : (c d : Nodes) (s : Slot) (part new : Cut) (taken given : List ℕ) → SameRows part new taken given
    → SameRows (around c s part) (around d s new) taken given
side_rows c d s part new taken given same = record {
  each = λ q.
      let e = same.each q in
      let a = times-around c s part q in
      let b = times-around d s new q in
      omega arith;
  all =
      let e = same.all in
      let a = length-around c s part in
      let b = length-around d s new in
      omega arith;
}

-- what asks and frees make of it

only_one : (P : Pair → Type 0) (x : Pair) → P x → (p : Pair) → Has p (x ∷ []) → P p
only_one P x first p h = elim h [ inl e ↦ subst P (sym e) first | inr k ↦ absurd k ]

pub side_decides : (txn : ℕ) (range : Interval) (c : Nodes) (s : Slot) (part : Cut)
    → IsLawful (pairs_in c (bare (around c s part))) → IsInterval range → IsOnSide c s range → StepsOnSide txn range c s part
side_decides txn range c (left_of h) part lawful interval on =
    let pairs = (adds_row c (left_of h) part).pairs in
    let m = middle_decides txn range [] (pairs_in c (bare part)) (pair_of c h ∷ []) (subst IsLawful pairs lawful) interval (λ p k. absurd k)
    (only_one (λ p. before range p.range ≡ true) (pair_of c h) on) in
    record {
      same_others = ap (others txn range) pairs ∙ m.same_others;
      same_count = ap (count_freed txn range) pairs ∙ m.same_count;
      new_freed = ap (freed txn range) pairs ∙ m.new_freed;
      new_granted = ap (granted txn range) pairs ∙ m.new_granted;
    }
side_decides txn range c (right_of h) part lawful interval on =
    let whole : pair_of c h ∷ pairs_in c (bare part) ≡ pair_of c h ∷ (pairs_in c (bare part) ++ []) =
    ap (λ (l : List Pair). pair_of c h ∷ l) (sym (append-nil (pairs_in c (bare part)))) in
    let m = middle_decides txn range (pair_of c h ∷ []) (pairs_in c (bare part)) [] (subst IsLawful whole lawful) interval
    (only_one (λ p. before p.range range ≡ true) (pair_of c h) on) (λ p k. absurd k) in
    record {
      same_others = ap (others txn range) whole ∙ m.same_others;
      same_count = ap (count_freed txn range) whole ∙ m.same_count;
      new_freed = ap (freed txn range) whole ∙ (m.new_freed
          ∙ ap (λ (l : List Pair). pair_of c h ∷ l) (append-nil (freed txn range (pairs_in c (bare part)))));
      new_granted = ap (granted txn range) whole ∙ (m.new_granted
          ∙ ap (λ (l : List Pair). pair_of c h ∷ l) (append-nil (granted txn range (pairs_in c (bare part)))));
    }
