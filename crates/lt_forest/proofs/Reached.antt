-- A search reaches exactly the hangs that aren't aside.
use Rattle.std.proofs.Common.{◌⊎◌, inl, inr, ◌↔◌, zero, suc, List, [], ◌∷◌, ◌++◌, refl, sym, subst}
use Rattle.std.specs.Prelude.{None}
use Rattle.lt_ranges.specs.Key.{key_le}
use Rattle.lt_ranges.specs.Interval.{Interval}
use Rattle.lt_seq.specs.Pairs.{IsLawful}
use Rattle.lt_forest.specs.Bounds.{Bound}
use Rattle.lt_forest.specs.Trees.{Nodes, left_end, right_end, pairs_in, IsOrdered}
use Rattle.lt_forest.specs.Cuts.{Cut, end, held, bare, End, ends, HasEnd, EndsBefore, BeginsBehind, IsAside, AllAside}
use Rattle.lt_forest.specs.Visits.{IsVisited, Reaches}
use Rattle.lt_forest.proofs.BoundLaws.{not_both}
use Rattle.lt_forest.proofs.LawfulTrees.{lawful_ordered}
use Rattle.lt_forest.proofs.RunLaws.{aside_left, aside_right}
use Rattle.lt_forest.proofs.VisitLaws.{by_test, all_before, all_behind}

end_left : (e : End) (es fs : List End) → HasEnd e es → HasEnd e (es ++ fs)
end_left e [] fs h = absurd h
end_left e (k ∷ es) fs h = elim h [ inl m ↦ inl m | inr m ↦ inr (end_left e es fs m) ]

end_right : (e : End) (es fs : List End) → HasEnd e fs → HasEnd e (es ++ fs)
end_right e [] fs h = h
end_right e (k ∷ es) fs h = inr (end_right e es fs h)

end_either : (e : End) (es fs : List End) → HasEnd e (es ++ fs) → HasEnd e es ⊎ HasEnd e fs
end_either e [] fs h = inr h
end_either e (k ∷ es) fs h = elim h [
  | inl m ↦ inl (inl m)
  | inr m ↦ elim (end_either e es fs m) [ inl a ↦ inl (inr a) | inr a ↦ inr a ]
]

one_aside : (range : Interval) (e : End) (es : List End) → AllAside range es → HasEnd e es → IsAside range e
one_aside range e [] all h = absurd h
one_aside range e (k ∷ es) all h = elim h [
  | inl m ↦ subst (IsAside range) (sym m) all.0
  | inr m ↦ one_aside range e es all.1 m
]

reached_hangs : (c : Nodes) (range : Interval) (cut : Cut) (x y : Bound) (e : End) → Reaches c range cut x y e → HasEnd e (ends c cut x y)
reached_hangs c range (end zero) x y e h = absurd h
reached_hangs c range (end (suc l)) x y e h = inl h
reached_hangs c range (held a r b) x y e h = elim h [
  | inl m ↦ end_left e (ends c a x (left_end c r)) (ends c b (right_end c r) y) (reached_hangs c range a x (left_end c r) e m.1)
  | inr m ↦ end_right e (ends c a x (left_end c r)) (ends c b (right_end c r) y) (reached_hangs c range b (right_end c r) y e m.1)
]

-- the cut's own bounds lie beyond the range
reached_meets : (c : Nodes) (range : Interval) (cut : Cut) (x y : Bound) (e : End) → (EndsBefore y range → ⊥) → (BeginsBehind x range → ⊥)
    → Reaches c range cut x y e → IsAside range e → ⊥
reached_meets c range (end zero) x y e high low h aside = absurd h
reached_meets c range (end (suc l)) x y e high low h aside =
    elim (subst (IsAside range) h aside) [ inl b ↦ high b | inr b ↦ low b ]
reached_meets c range (held a r b) x y e high low h aside = elim h [
  | inl m ↦ reached_meets c range a x (left_end c r) e (not_both (key_le (c r).range.left range.left) m.0) low m.1 aside
  | inr m ↦ reached_meets c range b (right_end c r) y e high (not_both (key_le range.right (c r).range.right) m.0) m.1 aside
]

reaches : (c : Nodes) (range : Interval) (cut : Cut) (x y : Bound) (e : End) → IsOrdered c (bare cut) x y → HasEnd e (ends c cut x y)
    → (IsAside range e → ⊥) → Reaches c range cut x y e
reaches c range (end zero) x y e o h meets = absurd h
reaches c range (end (suc l)) x y e o h meets = elim h [ inl m ↦ m | inr m ↦ absurd m ]
reaches c range (held a r b) x y e o h meets =
    elim (end_either e (ends c a x (left_end c r)) (ends c b (right_end c r) y) h) [
      | inl m ↦ by_test (key_le (c r).range.left range.left)
          (λ le. absurd (meets (one_aside range e (ends c a x (left_end c r)) (all_before c a x (c r).range.left range o.3 le) m)))
          (λ goes. inl (goes, reaches c range a x (left_end c r) e o.3 m meets))
      | inr m ↦ by_test (key_le range.right (c r).range.right)
          (λ le. absurd (meets (one_aside range e (ends c b (right_end c r) y) (all_behind c b y (c r).range.right range o.4 le) m)))
          (λ goes. inr (goes, reaches c range b (right_end c r) y e o.4 m meets))
    ]

pub reached_exactly : (c : Nodes) (cut : Cut) (range : Interval) (e : End) → IsLawful (pairs_in c (bare cut))
    → Reaches c range cut None None e ↔ (HasEnd e (ends c cut None None) × (IsAside range e → ⊥))
reached_exactly c cut range e lawful = (
  λ h. (reached_hangs c range cut None None e h, reached_meets c range cut None None e (λ b. b) (λ b. b) h),
  λ h. reaches c range cut None None e (lawful_ordered c (bare cut) None None lawful (λ p k. (tt, tt))) h.0 h.1,
)

-- in a closed part a search reaches no hang

visits : (c : Nodes) (range : Interval) (cut : Cut) (x y : Bound) → (EndsBefore y range → ⊥) → (BeginsBehind x range → ⊥)
    → AllAside range (ends c cut x y) → IsVisited c range cut
visits c range (end zero) x y high low aside = refl
visits c range (end (suc l)) x y high low aside = absurd (elim aside.0 [ inl b ↦ high b | inr b ↦ low b ])
visits c range (held a r b) x y high low aside = (
  λ goes. visits c range a x (left_end c r) (not_both (key_le (c r).range.left range.left) goes) low
      (aside_left range (ends c a x (left_end c r)) (ends c b (right_end c r) y) aside),
  λ goes. visits c range b (right_end c r) y high (not_both (key_le range.right (c r).range.right) goes)
      (aside_right range (ends c a x (left_end c r)) (ends c b (right_end c r) y) aside),
)

pub closed_visited : (c : Nodes) (cut : Cut) (range : Interval) → AllAside range (ends c cut None None) → IsVisited c range cut
closed_visited c cut range aside = visits c range cut None None (λ b. b) (λ b. b) aside
