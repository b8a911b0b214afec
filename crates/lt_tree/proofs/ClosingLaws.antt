-- What a search leaves is what a commit asks for: a part that is held and closed.
use Rattle.std.proofs.Common.{◌≡◌, inl, inr, ℕ, zero, suc, true, List, [], ◌∷◌, ◌++◌, sym, subst}
use Rattle.std.specs.Prelude.{Some, None}
use Rattle.lt_ranges.specs.Key.{key_le}
use Rattle.lt_ranges.specs.Interval.{Interval}
use Rattle.lt_forest.specs.declared.part.PartRow.{PartRow}
use Rattle.lt_forest.specs.Bounds.{Bound}
use Rattle.lt_forest.specs.Trees.{Nodes, left_end, right_end}
use Rattle.lt_forest.specs.Cuts.{Cut, end, held, End, ends, end_if, AllAside, EndsBefore, BeginsBehind}
use Rattle.lt_forest.specs.Parts.{hangs_of, hanging}
use Rattle.lt_forest.specs.Plans.{IsClosedFor}
use Rattle.lt_forest.proofs.RowsAndHangs.{ends-hanging}
use Rattle.lt_forest.proofs.VisitLaws.{aside_app}
use Rattle.lt_rows.specs.declared.view.View.{View}
use Rattle.lt_rows.specs.Lawful.{shown}
use Rattle.lt_tree.specs.Gathers.{Place, below_top, on_left, on_right, around, Beside, IsLockedWith, IsClosed}

aside_both : (range : Interval) (es fs : List End) → AllAside range (es ++ fs) → AllAside range es × AllAside range fs
aside_both range [] fs a = (tt, a)
aside_both range (e ∷ es) fs a = let b = aside_both range es fs a.1 in ((a.0, b.0), b.1)

aside_one : (range : Interval) (l : ℕ) (x y x' y' : Bound) → (EndsBefore y range → EndsBefore y' range) → (BeginsBehind x range → BeginsBehind x' range) → AllAside range (end_if l x y) → AllAside range (end_if l x' y')
aside_one range zero x y x' y' f g a = tt
aside_one range (suc l) x y x' y' f g a = (elim a.0 [ inl b ↦ inl (f b) | inr b ↦ inr (g b) ], tt)

-- between tighter bounds what is aside stays aside
aside_in : (c : Nodes) (range : Interval) (cut : Cut) (x y x' y' : Bound) → (EndsBefore y range → EndsBefore y' range) → (BeginsBehind x range → BeginsBehind x' range) → AllAside range (ends c cut x y) → AllAside range (ends c cut x' y')
aside_in c range (end l) x y x' y' f g a = aside_one range l x y x' y' f g a
aside_in c range (held p r q) x y x' y' f g a =
    let b = aside_both range (ends c p x (left_end c r)) (ends c q (right_end c r) y) a in
    aside_app range (ends c p x' (left_end c r)) (ends c q (right_end c r) y')
    (aside_in c range p x (left_end c r) x' (left_end c r) (λ e. e) g b.0)
    (aside_in c range q (right_end c r) y (right_end c r) y' f (λ e. e) b.1)

end_before : (range : Interval) (l : ℕ) (x : Bound) (k : _) → key_le k range.left ≡ true → AllAside range (end_if l x (Some k))
end_before range zero x k e = tt
end_before range (suc l) x k e = (inl e, tt)

end_behind : (range : Interval) (l : ℕ) (y : Bound) (k : _) → key_le range.right k ≡ true → AllAside range (end_if l (Some k) y)
end_behind range zero y k e = tt
end_behind range (suc l) y k e = (inr e, tt)

pub locked_closed : (v : View) (tree : ℕ) (asked : Interval) (here : ℕ) (rows : List PartRow) (hangs more : List ℕ)
    → (l : IsLockedWith v tree asked here rows hangs more) → IsClosed asked rows hangs
    → IsClosedFor asked l.top (shown v []) (around l.place here (shown v [] here) l.sub)
locked_closed v tree asked here rows hangs more l closed = record { in_gap = l.in_gap; aside = go l.place l.beside }
  where
    flat : AllAside asked (ends (shown v []) l.sub None None)
    flat =
        subst (AllAside asked) (sym (ends-hanging (shown v []) l.sub None None))
        (subst (λ (xs : List PartRow). AllAside asked (hanging xs (hangs_of l.sub) None None)) (sym l.rows_are)
        (subst (λ (xs : List ℕ). AllAside asked (hanging rows xs None None)) (sym l.hangs_are) closed))

    go : (p : Place) → Beside p asked (shown v [] here).range → AllAside asked (ends (shown v []) (around p here (shown v [] here) l.sub) None None)
    go below_top b = flat
    go on_left b =
        aside_app asked (ends (shown v []) l.sub None (left_end (shown v []) here)) (end_if (shown v [] here).right (right_end (shown v []) here) None)
        (aside_in (shown v []) asked l.sub None None None (left_end (shown v []) here) (λ e. absurd e) (λ e. e) flat)
        (end_behind asked (shown v [] here).right None (shown v [] here).range.right b.1)
    go on_right b =
        aside_app asked (end_if (shown v [] here).left None (left_end (shown v []) here)) (ends (shown v []) l.sub (right_end (shown v []) here) None)
        (end_before asked (shown v [] here).left None (shown v [] here).range.left b.1)
        (aside_in (shown v []) asked l.sub None None (right_end (shown v []) here) None (λ e. e) (λ e. absurd e) flat)
