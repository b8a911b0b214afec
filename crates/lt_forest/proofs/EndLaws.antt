-- Laws of the links that hang below a cut, and of their bounds.
use Rattle.std.proofs.Common.{◌≡◌, inl, inr, ℕ, zero, suc, List, [], ◌∷◌, ◌++◌, refl, sym, ap, ap₂, ◌∙◌, subst}
use Rattle.std.specs.Prelude.{Some, None}
use Rattle.lt_ranges.specs.Interval.{Interval, IsInterval}
use Rattle.lt_seq.specs.declared.event.Pair.{Pair}
use Rattle.lt_forest.specs.Pairs.{Has}
use Rattle.lt_forest.specs.Bounds.{Bound, IsInside, NoGreater, NoLess}
use Rattle.lt_forest.specs.Trees.{Node, Nodes, pair_of, left_end, right_end, in_order, pairs_in, IsOrdered}
use Rattle.lt_forest.specs.Cuts.{Cut, end, held, bare, links, End, ends, AllEnds, Looser, EndsBefore, BeginsBehind, AllAside}
use Rattle.lt_forest.proofs.BoundLaws.{above_more, below_less, above_is, below_is, greater_same, less_same}
use Rattle.lt_forest.proofs.LawfulTrees.{node_has, all_inside}
use Rattle.lt_forest.proofs.SameRows.{AgreeOn, on_left, on_right, on_here}

pub all_app : (P : End → Type 0) (es fs : List End) → AllEnds P es → AllEnds P fs → AllEnds P (es ++ fs)
all_app P [] fs a b = b
all_app P (e ∷ es) fs a b = (a.0, all_app P es fs a.1 b)

pub all_left : (P : End → Type 0) (es fs : List End) → AllEnds P (es ++ fs) → AllEnds P es
all_left P [] fs a = tt
all_left P (e ∷ es) fs a = (a.0, all_left P es fs a.1)

pub all_right : (P : End → Type 0) (es fs : List End) → AllEnds P (es ++ fs) → AllEnds P fs
all_right P [] fs a = a
all_right P (e ∷ es) fs a = all_right P es fs a.1

-- The bounds of a cut's ends within outer bounds: where a cut alone gives none, the outer one counts.

abbrev or_else : Bound → Bound → Bound
or_else None x = x
or_else (Some k) x = Some k

abbrev fitted : Bound → Bound → List End → List End
fitted x y [] = []
fitted x y (e ∷ es) = (e.0, or_else e.1 x, or_else e.2 y) ∷ fitted x y es

fitted-++ : (x y : Bound) (es fs : List End) → fitted x y (es ++ fs) ≡ fitted x y es ++ fitted x y fs
fitted-++ x y [] fs = refl
fitted-++ x y (e ∷ es) fs = ap (λ (l : List End). (e.0, or_else e.1 x, or_else e.2 y) ∷ l) (fitted-++ x y es fs)

ends_fitted : (c : Nodes) (cut : Cut) (u v x y : Bound) → ends c cut (or_else u x) (or_else v y) ≡ fitted x y (ends c cut u v)
ends_fitted c (end zero) u v x y = refl
ends_fitted c (end (suc l)) u v x y = refl
ends_fitted c (held a r b) u v x y =
    ap₂ (λ (l m : List End). l ++ m) (ends_fitted c a u (left_end c r) x y) (ends_fitted c b (right_end c r) v x y)
    ∙ sym (fitted-++ x y (ends c a u (left_end c r)) (ends c b (right_end c r) v))

abbrev IsOver : Bound → Bound → Type 0
IsOver x None = Unit {0}
IsOver x (Some k) = NoGreater x (Some k)

abbrev IsUnder : Bound → Bound → Type 0
IsUnder y None = Unit {0}
IsUnder y (Some k) = NoLess y (Some k)

abbrev IsBetween : Bound → Bound → End → Type 0
IsBetween x y e = IsOver x e.1 × IsUnder y e.2

ends_between : (c : Nodes) (cut : Cut) (u v x y : Bound)
    → ((p : Pair) → Has p (pairs_in c (bare cut)) → IsInterval p.range × IsInside x y p.range)
    → IsOver x u → IsUnder y v → AllEnds (IsBetween x y) (ends c cut u v)
ends_between c (end zero) u v x y inside lo hi = tt
ends_between c (end (suc l)) u v x y inside lo hi = ((lo, hi), tt)
ends_between c (held a r b) u v x y inside lo hi =
    let range = (c r).range in
    let i = inside (pair_of c r) (node_has c (bare a) (bare b) r (pair_of c r) (inr (inl refl))) in
    all_app (IsBetween x y) (ends c a u (left_end c r)) (ends c b (right_end c r) v)
    (ends_between c a u (left_end c r) x y (λ p h. inside p (node_has c (bare a) (bare b) r p (inl h))) lo
    (below_is y range.left (below_less y range.left range.right i.1.1 i.0)))
    (ends_between c b (right_end c r) v x y (λ p h. inside p (node_has c (bare a) (bare b) r p (inr (inr h))))
    (above_is x range.right (above_more x range.left range.right i.1.0 i.0)) hi)

greater_fitted : (x k h : Bound) → IsOver x h → NoGreater k h → NoGreater (or_else k x) (or_else h x)
greater_fitted x None None over w = greater_same x
greater_fitted x None (Some h) over w = over
greater_fitted x (Some k) None over w = absurd w
greater_fitted x (Some k) (Some h) over w = w

less_fitted : (y k h : Bound) → IsUnder y h → NoLess k h → NoLess (or_else k y) (or_else h y)
less_fitted y None None under w = less_same y
less_fitted y None (Some h) under w = under
less_fitted y (Some k) None under w = absurd w
less_fitted y (Some k) (Some h) under w = w

looser_fitted : (x y : Bound) (es fs : List End) → AllEnds (IsBetween x y) es → Looser es fs
    → Looser (fitted x y es) (fitted x y fs)
looser_fitted x y [] [] all loose = tt
looser_fitted x y [] (k ∷ ks) all loose = absurd loose
looser_fitted x y (h ∷ hs) [] all loose = absurd loose
looser_fitted x y (h ∷ hs) (k ∷ ks) all loose = (
  loose.0,
  greater_fitted x k.1 h.1 all.0.0 loose.1,
  less_fitted y k.2 h.2 all.0.1 loose.2,
  looser_fitted x y hs ks all.1 loose.3,
)

-- bounds that are no tighter without outer bounds are no tighter within those of the part
pub looser_at : (c d : Nodes) (cut new : Cut) (x y : Bound) → IsOrdered c (bare cut) x y
    → Looser (ends c cut None None) (ends d new None None) → Looser (ends c cut x y) (ends d new x y)
looser_at c d cut new x y o loose =
    let between = ends_between c cut None None x y (λ p h. all_inside c (bare cut) x y p o h) tt tt in
    subst (λ (es : List End). Looser es (ends d new x y)) (sym (ends_fitted c cut None None x y))
    (subst (Looser (fitted x y (ends c cut None None))) (sym (ends_fitted d new None None x y))
    (looser_fitted x y (ends c cut None None) (ends d new None None) between loose))

aside_fitted : (x y : Bound) (range : Interval) (es : List End) → AllAside range es → AllAside range (fitted x y es)
aside_fitted x y range [] all = tt
aside_fitted x y range (e ∷ es) all = (
  elim all.0 [ inl k ↦ inl (keeps_before e.2 k) | inr k ↦ inr (keeps_behind e.1 k) ],
  aside_fitted x y range es all.1,
)
  where
    keeps_before : (b : Bound) → EndsBefore b range → EndsBefore (or_else b y) range
    keeps_before None k = absurd k
    keeps_before (Some key) k = k

    keeps_behind : (b : Bound) → BeginsBehind b range → BeginsBehind (or_else b x) range
    keeps_behind None k = absurd k
    keeps_behind (Some key) k = k

-- and what is aside without outer bounds is aside within them
pub aside_at : (c : Nodes) (cut : Cut) (x y : Bound) (range : Interval) → AllAside range (ends c cut None None)
    → AllAside range (ends c cut x y)
aside_at c cut x y range aside =
    subst (AllAside range) (sym (ends_fitted c cut None None x y)) (aside_fitted x y range (ends c cut None None) aside)

-- the links of the ends

abbrev pub links_of : List End → List ℕ
links_of [] = []
links_of (e ∷ es) = e.0 ∷ links_of es

links_of-++ : (es fs : List End) → links_of (es ++ fs) ≡ links_of es ++ links_of fs
links_of-++ [] fs = refl
links_of-++ (e ∷ es) fs = ap (λ (l : List ℕ). e.0 ∷ l) (links_of-++ es fs)

pub links_of-ends : (c : Nodes) (cut : Cut) (x y : Bound) → links_of (ends c cut x y) ≡ links cut
links_of-ends c (end zero) x y = refl
links_of-ends c (end (suc l)) x y = refl
links_of-ends c (held a r b) x y =
    links_of-++ (ends c a x (left_end c r)) (ends c b (right_end c r) y)
    ∙ ap₂ (λ (l m : List ℕ). l ++ m) (links_of-ends c a x (left_end c r)) (links_of-ends c b (right_end c r) y)

looser_links : (es fs : List End) → Looser es fs → links_of es ≡ links_of fs
looser_links [] [] loose = refl
looser_links [] (k ∷ ks) loose = absurd loose
looser_links (h ∷ hs) [] loose = absurd loose
looser_links (h ∷ hs) (k ∷ ks) loose = ap₂ (λ (l : ℕ) (m : List ℕ). l ∷ m) (sym loose.0) (looser_links hs ks loose.3)

pub same_links : (c d : Nodes) (cut new : Cut) (x y : Bound) → Looser (ends c cut x y) (ends d new x y) → links cut ≡ links new
same_links c d cut new x y loose =
    sym (links_of-ends c cut x y) ∙ (looser_links (ends c cut x y) (ends d new x y) loose ∙ links_of-ends d new x y)

-- rows that hold the same have the same ends
pub on_ends : (v c : Nodes) (cut : Cut) (x y : Bound) → AgreeOn v c (in_order (bare cut)) → ends v cut x y ≡ ends c cut x y
on_ends v c (end l) x y same = refl
on_ends v c (held a r b) x y same =
    let low = on_left v c (in_order (bare a)) (r ∷ in_order (bare b)) same in
    let rest = on_right v c (in_order (bare a)) (r ∷ in_order (bare b)) same in
    ap₂ (λ (es fs : List End). es ++ fs)
    (on_ends v c a x (left_end v r) low) (on_ends v c b (right_end v r) y (on_right v c (r ∷ []) (in_order (bare b)) rest))
    ∙ ap (λ (n : Node). ends c a x (Some n.range.left) ++ ends c b (Some n.range.right) y) (on_here v c r (in_order (bare b)) rest)
