-- The trees below links, as a function of what the rows hold.
use Rattle.std.proofs.Common.{◌≡◌, ℕ, zero, suc, ◌+◌, ◌≤◌, List, [], ◌∷◌, ◌++◌, refl, sym, ap, ap₂, ◌∙◌, subst, arith}
use Rattle.lt_forest.specs.Trees.{Tree, leaf, node, Nodes, LeadsTo, in_order}
use Rattle.lt_forest.specs.Cuts.{Cut, end, held, Shows, fill, links}
use Rattle.lt_forest.proofs.TreeLaws.{leads_stays}
use Rattle.lt_forest.proofs.SameRows.{AgreeOn, on_left, on_right, on_tree}
use Rattle.lt_forest.proofs.HangLaws.{hung}

-- the tree below a link, no higher than n
abbrev pub grow : Nodes → ℕ → ℕ → Tree
grow c n zero = leaf
grow c zero (suc r) = leaf
grow c (suc n) (suc r) = node (grow c n (c r).left) r (grow c n (c r).right)

abbrev pub height : Tree → ℕ
height leaf = 0
height (node a r b) = suc (height a + height b)

pub grow_none : (c : Nodes) (n : ℕ) → grow c n 0 ≡ leaf
grow_none c zero = refl
grow_none c (suc n) = refl

grow_one : (c : Nodes) (n link r : ℕ) → link ≡ r + 1 → grow c (suc n) link ≡ node (grow c n (c r).left) r (grow c n (c r).right)
grow_one c n zero r e = absurd (omega (arith, e))
grow_one c n (suc l) r e = ap (λ (m : ℕ). node (grow c n (c m).left) m (grow c n (c m).right)) (omega (arith, e))

pub grow_is : (c : Nodes) (n link : ℕ) (t : Tree) → LeadsTo c link t → height t ≤ n → grow c n link ≡ t
grow_is c n link leaf leads le = ap (grow c n) leads ∙ grow_none c n
grow_is c zero link (node a r b) leads le = absurd (omega (arith, le))
grow_is c (suc n) link (node a r b) leads le =
    grow_one c n link r leads.0
    ∙ ap₂ (λ (s t : Tree). node s r t)
    (grow_is c n (c r).left a leads.1 (omega (arith, le))) (grow_is c n (c r).right b leads.2 (omega (arith, le)))

-- the cut that a link shows, filled with these trees, is the tree below the link
pub fill_grow : (c : Nodes) (n link : ℕ) (cut : Cut) (t : Tree) → Shows c link cut → LeadsTo c link t → height t ≤ n
    → fill (grow c n) cut ≡ t
fill_grow c n link (end l) t shows leads le = ap (grow c n) (sym shows) ∙ grow_is c n link t leads le
fill_grow c n link (held a r b) leaf shows leads le =
    absurd (let z : link ≡ 0 = leads in let e = shows.0 in omega arith)
fill_grow c n link (held a r b) (node s q u) shows leads le =
    let same : r ≡ q = (let e = leads.0 in let f = shows.0 in omega arith) in
    let left = fill_grow c n (c q).left a s (subst (λ (m : ℕ). Shows c (c m).left a) same shows.1) leads.1 (omega (arith, le)) in
    let right = fill_grow c n (c q).right b u (subst (λ (m : ℕ). Shows c (c m).right b) same shows.2) leads.2 (omega (arith, le)) in
    (λ i. node (left i) (same i) (right i))

-- below each of these links stands its tree
abbrev pub AllGrow : Nodes → (ℕ → Tree) → List ℕ → Type 0
AllGrow c H [] = Unit {0}
AllGrow c H (l ∷ ls) = LeadsTo c l (H l) × AllGrow c H ls

grow_app : (c : Nodes) (H : ℕ → Tree) (xs ys : List ℕ) → AllGrow c H xs → AllGrow c H ys → AllGrow c H (xs ++ ys)
grow_app c H [] ys a b = b
grow_app c H (x ∷ xs) ys a b = (a.0, grow_app c H xs ys a.1 b)

grow_left : (c : Nodes) (H : ℕ → Tree) (xs ys : List ℕ) → AllGrow c H (xs ++ ys) → AllGrow c H xs
grow_left c H [] ys a = tt
grow_left c H (x ∷ xs) ys a = (a.0, grow_left c H xs ys a.1)

grow_right : (c : Nodes) (H : ℕ → Tree) (xs ys : List ℕ) → AllGrow c H (xs ++ ys) → AllGrow c H ys
grow_right c H [] ys a = a
grow_right c H (x ∷ xs) ys a = grow_right c H xs ys a.1

pub links_grow : (c : Nodes) (H : ℕ → Tree) (link : ℕ) (cut : Cut) → Shows c link cut → LeadsTo c link (fill H cut)
    → AllGrow c H (links cut)
links_grow c H link (end zero) shows leads = tt
links_grow c H link (end (suc l)) shows leads = (subst (λ (m : ℕ). LeadsTo c m (H (suc l))) shows leads, tt)
links_grow c H link (held a r b) shows leads =
    grow_app c H (links a) (links b) (links_grow c H (c r).left a shows.1 leads.1) (links_grow c H (c r).right b shows.2 leads.2)

pub all_grow : (c d : Nodes) (H : ℕ → Tree) (ls : List ℕ) → AgreeOn c d (hung H ls) → AllGrow c H ls → AllGrow d H ls
all_grow c d H [] same all = tt
all_grow c d H (l ∷ ls) same all = (
  leads_stays c d l (H l) (on_tree c d (H l) (on_left c d (in_order (H l)) (hung H ls) same)) all.0,
  all_grow c d H ls (on_right c d (in_order (H l)) (hung H ls) same) all.1,
)

pub fill_leads : (d : Nodes) (H : ℕ → Tree) (link : ℕ) (cut : Cut) → H 0 ≡ leaf → Shows d link cut → AllGrow d H (links cut)
    → LeadsTo d link (fill H cut)
fill_leads d H link (end zero) empty shows all = subst (λ (t : Tree). LeadsTo d link t) (sym empty) shows
fill_leads d H link (end (suc l)) empty shows all = subst (λ (m : ℕ). LeadsTo d m (H (suc l))) (sym shows) all.0
fill_leads d H link (held a r b) empty shows all = (
  shows.0,
  fill_leads d H (d r).left a empty shows.1 (grow_left d H (links a) (links b) all),
  fill_leads d H (d r).right b empty shows.2 (grow_right d H (links a) (links b) all),
)
