-- Which links name the rows of a cut, and which rows the links name that hang below one.
use Rattle.std.proofs.Common.{◌≡◌, ◌⊎◌, inl, inr, ℕ, zero, suc, ◌+◌, ◌<◌, List, [], ◌∷◌, refl, sym, ap, subst, arith, ne_eqb}
use Rattle.std.specs.Prelude.{nat_eq}
use mathlib.Core.Logic.{dite}
use native.Mathlib.Decide.{ℕ_discrete}
use Rattle.lt_seq.specs.declared.event.Mode.{Mode}
use Rattle.lt_seq.specs.Table.{TreeState}
use Rattle.lt_forest.specs.Counts.{one_if, times}
use Rattle.lt_forest.specs.Trees.{Tree, leaf, node, Nodes, LeadsTo, in_order}
use Rattle.lt_forest.specs.Cuts.{Cut, end, held, Shows, bare, IsRow, links}
use Rattle.lt_forest.specs.Parts.{hangs_of}
use Rattle.lt_forest.specs.Forest.{Forest}
use Rattle.lt_forest.specs.Plans.{Top, IsPart}
use Rattle.lt_forest.specs.Links.{Slot, left_of, right_of, row_with, link_in}
use Rattle.lt_forest.proofs.SameRows.{times-++, one_here, one_equal}
use Rattle.lt_forest.proofs.HangLaws.{hung}
use Rattle.lt_forest.proofs.Growing.{AllGrow, links_grow}
use Rattle.lt_forest.proofs.TreeLaws.{last_link}
use Rattle.lt_forest.proofs.ForestLaws.{one_place}
use Rattle.lt_forest.proofs.FurtherRows.{in_tree_further}
use Rattle.lt_forest.proofs.PartLaws.{at, hanging, filled, rows_are}

-- the link to the cut, or a link of one of its rows, names the row
abbrev pub NamesIn : Nodes → ℕ → Cut → ℕ → Type 0
NamesIn c link cut q = (link ≡ q + 1) ⊎ ((s : Slot) × IsRow (row_with s) cut × (link_in c s ≡ q + 1))

in_left : (a b : Cut) (r p : ℕ) → IsRow p a → IsRow p (held a r b)
in_left a b r p stands = let t = times-++ p (in_order (bare a)) (r ∷ in_order (bare b)) in omega arith

in_right : (a b : Cut) (r p : ℕ) → IsRow p b → IsRow p (held a r b)
in_right a b r p stands = let t = times-++ p (in_order (bare a)) (r ∷ in_order (bare b)) in omega arith

at_top : (a b : Cut) (r : ℕ) → IsRow r (held a r b)
at_top a b r = let t = times-++ r (in_order (bare a)) (r ∷ in_order (bare b)) in let o = one_here r in omega arith

pub names_in : (c : Nodes) (link : ℕ) (cut : Cut) (q : ℕ) → Shows c link cut → IsRow q cut → NamesIn c link cut q
names_in c link (end l) q shows stands = absurd (omega (arith, stands))
names_in c link (held a r b) q shows stands =
    let t = times-++ q (in_order (bare a)) (r ∷ in_order (bare b)) in
    dite (ℕ_discrete (times q (in_order (bare a))) 0)
    (λ none. dite (ℕ_discrete (times q (in_order (bare b))) 0)
    (λ none'. dite (ℕ_discrete r q)
    (λ e. inl (let l = shows.0 in omega arith))
    (λ ne. let o : one_if (nat_eq r q) ≡ 0 = ap one_if (ne_eqb r q ne) in absurd (omega arith)))
    (λ there. elim (names_in c (c r).right b q shows.2 (omega arith)) [
      | inl e ↦ inr (right_of r, at_top a b r, e)
      | inr n ↦ inr (n.0, in_right a b r (row_with n.0) n.1, n.2)
    ]))
    (λ there. elim (names_in c (c r).left a q shows.1 (omega arith)) [
      | inl e ↦ inr (left_of r, at_top a b r, e)
      | inr n ↦ inr (n.0, in_left a b r (row_with n.0) n.1, n.2)
    ])

-- the links that hang

links_hangs : (cut : Cut) (r : ℕ) → times (suc r) (links cut) ≡ times (suc r) (hangs_of cut)
links_hangs (end zero) r = let z : one_if (nat_eq 0 (suc r)) ≡ 0 = ap one_if (ne_eqb 0 (suc r) (λ e. omega arith)) in omega arith
links_hangs (end (suc l)) r = refl
links_hangs (held a q b) r =
    let x = links_hangs a r in
    let y = links_hangs b r in
    let s = times-++ (suc r) (links a) (links b) in
    let t = times-++ (suc r) (hangs_of a) (hangs_of b) in
    omega arith

top_stands : (c : Nodes) (l r : ℕ) (t : Tree) → LeadsTo c l t → l ≡ suc r → 0 < times r (in_order t)
top_stands c l r leaf leads e = absurd (omega (arith, leads))
top_stands c l r (node a q b) leads e =
    let o = one_equal r q (let is = leads.0 in omega arith) in
    let s = times-++ r (in_order a) (q ∷ in_order b) in
    omega arith

hung_stands : (c : Nodes) (H : ℕ → Tree) (ls : List ℕ) (r : ℕ) → AllGrow c H ls → 0 < times (suc r) ls → 0 < times r (hung H ls)
hung_stands c H [] r all some = absurd (omega arith)
hung_stands c H (l ∷ ls) r all some =
    let s = times-++ r (in_order (H l)) (hung H ls) in
    dite (ℕ_discrete l (suc r))
    (λ e. let x = top_stands c l r (H l) all.0 e in omega arith)
    (λ ne.
    let z : one_if (nat_eq l (suc r)) ≡ 0 = ap one_if (ne_eqb l (suc r) ne) in
    let x = hung_stands c H ls r all.1 (omega arith) in
    omega arith)

pub hang_names : {trees rows t : ℕ} {c : Nodes} {mode : ℕ → Mode} {state : List TreeState} {f : Forest} {top : Top} {cut : Cut}
    → IsPart trees rows c mode state f t top cut → (r : ℕ) → 0 < times (r + 1) (hangs_of cut)
    → (trees < r) × (r < rows) × (times r (in_order (bare cut)) ≡ 0)
hang_names {trees} {rows} {t} {c} {mode} {state} {f} {top} {cut} part r some =
    let link : ℕ = last_link c (at part).path (c t).left in
    let all : AllGrow c (hanging part) (links cut) =
    links_grow c (hanging part) link cut (at part).shows (subst (LeadsTo c link) (sym (filled part)) (at part).leads) in
    let one : r + 1 ≡ suc r = omega arith in
    let there : 0 < times (suc r) (links cut) =
    (let e = links_hangs cut r in let n = ap (λ (l : ℕ). times l (hangs_of cut)) one in omega arith) in
    let h = hung_stands c (hanging part) (links cut) r all there in
    let are = rows_are part r in
    let m = one_place part.forest t part.tree r in
    let o = in_tree_further part.forest t r part.tree (omega arith) in
    (o.0, o.1, omega arith)
