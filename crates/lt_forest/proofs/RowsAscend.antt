-- The rows of a cut whose pairs are lawful ascend.
use Rattle.std.proofs.Common.{ℕ, zero, suc, List, [], ◌∷◌, map, sym, subst}
use Rattle.std.specs.Prelude.{None, Some}
use Rattle.lt_seq.specs.Pairs.{IsLawful}
use Rattle.lt_forest.specs.declared.part.PartRow.{PartRow}
use Rattle.lt_forest.specs.Bounds.{Bound, IsAbove}
use Rattle.lt_forest.specs.Trees.{Nodes, in_order, pairs_in}
use Rattle.lt_forest.specs.Cuts.{Cut, bare}
use Rattle.lt_forest.specs.Parts.{rows_of, hangs_of, row_pair}
use Rattle.lt_forest.specs.Items.{items, rows_only, Ascends}
use Rattle.lt_forest.proofs.RowsAndHangs.{HangBetween, cut_between, pairs_of}

-- the first row begins above the bound
abbrev FirstAbove : Bound → List PartRow → Type 0
FirstAbove x [] = Unit {0}
FirstAbove x (r ∷ rows) = IsAbove x r.range.left

lawful_ascends : (x : Bound) (rows : List PartRow) → FirstAbove x rows → IsLawful (map row_pair rows) → Ascends x (rows_only rows)
lawful_ascends x [] above lawful = tt
lawful_ascends x (r ∷ []) above lawful = (above, lawful.0, tt)
lawful_ascends x (r ∷ q ∷ rows) above lawful =
    (above, lawful.0, lawful_ascends (Some r.range.right) (q ∷ rows) lawful.1.0 lawful.2)

none_above : (rows : List PartRow) → FirstAbove None rows
none_above [] = tt
none_above (r ∷ rows) = tt

pub cut_ascends : (c : Nodes) (cut : Cut) → IsLawful (pairs_in c (bare cut)) → Ascends None (rows_only (rows_of c cut))
cut_ascends c cut lawful = lawful_ascends None (rows_of c cut) (none_above (rows_of c cut))
    (subst IsLawful (sym (pairs_of c (in_order (bare cut)))) lawful)

-- with what hangs
ascends_items : (rows : List PartRow) (ls : List ℕ) (x : Bound) → HangBetween rows ls → Ascends x (rows_only rows)
    → Ascends x (items rows ls)
ascends_items [] [] x e a = absurd e
ascends_items [] (zero ∷ []) x e a = tt
ascends_items [] (suc l ∷ []) x e a = tt
ascends_items [] (l ∷ m ∷ ls) x e a = absurd e
ascends_items (r ∷ rows) [] x e a = absurd e
ascends_items (r ∷ rows) (zero ∷ ls) x e a = (a.0, a.1, ascends_items rows ls (Some r.range.right) e a.2)
ascends_items (r ∷ rows) (suc l ∷ ls) x e a = (a.0, a.1, ascends_items rows ls (Some r.range.right) e a.2)

pub items_ascend : (c : Nodes) (cut : Cut) → IsLawful (pairs_in c (bare cut)) → Ascends None (items (rows_of c cut) (hangs_of cut))
items_ascend c cut lawful = ascends_items (rows_of c cut) (hangs_of cut) None (cut_between c cut) (cut_ascends c cut lawful)
