-- The passes of a new table, which are taken from the end.
use Rattle.std.proofs.Common.{◌≡◌, List, [], ◌∷◌, ◌++◌, map}
use Rattle.std.specs.Prelude.{Some}
use Rattle.std.specs.List.{All}
use Rattle.std.proofs.lemmas.List.Elements.{All-nil, All-cons, All-head, All-tail, All-pop}
use Rattle.lt_rows.specs.Openings.{IsNew, AreItsPasses}
use Rattle.lt_locktree.specs.declared.locktree.Locktree.{Locktree}
use Rattle.lt_locktree.specs.declared.tree_pass.TreePass.{TreePass}
use Rattle.lt_locktree.specs.Calls.{IsOfTable}

-- each of them is of the table
pub of_new : (t : Locktree) (passes : List TreePass) → AreItsPasses t.rows (map (λ (p : TreePass). p.pass) passes) → All (IsOfTable t) passes
of_new t passes new = go passes new.each
  where
    go : (l : List TreePass) → All (IsNew t.rows.table.shared.table_id t.rows.plan) (map (λ (p : TreePass). p.pass) l) → All (IsOfTable t) l
    go [] all = All-nil (IsOfTable t)
    go (p ∷ l) all =
        let rest = map (λ (p : TreePass). p.pass) l in
        let new = IsNew t.rows.table.shared.table_id t.rows.plan in
        All-cons (IsOfTable t) p l (All-head new p.pass rest all).of (go l (All-tail new p.pass rest all))

-- the last of them, and those that are left
pub last_of : (t : Locktree) (passes rest : List TreePass) (p : TreePass) → passes ≡ rest ++ p ∷ [] → All (IsOfTable t) passes
    → All (IsOfTable t) rest × IsOfTable t p
last_of t passes rest p is all = All-pop (IsOfTable t) passes rest (Some p) is all
