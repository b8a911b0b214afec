-- What holds between any two steps.
use Rattle.std.proofs.Common.{◌≡◌, inl, inr, ℕ, suc, ◌+◌, ◌<◌, ◌≤◌, List, [], ◌∷◌, map, sym, ap, ◌∙◌, subst, arith, ne_eqb}
use Rattle.std.specs.Prelude.{nat_eq, None}
use mathlib.Core.Logic.{dite}
use native.Mathlib.Decide.{ℕ_discrete}
use Rattle.lt_seq.specs.declared.event.Pair.{Pair}
use Rattle.lt_seq.specs.declared.event.Mode.{Mode}
use Rattle.lt_seq.specs.declared.event.Mode.TheVariants.{Tree as TreeMode, Buffer}
use Rattle.lt_rows.specs.declared.row_plan.RowPlan.{RowPlan}
use Rattle.lt_seq.specs.History.{after}
use Rattle.lt_rows.specs.Plan.{setting_of}
use Rattle.lt_seq.specs.Table.{tree_at}
use Rattle.lt_forest.specs.Bounds.{Gap}
use Rattle.lt_forest.specs.Counts.{one_if, times}
use Rattle.lt_forest.specs.Pairs.{Has}
use Rattle.lt_forest.specs.Trees.{Nodes, in_order, pair_of}
use Rattle.lt_forest.specs.Forest.{Growth, search_tree, chain, Represents, GapIn}
use Rattle.lt_forest.proofs.GapLaws.{has_stands}
use Rattle.lt_rows.specs.declared.view.View.{View}
use Rattle.lt_rows.specs.Rule.{total}
use Rattle.lt_rows.specs.Woods.{woods}
use Rattle.lt_rows.specs.LawsOfRule.{OneHolds, AllRightsAreAlone, GappedRowIsOfItsTree, ClosedPartHasAllRows, LimitIsKept}
use Rattle.lt_rows.proofs.Lists.{total_two}
use Rattle.lt_rows.proofs.Looks.{whole_front}
use Rattle.lt_rows.proofs.InRow.{stood_at}
use Rattle.lt_rows.proofs.Lessons.{part_has_all}

pub one_holds : OneHolds
one_holds k s i j v u r a b rule at at' h h' =
    let x : rule.holder r ≡ suc i = ((rule.ties.each_seat i v at).each_row r a h).mine in
    let y : rule.holder r ≡ suc j = ((rule.ties.each_seat j u at').each_row r b h').mine in
    omega arith

pub all_rights_are_alone : AllRightsAreAlone
all_rights_are_alone k s i v rule at all = (
  whole_front k s.views rule.log i v rule.told at all,
  λ j u r row at' h. dite (ℕ_discrete j i) (λ e. e)
      (λ ne.
      let two : u.rights + v.rights ≤ total (λ (y : View). y.rights) s.views = total_two (λ (y : View). y.rights) s.views j i u v ne at' at in
      let sum = rule.told.rights in
      let some_right : 0 < u.rights = ((rule.ties.each_seat j u at').marked r row h).1 in
      absurd (omega arith)),
)

-- a row's pair stands among those of its rows
has_pair : (c : Nodes) (rows : List ℕ) (q : ℕ) → 0 < times q rows → Has (pair_of c q) (map (pair_of c) rows)
has_pair c [] q some = absurd (omega (arith, some))
has_pair c (r ∷ rows) q some = dite (ℕ_discrete q r)
    (λ e. inl (ap (pair_of c) e))
    (λ ne. let o : one_if (nat_eq r q) ≡ 0 = ap one_if (ne_eqb r q (λ e. ne (sym e))) in inr (has_pair c rows q (omega arith)))

-- a row with a gap shows a pair of its tree
pub placed_pair : (c : Nodes) (link : ℕ) (growth : Growth) (pairs : List Pair) (mode : Mode) (q : ℕ) (g : Gap) → Represents c link growth pairs mode → GapIn c growth q g → Has (pair_of c q) pairs
placed_pair c link (search_tree t) pairs (TreeMode score) q g rep gap = subst (Has (pair_of c q)) rep.1 (has_pair c (in_order t) q (has_stands c t None None q g gap))
placed_pair c link (search_tree t) pairs (Buffer txn count) q g rep gap = absurd rep
placed_pair c link (chain rows) pairs mode q g rep gap = absurd gap

pub gapped_row_is_of_its_tree : GappedRowIsOfItsTree
gapped_row_is_of_its_tree k s i v r row g rule at h is =
    let p = rule.gaps i v at r row g h is in
    let f = rule.shape.forest in (
      p.tree,
      placed_pair _ _ _ _ _ r (g.low, g.high) (f.grown g.tree p.tree) p.gap,
      λ full. sym (f.modes g.tree p.tree) ∙ p.full full,
    )

pub closed_part_has_all_rows : ClosedPartHasAllRows
closed_part_has_all_rows k s i v t top score cut range p rule at plan_is lt knows part closed h over =
    part_has_all v rule.log (stood_at woods k s rule i v at plan_is) t top score cut (subst (λ (y : RowPlan). t < y.trees) (sym plan_is) lt) knows part range closed p
    (subst (λ (y : RowPlan). Has p (tree_at (after (setting_of y) rule.log) t).pairs) (sym plan_is) h) over

pub limit_is_kept : LimitIsKept
limit_is_kept k s rule = rule.told.licence
