-- The rights of a new table, spread over its passes.
use Rattle.std.proofs.Common.{◌≡◌, ℕ, zero, suc, ◌+◌, ◌-◌, ◌<◌, List, [], ◌∷◌, ◌++◌, map, length, refl, sym, ap, ◌∙◌, subst, arith, length-append}
use Rattle.std.specs.List.{All}
use Rattle.std.proofs.lemmas.List.{length-map}
use Rattle.std.proofs.lemmas.List.Elements.{All-nil, All-cons, All-head, All-tail, All-append}
use Rattle.lt_seq.specs.Passes.{numbers_from}
use Rattle.lt_rows.specs.declared.pass.RowPass.{RowPass}
use Rattle.lt_rows.specs.declared.note.RowNote.{RowNote}
use Rattle.lt_rows.specs.declared.view.View.{View}
use Rattle.lt_rows.specs.Openings.{IsNew, AreItsPasses, rights_at}
use Rattle.lt_rows.specs.Passes.{view}
use Rattle.lt_rows.specs.Views.{sharer, learner}
use Rattle.lt_locktree.specs.declared.locktree.Locktree.{Locktree}
use Rattle.lt_locktree.specs.declared.tree_pass.TreePass.{TreePass}
use Rattle.lt_locktree.specs.Calls.{sees, IsOfTable}
use Rattle.lt_c.specs.Sharing.{MayCall}

-- The first pass has so many rights that each of the rest can have one, and those before them have one each.
pub record AreSpread (t : Locktree) (first : TreePass) (rest made : List TreePass) : Type 0 where
  pub of : IsOfTable t first
  pub rights : (sees first).rights ≡ length rest + 1
  pub rest_of : All (IsOfTable t) rest
  pub may : All (MayCall t) made
  pub count : length made + length rest + 1 ≡ t.rows.plan.passes

abbrev pub row : TreePass → RowPass
row p = p.pass

numbers_length : (from count : ℕ) → length (numbers_from from count) ≡ count
numbers_length from zero = refl
numbers_length from (suc count) = ap suc (numbers_length (from + 1) count)

first_number : (n count : ℕ) (ns : List ℕ) → n ∷ ns ≡ numbers_from 0 count → n ≡ 0
first_number n zero ns is = absurd (omega (arith, ap length is))
first_number n (suc count) ns is = ap (λ (l : List ℕ). head_or l) is
  where
    head_or : List ℕ → ℕ
    head_or [] = 0
    head_or (x ∷ xs) = x

of_all : (t : Locktree) (passes : List TreePass) → All (IsNew t.rows.table.shared.table_id t.rows.plan) (map row passes)
    → All (IsOfTable t) passes
of_all t [] all = All-nil (IsOfTable t)
of_all t (p ∷ ps) all =
    let New = IsNew t.rows.table.shared.table_id t.rows.plan in
    All-cons (IsOfTable t) p ps (All-head New p.pass (map row ps) all).of (of_all t ps (All-tail New p.pass (map row ps) all))

-- nothing is spread yet
pub spread_none : (t : Locktree) (passes rest : List TreePass) (first : TreePass) → AreItsPasses t.rows (map row passes)
    → passes ≡ first ∷ rest → AreSpread t first rest []
spread_none t passes rest first new is = record {
  of = (All-head New first.pass (map row rest) each).of;
  rights = rights_are;
  rest_of = of_all t rest (All-tail New first.pass (map row rest) each);
  may = All-nil (MayCall t);
  count = omega (arith, count);
}
  where
    New : RowPass → Type 0
    New = IsNew t.rows.table.shared.table_id t.rows.plan

    each : All New (map row (first ∷ rest))
    each = subst (λ (ps : List TreePass). All New (map row ps)) is new.each

    numbers : map (λ (p : RowPass). p.number) (map row (first ∷ rest)) ≡ numbers_from 0 t.rows.plan.passes
    numbers = subst (λ (ps : List TreePass). map (λ (p : RowPass). p.number) (map row ps) ≡ numbers_from 0 t.rows.plan.passes) is new.numbers

    count : length rest + 1 ≡ t.rows.plan.passes
    count = omega (arith, sym (length-map (map row rest) (λ (p : RowPass). p.number)), length-map rest row, ap length numbers, numbers_length 0 t.rows.plan.passes)

    here : New first.pass
    here = All-head New first.pass (map row rest) each

    rights_are : (sees first).rights ≡ length rest + 1
    rights_are = ap (λ (v : View). v.rights) here.knows_is ∙ (here.rights
        ∙ (ap (rights_at t.rows.plan) (first_number first.pass.number t.rows.plan.passes (map (λ (p : RowPass). p.number) (map row rest)) numbers)
        ∙ sym count))

-- one more has a right
pub spread_more : (t : Locktree) (first second x y : TreePass) (rest left made more : List TreePass) (n : RowNote)
    → AreSpread t first rest made → rest ≡ x ∷ left → IsOfTable t second → sees second ≡ sharer 1 (sees first) → n.rights ≡ 1
    → IsOfTable t y → sees y ≡ learner (sees x) (view n.place) → more ≡ made ++ y ∷ [] → AreSpread t second left more
spread_more t first second x y rest left made more n are is of shared one of_y learned more_is = record {
  of = of;
  rights = omega (arith, ap (λ (v : View). v.rights) shared, are.rights, ap length is);
  rest_of = All-tail (IsOfTable t) x left (subst (All (IsOfTable t)) is are.rest_of);
  may = subst (All (MayCall t)) (sym more_is) (All-append (MayCall t) made (y ∷ []) are.may
      (All-cons (MayCall t) y [] (of_y, right) (All-nil (MayCall t))));
  count = omega (arith, are.count, ap length is, ap length more_is, length-append made (y ∷ []));
}
  where
    right : 0 < (sees y).rights
    right = omega (arith, ap (λ (v : View). v.rights) learned, ap (λ (v : View). v.rights) n.noted.0, one)

-- all have
pub spread_all : (t : Locktree) (first : TreePass) (rest made : List TreePass) → AreSpread t first rest made → rest ≡ []
    → All (MayCall t) (first ∷ made)
spread_all t first rest made are is = All-cons (MayCall t) first made (are.of, omega (arith, are.rights)) are.may
