-- The passes of a fresh table.
use Rattle.std.proofs.Common.{◌≡◌, ℕ, zero, suc, ◌+◌, ◌-◌, List, [], ◌∷◌, ◌++◌, map, refl, sym, ap, ◌∙◌, subst, arith, append-nil}
use Rattle.std.specs.List.{All, AllByRecursion}
use Rattle.std.proofs.lemmas.List.Elements.{All-nil, All-cons, All-head, All-tail}
use Rattle.lt_rows.specs.declared.row_plan.RowPlan.{RowPlan}
use Rattle.lt_rows.specs.Plan.{setting_of}
use Rattle.lt_seq.specs.Yard.{IsSound}
use Rattle.lt_seq.specs.Passes.{numbers_from, opening_view, opening_passes}
use Rattle.lt_rows.specs.declared.view.View.{View}
use Rattle.lt_rows.specs.Openings.{IsNew, AreItsPasses, rights_at}
use Rattle.lt_rows.proofs.Passes.{rights_later}
use Rattle.lt_locktree.specs.declared.locktree.Locktree.{Locktree}
use Rattle.lt_locktree.specs.declared.tree_pass.TreePass.{TreePass}
use Rattle.lt_manager.specs.Views.{Kept, IsKept, view_with, view_of, identity_of, IsPassOfTable}

-- a pass with no receipts and no notes
abbrev pub bare : TreePass → Kept
bare p = record { pass = p; mine = []; notes = [] }

abbrev pub IsFresh : Locktree → TreePass → Type 0
IsFresh t p = IsNew t.rows.table.shared.table_id t.rows.plan p.pass

-- these passes are fresh, and so many of them are made bare ones
pub record AreMade (t : Locktree) (passes rest : List TreePass) (made : List Kept) : Type 0 where
  pub made_are : (first : List TreePass) × (made ≡ map bare first) × (first ++ rest ≡ passes)
  pub fresh : All (IsFresh t) rest

fresh_all : (t : Locktree) (passes : List TreePass) → All (IsNew t.rows.table.shared.table_id t.rows.plan)
    (map (λ (p : TreePass). p.pass) passes)
    → All (IsFresh t) passes
fresh_all t [] all = All-nil (IsFresh t)
fresh_all t (p ∷ ps) all =
    let New = IsNew t.rows.table.shared.table_id t.rows.plan in
    let others = map (λ (q : TreePass). q.pass) ps in
    All-cons (IsFresh t) p ps (All-head New p.pass others all) (fresh_all t ps (All-tail New p.pass others all))

pub made_none : (t : Locktree) (passes : List TreePass) → AreItsPasses t.rows (map (λ (p : TreePass). p.pass) passes)
    → AreMade t passes passes []
made_none t passes new = record { made_are = ([], refl, refl); fresh = fresh_all t passes new.each }

map_snoc : (first : List TreePass) (x : TreePass) → map bare first ++ bare x ∷ [] ≡ map bare (first ++ x ∷ [])
map_snoc [] x = refl
map_snoc (y ∷ ys) x = ap (λ (l : List Kept). bare y ∷ l) (map_snoc ys x)

append_snoc : (first left : List TreePass) (x : TreePass) → (first ++ x ∷ []) ++ left ≡ first ++ x ∷ left
append_snoc [] left x = refl
append_snoc (y ∷ ys) left x = ap (λ (l : List TreePass). y ∷ l) (append_snoc ys left x)

module _ (t : Locktree) (passes rest left : List TreePass) (made : List Kept) (x : TreePass) (are : AreMade t passes rest made)
    (next : rest ≡ x ∷ left) where
  abbrev fresh : All (IsFresh t) (x ∷ left)
  fresh = subst (All (IsFresh t)) next are.fresh

  fresh_here : IsFresh t x
  fresh_here = All-head (IsFresh t) x left fresh

  -- the next is sound
  pub made_sound : IsKept (bare x)
  made_sound = subst (λ (v : View). IsSound (setting_of v.plan) (view_with v [] [])) (sym fresh_here.knows_is)
      (record { legal = tt; mine = refl })

  -- and is one more
  pub made_more : (more : List Kept) → more ≡ made ++ bare x ∷ [] → AreMade t passes left more
  made_more more is = record {
    made_are = (
      are.made_are.0 ++ x ∷ [],
      is ∙ (ap (λ (l : List Kept). l ++ bare x ∷ []) are.made_are.1 ∙ map_snoc are.made_are.0 x),
      append_snoc are.made_are.0 left x ∙ (ap (λ (l : List TreePass). are.made_are.0 ++ l) (sym next) ∙ are.made_are.2),
    );
    fresh = All-tail (IsFresh t) x left fresh;
  }

-- all are of the table
all_of : (t : Locktree) (passes : List TreePass) → All (IsFresh t) passes → AllByRecursion (IsPassOfTable t) (map bare passes)
all_of t [] all = tt
all_of t (p ∷ ps) all =
    let fresh = All-head (IsFresh t) p ps all in
    (λ i. record { identity = identity_of (fresh.of.0 i); setting = setting_of (fresh.of.1 i) }, all_of t ps (All-tail (IsFresh t) p ps all))

-- and each has seen and done nothing
fresh_view : (t : Locktree) (p : TreePass) → IsFresh t p → view_of (bare p)
    ≡ opening_view p.pass.number (rights_at t.rows.plan p.pass.number)
fresh_view t p new =
    let number : p.pass.number + 1 - 1 ≡ p.pass.number = omega arith in
    ap (λ (v : View). view_with v [] []) new.knows_is ∙ λ i. opening_view (number i) (new.rights i)

fresh_views : (t : Locktree) (passes : List TreePass) → All (IsFresh t) passes
    → map view_of (map bare passes) ≡ map (λ (n : ℕ). opening_view n (rights_at t.rows.plan n))
    (map (λ (p : TreePass). p.pass.number) passes)
fresh_views t [] all = refl
fresh_views t (p ∷ ps) all =
    let one = fresh_view t p (All-head (IsFresh t) p ps all) in
    let others = fresh_views t ps (All-tail (IsFresh t) p ps all) in
    λ i. one i ∷ others i

later_views : (plan : RowPlan) (n more : ℕ)
    → map (λ (m : ℕ). opening_view m (rights_at plan m)) (numbers_from (n + 1) more)
    ≡ map (λ (m : ℕ). opening_view m 0) (numbers_from (n + 1) more)
later_views plan n zero = refl
later_views plan n (suc more) =
    let others = later_views plan (n + 1) more in
    λ i. opening_view (n + 1) (sym (rights_later plan n) i) ∷ others i

all_views : (plan : RowPlan) (count : ℕ) → plan.passes ≡ count
    → map (λ (n : ℕ). opening_view n (rights_at plan n)) (numbers_from 0 count) ≡ opening_passes count
all_views plan zero is = refl
all_views plan (suc more) is =
    let others = later_views plan 0 more in
    λ i. opening_view 0 (is i) ∷ others i

numbers_of : (passes : List TreePass) → map (λ (p : TreePass). p.pass.number) passes
    ≡ map (λ p. p.number) (map (λ (p : TreePass). p.pass) passes)
numbers_of [] = refl
numbers_of (p ∷ ps) = ap (λ (l : List ℕ). p.pass.number ∷ l) (numbers_of ps)

module _ (t : Locktree) (passes rest : List TreePass) (made : List Kept) (new : AreItsPasses t.rows (map (λ (p : TreePass). p.pass) passes))
    (are : AreMade t passes rest made) (none : rest ≡ []) where
  all_made : made ≡ map bare passes
  all_made =
      are.made_are.1 ∙ ap (map bare) (sym (append-nil are.made_are.0)
      ∙ (ap (λ (l : List TreePass). are.made_are.0 ++ l) (sym none) ∙ are.made_are.2))

  pub made_of : AllByRecursion (IsPassOfTable t) made
  made_of = subst (AllByRecursion (IsPassOfTable t)) (sym all_made) (all_of t passes (fresh_all t passes new.each))

  pub made_views : map view_of made ≡ opening_passes t.rows.plan.passes
  made_views =
      ap (map view_of) all_made
      ∙ (fresh_views t passes (fresh_all t passes new.each)
      ∙ (ap (map (λ (n : ℕ). opening_view n (rights_at t.rows.plan n))) (numbers_of passes ∙ new.numbers)
      ∙ all_views t.rows.plan t.rows.plan.passes refl))
