-- Rows given back one after another.
use Rattle.std.proofs.Common.{◌≡◌, ◌≢◌, inl, inr, ⊎_elim, ◌⊎◌, ℕ, ◌+◌, ◌<◌, Bool, true, false, List, [], ◌∷◌, ◌++◌, refl, sym, ap, ◌∙◌, arith}
use Rattle.std.specs.Prelude.{Option, Some, None, nat_eq}
use mathlib.Core.Logic.{dite}
use native.Mathlib.Decide.{ℕ_discrete}
use borrow.Author.Tests.{eqb-true}
use Rattle.lt_forest.specs.Counts.{one_if, times}
use Rattle.lt_forest.specs.declared.part.PartRow.{PartRow}
use Rattle.lt_forest.specs.Parts.{numbers}
use Rattle.lt_forest.proofs.SameRows.{times-++, one_here, one_equal}
use Rattle.lt_rows.specs.declared.view.View.{View}
use Rattle.lt_rows.specs.declared.view.Row.{Row}
use Rattle.lt_rows.specs.Views.{Holds, IsHeld, row_at, with_row}
use Rattle.lt_rows.specs.Teaching.{Teaches}
use Rattle.lt_rows.proofs.Frames.{Some-none}
use Rattle.lt_rows.proofs.StepLaws.{put_row_is_gone}
use Rattle.lt_tree.specs.declared.pool.PoolRows.{PoolRows}
use Rattle.lt_tree.specs.declared.pool.PoolRows.TheVariants.{Anchor, Vacant}
use Rattle.lt_tree.specs.Pools.{pool_rows}
use Rattle.lt_tree.specs.States.{HoldsNone}
use Rattle.lt_tree.specs.Puttings.{Keeps, Backs, PutsSome, Puts}
use Rattle.lt_tree.proofs.ViewLaws.{held_on, held_put, put_gathers}

pub puts_none : (v : View) (rows : List ℕ) → Keeps v rows → PutsSome v v rows rows
puts_none v rows keeps = record {
  only = refl;
  keeps = keeps;
  others = λ q none. (none, refl);
  gone = λ q more. inl more;
  teaches = λ t. t;
}

-- a list with one number more at its end
pub one_more : (q : ℕ) (xs : List ℕ) (r : ℕ) (ys : List ℕ) → ys ≡ xs ++ r ∷ [] → times q ys ≡ times q xs + one_if (nat_eq r q)
one_more q xs r ys e = let t = times-++ q xs (r ∷ []) in let s = ap (λ (l : List ℕ). times q l) e in omega arith

pub same_or_other : (r q : ℕ) → (q ≡ r) ⊎ ((q ≢ r) × (one_if (nat_eq r q) ≡ 0))
same_or_other r q = by_test (nat_eq r q) refl
  where
    by_test : (b : Bool) → nat_eq r q ≡ b → (q ≡ r) ⊎ ((q ≢ r) × (one_if (nat_eq r q) ≡ 0))
    by_test true e = inl (sym (eqb-true r q e))
    by_test false e = inr ((λ is. (let o = one_equal q r is in let z = ap one_if e in absurd (omega arith))), ap one_if e)

module _ (v w : View) (rows left : List ℕ) (p : PutsSome v w rows left) (less : List ℕ) (r : ℕ) (popped : left ≡ less ++ r ∷ []) where
  here : IsHeld w r
  here = p.keeps.held r (let o = one_more r less r left popped in let e = one_here r in omega arith)

  -- the row may be given back
  pub last_may_be_put : (row : Row) × Holds w r row × (row.words ≡ row.image)
  last_may_be_put = (here.0, here.1, p.keeps.gathers r here.0 here.1)

  pub puts_one : (u : View) → u ≡ with_row w r None → PutsSome v u rows less
  puts_one u e = record {
    only = held_on v w u p.only (held_put w u r e);
    keeps = record {
      held = λ q more. ⊎_elim
          (λ (is : q ≡ r). absurd (let o = one_more q less r left popped in let s = one_equal q r is in let n = p.keeps.once q in omega arith))
          (λ (ne : (q ≢ r) × (one_if (nat_eq r q) ≡ 0)).
          let o = one_more q less r left popped in
          let h = p.keeps.held q (let z = ne.1 in omega arith) in
          (h.0, gone.1 q ne.0 ∙ h.1))
          (same_or_other r q);
      once = λ q. (let o = one_more q less r left popped in let n = p.keeps.once q in omega arith);
      gathers = put_gathers r w u here.0 here.1 e p.keeps.gathers;
    };
    others = λ q none.
        let old = p.others q none in
        let o = one_more q less r left popped in
        let z : times q left ≡ 0 = old.0 in
        (omega arith, gone.1 q (λ is. (let s = one_equal q r is in absurd (omega arith))) ∙ old.1);
    gone = λ q more. ⊎_elim
        (λ (is : q ≡ r). inr (ap (row_at u) is ∙ gone.0))
        (λ (ne : (q ≢ r) × (one_if (nat_eq r q) ≡ 0)). ⊎_elim
        (λ (still : 0 < times q left). inl (let o = one_more q less r left popped in let z = ne.1 in omega arith))
        (λ (none : row_at w q ≡ None). inr (gone.1 q ne.0 ∙ none))
        (p.gone q more))
        (same_or_other r q);
    teaches = λ t. gone.2 (p.teaches t);
  }
    where
      gone : (row_at u r ≡ None) × ((q : ℕ) → q ≢ r → row_at u q ≡ row_at w q) × (Teaches w → Teaches u)
      gone = put_row_is_gone r w u here.0 here.1 e

pub puts_all : (v w : View) (rows left : List ℕ) → PutsSome v w rows left → left ≡ [] → Puts v w rows
puts_all v w rows left p none = record {
  only = p.only;
  gathers = p.keeps.gathers;
  others = λ q z. (p.others q z).1;
  gone = λ q more. ⊎_elim
      (λ (still : 0 < times q left). absurd (let z : times q left ≡ 0 = ap (λ (l : List ℕ). times q l) none in omega arith))
      (λ (e : row_at w q ≡ None). e)
      (p.gone q more);
  teaches = p.teaches;
}

-- where no other rows were held, none is now
pub backs_none : (v w : View) (rows : List ℕ) → Backs v rows → Puts v w rows → HoldsNone w
backs_none v w rows b p q = dite (ℕ_discrete (times q rows) 0)
    (λ z. by_row (row_at w q) refl z)
    (λ some. p.gone q (omega arith))
  where
    by_row : (x : Option Row) → row_at w q ≡ x → times q rows ≡ 0 → row_at w q ≡ None
    by_row None e z = e
    by_row (Some row) e z = absurd (let more = b.held_all q (row, sym (p.others q z) ∙ e) in omega arith)

numbers_app : (xs ys : List PartRow) → numbers (xs ++ ys) ≡ numbers xs ++ numbers ys
numbers_app [] ys = refl
numbers_app (x ∷ xs) ys = ap (λ (l : List ℕ). x.row ∷ l) (numbers_app xs ys)

-- the row of a part that is put last
pub one_row_less : (held : ℕ) (rows less : List PartRow) (row : PartRow) → rows ≡ less ++ row ∷ []
    → held ∷ numbers rows ≡ (held ∷ numbers less) ++ row.row ∷ []
one_row_less held rows less row e =
    ap (λ (xs : List ℕ). held ∷ xs) (ap (λ (xs : List PartRow). numbers xs) e ∙ numbers_app less (row ∷ []))

-- of rows that are given back in turn, the first ones and those behind them

pub keeps_front : (v : View) (xs ys : List ℕ) → Keeps v (xs ++ ys) → Keeps v xs
keeps_front v xs ys k = record {
  held = λ q more. k.held q (let t = times-++ q xs ys in omega arith);
  once = λ q. (let t = times-++ q xs ys in let o = k.once q in omega arith);
  gathers = k.gathers;
}

pub backs_rest : (v w : View) (xs ys : List ℕ) → Backs v (xs ++ ys) → Puts v w xs → Backs w ys
backs_rest v w xs ys b p = record {
  keeps = record {
    held = λ q more. still q (times-++ q xs ys) more;
    once = λ q. (let t = times-++ q xs ys in let o = b.keeps.once q in omega arith);
    gathers = p.gathers;
  };
  held_all = λ q h. dite (ℕ_discrete (times q xs) 0)
      (λ z. (let t = times-++ q xs ys in let a = b.held_all q (h.0, sym (p.others q z) ∙ h.1) in omega arith))
      (λ ne. absurd (Some-none h.0 (sym (p.gone q (omega arith)) ∙ h.1)));
}
  where
    still : (q : ℕ) → times q (xs ++ ys) ≡ times q xs + times q ys → 0 < times q ys → IsHeld w q
    still q t more =
        let o = b.keeps.once q in
        let h = b.keeps.held q (omega arith) in
        (h.0, p.others q (omega arith) ∙ h.1)

-- the pool's rows
pub pool_anchor : (trees t : ℕ) (pool : PoolRows) → t ≡ trees → pool ≡ Anchor → pool_rows trees pool ≡ [] ++ t ∷ []
pool_anchor trees t pool e is = ap (pool_rows trees) is ∙ ap (λ (n : ℕ). n ∷ []) (sym e)

pub pool_vacant : (trees t row : ℕ) (pool : PoolRows) → t ≡ trees → pool ≡ Vacant row → pool_rows trees pool ≡ (row ∷ []) ++ t ∷ []
pool_vacant trees t row pool e is = ap (pool_rows trees) is ∙ ap (λ (n : ℕ). row ∷ n ∷ []) (sym e)
