-- A split and a join of seats keep the rule.
use Rattle.std.proofs.Common.{◌≡◌, ◌⊎◌, inl, inr, ⊎_elim, ℕ, zero, suc, ◌+◌, ◌<◌, List, [], ◌∷◌, ◌++◌, set, refl, sym, ◌∙◌, subst, arith}
use mathlib.Core.Option.{some, some-ne-none}
use mathlib.Core.Logic.{dite}
use native.Mathlib.Decide.{dec_lt}
use lib.ListN.{get_elem?}
use Rattle.std.specs.Prelude.{Some}
use Rattle.atomic_table.specs.Table.{Splits, Joins}
use Rattle.atomic_table.proofs.Lists.{at_snoc, set_else}
use Rattle.lt_deal.specs.declared.view.View.{View}
use Rattle.lt_deal.specs.Rule.{total, drawn_by, Gave, Knows, Dealt, maker, further, gathered, spent}
use Rattle.lt_deal.proofs.Lists.{total_set, total_snoc, views_set, times_append}

module _ {T : Type 0} (workers : ℕ) where
  nothing : (k : ℕ) (y : T) → Gave [] k y → ⊥
  nothing k y g = some-ne-none (k, y) (sym g.1)

  pub parts_split : (id : ℕ) (v : View T) → 1 < v.parts → v.nones ≡ 0 → Splits (Dealt workers) id v (maker v) (further v)
  parts_split id v more no_none s r at =
      let left : View T = maker v in
      let right : View T = further v in
      let mine = r.each id v at in
      let sum : (f : View T → ℕ) → total f (set s.views id left ++ right ∷ []) + f v ≡ total f s.views + (f left + f right) = λ f. let a = total_set f s.views id v left at in let b = total_snoc f (set s.views id left) right in omega arith in
      record {
        tickets = r.tickets;
        stock = r.stock;
        word_is = r.word_is;
        parts = (let m = sum (λ u. u.parts) in let was = r.parts in omega arith);
        each = λ j y e. ⊎_elim
            (λ (was : get_elem? (set s.views id left) j ≡ some y). views_set (λ _ u. Knows r.stock r.tickets u) s.views id left (λ i u _ e'. r.each i u e')
            record { stocked = λ _. mine.stocked (omega arith); blank = λ z. absurd (omega arith); asked = omega arith; ended = mine.ended; mine = mine.mine } j y was)
            (λ (same : right ≡ y). subst (Knows r.stock r.tickets) same
            record { stocked = λ _. mine.stocked (omega arith); blank = λ z. absurd (omega arith); asked = omega arith; ended = λ n. absurd (omega arith); mine = λ k x g. absurd (nothing k x g) })
            (at_snoc (set s.views id left) right y j e);
        few = (let m = sum (λ u. u.nones) in let was = r.few in omega arith);
        once = λ k h. (let m = sum (drawn_by k) in let was = r.once k h in omega arith);
        none_else = λ k h. (let m = sum (drawn_by k) in let was = r.none_else k h in omega arith);
        first = r.first;
        back = λ j y e. ⊎_elim
            (λ (was : get_elem? (set s.views id left) j ≡ some y). views_set (λ _ u. (k : ℕ) (x : T) → Gave u.gave k x → get_elem? s.homes k ≡ some (some (Some x))) s.views id left (λ i u _ e'. r.back i u e') (r.back id v at) j y was)
            (λ (same : right ≡ y). subst (λ (u : View T). (k : ℕ) (x : T) → Gave u.gave k x → get_elem? s.homes k ≡ some (some (Some x))) same (λ k x g. absurd (nothing k x g)))
            (at_snoc (set s.views id left) right y j e);
        vacant = λ k h l. (let m = sum (λ u. u.filling) in r.vacant k (omega arith) l);
      }

  gave_either : (xs ys : List (ℕ × T)) (k : ℕ) (x : T) → Gave (xs ++ ys) k x → Gave xs k x ⊎ Gave ys k x
  gave_either [] ys k x g = inr g
  gave_either (z ∷ xs) ys k x (zero, e) = inl (zero, e)
  gave_either (z ∷ xs) ys k x (suc i, e) = ⊎_elim (λ (g : Gave xs k x). inl (suc g.0, g.1)) (λ (g : Gave ys k x). inr g) (gave_either xs ys k x (i, e))

  pub parts_joined : (id : ℕ) (v : View T) (other : ℕ) (w : View T) → 0 < v.parts → 0 < w.parts → w.filling ≡ 0 → Joins (Dealt workers) id v other w (gathered v w) spent
  parts_joined id v other w part part' empty s r at apart there =
      let both : View T = gathered v w in
      let mid : List (View T) = set s.views id both in
      let there' : get_elem? s.views other ≡ some w = sym (set_else s.views id other both apart) ∙ there in
      let mine = r.each id v at in
      let theirs = r.each other w there' in
      let sum : (f : View T → ℕ) → total f (set mid other spent) + (f v + f w) ≡ total f s.views + (f both + f spent) = λ f. let a = total_set f s.views id v both at in let b = total_set f mid other w spent there in omega arith in
      let draws : (k : ℕ) → total (drawn_by k) (set mid other spent) ≡ total (drawn_by k) s.views = λ k. let m = sum (drawn_by k) in let d = times_append k v.drew w.drew in omega arith in
      record {
        tickets = r.tickets;
        stock = r.stock;
        word_is = r.word_is;
        parts = (let m = sum (λ u. u.parts) in let was = r.parts in omega arith);
        each = views_set (λ _ u. Knows r.stock r.tickets u) mid other spent
            (λ j u _ e. views_set (λ _ y. Knows r.stock r.tickets y) s.views id both (λ i y _ e'. r.each i y e')
            record {
              stocked = λ _. mine.stocked part;
              blank = λ z. absurd (omega arith);
              asked = (let a = mine.asked in let b = theirs.asked in omega arith);
              ended = λ n. dite (dec_lt 0 v.nones) mine.ended (λ no_lt. theirs.ended (omega arith));
              mine = λ k x g. (let d = times_append k v.drew w.drew in ⊎_elim (λ (a : Gave v.gave k x). let m = mine.mine k x a in omega arith) (λ (b : Gave w.gave k x). let m = theirs.mine k x b in omega arith) (gave_either v.gave w.gave k x g));
            } j u e)
            record { stocked = λ n. absurd (omega arith); blank = λ _. refl; asked = omega arith; ended = λ n. absurd (omega arith); mine = λ k x g. absurd (nothing k x g) };
        few = (let m = sum (λ u. u.nones) in let was = r.few in omega arith);
        once = λ k h. draws k ∙ r.once k h;
        none_else = λ k h. draws k ∙ r.none_else k h;
        first = r.first;
        back = views_set (λ _ u. (k : ℕ) (x : T) → Gave u.gave k x → get_elem? s.homes k ≡ some (some (Some x))) mid other spent
            (λ j u _ e. views_set (λ _ y. (k : ℕ) (x : T) → Gave y.gave k x → get_elem? s.homes k ≡ some (some (Some x))) s.views id both (λ i y _ e'. r.back i y e')
            (λ k x g. ⊎_elim (λ (a : Gave v.gave k x). r.back id v at k x a) (λ (b : Gave w.gave k x). r.back other w there' k x b) (gave_either v.gave w.gave k x g)) j u e)
            (λ k x g. absurd (nothing k x g));
        vacant = λ k h l. (let m = sum (λ u. u.filling) in r.vacant k (omega arith) l);
      }
