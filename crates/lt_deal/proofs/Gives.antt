-- An item that is given back keeps the rule.
use Rattle.std.proofs.Common.{◌≡◌, ◌⊎◌, inl, inr, ⊎_elim, ℕ, ◌+◌, ◌<◌, ◌≤◌, List, [], ◌∷◌, ◌++◌, length, set, refl, sym, ap, ◌∙◌, subst, arith, length-set}
use mathlib.Core.Option.{none, some}
use mathlib.Core.Logic.{dite}
use native.Mathlib.Decide.{dec_lt}
use lib.ListN.{get_elem?}
use lib.Seq.{set-get_or}
use Rattle.std.specs.Prelude.{Option, Some}
use Rattle.atomic_table.specs.Table.{State, carried_after, homes_after, step, gives, Allows}
use Rattle.atomic_table.proofs.Lists.{set_here, set_else, at_snoc}
use Rattle.lt_deal.specs.declared.view.View.{View}
use Rattle.lt_deal.specs.Rule.{times, below, drawn_by, Gave, Knows, Dealt}
use Rattle.lt_deal.specs.Plays.{Seated, gives_back}
use Rattle.lt_deal.proofs.Lists.{total_has, total_same, total_two, views_set, below_yes, below_not}

abbrev Same : {T : Type 0} → ℕ → T → ℕ → T → Type 0
Same {T} q x k y = ◌≡◌ {A = ℕ × T} (q, x) (k, y)

module _ {T : Type 0} (workers : ℕ) where
  gave_more : (gave : List (ℕ × T)) (q k : ℕ) (x y : T) → Gave (gave ++ (q, x) ∷ []) k y → Gave gave k y ⊎ Same q x k y
  gave_more gave q k x y g = ⊎_elim (λ (was : get_elem? gave g.0 ≡ some (k, y)). inl (g.0, was)) (λ (same : Same q x k y). inr same) (at_snoc gave (q, x) (k, y) g.0 g.1)

  given : (s : State (Option T) (View T)) (r : Dealt workers s) (id q : ℕ) (v : View T) (x : T) → get_elem? s.views id ≡ some v → 0 < v.parts → q < length v.stock → 0 < times q v.drew
      → ((y : T) → Gave v.gave q y → ⊥) → q < length s.homes
      → Dealt workers record { words = s.words; homes = set s.homes q (some (Some x)); views = set s.views id (record v { gave = v.gave ++ (q, x) ∷ [] }) }
  given s r id q v x at part inside drew once_only wide =
      let w : View T = record v { gave = v.gave ++ (q, x) ∷ [] } in
      let mine = r.each id v at in
      let long : length v.stock ≡ length r.stock = ap length (mine.stocked part) in
      let has = total_has (drawn_by q) s.views id v at in
      let one = r.once q (omega arith) in
      let low : q < r.tickets = dite (dec_lt q r.tickets) (λ h. h) (λ no_lt. let z = below_not r.tickets q (omega arith) in absurd (omega arith)) in
      let most : below r.tickets q ≡ 1 = below_yes r.tickets q low in
      record {
        tickets = r.tickets;
        stock = r.stock;
        word_is = r.word_is;
        parts = total_same (λ u. u.parts) s.views id v w at refl ∙ r.parts;
        each = views_set (λ _ u. Knows r.stock r.tickets u) s.views id w (λ j u _ e. r.each j u e)
            record {
              stocked = mine.stocked;
              blank = λ z. absurd (omega arith);
              asked = mine.asked;
              ended = mine.ended;
              mine = λ k y g. ⊎_elim (λ (was : Gave v.gave k y). mine.mine k y was) (λ (same : Same q x k y). subst (λ (n : ℕ). 0 < times n v.drew) (ap (λ z. z.0) same) drew) (gave_more v.gave q k x y g);
            };
        few = subst (λ n. r.tickets ≤ length r.stock + n) (sym (total_same (λ u. u.nones) s.views id v w at refl)) r.few;
        once = λ k h. total_same (drawn_by k) s.views id v w at refl ∙ r.once k h;
        none_else = λ k h. total_same (drawn_by k) s.views id v w at refl ∙ r.none_else k h;
        first = λ k y h e. set_else s.homes q k (some (Some x)) (λ same. omega arith) ∙ r.first k y h e;
        back = views_set (λ _ u. (k : ℕ) (y : T) → Gave u.gave k y → get_elem? (set s.homes q (some (Some x))) k ≡ some (some (Some y))) s.views id w
            (λ j u ne e k y g. set_else s.homes q k (some (Some x))
            (λ same. let theirs = (r.each j u e).mine k y g in let theirs' : 0 < times q u.drew = subst (λ (n : ℕ). 0 < times n u.drew) same theirs in
            let two = total_two (drawn_by q) s.views j id u v ne e at in omega arith)
            ∙ r.back j u e k y g)
            (λ k y g. ⊎_elim
            (λ (was : Gave v.gave k y). set_else s.homes q k (some (Some x)) (λ same. once_only y (subst (λ (n : ℕ). Gave v.gave n y) same was)) ∙ r.back id v at k y was)
            (λ (same : Same q x k y). subst (λ (z : ℕ × T). get_elem? (set s.homes q (some (Some x))) z.0 ≡ some (some (Some z.1))) same (set_here s.homes q (some (Some x)) wide))
            (gave_more v.gave q k x y g));
        vacant = λ k h l. (let f = total_same (λ u. u.filling) s.views id v w at refl in let wide' = length-set s.homes q (some (Some x)) in
            let was = r.vacant k (omega arith) (omega arith) in (was.0, set_else s.homes q k (some (Some x)) (λ same. omega arith) ∙ was.1));
      }

  pub gives_allowed : (slots id q : ℕ) (x : T) (me : Seated T) → me.1 ≡ (q, Some x) ∷ [] → 0 < me.0.parts → q < length me.0.stock → q < slots → 0 < times q me.0.drew → ((y : T) → Gave me.0.gave q y → ⊥)
      → Allows (Dealt workers) slots id me 0 (λ n. n) (gives_back (step slots 0 0 0 none) me)
  gives_allowed slots id q x me has part inside low drew once_only s r wide at _ =
      let v : View T = me.0 in
      let w : View T = record v { gave = v.gave ++ (q, x) ∷ [] } in (
        w,
        gives,
        tt,
        subst (λ (z : List ℕ × List (ℕ × Option T)). Dealt workers record { words = z.0; homes = homes_after s.homes z.1 gives; views = set s.views id w }) (λ i. (sym (set-get_or s.words 0 0) i, sym has i))
            (given s r id q v x at part inside drew once_only (omega arith)),
        (q, x, has, refl, ap (λ (l : List (ℕ × Option T)). carried_after l gives) has),
      )
