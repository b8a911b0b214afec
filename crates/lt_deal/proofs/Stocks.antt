-- The steps of a seat that fills the slots keep the rule.
use Rattle.std.proofs.Common.{◌≡◌, ◌≢◌, ℕ, zero, suc, ◌+◌, ◌<◌, ◌≤◌, List, [], ◌∷◌, ◌++◌, length, set, refl, sym, ap, ◌∙◌, subst, arith, length-set, length-append}
use mathlib.Core.Option.{none, some, some-injective, some-ne-none}
use mathlib.Core.Logic.{dite}
use native.Mathlib.Decide.{ℕ_discrete}
use lib.ListN.{get_elem?}
use lib.Seq.{set-get_or}
use Rattle.std.specs.Prelude.{Option, Some}
use Rattle.atomic_table.specs.Table.{State, carried_after, homes_after, step, takes, gives, Allows}
use Rattle.atomic_table.proofs.Lists.{set_here, set_else, at_last}
use Rattle.lt_deal.specs.declared.view.View.{View}
use Rattle.lt_deal.specs.Rule.{total, times, drawn_by, Gave, Knows, Dealt}
use Rattle.lt_deal.specs.Plays.{Seated, opens, stocks}
use Rattle.lt_deal.specs.Fresh.{IsFresh}
use Rattle.lt_deal.proofs.Lists.{total_set, total_same, total_two, all_none, views_set, at_len, below_yes, below_not}
use Rattle.lt_deal.proofs.Draws.{given_drawn}

module _ {T : Type 0} (workers : ℕ) where
  -- the others are spent
  pub others_spent : (s : State (Option T) (View T)) (r : Dealt workers s) (id : ℕ) (v : View T) → get_elem? s.views id ≡ some v → v.parts ≡ workers → (j : ℕ) (u : View T) → j ≢ id → get_elem? s.views j ≡ some u → u.parts ≡ 0
  others_spent s r id v at all j u ne e = let two = total_two (λ (y : View T). y.parts) s.views j id u v ne e at in let p = r.parts in omega arith

  opened : (s : State (Option T) (View T)) (r : Dealt workers s) (id : ℕ) (v : View T) → get_elem? s.views id ≡ some v → IsFresh workers v → v.filling ≡ 0
      → Dealt workers record { words = s.words; homes = set s.homes (length v.stock) none; views = set s.views id (record v { filling = 1 }) }
  opened s r id v at fresh empty =
      let w : View T = record v { filling = 1 } in
      let mine = r.each id v at in
      let n : ℕ = length v.stock in
      let all = fresh.all in
      let some_part = fresh.some_part in
      let long : length v.stock ≡ length r.stock = ap length (mine.stocked (omega arith)) in
      record {
        tickets = r.tickets;
        stock = r.stock;
        word_is = r.word_is;
        parts = total_same (λ u. u.parts) s.views id v w at refl ∙ r.parts;
        each = views_set (λ _ u. Knows r.stock r.tickets u) s.views id w (λ j u _ e. r.each j u e)
            record { stocked = mine.stocked; blank = λ z. absurd (omega arith); asked = mine.asked; ended = mine.ended; mine = mine.mine };
        few = subst (λ m. r.tickets ≤ length r.stock + m) (sym (total_same (λ u. u.nones) s.views id v w at refl)) r.few;
        once = λ k h. total_same (drawn_by k) s.views id v w at refl ∙ r.once k h;
        none_else = λ k h. total_same (drawn_by k) s.views id v w at refl ∙ r.none_else k h;
        first = λ k y h e. (let l = at_len r.stock k y e in set_else s.homes n k none (λ same. omega arith) ∙ r.first k y h e);
        back = views_set (λ _ u. (k : ℕ) (y : T) → Gave u.gave k y → get_elem? (set s.homes n none) k ≡ some (some (Some y))) s.views id w
            (λ j u ne e k y g. absurd (none_gave j u ne e k y g))
            (λ k y g. absurd (nothing k y (subst (λ l. Gave l k y) fresh.gave g)));
        vacant = λ k h l. (let f = total_set (λ u. u.filling) s.views id v w at in let wide' = length-set s.homes n none in
            let was = r.vacant k (omega arith) (omega arith) in (was.0, set_else s.homes n k none (λ same. omega arith) ∙ was.1));
      }
    where
      nothing : (k : ℕ) (y : T) → Gave [] k y → ⊥
      nothing k y g = some-ne-none (k, y) (sym g.1)

      none_gave : (j : ℕ) (u : View T) → j ≢ id → get_elem? s.views j ≡ some u → (k : ℕ) (y : T) → Gave u.gave k y → ⊥
      none_gave j u ne e k y g = nothing k y (subst (λ (z : View T). Gave z.gave k y) ((r.each j u e).blank (others_spent s r id v at fresh.all j u ne e)) g)

  pub opens_allowed : (slots id : ℕ) (me : Seated T) → me.1 ≡ [] → IsFresh workers me.0 → me.0.filling ≡ 0 → length me.0.stock < slots
      → Allows (Dealt workers) slots id me 0 (λ n. n) (opens (step slots 0 0 0 none) me)
  opens_allowed slots id me bare fresh empty low s r wide at _ =
      let v : View T = me.0 in
      let w : View T = record v { filling = 1 } in
      let all = fresh.all in
      let some_part = fresh.some_part in
      let mine = r.each id v at in
      let long : length v.stock ≡ length r.stock = ap length (mine.stocked (omega arith)) in
      let f = filled_none s r id v at fresh empty in
      let there = r.vacant (length v.stock) (omega arith) (omega arith) in (
        w,
        takes (length v.stock) there.0,
        there.1,
        subst (λ (ws : List ℕ). Dealt workers record { words = ws; homes = set s.homes (length v.stock) none; views = set s.views id w }) (sym (set-get_or s.words 0 0)) (opened s r id v at fresh empty),
        (refl, (there.0, ap (λ (l : List (ℕ × Option T)). (length v.stock, there.0) ∷ l) bare)),
      )
    where
      filled_none : (s : State (Option T) (View T)) (r : Dealt workers s) (id : ℕ) (v : View T) → get_elem? s.views id ≡ some v → IsFresh workers v → v.filling ≡ 0 → total (λ (u : View T). u.filling) s.views ≡ 0
      filled_none s r id v at fresh empty = all_none (λ u. u.filling) s.views (λ j u e. dite (ℕ_discrete j id)
          (λ same. ap (λ (z : View T). z.filling) (some-injective u v (sym e ∙ subst (λ (i : ℕ). get_elem? s.views i ≡ some v) (sym same) at)) ∙ empty)
          (λ ne. ap (λ (z : View T). z.filling) ((r.each j u e).blank (others_spent s r id v at fresh.all j u ne e))))

  snoc_else : (l : List T) (k : ℕ) (x : T) → k ≢ length l → get_elem? (l ++ x ∷ []) k ≡ get_elem? l k
  snoc_else [] zero x ne = absurd (ne refl)
  snoc_else [] (suc k) x ne = refl
  snoc_else (y ∷ l) zero x ne = refl
  snoc_else (y ∷ l) (suc k) x ne = snoc_else l k x (λ e. ne (ap suc e))

  -- nothing was drawn while one seat stands for all
  none_drawn : (s : State (Option T) (View T)) (r : Dealt workers s) (id : ℕ) (v : View T) → get_elem? s.views id ≡ some v → IsFresh workers v → (k : ℕ) → total (drawn_by k) s.views ≡ 0
  none_drawn s r id v at fresh k = all_none (drawn_by k) s.views (λ j u e. dite (ℕ_discrete j id)
      (λ same. ap (λ (z : View T). times k z.drew) (some-injective u v (sym e ∙ subst (λ (i : ℕ). get_elem? s.views i ≡ some v) (sym same) at)) ∙ ap (times k) fresh.drew)
      (λ ne. ap (λ (z : View T). times k z.drew) ((r.each j u e).blank (others_spent s r id v at fresh.all j u ne e))))

  none_ended : (s : State (Option T) (View T)) (r : Dealt workers s) (id : ℕ) (v : View T) → get_elem? s.views id ≡ some v → IsFresh workers v → total (λ (u : View T). u.nones) s.views ≡ 0
  none_ended s r id v at fresh = all_none (λ u. u.nones) s.views (λ j u e. dite (ℕ_discrete j id)
      (λ same. ap (λ (z : View T). z.nones) (some-injective u v (sym e ∙ subst (λ (i : ℕ). get_elem? s.views i ≡ some v) (sym same) at)) ∙ fresh.nones)
      (λ ne. ap (λ (z : View T). z.nones) ((r.each j u e).blank (others_spent s r id v at fresh.all j u ne e))))

  no_ticket : (s : State (Option T) (View T)) (r : Dealt workers s) (id : ℕ) (v : View T) → get_elem? s.views id ≡ some v → IsFresh workers v → r.tickets ≡ 0
  no_ticket s r id v at fresh = dite (ℕ_discrete r.tickets 0) (λ e. e)
      (λ ne. let few = r.few in let none_yet = none_ended s r id v at fresh in let o = r.once 0 (omega arith) in let z = none_drawn s r id v at fresh 0 in let b = below_yes r.tickets 0 (omega arith) in absurd (omega arith))

  stocked : (s : State (Option T) (View T)) (r : Dealt workers s) (id : ℕ) (v : View T) (x : T) → get_elem? s.views id ≡ some v → IsFresh workers v → v.filling ≡ 1 → length v.stock < length s.homes
      → Dealt workers record { words = s.words; homes = set s.homes (length v.stock) (some (Some x)); views = set s.views id (record v { filling = 0; stock = v.stock ++ x ∷ [] }) }
  stocked s r id v x at fresh filling low =
      let w : View T = record v { filling = 0; stock = v.stock ++ x ∷ [] } in
      let mine = r.each id v at in
      let n : ℕ = length v.stock in
      let all = fresh.all in
      let some_part = fresh.some_part in
      let same_stock : v.stock ≡ r.stock = mine.stocked (omega arith) in
      let long : n ≡ length r.stock = ap length same_stock in
      let longer : length (r.stock ++ x ∷ []) ≡ length r.stock + 1 = length-append r.stock (x ∷ []) in
      let zero_yet : r.tickets ≡ 0 = no_ticket s r id v at fresh in
      let nones = fresh.nones in
      record {
        tickets = r.tickets;
        stock = r.stock ++ x ∷ [];
        word_is = r.word_is;
        parts = total_same (λ u. u.parts) s.views id v w at refl ∙ r.parts;
        each = views_set (λ _ u. Knows (r.stock ++ x ∷ []) r.tickets u) s.views id w
            (λ j u ne e. let k = r.each j u e in let z = others_spent s r id v at all j u ne e in
            record { stocked = λ p. absurd (omega arith); blank = k.blank; asked = k.asked; ended = λ p. (let a = k.asked in absurd (omega arith)); mine = k.mine })
            record { stocked = λ _. ap (λ l. l ++ x ∷ []) same_stock; blank = λ z. absurd (omega arith); asked = mine.asked; ended = λ p. absurd (omega arith); mine = mine.mine };
        few = (let m = total_same (λ u. u.nones) s.views id v w at refl in omega arith);
        once = λ k h. (let m = total_same (drawn_by k) s.views id v w at refl in let z = none_drawn s r id v at fresh k in let b = below_not r.tickets k (omega arith) in omega arith);
        none_else = λ k h. total_same (drawn_by k) s.views id v w at refl ∙ none_drawn s r id v at fresh k;
        first = λ k y h e. dite (ℕ_discrete k n)
            (λ same. let is : x ≡ y = some-injective x y (sym (at_last r.stock x k (omega arith)) ∙ e) in
            subst (λ (z : ℕ × T). get_elem? (set s.homes n (some (Some x))) z.0 ≡ some (some (Some z.1))) (λ i. (sym same i, is i)) (set_here s.homes n (some (Some x)) low))
            (λ ne. set_else s.homes n k (some (Some x)) ne ∙ r.first k y h (sym (snoc_else r.stock k x (λ same. ne (omega arith))) ∙ e));
        back = views_set (λ _ u. (k : ℕ) (y : T) → Gave u.gave k y → get_elem? (set s.homes n (some (Some x))) k ≡ some (some (Some y))) s.views id w
            (λ j u ne e k y g. let low' = given_drawn workers s r j u e k y g in absurd (omega arith))
            (λ k y g. let low' = given_drawn workers s r id v at k y g in absurd (omega arith));
        vacant = λ k h l. (let f = total_set (λ u. u.filling) s.views id v w at in let wide' = length-set s.homes n (some (Some x)) in
            let was = r.vacant k (omega arith) (omega arith) in (was.0, set_else s.homes n k (some (Some x)) (λ same. omega arith) ∙ was.1));
      }

  pub stocks_allowed : (slots id : ℕ) (x : T) (me : Seated T) → me.1 ≡ (length me.0.stock, Some x) ∷ [] → IsFresh workers me.0 → me.0.filling ≡ 1 → length me.0.stock < slots
      → Allows (Dealt workers) slots id me 0 (λ n. n) (stocks (step slots 0 0 0 none) me)
  stocks_allowed slots id x me has fresh filling low s r wide at _ =
      let v : View T = me.0 in
      let w : View T = record v { filling = 0; stock = v.stock ++ x ∷ [] } in (
        w,
        gives,
        tt,
        subst (λ (z : List ℕ × List (ℕ × Option T)). Dealt workers record { words = z.0; homes = homes_after s.homes z.1 gives; views = set s.views id w }) (λ i. (sym (set-get_or s.words 0 0) i, sym has i))
            (stocked s r id v x at fresh filling (omega arith)),
        (x, has, refl, ap (λ (l : List (ℕ × Option T)). carried_after l gives) has),
      )
