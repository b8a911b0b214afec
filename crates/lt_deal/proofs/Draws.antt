-- A draw keeps the rule.
use Rattle.std.proofs.Common.{◌≡◌, ◌≢◌, ℕ, suc, ◌+◌, ◌%◌, ◌^◌, ◌<◌, ◌≤◌, List, [], ◌∷◌, ◌++◌, length, set, get_or, refl, sym, ap, ◌∙◌, subst, arith, length-set}
use mathlib.Core.Option.{none, some}
use mathlib.Core.Logic.{dite}
use native.Mathlib.Decide.{ℕ_discrete, dec_lt}
use lib.ListN.{get_elem?}
use Rattle.std.specs.Prelude.{Option, Some, nat_eq}
use Rattle.atomic_table.specs.Table.{State, step, keeps, takes, Allows}
use Rattle.atomic_table.proofs.Lists.{set_else}
use Rattle.lt_deal.specs.declared.view.View.{View}
use Rattle.lt_deal.specs.Rule.{total, weight, below, drawn_by, Gave, Knows, Dealt}
use Rattle.lt_deal.specs.Plays.{Seated, draws}
use Rattle.lt_deal.proofs.Lists.{total_set, total_has, total_le, total_same, views_set, at_len, at_some, times_append, weight_same, weight_else, below_yes, below_not}

module _ {T : Type 0} (workers : ℕ) where
  -- the seats' Nones are no more than their parts
  pub nones_most : (s : State (Option T) (View T)) (r : Dealt workers s) → total (λ (v : View T). v.nones) s.views ≤ workers
  nones_most s r = subst (λ n. total (λ (v : View T). v.nones) s.views ≤ n) r.parts (total_le (λ v. v.nones) (λ v. v.parts) s.views (λ i v e. (r.each i v e).asked))

  -- what was given back is at home, so it is none that was not drawn
  pub given_drawn : (s : State (Option T) (View T)) (r : Dealt workers s) (seat : ℕ) (v : View T) → get_elem? s.views seat ≡ some v → (k : ℕ) (x : T) → Gave v.gave k x → k < r.tickets
  given_drawn s r seat v at k x g =
      let some_time = (r.each seat v at).mine k x g in
      let most = total_has (drawn_by k) s.views seat v at in
      dite (dec_lt k r.tickets) (λ h. h) (λ no_lt.
      dite (dec_lt k (length r.stock))
      (λ inside. let one = r.once k inside in let off = below_not r.tickets k (omega arith) in absurd (omega arith))
      (λ beyond. let off = r.none_else k (omega arith) in absurd (omega arith)))

  -- a ticket below the number of items
  drawn : (s : State (Option T) (View T)) (r : Dealt workers s) (id : ℕ) (v : View T) (x : T) → get_elem? s.views id ≡ some v → 0 < v.parts → v.nones ≡ 0 → r.tickets < length r.stock → get_elem? r.stock r.tickets ≡ some x
      → Dealt workers record { words = suc r.tickets ∷ []; homes = set s.homes r.tickets none; views = set s.views id (record v { drew = v.drew ++ r.tickets ∷ [] }) }
  drawn s r id v x at part no_none inside item =
      let w : View T = record v { drew = v.drew ++ r.tickets ∷ [] } in
      let mine = r.each id v at in
      let more : (k : ℕ) → total (drawn_by k) (set s.views id w) ≡ total (drawn_by k) s.views + weight (nat_eq r.tickets k) =
      λ k. let a = total_set (drawn_by k) s.views id v w at in let b = times_append k v.drew (r.tickets ∷ []) in omega arith in
      record {
        tickets = suc r.tickets;
        stock = r.stock;
        word_is = refl;
        parts = total_same (λ u. u.parts) s.views id v w at refl ∙ r.parts;
        each = views_set (λ _ u. Knows r.stock (suc r.tickets) u) s.views id w
            (λ j u _ e. let k = r.each j u e in record { stocked = k.stocked; blank = k.blank; asked = k.asked; ended = λ n. (let m = k.ended n in omega arith); mine = k.mine })
            record {
              stocked = mine.stocked;
              blank = λ z. absurd (omega arith);
              asked = mine.asked;
              ended = λ n. absurd (omega arith);
              mine = λ k y g. (let a = mine.mine k y g in let b = times_append k v.drew (r.tickets ∷ []) in omega arith);
            };
        few = (let n = total_same (λ u. u.nones) s.views id v w at refl in omega arith);
        once = λ k h. dite (ℕ_discrete r.tickets k)
            (λ e. let m = more k in let o = r.once k h in let b = below_not r.tickets k (omega arith) in let b' = below_yes (suc r.tickets) k (omega arith) in
            let one : weight (nat_eq r.tickets k) ≡ 1 = subst (λ n. weight (nat_eq r.tickets n) ≡ 1) e (weight_same r.tickets) in omega arith)
            (λ ne. let m = more k in let o = r.once k h in let z = weight_else r.tickets k ne in let same = below_next r.tickets k ne in omega arith);
        none_else = λ k h. (let m = more k in let o = r.none_else k h in let z = weight_else r.tickets k (λ e. omega arith) in omega arith);
        first = λ k y h e. set_else s.homes r.tickets k none (λ same. omega arith) ∙ r.first k y (omega arith) e;
        back = views_set (λ _ u. (k : ℕ) (y : T) → Gave u.gave k y → get_elem? (set s.homes r.tickets none) k ≡ some (some (Some y))) s.views id w
            (λ j u _ e k y g. let low = given_drawn s r j u e k y g in set_else s.homes r.tickets k none (λ same. omega arith) ∙ r.back j u e k y g)
            (λ k y g. let low = given_drawn s r id v at k y g in set_else s.homes r.tickets k none (λ same. omega arith) ∙ r.back id v at k y g);
        vacant = λ k h l. (let f = total_same (λ u. u.filling) s.views id v w at refl in let long = length-set s.homes r.tickets none in
            let was = r.vacant k (omega arith) (omega arith) in (was.0, set_else s.homes r.tickets k none (λ same. omega arith) ∙ was.1));
      }
    where
      below_next : (n k : ℕ) → n ≢ k → below (suc n) k ≡ below n k
      below_next n k ne = dite (dec_lt k n)
          (λ h. below_yes (suc n) k (omega arith) ∙ sym (below_yes n k h))
          (λ h. below_not (suc n) k (omega arith) ∙ sym (below_not n k (omega arith)))

  -- a ticket beyond the items
  ended : (s : State (Option T) (View T)) (r : Dealt workers s) (id : ℕ) (v : View T) → get_elem? s.views id ≡ some v → 0 < v.parts → v.nones ≡ 0 → length r.stock ≤ r.tickets
      → Dealt workers record { words = suc r.tickets ∷ []; homes = s.homes; views = set s.views id (record v { nones = v.nones + 1 }) }
  ended s r id v at part no_none beyond =
      let w : View T = record v { nones = v.nones + 1 } in
      let mine = r.each id v at in
      record {
        tickets = suc r.tickets;
        stock = r.stock;
        word_is = refl;
        parts = total_same (λ u. u.parts) s.views id v w at refl ∙ r.parts;
        each = views_set (λ _ u. Knows r.stock (suc r.tickets) u) s.views id w
            (λ j u _ e. let k = r.each j u e in record { stocked = k.stocked; blank = k.blank; asked = k.asked; ended = λ n. omega arith; mine = k.mine })
            record { stocked = mine.stocked; blank = λ z. absurd (omega arith); asked = omega arith; ended = λ n. omega arith; mine = mine.mine };
        few = (let n = total_set (λ u. u.nones) s.views id v w at in let was = r.few in omega arith);
        once = λ k h. (let m = total_same (drawn_by k) s.views id v w at refl in let o = r.once k h in let b = below_yes r.tickets k (omega arith) in let b' = below_yes (suc r.tickets) k (omega arith) in omega arith);
        none_else = λ k h. total_same (drawn_by k) s.views id v w at refl ∙ r.none_else k h;
        first = λ k y h e. (let l = at_len r.stock k y e in absurd (omega arith));
        back = views_set (λ _ u. (k : ℕ) (y : T) → Gave u.gave k y → get_elem? s.homes k ≡ some (some (Some y))) s.views id w
            (λ j u _ e. r.back j u e) (r.back id v at);
        vacant = λ k h l. (let f = total_same (λ u. u.filling) s.views id v w at refl in r.vacant k (omega arith) l);
      }

  pub draws_allowed : (slots id : ℕ) (me : Seated T) → me.1 ≡ [] → me.0.parts ≡ 1 → me.0.nones ≡ 0 → length me.0.stock + workers + 1 < 2 ^ 64
      → Allows (Dealt workers) slots id me 0 (λ n. (n + 1) % 2 ^ 64) (draws (step slots 0 1 0 none) me)
  draws_allowed slots id me bare part no_none few s r _ at _ =
      let v : View T = me.0 in
      let mine = r.each id v at in
      let stock : v.stock ≡ r.stock = mine.stocked (omega arith) in
      let long : length v.stock ≡ length r.stock = ap length stock in
      let n : ℕ = get_or s.words 0 0 in
      let is : n ≡ r.tickets = ap (λ (ws : List ℕ). get_or ws 0 0) r.word_is in
      let most = nones_most s r in
      let room = r.few in
      let next : (n + 1) % 2 ^ 64 ≡ suc r.tickets = omega arith in
      let words : set s.words 0 ((n + 1) % 2 ^ 64) ≡ suc r.tickets ∷ [] = ap (λ (ws : List ℕ). set ws 0 ((n + 1) % 2 ^ 64)) r.word_is ∙ ap (λ (m : ℕ). m ∷ []) next in
      dite (dec_lt r.tickets (length r.stock))
      (λ inside.
      let x = at_some r.stock r.tickets inside in
      let w : View T = record v { drew = v.drew ++ n ∷ [] } in (
        w,
        takes n (Some x.0),
        subst (λ (k : ℕ). get_elem? s.homes k ≡ some (some (Some x.0))) (sym is) (r.first r.tickets x.0 (omega arith) x.1),
        subst (λ (z : List ℕ × ℕ). Dealt workers record { words = z.0; homes = set s.homes z.1 none; views = set s.views id (record v { drew = v.drew ++ z.1 ∷ [] }) }) (λ i. (sym words i, sym is i))
            (drawn s r id v x.0 at (omega arith) no_none inside x.1),
        ((λ _. (refl, (x.0, subst (λ (z : List T × ℕ). get_elem? z.0 z.1 ≡ some x.0) (λ i. (sym stock i, sym is i)) x.1, ap (λ (l : List (ℕ × Option T)). (n, Some x.0) ∷ l) bare), λ y g. let low = given_drawn s r id v at n y g in omega arith)), λ beyond. absurd (omega arith)),
      ))
      (λ out.
      let w : View T = record v { nones = v.nones + 1 } in (
        w,
        keeps,
        tt,
        subst (λ (ws : List ℕ). Dealt workers record { words = ws; homes = s.homes; views = set s.views id w }) (sym words) (ended s r id v at (omega arith) no_none (omega arith)),
        ((λ inside. absurd (omega arith)), λ _. (refl, bare)),
      ))
