-- What the seat that stands for all knows at the end.
use Rattle.std.proofs.Common.{◌≡◌, ℕ, ◌+◌, ◌<◌, zero, suc, List, [], ◌∷◌, ◌++◌, length, set, get_or, Bool, false, refl, sym, ap, ◌∙◌, subst, arith}
use mathlib.Core.Option.{some, some-injective}
use mathlib.Core.Logic.{dite}
use native.Mathlib.Decide.{ℕ_discrete, dec_lt}
use lib.ListN.{get_elem?}
use Rattle.std.specs.Prelude.{Option, Some, None, All, map, remove}
use Rattle.atomic_table.specs.Table.{State, Final, Seen}
use Rattle.atomic_table.proofs.Lists.{at_longer, at_last}
use Rattle.lt_deal.specs.declared.view.View.{View}
use Rattle.lt_deal.specs.Rule.{total, times, drawn_by, Gave, Dealt, spent}
use Rattle.lt_deal.specs.Closings.{IsClosed, HasReturned, drew_of, gave_of}
use Rattle.lt_deal.specs.declared.seat.DealSeat.{DealSeat}
use Rattle.atomic_table.specs.Seated.{TableId}
use Rattle.lt_deal.proofs.Lists.{total_set, all_none, views_set, below_yes, below_not, at_len, at_some, weight_else}
use Rattle.lt_deal.proofs.Stocks.{others_spent}

pub all_tail : {A : Type 0} (F : A → Type 0) (x : A) (l xs : List A) → l ≡ x ∷ xs → All F l → All F xs
all_tail F x l xs e h k d low = (subst (All F) e h) (suc k) d (omega arith)

pub emptied : (was now : List Bool) (k : ℕ) → now ≡ set was k false → ((j : ℕ) → j < k → get_or was j false ≡ false) → (j : ℕ) → j < k + 1 → get_or now j false ≡ false
emptied was now k is before j low = ap (λ l. get_or l j false) is ∙ go was k j before low
  where
    go : (was : List Bool) (k j : ℕ) → ((i : ℕ) → i < k → get_or was i false ≡ false) → j < k + 1 → get_or (set was k false) j false ≡ false
    go [] k j before low = refl
    go (x ∷ xs) zero zero before low = refl
    go (x ∷ xs) zero (suc j) before low = absurd (omega arith)
    go (x ∷ xs) (suc k) zero before low = before zero (omega arith)
    go (x ∷ xs) (suc k) (suc j) before low = go xs k j (λ i h. before (suc i) (omega arith)) (omega arith)

pub one_more : {A : Type 0} (slots : List (Option A)) (was now : List A) (k : ℕ) (a : A) → now ≡ was ++ a ∷ [] → length was ≡ k → get_elem? slots k ≡ some (Some a)
    → ((j : ℕ) (x : A) → j < k → get_elem? slots j ≡ some (Some x) → get_elem? was j ≡ some x)
    → (j : ℕ) (x : A) → j < k + 1 → get_elem? slots j ≡ some (Some x) → get_elem? now j ≡ some x
one_more {A = A} slots was now k a is long here before j x low e = ap (λ l. get_elem? l j) is ∙ dite (ℕ_discrete j k)
    (λ same. at_last was a j (long ∙ sym same) ∙ ap some (Some-injective (some-injective (Some a) (Some x) (sym here ∙ ap (get_elem? slots) (sym same) ∙ e))))
    (λ ne. at_longer was (a ∷ []) j x (before j x (omega arith) e))
  where
    unwrapped : Option A → A
    unwrapped (Some y) = y
    unwrapped None = a

    Some-injective : {x y : A} → Some x ≡ Some y → x ≡ y
    Some-injective e = ap unwrapped e

pub split_first : {A : Type 0} (seats : List A) (d : A) (rest : List A) → 0 < length seats → d ≡ get_or seats 0 d → rest ≡ remove seats 0 → seats ≡ d ∷ rest
split_first [] d rest h e r = absurd (omega arith)
split_first (x ∷ xs) d rest h e r = ap (λ z. z ∷ xs) (sym e) ∙ ap (λ l. d ∷ l) (sym r)

pub map_both : {A B : Type 0} (f : A → B) (xs ys : List A) → map f (xs ++ ys) ≡ map f xs ++ map f ys
map_both f [] ys = refl
map_both f (x ∷ xs) ys = ap (λ l. f x ∷ l) (map_both f xs ys)

pub all_returned : {T : Type 0} (z : TableId) (seats : List (DealSeat T)) → All (HasReturned z) seats → map (λ (g : ℕ × T). g.0) (gave_of seats) ≡ drew_of seats
all_returned z [] h = refl
all_returned {T = T} z (s ∷ seats) h =
    map_both (λ (g : ℕ × T). g.0) s.place.me.0.gave (gave_of seats)
    ∙ ap (λ l. l ++ map (λ (g : ℕ × T). g.0) (gave_of seats)) ((h 0 s (omega arith)).2)
    ∙ ap (λ l. s.place.me.0.drew ++ l) (all_returned z seats (λ k d low. h (suc k) d (omega arith)))

module _ {T : Type 0} (workers : ℕ) where
  pub last_drew : (s : State (Option T) (View T)) (r : Dealt workers s) (id : ℕ) (v : View T) → get_elem? s.views id ≡ some v → v.parts ≡ workers → (k : ℕ) → total (drawn_by k) s.views ≡ times k v.drew
  last_drew s r id v at all k =
      let a = total_set (drawn_by k) s.views id v spent at in
      let z = all_none (drawn_by k) (set s.views id spent) (views_set (λ _ u. times k u.drew ≡ 0) s.views id spent
      (λ j u ne e. ap (λ (y : View T). times k y.drew) ((r.each j u e).blank (others_spent workers s r id v at all j u ne e))) refl) in
      omega arith

  -- where one seat was answered None, every index was drawn once
  pub all_drawn : (s : State (Option T) (View T)) (r : Dealt workers s) (id : ℕ) (v : View T) → get_elem? s.views id ≡ some v → v.parts ≡ workers → 0 < v.nones → (k : ℕ) → k < length r.stock → times k v.drew ≡ 1
  all_drawn s r id v at all none_came k low =
      let end = (r.each id v at).ended none_came in
      sym (last_drew s r id v at all k) ∙ r.once k low ∙ below_yes r.tickets k (omega arith)

  -- where all drawn items were given back, each slot has its item
  given_back : (gave : List (ℕ × T)) (k : ℕ) → 0 < times k (map (λ (z : ℕ × T). z.0) gave) → (x : T) × Gave gave k x
  given_back [] k h = absurd (omega arith)
  given_back ((q, x) ∷ gave) k h = dite (ℕ_discrete q k)
      (λ same. (x, (0, ap (λ n. some (n, x)) same)))
      (λ ne. let z = weight_else q k ne in let r = given_back gave k (omega arith) in (r.0, (suc r.1.0, r.1.1)))

  pub all_home : (words : List ℕ) (slots : List (Option T)) (id : ℕ) (v : View T) → v.parts ≡ workers → 0 < workers → map (λ (z : ℕ × T). z.0) v.gave ≡ v.drew → Final (Seen (Dealt workers) id v) words slots
      → (k : ℕ) → k < length v.stock → (x : T) × (get_elem? slots k ≡ some (Some x))
  all_home words slots id v all some_part returned f k low =
      let s = f.0 in
      let r = f.1.0 in
      let at = f.1.1 in
      let long : length v.stock ≡ length r.stock = ap length ((r.each id v at).stocked (omega arith)) in
      dite (dec_lt k r.tickets)
      (λ drawn.
      let t = last_drew s r id v at all k in
      let o = r.once k (omega arith) in
      let b = below_yes r.tickets k drawn in
      let g = given_back v.gave k (subst (λ l. 0 < times k l) (sym returned) (omega arith)) in
      (g.0, f.4 k (Some g.0) (r.back id v at k g.0 g.1)))
      (λ home. let x = at_some r.stock k (omega arith) in (x.0, f.4 k (Some x.0) (r.first k x.0 (omega arith) x.1)))

  pub closes : (words : List ℕ) (slots : List (Option T)) (items : List T) (id : ℕ) (v : View T) → v.parts ≡ workers → 0 < workers → Final (Seen (Dealt workers) id v) words slots
      → length items ≡ length v.stock → ((k : ℕ) (x : T) → get_elem? slots k ≡ some (Some x) → get_elem? items k ≡ some x)
      → IsClosed v.stock v.drew v.gave v.nones items
  closes words slots items id v all some_part f count taken =
      let s = f.0 in
      let r = f.1.0 in
      let at = f.1.1 in
      let stock : v.stock ≡ r.stock = (r.each id v at).stocked (omega arith) in
      let long : length v.stock ≡ length r.stock = ap length stock in
      record {
        count = count;
        once = λ k. (let t = last_drew s r id v at all k in dite (dec_lt k (length r.stock))
            (λ low. let o = r.once k low in dite (dec_lt k r.tickets) (λ h. let b = below_yes r.tickets k h in omega arith) (λ h. let b = below_not r.tickets k (omega arith) in omega arith))
            (λ far. let o = r.none_else k (omega arith) in omega arith));
        all = λ none_came k low. all_drawn s r id v at all none_came k (omega arith);
        back = λ k x g. taken k x (f.4 k (Some x) (r.back id v at k x g));
        first = λ k x not_drawn e. (let t = last_drew s r id v at all k in let low = at_len v.stock k x e in let o = r.once k (omega arith) in
            taken k x (f.4 k (Some x) (r.first k x (dite (dec_lt k r.tickets) (λ h. let b = below_yes r.tickets k h in absurd (omega arith)) (λ h. omega arith)) (subst (λ l. get_elem? l k ≡ some x) stock e))));
      }
