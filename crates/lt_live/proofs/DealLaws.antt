-- Each step keeps the rule of the queue.
use Rattle.std.proofs.Common.{◌≡◌, ◌≢◌, ℕ, zero, suc, ◌+◌, ◌-◌, ◌<◌, ◌≤◌, List, [], ◌∷◌, ◌++◌, set, sym, refl, ap, ◌∙◌, subst, ⊎_elim, arith}
use Rattle.std.specs.List.{AllByRecursion}
use mathlib.Core.Option.{Option, none, some, some-ne-none}
use lib.ListN.{get_elem?}
use Rattle.crossbeam_queue.specs.Fifo.{Pushes, Pops, Forks, Merges, Learns}
use Rattle.crossbeam_queue.proofs.Lists.{at_set, at_snoc}
use Rattle.lt_live.specs.declared.queue.Hand.{Hand}
use Rattle.lt_live.specs.Deals.{hand, times, total, IdleIsEmpty, Balanced, Knows}

abbrev inside : Hand → Option Hand → Hand
inside d none = d
inside d (some v) = v

same_hand : (u v : Hand) → some u ≡ some v → u ≡ v
same_hand u v e = ap (inside u) e

pub times-append : (x : ℕ) (xs ys : List ℕ) → times x (xs ++ ys) ≡ times x xs + times x ys
times-append x [] ys = omega arith
times-append x (z ∷ zs) ys = let rest = times-append x zs ys in omega (arith, rest)

-- the total after a change of one pass
pub total_set : (f : Hand → ℕ) (views : List Hand) (port : ℕ) (v w : Hand) → get_elem? views port ≡ some v →
    total f (set views port w) + f v ≡ total f views + f w
total_set f [] port v w at = absurd (some-ne-none v (sym at))
total_set f (u ∷ us) zero v w at = let same : f u ≡ f v = ap f (same_hand u v at) in omega (arith, same)
total_set f (u ∷ us) (suc port) v w at = let rest = total_set f us port v w at in omega (arith, rest)

pub total_snoc : (f : Hand → ℕ) (views : List Hand) (v : Hand) → total f (views ++ v ∷ []) ≡ total f views + f v
total_snoc f [] v = omega arith
total_snoc f (u ∷ us) v = let rest = total_snoc f us v in omega (arith, rest)

all_snoc : (P : ℕ → Type 0) (xs : List ℕ) (x : ℕ) → AllByRecursion P xs → P x → AllByRecursion P (xs ++ x ∷ [])
all_snoc P [] x all one = (one, tt)
all_snoc P (y ∷ ys) x all one = (all.0, all_snoc P ys x all.1 one)

pub idle_set : (views : List Hand) (port : ℕ) (w : Hand) → (w.parts ≡ 0 → (w.put ≡ []) × (w.taken ≡ [])) → IdleIsEmpty views →
    IdleIsEmpty (set views port w)
idle_set views port w empty idle j u e =
    ⊎_elim (λ (x : (j ≡ port) × (w ≡ u)). subst (λ (y : Hand). y.parts ≡ 0 → (y.put ≡ []) × (y.taken ≡ [])) x.1 empty)
    (λ (x : (j ≢ port) × (get_elem? views j ≡ some u)). idle j u x.1) (at_set views port j w u e)

pub idle_snoc : (views : List Hand) (w : Hand) → (w.parts ≡ 0 → (w.put ≡ []) × (w.taken ≡ [])) → IdleIsEmpty views →
    IdleIsEmpty (views ++ w ∷ [])
idle_snoc views w empty idle j u e =
    ⊎_elim (λ x. idle j u x) (λ (is : w ≡ u). subst (λ (y : Hand). y.parts ≡ 0 → (y.put ≡ []) × (y.taken ≡ [])) is empty) (at_snoc views w u j e)

pub begins : Balanced [] (hand 1024 [] [] ∷ [])
begins = record { parts = refl; count = λ x. refl; idle = first; some = tt }
  where
    first : IdleIsEmpty (hand 1024 [] [] ∷ [])
    first zero v at = λ empty. absurd (omega (arith, empty, ap (λ (u : Hand). u.parts) (same_hand (hand 1024 [] []) v at)))
    first (suc port) v at = absurd (some-ne-none v (sym at))

pub puts : (n port : ℕ) (v : Hand) (x : ℕ) → 0 < v.parts → 1 ≤ x → Pushes Balanced n port v x (λ w. w ≡ hand v.parts (v.put ++ x ∷ []) v.taken)
puts n port v x part least items views room b at =
    let w = hand v.parts (v.put ++ x ∷ []) v.taken in (
      w,
      record {
        parts = (let s = total_set (λ u. u.parts) views port v w at in let p = b.parts in omega arith);
        count = λ y.
            let s = total_set (λ u. times y u.put) views port v w at in
            let t = total_set (λ u. times y u.taken) views port v w at in
            let p = b.count y in
            omega (arith, times-append y v.put (x ∷ []), times-append y items (x ∷ []));
        idle = idle_set views port w (λ zero_parts. absurd (omega (arith, part, zero_parts))) b.idle;
        some = all_snoc (λ y. 1 ≤ y) items x b.some least;
      },
      refl,
    )

pub takes : (port : ℕ) (v : Hand) → 0 < v.parts → Pops Balanced port v (λ x w. (w ≡ hand v.parts v.put (v.taken ++ x ∷ [])) × (1 ≤ x))
takes port v part x items views b at =
    let w = hand v.parts v.put (v.taken ++ x ∷ []) in (
      w,
      record {
        parts = (let s = total_set (λ u. u.parts) views port v w at in let p = b.parts in omega arith);
        count = λ y.
            let s = total_set (λ u. times y u.put) views port v w at in
            let t = total_set (λ u. times y u.taken) views port v w at in
            let p = b.count y in
            omega (arith, times-append y v.taken (x ∷ []));
        idle = idle_set views port w (λ zero_parts. absurd (omega (arith, part, zero_parts))) b.idle;
        some = b.some.1;
      },
      (refl, b.some.0),
    )

pub forks : (port : ℕ) (v : Hand) → 1 < v.parts → Forks Balanced port v (hand (v.parts - 1) v.put v.taken) (hand 1 [] [])
forks port v several items views b at =
    let l = hand (v.parts - 1) v.put v.taken in
    let r = hand 1 [] [] in
    let vs = set views port l in
    record {
      parts = omega (arith, several, total_set (λ u. u.parts) views port v l at, total_snoc (λ u. u.parts) vs r, b.parts);
      count = λ y.
          let s = total_set (λ u. times y u.put) views port v l at in
          let t = total_set (λ u. times y u.taken) views port v l at in
          let s' = total_snoc (λ u. times y u.put) vs r in
          let t' = total_snoc (λ u. times y u.taken) vs r in
          let p = b.count y in
          omega arith;
      idle = idle_snoc vs r (λ zero_parts. absurd (omega (arith, zero_parts)))
          (idle_set views port l (λ zero_parts. absurd (omega (arith, several, zero_parts))) b.idle);
      some = b.some;
    }

pub merges : (port : ℕ) (v : Hand) (other : ℕ) (w : Hand) → 0 < v.parts →
    Merges Balanced port v other w (hand (v.parts + w.parts) (v.put ++ w.put) (v.taken ++ w.taken)) (hand 0 [] [])
merges port v other w part items views b at two at' =
    let both = hand (v.parts + w.parts) (v.put ++ w.put) (v.taken ++ w.taken) in
    let spent = hand 0 [] [] in
    let vs = set views port both in
    record {
      parts = omega (arith, total_set (λ u. u.parts) views port v both at, total_set (λ u. u.parts) vs other w spent at', b.parts);
      count = λ y.
          let s = total_set (λ u. times y u.put) views port v both at in
          let t = total_set (λ u. times y u.taken) views port v both at in
          let s' = total_set (λ u. times y u.put) vs other w spent at' in
          let t' = total_set (λ u. times y u.taken) vs other w spent at' in
          let p = b.count y in
          omega (arith, times-append y v.put w.put, times-append y v.taken w.taken);
      idle = idle_set vs other spent (λ zero_parts. (refl, refl))
          (idle_set views port both (λ zero_parts. absurd (omega (arith, part, zero_parts))) b.idle);
      some = b.some;
    }

-- where no pass has a part, all are empty
none_left : (f : Hand → ℕ) (views : List Hand) → ((u : Hand) → u.put ≡ [] → u.taken ≡ [] → f u ≡ 0) → total (λ u. u.parts) views ≡ 0 →
    IdleIsEmpty views → total f views ≡ 0
none_left f [] empty parts idle = refl
none_left f (u ∷ us) empty parts idle =
    let mine = idle 0 u refl (omega (arith, parts)) in
    let here = empty u mine.0 mine.1 in
    let rest = none_left f us empty (omega (arith, parts)) (λ j v e. idle (suc j) v e) in
    omega (arith, here, rest)

-- where one has them all, the others are
pub one_has : (f : Hand → ℕ) (views : List Hand) (port : ℕ) (v : Hand) → ((u : Hand) → u.put ≡ [] → u.taken ≡ [] → f u ≡ 0) →
    get_elem? views port ≡ some v → total (λ u. u.parts) views ≡ v.parts → IdleIsEmpty views → total f views ≡ f v
one_has f [] port v empty at parts idle = absurd (some-ne-none v (sym at))
one_has f (u ∷ us) zero v empty at parts idle =
    let same : u ≡ v = same_hand u v at in
    let k : u.parts ≡ v.parts = ap (λ (h : Hand). h.parts) same in
    let fk : f u ≡ f v = ap f same in
    let rest = none_left f us empty (omega (arith, parts, k)) (λ j w e. idle (suc j) w e) in
    omega (arith, fk, rest)
one_has f (u ∷ us) (suc port) v empty at parts idle =
    let there = part_at us port v at in
    let mine = idle 0 u refl (omega (arith, parts, there)) in
    let here = empty u mine.0 mine.1 in
    let rest = one_has f us port v empty at (omega (arith, parts, there)) (λ j w e. idle (suc j) w e) in
    omega (arith, here, rest)
  where
    part_at : (views : List Hand) (port : ℕ) (v : Hand) → get_elem? views port ≡ some v → v.parts ≤ total (λ u. u.parts) views
    part_at [] port v at = absurd (some-ne-none v (sym at))
    part_at (u ∷ us) zero v at = let k : u.parts ≡ v.parts = ap (λ (h : Hand). h.parts) (same_hand u v at) in omega (arith, k)
    part_at (u ∷ us) (suc port) v at = let rest = part_at us port v at in omega (arith, rest)

pub learns : (port : ℕ) (v : Hand) → Learns Balanced port v (Knows v)
learns port v items views b at all x =
    let whole : total (λ u. u.parts) views ≡ v.parts = b.parts ∙ sym all in
    let s = one_has (λ u. times x u.put) views port v (λ u put taken. ap (times x) put) at whole b.idle in
    let t = one_has (λ u. times x u.taken) views port v (λ u put taken. ap (times x) taken) at whole b.idle in
    let p = b.count x in
    omega (arith, s, t)
