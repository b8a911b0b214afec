-- A row's words with one of them another: what else they show stays.
use Rattle.std.proofs.Common.{◌≡◌, ℕ, ◌+◌, ◌<◌, ◌≤◌, zero, suc, List, [], ◌∷◌, length, set, take, drop, refl, ap, arith, get_or-set_other, get_or-set_same}
use Rattle.std.specs.Prelude.{nat_eq}
use Rattle.lt_seq.specs.declared.event.Mode.TheVariants.{Tree as TreeMode, Buffer}
use Rattle.lt_rows.specs.Nodes.{key_of, upwards, node_of, mode_of, mode_by}

front_same : (n : ℕ) (xs : List ℕ) (i x : ℕ) → n ≤ i → take n (set xs i x) ≡ take n xs
front_same zero xs i x le = refl
front_same (suc n) [] i x le = refl
front_same (suc n) (y ∷ ys) zero x le = absurd (omega (arith, le))
front_same (suc n) (y ∷ ys) (suc i) x le = ap (λ (l : List ℕ). y ∷ l) (front_same n ys i x (omega (arith, le)))

part_same : (n m : ℕ) (xs : List ℕ) (i x : ℕ) → n + m ≤ i → take m (drop n (set xs i x)) ≡ take m (drop n xs)
part_same zero m xs i x le = front_same m xs i x (omega (arith, le))
part_same (suc n) m [] i x le = refl
part_same (suc n) m (y ∷ ys) zero x le = absurd (omega (arith, le))
part_same (suc n) m (y ∷ ys) (suc i) x le = part_same n m ys i x (omega (arith, le))

pub left_set : (ws : List ℕ) (l : ℕ) → length ws ≡ 21 → node_of (set ws 17 l) ≡ record (node_of ws) { left = l }
unfolding node_of
left_set ws l long =
    let owner = get_or-set_other ws 17 0 l 0 (λ e. omega arith) in
    let low = part_same 1 8 ws 17 l (omega arith) in
    let high = part_same 9 8 ws 17 l (omega arith) in
    let left = get_or-set_same ws 17 l 0 (omega arith) in
    let right = get_or-set_other ws 17 18 l 0 (λ e. omega arith) in
    λ j. record { owner = owner j; range = upwards (key_of (low j)) (key_of (high j)); left = left j; right = right j }

pub right_set : (ws : List ℕ) (l : ℕ) → length ws ≡ 21 → node_of (set ws 18 l) ≡ record (node_of ws) { right = l }
unfolding node_of
right_set ws l long =
    let owner = get_or-set_other ws 18 0 l 0 (λ e. omega arith) in
    let low = part_same 1 8 ws 18 l (omega arith) in
    let high = part_same 9 8 ws 18 l (omega arith) in
    let left = get_or-set_other ws 18 17 l 0 (λ e. omega arith) in
    let right = get_or-set_same ws 18 l 0 (omega arith) in
    λ j. record { owner = owner j; range = upwards (key_of (low j)) (key_of (high j)); left = left j; right = right j }

-- an estimate is no part of what a row holds
pub estimate_set : (ws : List ℕ) (i x : ℕ) → 18 < i → node_of (set ws i x) ≡ node_of ws
unfolding node_of
estimate_set ws i x le =
    let owner = get_or-set_other ws i 0 x 0 (λ e. omega arith) in
    let low = part_same 1 8 ws i x (omega arith) in
    let high = part_same 9 8 ws i x (omega arith) in
    let left = get_or-set_other ws i 17 x 0 (λ e. omega arith) in
    let right = get_or-set_other ws i 18 x 0 (λ e. omega arith) in
    λ j. record { owner = owner j; range = upwards (key_of (low j)) (key_of (high j)); left = left j; right = right j }

-- and a link none of what an anchor shows as its mode
pub mode_set : (ws : List ℕ) (i x : ℕ) → 0 < i → i < 19 → mode_of (set ws i x) ≡ mode_of ws
unfolding mode_of
mode_set ws i x some less =
    let owner = get_or-set_other ws i 0 x 0 (λ e. omega arith) in
    let score = get_or-set_other ws i 19 x 0 (λ e. omega arith) in
    let count = get_or-set_other ws i 20 x 0 (λ e. omega arith) in
    λ j. mode_by (nat_eq (owner j) 0) (TreeMode (score j)) (Buffer (owner j) (count j))
