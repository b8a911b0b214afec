-- A row with another link: all else that it holds stays.
use Rattle.std.proofs.Common.{◌≡◌, ◌≢◌, ℕ, ◌+◌, ◌≤◌, zero, suc, Bool, true, false, ◌||◌, List, [], ◌∷◌, length, set, take, drop, if◌then◌else◌, refl, ap, ◌∙◌, arith, get_or-set_other, get_or-set_same, eq-eqb, ne_eqb}
use Rattle.std.specs.Prelude.{nat_eq, nat_lt, slice_index, ◌&&◌}
use Rattle.lt_ranges.specs.Interval.{Interval, before}
use Rattle.lt_seq.specs.declared.event.Mode.TheVariants.{Tree as TreeMode, Buffer}
use Rattle.lt_rows.specs.declared.image.RowImage.{RowImage}
use Rattle.lt_rows.specs.Nodes.{key_of, upwards, node_of, mode_of, mode_by}
use Rattle.lt_seq.specs.Table.{raised}
use Rattle.lt_locktree.specs.Leavings.{scored}
use Rattle.lt_locktree.specs.PlannedParts.{hangs_left, relinked}

front_same : (n : ℕ) (xs : List ℕ) (i x : ℕ) → n ≤ i → take n (set xs i x) ≡ take n xs
front_same zero xs i x le = refl
front_same (suc n) [] i x le = refl
front_same (suc n) (y ∷ ys) zero x le = absurd (omega (arith, le))
front_same (suc n) (y ∷ ys) (suc i) x le = ap (λ (l : List ℕ). y ∷ l) (front_same n ys i x (omega (arith, le)))

part_same : (n m : ℕ) (xs : List ℕ) (i x : ℕ) → n + m ≤ i → take m (drop n (set xs i x)) ≡ take m (drop n xs)
part_same zero m xs i x le = front_same m xs i x (omega (arith, le))
part_same (suc n) m [] i x le = refl
part_same (suc n) m (y ∷ ys) zero x le = absurd (omega (arith, le))
part_same (suc n) m (y ∷ ys) (suc i) x le = part_same n m ys i x (omega (arith, le))

pub left_set : (ws : List ℕ) (l : ℕ) → length ws ≡ 21 → node_of (set ws 17 l) ≡ record { owner = (node_of ws).owner; range = (node_of ws).range; left = l; right = (node_of ws).right }
unfolding node_of
left_set ws l long =
    let owner = get_or-set_other ws 17 0 l 0 (λ e. omega arith) in
    let low = part_same 1 8 ws 17 l (omega arith) in
    let high = part_same 9 8 ws 17 l (omega arith) in
    let left = get_or-set_same ws 17 l 0 (omega arith) in
    let right = get_or-set_other ws 17 18 l 0 (λ e. omega arith) in
    λ j. record { owner = owner j; range = upwards (key_of (low j)) (key_of (high j)); left = left j; right = right j }

pub right_set : (ws : List ℕ) (l : ℕ) → length ws ≡ 21 → node_of (set ws 18 l) ≡ record { owner = (node_of ws).owner; range = (node_of ws).range; left = (node_of ws).left; right = l }
unfolding node_of
right_set ws l long =
    let owner = get_or-set_other ws 18 0 l 0 (λ e. omega arith) in
    let low = part_same 1 8 ws 18 l (omega arith) in
    let high = part_same 9 8 ws 18 l (omega arith) in
    let left = get_or-set_other ws 18 17 l 0 (λ e. omega arith) in
    let right = get_or-set_same ws 18 l 0 (omega arith) in
    λ j. record { owner = owner j; range = upwards (key_of (low j)) (key_of (high j)); left = left j; right = right j }

pub mode_same : (ws : List ℕ) (l : ℕ) → mode_of (set ws 17 l) ≡ mode_of ws
unfolding mode_of
mode_same ws l =
    let owner = get_or-set_other ws 17 0 l 0 (λ e. omega arith) in
    let score = get_or-set_other ws 17 19 l 0 (λ e. omega arith) in
    let count = get_or-set_other ws 17 20 l 0 (λ e. omega arith) in
    λ j. mode_by (nat_eq (owner j) 0) (TreeMode (score j)) (Buffer (owner j) (count j))

-- a row with another score

pub score_set : (ws : List ℕ) (s : ℕ) → node_of (set ws 19 s) ≡ node_of ws
unfolding node_of
score_set ws s =
    let owner = get_or-set_other ws 19 0 s 0 (λ e. omega arith) in
    let low = part_same 1 8 ws 19 s (omega arith) in
    let high = part_same 9 8 ws 19 s (omega arith) in
    let left = get_or-set_other ws 19 17 s 0 (λ e. omega arith) in
    let right = get_or-set_other ws 19 18 s 0 (λ e. omega arith) in
    λ j. record { owner = owner j; range = upwards (key_of (low j)) (key_of (high j)); left = left j; right = right j }

raised_by : (first b : Bool) (s owner count : ℕ)
    → mode_by b (TreeMode (if first && nat_lt s 100 then s + 1 else s)) (Buffer owner count) ≡ raised first (mode_by b (TreeMode s) (Buffer owner count))
raised_by first true s owner count = refl
raised_by first false s owner count = refl

pub score_raised : (first : Bool) (stays : RowImage) → length stays.words ≡ 21 → mode_of (scored first stays).words ≡ raised first (mode_of stays.words)
unfolding mode_of
score_raised first stays long =
    let ws : List ℕ = stays.words in
    let s : ℕ = slice_index ws 19 in
    let now : ℕ = if first && nat_lt s 100 then s + 1 else s in
    let owner = get_or-set_other ws 19 0 now 0 (λ e. omega arith) in
    let score = get_or-set_same ws 19 now 0 (omega arith) in
    let count = get_or-set_other ws 19 20 now 0 (λ e. omega arith) in
    (λ j. mode_by (nat_eq (owner j) 0) (TreeMode (score j)) (Buffer (owner j) (count j)))
    ∙ raised_by first (nat_eq (slice_index ws 0) 0) s (slice_index ws 0) (slice_index ws 20)

-- on which side the link is set

pub relinked_left : (tree : ℕ) (asked : Interval) (stays : RowImage) (link : ℕ) → hangs_left tree asked stays ≡ true
    → (relinked tree asked stays link).words ≡ set stays.words 17 link
relinked_left tree asked stays link e = ap (λ (b : Bool). set stays.words (if b then 17 else 18) link) e

pub relinked_right : (tree : ℕ) (asked : Interval) (stays : RowImage) (link : ℕ) → hangs_left tree asked stays ≡ false
    → (relinked tree asked stays link).words ≡ set stays.words 18 link
relinked_right tree asked stays link e = ap (λ (b : Bool). set stays.words (if b then 17 else 18) link) e

or_true : (b c : Bool) → c ≡ true → (b || c) ≡ true
or_true true c e = refl
or_true false c e = e

pub left_as_anchor : (tree : ℕ) (asked : Interval) (stays : RowImage) → stays.row ≡ tree → hangs_left tree asked stays ≡ true
left_as_anchor tree asked stays e = ap (λ (b : Bool). b || before asked (node_of stays.words).range) (eq-eqb stays.row tree e)

pub left_as_before : (tree : ℕ) (asked : Interval) (stays : RowImage) → before asked (node_of stays.words).range ≡ true → hangs_left tree asked stays ≡ true
left_as_before tree asked stays e = or_true (nat_eq stays.row tree) (before asked (node_of stays.words).range) e

pub right_as_behind : (tree : ℕ) (asked : Interval) (stays : RowImage) → stays.row ≢ tree → before asked (node_of stays.words).range ≡ false → hangs_left tree asked stays ≡ false
right_as_behind tree asked stays ne e =
    ap (λ (b : Bool). b || before asked (node_of stays.words).range) (ne_eqb stays.row tree ne) ∙ e
