-- The wishes of the transactions that wait, by ascending transaction.
use Rattle.std.specs.Prelude.{◌≡◌, ℕ, ◌≤◌, ◌<◌, List, [], ◌∷◌, length, map, filter, find, ◌==◌}
use Rattle.std.specs.Prelude.{nat_lt, not, Bool, ◌&&◌, if◌then◌else◌, slice_index_or, Option, Some, None, true, false, insert, remove}
use Rattle.std.specs.List.{list_all}
use Rattle.std.specs.List.Sorted.{IsStrictlyIncreasing}
use Rattle.lt_ranges.specs.Numbers.{is_in}
use Rattle.lt_requests.specs.declared.wish.Wish.{Wish}

abbrev pub txns_of : List Wish → List ℕ
txns_of wishes = map (λ w. w.txn) wishes

-- they ascend, and no transaction has two
abbrev pub Ascend : List Wish → Type 0
Ascend wishes = IsStrictlyIncreasing (txns_of wishes)

abbrev pub is_registered : ℕ → List Wish → Bool
is_registered txn wishes = is_in txn (txns_of wishes)

-- the wish of the transaction
abbrev pub wish_of : ℕ → List Wish → Option Wish
wish_of txn wishes = find (λ w. w.txn == txn) wishes

-- the least number above this one of those that wait
abbrev pub next_above : ℕ → List Wish → Option ℕ
next_above txn wishes = find (λ n. nat_lt txn n) (txns_of wishes)

-- all but the transaction's
abbrev pub without : ℕ → List Wish → List Wish
without txn wishes = filter (λ w. not (w.txn == txn)) wishes

-- a wish in its place
abbrev pub with_wish : Wish → List Wish → List Wish
with_wish wish [] = wish ∷ []
with_wish wish (w ∷ ws) = if nat_lt wish.txn w.txn then wish ∷ w ∷ ws else w ∷ with_wish wish ws

-- a wish that may be asked for: its transaction has a number, and its tree is one of so many
abbrev pub may_ask : ℕ → Wish → Bool
may_ask trees wish = nat_lt 0 wish.txn && nat_lt wish.tree trees

abbrev pub MayAsk : ℕ → List Wish → Type 0
MayAsk trees wishes = list_all (may_ask trees) wishes ≡ true

-- Where a transaction's wish stands, or would stand.

pub record IsFoundAt (wishes : List Wish) (txn at : ℕ) : Type 0 where
  pub inside : at < length wishes
  pub wish : (d : Wish) → wish_of txn wishes ≡ Some (slice_index_or wishes at d)
  pub there : is_registered txn wishes ≡ true
  pub left : without txn wishes ≡ remove wishes at

pub record IsGapAt (wishes : List Wish) (txn at : ℕ) : Type 0 where
  pub inside : at ≤ length wishes
  pub none : wish_of txn wishes ≡ None
  pub absent : is_registered txn wishes ≡ false
  pub left : without txn wishes ≡ wishes
  pub put : (wish : Wish) → wish.txn ≡ txn → with_wish wish wishes ≡ insert wishes at wish

pub record IsNextAt (wishes : List Wish) (txn at : ℕ) : Type 0 where
  pub there : at < length wishes → (d : Wish) → next_above txn wishes ≡ Some (slice_index_or wishes at d).txn
  pub none : length wishes ≤ at → next_above txn wishes ≡ None
