-- What is found at a place among the rows, and what an edit there makes of them.
use Rattle.std.proofs.Common.{◌≡◌, ◌≢◌, ℕ, zero, suc, ◌+◌, ◌<◌, ◌≤◌, List, [], ◌∷◌, ◌++◌, length, take, drop, get_or, set, Option, Some, None, Bool, true, false, not, if◌then◌else◌, ◌⊎◌, inl, inr, refl, sym, ap, subst, ◌∙◌, arith}
use Rattle.std.specs.List.{insert, remove}
use Rattle.std.specs.List.Sorted.{IsPartitionedBy, IsPartitionPoint}
use Rattle.std.proofs.Math.Nat.{eq-or-lt_of_le}
use Rattle.lt_ranges.specs.declared.key.Key.{Key}
use Rattle.lt_ranges.specs.Key.{key_le}
use Rattle.lt_ranges.proofs.KeyLaws.{le_itself, le_trans, le_total}
use Rattle.lt_store.specs.declared.row.StoreRow.{StoreRow}
use Rattle.lt_store.specs.Rows.{row_of, find, put, removed, restored, AreBehind, AreAscending}
use Rattle.lt_store.specs.Places.{IsPlace, IsAt, IsGap}
use Rattle.lt_store.proofs.RowsLaws.{either, never}

behind_at : (key : Key) (rows : List StoreRow) (j : ℕ) (d : StoreRow) → AreBehind key rows → j < length rows → key_le (get_or rows j d).key key ≡ false
behind_at key [] j d all h = absurd (omega arith)
behind_at key (r ∷ rs) zero d all h = all.0
behind_at key (r ∷ rs) (suc j) d all h = behind_at key rs j d all.1 (omega arith)

ascends_at : (rows : List StoreRow) (i j : ℕ) (d : StoreRow) → AreAscending rows → i < j → j < length rows → key_le (get_or rows j d).key (get_or rows i d).key ≡ false
ascends_at [] i j d up lt h = absurd (omega arith)
ascends_at (r ∷ rs) i zero d up lt h = absurd (omega arith)
ascends_at (r ∷ rs) zero (suc j) d up lt h = behind_at r.key rs j d up.0 (omega arith)
ascends_at (r ∷ rs) (suc i) (suc j) d up lt h = ascends_at rs i j d up.1 (omega arith) (omega arith)

not_true : (b : Bool) → not b ≡ true → b ≡ false
not_true true e = cc
not_true false e = refl

not_false : (b : Bool) → not b ≡ false → b ≡ true
not_false true e = refl
not_false false e = cc

from_false : (b : Bool) → b ≡ false → not b ≡ true
from_false true e = cc
from_false false e = refl

pub parted : (rows : List StoreRow) (key : Key) → AreAscending rows → IsPartitionedBy (λ r. not (key_le key r.key)) rows
parted rows key up i j d h k e = elim (eq-or-lt_of_le h) [
  | inl same ↦ subst (λ n. not (key_le key (get_or rows n d).key) ≡ true) (sym same) e
  | inr less ↦ (let x = (get_or rows i d).key in
      let y = (get_or rows j d).key in
      let over : key_le y key ≡ true = le_total key y (not_true (key_le key y) e) in
      let apart : key_le y x ≡ false = ascends_at rows i j d up less k in
      from_false (key_le key x) (elim (either (key_le key x)) [
        | inl t ↦ never (key_le y x) (le_trans y key x over t) apart
        | inr t ↦ t
      ]))
]

pub placed : (rows : List StoreRow) (key : Key) (place : ℕ) → place ≤ length rows → IsPartitionPoint (λ r. not (key_le key r.key) ≡ true) (λ r. not (key_le key r.key) ≡ false) rows place → IsPlace rows key place
placed rows key place within point = record {
  within = within;
  front = λ k d lt. not_true (key_le key (get_or rows k d).key) (point.0 k d (omega arith) lt);
  behind = λ k d le lt. not_false (key_le key (get_or rows k d).key) (point.1 k d le lt);
}

tail_place : (r : StoreRow) (rs : List StoreRow) (key : Key) (i : ℕ) → IsPlace (r ∷ rs) key (suc i) → IsPlace rs key i
tail_place r rs key i at = record {
  within = omega (arith, at.within);
  front = λ k d lt. at.front (suc k) d (omega arith);
  behind = λ k d le lt. at.behind (suc k) d (omega arith) (omega arith);
}

tail_at : (r : StoreRow) (rs : List StoreRow) (key : Key) (i : ℕ) → IsAt (r ∷ rs) key (suc i) → IsAt rs key i
tail_at r rs key i is = record { at = tail_place r rs key i is.at; within = omega (arith, is.within); same = is.same }

tail_gap : (r : StoreRow) (rs : List StoreRow) (key : Key) (i : ℕ) → IsGap (r ∷ rs) key (suc i) → IsGap rs key i
tail_gap r rs key i is = record { at = tail_place r rs key i is.at; greater = λ d lt. is.greater d (omega arith) }

-- the key is there
pub find_at : (rows : List StoreRow) (key : Key) (i : ℕ) (d : StoreRow) → IsAt rows key i → find rows key ≡ Some (get_or rows i d).value
find_at [] key i d is = absurd (omega (arith, is.within))
find_at (r ∷ rs) key zero d is = let x = is.at.behind 0 r (omega arith) (omega arith) in let y = is.same r in simp (x, y)
find_at (r ∷ rs) key (suc i) d is = let x = is.at.front 0 r (omega arith) in simp x (find_at rs key i d (tail_at r rs key i is))

pub put_at : (rows : List StoreRow) (key : Key) (value i : ℕ) → IsAt rows key i → put rows key value ≡ set rows i (row_of key value)
put_at [] key value i is = absurd (omega (arith, is.within))
put_at (r ∷ rs) key value zero is = let x = is.at.behind 0 r (omega arith) (omega arith) in let y = is.same r in simp (x, y)
put_at (r ∷ rs) key value (suc i) is = let x = is.at.front 0 r (omega arith) in simp x (ap (λ (l : List StoreRow). r ∷ l) (put_at rs key value i (tail_at r rs key i is)))

pub removed_at : (rows : List StoreRow) (key : Key) (i : ℕ) → IsAt rows key i → removed rows key ≡ remove rows i
removed_at [] key i is = absurd (omega (arith, is.within))
removed_at (r ∷ rs) key zero is = let x = is.at.behind 0 r (omega arith) (omega arith) in let y = is.same r in simp (x, y)
removed_at (r ∷ rs) key (suc i) is = let x = is.at.front 0 r (omega arith) in simp x (ap (λ (l : List StoreRow). r ∷ l) (removed_at rs key i (tail_at r rs key i is)))

-- or it is not
pub find_gap : (rows : List StoreRow) (key : Key) (i : ℕ) → IsGap rows key i → find rows key ≡ None
find_gap [] key i is = refl
find_gap (r ∷ rs) key zero is = let x = is.at.behind 0 r (omega arith) (omega arith) in let y = is.greater r (omega arith) in simp (x, y)
find_gap (r ∷ rs) key (suc i) is = let x = is.at.front 0 r (omega arith) in simp x (find_gap rs key i (tail_gap r rs key i is))

pub put_gap : (rows : List StoreRow) (key : Key) (value i : ℕ) → IsGap rows key i → put rows key value ≡ insert rows i (row_of key value)
put_gap [] key value zero is = refl
put_gap [] key value (suc i) is = absurd (omega (arith, is.at.within))
put_gap (r ∷ rs) key value zero is = let x = is.at.behind 0 r (omega arith) (omega arith) in let y = is.greater r (omega arith) in simp (x, y)
put_gap (r ∷ rs) key value (suc i) is = let x = is.at.front 0 r (omega arith) in simp x (ap (λ (l : List StoreRow). r ∷ l) (put_gap rs key value i (tail_gap r rs key i is)))

-- the rows ascend still
module _ (low key : Key) (value : ℕ) where
  behind_put : (rows : List StoreRow) → AreBehind low rows → key_le key low ≡ false → AreBehind low (put rows key value)
  behind_put [] all e = (e, tt)
  behind_put (r ∷ rs) all e = by (behind_put rs all.1 e) (key_le key r.key) (key_le r.key key)
    where
      by : AreBehind low (put rs key value) → (b c : Bool) → AreBehind low (if b then (if c then row_of key value ∷ rs else row_of key value ∷ r ∷ rs) else r ∷ put rs key value)
      by rest true true = (e, all.1)
      by rest true false = (e, (all.0, all.1))
      by rest false c = (all.0, rest)

lower : (low high : Key) (rows : List StoreRow) → AreBehind high rows → key_le low high ≡ true → AreBehind low rows
lower low high [] all e = tt
lower low high (r ∷ rs) all e =
    (elim (either (key_le r.key low)) [ inl t ↦ never (key_le r.key high) (le_trans r.key low high t e) all.0 | inr t ↦ t ], lower low high rs all.1 e)

pub ascends_put : (rows : List StoreRow) (key : Key) (value : ℕ) → AreAscending rows → AreAscending (put rows key value)
ascends_put [] key value up = (tt, tt)
ascends_put (r ∷ rs) key value up = by (ascends_put rs key value up.1) (key_le key r.key) (key_le r.key key) refl refl
  where
    by : AreAscending (put rs key value) → (b c : Bool) → key_le key r.key ≡ b → key_le r.key key ≡ c →
        AreAscending (if b then (if c then row_of key value ∷ rs else row_of key value ∷ r ∷ rs) else r ∷ put rs key value)
    by rest true true e f = (lower key r.key rs up.0 e, up.1)
    by rest true false e f = ((f, lower key r.key rs up.0 e), (up.0, up.1))
    by rest false c e f = (behind_put r.key key value rs up.0 e, rest)

behind_removed : (low key : Key) (rows : List StoreRow) → AreBehind low rows → AreBehind low (removed rows key)
behind_removed low key [] all = tt
behind_removed low key (r ∷ rs) all = by (behind_removed low key rs all.1) (key_le key r.key) (key_le r.key key)
  where
    by : AreBehind low (removed rs key) → (b c : Bool) → AreBehind low (if b then (if c then rs else r ∷ rs) else r ∷ removed rs key)
    by rest true true = all.1
    by rest true false = all
    by rest false c = (all.0, rest)

pub ascends_removed : (rows : List StoreRow) (key : Key) → AreAscending rows → AreAscending (removed rows key)
ascends_removed [] key up = tt
ascends_removed (r ∷ rs) key up = by (ascends_removed rs key up.1) (key_le key r.key) (key_le r.key key)
  where
    by : AreAscending (removed rs key) → (b c : Bool) → AreAscending (if b then (if c then rs else r ∷ rs) else r ∷ removed rs key)
    by rest true true = up.1
    by rest true false = up
    by rest false c = (behind_removed r.key key rs up.0, rest)
