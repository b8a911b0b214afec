-- What a put leaves of other keys, and what undoes it.
use Rattle.std.proofs.Common.{◌≡◌, ◌≢◌, ℕ, List, [], ◌∷◌, Option, Some, None, Bool, true, false, if◌then◌else◌, ◌&&◌, ◌⊎◌, inl, inr, refl, sym, ap, subst, ◌∙◌}
use Rattle.std.specs.List.{filter}
use Rattle.lt_ranges.specs.declared.key.Key.{Key}
use Rattle.lt_ranges.specs.Key.{key_le}
use Rattle.lt_ranges.specs.Interval.{Interval, has}
use Rattle.lt_ranges.proofs.KeyLaws.{le_itself, le_trans, le_total, le_both}
use Rattle.lt_store.specs.declared.row.StoreRow.{StoreRow}
use Rattle.lt_store.specs.Rows.{row_of, find, put, removed, restored, inside}

pub either : (b : Bool) → (b ≡ true) ⊎ (b ≡ false)
either true = inl refl
either false = inr refl

pub never : {P : Type 0} (b : Bool) → b ≡ true → b ≡ false → P
never true e f = cc
never false e f = cc

module _ (a b : Key) (differ : a ≢ b) where
  -- of two keys that differ the one that is at most the other is less
  pub not_back : key_le a b ≡ true → key_le b a ≡ false
  not_back e = elim (either (key_le b a)) [ inl f ↦ absurd (differ (le_both a b e f)) | inr f ↦ f ]

-- a put and its undoing leave the rows as they were
skip : (r : StoreRow) (rs : List StoreRow) (key : Key) (old : Option ℕ) → key_le key r.key ≡ false → restored (r ∷ rs) key old ≡ r ∷ restored rs key old
skip r rs key None e = rw e refl
skip r rs key (Some value) e = rw e refl

pub undone : (rows : List StoreRow) (key : Key) (value : ℕ) → restored (put rows key value) key (find rows key) ≡ rows
undone [] key value = rw (le_itself key) refl
undone (r ∷ rs) key value = go (undone rs key value) (key_le key r.key) (key_le r.key key) refl refl
  where
    go : restored (put rs key value) key (find rs key) ≡ rs → (b c : Bool) → key_le key r.key ≡ b → key_le r.key key ≡ c →
        restored (if b then (if c then row_of key value ∷ rs else row_of key value ∷ r ∷ rs) else r ∷ put rs key value) key
        (if b then (if c then Some r.value else None) else find rs key) ≡ r ∷ rs
    go rest true true e f = rw (le_itself key) (ap (λ (k : Key). row_of k r.value ∷ rs) (le_both key r.key e f))
    go rest true false e f = rw (le_itself key) refl
    go rest false c e f = skip r (put rs key value) key (find rs key) e ∙ ap (λ (l : List StoreRow). r ∷ l) rest

-- a put does not change what is found of another key
pub find_other : (rows : List StoreRow) (a b : Key) (value : ℕ) → a ≢ b → find (put rows a value) b ≡ find rows b
find_other [] a b value differ =
    elim (either (key_le b a)) [
      | inl e ↦ (let f : key_le a b ≡ false = not_back b a (λ (s : b ≡ a). differ (sym s)) e in rw (e, f) refl)
      | inr e ↦ rw e refl
    ]
find_other (r ∷ rs) a b value differ =
    elim (either (key_le a r.key)) [
      | inl x ↦ elim (either (key_le r.key a)) [
        | inl y ↦ (let same : a ≡ r.key = le_both a r.key x y in
            rw (x, y) (subst (λ (k : Key). find (row_of a value ∷ rs) b ≡ (if key_le b k then (if key_le k b then Some r.value else None) else find rs b)) same (at_same)))
        | inr y ↦ rw (x, y) (before_it x y)
      ]
      | inr x ↦ rw x (ap (λ (f : Option ℕ). if key_le b r.key then (if key_le r.key b then Some r.value else None) else f) (find_other rs a b value differ))
    ]
  where
    at_same : find (row_of a value ∷ rs) b ≡ (if key_le b a then (if key_le a b then Some r.value else None) else find rs b)
    at_same = elim (either (key_le b a)) [
      | inl e ↦ (let f : key_le a b ≡ false = not_back b a (λ (s : b ≡ a). differ (sym s)) e in rw (e, f) refl)
      | inr e ↦ rw e refl
    ]

    before_it : key_le a r.key ≡ true → key_le r.key a ≡ false → find (row_of a value ∷ r ∷ rs) b ≡ find (r ∷ rs) b
    before_it x y = elim (either (key_le b a)) [
      | inl e ↦ (let f : key_le a b ≡ false = not_back b a (λ (s : b ≡ a). differ (sym s)) e in
          let p : key_le b r.key ≡ true = le_trans b a r.key e x in
          let q : key_le r.key b ≡ false = elim (either (key_le r.key b)) [ inl t ↦ never (key_le r.key a) (le_trans r.key b a t e) y | inr t ↦ t ] in
          rw (e, f, p, q) refl)
      | inr e ↦ rw e refl
    ]

-- nor the rows of a range without its key
module _ (range : Interval) (a : Key) (value : ℕ) (out : has range a ≡ false) where
  drops : (r : StoreRow) (rs : List StoreRow) → has range r.key ≡ false → inside range (r ∷ rs) ≡ inside range rs
  drops r rs e = by (has range r.key) e
    where
      by : (b : Bool) → b ≡ false → (if b then r ∷ inside range rs else inside range rs) ≡ inside range rs
      by true f = cc
      by false f = refl

  keeps : (r : StoreRow) (xs ys : List StoreRow) → inside range xs ≡ inside range ys → inside range (r ∷ xs) ≡ inside range (r ∷ ys)
  keeps r xs ys e = ap (λ (l : List StoreRow). if has range r.key then r ∷ l else l) e

  pub inside_other : (rows : List StoreRow) → inside range (put rows a value) ≡ inside range rows
  inside_other [] = drops (row_of a value) [] out
  inside_other (r ∷ rs) = by (inside_other rs) (key_le a r.key) (key_le r.key a) refl refl
    where
      by : inside range (put rs a value) ≡ inside range rs → (x y : Bool) → key_le a r.key ≡ x → key_le r.key a ≡ y →
          inside range (if x then (if y then row_of a value ∷ rs else row_of a value ∷ r ∷ rs) else r ∷ put rs a value) ≡ inside range (r ∷ rs)
      by rest true true e f = drops (row_of a value) rs out ∙ sym (drops r rs (subst (λ (k : Key). has range k ≡ false) (le_both a r.key e f) out))
      by rest true false e f = drops (row_of a value) (r ∷ rs) out
      by rest false y e f = keeps r (put rs a value) rs rest

-- puts of two keys may come in either order
module _ (a b : Key) (v w : ℕ) (less : key_le b a ≡ false) where
  up : key_le a b ≡ true
  up = le_total b a less

  lower : (k : Key) → key_le k a ≡ true → key_le b k ≡ false
  lower k y = elim (either (key_le b k)) [ inl p ↦ never (key_le b a) (le_trans b k a p y) less | inr p ↦ p ]

  put_less : (rows : List StoreRow) → put (put rows a v) b w ≡ put (put rows b w) a v
  put_less [] = simp (less, up)
  put_less (r ∷ rs) =
      elim (either (key_le a r.key)) [
        | inl x ↦ elim (either (key_le r.key a)) [
          | inl y ↦ (let p : key_le b r.key ≡ false = lower r.key y in simp (x, y, p, less))
          | inr y ↦ elim (either (key_le b r.key)) [
            | inl p ↦ elim (either (key_le r.key b)) [
              | inl q ↦ simp (x, y, less, p, q, up)
              | inr q ↦ simp (x, y, less, p, q, up)
            ]
            | inr p ↦ simp (x, y, less, p)
          ]
        ]
        | inr x ↦ (let p : key_le b r.key ≡ false = lower r.key (le_total a r.key x) in
            simp (x, p) (ap (λ (l : List StoreRow). r ∷ l) (put_less rs)))
      ]

pub put_commutes : (rows : List StoreRow) (a b : Key) (v w : ℕ) → a ≢ b → put (put rows a v) b w ≡ put (put rows b w) a v
put_commutes rows a b v w differ =
    elim (either (key_le b a)) [
      | inl e ↦ sym (put_less b a w v (not_back b a (λ (s : b ≡ a). differ (sym s)) e) rows)
      | inr e ↦ put_less a b v w e rows
    ]

pub find_same : (rows : List StoreRow) (key : Key) (value : ℕ) → find (put rows key value) key ≡ Some value
find_same [] key value = let e = le_itself key in simp e
find_same (r ∷ rs) key value =
    let e = le_itself key in
    elim (either (key_le key r.key)) [
      | inl x ↦ elim (either (key_le r.key key)) [ inl y ↦ simp (x, y, e) | inr y ↦ simp (x, y, e) ]
      | inr x ↦ simp x (find_same rs key value)
    ]
