-- A row taken below a link that hangs.
use Rattle.std.proofs.Common.{◌≡◌, ◌⊎◌, inl, inr, ℕ, ◌+◌, List, [], ◌∷◌, ◌++◌, length, length-append, refl, sym, ap, ap₂, ◌∙◌, arith, append_assoc}
use Rattle.lt_forest.specs.Trees.{Nodes, in_order}
use Rattle.lt_forest.specs.Cuts.{Cut, end, held, Shows, bare}
use Rattle.lt_forest.specs.Parts.{hangs_of}
use Rattle.lt_forest.specs.Widenings.{Widens}

abbrev tail_of : List ℕ → List ℕ
tail_of [] = []
tail_of (x ∷ xs) = xs

abbrev head_or : ℕ → List ℕ → ℕ
head_or d [] = d
head_or d (x ∷ xs) = x

-- where a number stands in a list that is made of two

record InFirst (ks bs xs ys : List ℕ) (y : ℕ) : Type 0 where
  pub rest : List ℕ
  pub first : ks ≡ xs ++ y ∷ rest
  pub behind : ys ≡ rest ++ bs

record InSecond (ks bs xs ys : List ℕ) (y : ℕ) : Type 0 where
  pub rest : List ℕ
  pub before : xs ≡ ks ++ rest
  pub second : bs ≡ rest ++ y ∷ ys

where_is : (ks bs xs ys : List ℕ) (y : ℕ) → ks ++ bs ≡ xs ++ y ∷ ys → InFirst ks bs xs ys y ⊎ InSecond ks bs xs ys y
where_is [] bs xs ys y e = inr (record { rest = xs; before = refl; second = e })
where_is (k ∷ ks) bs [] ys y e =
    inl (record { rest = ks; first = ap (λ (n : ℕ). n ∷ ks) (ap (head_or 0) e); behind = sym (ap tail_of e) })
where_is (k ∷ ks) bs (x ∷ xs) ys y e = elim (where_is ks bs xs ys y (ap tail_of e)) [
  | inl h ↦ inl (record {
    rest = h.rest;
    first = ap₂ (λ (n : ℕ) (l : List ℕ). n ∷ l) (ap (head_or 0) e) h.first;
    behind = h.behind;
  })
  | inr h ↦ inr (record {
    rest = h.rest;
    before = ap₂ (λ (n : ℕ) (l : List ℕ). n ∷ l) (sym (ap (head_or 0) e)) h.before;
    second = h.second;
  })
]

record IsSingle (l : ℕ) (xs ys : List ℕ) (y : ℕ) : Type 0 where
  pub none_before : xs ≡ []
  pub same : l ≡ y
  pub none_behind : ys ≡ []

single : (l : ℕ) (xs ys : List ℕ) (y : ℕ) → l ∷ [] ≡ xs ++ y ∷ ys → IsSingle l xs ys y
single l [] ys y e = record { none_before = refl; same = ap (head_or 0) e; none_behind = sym (ap tail_of e) }
single l (x ∷ xs) ys y e =
    absurd (let n = ap (λ (l : List ℕ). length l) e in omega (arith, length-append xs (y ∷ ys)))

pub length-hangs_of : (cut : Cut) → length (hangs_of cut) ≡ length (in_order (bare cut)) + 1
length-hangs_of (end l) = refl
length-hangs_of (held a r b) =
    let x = length-hangs_of a in
    let y = length-hangs_of b in
    omega (arith, length-append (hangs_of a) (hangs_of b), length-append (in_order (bare a)) (r ∷ in_order (bare b)))

pub widens : (c : Nodes) (link : ℕ) (cut : Cut) (r : ℕ) (xs ys : List ℕ) → Shows c link cut → hangs_of cut ≡ xs ++ (r + 1) ∷ ys
    → Widens c link cut r xs ys
widens c link (end l) r xs ys shows e =
    let s = single l xs ys (r + 1) e in
    record {
      wider = held (end (c r).left) r (end (c r).right);
      shows = (shows ∙ s.same, refl, refl);
      old_hangs = e;
      hangs = λ i. sym s.none_before i ++ (c r).left ∷ (c r).right ∷ sym s.none_behind i;
      rows_before = [];
      rows_behind = [];
      old_rows = refl;
      place = ap (λ (l : List ℕ). length l) (sym s.none_before);
      new_rows = refl;
    }
widens c link (held a q b) r xs ys shows e = elim (where_is (hangs_of a) (hangs_of b) xs ys (r + 1) e) [
  | inl h ↦
      let w = widens c (c q).left a r xs h.rest shows.1 h.first in
      let l = (c r).left in
      let m = (c r).right in
      record {
        wider = held w.wider q b;
        shows = (shows.0, w.shows, shows.2);
        old_hangs = e;
        hangs = ap (λ (k : List ℕ). k ++ hangs_of b) w.hangs
            ∙ (append_assoc xs (l ∷ m ∷ h.rest) (hangs_of b) ∙ ap (λ (k : List ℕ). xs ++ l ∷ m ∷ k) (sym h.behind));
        rows_before = w.rows_before;
        rows_behind = w.rows_behind ++ q ∷ in_order (bare b);
        old_rows = ap (λ (k : List ℕ). k ++ q ∷ in_order (bare b)) w.old_rows
            ∙ append_assoc w.rows_before w.rows_behind (q ∷ in_order (bare b));
        place = w.place;
        new_rows = ap (λ (k : List ℕ). k ++ q ∷ in_order (bare b)) w.new_rows
            ∙ append_assoc w.rows_before (r ∷ w.rows_behind) (q ∷ in_order (bare b));
      }
  | inr h ↦
      let w = widens c (c q).right b r h.rest ys shows.2 h.second in
      let l = (c r).left in
      let m = (c r).right in
      record {
        wider = held a q w.wider;
        shows = (shows.0, shows.1, w.shows);
        old_hangs = e;
        hangs = ap (λ (k : List ℕ). hangs_of a ++ k) w.hangs
            ∙ (sym (append_assoc (hangs_of a) h.rest (l ∷ m ∷ ys)) ∙ ap (λ (k : List ℕ). k ++ l ∷ m ∷ ys) (sym h.before));
        rows_before = in_order (bare a) ++ q ∷ w.rows_before;
        rows_behind = w.rows_behind;
        old_rows = ap (λ (k : List ℕ). in_order (bare a) ++ q ∷ k) w.old_rows
            ∙ sym (append_assoc (in_order (bare a)) (q ∷ w.rows_before) w.rows_behind);
        place =
            let p = w.place in
            let n = length-hangs_of a in
            let k = ap (λ (k : List ℕ). length k) h.before in
            omega (arith, length-append (in_order (bare a)) (q ∷ w.rows_before), length-append (hangs_of a) h.rest);
        new_rows = ap (λ (k : List ℕ). in_order (bare a) ++ q ∷ k) w.new_rows
            ∙ sym (append_assoc (in_order (bare a)) (q ∷ w.rows_before) (r ∷ w.rows_behind));
      }
]
