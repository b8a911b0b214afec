-- Where a transaction stands among ascending ones.
use Rattle.std.proofs.Common.{◌≡◌, ◌≢◌, ℕ, zero, suc, ◌+◌, ◌<◌, ◌≤◌, List, [], ◌∷◌, ◌++◌, map, length, take, drop, get_or, Bool, true, false, nat_lt, ◌==◌, if◌then◌else◌, ◌⊎◌, inl, inr, refl, sym, ap, subst, ◌∙◌, arith}
use Rattle.std.specs.List.{insert}
use Rattle.std.specs.List.Sorted.{IsPartitionedBy, IsPartitionPoint}
use Rattle.std.proofs.lemmas.Bool.Decides.{nat_tests}
use Rattle.std.proofs.Math.Nat.{eq-or-lt_of_le}
use Rattle.lt_store.specs.View.{Work, begun}
use Rattle.lt_store.specs.Book.{Acts, AllAbove, Ascends}
use Rattle.lt_store.specs.Acting.{works, fresh, HasBegun}

above_at : (txn : ℕ) (live : List Acts) (j : ℕ) (d : Acts) → AllAbove txn live → j < length live → txn < (get_or live j d).txn
above_at txn [] j d all h = absurd (omega arith)
above_at txn (a ∷ as') zero d all h = all.0
above_at txn (a ∷ as') (suc j) d all h = above_at txn as' j d all.1 (omega arith)

ascends_at : (live : List Acts) (i j : ℕ) (d : Acts) → Ascends live → i < j → j < length live → (get_or live i d).txn < (get_or live j d).txn
ascends_at [] i j d up lt h = absurd (omega arith)
ascends_at (a ∷ as') i zero d up lt h = absurd (omega arith)
ascends_at (a ∷ as') zero (suc j) d up lt h = above_at a.txn as' j d up.0 (omega arith)
ascends_at (a ∷ as') (suc i) (suc j) d up lt h = ascends_at as' i j d up.1 (omega arith) (omega arith)

pub parted : (live : List Acts) (txn : ℕ) → Ascends live → IsPartitionedBy (λ a. nat_lt a.txn txn) live
parted live txn up i j d h k e = elim (eq-or-lt_of_le h) [
  | inl same ↦ subst (λ n. nat_lt (get_or live n d).txn txn ≡ true) (sym same) e
  | inr less ↦ (let lt = ascends_at live i j d up less k in less_than (get_or live i d).txn (get_or live j d).txn lt e)
]
  where
    less_than : (a b : ℕ) → a < b → nat_lt b txn ≡ true → nat_lt a txn ≡ true
    less_than a b lt f = grind (arith, nat_tests)

-- those in front of the place are less, and the others not
abbrev pub IsPlaced : List Acts → ℕ → ℕ → Type 0
IsPlaced live txn place = IsPartitionPoint (λ a. nat_lt a.txn txn ≡ true) (λ a. nat_lt a.txn txn ≡ false) live place

tail_placed : (a : Acts) (as' : List Acts) (txn i : ℕ) → IsPlaced (a ∷ as') txn (suc i) → IsPlaced as' txn i
tail_placed a as' txn i at = (λ k d le lt. at.0 (suc k) d (omega arith) (omega arith), λ k d le lt. at.1 (suc k) d (omega arith) (omega arith))

less : (a b : ℕ) → nat_lt a b ≡ true → a < b
less a b e = grind (arith, nat_tests)

equal_to : (a b : ℕ) → a ≡ b → nat_lt a b ≡ false
equal_to a b e = grind (arith, nat_tests)

equal_is : (a b : ℕ) → a ≡ b → (a == b) ≡ true
equal_is a b e = grind (arith, nat_tests)

not_equal : (a b : ℕ) → a ≢ b → (a == b) ≡ false
not_equal a b d = by (a == b) refl
  where
    by : (c : Bool) → (a == b) ≡ c → (a == b) ≡ false
    by true e = absurd (d (grind (arith, nat_tests)))
    by false e = e

greater : (a b : ℕ) → nat_lt a b ≡ false → a ≢ b → b < a
greater a b e d = grind (arith, nat_tests)

above_all : (txn : ℕ) (a : Acts) (as' : List Acts) → txn < a.txn → AllAbove a.txn as' → AllAbove txn as'
above_all txn a [] lt all = tt
above_all txn a (b ∷ bs) lt all = (omega (arith, lt, all.0), above_all txn a bs lt all.1)

above_with : (txn : ℕ) (before : List Acts) (x : Acts) (behind : List Acts) → AllAbove txn (before ++ behind) → txn < x.txn → AllAbove txn (before ++ x ∷ behind)
above_with txn [] x behind all lt = (lt, all)
above_with txn (b ∷ bs) x behind all lt = (all.0, above_with txn bs x behind all.1 lt)

-- it is there
pub stands : (live : List Acts) (txn place : ℕ) → Ascends live → IsPlaced live txn place → place < length live → ((d : Acts) → (get_or live place d).txn ≡ txn) → HasBegun live live txn place
stands [] txn place up at lt own = absurd (omega arith)
stands (a ∷ as') txn zero up at lt own =
    let same = own a in
    let f = equal_to a.txn txn same in
    let e = equal_is a.txn txn same in
    record {
      before = [];
      acts = a;
      behind = as';
      place_is = refl;
      new_is = refl;
      own = same;
      old_is = inl refl;
      ascends = up;
      begun_is = simp (f, e);
    }
stands (a ∷ as') txn (suc i) up at lt own =
    let rest = stands as' txn i up.1 (tail_placed a as' txn i at) (omega arith) own in
    let f = at.0 0 a (omega arith) (omega arith) in
    record {
      before = a ∷ rest.before;
      acts = rest.acts;
      behind = rest.behind;
      place_is = ap suc rest.place_is;
      new_is = ap (λ (l : List Acts). a ∷ l) rest.new_is;
      own = rest.own;
      old_is = inl refl;
      ascends = up;
      begun_is = simp f (ap (λ (l : List Work). (let w : Work = record { txn = a.txn; done = a.done } in w) ∷ l) rest.begun_is);
    }

-- or it begins there
pub begins_at : (live : List Acts) (txn place : ℕ) → Ascends live → IsPlaced live txn place → place ≤ length live → (place < length live → (d : Acts) → (get_or live place d).txn ≢ txn) →
    HasBegun live (insert live place (fresh txn)) txn place
begins_at [] txn zero up at le other = record {
  before = [];
  acts = fresh txn;
  behind = [];
  place_is = refl;
  new_is = refl;
  own = refl;
  old_is = inr (refl, refl);
  ascends = (tt, tt);
  begun_is = refl;
}
begins_at [] txn (suc i) up at le other = absurd (omega arith)
begins_at (a ∷ as') txn zero up at le other =
    let f = at.1 0 a (omega arith) (omega arith) in
    let d = other (omega arith) a in
    let e = not_equal a.txn txn d in
    let gt = greater a.txn txn f d in
    record {
      before = [];
      acts = fresh txn;
      behind = a ∷ as';
      place_is = refl;
      new_is = refl;
      own = refl;
      old_is = inr (refl, refl);
      ascends = ((gt, above_all txn a as' gt up.0), up);
      begun_is = simp (f, e);
    }
begins_at (a ∷ as') txn (suc i) up at le other =
    let rest = begins_at as' txn i up.1 (tail_placed a as' txn i at) (omega arith) (λ lt. other (omega arith)) in
    let f = at.0 0 a (omega arith) (omega arith) in
    let before = less a.txn txn f in
    record {
      before = a ∷ rest.before;
      acts = rest.acts;
      behind = rest.behind;
      place_is = ap suc rest.place_is;
      new_is = ap (λ (l : List Acts). a ∷ l) rest.new_is;
      own = rest.own;
      old_is = elim rest.old_is [
        | inl same ↦ absurd (longer as' i (fresh txn) same)
        | inr is ↦ inr (ap (λ (l : List Acts). a ∷ l) is.0, is.1)
      ];
      ascends = (
        subst (AllAbove a.txn) (sym rest.new_is)
            (elim rest.old_is [
              | inl same ↦ absurd (longer as' i (fresh txn) same)
              | inr is ↦ above_with a.txn rest.before rest.acts rest.behind (subst (AllAbove a.txn) is.0 up.0) (subst (λ (n : ℕ). a.txn < n) (sym rest.own) before)
            ]),
        rest.ascends,
      );
      begun_is = simp f (ap (λ (l : List Work). (let w : Work = record { txn = a.txn; done = a.done } in w) ∷ l) rest.begun_is);
    }
  where
    longer : (xs : List Acts) (j : ℕ) (x : Acts) → insert xs j x ≡ xs → ⊥
    longer xs zero x e = omega (arith, ap (λ (l : List Acts). length l) e)
    longer [] (suc j) x e = cc
    longer (y ∷ ys) (suc j) x e = longer ys j x (cc)
