-- The places that a search has passed.
use Rattle.std.proofs.Common.{◌≡◌, inl, inr, ◌⊎◌, ℕ, zero, suc, ◌+◌, ◌<◌, ◌≤◌, Bool, true, false, List, [], ◌∷◌, ◌++◌, length, take, drop, get_or, refl, sym, ap, ◌∙◌, subst, arith, true≢false}
use Rattle.std.specs.Prelude.{Some, None, ◌||◌}
use Rattle.lt_ranges.specs.Key.{key_le}
use Rattle.lt_ranges.specs.Interval.{Interval}
use Rattle.lt_forest.specs.declared.part.PartRow.{PartRow}
use Rattle.lt_forest.specs.Bounds.{Bound}
use Rattle.lt_forest.specs.Cuts.{IsAside, AllAside, BeginsBehind, end_if}
use Rattle.lt_forest.specs.Parts.{hanging}
use Rattle.lt_forest.proofs.VisitLaws.{aside_app}
use Rattle.lt_tree.specs.Gathers.{is_behind, aside_at, Passed, PlacedAt}

either : (a b : Bool) → (a || b) ≡ true → (a ≡ true) ⊎ (b ≡ true)
either true b e = inl refl
either false b e = inr e

behind_is : (asked : Interval) (x : Bound) → is_behind asked x ≡ true → BeginsBehind x asked
behind_is asked None e = absurd (true≢false (sym e))
behind_is asked (Some k) e = e

aside_if : (asked : Interval) (l : ℕ) (x y : Bound) → (l ≡ 0) ⊎ IsAside asked (l, x, y) → AllAside asked (end_if l x y)
aside_if asked zero x y h = tt
aside_if asked (suc l) x y (inl z) = absurd (omega (arith, z))
aside_if asked (suc l) x y (inr a) = (a, tt)

pub passed_all : (asked : Interval) (x : Bound) (rows : List PartRow) (hangs : List ℕ) (n : ℕ) → length hangs ≡ length rows + 1 → n ≡ length hangs → Passed asked x rows hangs n → AllAside asked (hanging rows hangs x None)
passed_all asked x rows [] n long all p = absurd (omega arith)
passed_all asked x rows (l ∷ ls) zero long all p = absurd (omega arith)
passed_all asked x [] (l ∷ ls) (suc n) long all p = aside_if asked l x None p
passed_all asked x (r ∷ rows) (l ∷ ls) (suc n) long all p =
    aside_app asked (end_if l x (Some r.range.left)) (hanging rows ls (Some r.range.right) None) (aside_if asked l x (Some r.range.left) p.0)
    (passed_all asked (Some r.range.right) rows ls n (omega arith) (omega arith) p.1)

pub passed_next : (asked : Interval) (x : Bound) (rows : List PartRow) (hangs : List ℕ) (n : ℕ) → length hangs ≡ length rows + 1 → n < length hangs → Passed asked x rows hangs n
    → (get_or hangs n 0 ≡ 0) ⊎ (aside_at asked x rows n ≡ true) → Passed asked x rows hangs (suc n)
passed_next asked x rows [] n long lt p h = absurd (omega arith)
passed_next asked x [] (l ∷ ls) zero long lt p (inl z) = inl z
passed_next asked x [] (l ∷ ls) zero long lt p (inr a) = inr (inr (behind_is asked x a))
passed_next asked x [] (l ∷ ls) (suc n) long lt p h = absurd (omega arith)
passed_next asked x (r ∷ rows) (l ∷ ls) zero long lt p (inl z) = (inl z, tt)
passed_next asked x (r ∷ rows) (l ∷ ls) zero long lt p (inr a) = elim (either (key_le r.range.left asked.left) (is_behind asked x) a) [
  | inl b ↦ (inr (inl b), tt)
  | inr b ↦ (inr (inr (behind_is asked x b)), tt)
]
passed_next asked x (r ∷ rows) (l ∷ ls) (suc n) long lt p h = (p.0, passed_next asked (Some r.range.right) rows ls n (omega arith) (omega arith) p.1 h)

pub passed_on : (asked : Interval) (x : Bound) (rows : List PartRow) (hangs : List ℕ) (n : ℕ) (more : List PartRow) (links : List ℕ) → n ≤ length rows → n ≤ length hangs
    → Passed asked x rows hangs n → Passed asked x (take n rows ++ more) (take n hangs ++ links) n
passed_on asked x rows hangs zero more links le le' p = tt
passed_on asked x [] hangs (suc n) more links le le' p = absurd (omega arith)
passed_on asked x (r ∷ rows) [] (suc n) more links le le' p = absurd (omega arith)
passed_on asked x (r ∷ rows) (l ∷ ls) (suc n) more links le le' p = (p.0, passed_on asked (Some r.range.right) rows ls n more links (omega arith) (omega arith) p.1)

pub passed_placed : (asked : Interval) (rows rows' : List PartRow) (hangs hangs' : List ℕ) (n : ℕ) → length hangs ≡ length rows + 1 → n < length hangs → PlacedAt n rows rows' hangs hangs' → Passed asked None rows hangs n → Passed asked None rows' hangs' n
passed_placed asked rows rows' hangs hangs' n long lt at p =
    subst (λ (xs : List PartRow). Passed asked None xs hangs' n) (sym at.rows_are)
    (subst (λ (xs : List ℕ). Passed asked None (take n rows ++ at.row ∷ drop n rows) xs n) (sym at.hangs_are)
    (passed_on asked None rows hangs n (at.row ∷ drop n rows) (at.left ∷ at.right ∷ drop (suc n) hangs) (omega arith) (omega arith) p))

-- the test by index

pub aside_is : (asked : Interval) (x : Bound) (rows : List PartRow) (n : ℕ) (y : PartRow) → n < length rows → y ≡ get_or rows n y → key_le y.range.left asked.left ≡ true → aside_at asked x rows n ≡ true
aside_is asked x [] n y lt e le = absurd (omega arith)
aside_is asked x (r ∷ rows) zero y lt e le = or_true (key_le r.range.left asked.left) (is_behind asked x) (ap (λ (p : PartRow). key_le p.range.left asked.left) (sym e) ∙ le)
  where
    or_true : (a b : Bool) → a ≡ true → (a || b) ≡ true
    or_true true b e = refl
    or_true false b e = absurd (true≢false (sym e))
aside_is asked x (r ∷ rows) (suc n) y lt e le = aside_is asked (Some r.range.right) rows n y (omega arith) e le

-- where the row behind does not decide, the row before does
abbrev pub NotBefore : Interval → List PartRow → ℕ → Type 0
NotBefore asked rows n = (y : PartRow) → n < length rows → y ≡ get_or rows n y → key_le y.range.left asked.left ≡ false

or_false : (a b : Bool) → a ≡ false → (a || b) ≡ b
or_false true b e = absurd (true≢false e)
or_false false b e = refl

aside_here : (asked : Interval) (x : Bound) (rows : List PartRow) → NotBefore asked rows 0 → aside_at asked x rows 0 ≡ is_behind asked x
aside_here asked x [] none = refl
aside_here asked x (r ∷ rows) none = or_false (key_le r.range.left asked.left) (is_behind asked x) (none r (omega arith) refl)

pub aside_before : (asked : Interval) (x : Bound) (rows : List PartRow) (n : ℕ) (y : PartRow) → n < length rows → y ≡ get_or rows n y → NotBefore asked rows (suc n) → aside_at asked x rows (suc n) ≡ key_le asked.right y.range.right
aside_before asked x [] n y lt e none = absurd (omega arith)
aside_before asked x (r ∷ rows) zero y lt e none = aside_here asked (Some r.range.right) rows (λ z l q. none z (omega arith) q) ∙ ap (λ (p : PartRow). key_le asked.right p.range.right) (sym e)
aside_before asked x (r ∷ rows) (suc n) y lt e none = aside_before asked (Some r.range.right) rows n y (omega arith) e (λ z l q. none z (omega arith) q)

pub aside_first : (asked : Interval) (rows : List PartRow) → NotBefore asked rows 0 → aside_at asked None rows 0 ≡ false
aside_first asked rows none = aside_here asked None rows none

read_any : (rows : List PartRow) (n : ℕ) (y z : PartRow) → n < length rows → get_or rows n y ≡ get_or rows n z
read_any [] n y z lt = absurd (omega arith)
read_any (r ∷ rows) zero y z lt = refl
read_any (r ∷ rows) (suc n) y z lt = read_any rows n y z (omega arith)

pub same_read : (rows : List PartRow) (n : ℕ) (y z : PartRow) → n < length rows → y ≡ get_or rows n y → z ≡ get_or rows n z → y ≡ z
same_read rows n y z lt e f = e ∙ (read_any rows n y z lt ∙ sym f)
