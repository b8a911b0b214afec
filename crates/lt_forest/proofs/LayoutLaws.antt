-- Rows laid out in two halves round a row, and rows that hold a layout.
use Rattle.std.proofs.Common.{◌≡◌, inl, inr, ◌⊎◌, ℕ, suc, ◌+◌, ◌-◌, ◌*◌, ◌/◌, ◌^◌, ◌<◌, ◌≤◌, max, List, [], ◌∷◌, ◌++◌, length, length-append, take, drop, get_or, refl, sym, ap, ap₂, ◌∙◌, subst, arith, append_assoc, append-nil, drop-cons, length-drop, length-take-le}
use mathlib.Core.Logic.{dite}
use native.Mathlib.Decide.{dec_le}
use Rattle.std.proofs.Math.Nat.{max-eq_left, max-eq_right}
use Rattle.std.proofs.lemmas.Nat.{pow-add}
use Rattle.std.proofs.lemmas.List.{take-append-drop, take_all}
use Rattle.lt_forest.specs.declared.part.PartRow.{PartRow}
use Rattle.lt_forest.specs.declared.part.Placed.{Placed}
use Rattle.lt_forest.specs.Trees.{Nodes}
use Rattle.lt_forest.specs.Cuts.{Cut, end, held, Shows, depth}
use Rattle.lt_forest.specs.Parts.{numbers}
use Rattle.lt_forest.specs.Layouts.{IsLaid, LaysOut, HoldsPlaced}

-- depth

max_either : (a b : ℕ) → (max a b ≡ a) ⊎ (max a b ≡ b)
max_either a b = dite (dec_le b a) (λ h. inl (max-eq_left h)) (λ h. inr (max-eq_right (omega arith)))

pow_next : (k : ℕ) → 2 ^ (k + 1) ≡ 2 ^ k * 2
pow_next k = pow-add 2 k 1

-- two halves of which the left one has as many rows as the right one, or one more
balanced_next : (a b na nb : ℕ) → 2 ^ a ≤ max 1 (2 * na) → 2 ^ b ≤ max 1 (2 * nb) → nb ≤ na → na ≤ nb + 1
    → 2 ^ (max a b + 1) ≤ max 1 (2 * (na + 1 + nb))
balanced_next a b na nb ha hb le ge = elim (max_either a b) [
  | inl e ↦ subst (λ (k : ℕ). 2 ^ (k + 1) ≤ max 1 (2 * (na + 1 + nb))) (sym e) (let p = pow_next a in omega arith)
  | inr e ↦ subst (λ (k : ℕ). 2 ^ (k + 1) ≤ max 1 (2 * (na + 1 + nb))) (sym e) (let p = pow_next b in omega arith)
]

-- what is placed

-- one link and no row
pub lays_end : (old : List Placed) (l : ℕ) → LaysOut old old l [] (l ∷ [])
lays_end old l = record {
  added = [];
  placed = sym (append-nil old);
  layout = record {
    shown = record { cut = end l; laid = (refl, refl); rows_are = refl; hangs_are = refl };
    balanced = omega arith;
  };
}

-- two halves and the row between them
pub lays_halves : (p0 p1 p2 : List Placed) (row left right : ℕ) (ks bs ls ms : List ℕ) → LaysOut p0 p1 left ks ls
    → LaysOut p1 p2 right bs ms → length bs ≤ length ks → length ks ≤ length bs + 1
    → LaysOut p0 (p2 ++ record { row = row; left = left; right = right } ∷ []) (row + 1) (ks ++ row ∷ bs) (ls ++ ms)
lays_halves p0 p1 p2 row left right ks bs ls ms a b le ge =
    let p : Placed = record { row = row; left = left; right = right } in
    let x = a.layout.shown in
    let y = b.layout.shown in
    record {
      added = a.added ++ (b.added ++ p ∷ []);
      placed = ap (λ (l : List Placed). l ++ p ∷ [])
          (b.placed ∙ (ap (λ (l : List Placed). l ++ b.added) a.placed ∙ append_assoc p0 a.added b.added))
          ∙ (append_assoc p0 (a.added ++ b.added) (p ∷ []) ∙ ap (λ (l : List Placed). p0 ++ l) (append_assoc a.added b.added (p ∷ [])));
      layout = record {
        shown = record {
          cut = held x.cut row y.cut;
          laid = (a.added, b.added, p, refl, refl, refl, x.laid, y.laid);
          rows_are = ap₂ (λ (l m : List ℕ). l ++ row ∷ m) x.rows_are y.rows_are;
          hangs_are = ap₂ (λ (l m : List ℕ). l ++ m) x.hangs_are y.hangs_are;
        };
        balanced = subst (λ (n : ℕ). 2 ^ depth (held x.cut row y.cut) ≤ max 1 (2 * n)) (omega (arith, length-append ks (row ∷ bs)))
            (balanced_next (depth x.cut) (depth y.cut) (length ks) (length bs) a.layout.balanced b.layout.balanced le ge);
      };
    }

pub lays_one : (old : List Placed) (rows : List PartRow) (hangs : List ℕ) → length hangs ≡ length rows + 1 → length rows ≡ 0
    → LaysOut old old (get_or hangs 0 0) (numbers rows) hangs
lays_one old [] [] even none = absurd (omega (arith, even))
lays_one old [] (l ∷ []) even none = lays_end old l
lays_one old [] (l ∷ m ∷ ls) even none = absurd (omega (arith, even))
lays_one old (r ∷ rows) hangs even none = absurd (omega (arith, none))

numbers-++ : (xs ys : List PartRow) → numbers (xs ++ ys) ≡ numbers xs ++ numbers ys
numbers-++ [] ys = refl
numbers-++ (x ∷ xs) ys = ap (λ (l : List ℕ). x.row ∷ l) (numbers-++ xs ys)

length-numbers : (xs : List PartRow) → length (numbers xs) ≡ length xs
length-numbers [] = refl
length-numbers (x ∷ xs) = ap suc (length-numbers xs)

-- the rows and links of a part in two halves round the row in the middle, as a function places them
pub lays_middle : (p0 p1 p2 new : List Placed) (left right m : ℕ) (d : PartRow) (rows : List PartRow) (hangs : List ℕ)
    → m < length rows → m ≡ length rows / 2
    → LaysOut p0 p1 left (numbers (take m rows)) (take (m + 1) hangs)
    → LaysOut p1 p2 right (numbers (take (length rows - (m + 1)) (drop (m + 1) rows))) (take (length hangs - (m + 1)) (drop (m + 1) hangs))
    → new ≡ p2 ++ record { row = (get_or rows m d).row; left = left; right = right } ∷ []
    → LaysOut p0 new ((get_or rows m d).row + 1) (numbers rows) hangs
lays_middle p0 p1 p2 new left right m d rows hangs lt half a rest is =
    let row : ℕ = (get_or rows m d).row in
    let b : LaysOut p1 p2 right (numbers (drop (m + 1) rows)) (drop (m + 1) hangs) =
    subst (λ (l : List ℕ). LaysOut p1 p2 right (numbers (drop (m + 1) rows)) l)
    (take_all (length hangs - (m + 1)) (drop (m + 1) hangs) (omega (arith, length-drop (m + 1) hangs)))
    (subst (λ (l : List PartRow). LaysOut p1 p2 right (numbers l) (take (length hangs - (m + 1)) (drop (m + 1) hangs)))
    (take_all (length rows - (m + 1)) (drop (m + 1) rows) (omega (arith, length-drop (m + 1) rows))) rest) in
    let one : suc m ≡ m + 1 = omega arith in
    let split : take m rows ++ get_or rows m d ∷ drop (m + 1) rows ≡ rows =
    ap (λ (l : List PartRow). take m rows ++ l)
    (ap (λ (n : ℕ). get_or rows m d ∷ drop n rows) (sym one) ∙ sym (drop-cons rows m d lt))
    ∙ take-append-drop m rows in
    let rows_are : numbers (take m rows) ++ row ∷ numbers (drop (m + 1) rows) ≡ numbers rows =
    sym (numbers-++ (take m rows) (get_or rows m d ∷ drop (m + 1) rows)) ∙ ap numbers split in
    let na : length (numbers (take m rows)) ≡ m = length-numbers (take m rows) ∙ length-take-le m rows (omega arith) in
    let nb : length (numbers (drop (m + 1) rows)) ≡ length rows - (m + 1) =
    length-numbers (drop (m + 1) rows) ∙ length-drop (m + 1) rows in
    let placed : List Placed = p2 ++ record { row = row; left = left; right = right } ∷ [] in
    subst (λ (l : List Placed). LaysOut p0 l (row + 1) (numbers rows) hangs) (sym is)
    (subst (λ (l : List ℕ). LaysOut p0 placed (row + 1) l hangs) rows_are
    (subst (λ (l : List ℕ). LaysOut p0 placed (row + 1) (numbers (take m rows) ++ row ∷ numbers (drop (m + 1) rows)) l)
    (take-append-drop (m + 1) hangs)
    (lays_halves p0 p1 p2 row left right (numbers (take m rows)) (numbers (drop (m + 1) rows)) (take (m + 1) hangs)
    (drop (m + 1) hangs) a b (omega arith) (omega arith))))

-- rows that hold what was placed show the cut

holds_left : (d : Nodes) (xs ys : List Placed) → HoldsPlaced d (xs ++ ys) → HoldsPlaced d xs
holds_left d [] ys h = tt
holds_left d (x ∷ xs) ys h = (h.0, h.1, holds_left d xs ys h.2)

holds_right : (d : Nodes) (xs ys : List Placed) → HoldsPlaced d (xs ++ ys) → HoldsPlaced d ys
holds_right d [] ys h = h
holds_right d (x ∷ xs) ys h = holds_right d xs ys h.2

pub laid_shows : (d : Nodes) (placed : List Placed) (link : ℕ) (cut : Cut) → HoldsPlaced d placed → IsLaid placed link cut
    → Shows d link cut
laid_shows d placed link (end l) h laid = laid.1
laid_shows d placed link (held a r b) h laid =
    let xs = laid.0 in
    let ys = laid.1 in
    let p = laid.2 in
    let all : HoldsPlaced d (xs ++ (ys ++ p ∷ [])) = subst (HoldsPlaced d) laid.3 h in
    let rest = holds_right d xs (ys ++ p ∷ []) all in
    let own = holds_right d ys (p ∷ []) rest in (
      laid.5,
      subst (λ (l : ℕ). Shows d l a) (sym own.0 ∙ ap (λ (n : ℕ). (d n).left) laid.4)
          (laid_shows d xs p.left a (holds_left d xs (ys ++ p ∷ []) all) laid.6),
      subst (λ (l : ℕ). Shows d l b) (sym own.1 ∙ ap (λ (n : ℕ). (d n).right) laid.4)
          (laid_shows d ys p.right b (holds_left d ys (p ∷ []) rest) laid.7),
    )
