-- Rows that hold the same.
use Rattle.std.proofs.Common.{◌≡◌, ℕ, ◌+◌, ◌<◌, List, [], ◌∷◌, ◌++◌, map, refl, ap, ap₂, arith, eq-eqb}
use Rattle.std.specs.Prelude.{nat_eq}
use Rattle.lt_seq.specs.declared.event.Pair.{Pair}
use Rattle.lt_forest.specs.Counts.{one_if, times}
use Rattle.lt_forest.specs.Trees.{Node, Tree, leaf, node, Nodes, pair_of, in_order}
use Rattle.lt_forest.specs.Paths.{Path, here, leftward, rightward, front, back}
use Rattle.lt_forest.proofs.TreeLaws.{Agree, AgreePath}

pub times-++ : (r : ℕ) (xs ys : List ℕ) → times r (xs ++ ys) ≡ times r xs + times r ys
times-++ r [] ys = omega arith
times-++ r (x ∷ xs) ys = let t = times-++ r xs ys in omega arith

pub one_here : (r : ℕ) → one_if (nat_eq r r) ≡ 1
one_here r = ap one_if (eq-eqb r r refl)

pub one_equal : (q r : ℕ) → q ≡ r → one_if (nat_eq r q) ≡ 1
one_equal q r e = ap one_if (eq-eqb r q (cc))

-- both hold the same in these rows
abbrev pub AgreeOn : Nodes → Nodes → List ℕ → Type 0
AgreeOn c d rows = (q : ℕ) → 0 < times q rows → c q ≡ d q

pub on_left : (c d : Nodes) (xs ys : List ℕ) → AgreeOn c d (xs ++ ys) → AgreeOn c d xs
on_left c d xs ys same q some = let t = times-++ q xs ys in same q (omega arith)

pub on_right : (c d : Nodes) (xs ys : List ℕ) → AgreeOn c d (xs ++ ys) → AgreeOn c d ys
on_right c d xs ys same q some = let t = times-++ q xs ys in same q (omega arith)

pub on_here : (c d : Nodes) (r : ℕ) (xs : List ℕ) → AgreeOn c d (r ∷ xs) → c r ≡ d r
on_here c d r xs same = same r (let o = one_here r in omega arith)

pub on_tree : (c d : Nodes) (t : Tree) → AgreeOn c d (in_order t) → Agree c d t
on_tree c d leaf same = tt
on_tree c d (node a r b) same =
    let u = on_right c d (in_order a) (r ∷ in_order b) same in (
      on_here c d r (in_order b) u,
      on_tree c d a (on_left c d (in_order a) (r ∷ in_order b) same),
      on_tree c d b (on_right c d (r ∷ []) (in_order b) u),
    )

pub on_path : (c d : Nodes) (w : Path) → AgreeOn c d (front w ++ back w) → AgreePath c d w
on_path c d here same = tt
on_path c d (leftward w r b) same =
    let u : AgreeOn c d (back w ++ r ∷ in_order b) = on_right c d (front w) (back w ++ r ∷ in_order b) same in
    let v : AgreeOn c d (r ∷ in_order b) = on_right c d (back w) (r ∷ in_order b) u in (
      on_here c d r (in_order b) v,
      on_tree c d b (on_right c d (r ∷ []) (in_order b) v),
      on_path c d w (λ q some.
          let t = times-++ q (front w) (back w) in
          let t2 = times-++ q (front w) (back w ++ r ∷ in_order b) in
          let t3 = times-++ q (back w) (r ∷ in_order b) in
          same q (omega arith)),
    )
on_path c d (rightward a r w) same =
    let u : AgreeOn c d (in_order a ++ r ∷ front w) = on_left c d (in_order a ++ r ∷ front w) (back w) same in
    let v : AgreeOn c d (r ∷ front w) = on_right c d (in_order a) (r ∷ front w) u in (
      on_here c d r (front w) v,
      on_tree c d a (on_left c d (in_order a) (r ∷ front w) u),
      on_path c d w (λ q some.
          let t = times-++ q (front w) (back w) in
          let t2 = times-++ q (in_order a ++ r ∷ front w) (back w) in
          let t3 = times-++ q (in_order a) (r ∷ front w) in
          same q (omega arith)),
    )

pub on_pairs : (c d : Nodes) (rows : List ℕ) → AgreeOn c d rows → map (pair_of c) rows ≡ map (pair_of d) rows
on_pairs c d [] same = refl
on_pairs c d (r ∷ rows) same =
    ap₂ (λ (n : Node) (l : List Pair). record { owner = n.owner; range = n.range } ∷ l)
    (on_here c d r rows same) (on_pairs c d rows (on_right c d (r ∷ []) rows same))
