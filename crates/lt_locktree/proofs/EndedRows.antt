-- The pairs after a buffer's end, in its rows.
use Rattle.std.proofs.Common.{◌≡◌, ℕ, zero, suc, ◌+◌, ◌<◌, ◌≤◌, List, [], ◌∷◌, ◌++◌, length, take, drop, get_or, sym, refl, ap, ◌∙◌, arith}
use Rattle.std.specs.Prelude.{reverse}
use Rattle.std.proofs.lemmas.List.{length-reverse, length-take-le, take_more, take_all}
use Rattle.lt_seq.specs.declared.event.Pair.{Pair}
use Rattle.lt_seq.proofs.TableLaws.{length-granted}
use Rattle.lt_forest.specs.declared.part.PartRow.{PartRow}
use Rattle.lt_forest.specs.Counts.{times}
use Rattle.lt_forest.specs.Forest.{folded}
use Rattle.lt_forest.specs.Parts.{numbers}
use Rattle.lt_locktree.specs.EndingRows.{stood_in, AllPairsStand, HeldPairsAreRead, ChainIsEnough, FirstRowsTakeOver, VacantRowTakesOver}
use Rattle.lt_locktree.proofs.MergedPlans.{times_reversed}
use Rattle.lt_locktree.proofs.GrantedRuns.{length-numbers}

pub all_pairs_stand : AllPairsStand
all_pairs_stand [] [] le = refl
all_pairs_stand [] (p ∷ pairs) le = absurd (omega (arith, le))
all_pairs_stand (r ∷ rows) [] le = refl
all_pairs_stand (r ∷ rows) (p ∷ pairs) le = ap (λ (ps : List Pair). p ∷ ps) (all_pairs_stand rows pairs (omega (arith, le)))

pub held_pairs_are_read : HeldPairsAreRead
held_pairs_are_read tree [] = refl
held_pairs_are_read tree (p ∷ pairs) = ap (λ (ps : List Pair). p ∷ ps) (held_pairs_are_read tree pairs)

pub chain_is_enough : ChainIsEnough
chain_is_enough owner c [] = omega arith
chain_is_enough owner c (r ∷ olds) =
    let g = length-granted owner (c r).range (folded owner c olds) in let e = chain_is_enough owner c olds in omega arith

-- each row is one of those or over, and there are as many rows as pairs

stood_each : (rows : List ℕ) (pairs : List Pair) (q : ℕ) → length pairs ≤ length rows
    → times q (numbers (stood_in rows pairs)) + times q (drop (length pairs) rows) ≡ times q rows
stood_each [] [] q le = omega arith
stood_each [] (p ∷ pairs) q le = absurd (omega (arith, le))
stood_each (r ∷ rows) [] q le = omega arith
stood_each (r ∷ rows) (p ∷ pairs) q le = let e = stood_each rows pairs q (omega (arith, le)) in omega arith

stood_all : (rows : List ℕ) (pairs : List Pair) → length pairs ≤ length rows
    → length (stood_in rows pairs) + length (drop (length pairs) rows) ≡ length rows
stood_all [] [] le = omega arith
stood_all [] (p ∷ pairs) le = absurd (omega (arith, le))
stood_all (r ∷ rows) [] le = omega arith
stood_all (r ∷ rows) (p ∷ pairs) le = let e = stood_all rows pairs (omega (arith, le)) in omega arith

pub first_rows_take_over : FirstRowsTakeOver
first_rows_take_over olds pairs over le is = record {
  each = λ q. let e = stood_each olds pairs q le in let r = times_reversed over q in let n = ap (times q) is in omega arith;
  all = let e = stood_all olds pairs le in let a = length-numbers (reverse over) in let b = length-numbers over in let r = length-reverse over in
      let n = ap length is in omega arith;
}

none_over : (rows : List ℕ) (n : ℕ) → n ≡ length rows → drop n rows ≡ []
none_over rows n e = ap (λ (m : ℕ). drop m rows) e ∙ all_dropped rows
  where
    all_dropped : (xs : List ℕ) → drop (length xs) xs ≡ []
    all_dropped [] = refl
    all_dropped (x ∷ xs) = all_dropped xs

pub vacant_row_takes_over : VacantRowTakesOver
vacant_row_takes_over olds vacant pairs many =
    let none : drop (length pairs) (vacant ∷ olds) ≡ [] = none_over (vacant ∷ olds) (length pairs) (omega arith) in record {
      each = λ q. let e = stood_each (vacant ∷ olds) pairs q (omega arith) in let n = ap (times q) none in omega arith;
      all = let e = stood_all (vacant ∷ olds) pairs (omega arith) in let n = ap length none in omega arith;
    }

-- they are stood there one by one

stood_more : (rows : List ℕ) (pairs : List Pair) (r : ℕ) (p : Pair) → length rows ≡ length pairs
    → stood_in (rows ++ r ∷ []) (pairs ++ p ∷ []) ≡ stood_in rows pairs ++ record { row = r; owner = p.owner; range = p.range } ∷ []
stood_more [] [] r p e = refl
stood_more [] (x ∷ pairs) r p e = absurd (omega (arith, e))
stood_more (y ∷ rows) [] r p e = absurd (omega (arith, e))
stood_more (y ∷ rows) (x ∷ pairs) r p e =
    ap (λ (xs : List PartRow). record { row = y; owner = x.owner; range = x.range } ∷ xs) (stood_more rows pairs r p (omega (arith, e)))

pub none_stood : (rows : List ℕ) (pairs : List Pair) (stood : List PartRow) → stood ≡ [] → stood ≡ stood_in (take 0 rows) (take 0 pairs)
none_stood [] [] stood e = e
none_stood [] (h ∷ pairs) stood e = e
none_stood (r ∷ rows) [] stood e = e
none_stood (r ∷ rows) (h ∷ pairs) stood e = e

pub stood_next : (rows : List ℕ) (pairs : List Pair) (stood new : List PartRow) (i : ℕ) (p : Pair) → i < length pairs
    → length pairs ≤ length rows → stood ≡ stood_in (take i rows) (take i pairs) → p ≡ get_or pairs i p
    → new ≡ stood ++ record { row = get_or rows i 0; owner = p.owner; range = p.range } ∷ []
    → new ≡ stood_in (take (i + 1) rows) (take (i + 1) pairs)
stood_next rows pairs stood new i p lt enough so_far is new_is =
    let one : List PartRow = record { row = get_or rows i 0; owner = p.owner; range = p.range } ∷ [] in
    let more_rows : take (i + 1) rows ≡ take i rows ++ get_or rows i 0 ∷ [] = take_more rows i 0 (omega arith) in
    let more_pairs : take (i + 1) pairs ≡ take i pairs ++ p ∷ [] =
    take_more pairs i p lt ∙ ap (λ (x : Pair). take i pairs ++ x ∷ []) (sym is) in
    let long : length (take i rows) ≡ length (take i pairs) =
    length-take-le i rows (omega arith) ∙ sym (length-take-le i pairs (omega arith)) in
    new_is ∙ (ap (λ (xs : List PartRow). xs ++ one) so_far
    ∙ (sym (stood_more (take i rows) (take i pairs) (get_or rows i 0) p long) ∙ sym (λ j. stood_in (more_rows j) (more_pairs j))))

stood_taken : (rows : List ℕ) (pairs : List Pair) (i : ℕ) → length pairs ≤ i → stood_in (take i rows) pairs ≡ stood_in rows pairs
stood_taken [] pairs zero le = refl
stood_taken [] pairs (suc i) le = refl
stood_taken (r ∷ rows) [] zero le = refl
stood_taken (r ∷ rows) (p ∷ pairs) zero le = absurd (omega (arith, le))
stood_taken (r ∷ rows) [] (suc i) le = refl
stood_taken (r ∷ rows) (p ∷ pairs) (suc i) le =
    ap (λ (xs : List PartRow). record { row = r; owner = p.owner; range = p.range } ∷ xs) (stood_taken rows pairs i (omega (arith, le)))

pub stood_whole : (rows : List ℕ) (pairs : List Pair) (stood : List PartRow) (i : ℕ) → length pairs ≤ i
    → stood ≡ stood_in (take i rows) (take i pairs) → stood ≡ stood_in rows pairs
stood_whole rows pairs stood i le is =
    is ∙ (ap (stood_in (take i rows)) (take_all i pairs le) ∙ stood_taken rows pairs i le)
