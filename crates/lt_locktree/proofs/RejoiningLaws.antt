-- Neighbours of one owner become one, from the front.
use Rattle.std.proofs.Common.{◌≡◌, ℕ, ◌+◌, ◌<◌, Bool, true, false, List, [], ◌∷◌, ◌++◌, length, map, take, drop, get_or, refl, sym, ap, ◌∙◌, subst, arith, if◌then◌else◌}
use Rattle.std.proofs.lemmas.List.{take_more, drop_more, length-append}
use Rattle.std.proofs.lemmas.Bool.Decides.{nat_tests}
use Rattle.lt_ranges.specs.declared.key.Key.{Key}
use Rattle.lt_ranges.specs.Interval.{Interval, IsInterval, before, hull}
use Rattle.lt_ranges.proofs.KeyLaws.{le_trans, le_total}
use Rattle.lt_seq.specs.declared.event.Pair.{Pair}
use Rattle.lt_seq.specs.Pairs.{AllAfter, IsLawful, are_joined, with_front, joined}
use Rattle.lt_forest.specs.declared.part.PartRow.{PartRow}
use Rattle.lt_forest.specs.Counts.{times}
use Rattle.lt_forest.specs.Parts.{row_pair, numbers}
use Rattle.lt_forest.proofs.PairLists.{map_app}
use Rattle.lt_forest.proofs.SameRows.{times-++}
use Rattle.lt_locktree.specs.LawsOfJoins.{StayOrGo}

-- two neighbours as one
abbrev one : Pair → Pair → Pair
one p q = record { owner = p.owner; range = record { left = p.range.left; right = q.range.right } }

same_owner : (marks : List Key) (p q : Pair) → are_joined marks p q ≡ true → p.owner ≡ q.owner
same_owner marks p q e = grind (arith, nat_tests)

-- a pair behind others, as one with the last of them where they are joined
with_back : List Key → List Pair → Pair → List Pair
with_back marks [] n = n ∷ []
with_back marks (p ∷ []) n = if are_joined marks p n then one p n ∷ [] else p ∷ n ∷ []
with_back marks (p ∷ q ∷ qs) n = p ∷ with_back marks (q ∷ qs) n

front_back : (marks : List Key) (p : Pair) (ys : List Pair) (n : Pair)
    → with_front marks p (with_back marks ys n) ≡ with_back marks (with_front marks p ys) n
unfolding with_back
front_back marks p [] n = refl
front_back marks p (y ∷ []) n =
    left (are_joined marks y n)
    ∙ (middle (are_joined marks p y) (are_joined marks y n)
    ∙ sym (right (are_joined marks p y) (same_owner marks p y)))
  where
    left : (b : Bool) → with_front marks p (if b then one y n ∷ [] else y ∷ n ∷ [])
        ≡ (if b then (if are_joined marks p y then one p n ∷ [] else p ∷ one y n ∷ [])
        else (if are_joined marks p y then one p y ∷ n ∷ [] else p ∷ y ∷ n ∷ []))
    left true = refl
    left false = refl

    middle : (a b : Bool) → (if b then (if a then one p n ∷ [] else p ∷ one y n ∷ []) else (if a then one p y ∷ n ∷ [] else p ∷ y ∷ n ∷ []))
        ≡ (if a then (if b then one p n ∷ [] else one p y ∷ n ∷ []) else p ∷ (if b then one y n ∷ [] else y ∷ n ∷ []))
    middle true true = refl
    middle true false = refl
    middle false true = refl
    middle false false = refl

    right : (a : Bool) → (a ≡ true → p.owner ≡ y.owner) → with_back marks (if a then one p y ∷ [] else p ∷ y ∷ []) n
        ≡ (if a then (if are_joined marks y n then one p n ∷ [] else one p y ∷ n ∷ [])
        else p ∷ (if are_joined marks y n then one y n ∷ [] else y ∷ n ∷ []))
    right true same =
        ap (λ (o : ℕ). if are_joined marks (record { owner = o; range = y.range }) n then one p n ∷ [] else one p y ∷ n ∷ []) (same refl)
    right false same = refl
front_back marks p (y ∷ z ∷ zs) n = by (are_joined marks p y)
  where
    by : (b : Bool) → (if b then one p y ∷ with_back marks (z ∷ zs) n else p ∷ y ∷ with_back marks (z ∷ zs) n)
        ≡ with_back marks (if b then one p y ∷ z ∷ zs else p ∷ y ∷ z ∷ zs) n
    by true = refl
    by false = refl

joined_back : (marks : List Key) (xs : List Pair) (n : Pair) → joined marks (xs ++ n ∷ []) ≡ with_back marks (joined marks xs) n
unfolding with_back
joined_back marks [] n = refl
joined_back marks (x ∷ xs) n = ap (with_front marks x) (joined_back marks xs n) ∙ front_back marks x (joined marks xs) n

back_joined : (marks : List Key) (xs : List Pair) (p n : Pair)
    → are_joined marks p n ≡ true → with_back marks (xs ++ p ∷ []) n ≡ xs ++ one p n ∷ []
unfolding with_back
back_joined marks [] p n e = ap (λ (b : Bool). if b then one p n ∷ [] else p ∷ n ∷ []) e
back_joined marks (x ∷ []) p n e = ap (λ (ps : List Pair). x ∷ ps) (back_joined marks [] p n e)
back_joined marks (x ∷ y ∷ ys) p n e = ap (λ (ps : List Pair). x ∷ ps) (back_joined marks (y ∷ ys) p n e)

back_apart : (marks : List Key) (xs : List Pair) (p n : Pair)
    → are_joined marks p n ≡ false → with_back marks (xs ++ p ∷ []) n ≡ (xs ++ p ∷ []) ++ n ∷ []
unfolding with_back
back_apart marks [] p n e = ap (λ (b : Bool). if b then one p n ∷ [] else p ∷ n ∷ []) e
back_apart marks (x ∷ []) p n e = ap (λ (ps : List Pair). x ∷ ps) (back_apart marks [] p n e)
back_apart marks (x ∷ y ∷ ys) p n e = ap (λ (ps : List Pair). x ∷ ps) (back_apart marks (y ∷ ys) p n e)

-- of two ranges, one before the other, the hull goes from the first left end to the second right end
hull_before : (a b : Interval) → IsInterval a → IsInterval b → before a b ≡ true → hull a b ≡ record { left = a.left; right = b.right }
hull_before a b o k h = grind (arith, le_total, le_trans a.left a.right b.left, le_trans a.right b.left b.right)

lawful_one : (p q : Pair) (rest : List Pair) → IsLawful (p ∷ q ∷ rest) → IsLawful (one p q ∷ rest)
lawful_one p q rest lawful = (ordered p.range q.range lawful.0 lawful.2.0 lawful.1.0, after_right rest lawful.2.1, lawful.2.2)
  where
    ordered : (a b : Interval) → IsInterval a → IsInterval b → before a b ≡ true → IsInterval (record { left = a.left; right = b.right })
    ordered a b o k h = grind (arith, le_total, le_trans a.left a.right b.left, le_trans a.left b.left b.right)

    after_right : (pairs : List Pair) → AllAfter q.range pairs → AllAfter (one p q).range pairs
    after_right [] all = tt
    after_right (r ∷ rs) all = (all.0, after_right rs all.1)

-- the first rows are joined, of which the last one may still grow
pub record JoinsSome (marks : List Key) (rows : List PartRow) (i : ℕ) (kept : List PartRow) (last : PartRow)
    (gone : List PartRow) : Type 0 where
  pub pairs : map row_pair (kept ++ last ∷ []) ≡ joined marks (map row_pair (take i rows))
  pub parted : StayOrGo (take i rows) (kept ++ last ∷ []) (numbers gone)
  pub lawful : IsLawful (row_pair last ∷ map row_pair (drop i rows))

pub first_alone : (marks : List Key) (rows : List PartRow) (r : PartRow) → 0 < length rows → r ≡ get_or rows 0 r
    → IsLawful (map row_pair rows)
    → JoinsSome marks rows 1 [] r []
first_alone marks [] r some is lawful = absurd (omega arith)
first_alone marks (x ∷ xs) r some is lawful = record {
  pairs = ap (λ (y : PartRow). row_pair y ∷ []) is;
  parted = record { each = λ q. ap (λ (y : PartRow). times q (numbers (y ∷ [])) + 0) is ∙ (omega arith); all = refl };
  lawful = subst (λ (y : PartRow). IsLawful (row_pair y ∷ map row_pair xs)) (sym is) lawful;
}

times_back : (rows : List PartRow) (r : PartRow) (q : ℕ)
    → times q (numbers (rows ++ r ∷ [])) ≡ times q (numbers rows) + times q (r.row ∷ [])
times_back rows r q = ap (times q) (map_app (λ (x : PartRow). x.row) rows (r ∷ [])) ∙ times-++ q (numbers rows) (r.row ∷ [])

long_back : (rows : List PartRow) (r : PartRow) → length (rows ++ r ∷ []) ≡ length rows + 1
long_back rows r = length-append rows (r ∷ [])

long_numbers : (rows : List PartRow) (r : PartRow) → length (numbers (rows ++ r ∷ [])) ≡ length (numbers rows) + 1
long_numbers [] r = refl
long_numbers (x ∷ xs) r = let e = long_numbers xs r in omega arith

module _ (marks : List Key) (rows : List PartRow) (i : ℕ) (kept : List PartRow) (last : PartRow) (gone : List PartRow) (r : PartRow)
    (so_far : JoinsSome marks rows i kept last gone) (short : i < length rows) (row_is : r ≡ get_or rows i r) where
  rows_more : take (i + 1) rows ≡ take i rows ++ r ∷ []
  rows_more = take_more rows i r short ∙ ap (λ (x : PartRow). take i rows ++ x ∷ []) (sym row_is)

  lawful_now : IsLawful (row_pair last ∷ row_pair r ∷ map row_pair (drop (i + 1) rows))
  lawful_now =
      subst (λ (rs : List PartRow). IsLawful (row_pair last ∷ map row_pair rs))
      (drop_more rows i r short ∙ ap (λ (x : PartRow). x ∷ drop (i + 1) rows) (sym row_is))
      so_far.lawful

  joined_now : joined marks (map row_pair (take (i + 1) rows)) ≡ with_back marks (map row_pair kept ++ row_pair last ∷ []) (row_pair r)
  joined_now =
      ap (λ (rs : List PartRow). joined marks (map row_pair rs)) rows_more
      ∙ (ap (joined marks) (map_app row_pair (take i rows) (r ∷ []))
      ∙ (joined_back marks (map row_pair (take i rows)) (row_pair r)
      ∙ ap (λ (ps : List Pair). with_back marks ps (row_pair r)) (sym so_far.pairs ∙ map_app row_pair kept (last ∷ []))))

  pub one_taken_in : (last' : PartRow) → are_joined marks (row_pair last) (row_pair r) ≡ true
      → last' ≡ record { row = last.row; owner = last.owner; range = hull last.range r.range }
      → JoinsSome marks rows (i + 1) kept last' (gone ++ r ∷ [])
  one_taken_in last' are is =
      let now : row_pair last' ≡ one (row_pair last) (row_pair r) =
      ap row_pair is ∙ ap (λ (range : Interval). record { owner = last.owner; range = range })
      (hull_before last.range r.range lawful_now.0 lawful_now.2.0 lawful_now.1.0) in
      let number : last'.row ≡ last.row = ap (λ (x : PartRow). x.row) is in
      record {
        pairs = map_app row_pair kept (last' ∷ []) ∙ (ap (λ (p : Pair). map row_pair kept ++ p ∷ []) now
            ∙ (sym (back_joined marks (map row_pair kept) (row_pair last) (row_pair r) are) ∙ sym joined_now));
        parted = record {
          each = λ q.
              let a = times_back kept last' q ∙ ap (λ (n : ℕ). times q (numbers kept) + times q (n ∷ [])) number in
              let b = times_back kept last q in
              let d = times_back gone r q in
              let e = ap (λ (rs : List PartRow). times q (numbers rs)) rows_more ∙ times_back (take i rows) r q in
              let s = so_far.parted.each q in
              omega arith;
          all = let a = long_back kept last' in
              let b = long_back kept last in
              let d = long_numbers gone r in
              let e = ap (λ (rs : List PartRow). length rs) rows_more ∙ long_back (take i rows) r in
              let s = so_far.parted.all in
              omega arith;
        };
        lawful = subst (λ (p : Pair). IsLawful (p ∷ map row_pair (drop (i + 1) rows))) (sym now)
            (lawful_one (row_pair last) (row_pair r) (map row_pair (drop (i + 1) rows)) lawful_now);
      }

  pub one_apart : are_joined marks (row_pair last) (row_pair r) ≡ false → JoinsSome marks rows (i + 1) (kept ++ last ∷ []) r gone
  one_apart are =
      record {
        pairs = map_app row_pair (kept ++ last ∷ []) (r ∷ [])
            ∙ (ap (λ (ps : List Pair). ps ++ row_pair r ∷ []) (map_app row_pair kept (last ∷ []))
            ∙ (sym (back_apart marks (map row_pair kept) (row_pair last) (row_pair r) are) ∙ sym joined_now));
        parted = record {
          each = λ q.
              let a = times_back (kept ++ last ∷ []) r q in
              let e = ap (λ (rs : List PartRow). times q (numbers rs)) rows_more ∙ times_back (take i rows) r q in
              let s = so_far.parted.each q in
              omega arith;
          all = let a = long_back (kept ++ last ∷ []) r in
              let e = ap (λ (rs : List PartRow). length rs) rows_more ∙ long_back (take i rows) r in
              let s = so_far.parted.all in
              omega arith;
        };
        lawful = lawful_now.2;
      }
