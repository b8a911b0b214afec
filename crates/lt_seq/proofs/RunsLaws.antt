-- Joining from the front, each pair with the last one kept, makes what `joined` says.
use Rattle.std.proofs.Common.{◌≡◌, List, [], ◌∷◌, Bool, true, false, not, ◌&&◌, ◌==◌, if◌then◌else◌, refl, sym, ap, subst, ◌∙◌, arith}
use Rattle.std.specs.Bool.{MatchBool}
use Rattle.std.specs.List.Retain.{IsDeduped, DedupsFrom}
use Rattle.std.proofs.lemmas.Bool.Decides.{nat_tests}
use Rattle.lt_ranges.specs.declared.key.Key.{Key}
use Rattle.lt_ranges.specs.Interval.{Interval, IsInterval, before, hull}
use Rattle.lt_ranges.proofs.KeyLaws.{le_trans, le_total}
use Rattle.lt_seq.specs.declared.event.Pair.{Pair}
use Rattle.lt_seq.specs.Pairs.{AllAfter, IsLawful, is_cut, are_joined, with_front, joined}

-- two neighbours as one
abbrev one : Pair → Pair → Pair
one p q = record { owner = p.owner; range = record { left = p.range.left; right = q.range.right } }

-- of two ranges, one before the other, the hull goes from the first left end to the second right end
hull-before : (a b : Interval) → IsInterval a → IsInterval b → before a b ≡ true → hull a b ≡ record { left = a.left; right = b.right }
hull-before a b o k h = grind (arith, le_total, le_trans a.left a.right b.left, le_trans a.right b.left b.right)

same_owner : (marks : List Key) (p q : Pair) → are_joined marks p q ≡ true → p.owner ≡ q.owner
same_owner marks p q e = grind (arith, nat_tests)

-- a pair taken into the one before it, and then what comes behind them
joined_one : (marks : List Key) (p q : Pair) (rest : List Pair) → are_joined marks p q ≡ true → with_front marks (one p q) rest ≡ with_front marks p (with_front marks q rest)
joined_one marks p q [] e = ap (λ b. if b then one p q ∷ [] else p ∷ q ∷ []) (sym e)
joined_one marks p q (r ∷ rs) e =
    ap (λ owner. if owner == r.owner && not (is_cut marks q r) then one (one p q) r ∷ rs else one p q ∷ r ∷ rs) (same_owner marks p q e)
    ∙ by_case (are_joined marks q r)
  where
    by_case : (b : Bool) → (if b then one (one p q) r ∷ rs else one p q ∷ r ∷ rs) ≡ with_front marks p (if b then one q r ∷ rs else q ∷ r ∷ rs)
    by_case true = ap (λ c. if c then one p (one q r) ∷ rs else p ∷ one q r ∷ rs) (sym e)
    by_case false = ap (λ c. if c then one p q ∷ r ∷ rs else p ∷ q ∷ r ∷ rs) (sym e)

-- a pair kept apart from the one before it, and what comes behind them
joined_apart : (marks : List Key) (p q : Pair) (rest : List Pair) → are_joined marks p q ≡ false → p ∷ with_front marks q rest ≡ with_front marks p (with_front marks q rest)
joined_apart marks p q [] e = ap (λ b. if b then one p q ∷ [] else p ∷ q ∷ []) (sym e)
joined_apart marks p q (r ∷ rs) e = by_case (are_joined marks q r)
  where
    by_case : (b : Bool) → p ∷ (if b then one q r ∷ rs else q ∷ r ∷ rs) ≡ with_front marks p (if b then one q r ∷ rs else q ∷ r ∷ rs)
    by_case true = ap (λ c. if c then one p (one q r) ∷ rs else p ∷ one q r ∷ rs) (sym e)
    by_case false = ap (λ c. if c then one p q ∷ r ∷ rs else p ∷ q ∷ r ∷ rs) (sym e)

-- the last pair kept, once the next was shown to it
abbrev kept : List Key → Pair → Pair → Pair
kept marks last next = record { owner = last.owner; range = if are_joined marks last next then hull last.range next.range else last.range }

lawful_one : (p q : Pair) (rest : List Pair) → IsLawful (p ∷ q ∷ rest) → IsLawful (one p q ∷ rest)
lawful_one p q rest lawful = (ordered p.range q.range lawful.0 lawful.2.0 lawful.1.0, after_right rest lawful.2.1, lawful.2.2)
  where
    ordered : (a b : Interval) → IsInterval a → IsInterval b → before a b ≡ true → IsInterval (record { left = a.left; right = b.right })
    ordered a b o k h = grind (arith, le_total, le_trans a.left a.right b.left, le_trans a.left b.left b.right)

    after_right : (pairs : List Pair) → AllAfter q.range pairs → AllAfter (one p q).range pairs
    after_right [] all = tt
    after_right (r ∷ rs) all = (all.0, after_right rs all.1)

kept_joined : (marks : List Key) (last next : Pair) → IsInterval last.range → IsInterval next.range → before last.range next.range ≡ true
    → true ≡ are_joined marks last next → kept marks last next ≡ one last next
kept_joined marks last next o k h e =
    ap (λ b. record { owner = last.owner; range = if b then hull last.range next.range else last.range }) (sym e)
    ∙ ap (λ range. record { owner = last.owner; range = range }) (hull-before last.range next.range o k h)

kept_apart : (marks : List Key) (last next : Pair) → false ≡ are_joined marks last next → kept marks last next ≡ last
kept_apart marks last next e = ap (λ b. record { owner = last.owner; range = if b then hull last.range next.range else last.range }) (sym e)

module _ {F : Type 0} (R : F → Pair → Pair → Bool → F → Pair → Pair → Type 0) (marks : List Key) (f : F)
    (h : (next last : Pair) (b : Bool) (f' : F) (next' last' : Pair) → R f next last b f' next' last'
    → (b ≡ are_joined marks last next) × (f' ≡ f) × (next' ≡ next) × (last' ≡ kept marks last next)) where
  joined_from : (rest : List Pair) (g : F) (last : Pair) (ys : List Pair) → g ≡ f → IsLawful (last ∷ rest) → DedupsFrom R g last rest ys → ys ≡ joined marks (last ∷ rest)
  joined_from [] g last ys e lawful told = told
  joined_from (next ∷ rest) g last ys e lawful told =
      let call = h next last told.0 told.1 told.2 told.3 (subst (λ (state : F). R state next last told.0 told.1 told.2 told.3) e told.4) in
      elim told.0 as (λ b. b ≡ are_joined marks last next
      → MatchBool b (DedupsFrom R told.1 told.3 rest ys) ((zs : List Pair) × DedupsFrom R told.1 told.2 rest zs × (ys ≡ told.3 ∷ zs))
      → ys ≡ joined marks (last ∷ next ∷ rest)) [
        | true ↦ λ are left.
            let is : told.3 ≡ one last next = call.3 ∙ kept_joined marks last next lawful.0 lawful.2.0 lawful.1.0 are in
            joined_from rest told.1 (one last next) ys call.1 (lawful_one last next rest lawful) (subst (λ l. DedupsFrom R told.1 l rest ys) is left)
            ∙ joined_one marks last next (joined marks rest) (sym are)
        | false ↦ λ are left.
            let is : told.3 ≡ last = call.3 ∙ kept_apart marks last next are in
            let behind : left.0 ≡ joined marks (next ∷ rest) = joined_from rest told.1 next left.0 call.1 lawful.2 (subst (λ l. DedupsFrom R told.1 l rest left.0) call.2 left.1) in
            left.2 ∙ (λ i. is i ∷ behind i) ∙ joined_apart marks last next (joined marks rest) (sym are)
      ] call.0 told.5

  -- what is left of lawful pairs where each is shown to the last one kept
  pub dedup_joined : (xs ys : List Pair) → IsLawful xs → IsDeduped R f xs ys → ys ≡ joined marks xs
  dedup_joined [] ys lawful deduped = deduped.told
  dedup_joined (x ∷ xs) ys lawful deduped = joined_from xs f x ys refl lawful deduped.told
