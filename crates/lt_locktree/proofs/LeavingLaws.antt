-- Rows are left out of a part one by one.
use Rattle.std.proofs.Common.{◌≡◌, ◌⊎◌, ℕ, ◌+◌, ◌<◌, Bool, true, false, not, List, [], ◌∷◌, ◌++◌, length, take, get_or, append-nil, refl, sym, ap, ◌∙◌, subst, arith, if◌then◌else◌}
use Rattle.std.proofs.lemmas.List.{take_more}
use Rattle.lt_ranges.specs.Interval.{Interval}
use Rattle.lt_forest.specs.declared.part.PartRow.{PartRow}
use Rattle.lt_forest.specs.Items.{LeavesOut}
use Rattle.lt_forest.proofs.PublicLaws.{none_is_left_out, one_is_kept, one_is_left_out}
use Rattle.lt_locktree.specs.LawsOfFrees.{goes, freed_rows}

-- of the first rows some are left out, and the hang before the next one is known
pub record LeavesSome (txn : ℕ) (range : Interval) (rows : List PartRow) (hangs : List ℕ) (i : ℕ) (rows' : List PartRow) (hangs' : List ℕ)
    (ahead : ℕ) (gone : List PartRow) : Type 0 where
  pub left_out : LeavesOut (λ r. not (goes txn range r)) (take i rows) (take (i + 1) hangs) rows' (hangs' ++ ahead ∷ [])
  pub gone_are : gone ≡ freed_rows txn range (take i rows)

freed_more : (txn : ℕ) (range : Interval) (xs : List PartRow) (r : PartRow)
    → freed_rows txn range (xs ++ r ∷ []) ≡ freed_rows txn range xs ++ (if goes txn range r then r ∷ [] else [])
freed_more txn range [] r = refl
freed_more txn range (x ∷ xs) r = by (goes txn range x) (freed_more txn range xs r)
  where
    by : (b : Bool) → freed_rows txn range (xs ++ r ∷ []) ≡ freed_rows txn range xs ++ (if goes txn range r then r ∷ [] else [])
        → (if b then x ∷ freed_rows txn range (xs ++ r ∷ []) else freed_rows txn range (xs ++ r ∷ []))
        ≡ (if b then x ∷ freed_rows txn range xs else freed_rows txn range xs) ++ (if goes txn range r then r ∷ [] else [])
    by true e = ap (λ (ys : List PartRow). x ∷ ys) e
    by false e = e

module _ (txn : ℕ) (range : Interval) (rows : List PartRow) (hangs : List ℕ) where
  abbrev keep : PartRow → Bool
  keep r = not (goes txn range r)

  pub none_yet : (h : ℕ) → 0 < length hangs → h ≡ get_or hangs 0 h → LeavesSome txn range rows hangs 0 [] [] h []
  none_yet h some is = record {
    left_out = subst (λ (hs : List ℕ). LeavesOut keep [] hs [] (h ∷ [])) (sym (take_more hangs 0 h some ∙ ap (λ (n : ℕ). n ∷ []) (sym is)))
        (none_is_left_out keep h);
    gone_are = refl;
  }

  module _ (i : ℕ) (rows' : List PartRow) (hangs' : List ℕ) (ahead : ℕ) (gone : List PartRow) (r : PartRow) (behind : ℕ)
      (so_far : LeavesSome txn range rows hangs i rows' hangs' ahead gone) (short : i < length rows) (long : length hangs ≡ length rows + 1)
      (row_is : r ≡ get_or rows i r) (hang_is : behind ≡ get_or hangs (i + 1) behind) where
    rows_more : take (i + 1) rows ≡ take i rows ++ r ∷ []
    rows_more = take_more rows i r short ∙ ap (λ (x : PartRow). take i rows ++ x ∷ []) (sym row_is)

    hangs_more : take (i + 1 + 1) hangs ≡ take (i + 1) hangs ++ behind ∷ []
    hangs_more = take_more hangs (i + 1) behind (omega arith) ∙ ap (λ (x : ℕ). take (i + 1) hangs ++ x ∷ []) (sym hang_is)

    freed_is : (b : Bool) → goes txn range r ≡ b → freed_rows txn range (take (i + 1) rows) ≡ gone ++ (if b then r ∷ [] else [])
    freed_is b e =
        ap (freed_rows txn range) rows_more
        ∙ (freed_more txn range (take i rows) r
        ∙ (λ j. sym so_far.gone_are j ++ (if e j then r ∷ [] else [])))

    pub one_stays : goes txn range r ≡ false → LeavesSome txn range rows hangs (i + 1) (rows' ++ r ∷ []) (hangs' ++ ahead ∷ []) behind gone
    one_stays e = record {
      left_out = subst (λ (x : List PartRow × List ℕ). LeavesOut keep x.0 x.1 (rows' ++ r ∷ []) ((hangs' ++ ahead ∷ []) ++ behind ∷ []))
          (λ j. (sym rows_more j, sym hangs_more j))
          (one_is_kept keep (take i rows) rows' (take (i + 1) hangs) (hangs' ++ ahead ∷ []) r behind so_far.left_out (ap (λ (b : Bool). not b) e));
      gone_are = sym (freed_is false e ∙ append-nil gone);
    }

    pub one_goes : goes txn range r ≡ true → (ahead ≡ 0) ⊎ (behind ≡ 0)
        → LeavesSome txn range rows hangs (i + 1) rows' hangs' (ahead + behind) (gone ++ r ∷ [])
    one_goes e none = record {
      left_out = subst (λ (x : List PartRow × List ℕ). LeavesOut keep x.0 x.1 rows' (hangs' ++ (ahead + behind) ∷ []))
          (λ j. (sym rows_more j, sym hangs_more j))
          (one_is_left_out keep (take i rows) rows' (take (i + 1) hangs) hangs' ahead r behind so_far.left_out (ap (λ (b : Bool). not b) e) none);
      gone_are = sym (freed_is true e);
    }
