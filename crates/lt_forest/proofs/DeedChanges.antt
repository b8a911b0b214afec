-- Each deed in Tree mode makes a local change, the same of the rows shown and of the whole list.
use Rattle.std.proofs.Common.{◌≡◌, ℕ, ◌≤◌, List, [], ◌∷◌, length, Bool, true, false, ◌&&◌, ◌==◌, nat_lt, if◌then◌else◌, refl, sym, ap, ◌∙◌, subst, arith}
use Rattle.std.specs.List.{filter}
use Rattle.std.proofs.lemmas.Bool.Decides.{nat_tests}
use Rattle.lt_ranges.specs.Interval.{Interval, IsInterval}
use Rattle.lt_seq.specs.declared.event.Pair.{Pair}
use Rattle.lt_seq.specs.declared.event.Mode.TheVariants.{Tree as TreeMode, Buffer}
use Rattle.lt_seq.specs.declared.event.Reply.TheVariants.{Buffered}
use Rattle.lt_seq.specs.declared.event.Deed.{Deed}
use Rattle.lt_seq.specs.declared.event.Deed.TheVariants.{Ask, Free, Who, Join}
use Rattle.lt_seq.specs.Pairs.{IsLawful, is_own, others, granted, joined}
use Rattle.lt_seq.specs.History.{IsQuestion}
use Rattle.lt_seq.specs.Table.{Setting, TreeState, tree_after, replied, pairs_by, reply_by, is_buffered}
use Rattle.lt_forest.specs.Pairs.{Has}
use Rattle.lt_forest.specs.Forest.{IsTree}
use Rattle.lt_forest.specs.Plans.{range_of}
use Rattle.lt_forest.proofs.Changes.{Change, IsLocal}
use Rattle.lt_forest.proofs.BoundLaws.{over_whole, in_whole}
use Rattle.lt_forest.proofs.PairChanges.{NoPair, drops_none, drops_all, merged, grant_change, free_change, no_change, join_change, grant_local, free_local, no_local, FindsSame, same_others, same_count, same_merged}

-- the pairs in Tree mode with this score
abbrev pub at_score : List Pair → ℕ → TreeState
at_score pairs score = record { pairs = pairs; mode = TreeMode score }

-- what a deed makes of the rows shown, xs, and of the whole list, zs
pub record DeedChange (setting : Setting) (txn : ℕ) (deed : Deed) (score : ℕ) (xs zs : List Pair) : Type 1 where
  pub added : Pair → Type 0
  pub dropped : Pair → Bool
  pub local : IsLocal (range_of deed) added dropped xs
  pub shown : Change added dropped xs (tree_after setting txn deed (at_score xs score)).pairs
  pub whole : Change added dropped zs (tree_after setting txn deed (at_score zs score)).pairs
  pub replies : replied setting txn deed (at_score zs score) ≡ replied setting txn deed (at_score xs score)
  pub modes : (tree_after setting txn deed (at_score zs score)).mode ≡ (tree_after setting txn deed (at_score xs score)).mode

-- An ask that goes into no buffer, by the owners that stand against it.

abbrev added_by : List ℕ → Pair → Pair → Type 0
added_by [] m p = p ≡ m
added_by (o ∷ os) m p = ⊥

abbrev dropped_by : List ℕ → ℕ → Interval → Pair → Bool
dropped_by [] txn range p = is_own txn range p
dropped_by (o ∷ os) txn range p = false

ask_local : (os : List ℕ) (txn : ℕ) (range : Interval) (xs : List Pair)
    → IsLocal range (added_by os (merged txn range xs)) (dropped_by os txn range) xs
ask_local [] txn range xs = grant_local txn range xs
ask_local (o ∷ os) txn range xs = no_local range xs

ask_change : (os : List ℕ) (txn : ℕ) (range : Interval) (xs : List Pair) → IsInterval range → IsLawful xs
    → os ≡ others txn range xs
    → Change (added_by os (merged txn range xs)) (dropped_by os txn range) xs (pairs_by os txn range xs)
ask_change [] txn range xs o lawful e = grant_change txn range xs o lawful (sym e)
ask_change (n ∷ os) txn range xs o lawful e = no_change xs lawful

-- An ask that goes into no buffer for the rows shown goes into none for the whole list, which has no fewer pairs.

both_and : (a b c d : Bool) → (c ≡ true → b ≡ true) → a && b && d ≡ false → a && c && d ≡ false
both_and false b c d h e = e
both_and true b false d h e = refl
both_and true true true d h e = e
both_and true false true d h e = absurd (no (h refl))
  where
    no : false ≡ true → ⊥
    no e = cc

len_zero : (m n : ℕ) → m ≤ n → n == 0 ≡ true → m == 0 ≡ true
len_zero m n le e = grind (arith, nat_tests)

unbuffered : (buffer txn score : ℕ) (xs zs : List Pair) → length xs ≤ length zs
    → is_buffered buffer txn xs (TreeMode score) ≡ false → is_buffered buffer txn zs (TreeMode score) ≡ false
unbuffered buffer txn score xs zs le e =
    both_and (score == 100) (length xs == 0) (length zs == 0) (nat_lt 0 buffer) (len_zero (length xs) (length zs) le) e

-- what stays in Tree mode wasn't buffered
pub not_buffered : (b : Bool) (s t : TreeState) (txn : ℕ) → s.mode ≡ Buffer txn 1 → IsTree (if b then s else t).mode → b ≡ false
not_buffered true s t txn is tree = absurd (subst IsTree is tree)
not_buffered false s t txn is tree = refl

filter-drops_all : (xs : List Pair) → filter drops_all xs ≡ xs
filter-drops_all [] = refl
filter-drops_all (x ∷ xs) = ap (λ (l : List Pair). x ∷ l) (filter-drops_all xs)

module _ (setting : Setting) (txn score : ℕ) (xs zs : List Pair) (lx : IsLawful xs) (lz : IsLawful zs)
    (le : length xs ≤ length zs) where
  pub deed_changes : (deed : Deed) → IsQuestion deed → FindsSame (range_of deed) zs xs
      → IsTree (tree_after setting txn deed (at_score xs score)).mode → DeedChange setting txn deed score xs zs
  deed_changes (Ask tree range reply) o found tree_mode =
      let buffer : ℕ = setting.plan.buffer in
      let os : List ℕ = others txn range xs in
      let no_x : is_buffered buffer txn xs (TreeMode score) ≡ false =
      not_buffered (is_buffered buffer txn xs (TreeMode score)) (record { pairs = granted txn range xs; mode = Buffer txn 1 })
      (at_score (pairs_by os txn range xs) score) txn refl tree_mode in
      let no_z : is_buffered buffer txn zs (TreeMode score) ≡ false = unbuffered buffer txn score xs zs le no_x in
      let same : others txn range zs ≡ os = same_others found txn in
      let after_x : at_score (pairs_by os txn range xs) score ≡ tree_after setting txn (Ask tree range reply) (at_score xs score) =
      λ i. if sym no_x i then record { pairs = granted txn range xs; mode = Buffer txn 1 }
      else at_score (pairs_by os txn range xs) score in
      let after_z : at_score (pairs_by os txn range zs) score ≡ tree_after setting txn (Ask tree range reply) (at_score zs score) =
      λ i. if sym no_z i then record { pairs = granted txn range zs; mode = Buffer txn 1 }
      else at_score (pairs_by (sym same i) txn range zs) score in
      record {
        added = added_by os (merged txn range xs);
        dropped = dropped_by os txn range;
        local = ask_local os txn range xs;
        shown = subst (λ (t : TreeState). Change (added_by os (merged txn range xs)) (dropped_by os txn range) xs t.pairs) after_x
            (ask_change os txn range xs o lx refl);
        whole = subst (λ (t : TreeState). Change (added_by os (merged txn range xs)) (dropped_by os txn range) zs t.pairs) after_z
            (subst (λ (m : Pair). Change (added_by os m) (dropped_by os txn range) zs (pairs_by os txn range zs)) (same_merged found txn)
            (ask_change os txn range zs o lz (sym same)));
        replies = λ i. Ask tree range (if (no_z ∙ sym no_x) i then Buffered else reply_by (same i));
        modes = ap (λ (t : TreeState). t.mode) (sym after_z) ∙ ap (λ (t : TreeState). t.mode) after_x;
      }
  deed_changes (Free tree range first count) o found tree_mode = record {
    added = NoPair;
    dropped = is_own txn range;
    local = free_local txn range xs;
    shown = free_change txn range xs lx;
    whole = free_change txn range zs lz;
    replies = ap (λ (n : ℕ). Free tree range first n) (same_count found txn);
    modes = refl;
  }
  deed_changes (Who tree range named owners) o found tree_mode = record {
    added = NoPair;
    dropped = drops_none;
    local = no_local range xs;
    shown = no_change xs lx;
    whole = no_change zs lz;
    replies = ap (λ (l : List ℕ). Who tree range named l) (same_others found named);
    modes = refl;
  }
  deed_changes (Join tree before after) o found tree_mode =
      let same : zs ≡ xs =
      sym (filter-drops_all zs) ∙ (found.same drops_all (λ p e. over_whole p.range) ∙ filter-drops_all xs) in
      record {
        added = λ p. Has p (joined setting.marks xs);
        dropped = drops_all;
        local = record { over = λ p e. over_whole p.range; within = λ p a x y i all. in_whole x y p.range i };
        shown = join_change setting.marks xs xs lx refl;
        whole = join_change setting.marks xs zs lz same;
        replies = ap (λ (l : List Pair). Join tree (length l) (length (joined setting.marks l))) same;
        modes = refl;
      }
