-- Rows of a new part and given ones are as many as the old part's and the taken ones, each of them.
use Rattle.std.proofs.Common.{◌≡◌, ℕ, suc, ◌+◌, List, [], ◌∷◌, ◌++◌, length, Bool, true, false, not, if◌then◌else◌, refl, sym, ap, ◌∙◌, arith, length-append}
use Rattle.std.specs.Prelude.{nat_eq}
use Rattle.std.specs.List.{filter}
use Rattle.lt_forest.specs.declared.part.PartRow.{PartRow}
use Rattle.lt_forest.specs.Counts.{one_if, times}
use Rattle.lt_forest.specs.Trees.{Nodes, in_order}
use Rattle.lt_forest.specs.Cuts.{Cut, bare}
use Rattle.lt_forest.specs.Parts.{part_row, rows_of, hangs_of, numbers}
use Rattle.lt_forest.specs.Items.{LeavesOut}
use Rattle.lt_forest.specs.Plans.{SameRows}
use Rattle.lt_forest.proofs.RowsAndHangs.{numbers_of}
use Rattle.lt_forest.proofs.PartLaws.{map_long}

times-rows : (q : ℕ) (xs ys : List PartRow) → times q (numbers (xs ++ ys)) ≡ times q (numbers xs) + times q (numbers ys)
times-rows q [] ys = omega arith
times-rows q (x ∷ xs) ys = let t = times-rows q xs ys in omega arith

-- the rows of a cut are its numbers
cut_times : (c : Nodes) (cut : Cut) (rows : List PartRow) (q : ℕ) → rows_of c cut ≡ rows → times q (in_order (bare cut)) ≡ times q (numbers rows)
cut_times c cut rows q are =
    ap (times q) (sym (numbers_of c (in_order (bare cut)))) ∙ ap (λ (rs : List PartRow). times q (numbers rs)) are

cut_length : (c : Nodes) (cut : Cut) (rows : List PartRow) → rows_of c cut ≡ rows → length (in_order (bare cut)) ≡ length rows
cut_length c cut rows are = sym (map_long (part_row c) (in_order (bare cut))) ∙ ap (λ (rs : List PartRow). length rs) are

long : (rows : List PartRow) → length (numbers rows) ≡ length rows
long [] = refl
long (r ∷ rows) = ap suc (long rows)

pub merged_rows : (c d : Nodes) (cut new : Cut) (ahead : List PartRow) (r : PartRow) (run behind : List PartRow) (one : PartRow)
    → rows_of c cut ≡ ahead ++ (r ∷ run ++ behind) → rows_of d new ≡ ahead ++ one ∷ behind → one.row ≡ r.row
    → SameRows cut new [] (numbers run)
merged_rows c d cut new ahead r run behind one old are same = record {
  each = λ q.
      let a = cut_times c cut (ahead ++ (r ∷ run ++ behind)) q old in
      let b = cut_times d new (ahead ++ one ∷ behind) q are in
      let m = times-rows q ahead (r ∷ run ++ behind) in
      let n = times-rows q run behind in
      let k = times-rows q ahead (one ∷ behind) in
      let e : one_if (nat_eq one.row q) ≡ one_if (nat_eq r.row q) = ap (λ (l : ℕ). one_if (nat_eq l q)) same in
      omega arith;
  all =
      let a = cut_length c cut (ahead ++ (r ∷ run ++ behind)) old in
      let b = cut_length d new (ahead ++ one ∷ behind) are in
      omega (arith, long run, length-append ahead (r ∷ run ++ behind), length-append run behind, length-append ahead (one ∷ behind));
}

pub put_in_rows : (c d : Nodes) (cut new : Cut) (ahead behind : List PartRow) (one : PartRow)
    → rows_of c cut ≡ ahead ++ behind → rows_of d new ≡ ahead ++ one ∷ behind → SameRows cut new (one.row ∷ []) []
put_in_rows c d cut new ahead behind one old are = record {
  each = λ q.
      let a = cut_times c cut (ahead ++ behind) q old in
      let b = cut_times d new (ahead ++ one ∷ behind) q are in
      let m = times-rows q ahead behind in
      let k = times-rows q ahead (one ∷ behind) in
      omega arith;
  all =
      let a = cut_length c cut (ahead ++ behind) old in
      let b = cut_length d new (ahead ++ one ∷ behind) are in
      omega (arith, length-append ahead behind, length-append ahead (one ∷ behind));
}

-- rows that pass a test and rows that fail it

one_sifted : (b : Bool) (q : ℕ) (r : PartRow) (ins outs rows : List PartRow)
    → times q (numbers ins) + times q (numbers outs) ≡ times q (numbers rows)
    → times q (numbers (if b then r ∷ ins else ins)) + times q (numbers (if not b then r ∷ outs else outs))
    ≡ one_if (nat_eq r.row q) + times q (numbers rows)
one_sifted true q r ins outs rows e = omega (arith, e)
one_sifted false q r ins outs rows e = omega (arith, e)

sifted_times : (keep : PartRow → Bool) (q : ℕ) (rows : List PartRow)
    → times q (numbers (filter keep rows)) + times q (numbers (filter (λ r. not (keep r)) rows)) ≡ times q (numbers rows)
sifted_times keep q [] = refl
sifted_times keep q (r ∷ rows) = one_sifted (keep r) q r (filter keep rows) (filter (λ x. not (keep x)) rows) rows (sifted_times keep q rows)

one_counted : (b : Bool) (r : PartRow) (ins outs rows : List PartRow) → length ins + length outs ≡ length rows
    → length (if b then r ∷ ins else ins) + length (if not b then r ∷ outs else outs) ≡ length rows + 1
one_counted true r ins outs rows e = omega (arith, e)
one_counted false r ins outs rows e = omega (arith, e)

sifted_length : (keep : PartRow → Bool) (rows : List PartRow)
    → length (filter keep rows) + length (filter (λ r. not (keep r)) rows) ≡ length rows
sifted_length keep [] = refl
sifted_length keep (r ∷ rows) =
    let i = one_counted (keep r) r (filter keep rows) (filter (λ x. not (keep x)) rows) rows (sifted_length keep rows) in
    i ∙ (let e : length rows + 1 ≡ suc (length rows) = omega arith in e)

pub left_out_rows : (keep : PartRow → Bool) (c d : Nodes) (cut new : Cut)
    → LeavesOut keep (rows_of c cut) (hangs_of cut) (rows_of d new) (hangs_of new)
    → SameRows cut new [] (numbers (filter (λ r. not (keep r)) (rows_of c cut)))
left_out_rows keep c d cut new k = record {
  each = λ q.
      let a = cut_times c cut (rows_of c cut) q refl in
      let b = cut_times d new (filter keep (rows_of c cut)) q k.new_rows in
      let s = sifted_times keep q (rows_of c cut) in
      omega arith;
  all =
      let a = cut_length c cut (rows_of c cut) refl in
      let b = cut_length d new (filter keep (rows_of c cut)) k.new_rows in
      let s = sifted_length keep (rows_of c cut) in
      omega (arith, long (filter (λ r. not (keep r)) (rows_of c cut)));
}
