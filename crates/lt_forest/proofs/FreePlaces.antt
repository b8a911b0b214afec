-- In a closed part nothing hangs within a run of rows that overlap the range, nor where a row is put in for it.
use Rattle.std.proofs.Common.{◌≡◌, ◌⊎◌, inl, inr, ℕ, zero, suc, ◌+◌, List, [], ◌∷◌, ◌++◌, map, length, replicate, true, refl, ap, subst, arith}
use Rattle.std.specs.Prelude.{None, Some}
use Rattle.lt_ranges.specs.Key.{key_le}
use Rattle.lt_ranges.specs.Interval.{Interval, IsInterval, overlap}
use Rattle.lt_ranges.proofs.KeyLaws.{le_trans}
use Rattle.lt_seq.specs.declared.event.Pair.{Pair}
use Rattle.lt_seq.specs.Pairs.{IsLawful}
use Rattle.lt_forest.specs.declared.part.PartRow.{PartRow}
use Rattle.lt_forest.specs.Bounds.{Bound, IsAbove, IsBelow}
use Rattle.lt_forest.specs.Pairs.{Has}
use Rattle.lt_forest.specs.Trees.{Nodes, in_order, pairs_in}
use Rattle.lt_forest.specs.Cuts.{Cut, bare, End, end_if, ends, EndsBefore, BeginsBehind, AllAside}
use Rattle.lt_forest.specs.Parts.{part_row, rows_of, hangs_of, row_pair, hanging}
use Rattle.lt_forest.specs.Items.{rows_only, first_end, last_end, Ascends}
use Rattle.lt_forest.specs.Places.{RunHangsNone, PlaceIsFree}
use Rattle.lt_forest.proofs.BoundLaws.{not_both}
use Rattle.lt_forest.proofs.PartLaws.{map_long}
use Rattle.lt_forest.proofs.RowsAndHangs.{ends-hanging}
use Rattle.lt_forest.proofs.RunLaws.{aside_right, not_behind, not_ahead}
use Rattle.lt_forest.proofs.RowsAscend.{cut_ascends}
use Rattle.lt_forest.proofs.Splits.{both_true}
use Rattle.lt_forest.proofs.WidenLaws.{length-hangs_of}

-- what hangs between two rows that overlap isn't aside
not_between : (range : Interval) (p q : PartRow) → overlap p.range range ≡ true → overlap q.range range ≡ true
    → IsAbove (Some p.range.right) q.range.left → EndsBefore (Some q.range.left) range ⊎ BeginsBehind (Some p.range.right) range → ⊥
not_between range p q over over' apart aside =
    let o = both_true (key_le p.range.left range.right) (key_le range.left p.range.right) over in
    let o' = both_true (key_le q.range.left range.right) (key_le range.left q.range.right) over' in
    not_both (key_le q.range.left p.range.right) apart (elim aside [
      | inl b ↦ le_trans q.range.left range.left p.range.right b o.1
      | inr b ↦ le_trans q.range.left range.right p.range.right o'.0 b
    ])

is_zero : (range : Interval) (j : ℕ) (x y : Bound) → (EndsBefore y range ⊎ BeginsBehind x range → ⊥) → AllAside range (end_if j x y)
    → j ≡ 0
is_zero range zero x y meets all = refl
is_zero range (suc j) x y meets all = absurd (meets all.0)

-- the links behind the first row of a run
record TailHangsNone (hangs : List ℕ) (run : List PartRow) : Type 0 where
  pub rest : List ℕ
  pub are : hangs ≡ replicate (length run) 0 ++ rest

aside_first : (range : Interval) (j : ℕ) (x y : Bound) (es : List End) → AllAside range (end_if j x y ++ es) → AllAside range (end_if j x y)
aside_first range zero x y es all = tt
aside_first range (suc j) x y es all = (all.0, tt)

tail_none : (range : Interval) (r : PartRow) (run behind : List PartRow) (hangs : List ℕ)
    → length hangs ≡ length (run ++ behind) + 1 → Ascends (Some r.range.right) (rows_only (run ++ behind))
    → AllAside range (hanging (run ++ behind) hangs (Some r.range.right) None) → overlap r.range range ≡ true
    → ((p : Pair) → Has p (map row_pair run) → overlap p.range range ≡ true) → TailHangsNone hangs run
tail_none range r [] behind hangs long up all over overs = record { rest = hangs; are = refl }
tail_none range r (q ∷ run) behind [] long up all over overs = absurd (omega (arith, long))
tail_none range r (q ∷ run) behind (j ∷ hangs) long up all over overs =
    let zero_is : j ≡ 0 = is_zero range j (Some r.range.right) (Some q.range.left)
    (not_between range r q over (overs (row_pair q) (inl refl)) up.0)
    (aside_first range j (Some r.range.right) (Some q.range.left) (hanging (run ++ behind) hangs (Some q.range.right) None) all) in
    let more = tail_none range q run behind hangs (omega (arith, long)) up.2
    (aside_right range (end_if j (Some r.range.right) (Some q.range.left)) (hanging (run ++ behind) hangs (Some q.range.right) None) all)
    (overs (row_pair q) (inl refl)) (λ p h. overs p (inr h)) in
    record { rest = more.rest; are = λ i. zero_is i ∷ more.are i }

flat_run : (range : Interval) (x : Bound) (ahead : List PartRow) (r : PartRow) (run behind : List PartRow) (hangs : List ℕ)
    → length hangs ≡ length (ahead ++ (r ∷ run ++ behind)) + 1 → Ascends x (rows_only (ahead ++ (r ∷ run ++ behind)))
    → AllAside range (hanging (ahead ++ (r ∷ run ++ behind)) hangs x None)
    → ((p : Pair) → Has p (map row_pair (r ∷ run)) → overlap p.range range ≡ true) → RunHangsNone hangs ahead run
flat_run range x [] r run behind [] long up all over = absurd (omega (arith, long))
flat_run range x [] r run behind (k ∷ hangs) long up all over =
    let t = tail_none range r run behind hangs (omega (arith, long)) up.2
    (aside_right range (end_if k x (Some r.range.left)) (hanging (run ++ behind) hangs (Some r.range.right) None) all)
    (over (row_pair r) (inl refl)) (λ p h. over p (inr h)) in
    record { links_ahead = k ∷ []; links_behind = t.rest; hangs_are = ap (λ (l : List ℕ). k ∷ l) t.are; place = refl }
flat_run range x (a ∷ ahead) r run behind [] long up all over = absurd (omega (arith, long))
flat_run range x (a ∷ ahead) r run behind (k ∷ hangs) long up all over =
    let n = flat_run range (Some a.range.right) ahead r run behind hangs (omega (arith, long)) up.2
    (aside_right range (end_if k x (Some a.range.left)) (hanging (ahead ++ (r ∷ run ++ behind)) hangs (Some a.range.right) None) all) over in
    record {
      links_ahead = k ∷ n.links_ahead;
      links_behind = n.links_behind;
      hangs_are = ap (λ (l : List ℕ). k ∷ l) n.hangs_are;
      place = let p = n.place in omega arith;
    }

flat_place : (range : Interval) (x : Bound) (ahead behind : List PartRow) (hangs : List ℕ) → IsInterval range
    → length hangs ≡ length (ahead ++ behind) + 1 → AllAside range (hanging (ahead ++ behind) hangs x None)
    → IsAbove (last_end ahead x) range.left → IsBelow (first_end behind None) range.right → PlaceIsFree hangs ahead
flat_place range x ahead behind [] o long all above below = absurd (omega (arith, long))
flat_place range x [] [] (k ∷ hangs) o long all above below =
    let z = is_zero range k x None (λ a. elim a [ inl b ↦ absurd b | inr b ↦ not_behind range x o above b ]) all in
    record { links_ahead = []; links_behind = hangs; hangs_are = ap (λ (n : ℕ). n ∷ hangs) z; place = refl }
flat_place range x [] (q ∷ behind) (k ∷ hangs) o long all above below =
    let z = is_zero range k x (Some q.range.left)
    (λ a. elim a [ inl b ↦ not_ahead range (Some q.range.left) o below b | inr b ↦ not_behind range x o above b ])
    (aside_first range k x (Some q.range.left) (hanging behind hangs (Some q.range.right) None) all) in
    record { links_ahead = []; links_behind = hangs; hangs_are = ap (λ (n : ℕ). n ∷ hangs) z; place = refl }
flat_place range x (a ∷ ahead) behind (k ∷ hangs) o long all above below =
    let n = flat_place range (Some a.range.right) ahead behind hangs o (omega (arith, long))
    (aside_right range (end_if k x (Some a.range.left)) (hanging (ahead ++ behind) hangs (Some a.range.right) None) all) above below in
    record {
      links_ahead = k ∷ n.links_ahead;
      links_behind = n.links_behind;
      hangs_are = ap (λ (l : List ℕ). k ∷ l) n.hangs_are;
      place = ap suc n.place;
    }

-- of a cut

flat_long : (c : Nodes) (cut : Cut) (rows : List PartRow) → rows_of c cut ≡ rows → length (hangs_of cut) ≡ length rows + 1
flat_long c cut rows are =
    let a = length-hangs_of cut in
    let b = map_long (part_row c) (in_order (bare cut)) in
    let e = ap (λ (l : List PartRow). length l) are in
    omega arith

flat_aside : (c : Nodes) (cut : Cut) (range : Interval) (rows : List PartRow) → rows_of c cut ≡ rows → AllAside range (ends c cut None None)
    → AllAside range (hanging rows (hangs_of cut) None None)
flat_aside c cut range rows are aside = subst (λ (rs : List PartRow). AllAside range (hanging rs (hangs_of cut) None None)) are
    (subst (AllAside range) (ends-hanging c cut None None) aside)

pub run_none : (c : Nodes) (cut : Cut) (range : Interval) (ahead : List PartRow) (r : PartRow) (run behind : List PartRow)
    → IsLawful (pairs_in c (bare cut)) → AllAside range (ends c cut None None) → rows_of c cut ≡ ahead ++ (r ∷ run ++ behind)
    → ((p : Pair) → Has p (map row_pair (r ∷ run)) → overlap p.range range ≡ true) → RunHangsNone (hangs_of cut) ahead run
run_none c cut range ahead r run behind lawful aside are over =
    let rows : List PartRow = ahead ++ (r ∷ run ++ behind) in
    flat_run range None ahead r run behind (hangs_of cut) (flat_long c cut rows are)
    (subst (λ (rs : List PartRow). Ascends None (rows_only rs)) are (cut_ascends c cut lawful)) (flat_aside c cut range rows are aside) over

pub place_free : (c : Nodes) (cut : Cut) (range : Interval) (ahead behind : List PartRow) → IsInterval range
    → AllAside range (ends c cut None None) → rows_of c cut ≡ ahead ++ behind → IsAbove (last_end ahead None) range.left
    → IsBelow (first_end behind None) range.right → PlaceIsFree (hangs_of cut) ahead
place_free c cut range ahead behind o aside are above below =
    flat_place range None ahead behind (hangs_of cut) o (flat_long c cut (ahead ++ behind) are)
    (flat_aside c cut range (ahead ++ behind) are aside) above below
