-- What hangs in a closed part: nothing between rows that overlap the range, and what is taken into it leaves it closed.
use Rattle.std.proofs.Common.{◌≡◌, ◌⊎◌, inl, inr, ℕ, zero, suc, ◌+◌, ◌<◌, List, [], ◌∷◌, ◌++◌, map, length, true, not, refl, sym, ap, ◌∙◌, subst, arith}
use Rattle.std.specs.Prelude.{None, Some}
use Rattle.lt_ranges.specs.Key.{key_le}
use Rattle.lt_ranges.specs.Interval.{Interval, IsInterval, overlap}
use Rattle.lt_ranges.proofs.KeyLaws.{le_trans}
use Rattle.lt_seq.specs.Pairs.{IsLawful}
use Rattle.lt_forest.specs.declared.part.PartRow.{PartRow}
use Rattle.lt_forest.specs.Bounds.{Bound, IsAbove, IsBelow}
use Rattle.lt_forest.specs.Trees.{Nodes, pairs_in}
use Rattle.lt_forest.specs.Cuts.{Cut, bare, end_if, ends, EndsBefore, BeginsBehind, AllAside}
use Rattle.lt_forest.specs.Parts.{part_row, rows_of, hangs_of, hanging}
use Rattle.lt_forest.specs.Items.{rows_only, first_end, last_end, Ascends}
use Rattle.lt_forest.specs.Widenings.{Widens}
use Rattle.lt_forest.specs.Places.{HangsAt}
use Rattle.lt_forest.proofs.BoundLaws.{lt_is, not_both}
use Rattle.lt_forest.proofs.PairLists.{map_app}
use Rattle.lt_forest.proofs.PartLaws.{map_long}
use Rattle.lt_forest.proofs.RowsAndHangs.{ends-hanging}
use Rattle.lt_forest.proofs.RunLaws.{aside_left, aside_right, not_behind, not_ahead}
use Rattle.lt_forest.proofs.VisitLaws.{aside_app}
use Rattle.lt_forest.proofs.RowsAscend.{cut_ascends}
use Rattle.lt_forest.proofs.Splits.{both_true}

-- the link at a place, if it isn't 0
hang_aside : (range : Interval) (x : Bound) (ahead behind : List PartRow) (ls : List ℕ) (l : ℕ) (ms : List ℕ)
    → length ls ≡ length ahead → AllAside range (hanging (ahead ++ behind) (ls ++ suc l ∷ ms) x None)
    → EndsBefore (first_end behind None) range ⊎ BeginsBehind (last_end ahead x) range
hang_aside range x [] [] [] l ms e all = all.0
hang_aside range x [] (z ∷ behind) [] l ms e all = all.0
hang_aside range x [] behind (k ∷ ls) l ms e all = absurd (omega (arith, e))
hang_aside range x (r ∷ ahead) behind [] l ms e all = absurd (omega (arith, e))
hang_aside range x (r ∷ ahead) behind (k ∷ ls) l ms e all =
    hang_aside range (Some r.range.right) ahead behind ls l ms (omega (arith, e))
    (aside_right range (end_if k x (Some r.range.left)) (hanging (ahead ++ behind) (ls ++ suc l ∷ ms) (Some r.range.right) None) all)

-- a row stands before the next one
ascends_at : (x : Bound) (ahead : List PartRow) (p q : PartRow) (behind : List PartRow)
    → Ascends x (rows_only ((ahead ++ p ∷ []) ++ q ∷ behind)) → IsAbove (Some p.range.right) q.range.left
ascends_at x [] p q behind a = a.2.0
ascends_at x (r ∷ ahead) p q behind a = ascends_at (Some r.range.right) ahead p q behind a.2

last_end-one : (ahead : List PartRow) (p : PartRow) (x : Bound) → last_end (ahead ++ p ∷ []) x ≡ Some p.range.right
last_end-one [] p x = refl
last_end-one (r ∷ ahead) p x = last_end-one ahead p (Some r.range.right)

-- the hang at a place of a cut
at_place : (c : Nodes) (cut : Cut) (range : Interval) (ahead behind : List PartRow) (l : ℕ)
    → AllAside range (ends c cut None None) → HangsAt (rows_of c cut) (hangs_of cut) ahead (suc l) behind
    → EndsBefore (first_end behind None) range ⊎ BeginsBehind (last_end ahead None) range
at_place c cut range ahead behind l aside place = hang_aside range None ahead behind place.links_ahead l place.links_behind place.place
    (subst (λ (ls : List ℕ). AllAside range (hanging (ahead ++ behind) ls None None)) place.hangs_are
    (subst (λ (rs : List PartRow). AllAside range (hanging rs (hangs_of cut) None None)) place.rows_are
    (subst (AllAside range) (ends-hanging c cut None None) aside)))

pub none_between : (c : Nodes) (cut : Cut) (range : Interval) (ahead : List PartRow) (p : PartRow) (l : ℕ) (q : PartRow)
    (behind : List PartRow) → IsLawful (pairs_in c (bare cut)) → AllAside range (ends c cut None None)
    → HangsAt (rows_of c cut) (hangs_of cut) (ahead ++ p ∷ []) l (q ∷ behind)
    → overlap p.range range ≡ true → overlap q.range range ≡ true → l ≡ 0
none_between c cut range ahead p zero q behind lawful aside place over over' = refl
none_between c cut range ahead p (suc l) q behind lawful aside place over over' =
    let o = both_true (key_le p.range.left range.right) (key_le range.left p.range.right) over in
    let o' = both_true (key_le q.range.left range.right) (key_le range.left q.range.right) over' in
    let apart : not (key_le q.range.left p.range.right) ≡ true = ascends_at None ahead p q behind
    (subst (λ (rs : List PartRow). Ascends None (rows_only rs)) place.rows_are (cut_ascends c cut lawful)) in
    absurd (not_both (key_le q.range.left p.range.right) apart (elim (at_place c cut range (ahead ++ p ∷ []) (q ∷ behind) l aside place) [
      | inl b ↦ le_trans q.range.left range.left p.range.right b o.1
      | inr b ↦
          let k : key_le range.right p.range.right ≡ true = subst (λ (x : Bound). BeginsBehind x range) (last_end-one ahead p None) b in
          le_trans q.range.left range.right p.range.right o'.0 k
    ]))

pub none_there : (c : Nodes) (cut : Cut) (range : Interval) (ahead : List PartRow) (l : ℕ) (behind : List PartRow)
    → IsInterval range → AllAside range (ends c cut None None) → HangsAt (rows_of c cut) (hangs_of cut) ahead l behind
    → IsAbove (last_end ahead None) range.left → IsBelow (first_end behind None) range.right → l ≡ 0
none_there c cut range ahead zero behind o aside place above below = refl
none_there c cut range ahead (suc l) behind o aside place above below =
    absurd (elim (at_place c cut range ahead behind l aside place) [
      | inl b ↦ not_ahead range (first_end behind None) o below b
      | inr b ↦ not_behind range (last_end ahead None) o above b
    ])

-- a row is taken into the part

pub end_aside : (range : Interval) (l : ℕ) (x y : Bound) → EndsBefore y range ⊎ BeginsBehind x range → AllAside range (end_if l x y)
end_aside range zero x y a = tt
end_aside range (suc l) x y a = (a, tt)

first_before : (range : Interval) (r : PartRow) (y : Bound) → IsInterval r.range → IsBelow y r.range.right → EndsBefore y range
    → EndsBefore (Some r.range.left) range
first_before range r None o below b = absurd b
first_before range r (Some k) o below b =
    le_trans r.range.left k range.left (le_trans r.range.left r.range.right k o (lt_is r.range.right k below)) b

last_behind : (range : Interval) (r : PartRow) (x : Bound) → IsInterval r.range → IsAbove x r.range.left → BeginsBehind x range
    → BeginsBehind (Some r.range.right) range
last_behind range r None o above b = absurd b
last_behind range r (Some k) o above b =
    le_trans range.right k r.range.right b (le_trans k r.range.left r.range.right (lt_is k r.range.left above) o)

-- between the bounds of what hung there
in_two : (range : Interval) (r : PartRow) (l m : ℕ) (x y : Bound) → IsInterval r.range → IsAbove x r.range.left → IsBelow y r.range.right
    → EndsBefore y range ⊎ BeginsBehind x range
    → AllAside range (end_if l x (Some r.range.left)) × AllAside range (end_if m (Some r.range.right) y)
in_two range r l m x y o above below a = elim a [
  | inl b ↦ (
    end_aside range l x (Some r.range.left) (inl (first_before range r y o below b)),
    end_aside range m (Some r.range.right) y (inl b),
  )
  | inr b ↦ (
    end_aside range l x (Some r.range.left) (inr b),
    end_aside range m (Some r.range.right) y (inr (last_behind range r x o above b)),
  )
]

wider_aside : (range : Interval) (x : Bound) (ahead : List PartRow) (r : PartRow) (behind : List PartRow) (ls : List ℕ) (k l m : ℕ)
    (ms : List ℕ) → length ls ≡ length ahead → 0 < k → Ascends x (rows_only (ahead ++ r ∷ behind))
    → AllAside range (hanging (ahead ++ behind) (ls ++ k ∷ ms) x None)
    → AllAside range (hanging (ahead ++ r ∷ behind) (ls ++ l ∷ m ∷ ms) x None)
wider_aside range x ahead r behind ls zero l m ms e some up all = absurd (omega (arith, some))
wider_aside range x [] r [] [] (suc k) l m ms e some up all =
    let two = in_two range r l m x None up.1 up.0 tt all.0 in
    aside_app range (end_if l x (Some r.range.left)) (end_if m (Some r.range.right) None) two.0 two.1
wider_aside range x [] r (z ∷ behind) [] (suc k) l m ms e some up all =
    let two = in_two range r l m x (Some z.range.left) up.1 up.0 up.2.0 all.0 in
    let rest = hanging behind ms (Some z.range.right) None in
    aside_app range (end_if l x (Some r.range.left)) (end_if m (Some r.range.right) (Some z.range.left) ++ rest) two.0
    (aside_app range (end_if m (Some r.range.right) (Some z.range.left)) rest two.1 all.1)
wider_aside range x [] r behind (j ∷ ls) (suc k) l m ms e some up all = absurd (omega (arith, e))
wider_aside range x (p ∷ ahead) r behind [] (suc k) l m ms e some up all = absurd (omega (arith, e))
wider_aside range x (p ∷ ahead) r behind (j ∷ ls) (suc k) l m ms e some up all =
    let first = end_if j x (Some p.range.left) in
    let old = hanging (ahead ++ behind) (ls ++ suc k ∷ ms) (Some p.range.right) None in
    aside_app range first (hanging (ahead ++ r ∷ behind) (ls ++ l ∷ m ∷ ms) (Some p.range.right) None) (aside_left range first old all)
    (wider_aside range (Some p.range.right) ahead r behind ls (suc k) l m ms (omega (arith, e)) some up.2 (aside_right range first old all))

pub widened_aside : (c : Nodes) (link : ℕ) (cut : Cut) (r : ℕ) (before behind : List ℕ) (w : Widens c link cut r before behind)
    (range : Interval) → IsLawful (pairs_in c (bare w.wider)) → AllAside range (ends c cut None None)
    → AllAside range (ends c w.wider None None)
widened_aside c link cut r before behind w range lawful aside =
    let old : rows_of c cut ≡ map (part_row c) w.rows_before ++ map (part_row c) w.rows_behind =
    ap (map (part_row c)) w.old_rows ∙ map_app (part_row c) w.rows_before w.rows_behind in
    let new : rows_of c w.wider ≡ map (part_row c) w.rows_before ++ part_row c r ∷ map (part_row c) w.rows_behind =
    ap (map (part_row c)) w.new_rows ∙ map_app (part_row c) w.rows_before (r ∷ w.rows_behind) in
    let up = subst (λ (rs : List PartRow). Ascends None (rows_only rs)) new (cut_ascends c w.wider lawful) in
    let was = subst (λ (ls : List ℕ). AllAside range (hanging (map (part_row c) w.rows_before ++ map (part_row c) w.rows_behind) ls None None)) w.old_hangs
    (subst (λ (rs : List PartRow). AllAside range (hanging rs (hangs_of cut) None None)) old
    (subst (AllAside range) (ends-hanging c cut None None) aside)) in
    subst (AllAside range) (sym (ends-hanging c w.wider None None))
    (subst (λ (rs : List PartRow). AllAside range (hanging rs (hangs_of w.wider) None None)) (sym new)
    (subst (λ (ls : List ℕ). AllAside range (hanging (map (part_row c) w.rows_before ++ part_row c r ∷ map (part_row c) w.rows_behind) ls None None)) (sym w.hangs)
    (wider_aside range None (map (part_row c) w.rows_before) (part_row c r) (map (part_row c) w.rows_behind) before (r + 1) (c r).left (c r).right behind
    (sym w.place ∙ sym (map_long (part_row c) w.rows_before)) (omega arith) up was)))
