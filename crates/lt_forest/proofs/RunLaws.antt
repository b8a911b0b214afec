-- The bounds that hangs keep where a free leaves rows out, and where a grant merges a run of rows to one.
use Rattle.std.proofs.Common.{◌≡◌, ◌⊎◌, inl, inr, List, [], ◌∷◌, ◌++◌, Bool, true, false, if◌then◌else◌, refl, sym, ap, ◌∙◌, subst}
use Rattle.std.specs.Prelude.{Some, None}
use Rattle.lt_ranges.specs.declared.key.Key.{Key}
use Rattle.lt_ranges.specs.Key.{key_le}
use Rattle.lt_ranges.proofs.KeyLaws.{le_trans}
use Rattle.lt_ranges.specs.Interval.{Interval, IsInterval}
use Rattle.lt_forest.specs.declared.part.PartRow.{PartRow}
use Rattle.lt_forest.specs.Bounds.{Bound, IsAbove, IsBelow, NoGreater, NoLess}
use Rattle.lt_forest.specs.Cuts.{End, Looser, EndsBefore, BeginsBehind, AllAside}
use Rattle.lt_forest.specs.Items.{Item, row, hang, rows_only, next_row, last_row, first_end, last_end, between, sift, Ascends, MayMerge}
use Rattle.lt_forest.proofs.BoundLaws.{lt_is, not_both, above_is, greater_same, less_same, greater_trans, less_trans}
use Rattle.lt_forest.proofs.RowsAndHangs.{EndsHanging, BeginsHanging, between-++, next_row-rows, last_row-rows, replaced_looser}

-- rows left out

next_over : (k : Key) (is : List Item) → Ascends (Some k) is → NoLess (next_row is None) (Some k)
next_over k [] o = tt
next_over k (row r ∷ is) o = lt_is k r.range.left o.0
next_over k (hang l ∷ is) o = next_over k is o

next_one : (keep : Bool) (r : PartRow) (js : List Item) → NoLess (next_row js None) (Some r.range.left)
    → NoLess (next_row (if keep then row r ∷ js else js) None) (Some r.range.left)
next_one true r js h = less_same (Some r.range.left)
next_one false r js h = h

next_sift : (keep : PartRow → Bool) (x : Bound) (is : List Item) → Ascends x is
    → NoLess (next_row (sift keep is) None) (next_row is None)
next_sift keep x [] o = tt
next_sift keep x (row r ∷ is) o = next_one (keep r) r (sift keep is)
    (less_trans (next_row (sift keep is) None) (next_row is None) (Some r.range.left) (next_sift keep (Some r.range.right) is o.2)
    (less_trans (next_row is None) (Some r.range.right) (Some r.range.left) (next_over r.range.right is o.2) o.1))
next_sift keep x (hang l ∷ is) o = next_sift keep x is o

sift_one : (keep : Bool) (r : PartRow) (es : List End) (js : List Item) (u : Bound) → Looser es (between js (Some r.range.right) None)
    → Looser es (between js u None) → Looser es (between (if keep then row r ∷ js else js) u None)
sift_one true r es js u a b = a
sift_one false r es js u a b = b

sift_at : (keep : PartRow → Bool) (x u : Bound) (is : List Item) → Ascends x is → NoGreater u x
    → Looser (between is x None) (between (sift keep is) u None)
sift_at keep x u [] o lo = tt
sift_at keep x u (row r ∷ is) o lo =
    let left = Some r.range.left in
    let right = Some r.range.right in
    sift_one (keep r) r (between is right None) (sift keep is) u
    (sift_at keep right right is o.2 (greater_same right))
    (sift_at keep right u is o.2 (greater_trans u x right lo (greater_trans x left right (above_is x r.range.left o.0) o.1)))
sift_at keep x u (hang l ∷ is) o lo = (refl, lo, next_sift keep x is o, sift_at keep x u is o lo)

pub sift_looser : (keep : PartRow → Bool) (is : List Item) → Ascends None is
    → Looser (between is None None) (between (sift keep is) None None)
sift_looser keep is o = sift_at keep None None is o tt

-- a run of rows merged to one

pub aside_left : (range : Interval) (es fs : List End) → AllAside range (es ++ fs) → AllAside range es
aside_left range [] fs a = tt
aside_left range (e ∷ es) fs a = (a.0, aside_left range es fs a.1)

pub aside_right : (range : Interval) (es fs : List End) → AllAside range (es ++ fs) → AllAside range fs
aside_right range [] fs a = a
aside_right range (e ∷ es) fs a = aside_right range es fs a.1

ends_aside : (range : Interval) (is : List Item) (x v : Bound) → EndsHanging is → AllAside range (between is x v)
    → EndsBefore v range ⊎ BeginsBehind (last_row is x) range
ends_aside range [] x v h a = absurd h
ends_aside range (row r ∷ []) x v h a = absurd h
ends_aside range (row r ∷ i ∷ is) x v h a = ends_aside range (i ∷ is) (Some r.range.right) v h a
ends_aside range (hang l ∷ []) x v h a = a.0
ends_aside range (hang l ∷ i ∷ is) x v h a = ends_aside range (i ∷ is) x v h a.1

begins_aside : (range : Interval) (is : List Item) (u y : Bound) → BeginsHanging is → AllAside range (between is u y)
    → EndsBefore (next_row is y) range ⊎ BeginsBehind u range
begins_aside range [] u y h a = absurd h
begins_aside range (row r ∷ is) u y h a = absurd h
begins_aside range (hang l ∷ is) u y h a = a.0

pub not_behind : (range : Interval) (x : Bound) → IsInterval range → IsAbove x range.left → BeginsBehind x range → ⊥
not_behind range None o above b = b
not_behind range (Some k) o above b = not_both (key_le range.left k) above (le_trans range.left range.right k o b)

pub not_ahead : (range : Interval) (y : Bound) → IsInterval range → IsBelow y range.right → EndsBefore y range → ⊥
not_ahead range None o below b = b
not_ahead range (Some k) o below b = not_both (key_le k range.right) below (le_trans k range.left range.right b o)

module _ {range : Interval} {ahead behind : List Item} {run : List PartRow} {one : PartRow}
    (merge : MayMerge range ahead run behind one)
    (aside : AllAside range (between (ahead ++ (rows_only run ++ behind)) None None)) where
  aside_ahead : AllAside range (between ahead None (first_end run (next_row behind None)))
  aside_ahead =
      let es = between ahead None (next_row (rows_only run ++ behind) None) in
      let fs = between (rows_only run ++ behind) (last_row ahead None) None in
      subst (λ (v : Bound). AllAside range (between ahead None v)) (next_row-rows run behind None)
      (aside_left range es fs (subst (AllAside range) (between-++ ahead (rows_only run ++ behind) None None) aside))

  aside_behind : AllAside range (between behind (last_end run (last_row ahead None)) None)
  aside_behind =
      let es = between ahead None (next_row (rows_only run ++ behind) None) in
      let fs = between (rows_only run ++ behind) (last_row ahead None) None in
      let rest = aside_right range es fs (subst (AllAside range) (between-++ ahead (rows_only run ++ behind) None None) aside) in
      let gs = between (rows_only run) (last_row ahead None) (next_row behind None) in
      let hs = between behind (last_row (rows_only run) (last_row ahead None)) None in
      subst (λ (u : Bound). AllAside range (between behind u None)) (last_row-rows run (last_row ahead None))
      (aside_right range gs hs (subst (AllAside range) (between-++ (rows_only run) behind (last_row ahead None) None) rest))

  first_fits : (rows : List PartRow) → rows ≡ run → EndsBefore (first_end rows (next_row behind None)) range
      → NoLess (Some one.range.left) (first_end rows (next_row behind None))
  first_fits [] e h = absurd (not_ahead range (next_row behind None) merge.range_is merge.below h)
  first_fits (r ∷ rows) e h = merge.first r.range.left (ap (λ (l : List PartRow). first_end l None) (sym e)) h

  last_fits : (rows : List PartRow) → rows ≡ run → BeginsBehind (last_end rows (last_row ahead None)) range
      → NoGreater (Some one.range.right) (last_end rows (last_row ahead None))
  last_fits [] e h = absurd (not_behind range (last_row ahead None) merge.range_is merge.above h)
  last_fits (r ∷ rows) e h = go (last_end rows (Some r.range.right)) refl h
    where
      go : (b : Bound) → last_end rows (Some r.range.right) ≡ b → BeginsBehind b range → NoGreater (Some one.range.right) b
      go None is h = absurd h
      go (Some k) is h = merge.last k (ap (λ (l : List PartRow). last_end l None) (sym e) ∙ is) h

  pub merge_looser : Looser (between (ahead ++ (rows_only run ++ behind)) None None)
      (between (ahead ++ (rows_only (one ∷ []) ++ behind)) None None)
  merge_looser = replaced_looser ahead behind run (one ∷ []) None None
      (λ h. elim (ends_aside range ahead None (first_end run (next_row behind None)) h aside_ahead) [
        | inl k ↦ first_fits run refl k
        | inr k ↦ absurd (not_behind range (last_row ahead None) merge.range_is merge.above k)
      ])
      (λ h. elim (begins_aside range behind (last_end run (last_row ahead None)) None h aside_behind) [
        | inl k ↦ absurd (not_ahead range (next_row behind None) merge.range_is merge.below k)
        | inr k ↦ last_fits run refl k
      ])
