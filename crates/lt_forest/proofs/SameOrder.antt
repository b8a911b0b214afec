-- Layouts: plans that leave a part's rows and hangs in their order, and rows that are turned.
use Rattle.std.proofs.Common.{◌≡◌, ℕ, ◌+◌, ◌<◌, List, [], ◌∷◌, map, refl, sym, ap, ap₂, ◌∙◌, subst, arith}
use Rattle.lt_seq.specs.declared.event.Pair.{Pair}
use Rattle.lt_forest.specs.declared.part.PartRow.{PartRow}
use Rattle.lt_forest.specs.declared.part.Placed.{Placed}
use Rattle.lt_forest.specs.Counts.{times}
use Rattle.lt_forest.specs.Bounds.{Gap}
use Rattle.lt_forest.specs.Trees.{Nodes, in_order, pair_of, pairs_in}
use Rattle.lt_forest.specs.Cuts.{Cut, Shows, bare}
use Rattle.lt_forest.specs.Parts.{part_row, rows_of, hangs_of}
use Rattle.lt_forest.specs.Layouts.{HoldsPlaced, Turns}
use Rattle.lt_forest.specs.Plans.{Top, from_anchor, from_row, top_link}
use Rattle.lt_forest.specs.Links.{Slot, row_with, link_in}
use Rattle.lt_forest.specs.Views.{AllHeld, PlansOnly, TopStays, HoldsPart, no_pool, PlanLays}
use Rattle.lt_forest.specs.Sides.{far_link, around, next_to}
use Rattle.lt_forest.proofs.SameRows.{times-++, one_here}
use Rattle.lt_forest.proofs.RowsAndHangs.{order_ends, order_numbers, order_rows, order_pairs}
use Rattle.lt_forest.proofs.LayoutLaws.{laid_shows}
use Rattle.lt_forest.proofs.SideParts.{times-around, shows_around, side_held, adds_row}

pub same_order : {has : ℕ → Type 0} {planned : List ℕ} {trees t : ℕ} {top : Top} {v v' : Nodes} {cut new : Cut}
    → HoldsPart has t top v cut → Shows v' (top_link top (v' t)) new → rows_of v' new ≡ rows_of v cut → hangs_of new ≡ hangs_of cut
    → TopStays has planned t top v v' → times trees planned ≡ 0 → PlansOnly (t ∷ trees ∷ in_order (bare cut)) planned
    → PlanLays has planned trees t top v v' cut new [] [] × (pairs_in v' (bare new) ≡ pairs_in v (bare cut))
same_order {has} {planned} {trees} {t} {top} {v} {v'} {cut} {new} part shows rows hangs stays unplanned only = (
  record {
    part = part;
    shows = shows;
    new_held = subst (λ (l : List ℕ). AllHeld has l) (sym (order_numbers v v' cut new rows)) part.rows;
    loose = order_ends v v' cut new rows hangs;
    pool = no_pool refl refl unplanned;
    rows = order_rows v v' cut new rows;
    link = stays;
    others = λ r none. only r (let s = times-++ r (in_order (bare cut)) [] in omega arith);
  },
  order_pairs v v' cut new rows,
)

-- rows that are turned

same_rows : (v v' : Nodes) (xs : List ℕ) → ((r : ℕ) → 0 < times r xs → pair_of v r ≡ pair_of v' r)
    → map (part_row v') xs ≡ map (part_row v) xs
same_rows v v' [] same = refl
same_rows v v' (x ∷ xs) same =
    ap₂ (λ (r : PartRow) (rs : List PartRow). r ∷ rs)
    (ap (λ (p : Pair). record { row = x; owner = p.owner; range = p.range }) (sym (same x (let o = one_here x in omega arith))))
    (same_rows v v' xs (λ r some. same r (omega arith)))

module _ (v v' : Nodes) {old new : List Placed} {old_link new_link : ℕ} (turn : Turns old new old_link new_link)
    (holds : HoldsPlaced v old) (holds' : HoldsPlaced v' new)
    (same : (r : ℕ) → 0 < times r turn.rows → pair_of v r ≡ pair_of v' r) where
  old_shows : Shows v old_link turn.before.cut
  old_shows = laid_shows v old old_link turn.before.cut holds turn.before.laid

  new_shows : Shows v' new_link turn.after.cut
  new_shows = laid_shows v' new new_link turn.after.cut holds' turn.after.laid

  turned_rows : rows_of v' turn.after.cut ≡ rows_of v turn.before.cut
  turned_rows =
      ap (map (part_row v')) turn.after.rows_are
      ∙ (same_rows v v' turn.rows same ∙ ap (map (part_row v)) (sym turn.before.rows_are))

  turned_hangs : hangs_of turn.after.cut ≡ hangs_of turn.before.cut
  turned_hangs = turn.after.hangs_are ∙ sym turn.before.hangs_are

  rows_held : {has : ℕ → Type 0} → AllHeld has turn.rows → AllHeld has (in_order (bare turn.before.cut))
  rows_held {has} all = subst (λ (l : List ℕ). AllHeld has l) (sym turn.before.rows_are) all

  pub turned_at_anchor : {has : ℕ → Type 0} {planned : List ℕ} {trees t : ℕ} → has t → AllHeld has turn.rows
      → (v t).left ≡ old_link → (v' t).left ≡ new_link → times trees planned ≡ 0 → PlansOnly (t ∷ trees ∷ turn.rows) planned
      → PlanLays has planned trees t from_anchor v v' turn.before.cut turn.after.cut [] []
      × (pairs_in v' (bare turn.after.cut) ≡ pairs_in v (bare turn.before.cut))
  turned_at_anchor {has} {planned} {trees} {t} held all is is' unplanned only =
      let part : HoldsPart has t from_anchor v turn.before.cut = record {
        top_held = held;
        shows = subst (λ (l : ℕ). Shows v l turn.before.cut) (sym is) old_shows;
        rows = rows_held all;
      } in
      same_order part (subst (λ (l : ℕ). Shows v' l turn.after.cut) (sym is') new_shows) turned_rows turned_hangs tt unplanned
      (λ r none. only r (let e = ap (times r) turn.before.rows_are in omega arith))

  pub turned_at_row : {has : ℕ → Type 0} {planned : List ℕ} {trees t : ℕ} (s : Slot) (g : Gap) → has (row_with s) → AllHeld has turn.rows
      → link_in v s ≡ old_link → link_in v' s ≡ new_link → pair_of v (row_with s) ≡ pair_of v' (row_with s) → far_link v s ≡ far_link v' s
      → TopStays has planned t (from_row (row_with s) g) v v' → times trees planned ≡ 0
      → PlansOnly (t ∷ trees ∷ row_with s ∷ turn.rows) planned
      → PlanLays has planned trees t (from_row (row_with s) g) v v' (around v s turn.before.cut) (around v' s turn.after.cut) [] []
      × (pairs_in v' (bare (around v' s turn.after.cut)) ≡ pairs_in v (bare (around v s turn.before.cut)))
  turned_at_row {has} {planned} {trees} {t} s g held all is is' pair far stays unplanned only =
      let part : HoldsPart has t (from_row (row_with s) g) v (around v s turn.before.cut) =
      side_held s g turn.before.cut held (rows_held all) (subst (λ (l : ℕ). Shows v l turn.before.cut) (sym is) old_shows) in
      let shows : Shows v' (row_with s + 1) (around v' s turn.after.cut) =
      shows_around v' s turn.after.cut (subst (λ (l : ℕ). Shows v' l turn.after.cut) (sym is') new_shows) in
      let entry : part_row v' (row_with s) ≡ part_row v (row_with s) =
      ap (λ (p : Pair). record { row = row_with s; owner = p.owner; range = p.range }) (sym pair) in
      let rows : rows_of v' (around v' s turn.after.cut) ≡ rows_of v (around v s turn.before.cut) =
      (adds_row v' s turn.after.cut).rows
      ∙ (ap₂ (λ (r : PartRow) (rs : List PartRow). next_to s r rs) entry turned_rows ∙ sym (adds_row v s turn.before.cut).rows) in
      let hangs : hangs_of (around v' s turn.after.cut) ≡ hangs_of (around v s turn.before.cut) =
      (adds_row v' s turn.after.cut).hangs
      ∙ (ap₂ (λ (l : ℕ) (ls : List ℕ). next_to s l ls) (sym far) turned_hangs ∙ sym (adds_row v s turn.before.cut).hangs) in
      same_order part shows rows hangs stays unplanned
      (λ r none. only r
      (let e = ap (times r) turn.before.rows_are in
      let n = times-around v s turn.before.cut r in
      omega arith))
