-- What a search knows of its rows after a settle whose images are stored.
use Rattle.std.proofs.Common.{◌≡◌, ℕ, ◌≤◌, List, [], ◌∷◌, ◌++◌, length, get_or, refl, sym, ap, ◌∙◌, subst, arith, append-nil, eq-eqb}
use Rattle.std.specs.Prelude.{Option, Some, None, nat_eq, drop}
use Rattle.lt_seq.specs.declared.event.Event.{Event}
use Rattle.lt_forest.specs.Counts.{one_if, times}
use Rattle.lt_rows.specs.declared.view.View.{View}
use Rattle.lt_rows.specs.declared.view.Row.{Row}
use Rattle.lt_rows.specs.declared.view.SeenGap.{SeenGap}
use Rattle.lt_rows.specs.declared.image.RowImage.{RowImage}
use Rattle.lt_rows.specs.Views.{Holds, IsHeld, row_at, has, is_some, words_of, images, image_of, gap_of, AllHeld}
use Rattle.lt_rows.specs.Views.{planned_contents, planned_rows, changed}
use Rattle.lt_rows.specs.Gaps.{new_gaps}
use Rattle.lt_rows.specs.Rule.{Stood}
use Rattle.lt_rows.specs.Woods.{woods}
use Rattle.lt_rows.specs.Handles.{IsGathering, Settles}
use Rattle.lt_rows.specs.Teaching.{Teaches}
use Rattle.lt_rows.proofs.Frames.{changed_at, Some-none}
use Rattle.lt_rows.proofs.Planned.{held_row, planned_else}
use Rattle.lt_rows.proofs.Wide.{still_wide}
use Rattle.lt_rows.proofs.StepLaws.{settled_row_has_image, unplanned_row_keeps_gap}
use Rattle.lt_tree.specs.Writings.{words_in, Writes}
use Rattle.lt_tree.specs.Settlings.{HaveWords, SettlesRows}
use Rattle.lt_tree.proofs.SeenLaws.{seen_held, seen_on, seen_settled}
use Rattle.lt_tree.proofs.WritingLaws.{IsPlanned, settle_plans, gathers_then, held_same, all_same}

-- rows that have no other image and no other gap than the view's

abbrev pub WithinRow : View → ℕ → Row → Type 0
WithinRow v r row = (y : Row) × Holds v r y × (row.image ≡ y.image) × ((g : SeenGap) → row.gap ≡ Some g → y.gap ≡ Some g)

abbrev pub Within : View → List (Option Row) → Type 0
Within v xs = (r : ℕ) (row : Row) → get_or xs r None ≡ Some row → WithinRow v r row

pub within_stood : (v : View) (xs : List (Option Row)) (log : List Event) → Within v xs → Stood (woods v.plan) v log
    → Stood (woods v.plan) (record v { held = xs }) log
within_stood v xs log within st = record {
  forest = st.forest;
  contents = st.contents;
  shape = st.shape;
  agrees = λ q row h. (let y = within q row h in st.agrees q y.0 y.1 ∙ sym y.2);
  gaps = λ q row g h is. (let y = within q row h in st.gaps q y.0 g y.1 (y.3 g is));
  licence = st.licence;
}

-- the images of a plan, each at its row

abbrev Sets : (ℕ → List ℕ) → List RowImage → Type 0
Sets f [] = Unit {0}
Sets f (p ∷ ps) = (f p.row ≡ p.words) × Sets f ps

abbrev IsOnce : List RowImage → Type 0
IsOnce ps = (q : ℕ) → times q (planned_rows ps) ≤ 1

plan_sets : (c : ℕ → List ℕ) (ps : List RowImage) → IsOnce ps → Sets (planned_contents c ps) ps
plan_sets c [] once = tt
plan_sets c (p ∷ ps) once =
    let here : one_if (nat_eq p.row p.row) ≡ 1 = ap one_if (eq-eqb p.row p.row refl) in
    let o = once p.row in (
      planned_else (changed c p.row p.words) ps p.row (omega arith) ∙ changed_at c p.row p.words p.row refl,
      plan_sets (changed c p.row p.words) ps (λ q. (let more = once q in omega arith)),
    )

sets_same : (held : List (Option Row)) (f g : ℕ → List ℕ) (ps : List RowImage) → AllHeld held ps
    → ((q : ℕ) → ((row : Row) × (get_or held q None ≡ Some row)) → g q ≡ f q) → Sets f ps → Sets g ps
sets_same held f g [] all same s = tt
sets_same held f g (p ∷ ps) all same s = (same p.row all.0 ∙ s.0, sets_same held f g ps all.1 same s.1)

have_words : (w : View) (ps : List RowImage) → AllHeld w.held ps → Sets (words_in w) ps → Sets (images w) ps → HaveWords w ps
have_words w [] all words image = tt
have_words w (p ∷ ps) all words image = ((ap is_some all.0.1, words.0, image.0), have_words w ps all.1 words.1 image.1)

-- entries that have the same words, image and gap
same_entry : (x y : Option Row) → is_some x ≡ is_some y → words_of x ≡ words_of y → image_of x ≡ image_of y → gap_of x ≡ gap_of y → x ≡ y
same_entry None None has words image gap = refl
same_entry None (Some b) has words image gap = cc
same_entry (Some a) None has words image gap = cc
same_entry (Some a) (Some b) has words image gap = λ j. Some record { words = words j; image = image j; gap = gap j }

module _ (v u w : View) (plan : List RowImage) (place : ℕ) (s : Settles v u plan place)
    (stood : Stood (woods u.plan) u u.front) (wr : Writes u w plan) where
  abbrev front : List Event
  front = v.front ++ s.0

  counts : IsPlanned v u plan
  counts = settle_plans v u plan front s.2

  same_rows : (q : ℕ) → has w q ≡ has v q
  same_rows q = wr.same q ∙ counts.same q

  within : Within u w.held
  within q row h =
      let y = held_same w u (λ n. sym (wr.same n)) q (row, h) in (
        y.0,
        y.1,
        ap image_of (sym h) ∙ (wr.images_stay q ∙ ap image_of y.1),
        λ g is. ap gap_of (sym y.1) ∙ (sym (wr.gaps_stay q) ∙ (ap gap_of h ∙ is)),
      )

  teaches : Teaches w
  teaches = subst Teaches (sym wr.only) (u.front, ([], sym (append-nil u.front)), within_stood u w.held u.front within stood)

  -- a row of which no gap is taken anew
  was_none : (q : ℕ) → row_at v q ≡ None → row_at w q ≡ None
  was_none q none = go (row_at w q) refl
    where
      go : (x : Option Row) → row_at w q ≡ x → row_at w q ≡ None
      go None is = is
      go (Some row) is = let h = held_row v q (sym (same_rows q) ∙ ap is_some is) in absurd (Some-none h.0 (sym none ∙ h.1))

  gap_now : (q : ℕ) → IsHeld v q → gap_of (row_at w q) ≡ get_or (new_gaps v plan) q None
  gap_now q h = wr.gaps_stay q ∙ ap gap_of (ap (λ (x : View). row_at x q) s.2 ∙ settled_row_has_image v plan front q h.0 h.1)

  gap_stays : (q : ℕ) → times q (planned_rows (drop 1 plan)) ≡ 0 → gap_of (row_at w q) ≡ gap_of (row_at v q)
  gap_stays q none = go (row_at v q) refl
    where
      go : (x : Option Row) → row_at v q ≡ x → gap_of (row_at w q) ≡ gap_of (row_at v q)
      go None is = ap gap_of (was_none q is ∙ sym is)
      go (Some row) is = gap_now q (row, is) ∙ (unplanned_row_keeps_gap v plan q row is none ∙ ap gap_of (sym is))

  fewer : (ps : List RowImage) (q : ℕ) → times q (planned_rows ps) ≡ 0 → times q (planned_rows (drop 1 ps)) ≡ 0
  fewer [] q none = none
  fewer (p ∷ ps) q none = omega arith

  unplanned : (q : ℕ) → times q (planned_rows plan) ≡ 0 → row_at w q ≡ row_at v q
  unplanned q none = go (row_at v q) refl
    where
      go : (x : Option Row) → row_at v q ≡ x → row_at w q ≡ row_at v q
      go None is = was_none q is ∙ sym is
      go (Some row) is =
          let hu = held_same v u counts.same q (row, is) in
          same_entry (row_at w q) (row_at v q) (same_rows q)
          (wr.words q hu ∙ (planned_else (words_in u) plan q none ∙ counts.words_stay q (row, is)))
          (wr.images_stay q ∙ (counts.images_are q (row, is) ∙ planned_else (images v) plan q none))
          (gap_stays q (fewer plan q none))

  pub settles_rows : AllHeld v.held plan → IsGathering v → IsOnce plan → SettlesRows v w plan
  settles_rows all gathers once = record {
    seen = seen_on v u w (seen_settled v u plan place s) (seen_held u w wr.only);
    gathers = gathers_then v u w plan counts wr gathers;
    teaches = teaches;
    same = same_rows;
    long = wr.long ∙ (ap (λ (x : View). length x.held) s.2 ∙ still_wide v plan (new_gaps v plan));
    words = have_words w plan (all_same v w same_rows plan all)
        (sets_same v.held (planned_contents (words_in u) plan) (words_in w) plan all (λ q h. wr.words q (held_same v u counts.same q h))
        (plan_sets (words_in u) plan once))
        (sets_same v.held (planned_contents (images v) plan) (images w) plan all (λ q h. wr.images_stay q ∙ counts.images_are q h)
        (plan_sets (images v) plan once));
    images_are = λ q h. wr.images_stay q ∙ counts.images_are q h;
    others = unplanned;
    gaps = gap_now;
    gaps_stay = gap_stays;
  }

pub still_all : (v u : View) (plan : List RowImage) (place : ℕ) → Settles v u plan place → AllHeld v.held plan → AllHeld u.held plan
still_all v u plan place s all = all_same v u (settle_plans v u plan (v.front ++ s.0) s.2).same plan all
