-- The worked free that is the first of a release, below a row, with the anchor held beside it.
use Rattle.std.proofs.Common.{◌≡◌, inl, inr, ℕ, ◌<◌, List, [], ◌∷◌, Bool, true, nat_lt, refl, subst, arith, lit<}
use Rattle.std.proofs.lemmas.Bool.Decides.{nat_tests}
use Rattle.std.specs.Prelude.{codes, Some, None}
use Rattle.lt_ranges.specs.declared.key.Key.TheVariants.{Bytes}
use Rattle.lt_ranges.specs.Key.{key_le}
use Rattle.lt_seq.specs.declared.event.Deed.{Deed}
use Rattle.lt_seq.specs.declared.event.Deed.TheVariants.{Free}
use Rattle.lt_seq.specs.declared.event.Mode.TheVariants.{Tree as TreeMode}
use Rattle.lt_seq.specs.Sound.{AllSound}
use Rattle.lt_seq.specs.History.{after, IsLegal}
use Rattle.lt_seq.proofs.LawfulLaws.{sound_history}
use Rattle.lt_forest.specs.Counts.{times}
use Rattle.lt_forest.specs.Trees.{Node}
use Rattle.lt_forest.specs.Cuts.{Cut, end, held}
use Rattle.lt_forest.specs.Plans.{Top, from_row, IsClosedFor, ShowsDeed}
use Rattle.lt_forest.specs.Views.{IsIn, IsView, PlansModes, from_pool, PlanLays}
use Rattle.lt_ranges.specs.Short.{at}
use Rattle.lt_forest.specs.WorkedTrees.{holds, leads, four, four_forest, with_images, one_buffer, modes_at, low_state, low_events, WorkedFirstFree}
use Rattle.lt_forest.proofs.WorkedTrees.{images_only, only_zero, four_at}
use Rattle.lt_forest.proofs.PublicLaws.{plan_serves_deed}

low_legal : IsLegal one_buffer low_events
unfolding key_le
low_legal = (
  record { pass = lit< tt; tree = lit< tt; question = refl; replies = refl },
  (
    record { pass = lit< tt; tree = lit< tt; question = refl; replies = refl },
    (
      record { pass = lit< tt; tree = lit< tt; question = refl; replies = refl },
      (record { pass = lit< tt; tree = lit< tt; question = refl; replies = refl }, tt),
    ),
  ),
)

low_after : after one_buffer low_events ≡ low_state
unfolding key_le
low_after = refl

-- the pass holds the anchor, the pool's, and rows 5 and 6
abbrev holds_four : ℕ → Bool
holds_four r = nat_lt 0 (times r (0 ∷ 1 ∷ 5 ∷ 6 ∷ []))

is_held : (n : ℕ) → 0 < n → nat_lt 0 n ≡ true
is_held n lt = grind (arith, nat_tests)

abbrev images : List (ℕ × Node)
images = (0, leads 5) ∷ (6, holds 1 (at (codes "t")) 0 0) ∷ (5, leads 4) ∷ (1, leads 6) ∷ []

abbrev planned : List ℕ
planned = 0 ∷ 6 ∷ 5 ∷ 1 ∷ []

abbrev seen_row : Top
seen_row = from_row 6 (Some (Bytes (codes "m")), None)

abbrev old_part : Cut
old_part = held (end 0) 6 (held (end 0) 5 (end 0))

abbrev new_part : Cut
new_part = held (end 0) 6 (end 0)

view : IsView (IsIn holds_four) planned four (with_images four images) four (with_images four images)
view = record { before = λ r h. refl; after = λ r h. refl; stays = images_only four images }

plan : PlanLays (IsIn holds_four) planned 1 0 seen_row four (with_images four images) old_part new_part [] (5 ∷ [])
plan = record {
  part = record {
    top_held = tt;
    shows = (refl, refl, (refl, refl, refl));
    rows = λ r some. is_held (times r (0 ∷ 1 ∷ 5 ∷ 6 ∷ [])) (omega arith);
  };
  shows = (refl, refl, refl);
  new_held = λ r some. is_held (times r (0 ∷ 1 ∷ 5 ∷ 6 ∷ [])) (omega arith);
  loose = tt;
  pool = from_pool refl (λ r some. absurd (omega (arith, some))) (λ r some. is_held (times r (0 ∷ 1 ∷ 5 ∷ 6 ∷ [])) (omega arith))
      (record { rest = 4; takes = refl; gives = (refl, refl) });
  rows = record { each = λ q. omega arith; all = refl };
  link = inr (refl, refl);
  others = λ r none. omega arith;
}

modes : PlansModes 1 planned (modes_at 0) (modes_at 1)
modes = only_zero (λ t. times t planned ≡ 0 → modes_at 0 t ≡ modes_at 1 t) (λ none. absurd (omega (arith, none)))

pub first_free : WorkedFirstFree
unfolding key_le
first_free =
    let deed : Deed = Free 0 (at (codes "x")) true 1 in
    let closed : IsClosedFor (at (codes "x")) seen_row four old_part = record { in_gap = (refl, tt); aside = tt } in
    let shows : ShowsDeed one_buffer 2 deed four (with_images four images) old_part new_part (TreeMode 0) (TreeMode 1) = record {
      was_tree = tt;
      is_tree = tt;
      pairs = refl;
      mode = refl;
      replies = refl;
      question = refl;
    } in
    let served = plan_serves_deed holds_four planned four (with_images four images) 1 9 four (with_images four images) (modes_at 0)
    (modes_at 1) low_state four_forest one_buffer 2 0 deed seen_row old_part new_part [] (5 ∷ []) (four_at 0)
    (subst AllSound low_after (sound_history one_buffer low_events low_legal)) (lit< tt) (inr (inr (inl (refl, (refl, tt)))))
    (λ e. absurd (omega (arith, e))) view plan closed (inl shows) modes in
    record { legal = low_legal; leads_there = low_after; relaid = served.0; replies = served.1 }
