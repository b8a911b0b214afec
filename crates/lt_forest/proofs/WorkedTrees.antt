-- The worked plans.
use Rattle.std.proofs.Common.{◌≡◌, inl, inr, ℕ, zero, suc, ◌<◌, List, [], ◌∷◌, ◌++◌, map, Bool, true, refl, sym, ap, subst, arith, lit<, ne_eqb, eq-eqb}
use Rattle.std.specs.Prelude.{codes, nat_eq, Some, None, if◌then◌else◌}
use mathlib.Core.Logic.{dite}
use native.Mathlib.Decide.{ℕ_discrete}
use Rattle.lt_ranges.specs.declared.key.Key.TheVariants.{Bytes}
use Rattle.lt_ranges.specs.Key.{key_le}
use Rattle.lt_ranges.specs.Interval.{Interval, whole}
use Rattle.lt_seq.specs.declared.event.Pair.{Pair}
use Rattle.lt_seq.specs.declared.event.Reply.TheVariants.{Granted}
use Rattle.lt_seq.specs.declared.event.Event.{Event}
use Rattle.lt_seq.specs.declared.event.Deed.{Deed}
use Rattle.lt_seq.specs.declared.event.Deed.TheVariants.{Ask, Free, Who, Join}
use Rattle.lt_seq.specs.declared.event.Mode.TheVariants.{Tree as TreeMode}
use Rattle.lt_seq.specs.Sound.{AllSound}
use Rattle.lt_seq.specs.History.{after, IsLegal}
use Rattle.lt_seq.specs.Table.{tree_at}
use Rattle.lt_seq.proofs.LawfulLaws.{sound_history}
use Rattle.lt_forest.specs.Counts.{one_if, times}
use Rattle.lt_forest.specs.Trees.{Node, Nodes}
use Rattle.lt_forest.specs.Cuts.{Cut, end, held, Shows}
use Rattle.lt_forest.specs.Widenings.{Widens}
use Rattle.lt_forest.specs.Forest.{search_tree, Represents, stands, IsForest, ChangesOnly}
use Rattle.lt_forest.specs.Plans.{Top, from_anchor, from_row, IsInGap, IsPart, IsClosedFor, Lays, ShowsDeed}
use Rattle.lt_ranges.specs.Short.{from_to, at}
use Rattle.lt_forest.specs.WorkedTrees.{pair, holds, leads, one_tree, four, four_tree, four_forest, tree_modes, four_state, four_events, with_images, insertion_images, five, five_state, modes_at, table_at, WorkedStart, WorkedInsertion, WorkedMerge, WorkedRemoval, WorkedJoin, WorkedQuestion, WorkedRotation, WorkedReplacement}
use Rattle.lt_forest.proofs.VisitLaws.{visited_closed}
use Rattle.lt_forest.proofs.WidenLaws.{widens}
use Rattle.lt_forest.proofs.RowsAndHangs.{order_ends, order_rows, order_pairs}
use Rattle.lt_forest.proofs.PlanLaws.{replaced}
use Rattle.lt_forest.proofs.EventLaws.{event_relaid, deed_replies, layout_relaid}

-- images change only their rows

abbrev rows_of : List (ℕ × Node) → List ℕ
rows_of is = map (λ i. i.0) is

pub images_only : (c : Nodes) (is : List (ℕ × Node)) → ChangesOnly (rows_of is) c (with_images c is)
images_only c [] r none = refl
images_only c (i ∷ is) r none = dite (ℕ_discrete i.0 r)
    (λ e. let o : one_if (nat_eq i.0 r) ≡ 1 = ap one_if (eq-eqb i.0 r e) in absurd (omega arith))
    (λ ne.
    let o : one_if (nat_eq i.0 r) ≡ 0 = ap one_if (ne_eqb i.0 r ne) in
    let rest = images_only c is r (omega arith) in
    subst (λ (b : Bool). c r ≡ (if b then i.1 else with_images c is r)) (sym (ne_eqb i.0 r ne)) rest)

-- the forest of four rows

abbrev AllFurther : List ℕ → Type 0
AllFurther [] = Unit {0}
AllFurther (x ∷ xs) = (1 < x) × (x < 9) × AllFurther xs

among : (r : ℕ) (xs : List ℕ) → AllFurther xs → 0 < times r xs → (1 < r) × (r < 9)
among r [] all some = absurd (omega (arith, some))
among r (x ∷ xs) all some = dite (ℕ_discrete x r)
    (λ e. subst (λ (n : ℕ). (1 < n) × (n < 9)) e (all.0, all.1))
    (λ ne. let o : one_if (nat_eq x r) ≡ 0 = ap one_if (ne_eqb x r ne) in among r xs all.2 (omega arith))

four_further : AllFurther (2 ∷ 4 ∷ 6 ∷ 5 ∷ 3 ∷ 7 ∷ 8 ∷ [])
four_further =
    let vacant : AllFurther (3 ∷ 7 ∷ 8 ∷ []) = (lit< tt, lit< tt, (lit< tt, lit< tt, (lit< tt, lit< tt, tt))) in
    (lit< tt, lit< tt, (lit< tt, lit< tt, (lit< tt, lit< tt, (lit< tt, lit< tt, vacant))))

four_once : (r : ℕ) → 1 < r → r < 9 → stands 1 four_forest r ≡ 1
four_once zero lo hi = absurd (omega arith)
four_once (suc zero) lo hi = absurd (omega arith)
four_once (suc (suc zero)) lo hi = refl
four_once (suc (suc (suc zero))) lo hi = refl
four_once (suc (suc (suc (suc zero)))) lo hi = refl
four_once (suc (suc (suc (suc (suc zero))))) lo hi = refl
four_once (suc (suc (suc (suc (suc (suc zero)))))) lo hi = refl
four_once (suc (suc (suc (suc (suc (suc (suc zero))))))) lo hi = refl
four_once (suc (suc (suc (suc (suc (suc (suc (suc zero)))))))) lo hi = refl
four_once (suc (suc (suc (suc (suc (suc (suc (suc (suc r))))))))) lo hi = absurd (omega arith)

pub only_zero : (P : ℕ → Type 0) → P 0 → (t : ℕ) → t < 1 → P t
only_zero P at zero lt = at
only_zero P at (suc t) lt = absurd (omega arith)

abbrev pub four_pairs : List Pair
four_pairs = pair 1 (at (codes "f")) ∷ pair 1 (at (codes "m")) ∷ pair 1 (at (codes "t")) ∷ pair 2 (at (codes "x")) ∷ []

pub four_at : (score : ℕ) → IsForest 1 9 four (modes_at score) (table_at score four_pairs) four_forest
four_at score = record {
  size = refl;
  grown = only_zero (λ t. Represents four (four t).left (search_tree four_tree) (tree_at (table_at score four_pairs) t).pairs (TreeMode score))
      ((refl, (refl, refl, refl), (refl, refl, (refl, refl, refl))), refl);
  modes = only_zero (λ t. TreeMode score ≡ (tree_at (table_at score four_pairs) t).mode) refl;
  vacant = (refl, (refl, (refl, refl)));
  once = four_once;
  further = λ r some. among r (2 ∷ 4 ∷ 6 ∷ 5 ∷ 3 ∷ 7 ∷ 8 ∷ []) four_further (omega arith);
  many = refl;
}

four_is_forest : IsForest 1 9 four tree_modes four_state four_forest
four_is_forest = four_at 100

-- the history that leads there is legal, so its table is sound

four_legal : IsLegal one_tree four_events
unfolding key_le
four_legal = (
  record { pass = lit< tt; tree = lit< tt; question = refl; replies = refl },
  (
    record { pass = lit< tt; tree = lit< tt; question = refl; replies = refl },
    (
      record { pass = lit< tt; tree = lit< tt; question = refl; replies = refl },
      (record { pass = lit< tt; tree = lit< tt; question = refl; replies = refl }, tt),
    ),
  ),
)

four_after : after one_tree four_events ≡ four_state
unfolding key_le
four_after = refl

pub start : WorkedStart
start = record { legal = four_legal; leads_there = four_after; forest = four_is_forest }

four_sound : AllSound four_state
four_sound = subst AllSound four_after (sound_history one_tree four_events four_legal)

-- a part of it that hangs from the anchor
four_part : (cut : Cut) → Shows four 5 cut → IsPart 1 9 four tree_modes four_state four_forest 0 from_anchor cut
four_part cut shows = record { forest = four_is_forest; sound = four_sound; tree = lit< tt; tree_mode = tt; seen = tt; shows = shows }

-- row 6 with its gap
six_part : IsPart 1 9 four tree_modes four_state four_forest 0 (from_row 6 (Some (Bytes (codes "m")), None)) (held (end 0) 6 (end 6))
unfolding key_le
six_part = record {
  forest = four_is_forest;
  sound = four_sound;
  tree = lit< tt;
  tree_mode = tt;
  seen = inr (inr (inl (refl, (refl, tt))));
  shows = (refl, refl, refl);
}

-- one plan after another

pub insertion : WorkedInsertion
unfolding key_le
insertion =
    let cut : Cut = held (end 0) 6 (end 6) in
    let new : Cut = held (held (end 0) 3 (end 0)) 6 (end 6) in
    let images : List (ℕ × Node) = insertion_images in
    let top : Top = from_row 6 (Some (Bytes (codes "m")), None) in
    let deed : Deed = Ask 0 (at (codes "p")) Granted in
    let lays : Lays 1 0 top four (with_images four images) cut new (3 ∷ []) [] = record {
      shows = (refl, (refl, refl, refl), refl);
      loose = (refl, refl, tt, tt);
      pool = record { rest = 8; takes = (refl, refl); gives = refl };
      rows = record { each = λ q. omega arith; all = refl };
      link = refl;
      others = λ r none. images_only four images r (omega arith);
    } in
    let closed : IsClosedFor (at (codes "p")) top four cut = record { in_gap = (refl, tt); aside = (inr refl, tt) } in
    let shows : ShowsDeed one_tree 2 deed four (with_images four images) cut new (TreeMode 100) (TreeMode 100) = record {
      was_tree = tt;
      is_tree = tt;
      pairs = refl;
      mode = refl;
      replies = refl;
      question = refl;
    } in
    record {
      relaid = event_relaid six_part lays closed shows (λ s lt ne. refl);
      replies = deed_replies six_part lays closed shows (λ s lt ne. refl);
    }

pub merge : WorkedMerge
unfolding key_le
merge =
    let cut : Cut = held (held (end 0) 2 (end 0)) 4 (held (end 0) 6 (end 6)) in
    let new : Cut = held (end 0) 4 (end 6) in
    let range : Interval = from_to (codes "f") (codes "t") in
    let images : List (ℕ × Node) = (4, holds 1 range 0 6) ∷ (2, leads 7) ∷ (6, leads 4) ∷ (1, leads 3) ∷ [] in
    let deed : Deed = Ask 0 range Granted in
    let part : IsPart 1 9 four tree_modes four_state four_forest 0 from_anchor cut =
    four_part cut (refl, (refl, refl, refl), (refl, refl, refl)) in
    let lays : Lays 1 0 from_anchor four (with_images four images) cut new [] (2 ∷ 6 ∷ []) = record {
      shows = (refl, refl, refl);
      loose = (refl, refl, tt, tt);
      pool = record { rest = 4; takes = refl; gives = (refl, (refl, refl)) };
      rows = record { each = λ q. omega arith; all = refl };
      link = tt;
      others = λ r none. images_only four images r (omega arith);
    } in
    let closed : IsClosedFor range from_anchor four cut = record { in_gap = tt; aside = (inr refl, tt) } in
    let shows : ShowsDeed one_tree 1 deed four (with_images four images) cut new (TreeMode 100) (TreeMode 100) = record {
      was_tree = tt;
      is_tree = tt;
      pairs = refl;
      mode = refl;
      replies = refl;
      question = refl;
    } in
    record {
      relaid = event_relaid part lays closed shows (λ s lt ne. refl);
      replies = deed_replies part lays closed shows (λ s lt ne. refl);
    }

-- the table after the insertion

five_events : List Event
five_events = four_events ++ record { pass = 0; txn = 2; deed = Ask 0 (at (codes "p")) Granted } ∷ []

five_sound : AllSound five_state
unfolding key_le five_events
five_sound =
    let legal : IsLegal one_tree five_events = (
      record { pass = lit< tt; tree = lit< tt; question = refl; replies = refl },
      (
        record { pass = lit< tt; tree = lit< tt; question = refl; replies = refl },
        (
          record { pass = lit< tt; tree = lit< tt; question = refl; replies = refl },
          (
            record { pass = lit< tt; tree = lit< tt; question = refl; replies = refl },
            (record { pass = lit< tt; tree = lit< tt; question = refl; replies = refl }, tt),
          ),
        ),
      ),
    ) in
    let there : after one_tree five_events ≡ five_state = refl in
    subst AllSound there (sound_history one_tree five_events legal)

pub removal : WorkedRemoval
unfolding key_le
removal =
    let start = insertion.relaid.becomes in
    let narrow : Cut = held (end 3) 4 (end 7) in
    let once : Widens five 5 narrow 6 (3 ∷ []) [] = widens five 5 narrow 6 (3 ∷ []) [] (refl, refl, refl) refl in
    let cut : Cut = held (end 3) 4 (held (held (end 0) 3 (end 0)) 6 (end 6)) in
    let new : Cut = held (held (end 3) 3 (end 0)) 6 (end 6) in
    let images : List (ℕ × Node) = (0, leads 7) ∷ (3, holds 2 (at (codes "p")) 3 0) ∷ (4, leads 8) ∷ (1, leads 5) ∷ [] in
    let deed : Deed = Free 0 (at (codes "m")) true 1 in
    let part : IsPart 1 9 five tree_modes five_state start.next 0 from_anchor cut = record {
      forest = start.forest;
      sound = five_sound;
      tree = lit< tt;
      tree_mode = tt;
      seen = tt;
      shows = (refl, refl, (refl, (refl, refl, refl), refl));
    } in
    let lays : Lays 1 0 from_anchor five (with_images five images) cut new [] (4 ∷ []) = record {
      shows = (refl, (refl, refl, refl), refl);
      loose = (refl, tt, refl, (refl, refl, tt, tt));
      pool = record { rest = 8; takes = refl; gives = (refl, refl) };
      rows = record { each = λ q. omega arith; all = refl };
      link = tt;
      others = λ r none. images_only five images r (omega arith);
    } in
    let closed : IsClosedFor (at (codes "m")) from_anchor five cut = record { in_gap = tt; aside = (inl refl, (inr refl, tt)) } in
    let shows : ShowsDeed one_tree 1 deed five (with_images five images) cut new (TreeMode 100) (TreeMode 100) = record {
      was_tree = tt;
      is_tree = tt;
      pairs = refl;
      mode = refl;
      replies = refl;
      question = refl;
    } in
    record {
      forest = start.next;
      is = start.forest;
      once = once;
      twice = widens five 5 once.wider 3 (3 ∷ []) (6 ∷ []) once.shows once.hangs;
      relaid = event_relaid part lays closed shows (λ s lt ne. refl);
      replies = deed_replies part lays closed shows (λ s lt ne. refl);
    }

pub join : WorkedJoin
unfolding key_le
join =
    let cut : Cut = held (held (end 0) 2 (end 0)) 4 (held (end 0) 6 (held (end 0) 5 (end 0))) in
    let new : Cut = held (end 0) 4 (held (end 0) 5 (end 0)) in
    let range : Interval = from_to (codes "f") (codes "t") in
    let images : List (ℕ × Node) = (4, holds 1 range 0 6) ∷ (2, leads 7) ∷ (6, leads 4) ∷ (1, leads 3) ∷ [] in
    let deed : Deed = Join 0 4 2 in
    let part : IsPart 1 9 four tree_modes four_state four_forest 0 from_anchor cut =
    four_part cut (refl, (refl, refl, refl), (refl, refl, (refl, refl, refl))) in
    let lays : Lays 1 0 from_anchor four (with_images four images) cut new [] (2 ∷ 6 ∷ []) = record {
      shows = (refl, refl, (refl, refl, refl));
      loose = tt;
      pool = record { rest = 4; takes = refl; gives = (refl, (refl, refl)) };
      rows = record { each = λ q. omega arith; all = refl };
      link = tt;
      others = λ r none. images_only four images r (omega arith);
    } in
    let closed : IsClosedFor whole from_anchor four cut = record { in_gap = tt; aside = tt } in
    let shows : ShowsDeed one_tree 2 deed four (with_images four images) cut new (TreeMode 100) (TreeMode 100) = record {
      was_tree = tt;
      is_tree = tt;
      pairs = refl;
      mode = refl;
      replies = refl;
      question = tt;
    } in
    record {
      relaid = event_relaid part lays closed shows (λ s lt ne. refl);
      replies = deed_replies part lays closed shows (λ s lt ne. refl);
    }

pub question : WorkedQuestion
unfolding key_le
question =
    let cut : Cut = held (held (end 0) 2 (end 0)) 4 (end 7) in
    let range : Interval = from_to (codes "a") (codes "g") in
    let deed : Deed = Who 0 range 2 (1 ∷ []) in
    let part : IsPart 1 9 four tree_modes four_state four_forest 0 from_anchor cut = four_part cut (refl, (refl, refl, refl), refl) in
    let lays : Lays 1 0 from_anchor four four cut cut [] [] = record {
      shows = (refl, (refl, refl, refl), refl);
      loose = (refl, refl, tt, tt);
      pool = record { rest = 4; takes = refl; gives = refl };
      rows = record { each = λ q. refl; all = refl };
      link = tt;
      others = λ r none. refl;
    } in
    let closed : IsClosedFor range from_anchor four cut = visited_closed part range tt (λ goes. (λ low. refl, λ high. refl), λ goes. cc) in
    let shows : ShowsDeed one_tree 2 deed four four cut cut (TreeMode 100) (TreeMode 100) = record {
      was_tree = tt;
      is_tree = tt;
      pairs = refl;
      mode = refl;
      replies = refl;
      question = refl;
    } in
    record {
      relaid = event_relaid part lays closed shows (λ s lt ne. refl);
      replies = deed_replies part lays closed shows (λ s lt ne. refl);
    }

pub rotation : WorkedRotation
unfolding key_le
rotation =
    let cut : Cut = held (held (end 0) 2 (end 0)) 4 (end 7) in
    let new : Cut = held (end 0) 2 (held (end 0) 4 (end 7)) in
    let images : List (ℕ × Node) = (0, leads 3) ∷ (2, holds 1 (at (codes "f")) 0 5) ∷ (4, holds 1 (at (codes "m")) 0 7) ∷ [] in
    let lays : Lays 1 0 from_anchor four (with_images four images) cut new [] [] = record {
      shows = (refl, refl, (refl, refl, refl));
      loose = order_ends four (with_images four images) cut new refl refl;
      pool = record { rest = 4; takes = refl; gives = refl };
      rows = order_rows four (with_images four images) cut new refl;
      link = tt;
      others = λ r none. images_only four images r (omega arith);
    } in
    layout_relaid (four_part cut (refl, (refl, refl, refl), refl)) lays (order_pairs four (with_images four images) cut new refl) (λ s lt. refl)

pub replacement : WorkedReplacement
unfolding key_le
replacement =
    let cut : Cut = held (end 0) 6 (end 6) in
    let images : List (ℕ × Node) = (6, holds 3 (from_to (codes "p") (codes "q")) 0 6) ∷ [] in
    let top : Top = from_row 6 (Some (Bytes (codes "m")), None) in
    let lays : Lays 1 0 top four (with_images four images) cut cut [] [] = record {
      shows = (refl, refl, refl);
      loose = (refl, refl, tt, tt);
      pool = record { rest = 4; takes = refl; gives = refl };
      rows = record { each = λ q. refl; all = refl };
      link = refl;
      others = λ r none. images_only four images r (omega arith);
    } in
    replaced six_part lays (refl, tt, tt)
    (λ p h. elim h [ inl e ↦ subst (λ (q : Pair). IsInGap top q.range) (sym e) (refl, tt) | inr k ↦ absurd k ])
