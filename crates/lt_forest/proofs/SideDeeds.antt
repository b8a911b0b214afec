-- What a part on one side of a held row shows of a deed, the part with the row shows.
use Rattle.std.proofs.Common.{◌≡◌, ℕ, ◌<◌, ◌==◌, ◌&&◌, Bool, true, false, List, [], ◌∷◌, length, nat_lt, if◌then◌else◌, refl, sym, ap, ap₂, ◌∙◌, subst, arith, ne_eqb}
use Rattle.lt_ranges.specs.Interval.{Interval, IsInterval}
use Rattle.lt_seq.specs.declared.event.Pair.{Pair}
use Rattle.lt_seq.specs.declared.event.Mode.TheVariants.{Tree as TreeMode}
use Rattle.lt_seq.specs.declared.event.Reply.{Reply}
use Rattle.lt_seq.specs.declared.event.Reply.TheVariants.{Buffered}
use Rattle.lt_seq.specs.declared.event.Deed.TheVariants.{Ask, Free, Who}
use Rattle.lt_seq.specs.Pairs.{IsLawful, others, freed, count_freed, granted}
use Rattle.lt_seq.specs.Table.{Setting, TreeState, is_buffered, buffered_mode, pairs_by, reply_by, raised}
use Rattle.lt_forest.specs.Trees.{Nodes, pair_of, pairs_in}
use Rattle.lt_forest.specs.Cuts.{Cut, bare}
use Rattle.lt_forest.specs.Plans.{ShowsDeed}
use Rattle.lt_forest.specs.Links.{Slot, left_of, right_of, row_with}
use Rattle.lt_forest.specs.Sides.{around, next_to, IsOnSide}
use Rattle.lt_forest.proofs.SideParts.{adds_row, side_decides}

and_false : (b : Bool) → (b && false) ≡ false
and_false true = refl
and_false false = refl

-- where a part shows a pair no buffer begins
some_pair : (buffer txn score : ℕ) (pairs : List Pair) → 0 < length pairs → is_buffered buffer txn pairs (TreeMode score) ≡ false
some_pair buffer txn score pairs some =
    ap (λ (b : Bool). ((score == 100) && b) && nat_lt 0 buffer) (ne_eqb (length pairs) 0 (λ z. omega arith))
    ∙ ap (λ (b : Bool). b && nat_lt 0 buffer) (and_false (score == 100))

next_some : (s : Slot) (x : Pair) (xs : List Pair) → 0 < length (next_to s x xs)
next_some (left_of h) x [] = omega arith
next_some (left_of h) x (y ∷ xs) = omega arith
next_some (right_of h) x xs = omega arith

module _ (setting : Setting) (txn tree score : ℕ) (range : Interval) (c d : Nodes) (s : Slot) (part new : Cut)
    (lawful : IsLawful (pairs_in c (bare (around c s part)))) (interval : IsInterval range) (on : IsOnSide c s range)
    (same : pair_of c (row_with s) ≡ pair_of d (row_with s)) where
  abbrev whole : List Pair
  whole = pairs_in c (bare (around c s part))

  -- what the new part shows with the row
  new_pairs : (ps : List Pair) → pairs_in d (bare new) ≡ ps → pairs_in d (bare (around d s new)) ≡ next_to s (pair_of c (row_with s)) ps
  new_pairs ps are = (adds_row d s new).pairs ∙ ap₂ (λ (x : Pair) (xs : List Pair). next_to s x xs) (sym same) are

  no_buffer : is_buffered setting.plan.buffer txn (pairs_in c (bare (around c s part))) (TreeMode score) ≡ false
  no_buffer = some_pair setting.plan.buffer txn score whole
      (subst (λ (l : List Pair). 0 < length l) (sym (adds_row c s part).pairs)
      (next_some s (pair_of c (row_with s)) (pairs_in c (bare part))))

  abbrev after_by : Bool → TreeState
  after_by b =
      if b
      then record { pairs = granted txn range whole; mode = buffered_mode txn (TreeMode score) }
      else record { pairs = pairs_by (others txn range whole) txn range whole; mode = TreeMode score }

  abbrev reply_of : Bool → Reply
  reply_of b = if b then Buffered else reply_by (others txn range whole)

  by_owners : (os : List ℕ) → pairs_by os txn range (pairs_in c (bare (around c s part)))
      ≡ next_to s (pair_of c (row_with s)) (pairs_by os txn range (pairs_in c (bare part)))
  by_owners [] = (side_decides txn range c s part lawful interval on).new_granted
  by_owners (o ∷ os) = (adds_row c s part).pairs

  pub side_ask : (os : List ℕ) → others txn range (pairs_in c (bare part)) ≡ os
      → pairs_in d (bare new) ≡ pairs_by os txn range (pairs_in c (bare part))
      → ShowsDeed setting txn (Ask tree range (reply_by os)) c d (around c s part) (around d s new) (TreeMode score) (TreeMode score)
  side_ask os are pairs =
      let owners = (side_decides txn range c s part lawful interval on).same_others ∙ are in
      record {
        was_tree = tt;
        is_tree = tt;
        pairs = new_pairs (pairs_by os txn range (pairs_in c (bare part))) pairs
            ∙ (sym (by_owners os)
            ∙ sym (ap (λ (b : Bool). (after_by b).pairs) no_buffer ∙ ap (λ (xs : List ℕ). pairs_by xs txn range whole) owners));
        mode = sym (ap (λ (b : Bool). (after_by b).mode) no_buffer);
        replies = ap (Ask tree range) (ap reply_of no_buffer ∙ ap reply_by owners);
        question = interval;
      }

  pub side_free : (first : Bool) → pairs_in d (bare new) ≡ freed txn range (pairs_in c (bare part))
      → ShowsDeed setting txn (Free tree range first (count_freed txn range (pairs_in c (bare part)))) c d (around c s part)
      (around d s new) (TreeMode score) (raised first (TreeMode score))
  side_free first pairs =
      let steps = side_decides txn range c s part lawful interval on in
      record {
        was_tree = tt;
        is_tree = tt;
        pairs = new_pairs (freed txn range (pairs_in c (bare part))) pairs ∙ sym steps.new_freed;
        mode = refl;
        replies = ap (Free tree range first) steps.same_count;
        question = interval;
      }

  pub side_who : (named : ℕ) → pairs_in d (bare new) ≡ pairs_in c (bare part)
      → ShowsDeed setting txn (Who tree range named (others named range (pairs_in c (bare part)))) c d (around c s part)
      (around d s new) (TreeMode score) (TreeMode score)
  side_who named pairs = record {
    was_tree = tt;
    is_tree = tt;
    pairs = new_pairs (pairs_in c (bare part)) pairs ∙ sym (adds_row c s part).pairs;
    mode = refl;
    replies = ap (Who tree range named) (side_decides named range c s part lawful interval on).same_others;
    question = interval;
  }
