-- The worked buffer.
use Rattle.std.proofs.Common.{◌≡◌, ℕ, zero, suc, ◌+◌, ◌<◌, ◌≤◌, List, [], ◌∷◌, true, refl, sym, ◌∙◌, arith, lit<}
use Rattle.std.specs.Prelude.{codes}
use Rattle.lt_ranges.specs.Key.{key_le}
use Rattle.lt_ranges.specs.Interval.{whole}
use Rattle.lt_seq.specs.declared.event.Mode.{Mode}
use Rattle.lt_seq.specs.declared.event.Mode.TheVariants.{Tree as TreeMode, Buffer}
use Rattle.lt_seq.specs.declared.event.Reply.TheVariants.{Granted}
use Rattle.lt_seq.specs.declared.event.Deed.{Deed}
use Rattle.lt_seq.specs.declared.event.Deed.TheVariants.{Ask}
use Rattle.lt_forest.specs.Trees.{Node}
use Rattle.lt_forest.specs.Cuts.{Cut, end, held}
use Rattle.lt_forest.specs.Forest.{ChangesOnly, KeepsModes}
use Rattle.lt_forest.specs.Plans.{MovesPool}
use Rattle.lt_forest.specs.Buffers.{Begins, Appends, Ends, Drops}
use Rattle.lt_forest.specs.Openings.{IsOpening}
use Rattle.lt_ranges.specs.Short.{at}
use Rattle.lt_forest.specs.WorkedTrees.{holds, leads, tree_modes}
use Rattle.lt_forest.specs.WorkedBuffer.{with_buffer, modes_of, none, one, two, dropped, ended, WorkedBuffer}
use Rattle.lt_forest.proofs.Openings.{opens}
use Rattle.lt_forest.proofs.BufferLaws as laws
use Rattle.lt_forest.proofs.WorkedTrees.{images_only}

opening : IsOpening 1 5 none
opening = record { room = lit< tt; empty = first; next = on; last = refl }
  where
    first : (t : ℕ) → t < 1 → (none t).left ≡ 0
    first zero lt = refl
    first (suc t) lt = absurd (omega arith)

    on : (r : ℕ) → 1 ≤ r → r + 1 < 5 → (none r).left ≡ r + 2
    on zero lo hi = absurd (omega arith)
    on (suc zero) lo hi = refl
    on (suc (suc zero)) lo hi = refl
    on (suc (suc (suc zero))) lo hi = refl
    on (suc (suc (suc (suc r)))) lo hi = absurd (omega arith)

abbrev OthersTree : (ℕ → Mode) → Type 0
OthersTree mode = (s : ℕ) → mode (suc s) ≡ TreeMode 100

modes_keep : (a b : ℕ → Mode) → OthersTree a → OthersTree b → KeepsModes 1 0 a b
modes_keep a b x y zero lt ne = absurd (ne refl)
modes_keep a b x y (suc s) lt ne = x s ∙ sym (y s)

pub worked_buffer : WorkedBuffer
unfolding key_le
worked_buffer =
    let first_images : List (ℕ × Node) = (0, leads 3) ∷ (1, leads 4) ∷ (2, holds 1 (at (codes "f")) 0 0) ∷ [] in
    let next_images : List (ℕ × Node) = (0, leads 4) ∷ (1, leads 5) ∷ (3, holds 1 (at (codes "m")) 3 0) ∷ [] in
    let drop_images : List (ℕ × Node) = (0, leads 0) ∷ (1, leads 4) ∷ (2, holds 1 (at (codes "f")) 5 0) ∷ [] in
    let m : Node = holds 1 (at (codes "m")) 3 5 in
    let x : Node = holds 2 (at (codes "x")) 0 0 in
    let end_images : List (ℕ × Node) =
    (0, leads 4) ∷ (1, leads 0) ∷ (2, holds 1 (at (codes "f")) 0 0) ∷ (3, m) ∷ (4, x) ∷ [] in
    let new : Cut = held (held (end 0) 2 (end 0)) 3 (held (end 0) 4 (end 0)) in
    let begins : Begins with_buffer 1 0 2 1 (at (codes "f")) none one (TreeMode 100) (Buffer 1 1) = record {
      room = lit< tt;
      was = refl;
      empty = refl;
      now = refl;
      puts = record { first_vacant = refl; pool_link = refl; top = refl; owner = refl; range_is = refl; next = refl };
    } in
    let appends : Appends with_buffer 1 0 3 1 1 (at (codes "m")) one two (Buffer 1 1) (Buffer 1 2) = record {
      room = lit< tt;
      was = refl;
      now = refl;
      puts = record { first_vacant = refl; pool_link = refl; top = refl; owner = refl; range_is = refl; next = refl };
    } in
    let drops : Drops 1 0 1 2 two dropped (Buffer 1 2) (TreeMode 100) (3 ∷ []) 2 = record {
      was = refl;
      now = refl;
      shows = (refl, (refl, refl));
      top = refl;
      pool_link = refl;
      joint = refl;
    } in
    let deed : Deed = Ask 0 (at (codes "x")) Granted in
    let ends : Ends with_buffer 2 1 2 deed 0 two ended (Buffer 1 2) (TreeMode 0) (3 ∷ 2 ∷ []) new (4 ∷ []) [] = record {
      was = refl;
      is_tree = tt;
      shows = (refl, (refl, refl));
      shows_new = (refl, (refl, refl, refl), (refl, refl, refl));
      no_hangs = refl;
      each_row = λ q. omega arith;
      all_rows = refl;
      pairs = refl;
      mode = refl;
      replies = refl;
    } in
    let pool : MovesPool 1 two ended (4 ∷ []) [] = record { rest = 0; takes = (refl, refl); gives = refl } in
    let b = laws.begun (opens opening) (lit< tt) begins (λ r none_there. images_only none first_images r (omega arith))
    (modes_keep tree_modes (modes_of (Buffer 1 1)) (λ s. refl) (λ s. refl)) in
    let g = laws.appended b.forest (lit< tt) appends (λ r none_there. images_only one next_images r (omega arith))
    (modes_keep (modes_of (Buffer 1 1)) (modes_of (Buffer 1 2)) (λ s. refl) (λ s. refl)) in
    let to_none = modes_keep (modes_of (Buffer 1 2)) (modes_of (TreeMode 100)) (λ s. refl) (λ s. refl) in
    let to_tree = modes_keep (modes_of (Buffer 1 2)) (modes_of (TreeMode 0)) (λ s. refl) (λ s. refl) in
    let drop_only : ChangesOnly (0 ∷ 1 ∷ 2 ∷ []) two dropped = λ r none_there. images_only two drop_images r (omega arith) in
    let end_only : ChangesOnly (0 ∷ 1 ∷ 3 ∷ 2 ∷ 4 ∷ []) two ended = λ r none_there. images_only two end_images r (omega arith) in
    record {
      opening = opening;
      begins = b;
      grows = g;
      drops = laws.dropped g.forest (lit< tt) drops drop_only to_none with_buffer whole true refl;
      drops_replies = laws.drop_replies g.forest (lit< tt) drops drop_only to_none with_buffer whole true refl;
      ends = laws.ended g.forest (lit< tt) ends pool end_only to_tree;
      ends_replies = laws.end_replies g.forest (lit< tt) ends pool end_only to_tree;
    }
