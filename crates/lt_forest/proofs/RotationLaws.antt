-- A row and one of its children turned.
use Rattle.std.proofs.Common.{◌≡◌, ◌+◌, [], ◌∷◌, refl}
use Rattle.lt_forest.specs.declared.part.Placed.{Placed}
use Rattle.lt_forest.specs.Cuts.{end, held}
use Rattle.lt_forest.specs.Layouts.{Turns}

-- the left child becomes the upper one
pub turns_right : (top low : Placed) → top.left ≡ low.row + 1
    → Turns (low ∷ top ∷ [])
    (record { row = top.row; left = low.right; right = top.right } ∷ record { row = low.row; left = low.left; right = top.row + 1 } ∷ [])
    (top.row + 1) (low.row + 1)
turns_right top low link =
    let upper : Placed = record { row = low.row; left = low.left; right = top.row + 1 } in
    let lower : Placed = record { row = top.row; left = low.right; right = top.right } in
    record {
      rows = low.row ∷ top.row ∷ [];
      hangs = low.left ∷ low.right ∷ top.right ∷ [];
      before = record {
        cut = held (held (end low.left) low.row (end low.right)) top.row (end top.right);
        laid = (low ∷ [], [], top, refl, refl, refl, ([], [], low, refl, refl, link, (refl, refl), (refl, refl)), (refl, refl));
        rows_are = refl;
        hangs_are = refl;
      };
      after = record {
        cut = held (end low.left) low.row (held (end low.right) top.row (end top.right));
        laid = ([], lower ∷ [], upper, refl, refl, refl, (refl, refl), ([], [], lower, refl, refl, refl, (refl, refl), (refl, refl)));
        rows_are = refl;
        hangs_are = refl;
      };
    }

-- and the right child
pub turns_left : (top low : Placed) → top.right ≡ low.row + 1
    → Turns (low ∷ top ∷ [])
    (record { row = top.row; left = top.left; right = low.left } ∷ record { row = low.row; left = top.row + 1; right = low.right } ∷ [])
    (top.row + 1) (low.row + 1)
turns_left top low link =
    let upper : Placed = record { row = low.row; left = top.row + 1; right = low.right } in
    let lower : Placed = record { row = top.row; left = top.left; right = low.left } in
    record {
      rows = top.row ∷ low.row ∷ [];
      hangs = top.left ∷ low.left ∷ low.right ∷ [];
      before = record {
        cut = held (end top.left) top.row (held (end low.left) low.row (end low.right));
        laid = ([], low ∷ [], top, refl, refl, refl, (refl, refl), ([], [], low, refl, refl, link, (refl, refl), (refl, refl)));
        rows_are = refl;
        hangs_are = refl;
      };
      after = record {
        cut = held (held (end top.left) top.row (end low.left)) low.row (end low.right);
        laid = (lower ∷ [], [], upper, refl, refl, refl, ([], [], lower, refl, refl, refl, (refl, refl), (refl, refl)), (refl, refl));
        rows_are = refl;
        hangs_are = refl;
      };
    }
