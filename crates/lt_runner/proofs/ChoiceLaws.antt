-- A choice whose test is known.
use Rattle.std.proofs.Common.{◌≡◌, Bool, true, false, if◌then◌else◌, refl}

pub on_true : {X : Type 0} (b : Bool) (x y : X) → b ≡ true → (if b then x else y) ≡ x
on_true true x y e = refl
on_true false x y e = cc

pub on_false : {X : Type 0} (b : Bool) (x y : X) → b ≡ false → (if b then x else y) ≡ y
on_false true x y e = cc
on_false false x y e = refl
