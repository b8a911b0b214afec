-- A new table meets the rule.
use Rattle.std.proofs.Common.{◌≡◌, ℕ, zero, suc, List, [], ◌∷◌, length, map, refl, sym, ap, subst, arith}
use mathlib.Core.Option.{Option, some, some-injective, some-ne-none}
use lib.ListN.{get_elem?}
use Rattle.std.specs.Prelude as std
use Rattle.atomic_table.specs.Table.{opening}
use Rattle.atomic_table.proofs.Lists.{some_there}
use Rattle.lt_deal.specs.declared.view.View.{View}
use Rattle.lt_deal.specs.Rule.{Knows, Gave, Dealt, opener}

long_map : {A B : Type 0} (f : A → B) (xs : List A) → length (map f xs) ≡ length xs
long_map f [] = refl
long_map f (x ∷ xs) = ap suc (long_map f xs)

module _ {T : Type 0} (k : ℕ) where
  new_knows : Knows {T = T} [] 0 (opener k)
  new_knows = record {
    stocked = λ _. refl;
    blank = λ z. ap (λ (n : ℕ). opener n) z;
    asked = omega arith;
    ended = λ n. absurd (omega arith);
    mine = λ i x g. absurd (some-ne-none (i, x) (sym g.1));
  }

  only : (F : View T → Type 0) → F (opener k) → (seat : ℕ) (v : View T) → get_elem? (opener k ∷ []) seat ≡ some v → F v
  only F h zero v e = subst F (some-injective (opener k) v e) h
  only F h (suc seat) v e = absurd (some-ne-none v (sym e))

  pub opens_rule : (slots : List (std.Option T)) → Dealt k (opening (0 ∷ []) slots (opener k))
  opens_rule slots = record {
    tickets = 0;
    stock = [];
    word_is = refl;
    parts = omega arith;
    each = only (Knows [] 0) new_knows;
    few = omega arith;
    once = λ i h. absurd (omega arith);
    none_else = λ i h. refl;
    first = λ i x h e. absurd (some-ne-none x (sym e));
    back = only (λ v. (i : ℕ) (x : T) → Gave v.gave i x → get_elem? (map some slots) i ≡ some (some (std.Some x))) (λ i x g. absurd (some-ne-none (i, x) (sym g.1)));
    vacant = λ i h l. (let long = long_map {B = Option (std.Option T)} some slots in some_there slots i (omega arith));
  }
