-- Where clap refuses the words behind a form's name.
use Rattle.std.proofs.Common.{◌≡◌, ℕ, ◌==◌, List, [], ◌∷◌, false, true≢false, refl, codes, fold, ◌++◌, ◌∙◌, ap, sym, subst, append_assoc, Some}
use Rattle.std.proofs.lemmas.List.{append-nil}
use Rattle.clap.specs.Walk.{Text, Rule, Names, Walk, is_empty, nothing_held, walk_from, walked}
use Rattle.clap.specs.Simple.{App, Shape, built, names_of}
use Rattle.clap.specs.Kinds.{Kinds, or_else}
use Rattle.clap.specs.Faults.{entered_fault, fault_of, turn_fault, walk_fault}
use Rattle.clap.proofs.FaultLemmas.{stopped_fault}
use Rattle.clap.proofs.OnLiterals.{clap_on_literals}
use Rattle.lt_words.specs.Grammar.{grammar}

-- a walk that met a subcommand collects the words behind it
collects : (rules : List Rule) (names : Names) (w : Walk) (name : Text) (seen ws : List Text) → w.stopped ≡ Some (name, seen)
    → (fold (walked rules names) w ws).stopped ≡ Some (name, seen ++ ws)
unfolding walked
collects rules names w name seen [] e = e ∙ ap (λ z. Some (name, z)) (sym (append-nil seen))
collects rules names w name seen (x ∷ ws) e =
    collects rules names (walked rules names w x) name (seen ++ x ∷ []) ws (simp e)
    ∙ ap (λ z. Some (name, z)) (append_assoc seen (x ∷ []) ws)

-- and refuses none of them
passes : (s : Shape) (names : Names) (w : Walk) (p : Text × List Text) (ws : List Text) → w.stopped ≡ Some p → walk_fault s names w ws ≡ []
passes s names w p ws e = ap (λ o. walk_fault s names (record w { stopped = o }) ws) e ∙ stopped_fault s names w p ws

refused_below : (own below rest : Kinds) → own ≡ [] → is_empty below ≡ false → is_empty (or_else own (or_else below rest)) ≡ false
refused_below own [] rest none e = absurd (true≢false e)
refused_below own (k ∷ ks) rest none e = ap (λ o. is_empty (or_else o (or_else (k ∷ ks) rest))) none ∙ e

abbrev whole : App
whole = built grammar

abbrev start : Walk
start = walk_from nothing_held

-- what a form refuses, the program refuses
refused_by_form : (name : Text) (ws : List Text) → turn_fault whole.top (names_of whole) start name ≡ []
    → (walked whole.top.rules (names_of whole) start name).stopped ≡ Some (name, [])
    → is_empty (entered_fault whole (Some (name, ws))) ≡ false → is_empty (fault_of grammar (name ∷ ws)) ≡ false
unfolding walk_fault
refused_by_form name ws turn stop e =
    let w = walked whole.top.rules (names_of whole) start name in
    refused_below _ _ _
    (ap (λ k. or_else k (walk_fault whole.top (names_of whole) w ws)) turn ∙ passes whole.top (names_of whole) w (name, []) ws stop)
    (subst (λ o. is_empty (entered_fault whole o) ≡ false) (sym (collects whole.top.rules (names_of whole) w name [] ws stop)) e)

pub serial_with_more : (x : ℕ) (xs : List ℕ) (ws : List Text) → (x == 45) ≡ false
    → is_empty (fault_of grammar (codes "serial" ∷ (x ∷ xs) ∷ ws)) ≡ false
unfolding clap_on_literals
serial_with_more x xs ws e = refused_by_form (codes "serial") ((x ∷ xs) ∷ ws) refl refl (simp e)

pub crew_with_more : (x y : ℕ) (xs ys : List ℕ) (ws : List Text) → (x == 45) ≡ false → (y == 45) ≡ false
    → is_empty (fault_of grammar (codes "crew" ∷ (x ∷ xs) ∷ (y ∷ ys) ∷ ws)) ≡ false
unfolding clap_on_literals
crew_with_more x y xs ys ws e f = refused_by_form (codes "crew") ((x ∷ xs) ∷ (y ∷ ys) ∷ ws) refl refl (simp (e, f))

pub live_with_more : (x y : ℕ) (xs ys : List ℕ) (ws : List Text) → (x == 45) ≡ false → (y == 45) ≡ false
    → is_empty (fault_of grammar (codes "live" ∷ (x ∷ xs) ∷ (y ∷ ys) ∷ ws)) ≡ false
unfolding clap_on_literals
live_with_more x y xs ys ws e f = refused_by_form (codes "live") ((x ∷ xs) ∷ (y ∷ ys) ∷ ws) refl refl (simp (e, f))

pub cut_with_more : (x y z : ℕ) (xs ys zs : List ℕ) (ws : List Text) → (x == 45) ≡ false → (y == 45) ≡ false → (z == 45) ≡ false
    → is_empty (fault_of grammar (codes "cut" ∷ (x ∷ xs) ∷ (y ∷ ys) ∷ (z ∷ zs) ∷ ws)) ≡ false
unfolding clap_on_literals
cut_with_more x y z xs ys zs ws e f g =
    refused_by_form (codes "cut") ((x ∷ xs) ∷ (y ∷ ys) ∷ (z ∷ zs) ∷ ws) refl refl (simp (e, f, g))

pub store_with_more : (x : ℕ) (xs : List ℕ) (ws : List Text) → (x == 45) ≡ false
    → is_empty (fault_of grammar (codes "store" ∷ (x ∷ xs) ∷ ws)) ≡ false
unfolding clap_on_literals
store_with_more x xs ws e = refused_by_form (codes "store") ((x ∷ xs) ∷ ws) refl refl (simp e)

pub make_with_more : (x y z u : ℕ) (xs ys zs us : List ℕ) (ws : List Text) → (x == 45) ≡ false → (y == 45) ≡ false → (z == 45) ≡ false
    → (u == 45) ≡ false
    → is_empty (fault_of grammar (codes "make" ∷ (x ∷ xs) ∷ (y ∷ ys) ∷ (z ∷ zs) ∷ (u ∷ us) ∷ ws)) ≡ false
unfolding clap_on_literals
make_with_more x y z u xs ys zs us ws e f g h =
    refused_by_form (codes "make") ((x ∷ xs) ∷ (y ∷ ys) ∷ (z ∷ zs) ∷ (u ∷ us) ∷ ws) refl refl (simp (e, f, g, h))

pub sum_with_more : (x y z u : ℕ) (xs ys zs us : List ℕ) (ws : List Text) → (x == 45) ≡ false → (y == 45) ≡ false → (z == 45) ≡ false
    → (u == 45) ≡ false
    → is_empty (fault_of grammar (codes "sum" ∷ (x ∷ xs) ∷ (y ∷ ys) ∷ (z ∷ zs) ∷ (u ∷ us) ∷ ws)) ≡ false
unfolding clap_on_literals
sum_with_more x y z u xs ys zs us ws e f g h =
    refused_by_form (codes "sum") ((x ∷ xs) ∷ (y ∷ ys) ∷ (z ∷ zs) ∷ (u ∷ us) ∷ ws) refl refl (simp (e, f, g, h))
