use Rattle.std.proofs.Common.{◌≡◌, ◌≢◌, ℕ, List, [], ◌∷◌, ◌++◌, Bool, true, false, refl, MatchBool}
use Rattle.std.proofs.lemmas.Bool.{false≢true}
use Rattle.std.proofs.lemmas.Bool.Decides.{Decides-eqb}
use Rattle.std.proofs.lemmas.Slice.Eq.{ends_is}
use Rattle.lt_trace.proofs.key_words.has_star.Goals as goal

by_star : (text : List ℕ) (r : Bool) → (r ≡ true → (front : List ℕ) × (text ≡ front ++ 42 ∷ [])) → ((front : List ℕ) → text ≡ front ++ 42 ∷ [] → r ≡ true) → MatchBool r ((front : List ℕ) × (text ≡ front ++ 42 ∷ [])) ((front : List ℕ) → text ≢ front ++ 42 ∷ [])
by_star text true there back = there refl
by_star text false there back = λ front is. false≢true (back front is)

pub returns : goal.returns
returns c =
    let is = ends_is Decides-eqb c.args.text.now (42 ∷ []) c.ends_with.result c.ends_with.ensures.value in
    by_star c.args.text.now c.ends_with.result (λ e. (_, is.0 e)) is.1
