-- A front grows by one line.
use Rattle.std.proofs.Common.{◌≡◌, ℕ, List, [], ◌∷◌, ◌++◌, length, sym, subst, append_assoc}
use Rattle.std.proofs.lemmas.List.{append-nil}
use Rattle.lt_trace.specs.declared.line.Line.{Line}
use Rattle.lt_trace.specs.Grammar.{IsFaultless, AreFaultless, IsBody, Front, IsFront, header_forms}

pub faultless_more : (header : List ℕ) (before lines : List Line) (line : Line) → AreFaultless header before lines → IsFaultless header (before ++ lines) line → AreFaultless header before (lines ++ line ∷ [])
faultless_more header before [] line all one = (subst (λ (ls : List Line). IsFaultless header ls line) (append-nil before) one, tt)
faultless_more header before (l ∷ ls) line all one =
    (all.0, faultless_more header (before ++ l ∷ []) ls line all.1 (subst (λ (xs : List Line). IsFaultless header xs line) (sym (append_assoc before (l ∷ []) ls)) one))

body_more : (header : List ℕ) (lines : List Line) (line : Line) → length header ≡ length header_forms → IsBody header lines → IsFaultless header lines line → IsBody header (lines ++ line ∷ [])
body_more header [] line whole body one = (whole, faultless_more header [] [] line tt one)
body_more header (l ∷ ls) line whole body one = (whole, faultless_more header [] (l ∷ ls) line body.1 one)

-- a faultless line behind a front with a whole header
pub front_more : (front : Front) (line : Line) → length front.header ≡ length header_forms → IsFront front → IsFaultless front.header front.lines line → IsFront (record front { lines = front.lines ++ line ∷ [] })
front_more front line whole is one = record { header = is.header; body = body_more front.header front.lines line whole is.body one }
