use Rattle.std.proofs.Common.{◌≡◌, ℕ, List, [], ◌∷◌, ◌++◌, codes, sym, ap, subst, refl, ◌∙◌, append_assoc}
use Rattle.std.proofs.lemmas.Grind.{flat_map-append}
use Rattle.lt_trace.specs.declared.line.Line.{Line}
use Rattle.lt_trace.specs.Grammar.{line_text, IsFront}
use Rattle.lt_trace.specs.Reading.{front_of, body_text}
use Rattle.lt_trace.proofs.GrammarLaws.{front_more}
use Rattle.lt_trace.proofs.reading.read_body.Goals as goal

-- one line more
text_more : (lines : List Line) (line : Line) (rest : List ℕ) → body_text (lines ++ line ∷ []) ++ rest ≡ body_text lines ++ (line_text line ++ codes "\n" ++ rest)
text_more lines line rest =
    rw (flat_map-append (λ (l : Line). line_text l ++ codes "\n") lines (line ∷ [])) (simp append_assoc)

pub loop-rest-preserved : goal.loop-rest-preserved
loop-rest-preserved c =
    let more = c.in_ok-rest.ensures.line in
    let line = more.0 in
    record {
      front = subst (λ lines. IsFront (front_of c.args.header.now lines)) (sym more.2) (front_more (front_of c.args.header.now c.loop-rest.body) line refl c.loop-rest.invariant.front more.1);
      split = c.loop-rest.invariant.split ∙ ap (λ xs. body_text c.loop-rest.body ++ xs) more.3 ∙ sym (text_more c.loop-rest.body line c.in_ok-rest.rest.now) ∙ ap (λ lines. body_text lines ++ c.in_ok-rest.rest.now) (sym more.2);
      room = c.in_ok-rest.ensures.room;
    }
