use Rattle.std.proofs.Common.{◌≡◌, ℕ, List, [], ◌∷◌, ◌++◌, codes, sym, ap, subst, refl, ◌∙◌, append_assoc}
use Rattle.std.proofs.lemmas.Grind.{flat_map-append}
use Rattle.lt_store.specs.declared.op.Move.{Move}
use Rattle.lt_script.specs.Grammar.{move_text, IsFront}
use Rattle.lt_script.specs.Reading.{front_of, body_text}
use Rattle.lt_script.proofs.GrammarLaws.{front_more}
use Rattle.lt_script.proofs.reading.read_body.Goals as goal

-- one move more
text_more : (moves : List Move) (m : Move) (rest : List ℕ)
    → body_text (moves ++ m ∷ []) ++ rest ≡ body_text moves ++ (move_text m ++ codes "\n" ++ rest)
text_more moves m rest =
    rw (flat_map-append (λ (l : Move). move_text l ++ codes "\n") moves (m ∷ [])) (simp append_assoc)

pub loop-rest-preserved : goal.loop-rest-preserved
loop-rest-preserved c =
    let more = c.in_ok-rest.ensures.line in
    let m = more.0 in
    record {
      front = subst (λ moves. IsFront (front_of c.args.limit moves)) (sym more.2)
          (front_more (front_of c.args.limit c.loop-rest.body) m refl c.loop-rest.invariant.front more.1);
      split = c.loop-rest.invariant.split ∙ ap (λ xs. body_text c.loop-rest.body ++ xs) more.3
          ∙ sym (text_more c.loop-rest.body m c.in_ok-rest.rest.now) ∙ ap (λ moves. body_text moves ++ c.in_ok-rest.rest.now) (sym more.2);
      room = c.in_ok-rest.ensures.room;
    }
