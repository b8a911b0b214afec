use Rattle.std.proofs.Common.{◌≡◌, ◌∷◌, ◌++◌, Some, ap}
use Rattle.lt_ranges.specs.KeyText.{key_text}
use Rattle.lt_trace.proofs.KeyWordLaws.{len_closed, len_starred}
use Rattle.lt_trace.proofs.key_words.key_len.Goals as goal

pub returns-in-Some-strip-clause-exact : goal.returns-in-Some-strip-clause-exact
returns-in-Some-strip-clause-exact c key rest of_bytes is =
    let quoted : 34 ∷ c.in_ok-inside.inside.now ++ 34 ∷ 42 ∷ c.in-Some-strip.field-0.now ≡ key_text key ++ 32 ∷ rest = cc (c.in-Some.ensures, c.in_ok-inside.ensures.1, c.in-Some-strip.ensures) in
    ap Some (len_starred key rest c.in_ok-inside.inside.now c.in-Some-strip.field-0.now quoted c.in_ok-inside.ensures.0)

pub returns-in-None-clause-exact : goal.returns-in-None-clause-exact
returns-in-None-clause-exact c key rest of_bytes is =
    let quoted : 34 ∷ c.in_ok-inside.inside.now ++ 34 ∷ c.in_ok-inside.behind.now ≡ key_text key ++ 32 ∷ rest = cc (c.in-Some.ensures, c.in_ok-inside.ensures.1) in
    ap Some (len_closed key rest c.in_ok-inside.inside.now c.in_ok-inside.behind.now quoted c.in_ok-inside.ensures.0 c.in-None.ensures)
