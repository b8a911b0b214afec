use Rattle.std.proofs.Common.{◌∷◌, [], sym, subst, ◌∙◌}
use Rattle.std.specs.Prelude.{IfNone, string_bytes}
use Rattle.lt_words.specs.Words.{IsNoCommand}
use Rattle.lt_words.proofs.ListLaws.{of_four}
use Rattle.lt_words.proofs.by_hand.by_hand.Goals as goal

pub returns-in-len4-clause-none : goal.returns-in-len4-clause-none
returns-in-len4-clause-none c =
    let four = of_four string_bytes c.args.words.now c.word-item-then-words-lt5.result c.seed-item.result c.txns-item.result c.lines-item.result
    c.in-len4.len_at_least c.in-len4.len_below c.word-item-then-words-lt5.is c.seed-item.is c.txns-item.is c.lines-item.is in
    subst (λ words. IfNone c.maker.result (IsNoCommand words))
    (sym (four ∙ (λ i.
    sym c.as_str-in-len4.ensures.value i ∷ sym c.as_bytes-in-len4.ensures.value i ∷ sym c.as_bytes-in-len4-2.ensures.value i
    ∷ sym c.as_bytes-in-len4-3.ensures.value i ∷ [])))
    c.maker.ensures.none
