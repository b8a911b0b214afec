use Rattle.std.proofs.Common.{◌∷◌, sym, ◌∙◌, decimal}
use Rattle.std.proofs.lemmas.List.{append_cancel_left}
use Rattle.lt_trace.proofs.header.header_number.Goals as goal

pub returns-in_err-digits-clause-none : goal.returns-in_err-digits-clause-none
returns-in_err-digits-clause-none c none n least most is =
    let same = append_cancel_left c.args.form.word.now c.in_ok-rest.rest.now (32 ∷ decimal n) (sym c.in_ok-rest.ensures ∙ is) in
    c.in_err-digits.ensures (decimal n) same

pub returns-clause-none : goal.returns-clause-none
returns-clause-none c none n least most is =
    let same = append_cancel_left c.args.form.word.now c.in_ok-rest.rest.now (32 ∷ decimal n) (sym c.in_ok-rest.ensures ∙ is) in
    c.number.ensures.none none n (record { spelled = cc (c.in_ok-digits.ensures, same); from = least; up_to = most })
