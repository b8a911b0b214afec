use Rattle.std.proofs.Common.{true, false, nat_eq, sym, ap, ◌∙◌}
use Rattle.std.specs.Cmp.Lexicographic.{pointwise}
use Rattle.lt_ranges.proofs.PackingLaws.{none_packs, unpacked_none, unpacked_by, refused}
use Rattle.lt_ranges.proofs.key.Key.unpack.Goals as goal

pub returns-in_err-key-clause-value : goal.returns-in_err-key-clause-value
returns-in_err-key-clause-value c = c.from_residual.ensures ∙ sym (unpacked_none c.args.words (sym c.only_key.ensures ∙ c.in_err-key.was))

pub returns-in_err-key-clause-none : goal.returns-in_err-key-clause-none
returns-in_err-key-clause-none c = refused c.args.words c.from_residual.result (returns-in_err-key-clause-value c)

pub returns-then-eq-clause-value : goal.returns-then-eq-clause-value
returns-then-eq-clause-value c =
    let same = ap (λ packed. pointwise nat_eq packed c.args.words) (sym c.pack.ensures.value) ∙ (sym c.eq.ensures ∙ c.if-eq.true) in
    sym (unpacked_by c.args.words c.in_ok-key.key true (sym c.only_key.ensures ∙ c.in_ok-key.was) same)

pub returns-else-eq-clause-value : goal.returns-else-eq-clause-value
returns-else-eq-clause-value c =
    let same = ap (λ packed. pointwise nat_eq packed c.args.words) (sym c.pack.ensures.value) ∙ (sym c.eq.ensures ∙ c.if-eq.false) in
    sym (unpacked_by c.args.words c.in_ok-key.key false (sym c.only_key.ensures ∙ c.in_ok-key.was) same)

pub returns-else-eq-clause-none : goal.returns-else-eq-clause-none
returns-else-eq-clause-none c = none_packs c.args.words (sym (returns-else-eq-clause-value c))
