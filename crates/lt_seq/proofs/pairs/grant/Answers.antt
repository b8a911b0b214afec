use Rattle.std.proofs.Common.{◌≡◌, ◌<◌, ◌+◌, ◌∷◌, ◌++◌, take, drop, set, ap, sym, ◌∙◌, rules, arith}
use Rattle.std.specs.List.{remove_range, fold, between}
use Rattle.lt_ranges.specs.Interval.{hull}
use Rattle.lt_seq.specs.Pairs.{granted}
use Rattle.lt_seq.specs.Window.{IsWindow}
use Rattle.lt_seq.proofs.WindowLaws.{granted_between, put_over}
use Rattle.lt_seq.proofs.pairs.grant.Goals as goal

pub returns-in_ok-insert-clause-ok : goal.returns-in_ok-insert-clause-ok
returns-in_ok-insert-clause-ok c =
    let start = c.window-start.result.start in
    let end = c.window-start.result.end in
    let pairs = c.args.pairs.now.items in
    let window : IsWindow c.args.range.now pairs start end = search rules in
    let span : c.span_of.result ≡ fold (λ r p. hull r p.range) c.args.range.now (between start end pairs) = search rules in
    let same : start ≡ end = search rules in
    let is : c.insert.new.self.items ≡ take start pairs ++ (record { owner = c.args.txn; range = c.span_of.result } ∷ drop start pairs) = search rules in
    is ∙ (λ i. take start pairs ++ (record { owner = c.args.txn; range = span i } ∷ drop (same i) pairs))
    ∙ sym (granted_between c.args.txn c.args.range.now pairs start end c.window-start.ensures.range c.requires.lawful window c.requires.unopposed)

pub returns-else-start-end-clause-ok : goal.returns-else-start-end-clause-ok
returns-else-start-end-clause-ok c =
    let start = c.window-start.result.start in
    let end = c.window-start.result.end in
    let pairs = c.args.pairs.now.items in
    let window : IsWindow c.args.range.now pairs start end = search rules in
    let span : c.span_of.result ≡ fold (λ r p. hull r p.range) c.args.range.now (between start end pairs) = search rules in
    let less : start < end = omega (arith, window.ordered) in
    let is : c.drop.new.self.0.items ≡ remove_range (set pairs start (record { owner = c.args.txn; range = c.span_of.result })) (start + 1) end = search rules in
    let put : c.drop.new.self.0.items ≡ granted c.args.txn c.args.range.now pairs =
    is ∙ put_over pairs (record { owner = c.args.txn; range = c.span_of.result }) start end less window.within
    ∙ ap (λ range. take start pairs ++ (record { owner = c.args.txn; range = range } ∷ drop end pairs)) span
    ∙ sym (granted_between c.args.txn c.args.range.now pairs start end c.window-start.ensures.range c.requires.lawful window c.requires.unopposed) in
    search rules
