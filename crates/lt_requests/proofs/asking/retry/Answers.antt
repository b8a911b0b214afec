use Rattle.std.proofs.Common.{sym, ◌∙◌}
use Rattle.lt_seq.specs.Yard.{bar_for}
use Rattle.lt_requests.specs.Registered.{without}
use Rattle.lt_requests.proofs.KeepLaws.{keeps_started}
use Rattle.lt_requests.proofs.StartLaws.{none_registered, may_found, may_without, may_after, retried, not_both}
use Rattle.lt_requests.proofs.asking.retry.Goals as goal

pub unreachable-requires : goal.unreachable-requires
unreachable-requires g c = not_both (none_registered c.args.txn c.args.registry.now (sym c.wish_of.ensures ∙ c.in_default.is)) c.requires.there

pub ask_for-requires-clause-wish : goal.ask_for-requires-clause-wish
ask_for-requires-clause-wish g c κs within = (may_found _ c.args.txn c.in-Some.wish c.args.registry.now c.requires.may (sym c.wish_of.ensures ∙ c.in-Some.is)).0

pub returns-clause-may : goal.returns-clause-may
returns-clause-may g c =
    let setting = g.Y.Yard.setting c.args.yard.now in
    let all = c.args.registry.now in
    let view = g.Y.Pass.Pass.view in
    may_after setting (bar_for setting c.args.big) c.in-Some.wish (without c.in-Some.wish.txn all) all all (view c.args.pass.now) (view c.ask_for.new.pass) c.ask_for.new.registry c.ask_for.result c.ask_for.ensures.answer
    (may_without setting.plan.trees c.in-Some.wish.txn all c.requires.may) c.requires.may c.requires.may

pub returns-clause-answer : goal.returns-clause-answer
returns-clause-answer g c =
    let found = sym c.wish_of.ensures ∙ c.in-Some.is in
    retried _ _ c.args.txn c.in-Some.wish c.args.registry.now _ _ _ c.ask_for.result found (may_found _ c.args.txn c.in-Some.wish c.args.registry.now c.requires.may found).1 c.ask_for.ensures.answer

pub returns-clause-keeps : goal.returns-clause-keeps
returns-clause-keeps g c =
    let setting = g.Y.Yard.setting c.args.yard.now in
    let all = c.args.registry.now in
    let view = g.Y.Pass.Pass.view in
    keeps_started setting (bar_for setting c.args.big) c.in-Some.wish (without c.in-Some.wish.txn all) all all (view c.args.pass.now) (view c.ask_for.new.pass) c.ask_for.new.registry c.ask_for.result c.ask_for.ensures.answer
