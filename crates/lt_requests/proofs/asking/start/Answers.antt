use Rattle.std.proofs.Common.{sym, subst, ap, ◌∙◌, refl}
use Rattle.lt_requests.specs.Registered.{MayAsk, with_wish, without}
use Rattle.lt_seq.specs.Yard.{bar_for}
use Rattle.lt_requests.specs.Started.{HasFault}
use Rattle.lt_requests.proofs.KeepLaws.{keeps_started, keeps_itself}
use Rattle.lt_requests.proofs.StartLaws.{may_with, may_without, may_after, started_by, out_again}
use Rattle.lt_requests.proofs.asking.start.Goals as goal

pub ask_for-requires-clause-may : goal.ask_for-requires-clause-may
ask_for-requires-clause-may g c κs within = subst (λ l. MayAsk (g.Y.Yard.setting c.args.yard.now).plan.trees l) (sym c.in_default.ensures) (may_with _ c.args.wish.now c.args.registry.now c.requires.wish c.requires.may)

pub returns-in-Ok-clause-may : goal.returns-in-Ok-clause-may
returns-in-Ok-clause-may g c =
    let setting = g.Y.Yard.setting c.args.yard.now in
    let view = g.Y.Pass.Pass.view in
    let all = c.add.new.self in
    let may = subst (λ l. MayAsk setting.plan.trees l) (sym c.in_default.ensures) (may_with setting.plan.trees c.args.wish.now c.args.registry.now c.requires.wish c.requires.may) in
    may_after setting (bar_for setting c.args.big) c.args.wish.now (without c.args.wish.now.txn all) all all (view c.args.pass.now) (view c.ask_for.new.pass) c.ask_for.new.registry c.ask_for.result c.ask_for.ensures.answer
    (may_without setting.plan.trees c.args.wish.now.txn all may) may may

pub returns-in-Ok-clause-answer : goal.returns-in-Ok-clause-answer
returns-in-Ok-clause-answer g c =
    let setting = g.Y.Yard.setting c.args.yard.now in
    let view = g.Y.Pass.Pass.view in
    let wish = c.args.wish.now in
    let all = c.add.new.self in
    let out = ap (without wish.txn) c.in_default.ensures ∙ out_again wish c.args.registry.now c.requires.absent in
    started_by setting (bar_for setting c.args.big) wish c.args.registry.now (without wish.txn all) all (with_wish wish c.args.registry.now) c.args.registry.now (view c.args.pass.now) (view c.ask_for.new.pass) c.ask_for.new.registry c.in-Ok.started c.in_default.ensures out c.in-Ok.ensures.answer

pub returns-in-Err-ask_for-clause-may : goal.returns-in-Err-ask_for-clause-may
returns-in-Err-ask_for-clause-may g c =
    let is = c.in-Err-ask_for.ensures.answer in
    let as_before = c.forget.ensures.left ∙ ap (without c.args.wish.now.txn) (is.1 ∙ c.in_default.ensures) ∙ out_again c.args.wish.now c.args.registry.now c.requires.absent in
    subst (λ l. MayAsk (g.Y.Yard.setting c.args.yard.now).plan.trees l) (sym as_before) c.requires.may

pub returns-in-Err-ask_for-clause-answer : goal.returns-in-Err-ask_for-clause-answer
returns-in-Err-ask_for-clause-answer g c =
    let is = c.in-Err-ask_for.ensures.answer in
    (subst (λ l. HasFault (g.Y.Yard.setting c.args.yard.now) (bar_for (g.Y.Yard.setting c.args.yard.now) c.args.big) c.args.wish.now l (g.Y.Pass.Pass.view c.args.pass.now) (g.Y.Pass.Pass.view c.ask_for.new.pass) c.in-Err-ask_for.fault) c.in_default.ensures is.0, c.forget.ensures.left ∙ ap (without c.args.wish.now.txn) (is.1 ∙ c.in_default.ensures) ∙ out_again c.args.wish.now c.args.registry.now c.requires.absent)

pub returns-in-Ok-clause-keeps : goal.returns-in-Ok-clause-keeps
returns-in-Ok-clause-keeps g c =
    let setting = g.Y.Yard.setting c.args.yard.now in
    let view = g.Y.Pass.Pass.view in
    let all = c.add.new.self in
    keeps_started setting (bar_for setting c.args.big) c.args.wish.now (without c.args.wish.now.txn all) all all (view c.args.pass.now) (view c.ask_for.new.pass) c.ask_for.new.registry c.ask_for.result c.ask_for.ensures.answer

pub returns-in-Err-ask_for-clause-keeps : goal.returns-in-Err-ask_for-clause-keeps
returns-in-Err-ask_for-clause-keeps g c =
    let setting = g.Y.Yard.setting c.args.yard.now in
    let view = g.Y.Pass.Pass.view in
    let all = c.add.new.self in
    keeps_started setting (bar_for setting c.args.big) c.args.wish.now (without c.args.wish.now.txn all) all all (view c.args.pass.now) (view c.ask_for.new.pass) c.ask_for.new.registry c.ask_for.result c.ask_for.ensures.answer

pub returns-in-Err-clause-keeps : goal.returns-in-Err-clause-keeps
returns-in-Err-clause-keeps g c = keeps_itself _ _ _ refl
