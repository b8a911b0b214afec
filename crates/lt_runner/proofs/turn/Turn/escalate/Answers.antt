use Rattle.std.proofs.Common.{[], Err, Ok, sym, subst, ℕ}
use Rattle.lt_seq.specs.declared.event.Deed.TheVariants.{Join}
use Rattle.lt_seq.specs.Yard.{Answers}
use Rattle.lt_runner.specs.TurnView.{Seat}
use Rattle.lt_runner.specs.PlaysOn.{PlaysOn, UnlessShort}
use Rattle.lt_runner.specs.PlaysAlone.{IsPlayedAtOnce}
use Rattle.lt_runner.proofs.PlayMoveLaws.{escalated_at_once, call_not_refused, is_caused_by}
use Rattle.lt_runner.proofs.PlaysOnLaws.{plays_escalated, kept_unless}
use Rattle.lt_runner.proofs.turn.Turn.escalate.Goals as goal

pub returns-in_default-clause-plays : goal.returns-in_default-clause-plays
returns-in_default-clause-plays g c =
    let setting = g.Y.Yard.setting c.args.yard.now in
    let old = g.Y.Pass.Pass.view c.args.pass.now in
    let new = g.Y.Pass.Pass.view c.escalate.new.pass in
    let seat = c.args.self.now in
    let join = c.in_default.field-0 in
    let answers = subst (λ (n : ℕ). Answers setting old new n (Join c.args.tree 0 0) (Ok join)) c.number.ensures
    (subst (Answers setting old new c.number.result (Join c.args.tree 0 0)) c.in_default.is c.escalate.ensures.answer) in
    subst (PlaysOn setting [] old new seat) (sym c.go_past.ensures)
    (plays_escalated setting [] old new seat c.args.tree c.args.line.now c.requires.line.0 join c.requires.line.1 c.requires.next.goes c.requires.deed answers)

pub returns-clause-plays : goal.returns-clause-plays
returns-clause-plays g c =
    let setting = g.Y.Yard.setting c.args.yard.now in
    let old = g.Y.Pass.Pass.view c.args.pass.now in
    let new = g.Y.Pass.Pass.view c.escalate.new.pass in
    let seat = c.args.self.now in
    let fault = c.in-Err.fault in
    let answers = subst (Answers setting old new c.number.result (Join c.args.tree 0 0)) c.in-Err.is c.escalate.ensures.answer in
    subst (λ (s : Seat). UnlessShort (Err fault) (PlaysOn setting [] old new seat s)) (sym c.give_way.ensures)
    (kept_unless setting [] old new seat c.number.result (Join c.args.tree 0 0) fault answers)

pub returns-in_default-clause-alone : goal.returns-in_default-clause-alone
returns-in_default-clause-alone g c =
    let setting = g.Y.Yard.setting c.args.yard.now in
    let old = g.Y.Pass.Pass.view c.args.pass.now in
    let new = g.Y.Pass.Pass.view c.escalate.new.pass in
    let seat = c.args.self.now in
    let join = c.in_default.field-0 in
    let answers = subst (λ (n : ℕ). Answers setting old new n (Join c.args.tree 0 0) (Ok join)) c.number.ensures
    (subst (Answers setting old new c.number.result (Join c.args.tree 0 0)) c.in_default.is c.escalate.ensures.answer) in
    λ may. subst (IsPlayedAtOnce setting seat.turn.lines old.front new.front seat) (sym c.go_past.ensures)
    (escalated_at_once setting old new seat c.args.tree c.args.line.now c.requires.line.0 join c.requires.line.1 c.requires.deed answers may)

pub returns-clause-caused : goal.returns-clause-caused
returns-clause-caused g c =
    let setting = g.Y.Yard.setting c.args.yard.now in
    let old = g.Y.Pass.Pass.view c.args.pass.now in
    let new = g.Y.Pass.Pass.view c.escalate.new.pass in
    let fault = c.in-Err.fault in
    is_caused_by setting old new c.number.result (Join c.args.tree 0 0) fault
    (subst (Answers setting old new c.number.result (Join c.args.tree 0 0)) c.in-Err.is c.escalate.ensures.answer)

pub returns-clause-alone : goal.returns-clause-alone
returns-clause-alone g c =
    let setting = g.Y.Yard.setting c.args.yard.now in
    let old = g.Y.Pass.Pass.view c.args.pass.now in
    let new = g.Y.Pass.Pass.view c.escalate.new.pass in
    let fault = c.in-Err.fault in
    λ may. call_not_refused setting old new c.args.self.now c.give_way.new.self c.number.result (Join c.args.tree 0 0) fault may
    (subst (Answers setting old new c.number.result (Join c.args.tree 0 0)) c.in-Err.is c.escalate.ensures.answer)
