use Rattle.std.proofs.Common.{◌≡◌, List, [], ◌∷◌, IsTrue, refl, sym, ap, subst, ◌∙◌}
use Rattle.lt_trace.specs.declared.line.Line.{Line}
use Rattle.lt_trace.specs.declared.line.LineDeed.{LineDeed}
use Rattle.lt_trace.specs.Grammar.{is_last}
use Rattle.lt_history.specs.declared.outcome.Outcome.TheVariants.{Done, Aborted}
use Rattle.lt_runner.specs.Turn.{ends, grows, ended_at, ending}
use Rattle.lt_runner.specs.Plays.{is_big}
use Rattle.lt_runner.specs.Seats.{idle}
use Rattle.lt_runner.specs.PlaysOn.{IsFit, PlaysOn}
use Rattle.lt_runner.specs.PlaysAlone.{play_move}
use Rattle.lt_runner.specs.Work.{Spends}
use Rattle.lt_runner.proofs.PlayMoveLaws.{silent_at_once}
use Rattle.lt_runner.proofs.SpendLaws.{spends_ended}
use Rattle.lt_runner.proofs.PlaysOnLaws.{plays_ended, plays_grown, fit_ended}
use Rattle.lt_runner.proofs.turn.Turn.play_line.Goals as goal

pub returns-in-Big-clause-plays : goal.returns-in-Big-clause-plays
returns-in-Big-clause-plays g c =
    let setting = g.Y.Yard.setting c.args.yard.now in
    let pass = g.Y.Pass.Pass.view c.args.pass.now in
    let seat = c.args.self.now in
    let plays = plays_grown setting [] pass seat c.args.line.now c.requires.line.0 c.requires.line.1 c.requires.next.goes (subst (λ (d : LineDeed). IsTrue (is_big d)) (sym c.in-Big.is) refl) c.requires.ready.sound in
    subst (PlaysOn setting [] pass pass seat) (sym c.grow.ensures) plays

pub returns-in_ok-end_as-in-End-clause-fit : goal.returns-in_ok-end_as-in-End-clause-fit
returns-in_ok-end_as-in-End-clause-fit g c =
    let setting = g.Y.Yard.setting c.args.yard.now in
    subst (IsFit setting) (sym c.in_ok-end_as-in-End.ensures.ended) (fit_ended setting c.args.self.now Done c.requires.fit)

pub returns-in_ok-end_as-in-End-clause-plays : goal.returns-in_ok-end_as-in-End-clause-plays
returns-in_ok-end_as-in-End-clause-plays g c =
    let setting = g.Y.Yard.setting c.args.yard.now in
    let pass = g.Y.Pass.Pass.view c.args.pass.now in
    let seat = c.args.self.now in
    let line = c.args.line.now in
    let rest = c.requires.line.0 in
    let turn_is : ended_at seat.turn.lines seat.turn ≡ ending Done seat.turn =
    ap (λ (ls : List Line). ended_at ls seat.turn) c.requires.line.1 ∙ ap (λ (d : LineDeed). ended_at (record line { deed = d } ∷ rest) seat.turn) c.in-End.is in
    let plays = plays_ended setting [] pass seat line rest c.requires.line.1 c.requires.next.goes (subst (λ (d : LineDeed). IsTrue (is_last d)) (sym c.in-End.is) refl) c.requires.ready.sound in
    subst (PlaysOn setting [] pass pass seat) (ap idle turn_is ∙ sym c.in_ok-end_as-in-End.ensures.ended) plays

pub returns-in_ok-end_as-in-Abort-clause-fit : goal.returns-in_ok-end_as-in-Abort-clause-fit
returns-in_ok-end_as-in-Abort-clause-fit g c =
    let setting = g.Y.Yard.setting c.args.yard.now in
    subst (IsFit setting) (sym c.in_ok-end_as-in-Abort.ensures.ended) (fit_ended setting c.args.self.now Aborted c.requires.fit)

pub returns-in_ok-end_as-in-Abort-clause-plays : goal.returns-in_ok-end_as-in-Abort-clause-plays
returns-in_ok-end_as-in-Abort-clause-plays g c =
    let setting = g.Y.Yard.setting c.args.yard.now in
    let pass = g.Y.Pass.Pass.view c.args.pass.now in
    let seat = c.args.self.now in
    let line = c.args.line.now in
    let rest = c.requires.line.0 in
    let turn_is : ended_at seat.turn.lines seat.turn ≡ ending Aborted seat.turn =
    ap (λ (ls : List Line). ended_at ls seat.turn) c.requires.line.1 ∙ ap (λ (d : LineDeed). ended_at (record line { deed = d } ∷ rest) seat.turn) c.in-Abort.is in
    let plays = plays_ended setting [] pass seat line rest c.requires.line.1 c.requires.next.goes (subst (λ (d : LineDeed). IsTrue (is_last d)) (sym c.in-Abort.is) refl) c.requires.ready.sound in
    subst (PlaysOn setting [] pass pass seat) (ap idle turn_is ∙ sym c.in_ok-end_as-in-Abort.ensures.ended) plays

pub returns-in-Big-clause-alone : goal.returns-in-Big-clause-alone
returns-in-Big-clause-alone g c =
    let setting = g.Y.Yard.setting c.args.yard.now in
    let events = (g.Y.Pass.Pass.view c.args.pass.now).front in
    let seat = c.args.self.now in
    let line = c.args.line.now in
    let rest = c.requires.line.0 in
    λ may. silent_at_once setting events seat c.grow.new.self line rest grows c.requires.line.1 (ap (play_move setting events seat.turn) c.in-Big.is) refl c.grow.ensures

pub returns-in_ok-end_as-in-End-clause-alone : goal.returns-in_ok-end_as-in-End-clause-alone
returns-in_ok-end_as-in-End-clause-alone g c =
    let setting = g.Y.Yard.setting c.args.yard.now in
    let events = (g.Y.Pass.Pass.view c.args.pass.now).front in
    let seat = c.args.self.now in
    let line = c.args.line.now in
    let rest = c.requires.line.0 in
    let turn_is : ended_at seat.turn.lines seat.turn ≡ ending Done seat.turn =
    ap (λ (ls : List Line). ended_at ls seat.turn) c.requires.line.1 ∙ ap (λ (d : LineDeed). ended_at (record line { deed = d } ∷ rest) seat.turn) c.in-End.is in
    λ may. silent_at_once setting events seat c.end_as.new.self line rest ends c.requires.line.1 (ap (play_move setting events seat.turn) c.in-End.is) refl
    (c.in_ok-end_as-in-End.ensures.ended ∙ ap idle (sym turn_is))

pub returns-in_ok-end_as-in-Abort-clause-alone : goal.returns-in_ok-end_as-in-Abort-clause-alone
returns-in_ok-end_as-in-Abort-clause-alone g c =
    let setting = g.Y.Yard.setting c.args.yard.now in
    let events = (g.Y.Pass.Pass.view c.args.pass.now).front in
    let seat = c.args.self.now in
    let line = c.args.line.now in
    let rest = c.requires.line.0 in
    let turn_is : ended_at seat.turn.lines seat.turn ≡ ending Aborted seat.turn =
    ap (λ (ls : List Line). ended_at ls seat.turn) c.requires.line.1 ∙ ap (λ (d : LineDeed). ended_at (record line { deed = d } ∷ rest) seat.turn) c.in-Abort.is in
    λ may. silent_at_once setting events seat c.end_as-in-Abort.new.self line rest ends c.requires.line.1 (ap (play_move setting events seat.turn) c.in-Abort.is) refl
    (c.in_ok-end_as-in-Abort.ensures.ended ∙ ap idle (sym turn_is))

pub returns-in_ok-end_as-in-End-clause-spends : goal.returns-in_ok-end_as-in-End-clause-spends
returns-in_ok-end_as-in-End-clause-spends g c =
    let setting = g.Y.Yard.setting c.args.yard.now in
    let pass = g.Y.Pass.Pass.view c.args.pass.now in
    let seat = c.args.self.now in
    subst (Spends setting pass pass seat) (sym c.in_ok-end_as-in-End.ensures.ended)
    (spends_ended setting pass seat Done c.args.line.now c.requires.line.0 c.requires.fit c.requires.line.1 c.requires.next.goes).spends

pub returns-in_ok-end_as-in-Abort-clause-spends : goal.returns-in_ok-end_as-in-Abort-clause-spends
returns-in_ok-end_as-in-Abort-clause-spends g c =
    let setting = g.Y.Yard.setting c.args.yard.now in
    let pass = g.Y.Pass.Pass.view c.args.pass.now in
    let seat = c.args.self.now in
    subst (Spends setting pass pass seat) (sym c.in_ok-end_as-in-Abort.ensures.ended)
    (spends_ended setting pass seat Aborted c.args.line.now c.requires.line.0 c.requires.fit c.requires.line.1 c.requires.next.goes).spends
