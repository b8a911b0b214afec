use Rattle.std.proofs.Common.{[], Err, Ok, sym, subst, ℕ}
use Rattle.lt_seq.specs.declared.event.Deed.TheVariants.{Free}
use Rattle.lt_seq.specs.Yard.{Answers}
use Rattle.lt_runner.specs.TurnView.{Seat}
use Rattle.lt_runner.specs.PlaysOn.{PlaysOn, UnlessShort}
use Rattle.lt_runner.proofs.PlayMoveLaws.{freed_at_once, freed_or_short, is_caused_by}
use Rattle.lt_runner.proofs.PlaysOnLaws.{plays_freed, kept_unless}
use Rattle.lt_runner.proofs.turn.Turn.free.Goals as goal

pub returns-in_default-clause-plays : goal.returns-in_default-clause-plays
returns-in_default-clause-plays g c =
    let setting = g.Y.Yard.setting c.args.yard.now in
    let old = g.Y.Pass.Pass.view c.args.pass.now in
    let new = g.Y.Pass.Pass.view c.free.new.pass in
    let seat = c.args.self.now in
    let r = c.args.release.now in
    let free = c.in_default.field-0 in
    let answers = subst (λ (n : ℕ). Answers setting old new n (Free r.tree r.range r.first 0) (Ok free)) c.number.ensures
    (subst (Answers setting old new c.number.result (Free r.tree r.range r.first 0)) c.in_default.is c.free.ensures.answer) in
    subst (PlaysOn setting [] old new seat) (sym c.freed.ensures)
    (plays_freed setting [] old new seat r c.requires.release.0 free (c.requires.fit.over c.requires.ended) c.requires.goes c.requires.release.1 answers)

pub returns-clause-plays : goal.returns-clause-plays
returns-clause-plays g c =
    let setting = g.Y.Yard.setting c.args.yard.now in
    let old = g.Y.Pass.Pass.view c.args.pass.now in
    let new = g.Y.Pass.Pass.view c.free.new.pass in
    let seat = c.args.self.now in
    let r = c.args.release.now in
    let fault = c.in-Err.fault in
    let answers = subst (Answers setting old new c.number.result (Free r.tree r.range r.first 0)) c.in-Err.is c.free.ensures.answer in
    subst (λ (s : Seat). UnlessShort (Err fault) (PlaysOn setting [] old new seat s)) (sym c.give_way.ensures)
    (kept_unless setting [] old new seat c.number.result (Free r.tree r.range r.first 0) fault answers)

pub returns-in_default-clause-alone : goal.returns-in_default-clause-alone
returns-in_default-clause-alone g c =
    let setting = g.Y.Yard.setting c.args.yard.now in
    let old = g.Y.Pass.Pass.view c.args.pass.now in
    let new = g.Y.Pass.Pass.view c.free.new.pass in
    let seat = c.args.self.now in
    let r = c.args.release.now in
    let free = c.in_default.field-0 in
    let answers = subst (λ (n : ℕ). Answers setting old new n (Free r.tree r.range r.first 0) (Ok free)) c.number.ensures
    (subst (Answers setting old new c.number.result (Free r.tree r.range r.first 0)) c.in_default.is c.free.ensures.answer) in
    λ may. freed_at_once setting old new seat r free answers may.number may.all

pub returns-clause-caused : goal.returns-clause-caused
returns-clause-caused g c =
    let setting = g.Y.Yard.setting c.args.yard.now in
    let old = g.Y.Pass.Pass.view c.args.pass.now in
    let new = g.Y.Pass.Pass.view c.free.new.pass in
    let r = c.args.release.now in
    is_caused_by setting old new c.number.result (Free r.tree r.range r.first 0) c.in-Err.fault
    (subst (Answers setting old new c.number.result (Free r.tree r.range r.first 0)) c.in-Err.is c.free.ensures.answer)

pub returns-clause-alone : goal.returns-clause-alone
returns-clause-alone g c =
    let setting = g.Y.Yard.setting c.args.yard.now in
    let old = g.Y.Pass.Pass.view c.args.pass.now in
    let new = g.Y.Pass.Pass.view c.free.new.pass in
    let turn = c.args.self.now.turn in
    let r = c.args.release.now in
    let fault = c.in-Err.fault in
    let answers = subst (λ (n : ℕ). Answers setting old new n (Free r.tree r.range r.first 0) (Err fault)) c.number.ensures
    (subst (Answers setting old new c.number.result (Free r.tree r.range r.first 0)) c.in-Err.is c.free.ensures.answer) in
    λ may. freed_or_short setting old new turn r fault answers may
