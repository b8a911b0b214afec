use Rattle.std.proofs.Common.{◌≡◌, [], Err, subst}
use Rattle.lt_seq.specs.declared.fault.Fault.{Fault}
use Rattle.lt_runner.specs.PlaysOn.{IsFit, PlaysOn, UnlessShort}
use Rattle.lt_live.proofs.GoingLaws.{goes_on}
use Rattle.lt_live.proofs.LiveLaws.{plays_here}
use Rattle.lt_live.proofs.alone.play_once.Goals as goal

unless_short : (fault known : Fault) (P : Type 0) → fault ≡ known → UnlessShort (Err fault) P → UnlessShort (Err known) P
unless_short fault known P same holds = subst (λ (f : Fault). UnlessShort (Err f) P) same holds

pub returns-in-Ok-Played-clause-may : goal.returns-in-Ok-Played-clause-may
returns-in-Ok-Played-clause-may g c =
    goes_on (g.Y.Yard.setting c.args.yard.now) _ _ c.args.turn.now c.play.new.self c.requires.may
    c.in-Ok-Played.ensures.fit c.in-Ok-Played.ensures.plays

pub returns-in-Ok-Played-clause-plays : goal.returns-in-Ok-Played-clause-plays
returns-in-Ok-Played-clause-plays g c =
    plays_here (g.Y.Yard.setting c.args.yard.now) [] _ _ c.args.turn.now c.play.new.self tt c.in-Ok-Played.ensures.plays

pub returns-in-Ok-Ended-clause-may : goal.returns-in-Ok-Ended-clause-may
returns-in-Ok-Ended-clause-may g c =
    goes_on (g.Y.Yard.setting c.args.yard.now) _ _ c.args.turn.now c.play.new.self c.requires.may
    c.in-Ok-Ended.ensures.fit c.in-Ok-Ended.ensures.plays

pub returns-in-Ok-Ended-clause-plays : goal.returns-in-Ok-Ended-clause-plays
returns-in-Ok-Ended-clause-plays g c =
    plays_here (g.Y.Yard.setting c.args.yard.now) [] _ _ c.args.turn.now c.play.new.self tt c.in-Ok-Ended.ensures.plays

pub returns-in-Ok-Held-clause-may : goal.returns-in-Ok-Held-clause-may
returns-in-Ok-Held-clause-may g c =
    goes_on (g.Y.Yard.setting c.args.yard.now) _ _ c.args.turn.now c.play.new.self c.requires.may
    c.in-Ok-Held.ensures.fit c.in-Ok-Held.ensures.plays

pub returns-in-Ok-Held-clause-plays : goal.returns-in-Ok-Held-clause-plays
returns-in-Ok-Held-clause-plays g c =
    plays_here (g.Y.Yard.setting c.args.yard.now) [] _ _ c.args.turn.now c.play.new.self tt c.in-Ok-Held.ensures.plays

pub returns-in-Err-Busy-clause-may : goal.returns-in-Err-Busy-clause-may
returns-in-Err-Busy-clause-may g c =
    let setting = g.Y.Yard.setting c.args.yard.now in
    let was = c.args.turn.now in
    let is = c.play.new.self in
    goes_on setting (g.Y.Pass.Pass.view c.args.pass.now) (g.Y.Pass.Pass.view c.play.new.pass) was is c.requires.may
    (unless_short _ _ (IsFit setting is) c.in-Err-Busy.field-0-is c.in-Err-Busy.ensures.fit)
    (unless_short _ _ (PlaysOn setting [] (g.Y.Pass.Pass.view c.args.pass.now) (g.Y.Pass.Pass.view c.play.new.pass) was is)
    c.in-Err-Busy.field-0-is c.in-Err-Busy.ensures.plays)

pub returns-in-Err-Busy-clause-plays : goal.returns-in-Err-Busy-clause-plays
returns-in-Err-Busy-clause-plays g c =
    let setting = g.Y.Yard.setting c.args.yard.now in
    let was = c.args.turn.now in
    let is = c.play.new.self in
    plays_here setting [] (g.Y.Pass.Pass.view c.args.pass.now) (g.Y.Pass.Pass.view c.play.new.pass) was is tt
    (unless_short _ _ (PlaysOn setting [] (g.Y.Pass.Pass.view c.args.pass.now) (g.Y.Pass.Pass.view c.play.new.pass) was is)
    c.in-Err-Busy.field-0-is c.in-Err-Busy.ensures.plays)

pub returns-in-Err-HistoryFull-clause-may : goal.returns-in-Err-HistoryFull-clause-may
returns-in-Err-HistoryFull-clause-may g c =
    let setting = g.Y.Yard.setting c.args.yard.now in
    let was = c.args.turn.now in
    let is = c.play.new.self in
    goes_on setting (g.Y.Pass.Pass.view c.args.pass.now) (g.Y.Pass.Pass.view c.play.new.pass) was is c.requires.may
    (unless_short _ _ (IsFit setting is) c.in-Err-HistoryFull.field-0-is c.in-Err-HistoryFull.ensures.fit)
    (unless_short _ _ (PlaysOn setting [] (g.Y.Pass.Pass.view c.args.pass.now) (g.Y.Pass.Pass.view c.play.new.pass) was is)
    c.in-Err-HistoryFull.field-0-is c.in-Err-HistoryFull.ensures.plays)

pub returns-in-Err-HistoryFull-clause-plays : goal.returns-in-Err-HistoryFull-clause-plays
returns-in-Err-HistoryFull-clause-plays g c =
    let setting = g.Y.Yard.setting c.args.yard.now in
    let was = c.args.turn.now in
    let is = c.play.new.self in
    plays_here setting [] (g.Y.Pass.Pass.view c.args.pass.now) (g.Y.Pass.Pass.view c.play.new.pass) was is tt
    (unless_short _ _ (PlaysOn setting [] (g.Y.Pass.Pass.view c.args.pass.now) (g.Y.Pass.Pass.view c.play.new.pass) was is)
    c.in-Err-HistoryFull.field-0-is c.in-Err-HistoryFull.ensures.plays)
