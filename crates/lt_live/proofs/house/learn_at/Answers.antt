use Rattle.std.proofs.Common.{rules}
use Rattle.lt_live.proofs.HouseLaws.{learns_fit}
use Rattle.lt_live.proofs.house.learn_at.Goals as goal

pub returns-then-lent-passes-clause-fit : goal.returns-then-lent-passes-clause-fit
returns-then-lent-passes-clause-fit g c =
    let view = g.Y.Pass.Pass.view in
    let note = g.Y.Note.Note.view c.in-Some.lent.note in
    learns_fit (g.Y.Yard.setting c.args.yard.now) (view c.args.pass.now) (view c.learn.new.pass) note
    (search rules) c.learn.ensures.learns c.requires.fit
