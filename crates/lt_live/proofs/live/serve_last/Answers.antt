use Rattle.lt_live.proofs.LiveLaws.{served_hears}
use Rattle.lt_live.proofs.live.serve_last.Goals as goal

pub returns-clause-serves : goal.returns-clause-serves
returns-clause-serves g c =
    let seen = g.Y.Pass.Pass.view in
    let setting = g.Y.Yard.setting c.args.yard.now in
    λ goes. served_hears setting c.args.lines.now _ _ _ _ (c.serve.ensures.serves goes) c.gather_all.ensures.hears
