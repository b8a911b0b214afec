use Rattle.lt_rows.specs.Handles.{knows}
use Rattle.lt_tree.proofs.ViewLaws.{put_only, may_put}
use Rattle.lt_tree.proofs.prepare.Prepared.cancel.Goals as goal

pub returns-clause-none : goal.returns-clause-none
returns-clause-none c r =
    let h = c.args.self.prepared.2 in
    let m = may_put (knows c.args.self.pass) c.args.self.tree c.args.self.image.words h.0 in
    put_only (knows c.args.self.pass) (knows c.put.new.pass) c.args.self.tree h.2 m.0 m.1 c.put.ensures.given r
