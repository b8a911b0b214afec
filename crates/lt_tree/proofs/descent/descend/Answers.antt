use Rattle.lt_rows.specs.Handles.{knows}
use Rattle.lt_tree.proofs.ViewLaws.{refused_held, rows_held}
use Rattle.lt_tree.proofs.SeenLaws.{seen_then}
use Rattle.lt_tree.proofs.PuttingLaws.{backs_none}
use Rattle.lt_tree.proofs.ArrivalLaws.{stays_after}
use Rattle.lt_tree.proofs.descent.descend.Goals as goal

pub returns-in-Ok-clause-only : goal.returns-in-Ok-clause-only
returns-in-Ok-clause-only c =
    seen_then (knows c.args.pass.now) (knows c.go_down.new.pass) (knows c.put_all.new.pass) c.in-Ok.ensures.only
    (rows_held (knows c.go_down.new.pass) (knows c.put_all.new.pass) c.put_all.ensures.put.only)

pub returns-in-Ok-clause-stays : goal.returns-in-Ok-clause-stays
returns-in-Ok-clause-stays c =
    stays_after (knows c.go_down.new.pass) (knows c.put_all.new.pass) c.args.anchor.now.row c.args.asked.now c.in-Ok.stop.here c.in-Ok.stop.child
    c.go_down.new.above.items c.in-Ok.ensures.arrives c.put_all.ensures.put

pub returns-in-Err-clause-only : goal.returns-in-Err-clause-only
returns-in-Err-clause-only c =
    seen_then (knows c.args.pass.now) (knows c.go_down.new.pass) (knows c.put_all-in-Err.new.pass) c.in-Err.ensures.only
    (rows_held (knows c.go_down.new.pass) (knows c.put_all-in-Err.new.pass) c.put_all-in-Err.ensures.put.only)

pub returns-in-Err-clause-refused : goal.returns-in-Err-clause-refused
returns-in-Err-clause-refused c =
    refused_held (knows c.args.pass.now) (knows c.go_down.new.pass) (knows c.put_all-in-Err.new.pass) c.in-Err.fault c.in-Err.ensures.refused
    c.put_all-in-Err.ensures.put.only

pub returns-in-Err-clause-none : goal.returns-in-Err-clause-none
returns-in-Err-clause-none c =
    backs_none (knows c.go_down.new.pass) (knows c.put_all-in-Err.new.pass) c.go_down.new.above.items c.in-Err.ensures.backs
    c.put_all-in-Err.ensures.put
