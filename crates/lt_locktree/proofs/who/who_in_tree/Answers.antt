use Rattle.lt_rows.specs.Handles.{knows}
use Rattle.lt_tree.proofs.SeenLaws.{seen_then}
use Rattle.lt_tree.proofs.ViewLaws.{rows_held}
use Rattle.lt_locktree.proofs.who.who_in_tree.Goals as goal

pub returns-in-Ok-ask_who-clause-made : goal.returns-in-Ok-ask_who-clause-made
returns-in-Ok-ask_who-clause-made c =
    let made = c.in-Ok-ask_who.ensures.made in (
      (knows c.in-Ok.locked.pass, c.in-Ok.ensures.same.1, made.0),
      made.1,
    )

pub returns-in-Err-ask_who-clause-only : goal.returns-in-Err-ask_who-clause-only
returns-in-Err-ask_who-clause-only c =
    let u = knows c.in-Ok.locked.pass in
    let w = knows c.in-Err-ask_who.pass in
    seen_then (knows c.args.prepared.pass) u w c.in-Ok.ensures.same.1 (rows_held u w c.in-Err-ask_who.ensures.handed.3)
