use Rattle.std.proofs.Common.{◌≡◌, ◌<◌, [], sym, subst, ◌∙◌}
use Rattle.lt_rows.specs.declared.row_plan.RowPlan.{RowPlan}
use Rattle.lt_rows.specs.declared.view.View.{View}
use Rattle.lt_rows.specs.Handles.{knows}
use Rattle.lt_tree.proofs.SeenLaws.{seen_plan, seen_then, refused_seen}
use Rattle.lt_locktree.specs.Serves.{BeginsNone}
use Rattle.lt_locktree.proofs.AnchorsShown.{none_begins}
use Rattle.lt_locktree.proofs.ask.ask_tree.Goals as goal

pub ask_in_tree-requires-clause-unbuffered : goal.ask_in_tree-requires-clause-unbuffered
ask_in_tree-requires-clause-unbuffered c =
    let l = c.in-Ok.locked in
    let ready = c.in-Ok.ensures in
    let u : View = knows c.args.prepared.pass in
    let v : View = knows l.pass in
    let here : l.tree < v.plan.trees = subst (λ (p : RowPlan). l.tree < p.trees) (sym l.of.0.1) l.of.2 in
    let plan : v.plan ≡ u.plan = seen_plan u v ready.same.1 in
    none_begins v l.tree l.asked l.held l.part.rows.items l.part.hangs.items [] ready.locked here ready.closed c.args.prepared.image.words
    c.args.asking.now.txn (λ at. ready.anchor (at ∙ ready.kept.1))
    (subst (λ (p : RowPlan). BeginsNone p.buffer c.args.prepared.image.words) (sym plan) c.requires.begins_none)

pub returns-in-Ok-ask_in_tree-clause-made : goal.returns-in-Ok-ask_in_tree-clause-made
returns-in-Ok-ask_in_tree-clause-made c =
    let made = c.in-Ok-ask_in_tree.ensures.made in (
      (knows c.in-Ok.locked.pass, c.in-Ok.ensures.same.1, made.0),
      made.1,
    )

pub returns-in-Err-ask_in_tree-clause-only : goal.returns-in-Err-ask_in_tree-clause-only
returns-in-Err-ask_in_tree-clause-only c =
    seen_then (knows c.args.prepared.pass) (knows c.in-Ok.locked.pass) (knows c.in-Err-ask_in_tree.pass) c.in-Ok.ensures.same.1
    c.in-Err-ask_in_tree.ensures.handed.3

pub returns-in-Err-ask_in_tree-clause-refused : goal.returns-in-Err-ask_in_tree-clause-refused
returns-in-Err-ask_in_tree-clause-refused c =
    refused_seen (knows c.args.prepared.pass) (knows c.in-Ok.locked.pass) (knows c.in-Err-ask_in_tree.pass) c.in-Err-ask_in_tree.fault
    c.in-Ok.ensures.same.1 c.in-Err-ask_in_tree.ensures.refused
