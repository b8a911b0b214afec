use Rattle.std.proofs.Common.{sym, subst}
use Rattle.std.specs.Prelude.{slice_index}
use Rattle.lt_rows.specs.Handles.{knows}
use Rattle.lt_rows.specs.declared.view.View.{View}
use Rattle.lt_chain.specs.Images.{MayAdd}
use Rattle.lt_chain.proofs.AddLaws.{may_append}
use Rattle.lt_chain.proofs.add.append.Goals as goal

pub add_row-requires-clause-may : goal.add_row-requires-clause-may
add_row-requires-clause-may c =
    subst (λ (v : View). MayAdd c.args.table.now.plan v c.args.tree c.args.event.now.txn (slice_index c.load_row-anchor.result.words 20)) (sym c.load_row-anchor.ensures.same)
    (may_append c.args.table.now.plan (knows c.args.pass.now) c.args.tree c.args.event.now.txn c.requires.appends.0 c.load_row-anchor.result.words c.requires.anchor c.load_row-anchor.ensures.words.1 c.requires.appends.1)
