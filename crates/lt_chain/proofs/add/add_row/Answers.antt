use Rattle.std.proofs.Common.{subst}
use Rattle.lt_ranges.specs.Interval.{Interval}
use Rattle.lt_rows.specs.Handles.{knows}
use Rattle.lt_tree.proofs.ViewLaws.{rows_on, keeps_on}
use Rattle.lt_chain.specs.Images.{AddsRow}
use Rattle.lt_chain.proofs.AddLaws.{ask_on, may_on}
use Rattle.lt_chain.proofs.add.add_row.Goals as goal

pub commit_row-requires-clause-may : goal.commit_row-requires-clause-may
commit_row-requires-clause-may c =
    may_on c.args.table.now.plan (knows c.args.pass.now) (knows c.take_front.new.pass) c.args.tree c.args.event.now.txn c.args.count c.requires.anchor c.in-Ok.ensures.kept c.requires.may

pub commit_row-requires-clause-adds : goal.commit_row-requires-clause-adds
commit_row-requires-clause-adds c =
    let ask = c.requires.event in (
      ask_on c.args.pass.now.number c.take_front.new.pass.number c.args.tree c.args.event.now c.in-Ok.ensures.of.1.0 ask,
      subst (λ (r : Interval). AddsRow c.in-Ok.loaded c.args.event.now.txn c.args.count r c.with_row-images.result) (c.asked.ensures.range c.args.pass.now.number c.args.tree ask) c.with_row-images.ensures,
    )

pub returns-in-Ok-clause-made : goal.returns-in-Ok-clause-made
returns-in-Ok-clause-made c =
    let m = c.commit_row.ensures.made in
    record {
      full = m.full;
      made = m.made;
      plan = m.plan;
      takes = rows_on (knows c.args.pass.now) (knows c.take_front.new.pass) m.full c.in-Ok.ensures.only m.takes;
      keeps = keeps_on (knows c.args.pass.now) (knows c.take_front.new.pass) m.full c.in-Ok.ensures.kept m.keeps;
      commits = m.commits;
      puts = m.puts;
      none = m.none;
    }
