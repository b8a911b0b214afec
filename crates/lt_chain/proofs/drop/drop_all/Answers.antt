use Rattle.lt_rows.specs.Handles.{knows}
use Rattle.lt_tree.proofs.ViewLaws.{rows_on, keeps_on}
use Rattle.lt_chain.proofs.DropLaws.{shows_on, frees_on}
use Rattle.lt_chain.proofs.drop.drop_all.Goals as goal

pub commit_drop-requires-clause-buffer : goal.commit_drop-requires-clause-buffer
commit_drop-requires-clause-buffer c =
    let h = c.requires.chain in
    shows_on (knows c.args.pass.now) (knows c.take_ends.new.pass) c.args.tree c.args.rows.now h.backs c.in-Ok.ensures.kept h.shows

pub commit_drop-requires-clause-event : goal.commit_drop-requires-clause-event
commit_drop-requires-clause-event c =
    let h = c.requires.chain in
    frees_on c.args.pass.now.number c.take_ends.new.pass.number c.args.tree (knows c.args.pass.now) (knows c.take_ends.new.pass) c.args.rows.now c.args.event.now
    c.in-Ok.ensures.of.1.0 h.backs c.in-Ok.ensures.kept c.requires.event

pub returns-in-Ok-clause-made : goal.returns-in-Ok-clause-made
returns-in-Ok-clause-made c =
    let m = c.commit_drop.ensures.made in
    record {
      full = m.full;
      made = m.made;
      plan = m.plan;
      takes = rows_on (knows c.args.pass.now) (knows c.take_ends.new.pass) m.full c.in-Ok.ensures.only m.takes;
      keeps = keeps_on (knows c.args.pass.now) (knows c.take_ends.new.pass) m.full c.in-Ok.ensures.kept m.keeps;
      commits = m.commits;
      puts = m.puts;
      none = m.none;
    }
