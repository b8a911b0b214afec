use Rattle.lt_rows.specs.Handles.{knows}
use Rattle.lt_locktree.proofs.TakenBuffers.{shows_owner}
use Rattle.lt_locktree.proofs.buffer_taken.owner_of.Goals as goal

pub returns-clause-owner : goal.returns-clause-owner
returns-clause-owner c =
    shows_owner (knows c.args.pass.now) c.args.tree c.owner.result c.load_row.result.words c.requires.anchor c.requires.buffer
    c.load_row.ensures.words.1 c.owner.ensures
