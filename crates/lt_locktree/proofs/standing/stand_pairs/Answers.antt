use Rattle.lt_locktree.proofs.EndedRows.{none_stood, stood_next, stood_whole}
use Rattle.lt_locktree.proofs.standing.stand_pairs.Goals as goal

pub loop-at-init : goal.loop-at-init
loop-at-init c = none_stood c.args.rows.now c.args.pairs.now c.new-stood.result.items c.new-stood.ensures.items

pub loop-at-preserved : goal.loop-at-preserved
loop-at-preserved c =
    stood_next c.args.rows.now c.args.pairs.now c.loop-at.stood.items c.push.new.self.items c.loop-at.at c.index-pairs-at.result
    c.loop-at-test.true c.requires.enough c.loop-at.invariant c.index-pairs-at.is c.in_ok-push.ensures.items

pub returns : goal.returns
returns c =
    stood_whole c.args.rows.now c.args.pairs.now c.loop-at.stood.items c.loop-at.at c.loop-at-test.false c.loop-at.invariant
