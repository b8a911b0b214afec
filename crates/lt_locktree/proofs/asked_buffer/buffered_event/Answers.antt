use Rattle.std.proofs.Common.{rules, refl}
use Rattle.lt_ranges.specs.Interval.{IsInterval}
use Rattle.lt_locktree.proofs.asked_buffer.buffered_event.Goals as goal

pub returns-clause-asks : goal.returns-clause-asks
returns-clause-asks c =
    let question : IsInterval c.args.asking.now.range = search rules in
    record { range = c.args.asking.now.range; pass_is = refl; txn = c.requires.txn; question = question; deed = refl }
