use Rattle.lt_trace.proofs.GeneratorLaws.{ending_step}
use Rattle.lt_trace.proofs.generator.push_ending.Goals as goal

pub loop-index-preserved : goal.loop-index-preserved
loop-index-preserved c =
    ending_step c.args.out.now.items c.loop-index.out.items c.push.new.self.items c.args.lines c.loop-index.index c.from.result
    c.loop-index.invariant c.from.ensures c.in_ok-push.ensures.items
