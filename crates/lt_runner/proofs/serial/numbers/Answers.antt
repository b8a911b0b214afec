use Rattle.lt_runner.proofs.PlaceLaws.{numbers_onward}
use Rattle.lt_runner.proofs.serial.numbers.Goals as goal

pub loop-line-preserved : goal.loop-line-preserved
loop-line-preserved c = numbers_onward c.args.lines.now c.loop-line.line-index c.line-item.result _ _ _ c.loop-line-test.true c.line-item.is c.in_ok-insert.ensures.keys c.loop-line.invariant
