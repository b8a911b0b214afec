use Rattle.lt_runner.proofs.HeadlineLaws.{serial_text}
use Rattle.lt_runner.proofs.laws.serial_is_a_run.Goals as goal

pub returns : goal.returns
returns c = serial_text
