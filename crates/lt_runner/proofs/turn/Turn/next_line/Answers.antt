use Rattle.std.proofs.Common.{rules}
use Rattle.lt_runner.proofs.ListLaws.{first_of}
use Rattle.lt_runner.proofs.turn.Turn.next_line.Goals as goal

pub returns : goal.returns
returns c = record { some = first_of c.args.self.now.turn.lines c.in_ok-line.line.now (search rules) (search rules); none = tt }
