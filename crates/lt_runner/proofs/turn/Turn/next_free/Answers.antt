use Rattle.std.proofs.Common.{rules}
use Rattle.lt_runner.proofs.ListLaws.{first_of}
use Rattle.lt_runner.proofs.turn.Turn.next_free.Goals as goal

pub returns : goal.returns
returns c = record { some = first_of c.args.self.now.turn.releases c.in_ok-release.release.now (search rules) (search rules); none = tt }
