use Rattle.std.proofs.Common.{rules, refl}
use Rattle.lt_runner.proofs.ListLaws.{first_of}
use Rattle.lt_runner.proofs.turn.Turn.next_number.Goals as goal

pub returns : goal.returns
returns c =
    let (rest, is) = first_of c.args.self.now.turn.lines c.in_ok-line.line.now (search rules) (search rules) in
    record { some = (c.in_ok-line.line.now, rest, is, refl); none = tt }
