use Rattle.std.proofs.Common.{◌≡◌, ◌≤◌, ◌++◌, length}
use Rattle.lt_trace.specs.Grammar.{IsFront}
use Rattle.lt_trace.specs.Reading.{front_of, body_text}
use Rattle.lt_trace.proofs.reading.read_body.Given as goal

-- the lines so far have no fault, and what is left stands behind them
abbrev pub invariant-loop-rest : goal.invariant-loop-rest
invariant-loop-rest l = record {
  front : IsFront (front_of l.header l.body);
  split : l.fn.bytes ≡ body_text l.body ++ l.rest;
  room : length l.body ≤ 65536;
}

abbrev pub decreases-loop-rest : goal.decreases-loop-rest
decreases-loop-rest l = length l.rest
