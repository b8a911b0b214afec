use Rattle.std.proofs.Common.{◌≡◌, ◌≤◌, ◌++◌, length}
use Rattle.lt_script.specs.Grammar.{IsFront}
use Rattle.lt_script.specs.Reading.{front_of, body_text}
use Rattle.lt_script.proofs.reading.read_body.Given as goal

-- the moves so far have no fault, and what is left stands behind their lines
abbrev pub invariant-loop-rest : goal.invariant-loop-rest
invariant-loop-rest l = record {
  front : IsFront (front_of l.limit l.body);
  split : l.fn.bytes ≡ body_text l.body ++ l.rest;
  room : length l.body ≤ 65536;
}

abbrev pub decreases-loop-rest : goal.decreases-loop-rest
decreases-loop-rest l = length l.rest
