use Rattle.std.proofs.Common.{◌≡◌}
use Rattle.lt_seq.specs.SeqPass.{plain}
use Rattle.lt_seq.specs.SeqCalls.{HasJoined}
use Rattle.lt_seq.proofs.seq_calls.join_all.Given as goal

abbrev pub invariant-loop-tree : goal.invariant-loop-tree
invariant-loop-tree l = (l.pass.plan ≡ l.fn.pass.plan) × HasJoined (plain l.fn.pass.plan) l._bar l.fn.pass.view l.pass.view l.txn l.tree
