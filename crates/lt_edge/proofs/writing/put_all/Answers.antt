use Rattle.std.proofs.Common.{arith}
use Rattle.lt_edge.proofs.ByteLemmas.{puts_more, puts_within}
use Rattle.lt_edge.proofs.writing.put_all.Goals as goal

pub puts-preserved : goal.puts-preserved
puts-preserved g c = (
  puts_more c.puts.at c.in_ok-n.n c.args.bytes.now _ _ _ c.puts.invariant.0 c.in_ok-n.ensures.bytes.taken,
  puts_within c.puts.at c.in_ok-n.n c.args.bytes.now c.puts.invariant.1 c.in_ok-n.ensures.bytes.bound,
  omega (arith, c.in_ok-n.ensures.cause.calm),
)
