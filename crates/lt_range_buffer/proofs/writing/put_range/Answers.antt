use Rattle.std.proofs.Common.{sym, subst}
use Rattle.lt_range_buffer.specs.Records.{IsKey, IsRange}
use Rattle.lt_range_buffer.proofs.RecordLaws.{always_ok, point_is}
use Rattle.lt_range_buffer.proofs.writing.put_range.Goals as goal

pub returns-then-is_point-clause-range : goal.returns-then-is_point-clause-range
returns-then-is_point-clause-range c = always_ok c.put_key.result (IsRange c.args.range.now) (point_is c.args.range.now (sym c.if-is_point.ensures) c.left.ensures.ordered (subst IsKey c.left.ensures.value c.put_key.ensures.key))
