use Rattle.std.proofs.Common.{sym, ap, ◌∙◌, length}
use Rattle.lt_range_buffer.proofs.RecordLaws.{count_is}
use Rattle.lt_range_buffer.proofs.range_buffer.RangeBuffer.len.Goals as goal

pub returns : goal.returns
returns c = sym (count_is c.self.inside.len c.self.inside.bytes.items) ∙ ap length c.self.view_is
