use Rattle.std.proofs.Common.{sym, ap, subst, ◌∙◌, ◌-◌, ◌∷◌}
use Rattle.lt_range_buffer.specs.Records.{AreRecords, ranges_in, behind_range}
use Rattle.lt_range_buffer.proofs.RecordLaws.{first_below, split_first}
use Rattle.lt_range_buffer.proofs.range_iter.RangeIterIterator.next.Goals as goal

pub read_range-range-requires : goal.read_range-range-requires
read_range-range-requires c = (first_below _ _ c.self.invariant c.if-self-eq0.false).has

pub invariant_of-self : goal.invariant_of-self
invariant_of-self c = subst (λ b. AreRecords (c.self.inside.left - 1) b) (sym c.read_range-range.ensures.rest) (first_below _ _ c.self.invariant c.if-self-eq0.false).rest

pub returns-clause-steps : goal.returns-clause-steps
returns-clause-steps c =
    sym c.self.view_is
    ∙ split_first c.self.inside.left c.self.inside.bytes.now c.if-self-eq0.false
    ∙ ap (λ r. r ∷ ranges_in (c.self.inside.left - 1) (behind_range c.self.inside.bytes.now)) (sym c.read_range-range.ensures.range)
    ∙ ap (λ b. c.read_range-range.result.0 ∷ ranges_in (c.self.inside.left - 1) b) (sym c.read_range-range.ensures.rest)
