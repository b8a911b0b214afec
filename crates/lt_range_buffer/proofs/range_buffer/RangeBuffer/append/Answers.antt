use Rattle.std.proofs.Common.{arith, sym, ap, subst, ◌∙◌, ◌+◌, ◌∷◌, ◌++◌, []}
use Rattle.lt_range_buffer.specs.Records.{AreRecords, ranges_in}
use Rattle.lt_range_buffer.proofs.RecordLaws.{more, count_below}
use Rattle.lt_range_buffer.proofs.range_buffer.RangeBuffer.append.Goals as goal

pub overflow_add-self : goal.overflow_add-self
overflow_add-self c = omega (arith, count_below _ _ c.self.invariant)

pub invariant_of-self-2 : goal.invariant_of-self-2
invariant_of-self-2 c = subst (λ b. AreRecords (c.self.inside.len + 1) b) (sym c.in_default.ensures.put) (more _ _ c.args.range.now c.self.invariant c.in_default.ensures.range).are

pub returns : goal.returns
returns c =
    ap (ranges_in (c.self.inside.len + 1)) c.in_default.ensures.put
    ∙ (more _ _ c.args.range.now c.self.invariant c.in_default.ensures.range).ranges
    ∙ ap (λ l. l ++ c.args.range.now ∷ []) c.self.view_is
