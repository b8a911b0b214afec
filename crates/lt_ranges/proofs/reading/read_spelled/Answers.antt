use Rattle.std.proofs.Common.{◌≤◌, length, rules}
use Rattle.lt_ranges.proofs.ReadSoFar.{kept_few, unread, one_past, one_more, read_all, read_past}
use Rattle.lt_ranges.proofs.reading.read_spelled.Goals as goal

pub returns-in_default-clause-fault : goal.returns-in_default-clause-fault
returns-in_default-clause-fault c = unread c.loop-rest.invariant (search rules) c.in_default.ensures.none

pub push-requires : goal.push-requires
push-requires c =
    let few : length c.loop-rest.stored ≤ 63 = kept_few c.loop-rest.invariant in
    search rules

pub loop-rest-preserved-then-is_full : goal.loop-rest-preserved-then-is_full
loop-rest-preserved-then-is_full c =
    one_past c.loop-rest.invariant c.in-Some.byte c.in-Some.behind.now c.in-Some.ensures.value.0 c.in-Some.ensures.value.1 (search rules)

pub loop-rest-preserved : goal.loop-rest-preserved
loop-rest-preserved c =
    let few : length c.loop-rest.stored ≤ 63 = kept_few c.loop-rest.invariant in
    rw c.push.ensures
    (one_more c.loop-rest.invariant c.in-Some.byte c.in-Some.behind.now c.in-Some.ensures.value.0 c.in-Some.ensures.value.1 (search rules))

pub returns-then-is_long-clause-fault : goal.returns-then-is_long-clause-fault
returns-then-is_long-clause-fault c = read_past c.loop-rest.invariant (search rules) c.if-is_long.true

pub returns-else-is_long-clause-value : goal.returns-else-is_long-clause-value
returns-else-is_long-clause-value c = rw c.of.ensures (read_all c.loop-rest.invariant (search rules) c.if-is_long.false)
