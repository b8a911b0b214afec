use Rattle.std.proofs.Common.{◌+◌, ◌≤◌, List, length, take, sym, subst, arith}
use Rattle.std.specs.List.Sorted.{IsPermutation}
use Rattle.lt_ranges.specs.Interval.{Interval}
use Rattle.lt_seq.proofs.LawfulLaws.{others_none}
use Rattle.lt_chain.proofs.FoldOrder.{IsLeast, least_none, least_goes_on, least_ends}
use Rattle.lt_chain.proofs.pairs.granted_by_left_ends.Goals as goal

pub loop-range-init : goal.loop-range-init
loop-range-init c = subst (IsLeast c.args.txn _) (sym c.new-pairs.ensures.items) (least_none c.args.txn)

pub grant-requires-clause-unopposed : goal.grant-requires-clause-unopposed
grant-requires-clause-unopposed c = others_none c.args.txn c.range-item.result c.loop-range.pairs.items c.loop-range.invariant.own

pub loop-range-preserved : goal.loop-range-preserved
loop-range-preserved c =
    let ranges = c.deref-range-items.result.now in
    let n = c.loop-range.range-index in
    subst (IsLeast c.args.txn (take (n + 1) ranges)) (sym c.in_ok-grant.ensures.ok)
    (least_goes_on c.args.txn n c.range-item.result ranges c.loop-range.pairs.items c.loop-range-test.true c.range-item.is
    c.in_ok-grant.ensures.ordered c.loop-range.invariant)

pub returns : goal.returns
returns c =
    let asked = c.args.ranges.items in
    let sorted = c.deref-range-items.result.now in
    let moved : IsPermutation asked sorted =
    subst (λ (l : List Interval). IsPermutation asked l) (sym c.deref-range-items.ensures.value)
    c.sort_unstable_by_key.ensures.permutation in
    let all : length sorted ≤ c.loop-range.range-index = (let test = c.loop-range-test.false in omega arith) in
    least_ends c.args.txn c.loop-range.range-index asked sorted c.loop-range.pairs.items moved all c.loop-range.invariant
