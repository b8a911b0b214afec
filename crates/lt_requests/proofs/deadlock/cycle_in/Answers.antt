use Rattle.std.proofs.Common.{sym, subst, ap, ◌∙◌, Some}
use Rattle.lt_waits.specs.Walks.{HasNoClosedWalk, IsLeastWalk}
use Rattle.lt_requests.specs.Walks.{edges_along}
use Rattle.lt_requests.proofs.DeadlockLaws.{cycle_some, cycle_none, at_some, at_none}
use Rattle.lt_requests.proofs.deadlock.cycle_in.Goals as goal

pub returns-in-Some : goal.returns-in-Some
returns-in-Some c =
    let least = at_some c.in_ok-walk.field-0 c.in-Some.walk (HasNoClosedWalk c.in_ok-graph.graph c.args.txn) (λ walk. IsLeastWalk c.in_ok-graph.graph c.args.txn walk.items) c.in-Some.is c.in_ok-walk.ensures in
    let least_of_all = subst (λ g. IsLeastWalk g c.args.txn c.in-Some.walk.items) c.in_ok-graph.ensures least in
    ap Some (c.of.ensures ∙ c.in_ok-along-in-Some.ensures ∙ ap (λ w. edges_along c.args.edges.now w) c.deref.ensures.value) ∙ sym (cycle_some c.args.edges.now c.args.txn c.in-Some.walk.items least_of_all)

pub returns : goal.returns
returns c =
    let none = at_none c.in_ok-walk.field-0 (HasNoClosedWalk c.in_ok-graph.graph c.args.txn) (λ walk. IsLeastWalk c.in_ok-graph.graph c.args.txn walk.items) c.in-None.is c.in_ok-walk.ensures in
    sym (cycle_none c.args.edges.now c.args.txn (subst (λ g. HasNoClosedWalk g c.args.txn) c.in_ok-graph.ensures none))
