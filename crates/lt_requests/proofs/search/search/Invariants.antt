use Rattle.std.proofs.Common.{◌≡◌, ◌-◌, ◌≤◌, length}
use Rattle.lt_seq.specs.Yard.{origin_of}
use Rattle.lt_requests.specs.Registered.{MayAsk}
use Rattle.lt_requests.specs.Search.{wishes_of, edges_of}
use Rattle.lt_requests.specs.Questions.{AreKept}
use Rattle.lt_requests.specs.Started.{IsGoing}
use Rattle.lt_requests.proofs.search.search.Given as goal

abbrev pub invariant-loop-next : goal.invariant-loop-next
invariant-loop-next g l =
    let setting = g.Y.Yard.setting l.yard in
    let first = wishes_of l.owners l.registry in
    record {
      of : g.Y.Pass.Pass.origin l.pass ≡ origin_of (g.Y.Yard.identity l.yard) setting;
      right : 1 ≤ (g.Y.Pass.Pass.view l.pass).rights;
      going : IsGoing setting l.txn l.registry first (g.Y.Pass.Pass.view l.fn.pass) (g.Y.Pass.Pass.view l.pass) l.questions.listed.items l.next (edges_of l.txn l.place first) l.questions.edges.items;
      kept : AreKept l.registry l.questions.listed.items l.questions.asked;
      may : MayAsk setting.plan.trees l.questions.listed.items;
      within : l.next ≤ length l.questions.listed.items;
    }

abbrev pub decreases-loop-next : goal.decreases-loop-next
decreases-loop-next g l = length l.registry - l.next
