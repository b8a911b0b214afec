use Rattle.std.proofs.Common.{◌≡◌, ◌++◌, take}
use Rattle.lt_requests.specs.Search.{new_wishes}
use Rattle.lt_requests.specs.Questions.{AreKept}
use Rattle.lt_requests.proofs.questions.Questions.list.Given as goal

abbrev pub invariant-loop-wish : goal.invariant-loop-wish
invariant-loop-wish l = record {
  listed : l.self.listed.items ≡ l.fn.self.listed.items ++ new_wishes l.txn l.fn.self.listed.items (take l.wish-index l.named);
  edges : l.self.edges ≡ l.fn.self.edges;
  kept : AreKept l.registry l.self.listed.items l.self.asked;
}
