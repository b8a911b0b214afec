use Rattle.std.proofs.Common.{◌≡◌, ◌++◌, take}
use Rattle.lt_requests.specs.Search.{edges_of}
use Rattle.lt_requests.proofs.questions.Questions.draw.Given as goal

abbrev pub invariant-loop-wish : goal.invariant-loop-wish
invariant-loop-wish l = record {
  edges : l.self.edges.items ≡ l.fn.self.edges.items ++ edges_of l.waiter l.place (take l.wish-index l.named);
  listed : l.self.listed ≡ l.fn.self.listed;
  asked : l.self.asked ≡ l.fn.self.asked;
}
