use Rattle.std.proofs.Common.{◌∙◌}
use Rattle.lt_requests.proofs.QuestionLaws.{new_more}
use Rattle.lt_requests.proofs.questions.Questions.list.Goals as goal

pub loop-wish-preserved : goal.loop-wish-preserved
loop-wish-preserved c =
    let was = c.loop-wish.invariant in
    let is = c.in_ok-list_one.ensures in
    record {
      listed = is.listed ∙ new_more c.args.txn c.args.self.now.listed.items c.args.named.now c.loop-wish.wish-index c.wish-item.result c.requires.ascend c.loop-wish-test.true c.wish-item.is c.loop-wish.self.listed.items was.listed;
      edges = is.edges ∙ was.edges;
      kept = is.kept;
    }
