use Rattle.std.proofs.Common.{arith, sym, subst, ap, ◌∙◌, ◌++◌, ◌≤◌, length, length-append}
use Rattle.lt_seq.specs.Questions.{named_in}
use Rattle.lt_requests.specs.Walks.{cycle_of}
use Rattle.lt_requests.specs.Search.{wishes_of, new_wishes, edges_of}
use Rattle.lt_requests.proofs.QuestionLaws.{listed_fewer}
use Rattle.lt_requests.proofs.SearchLaws.{going_more, going_first, going_ends, cut_by, first_are, may_more, may_first}
use Rattle.lt_requests.proofs.search.search.Goals as goal

pub loop-next-init : goal.loop-next-init
loop-next-init g c =
    let is = c.in_default.ensures in
    let first = wishes_of c.args.owners.now c.args.registry.now in
    let listed = is.listed ∙ ap (λ l. l ++ new_wishes c.args.txn l first) c.new-questions.ensures.listed ∙ first_are c.args.txn c.args.owners.now c.args.registry.now c.requires.others in
    let edges = is.edges ∙ ap (λ l. l ++ edges_of c.args.txn c.args.place first) c.new-questions.ensures.edges in
    record {
      of = c.requires.of;
      right = c.requires.right;
      going = going_first _ _ _ first _ _ (edges_of c.args.txn c.args.place first) _ listed edges;
      kept = is.kept;
      may = may_first _ c.args.owners.now _ _ c.requires.may listed;
      within = omega arith;
    }

pub returns-in-Err-ask_for-clause-answer : goal.returns-in-Err-ask_for-clause-answer
returns-in-Err-ask_for-clause-answer g c =
    cut_by _ _ _ c.args.owners.now _ _ _ c.loop-next.questions.listed.items c.loop-next.next _ _ c.index.result.now _ (omega (arith, c.loop-next-test.true, c.len.ensures)) c.index.ensures c.loop-next.invariant.going c.in-Err-ask_for.ensures.fault

pub loop-next-smaller : goal.loop-next-smaller
loop-next-smaller g c = omega (arith, listed_fewer _ _ _ c.loop-next.invariant.kept, c.loop-next-test.true, c.len.ensures)

pub loop-next-preserved : goal.loop-next-preserved
loop-next-preserved g c =
    let was = c.loop-next.invariant in
    let is = c.in_default-ask_for.ensures in
    record {
      of = is.of;
      right = subst (λ n. 1 ≤ n) (sym is.asked.happens.rights) was.right;
      going = going_more _ _ _ _ _ _ _ _ _ c.loop-next.next _ _ _ c.index.result.now (omega (arith, c.loop-next-test.true, c.len.ensures)) c.index.ensures was.going is.asked;
      kept = is.kept;
      may = may_more _ c.args.txn c.args.registry.now c.loop-next.questions.listed.items c.ask_for.new.questions.listed.items (named_in is.asked.receipt.event.deed) c.requires.may was.may is.asked.listed_is;
      within = omega (arith, c.loop-next-test.true, c.len.ensures, ap length is.asked.listed_is, length-append c.loop-next.questions.listed.items (new_wishes c.args.txn c.loop-next.questions.listed.items (wishes_of (named_in is.asked.receipt.event.deed) c.args.registry.now)));
    }

pub returns-in-Ok-clause-answer : goal.returns-in-Ok-clause-answer
returns-in-Ok-clause-answer g c = going_ends _ _ _ _ _ _ _ _ c.loop-next.next _ c.in-Ok.found c.loop-next.invariant.going (omega (arith, c.loop-next-test.false, c.len.ensures)) (c.in-Ok.ensures ∙ ap (λ l. cycle_of l c.args.txn) c.deref.ensures.value)
