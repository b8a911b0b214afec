use Rattle.std.proofs.Common.{arith, sym, subst}
use Rattle.lt_waits.specs.declared.wait.Wait.{Wait}
use Rattle.lt_waits.specs.Steps.{steps_in, IsNext}
use Rattle.lt_waits.proofs.StepLaws.{changes, changes_add, search_step, step_fewer, next_grows, grows_then, adds_then, opened_more, all_opened}
use Rattle.lt_waits.proofs.search.open.Goals as goal

pub loop-wait-preserved : goal.loop-wait-preserved
loop-wait-preserved c =
    let d : Wait = record { waiter = 0; holder = 0 } in
    let was = c.loop-wait.invariant in
    let taken = c.in_ok-take_step.ensures in
    let only = c.edges_to-wait-items.ensures.only c.loop-wait.wait-index d c.loop-wait-test.true in
    let next = subst (λ h. IsNext c.args.txn (steps_in c.loop-wait.steps) h c.args.left) (sym only.0) (next_grows _ _ _ was.grows _ _ c.requires.next) in
    let ch = changes _ _ _ _ _ _ _ _ was.search taken in
    record {
      search = search_step _ _ _ _ _ _ _ _ was.search taken only.1 next;
      grows = grows_then _ _ _ was.grows ch.grows;
      adds = adds_then _ _ _ _ was.adds (changes_add _ _ _ _ _ _ ch);
      opened = opened_more c.edges_to-wait-items.result.now c.loop-wait.wait-index c.args.holder c.args.left d (steps_in c.loop-wait.steps) (steps_in c.take_step.new.steps) ch.grows c.loop-wait-test.true only.0 ch.has was.opened;
      fewer = omega (arith, was.fewer, step_fewer _ _ _ _ _ _ _ _ was.search taken only.1);
    }

pub returns-clause-opened : goal.returns-clause-opened
returns-clause-opened c = all_opened _ _ _ _ _ _ c.edges_to-wait-items.ensures c.loop-wait-test.false c.loop-wait.invariant.opened
