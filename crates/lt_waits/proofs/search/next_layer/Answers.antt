use Rattle.std.proofs.Common.{arith, refl}
use Rattle.lt_waits.specs.Steps.{steps_in}
use Rattle.lt_waits.proofs.StepLaws.{grows_then}
use Rattle.lt_waits.proofs.LayerLaws.{here_more, here_all}
use Rattle.lt_waits.proofs.search.next_layer.Goals as goal

pub loop-holder-preserved : goal.loop-holder-preserved
loop-holder-preserved c =
    let was = c.loop-holder.invariant in
    let is = c.in_ok-open.ensures in
    record {
      search = is.search;
      grows = grows_then _ _ _ was.grows is.grows;
      here = here_more c.args.by_holder.now c.args.txn c.args.left (steps_in c.loop-holder.steps) (steps_in c.open.new.steps) c.args.layer.now c.loop-holder.holder-index 0 _ was.here is.grows is.adds is.opened c.loop-holder-test.true refl;
      fewer = omega (arith, was.fewer, is.fewer);
    }

pub returns-clause-here : goal.returns-clause-here
returns-clause-here c = here_all _ _ _ _ _ _ c.loop-holder-test.false c.loop-holder.invariant.here
