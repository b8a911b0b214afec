use Rattle.std.proofs.Common.{◌≡◌, List, ◌++◌, map, false, rules, sym, subst, refl}
use Rattle.std.specs.List.{All}
use Rattle.lt_crew.specs.declared.worker.Worker.{Worker}
use Rattle.lt_crew.proofs.PairLaws.{all_more, moved_on}
use Rattle.lt_crew.proofs.passes.idle_workers.Goals as goal

pub loop-pass-preserved : goal.loop-pass-preserved
loop-pass-preserved g c = record {
  own = subst (λ (ws : List (Worker g.row.P.Denot)). map (λ w. w.pass) ws ++ c.next.new.self.rest.items ≡ c.args.passes.items)
      (sym c.in_ok-push.ensures.items)
      (moved_on (λ w. w.pass) c.loop-pass.workers.items _ c.loop-pass.pass-iterator.rest.items c.next.new.self.rest.items c.args.passes.items
      c.loop-pass.invariant.own (search rules));
  memory = subst (All (λ w. w.short ≡ false)) (sym c.in_ok-push.ensures.items)
      (all_more (λ w. w.short ≡ false) c.loop-pass.workers.items _ c.loop-pass.invariant.memory refl);
}
