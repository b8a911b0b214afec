use Rattle.std.proofs.Common.{◌≡◌, ℕ, suc, List, ◌∷◌, ◌++◌, map, rules, sym, subst, ap, ◌∙◌, length, ◌-◌, arith}
use Rattle.std.specs.List.{All}
use Rattle.crossbeam_queue.specs.Passes.{view, IsPassOf}
use Rattle.lt_live.specs.Deals.{hand}
use Rattle.lt_live.specs.Ends.{IsFresh}
use Rattle.lt_live.specs.declared.queue.Hand.{Hand}
use Rattle.lt_live.specs.declared.worker.Worker.{Worker}
use Rattle.lt_crew.proofs.PairLaws.{all_more, moved_on}
use Rattle.lt_live.proofs.hire.hire_all.Goals as goal

-- one part less, and one pass less
one_less : (was is first : Hand) (left rest : ℕ) → left ≡ suc rest → is ≡ hand (was.parts - 1) was.put was.taken →
    hand (was.parts - left) was.put was.taken ≡ first → hand (is.parts - rest) is.put is.taken ≡ first
one_less was is first left rest more same before =
    subst (λ (h : Hand). hand (h.parts - rest) h.put h.taken ≡ first) (sym same)
    (ap (λ (n : ℕ). hand n was.put was.taken) (omega (arith, more)) ∙ before)

pub loop-pass-preserved : goal.loop-pass-preserved
loop-pass-preserved g c =
    let left : c.loop-pass.pass-iterator.rest.items ≡ c.in-Some.pass ∷ c.next.new.self.rest.items = search rules in
    record {
      queue = search rules;
      parts = omega (arith, ap length left, ap (λ (h : Hand). h.parts) c.hire.ensures.ticket, c.loop-pass.invariant.parts);
      ticket = one_less (view c.loop-pass.ticket) (view c.hire.new.ticket) _ _ _ (ap length left) c.hire.ensures.ticket c.loop-pass.invariant.ticket;
      own = subst (λ (ws : List (Worker g.row.P.Denot)). map (λ w. w.pass) ws ++ c.next.new.self.rest.items ≡ c.args.passes.items)
          (sym c.in_ok-push.ensures.items)
          (moved_on (λ w. w.pass) c.loop-pass.workers.items c.hire.result c.loop-pass.pass-iterator.rest.items c.next.new.self.rest.items
          c.args.passes.items c.loop-pass.invariant.own (left ∙ ap (λ p. p ∷ c.next.new.self.rest.items) (sym c.hire.ensures.pass)));
      fresh = subst (All (IsFresh (IsPassOf c.args.queue.now))) (sym c.in_ok-push.ensures.items)
          (all_more (IsFresh (IsPassOf c.args.queue.now)) c.loop-pass.workers.items _ c.loop-pass.invariant.fresh c.hire.ensures.fresh);
    }
