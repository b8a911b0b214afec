use Rattle.std.proofs.Common.{sym, ap, ◌∙◌}
use Rattle.lt_trace.specs.Generator.{next_state}
use Rattle.lt_trace.proofs.GeneratorLaws.{state_more, drawn_step}
use Rattle.lt_trace.proofs.generator.push_drawn.Goals as goal

pub loop-index-preserved : goal.loop-index-preserved
loop-index-preserved c =
    let state = c.next-state.ensures ∙ ap next_state c.loop-index.invariant.state ∙ sym (state_more c.args.seed c.loop-index.index) in
    record {
      state = state;
      lines = drawn_step c.args.out.now.items c.loop-index.out.items c.push.new.self.items c.args.seed c.args.txns c.loop-index.index c.next-state.result c.from.result c.deed_of.result
          c.loop-index.invariant.lines state c.from.ensures c.deed_of.ensures c.in_ok-push.ensures.items;
    }
