use Rattle.std.proofs.Common.{◌-◌, ◌^◌, ◌<◌, ◌∙◌, List, sym, subst}
use Rattle.std.specs.Prelude.{All}
use Rattle.lt_forest.specs.declared.part.PartRow.{PartRow}
use Rattle.lt_locktree.proofs.PairsPlanned.{stood_small}
use Rattle.lt_locktree.proofs.buffer_plan.plan_pairs.Goals as goal

pub plan_tree-requires : goal.plan_tree-requires
plan_tree-requires c = record {
  small = subst (λ (rs : List PartRow). All (λ (r : PartRow). r.row < 2 ^ 32 - 1) rs) (sym (c.deref.ensures.value ∙ c.in_ok-stood.ensures))
      (stood_small c.args.rows.now c.args.pairs.now c.requires.small);
}
