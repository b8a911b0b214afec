use Rattle.std.proofs.Common.{ap, ◌∙◌, arith}
use Rattle.lt_rows.specs.declared.row_plan.RowPlan.{RowPlan}
use Rattle.lt_locktree.specs.declared.locktree.Locktree.{Locktree}
use Rattle.lt_c.proofs.opening.open.Goals as goal

pub returns : goal.returns
returns c = record {
  opened = record {
    table = c.deref.result.now;
    plan_is = ap (λ (t : Locktree). t.rows.plan) (c.deref.ensures ∙ c.in_ok-table-2.ensures.ok) ∙ c.in_ok-table.ensures.table;
    opened = c.kept.ensures.on;
    count =
        omega (
          arith,
          c.kept.ensures.count,
          c.in_ok-handles.ensures.count,
          c.in_ok-passes.ensures.count,
          ap (λ (k : RowPlan). k.passes) c.in_ok-table.ensures.table,
        );
  };
}
