-- What a table is built with.
use Rattle.std.specs.Prelude.{List}
use Rattle.lt_ranges.specs.declared.key.Key.{Key}
use Rattle.lt_seq.specs.declared.plan.YardPlan.{YardPlan}
use Rattle.lt_seq.specs.Table.{Setting}
use Rattle.lt_rows.specs.declared.row_plan.RowPlan.{RowPlan}

-- its sizes
abbrev pub sizes_of : RowPlan → YardPlan
sizes_of k = record { trees = k.trees; limit = k.limit; buffer = k.buffer; passes = k.passes; first = k.first }

-- the setting of its range table
abbrev pub setting_of : RowPlan → Setting
setting_of k = record { plan = sizes_of k; marks = k.marks }

-- a plan of these sizes, with these marks
abbrev pub with_marks : YardPlan → List Key → RowPlan
with_marks sizes marks =
    record { trees = sizes.trees; limit = sizes.limit; buffer = sizes.buffer; passes = sizes.passes; first = sizes.first; marks = marks }
