use Rattle.std.proofs.Common.{◌≡◌, ◌<◌, ℕ, suc, ◌-◌, List, ◌∷◌, ◌++◌, length, take, drop, sym, ap, ap₂, ◌∙◌, subst, arith}
use Rattle.lt_ranges.specs.Interval.{Interval}
use Rattle.lt_rows.specs.declared.row_plan.RowPlan.{RowPlan}
use Rattle.lt_forest.specs.declared.part.PartRow.{PartRow}
use Rattle.lt_rows.specs.Nodes.{node_of}
use Rattle.lt_rows.specs.Views.{rows_of}
use Rattle.lt_rows.specs.Handles.{knows}
use Rattle.lt_tree.specs.Gathers.{IsLocked, IsClosed}
use Rattle.lt_tree.proofs.ViewLaws.{seized_row, keeps_met}
use Rattle.lt_tree.proofs.TakingLaws.{hang_row, took_hang, widened_at, small_links, fewer, longer, locked_met, long_hangs, row_number, hang_keeps, closed_at}
use Rattle.lt_tree.proofs.ClosedLaws.{closed_same}
use Rattle.lt_tree.proofs.widen.widen_at.Goals as goal

pub seize-requires-clause-row : goal.seize-requires-clause-row
seize-requires-clause-row c =
    let lt = subst (λ (p : RowPlan). c.args.tree < p.trees) (sym c.requires.of.1) c.requires.tree in
    let is = row_number c.args.part.now.hangs.items c.reserve-else-is_err.new.self.items c.args.at c.index.result.now
    c.reserve-else-is_err.ensures.items c.requires.hang.0 c.index.ensures c.requires.hang.1 in
    let h = hang_row (knows c.args.pass.now) c.args.tree c.args.asked.now c.args.here c.args.part.now.rows.items c.args.part.now.hangs.items
    c.requires.locked lt c.args.at (c.index.result.now - 1) c.requires.hang.0 is in
    (subst (λ (p : RowPlan). c.index.result.now - 1 < rows_of p) c.requires.of.1 h.0, h.1)

pub returns-in-HeldBy-clause-locked : goal.returns-in-HeldBy-clause-locked
returns-in-HeldBy-clause-locked c =
    subst (λ (xs : List PartRow). IsLocked (knows c.seize.new.pass) c.args.tree c.args.asked.now c.args.here xs c.reserve-else-is_err.new.self.items)
    (sym c.reserve.ensures.items)
    (subst (λ (xs : List ℕ). IsLocked (knows c.seize.new.pass) c.args.tree c.args.asked.now c.args.here c.args.part.now.rows.items xs)
    (sym c.reserve-else-is_err.ensures.items)
    (locked_met (knows c.args.pass.now) (knows c.seize.new.pass) c.args.tree c.args.asked.now c.args.here c.args.part.now.rows.items
    c.args.part.now.hangs.items c.in-HeldBy.ensures.seized.0 c.requires.locked))

pub load_row-image-requires-clause-row : goal.load_row-image-requires-clause-row
load_row-image-requires-clause-row c =
    let s = seized_row (c.index.result.now - 1) (knows c.args.pass.now) (knows c.seize.new.pass) c.in-Taken.ensures.seized in
    (s.0, s.1)

pub overflow_cast-left : goal.overflow_cast-left
overflow_cast-left c =
    let is = row_number c.args.part.now.hangs.items c.reserve-else-is_err.new.self.items c.args.at c.index.result.now
    c.reserve-else-is_err.ensures.items c.requires.hang.0 c.index.ensures c.requires.hang.1 in
    let l = c.load_row-image.ensures in
    let t = took_hang c.args.table.now.plan c.requires.tree c.requires.of.1 c.requires.locked c.requires.hang.0 is c.in-Taken.ensures.seized l.same l.words.1 l.teaches in
    let small = (small_links t).0 in
    let few = c.args.table.now.sized.0.3 in
    let rows : rows_of (knows c.args.pass.now).plan ≡ rows_of c.args.table.now.plan = ap rows_of c.requires.of.1 in
    let left = c.left-left.ensures in
    omega arith

pub overflow_cast-right : goal.overflow_cast-right
overflow_cast-right c =
    let is = row_number c.args.part.now.hangs.items c.reserve-else-is_err.new.self.items c.args.at c.index.result.now
    c.reserve-else-is_err.ensures.items c.requires.hang.0 c.index.ensures c.requires.hang.1 in
    let l = c.load_row-image.ensures in
    let t = took_hang c.args.table.now.plan c.requires.tree c.requires.of.1 c.requires.locked c.requires.hang.0 is c.in-Taken.ensures.seized l.same l.words.1 l.teaches in
    let small = (small_links t).1 in
    let few = c.args.table.now.sized.0.3 in
    let rows : rows_of (knows c.args.pass.now).plan ≡ rows_of c.args.table.now.plan = ap rows_of c.requires.of.1 in
    let right = c.right-right.ensures in
    omega arith

pub put_in-requires-clause-place : goal.put_in-requires-clause-place
put_in-requires-clause-place c =
    let a = ap (λ (xs : List PartRow). length xs) c.reserve.ensures.items in
    let b = ap (λ (xs : List ℕ). length xs) c.reserve-else-is_err.ensures.items in
    let h = long_hangs (knows c.args.pass.now) c.args.tree c.args.asked.now c.args.here c.args.part.now.rows.items c.args.part.now.hangs.items c.requires.locked in
    let i = c.requires.hang.0 in
    (omega arith, omega arith)

pub returns-clause-locked : goal.returns-clause-locked
returns-clause-locked c =
    let is = row_number c.args.part.now.hangs.items c.reserve-else-is_err.new.self.items c.args.at c.index.result.now
    c.reserve-else-is_err.ensures.items c.requires.hang.0 c.index.ensures c.requires.hang.1 in
    let l = c.load_row-image.ensures in
    let t = took_hang c.args.table.now.plan c.requires.tree c.requires.of.1 c.requires.locked c.requires.hang.0 is c.in-Taken.ensures.seized l.same l.words.1 l.teaches in
    let at = c.args.at in
    let rows : c.put_in.new.part.rows.items ≡ take at c.args.part.now.rows.items
    ++ record { row = c.index.result.now - 1; owner = (node_of c.load_row-image.result.words).owner; range = (node_of c.load_row-image.result.words).range }
    ∷ drop at c.args.part.now.rows.items =
    c.put_in.ensures.rows
    ∙ (ap (λ (xs : List PartRow). take at xs ++ record { row = c.index.result.now - 1; owner = c.owner-owner.result; range = c.range-range.result } ∷ drop at xs) c.reserve.ensures.items
    ∙ ap₂ (λ (o : ℕ) (r : Interval). take at c.args.part.now.rows.items ++ record { row = c.index.result.now - 1; owner = o; range = r } ∷ drop at c.args.part.now.rows.items)
    c.owner-owner.ensures c.range-range.ensures) in
    let hangs : c.put_in.new.part.hangs.items ≡ take at c.args.part.now.hangs.items
    ++ (node_of c.load_row-image.result.words).left ∷ (node_of c.load_row-image.result.words).right ∷ drop (suc at) c.args.part.now.hangs.items =
    c.put_in.ensures.hangs
    ∙ (ap (λ (xs : List ℕ). take at xs ++ c.left-left.result ∷ c.right-right.result ∷ drop (suc at) xs) c.reserve-else-is_err.ensures.items
    ∙ ap₂ (λ (x : ℕ) (y : ℕ). take at c.args.part.now.hangs.items ++ x ∷ y ∷ drop (suc at) c.args.part.now.hangs.items) c.left-left.ensures c.right-right.ensures) in
    subst (λ (xs : List PartRow). IsLocked (knows c.load_row-image.new.pass) c.args.tree c.args.asked.now c.args.here xs c.put_in.new.part.hangs.items) (sym rows)
    (subst (λ (xs : List ℕ). IsLocked (knows c.load_row-image.new.pass) c.args.tree c.args.asked.now c.args.here
    (take at c.args.part.now.rows.items
    ++ record { row = c.index.result.now - 1; owner = (node_of c.load_row-image.result.words).owner; range = (node_of c.load_row-image.result.words).range }
    ∷ drop at c.args.part.now.rows.items) xs) (sym hangs) (widened_at t))

pub returns-clause-wider : goal.returns-clause-wider
returns-clause-wider c =
    let is = row_number c.args.part.now.hangs.items c.reserve-else-is_err.new.self.items c.args.at c.index.result.now
    c.reserve-else-is_err.ensures.items c.requires.hang.0 c.index.ensures c.requires.hang.1 in
    let l = c.load_row-image.ensures in
    let t = took_hang c.args.table.now.plan c.requires.tree c.requires.of.1 c.requires.locked c.requires.hang.0 is c.in-Taken.ensures.seized l.same l.words.1 l.teaches in
    let at = c.args.at in
    let hangs : c.put_in.new.part.hangs.items ≡ take at c.args.part.now.hangs.items
    ++ (node_of c.load_row-image.result.words).left ∷ (node_of c.load_row-image.result.words).right ∷ drop (suc at) c.args.part.now.hangs.items =
    c.put_in.ensures.hangs
    ∙ (ap (λ (xs : List ℕ). take at xs ++ c.left-left.result ∷ c.right-right.result ∷ drop (suc at) xs) c.reserve-else-is_err.ensures.items
    ∙ ap₂ (λ (x : ℕ) (y : ℕ). take at c.args.part.now.hangs.items ++ x ∷ y ∷ drop (suc at) c.args.part.now.hangs.items) c.left-left.ensures c.right-right.ensures) in
    (fewer t, ap (λ (xs : List ℕ). length xs) hangs ∙ longer t)

pub returns-in-HeldBy-clause-kept : goal.returns-in-HeldBy-clause-kept
returns-in-HeldBy-clause-kept c = keeps_met (knows c.args.pass.now) (knows c.seize.new.pass) c.in-HeldBy.ensures.seized.0

pub returns-clause-kept : goal.returns-clause-kept
returns-clause-kept c =
    let is = row_number c.args.part.now.hangs.items c.reserve-else-is_err.new.self.items c.args.at c.index.result.now
    c.reserve-else-is_err.ensures.items c.requires.hang.0 c.index.ensures c.requires.hang.1 in
    let l = c.load_row-image.ensures in
    hang_keeps (took_hang c.args.table.now.plan c.requires.tree c.requires.of.1 c.requires.locked c.requires.hang.0 is
    c.in-Taken.ensures.seized l.same l.words.1 l.teaches)

pub returns-clause-closed : goal.returns-clause-closed
returns-clause-closed c closed =
    let is = row_number c.args.part.now.hangs.items c.reserve-else-is_err.new.self.items c.args.at c.index.result.now
    c.reserve-else-is_err.ensures.items c.requires.hang.0 c.index.ensures c.requires.hang.1 in
    let l = c.load_row-image.ensures in
    let t = took_hang c.args.table.now.plan c.requires.tree c.requires.of.1 c.requires.locked c.requires.hang.0 is c.in-Taken.ensures.seized l.same l.words.1 l.teaches in
    let at = c.args.at in
    let rows : c.put_in.new.part.rows.items ≡ take at c.args.part.now.rows.items
    ++ record { row = c.index.result.now - 1; owner = (node_of c.load_row-image.result.words).owner; range = (node_of c.load_row-image.result.words).range }
    ∷ drop at c.args.part.now.rows.items =
    c.put_in.ensures.rows
    ∙ (ap (λ (xs : List PartRow). take at xs ++ record { row = c.index.result.now - 1; owner = c.owner-owner.result; range = c.range-range.result } ∷ drop at xs) c.reserve.ensures.items
    ∙ ap₂ (λ (o : ℕ) (r : Interval). take at c.args.part.now.rows.items ++ record { row = c.index.result.now - 1; owner = o; range = r } ∷ drop at c.args.part.now.rows.items)
    c.owner-owner.ensures c.range-range.ensures) in
    let hangs : c.put_in.new.part.hangs.items ≡ take at c.args.part.now.hangs.items
    ++ (node_of c.load_row-image.result.words).left ∷ (node_of c.load_row-image.result.words).right ∷ drop (suc at) c.args.part.now.hangs.items =
    c.put_in.ensures.hangs
    ∙ (ap (λ (xs : List ℕ). take at xs ++ c.left-left.result ∷ c.right-right.result ∷ drop (suc at) xs) c.reserve-else-is_err.ensures.items
    ∙ ap₂ (λ (x : ℕ) (y : ℕ). take at c.args.part.now.hangs.items ++ x ∷ y ∷ drop (suc at) c.args.part.now.hangs.items) c.left-left.ensures c.right-right.ensures) in
    subst (λ (xs : List PartRow). IsClosed c.args.asked.now xs c.put_in.new.part.hangs.items) (sym rows)
    (subst (λ (xs : List ℕ). IsClosed c.args.asked.now
    (take at c.args.part.now.rows.items
    ++ record { row = c.index.result.now - 1; owner = (node_of c.load_row-image.result.words).owner; range = (node_of c.load_row-image.result.words).range }
    ∷ drop at c.args.part.now.rows.items) xs) (sym hangs) (closed_at t closed))

pub returns-in-HeldBy-clause-closed : goal.returns-in-HeldBy-clause-closed
returns-in-HeldBy-clause-closed c closed =
    closed_same c.args.asked.now c.args.part.now.rows.items c.reserve.new.self.items c.args.part.now.hangs.items
    c.reserve-else-is_err.new.self.items c.reserve.ensures.items c.reserve-else-is_err.ensures.items closed
