use Rattle.std.proofs.Common.{rules, ◌≡◌, ◌<◌, ◌-◌, ◌∷◌, ◌∙◌, ℕ, length, sym, subst, arith}
use Rattle.lt_rows.specs.declared.row_plan.RowPlan.{RowPlan}
use Rattle.lt_forest.specs.Counts.{times}
use Rattle.lt_rows.specs.declared.view.View.{View}
use Rattle.lt_rows.specs.Handles.{knows}
use Rattle.lt_rows.specs.Views.{row_at, rows_of, words_of}
use Rattle.lt_tree.specs.Puttings.{Backs}
use Rattle.lt_tree.specs.States.{KeepsRows}
use Rattle.lt_locktree.specs.PlannedParts.{IsLoaded}
use Rattle.lt_locktree.proofs.HeldRows.{not_held, first_held, may_give_back, backs_met, backs_taken, keeps_taken}
use Rattle.lt_locktree.proofs.FirstVacant.{IsFirstOf, is_first}
use Rattle.lt_locktree.proofs.buffer_rows.take_first.Goals as goal
use Rattle.lt_locktree.proofs.buffer_rows.take_first.Goals.{After-left, In-Taken}

found : (c : After-left)
    → IsFirstOf (knows c.args.pass.now) (c.args.pool.now.row ∷ c.args._tree ∷ c.args._rows.now) c.args.pool.now c.left.result
found c =
    let v : View = knows c.args.pass.now in
    let same : c.args.table.now.plan ≡ v.plan = sym c.requires.of.1 in
    is_first v c.args._tree c.args._rows.now c.args.pool.now (subst (λ (p : RowPlan). c.args._tree < p.trees) same c.requires.tree)
    c.requires.licensed
    c.requires.teaches c.requires.shows (subst (λ (p : RowPlan). IsLoaded v p.trees c.args.pool.now) same c.requires.pool) c.requires.backs
    c.left.result c.left.ensures

pub overflow_sub-first : goal.overflow_sub-first
overflow_sub-first c = let f = found (goal.at.overflow_sub-first c).After-left in omega arith

pub overflow_cast-first : goal.overflow_cast-first
overflow_cast-first c =
    let f = found (goal.at.overflow_cast-first c).After-left in
    let few : rows_of (knows c.args.pass.now).plan < 4294967296 =
    subst (λ (p : RowPlan). rows_of p < 4294967296) (sym c.requires.of.1) c.args.table.now.sized.0.3 in
    omega arith

pub seize-requires-clause-row : goal.seize-requires-clause-row
seize-requires-clause-row c =
    let f = found (goal.at.seize-requires-clause-row c).After-left in (
      subst (λ (p : RowPlan). c.left.result - 1 < rows_of p) c.requires.of.1 f.inside,
      not_held (knows c.args.pass.now) (c.args.pool.now.row ∷ c.args._tree ∷ c.args._rows.now) c.requires.backs (c.left.result - 1) f.apart,
    )

all_held : (c : In-Taken) → times (c.left.result - 1) (c.args.pool.now.row ∷ c.args._tree ∷ c.args._rows.now) ≡ 0 →
    Backs (knows c.seize.new.pass) ((c.left.result - 1) ∷ c.args.pool.now.row ∷ c.args._tree ∷ c.args._rows.now)
all_held c apart =
    backs_taken (c.left.result - 1) (knows c.args.pass.now) (knows c.seize.new.pass) (c.args.pool.now.row ∷ c.args._tree ∷ c.args._rows.now)
    c.in-Taken.ensures.seized apart c.requires.backs

pub load_row-requires-clause-row : goal.load_row-requires-clause-row
load_row-requires-clause-row c =
    first_held (knows c.seize.new.pass) (c.left.result - 1) (c.args.pool.now.row ∷ c.args._tree ∷ c.args._rows.now)
    (all_held (goal.at.load_row-requires-clause-row c).In-Taken (found (goal.at.load_row-requires-clause-row c).After-left).apart)

pub put-requires-clause-settled : goal.put-requires-clause-settled
put-requires-clause-settled c =
    may_give_back (knows c.seize.new.pass) c.args.pool.now.row (c.args._tree ∷ c.args._rows.now)
    (backs_met (knows c.args.pass.now) (knows c.seize.new.pass) (c.args.pool.now.row ∷ c.args._tree ∷ c.args._rows.now)
    c.in-HeldBy.ensures.seized.0 c.requires.backs)

pub returns-in-Taken-clause-kept : goal.returns-in-Taken-clause-kept
returns-in-Taken-clause-kept c =
    let f = found (goal.at.returns-in-Taken-clause-kept c).After-left in
    subst (λ (w : View). KeepsRows (knows c.args.pass.now) w) (sym c.load_row.ensures.same)
    (keeps_taken (c.left.result - 1) (knows c.args.pass.now) (knows c.seize.new.pass)
    (c.args.pool.now.row ∷ c.args._tree ∷ c.args._rows.now)
    c.in-Taken.ensures.seized f.apart c.requires.backs)

pub returns-in-Taken-clause-first : goal.returns-in-Taken-clause-first
returns-in-Taken-clause-first c =
    let f = found (goal.at.returns-in-Taken-clause-first c).After-left in
    let row : c.load_row.result.row ≡ c.left.result - 1 = c.load_row.ensures.words.0 in
    let long : length c.load_row.result.words ≡ 21 = search rules in (
      record {
        row = λ j. c.load_row.result.row;
        words = c.load_row.ensures.words.1 ∙ (λ j. words_of (row_at (sym c.load_row.ensures.same j) (sym row j)));
        long = long;
      },
      (let link = f.link_is in let some = f.some in omega arith),
    )

pub returns-in-Taken-clause-held : goal.returns-in-Taken-clause-held
returns-in-Taken-clause-held c =
    subst (λ (x : View × ℕ). Backs x.0 (x.1 ∷ c.args.pool.now.row ∷ c.args._tree ∷ c.args._rows.now))
    (λ j. (sym c.load_row.ensures.same j, sym c.load_row.ensures.words.0 j))
    (all_held (goal.at.returns-in-Taken-clause-held c).In-Taken (found (goal.at.returns-in-Taken-clause-held c).After-left).apart)
