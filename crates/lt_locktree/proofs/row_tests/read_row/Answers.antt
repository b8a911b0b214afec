use Rattle.std.proofs.Common.{◌≡◌, ℕ, ◌<◌, ◌≤◌, List, None, refl, ap, ◌∙◌, arith}
use Rattle.lt_rows.specs.declared.row_plan.RowPlan.{RowPlan}
use Rattle.lt_rows.specs.declared.take.Take.TheVariants.{Taken}
use Rattle.lt_rows.specs.declared.view.View.{View}
use Rattle.lt_rows.specs.Handles.{knows, Tries}
use Rattle.lt_rows.specs.Views.{rows_of, row_at, with_row}
use Rattle.lt_tree.specs.States.{HasWords, HoldsNone, Seizes}
use Rattle.lt_tree.proofs.ViewLaws.{seized_row, seized_has, seized_only, same_has, same_only, may_put, put_only}
use Rattle.lt_locktree.proofs.row_tests.read_row.Goals as goal

seizes : (v w : View) (row : ℕ) → Tries row v w Taken → Seizes row v w Taken
seizes v w row tries = (v, (refl, omega arith), tries)

has : (v w x : View) (row : ℕ) → Tries row v w Taken → x ≡ w → (words : List ℕ) × HasWords x row words
unfolding seizes
has v w x row tries same = (tries.0, same_has w x row tries.0 same (seized_has row v w (seizes v w row tries)))

given_back : (v w x y : View) (row : ℕ) → HoldsNone v → Tries row v w Taken → x ≡ w → y ≡ with_row x row None → HoldsNone y
given_back v w x y row none tries same given =
    let h = has v w x row tries same in
    let m = may_put x row h.0 h.1 in
    put_only x y row (same_only w x row same (seized_only row v w (seizes v w row tries) none)) m.0 m.1 given

pub take-requires-clause-row : goal.take-requires-clause-row
unfolding rows_of
take-requires-clause-row c =
    let limit = ap (λ (k : RowPlan). k.limit) c.plan.ensures in
    (omega arith, c.requires.none c.args.row)

pub load_row-image-requires-clause-row : goal.load_row-image-requires-clause-row
load_row-image-requires-clause-row c =
    let v : View = knows c.args.pass.now in
    let w : View = knows c.take.new.pass in
    let r = seized_row c.args.row v w (seizes v w c.args.row c.in-Taken.ensures.tried) in
    (r.0, r.1)

pub put-requires-clause-settled : goal.put-requires-clause-settled
put-requires-clause-settled c =
    let x : View = knows c.load_row-image.new.pass in
    let h = has (knows c.args.pass.now) (knows c.take.new.pass) x c.args.row c.in-Taken.ensures.tried c.load_row-image.ensures.same in
    may_put x c.args.row h.0 h.1

pub returns-in-Taken-clause-none : goal.returns-in-Taken-clause-none
returns-in-Taken-clause-none c =
    given_back (knows c.args.pass.now) (knows c.take.new.pass) (knows c.load_row-image.new.pass) (knows c.put.new.pass) c.args.row
    c.requires.none c.in-Taken.ensures.tried c.load_row-image.ensures.same c.put.ensures.given

pub returns-in-HeldBy-clause-none : goal.returns-in-HeldBy-clause-none
returns-in-HeldBy-clause-none c q = ap (λ (x : View). row_at x q) c.in-HeldBy.ensures.tried.0 ∙ c.requires.none q
