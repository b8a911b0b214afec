use Rattle.std.proofs.Common.{ℕ, List, [], ◌∷◌, refl, sym, ap, ◌∙◌}
use Rattle.lt_rows.specs.declared.row_plan.RowPlan.{RowPlan}
use Rattle.lt_rows.specs.declared.view.View.{View}
use Rattle.lt_rows.specs.Handles.{knows}
use Rattle.lt_tree.specs.Pools.{pool_rows}
use Rattle.lt_tree.proofs.PuttingLaws.{puts_none, last_may_be_put, puts_one, puts_all, pool_anchor, pool_vacant}
use Rattle.lt_tree.proofs.put.put_pool.Goals as goal

pub put-requires-clause-settled : goal.put-requires-clause-settled
put-requires-clause-settled c =
    let v : View = knows c.args.pass.now in
    let rows : List ℕ = pool_rows v.plan.trees c.args.pool in
    let t = c.plan.result.now.trees in
    let same = ap (λ (k : RowPlan). k.trees) (c.plan.ensures ∙ sym c.requires.of.1) in
    last_may_be_put v v rows rows (puts_none v rows c.requires.keeps) [] t (pool_anchor v.plan.trees t c.args.pool same c.in-Anchor.is)

pub put-requires-in-Vacant-clause-settled : goal.put-requires-in-Vacant-clause-settled
put-requires-in-Vacant-clause-settled c =
    let v : View = knows c.args.pass.now in
    let rows : List ℕ = pool_rows v.plan.trees c.args.pool in
    let t = c.plan.result.now.trees in
    let row = c.in-Vacant.row in
    let same = ap (λ (k : RowPlan). k.trees) (c.plan.ensures ∙ sym c.requires.of.1) in
    last_may_be_put v v rows rows (puts_none v rows c.requires.keeps) (row ∷ []) t (pool_vacant v.plan.trees t row c.args.pool same c.in-Vacant.is)

pub put-requires-in-Vacant-2-clause-settled : goal.put-requires-in-Vacant-2-clause-settled
put-requires-in-Vacant-2-clause-settled c =
    let v : View = knows c.args.pass.now in
    let w : View = knows c.put-in-Vacant.new.pass in
    let rows : List ℕ = pool_rows v.plan.trees c.args.pool in
    let t = c.plan.result.now.trees in
    let row = c.in-Vacant.row in
    let same = ap (λ (k : RowPlan). k.trees) (c.plan.ensures ∙ sym c.requires.of.1) in
    let one = puts_one v v rows rows (puts_none v rows c.requires.keeps) (row ∷ []) t
    (pool_vacant v.plan.trees t row c.args.pool same c.in-Vacant.is) w c.put-in-Vacant.ensures.given in
    last_may_be_put v w rows (row ∷ []) one [] row refl

pub returns-in-Nothing-clause-put : goal.returns-in-Nothing-clause-put
returns-in-Nothing-clause-put c =
    let v : View = knows c.args.pass.now in
    let rows : List ℕ = pool_rows v.plan.trees c.args.pool in
    puts_all v v rows rows (puts_none v rows c.requires.keeps) (ap (pool_rows v.plan.trees) c.in-Nothing.is)

pub returns-in-Anchor-clause-put : goal.returns-in-Anchor-clause-put
returns-in-Anchor-clause-put c =
    let v : View = knows c.args.pass.now in
    let u : View = knows c.put.new.pass in
    let rows : List ℕ = pool_rows v.plan.trees c.args.pool in
    let t = c.plan.result.now.trees in
    let same = ap (λ (k : RowPlan). k.trees) (c.plan.ensures ∙ sym c.requires.of.1) in
    puts_all v u rows []
    (puts_one v v rows rows (puts_none v rows c.requires.keeps) [] t (pool_anchor v.plan.trees t c.args.pool same c.in-Anchor.is) u
    c.put.ensures.given) refl

pub returns-in-Vacant-clause-put : goal.returns-in-Vacant-clause-put
returns-in-Vacant-clause-put c =
    let v : View = knows c.args.pass.now in
    let w : View = knows c.put-in-Vacant.new.pass in
    let u : View = knows c.put-in-Vacant-2.new.pass in
    let rows : List ℕ = pool_rows v.plan.trees c.args.pool in
    let t = c.plan.result.now.trees in
    let row = c.in-Vacant.row in
    let same = ap (λ (k : RowPlan). k.trees) (c.plan.ensures ∙ sym c.requires.of.1) in
    let one = puts_one v v rows rows (puts_none v rows c.requires.keeps) (row ∷ []) t
    (pool_vacant v.plan.trees t row c.args.pool same c.in-Vacant.is) w c.put-in-Vacant.ensures.given in
    puts_all v u rows [] (puts_one v w rows (row ∷ []) one [] row refl u c.put-in-Vacant-2.ensures.given) refl
