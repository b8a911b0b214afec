use Rattle.std.proofs.Common.{List, Result, Ok, Err, IfOk}
use Rattle.lt_rows.specs.declared.image.RowImage.{RowImage as Image}
use Rattle.lt_rows.specs.declared.view.View.{View}
use Rattle.lt_rows.specs.Handles.{knows}
use Rattle.lt_tree.specs.States.{OnlyRows}
use Rattle.lt_tree.proofs.ViewLaws.{rows_on}
use Rattle.lt_locktree.specs.Makes.{Makes}
use Rattle.lt_locktree.proofs.freeing.free_in_tree.Goals as goal

-- what is so of the value if there is one
ok_map : {T E : Type 0} (r : Result T E) (P Q : T → Type 0) → ((x : T) → P x → Q x) → IfOk r P → IfOk r Q
ok_map (Ok x) P Q f h = f x h
ok_map (Err e) P Q f h = tt

pub returns-in-Ok-2-clause-made : goal.returns-in-Ok-2-clause-made
returns-in-Ok-2-clause-made c =
    let v : View = knows c.args.locked.pass in
    let w : View = knows c.leave_widened.new.locked.pass in
    ok_map c.free_rows.result
    (λ r. (u : View) × (plan : List Image) × OnlyRows w u × Makes u (knows r.0) plan r.1.event r.1.place)
    (λ r. (u : View) × (plan : List Image) × OnlyRows v u × Makes u (knows r.0) plan r.1.event r.1.place)
    (λ r (u, plan, only, makes). (u, plan, rows_on v w u c.leave_widened.ensures.same.1 only, makes))
    c.free_rows.ensures.made
