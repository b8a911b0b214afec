use Rattle.std.proofs.Common.{◌≡◌, arith}
use Rattle.std.proofs.lemmas.Result.{IfOk-weaker}
use Rattle.lt_seq.specs.declared.event.Deed.TheVariants.{Free}
use Rattle.lt_rows.specs.declared.pass.RowPass.{RowPass}
use Rattle.lt_rows.specs.declared.view.View.{View}
use Rattle.lt_rows.specs.Handles.{knows}
use Rattle.lt_locktree.specs.declared.asking.Asking.{Asking}
use Rattle.lt_locktree.specs.Calls.{Makes}
use Rattle.lt_locktree.specs.Deeds.{ReachesDeed}
use Rattle.lt_locktree.proofs.CallsServed.{made_call, left_call}
use Rattle.lt_locktree.proofs.locktree.Locktree.free.Goals as goal

pub returns-clause-made : goal.returns-clause-made
returns-clause-made c =
    let p : RowPass = c.args.pass.now.pass in
    let v : View = knows p in
    let w : View = knows c.replace_with.new.dest in
    let a : Asking = record { pass = c.number.result; txn = c.args.txn; tree = c.args.tree; range = c.args.range.now } in
    let n = p.numbered.0 in
    let number : a.pass ≡ p.number = omega (arith, c.number.ensures.0, n) in
    IfOk-weaker c.replace_with.result (λ r. ReachesDeed v w a (Free a.tree a.range c.args.first r.1) r.0)
    (λ r. Makes v w a.txn (Free a.tree a.range c.args.first r.1) r.0)
    (λ r made. made_call p c.args.pass.now.below w a (Free a.tree a.range c.args.first r.1) r.0 number made) c.replace_with.ensures.1.0

pub returns-clause-left : goal.returns-clause-left
returns-clause-left c =
    left_call c.args.pass.now.pass c.args.pass.now.below (knows c.replace_with.new.dest) c.replace_with.result c.replace_with.ensures.1.1.0
    c.replace_with.ensures.1.1.1
