use Rattle.std.proofs.Common.{rules, ◌≡◌, Err, sym, subst}
use Rattle.lt_seq.specs.declared.event.Deed.TheVariants.{Join}
use Rattle.lt_rows.specs.Plan.{setting_of}
use Rattle.lt_seq.specs.Yard.{Answers}
use Rattle.lt_seq.proofs.YardLaws.{answers_of}
use Rattle.lt_locktree.specs.Calls.{sees}
use Rattle.lt_manager.specs.Views.{view_of}
use Rattle.lt_manager.proofs.BehindLaws.{looked_then}
use Rattle.lt_manager.proofs.EventLaws.{fault_there}
use Rattle.lt_manager.proofs.manager_pass.ManagerPass.join_once.Goals as goal

pub returns-in_err-look_for_place-clause-answer : goal.returns-in_err-look_for_place-clause-answer
returns-in_err-look_for_place-clause-answer c =
    let fault = c.in_err-look_for_place.field-0.0 in
    let same : c.from_residual.result ≡ Err fault = search rules in
    let setting = setting_of (sees c.args.self.now.pass).plan in
    let old = view_of c.args.self.now in
    let new = view_of c.look_for_place.new.self in
    subst (Answers setting old new c.args.txn (Join c.args.tree 0 0)) (sym same)
    (answers_of setting old new c.args.txn (Join c.args.tree 0 0) (Err fault)
    (fault_there setting old new fault c.look_for_place.ensures.watches c.in_err-look_for_place.ensures.err))

pub returns-clause-answer : goal.returns-clause-answer
returns-clause-answer c =
    looked_then c.args.self.now c.look_for_place.new.self c.look_for_place.ensures.of.1.0 c.look_for_place.ensures.watches
    (view_of c.join_at.new.self) c.args.txn (Join c.args.tree 0 0) c.join_at.result c.join_at.ensures.answer
