use Rattle.std.proofs.Common.{◌≡◌, ◌<◌, ◌∙◌, ap, rules, arith}
use Rattle.lt_seq.specs.declared.event.Deed.TheVariants.{Ask}
use Rattle.lt_seq.specs.declared.event.Look.{Look}
use Rattle.lt_seq.specs.declared.event.Reply.TheVariants.{Granted}
use Rattle.lt_rows.specs.declared.row_plan.RowPlan.{RowPlan}
use Rattle.lt_seq.specs.Table.{used}
use Rattle.lt_seq.specs.History.{after}
use Rattle.lt_rows.specs.Plan.{setting_of}
use Rattle.lt_locktree.specs.Calls.{sees}
use Rattle.lt_manager.specs.Views.{view_of}
use Rattle.lt_manager.proofs.AskLaws.{is_licensed, first_fails, asks_at_once, asks_joining}
use Rattle.lt_manager.proofs.manager_pass.ManagerPass.ask_once.Goals as goal

pub returns-in_err-look-clause-answer : goal.returns-in_err-look-clause-answer
returns-in_err-look-clause-answer c =
    let plan : RowPlan = (sees c.args.self.now.pass).plan in
    let deed = Ask c.args.tree c.args.range.now Granted in
    let some : 0 < plan.trees = omega (arith, c.requires.tree, ap (λ (k : RowPlan). k.trees) c.requires.of.1) in
    first_fails c.args.self.now c.look_for_place.new.self c.args.bar c.args.txn deed c.look_for_place.ensures.watches
    c.in_err-look.field-0.0 c.from_residual.result (search rules) some c.in_err-look.ensures.err

pub ask_at-requires-clause-fresh : goal.ask_at-requires-clause-fresh
ask_at-requires-clause-fresh c =
    let plan : RowPlan = (sees c.args.self.now.pass).plan in
    let front = (sees c.look_for_place.new.self.pass).front in
    let limit : plan.limit ≡ c.args.table.now.rows.plan.limit = ap (λ (k : RowPlan). k.limit) c.requires.of.1 in
    let below : used (after (setting_of plan) front) < plan.limit =
    omega (arith, c.if-look-bar.true, c.requires.bar, ap (λ (l : Look). l.used) c.in_ok-look.ensures.seen, limit) in
    (c.in_ok-look.ensures.fresh, c.look_for_place.ensures.licensed ∙ is_licensed plan front c.in_ok-look.ensures.room below)

pub returns-then-look-bar-clause-answer : goal.returns-then-look-bar-clause-answer
returns-then-look-bar-clause-answer c =
    let plan : RowPlan = (sees c.args.self.now.pass).plan in
    let deed = Ask c.args.tree c.args.range.now Granted in
    let below : used (after (setting_of plan) (sees c.look_for_place.new.self.pass).front) < c.args.bar =
    omega (arith, c.if-look-bar.true, ap (λ (l : Look). l.used) c.in_ok-look.ensures.seen) in
    asks_at_once c.args.self.now c.look_for_place.new.self c.args.bar c.args.txn deed
    c.look_for_place.ensures.watches (view_of c.ask_at.new.self) c.ask_at.result c.look_for_place.ensures.of.1.0 below c.ask_at.ensures.answer

pub returns-else-look-bar-clause-answer : goal.returns-else-look-bar-clause-answer
returns-else-look-bar-clause-answer c =
    let deed = Ask c.args.tree c.args.range.now Granted in
    asks_joining c.args.self.now c.look_for_place.new.self c.args.bar c.args.txn deed c.look_for_place.ensures.watches
    (view_of c.join_and_ask.new.self) c.join_and_ask.result c.look_for_place.ensures.of.1.0 c.join_and_ask.ensures.answer
