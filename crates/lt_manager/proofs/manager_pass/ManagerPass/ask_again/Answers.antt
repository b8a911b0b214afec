use Rattle.std.proofs.Common.{◌≡◌, ◌<◌, ◌∙◌, ap, rules, arith, IfOk}
use Rattle.lt_seq.specs.declared.event.Deed.TheVariants.{Ask}
use Rattle.lt_seq.specs.declared.event.Look.{Look}
use Rattle.lt_seq.specs.declared.event.Reply.TheVariants.{Granted}
use Rattle.lt_rows.specs.declared.row_plan.RowPlan.{RowPlan}
use Rattle.lt_seq.specs.Table.{used}
use Rattle.lt_seq.specs.History.{after}
use Rattle.lt_rows.specs.Plan.{setting_of}
use Rattle.lt_locktree.specs.Calls.{sees}
use Rattle.lt_manager.specs.Views.{view_of}
use Rattle.lt_manager.proofs.AskLaws.{is_licensed, first_fails, asks_at_once, asks_joining}
use Rattle.lt_manager.proofs.JoinedLaws.{stays_then}
use Rattle.lt_manager.proofs.AgainLaws.{asks_on_with, asks_on_behind}
use Rattle.lt_manager.proofs.manager_pass.ManagerPass.ask_again.Goals as goal

pub returns-in_err-look-clause-answer : goal.returns-in_err-look-clause-answer
returns-in_err-look-clause-answer c =
    let was = c.loop.invariant in
    let deed = Ask c.args.tree c.args.range.now Granted in
    let now = c.look_for_place.new.self in
    let plan : RowPlan = (sees c.loop.self.pass).plan in
    let some : 0 < plan.trees = omega (arith, c.requires.tree, ap (λ (k : RowPlan). k.trees) was.of.0.1) in
    asks_on_with c.args.self.now c.loop.self now was.of.1.0 c.args.bar c.args.txn deed c.from_residual.result was.on
    (first_fails c.loop.self now c.args.bar c.args.txn deed c.look_for_place.ensures.watches
    c.in_err-look.field-0.0 c.from_residual.result (search rules) some c.in_err-look.ensures.err)

pub returns-then-look-bar-clause-answer : goal.returns-then-look-bar-clause-answer
returns-then-look-bar-clause-answer c =
    let was = c.loop.invariant in
    let deed = Ask c.args.tree c.args.range.now Granted in
    asks_on_with c.args.self.now c.loop.self c.join_and_ask.new.self was.of.1.0 c.args.bar c.args.txn deed c.join_and_ask.result was.on
    (asks_joining c.loop.self c.look_for_place.new.self c.args.bar c.args.txn deed c.look_for_place.ensures.watches
    (view_of c.join_and_ask.new.self) c.join_and_ask.result c.look_for_place.ensures.of.1.0 c.join_and_ask.ensures.answer)

pub ask_at-answer-requires-clause-fresh : goal.ask_at-answer-requires-clause-fresh
ask_at-answer-requires-clause-fresh c =
    let plan : RowPlan = (sees c.loop.self.pass).plan in
    let front = (sees c.look_for_place.new.self.pass).front in
    let limit : plan.limit ≡ c.args.table.now.rows.plan.limit = ap (λ (k : RowPlan). k.limit) c.loop.invariant.of.0.1 in
    let below : used (after (setting_of plan) front) < plan.limit =
    omega (arith, c.if-look-bar.false, c.requires.bar, ap (λ (l : Look). l.used) c.in_ok-look.ensures.seen, limit) in
    (c.in_ok-look.ensures.fresh, c.look_for_place.ensures.licensed ∙ is_licensed plan front c.in_ok-look.ensures.room below)

pub returns-then-not-is_busy-clause-answer : goal.returns-then-not-is_busy-clause-answer
returns-then-not-is_busy-clause-answer c =
    let was = c.loop.invariant in
    let deed = Ask c.args.tree c.args.range.now Granted in
    let now = c.ask_at-answer.new.self in
    let below : used (after (setting_of (sees c.loop.self.pass).plan) (sees c.look_for_place.new.self.pass).front) < c.args.bar =
    omega (arith, c.if-look-bar.false, ap (λ (l : Look). l.used) c.in_ok-look.ensures.seen) in
    asks_on_with c.args.self.now c.loop.self now was.of.1.0 c.args.bar c.args.txn deed c.ask_at-answer.result was.on
    (asks_at_once c.loop.self c.look_for_place.new.self c.args.bar c.args.txn deed c.look_for_place.ensures.watches
    (view_of now) c.ask_at-answer.result c.look_for_place.ensures.of.1.0 below c.ask_at-answer.ensures.answer)

pub loop-preserved : goal.loop-preserved
loop-preserved c =
    let was = c.loop.invariant in
    let deed = Ask c.args.tree c.args.range.now Granted in
    let looked = c.look_for_place.new.self in
    let now = c.ask_at-answer.new.self in
    let refused : IfOk c.ask_at-answer.result (λ _. ⊥) = search rules in
    record {
      of =
          stays_then c.args.table.now c.args.self.now.pass c.loop.self.pass now.pass was.of
          (stays_then c.args.table.now c.loop.self.pass looked.pass now.pass c.look_for_place.ensures.of c.ask_at-answer.ensures.of);
      on =
          asks_on_behind c.args.self.now c.loop.self now was.of.1.0 looked c.look_for_place.ensures.of.1.0
          c.look_for_place.ensures.watches c.args.txn deed c.ask_at-answer.result refused was.on c.ask_at-answer.ensures.answer;
    }
