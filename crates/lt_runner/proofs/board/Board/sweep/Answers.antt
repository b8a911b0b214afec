use Rattle.std.proofs.Common.{rules, sym, ◌∙◌}
use Rattle.lt_runner.specs.Serial.{swept}
use Rattle.lt_runner.specs.Board.{game_on, numbers_on}
use Rattle.lt_runner.proofs.SweepingLaws.{sweep_begins, sweep_next, sweep_room, sweep_more, sweep_ends, sweep_falls}
use Rattle.lt_runner.proofs.board.Board.sweep.Goals as goal

pub loop-txn-init : goal.loop-txn-init
loop-txn-init g c =
    let setting = g.Y.Yard.setting c.args.yard.now in
    let view = g.Y.Pass.Pass.view in
    record {
      acts = c.requires.acts;
      onward = sweep_begins setting (numbers_on c.args.self.now) (view c.args.pass.now).front c.args.self.now c.begin_sweep.new.self c.requires.board c.begin_sweep.ensures;
    }

pub retry-requires-clause-number : goal.retry-requires-clause-number
retry-requires-clause-number g c = λ κs within.
    let setting = g.Y.Yard.setting c.args.yard.now in
    let view = g.Y.Pass.Pass.view in
    (sweep_next setting (numbers_on c.args.self.now) (view c.loop-txn.pass).front c.loop-txn.self c.loop-txn.last c.in-Some.txn c.loop-txn.invariant.onward.stands (sym c.in-Some.ensures)).number

pub retry-requires-clause-waits : goal.retry-requires-clause-waits
retry-requires-clause-waits g c = λ κs within.
    let setting = g.Y.Yard.setting c.args.yard.now in
    let view = g.Y.Pass.Pass.view in
    (sweep_next setting (numbers_on c.args.self.now) (view c.loop-txn.pass).front c.loop-txn.self c.loop-txn.last c.in-Some.txn c.loop-txn.invariant.onward.stands (sym c.in-Some.ensures)).waits

pub retry-requires-clause-room : goal.retry-requires-clause-room
retry-requires-clause-room g c = λ κs within.
    let setting = g.Y.Yard.setting c.args.yard.now in
    let view = g.Y.Pass.Pass.view in
    let txns = numbers_on c.args.self.now in
    let whole = swept setting txns (game_on (view c.args.pass.now).front c.args.self.now) in
    sweep_room setting txns (view c.loop-txn.pass).front c.loop-txn.self c.loop-txn.last c.in-Some.txn whole c.loop-txn.invariant.onward (sym c.in-Some.ensures) c.requires.room

pub loop-txn-smaller : goal.loop-txn-smaller
loop-txn-smaller g c =
    let setting = g.Y.Yard.setting c.args.yard.now in
    let view = g.Y.Pass.Pass.view in
    sweep_falls setting (numbers_on c.args.self.now) (view c.loop-txn.pass).front c.loop-txn.self c.loop-txn.last c.in-Some.txn c.loop-txn.invariant.onward.stands (sym c.in-Some.ensures)

pub loop-txn-preserved : goal.loop-txn-preserved
loop-txn-preserved g c =
    let setting = g.Y.Yard.setting c.args.yard.now in
    let view = g.Y.Pass.Pass.view in
    let txns = numbers_on c.args.self.now in
    let whole = swept setting txns (game_on (view c.args.pass.now).front c.args.self.now) in
    record {
      acts = search rules;
      onward = sweep_more setting txns (view c.loop-txn.pass).front (view c.retry.new.pass).front c.loop-txn.self c.retry.new.self c.loop-txn.last c.in-Some.txn whole
          c.loop-txn.invariant.onward (sym c.in-Some.ensures) c.in_ok-retry.ensures.comes;
    }

pub returns-clause-comes : goal.returns-clause-comes
returns-clause-comes g c =
    let setting = g.Y.Yard.setting c.args.yard.now in
    let view = g.Y.Pass.Pass.view in
    let txns = numbers_on c.args.self.now in
    let whole = swept setting txns (game_on (view c.args.pass.now).front c.args.self.now) in
    sweep_ends setting txns (view c.loop-txn.pass).front c.loop-txn.self c.loop-txn.last whole c.loop-txn.invariant.onward (sym c.next_waiting.ensures ∙ c.in_default.is)
